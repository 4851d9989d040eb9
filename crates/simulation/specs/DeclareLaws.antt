-- Laws of declarators and of parameters in memory: objects that begin and get their first values.
use Rattle.std.proofs.Common.{◌≡◌, ℕ, List, [], ◌∷◌, length, Bool, true, false, ◌||◌, Option, Some, None, refl, sym, ap, ◌∙◌, subst, slice_get, if◌then◌else◌}
use Rattle.std.specs.Str.{bytes_eq}
use Rattle.std.proofs.lemmas.Slice.Eq.{bytes_eq-Decides}
use Rattle.c_tree.specs.declared.types.CType.{CType}
use Rattle.c_tree.specs.Tree.{Tree, Trees, Object, Statements}
use Rattle.c_memory.specs.declared.blocks.Block.{Block}
use Rattle.c_memory.specs.declared.value.Value.{Value}
use Rattle.c_memory.specs.MeaningObjects.{encoded, array_bytes, unset_bytes}
use Rattle.c_memory.specs.MeaningState.{InBlock, Binding, State, Does, then_do, ◌>>=◌, ◌>>◌, pure, defined, found, object_of}
use Rattle.c_tree.specs.Types.{is_array}
use Rattle.c_memory.specs.Meaning.{Calls, Later, expression, its_value, first_value, first_bytes, fill, initialised, declare_one, begin_parameter}
use Rattle.address_taken.specs.Addressed.{takes_optional, takes_statements}
use Rattle.simulation.specs.Alike.{Relation, Options, Covers, Objects, Alike, After, Ends, Sim}
use Rattle.simulation.specs.Carried.{MayBeSet, Fixed, InMemory, Carried, Shared, Marks, Unmarked, Number, Scope, Begun, inner, mark_of}
use Rattle.simulation.specs.Steps.{weaker_ends, bind_sim, bind_same, pure_sim}
use Rattle.simulation.specs.ScopeLaws.{object_sim}
use Rattle.simulation.specs.ObjectLaws.{first_block, begin_apart_sim, begin_block_sim, begin_block_then, first_values, set_front_sim, with_block, AreFirst, fill_ends}
use Rattle.simulation.specs.FunctionLaws.{carried_front}

-- an object is a block of its own: an array, or one whose address is taken
abbrev pub in_block : Object → Later → Bool
in_block o later = is_array o.ty || (takes_optional o.name o.init || later o.name)

-- the same bytes for blocks of which the second has this type, as many as it has
pub record AreFirstOf (t : CType) (bytes others : List ℕ) : Type 0 where
  pub same : bytes ≡ others
  pub first : AreFirst bytes
  pub size : length bytes ≡ length (unset_bytes t)

-- ---- the innermost object is a block

pub record Front (s t : CType) (k : ℕ) (b c : Binding) : Type 0 where
  pub ty : b.ty ≡ s
  pub other_ty : c.ty ≡ t
  pub location : b.location ≡ InBlock k
  pub other_location : c.location ≡ InBlock k

-- what is found by its name
pub record FoundFront (x : List ℕ) (s t : CType) (k : ℕ) (bs cs : List Binding) : Type 0 where
  pub b : Binding
  pub c : Binding
  pub found_first : found x bs ≡ Some b
  pub found_second : found x cs ≡ Some c
  pub front : Front s t k b c

pub found_front : (R : Relation) (x : List ℕ) (s t : CType) (k : ℕ) (scope : List Carried) (ks : Marks) (bs cs : List Binding)
    → Scope R (Shared InMemory x s t ∷ scope) (inner (Number k) ks) bs cs → FoundFront x s t k bs cs
found_front R x s t k scope ks (b ∷ bs) (c ∷ cs) h =
    let mine : bytes_eq x x ≡ true = (bytes_eq-Decides x x).1 refl in
    let first : bytes_eq x b.name ≡ true = ap (bytes_eq x) h.0.name ∙ mine in
    let second : bytes_eq x c.name ≡ true = ap (bytes_eq x) h.0.other_name ∙ mine in
    record {
      b = b;
      c = c;
      found_first = ap (λ z. if z then Some b else found x bs) first;
      found_second = ap (λ z. if z then Some c else found x cs) second;
      front = record { ty = h.0.ty; other_ty = h.0.other_ty; location = h.1.0; other_location = h.1.1 };
    }
found_front R x s t k scope ks [] cs h = absurd h
found_front R x s t k scope ks (b ∷ bs) [] h = absurd h

value_in_block : (b : Binding) (t : CType) (k : ℕ) (v : Value) → b.ty ≡ t → b.location ≡ InBlock k → first_value b v ≡ (defined (encoded t v) >>= fill k)
value_in_block b t k v e f = rw (e, f) refl

-- the first value of an object by its name
abbrev pub gets : List ℕ → Value → Does (Unit {0})
gets x v = object_of x >>= (λ b. first_value b v)

pub gets_in_block : (x : List ℕ) (t : CType) (k : ℕ) (v : Value) (b : Binding) (s : State) → found x s.objects ≡ Some b → b.ty ≡ t → b.location ≡ InBlock k
    → gets x v s ≡ then_do (defined (encoded t v) s) (fill k)
gets_in_block x t k v b s e f g = ap (λ o. then_do (defined o s) (λ b. first_value b v)) e ∙ ap (λ (p : Does (Unit {0})). p s) (value_in_block b t k v f g)

abbrev list_gets : Object → Trees → Does (Unit {0})
list_gets o all = object_of o.name >>= (λ b. defined (array_bytes o.ty all) >>= (λ bytes. first_bytes b.location bytes))

list_in_block : (o : Object) (all : Trees) (k : ℕ) (b : Binding) (s : State) → found o.name s.objects ≡ Some b → b.location ≡ InBlock k
    → list_gets o all s ≡ then_do (defined (array_bytes o.ty all) s) (fill k)
list_in_block o all k b s e f =
    ap (λ z. then_do (defined z s) (λ b. defined (array_bytes o.ty all) >>= (λ bytes. first_bytes b.location bytes))) e ∙ ap
    (λ l. then_do (defined (array_bytes o.ty all) s) (λ bytes. first_bytes l bytes)) f

-- ---- the three kinds of first values

pub initialised_none : (o : Object) (i : Option Tree) (l : Option Trees) (c : Calls) → i ≡ None → l ≡ None → initialised o i l c ≡ pure tt
initialised_none o i l c e f = rw (e, f) refl

pub initialised_some : (o : Object) (i : Option Tree) (l : Option Trees) (a : Tree) (c : Calls) → i ≡ Some a
    → initialised o i l c ≡ (its_value (expression a c) >>= (λ v. gets o.name v))
initialised_some o i l a c e = rw e refl

initialised_list : (o : Object) (i : Option Tree) (l : Option Trees) (all : Trees) (c : Calls) → i ≡ None → l ≡ Some all → initialised o i l c ≡ list_gets o all
initialised_list o i l all c e f = rw (e, f) refl

-- what follows where an object begins, in another form
followed_by : {n : ℕ} (E F : Objects) (a b p p' q q' : Does (Unit {0})) → p' ≡ p → q' ≡ q → Sim n ◌≡◌ E F (a >> p) (b >> q) → Sim n ◌≡◌ E F (a >> p') (b >> q')
followed_by {n = n} E F a b p p' q q' e f h = subst (λ z. Sim n ◌≡◌ E F (a >> z) (b >> q')) (sym e) (subst (λ z. Sim n ◌≡◌ E F (a >> p) (b >> z)) (sym f) h)

module _ (n : ℕ) (R : Relation) where
  -- what is asked of an object of both whose first value is this
  abbrev pub FirstBytes : CType → CType → Type 0
  FirstBytes s t = (u v : Value) → R s u v → Options (AreFirstOf t) (encoded s u) (encoded t v)

  filled_ends : (E : Objects) (t : CType) (k : ℕ) (o r : Option (List ℕ)) (u y : State) (c : Block) → Alike n E u y → slice_get y.memory k ≡ Some c
      → length c.bytes ≡ length (unset_bytes t) → Options (AreFirstOf t) o r
      → Ends ◌≡◌ (After n E y) (then_do (defined o u) (fill k)) (then_do (defined r y) (fill k))
  filled_ends E t k None r u y c a e long h = tt
  filled_ends E t k (Some bytes) None u y c a e long h = absurd h
  filled_ends E t k (Some bytes) (Some others) u y c a e long h =
      subst (λ z. Ends ◌≡◌ (After n E y) (fill k bytes u) (fill k z y)) h.same (fill_ends n E k bytes u y c h.first a e (h.size ∙ sym long))

  module _ (scope : List Carried) (ks : Marks) (o o' : Object) (same : o'.name ≡ o.name) where
    abbrev apart : Objects
    apart = Scope R (Shared MayBeSet o.name o.ty o'.ty ∷ scope) (inner Unmarked ks)

    abbrev block : ℕ → Objects
    block k = Scope R (Shared InMemory o.name o.ty o'.ty ∷ scope) (inner (Number k) ks)

    abbrev begun : Objects
    begun = Begun R (Shared InMemory o.name o.ty o'.ty) scope ks

    in_begun : (k : ℕ) (bs cs : List Binding) → block k bs cs → begun bs cs
    in_begun k bs cs h = (Number k, h)

    -- an object apart from memory gets its first value, and is set from then on
    pub first_apart_sim : (v w : Value) → R o.ty v w
        → Sim n ◌≡◌ apart (Scope R (Shared Fixed o.name o.ty o'.ty ∷ scope) (inner Unmarked ks)) (gets o.name v) (gets o'.name w)
    first_apart_sim v w h =
        rw same (bind_sim (object_sim R (Shared MayBeSet o.name o.ty o'.ty ∷ scope) (inner Unmarked ks) MayBeSet o.name o.ty o'.ty
        (carried_front o.name MayBeSet o.ty o'.ty scope)) (λ b c k.
        let both = first_values R MayBeSet o.name o.ty o'.ty (mark_of o.name (Shared MayBeSet o.name o.ty o'.ty ∷ scope) (inner Unmarked ks)) v w b c tt k in
        rw (both.first, both.second) (set_front_sim R MayBeSet o.name o.ty o'.ty scope (inner Unmarked ks) v w h)))

    -- a block of both does
    pub first_block_ends : (k : ℕ) (v w : Value) (u y : State) (c : Block) → FirstBytes o.ty o'.ty → R o.ty v w → Alike n (block k) u y
        → slice_get y.memory k ≡ Some c → length c.bytes ≡ length (unset_bytes o'.ty)
        → Ends ◌≡◌ (After n (block k) y) (gets o.name v u) (gets o'.name w y)
    first_block_ends k v w u y c bytes h a e long =
        let f = found_front R o.name o.ty o'.ty k scope ks u.objects y.objects a.objects in
        let first : gets o.name v u ≡ then_do (defined (encoded o.ty v) u) (fill k) = gets_in_block o.name o.ty k v f.b u f.found_first f.front.ty
        f.front.location in
        let second : gets o'.name w y ≡ then_do (defined (encoded o'.ty w) y) (fill k) = ap
        (λ x. gets x w y) same ∙ gets_in_block o.name o'.ty k w f.c y f.found_second f.front.other_ty f.front.other_location in
        rw (first, second) (filled_ends (block k) o'.ty k (encoded o.ty v) (encoded o'.ty w) u y c a e long (bytes v w h))

    -- a list of constants
    list_ends : (k : ℕ) (all all' : Trees) (u y : State) (c : Block) → Options (AreFirstOf o'.ty) (array_bytes o.ty all) (array_bytes o'.ty all')
        → Alike n (block k) u y → slice_get y.memory k ≡ Some c → length c.bytes ≡ length (unset_bytes o'.ty)
        → Ends ◌≡◌ (After n (block k) y) (list_gets o all u) (list_gets o' all' y)
    list_ends k all all' u y c bytes a e long =
        let f = found_front R o.name o.ty o'.ty k scope ks u.objects y.objects a.objects in
        let first : list_gets o all u ≡ then_do (defined (array_bytes o.ty all) u) (fill k) = list_in_block o all k f.b u f.found_first f.front.location in
        let second : list_gets o' all' y ≡ then_do (defined (array_bytes o'.ty all') y) (fill k) = list_in_block o' all' k f.c y
        (ap (λ x. found x y.objects) same ∙ f.found_second) f.front.other_location in
        rw (first, second) (filled_ends (block k) o'.ty k (array_bytes o.ty all) (array_bytes o'.ty all') u y c a e long bytes)

    -- ---- declarators

    module _ (later later' : Later) (c d : Calls) where
      pub unset_apart_sim : in_block o later ≡ false → in_block o' later' ≡ false → o.init ≡ None → o.list ≡ None → o'.init ≡ None → o'.list ≡ None
          → Sim n ◌≡◌ (Scope R scope ks) apart (declare_one o later c) (declare_one o' later' d)
      unset_apart_sim e f g h i j =
          followed_by (Scope R scope ks) apart _ _ _ _ _ _ (initialised_none o o.init o.list c g h) (initialised_none o' o'.init o'.list d i j)
          (bind_same (begin_apart_sim R scope ks o o' (in_block o later) (in_block o' later') same e f) (λ u. pure_sim tt tt refl))

      pub set_apart_first_sim : (a b : Tree) → in_block o later ≡ false → in_block o' later' ≡ false → o.init ≡ Some a → o'.init ≡ Some b
          → Sim n (R o.ty) apart apart (its_value (expression a c)) (its_value (expression b d))
          → Sim n ◌≡◌ (Scope R scope ks) (Scope R (Shared Fixed o.name o.ty o'.ty ∷ scope) (inner Unmarked ks)) (declare_one o later c)
          (declare_one o' later' d)
      set_apart_first_sim a b e f g h k =
          followed_by (Scope R scope ks) (Scope R (Shared Fixed o.name o.ty o'.ty ∷ scope) (inner Unmarked ks)) _ _ _ _ _ _
          (initialised_some o o.init o.list a c g) (initialised_some o' o'.init o'.list b d h)
          (bind_same (begin_apart_sim R scope ks o o' (in_block o later) (in_block o' later') same e f) (λ u. bind_sim k (λ v w i. first_apart_sim v w i)))

      pub unset_block_sim : in_block o later ≡ true → in_block o' later' ≡ true → Covers false (first_block o) (first_block o') → o.init ≡ None
          → o.list ≡ None → o'.init ≡ None → o'.list ≡ None
          → Sim n ◌≡◌ (Scope R scope ks) begun (declare_one o later c) (declare_one o' later' d)
      unset_block_sim e f covers g h i j =
          followed_by (Scope R scope ks) begun _ _ _ _ _ _ (initialised_none o o.init o.list c g h) (initialised_none o' o'.init o'.list d i j)
          (bind_same (begin_block_sim R scope ks o o' (in_block o later) (in_block o' later') same e f covers) (λ u. pure_sim tt tt refl))

      pub set_block_first_sim : (a b : Tree) → in_block o later ≡ true → in_block o' later' ≡ true → Covers false (first_block o) (first_block o')
          → o.init ≡ Some a → o'.init ≡ Some b → FirstBytes o.ty o'.ty
          → ((k : ℕ) → Sim n (R o.ty) (block k) (block k) (its_value (expression a c)) (its_value (expression b d))) → Sim n ◌≡◌ (Scope R scope ks) begun
          (declare_one o later c) (declare_one o' later' d)
      set_block_first_sim a b e f covers g h bytes values =
          followed_by (Scope R scope ks) begun _ _ _ _ _ _ (initialised_some o o.init o.list a c g) (initialised_some o' o'.init o'.list b d h)
          (begin_block_then R scope ks ◌≡◌ begun o o' (in_block o later) (in_block o' later')
          (its_value (expression a c) >>= (λ v. gets o.name v)) (its_value (expression b d) >>= (λ w. gets o'.name w)) same e f covers (λ k s t al last.
          weaker_ends n ◌≡◌ (block k) begun t _ _ (in_begun k)
          (with_block n (R o.ty) ◌≡◌ (block k) (block k) t k (first_block o') _ _ (λ v. gets o.name v) (λ w. gets o'.name w) last refl ((values k).by s t al)
          (λ v w u y z r i get stayed.
          first_block_ends k v w u y z bytes r i get stayed.size))))

      pub list_block_sim : (all all' : Trees) → in_block o later ≡ true → in_block o' later' ≡ true → Covers false (first_block o) (first_block o')
          → o.init ≡ None → o.list ≡ Some all → o'.init ≡ None → o'.list ≡ Some all'
          → Options (AreFirstOf o'.ty) (array_bytes o.ty all) (array_bytes o'.ty all') → Sim n ◌≡◌ (Scope R scope ks) begun (declare_one o later c)
          (declare_one o' later' d)
      list_block_sim all all' e f covers g h i j bytes =
          followed_by (Scope R scope ks) begun _ _ _ _ _ _ (initialised_list o o.init o.list all c g h) (initialised_list o' o'.init o'.list all' d i j)
          (begin_block_then R scope ks ◌≡◌ begun o o' (in_block o later) (in_block o' later') (list_gets o all) (list_gets o' all') same e f covers
          (λ k s t al last.
          weaker_ends n ◌≡◌ (block k) begun t _ _ (in_begun k) (list_ends k all all' s t (first_block o') bytes al last refl)))

    -- a parameter that is a block in both
    pub block_parameter_sim : (body body' : Statements) (v w : Value) → takes_statements o.name body ≡ true → takes_statements o'.name body' ≡ true
        → Covers false (first_block o) (first_block o') → FirstBytes o.ty o'.ty → R o.ty v w
        → Sim n ◌≡◌ (Scope R scope ks) begun (begin_parameter body o v) (begin_parameter body' o' w)
    block_parameter_sim body body' v w e f covers bytes h =
        begin_block_then R scope ks ◌≡◌ begun o o' (takes_statements o.name body) (takes_statements o'.name body') (gets o.name v)
        (gets o'.name w) same e f covers (λ k s t al last.
        weaker_ends n ◌≡◌ (block k) begun t _ _ (in_begun k) (first_block_ends k v w s t (first_block o') bytes h al last refl))
