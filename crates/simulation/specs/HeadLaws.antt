-- Laws of a function whose parameters in memory are written as others apart from memory: objects at the head of the written body stand for them. So a block that the
-- source fills with its argument, as a vector's, may be filled by a store. The blocks begin in the same order in both units.
use Rattle.std.proofs.Common.{◌≡◌, ℕ, suc, ◌+◌, ◌≤◌, ◌%◌, ◌==◌, List, [], ◌∷◌, length, Bool, true, false, not, Some, None, refl, sym, ap, ◌∙◌, subst, arith, zero-add, if◌then◌else◌}
use Rattle.std.specs.Str.{bytes_eq}
use Rattle.std.proofs.lemmas.Slice.Eq.{bytes_eq-Decides}
use Rattle.c_text.specs.declared.tokens.Place.{Place}
use Rattle.c_tree.specs.declared.types.CType.{CType}
use Rattle.c_tree.specs.Types.{is_array}
use Rattle.c_tree.specs.Tree.{Tree, Node, Name, Call, NoTrees, More, Object, Statements, Declare, Run, Then, Definition}
use Rattle.address_taken.specs.Addressed.{takes_statements}
use Rattle.c_memory.specs.declared.memory.Pointer.TheVariants.{At}
use Rattle.c_memory.specs.declared.value.Value.{Value}
use Rattle.c_memory.specs.Functions.{types_of}
use Rattle.c_memory.specs.Memory.{after_write}
use Rattle.c_memory.specs.MeaningObjects.{encoded, unset_bytes, is_const}
use Rattle.c_memory.specs.MeaningState.{Apart, InBlock, Binding, State, Out, Done, Turns, Undefined, Does, then_do, ◌>>=◌, ◌>>◌, pure, defined, to_memory, found}
use Rattle.c_memory.specs.Meaning.{Calls, expression, values, object_value, fill, begin_object, begin_parameter, begin_parameters, initialised, Later, declare_one, Flow, Next, Broke, Continued, Returned, on_next, act, sequence, result, call_of}
use Rattle.simulation.specs.Alike.{Relation, Arguments, Flows, Given, Covers, Objects, Alike, After, Ends, Sim, Back, CallsAlike}
use Rattle.simulation.specs.Carried.{Way, Fixed, InMemory, Carried, Shared, Added, Halved, Mark, Marks, Unmarked, Values, Number, AddedAt, Scope, Begun, inner, outer, is_named, carried, mark_of}
use Rattle.simulation.specs.BlockLaws.{stays_same}
use Rattle.simulation.specs.Steps.{then_assoc, bind_sim, bind_same, pure_sim, first_as, second_as, weaker_ends}
use Rattle.simulation.specs.ScopeLaws.{IsNone, not_named}
use Rattle.simulation.specs.ObjectLaws.{Ahead, ahead_sim, some_sim, first_block, begin_block_then, AreFirst}
use Rattle.simulation.specs.FunctionLaws.{parameter_sim, result_sim, back_ends}
use Rattle.simulation.specs.DeclareLaws.{FirstBytes, in_block, gets, gets_in_block, found_front, initialised_none, initialised_some, first_block_ends}
use Rattle.simulation.specs.HeldLaws.{of_objects, reads_at}
use Rattle.simulation.specs.StoreLaws.{MayFill, fill_store_ends}
use Rattle.simulation.specs.OrderLaws.{AreSteady}
use Rattle.simulation.specs.BeginLaws.{is_among, AreDistinct, ArePaired, neither, one_if, how_many, begin_apart, begin_blocks, apart_begins, in_order, called_in_order}

-- ---- parameters of the written function

-- For a parameter apart from memory one of its name, and for one in memory one of another; all of them are apart from memory.
abbrev pub AreEntered : Statements → Statements → List Object → List Object → Type 0
AreEntered body body' [] [] = Unit {0}
AreEntered body body' (o ∷ os) (m ∷ ms) =
    (takes_statements m.name body' ≡ false) × (takes_statements o.name body ≡ false → m.name ≡ o.name) × AreEntered body body' os ms
AreEntered body body' _ _ = ⊥

abbrev pub entered_object : Bool → Object → Object → Carried
entered_object true o m = Added m.name m.ty
entered_object false o m = Shared Fixed o.name o.ty m.ty

abbrev pub entered_mark : Bool → Value → Value → Mark
entered_mark true v w = Values v w
entered_mark false v w = Unmarked

-- what is in scope with them, and its marks
abbrev pub entered : Statements → List Object → List Object → List Carried → List Carried
entered body (o ∷ os) (m ∷ ms) scope = entered body os ms (entered_object (takes_statements o.name body) o m ∷ scope)
entered body os ms scope = scope

abbrev pub entered_marks : Statements → List Object → List Value → List Value → Marks → Marks
entered_marks body (o ∷ os) (v ∷ vs) (w ∷ ws) ks = entered_marks body os vs ws (inner (entered_mark (takes_statements o.name body) v w) ks)
entered_marks body os vs ws ks = ks

module _ (n : ℕ) (R : Relation) (body body' : Statements) where
  added_begins : (scope : List Carried) (ks : Marks) (m : Object) (v w : Value) (s t : State) → takes_statements m.name body' ≡ false → Alike n (Scope R scope ks) s t
      → Ahead n (Scope R (Added m.name m.ty ∷ scope) (inner (Values v w) ks)) (begin_parameter body' m w) s t
  added_begins scope ks m v w s t e h = record {
    value = tt;
    state = record t { objects = record { name = m.name; ty = m.ty; location = Apart (Some w) } ∷ t.objects };
    done = apart_begins body' m w t e;
    after = record {
      alike = record { objects = (record { name = refl; ty = refl }, refl, h.objects); memory = h.memory; left = h.left };
      stays = stays_same t.memory;
    };
  }

  pub entered_parameters_sim : (scope : List Carried) (ks : Marks) (os ms : List Object) (vs ws : List Value) → AreEntered body body' os ms → Arguments R (types_of os) vs ws
      → Sim n ◌≡◌ (Scope R scope ks) (Scope R (entered body os ms scope) (entered_marks body os vs ws ks)) (begin_apart body os vs) (begin_parameters body' ms ws)
  entered_parameters_sim scope ks [] [] [] [] a h = pure_sim tt tt refl
  entered_parameters_sim scope ks (o ∷ os) (m ∷ ms) (v ∷ vs) (w ∷ ws) a h =
      at (λ k mark. entered_parameters_sim (k ∷ scope) (inner mark ks) os ms vs ws a.2 h.1) (takes_statements o.name body) refl
    where
      After : Carried → Mark → Objects
      After k mark = Scope R (entered body os ms (k ∷ scope)) (entered_marks body os vs ws (inner mark ks))

      at : ((k : Carried) (mark : Mark) → Sim n ◌≡◌ (Scope R (k ∷ scope) (inner mark ks)) (Scope R (entered body os ms (k ∷ scope)) (entered_marks body os vs ws (inner mark ks))) (begin_apart body os vs)
          (begin_parameters body' ms ws)) → (b : Bool) → takes_statements o.name body ≡ b
          → Sim n ◌≡◌ (Scope R scope ks) (Scope R (entered body os ms (entered_object b o m ∷ scope)) (entered_marks body os vs ws (inner (entered_mark b v w) ks)))
          ((if b then pure tt else begin_parameter body o v) >> begin_apart body os vs) (begin_parameter body' m w >> begin_parameters body' ms ws)
      at later true e =
          ahead_sim (begin_apart body os vs) (begin_parameter body' m w) (λ _. begin_parameters body' ms ws) (λ s t al. added_begins scope ks m v w s t a.0 al)
          (λ u. later (Added m.name m.ty) (Values v w))
      at later false e = bind_same (parameter_sim n R body body' scope ks o m v w (a.1 e) e a.0 h.0) (λ u. later (Shared Fixed o.name o.ty m.ty) Unmarked)
  entered_parameters_sim scope ks [] (m ∷ ms) vs ws a h = absurd a
  entered_parameters_sim scope ks (o ∷ os) [] vs ws a h = absurd a
  entered_parameters_sim scope ks [] [] (v ∷ vs) ws a h = absurd h
  entered_parameters_sim scope ks [] [] [] (w ∷ ws) a h = absurd h
  entered_parameters_sim scope ks (o ∷ os) (m ∷ ms) [] ws a h = absurd h
  entered_parameters_sim scope ks (o ∷ os) (m ∷ ms) (v ∷ vs) [] a h = absurd h

-- ---- the value of an added object

-- the object of the name is an added one that has this value
abbrev pub IsKnown : List ℕ → CType → Value → Value → List Carried → Marks → Type 0
IsKnown x t v w scope ks = (carried x scope ≡ Some (Added x t)) × (mark_of x scope ks ≡ Values v w)

-- what is found by its name
record FoundAdded (x : List ℕ) (t : CType) (w : Value) (cs : List Binding) : Type 0 where
  c : Binding
  is_found : found x cs ≡ Some c
  ty : c.ty ≡ t
  location : c.location ≡ Apart (Some w)

module _ (R : Relation) (x : List ℕ) (t : CType) (v w : Value) where
  added_found : (scope : List Carried) (ks : Marks) (bs cs : List Binding) → IsKnown x t v w scope ks → Scope R scope ks bs cs → FoundAdded x t w cs
  added_found [] ks bs cs k h = let e = k.0 in absurd (cc)
  added_found (Shared way y s u ∷ rest) ks (b ∷ bs) (c ∷ cs) k h =
      at (bytes_eq x y) (ap (bytes_eq x) h.0.other_name) k (λ l. added_found rest (outer ks) bs cs l h.2)
    where
      at : (p : Bool) → bytes_eq x c.name ≡ p
          → ((if p then Some (Shared way y s u) else carried x rest) ≡ Some (Added x t)) × ((if p then ks 0 else mark_of x rest (outer ks)) ≡ Values v w)
          → (IsKnown x t v w rest (outer ks) → FoundAdded x t w cs) → FoundAdded x t w (c ∷ cs)
      at true e k next = let z = k.0 in absurd (cc)
      at false e k next = let f = next k in record { c = f.c; is_found = ap (λ z. if z then Some c else found x cs) e ∙ f.is_found; ty = f.ty; location = f.location }
  added_found (Added y u ∷ rest) ks bs (c ∷ cs) k h =
      at (bytes_eq x y) (ap (bytes_eq x) h.0.name) k h.0.ty h.1 (λ l. added_found rest (outer ks) bs cs l h.2)
    where
      placed : (m : Mark) → m ≡ Values v w → AddedAt m c.location → c.location ≡ Apart (Some w)
      placed m e h = subst (λ z. AddedAt z c.location) e h

      at : (p : Bool) → bytes_eq x c.name ≡ p → ((if p then Some (Added y u) else carried x rest) ≡ Some (Added x t)) × ((if p then ks 0 else mark_of x rest (outer ks)) ≡ Values v w)
          → c.ty ≡ u → AddedAt (ks 0) c.location → (IsKnown x t v w rest (outer ks) → FoundAdded x t w cs) → FoundAdded x t w (c ∷ cs)
      at true e k ty value next =
          let same : u ≡ t = let z = k.0 in cc in
          record { c = c; is_found = ap (λ z. if z then Some c else found x cs) e; ty = ty ∙ same; location = placed (ks 0) k.1 value }
      at false e k ty value next = let f = next k in record { c = f.c; is_found = ap (λ z. if z then Some c else found x cs) e ∙ f.is_found; ty = f.ty; location = f.location }
  added_found (Halved y s low high u r ∷ rest) ks (b ∷ bs) (c ∷ d ∷ cs) k h =
      at (is_named x (Halved y s low high u r)) (not_named R x y low high b c d h.0.whole.name h.0.high_half.name h.0.low_half.name) k (λ l. added_found rest (outer ks) bs cs l h.1)
    where
      at : (p : Bool) → (p ≡ false → IsNone (bytes_eq x b.name) (bytes_eq x c.name) (bytes_eq x d.name))
          → ((if p then Some (Halved y s low high u r) else carried x rest) ≡ Some (Added x t)) × ((if p then ks 0 else mark_of x rest (outer ks)) ≡ Values v w)
          → (IsKnown x t v w rest (outer ks) → FoundAdded x t w cs) → FoundAdded x t w (c ∷ d ∷ cs)
      at true e k next = let z = k.0 in absurd (cc)
      at false e k next =
          let f = next k in
          let i = e refl in
          record { c = f.c; is_found = ap (λ z. if z then Some c else if bytes_eq x d.name then Some d else found x cs) i.second ∙ ap (λ z. if z then Some d else found x cs) i.third ∙ f.is_found; ty = f.ty; location = f.location }
  added_found (Shared way y s u ∷ rest) ks [] cs k h = absurd h
  added_found (Shared way y s u ∷ rest) ks (b ∷ bs) [] k h = absurd h
  added_found (Added y u ∷ rest) ks bs [] k h = absurd h
  added_found (Halved y s low high u r ∷ rest) ks [] cs k h = absurd h
  added_found (Halved y s low high u r ∷ rest) ks (b ∷ bs) [] k h = absurd h
  added_found (Halved y s low high u r ∷ rest) ks (b ∷ bs) (c ∷ []) k h = absurd h

  -- it is read
  added_read : (n : ℕ) (scope : List Carried) (ks : Marks) (s u : State) (p : Place) (ty : CType) (d : Calls) → is_array t ≡ false → IsKnown x t v w scope ks
      → Alike n (Scope R scope ks) s u → expression (Node p ty (Name x)) d u ≡ Done (Some w) u
  added_read n scope ks s u p ty d plain k a =
      let f = added_found scope ks s.objects u.objects k a.objects in
      reads_at x t w f.c u.objects u f.is_found f.ty plain f.location

-- an object in front of another name changes nothing of it
known_further : (x : List ℕ) (t : CType) (v w : Value) (way : Way) (y : List ℕ) (a b : CType) (mark : Mark) (scope : List Carried) (ks : Marks) → bytes_eq x y ≡ false → IsKnown x t v w scope ks
    → IsKnown x t v w (Shared way y a b ∷ scope) (inner mark ks)
known_further x t v w way y a b mark scope ks e k =
    (ap (λ z. if z then Some (Shared way y a b) else carried x scope) e ∙ k.0, ap (λ z. if z then mark else mark_of x scope ks) e ∙ k.1)

-- ---- one object at the head of the written body

-- a step that goes on to the next, for one that gives nothing
abbrev GoesOn : Unit {0} → Flow → Type 0
GoesOn u f = f ≡ Next

-- What a store does with a value of the written unit where a block of the object's bytes is: it writes the bytes of the value of the source that the
-- value stands for, all of the block. `align` is the alignment that the store's access has.
pub record Fills (R : Relation) (d : Calls) (store : List ℕ) (align : ℕ) (s : CType) (l : Object) (v w : Value) : Type 0 where
  pub bytes : List ℕ
  pub are : encoded s v ≡ Some bytes
  pub first : AreFirst bytes
  pub size : length (unset_bytes l.ty) ≡ length bytes
  pub stores : (k : ℕ) (t : State) → d store (Value.At (At k 0) ∷ w ∷ []) t ≡ then_do (to_memory (λ m. after_write m (At k 0) align bytes) t) (λ u. pure None)

head_is : (l : Object) (b : Bool) (i : Does (Unit {0})) (a : Does Flow) (t : State) → i ≡ pure tt
    → then_do (then_do (then_do ((begin_object l b >> i) t) (λ _. pure (tt {0}))) (λ _. pure Next)) (λ f. on_next f a) ≡ (begin_object l b >> a) t
head_is l b i a t e = ap (λ z. then_do (then_do (then_do ((begin_object l b >> z) t) (λ _. pure (tt {0}))) (λ _. pure Next)) (λ f. on_next f a)) e ∙ at b
  where
    at : (b : Bool) → then_do (then_do (then_do ((begin_object l b >> pure (tt {0})) t) (λ _. pure (tt {0}))) (λ _. pure Next)) (λ f. on_next f a) ≡ (begin_object l b >> a) t
    at true = refl
    at false = refl

-- an array's name gives the pointer to its first element
array_at : (t : CType) (c : Binding) (k : ℕ) → is_array t ≡ true → c.location ≡ InBlock k → object_value t c ≡ pure (Value.At (At k 0))
array_at (CType.Array e z y) c k h i = rw i refl
array_at CType.Void c k h i = absurd (cc)
array_at (CType.Int s) c k h i = absurd (cc)
array_at CType.M128 c k h i = absurd (cc)
array_at CType.M256 c k h i = absurd (cc)
array_at (CType.Neon a b) c k h i = absurd (cc)
array_at CType.Pair c k h i = absurd (cc)
array_at (CType.Pointer e y) c k h i = absurd (cc)

array_read : (x : List ℕ) (t : CType) (c : Binding) (k : ℕ) (s : State) → found x s.objects ≡ Some c → c.ty ≡ t → is_array t ≡ true → c.location ≡ InBlock k
    → of_objects x s.objects s ≡ Done (Some (Value.At (At k 0))) s
array_read x t c k s e f g h =
    ap (λ o. then_do (then_do (defined o s) (λ b. object_value b.ty b)) (λ v. pure (Some v))) e ∙ ap (λ (p : Does Value). then_do (p s) (λ v. pure (Some v))) (array_at c.ty c k (ap is_array f ∙ g) h)

-- a call of two operands that give values
two_values : (d : Calls) (f : List ℕ) (a b : Tree) (s : State) (v w : Value) → expression a d s ≡ Done (Some v) s → expression b d s ≡ Done (Some w) s
    → (values (More a (More b NoTrees)) d >>= d f) s ≡ d f (v ∷ w ∷ []) s
two_values d f a b s v w h k = rw (h, k) refl

-- the call of a store, with an array and a parameter
abbrev pub stored : (p q r : Place) (ty tz tu : CType) → List ℕ → Object → Object → Tree
stored p q r ty tz tu store l m = Node p ty (Call store (More (Node q tz (Name l.name)) (More (Node r tu (Name m.name)) NoTrees)))

module _ (n : ℕ) (R : Relation) (body : Statements) (d : Calls) (scope : List Carried) (ks : Marks) (o l m : Object) (v w : Value) where
  abbrev place : ℕ → Objects
  place k = Scope R (Shared InMemory o.name o.ty l.ty ∷ scope) (inner (Number k) ks)

  abbrev begun : Objects
  begun = Begun R (Shared InMemory o.name o.ty l.ty) scope ks

  in_begun : (k : ℕ) (bs cs : List Binding) → place k bs cs → begun bs cs
  in_begun k bs cs h = (Number k, h)

  wrapped : {A : Type 0} (S : State → State → Type 0) (x : A) (p r : Out (Unit {0})) → Ends ◌≡◌ S p r → Ends GoesOn S p (then_do (then_do r (λ _. pure x)) (λ _. pure Next))
  wrapped S x Undefined r h = tt
  wrapped S x Turns Turns h = tt
  wrapped S x Turns (Done b t) h = absurd h
  wrapped S x Turns Undefined h = absurd h
  wrapped S x (Done a s) (Done b t) h = (refl, h.1)
  wrapped S x (Done a s) Turns h = absurd h
  wrapped S x (Done a s) Undefined h = absurd h

  module _ (same : l.name ≡ o.name) (takes : takes_statements o.name body ≡ true) (covers : Covers false (first_block o) (first_block l)) (other : bytes_eq m.name o.name ≡ false)
      (plain : is_array m.ty ≡ false) (known : IsKnown m.name m.ty v w scope ks) where
    -- the value of the parameter is read once the object has begun
    value_read : (k : ℕ) (s t : State) (p : Place) (ty : CType) → Alike n (place k) s t → expression (Node p ty (Name m.name)) d t ≡ Done (Some w) t
    value_read k s t p ty a =
        added_read R m.name m.ty v w n (Shared InMemory o.name o.ty l.ty ∷ scope) (inner (Number k) ks) s t p ty d plain
        (known_further m.name m.ty v w InMemory o.name o.ty l.ty (Number k) scope ks other known) a

    -- it begins with that value
    pub set_head_sim : (later : Later) (p : Place) (ty : CType) → in_block l later ≡ true → l.init ≡ Some (Node p ty (Name m.name)) → FirstBytes n R o.ty l.ty → R o.ty v w
        → Sim n GoesOn (Scope R scope ks) begun (begin_parameter body o v) (act (Declare (l ∷ [])) later d)
    set_head_sim later p ty inside init bytes h =
        let core : Sim n ◌≡◌ (Scope R scope ks) begun (begin_parameter body o v) (declare_one l later d) =
        begin_block_then R scope ks ◌≡◌ begun o l (takes_statements o.name body) (in_block l later) (gets o.name v) (initialised l l.init l.list d) same takes inside covers (λ k s t al last.
        let is : initialised l l.init l.list d t ≡ gets l.name w t =
        ap (λ (q : Does (Unit {0})). q t) (initialised_some l l.init l.list (Node p ty (Name m.name)) d init)
        ∙ ap (λ z. then_do (then_do z defined) (λ x. gets l.name x)) (value_read k s t p ty al) in
        weaker_ends n ◌≡◌ (place k) begun t _ _ (in_begun k)
        (subst (λ z. Ends ◌≡◌ (After n (place k) t) (gets o.name v s) z) (sym is) (first_block_ends n R scope ks o l same k v w s t (first_block l) bytes h al last refl))) in
        record { by = λ s t e. wrapped (After n begun t) tt (begin_parameter body o v s) (declare_one l later d t) (core.by s t e) }

    -- it isn't set, and a store writes the value to it
    store_head_sim : (later behind : Later) (p q r : Place) (ty tz tu : CType) (store : List ℕ) (align : ℕ) → in_block l later ≡ true → l.init ≡ None → l.list ≡ None → is_const l ≡ false
        → is_array l.ty ≡ true → align ≤ (first_block l).align → (0 % align == 0) ≡ true → Fills R d store align o.ty l v w
        → Sim n GoesOn (Scope R scope ks) begun (begin_parameter body o v)
        (act (Declare (l ∷ [])) later d >>= (λ f. on_next f (act (Run (stored p q r ty tz tu store l m)) behind d)))
    store_head_sim later behind p q r ty tz tu store align inside init list constant array aligned divides fills =
        let run = act (Run (stored p q r ty tz tu store l m)) behind d in
        second_as (λ t. sym (head_is l (in_block l later) (initialised l l.init l.list d) run t (initialised_none l l.init l.list d init list)))
        (begin_block_then R scope ks GoesOn begun o l (takes_statements o.name body) (in_block l later) (gets o.name v) run same takes inside covers (λ k s t al last.
        let f = found_front R o.name o.ty l.ty k scope ks s.objects t.objects al.objects in
        let first : gets o.name v s ≡ fill k fills.bytes s =
        gets_in_block o.name o.ty k v f.b s f.found_first f.front.ty f.front.location ∙ ap (λ z. then_do (defined z s) (fill k)) fills.are in
        let address : expression (Node q tz (Name l.name)) d t ≡ Done (Some (Value.At (At k 0))) t =
        array_read l.name l.ty f.c k t (ap (λ x. found x t.objects) same ∙ f.found_second) f.front.other_ty array f.front.other_location in
        let second : run t ≡ then_do (then_do (to_memory (λ z. after_write z (At k 0) align fills.bytes) t) (λ u. pure None)) (λ x. pure Next) =
        ap (λ z. then_do z (λ x. pure Next)) (two_values d store (Node q tz (Name l.name)) (Node r tu (Name m.name)) t (Value.At (At k 0)) w address (value_read k s t r tu al) ∙ fills.stores k t) in
        let may : MayFill (first_block l) align fills.bytes = record { alive = refl; writable = ap not constant; size = fills.size; aligned = aligned; divides = divides } in
        weaker_ends n GoesOn (place k) begun t _ _ (in_begun k)
        (subst (λ z. Ends GoesOn (After n (place k) t) z (run t)) (sym first) (subst (λ z. Ends GoesOn (After n (place k) t) (fill k fills.bytes s) z) (sym second)
        (wrapped (After n (place k) t) None (fill k fills.bytes s) (to_memory (λ z. after_write z (At k 0) align fills.bytes) t)
        (fill_store_ends n (place k) k align fills.bytes s t (first_block l) al last may fills.first))))))

-- ---- all of them

-- a local object of the written body stands for a parameter in memory, whose value is in another parameter
pub record IsLocal (body : Statements) (o m l : Object) (later : Later) : Type 0 where
  pub same : l.name ≡ o.name
  pub takes : takes_statements o.name body ≡ true
  pub inside : in_block l later ≡ true
  pub covers : Covers false (first_block o) (first_block l)
  pub other : bytes_eq m.name o.name ≡ false
  pub plain : is_array m.ty ≡ false

-- it begins with that value
pub record IsSet (n : ℕ) (R : Relation) (o m l : Object) (p : Place) (ty : CType) : Type 0 where
  pub init : l.init ≡ Some (Node p ty (Name m.name))
  pub bytes : FirstBytes n R o.ty l.ty

-- it is an array that isn't set, which a store fills
pub record IsStored (R : Relation) (d : Calls) (o l : Object) (store : List ℕ) (align : ℕ) : Type 0 where
  pub init : l.init ≡ None
  pub list : l.list ≡ None
  pub constant : is_const l ≡ false
  pub array : is_array l.ty ≡ true
  pub aligned : align ≤ (first_block l).align
  pub divides : (0 % align == 0) ≡ true
  pub fills : (v w : Value) → R o.ty v w → Fills R d store align o.ty l v w

-- The statements begin with what the parameters in memory are written as, in their order; behind that is the rest. `ls` are their local objects; a parameter apart
-- from memory stands for itself among them.
pub data Headed (n : ℕ) (R : Relation) (body : Statements) (d : Calls) : List Object → List Object → List Object → Statements → Statements → Type 0 where
  NoHeads : (rest : Statements) → Headed n R body d [] [] [] rest rest
  ApartHead : (o m : Object) (os ms ls : List Object) (s rest : Statements) → takes_statements o.name body ≡ false → Headed n R body d os ms ls s rest
      → Headed n R body d (o ∷ os) (m ∷ ms) (m ∷ ls) s rest
  SetHead : (o m l : Object) (os ms ls : List Object) (s rest : Statements) (p : Place) (ty : CType) → IsLocal body o m l (λ x. takes_statements x s) → IsSet n R o m l p ty
      → Headed n R body d os ms ls s rest
      → Headed n R body d (o ∷ os) (m ∷ ms) (l ∷ ls) (Then (Declare (l ∷ [])) s) rest
  StoreHead : (o m l : Object) (os ms ls : List Object) (s rest : Statements) (p q r : Place) (ty tz tu : CType) (store : List ℕ) (align : ℕ)
      → IsLocal body o m l (λ x. takes_statements x (Then (Run (stored p q r ty tz tu store l m)) s)) → IsStored R d o l store align → Headed n R body d os ms ls s rest
      → Headed n R body d (o ∷ os) (m ∷ ms) (l ∷ ls) (Then (Declare (l ∷ [])) (Then (Run (stored p q r ty tz tu store l m)) s)) rest

-- what is in scope behind them
abbrev pub with_locals : Statements → List Object → List Object → List Carried → List Carried
with_locals body (o ∷ os) (l ∷ ls) scope = with_locals body os ls (if takes_statements o.name body then Shared InMemory o.name o.ty l.ty ∷ scope else scope)
with_locals body os ls scope = scope

-- the other parameters have the values
abbrev pub AreKnown : Statements → List Object → List Object → List Value → List Value → List Carried → Marks → Type 0
AreKnown body (o ∷ os) (m ∷ ms) (v ∷ vs) (w ∷ ws) scope ks = (takes_statements o.name body ≡ true → IsKnown m.name m.ty v w scope ks) × AreKnown body os ms vs ws scope ks
AreKnown body _ _ _ _ scope ks = Unit {0}

-- their names aren't that of an object
abbrev pub Unlike : Statements → List ℕ → List Object → List Object → Type 0
Unlike body x (o ∷ os) (m ∷ ms) = (takes_statements o.name body ≡ true → bytes_eq m.name x ≡ false) × Unlike body x os ms
Unlike body x _ _ = Unit {0}

-- nor those of the objects that begin before them
abbrev pub NamesDiffer : Statements → List Object → List Object → Type 0
NamesDiffer body (o ∷ os) (m ∷ ms) = Unlike body o.name os ms × NamesDiffer body os ms
NamesDiffer body _ _ = Unit {0}

all_further : (body : Statements) (os ms : List Object) (vs ws : List Value) (scope : List Carried) (ks : Marks) (way : Way) (y : List ℕ) (a b : CType) (mark : Mark) → Unlike body y os ms
    → AreKnown body os ms vs ws scope ks → AreKnown body os ms vs ws (Shared way y a b ∷ scope) (inner mark ks)
all_further body (o ∷ os) (m ∷ ms) (v ∷ vs) (w ∷ ws) scope ks way y a b mark u k =
    (λ e. known_further m.name m.ty v w way y a b mark scope ks (u.0 e) (k.0 e), all_further body os ms vs ws scope ks way y a b mark u.1 k.1)
all_further body [] ms vs ws scope ks way y a b mark u k = tt
all_further body (o ∷ os) [] vs ws scope ks way y a b mark u k = tt
all_further body (o ∷ os) (m ∷ ms) [] ws scope ks way y a b mark u k = tt
all_further body (o ∷ os) (m ∷ ms) (v ∷ vs) [] scope ks way y a b mark u k = tt

none_more : (k i : ℕ) → 0 + k + i ≡ k + i
none_more k i = omega arith

one_more : (k i : ℕ) → 1 + k + i ≡ k + suc i
one_more k i = omega arith

two_statements : (o : Out Flow) (a p : Does Flow) → then_do (then_do o (λ f. on_next f a)) (λ g. on_next g p) ≡ then_do o (λ f. on_next f (a >>= (λ g. on_next g p)))
two_statements Undefined a p = refl
two_statements Turns a p = refl
two_statements (Done Next s) a p = refl
two_statements (Done Broke s) a p = refl
two_statements (Done Continued s) a p = refl
two_statements (Done (Returned v) s) a p = refl

module _ (n : ℕ) (R : Relation) (body : Statements) (d : Calls) (r : CType) (F : Objects) (k : Does Flow) where
  -- behind a head, with its object in scope
  headed : (scope : List Carried) (ks : Marks) (o l : Object) (v : Value) (q : Does Flow) (p : Does (Unit {0})) (s : Statements)
      → Sim n GoesOn (Scope R scope ks) (Begun R (Shared InMemory o.name o.ty l.ty) scope ks) (begin_parameter body o v) q
      → ((mark : Mark) → Sim n (Flows R r) (Scope R (Shared InMemory o.name o.ty l.ty ∷ scope) (inner mark ks)) F (p >> k) (sequence s d))
      → Sim n (Flows R r) (Scope R scope ks) F ((begin_parameter body o v >> p) >> k) (q >>= (λ f. on_next f (sequence s d)))
  headed scope ks o l v q p s h later =
      first_as (λ t. then_assoc (begin_parameter body o v t) (λ _. p) (λ _. k)) (bind_sim h (λ u f e.
      subst (λ z. Sim n (Flows R r) (Begun R (Shared InMemory o.name o.ty l.ty) scope ks) F (p >> k) (on_next z (sequence s d))) (sym e)
      (some_sim (λ mark. Scope R (Shared InMemory o.name o.ty l.ty ∷ scope) (inner mark ks)) F (p >> k) (sequence s d) later)))

  -- what is asked behind the heads, and what it is behind a parameter of one kind
  abbrev Goes : ℕ → List Carried → Statements → Marks → Type 0
  Goes count scope rest ks = (all : Marks) → ((i : ℕ) → all (count + i) ≡ ks i) → Sim n (Flows R r) (Scope R scope all) F k (sequence rest d)

  goes_apart : (o l : Object) (os ls : List Object) (scope : List Carried) (ks : Marks) (rest : Statements) → takes_statements o.name body ≡ false
      → Goes (how_many body (o ∷ os)) (with_locals body (o ∷ os) (l ∷ ls) scope) rest ks → Goes (how_many body os) (with_locals body os ls scope) rest ks
  goes_apart o l os ls scope ks rest e goes all kept =
      subst (λ b. Goes (one_if body b + how_many body os) (with_locals body os ls (if b then Shared InMemory o.name o.ty l.ty ∷ scope else scope)) rest ks) e goes all
      (λ i. ap all (none_more (how_many body os) i) ∙ kept i)

  goes_in_memory : (o l : Object) (os ls : List Object) (scope : List Carried) (ks : Marks) (rest : Statements) (mark : Mark) → takes_statements o.name body ≡ true
      → Goes (how_many body (o ∷ os)) (with_locals body (o ∷ os) (l ∷ ls) scope) rest ks
      → Goes (how_many body os) (with_locals body os ls (Shared InMemory o.name o.ty l.ty ∷ scope)) rest (inner mark ks)
  goes_in_memory o l os ls scope ks rest mark e goes all kept =
      subst (λ b. Goes (one_if body b + how_many body os) (with_locals body os ls (if b then Shared InMemory o.name o.ty l.ty ∷ scope else scope)) rest ks) e goes all
      (λ i. ap all (one_more (how_many body os) i) ∙ kept (suc i))

  pub headed_sim : (os ms ls : List Object) (s rest : Statements) → Headed n R body d os ms ls s rest → (scope : List Carried) (ks : Marks) (vs ws : List Value)
      → AreKnown body os ms vs ws scope ks → NamesDiffer body os ms → Arguments R (types_of os) vs ws → Goes (how_many body os) (with_locals body os ls scope) rest ks
      → Sim n (Flows R r) (Scope R scope ks) F (begin_blocks body os vs >> k) (sequence s d)
  headed_sim _ _ _ _ _ (NoHeads rest) scope ks [] [] known names a goes = goes ks (λ i. ap ks (zero-add i))
  headed_sim _ _ _ _ _ (ApartHead o m os ms ls s rest e h) scope ks (v ∷ vs) (w ∷ ws) known names a goes =
      subst (λ b. Sim n (Flows R r) (Scope R scope ks) F (((if b then begin_parameter body o v else pure tt) >> begin_blocks body os vs) >> k) (sequence s d)) (sym e)
      (headed_sim os ms ls s rest h scope ks vs ws known.1 names.1 a.1 (goes_apart o m os ls scope ks rest e goes))
  headed_sim _ _ _ _ _ (SetHead o m l os ms ls s rest p ty is set h) scope ks (v ∷ vs) (w ∷ ws) known names a goes =
      subst (λ b. Sim n (Flows R r) (Scope R scope ks) F (((if b then begin_parameter body o v else pure tt) >> begin_blocks body os vs) >> k) (sequence (Then (Declare (l ∷ [])) s) d)) (sym is.takes)
      (headed scope ks o l v (act (Declare (l ∷ [])) (λ x. takes_statements x s) d) (begin_blocks body os vs) s
      (set_head_sim n R body d scope ks o l m v w is.same is.takes is.covers is.other is.plain (known.0 is.takes) (λ x. takes_statements x s) p ty is.inside set.init set.bytes a.0)
      (λ mark. headed_sim os ms ls s rest h (Shared InMemory o.name o.ty l.ty ∷ scope) (inner mark ks) vs ws
      (all_further body os ms vs ws scope ks InMemory o.name o.ty l.ty mark names.0 known.1) names.1 a.1 (goes_in_memory o l os ls scope ks rest mark is.takes goes)))
  headed_sim _ _ _ _ _ (StoreHead o m l os ms ls s rest p q t ty tz tu store align is fill h) scope ks (v ∷ vs) (w ∷ ws) known names a goes =
      let run = Run (stored p q t ty tz tu store l m) in
      let behind : Later = λ x. takes_statements x s in
      subst (λ b. Sim n (Flows R r) (Scope R scope ks) F (((if b then begin_parameter body o v else pure tt) >> begin_blocks body os vs) >> k) (sequence (Then (Declare (l ∷ [])) (Then run s)) d)) (sym is.takes)
      (second_as (λ y. two_statements (act (Declare (l ∷ [])) (λ x. takes_statements x (Then run s)) d y) (act run behind d) (sequence s d))
      (headed scope ks o l v (act (Declare (l ∷ [])) (λ x. takes_statements x (Then run s)) d >>= (λ f. on_next f (act run behind d))) (begin_blocks body os vs) s
      (store_head_sim n R body d scope ks o l m v w is.same is.takes is.covers is.other is.plain (known.0 is.takes) (λ x. takes_statements x (Then run s)) behind p q t ty tz tu store align is.inside
      fill.init fill.list fill.constant fill.array fill.aligned fill.divides (fill.fills v w a.0))
      (λ mark. headed_sim os ms ls s rest h (Shared InMemory o.name o.ty l.ty ∷ scope) (inner mark ks) vs ws
      (all_further body os ms vs ws scope ks InMemory o.name o.ty l.ty mark names.0 known.1) names.1 a.1 (goes_in_memory o l os ls scope ks rest mark is.takes goes))))
  headed_sim _ _ _ _ _ (NoHeads rest) scope ks (v ∷ vs) ws known names a goes = absurd a
  headed_sim _ _ _ _ _ (NoHeads rest) scope ks [] (w ∷ ws) known names a goes = absurd a
  headed_sim _ _ _ _ _ (ApartHead o m os ms ls s rest e h) scope ks [] ws known names a goes = absurd a
  headed_sim _ _ _ _ _ (ApartHead o m os ms ls s rest e h) scope ks (v ∷ vs) [] known names a goes = absurd a
  headed_sim _ _ _ _ _ (SetHead o m l os ms ls s rest p ty is set h) scope ks [] ws known names a goes = absurd a
  headed_sim _ _ _ _ _ (SetHead o m l os ms ls s rest p ty is set h) scope ks (v ∷ vs) [] known names a goes = absurd a
  headed_sim _ _ _ _ _ (StoreHead o m l os ms ls s rest p q t ty tz tu store align is fill h) scope ks [] ws known names a goes = absurd a
  headed_sim _ _ _ _ _ (StoreHead o m l os ms ls s rest p q t ty tz tu store align is fill h) scope ks (v ∷ vs) [] known names a goes = absurd a

-- ---- the other parameters are known once all have begun

module _ (body body' : Statements) where
  passed : (x : List ℕ) (os ms : List Object) (vs ws : List Value) (scope : List Carried) (ks : Marks) → AreEntered body body' os ms → length vs ≡ length os → length ws ≡ length os → is_among x ms ≡ false
      → (carried x (entered body os ms scope) ≡ carried x scope) × (mark_of x (entered body os ms scope) (entered_marks body os vs ws ks) ≡ mark_of x scope ks)
  passed x [] [] [] [] scope ks a e g h = (refl, refl)
  passed x (o ∷ os) (m ∷ ms) (v ∷ vs) (w ∷ ws) scope ks a e g h =
      let k = neither (bytes_eq x m.name) (is_among x ms) h in
      at (takes_statements o.name body) refl k.0 (λ c mark. passed x os ms vs ws (c ∷ scope) (inner mark ks) a.2 (cc) (cc) k.1)
    where
      Through : Carried → Mark → Type 0
      Through c mark = (carried x (entered body os ms (c ∷ scope)) ≡ carried x (c ∷ scope))
          × (mark_of x (entered body os ms (c ∷ scope)) (entered_marks body os vs ws (inner mark ks)) ≡ mark_of x (c ∷ scope) (inner mark ks))

      behind : (c : Carried) (mark : Mark) → is_named x c ≡ false → Through c mark
          → (carried x (entered body os ms (c ∷ scope)) ≡ carried x scope) × (mark_of x (entered body os ms (c ∷ scope)) (entered_marks body os vs ws (inner mark ks)) ≡ mark_of x scope ks)
      behind c mark i t = (t.0 ∙ ap (λ z. if z then Some c else carried x scope) i, t.1 ∙ ap (λ z. if z then mark else mark_of x scope ks) i)

      at : (b : Bool) → takes_statements o.name body ≡ b → bytes_eq x m.name ≡ false → ((c : Carried) (mark : Mark) → Through c mark)
          → (carried x (entered body os ms (entered_object b o m ∷ scope)) ≡ carried x scope)
          × (mark_of x (entered body os ms (entered_object b o m ∷ scope)) (entered_marks body os vs ws (inner (entered_mark b v w) ks)) ≡ mark_of x scope ks)
      at true i j t = behind (Added m.name m.ty) (Values v w) j (t (Added m.name m.ty) (Values v w))
      at false i j t = behind (Shared Fixed o.name o.ty m.ty) Unmarked (ap (bytes_eq x) (sym (a.1 i)) ∙ j) (t (Shared Fixed o.name o.ty m.ty) Unmarked)
  passed x [] (m ∷ ms) vs ws scope ks a e g h = absurd a
  passed x (o ∷ os) [] vs ws scope ks a e g h = absurd a
  passed x [] [] (v ∷ vs) ws scope ks a e g h = absurd (cc)
  passed x [] [] [] (w ∷ ws) scope ks a e g h = absurd (cc)
  passed x (o ∷ os) (m ∷ ms) [] ws scope ks a e g h = absurd (cc)
  passed x (o ∷ os) (m ∷ ms) (v ∷ vs) [] scope ks a e g h = absurd (cc)

  are_known : (os ms : List Object) (vs ws : List Value) (scope : List Carried) (ks : Marks) → AreEntered body body' os ms → AreDistinct ms → length vs ≡ length os → length ws ≡ length os
      → AreKnown body os ms vs ws (entered body os ms scope) (entered_marks body os vs ws ks)
  are_known [] ms vs ws scope ks a h e g = tt
  are_known (o ∷ os) [] vs ws scope ks a h e g = absurd a
  are_known (o ∷ os) (m ∷ ms) [] ws scope ks a h e g = absurd (cc)
  are_known (o ∷ os) (m ∷ ms) (v ∷ vs) [] scope ks a h e g = absurd (cc)
  are_known (o ∷ os) (m ∷ ms) (v ∷ vs) (w ∷ ws) scope ks a h e g = (
    λ i. subst (λ b. IsKnown m.name m.ty v w (entered body os ms (entered_object b o m ∷ scope)) (entered_marks body os vs ws (inner (entered_mark b v w) ks))) (sym i)
        (let t = passed m.name os ms vs ws (Added m.name m.ty ∷ scope) (inner (Values v w) ks) a.2 (cc) (cc) h.0 in
        let mine : bytes_eq m.name m.name ≡ true = (bytes_eq-Decides m.name m.name).1 refl in
        (t.0 ∙ ap (λ z. if z then Some (Added m.name m.ty) else carried m.name scope) mine, t.1 ∙ ap (λ z. if z then Values v w else mark_of m.name scope ks) mine)),
    are_known os ms vs ws (entered_object (takes_statements o.name body) o m ∷ scope) (inner (entered_mark (takes_statements o.name body) v w) ks) a.2 h.1 (cc) (cc),
  )

-- ---- a call

record AreAsLong (os : List Object) (vs ws : List Value) : Type 0 where
  first : length vs ≡ length os
  second : length ws ≡ length os
  paired : ArePaired os vs

as_long : (R : Relation) (os : List Object) (vs ws : List Value) → Arguments R (types_of os) vs ws → AreAsLong os vs ws
as_long R [] [] [] h = record { first = refl; second = refl; paired = tt }
as_long R (o ∷ os) (v ∷ vs) (w ∷ ws) h = let l = as_long R os vs ws h.1 in record { first = ap suc l.first; second = ap suc l.second; paired = l.paired }
as_long R [] [] (w ∷ ws) h = absurd h
as_long R [] (v ∷ vs) ws h = absurd h
as_long R (o ∷ os) [] ws h = absurd h
as_long R (o ∷ os) (v ∷ vs) [] h = absurd h

module _ (n : ℕ) (R : Relation) (tables others : List Binding) (f g : Definition) (c d : Calls) where
  -- A call of a function whose parameters in memory are written so. What is asked is that the bodies are alike, behind the heads of the written one, with an object
  -- of both in memory for each such parameter, and the other parameters as added objects behind them.
  pub headed_call : (scope : List Carried) (ks : Marks) (F : Objects) (ls : List Object) (rest : Statements) → Headed n R f.body d f.params g.params ls g.body rest → Scope R scope ks tables others
      → AreSteady c → AreDistinct f.params → AreEntered f.body g.body f.params g.params → AreDistinct g.params → NamesDiffer f.body f.params g.params → (f.result ≡ CType.Void → g.result ≡ CType.Void)
      → ((vs ws : List Value) (all : Marks) → Arguments R (types_of f.params) vs ws → ((i : ℕ) → all (how_many f.body f.params + i) ≡ entered_marks f.body f.params vs ws ks i)
      → Sim n (Flows R f.result) (Scope R (with_locals f.body f.params ls (entered f.body f.params g.params scope)) all) F (sequence f.body c) (sequence rest d))
      → CallsAlike n R (types_of f.params) f.result (call_of tables f c) (call_of others g d)
  headed_call scope ks F ls rest h in_scope steady distinct enters differ names void goes = record {
    by = λ vs ws s t a k.
        let l = as_long R f.params vs ws a in
        let start : State = record s { objects = tables } in
        let other : State = record t { objects = others } in
        let inside = entered f.body f.params g.params scope in
        let marks = entered_marks f.body f.params vs ws ks in
        let both : Sim n (Given R f.result) (Scope R scope ks) F (in_order f c vs) (begin_parameters g.body g.params ws >> (sequence g.body d >>= result g.result)) =
        bind_same (entered_parameters_sim n R f.body g.body scope ks f.params g.params vs ws enters a) (λ u.
        first_as (λ y. sym (then_assoc (begin_blocks f.body f.params vs y) (λ _. sequence f.body c) (λ x. result f.result x)))
        (bind_sim (headed_sim n R f.body d f.result F (sequence f.body c) f.params g.params ls g.body rest h inside marks vs ws
        (are_known f.body g.body f.params g.params vs ws scope ks enters differ l.first l.second) names a (λ all kept. goes vs ws all a kept))
        (λ x y z. result_sim n R F f.result g.result x y void z))) in
        subst (λ o. Ends (Given R f.result) (Back n s t) o (call_of others g d ws t)) (sym (called_in_order tables f c vs s steady distinct l.paired))
        (back_ends n R f.result F s t start other (in_order f c vs start) ((begin_parameters g.body g.params ws >> (sequence g.body d >>= result g.result)) other) k.0 refl
        (both.by start other (record { objects = in_scope; memory = k.0; left = k.1 })));
  }
