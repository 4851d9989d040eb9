-- Laws of variables that are always set: they may keep their values while an expression is evaluated that doesn't set them.
use Rattle.std.proofs.Common.{◌≡◌, ℕ, List, [], ◌∷◌, Bool, true, false, Option, Some, None, refl, sym, ap, ◌∙◌, subst, if◌then◌else◌}
use Rattle.std.specs.Str.{bytes_eq}
use Rattle.std.proofs.lemmas.Slice.Eq.{bytes_eq-Decides}
use Rattle.c_tree.specs.declared.types.CType.{CType}
use Rattle.c_tree.specs.Tree.{Tree, Trees, Node, Name, NoTrees, More}
use Rattle.c_memory.specs.declared.value.Value.{Value}
use Rattle.c_memory.specs.Matching.{written_type}
use Rattle.c_memory.specs.MeaningState.{Does}
use Rattle.simulation.specs.Alike.{Sim}
use Rattle.simulation.specs.Carried.{Fixed, Held, Carried, Shared, Mark, Marks, Values, Scope, outer, inner, is_named, carried, mark_of, as_held, held, marked}
use Rattle.simulation.specs.HeldLaws.{IsFixed, hold_sim}
use Rattle.written_forms.specs.TypedValues.{TypedValues}
use Rattle.written_forms.specs.Seen.{Local, Sees}
use Rattle.written_forms.proofs.Agreeing.{Keeping, keeping, kept, way_when, way_of, Agrees, SetsNone}

-- ---- what holding an object changes

some_same : {A : Type 0} {x y : A} → Some x ≡ Some y → x ≡ y
some_same e = cc

carried_held : (x : List ℕ) (s t : CType) (scope : List Carried) → carried x scope ≡ Some (Shared Fixed x s t) → carried x (held x scope) ≡ Some (Shared Held x s t)
carried_held x s t [] e = absurd (cc)
carried_held x s t (k ∷ rest) e = at (is_named x k) refl e (carried_held x s t rest)
  where
    at : (b : Bool) → is_named x k ≡ b → (if b then Some k else carried x rest) ≡ Some (Shared Fixed x s t)
        → (carried x rest ≡ Some (Shared Fixed x s t) → carried x (held x rest) ≡ Some (Shared Held x s t))
        → carried x (if b then as_held k ∷ rest else k ∷ held x rest) ≡ Some (Shared Held x s t)
    at true i j next =
        let same : bytes_eq x x ≡ true = (bytes_eq-Decides x x).1 refl in
        subst (λ z. carried x (as_held z ∷ rest) ≡ Some (Shared Held x s t)) (sym (some_same j)) (rw same refl)
    at false i j next = rw i (next j)

carried_other : (x y : List ℕ) (s t : CType) (scope : List Carried) → carried x scope ≡ Some (Shared Fixed x s t) → bytes_eq y x ≡ false → carried y (held x scope) ≡ carried y scope
carried_other x y s t [] e f = refl
carried_other x y s t (k ∷ rest) e f = at (is_named x k) e (λ g. carried_other x y s t rest g f)
  where
    at : (b : Bool) → (if b then Some k else carried x rest) ≡ Some (Shared Fixed x s t)
        → (carried x rest ≡ Some (Shared Fixed x s t) → carried y (held x rest) ≡ carried y rest)
        → carried y (if b then as_held k ∷ rest else k ∷ held x rest) ≡ carried y (k ∷ rest)
    at true j next = subst (λ z. carried y (as_held z ∷ rest) ≡ carried y (z ∷ rest)) (sym (some_same j)) (rw f refl)
    at false j next = ap (λ o. if is_named y k then Some k else o) (next j)

mark_held : (x : List ℕ) (m : Mark) (s t : CType) (scope : List Carried) (ks : Marks) → carried x scope ≡ Some (Shared Fixed x s t) → mark_of x (held x scope) (marked x m scope ks) ≡ m
mark_held x m s t [] ks e = absurd (cc)
mark_held x m s t (k ∷ rest) ks e = at (is_named x k) refl e (mark_held x m s t rest (outer ks))
  where
    at : (b : Bool) → is_named x k ≡ b → (if b then Some k else carried x rest) ≡ Some (Shared Fixed x s t)
        → (carried x rest ≡ Some (Shared Fixed x s t) → mark_of x (held x rest) (marked x m rest (outer ks)) ≡ m)
        → mark_of x (if b then as_held k ∷ rest else k ∷ held x rest) (if b then inner m (outer ks) else inner (ks 0) (marked x m rest (outer ks))) ≡ m
    at true i j next =
        let same : bytes_eq x x ≡ true = (bytes_eq-Decides x x).1 refl in
        subst (λ z. mark_of x (as_held z ∷ rest) (inner m (outer ks)) ≡ m) (sym (some_same j)) (rw same refl)
    at false i j next = rw i (next j)

mark_other : (x y : List ℕ) (m : Mark) (s t : CType) (scope : List Carried) (ks : Marks) → carried x scope ≡ Some (Shared Fixed x s t) → bytes_eq y x ≡ false
    → mark_of y (held x scope) (marked x m scope ks) ≡ mark_of y scope ks
mark_other x y m s t [] ks e f = refl
mark_other x y m s t (k ∷ rest) ks e f = at (is_named x k) e (λ g. mark_other x y m s t rest (outer ks) g f)
  where
    at : (b : Bool) → (if b then Some k else carried x rest) ≡ Some (Shared Fixed x s t)
        → (carried x rest ≡ Some (Shared Fixed x s t) → mark_of y (held x rest) (marked x m rest (outer ks)) ≡ mark_of y rest (outer ks))
        → mark_of y (if b then as_held k ∷ rest else k ∷ held x rest) (if b then inner m (outer ks) else inner (ks 0) (marked x m rest (outer ks))) ≡ mark_of y (k ∷ rest) ks
    at true j next = subst (λ z. mark_of y (as_held z ∷ rest) (inner m (outer ks)) ≡ mark_of y (z ∷ rest) ks) (sym (some_same j)) (rw f refl)
    at false j next = ap (λ o. if is_named y k then ks 0 else o) (next j)

-- ---- one more object that keeps its value

module _ (sees : Sees) (scope : List Carried) (ks : Marks) (keeps : List Keeping) (ag : Agrees sees scope ks keeps) (x : List ℕ) (l : Local) (seen : sees x ≡ Some l)
    (steady : l.steady ≡ true) (free : kept x keeps ≡ None) where
  pub fixed : carried x scope ≡ Some (Shared Fixed x l.ty (written_type l.ty))
  fixed = subst (λ b. carried x scope ≡ Some (Shared (way_when b) x l.ty (written_type l.ty))) steady
      (subst (λ o. carried x scope ≡ Some (Shared (way_of o l) x l.ty (written_type l.ty))) free (ag.objects x l seen))

  is_fixed : IsFixed l.ty (carried x scope)
  is_fixed = subst (IsFixed l.ty) (sym fixed) refl

  module _ (v w : Value) (values : TypedValues l.ty v w) where
    more_objects : (y : List ℕ) (k : Local) (b : Bool) → bytes_eq y x ≡ b → sees y ≡ Some k
        → carried y (held x scope) ≡ Some (Shared (way_of (if b then Some (keeping x v w) else kept y keeps) k) y k.ty (written_type k.ty))
    more_objects y k true e f =
        let same : y ≡ x = (bytes_eq-Decides y x).0 e in
        let one : l ≡ k = some_same (sym seen ∙ ap sees (sym same) ∙ f) in
        ap (λ z. carried z (held x scope)) same ∙ carried_held x l.ty (written_type l.ty) scope fixed ∙ ap (λ z. Some (Shared Held x z.ty (written_type z.ty))) one
        ∙ ap (λ z. Some (Shared Held z k.ty (written_type k.ty))) (sym same)
    more_objects y k false e f = carried_other x y l.ty (written_type l.ty) scope fixed e ∙ ag.objects y k f

    more_values : (y : List ℕ) (k : Keeping) (b : Bool) → bytes_eq y x ≡ b → (if b then Some (keeping x v w) else kept y keeps) ≡ Some k
        → mark_of y (held x scope) (marked x (Values v w) scope ks) ≡ Values k.v k.w
    more_values y k true e f =
        let same : y ≡ x = (bytes_eq-Decides y x).0 e in
        ap (λ z. mark_of z (held x scope) (marked x (Values v w) scope ks)) same ∙ mark_held x (Values v w) l.ty (written_type l.ty) scope ks fixed
        ∙ ap (λ z. Values z.v z.w) (some_same f)
    more_values y k false e f = mark_other x y (Values v w) l.ty (written_type l.ty) scope ks fixed e ∙ ag.values y k f

    more_typed : (y : List ℕ) (k : Keeping) (m : Local) (b : Bool) → bytes_eq y x ≡ b → (if b then Some (keeping x v w) else kept y keeps) ≡ Some k → sees y ≡ Some m
        → TypedValues m.ty k.v k.w
    more_typed y k m true e f g =
        let same : y ≡ x = (bytes_eq-Decides y x).0 e in
        let one : l ≡ m = some_same (sym seen ∙ ap sees (sym same) ∙ g) in
        subst (λ z. TypedValues m.ty z.v z.w) (some_same f) (subst (λ z. TypedValues z.ty v w) one values)
    more_typed y k m false e f g = ag.typed y k m f g

    pub agrees_more : Agrees sees (held x scope) (marked x (Values v w) scope ks) (keeping x v w ∷ keeps)
    agrees_more = record {
      objects = λ y k f. more_objects y k (bytes_eq y x) refl f;
      values = λ y k f. more_values y k (bytes_eq y x) refl f;
      typed = λ y k m f g. more_typed y k m (bytes_eq y x) refl f g;
    }

  pub hold_one : {A B : Type 0} {n : ℕ} (V : A → B → Type 0) (f : Does A) (g : Does B)
      → ((v w : Value) → Agrees sees (held x scope) (marked x (Values v w) scope ks) (keeping x v w ∷ keeps)
      → Sim n V (Scope TypedValues (held x scope) (marked x (Values v w) scope ks)) (Scope TypedValues (held x scope) (marked x (Values v w) scope ks)) f g)
      → Sim n V (Scope TypedValues scope ks) (Scope TypedValues scope ks) f g
  hold_one V f g next = hold_sim TypedValues x l.ty V scope ks f g is_fixed (λ v w r. next v w (agrees_more v w r))

pub none_more : (keeps : List Keeping) (sets : List ℕ → Bool) (x : List ℕ) (v w : Value) → SetsNone keeps sets → sets x ≡ false → SetsNone (keeping x v w ∷ keeps) sets
none_more keeps sets x v w h e y k f = at (bytes_eq y x) refl f
  where
    at : (b : Bool) → bytes_eq y x ≡ b → (if b then Some (keeping x v w) else kept y keeps) ≡ Some k → sets y ≡ false
    at true g i = let same : y ≡ x = (bytes_eq-Decides y x).0 g in ap sets same ∙ e
    at false g i = h y k i

-- ---- all variables among operands that are always set

-- each of them keeps its value
abbrev pub IsKept : List Keeping → Option Local → List ℕ → Type 0
IsKept keeps None x = Unit {0}
IsKept keeps (Some l) x = l.steady ≡ true → (k : Keeping) × (kept x keeps ≡ Some k)

abbrev pub KeepsIt : Sees → List Keeping → Tree → Type 0
KeepsIt sees keeps (Node p t (Name x)) = IsKept keeps (sees x) x
KeepsIt sees keeps e = Unit {0}

abbrev pub KeepAll : Sees → List Keeping → Trees → Type 0
KeepAll sees keeps NoTrees = Unit {0}
KeepAll sees keeps (More a rest) = KeepsIt sees keeps a × KeepAll sees keeps rest

-- what keeps its value goes on to do so
abbrev pub Grows : List Keeping → List Keeping → Type 0
Grows keeps more = (x : List ℕ) (k : Keeping) → kept x keeps ≡ Some k → (j : Keeping) × (kept x more ≡ Some j)

grows_more : (keeps : List Keeping) (x : List ℕ) (v w : Value) → Grows keeps (keeping x v w ∷ keeps)
grows_more keeps x v w y k h = at (bytes_eq y x)
  where
    at : (b : Bool) → (j : Keeping) × ((if b then Some (keeping x v w) else kept y keeps) ≡ Some j)
    at true = (keeping x v w, refl)
    at false = (k, h)

grows_on : (a b c : List Keeping) → Grows a b → Grows b c → Grows a c
grows_on a b c h k x i e = let r = h x i e in k x r.0 r.1

grown : (keeps more : List Keeping) (o : Option Local) (x : List ℕ) → Grows keeps more → IsKept keeps o x → IsKept more o x
grown keeps more None x h k = tt
grown keeps more (Some l) x h k = λ e. let r = k e in h x r.0 r.1

-- none of the variables among these is set
abbrev pub NoneSets : (List ℕ → Bool) → Trees → Type 0
NoneSets sets NoTrees = Unit {0}
NoneSets sets (More (Node p t (Name x)) rest) = (sets x ≡ false) × NoneSets sets rest
NoneSets sets (More a rest) = NoneSets sets rest

module _ {A B : Type 0} (n : ℕ) (V : A → B → Type 0) (f : Does A) (g : Does B) (sees : Sees) (sets : List ℕ → Bool) where
  -- steps that are alike while these objects keep their values
  abbrev pub While : Trees → List Keeping → Type 0
  While all keeps = (scope : List Carried) (ks : Marks) (more : List Keeping) → Agrees sees scope ks more → SetsNone more sets → Grows keeps more → KeepAll sees more all
      → Sim n V (Scope TypedValues scope ks) (Scope TypedValues scope ks) f g

  -- the object is kept already, or from now on
  keep_one : (x : List ℕ) (o : Option Local) (scope : List Carried) (ks : Marks) (keeps : List Keeping) → sees x ≡ o → Agrees sees scope ks keeps → SetsNone keeps sets → sets x ≡ false
      → ((scope : List Carried) (ks : Marks) (more : List Keeping) → Agrees sees scope ks more → SetsNone more sets → Grows keeps more → IsKept more o x
      → Sim n V (Scope TypedValues scope ks) (Scope TypedValues scope ks) f g)
      → Sim n V (Scope TypedValues scope ks) (Scope TypedValues scope ks) f g
  keep_one x None scope ks keeps e ag none free next = next scope ks keeps ag none (λ y k h. (k, h)) tt
  keep_one x (Some l) scope ks keeps e ag none free next = at l.steady refl (kept x keeps) refl
    where
      at : (b : Bool) → l.steady ≡ b → (o : Option Keeping) → kept x keeps ≡ o → Sim n V (Scope TypedValues scope ks) (Scope TypedValues scope ks) f g
      at false h o i = next scope ks keeps ag none (λ y k h. (k, h)) (λ j. absurd (let k : false ≡ true = sym h ∙ j in cc))
      at true h (Some k) i = next scope ks keeps ag none (λ y k h. (k, h)) (λ j. (k, i))
      at true h None i =
          hold_one sees scope ks keeps ag x l e h i V f g (λ v w more. next (held x scope) (marked x (Values v w) scope ks) (keeping x v w ∷ keeps) more
          (none_more keeps sets x v w none free) (grows_more keeps x v w) (λ j. let same : bytes_eq x x ≡ true = (bytes_eq-Decides x x).1 refl in (keeping x v w, rw same refl)))

  pub keep_all : (all : Trees) (scope : List Carried) (ks : Marks) (keeps : List Keeping) → Agrees sees scope ks keeps → SetsNone keeps sets → NoneSets sets all → While all keeps
      → Sim n V (Scope TypedValues scope ks) (Scope TypedValues scope ks) f g
  keep_all NoTrees scope ks keeps ag none free next = next scope ks keeps ag none (λ y k h. (k, h)) tt
  keep_all (More (Node p t (Name x)) rest) scope ks keeps ag none free next =
      keep_one x (sees x) scope ks keeps refl ag none free.0 (λ scope2 ks2 more ag2 none2 grow is.
      keep_all rest scope2 ks2 more ag2 none2 free.1 (λ scope3 ks3 last ag3 none3 grow3 all.
      next scope3 ks3 last ag3 none3 (grows_on keeps more last grow grow3) (grown more last (sees x) x grow3 is, all)))
  keep_all (More (Node p t _) rest) scope ks keeps ag none free next =
      keep_all rest scope ks keeps ag none free (λ scope3 ks3 last ag3 none3 grow3 all. next scope3 ks3 last ag3 none3 grow3 (tt, all))
