-- Laws of objects that are always set: such a one may be held for a while, and one that is held has its value whenever it is read.
use Rattle.std.proofs.Common.{◌≡◌, ℕ, List, [], ◌∷◌, Bool, true, false, Option, Some, None, refl, ap, ◌∙◌, subst, if◌then◌else◌}
use Rattle.std.specs.Str.{bytes_eq}
use Rattle.c_tree.specs.declared.types.CType.{CType}
use Rattle.c_text.specs.declared.tokens.Place.{Place}
use Rattle.c_tree.specs.Tree.{Node, Name}
use Rattle.c_memory.specs.declared.value.Value.{Value}
use Rattle.c_memory.specs.MeaningObjects.{value_at, value_named}
use Rattle.c_memory.specs.MeaningState.{Apart, Binding, State, Done, Does, then_do, pure, defined, found}
use Rattle.c_tree.specs.Types.{is_array}
use Rattle.c_memory.specs.Meaning.{Calls, expression, object_value}
use Rattle.simulation.specs.Alike.{Relation, Alike, Sim}
use Rattle.simulation.specs.Carried.{Way, MayBeSet, Fixed, Held, InMemory, Carried, Shared, Added, Halved, Mark, Marks, Values, AreSet, Kept, AddedAt, Both, IsNamed, InHalves, Scope, outer, inner, is_named, carried, mark_of, as_held, held, marked}
use Rattle.simulation.specs.Steps.{weaker_ends}
use Rattle.simulation.specs.ScopeLaws.{Seen, found_seen}

-- the innermost object of a name is always set, and of this type in the first unit
abbrev pub IsFixed : CType → Option Carried → Type 0
IsFixed s (Some (Shared Fixed y u t)) = u ≡ s
IsFixed s o = ⊥

-- the same objects, of which one holds these values
pub record Holding (R : Relation) (s : CType) (scope : List Carried) (marks : Mark → Marks) (bs cs : List Binding) : Type 0 where
  pub v : Value
  pub w : Value
  pub values : R s v w
  pub scoped : Scope R scope (marks (Values v w)) bs cs

module _ (R : Relation) (x : List ℕ) (s : CType) where
  shared_hold : (v : Bool) (way : Way) (y : List ℕ) (u t : CType) (b c : Binding) (rest : List Carried) (ks : Marks) (bs cs : List Binding) (o : Option Carried)
      → Both y u t b c → Kept R way u (ks 0) b.location c.location
      → Scope R rest (outer ks) bs cs → IsFixed s (if v then Some (Shared way y u t) else o) →
      (IsFixed s o → Holding R s (held x rest) (λ m. marked x m rest (outer ks)) bs cs)
      → Holding R s (if v then as_held (Shared way y u t) ∷ rest else Shared way y u t ∷ held x rest)
      (λ m. if v then inner m (outer ks) else inner (ks 0) (marked x m rest (outer ks))) (b ∷ bs) (c ∷ cs)
  shared_hold true Fixed y u t b c rest ks bs cs o h k l q next =
      record { v = k.0; w = k.1; values = subst (λ z. R z k.0 k.1) q k.2.values; scoped = (h, k.2, l) }
  shared_hold true MayBeSet y u t b c rest ks bs cs o h k l q next = absurd q
  shared_hold true Held y u t b c rest ks bs cs o h k l q next = absurd q
  shared_hold true InMemory y u t b c rest ks bs cs o h k l q next = absurd q
  shared_hold false way y u t b c rest ks bs cs o h k l q next = let r = next q in record { v = r.v; w = r.w; values = r.values; scoped = (h, k, r.scoped) }

  added_hold : (v : Bool) (y : List ℕ) (t : CType) (c : Binding) (rest : List Carried) (ks : Marks) (bs cs : List Binding) (o : Option Carried)
      → IsNamed y t c → AddedAt (ks 0) c.location
      → IsFixed s (if v then Some (Added y t) else o) → (IsFixed s o → Holding R s (held x rest) (λ m. marked x m rest (outer ks)) bs cs)
      → Holding R s (if v then Added y t ∷ rest else Added y t ∷ held x rest)
      (λ m. if v then inner m (outer ks) else inner (ks 0) (marked x m rest (outer ks))) bs (c ∷ cs)
  added_hold true y t c rest ks bs cs o h k q next = absurd q
  added_hold false y t c rest ks bs cs o h k q next = let r = next q in record { v = r.v; w = r.w; values = r.values; scoped = (h, k, r.scoped) }

  halved_hold : (v : Bool) (y : List ℕ) (z : CType) (low high : List ℕ) (u t : CType) (b c d : Binding) (rest : List Carried) (ks : Marks)
      (bs cs : List Binding) (o : Option Carried)
      → InHalves R y z low high u t b d c
      → IsFixed s (if v then Some (Halved y z low high u t) else o) → (IsFixed s o → Holding R s (held x rest) (λ m. marked x m rest (outer ks)) bs cs)
      → Holding R s (if v then Halved y z low high u t ∷ rest else Halved y z low high u t ∷ held x rest)
      (λ m. if v then inner m (outer ks) else inner (ks 0) (marked x m rest (outer ks))) (b ∷ bs) (c ∷ d ∷ cs)
  halved_hold true y z low high u t b c d rest ks bs cs o h q next = absurd q
  halved_hold false y z low high u t b c d rest ks bs cs o h q next = let r = next q in record { v = r.v; w = r.w; values = r.values; scoped = (h, r.scoped) }

  pub hold : (scope : List Carried) (ks : Marks) (bs cs : List Binding) → Scope R scope ks bs cs → IsFixed s (carried x scope)
      → Holding R s (held x scope) (λ m. marked x m scope ks) bs cs
  hold [] ks bs cs h q = absurd q
  hold (Shared way y u t ∷ rest) ks (b ∷ bs) (c ∷ cs) h q =
      shared_hold (bytes_eq x y) way y u t b c rest ks bs cs (carried x rest) h.0 h.1 h.2 q (hold rest (outer ks) bs cs h.2)
  hold (Added y t ∷ rest) ks bs (c ∷ cs) h q = added_hold (bytes_eq x y) y t c rest ks bs cs (carried x rest) h.0 h.1 q (hold rest (outer ks) bs cs h.2)
  hold (Halved y z low high u t ∷ rest) ks (b ∷ bs) (c ∷ d ∷ cs) h q =
      halved_hold (is_named x (Halved y z low high u t)) y z low high u t b c d rest ks bs cs (carried x rest) h.0 q (hold rest (outer ks) bs cs h.1)
  hold (Shared way y u t ∷ rest) ks [] cs h q = absurd h
  hold (Shared way y u t ∷ rest) ks (b ∷ bs) [] h q = absurd h
  hold (Added y t ∷ rest) ks bs [] h q = absurd h
  hold (Halved y z low high u t ∷ rest) ks [] cs h q = absurd h
  hold (Halved y z low high u t ∷ rest) ks (b ∷ bs) [] h q = absurd h
  hold (Halved y z low high u t ∷ rest) ks (b ∷ bs) (c ∷ []) h q = absurd h

  -- and back
  module _ (p q : Value) where
    shared_release : (v : Bool) (way : Way) (y : List ℕ) (u t : CType) (rest : List Carried) (ks : Marks) (bs cs : List Binding) (o : Option Carried)
        → IsFixed s (if v then Some (Shared way y u t) else o)
        → ((ds es : List Binding) → Scope R (held x rest) (marked x (Values p q) rest (outer ks)) ds es → IsFixed s o → Scope R rest (outer ks) ds es)
        → Scope R (if v then as_held (Shared way y u t) ∷ rest else Shared way y u t ∷ held x rest)
        (if v then inner (Values p q) (outer ks) else inner (ks 0) (marked x (Values p q) rest (outer ks))) bs cs
        → Scope R (Shared way y u t ∷ rest) ks bs cs
    shared_release true Fixed y u t rest ks (b ∷ bs) (c ∷ cs) o i next h = (h.0, (p, q, h.1), h.2)
    shared_release true Fixed y u t rest ks [] cs o i next h = absurd h
    shared_release true Fixed y u t rest ks (b ∷ bs) [] o i next h = absurd h
    shared_release true MayBeSet y u t rest ks bs cs o i next h = absurd i
    shared_release true Held y u t rest ks bs cs o i next h = absurd i
    shared_release true InMemory y u t rest ks bs cs o i next h = absurd i
    shared_release false way y u t rest ks (b ∷ bs) (c ∷ cs) o i next h = (h.0, h.1, next bs cs h.2 i)
    shared_release false way y u t rest ks [] cs o i next h = absurd h
    shared_release false way y u t rest ks (b ∷ bs) [] o i next h = absurd h

    added_release : (v : Bool) (y : List ℕ) (t : CType) (rest : List Carried) (ks : Marks) (bs cs : List Binding) (o : Option Carried)
        → IsFixed s (if v then Some (Added y t) else o)
        → ((ds es : List Binding) → Scope R (held x rest) (marked x (Values p q) rest (outer ks)) ds es → IsFixed s o → Scope R rest (outer ks) ds es)
        → Scope R (if v then Added y t ∷ rest else Added y t ∷ held x rest)
        (if v then inner (Values p q) (outer ks) else inner (ks 0) (marked x (Values p q) rest (outer ks))) bs cs
        → Scope R (Added y t ∷ rest) ks bs cs
    added_release true y t rest ks bs cs o i next h = absurd i
    added_release false y t rest ks bs (c ∷ cs) o i next h = (h.0, h.1, next bs cs h.2 i)
    added_release false y t rest ks bs [] o i next h = absurd h

    halved_release : (v : Bool) (y : List ℕ) (z : CType) (low high : List ℕ) (u t : CType) (rest : List Carried) (ks : Marks) (bs cs : List Binding)
        (o : Option Carried)
        → IsFixed s (if v then Some (Halved y z low high u t) else o)
        → ((ds es : List Binding) → Scope R (held x rest) (marked x (Values p q) rest (outer ks)) ds es → IsFixed s o → Scope R rest (outer ks) ds es)
        → Scope R (if v then Halved y z low high u t ∷ rest else Halved y z low high u t ∷ held x rest)
        (if v then inner (Values p q) (outer ks) else inner (ks 0) (marked x (Values p q) rest (outer ks))) bs cs
        → Scope R (Halved y z low high u t ∷ rest) ks bs cs
    halved_release true y z low high u t rest ks bs cs o i next h = absurd i
    halved_release false y z low high u t rest ks (b ∷ bs) (c ∷ d ∷ cs) o i next h = (h.0, next bs cs h.1 i)
    halved_release false y z low high u t rest ks [] cs o i next h = absurd h
    halved_release false y z low high u t rest ks (b ∷ bs) [] o i next h = absurd h
    halved_release false y z low high u t rest ks (b ∷ bs) (c ∷ []) o i next h = absurd h

    pub release : (scope : List Carried) (ks : Marks) (bs cs : List Binding) → Scope R (held x scope) (marked x (Values p q) scope ks) bs cs
        → IsFixed s (carried x scope) → Scope R scope ks bs cs
    release [] ks bs cs h i = absurd i
    release (Shared way y u t ∷ rest) ks bs cs h i = shared_release (bytes_eq x y) way y u t rest ks bs cs (carried x rest) i (release rest (outer ks)) h
    release (Added y t ∷ rest) ks bs cs h i = added_release (bytes_eq x y) y t rest ks bs cs (carried x rest) i (release rest (outer ks)) h
    release (Halved y z low high u t ∷ rest) ks bs cs h i =
        halved_release (is_named x (Halved y z low high u t)) y z low high u t rest ks bs cs (carried x rest) i (release rest (outer ks)) h

  -- steps are alike with the object, where they are for any values that it holds
  pub hold_sim : {A B : Type 0} {n : ℕ} (V : A → B → Type 0) (scope : List Carried) (ks : Marks) (f : Does A) (g : Does B) → IsFixed s (carried x scope)
      → ((v w : Value) → R s v w → Sim n V (Scope R (held x scope) (marked x (Values v w) scope ks))
      (Scope R (held x scope) (marked x (Values v w) scope ks)) f g)
      → Sim n V (Scope R scope ks) (Scope R scope ks) f g
  hold_sim {n = n} V scope ks f g is h = record {
    by = λ y z e.
        let r = hold scope ks y.objects z.objects e.objects is in
        weaker_ends n V (Scope R (held x scope) (marked x (Values r.v r.w) scope ks)) (Scope R scope ks) z (f y) (g z)
        (λ bs cs i. release r.v r.w scope ks bs cs i is)
        ((h r.v r.w r.values).by y z (record { objects = r.scoped; memory = e.memory; left = e.left }));
  }

-- ---- what is held is read

found_held : (R : Relation) (x y : List ℕ) (s t : CType) (v w : Value) (o r : Option Binding) → Seen R (Some (Shared Held y s t)) (Values v w) o r
    → (b : Binding) × (c : Binding) × (o ≡ Some b) × (r ≡ Some c) × Both y s t b c × AreSet R s v w b.location c.location
found_held R x y s t v w (Some b) (Some c) h = (b, c, refl, refl, h.0, h.1)
found_held R x y s t v w None r h = absurd h
found_held R x y s t v w (Some b) None h = absurd h

-- an object that is no array has its value
pub plain_value : (t : CType) (b : Binding) → is_array t ≡ false → object_value t b ≡ value_named b
plain_value (CType.Int s) b h = refl
plain_value CType.M128 b h = refl
plain_value CType.M256 b h = refl
plain_value (CType.Neon l w) b h = refl
plain_value CType.Pair b h = refl
plain_value (CType.Pointer e k) b h = refl
plain_value CType.Void b h = refl
plain_value (CType.Array e n k) b h = absurd (cc)

abbrev pub of_objects : List ℕ → List Binding → Does (Option Value)
of_objects x bs = λ s. then_do (then_do (defined (found x bs) s) (λ b. object_value b.ty b)) (λ v. pure (Some v))

pub reads_at : (x : List ℕ) (t : CType) (v : Value) (b : Binding) (bs : List Binding) (s : State) → found x bs ≡ Some b → b.ty ≡ t → is_array t ≡ false
    → b.location ≡ Apart (Some v)
    → of_objects x bs s ≡ Done (Some v) s
reads_at x t v b bs s e f g h =
    let is : object_value b.ty b ≡ value_named b = plain_value b.ty b (ap is_array f ∙ g) in
    let value : value_named b s ≡ Done v s = ap (λ l. value_at b.ty l s) h in
    ap (λ o. then_do (then_do (defined o s) (λ b. object_value b.ty b)) (λ v. pure (Some v))) e ∙ ap
    (λ (p : Does Value). then_do (p s) (λ v. pure (Some v))) is ∙ ap (λ o. then_do o (λ v. pure (Some v))) value

-- both read their value, and nothing changes
pub record Reads (x : List ℕ) (v w : Value) (s t : State) : Type 0 where
  pub first : (p : Place) (u : CType) (c : Calls) → expression (Node p u (Name x)) c s ≡ Done (Some v) s
  pub second : (p : Place) (u : CType) (d : Calls) → expression (Node p u (Name x)) d t ≡ Done (Some w) t

pub held_reads : (n : ℕ) (R : Relation) (scope : List Carried) (ks : Marks) (x y : List ℕ) (a b : CType) (v w : Value) (s t : State)
    → carried x scope ≡ Some (Shared Held y a b) → mark_of x scope ks ≡ Values v w → is_array a ≡ false → is_array b ≡ false
    → Alike n (Scope R scope ks) s t → Reads x v w s t
held_reads n R scope ks x y a b v w s t is mark plain other e =
    let seen = subst (λ m. Seen R (Some (Shared Held y a b)) m (found x s.objects) (found x t.objects)) mark
    (subst (λ o. Seen R o (mark_of x scope ks) (found x s.objects) (found x t.objects)) is (found_seen R x scope ks s.objects t.objects e.objects)) in
    let (g, h, i, j, both, set) = found_held R x y a b v w (found x s.objects) (found x t.objects) seen in
    record {
      first = λ p u c. reads_at x a v g s.objects s i both.ty plain set.first;
      second = λ p u d. reads_at x b w h t.objects t j both.other_ty other set.second;
    }
