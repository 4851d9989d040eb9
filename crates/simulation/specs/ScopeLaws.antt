-- Laws of objects in scope: what a name finds, how an object changes, and scopes that are left.
use Rattle.std.proofs.Common.{◌≡◌, ℕ, suc, ◌+◌, ◌-◌, List, [], ◌∷◌, ◌++◌, length, drop, Bool, true, false, ◌||◌, Option, Some, None, refl, sym, ap, ◌∙◌, subst}
use Rattle.std.proofs.Common.{arith, zero-add, append_assoc, if◌then◌else◌}
use Rattle.std.specs.Str.{bytes_eq}
use Rattle.std.proofs.lemmas.List.{length-append}
use Rattle.c_tree.specs.declared.types.CType.{CType}
use Rattle.c_memory.specs.declared.value.Value.{Value}
use Rattle.c_memory.specs.Memory.{ended_from}
use Rattle.c_memory.specs.MeaningState.{Location, Apart, Binding, State, Out, Done, Turns, Undefined, Does, then_do, defined, found, object_of, changed, change}
use Rattle.c_memory.specs.MeaningState.{set_apart, leave, scoped}
use Rattle.simulation.specs.Alike.{Relation, Options, Blocks, Alike, After, Ends, Sim}
use Rattle.simulation.specs.Carried.{Way, MayBeSet, Fixed, Held, InMemory, MayChange, Carried, Shared, Added, Halved, Mark, Marks, Kept, AddedAt, Both, IsNamed}
use Rattle.simulation.specs.Carried.{InHalves, Scope, Within, outer, inner, is_named, carried, mark_of}
use Rattle.simulation.specs.BlockLaws.{length_alike, ended_from_alike, stays_same, ended_stays}
use Rattle.simulation.specs.Steps.{after_same}

-- ---- what a name finds

-- by how the object is kept, and its mark
abbrev pub Seen : Relation → Option Carried → Mark → Option Binding → Option Binding → Type 0
Seen R None mark None None = Unit {0}
Seen R (Some (Shared way x s t)) mark (Some b) (Some c) = Both x s t b c × Kept R way s mark b.location c.location
Seen R (Some (Added x t)) mark o r = Unit {0}
Seen R (Some (Halved x s low high h t)) mark o r = Unit {0}
Seen R _ mark _ _ = ⊥

-- a name that isn't any of three
pub record IsNone (a b c : Bool) : Type 0 where
  pub first : a ≡ false
  pub second : b ≡ false
  pub third : c ≡ false

pub none_of : (a b c : Bool) → (a || (b || c)) ≡ false → IsNone a b c
none_of false false false e = record { first = refl; second = refl; third = refl }
none_of false false true e = absurd (cc)
none_of false true c e = absurd (cc)
none_of true b c e = absurd (cc)

module _ (R : Relation) (x : List ℕ) where
  step_seen : (v i j : Bool) (k : Carried) (a m : Mark) (b c : Binding) (o : Option Carried) (p q : Option Binding) → i ≡ v → j ≡ v
      → Seen R (Some k) a (Some b) (Some c) → Seen R o m p q
      → Seen R (if v then Some k else o) (if v then a else m) (if i then Some b else p) (if j then Some c else q)
  step_seen true i j k a m b c o p q e f g h = rw (e, f) g
  step_seen false i j k a m b c o p q e f g h = rw (e, f) h

  added_seen : (v j : Bool) (y : List ℕ) (t : CType) (a m : Mark) (c : Binding) (o : Option Carried) (p q : Option Binding) → j ≡ v → Seen R o m p q
      → Seen R (if v then Some (Added y t) else o) (if v then a else m) p (if j then Some c else q)
  added_seen true j y t a m c o p q e h = tt
  added_seen false j y t a m c o p q e h = rw e h

  halved_seen : (v i j l : Bool) (y : List ℕ) (s : CType) (low high : List ℕ) (u t : CType) (a m : Mark) (b c d : Binding) (o : Option Carried)
      (p q : Option Binding)
      → (v ≡ false → IsNone i j l) → Seen R o m p q
      → Seen R (if v then Some (Halved y s low high u t) else o) (if v then a else m) (if i then Some b else p) (if j then Some c else if l then Some d else q)
  halved_seen true i j l y s low high u t a m b c d o p q e h = tt
  halved_seen false i j l y s low high u t a m b c d o p q e h = rw ((e refl).first, (e refl).second, (e refl).third) h

  -- the three names of a pair, at the objects themselves
  pub not_named : (y low high : List ℕ) (b c d : Binding) → b.name ≡ y → c.name ≡ high → d.name ≡ low
      → (bytes_eq x y || (bytes_eq x low || bytes_eq x high)) ≡ false → IsNone (bytes_eq x b.name) (bytes_eq x c.name) (bytes_eq x d.name)
  not_named y low high b c d e f g h =
      let n = none_of (bytes_eq x y) (bytes_eq x low) (bytes_eq x high) h in
      record { first = ap (bytes_eq x) e ∙ n.first; second = ap (bytes_eq x) f ∙ n.third; third = ap (bytes_eq x) g ∙ n.second }

  pub found_seen : (scope : List Carried) (ks : Marks) (bs cs : List Binding) → Scope R scope ks bs cs
      → Seen R (carried x scope) (mark_of x scope ks) (found x bs) (found x cs)
  found_seen [] ks [] [] h = tt
  found_seen (Shared way y s t ∷ rest) ks (b ∷ bs) (c ∷ cs) h =
      step_seen (bytes_eq x y) (bytes_eq x b.name) (bytes_eq x c.name) (Shared way y s t) (ks 0) (mark_of x rest (outer ks)) b c (carried x rest)
      (found x bs) (found x cs) (ap (bytes_eq x) h.0.name) (ap (bytes_eq x) h.0.other_name) (h.0, h.1)
      (found_seen rest (outer ks) bs cs h.2)
  found_seen (Added y t ∷ rest) ks bs (c ∷ cs) h =
      added_seen (bytes_eq x y) (bytes_eq x c.name) y t (ks 0) (mark_of x rest (outer ks)) c (carried x rest) (found x bs) (found x cs)
      (ap (bytes_eq x) h.0.name) (found_seen rest (outer ks) bs cs h.2)
  found_seen (Halved y s low high u t ∷ rest) ks (b ∷ bs) (c ∷ d ∷ cs) h =
      halved_seen (is_named x (Halved y s low high u t)) (bytes_eq x b.name) (bytes_eq x c.name) (bytes_eq x d.name) y s low high u t (ks 0)
      (mark_of x rest (outer ks)) b c d (carried x rest) (found x bs) (found x cs)
      (not_named y low high b c d h.0.whole.name h.0.high_half.name h.0.low_half.name) (found_seen rest (outer ks) bs cs h.1)
  found_seen [] ks [] (c ∷ cs) h = absurd h
  found_seen [] ks (b ∷ bs) cs h = absurd h
  found_seen (Shared way y s t ∷ rest) ks [] cs h = absurd h
  found_seen (Shared way y s t ∷ rest) ks (b ∷ bs) [] h = absurd h
  found_seen (Added y t ∷ rest) ks bs [] h = absurd h
  found_seen (Halved y s low high u t ∷ rest) ks [] cs h = absurd h
  found_seen (Halved y s low high u t ∷ rest) ks (b ∷ bs) [] h = absurd h
  found_seen (Halved y s low high u t ∷ rest) ks (b ∷ bs) (c ∷ []) h = absurd h

-- ---- an object that changes

-- one step: the innermost object of the name, or one further out
abbrev step : Bool → Binding → (Location → Location) → List Binding → List Binding → List Binding
step v b f bs after = if v then record b { location = f b.location } ∷ bs else b ∷ after

-- the object is one of both, and is kept as it was also where its place in both changes
abbrev pub Changes : Relation → (Location → Location) → (Location → Location) → Option Carried → Mark → Type 0
Changes R f g (Some (Shared way y s t)) mark = (l m : Location) → Kept R way s mark l m → Kept R way s mark (f l) (g m)
Changes R f g _ mark = ⊥

module _ (R : Relation) (x : List ℕ) (f g : Location → Location) where
  shared_changed : (v i j : Bool) (way : Way) (y : List ℕ) (s t : CType) (b c : Binding) (rest : List Carried) (ks : Marks) (bs cs ds es : List Binding)
      (o : Option Carried) (m : Mark)
      → i ≡ v → j ≡ v → Both y s t b c → Kept R way s (ks 0) b.location c.location
      → Scope R rest (outer ks) bs cs → Changes R f g (if v then Some (Shared way y s t) else o) (if v then ks 0 else m) →
      (Changes R f g o m → Scope R rest (outer ks) ds es)
      → Scope R (Shared way y s t ∷ rest) ks (step i b f bs ds) (step j c g cs es)
  shared_changed true i j way y s t b c rest ks bs cs ds es o m e1 e2 h k l q next =
      rw (e1, e2) (record { name = h.name; other_name = h.other_name; ty = h.ty; other_ty = h.other_ty }, q b.location c.location k, l)
  shared_changed false i j way y s t b c rest ks bs cs ds es o m e1 e2 h k l q next = rw (e1, e2) (h, k, next q)

  added_changed : (v j : Bool) (y : List ℕ) (t : CType) (c : Binding) (rest : List Carried) (ks : Marks) (bs cs es : List Binding) (o : Option Carried)
      (m : Mark)
      → j ≡ v → IsNamed y t c → AddedAt (ks 0) c.location
      → Changes R f g (if v then Some (Added y t) else o) (if v then ks 0 else m) → (Changes R f g o m → Scope R rest (outer ks) bs es) → Scope R
      (Added y t ∷ rest) ks bs (step j c g cs es)
  added_changed true j y t c rest ks bs cs es o m e h k q next = absurd q
  added_changed false j y t c rest ks bs cs es o m e h k q next = rw e (h, k, next q)

  halved_changed : (v i j l : Bool) (y : List ℕ) (s : CType) (low high : List ℕ) (u t : CType) (b c d : Binding) (rest : List Carried) (ks : Marks)
      (bs cs ds es : List Binding) (o : Option Carried) (m : Mark)
      → (v ≡ false → IsNone i j l)
      → InHalves R y s low high u t b d c → Changes R f g (if v then Some (Halved y s low high u t) else o) (if v then ks 0 else m) →
      (Changes R f g o m → Scope R rest (outer ks) ds es)
      → Scope R (Halved y s low high u t ∷ rest) ks (step i b f bs ds) (step j c g (d ∷ cs) (step l d g cs es))
  halved_changed true i j l y s low high u t b c d rest ks bs cs ds es o m e h q next = absurd q
  halved_changed false i j l y s low high u t b c d rest ks bs cs ds es o m e h q next = rw ((e refl).first, (e refl).second, (e refl).third) (h, next q)

  pub changed_alike : (scope : List Carried) (ks : Marks) (bs cs : List Binding) → Scope R scope ks bs cs
      → Changes R f g (carried x scope) (mark_of x scope ks) → Scope R scope ks (changed x f bs) (changed x g cs)
  changed_alike [] ks bs cs h k = absurd k
  changed_alike (Shared way y s t ∷ rest) ks (b ∷ bs) (c ∷ cs) h k =
      shared_changed (bytes_eq x y) (bytes_eq x b.name) (bytes_eq x c.name) way y s t b c rest ks bs cs (changed x f bs) (changed x g cs) (carried x rest)
      (mark_of x rest (outer ks)) (ap (bytes_eq x) h.0.name) (ap (bytes_eq x) h.0.other_name) h.0 h.1 h.2 k
      (changed_alike rest (outer ks) bs cs h.2)
  changed_alike (Added y t ∷ rest) ks bs (c ∷ cs) h k =
      added_changed (bytes_eq x y) (bytes_eq x c.name) y t c rest ks (changed x f bs) cs (changed x g cs) (carried x rest) (mark_of x rest (outer ks))
      (ap (bytes_eq x) h.0.name) h.0 h.1 k (changed_alike rest (outer ks) bs cs h.2)
  changed_alike (Halved y s low high u t ∷ rest) ks (b ∷ bs) (c ∷ d ∷ cs) h k =
      halved_changed (is_named x (Halved y s low high u t)) (bytes_eq x b.name) (bytes_eq x c.name) (bytes_eq x d.name) y s low high u t b c d rest ks bs cs
      (changed x f bs) (changed x g cs) (carried x rest) (mark_of x rest (outer ks))
      (not_named R x y low high b c d h.0.whole.name h.0.high_half.name h.0.low_half.name) h.0 k (changed_alike rest (outer ks) bs cs h.1)
  changed_alike (Shared way y s t ∷ rest) ks [] cs h k = absurd h
  changed_alike (Shared way y s t ∷ rest) ks (b ∷ bs) [] h k = absurd h
  changed_alike (Added y t ∷ rest) ks bs [] h k = absurd h
  changed_alike (Halved y s low high u t ∷ rest) ks [] cs h k = absurd h
  changed_alike (Halved y s low high u t ∷ rest) ks (b ∷ bs) [] h k = absurd h
  changed_alike (Halved y s low high u t ∷ rest) ks (b ∷ bs) (c ∷ []) h k = absurd h

-- ---- scopes that are left

-- how many objects each unit has in scope
abbrev of_first : List Carried → ℕ
of_first [] = 0
of_first (Shared way x s t ∷ rest) = suc (of_first rest)
of_first (Added x t ∷ rest) = of_first rest
of_first (Halved x s low high h t ∷ rest) = suc (of_first rest)

abbrev of_second : List Carried → ℕ
of_second [] = 0
of_second (Shared way x s t ∷ rest) = suc (of_second rest)
of_second (Added x t ∷ rest) = suc (of_second rest)
of_second (Halved x s low high h t ∷ rest) = suc (suc (of_second rest))

record AreLong (scope : List Carried) (bs cs : List Binding) : Type 0 where
  first : length bs ≡ of_first scope
  second : length cs ≡ of_second scope

lengths : (R : Relation) (scope : List Carried) (ks : Marks) (bs cs : List Binding) → Scope R scope ks bs cs → AreLong scope bs cs
lengths R [] ks [] [] h = record { first = refl; second = refl }
lengths R (Shared way y s t ∷ rest) ks (b ∷ bs) (c ∷ cs) h =
    let l = lengths R rest (outer ks) bs cs h.2 in record { first = ap suc l.first; second = ap suc l.second }
lengths R (Added y t ∷ rest) ks bs (c ∷ cs) h = let l = lengths R rest (outer ks) bs cs h.2 in record { first = l.first; second = ap suc l.second }
lengths R (Halved y s low high u t ∷ rest) ks (b ∷ bs) (c ∷ d ∷ cs) h =
    let l = lengths R rest (outer ks) bs cs h.1 in record { first = ap suc l.first; second = ap (λ k. suc (suc k)) l.second }
lengths R [] ks [] (c ∷ cs) h = absurd h
lengths R [] ks (b ∷ bs) cs h = absurd h
lengths R (Shared way y s t ∷ rest) ks [] cs h = absurd h
lengths R (Shared way y s t ∷ rest) ks (b ∷ bs) [] h = absurd h
lengths R (Added y t ∷ rest) ks bs [] h = absurd h
lengths R (Halved y s low high u t ∷ rest) ks [] cs h = absurd h
lengths R (Halved y s low high u t ∷ rest) ks (b ∷ bs) [] h = absurd h
lengths R (Halved y s low high u t ∷ rest) ks (b ∷ bs) (c ∷ []) h = absurd h

-- marks only count where they are asked for
pub same_marks : (R : Relation) (scope : List Carried) (ks ls : Marks) (bs cs : List Binding) → ((i : ℕ) → ks i ≡ ls i) → Scope R scope ks bs cs
    → Scope R scope ls bs cs
same_marks R [] ks ls [] [] e h = tt
same_marks R (Shared way y s t ∷ rest) ks ls (b ∷ bs) (c ∷ cs) e h =
    (h.0, subst (λ k. Kept R way s k b.location c.location) (e 0) h.1, same_marks R rest (outer ks) (outer ls) bs cs (λ i. e (suc i)) h.2)
same_marks R (Added y t ∷ rest) ks ls bs (c ∷ cs) e h =
    (h.0, subst (λ k. AddedAt k c.location) (e 0) h.1, same_marks R rest (outer ks) (outer ls) bs cs (λ i. e (suc i)) h.2)
same_marks R (Halved y s low high u t ∷ rest) ks ls (b ∷ bs) (c ∷ d ∷ cs) e h = (h.0, same_marks R rest (outer ks) (outer ls) bs cs (λ i. e (suc i)) h.1)
same_marks R [] ks ls [] (c ∷ cs) e h = absurd h
same_marks R [] ks ls (b ∷ bs) cs e h = absurd h
same_marks R (Shared way y s t ∷ rest) ks ls [] cs e h = absurd h
same_marks R (Shared way y s t ∷ rest) ks ls (b ∷ bs) [] e h = absurd h
same_marks R (Added y t ∷ rest) ks ls bs [] e h = absurd h
same_marks R (Halved y s low high u t ∷ rest) ks ls [] cs e h = absurd h
same_marks R (Halved y s low high u t ∷ rest) ks ls (b ∷ bs) [] e h = absurd h
same_marks R (Halved y s low high u t ∷ rest) ks ls (b ∷ bs) (c ∷ []) e h = absurd h

one_more : (a m : ℕ) → suc (a + m) ≡ suc a + m
one_more a m = omega arith

-- what is left of the objects behind those that were added
rest_alike : (R : Relation) (more scope : List Carried) (ks ls : Marks) (bs cs : List Binding) (i j : ℕ) → Scope R (more ++ scope) ks bs cs
    → ((m : ℕ) → ks (length more + m) ≡ ls m) → i ≡ of_first more → j ≡ of_second more
    → Scope R scope ls (drop i bs) (drop j cs)
rest_alike R [] scope ks ls bs cs i j h g e f = rw (e, f) (same_marks R scope ks ls bs cs (λ m. ap ks (sym (zero-add m)) ∙ g m) h)
rest_alike R (Shared way y s t ∷ more) scope ks ls (b ∷ bs) (c ∷ cs) i j h g e f =
    rw (e, f) (rest_alike R more scope (outer ks) ls bs cs (of_first more) (of_second more) h.2 (λ m. ap ks (one_more (length more) m) ∙ g m) refl refl)
rest_alike R (Added y t ∷ more) scope ks ls bs (c ∷ cs) i j h g e f =
    rw (e, f) (rest_alike R more scope (outer ks) ls bs cs (of_first more) (of_second more) h.2 (λ m. ap ks (one_more (length more) m) ∙ g m) refl refl)
rest_alike R (Halved y s low high u t ∷ more) scope ks ls (b ∷ bs) (c ∷ d ∷ cs) i j h g e f =
    rw (e, f) (rest_alike R more scope (outer ks) ls bs cs (of_first more) (of_second more) h.1 (λ m. ap ks (one_more (length more) m) ∙ g m) refl refl)
rest_alike R (Shared way y s t ∷ more) scope ks ls [] cs i j h g e f = absurd h
rest_alike R (Shared way y s t ∷ more) scope ks ls (b ∷ bs) [] i j h g e f = absurd h
rest_alike R (Added y t ∷ more) scope ks ls bs [] i j h g e f = absurd h
rest_alike R (Halved y s low high u t ∷ more) scope ks ls [] cs i j h g e f = absurd h
rest_alike R (Halved y s low high u t ∷ more) scope ks ls (b ∷ bs) [] i j h g e f = absurd h
rest_alike R (Halved y s low high u t ∷ more) scope ks ls (b ∷ bs) (c ∷ []) i j h g e f = absurd h

first_of_both : (more scope : List Carried) → of_first (more ++ scope) ≡ of_first more + of_first scope
first_of_both [] scope = omega arith
first_of_both (Shared way y s t ∷ more) scope = let e = first_of_both more scope in omega arith
first_of_both (Added y t ∷ more) scope = first_of_both more scope
first_of_both (Halved y s low high u t ∷ more) scope = let e = first_of_both more scope in omega arith

second_of_both : (more scope : List Carried) → of_second (more ++ scope) ≡ of_second more + of_second scope
second_of_both [] scope = omega arith
second_of_both (Shared way y s t ∷ more) scope = let e = second_of_both more scope in omega arith
second_of_both (Added y t ∷ more) scope = let e = second_of_both more scope in omega arith
second_of_both (Halved y s low high u t ∷ more) scope = let e = second_of_both more scope in omega arith

pub left_alike : (R : Relation) (scope : List Carried) (ks : Marks) (os ps bs cs : List Binding) → Scope R scope ks os ps → Within R scope ks bs cs
    → Scope R scope ks (drop (length bs - length os) bs) (drop (length cs - length ps) cs)
left_alike R scope ks os ps bs cs h w =
    let l = lengths R (w.more ++ scope) w.all bs cs w.scoped in
    let k = lengths R scope ks os ps h in
    let e1 : length bs ≡ of_first w.more + of_first scope = l.first ∙ first_of_both w.more scope in
    let e2 : length cs ≡ of_second w.more + of_second scope = l.second ∙ second_of_both w.more scope in
    let e3 = k.first in
    let e4 = k.second in
    rest_alike R w.more scope w.all ks bs cs _ _ w.scoped w.kept (omega arith) (omega arith)

-- nothing was added, or more than that
pub within_none : (R : Relation) (scope : List Carried) (ks : Marks) (bs cs : List Binding) → Scope R scope ks bs cs → Within R scope ks bs cs
within_none R scope ks bs cs h = record { more = []; all = ks; scoped = h; kept = λ i. ap ks (zero-add i) }

pub within_more : (R : Relation) (k : Carried) (scope : List Carried) (mark : Mark) (ks : Marks) (bs cs : List Binding)
    → Within R (k ∷ scope) (inner mark ks) bs cs → Within R scope ks bs cs
within_more R k scope mark ks bs cs h = record {
  more = h.more ++ (k ∷ []);
  all = h.all;
  scoped = subst (λ z. Scope R z h.all bs cs) (sym (append_assoc h.more (k ∷ []) scope)) h.scoped;
  kept = λ j. ap h.all (further_on (length (h.more ++ (k ∷ []))) (length h.more) j (length-append h.more (k ∷ []))) ∙ h.kept (suc j);
}
  where
    further_on : (a b j : ℕ) → a ≡ b + 1 → a + j ≡ b + suc j
    further_on a b j e = omega arith

-- an object by its name
abbrev pub Binds : Relation → Way → List ℕ → CType → CType → Mark → Binding → Binding → Type 0
Binds R way x s t mark b c = Both x s t b c × Kept R way s mark b.location c.location

seen_binds : (R : Relation) (way : Way) (x : List ℕ) (s t : CType) (mark : Mark) (o r : Option Binding) → Seen R (Some (Shared way x s t)) mark o r
    → Options (Binds R way x s t mark) o r
seen_binds R way x s t mark (Some b) (Some c) h = h
seen_binds R way x s t mark None r h = tt
seen_binds R way x s t mark (Some b) None h = absurd h

module _ {n : ℕ} (R : Relation) (scope : List Carried) (ks : Marks) where
  left_sim : {A B : Type 0} (V : A → B → Type 0) (s t : State) (o : Out A) (r : Out B) → Alike n (Scope R scope ks) s t
      → Ends V (After n (Within R scope ks) t) o r → Ends V (After n (Scope R scope ks) t) (then_do o (leave s)) (then_do r (leave t))
  left_sim V s t Undefined r e h = tt
  left_sim V s t Turns Turns e h = tt
  left_sim V s t Turns (Done b v) e h = absurd h
  left_sim V s t Turns Undefined e h = absurd h
  left_sim V s t (Done a u) (Done b v) e h = (
    h.0,
    record {
      alike = record {
        objects = left_alike R scope ks s.objects t.objects u.objects v.objects e.objects h.1.alike.objects;
        memory = subst (λ k. Blocks n (ended_from (length s.memory) u.memory) (ended_from k v.memory)) (length_alike n s.memory t.memory e.memory)
            (ended_from_alike n (length s.memory) u.memory v.memory h.1.alike.memory);
        left = h.1.alike.left;
      };
      stays = ended_stays t.memory v.memory h.1.stays;
    },
  )
  left_sim V s t (Done a u) Turns e h = absurd h
  left_sim V s t (Done a u) Undefined e h = absurd h

  -- what is declared in a block is out of scope behind it
  pub scoped_sim : {A B : Type 0} {V : A → B → Type 0} {p : Does A} {q : Does B} → Sim n V (Scope R scope ks) (Within R scope ks) p q
      → Sim n V (Scope R scope ks) (Scope R scope ks) (scoped p) (scoped q)
  scoped_sim {V = V} {p = p} {q = q} h = record { by = λ s t e. left_sim V s t (p s) (q t) e (h.by s t e) }

  found_ends : (V : Binding → Binding → Type 0) (o r : Option Binding) (s t : State) → Alike n (Scope R scope ks) s t → Options V o r
      → Ends V (After n (Scope R scope ks) t) (defined o s) (defined r t)
  found_ends V None r s t e h = tt
  found_ends V (Some b) None s t e h = absurd h
  found_ends V (Some b) (Some c) s t e h = (h, after_same n (Scope R scope ks) s t e)

  -- an object of both
  pub object_sim : (way : Way) (x : List ℕ) (s t : CType) → carried x scope ≡ Some (Shared way x s t)
      → Sim n (Binds R way x s t (mark_of x scope ks)) (Scope R scope ks) (Scope R scope ks) (object_of x) (object_of x)
  object_sim way x s t is = record {
    by = λ u v e. found_ends (Binds R way x s t (mark_of x scope ks)) (found x u.objects) (found x v.objects) u v e
        (seen_binds R way x s t (mark_of x scope ks) (found x u.objects) (found x v.objects)
        (subst (λ o. Seen R o (mark_of x scope ks) (found x u.objects) (found x v.objects)) is (found_seen R x scope ks u.objects v.objects e.objects)));
  }

  -- it changes in both
  pub change_sim : (x : List ℕ) (f g : Location → Location) → Changes R f g (carried x scope) (mark_of x scope ks)
      → Sim n ◌≡◌ (Scope R scope ks) (Scope R scope ks) (change x f) (change x g)
  change_sim x f g h = record {
    by = λ s t e. (
      refl,
      record {
        alike = record { objects = changed_alike R x f g scope ks s.objects t.objects e.objects h; memory = e.memory; left = e.left };
        stays = stays_same t.memory;
      },
    );
  }

  -- it gets a value; one that keeps its value gets none
  pub set_apart_sim : (way : Way) (x : List ℕ) (s t : CType) (v w : Value) → carried x scope ≡ Some (Shared way x s t) → MayChange way → R s v w
      → Sim n ◌≡◌ (Scope R scope ks) (Scope R scope ks) (set_apart x v) (set_apart x w)
  set_apart_sim way x s t v w is may h =
      change_sim x (λ _. Apart (Some v)) (λ _. Apart (Some w)) (subst (λ o. Changes R (λ _. Apart (Some v)) (λ _. Apart (Some w)) o (mark_of x scope ks))
      (sym is) (changes way may))
    where
      changes : (way : Way) → MayChange way → (l m : Location) → Kept R way s (mark_of x scope ks) l m
          → Kept R way s (mark_of x scope ks) (Apart (Some v)) (Apart (Some w))
      changes MayBeSet may l m k = h
      changes Fixed may l m k = (v, w, record { first = refl; second = refl; values = h })
      changes Held may l m k = absurd may
      changes InMemory may l m k = absurd may
