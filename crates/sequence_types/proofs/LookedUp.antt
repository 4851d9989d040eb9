-- What names find among objects of which one more is declared, and from inside one more scope (C11 6.2.1p4).
use Rattle.std.proofs.Common.{◌≡◌, ℕ, Bool, true, false, if◌then◌else◌, List, [], ◌∷◌, ◌++◌, Option, Some, None, refl, sym, ap, ◌∙◌}
use Rattle.std.specs.Cmp.Lexicographic.{bytes_decides}
use Rattle.scopes.specs.declared.environment.Object.{Object}
use Rattle.scopes.specs.Scopes.{Scope, same_name, named, or_else, visible}

pub same_to_itself : (x : List ℕ) → same_name x x ≡ true
same_to_itself x = (bytes_decides x x).1 refl

pub none_some : {A : Type 0} (v : A) → ◌≡◌ {A = Option A} None (Some v) → ⊥
none_some v h = cc

-- names that find different things differ
pub names_differ : {V : Type 0} (x y : List ℕ) (es : List (List ℕ × V)) (v : V) → named x es ≡ Some v → named y es ≡ None → same_name x y ≡ false
names_differ {V} x y es v h k = at (same_name x y) refl
  where
    at : (b : Bool) → same_name x y ≡ b → same_name x y ≡ false
    at true e = absurd (none_some v (sym k ∙ sym (ap (λ z. named z es) ((bytes_decides x y).0 e)) ∙ h))
    at false e = e

-- one more object at the end
pub still_none : {V : Type 0} (x y : List ℕ) (o : V) (es : List (List ℕ × V)) → named x es ≡ None → same_name x y ≡ false → named x (es ++ (y, o) ∷ []) ≡ None
still_none x y o [] h d = rw d refl
still_none {V} x y o (e ∷ es) h d = at (same_name x e.0) h (λ k. still_none x y o es k d)
  where
    at : (b : Bool) → (if b then Some e.1 else named x es) ≡ None → (named x es ≡ None → named x (es ++ (y, o) ∷ []) ≡ None) → (if b then Some e.1 else named x (es ++ (y, o) ∷ [])) ≡ None
    at true k next = absurd (none_some e.1 (sym k))
    at false k next = next k

pub found_last : {V : Type 0} (y : List ℕ) (o : V) (es : List (List ℕ × V)) → named y es ≡ None → named y (es ++ (y, o) ∷ []) ≡ Some o
found_last y o [] h = rw (same_to_itself y) refl
found_last {V} y o (e ∷ es) h = at (same_name y e.0) h (λ k. found_last y o es k)
  where
    at : (b : Bool) → (if b then Some e.1 else named y es) ≡ None → (named y es ≡ None → named y (es ++ (y, o) ∷ []) ≡ Some o) → (if b then Some e.1 else named y (es ++ (y, o) ∷ [])) ≡ Some o
    at true k next = absurd (none_some e.1 (sym k))
    at false k next = next k

pub still_found : {V : Type 0} (x : List ℕ) (v : V) (es fs : List (List ℕ × V)) → named x es ≡ Some v → named x (es ++ fs) ≡ Some v
still_found x v [] fs h = absurd (none_some v h)
still_found {V} x v (e ∷ es) fs h = at (same_name x e.0) h (λ k. still_found x v es fs k)
  where
    at : (b : Bool) → (if b then Some e.1 else named x es) ≡ Some v → (named x es ≡ Some v → named x (es ++ fs) ≡ Some v) → (if b then Some e.1 else named x (es ++ fs)) ≡ Some v
    at true k next = k
    at false k next = next k

-- an inner scope, and the scopes around it
pub both_none : {V : Type 0} (m o : Option V) → or_else m o ≡ None → (m ≡ None) × (o ≡ None)
both_none None o h = (refl, h)
both_none (Some v) o h = absurd (none_some v (sym h))

pub none_of_both : {V : Type 0} (m o : Option V) → m ≡ None → o ≡ None → or_else m o ≡ None
none_of_both m o h k = rw h k

pub invisible : (x : List ℕ) (outer : List Scope) (s : Scope) → visible x outer ≡ None → named x s ≡ None → visible x (outer ++ s ∷ []) ≡ None
invisible x [] s h k = k
invisible x (t ∷ inner) s h k = let b = both_none (visible x inner) (named x t) h in none_of_both (visible x (inner ++ s ∷ [])) (named x t) (invisible x inner s b.0 k) b.1

pub visible_inside : (x : List ℕ) (o : Object) (outer : List Scope) (s : Scope) → named x s ≡ Some o → visible x (outer ++ s ∷ []) ≡ Some o
visible_inside x o [] s h = h
visible_inside x o (t ∷ inner) s h = rw (visible_inside x o inner s h) refl
