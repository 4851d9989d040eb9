-- Names in a set.
use Rattle.std.proofs.Common.{◌≡◌, ℕ, Bool, true, false, cond, ◌||◌, List, [], ◌∷◌, ◌++◌, map, Option, Some, None, is_some, Result, Ok, Err, OnOk, refl, ◌∙◌, ap}
use Rattle.std.proofs.lemmas.List.{map-append}
use Rattle.scopes.specs.Scopes.{named, same_name}
use Rattle.simd_top.specs.Form.{is_in}

pub found : (x : List ℕ) (es : List (List ℕ × Bool)) → is_some (named x es) ≡ is_in (map (λ e. e.0) es) x
found x [] = refl
found x (e ∷ es) = go (same_name x e.0) (found x es)
  where
    go : (b : Bool) → is_some (named x es) ≡ is_in (map (λ e. e.0) es) x → is_some (cond b (Some e.1) (named x es)) ≡ (b || is_in (map (λ e. e.0) es) x)
    go true h = refl
    go false h = h

none_is : (o : Option Bool) → is_some o ≡ false → o ≡ None
none_is None h = refl
none_is (Some b) h = absurd (cc)

pub unseen : (x : List ℕ) (es : List (List ℕ × Bool)) → is_in (map (λ e. e.0) es) x ≡ false → named x es ≡ None
unseen x es h = none_is (named x es) (found x es ∙ h)

pub one_more : (x : List ℕ) (b : Bool) (es : List (List ℕ × Bool)) → map {B = List ℕ} (λ e. e.0) (es ++ (x, b) ∷ []) ≡ map (λ e. e.0) es ++ x ∷ []
one_more x b es = map-append {B = List ℕ} (λ e. e.0) es ((x, b) ∷ [])

pub added : {E : Type 0} (x : List ℕ) (old new : List (List ℕ × Bool)) (r : Result (Unit {0}) E) → OnOk r (new ≡ old ++ (x, true) ∷ []) →
    OnOk r (map {B = List ℕ} (λ e. e.0) new ≡ map {B = List ℕ} (λ e. e.0) old ++ x ∷ [])
added x old new (Ok u) h = ap (map {B = List ℕ} (λ e. e.0)) h ∙ one_more x true old
added x old new (Err e) h = tt
