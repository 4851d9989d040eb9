-- What is chosen is an element of the list, and passes.
use Rattle.std.proofs.Common.{◌≡◌, ℕ, suc, List, [], ◌∷◌, Bool, true, false, Option, Some, None, refl, arith, subst}
use Rattle.std.specs.Prelude.{nat_lt, slice_get, if◌then◌else◌}
use Rattle.row_plans.specs.Choice.{lesser, first_least}

-- the element stands in the list and passes
pub record IsAmong {A : Type 0} (passes : A → Bool) (all : List A) (a : A) : Type 0 where
  pub place : ℕ
  pub there : slice_get all place ≡ Some a
  pub passed : passes a ≡ true

inner : {A : Type 0} {a b : A} → Some a ≡ Some b → a ≡ b
inner h = cc

later : {A : Type 0} (passes : A → Bool) (x : A) (rest : List A) (a : A) → IsAmong passes rest a → IsAmong passes (x ∷ rest) a
later passes x rest a h = record { place = suc h.place; there = h.there; passed = h.passed }

lesser_among : {A : Type 0} (passes : A → Bool) (price : A → ℕ) (x : A) (rest : List A) (o : Option A) (a : A) → passes x ≡ true → ((b : A) → o ≡ Some b → IsAmong passes rest b) → lesser price x o ≡ a
    → IsAmong passes (x ∷ rest) a
lesser_among passes price x rest None a p k e = subst (IsAmong passes (x ∷ rest)) e (record { place = 0; there = refl; passed = p })
lesser_among passes price x rest (Some b) a p k e = at (nat_lt (price b) (price x)) e
  where
    at : (v : Bool) → (if v then b else x) ≡ a → IsAmong passes (x ∷ rest) a
    at true g = subst (IsAmong passes (x ∷ rest)) g (later passes x rest b (k b refl))
    at false g = subst (IsAmong passes (x ∷ rest)) g (record { place = 0; there = refl; passed = p })

pub least_among : {A : Type 0} (passes : A → Bool) (price : A → ℕ) (all : List A) (a : A) → first_least passes price all ≡ Some a → IsAmong passes all a
unfolding first_least
least_among {A = A} passes price [] a h = absurd (grind (arith, h))
least_among {A = A} passes price (x ∷ rest) a h = at (passes x) refl (λ b g. least_among passes price rest b g) h
  where
    at : (v : Bool) → passes x ≡ v → ((b : A) → first_least passes price rest ≡ Some b → IsAmong passes rest b)
        → (if v then Some (lesser price x (first_least passes price rest)) else first_least passes price rest) ≡ Some a → IsAmong passes (x ∷ rest) a
    at true e k g = lesser_among passes price x rest (first_least passes price rest) a e k (inner g)
    at false e k g = later passes x rest a (k a g)
