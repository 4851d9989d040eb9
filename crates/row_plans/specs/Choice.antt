-- The first element of least price.
use Rattle.std.specs.Prelude.{ℕ, nat_lt, Bool, List, [], ◌∷◌, Option, Some, None, if◌then◌else◌}

-- an element, unless a later one costs less
abbrev pub lesser : {A : Type 0} → (A → ℕ) → A → Option A → A
lesser price a None = a
lesser price a (Some b) = if nat_lt (price b) (price a) then b else a

-- the first of those that pass whose price no other one that passes goes below
unfoldable pub first_least : {A : Type 0} → (A → Bool) → (A → ℕ) → List A → Option A
first_least passes price [] = None
first_least passes price (a ∷ rest) = if passes a then Some (lesser price a (first_least passes price rest)) else first_least passes price rest
