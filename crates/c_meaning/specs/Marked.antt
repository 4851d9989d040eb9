-- A function of a unit with the truth values that `address_taken` gives.
use Rattle.std.specs.Prelude.{ℕ, zero, suc, Bool, true, false, not, ◌&&◌, List, [], ◌∷◌}
use Rattle.std.specs.Str.{bytes_eq}
use Rattle.c_tree.specs.Tree.{Definition}
use Rattle.address_taken.specs.Taken.{taken_function}
use Rattle.c_meaning.specs.Flagged.{Flagged}

abbrev pub marked : Definition → Flagged
marked f = record { function = f; taken = taken_function f }

-- none of these functions has that name
abbrev pub none_flagged : List ℕ → List Flagged → Bool
none_flagged name [] = true
none_flagged name (f ∷ rest) = not (bytes_eq name f.function.name) && none_flagged name rest

-- the first of these functions that has that name stands at the place k
abbrev pub is_first_flagged : List ℕ → List Flagged → ℕ → Bool
is_first_flagged name [] k = false
is_first_flagged name (f ∷ rest) zero = bytes_eq name f.function.name
is_first_flagged name (f ∷ rest) (suc k) = not (bytes_eq name f.function.name) && is_first_flagged name rest k
