-- Functions that are found by their names.
use Rattle.std.specs.Prelude.{◌≡◌, ℕ, Bool, true, List, Option, Some, None, slice_get, take}
use Rattle.c_meaning.specs.declared.calls.Callee.{Callee}
use Rattle.c_meaning.specs.declared.places.Places.{Places}
use Rattle.c_meaning.specs.Places.{place_of}
use Rattle.c_meaning.specs.Callees.{none_called, is_last_called}

-- this is the place of the last of these functions that has the name, or none has it
abbrev pub is_last : List ℕ → List Callee → Option ℕ → Bool
is_last name all None = none_called name all
is_last name all (Some k) = is_last_called name all k

abbrev pub IsLast : List ℕ → List Callee → Option ℕ → Type 0
IsLast name all place = is_last name all place ≡ true

-- the places are those of the last functions of each name, and each function has the place of the last one before it that has its name
abbrev pub IsIndexed : Places → List Callee → Type 0
IsIndexed places all =
    ((x : List ℕ) → IsLast x all (place_of places x))
    × ((k : ℕ) (f : Callee) → slice_get all k ≡ Some f → IsLast f.function.now.name (take k all) f.same)
