-- What contracts see of the functions that a run may call.
use Rattle.std.specs.Prelude.{ℕ, zero, suc, Bool, true, false, not, ◌&&◌, List, [], ◌∷◌, map, take}
use Rattle.std.specs.Str.{bytes_eq}
use Rattle.c_tree.specs.View.{view_function}
use Rattle.address_taken.specs.Taken.{seen_function}
use Rattle.c_memory.specs.Meaning as meaning
use Rattle.c_memory.specs.Meaning.{Calls}
use Rattle.c_meaning.specs.declared.calls.Callee.{Callee}
use Rattle.c_meaning.specs.declared.calls.Flow.{Flow}
use Rattle.c_meaning.specs.declared.calls.Flow.TheVariants.{Next, Broke, Continued, Returned}
use Rattle.c_meaning.specs.declared.objects.Objects.{Objects}
use Rattle.c_meaning.specs.Seen.{seen_objects}
use Rattle.c_meaning.specs.Flagged.{Flagged, calls_with}

abbrev pub seen_callee : Callee → Flagged
seen_callee f = record { function = view_function f.function.now; taken = seen_function f.taken }

-- the calls of the rows, and of the first n functions
abbrev pub calls_at : Objects → Calls → List Callee → ℕ → Calls
calls_at tables rows all n = calls_with (seen_objects tables) rows (take n (map seen_callee all))

-- none of these functions has that name
abbrev pub none_called : List ℕ → List Callee → Bool
none_called name [] = true
none_called name (f ∷ rest) = not (bytes_eq name f.function.now.name) && none_called name rest

-- the last of these functions that has that name stands at the place k
abbrev pub is_last_called : List ℕ → List Callee → ℕ → Bool
is_last_called name [] k = false
is_last_called name (f ∷ rest) zero = bytes_eq name f.function.now.name && none_called name rest
is_last_called name (f ∷ rest) (suc k) = is_last_called name rest k

abbrev pub seen_flow : Flow → meaning.Flow
seen_flow Next = meaning.Next
seen_flow Broke = meaning.Broke
seen_flow Continued = meaning.Continued
seen_flow (Returned v) = meaning.Returned v
