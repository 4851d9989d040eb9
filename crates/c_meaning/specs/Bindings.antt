-- What contracts see of objects, and how they are found by their names.
use Rattle.std.specs.Prelude.{◌≡◌, ℕ, zero, suc, Bool, true, false, not, ◌&&◌, List, [], ◌∷◌, Option, Some, None}
use Rattle.std.specs.Str.{bytes_eq}
use Rattle.c_memory.specs.MeaningState as state
use Rattle.c_meaning.specs.declared.objects.Location.{Location}
use Rattle.c_meaning.specs.declared.objects.Location.TheVariants.{Apart, Halves, InBlock}
use Rattle.c_meaning.specs.declared.objects.Binding.{Binding}
use Rattle.c_meaning.specs.declared.places.Places.{Places}
use Rattle.c_meaning.specs.Places.{place_of}

abbrev pub seen_location : Location → state.Location
seen_location (Apart v) = state.Apart v
seen_location (Halves first second) = state.Halves first second
seen_location (InBlock block) = state.InBlock block

abbrev pub seen_binding : Binding → state.Binding
seen_binding b = record { name = b.name.now; ty = b.ty; location = seen_location b.location }

-- objects, the innermost last, on top of others, the innermost first
abbrev pub stacked : List Binding → List state.Binding → List state.Binding
stacked [] all = all
stacked (b ∷ rest) all = stacked rest (seen_binding b ∷ all)

-- the object somewhere else
abbrev pub relocated : Binding → Location → Binding
relocated b location = record b { location = location }

-- none of these objects has that name
abbrev pub none_named : List ℕ → List Binding → Bool
none_named name [] = true
none_named name (b ∷ rest) = not (bytes_eq name b.name.now) && none_named name rest

-- the last of these objects that has that name stands at the place k
abbrev pub is_last_named : List ℕ → List Binding → ℕ → Bool
is_last_named name [] k = false
is_last_named name (b ∷ rest) zero = bytes_eq name b.name.now && none_named name rest
is_last_named name (b ∷ rest) (suc k) = is_last_named name rest k

-- this is the place of the last of these objects that has the name, or none has it
abbrev pub is_last_place : List ℕ → List Binding → Option ℕ → Bool
is_last_place name all None = none_named name all
is_last_place name all (Some k) = is_last_named name all k

-- the places are those of the last objects of each name
abbrev pub ArePlaced : Places → List Binding → Type 0
ArePlaced places all = (x : List ℕ) → is_last_place x all (place_of places x) ≡ true
