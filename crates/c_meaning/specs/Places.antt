-- What contracts see of places of names.
use Rattle.std.specs.Prelude.{ℕ, bytes_eq, List, Option}
use Rattle.std.specs.Map.{lookup}
use Rattle.c_meaning.specs.declared.places.Places.{Places}

abbrev pub place_of : Places → List ℕ → Option ℕ
place_of p x = lookup (λ k. bytes_eq x k.items) p.map.entries
