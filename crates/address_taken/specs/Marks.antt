-- What contracts see of the code's marks of names, and of the names that a scope hides.
use Rattle.std.specs.Prelude.{ℕ, Bool, false, ◌||◌, bytes_eq, List, [], ◌∷◌, Option, Some, None}
use Rattle.std.specs.Map.{lookup}
use Rattle.c_tree.specs.Tree.{Statements, NoStatements, Then}
use Rattle.address_taken.specs.Addressed.{declares}
use Rattle.address_taken.specs.declared.names.Marks.{Marks}

-- the mark that was found, or none
abbrev pub mark : Option Bool → Bool
mark None = false
mark (Some b) = b

abbrev pub is_marked : Marks → List ℕ → Bool
is_marked m x = mark (lookup (λ k. bytes_eq x k.items) m.map.entries)

-- the name is one of these
abbrev pub is_among : List ℕ → List (List ℕ) → Bool
is_among x [] = false
is_among x (y ∷ ys) = bytes_eq x y || is_among x ys

-- one of the statements declares the name, for those that follow it
abbrev pub declared_in : List ℕ → Statements → Bool
declared_in x NoStatements = false
declared_in x (Then s rest) = declares x s || declared_in x rest
