-- The names of a unit's parameters.
use Rattle.std.specs.Prelude.{ℕ, List, map}
use Rattle.c_tree.specs.Tree.{External}
use Rattle.c_memory.specs.Meaning.{functions}

-- the names of each function's parameters
abbrev pub parameter_names : List External → List (List (List ℕ))
parameter_names unit = map (λ f. map (λ d. d.name) f.params) (functions unit)
