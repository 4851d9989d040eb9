-- What contracts see of a set of names.
use Rattle.std.specs.Prelude.{◌≡◌, ℕ, List, [], map, true, false, Option, Some, None}
use Rattle.c_tree.specs.Tree.{Object}
use Rattle.scopes.specs.Scopes.{entries_of}
use Rattle.simd_top.specs.declared.names.NameSet.{NameSet}
use Rattle.simd_top.specs.Form.{are_parameters, names_of}

abbrev pub names_in : NameSet → List (List ℕ)
names_in s = map (λ e. e.0) (entries_of s.names)

-- the names of these parameters, where all are of the form
abbrev pub AreNames : List Object → Option NameSet → Type 0
AreNames os (Some s) = (are_parameters [] os ≡ true) × (names_in s ≡ names_of os)
AreNames os None = are_parameters [] os ≡ false
