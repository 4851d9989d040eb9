-- The functions of a unit: those of a name, and what calls of them do.
use Rattle.std.specs.Prelude.{ℕ, Bool, not, List, [], ◌∷◌, map, find, Option}
use Rattle.std.specs.List.{list_all}
use Rattle.std.specs.Str.{bytes_eq}
use Rattle.c_tree.specs.declared.types.CType.{CType}
use Rattle.c_tree.specs.Tree.{Object, Definition, External}
use Rattle.c_memory.specs.MeaningState.{Binding}
use Rattle.c_memory.specs.Meaning.{Calls, functions, with_function}

-- the types of parameters, in order
abbrev pub types_of : List Object → List CType
types_of params = map (λ d. d.ty) params

-- the first function of the name
abbrev pub function_named : List ℕ → List External → Option Definition
function_named name unit = find (λ f. bytes_eq name f.name) (functions unit)

-- the calls, and those of these functions too, each of which calls those before it
abbrev pub calls_of : List Binding → Calls → List Definition → Calls
calls_of tables c [] = c
calls_of tables c (f ∷ rest) = calls_of tables (with_function tables f c) rest

-- none of these functions has the name
abbrev pub none_named : List ℕ → List Definition → Bool
none_named name all = list_all (λ f. not (bytes_eq name f.name)) all
