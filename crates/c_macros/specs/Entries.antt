-- What a map says that names stand for.
use Rattle.std.specs.Prelude.{ℕ, List, [], ◌∷◌, Option, None, if◌then◌else◌, nat_eq, Vec}
use Rattle.std.specs.Cmp.Lexicographic.{pointwise}
use Rattle.std.specs.declared.alloc.Global.{Global}
use Rattle.c_macros.specs.declared.names.Macros.{Macros as CodeMacros}
use Rattle.c_macros.specs.Definition.{Definition, Macros}

abbrev pub standing_for : List (Vec ℕ Global × Option Definition) → Macros
standing_for [] name = None
standing_for (e ∷ es) name = if pointwise nat_eq name e.0.items then e.1 else standing_for es name

-- what the macros of the code say
unfoldable pub macros_of : CodeMacros → Macros
macros_of m = standing_for m.map.entries
