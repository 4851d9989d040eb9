-- The text of a unit: three lines that include headers, and each function and table behind an empty line (C11 6.9).
use Rattle.std.specs.Prelude.{ℕ, List, [], ◌∷◌, ◌++◌, Bool, true, false, codes}
use Rattle.c_tree.specs.Tree.{Definition, External, Function, Table}
use Rattle.c_print.specs.Types.{const_text, is_base_const, base_text}
use Rattle.c_print.specs.Declarations.{star_text, parameters_text, declaration_text}
use Rattle.c_print.specs.Statements.{braced, statements_text}

abbrev pub static_text : Bool → List ℕ
static_text true = codes "static "
static_text false = []

abbrev pub inline_text : Bool → List ℕ
inline_text true = codes "inline "
inline_text false = []

-- a function's result, with the space or the `*` before its name
abbrev pub result_text : Definition → List ℕ
result_text f = const_text (is_base_const f.result) ++ (base_text f.result ++ (codes " " ++ star_text f.result false))

-- a function's heading
abbrev pub heading_text : Definition → List ℕ
heading_text f = static_text f.is_static ++ (inline_text f.is_inline ++ (result_text f ++ (f.name ++ (codes "(" ++ (parameters_text f.params ++ codes ") ")))))

abbrev pub function_text : Definition → List ℕ
function_text f = heading_text f ++ (braced 0 (statements_text 1 f.body) ++ codes "\n")

abbrev pub item_text : External → List ℕ
item_text (Function f) = function_text f
item_text (Table d is_static) = static_text is_static ++ (declaration_text (d ∷ []) ++ codes ";\n")

abbrev pub items_text : List External → List ℕ
items_text [] = []
items_text (item ∷ rest) = codes "\n" ++ (item_text item ++ items_text rest)

-- the lines that each text begins with
unfoldable pub header : List ℕ
header = codes "#include <arm_neon.h>\n#include <stddef.h>\n#include <stdint.h>\n"

-- the text of a unit
abbrev pub text_of : List External → List ℕ
text_of items = header ++ items_text items
