-- How declarations are written (C11 6.7). The specifiers are those of the first declarator; in a unit that was read those of the
-- others are the same.
use Rattle.std.specs.Prelude.{ℕ, List, [], ◌∷◌, ◌++◌, Bool, true, false, ◌||◌, Option, Some, None, codes, bytes_eq}
use Rattle.std.specs.List.{list_all}
use Rattle.c_tree.specs.declared.types.CType.{CType}
use Rattle.c_tree.specs.declared.types.CType.TheVariants.{Pointer, Array}
use Rattle.c_tree.specs.Tree.{Tree, Trees, Object}
use Rattle.c_print.specs.Types.{const_text, base_text}
use Rattle.c_print.specs.Expressions.{part, list_text}

-- whether `const` stands before the type: a pointer has it for what it points to
abbrev pub has_const : CType → Bool → Bool
has_const (Pointer p base) constant = base
has_const (Array p n base) constant = base || constant
has_const _ constant = constant

-- what a declaration begins with, for a pointer without the `*` and for an array without the brackets
abbrev pub specifiers_text : Object → List ℕ
specifiers_text d = const_text (has_const d.ty d.constant) ++ (base_text d.ty ++ codes " ")

-- a pointer's `*`, and `const` for a pointer that is const itself
abbrev pub star_text : CType → Bool → List ℕ
star_text (Pointer p base) true = codes "*const "
star_text (Pointer p base) false = codes "*"
star_text _ constant = []

-- an array's length, where it is written
abbrev pub length_text : Option Tree → List ℕ
length_text None = []
length_text (Some n) = part 1 n

abbrev pub brackets_text : CType → Option Tree → List ℕ
brackets_text (Array p n base) length = codes "[" ++ (length_text length ++ codes "]")
brackets_text _ length = []

abbrev pub declarator_text : Object → List ℕ
declarator_text d = star_text d.ty d.constant ++ (d.name ++ brackets_text d.ty d.length)

-- what `_Alignas` and the attribute begin with; between the brackets stands a constant expression (C11 6.7.5)
unfoldable pub alignas_opening : List ℕ
alignas_opening = codes "_Alignas("

unfoldable pub attribute_opening : List ℕ
attribute_opening = codes " __attribute__((aligned("

-- the alignment of all declarators
abbrev pub alignas_text : Option Tree → List ℕ
alignas_text None = []
alignas_text (Some n) = alignas_opening ++ (part 2 n ++ codes ") ")

-- the alignment of one declarator, behind it
abbrev pub attribute_text : Option Tree → List ℕ
attribute_text None = []
attribute_text (Some n) = attribute_opening ++ (part 2 n ++ codes ")))")

-- whether the text of each one's alignment is this
abbrev pub have_alignment : List ℕ → List Object → Bool
have_alignment wanted all = list_all (λ d. bytes_eq (attribute_text d.align) wanted) all

-- whether all have the same alignment, or none has one
abbrev pub is_shared : List Object → Bool
is_shared [] = true
is_shared (d ∷ ds) = have_alignment (attribute_text d.align) ds

abbrev pub shared_text : Bool → Option Tree → List ℕ
shared_text true align = alignas_text align
shared_text false align = []

abbrev pub own_text : Bool → Option Tree → List ℕ
own_text true align = []
own_text false align = attribute_text align

-- what a scalar or a vector begins with
abbrev pub init_text : Option Tree → List ℕ
init_text None = []
init_text (Some e) = codes " = " ++ part 1 e

-- what an array begins with
abbrev pub init_list_text : Option Trees → List ℕ
init_list_text None = []
init_list_text (Some all) = codes " = {" ++ (list_text all ++ codes "}")

-- a declarator with its own alignment, where all don't share one, and its initialiser
abbrev pub declared_text : Bool → Object → List ℕ
declared_text shared d = declarator_text d ++ (own_text shared d.align ++ (init_text d.init ++ init_list_text d.list))

-- further declarators
abbrev pub further_text : Bool → List Object → List ℕ
further_text shared [] = []
further_text shared (d ∷ ds) = codes ", " ++ (declared_text shared d ++ further_text shared ds)

abbrev pub declaration_with : Bool → Object → List Object → List ℕ
declaration_with shared d ds = shared_text shared d.align ++ (specifiers_text d ++ (declared_text shared d ++ further_text shared ds))

-- a declaration without its `;`
abbrev pub declaration_text : List Object → List ℕ
declaration_text [] = []
declaration_text (d ∷ ds) = declaration_with (is_shared (d ∷ ds)) d ds

abbrev pub parameter_text : Object → List ℕ
parameter_text d = specifiers_text d ++ declarator_text d

abbrev pub further_parameters : List Object → List ℕ
further_parameters [] = []
further_parameters (d ∷ ds) = codes ", " ++ (parameter_text d ++ further_parameters ds)

-- the parameters of a function
abbrev pub parameters_text : List Object → List ℕ
parameters_text [] = codes "void"
parameters_text (d ∷ ds) = parameter_text d ++ further_parameters ds
