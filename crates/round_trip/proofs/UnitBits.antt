-- The words that declarations, statements and units are written with.
use Rattle.std.proofs.Common.{ℕ, zero, suc, ◌+◌, List, [], ◌∷◌, Bool, true, false, Option, Some, None}
use Rattle.std.specs.Prelude.{codes, if◌then◌else◌}
use Rattle.c_tree.specs.declared.types.CType.{CType}
use Rattle.c_tree.specs.declared.types.CType.TheVariants as ctypes
use Rattle.c_tree.specs.Tree.{Tree, Trees, Object, Statement, Statements, Optional, Declare, Run, Block, If, While, DoWhile, For, Break, Continue, Return, Absent, Present, NoStatements, Then}
use Rattle.c_tree.specs.Tree.{Definition, External, Function, Table}
use Rattle.c_print.specs.declared.statements.Position.{Position}
use Rattle.c_print.specs.declared.statements.Position.TheVariants.{Line, Body, Else}
use Rattle.c_print.specs.Types.{is_base_const}
use Rattle.c_print.specs.Declarations.{has_const, is_shared}
use Rattle.c_print.specs.Statements.{is_if}
use Rattle.c_print.specs.Text.{header}
use Rattle.round_trip.specs.Words.{Bit}
use Rattle.round_trip.proofs.Bits.{name, mark, space, line_end, comma, base_bits, const_bits, expression_bits, part_bits, list_bits}

abbrev pub specifiers_bits : Object → List Bit → List Bit
specifiers_bits d bs = const_bits (has_const d.ty d.constant) (base_bits d.ty (space bs))

abbrev pub star_bits : CType → Bool → List Bit → List Bit
star_bits (ctypes.Pointer p base) true bs = mark (codes "*") (name (codes "const") (space bs))
star_bits (ctypes.Pointer p base) false bs = mark (codes "*") bs
star_bits t constant bs = bs

abbrev pub length_bits : Option Tree → List Bit → List Bit
length_bits None bs = bs
length_bits (Some n) bs = part_bits 1 n bs

abbrev pub brackets_bits : CType → Option Tree → List Bit → List Bit
brackets_bits (ctypes.Array p n base) length bs = mark (codes "[") (length_bits length (mark (codes "]") bs))
brackets_bits t length bs = bs

abbrev pub declarator_bits : Object → List Bit → List Bit
declarator_bits d bs = star_bits d.ty d.constant (name d.name (brackets_bits d.ty d.length bs))

abbrev pub alignas_bits : Option Tree → List Bit → List Bit
alignas_bits None bs = bs
alignas_bits (Some n) bs = name (codes "_Alignas") (mark (codes "(") (part_bits 2 n (mark (codes ")") (space bs))))

abbrev pub attribute_bits : Option Tree → List Bit → List Bit
attribute_bits None bs = bs
attribute_bits (Some n) bs = space (name (codes "__attribute__") (mark (codes "(") (mark (codes "(") (name (codes "aligned") (mark (codes "(") (part_bits 2 n (mark (codes ")") (mark (codes ")") (mark (codes ")") bs)))))))))

abbrev pub shared_bits : Bool → Option Tree → List Bit → List Bit
shared_bits true align bs = alignas_bits align bs
shared_bits false align bs = bs

abbrev pub own_bits : Bool → Option Tree → List Bit → List Bit
own_bits true align bs = bs
own_bits false align bs = attribute_bits align bs

abbrev pub init_bits : Option Tree → List Bit → List Bit
init_bits None bs = bs
init_bits (Some e) bs = space (mark (codes "=") (space (part_bits 1 e bs)))

abbrev pub init_list_bits : Option Trees → List Bit → List Bit
init_list_bits None bs = bs
init_list_bits (Some all) bs = space (mark (codes "=") (space (mark (codes "{") (list_bits all (mark (codes "}") bs)))))

abbrev pub declared_bits : Bool → Object → List Bit → List Bit
declared_bits shared d bs = declarator_bits d (own_bits shared d.align (init_bits d.init (init_list_bits d.list bs)))

abbrev pub further_bits : Bool → List Object → List Bit → List Bit
further_bits shared [] bs = bs
further_bits shared (d ∷ ds) bs = comma (declared_bits shared d (further_bits shared ds bs))

abbrev pub declaration_bits_with : Bool → Object → List Object → List Bit → List Bit
declaration_bits_with shared d ds bs = shared_bits shared d.align (specifiers_bits d (declared_bits shared d (further_bits shared ds bs)))

abbrev pub declaration_bits : List Object → List Bit → List Bit
declaration_bits [] bs = bs
declaration_bits (d ∷ ds) bs = declaration_bits_with (is_shared (d ∷ ds)) d ds bs

abbrev pub parameter_bits : Object → List Bit → List Bit
parameter_bits d bs = specifiers_bits d (declarator_bits d bs)

abbrev pub further_parameter_bits : List Object → List Bit → List Bit
further_parameter_bits [] bs = bs
further_parameter_bits (d ∷ ds) bs = comma (parameter_bits d (further_parameter_bits ds bs))

abbrev pub parameters_bits : List Object → List Bit → List Bit
parameters_bits [] bs = name (codes "void") bs
parameters_bits (d ∷ ds) bs = parameter_bits d (further_parameter_bits ds bs)

abbrev pub margin_bits : ℕ → List Bit → List Bit
margin_bits zero bs = bs
margin_bits (suc depth) bs = space (space (space (space (margin_bits depth bs))))

abbrev pub optional_bits : Option Tree → List Bit → List Bit
optional_bits None bs = bs
optional_bits (Some e) bs = space (expression_bits e bs)

abbrev pub simple_bits : Statement → List Bit → List Bit
simple_bits (Declare ds) bs = declaration_bits ds bs
simple_bits (Run e) bs = expression_bits e bs
simple_bits (Break p) bs = name (codes "break") bs
simple_bits (Continue p) bs = name (codes "continue") bs
simple_bits (Return p e) bs = name (codes "return") (optional_bits e bs)
simple_bits s bs = bs

abbrev pub start_bits : Optional → List Bit → List Bit
start_bits Absent bs = bs
start_bits (Present s) bs = simple_bits s bs

abbrev pub for_bits : Optional → Option Tree → Option Tree → List Bit → List Bit
for_bits start condition next bs =
    name (codes "for") (space (mark (codes "(") (start_bits start (mark (codes ";") (optional_bits condition (mark (codes ";") (optional_bits next (mark (codes ")") (space bs)))))))))

abbrev pub first_bits : Position → ℕ → List Bit → List Bit
first_bits Else depth bs = space (name (codes "else") (space bs))
first_bits p depth bs = margin_bits depth bs

-- a brace and what stands in it up to the brace that closes it
abbrev pub opened_bits : List Bit → List Bit
opened_bits bs = mark (codes "{") (line_end bs)

abbrev pub closed_bits : ℕ → List Bit → List Bit
closed_bits depth bs = margin_bits depth (mark (codes "}") bs)

abbrev pub condition_bits : List ℕ → Tree → List Bit → List Bit
condition_bits word c bs = name word (space (mark (codes "(") (expression_bits c (mark (codes ")") (space bs)))))

abbrev mutual
  pub statement_bits : Position → ℕ → Statement → List Bit → List Bit
  statement_bits Body depth (Block all) bs = statements_bits depth all bs
  statement_bits p depth (Block all) bs = first_bits p depth (opened_bits (statements_bits (depth + 1) all (closed_bits depth (line_end bs))))
  statement_bits p depth (If c s otherwise) bs = first_bits p depth (condition_bits (codes "if") c (opened_bits (statement_bits Body (depth + 1) s (closed_bits depth (otherwise_bits depth otherwise bs)))))
  statement_bits p depth (While c s) bs = first_bits p depth (condition_bits (codes "while") c (opened_bits (statement_bits Body (depth + 1) s (closed_bits depth (line_end bs)))))
  statement_bits p depth (DoWhile s c) bs =
      first_bits p depth (name (codes "do") (space (opened_bits (statement_bits Body (depth + 1) s (closed_bits depth (space (name (codes "while") (space (mark (codes "(") (expression_bits c (mark (codes ")") (mark (codes ";") (line_end bs)))))))))))))
  statement_bits p depth (For start c next s) bs = first_bits p depth (for_bits start c next (opened_bits (statement_bits Body (depth + 1) s (closed_bits depth (line_end bs)))))
  statement_bits p depth s bs = first_bits p depth (simple_bits s (mark (codes ";") (line_end bs)))

  pub otherwise_bits : ℕ → Optional → List Bit → List Bit
  otherwise_bits depth Absent bs = line_end bs
  otherwise_bits depth (Present s) bs = if is_if s then statement_bits Else depth s bs else space (name (codes "else") (space (opened_bits (statement_bits Body (depth + 1) s (closed_bits depth (line_end bs))))))

  pub statements_bits : ℕ → Statements → List Bit → List Bit
  statements_bits depth NoStatements bs = bs
  statements_bits depth (Then s rest) bs = statement_bits Line depth s (statements_bits depth rest bs)

abbrev pub static_bits : Bool → List Bit → List Bit
static_bits true bs = name (codes "static") (space bs)
static_bits false bs = bs

abbrev pub inline_bits : Bool → List Bit → List Bit
inline_bits true bs = name (codes "inline") (space bs)
inline_bits false bs = bs

abbrev pub result_bits : Definition → List Bit → List Bit
result_bits f bs = const_bits (is_base_const f.result) (base_bits f.result (space (star_bits f.result false bs)))

abbrev pub heading_bits : Definition → List Bit → List Bit
heading_bits f bs = static_bits f.is_static (inline_bits f.is_inline (result_bits f (name f.name (mark (codes "(") (parameters_bits f.params (mark (codes ")") (space bs)))))))

abbrev pub function_bits : Definition → List Bit → List Bit
function_bits f bs = heading_bits f (opened_bits (statements_bits 1 f.body (mark (codes "}") (line_end bs))))

abbrev pub item_bits : External → List Bit → List Bit
item_bits (Function f) bs = function_bits f bs
item_bits (Table d is_static) bs = static_bits is_static (declaration_bits (d ∷ []) (mark (codes ";") (line_end bs)))

abbrev pub items_bits : List External → List Bit → List Bit
items_bits [] bs = bs
items_bits (item ∷ rest) bs = line_end (item_bits item (items_bits rest bs))

-- the line that includes a header whose name is this with `.h` behind it
abbrev pub include_bits : List ℕ → List Bit → List Bit
include_bits header bs = mark (codes "#") (name (codes "include") (space (mark (codes "<") (name header (mark (codes ".") (name (codes "h") (mark (codes ">") (line_end bs))))))))

abbrev pub header_bits : List Bit → List Bit
header_bits bs = include_bits (codes "arm_neon") (include_bits (codes "stddef") (include_bits (codes "stdint") bs))

abbrev pub unit_bits : List External → List Bit
unit_bits items = header_bits (items_bits items [])
