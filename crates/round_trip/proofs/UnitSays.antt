-- What the words of declarations, statements and units are written as.
use Rattle.std.proofs.Common.{◌≡◌, ℕ, zero, suc, ◌+◌, List, [], ◌∷◌, ◌++◌, Bool, true, false, Option, Some, None, refl, ◌∙◌, ap}
use Rattle.std.proofs.lemmas.List.{append-nil}
use Rattle.std.specs.Prelude.{codes, if◌then◌else◌}
use Rattle.c_text.specs.declared.tokens.TokenKind.TheVariants.{Name}
use Rattle.c_text.specs.declared.pieces.Sort.TheVariants.{Lexeme}
use Rattle.c_tree.specs.declared.types.CType.{CType}
use Rattle.c_tree.specs.declared.types.CType.TheVariants as ctypes
use Rattle.c_tree.specs.Tree.{Tree, Trees, Object, Statement, Statements, Optional, Declare, Run, Block, If, While, DoWhile, For, Break, Continue, Return, Empty, Absent, Present, NoStatements, Then}
use Rattle.c_tree.specs.Tree.{Definition, External, Function, Table}
use Rattle.c_print.specs.declared.statements.Position.{Position}
use Rattle.c_print.specs.declared.statements.Position.TheVariants.{Line, Body, Else}
use Rattle.c_print.specs.Types.{const_text, is_base_const, base_text}
use Rattle.c_print.specs.Expressions.{text, part, list_text}
use Rattle.c_print.specs.Declarations.{has_const, specifiers_text, star_text, length_text, brackets_text, declarator_text, alignas_opening, attribute_opening, alignas_text, attribute_text, is_shared, shared_text, own_text, init_text, init_list_text, declared_text, further_text, declaration_with, declaration_text, parameter_text, further_parameters, parameters_text}
use Rattle.c_print.specs.Statements.{margin, optional_text, simple_text, start_text, for_text, braced, first_text, is_if, statement_text, otherwise_text, statements_text}
use Rattle.c_print.specs.Text.{static_text, inline_text, result_text, heading_text, function_text, item_text, items_text, header, text_of}
use Rattle.round_trip.specs.Words.{Bit}
use Rattle.round_trip.proofs.Bits.{name, mark, space, line_end, written, bit_says, base_says, const_says, expression_bits, expression_says, part_says, list_says, two, three, four, five}
use Rattle.round_trip.proofs.UnitBits.{specifiers_bits, star_bits, length_bits, brackets_bits, declarator_bits, alignas_bits, attribute_bits, shared_bits, own_bits, init_bits, init_list_bits, declared_bits, further_bits, declaration_bits_with, declaration_bits, parameter_bits, further_parameter_bits, parameters_bits}
use Rattle.round_trip.proofs.UnitBits.{margin_bits, optional_bits, simple_bits, start_bits, for_bits, first_bits, opened_bits, closed_bits, condition_bits, statement_bits, otherwise_bits, statements_bits, static_bits, inline_bits, result_bits, heading_bits, function_bits, item_bits, items_bits, unit_bits}

-- Declarations and parameters.
pub specifiers_says : (d : Object) (bs : List Bit) → written (specifiers_bits d bs) ≡ specifiers_text d ++ written bs
specifiers_says d bs = const_says (has_const d.ty d.constant) _ ∙ rw (base_says d.ty (space bs)) (three (const_text (has_const d.ty d.constant)) (base_text d.ty) (codes " ") (written bs))

pub star_says : (t : CType) (constant : Bool) (bs : List Bit) → written (star_bits t constant bs) ≡ star_text t constant ++ written bs
star_says ctypes.Void constant bs = refl
star_says (ctypes.Int t) constant bs = refl
star_says ctypes.M128 constant bs = refl
star_says ctypes.M256 constant bs = refl
star_says (ctypes.Neon l wide) constant bs = refl
star_says ctypes.Pair constant bs = refl
star_says (ctypes.Pointer p base) true bs = refl
star_says (ctypes.Pointer p base) false bs = refl
star_says (ctypes.Array p n base) constant bs = refl

pub length_says : (length : Option Tree) (bs : List Bit) → written (length_bits length bs) ≡ length_text length ++ written bs
length_says None bs = refl
length_says (Some n) bs = part_says 1 n bs

pub brackets_says : (t : CType) (length : Option Tree) (bs : List Bit) → written (brackets_bits t length bs) ≡ brackets_text t length ++ written bs
brackets_says ctypes.Void length bs = refl
brackets_says (ctypes.Int t) length bs = refl
brackets_says ctypes.M128 length bs = refl
brackets_says ctypes.M256 length bs = refl
brackets_says (ctypes.Neon l wide) length bs = refl
brackets_says ctypes.Pair length bs = refl
brackets_says (ctypes.Pointer p base) length bs = refl
brackets_says (ctypes.Array p n base) length bs = rw (length_says length (mark (codes "]") bs)) (three (codes "[") (length_text length) (codes "]") (written bs))

pub declarator_says : (d : Object) (bs : List Bit) → written (declarator_bits d bs) ≡ declarator_text d ++ written bs
declarator_says d bs =
    star_says d.ty d.constant _ ∙ rw (bit_says (Lexeme Name) d.name (brackets_bits d.ty d.length bs), brackets_says d.ty d.length bs) (three (star_text d.ty d.constant) d.name (brackets_text d.ty d.length) (written bs))

alignas_says : (align : Option Tree) (bs : List Bit) → written (alignas_bits align bs) ≡ alignas_text align ++ written bs
unfolding alignas_opening
alignas_says None bs = refl
alignas_says (Some n) bs = rw (part_says 2 n (mark (codes ")") (space bs))) (three (codes "_Alignas(") (part 2 n) (codes ") ") (written bs))

attribute_says : (align : Option Tree) (bs : List Bit) → written (attribute_bits align bs) ≡ attribute_text align ++ written bs
unfolding attribute_opening
attribute_says None bs = refl
attribute_says (Some n) bs = rw (part_says 2 n (mark (codes ")") (mark (codes ")") (mark (codes ")") bs)))) (three (codes " __attribute__((aligned(") (part 2 n) (codes ")))") (written bs))

pub shared_says : (shared : Bool) (align : Option Tree) (bs : List Bit) → written (shared_bits shared align bs) ≡ shared_text shared align ++ written bs
shared_says true align bs = alignas_says align bs
shared_says false align bs = refl

pub own_says : (shared : Bool) (align : Option Tree) (bs : List Bit) → written (own_bits shared align bs) ≡ own_text shared align ++ written bs
own_says true align bs = refl
own_says false align bs = attribute_says align bs

pub init_says : (init : Option Tree) (bs : List Bit) → written (init_bits init bs) ≡ init_text init ++ written bs
init_says None bs = refl
init_says (Some e) bs = rw (part_says 1 e bs) refl

pub init_list_says : (list : Option Trees) (bs : List Bit) → written (init_list_bits list bs) ≡ init_list_text list ++ written bs
init_list_says None bs = refl
init_list_says (Some all) bs = rw (list_says all (mark (codes "}") bs)) (three (codes " = {") (list_text all) (codes "}") (written bs))

pub declared_says : (shared : Bool) (d : Object) (bs : List Bit) → written (declared_bits shared d bs) ≡ declared_text shared d ++ written bs
declared_says shared d bs =
    declarator_says d _ ∙ rw (own_says shared d.align (init_bits d.init (init_list_bits d.list bs)), init_says d.init (init_list_bits d.list bs), init_list_says d.list bs)
    (four (declarator_text d) (own_text shared d.align) (init_text d.init) (init_list_text d.list) (written bs))

pub further_says : (shared : Bool) (ds : List Object) (bs : List Bit) → written (further_bits shared ds bs) ≡ further_text shared ds ++ written bs
further_says shared [] bs = refl
further_says shared (d ∷ ds) bs = rw (declared_says shared d (further_bits shared ds bs), further_says shared ds bs) (three (codes ", ") (declared_text shared d) (further_text shared ds) (written bs))

declaration_says_with : (shared : Bool) (d : Object) (ds : List Object) (bs : List Bit) → written (declaration_bits_with shared d ds bs) ≡ declaration_with shared d ds ++ written bs
declaration_says_with shared d ds bs =
    shared_says shared d.align _ ∙ rw (specifiers_says d (declared_bits shared d (further_bits shared ds bs)), declared_says shared d (further_bits shared ds bs), further_says shared ds bs)
    (four (shared_text shared d.align) (specifiers_text d) (declared_text shared d) (further_text shared ds) (written bs))

pub declaration_says : (ds : List Object) (bs : List Bit) → written (declaration_bits ds bs) ≡ declaration_text ds ++ written bs
declaration_says [] bs = refl
declaration_says (d ∷ ds) bs = declaration_says_with (is_shared (d ∷ ds)) d ds bs

pub parameter_says : (d : Object) (bs : List Bit) → written (parameter_bits d bs) ≡ parameter_text d ++ written bs
parameter_says d bs = specifiers_says d _ ∙ rw (declarator_says d bs) (two (specifiers_text d) (declarator_text d) (written bs))

further_parameters_say : (ds : List Object) (bs : List Bit) → written (further_parameter_bits ds bs) ≡ further_parameters ds ++ written bs
further_parameters_say [] bs = refl
further_parameters_say (d ∷ ds) bs = rw (parameter_says d (further_parameter_bits ds bs), further_parameters_say ds bs) (three (codes ", ") (parameter_text d) (further_parameters ds) (written bs))

pub parameters_say : (ds : List Object) (bs : List Bit) → written (parameters_bits ds bs) ≡ parameters_text ds ++ written bs
parameters_say [] bs = refl
parameters_say (d ∷ ds) bs = parameter_says d _ ∙ rw (further_parameters_say ds bs) (two (parameter_text d) (further_parameters ds) (written bs))

-- The parts of statements.
pub margin_says : (depth : ℕ) (bs : List Bit) → written (margin_bits depth bs) ≡ margin depth ++ written bs
margin_says zero bs = refl
margin_says (suc depth) bs = rw (margin_says depth bs) refl

pub optional_says : (e : Option Tree) (bs : List Bit) → written (optional_bits e bs) ≡ optional_text e ++ written bs
optional_says None bs = refl
optional_says (Some e) bs = rw (expression_says e bs) refl

pub simple_says : (s : Statement) (bs : List Bit) → written (simple_bits s bs) ≡ simple_text s ++ written bs
simple_says (Declare ds) bs = declaration_says ds bs
simple_says (Run e) bs = expression_says e bs
simple_says (Block all) bs = refl
simple_says (If c s o) bs = refl
simple_says (While c s) bs = refl
simple_says (DoWhile s c) bs = refl
simple_says (For i c n s) bs = refl
simple_says (Break p) bs = refl
simple_says (Continue p) bs = refl
simple_says (Return p e) bs = rw (optional_says e bs) refl
simple_says Empty bs = refl

pub start_says : (start : Optional) (bs : List Bit) → written (start_bits start bs) ≡ start_text start ++ written bs
start_says Absent bs = refl
start_says (Present s) bs = simple_says s bs

-- six texts, or seven, in front of another
six : (a b c d e f t : List ℕ) → a ++ (b ++ (c ++ (d ++ (e ++ (f ++ t))))) ≡ (a ++ (b ++ (c ++ (d ++ (e ++ f))))) ++ t
six a b c d e f t = ap (λ r. a ++ r) (five b c d e f t) ∙ two a (b ++ (c ++ (d ++ (e ++ f)))) t

seven : (a b c d e f g t : List ℕ) → a ++ (b ++ (c ++ (d ++ (e ++ (f ++ (g ++ t)))))) ≡ (a ++ (b ++ (c ++ (d ++ (e ++ (f ++ g)))))) ++ t
seven a b c d e f g t = ap (λ r. a ++ (b ++ r)) (five c d e f g t) ∙ three a b (c ++ (d ++ (e ++ (f ++ g)))) t

pub for_says : (start : Optional) (condition next : Option Tree) (bs : List Bit) → written (for_bits start condition next bs) ≡ for_text start condition next ++ written bs
for_says start condition next bs =
    rw (start_says start (mark (codes ";") (optional_bits condition (mark (codes ";") (optional_bits next (mark (codes ")") (space bs)))))), optional_says condition (mark (codes ";") (optional_bits next (mark (codes ")") (space bs)))), optional_says next (mark (codes ")") (space bs)))
    (seven (codes "for (") (start_text start) (codes ";") (optional_text condition) (codes ";") (optional_text next) (codes ") ") (written bs))

pub first_says : (p : Position) (depth : ℕ) (bs : List Bit) → written (first_bits p depth bs) ≡ first_text p depth ++ written bs
first_says Line depth bs = margin_says depth bs
first_says Body depth bs = margin_says depth bs
first_says Else depth bs = refl

-- lines in braces
pub braced_says : (depth : ℕ) (lines : List ℕ) (inner bs : List Bit) → written inner ≡ lines ++ written (closed_bits depth bs) → written (opened_bits inner) ≡ braced depth lines ++ written bs
braced_says depth lines inner bs e = rw (e, margin_says depth (mark (codes "}") bs)) (four (codes "{\n") lines (margin depth) (codes "}") (written bs))

-- the heading of an `if` or a `while`
pub condition_says : (word : List ℕ) (c : Tree) (bs : List Bit) → written (condition_bits word c bs) ≡ word ++ (codes " (" ++ (text c ++ (codes ") " ++ written bs)))
condition_says word c bs = bit_says (Lexeme Name) word _ ∙ rw (expression_says c (mark (codes ")") (space bs))) refl

-- either of two, by the same test
either_says : (b : Bool) (x y : List Bit) (s t r : List ℕ) → written x ≡ s ++ r → written y ≡ t ++ r → written (if b then x else y) ≡ (if b then s else t) ++ r
either_says true x y s t r h k = h
either_says false x y s t r h k = k

-- Each form of a statement, from what the lines of its body are written as.
block_says : (p : Position) (depth : ℕ) (lines : List ℕ) (inner bs : List Bit) → written inner ≡ lines ++ written (closed_bits depth (line_end bs)) →
    written (first_bits p depth (opened_bits inner)) ≡ (first_text p depth ++ (braced depth lines ++ codes "\n")) ++ written bs
block_says p depth lines inner bs e = first_says p depth _ ∙ rw (braced_says depth lines inner (line_end bs) e) (three (first_text p depth) (braced depth lines) (codes "\n") (written bs))

if_says : (p : Position) (depth : ℕ) (c : Tree) (lines : List ℕ) (inner behind : List Bit) (tail rest : List ℕ) → written inner ≡ lines ++ written (closed_bits depth behind) → written behind ≡ tail ++ rest →
    written (first_bits p depth (condition_bits (codes "if") c (opened_bits inner))) ≡ (first_text p depth ++ (codes "if (" ++ (text c ++ (codes ") " ++ (braced depth lines ++ tail))))) ++ rest
if_says p depth c lines inner behind tail rest e f =
    first_says p depth _ ∙ rw (condition_says (codes "if") c (opened_bits inner), braced_says depth lines inner behind e, f)
    (six (first_text p depth) (codes "if (") (text c) (codes ") ") (braced depth lines) tail rest)

while_says : (p : Position) (depth : ℕ) (c : Tree) (lines : List ℕ) (inner bs : List Bit) → written inner ≡ lines ++ written (closed_bits depth (line_end bs)) →
    written (first_bits p depth (condition_bits (codes "while") c (opened_bits inner))) ≡ (first_text p depth ++ (codes "while (" ++ (text c ++ (codes ") " ++ (braced depth lines ++ codes "\n"))))) ++ written bs
while_says p depth c lines inner bs e =
    first_says p depth _ ∙ rw (condition_says (codes "while") c (opened_bits inner), braced_says depth lines inner (line_end bs) e)
    (six (first_text p depth) (codes "while (") (text c) (codes ") ") (braced depth lines) (codes "\n") (written bs))

do_says : (p : Position) (depth : ℕ) (c : Tree) (lines : List ℕ) (inner bs : List Bit) →
    written inner ≡ lines ++ written (closed_bits depth (space (name (codes "while") (space (mark (codes "(") (expression_bits c (mark (codes ")") (mark (codes ";") (line_end bs))))))))) →
    written (first_bits p depth (name (codes "do") (space (opened_bits inner)))) ≡ (first_text p depth ++ (codes "do " ++ (braced depth lines ++ (codes " while (" ++ (text c ++ codes ");\n"))))) ++ written bs
do_says p depth c lines inner bs e =
    first_says p depth _ ∙ rw (braced_says depth lines inner (space (name (codes "while") (space (mark (codes "(") (expression_bits c (mark (codes ")") (mark (codes ";") (line_end bs)))))))) e, expression_says c (mark (codes ")") (mark (codes ";") (line_end bs))))
    (six (first_text p depth) (codes "do ") (braced depth lines) (codes " while (") (text c) (codes ");\n") (written bs))

loop_says : (p : Position) (depth : ℕ) (start : Optional) (c next : Option Tree) (lines : List ℕ) (inner bs : List Bit) → written inner ≡ lines ++ written (closed_bits depth (line_end bs)) →
    written (first_bits p depth (for_bits start c next (opened_bits inner))) ≡ (first_text p depth ++ (for_text start c next ++ (braced depth lines ++ codes "\n"))) ++ written bs
loop_says p depth start c next lines inner bs e =
    first_says p depth _ ∙ rw (for_says start c next (opened_bits inner), braced_says depth lines inner (line_end bs) e) (four (first_text p depth) (for_text start c next) (braced depth lines) (codes "\n") (written bs))

plain_says : (p : Position) (depth : ℕ) (s : Statement) (bs : List Bit) → written (first_bits p depth (simple_bits s (mark (codes ";") (line_end bs)))) ≡ (first_text p depth ++ (simple_text s ++ codes ";\n")) ++ written bs
plain_says p depth s bs = first_says p depth _ ∙ rw (simple_says s (mark (codes ";") (line_end bs))) (three (first_text p depth) (simple_text s) (codes ";\n") (written bs))

-- What the words of statements are written as. They are by cases on where the statement stands, and so are these: each form is there for the three places.
mutual
  pub statement_says : (p : Position) (depth : ℕ) (s : Statement) (bs : List Bit) → written (statement_bits p depth s bs) ≡ statement_text p depth s ++ written bs
  statement_says Line depth (Declare ds) bs = plain_says Line depth (Declare ds) bs
  statement_says Body depth (Declare ds) bs = plain_says Body depth (Declare ds) bs
  statement_says Else depth (Declare ds) bs = plain_says Else depth (Declare ds) bs
  statement_says Line depth (Run e) bs = plain_says Line depth (Run e) bs
  statement_says Body depth (Run e) bs = plain_says Body depth (Run e) bs
  statement_says Else depth (Run e) bs = plain_says Else depth (Run e) bs
  statement_says Body depth (Block all) bs = statements_say depth all bs
  statement_says Line depth (Block all) bs = block_says Line depth (statements_text (depth + 1) all) (statements_bits (depth + 1) all (closed_bits depth (line_end bs))) bs (statements_say (depth + 1) all (closed_bits depth (line_end bs)))
  statement_says Else depth (Block all) bs = block_says Else depth (statements_text (depth + 1) all) (statements_bits (depth + 1) all (closed_bits depth (line_end bs))) bs (statements_say (depth + 1) all (closed_bits depth (line_end bs)))
  statement_says Line depth (If c s o) bs =
      if_says Line depth c (statement_text Body (depth + 1) s) (statement_bits Body (depth + 1) s (closed_bits depth (otherwise_bits depth o bs))) (otherwise_bits depth o bs) (otherwise_text depth o) (written bs)
      (statement_says Body (depth + 1) s (closed_bits depth (otherwise_bits depth o bs))) (otherwise_says depth o bs)
  statement_says Body depth (If c s o) bs =
      if_says Body depth c (statement_text Body (depth + 1) s) (statement_bits Body (depth + 1) s (closed_bits depth (otherwise_bits depth o bs))) (otherwise_bits depth o bs) (otherwise_text depth o) (written bs)
      (statement_says Body (depth + 1) s (closed_bits depth (otherwise_bits depth o bs))) (otherwise_says depth o bs)
  statement_says Else depth (If c s o) bs =
      if_says Else depth c (statement_text Body (depth + 1) s) (statement_bits Body (depth + 1) s (closed_bits depth (otherwise_bits depth o bs))) (otherwise_bits depth o bs) (otherwise_text depth o) (written bs)
      (statement_says Body (depth + 1) s (closed_bits depth (otherwise_bits depth o bs))) (otherwise_says depth o bs)
  statement_says Line depth (While c s) bs = while_says Line depth c (statement_text Body (depth + 1) s) (statement_bits Body (depth + 1) s (closed_bits depth (line_end bs))) bs (statement_says Body (depth + 1) s (closed_bits depth (line_end bs)))
  statement_says Body depth (While c s) bs = while_says Body depth c (statement_text Body (depth + 1) s) (statement_bits Body (depth + 1) s (closed_bits depth (line_end bs))) bs (statement_says Body (depth + 1) s (closed_bits depth (line_end bs)))
  statement_says Else depth (While c s) bs = while_says Else depth c (statement_text Body (depth + 1) s) (statement_bits Body (depth + 1) s (closed_bits depth (line_end bs))) bs (statement_says Body (depth + 1) s (closed_bits depth (line_end bs)))
  statement_says Line depth (DoWhile s c) bs = do_says Line depth c (statement_text Body (depth + 1) s) (statement_bits Body (depth + 1) s (closed_bits depth (space (name (codes "while") (space (mark (codes "(") (expression_bits c (mark (codes ")") (mark (codes ";") (line_end bs)))))))))) bs (statement_says Body (depth + 1) s (closed_bits depth (space (name (codes "while") (space (mark (codes "(") (expression_bits c (mark (codes ")") (mark (codes ";") (line_end bs))))))))))
  statement_says Body depth (DoWhile s c) bs = do_says Body depth c (statement_text Body (depth + 1) s) (statement_bits Body (depth + 1) s (closed_bits depth (space (name (codes "while") (space (mark (codes "(") (expression_bits c (mark (codes ")") (mark (codes ";") (line_end bs)))))))))) bs (statement_says Body (depth + 1) s (closed_bits depth (space (name (codes "while") (space (mark (codes "(") (expression_bits c (mark (codes ")") (mark (codes ";") (line_end bs))))))))))
  statement_says Else depth (DoWhile s c) bs = do_says Else depth c (statement_text Body (depth + 1) s) (statement_bits Body (depth + 1) s (closed_bits depth (space (name (codes "while") (space (mark (codes "(") (expression_bits c (mark (codes ")") (mark (codes ";") (line_end bs)))))))))) bs (statement_says Body (depth + 1) s (closed_bits depth (space (name (codes "while") (space (mark (codes "(") (expression_bits c (mark (codes ")") (mark (codes ";") (line_end bs))))))))))
  statement_says Line depth (For i c n s) bs = loop_says Line depth i c n (statement_text Body (depth + 1) s) (statement_bits Body (depth + 1) s (closed_bits depth (line_end bs))) bs (statement_says Body (depth + 1) s (closed_bits depth (line_end bs)))
  statement_says Body depth (For i c n s) bs = loop_says Body depth i c n (statement_text Body (depth + 1) s) (statement_bits Body (depth + 1) s (closed_bits depth (line_end bs))) bs (statement_says Body (depth + 1) s (closed_bits depth (line_end bs)))
  statement_says Else depth (For i c n s) bs = loop_says Else depth i c n (statement_text Body (depth + 1) s) (statement_bits Body (depth + 1) s (closed_bits depth (line_end bs))) bs (statement_says Body (depth + 1) s (closed_bits depth (line_end bs)))
  statement_says Line depth (Break q) bs = plain_says Line depth (Break q) bs
  statement_says Body depth (Break q) bs = plain_says Body depth (Break q) bs
  statement_says Else depth (Break q) bs = plain_says Else depth (Break q) bs
  statement_says Line depth (Continue q) bs = plain_says Line depth (Continue q) bs
  statement_says Body depth (Continue q) bs = plain_says Body depth (Continue q) bs
  statement_says Else depth (Continue q) bs = plain_says Else depth (Continue q) bs
  statement_says Line depth (Return q e) bs = plain_says Line depth (Return q e) bs
  statement_says Body depth (Return q e) bs = plain_says Body depth (Return q e) bs
  statement_says Else depth (Return q e) bs = plain_says Else depth (Return q e) bs
  statement_says Line depth Empty bs = plain_says Line depth Empty bs
  statement_says Body depth Empty bs = plain_says Body depth Empty bs
  statement_says Else depth Empty bs = plain_says Else depth Empty bs

  pub otherwise_says : (depth : ℕ) (o : Optional) (bs : List Bit) → written (otherwise_bits depth o bs) ≡ otherwise_text depth o ++ written bs
  otherwise_says depth Absent bs = refl
  otherwise_says depth (Present s) bs =
      either_says (is_if s) (statement_bits Else depth s bs) _ (statement_text Else depth s) _ (written bs) (statement_says Else depth s bs)
      (block_says Else depth (statement_text Body (depth + 1) s) (statement_bits Body (depth + 1) s (closed_bits depth (line_end bs))) bs (statement_says Body (depth + 1) s (closed_bits depth (line_end bs))))

  pub statements_say : (depth : ℕ) (all : Statements) (bs : List Bit) → written (statements_bits depth all bs) ≡ statements_text depth all ++ written bs
  statements_say depth NoStatements bs = refl
  statements_say depth (Then s rest) bs = statement_says Line depth s _ ∙ rw (statements_say depth rest bs) (two (statement_text Line depth s) (statements_text depth rest) (written bs))

-- Functions, tables and units.
static_says : (b : Bool) (bs : List Bit) → written (static_bits b bs) ≡ static_text b ++ written bs
static_says true bs = refl
static_says false bs = refl

inline_says : (b : Bool) (bs : List Bit) → written (inline_bits b bs) ≡ inline_text b ++ written bs
inline_says true bs = refl
inline_says false bs = refl

pub result_says : (f : Definition) (bs : List Bit) → written (result_bits f bs) ≡ result_text f ++ written bs
result_says f bs =
    const_says (is_base_const f.result) _ ∙ rw (base_says f.result (space (star_bits f.result false bs)), star_says f.result false bs) (four (const_text (is_base_const f.result)) (base_text f.result) (codes " ") (star_text f.result false) (written bs))

pub heading_says : (f : Definition) (bs : List Bit) → written (heading_bits f bs) ≡ heading_text f ++ written bs
heading_says f bs =
    static_says f.is_static _ ∙ rw (
      inline_says f.is_inline (result_bits f (name f.name (mark (codes "(") (parameters_bits f.params (mark (codes ")") (space bs)))))),
      result_says f (name f.name (mark (codes "(") (parameters_bits f.params (mark (codes ")") (space bs))))),
      bit_says (Lexeme Name) f.name (mark (codes "(") (parameters_bits f.params (mark (codes ")") (space bs)))),
      parameters_say f.params (mark (codes ")") (space bs)),
    )
    (seven (static_text f.is_static) (inline_text f.is_inline) (result_text f) f.name (codes "(") (parameters_text f.params) (codes ") ") (written bs))

pub function_says : (f : Definition) (bs : List Bit) → written (function_bits f bs) ≡ function_text f ++ written bs
function_says f bs =
    heading_says f _ ∙ rw (braced_says zero (statements_text 1 f.body) (statements_bits 1 f.body (mark (codes "}") (line_end bs))) (line_end bs) (statements_say 1 f.body (mark (codes "}") (line_end bs))))
    (three (heading_text f) (braced zero (statements_text 1 f.body)) (codes "\n") (written bs))

pub item_says : (item : External) (bs : List Bit) → written (item_bits item bs) ≡ item_text item ++ written bs
item_says (Function f) bs = function_says f bs
item_says (Table d is_static) bs = static_says is_static _ ∙ rw (declaration_says (d ∷ []) (mark (codes ";") (line_end bs))) (three (static_text is_static) (declaration_text (d ∷ [])) (codes ";\n") (written bs))

pub items_say : (items : List External) (bs : List Bit) → written (items_bits items bs) ≡ items_text items ++ written bs
items_say [] bs = refl
items_say (item ∷ rest) bs = rw (item_says item (items_bits rest bs), items_say rest bs) (three (codes "\n") (item_text item) (items_text rest) (written bs))

-- the words of a unit are written as its text
pub unit_says : (items : List External) → written (unit_bits items) ≡ text_of items
unfolding header
unit_says items = rw (items_say items [], append-nil (items_text items)) refl
