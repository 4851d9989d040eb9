-- The words of a unit are tokens, spaces and line ends, and have plain bytes alone. Behind the lines that include headers no `#` and no macro's name stands.
use Rattle.std.proofs.Common.{◌≡◌, ℕ, zero, suc, ◌+◌, ◌<◌, List, [], ◌∷◌, Bool, true, false, Option, Some, None, refl, arith}
use Rattle.std.proofs.lemmas.Fmt.{decimal_digit}
use Rattle.std.proofs.lemmas.Bool.Decides.{nat_tests}
use Rattle.std.specs.Prelude.{nat_lt, codes, decimal, unsigned_abs, if◌then◌else◌}
use Rattle.c_text.specs.declared.tokens.TokenKind.{TokenKind}
use Rattle.c_text.specs.declared.tokens.TokenKind.TheVariants.{Name, Number}
use Rattle.c_text.specs.declared.pieces.Sort.TheVariants.{Lexeme}
use Rattle.c_text.specs.Forms.{all_are, is_letter, is_name_byte, is_name}
use Rattle.c_text.proofs.Scans.{both}
use Rattle.lane_core.specs.declared.number.BinOp.{BinOp}
use Rattle.lane_core.specs.declared.number.BinOp.TheVariants as ops
use Rattle.lane_core.specs.declared.number.Num.{Num}
use Rattle.lane_core.specs.declared.number.UnOp.{UnOp}
use Rattle.lane_core.specs.declared.number.UnOp.TheVariants as signs
use Rattle.lane_core.specs.declared.number.IntType.{IntType}
use Rattle.lane_core.specs.declared.number.IntType.TheVariants as ints
use Rattle.lane_core.specs.declared.vector.NeonLane.{NeonLane}
use Rattle.lane_core.specs.declared.vector.NeonLane.TheVariants as lanes
use Rattle.lane_core.specs.declared.vector.Pointee.{Pointee}
use Rattle.lane_core.specs.declared.vector.Pointee.TheVariants as pointees
use Rattle.c_tree.specs.declared.types.CType.{CType}
use Rattle.c_tree.specs.declared.types.CType.TheVariants as ctypes
use Rattle.c_tree.specs.Tree as trees
use Rattle.c_tree.specs.Tree.{Tree, Kind, Trees, Node, NoTrees, More, Object, Statement, Statements, Optional, Declare, Run, Block, If, While, DoWhile, For, Break, Continue, Return, Empty, Absent, Present, NoStatements, Then, Definition, External, Function, Table}
use Rattle.c_print.specs.declared.statements.Position.{Position}
use Rattle.c_print.specs.declared.statements.Position.TheVariants.{Line, Body, Else}
use Rattle.c_print.specs.Types.{vector_text, is_base_const}
use Rattle.c_print.specs.Constants.{magnitude_text}
use Rattle.c_tree.specs.Operators.{operator_text, prefix_text, step_text}
use Rattle.c_print.specs.Expressions.{operator_level, kind_level, is_wrapped_operand}
use Rattle.c_print.specs.Declarations.{has_const, is_shared}
use Rattle.c_print.specs.Statements.{is_if}
use Rattle.round_trip.specs.Words.{Bit, is_plain_byte, is_free_word, is_plain_bit, is_free_sort, bit_text, all_plain, is_written_bit, all_written}
use Rattle.round_trip.specs.Good.{GoodName, GoodConstant, GoodType, Good, GoodKind, GoodAll}
use Rattle.round_trip.specs.GoodUnits.{GoodPart, GoodList, GoodObject, GoodOthers, GoodDeclaration, GoodParameters, GoodStart, GoodStatement, GoodElse, GoodStatements, GoodFunction, GoodItem, GoodUnit}
use Rattle.round_trip.proofs.Bits.{bit, name, number, mark, space, line_end, comma, integer_bits, pointee_bits, base_bits, const_bits, type_bits, constant_bits, opening_bits, closing_bits, spaced_bits, assignment_mark, expression_bits, part_bits, operand_bits, kind_bits, list_bits, more_bits}
use Rattle.round_trip.proofs.Numerals.{numeral_plain}
use Rattle.round_trip.proofs.Cuts.{vector_named}
use Rattle.round_trip.proofs.UnitBits.{header_bits, specifiers_bits, star_bits, length_bits, brackets_bits, declarator_bits, alignas_bits, attribute_bits, shared_bits, own_bits, init_bits, init_list_bits, declared_bits, further_bits, declaration_bits, parameter_bits, further_parameter_bits, parameters_bits, margin_bits, optional_bits, simple_bits, start_bits, for_bits, first_bits, opened_bits, closed_bits, condition_bits, statement_bits, otherwise_bits, statements_bits, static_bits, inline_bits, result_bits, heading_bits, item_bits, items_bits, unit_bits}

-- a token of plain bytes in front of such words
pub token_plain : (kind : TokenKind) (x : List ℕ) (bs : List Bit) → all_are is_plain_byte x ≡ true → is_free_word kind x ≡ true → all_written bs ≡ true → all_written (bit (Lexeme kind) x bs) ≡ true
token_plain kind [] bs plain free h = h
token_plain kind (c ∷ cs) bs plain free h = rw (plain, free) h

name_byte_plain : (b : ℕ) → is_name_byte b ≡ true → is_plain_byte b ≡ true
name_byte_plain b h = grind (arith, nat_tests)

name_bytes_plain : (bs : List ℕ) → all_are is_name_byte bs ≡ true → all_are is_plain_byte bs ≡ true
name_bytes_plain [] h = refl
name_bytes_plain (b ∷ bs) h = rw (name_byte_plain b (both (is_name_byte b) (all_are is_name_byte bs) h).0) (name_bytes_plain bs (both (is_name_byte b) (all_are is_name_byte bs) h).1)

-- the bytes of a name
pub named_plain : (x : List ℕ) → is_name x ≡ true → all_are is_plain_byte x ≡ true
named_plain [] h = absurd (cc)
named_plain (c ∷ cs) h = name_bytes_plain (c ∷ cs) (rw (both (is_letter c) (all_are is_name_byte cs) h).0 (both (is_letter c) (all_are is_name_byte cs) h).1)

pub name_plain : (x : List ℕ) (bs : List Bit) → is_name x ≡ true → is_free_word Name x ≡ true → all_written bs ≡ true → all_written (name x bs) ≡ true
name_plain x bs n free h = token_plain Name x bs (named_plain x n) free h

good_plain : (x : List ℕ) (bs : List Bit) → GoodName x → all_written bs ≡ true → all_written (name x bs) ≡ true
good_plain x bs g h = name_plain x bs g.named (rw g.no_macro refl) h

vector_free : (l : NeonLane) (wide : Bool) → is_free_word Name (vector_text l wide) ≡ true
vector_free lanes.U8 true = refl
vector_free lanes.U16 true = refl
vector_free lanes.U32 true = refl
vector_free lanes.U64 true = refl
vector_free lanes.S8 true = refl
vector_free lanes.S16 true = refl
vector_free lanes.S32 true = refl
vector_free lanes.S64 true = refl
vector_free lanes.U8 false = refl
vector_free lanes.U16 false = refl
vector_free lanes.U32 false = refl
vector_free lanes.U64 false = refl
vector_free lanes.S8 false = refl
vector_free lanes.S16 false = refl
vector_free lanes.S32 false = refl
vector_free lanes.S64 false = refl

-- Types and operators.
integer_plain : (t : IntType) (bs : List Bit) → all_written bs ≡ true → all_written (integer_bits t bs) ≡ true
integer_plain ints.Boolean bs h = h
integer_plain ints.Char bs h = h
integer_plain ints.SChar bs h = h
integer_plain ints.UChar bs h = h
integer_plain ints.Short bs h = h
integer_plain ints.UShort bs h = h
integer_plain ints.Int bs h = h
integer_plain ints.UInt bs h = h
integer_plain ints.Long bs h = h
integer_plain ints.ULong bs h = h
integer_plain ints.LLong bs h = h
integer_plain ints.ULLong bs h = h

pointee_plain : (p : Pointee) (bs : List Bit) → all_written bs ≡ true → all_written (pointee_bits p bs) ≡ true
pointee_plain pointees.Void bs h = h
pointee_plain (pointees.Int t) bs h = integer_plain t bs h
pointee_plain pointees.M128 bs h = h
pointee_plain pointees.M256 bs h = h

base_plain : (t : CType) (bs : List Bit) → all_written bs ≡ true → all_written (base_bits t bs) ≡ true
base_plain ctypes.Void bs h = h
base_plain (ctypes.Int t) bs h = integer_plain t bs h
base_plain ctypes.M128 bs h = h
base_plain ctypes.M256 bs h = h
base_plain (ctypes.Neon l wide) bs h = name_plain (vector_text l wide) bs (vector_named l wide) (vector_free l wide) h
base_plain ctypes.Pair bs h = h
base_plain (ctypes.Pointer p constant) bs h = pointee_plain p bs h
base_plain (ctypes.Array p n constant) bs h = pointee_plain p bs h

const_plain : (c : Bool) (bs : List Bit) → all_written bs ≡ true → all_written (const_bits c bs) ≡ true
const_plain true bs h = h
const_plain false bs h = h

type_plain : (t : CType) (bs : List Bit) → GoodType t → all_written bs ≡ true → all_written (type_bits t bs) ≡ true
type_plain ctypes.Void bs g h = h
type_plain (ctypes.Int t) bs g h = integer_plain t bs h
type_plain ctypes.M128 bs g h = h
type_plain ctypes.M256 bs g h = h
type_plain (ctypes.Neon l wide) bs g h = base_plain (ctypes.Neon l wide) bs h
type_plain ctypes.Pair bs g h = h
type_plain (ctypes.Pointer p constant) bs g h = const_plain constant (pointee_bits p (space (mark (codes "*") bs))) (pointee_plain p (space (mark (codes "*") bs)) h)
type_plain (ctypes.Array p n constant) bs g h = absurd g

open_plain : (b : Bool) (bs : List Bit) → all_written bs ≡ true → all_written (opening_bits b bs) ≡ true
open_plain true bs h = h
open_plain false bs h = h

close_plain : (b : Bool) (bs : List Bit) → all_written bs ≡ true → all_written (closing_bits b bs) ≡ true
close_plain true bs h = h
close_plain false bs h = h

prefix_plain : (op : UnOp) (bs : List Bit) → all_written bs ≡ true → all_written (mark (prefix_text op) bs) ≡ true
prefix_plain signs.Plus bs h = h
prefix_plain signs.Neg bs h = h
prefix_plain signs.BitNot bs h = h
prefix_plain signs.Not bs h = h

step_plain : (up : Bool) (bs : List Bit) → all_written bs ≡ true → all_written (mark (step_text up) bs) ≡ true
step_plain true bs h = h
step_plain false bs h = h

operator_plain : (op : BinOp) (bs : List Bit) → all_written bs ≡ true → all_written (spaced_bits (operator_text op) bs) ≡ true
operator_plain ops.Mul bs h = h
operator_plain ops.Div bs h = h
operator_plain ops.Rem bs h = h
operator_plain ops.Add bs h = h
operator_plain ops.Sub bs h = h
operator_plain ops.Shl bs h = h
operator_plain ops.Shr bs h = h
operator_plain ops.Lt bs h = h
operator_plain ops.Gt bs h = h
operator_plain ops.Le bs h = h
operator_plain ops.Ge bs h = h
operator_plain ops.Eq bs h = h
operator_plain ops.Ne bs h = h
operator_plain ops.BitAnd bs h = h
operator_plain ops.BitXor bs h = h
operator_plain ops.BitOr bs h = h

assignment_plain : (op : Option BinOp) (bs : List Bit) → all_written bs ≡ true → all_written (spaced_bits (assignment_mark op) bs) ≡ true
assignment_plain None bs h = h
assignment_plain (Some ops.Mul) bs h = h
assignment_plain (Some ops.Div) bs h = h
assignment_plain (Some ops.Rem) bs h = h
assignment_plain (Some ops.Add) bs h = h
assignment_plain (Some ops.Sub) bs h = h
assignment_plain (Some ops.Shl) bs h = h
assignment_plain (Some ops.Shr) bs h = h
assignment_plain (Some ops.Lt) bs h = h
assignment_plain (Some ops.Gt) bs h = h
assignment_plain (Some ops.Le) bs h = h
assignment_plain (Some ops.Ge) bs h = h
assignment_plain (Some ops.Eq) bs h = h
assignment_plain (Some ops.Ne) bs h = h
assignment_plain (Some ops.BitAnd) bs h = h
assignment_plain (Some ops.BitXor) bs h = h
assignment_plain (Some ops.BitOr) bs h = h

-- Expressions.
constant_plain : (n : Num) (bs : List Bit) → GoodConstant n → all_written bs ≡ true → all_written (constant_bits n bs) ≡ true
constant_plain n bs g h = rw g.0 (token_plain Number (magnitude_text n.ty (unsigned_abs n.value)) bs (numeral_plain n g) refl h)

half_plain : (k : ℕ) (bs : List Bit) → k < 2 → all_written bs ≡ true → all_written (number (decimal k) bs) ≡ true
half_plain zero bs l h = rw (decimal_digit 0 (omega arith)) h
half_plain (suc zero) bs l h = rw (decimal_digit 1 (omega arith)) h
half_plain (suc (suc k)) bs l h = absurd (omega arith)

mutual
  pub expression_plain : (e : Tree) (bs : List Bit) → Good e → all_written bs ≡ true → all_written (expression_bits e bs) ≡ true
  expression_plain (Node p ty k) bs g h = kind_plain k bs g h

  pub part_plain : (wanted : ℕ) (e : Tree) (bs : List Bit) → Good e → all_written bs ≡ true → all_written (part_bits wanted e bs) ≡ true
  part_plain wanted (Node p ty k) bs g h =
      open_plain (nat_lt (kind_level k) wanted) _ (kind_plain k (closing_bits (nat_lt (kind_level k) wanted) bs) g (close_plain (nat_lt (kind_level k) wanted) bs h))

  operand_plain : (e : Tree) (bs : List Bit) → Good e → all_written bs ≡ true → all_written (operand_bits e bs) ≡ true
  operand_plain (Node p ty k) bs g h =
      open_plain (is_wrapped_operand (kind_level k)) _ (kind_plain k (closing_bits (is_wrapped_operand (kind_level k)) bs) g (close_plain (is_wrapped_operand (kind_level k)) bs h))

  pub kind_plain : (k : Kind) (bs : List Bit) → GoodKind k → all_written bs ≡ true → all_written (kind_bits k bs) ≡ true
  kind_plain (trees.Const n) bs g h = constant_plain n bs g h
  kind_plain (trees.Name x) bs g h = good_plain x bs g h
  kind_plain (trees.Unary op a) bs g h = prefix_plain op (operand_bits a bs) (operand_plain a bs g h)
  kind_plain (trees.Step a up true) bs g h = step_plain up (part_bits 15 a bs) (part_plain 15 a bs g h)
  kind_plain (trees.Step a up false) bs g h = part_plain 16 a (mark (step_text up) bs) g (step_plain up bs h)
  kind_plain (trees.Binary op a b) bs g h = part_plain (operator_level op) a _ g.0 (operator_plain op _ (part_plain (operator_level op + 1) b bs g.1 h))
  kind_plain (trees.AndThen a b) bs g h = part_plain 4 a (spaced_bits (codes "&&") (part_bits 5 b bs)) g.0 (part_plain 5 b bs g.1 h)
  kind_plain (trees.OrElse a b) bs g h = part_plain 3 a (spaced_bits (codes "||") (part_bits 4 b bs)) g.0 (part_plain 4 b bs g.1 h)
  kind_plain (trees.Choice c a b) bs g h =
      part_plain 3 c (spaced_bits (codes "?") (expression_bits a (spaced_bits (codes ":") (part_bits 2 b bs)))) g.0 (expression_plain a (spaced_bits (codes ":") (part_bits 2 b bs)) g.1 (part_plain 2 b bs g.2 h))
  kind_plain (trees.Assign op a b) bs g h = part_plain 14 a _ g.1 (assignment_plain op (part_bits 1 b bs) (part_plain 1 b bs g.2 h))
  kind_plain (trees.Comma all) bs g h = list_plain all bs g.1 h
  kind_plain (trees.Cast ty a true) bs g h = type_plain ty (mark (codes ")") (part_bits 13 a bs)) g.0 (part_plain 13 a bs g.1 h)
  kind_plain (trees.Cast ty a false) bs g h = expression_plain a bs g h
  kind_plain (trees.Index a b) bs g h = part_plain 17 a (mark (codes "[") (expression_bits b (mark (codes "]") bs))) g.0 (expression_plain b (mark (codes "]") bs) g.1 h)
  kind_plain (trees.Deref a) bs g h = operand_plain a bs g h
  kind_plain (trees.Address a) bs g h = operand_plain a bs g h
  kind_plain (trees.Call f all) bs g h = good_plain f (mark (codes "(") (list_bits all (mark (codes ")") bs))) g.0 (list_plain all (mark (codes ")") bs) g.1 h)
  kind_plain (trees.Half a k) bs g h = part_plain 18 a (mark (codes ".") (name (codes "val") (mark (codes "[") (number (decimal k) (mark (codes "]") bs))))) g.0 (half_plain k (mark (codes "]") bs) g.1 h)
  kind_plain (trees.PairOf a b) bs g h = part_plain 1 a (comma (part_bits 1 b (mark (codes "}") (mark (codes "}") bs)))) g.0 (part_plain 1 b (mark (codes "}") (mark (codes "}") bs)) g.1 h)
  kind_plain (trees.SizeOfType ty) bs g h = absurd g
  kind_plain (trees.SizeOfName x) bs g h = absurd g
  kind_plain (trees.Str x) bs g h = absurd g

  pub list_plain : (all : Trees) (bs : List Bit) → GoodAll all → all_written bs ≡ true → all_written (list_bits all bs) ≡ true
  list_plain NoTrees bs g h = h
  list_plain (More a rest) bs g h = part_plain 1 a (more_bits rest bs) g.0 (more_plain rest bs g.1 h)

  more_plain : (all : Trees) (bs : List Bit) → GoodAll all → all_written bs ≡ true → all_written (more_bits all bs) ≡ true
  more_plain NoTrees bs g h = h
  more_plain (More a rest) bs g h = part_plain 1 a (more_bits rest bs) g.0 (more_plain rest bs g.1 h)

-- Declarations and parameters.
specifiers_plain : (d : Object) (bs : List Bit) → all_written bs ≡ true → all_written (specifiers_bits d bs) ≡ true
specifiers_plain d bs h = const_plain (has_const d.ty d.constant) _ (base_plain d.ty (space bs) h)

star_plain : (t : CType) (constant : Bool) (bs : List Bit) → all_written bs ≡ true → all_written (star_bits t constant bs) ≡ true
star_plain ctypes.Void constant bs h = h
star_plain (ctypes.Int t) constant bs h = h
star_plain ctypes.M128 constant bs h = h
star_plain ctypes.M256 constant bs h = h
star_plain (ctypes.Neon l wide) constant bs h = h
star_plain ctypes.Pair constant bs h = h
star_plain (ctypes.Pointer p base) true bs h = h
star_plain (ctypes.Pointer p base) false bs h = h
star_plain (ctypes.Array p n base) constant bs h = h

length_plain : (length : Option Tree) (bs : List Bit) → GoodPart length → all_written bs ≡ true → all_written (length_bits length bs) ≡ true
length_plain None bs g h = h
length_plain (Some n) bs g h = part_plain 1 n bs g h

brackets_plain : (t : CType) (length : Option Tree) (bs : List Bit) → GoodPart length → all_written bs ≡ true → all_written (brackets_bits t length bs) ≡ true
brackets_plain ctypes.Void length bs g h = h
brackets_plain (ctypes.Int t) length bs g h = h
brackets_plain ctypes.M128 length bs g h = h
brackets_plain ctypes.M256 length bs g h = h
brackets_plain (ctypes.Neon l wide) length bs g h = h
brackets_plain ctypes.Pair length bs g h = h
brackets_plain (ctypes.Pointer p base) length bs g h = h
brackets_plain (ctypes.Array p n base) length bs g h = length_plain length (mark (codes "]") bs) g h

declarator_plain : (d : Object) (bs : List Bit) → GoodName d.name → GoodPart d.length → all_written bs ≡ true → all_written (declarator_bits d bs) ≡ true
declarator_plain d bs n g h = star_plain d.ty d.constant _ (good_plain d.name (brackets_bits d.ty d.length bs) n (brackets_plain d.ty d.length bs g h))

alignas_plain : (align : Option Tree) (bs : List Bit) → GoodPart align → all_written bs ≡ true → all_written (alignas_bits align bs) ≡ true
alignas_plain None bs g h = h
alignas_plain (Some n) bs g h = part_plain 2 n (mark (codes ")") (space bs)) g h

attribute_plain : (align : Option Tree) (bs : List Bit) → GoodPart align → all_written bs ≡ true → all_written (attribute_bits align bs) ≡ true
attribute_plain None bs g h = h
attribute_plain (Some n) bs g h = part_plain 2 n (mark (codes ")") (mark (codes ")") (mark (codes ")") bs))) g h

shared_plain : (shared : Bool) (align : Option Tree) (bs : List Bit) → GoodPart align → all_written bs ≡ true → all_written (shared_bits shared align bs) ≡ true
shared_plain true align bs g h = alignas_plain align bs g h
shared_plain false align bs g h = h

own_plain : (shared : Bool) (align : Option Tree) (bs : List Bit) → GoodPart align → all_written bs ≡ true → all_written (own_bits shared align bs) ≡ true
own_plain true align bs g h = h
own_plain false align bs g h = attribute_plain align bs g h

init_plain : (init : Option Tree) (bs : List Bit) → GoodPart init → all_written bs ≡ true → all_written (init_bits init bs) ≡ true
init_plain None bs g h = h
init_plain (Some e) bs g h = part_plain 1 e bs g h

init_list_plain : (list : Option Trees) (bs : List Bit) → GoodList list → all_written bs ≡ true → all_written (init_list_bits list bs) ≡ true
init_list_plain None bs g h = h
init_list_plain (Some NoTrees) bs g h = absurd g
init_list_plain (Some (More a rest)) bs g h = list_plain (More a rest) (mark (codes "}") bs) g h

declared_plain : (shared : Bool) (d : Object) (bs : List Bit) → GoodObject d → all_written bs ≡ true → all_written (declared_bits shared d bs) ≡ true
declared_plain shared d bs g h =
    declarator_plain d (own_bits shared d.align (init_bits d.init (init_list_bits d.list bs))) g.named g.length
    (own_plain shared d.align (init_bits d.init (init_list_bits d.list bs)) g.align (init_plain d.init (init_list_bits d.list bs) g.init (init_list_plain d.list bs g.list h)))

further_plain : (shared : Bool) (t : CType) (constant : Bool) (ds : List Object) (bs : List Bit) → GoodOthers t constant ds → all_written bs ≡ true → all_written (further_bits shared ds bs) ≡ true
further_plain shared t constant [] bs g h = h
further_plain shared t constant (d ∷ ds) bs g h = declared_plain shared d (further_bits shared ds bs) g.0 (further_plain shared t constant ds bs g.3 h)

pub declaration_plain : (ds : List Object) (bs : List Bit) → GoodDeclaration ds → all_written bs ≡ true → all_written (declaration_bits ds bs) ≡ true
declaration_plain [] bs g h = absurd g
declaration_plain (d ∷ ds) bs (g, others) h =
    shared_plain (is_shared (d ∷ ds)) d.align _ g.align (specifiers_plain d _
    (declared_plain (is_shared (d ∷ ds)) d (further_bits (is_shared (d ∷ ds)) ds bs) g (further_plain (is_shared (d ∷ ds)) _ _ ds bs others h)))

parameter_plain : (d : Object) (bs : List Bit) → GoodObject d → all_written bs ≡ true → all_written (parameter_bits d bs) ≡ true
parameter_plain d bs g h = specifiers_plain d (declarator_bits d bs) (declarator_plain d bs g.named g.length h)

further_parameters_plain : (ds : List Object) (bs : List Bit) → GoodParameters ds → all_written bs ≡ true → all_written (further_parameter_bits ds bs) ≡ true
further_parameters_plain [] bs g h = h
further_parameters_plain (d ∷ ds) bs (g, others) h = parameter_plain d (further_parameter_bits ds bs) g.good (further_parameters_plain ds bs others h)

pub parameters_plain : (ds : List Object) (bs : List Bit) → GoodParameters ds → all_written bs ≡ true → all_written (parameters_bits ds bs) ≡ true
parameters_plain [] bs g h = h
parameters_plain (d ∷ ds) bs (g, others) h = parameter_plain d (further_parameter_bits ds bs) g.good (further_parameters_plain ds bs others h)

-- The parts of statements.
margin_plain : (depth : ℕ) (bs : List Bit) → all_written bs ≡ true → all_written (margin_bits depth bs) ≡ true
margin_plain zero bs h = h
margin_plain (suc depth) bs h = margin_plain depth bs h

optional_plain : (e : Option Tree) (bs : List Bit) → GoodPart e → all_written bs ≡ true → all_written (optional_bits e bs) ≡ true
optional_plain None bs g h = h
optional_plain (Some e) bs g h = expression_plain e bs g h

simple_plain : (s : Statement) (bs : List Bit) → GoodStatement s → all_written bs ≡ true → all_written (simple_bits s bs) ≡ true
simple_plain (Declare ds) bs g h = declaration_plain ds bs g h
simple_plain (Run e) bs g h = expression_plain e bs g h
simple_plain (Block all) bs g h = h
simple_plain (If c s o) bs g h = h
simple_plain (While c s) bs g h = h
simple_plain (DoWhile s c) bs g h = h
simple_plain (For i c n s) bs g h = h
simple_plain (Break p) bs g h = h
simple_plain (Continue p) bs g h = h
simple_plain (Return p e) bs g h = optional_plain e bs g h
simple_plain Empty bs g h = h

start_plain : (start : Optional) (bs : List Bit) → GoodStart start → all_written bs ≡ true → all_written (start_bits start bs) ≡ true
start_plain Absent bs g h = h
start_plain (Present (Declare ds)) bs g h = declaration_plain ds bs g h
start_plain (Present (Run e)) bs g h = expression_plain e bs g h
start_plain (Present (Block all)) bs g h = absurd g
start_plain (Present (If c s o)) bs g h = absurd g
start_plain (Present (While c s)) bs g h = absurd g
start_plain (Present (DoWhile s c)) bs g h = absurd g
start_plain (Present (For i c n s)) bs g h = absurd g
start_plain (Present (Break p)) bs g h = absurd g
start_plain (Present (Continue p)) bs g h = absurd g
start_plain (Present (Return p e)) bs g h = absurd g
start_plain (Present Empty) bs g h = absurd g

for_plain : (start : Optional) (condition next : Option Tree) (bs : List Bit) → GoodStart start → GoodPart condition → GoodPart next → all_written bs ≡ true → all_written (for_bits start condition next bs) ≡ true
for_plain start condition next bs g k l h =
    start_plain start (mark (codes ";") (optional_bits condition (mark (codes ";") (optional_bits next (mark (codes ")") (space bs)))))) g
    (optional_plain condition (mark (codes ";") (optional_bits next (mark (codes ")") (space bs)))) k (optional_plain next (mark (codes ")") (space bs)) l h))

first_plain : (p : Position) (depth : ℕ) (bs : List Bit) → all_written bs ≡ true → all_written (first_bits p depth bs) ≡ true
first_plain Line depth bs h = margin_plain depth bs h
first_plain Body depth bs h = margin_plain depth bs h
first_plain Else depth bs h = h

closed_plain : (depth : ℕ) (bs : List Bit) → all_written bs ≡ true → all_written (closed_bits depth bs) ≡ true
closed_plain depth bs h = margin_plain depth (mark (codes "}") bs) h

simple_line_plain : (p : Position) (depth : ℕ) (s : Statement) (bs : List Bit) → GoodStatement s → all_written bs ≡ true → all_written (first_bits p depth (simple_bits s (mark (codes ";") (line_end bs)))) ≡ true
simple_line_plain p depth s bs g h = first_plain p depth (simple_bits s (mark (codes ";") (line_end bs))) (simple_plain s (mark (codes ";") (line_end bs)) g h)

-- either of two, by a test
either_plain : (b : Bool) (x y : List Bit) → all_written x ≡ true → all_written y ≡ true → all_written (if b then x else y) ≡ true
either_plain true x y h k = h
either_plain false x y h k = k

-- a heading in front of the lines of a body
block_plain : (p : Position) (depth : ℕ) (inner : List Bit) → all_written inner ≡ true → all_written (first_bits p depth (opened_bits inner)) ≡ true
block_plain p depth inner h = first_plain p depth (opened_bits inner) h

if_plain : (p : Position) (depth : ℕ) (c : Tree) (inner : List Bit) → Good c → all_written inner ≡ true → all_written (first_bits p depth (condition_bits (codes "if") c (opened_bits inner))) ≡ true
if_plain p depth c inner g h = first_plain p depth (condition_bits (codes "if") c (opened_bits inner)) (expression_plain c (mark (codes ")") (space (opened_bits inner))) g h)

while_plain : (p : Position) (depth : ℕ) (c : Tree) (inner : List Bit) → Good c → all_written inner ≡ true → all_written (first_bits p depth (condition_bits (codes "while") c (opened_bits inner))) ≡ true
while_plain p depth c inner g h = first_plain p depth (condition_bits (codes "while") c (opened_bits inner)) (expression_plain c (mark (codes ")") (space (opened_bits inner))) g h)

do_plain : (p : Position) (depth : ℕ) (inner : List Bit) → all_written inner ≡ true → all_written (first_bits p depth (name (codes "do") (space (opened_bits inner)))) ≡ true
do_plain p depth inner h = first_plain p depth (name (codes "do") (space (opened_bits inner))) h

loop_plain : (p : Position) (depth : ℕ) (start : Optional) (condition next : Option Tree) (inner : List Bit) → GoodStart start → GoodPart condition → GoodPart next → all_written inner ≡ true →
    all_written (first_bits p depth (for_bits start condition next (opened_bits inner))) ≡ true
loop_plain p depth start condition next inner g k l h = first_plain p depth (for_bits start condition next (opened_bits inner)) (for_plain start condition next (opened_bits inner) g k l h)

-- the body of a `do`, closed in front of its condition
until_plain : (depth : ℕ) (c : Tree) (bs : List Bit) → Good c → all_written bs ≡ true →
    all_written (closed_bits depth (space (name (codes "while") (space (mark (codes "(") (expression_bits c (mark (codes ")") (mark (codes ";") (line_end bs))))))))) ≡ true
until_plain depth c bs g h =
    closed_plain depth (space (name (codes "while") (space (mark (codes "(") (expression_bits c (mark (codes ")") (mark (codes ";") (line_end bs)))))))) (expression_plain c (mark (codes ")") (mark (codes ";") (line_end bs))) g h)

-- Statements, each form for the three places where it may stand.
mutual
  pub statement_plain : (p : Position) (depth : ℕ) (s : Statement) (bs : List Bit) → GoodStatement s → all_written bs ≡ true → all_written (statement_bits p depth s bs) ≡ true
  statement_plain Line depth (Declare ds) bs g h = simple_line_plain Line depth (Declare ds) bs g h
  statement_plain Body depth (Declare ds) bs g h = simple_line_plain Body depth (Declare ds) bs g h
  statement_plain Else depth (Declare ds) bs g h = simple_line_plain Else depth (Declare ds) bs g h
  statement_plain Line depth (Run e) bs g h = simple_line_plain Line depth (Run e) bs g h
  statement_plain Body depth (Run e) bs g h = simple_line_plain Body depth (Run e) bs g h
  statement_plain Else depth (Run e) bs g h = simple_line_plain Else depth (Run e) bs g h
  statement_plain Body depth (Block all) bs g h = statements_plain depth all bs g h
  statement_plain Line depth (Block all) bs g h = block_plain Line depth (statements_bits (depth + 1) all (closed_bits depth (line_end bs))) (statements_plain (depth + 1) all (closed_bits depth (line_end bs)) g (closed_plain depth (line_end bs) h))
  statement_plain Else depth (Block all) bs g h = block_plain Else depth (statements_bits (depth + 1) all (closed_bits depth (line_end bs))) (statements_plain (depth + 1) all (closed_bits depth (line_end bs)) g (closed_plain depth (line_end bs) h))
  statement_plain Line depth (If c s o) bs g h =
      if_plain Line depth c (statement_bits Body (depth + 1) s (closed_bits depth (otherwise_bits depth o bs))) g.0
      (statement_plain Body (depth + 1) s (closed_bits depth (otherwise_bits depth o bs)) g.2 (closed_plain depth (otherwise_bits depth o bs) (otherwise_plain depth o bs g.3 h)))
  statement_plain Body depth (If c s o) bs g h =
      if_plain Body depth c (statement_bits Body (depth + 1) s (closed_bits depth (otherwise_bits depth o bs))) g.0
      (statement_plain Body (depth + 1) s (closed_bits depth (otherwise_bits depth o bs)) g.2 (closed_plain depth (otherwise_bits depth o bs) (otherwise_plain depth o bs g.3 h)))
  statement_plain Else depth (If c s o) bs g h =
      if_plain Else depth c (statement_bits Body (depth + 1) s (closed_bits depth (otherwise_bits depth o bs))) g.0
      (statement_plain Body (depth + 1) s (closed_bits depth (otherwise_bits depth o bs)) g.2 (closed_plain depth (otherwise_bits depth o bs) (otherwise_plain depth o bs g.3 h)))
  statement_plain Line depth (While c s) bs g h =
      while_plain Line depth c (statement_bits Body (depth + 1) s (closed_bits depth (line_end bs))) g.0 (statement_plain Body (depth + 1) s (closed_bits depth (line_end bs)) g.2 (closed_plain depth (line_end bs) h))
  statement_plain Body depth (While c s) bs g h =
      while_plain Body depth c (statement_bits Body (depth + 1) s (closed_bits depth (line_end bs))) g.0 (statement_plain Body (depth + 1) s (closed_bits depth (line_end bs)) g.2 (closed_plain depth (line_end bs) h))
  statement_plain Else depth (While c s) bs g h =
      while_plain Else depth c (statement_bits Body (depth + 1) s (closed_bits depth (line_end bs))) g.0 (statement_plain Body (depth + 1) s (closed_bits depth (line_end bs)) g.2 (closed_plain depth (line_end bs) h))
  statement_plain Line depth (DoWhile s c) bs g h =
      do_plain Line depth (statement_bits Body (depth + 1) s (closed_bits depth (space (name (codes "while") (space (mark (codes "(") (expression_bits c (mark (codes ")") (mark (codes ";") (line_end bs))))))))))
      (statement_plain Body (depth + 1) s (closed_bits depth (space (name (codes "while") (space (mark (codes "(") (expression_bits c (mark (codes ")") (mark (codes ";") (line_end bs))))))))) g.1 (until_plain depth c bs g.2 h))
  statement_plain Body depth (DoWhile s c) bs g h =
      do_plain Body depth (statement_bits Body (depth + 1) s (closed_bits depth (space (name (codes "while") (space (mark (codes "(") (expression_bits c (mark (codes ")") (mark (codes ";") (line_end bs))))))))))
      (statement_plain Body (depth + 1) s (closed_bits depth (space (name (codes "while") (space (mark (codes "(") (expression_bits c (mark (codes ")") (mark (codes ";") (line_end bs))))))))) g.1 (until_plain depth c bs g.2 h))
  statement_plain Else depth (DoWhile s c) bs g h =
      do_plain Else depth (statement_bits Body (depth + 1) s (closed_bits depth (space (name (codes "while") (space (mark (codes "(") (expression_bits c (mark (codes ")") (mark (codes ";") (line_end bs))))))))))
      (statement_plain Body (depth + 1) s (closed_bits depth (space (name (codes "while") (space (mark (codes "(") (expression_bits c (mark (codes ")") (mark (codes ";") (line_end bs))))))))) g.1 (until_plain depth c bs g.2 h))
  statement_plain Line depth (For i c n s) bs g h =
      loop_plain Line depth i c n (statement_bits Body (depth + 1) s (closed_bits depth (line_end bs))) g.0 g.1 g.2 (statement_plain Body (depth + 1) s (closed_bits depth (line_end bs)) g.4 (closed_plain depth (line_end bs) h))
  statement_plain Body depth (For i c n s) bs g h =
      loop_plain Body depth i c n (statement_bits Body (depth + 1) s (closed_bits depth (line_end bs))) g.0 g.1 g.2 (statement_plain Body (depth + 1) s (closed_bits depth (line_end bs)) g.4 (closed_plain depth (line_end bs) h))
  statement_plain Else depth (For i c n s) bs g h =
      loop_plain Else depth i c n (statement_bits Body (depth + 1) s (closed_bits depth (line_end bs))) g.0 g.1 g.2 (statement_plain Body (depth + 1) s (closed_bits depth (line_end bs)) g.4 (closed_plain depth (line_end bs) h))
  statement_plain Line depth (Break q) bs g h = simple_line_plain Line depth (Break q) bs g h
  statement_plain Body depth (Break q) bs g h = simple_line_plain Body depth (Break q) bs g h
  statement_plain Else depth (Break q) bs g h = simple_line_plain Else depth (Break q) bs g h
  statement_plain Line depth (Continue q) bs g h = simple_line_plain Line depth (Continue q) bs g h
  statement_plain Body depth (Continue q) bs g h = simple_line_plain Body depth (Continue q) bs g h
  statement_plain Else depth (Continue q) bs g h = simple_line_plain Else depth (Continue q) bs g h
  statement_plain Line depth (Return q e) bs g h = simple_line_plain Line depth (Return q e) bs g h
  statement_plain Body depth (Return q e) bs g h = simple_line_plain Body depth (Return q e) bs g h
  statement_plain Else depth (Return q e) bs g h = simple_line_plain Else depth (Return q e) bs g h
  statement_plain Line depth Empty bs g h = simple_line_plain Line depth Empty bs g h
  statement_plain Body depth Empty bs g h = simple_line_plain Body depth Empty bs g h
  statement_plain Else depth Empty bs g h = simple_line_plain Else depth Empty bs g h

  otherwise_plain : (depth : ℕ) (o : Optional) (bs : List Bit) → GoodElse o → all_written bs ≡ true → all_written (otherwise_bits depth o bs) ≡ true
  otherwise_plain depth Absent bs g h = h
  otherwise_plain depth (Present s) bs (shape, g) h =
      either_plain (is_if s) (statement_bits Else depth s bs) (space (name (codes "else") (space (opened_bits (statement_bits Body (depth + 1) s (closed_bits depth (line_end bs))))))) (statement_plain Else depth s bs g h)
      (statement_plain Body (depth + 1) s (closed_bits depth (line_end bs)) g (closed_plain depth (line_end bs) h))

  pub statements_plain : (depth : ℕ) (all : Statements) (bs : List Bit) → GoodStatements all → all_written bs ≡ true → all_written (statements_bits depth all bs) ≡ true
  statements_plain depth NoStatements bs g h = h
  statements_plain depth (Then s rest) bs (g, others) h = statement_plain Line depth s (statements_bits depth rest bs) g (statements_plain depth rest bs others h)

-- Functions, tables and units.
static_plain : (b : Bool) (bs : List Bit) → all_written bs ≡ true → all_written (static_bits b bs) ≡ true
static_plain true bs h = h
static_plain false bs h = h

inline_plain : (b : Bool) (bs : List Bit) → all_written bs ≡ true → all_written (inline_bits b bs) ≡ true
inline_plain true bs h = h
inline_plain false bs h = h

result_plain : (f : Definition) (bs : List Bit) → all_written bs ≡ true → all_written (result_bits f bs) ≡ true
result_plain f bs h = const_plain (is_base_const f.result) _ (base_plain f.result (space (star_bits f.result false bs)) (star_plain f.result false bs h))

heading_plain : (f : Definition) (bs : List Bit) → GoodFunction f → all_written bs ≡ true → all_written (heading_bits f bs) ≡ true
heading_plain f bs g h =
    static_plain f.is_static _ (inline_plain f.is_inline _ (result_plain f _
    (good_plain f.name (mark (codes "(") (parameters_bits f.params (mark (codes ")") (space bs)))) g.named (parameters_plain f.params (mark (codes ")") (space bs)) g.params h))))

pub item_plain : (item : External) (bs : List Bit) → GoodItem item → all_written bs ≡ true → all_written (item_bits item bs) ≡ true
item_plain (Function f) bs g h = heading_plain f (opened_bits (statements_bits 1 f.body (mark (codes "}") (line_end bs)))) g (statements_plain 1 f.body (mark (codes "}") (line_end bs)) g.body h)
item_plain (Table d is_static) bs (g, valued) h = static_plain is_static _ (declaration_plain (d ∷ []) (mark (codes ";") (line_end bs)) (g, tt) h)

pub items_plain : (items : List External) (bs : List Bit) → GoodUnit items → all_written bs ≡ true → all_written (items_bits items bs) ≡ true
items_plain [] bs g h = h
items_plain (item ∷ rest) bs (g, others) h = item_plain item (items_bits rest bs) g (items_plain rest bs others h)

-- such words are plain
pub plain_words : (bits : List Bit) → all_written bits ≡ true → all_plain bits ≡ true
plain_words [] h = refl
plain_words (b ∷ bs) h =
    let parts = both (is_written_bit b) (all_written bs) h in
    rw (both (is_plain_bit b) (is_free_sort b.sort (bit_text b)) parts.0).0 (plain_words bs parts.1)

header_plain : (bs : List Bit) → all_plain bs ≡ true → all_plain (header_bits bs) ≡ true
header_plain bs h = h

-- the words of a unit behind these lines
pub unit_written : (items : List External) → GoodUnit items → all_written (items_bits items []) ≡ true
unit_written items g = items_plain items [] g refl

-- and all of its words
pub unit_plain : (items : List External) → GoodUnit items → all_plain (unit_bits items) ≡ true
unit_plain items g = header_plain (items_bits items []) (plain_words (items_bits items []) (unit_written items g))
