-- The words that expressions are written with.
use Rattle.std.proofs.Common.{◌≡◌, ℕ, ◌+◌, List, [], ◌∷◌, ◌++◌, Bool, true, false, Option, Some, None, refl, sym, ◌∙◌, ap}
use Rattle.std.proofs.lemmas.List.{append_assoc}
use Rattle.std.specs.Prelude.{nat_lt, codes, decimal, unsigned_abs}
use Rattle.c_text.specs.declared.tokens.TokenKind.TheVariants.{Name, Number, Mark}
use Rattle.c_text.specs.declared.pieces.Sort.{Sort}
use Rattle.c_text.specs.declared.pieces.Sort.TheVariants.{Lexeme, Blank, LineEnd}
use Rattle.lane_core.specs.declared.number.BinOp.{BinOp}
use Rattle.lane_core.specs.declared.number.Num.{Num}
use Rattle.lane_core.specs.declared.number.IntType.{IntType}
use Rattle.lane_core.specs.declared.number.IntType.TheVariants as ints
use Rattle.lane_core.specs.declared.vector.Pointee.{Pointee}
use Rattle.lane_core.specs.declared.vector.Pointee.TheVariants as pointees
use Rattle.c_tree.specs.declared.types.CType.{CType}
use Rattle.c_tree.specs.declared.types.CType.TheVariants as ctypes
use Rattle.c_tree.specs.Tree as trees
use Rattle.c_tree.specs.Tree.{Tree, Kind, Trees, Node, NoTrees, More}
use Rattle.c_print.specs.Types.{integer_text, vector_text, pointee_text, base_text, const_text, is_base_const, behind_base, type_text}
use Rattle.c_print.specs.Constants.{constant_text, sign_text, magnitude_text}
use Rattle.c_tree.specs.Operators.{operator_text, prefix_text, step_text}
use Rattle.c_print.specs.Expressions.{assignment_text, operator_level, kind_level, opening, closing, is_wrapped_operand, spaced, text, part, operand, kind_text, list_text, more_text, pair_opening}
use Rattle.round_trip.specs.Words.{Bit, bits_text}

-- a word in front of others
abbrev pub bit : Sort → List ℕ → List Bit → List Bit
bit s [] bs = bs
bit s (c ∷ cs) bs = record { sort = s; first = c; others = cs } ∷ bs

abbrev pub name : List ℕ → List Bit → List Bit
name = bit (Lexeme Name)

abbrev pub number : List ℕ → List Bit → List Bit
number = bit (Lexeme Number)

abbrev pub mark : List ℕ → List Bit → List Bit
mark = bit (Lexeme Mark)

abbrev pub space : List Bit → List Bit
space bs = record { sort = Blank; first = 32; others = [] } ∷ bs

abbrev pub line_end : List Bit → List Bit
line_end bs = record { sort = LineEnd; first = 10; others = [] } ∷ bs

abbrev pub written : List Bit → List ℕ
written bs = bits_text bs []

pub bit_says : (s : Sort) (t : List ℕ) (bs : List Bit) → written (bit s t bs) ≡ t ++ written bs
bit_says s [] bs = refl
bit_says s (c ∷ cs) bs = refl

-- the words of types
abbrev pub integer_bits : IntType → List Bit → List Bit
integer_bits ints.Char bs = name (codes "signed") (space (name (codes "char") bs))
integer_bits ints.SChar bs = name (codes "signed") (space (name (codes "char") bs))
integer_bits ints.LLong bs = name (codes "long") (space (name (codes "long") bs))
integer_bits ints.ULLong bs = name (codes "unsigned") (space (name (codes "long") (space (name (codes "long") bs))))
integer_bits t bs = name (integer_text t) bs

abbrev pub pointee_bits : Pointee → List Bit → List Bit
pointee_bits (pointees.Int t) bs = integer_bits t bs
pointee_bits p bs = name (pointee_text p) bs

abbrev pub base_bits : CType → List Bit → List Bit
base_bits (ctypes.Int t) bs = integer_bits t bs
base_bits (ctypes.Pointer p constant) bs = pointee_bits p bs
base_bits (ctypes.Array p n constant) bs = pointee_bits p bs
base_bits t bs = name (base_text t) bs

abbrev pub const_bits : Bool → List Bit → List Bit
const_bits true bs = name (codes "const") (space bs)
const_bits false bs = bs

abbrev pub behind_bits : CType → List Bit → List Bit
behind_bits (ctypes.Pointer p constant) bs = space (mark (codes "*") bs)
behind_bits (ctypes.Array p n constant) bs = space (mark (codes "[") (number (decimal n) (mark (codes "]") bs)))
behind_bits t bs = bs

abbrev pub type_bits : CType → List Bit → List Bit
type_bits t bs = const_bits (is_base_const t) (base_bits t (behind_bits t bs))

-- the words of a constant
abbrev pub constant_bits : Num → List Bit → List Bit
constant_bits n bs = mark (sign_text n.value) (number (magnitude_text n.ty (unsigned_abs n.value)) bs)

abbrev pub opening_bits : Bool → List Bit → List Bit
opening_bits true bs = mark (codes "(") bs
opening_bits false bs = bs

abbrev pub closing_bits : Bool → List Bit → List Bit
closing_bits true bs = mark (codes ")") bs
closing_bits false bs = bs

abbrev pub spaced_bits : List ℕ → List Bit → List Bit
spaced_bits op bs = space (mark op (space bs))

abbrev pub assignment_mark : Option BinOp → List ℕ
assignment_mark None = codes "="
assignment_mark (Some op) = operator_text op ++ codes "="

abbrev pub comma : List Bit → List Bit
comma bs = mark (codes ",") (space bs)

abbrev mutual
  pub expression_bits : Tree → List Bit → List Bit
  expression_bits (Node p ty k) bs = kind_bits k bs

  pub part_bits : ℕ → Tree → List Bit → List Bit
  part_bits wanted (Node p ty k) bs = opening_bits (nat_lt (kind_level k) wanted) (kind_bits k (closing_bits (nat_lt (kind_level k) wanted) bs))

  pub operand_bits : Tree → List Bit → List Bit
  operand_bits (Node p ty k) bs = opening_bits (is_wrapped_operand (kind_level k)) (kind_bits k (closing_bits (is_wrapped_operand (kind_level k)) bs))

  pub kind_bits : Kind → List Bit → List Bit
  kind_bits (trees.Const n) bs = constant_bits n bs
  kind_bits (trees.Name x) bs = name x bs
  kind_bits (trees.Unary op a) bs = mark (prefix_text op) (operand_bits a bs)
  kind_bits (trees.Step a up true) bs = mark (step_text up) (part_bits 15 a bs)
  kind_bits (trees.Step a up false) bs = part_bits 16 a (mark (step_text up) bs)
  kind_bits (trees.Binary op a b) bs = part_bits (operator_level op) a (spaced_bits (operator_text op) (part_bits (operator_level op + 1) b bs))
  kind_bits (trees.AndThen a b) bs = part_bits 4 a (spaced_bits (codes "&&") (part_bits 5 b bs))
  kind_bits (trees.OrElse a b) bs = part_bits 3 a (spaced_bits (codes "||") (part_bits 4 b bs))
  kind_bits (trees.Choice c a b) bs = part_bits 3 c (spaced_bits (codes "?") (expression_bits a (spaced_bits (codes ":") (part_bits 2 b bs))))
  kind_bits (trees.Assign op a b) bs = part_bits 14 a (spaced_bits (assignment_mark op) (part_bits 1 b bs))
  kind_bits (trees.Comma all) bs = list_bits all bs
  kind_bits (trees.Cast ty a true) bs = mark (codes "(") (type_bits ty (mark (codes ")") (part_bits 13 a bs)))
  kind_bits (trees.Cast ty a false) bs = expression_bits a bs
  kind_bits (trees.Index a b) bs = part_bits 17 a (mark (codes "[") (expression_bits b (mark (codes "]") bs)))
  kind_bits (trees.Deref a) bs = mark (codes "*") (operand_bits a bs)
  kind_bits (trees.Address a) bs = mark (codes "&") (operand_bits a bs)
  kind_bits (trees.Call f all) bs = name f (mark (codes "(") (list_bits all (mark (codes ")") bs)))
  kind_bits (trees.Half a k) bs = part_bits 18 a (mark (codes ".") (name (codes "val") (mark (codes "[") (number (decimal k) (mark (codes "]") bs)))))
  kind_bits (trees.PairOf a b) bs =
      mark (codes "(") (name (codes "uint8x16x2_t") (mark (codes ")") (mark (codes "{") (mark (codes "{") (part_bits 1 a (comma (part_bits 1 b (mark (codes "}") (mark (codes "}") bs)))))))))
  kind_bits (trees.SizeOfType ty) bs = name (codes "sizeof") (mark (codes "(") (type_bits ty (mark (codes ")") bs)))
  kind_bits (trees.SizeOfName x) bs = name (codes "sizeof") (mark (codes "(") (name x (mark (codes ")") bs)))
  kind_bits (trees.Str x) bs = name x bs

  pub list_bits : Trees → List Bit → List Bit
  list_bits NoTrees bs = bs
  list_bits (More a rest) bs = part_bits 1 a (more_bits rest bs)

  pub more_bits : Trees → List Bit → List Bit
  more_bits NoTrees bs = bs
  more_bits (More a rest) bs = comma (part_bits 1 a (more_bits rest bs))

-- What these words are written as.
pub two : (a b t : List ℕ) → a ++ (b ++ t) ≡ (a ++ b) ++ t
two a b t = sym (append_assoc a b t)

pub three : (a b c t : List ℕ) → a ++ (b ++ (c ++ t)) ≡ (a ++ (b ++ c)) ++ t
three a b c t = ap (λ r. a ++ r) (two b c t) ∙ two a (b ++ c) t

pub four : (a b c d t : List ℕ) → a ++ (b ++ (c ++ (d ++ t))) ≡ (a ++ (b ++ (c ++ d))) ++ t
four a b c d t = ap (λ r. a ++ r) (three b c d t) ∙ two a (b ++ (c ++ d)) t

pub five : (a b c d e t : List ℕ) → a ++ (b ++ (c ++ (d ++ (e ++ t)))) ≡ (a ++ (b ++ (c ++ (d ++ e)))) ++ t
five a b c d e t = ap (λ r. a ++ r) (four b c d e t) ∙ two a (b ++ (c ++ (d ++ e))) t

pub integer_says : (t : IntType) (bs : List Bit) → written (integer_bits t bs) ≡ integer_text t ++ written bs
integer_says ints.Boolean bs = refl
integer_says ints.Char bs = refl
integer_says ints.SChar bs = refl
integer_says ints.UChar bs = refl
integer_says ints.Short bs = refl
integer_says ints.UShort bs = refl
integer_says ints.Int bs = refl
integer_says ints.UInt bs = refl
integer_says ints.Long bs = refl
integer_says ints.ULong bs = refl
integer_says ints.LLong bs = refl
integer_says ints.ULLong bs = refl

pub pointee_says : (p : Pointee) (bs : List Bit) → written (pointee_bits p bs) ≡ pointee_text p ++ written bs
pointee_says pointees.Void bs = refl
pointee_says (pointees.Int t) bs = integer_says t bs
pointee_says pointees.M128 bs = refl
pointee_says pointees.M256 bs = refl

pub base_says : (t : CType) (bs : List Bit) → written (base_bits t bs) ≡ base_text t ++ written bs
base_says ctypes.Void bs = refl
base_says (ctypes.Int t) bs = integer_says t bs
base_says ctypes.M128 bs = refl
base_says ctypes.M256 bs = refl
base_says (ctypes.Neon l wide) bs = bit_says (Lexeme Name) (vector_text l wide) bs
base_says ctypes.Pair bs = refl
base_says (ctypes.Pointer p constant) bs = pointee_says p bs
base_says (ctypes.Array p n constant) bs = pointee_says p bs

pub const_says : (c : Bool) (bs : List Bit) → written (const_bits c bs) ≡ const_text c ++ written bs
const_says true bs = refl
const_says false bs = refl

behind_says : (t : CType) (bs : List Bit) → written (behind_bits t bs) ≡ behind_base t ++ written bs
behind_says ctypes.Void bs = refl
behind_says (ctypes.Int t) bs = refl
behind_says ctypes.M128 bs = refl
behind_says ctypes.M256 bs = refl
behind_says (ctypes.Neon l wide) bs = refl
behind_says ctypes.Pair bs = refl
behind_says (ctypes.Pointer p constant) bs = refl
behind_says (ctypes.Array p n constant) bs = rw (bit_says (Lexeme Number) (decimal n) (mark (codes "]") bs)) (three (codes " [") (decimal n) (codes "]") (written bs))

pub type_says : (t : CType) (bs : List Bit) → written (type_bits t bs) ≡ type_text t ++ written bs
type_says t bs = const_says (is_base_const t) _ ∙ rw (base_says t (behind_bits t bs), behind_says t bs) (three (const_text (is_base_const t)) (base_text t) (behind_base t) (written bs))

open_says : (b : Bool) (bs : List Bit) → written (opening_bits b bs) ≡ opening b ++ written bs
open_says true bs = refl
open_says false bs = refl

close_says : (b : Bool) (bs : List Bit) → written (closing_bits b bs) ≡ closing b ++ written bs
close_says true bs = refl
close_says false bs = refl

constant_says : (n : Num) (bs : List Bit) → written (constant_bits n bs) ≡ constant_text n ++ written bs
constant_says n bs =
    bit_says (Lexeme Mark) (sign_text n.value) _ ∙ rw (bit_says (Lexeme Number) (magnitude_text n.ty (unsigned_abs n.value)) bs) (two (sign_text n.value) (magnitude_text n.ty (unsigned_abs n.value)) (written bs))

spaced_says : (op : List ℕ) (bs : List Bit) → written (spaced_bits op bs) ≡ spaced op ++ written bs
spaced_says op bs = rw (bit_says (Lexeme Mark) op (space bs)) (three (codes " ") op (codes " ") (written bs))

assignment_says : (op : Option BinOp) (bs : List Bit) → written (spaced_bits (assignment_mark op) bs) ≡ assignment_text op ++ written bs
assignment_says None bs = refl
assignment_says (Some op) bs = rw (bit_says (Lexeme Mark) (operator_text op ++ codes "=") (space bs)) (ap (λ r. 32 ∷ r) (append_assoc (operator_text op) (codes "=") (codes " " ++ written bs) ∙ two (operator_text op) (codes "= ") (written bs)))

mutual
  unfolding pair_opening

  pub expression_says : (e : Tree) (bs : List Bit) → written (expression_bits e bs) ≡ text e ++ written bs
  expression_says (Node p ty k) bs = kind_says k bs

  pub part_says : (wanted : ℕ) (e : Tree) (bs : List Bit) → written (part_bits wanted e bs) ≡ part wanted e ++ written bs
  part_says wanted (Node p ty k) bs =
      open_says (nat_lt (kind_level k) wanted) _ ∙ rw (kind_says k (closing_bits (nat_lt (kind_level k) wanted) bs), close_says (nat_lt (kind_level k) wanted) bs) (three (opening (nat_lt (kind_level k) wanted)) (kind_text k) (closing (nat_lt (kind_level k) wanted)) (written bs))

  pub operand_says : (e : Tree) (bs : List Bit) → written (operand_bits e bs) ≡ operand e ++ written bs
  operand_says (Node p ty k) bs =
      open_says (is_wrapped_operand (kind_level k)) _ ∙ rw (kind_says k (closing_bits (is_wrapped_operand (kind_level k)) bs), close_says (is_wrapped_operand (kind_level k)) bs) (three (opening (is_wrapped_operand (kind_level k))) (kind_text k) (closing (is_wrapped_operand (kind_level k))) (written bs))

  pub kind_says : (k : Kind) (bs : List Bit) → written (kind_bits k bs) ≡ kind_text k ++ written bs
  kind_says (trees.Const n) bs = constant_says n bs
  kind_says (trees.Name x) bs = bit_says (Lexeme Name) x bs
  kind_says (trees.Unary op a) bs = bit_says (Lexeme Mark) (prefix_text op) _ ∙ rw (operand_says a bs) (two (prefix_text op) (operand a) (written bs))
  kind_says (trees.Step a up true) bs = bit_says (Lexeme Mark) (step_text up) _ ∙ rw (part_says 15 a bs) (two (step_text up) (part 15 a) (written bs))
  kind_says (trees.Step a up false) bs = part_says 16 a _ ∙ rw (bit_says (Lexeme Mark) (step_text up) bs) (two (part 16 a) (step_text up) (written bs))
  kind_says (trees.Binary op a b) bs =
      part_says (operator_level op) a _ ∙ rw (spaced_says (operator_text op) (part_bits (operator_level op + 1) b bs), part_says (operator_level op + 1) b bs) (three (part (operator_level op) a) (spaced (operator_text op)) (part (operator_level op + 1) b) (written bs))
  kind_says (trees.AndThen a b) bs = part_says 4 a _ ∙ rw (spaced_says (codes "&&") (part_bits 5 b bs), part_says 5 b bs) (three (part 4 a) (spaced (codes "&&")) (part 5 b) (written bs))
  kind_says (trees.OrElse a b) bs = part_says 3 a _ ∙ rw (spaced_says (codes "||") (part_bits 4 b bs), part_says 4 b bs) (three (part 3 a) (spaced (codes "||")) (part 4 b) (written bs))
  kind_says (trees.Choice c a b) bs =
      part_says 3 c _ ∙ rw (spaced_says (codes "?") (expression_bits a (spaced_bits (codes ":") (part_bits 2 b bs))), expression_says a (spaced_bits (codes ":") (part_bits 2 b bs)), spaced_says (codes ":") (part_bits 2 b bs), part_says 2 b bs) (five (part 3 c) (codes " ? ") (text a) (codes " : ") (part 2 b) (written bs))
  kind_says (trees.Assign op a b) bs = part_says 14 a _ ∙ rw (assignment_says op (part_bits 1 b bs), part_says 1 b bs) (three (part 14 a) (assignment_text op) (part 1 b) (written bs))
  kind_says (trees.Comma all) bs = list_says all bs
  kind_says (trees.Cast ty a true) bs = rw (type_says ty (mark (codes ")") (part_bits 13 a bs)), part_says 13 a bs) (four (codes "(") (type_text ty) (codes ")") (part 13 a) (written bs))
  kind_says (trees.Cast ty a false) bs = expression_says a bs
  kind_says (trees.Index a b) bs = part_says 17 a _ ∙ rw (expression_says b (mark (codes "]") bs)) (four (part 17 a) (codes "[") (text b) (codes "]") (written bs))
  kind_says (trees.Deref a) bs = rw (operand_says a bs) refl
  kind_says (trees.Address a) bs = rw (operand_says a bs) refl
  kind_says (trees.Call f all) bs = bit_says (Lexeme Name) f _ ∙ rw (list_says all (mark (codes ")") bs)) (four f (codes "(") (list_text all) (codes ")") (written bs))
  kind_says (trees.Half a k) bs = part_says 18 a _ ∙ rw (bit_says (Lexeme Number) (decimal k) (mark (codes "]") bs)) (four (part 18 a) (codes ".val[") (decimal k) (codes "]") (written bs))
  kind_says (trees.PairOf a b) bs = rw (part_says 1 a (comma (part_bits 1 b (mark (codes "}") (mark (codes "}") bs)))), part_says 1 b (mark (codes "}") (mark (codes "}") bs))) (five (codes "(uint8x16x2_t){{") (part 1 a) (codes ", ") (part 1 b) (codes "}}") (written bs))
  kind_says (trees.SizeOfType ty) bs = rw (type_says ty (mark (codes ")") bs)) (three (codes "sizeof(") (type_text ty) (codes ")") (written bs))
  kind_says (trees.SizeOfName x) bs = rw (bit_says (Lexeme Name) x (mark (codes ")") bs)) (three (codes "sizeof(") x (codes ")") (written bs))
  kind_says (trees.Str x) bs = bit_says (Lexeme Name) x bs

  pub list_says : (all : Trees) (bs : List Bit) → written (list_bits all bs) ≡ list_text all ++ written bs
  list_says NoTrees bs = refl
  list_says (More a rest) bs = part_says 1 a _ ∙ rw (more_says rest bs) (two (part 1 a) (more_text rest) (written bs))

  pub more_says : (all : Trees) (bs : List Bit) → written (more_bits all bs) ≡ more_text all ++ written bs
  more_says NoTrees bs = refl
  more_says (More a rest) bs = rw (part_says 1 a (more_bits rest bs), more_says rest bs) (three (codes ", ") (part 1 a) (more_text rest) (written bs))
