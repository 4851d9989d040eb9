-- The text of an expression is cut back into its words.
use Rattle.std.proofs.Common.{◌≡◌, ℕ, zero, suc, ◌+◌, ◌≤◌, ◌<◌, List, [], ◌∷◌, Bool, true, false, cond, Option, Some, None, refl, ◌∙◌, ap, arith}
use Rattle.std.proofs.lemmas.Bool.{eqb-true}
use Rattle.std.proofs.lemmas.Fmt.{decimal_digit}
use Rattle.std.proofs.lemmas.Bool.Decides.{nat_tests}
use Rattle.std.specs.Prelude.{int_lt, pos, nat_lt, not, ◌&&◌, ◌||◌, ◌==◌, codes, decimal, unsigned_abs}
use Rattle.c_text.specs.declared.tokens.TokenKind.TheVariants.{Mark}
use Rattle.c_text.specs.declared.pieces.Sort.TheVariants.{Lexeme}
use Rattle.c_text.specs.Forms.{is_one_of, all_are, starts, is_letter, is_name_byte, is_name, is_exponent, goes_on, is_mark_triple}
use Rattle.c_text.specs.Reading.{piece_at}
use Rattle.c_text.proofs.Scans.{out, both}
use Rattle.c_text.proofs.Shapes.{letter_other, letter_no_digit}
use Rattle.lane_core.specs.declared.number.BinOp.{BinOp}
use Rattle.lane_core.specs.declared.number.BinOp.TheVariants as ops
use Rattle.lane_core.specs.declared.number.Num.{Num}
use Rattle.lane_core.specs.declared.number.UnOp.{UnOp}
use Rattle.lane_core.specs.declared.number.UnOp.TheVariants as signs
use Rattle.lane_core.specs.declared.number.IntType.{IntType}
use Rattle.lane_core.specs.declared.number.IntType.TheVariants as ints
use Rattle.lane_core.specs.declared.vector.NeonLane.{NeonLane}
use Rattle.lane_core.specs.declared.vector.NeonLane.TheVariants as lanes
use Rattle.lane_core.specs.declared.vector.Pointee.{Pointee}
use Rattle.lane_core.specs.declared.vector.Pointee.TheVariants as pointees
use Rattle.c_tree.specs.declared.types.CType.{CType}
use Rattle.c_tree.specs.declared.types.CType.TheVariants as ctypes
use Rattle.c_tree.specs.Tree as trees
use Rattle.c_tree.specs.Tree.{Tree, Kind, Trees, Node, NoTrees, More}
use Rattle.c_print.specs.Types.{vector_text}
use Rattle.c_print.specs.Constants.{magnitude_text}
use Rattle.c_tree.specs.Operators.{operator_text, prefix_text, step_text}
use Rattle.c_print.specs.Expressions.{operator_level, constant_level, kind_level, level, is_wrapped_operand}
use Rattle.round_trip.specs.Words.{Bit, CutsBack, ends_name, ends_number, ends_mark, ends_pair, goes_on_name, goes_on_mark, last_of}
use Rattle.round_trip.specs.Good.{GoodConstant, GoodType, GoodAssignment, Good, GoodKind, GoodAll}
use Rattle.round_trip.proofs.Bits.{name, number, mark, space, comma, written, integer_bits, pointee_bits, base_bits, const_bits, type_bits, constant_bits, opening_bits, closing_bits, spaced_bits, assignment_mark, expression_bits, part_bits, operand_bits, kind_bits, list_bits, more_bits}
use Rattle.round_trip.proofs.Numerals.{IsNumeral, numeral_of}
use Rattle.round_trip.proofs.Ends.{space_at, name_at, number_at, mark_at, pair_at, over_at, shift_at}

-- every expression ends in front of these bytes
abbrev pub enders : List ℕ
enders = codes " )],;}[+-\n"

abbrev pub ends : List ℕ → Bool
ends [] = true
ends (c ∷ rest) = is_one_of enders c

-- and an expression that has no operator ends in front of a `.` too
abbrev pub ends_base : List ℕ → Bool
ends_base [] = true
ends_base (c ∷ rest) = is_one_of (46 ∷ enders) c

-- what holds of all of these holds of one of them
among_more : (f : ℕ → Bool) (m c : ℕ) (ms : List ℕ) (t : Bool) → (c == m) ≡ t → f m ≡ true → (is_one_of ms c ≡ true → f c ≡ true) → (t || is_one_of ms c) ≡ true → f c ≡ true
among_more f m c ms true e h others k = ap f (eqb-true c m e) ∙ h
among_more f m c ms false e h others k = others k

among : (f : ℕ → Bool) (ms : List ℕ) (c : ℕ) → all_are f ms ≡ true → is_one_of ms c ≡ true → f c ≡ true
among f [] c h k = absurd (cc)
among f (m ∷ ms) c h k = among_more f m c ms (c == m) refl (both (f m) (all_are f ms) h).0 (among f ms c (both (f m) (all_are f ms) h).1) k

not_on : (t : Bool) → not t ≡ true → t ≡ false
not_on true h = absurd (cc)
not_on false h = refl

pub base_ends : (rest : List ℕ) → ends rest ≡ true → ends_base rest ≡ true
base_ends [] h = refl
base_ends (c ∷ rest) h = rw h (or_true (c == 46))
  where
    or_true : (t : Bool) → (t || true) ≡ true
    or_true true = refl
    or_true false = refl

pub name_ends : (rest : List ℕ) → ends_base rest ≡ true → ends_name rest ≡ true
name_ends [] h = refl
name_ends (c ∷ rest) h = among (λ c. not (goes_on_name c)) (46 ∷ enders) c refl h

-- a number that has no exponent's letter last ends in front of these
number_stops : (last c : ℕ) → is_exponent last ≡ false → is_one_of enders c ≡ true → not (goes_on last c) ≡ true
number_stops last c e h = rw (not_on (is_name_byte c) (among (λ c. not (is_name_byte c)) enders c refl h), not_on (c == 46) (among (λ c. not (c == 46)) enders c refl h), e) (last_false (is_one_of (codes "+-") c))
  where
    last_false : (t : Bool) → not (t && false) ≡ true
    last_false true = refl
    last_false false = refl

pub number_ends : (last : ℕ) (rest : List ℕ) → is_exponent last ≡ false → ends rest ≡ true → ends_number last rest ≡ true
number_ends last [] e h = refl
number_ends last (c ∷ rest) e h = number_stops last c e h

-- brackets, commas and semicolons end in front of anything
solo_shape : (s t : Bool) → not (((s && false) || ((t && false) || false)) || ((t && false) || (false || false))) ≡ true
solo_shape true true = refl
solo_shape true false = refl
solo_shape false true = refl
solo_shape false false = refl

stops : (a : ℕ) (rest : List ℕ) → ((c : ℕ) → not (goes_on_mark a c) ≡ true) → ends_mark a rest ≡ true
stops a [] h = refl
stops a (c ∷ rest) h = h c

pub open_at : (rest : List ℕ) → piece_at 40 rest ≡ (Lexeme Mark, 0)
open_at rest = mark_at 40 rest refl (stops 40 rest (λ c. solo_shape (c == 61) (40 == c)))

pub close_at : (rest : List ℕ) → piece_at 41 rest ≡ (Lexeme Mark, 0)
close_at rest = mark_at 41 rest refl (stops 41 rest (λ c. solo_shape (c == 61) (41 == c)))

pub open_square_at : (rest : List ℕ) → piece_at 91 rest ≡ (Lexeme Mark, 0)
open_square_at rest = mark_at 91 rest refl (stops 91 rest (λ c. solo_shape (c == 61) (91 == c)))

pub close_square_at : (rest : List ℕ) → piece_at 93 rest ≡ (Lexeme Mark, 0)
close_square_at rest = mark_at 93 rest refl (stops 93 rest (λ c. solo_shape (c == 61) (93 == c)))

pub open_brace_at : (rest : List ℕ) → piece_at 123 rest ≡ (Lexeme Mark, 0)
open_brace_at rest = mark_at 123 rest refl (stops 123 rest (λ c. solo_shape (c == 61) (123 == c)))

pub close_brace_at : (rest : List ℕ) → piece_at 125 rest ≡ (Lexeme Mark, 0)
close_brace_at rest = mark_at 125 rest refl (stops 125 rest (λ c. solo_shape (c == 61) (125 == c)))

pub comma_at : (rest : List ℕ) → piece_at 44 rest ≡ (Lexeme Mark, 0)
comma_at rest = mark_at 44 rest refl (stops 44 rest (λ c. solo_shape (c == 61) (44 == c)))

pub semicolon_at : (rest : List ℕ) → piece_at 59 rest ≡ (Lexeme Mark, 0)
semicolon_at rest = mark_at 59 rest refl (stops 59 rest (λ c. solo_shape (c == 61) (59 == c)))

triple_ends : (a b : ℕ) (rest : List ℕ) → ((c : ℕ) → not (is_mark_triple a b c) ≡ true) → ends_pair a b rest ≡ true
triple_ends a b [] h = refl
triple_ends a b (c ∷ rest) h = h c

-- a step ends in front of anything, and so does the `.` of `.val`
pub step_cuts : (up : Bool) (bs : List Bit) → CutsBack bs [] → CutsBack (mark (step_text up) bs) []
step_cuts true bs h = (pair_at 43 43 (written bs) refl refl refl refl (triple_ends 43 43 (written bs) (λ c. refl)), h)
step_cuts false bs h = (pair_at 45 45 (written bs) refl refl refl refl (triple_ends 45 45 (written bs) (λ c. refl)), h)

-- an operator ends in front of a space
pub spaced_cuts : (op : BinOp) (bs : List Bit) → CutsBack bs [] → CutsBack (spaced_bits (operator_text op) bs) []
spaced_cuts ops.Mul bs h = (space_at _, (mark_at 42 (32 ∷ written bs) refl refl, (space_at _, h)))
spaced_cuts ops.Div bs h = (space_at _, (mark_at 47 (32 ∷ written bs) refl refl, (space_at _, h)))
spaced_cuts ops.Rem bs h = (space_at _, (mark_at 37 (32 ∷ written bs) refl refl, (space_at _, h)))
spaced_cuts ops.Add bs h = (space_at _, (mark_at 43 (32 ∷ written bs) refl refl, (space_at _, h)))
spaced_cuts ops.Sub bs h = (space_at _, (mark_at 45 (32 ∷ written bs) refl refl, (space_at _, h)))
spaced_cuts ops.Shl bs h = (space_at _, (pair_at 60 60 (32 ∷ written bs) refl refl refl refl refl, (space_at _, h)))
spaced_cuts ops.Shr bs h = (space_at _, (pair_at 62 62 (32 ∷ written bs) refl refl refl refl refl, (space_at _, h)))
spaced_cuts ops.Lt bs h = (space_at _, (mark_at 60 (32 ∷ written bs) refl refl, (space_at _, h)))
spaced_cuts ops.Gt bs h = (space_at _, (mark_at 62 (32 ∷ written bs) refl refl, (space_at _, h)))
spaced_cuts ops.Le bs h = (space_at _, (pair_at 60 61 (32 ∷ written bs) refl refl refl refl refl, (space_at _, h)))
spaced_cuts ops.Ge bs h = (space_at _, (pair_at 62 61 (32 ∷ written bs) refl refl refl refl refl, (space_at _, h)))
spaced_cuts ops.Eq bs h = (space_at _, (pair_at 61 61 (32 ∷ written bs) refl refl refl refl refl, (space_at _, h)))
spaced_cuts ops.Ne bs h = (space_at _, (pair_at 33 61 (32 ∷ written bs) refl refl refl refl refl, (space_at _, h)))
spaced_cuts ops.BitAnd bs h = (space_at _, (mark_at 38 (32 ∷ written bs) refl refl, (space_at _, h)))
spaced_cuts ops.BitXor bs h = (space_at _, (mark_at 94 (32 ∷ written bs) refl refl, (space_at _, h)))
spaced_cuts ops.BitOr bs h = (space_at _, (mark_at 124 (32 ∷ written bs) refl refl, (space_at _, h)))

pub assignment_cuts : (op : Option BinOp) (bs : List Bit) → GoodAssignment op → CutsBack bs [] → CutsBack (spaced_bits (assignment_mark op) bs) []
assignment_cuts None bs g h = (space_at _, (mark_at 61 (32 ∷ written bs) refl refl, (space_at _, h)))
assignment_cuts (Some ops.Mul) bs g h = (space_at _, (pair_at 42 61 (32 ∷ written bs) refl refl refl refl refl, (space_at _, h)))
assignment_cuts (Some ops.Div) bs g h = (space_at _, (over_at (32 ∷ written bs), (space_at _, h)))
assignment_cuts (Some ops.Rem) bs g h = (space_at _, (pair_at 37 61 (32 ∷ written bs) refl refl refl refl refl, (space_at _, h)))
assignment_cuts (Some ops.Add) bs g h = (space_at _, (pair_at 43 61 (32 ∷ written bs) refl refl refl refl refl, (space_at _, h)))
assignment_cuts (Some ops.Sub) bs g h = (space_at _, (pair_at 45 61 (32 ∷ written bs) refl refl refl refl refl, (space_at _, h)))
assignment_cuts (Some ops.Shl) bs g h = (space_at _, (shift_at 60 (32 ∷ written bs) refl refl refl refl, (space_at _, h)))
assignment_cuts (Some ops.Shr) bs g h = (space_at _, (shift_at 62 (32 ∷ written bs) refl refl refl refl, (space_at _, h)))
assignment_cuts (Some ops.Lt) bs g h = absurd g
assignment_cuts (Some ops.Gt) bs g h = absurd g
assignment_cuts (Some ops.Le) bs g h = absurd g
assignment_cuts (Some ops.Ge) bs g h = absurd g
assignment_cuts (Some ops.Eq) bs g h = absurd g
assignment_cuts (Some ops.Ne) bs g h = absurd g
assignment_cuts (Some ops.BitAnd) bs g h = (space_at _, (pair_at 38 61 (32 ∷ written bs) refl refl refl refl refl, (space_at _, h)))
assignment_cuts (Some ops.BitXor) bs g h = (space_at _, (pair_at 94 61 (32 ∷ written bs) refl refl refl refl refl, (space_at _, h)))
assignment_cuts (Some ops.BitOr) bs g h = (space_at _, (pair_at 124 61 (32 ∷ written bs) refl refl refl refl refl, (space_at _, h)))

-- names and numbers
pub name_cuts : (x : List ℕ) (bs : List Bit) → is_name x ≡ true → ends_name (written bs) ≡ true → CutsBack bs [] → CutsBack (name x bs) []
name_cuts [] bs n e h = absurd (cc)
name_cuts (c ∷ cs) bs n e h = (name_at c cs (written bs) (both (is_letter c) (all_are is_name_byte cs) n).0 (both (is_letter c) (all_are is_name_byte cs) n).1 e, h)

pub numeral_cuts : (x : List ℕ) (bs : List Bit) → IsNumeral x → ends (written bs) ≡ true → CutsBack bs [] → CutsBack (number x bs) []
numeral_cuts [] bs n e h = absurd n
numeral_cuts (c ∷ cs) bs n e h = (number_at c cs (written bs) n.0 n.1 (number_ends (last_of c cs) (written bs) n.2 e), h)

pub integer_cuts : (t : IntType) (bs : List Bit) → ends_name (written bs) ≡ true → CutsBack bs [] → CutsBack (integer_bits t bs) []
integer_cuts ints.Boolean bs e h = name_cuts (codes "_Bool") bs refl e h
integer_cuts ints.Char bs e h = (name_at 115 (codes "igned") _ refl refl refl, (space_at _, name_cuts (codes "char") bs refl e h))
integer_cuts ints.SChar bs e h = (name_at 115 (codes "igned") _ refl refl refl, (space_at _, name_cuts (codes "char") bs refl e h))
integer_cuts ints.UChar bs e h = name_cuts (codes "uint8_t") bs refl e h
integer_cuts ints.Short bs e h = name_cuts (codes "int16_t") bs refl e h
integer_cuts ints.UShort bs e h = name_cuts (codes "uint16_t") bs refl e h
integer_cuts ints.Int bs e h = name_cuts (codes "int") bs refl e h
integer_cuts ints.UInt bs e h = name_cuts (codes "unsigned") bs refl e h
integer_cuts ints.Long bs e h = name_cuts (codes "int64_t") bs refl e h
integer_cuts ints.ULong bs e h = name_cuts (codes "uint64_t") bs refl e h
integer_cuts ints.LLong bs e h = (name_at 108 (codes "ong") _ refl refl refl, (space_at _, name_cuts (codes "long") bs refl e h))
integer_cuts ints.ULLong bs e h = (name_at 117 (codes "nsigned") _ refl refl refl, (space_at _, (name_at 108 (codes "ong") _ refl refl refl, (space_at _, name_cuts (codes "long") bs refl e h))))

pub vector_named : (l : NeonLane) (wide : Bool) → is_name (vector_text l wide) ≡ true
vector_named lanes.U8 true = refl
vector_named lanes.U8 false = refl
vector_named lanes.U16 true = refl
vector_named lanes.U16 false = refl
vector_named lanes.U32 true = refl
vector_named lanes.U32 false = refl
vector_named lanes.U64 true = refl
vector_named lanes.U64 false = refl
vector_named lanes.S8 true = refl
vector_named lanes.S8 false = refl
vector_named lanes.S16 true = refl
vector_named lanes.S16 false = refl
vector_named lanes.S32 true = refl
vector_named lanes.S32 false = refl
vector_named lanes.S64 true = refl
vector_named lanes.S64 false = refl

pub pointee_cuts : (p : Pointee) (bs : List Bit) → ends_name (written bs) ≡ true → CutsBack bs [] → CutsBack (pointee_bits p bs) []
pointee_cuts pointees.Void bs e h = name_cuts (codes "void") bs refl e h
pointee_cuts (pointees.Int t) bs e h = integer_cuts t bs e h
pointee_cuts pointees.M128 bs e h = name_cuts (codes "__m128i") bs refl e h
pointee_cuts pointees.M256 bs e h = name_cuts (codes "__m256i") bs refl e h

pub base_cuts : (t : CType) (bs : List Bit) → ends_name (written bs) ≡ true → CutsBack bs [] → CutsBack (base_bits t bs) []
base_cuts ctypes.Void bs e h = name_cuts (codes "void") bs refl e h
base_cuts (ctypes.Int t) bs e h = integer_cuts t bs e h
base_cuts ctypes.M128 bs e h = name_cuts (codes "__m128i") bs refl e h
base_cuts ctypes.M256 bs e h = name_cuts (codes "__m256i") bs refl e h
base_cuts (ctypes.Neon l wide) bs e h = name_cuts (vector_text l wide) bs (vector_named l wide) e h
base_cuts ctypes.Pair bs e h = name_cuts (codes "uint8x16x2_t") bs refl e h
base_cuts (ctypes.Pointer p constant) bs e h = pointee_cuts p bs e h
base_cuts (ctypes.Array p n constant) bs e h = pointee_cuts p bs e h

pub const_cuts : (c : Bool) (bs : List Bit) → CutsBack bs [] → CutsBack (const_bits c bs) []
const_cuts true bs h = (name_at 99 (codes "onst") _ refl refl refl, (space_at _, h))
const_cuts false bs h = h

-- a type's name in front of a bracket
pub type_cuts : (t : CType) (bs : List Bit) → GoodType t → CutsBack bs [] → CutsBack (type_bits t (mark (codes ")") bs)) []
type_cuts ctypes.Void bs g h = name_cuts (codes "void") (mark (codes ")") bs) refl refl (close_at (written bs), h)
type_cuts (ctypes.Int t) bs g h = integer_cuts t (mark (codes ")") bs) refl (close_at (written bs), h)
type_cuts ctypes.M128 bs g h = absurd g
type_cuts ctypes.M256 bs g h = absurd g
type_cuts (ctypes.Neon l wide) bs g h = name_cuts (vector_text l wide) (mark (codes ")") bs) (vector_named l wide) refl (close_at (written bs), h)
type_cuts ctypes.Pair bs g h = name_cuts (codes "uint8x16x2_t") (mark (codes ")") bs) refl refl (close_at (written bs), h)
type_cuts (ctypes.Pointer p constant) bs g h = const_cuts constant (pointee_bits p (space (mark (codes "*") (mark (codes ")") bs)))) (pointee_cuts p (space (mark (codes "*") (mark (codes ")") bs))) refl (space_at _, (mark_at 42 (41 ∷ written bs) refl refl, (close_at (written bs), h))))
type_cuts (ctypes.Array p n constant) bs g h = absurd g

-- what an expression without an operator in front begins with: a name, a number or a bracket
abbrev pub is_opener : ℕ → Bool
is_opener c = is_name_byte c || (c == 40)

-- a prefix operator ends in front of such a byte
opener_not : (c d : ℕ) → is_opener d ≡ false → is_opener c ≡ true → (c == d) ≡ false
opener_not c d other is = go (c == d) refl
  where
    go : (t : Bool) → (c == d) ≡ t → t ≡ false
    go true e = out (is_opener c) (ap is_opener (eqb-true c d e) ∙ other) is
    go false e = refl

same_equal : (c : ℕ) → (c == c) ≡ true
same_equal c = grind (arith, nat_tests)

not_equal_back : (c d : ℕ) → (c == d) ≡ false → (d == c) ≡ false
not_equal_back c d h = go (d == c) refl
  where
    go : (t : Bool) → (d == c) ≡ t → t ≡ false
    go true e = out (c == d) h (rw (eqb-true d c e) (same_equal c))
    go false e = refl

before_opener : (a : ℕ) (rest : List ℕ) → ((c : ℕ) → is_opener c ≡ true → not (goes_on_mark a c) ≡ true) → starts is_opener rest ≡ true → ends_mark a rest ≡ true
before_opener a [] h k = absurd (cc)
before_opener a (c ∷ rest) h k = h c k

opener_facts : (a c : ℕ) → is_opener a ≡ false → is_opener c ≡ true → ((c == 61) ≡ false) × ((a == c) ≡ false) × ((c == 62) ≡ false)
opener_facts a c other is = (opener_not c 61 refl is, not_equal_back c a (opener_not c a other is), opener_not c 62 refl is)

star_stops : (c : ℕ) → is_opener c ≡ true → not (goes_on_mark 42 c) ≡ true
star_stops c h = let f = opener_facts 42 c refl h in rw (f.0, f.1) refl

and_stops : (c : ℕ) → is_opener c ≡ true → not (goes_on_mark 38 c) ≡ true
and_stops c h = let f = opener_facts 38 c refl h in rw (f.0, f.1) refl

plus_stops : (c : ℕ) → is_opener c ≡ true → not (goes_on_mark 43 c) ≡ true
plus_stops c h = let f = opener_facts 43 c refl h in rw (f.0, f.1) refl

minus_stops : (c : ℕ) → is_opener c ≡ true → not (goes_on_mark 45 c) ≡ true
minus_stops c h = let f = opener_facts 45 c refl h in rw (f.0, f.1, f.2) refl

tilde_stops : (c : ℕ) → is_opener c ≡ true → not (goes_on_mark 126 c) ≡ true
tilde_stops c h = let f = opener_facts 126 c refl h in rw (f.0, f.1) refl

not_stops : (c : ℕ) → is_opener c ≡ true → not (goes_on_mark 33 c) ≡ true
not_stops c h = let f = opener_facts 33 c refl h in rw (f.0, f.1) refl

pub star_cuts : (bs : List Bit) → starts is_opener (written bs) ≡ true → CutsBack bs [] → CutsBack (mark (codes "*") bs) []
star_cuts bs s h = (mark_at 42 (written bs) refl (before_opener 42 (written bs) star_stops s), h)

pub address_cuts : (bs : List Bit) → starts is_opener (written bs) ≡ true → CutsBack bs [] → CutsBack (mark (codes "&") bs) []
address_cuts bs s h = (mark_at 38 (written bs) refl (before_opener 38 (written bs) and_stops s), h)

pub prefix_cuts : (op : UnOp) (bs : List Bit) → starts is_opener (written bs) ≡ true → CutsBack bs [] → CutsBack (mark (prefix_text op) bs) []
prefix_cuts signs.Plus bs s h = (mark_at 43 (written bs) refl (before_opener 43 (written bs) plus_stops s), h)
prefix_cuts signs.Neg bs s h = (mark_at 45 (written bs) refl (before_opener 45 (written bs) minus_stops s), h)
prefix_cuts signs.BitNot bs s h = (mark_at 126 (written bs) refl (before_opener 126 (written bs) tilde_stops s), h)
prefix_cuts signs.Not bs s h = (mark_at 33 (written bs) refl (before_opener 33 (written bs) not_stops s), h)

-- the `.` in front of `val`
dot_cuts : (bs : List Bit) → starts is_letter (written bs) ≡ true → CutsBack bs [] → CutsBack (mark (codes ".") bs) []
dot_cuts bs s h = (mark_at 46 (written bs) refl (dot_ends (written bs) s), h)
  where
    dot_stops : (c : ℕ) → is_letter c ≡ true → not (goes_on_mark 46 c) ≡ true
    dot_stops c l = rw (letter_other c 61 refl l, not_equal_back c 46 (letter_other c 46 refl l), letter_no_digit c l) refl

    dot_ends : (rest : List ℕ) → starts is_letter rest ≡ true → ends_mark 46 rest ≡ true
    dot_ends [] k = absurd (cc)
    dot_ends (c ∷ rest) k = dot_stops c k

open_cuts : (b : Bool) (bs : List Bit) → CutsBack bs [] → CutsBack (opening_bits b bs) []
open_cuts true bs h = (open_at (written bs), h)
open_cuts false bs h = h

close_cuts : (b : Bool) (bs : List Bit) → CutsBack bs [] → CutsBack (closing_bits b bs) []
close_cuts true bs h = (close_at (written bs), h)
close_cuts false bs h = h

-- in front of a closing bracket, or of what was there
close_ends : (b : Bool) (bs : List Bit) → ends (written bs) ≡ true → ends (written (closing_bits b bs)) ≡ true
close_ends true bs h = refl
close_ends false bs h = h

pub opener_name : (x : List ℕ) (bs : List Bit) → is_name x ≡ true → starts is_opener (written (name x bs)) ≡ true
opener_name [] bs h = absurd (cc)
opener_name (c ∷ cs) bs h = rw (both (is_letter c) (all_are is_name_byte cs) h).0 refl

opener_numeral : (x : List ℕ) (bs : List Bit) → IsNumeral x → starts is_opener (written (number x bs)) ≡ true
opener_numeral [] bs h = absurd h
opener_numeral (c ∷ cs) bs h = rw (h.0, or_true (is_letter c)) refl
  where
    or_true : (t : Bool) → (t || true) ≡ true
    or_true true = refl
    or_true false = refl

operator_wrapped : (op : BinOp) → is_wrapped_operand (operator_level op) ≡ false → ⊥
operator_wrapped ops.Mul h = absurd (cc)
operator_wrapped ops.Div h = absurd (cc)
operator_wrapped ops.Rem h = absurd (cc)
operator_wrapped ops.Add h = absurd (cc)
operator_wrapped ops.Sub h = absurd (cc)
operator_wrapped ops.Shl h = absurd (cc)
operator_wrapped ops.Shr h = absurd (cc)
operator_wrapped ops.Lt h = absurd (cc)
operator_wrapped ops.Gt h = absurd (cc)
operator_wrapped ops.Le h = absurd (cc)
operator_wrapped ops.Ge h = absurd (cc)
operator_wrapped ops.Eq h = absurd (cc)
operator_wrapped ops.Ne h = absurd (cc)
operator_wrapped ops.BitAnd h = absurd (cc)
operator_wrapped ops.BitXor h = absurd (cc)
operator_wrapped ops.BitOr h = absurd (cc)

high_not_wrapped : (l wanted : ℕ) → 16 ≤ wanted → nat_lt l wanted ≡ false → is_wrapped_operand l ≡ false
high_not_wrapped l wanted w h = rw (not_below l wanted w h) refl
  where
    not_below : (l wanted : ℕ) → 16 ≤ wanted → nat_lt l wanted ≡ false → nat_lt l 15 ≡ false
    not_below l wanted w h = grind (arith, nat_tests)

bracket_opener : (b : Bool) (k : Kind) (bs : List Bit) → (b ≡ false → starts is_opener (written (kind_bits k (closing_bits b bs))) ≡ true) → starts is_opener (written (opening_bits b (kind_bits k (closing_bits b bs)))) ≡ true
bracket_opener true k bs h = refl
bracket_opener false k bs h = h refl

constant_opener : (n : Num) (bs : List Bit) → GoodConstant n → starts is_opener (written (constant_bits n bs)) ≡ true
constant_opener n bs g = rw g.0 (opener_numeral (magnitude_text n.ty (unsigned_abs n.value)) bs (numeral_of n g))

-- What an expression begins with where no prefix operator comes first.
mutual
  pub kind_opener : (k : Kind) (bs : List Bit) → GoodKind k → is_wrapped_operand (kind_level k) ≡ false → starts is_opener (written (kind_bits k bs)) ≡ true
  kind_opener (trees.Const n) bs g l = constant_opener n bs g
  kind_opener (trees.Name x) bs g l = opener_name x bs g.named
  kind_opener (trees.Unary op a) bs g l = absurd (cc)
  kind_opener (trees.Step a up true) bs g l = absurd (cc)
  kind_opener (trees.Step a up false) bs g l = part_opener 16 a _ g (omega arith)
  kind_opener (trees.Binary op a b) bs g l = absurd (operator_wrapped op l)
  kind_opener (trees.AndThen a b) bs g l = absurd (cc)
  kind_opener (trees.OrElse a b) bs g l = absurd (cc)
  kind_opener (trees.Choice c a b) bs g l = absurd (cc)
  kind_opener (trees.Assign op a b) bs g l = absurd (cc)
  kind_opener (trees.Comma all) bs g l = absurd (cc)
  kind_opener (trees.Cast ty a true) bs g l = refl
  kind_opener (trees.Cast ty a false) bs g l = expression_opener a bs g l
  kind_opener (trees.Index a b) bs g l = part_opener 17 a _ g.0 (omega arith)
  kind_opener (trees.Deref a) bs g l = absurd (cc)
  kind_opener (trees.Address a) bs g l = absurd (cc)
  kind_opener (trees.Call f all) bs g l = opener_name f _ g.0.named
  kind_opener (trees.Half a k) bs g l = part_opener 18 a _ g.0 (omega arith)
  kind_opener (trees.PairOf a b) bs g l = refl
  kind_opener (trees.SizeOfType ty) bs g l = absurd g
  kind_opener (trees.SizeOfName x) bs g l = absurd g
  kind_opener (trees.Str x) bs g l = absurd g

  pub expression_opener : (e : Tree) (bs : List Bit) → Good e → is_wrapped_operand (level e) ≡ false → starts is_opener (written (expression_bits e bs)) ≡ true
  expression_opener (Node p ty k) bs g l = kind_opener k bs g l

  pub part_opener : (wanted : ℕ) (e : Tree) (bs : List Bit) → Good e → 16 ≤ wanted → starts is_opener (written (part_bits wanted e bs)) ≡ true
  part_opener wanted (Node p ty k) bs g w = bracket_opener (nat_lt (kind_level k) wanted) k bs (λ h. kind_opener k _ g (high_not_wrapped (kind_level k) wanted w h))

pub operand_opener : (e : Tree) (bs : List Bit) → Good e → starts is_opener (written (operand_bits e bs)) ≡ true
operand_opener (Node p ty k) bs g = bracket_opener (is_wrapped_operand (kind_level k)) k bs (λ h. kind_opener k _ g h)

constant_cuts : (n : Num) (bs : List Bit) → GoodConstant n → CutsBack bs [] → ends (written bs) ≡ true → CutsBack (constant_bits n bs) []
constant_cuts n bs g h e = rw g.0 (numeral_cuts (magnitude_text n.ty (unsigned_abs n.value)) bs (numeral_of n g) e h)

half_cuts : (k : ℕ) (bs : List Bit) → k < 2 → CutsBack bs [] → CutsBack (number (decimal k) (mark (codes "]") bs)) []
half_cuts zero bs l h = rw (decimal_digit 0 (omega arith)) (number_at 48 [] _ refl refl refl, (close_square_at _, h))
half_cuts (suc zero) bs l h = rw (decimal_digit 1 (omega arith)) (number_at 49 [] _ refl refl refl, (close_square_at _, h))
half_cuts (suc (suc k)) bs l h = absurd (omega arith)

constant_low : (n : Num) → nat_lt (constant_level n) 18 ≡ false → ⊥
constant_low n l = go (int_lt n.value (pos 0)) l
  where
    go : (b : Bool) → nat_lt (cond b 14 17) 18 ≡ false → ⊥
    go true l = absurd (cc)
    go false l = absurd (cc)

operator_low : (op : BinOp) → nat_lt (operator_level op) 18 ≡ false → ⊥
operator_low ops.Mul h = absurd (cc)
operator_low ops.Div h = absurd (cc)
operator_low ops.Rem h = absurd (cc)
operator_low ops.Add h = absurd (cc)
operator_low ops.Sub h = absurd (cc)
operator_low ops.Shl h = absurd (cc)
operator_low ops.Shr h = absurd (cc)
operator_low ops.Lt h = absurd (cc)
operator_low ops.Gt h = absurd (cc)
operator_low ops.Le h = absurd (cc)
operator_low ops.Ge h = absurd (cc)
operator_low ops.Eq h = absurd (cc)
operator_low ops.Ne h = absurd (cc)
operator_low ops.BitAnd h = absurd (cc)
operator_low ops.BitXor h = absurd (cc)
operator_low ops.BitOr h = absurd (cc)

step_ends : (up : Bool) (bs : List Bit) → ends (written (mark (step_text up) bs)) ≡ true
step_ends true bs = refl
step_ends false bs = refl

dotted_by : (b : Bool) (k : Kind) (bs : List Bit) → nat_lt (kind_level k) 18 ≡ b → CutsBack (kind_bits k (mark (codes ")") bs)) [] → (nat_lt (kind_level k) 18 ≡ false → CutsBack (kind_bits k bs) []) →
    CutsBack (opening_bits b (kind_bits k (closing_bits b bs))) []
dotted_by true k bs l inside alone = (open_at _, inside)
dotted_by false k bs l inside alone = alone l

-- The words of an expression are cut out of its text.
mutual
  pub expression_cuts : (e : Tree) (bs : List Bit) → Good e → CutsBack bs [] → ends (written bs) ≡ true → CutsBack (expression_bits e bs) []
  expression_cuts (Node p ty k) bs g h e = kind_cuts k bs g h e

  pub part_cuts : (wanted : ℕ) (e : Tree) (bs : List Bit) → Good e → CutsBack bs [] → ends (written bs) ≡ true → CutsBack (part_bits wanted e bs) []
  part_cuts wanted (Node p ty k) bs g h e =
      open_cuts (nat_lt (kind_level k) wanted) _ (kind_cuts k (closing_bits (nat_lt (kind_level k) wanted) bs) g (close_cuts (nat_lt (kind_level k) wanted) bs h) (close_ends (nat_lt (kind_level k) wanted) bs e))

  pub operand_cuts : (a : Tree) (bs : List Bit) → Good a → CutsBack bs [] → ends (written bs) ≡ true → CutsBack (operand_bits a bs) []
  operand_cuts (Node p ty k) bs g h e =
      open_cuts (is_wrapped_operand (kind_level k)) _ (kind_cuts k (closing_bits (is_wrapped_operand (kind_level k)) bs) g (close_cuts (is_wrapped_operand (kind_level k)) bs h) (close_ends (is_wrapped_operand (kind_level k)) bs e))

  kind_cuts : (k : Kind) (bs : List Bit) → GoodKind k → CutsBack bs [] → ends (written bs) ≡ true → CutsBack (kind_bits k bs) []
  kind_cuts (trees.Const n) bs g h e = constant_cuts n bs g h e
  kind_cuts (trees.Name x) bs g h e = name_cuts x bs g.named (name_ends (written bs) (base_ends (written bs) e)) h
  kind_cuts (trees.Unary op a) bs g h e = prefix_cuts op (operand_bits a bs) (operand_opener a bs g) (operand_cuts a bs g h e)
  kind_cuts (trees.Step a up true) bs g h e = step_cuts up (part_bits 15 a bs) (part_cuts 15 a bs g h e)
  kind_cuts (trees.Step a up false) bs g h e = part_cuts 16 a (mark (step_text up) bs) g (step_cuts up bs h) (step_ends up bs)
  kind_cuts (trees.Binary op a b) bs g h e = part_cuts (operator_level op) a _ g.0 (spaced_cuts op (part_bits (operator_level op + 1) b bs) (part_cuts (operator_level op + 1) b bs g.1 h e)) refl
  kind_cuts (trees.AndThen a b) bs g h e = part_cuts 4 a (spaced_bits (codes "&&") (part_bits 5 b bs)) g.0 (space_at _, (pair_at 38 38 (32 ∷ written (part_bits 5 b bs)) refl refl refl refl refl, (space_at _, part_cuts 5 b bs g.1 h e))) refl
  kind_cuts (trees.OrElse a b) bs g h e = part_cuts 3 a (spaced_bits (codes "||") (part_bits 4 b bs)) g.0 (space_at _, (pair_at 124 124 (32 ∷ written (part_bits 4 b bs)) refl refl refl refl refl, (space_at _, part_cuts 4 b bs g.1 h e))) refl
  kind_cuts (trees.Choice c a b) bs g h e =
      part_cuts 3 c (spaced_bits (codes "?") (expression_bits a (spaced_bits (codes ":") (part_bits 2 b bs)))) g.0 (
        space_at _,
        (
          mark_at 63 (32 ∷ written (expression_bits a (spaced_bits (codes ":") (part_bits 2 b bs)))) refl refl,
          (
            space_at _,
            expression_cuts a (spaced_bits (codes ":") (part_bits 2 b bs)) g.1
                (space_at _, (mark_at 58 (32 ∷ written (part_bits 2 b bs)) refl refl, (space_at _, part_cuts 2 b bs g.2 h e))) refl,
          ),
        ),
      ) refl
  kind_cuts (trees.Assign op a b) bs g h e = part_cuts 14 a _ g.1 (assignment_cuts op (part_bits 1 b bs) g.0 (part_cuts 1 b bs g.2 h e)) refl
  kind_cuts (trees.Comma all) bs g h e = list_cuts all bs g.1 h e
  kind_cuts (trees.Cast ty a true) bs g h e = (open_at _, type_cuts ty (part_bits 13 a bs) g.0 (part_cuts 13 a bs g.1 h e))
  kind_cuts (trees.Cast ty a false) bs g h e = expression_cuts a bs g h e
  kind_cuts (trees.Index a b) bs g h e = part_cuts 17 a (mark (codes "[") (expression_bits b (mark (codes "]") bs))) g.0 (open_square_at _, expression_cuts b (mark (codes "]") bs) g.1 (close_square_at _, h) refl) refl
  kind_cuts (trees.Deref a) bs g h e = star_cuts (operand_bits a bs) (operand_opener a bs g) (operand_cuts a bs g h e)
  kind_cuts (trees.Address a) bs g h e = address_cuts (operand_bits a bs) (operand_opener a bs g) (operand_cuts a bs g h e)
  kind_cuts (trees.Call f all) bs g h e = name_cuts f (mark (codes "(") (list_bits all (mark (codes ")") bs))) g.0.named refl (open_at _, list_cuts all (mark (codes ")") bs) g.1 (close_at _, h) refl)
  kind_cuts (trees.Half a k) bs g h e =
      dotted_cuts a (mark (codes ".") (name (codes "val") (mark (codes "[") (number (decimal k) (mark (codes "]") bs))))) g.0
      (dot_cuts (name (codes "val") (mark (codes "[") (number (decimal k) (mark (codes "]") bs)))) refl (name_cuts (codes "val") (mark (codes "[") (number (decimal k) (mark (codes "]") bs))) refl refl (open_square_at _, half_cuts k bs g.1 h))) refl
  kind_cuts (trees.PairOf a b) bs g h e = (
    open_at _,
    name_cuts (codes "uint8x16x2_t") (mark (codes ")") (mark (codes "{") (mark (codes "{") (part_bits 1 a (comma (part_bits 1 b (mark (codes "}") (mark (codes "}") bs)))))))) refl refl
        (close_at _, (open_brace_at _, (open_brace_at _, part_cuts 1 a (comma (part_bits 1 b (mark (codes "}") (mark (codes "}") bs)))) g.0 (comma_at _, (space_at _, part_cuts 1 b (mark (codes "}") (mark (codes "}") bs)) g.1 (close_brace_at _, (close_brace_at _, h)) refl)) refl))),
  )
  kind_cuts (trees.SizeOfType ty) bs g h e = absurd g
  kind_cuts (trees.SizeOfName x) bs g h e = absurd g
  kind_cuts (trees.Str x) bs g h e = absurd g

  -- a part that a `.` follows
  dotted_cuts : (a : Tree) (bs : List Bit) → Good a → CutsBack bs [] → ends_base (written bs) ≡ true → CutsBack (part_bits 18 a bs) []
  dotted_cuts (Node p ty k) bs g h e = dotted_by (nat_lt (kind_level k) 18) k bs refl (kind_cuts k (mark (codes ")") bs) g (close_at _, h) refl) (λ l. primary_cuts k bs l g h e)

  -- an expression without an operator
  primary_cuts : (k : Kind) (bs : List Bit) → nat_lt (kind_level k) 18 ≡ false → GoodKind k → CutsBack bs [] → ends_base (written bs) ≡ true → CutsBack (kind_bits k bs) []
  primary_cuts (trees.Const n) bs l g h e = absurd (constant_low n l)
  primary_cuts (trees.Name x) bs l g h e = name_cuts x bs g.named (name_ends (written bs) e) h
  primary_cuts (trees.Unary op a) bs l g h e = absurd (cc)
  primary_cuts (trees.Step a up true) bs l g h e = absurd (cc)
  primary_cuts (trees.Step a up false) bs l g h e = absurd (cc)
  primary_cuts (trees.Binary op a b) bs l g h e = absurd (operator_low op l)
  primary_cuts (trees.AndThen a b) bs l g h e = absurd (cc)
  primary_cuts (trees.OrElse a b) bs l g h e = absurd (cc)
  primary_cuts (trees.Choice c a b) bs l g h e = absurd (cc)
  primary_cuts (trees.Assign op a b) bs l g h e = absurd (cc)
  primary_cuts (trees.Comma all) bs l g h e = absurd (cc)
  primary_cuts (trees.Cast ty a true) bs l g h e = absurd (cc)
  primary_cuts (trees.Cast ty a false) bs l g h e = primary_expression a bs l g h e
  primary_cuts (trees.Index a b) bs l g h e = absurd (cc)
  primary_cuts (trees.Deref a) bs l g h e = absurd (cc)
  primary_cuts (trees.Address a) bs l g h e = absurd (cc)
  primary_cuts (trees.Call f all) bs l g h e = name_cuts f (mark (codes "(") (list_bits all (mark (codes ")") bs))) g.0.named refl (open_at _, list_cuts all (mark (codes ")") bs) g.1 (close_at _, h) refl)
  primary_cuts (trees.Half a k) bs l g h e = absurd (cc)
  primary_cuts (trees.PairOf a b) bs l g h e = (
    open_at _,
    name_cuts (codes "uint8x16x2_t") (mark (codes ")") (mark (codes "{") (mark (codes "{") (part_bits 1 a (comma (part_bits 1 b (mark (codes "}") (mark (codes "}") bs)))))))) refl refl
        (close_at _, (open_brace_at _, (open_brace_at _, part_cuts 1 a (comma (part_bits 1 b (mark (codes "}") (mark (codes "}") bs)))) g.0 (comma_at _, (space_at _, part_cuts 1 b (mark (codes "}") (mark (codes "}") bs)) g.1 (close_brace_at _, (close_brace_at _, h)) refl)) refl))),
  )
  primary_cuts (trees.SizeOfType ty) bs l g h e = absurd g
  primary_cuts (trees.SizeOfName x) bs l g h e = absurd g
  primary_cuts (trees.Str x) bs l g h e = absurd g

  primary_expression : (a : Tree) (bs : List Bit) → nat_lt (level a) 18 ≡ false → Good a → CutsBack bs [] → ends_base (written bs) ≡ true → CutsBack (expression_bits a bs) []
  primary_expression (Node p ty k) bs l g h e = primary_cuts k bs l g h e

  pub list_cuts : (all : Trees) (bs : List Bit) → GoodAll all → CutsBack bs [] → ends (written bs) ≡ true → CutsBack (list_bits all bs) []
  list_cuts NoTrees bs g h e = h
  list_cuts (More a rest) bs g h e = part_cuts 1 a (more_bits rest bs) g.0 (more_cuts rest bs g.1 h e) (more_ends rest bs e)

  pub more_cuts : (all : Trees) (bs : List Bit) → GoodAll all → CutsBack bs [] → ends (written bs) ≡ true → CutsBack (more_bits all bs) []
  more_cuts NoTrees bs g h e = h
  more_cuts (More a rest) bs g h e = (comma_at _, (space_at _, part_cuts 1 a (more_bits rest bs) g.0 (more_cuts rest bs g.1 h e) (more_ends rest bs e)))

  more_ends : (all : Trees) (bs : List Bit) → ends (written bs) ≡ true → ends (written (more_bits all bs)) ≡ true
  more_ends NoTrees bs e = e
  more_ends (More a rest) bs e = refl
