-- A constant that was written is read as the same number (C11 6.4.4.1).
use Rattle.std.proofs.Common.{◌≡◌, ℕ, zero, suc, ◌/◌, ◌%◌, ◌^◌, ◌<◌, List, [], ◌∷◌, ◌++◌, length, get_or, Bool, true, false, cond, Option, Some, refl, sym, ◌∙◌, ap, arith, ◌⊎◌, inl, inr}
use Rattle.std.specs.Prelude.{nat_le, ◌==◌, ℤ, pos, negsuc, int_le, unsigned_abs, decimal, codes, take_while}
use Rattle.std.specs.Str.Parse.{AllDigits}
use Rattle.std.proofs.lemmas.Bool.{le-leb, lt-leb, lt-ltb, eqb-true}
use Rattle.std.proofs.lemmas.Bool.Decides.{nat_tests}
use Rattle.std.proofs.lemmas.Fmt.{decimal_digit, first_decimal, digits_value-decimal}
use Rattle.std.proofs.lemmas.List.Sums.{take_while-cons}
use Rattle.std.proofs.lemmas.Str.Parse.{WeighsDigits, numerals_by_weight, tells_digits}
use Rattle.std.proofs.Math.Dec.{eqb-suc-zero}
use Rattle.std.proofs.Math.Arith.{mod-mul}
use Rattle.std.proofs.Math.Nat.{mod-lt, mod-eq_of_lt, pow-succ', one-le-pow}
use Rattle.std.proofs.Math.Seq.{drop-append_seam}
use Rattle.c_text.specs.Forms.{all_are, starts}
use Rattle.c_text.specs.declared.tokens.Token.{Token}
use Rattle.c_text.specs.declared.tokens.TokenKind.TheVariants.{Number}
use Rattle.c_text.proofs.Scans.{both}
use Rattle.lane_core.specs.declared.number.IntType.{IntType}
use Rattle.lane_core.specs.declared.number.IntType.TheVariants.{Int, UInt, Long, ULong, LLong, ULLong}
use Rattle.lane_core.specs.declared.number.Num.{Num}
use Rattle.c_constants.specs.declared.integer.Base.{Base}
use Rattle.c_constants.specs.declared.integer.Base.TheVariants.{Decimal, Hexadecimal}
use Rattle.c_constants.specs.declared.integer.Suffix.{Suffix}
use Rattle.c_constants.specs.declared.integer.Suffix.TheVariants.{Plain, U, L, Ul, Ll, Ull}
use Rattle.c_constants.specs.Constant.{constant_of}
use Rattle.c_constants.specs.IntegerConstant.{is_digit, radix_of, base_of, digit_value, number_of, suffix_of, types_of, fits, first_fit, integer_in, integer_constant}
use Rattle.c_tree.specs.Tree.{Const}
use Rattle.c_print.specs.Constants.{sign_text, hex_digit, hex_digits, magnitude_text}
use Rattle.c_parse.specs.Reading.{number, node, constant_at, half_of}
use Rattle.c_parse.proofs.Magnitudes.{number_is, kept}
use Rattle.round_trip.specs.Good.{IsConstantType, GoodConstant}
use Rattle.round_trip.proofs.Numerals.{below, hex_are, decimal_digits, value_is_magnitude, value_bits, magnitude_bound, within_64_bits}

-- The digits that a text begins with, and what is behind them.
digits_taken : (p : ℕ → Bool) (ds sx : List ℕ) → all_are p ds ≡ true → starts p sx ≡ false → take_while p (ds ++ sx) ≡ ds
digits_taken p [] [] h k = refl
digits_taken p [] (s ∷ ss) h k = take_while-cons p s ss ∙ rw k refl
digits_taken p (d ∷ ds) sx h k = take_while-cons p d (ds ++ sx) ∙ rw ((both (p d) (all_are p ds) h).0, digits_taken p ds sx (both (p d) (all_are p ds) h).1 k) refl

-- digits of a base and a suffix
split : (base : Base) (d : ℕ) (ds sx : List ℕ) (s : Suffix) → all_are (is_digit base) (d ∷ ds) ≡ true → starts (is_digit base) sx ≡ false → suffix_of sx ≡ Some s →
    integer_in base (d ∷ (ds ++ sx)) ≡ first_fit (number_of (radix_of base) (d ∷ ds)) (types_of s base)
split base d ds sx s h k e = rw (digits_taken (is_digit base) (d ∷ ds) sx h k, eqb-suc-zero (length ds), drop-append_seam (d ∷ ds) sx, e) refl

-- the first type of the list has the number
first_is : (n : ℕ) (t : IntType) (ts us : List IntType) → us ≡ t ∷ ts → fits n t ≡ true → first_fit n us ≡ Some (t, pos n)
first_is n t ts us e f = rw (e, f) refl

-- Decimal constants. `0` is an octal one.
base_decimal : (d : ℕ) (rest : List ℕ) → (d == 48) ≡ false → base_of (d ∷ rest) ≡ Decimal
base_decimal d [] h = rw h refl
base_decimal d (x ∷ rest) h = rw h refl

not_zero : (d : ℕ) → 48 < d → (d == 48) ≡ false
not_zero d h = grind (arith, nat_tests)

weighs : WeighsDigits (number_of 10)
weighs = record { empty = refl; more = λ c cs h. rw (le-leb c 57 h.1) refl }

decimal_value : (n : ℕ) → n < 2 ^ 64 → number_of 10 (decimal n) ≡ n
decimal_value n h = digits_value-decimal (numerals_by_weight (AllDigits 10) tells_digits (number_of 10) weighs) n h

decimal_in : (ds sx : List ℕ) (s : Suffix) → all_are (is_digit Decimal) ds ≡ true → 48 < get_or ds 0 0 → starts (is_digit Decimal) sx ≡ false → suffix_of sx ≡ Some s →
    integer_constant (ds ++ sx) ≡ first_fit (number_of 10 ds) (types_of s Decimal)
decimal_in [] sx s h first k e = absurd (omega (arith, first))
decimal_in (d ∷ ds) sx s h first k e = rw (base_decimal d (ds ++ sx) (not_zero d first)) (split Decimal d ds sx s h k e)

decimal_again : (t : IntType) (s : Suffix) (sx : List ℕ) (ts : List IntType) (n : ℕ) → n < 2 ^ 64 → suffix_of sx ≡ Some s → starts (is_digit Decimal) sx ≡ false →
    types_of s Decimal ≡ t ∷ ts → fits n t ≡ true → integer_constant (48 ∷ sx) ≡ Some (t, pos 0) → integer_constant (decimal n ++ sx) ≡ Some (t, pos n)
decimal_again t s sx ts zero less e k types f z = rw (decimal_digit 0 (omega arith)) z
decimal_again t s sx ts (suc n) less e k types f z =
    decimal_in (decimal (suc n)) sx s (decimal_digits (suc n) less) (first_decimal (suc n) (omega arith) less) k e
    ∙ rw (decimal_value (suc n) less) (first_is (suc n) t ts (types_of s Decimal) types f)

-- Constants of base 16.
hex_length : (k n : ℕ) → length (hex_digits k n) ≡ k
unfolding hex_digits
hex_length zero n = refl
hex_length (suc k) n = ap suc (hex_length k n)

hex_digit_value : (d : ℕ) → d < 16 → digit_value (hex_digit d) ≡ d
hex_digit_value d lt = eqb-true (digit_value (hex_digit d)) d (below (λ d. digit_value (hex_digit d) == d) 16 d refl lt)

hex_value : (k n : ℕ) → number_of 16 (hex_digits k n) ≡ n % 16 ^ k
unfolding hex_digits
hex_value zero n = omega arith
hex_value (suc k) n =
    let some : 0 < 16 ^ k = omega (arith, one-le-pow k 16 (omega arith)) in
    rw (hex_digit_value (n / 16 ^ k % 16) (mod-lt (n / 16 ^ k) (omega arith)), hex_length k n, hex_value k n, pow-succ' 16 k) (sym (mod-mul n (omega arith) some))

hex_in : (hs sx : List ℕ) (s : Suffix) → 0 < length hs → all_are (is_digit Hexadecimal) hs ≡ true → starts (is_digit Hexadecimal) sx ≡ false → suffix_of sx ≡ Some s →
    integer_constant ((codes "0x" ++ hs) ++ sx) ≡ first_fit (number_of 16 hs) (types_of s Hexadecimal)
hex_in [] sx s some h k e = absurd (omega (arith, some))
hex_in (d ∷ hs) sx s some h k e = split Hexadecimal d hs sx s h k e

hex_again : (t : IntType) (s : Suffix) (sx : List ℕ) (ts : List IntType) (n : ℕ) → n < 2 ^ 64 → suffix_of sx ≡ Some s → starts (is_digit Hexadecimal) sx ≡ false →
    types_of s Hexadecimal ≡ t ∷ ts → fits n t ≡ true → integer_constant ((codes "0x" ++ hex_digits 16 n) ++ sx) ≡ Some (t, pos n)
hex_again t s sx ts n less e k types f =
    let value : number_of 16 (hex_digits 16 n) ≡ n = hex_value 16 n ∙ mod-eq_of_lt less in
    hex_in (hex_digits 16 n) sx s (omega (arith, hex_length 16 n)) (hex_are (is_digit Hexadecimal) refl 16 n) k e
    ∙ rw value (first_is n t ts (types_of s Hexadecimal) types f)

-- an unsigned constant, in the one base or the other
either_again : (h : Bool) (t : IntType) (s : Suffix) (sx : List ℕ) (ts us : List IntType) (n : ℕ) → n < 2 ^ 64 → suffix_of sx ≡ Some s → starts (is_digit Decimal) sx ≡ false →
    starts (is_digit Hexadecimal) sx ≡ false → types_of s Decimal ≡ t ∷ ts → types_of s Hexadecimal ≡ t ∷ us → fits n t ≡ true → integer_constant (48 ∷ sx) ≡ Some (t, pos 0) →
    integer_constant (cond h (codes "0x" ++ hex_digits 16 n) (decimal n) ++ sx) ≡ Some (t, pos n)
either_again true t s sx ts us n less e j k types hexes f z = hex_again t s sx us n less e k hexes f
either_again false t s sx ts us n less e j k types hexes f z = decimal_again t s sx ts n less e j types f z

again : (t : IntType) (n : ℕ) → IsConstantType t → n < 2 ^ value_bits t → integer_constant (magnitude_text t n) ≡ Some (t, pos n)
again Int n g b = decimal_again Int Plain [] (Long ∷ LLong ∷ []) n (within_64_bits Int n b) refl refl refl (lt-ltb n (2 ^ 31) b) refl
again UInt n g b = rw (lt-leb 4294967296 n b) (decimal_again UInt U (codes "U") (ULong ∷ ULLong ∷ []) n (within_64_bits UInt n b) refl refl refl (lt-ltb n (2 ^ 32) b) refl)
again Long n g b = decimal_again Long L (codes "L") (LLong ∷ []) n (within_64_bits Long n b) refl refl refl (lt-ltb n (2 ^ 63) b) refl
again ULong n g b = either_again (nat_le 4294967296 n) ULong Ul (codes "UL") (ULLong ∷ []) (ULLong ∷ []) n (within_64_bits ULong n b) refl refl refl refl refl (lt-ltb n (2 ^ 64) b) refl
again LLong n g b = decimal_again LLong Ll (codes "LL") [] n (within_64_bits LLong n b) refl refl refl (lt-ltb n (2 ^ 63) b) refl
again ULLong n g b = either_again (nat_le 4294967296 n) ULLong Ull (codes "ULL") [] [] n (within_64_bits ULLong n b) refl refl refl refl refl (lt-ltb n (2 ^ 64) b) refl
again t n g b = absurd g

pub constant_again : (n : Num) → GoodConstant n → constant_of Number (magnitude_text n.ty (unsigned_abs n.value)) ≡ Some (n.ty, n.value)
unfolding constant_of
constant_again n g =
    again n.ty (unsigned_abs n.value) g.1 (magnitude_bound n.ty n.value n.in_range g.0)
    ∙ ap {B = Option (IntType × ℤ)} (λ z. Some (n.ty, z)) (sym (value_is_magnitude n.value g.0))

-- the number of the type and the value of a number is this number
pub number_again : (n : Num) → number n.ty n.value ≡ Some n
number_again n = number_is n.ty n.value n.in_range

not_negative : (z : ℤ) → sign_text z ≡ [] → int_le (pos 0) z ≡ true
not_negative (pos n) e = le-leb 0 n (omega arith)
not_negative (negsuc n) e = absurd (cc)

-- a token with the text of a constant is this constant
pub constant_token : (t : Token) (n : Num) → GoodConstant n → t.kind ≡ Number → t.text ≡ magnitude_text n.ty (unsigned_abs n.value) → constant_at t ≡ Some (node t.place (Const n))
unfolding constant_at
constant_token t n g kind text = rw (kind, text, constant_again n g) (kept t.place n (not_negative n.value g.0))

-- The number of a half of a pair.
pub decimal_small : (k : ℕ) → k < 2 → (decimal k ≡ codes "0") ⊎ (decimal k ≡ codes "1")
decimal_small zero h = inl (decimal_digit 0 (omega arith))
decimal_small (suc zero) h = inr (decimal_digit 1 (omega arith))
decimal_small (suc (suc k)) h = absurd (omega arith)

pub half_small : (t : Token) (k : ℕ) → k < 2 → t.kind ≡ Number → t.text ≡ decimal k → half_of t ≡ Some k
half_small t zero h kind text = rw (kind, text, decimal_digit 0 (omega arith)) refl
half_small t (suc zero) h kind text = rw (kind, text, decimal_digit 1 (omega arith)) refl
half_small t (suc (suc k)) h kind text = absurd (omega arith)
