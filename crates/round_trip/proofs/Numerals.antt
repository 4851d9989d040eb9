-- How constants are written: their digits and suffixes.
use Rattle.std.proofs.Common.{◌≡◌, ℕ, zero, suc, ◌/◌, ◌%◌, ◌^◌, ◌≤◌, ◌<◌, List, [], ◌∷◌, ◌++◌, length, Bool, true, false, cond, refl, ◌∙◌, ap, arith, inl, inr}
use Rattle.std.specs.Prelude.{◌-◌, ◌&&◌, ℤ, pos, negsuc, ◌≤ℤ◌, unsigned_abs, decimal, codes, if◌then◌else◌}
use Rattle.std.specs.Str.Parse.{AllDigits}
use Rattle.std.proofs.lemmas.Bool.{le-leb, cases_lt}
use Rattle.std.proofs.lemmas.Bool.Decides.{nat_tests}
use Rattle.std.proofs.lemmas.Fmt.{decimal_is_IsNumeral, decimal_nonempty}
use Rattle.std.proofs.lemmas.Int.{ints}
use Rattle.std.proofs.lemmas.List.{append-nil}
use Rattle.std.proofs.lemmas.Str.Parse.{digit_from_value}
use Rattle.std.proofs.Math.Bool.{or-true}
use Rattle.std.proofs.Math.Nat.{mod-lt, one-le-pow}
use Rattle.c_text.specs.Forms.{is_digit, is_letter, is_name_byte, is_exponent, all_are, all_go_on}
use Rattle.c_text.proofs.Scans.{both}
use Rattle.lane_core.specs.IntRange.{is_signed, width, InRange}
use Rattle.lane_core.specs.declared.number.IntType.{IntType}
use Rattle.lane_core.specs.declared.number.IntType.TheVariants.{Boolean, Int, UInt, Long, ULong, LLong, ULLong}
use Rattle.lane_core.specs.declared.number.Num.{Num}
use Rattle.c_print.specs.Constants.{sign_text, suffix_text, hex_digit, hex_digits, is_in_hex, digits_text, magnitude_text}
use Rattle.round_trip.specs.Words.{last_of, is_plain_byte}
use Rattle.round_trip.specs.Good.{IsConstantType, GoodConstant}

-- the digits of a constant, with its suffix: a digit first, and no exponent's letter last
abbrev pub IsNumeral : List ℕ → Type 0
IsNumeral [] = ⊥
IsNumeral (c ∷ cs) = (is_digit c ≡ true) × (all_go_on c cs ≡ true) × (is_exponent (last_of c cs) ≡ false)

pub joined : (p : ℕ → Bool) (xs ys : List ℕ) → all_are p xs ≡ true → all_are p ys ≡ true → all_are p (xs ++ ys) ≡ true
joined p [] ys h k = k
joined p (x ∷ xs) ys h k = rw (both (p x) (all_are p xs) h).0 (joined p xs ys (both (p x) (all_are p xs) h).1 k)

-- what holds of each byte of one sort holds of each of another
pub all_so : (p q : ℕ → Bool) → ((b : ℕ) → p b ≡ true → q b ≡ true) → (bs : List ℕ) → all_are p bs ≡ true → all_are q bs ≡ true
all_so p q so [] h = refl
all_so p q so (b ∷ bs) h = rw (so b (both (p b) (all_are p bs) h).0) (all_so p q so bs (both (p b) (all_are p bs) h).1)

-- a test of each number below n, which computes
abbrev pub all_below : (ℕ → Bool) → ℕ → Bool
all_below p zero = true
all_below p (suc n) = p n && all_below p n

pub below : (p : ℕ → Bool) (n k : ℕ) → all_below p n ≡ true → k < n → p k ≡ true
below p zero k h lt = absurd (omega arith)
below p (suc n) k h lt = elim (cases_lt k n) [
  | inl less ↦ below p n k (both (p n) (all_below p n) h).1 less
  | inr top ↦ let e : k ≡ n = omega arith in ap p e ∙ (both (p n) (all_below p n) h).0
]

-- The bytes of a constant are digits and letters.
pub are_digits : (ds : List ℕ) → AllDigits 10 ds → all_are is_digit ds ≡ true
are_digits [] d = refl
are_digits (c ∷ cs) d = let r = digit_from_value c d.0 in rw (le-leb 48 c r.0, le-leb c 57 r.1) (are_digits cs d.1)

pub decimal_digits : (n : ℕ) → n < 2 ^ 64 → all_are is_digit (decimal n) ≡ true
decimal_digits n h = are_digits (decimal n) (decimal_is_IsNumeral n h).0.1

digit_name : (c : ℕ) → is_digit c ≡ true → is_name_byte c ≡ true
digit_name c h = rw (h, or-true (is_letter c)) refl

pub hex_are : (p : ℕ → Bool) → all_below (λ d. p (hex_digit d)) 16 ≡ true → (k n : ℕ) → all_are p (hex_digits k n) ≡ true
unfolding hex_digits
hex_are p h zero n = refl
hex_are p h (suc k) n = rw (below (λ d. p (hex_digit d)) 16 (n / 16 ^ k % 16) h (mod-lt (n / 16 ^ k) (omega arith))) (hex_are p h k n)

suffix_names : (t : IntType) → all_are is_name_byte (suffix_text t) ≡ true
suffix_names UInt = refl
suffix_names t = refl

digits_names : (t : IntType) (n : ℕ) → n < 2 ^ 64 → all_are is_name_byte (digits_text t n) ≡ true
digits_names t n less = go (is_in_hex t n)
  where
    go : (h : Bool) → all_are is_name_byte (cond h (codes "0x" ++ hex_digits 16 n) (decimal n)) ≡ true
    go true = hex_are is_name_byte refl 16 n
    go false = all_so is_digit is_name_byte digit_name (decimal n) (decimal_digits n less)

text_names : (t : IntType) (n : ℕ) → n < 2 ^ 64 → all_are is_name_byte (magnitude_text t n) ≡ true
text_names t n less = joined is_name_byte (digits_text t n) (suffix_text t) (digits_names t n less) (suffix_names t)

-- So it goes on as a number.
go_on : (before : ℕ) (bs : List ℕ) → all_are is_name_byte bs ≡ true → all_go_on before bs ≡ true
go_on before [] h = refl
go_on before (b ∷ bs) h = rw (both (is_name_byte b) (all_are is_name_byte bs) h).0 (go_on b bs (both (is_name_byte b) (all_are is_name_byte bs) h).1)

-- Its last byte is a digit or one of the suffix.
last_behind : (c : ℕ) (cs : List ℕ) (d : ℕ) (ds : List ℕ) → last_of c (cs ++ (d ∷ ds)) ≡ last_of d ds
last_behind c [] d ds = refl
last_behind c (x ∷ cs) d ds = last_behind x cs d ds

last_digit : (c : ℕ) (cs : List ℕ) → is_digit c ≡ true → all_are is_digit cs ≡ true → is_digit (last_of c cs) ≡ true
last_digit c [] h k = h
last_digit c (x ∷ cs) h k = last_digit x cs (both (is_digit x) (all_are is_digit cs) k).0 (both (is_digit x) (all_are is_digit cs) k).1

digit_no_exponent : (c : ℕ) → is_digit c ≡ true → is_exponent c ≡ false
digit_no_exponent c h = grind (arith, nat_tests)

-- the last byte of a suffix, where there is one, is no exponent's letter
abbrev Ends : List ℕ → Type 0
Ends [] = Unit {0}
Ends (s ∷ ss) = is_exponent (last_of s ss) ≡ false

suffix_ends : (t : IntType) → Ends (suffix_text t)
suffix_ends UInt = refl
suffix_ends Long = refl
suffix_ends ULong = refl
suffix_ends LLong = refl
suffix_ends ULLong = refl
suffix_ends t = tt

-- digits in front of a suffix
numeral_digits : (ds sx : List ℕ) → 0 < length ds → all_are is_digit ds ≡ true → all_are is_name_byte (ds ++ sx) ≡ true → Ends sx → IsNumeral (ds ++ sx)
numeral_digits [] sx some h k e = absurd (omega (arith, some))
numeral_digits (c ∷ cs) [] some h k e =
    let parts = both (is_digit c) (all_are is_digit cs) h in
    (parts.0, go_on c (cs ++ []) (both (is_name_byte c) (all_are is_name_byte (cs ++ [])) k).1, rw (append-nil cs) (digit_no_exponent (last_of c cs) (last_digit c cs parts.0 parts.1)))
numeral_digits (c ∷ cs) (s ∷ ss) some h k e =
    ((both (is_digit c) (all_are is_digit cs) h).0, go_on c (cs ++ (s ∷ ss)) (both (is_name_byte c) (all_are is_name_byte (cs ++ (s ∷ ss))) k).1, rw (last_behind c cs s ss) e)

-- `0x` and digits of base 16 in front of a suffix
numeral_hex : (hs : List ℕ) (s : ℕ) (ss : List ℕ) → all_are is_name_byte ((codes "0x" ++ hs) ++ (s ∷ ss)) ≡ true → Ends (s ∷ ss) → IsNumeral ((codes "0x" ++ hs) ++ (s ∷ ss))
numeral_hex hs s ss h e = (refl, go_on 48 (120 ∷ (hs ++ (s ∷ ss))) h, rw (last_behind 120 hs s ss) e)

decimal_numeral : (n : ℕ) (sx : List ℕ) → n < 2 ^ 64 → all_are is_name_byte (decimal n ++ sx) ≡ true → Ends sx → IsNumeral (decimal n ++ sx)
decimal_numeral n sx less h e = numeral_digits (decimal n) sx (decimal_nonempty n less) (decimal_digits n less) h e

numeral : (t : IntType) (n : ℕ) → IsConstantType t → n < 2 ^ 64 → IsNumeral (magnitude_text t n)
numeral t n g less = go t g (is_in_hex t n) refl (text_names t n less)
  where
    text : Bool → IntType → List ℕ
    text h u = cond h (codes "0x" ++ hex_digits 16 n) (decimal n) ++ suffix_text u

    go : (u : IntType) → IsConstantType u → (h : Bool) → is_in_hex u n ≡ h → all_are is_name_byte (text h u) ≡ true → IsNumeral (text h u)
    go u k false e h = decimal_numeral n (suffix_text u) less h (suffix_ends u)
    go UInt k true e h = numeral_hex (hex_digits 16 n) 85 [] h refl
    go ULong k true e h = numeral_hex (hex_digits 16 n) 85 (76 ∷ []) h refl
    go ULLong k true e h = numeral_hex (hex_digits 16 n) 85 (76 ∷ 76 ∷ []) h refl
    go Int k true e h = absurd (cc)
    go Long k true e h = absurd (cc)
    go LLong k true e h = absurd (cc)
    go u k true e h = absurd k

-- The value of a constant is a number of its type that isn't negative.
pub value_is_magnitude : (z : ℤ) → sign_text z ≡ [] → z ≡ pos (unsigned_abs z)
value_is_magnitude (pos n) e = refl
value_is_magnitude (negsuc n) e = absurd (cc)

-- the number of the value bits of a type (C11 6.2.6.2): the sign bit isn't one of them
abbrev pub value_bits : IntType → ℕ
value_bits t = if is_signed t then width t - 1 else width t

under : (n p : ℕ) → pos n ≤ℤ pos (p - 1) → 1 ≤ p → n < p
under n p h some = omega (arith, ints, h, some)

pub magnitude_bound : (t : IntType) (z : ℤ) → InRange t z → sign_text z ≡ [] → unsigned_abs z < 2 ^ value_bits t
magnitude_bound t (pos n) h e = under n (2 ^ value_bits t) h.1 (one-le-pow (value_bits t) 2 (omega arith))
magnitude_bound t (negsuc n) h e = absurd (cc)

pub within_64_bits : (t : IntType) (n : ℕ) → n < 2 ^ value_bits t → n < 2 ^ 64
within_64_bits Boolean n h = omega (arith, h)
within_64_bits t n h = omega (arith, h)

constant_within_64_bits : (n : Num) → GoodConstant n → unsigned_abs n.value < 2 ^ 64
constant_within_64_bits n g = within_64_bits n.ty (unsigned_abs n.value) (magnitude_bound n.ty n.value n.in_range g.0)

pub numeral_of : (n : Num) → GoodConstant n → IsNumeral (magnitude_text n.ty (unsigned_abs n.value))
numeral_of n g = numeral n.ty (unsigned_abs n.value) g.1 (constant_within_64_bits n g)

-- No byte of it is a control byte or a backslash.
name_plain : (b : ℕ) → is_name_byte b ≡ true → is_plain_byte b ≡ true
name_plain b h = grind (arith, nat_tests)

pub numeral_plain : (n : Num) → GoodConstant n → all_are is_plain_byte (magnitude_text n.ty (unsigned_abs n.value)) ≡ true
numeral_plain n g = all_so is_name_byte is_plain_byte name_plain (magnitude_text n.ty (unsigned_abs n.value)) (text_names n.ty (unsigned_abs n.value) (constant_within_64_bits n g))

-- The same of a number that names a half of a pair.
pub index_numeral : (k : ℕ) → k < 2 → IsNumeral (decimal k)
index_numeral k h = rw (append-nil (decimal k)) at (decimal_numeral k [] (omega arith) (rw (append-nil (decimal k)) (all_so is_digit is_name_byte digit_name (decimal k) (decimal_digits k (omega arith)))) tt)

pub index_plain : (k : ℕ) → k < 2 → all_are is_plain_byte (decimal k) ≡ true
index_plain k h = all_so is_name_byte is_plain_byte name_plain (decimal k) (all_so is_digit is_name_byte digit_name (decimal k) (decimal_digits k (omega arith)))
