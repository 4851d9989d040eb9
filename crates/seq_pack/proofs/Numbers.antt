-- Integers that rows take and give, as C has them.
use Rattle.std.proofs.Common.{◌≡◌, ℕ, ◌+◌, ◌-◌, ◌%◌, ◌^◌, ◌<◌, ◌≤◌, Bool, true, false, refl, ap, sym, ◌∙◌, subst, arith, rules, inl, inr, ℤ, pos, negsuc, ◌-ℤ◌, ◌≤ℤ◌}
use Rattle.std.specs.Prelude.{int_le, unsigned_abs, if◌then◌else◌}
use Rattle.std.specs.Int.{int_rem_euclid}
use Rattle.std.proofs.lemmas.Int.{ints}
use Rattle.std.proofs.lemmas.Bool.{cases_lt}
use Rattle.std.proofs.Math.Nat.{mod-eq_of_lt, mod-mod}
use Rattle.lane_core.specs.declared.number.IntType.{IntType}
use Rattle.lane_core.specs.declared.number.IntType.TheVariants as int
use Rattle.lane_core.specs.declared.number.Num.{Num}
use Rattle.lane_core.specs.IntRange.{InRange, width, greatest}
use Rattle.lane_core.specs.Register as register
use Rattle.lane_core.proofs.Signed.{signed_low, signed_high, wrapped-signed}
use Rattle.scalar_core.specs.TwosComplement.{bits_of, value_of_bits, wrapped}
use Rattle.scalar_core.specs.Wrapping.{bits-below}
use Rattle.scalar_core.specs.Numbers.{num_of, converted, is_boolean}
use Rattle.scalar_core.specs.NumberLaws.{num_same, num_of_in_range, converted_kept, converted_type}

-- ---- an integer as the type of a lane has it

-- the bits of the number that bits below `size` stand for, at another width
bits_read : (size m r : ℕ) (b : Bool) → r < size → m - 1 - (size - r - 1) % m ≡ r % m → unsigned_abs (int_rem_euclid (if b then pos r else pos r -ℤ pos size) (pos m)) ≡ r % m
bits_read size m r true l e = refl
bits_read size m r false l e =
    let n : pos r -ℤ pos size ≡ negsuc (size - r - 1) = omega (arith, ints, l) in
    ap (λ (z : ℤ). unsigned_abs (int_rem_euclid z (pos m))) n ∙ e

-- the low bits of a number of type t are those that it was made from
abbrev Lower : IntType → IntType → Type 0
Lower t u = (r : ℕ) → r < 2 ^ width t → 2 ^ width u - 1 - (2 ^ width t - r - 1) % 2 ^ width u ≡ r % 2 ^ width u

low_bits : (t u : IntType) (x : ℕ) → Lower t u → x % 2 ^ width t < 2 ^ width t → x % 2 ^ width t % 2 ^ width u ≡ x % 2 ^ width u → bits_of u (num_of t (pos x)).value ≡ x % 2 ^ width u
unfolding num_of wrapped value_of_bits bits_of
low_bits t u x lower below same = bits_read (2 ^ width t) (2 ^ width u) (x % 2 ^ width t) _ below (lower (x % 2 ^ width t) below) ∙ same

-- an integer of type t, converted to the unsigned type u of a lane, as a row's argument
abbrev pub passed : IntType → IntType → ℕ → ℕ
passed u t x = bits_of int.ULong (converted u (num_of t (pos x))).value

of_bits : (size n : ℕ) (top : ℤ) → n < size → top ≡ pos (size - 1) → (if int_le (pos n) top then pos n else pos n -ℤ pos size) ≡ pos n
of_bits size n top l e =
    let t : int_le (pos n) (pos (size - 1)) ≡ true = let u : pos n ≤ℤ pos (size - 1) = omega (arith, ints, l) in search (rules, u) in
    rw (e, t) refl

pub bits_small : (b : ℕ) → b < 2 ^ 64 → bits_of int.ULong (pos b) ≡ b
unfolding bits_of
bits_small b l = mod-eq_of_lt l

-- of an unsigned type
unsigned_passed : (u : IntType) (n : Num) → is_boolean u ≡ false → greatest u ≡ pos (2 ^ width u - 1) → 2 ^ width u ≤ 2 ^ 64 → bits_of int.ULong (converted u n).value ≡ bits_of u n.value
unfolding converted num_of wrapped value_of_bits
unsigned_passed u n e g l =
    let b = bits-below u n.value in
    rw e (ap (bits_of int.ULong) (of_bits (2 ^ width u) (bits_of u n.value) (greatest u) b g) ∙ bits_small (bits_of u n.value) (omega (arith, b, l)))

-- the argument's low bits are the integer's
pub char_passed : (x : ℕ) → passed int.UChar int.SChar x % 256 ^ 1 ≡ x % 256 ^ 1
char_passed x =
    ap (λ v. v % 256 ^ 1) (unsigned_passed int.UChar (num_of int.SChar (pos x)) refl refl (omega arith) ∙ low_bits int.SChar int.UChar x (λ r l. omega (arith, l)) (omega arith) (omega arith)) ∙ mod-mod x (256 ^ 1)

pub short_passed : (x : ℕ) → passed int.UShort int.Short x % 256 ^ 2 ≡ x % 256 ^ 2
short_passed x =
    ap (λ v. v % 256 ^ 2) (unsigned_passed int.UShort (num_of int.Short (pos x)) refl refl (omega arith) ∙ low_bits int.Short int.UShort x (λ r l. omega (arith, l)) (omega arith) (omega arith)) ∙ mod-mod x (256 ^ 2)

pub int_passed : (x : ℕ) → passed int.UInt int.Int x % 256 ^ 4 ≡ x % 256 ^ 4
int_passed x =
    ap (λ v. v % 256 ^ 4) (unsigned_passed int.UInt (num_of int.Int (pos x)) refl refl (omega arith) ∙ low_bits int.Int int.UInt x (λ r l. omega (arith, l)) (omega arith) (omega arith)) ∙ mod-mod x (256 ^ 4)

pub long_passed : (x : ℕ) → passed int.ULong int.LLong x % 256 ^ 8 ≡ x % 256 ^ 8
long_passed x =
    ap (λ v. v % 256 ^ 8) (unsigned_passed int.ULong (num_of int.LLong (pos x)) refl refl (omega arith) ∙ low_bits int.LLong int.ULong x (λ r l. omega (arith, l)) (omega arith) (omega arith)) ∙ mod-mod x (256 ^ 8)

-- of an `int` for a byte and for a word
pub int_passed_byte : (x : ℕ) → passed int.UChar int.Int x % 256 ^ 1 ≡ x % 256 ^ 1
int_passed_byte x =
    ap (λ v. v % 256 ^ 1) (unsigned_passed int.UChar (num_of int.Int (pos x)) refl refl (omega arith) ∙ low_bits int.Int int.UChar x (λ r l. omega (arith, l)) (omega arith) (omega arith)) ∙ mod-mod x (256 ^ 1)

pub int_passed_word : (x : ℕ) → passed int.UShort int.Int x % 256 ^ 2 ≡ x % 256 ^ 2
int_passed_word x =
    ap (λ v. v % 256 ^ 2) (unsigned_passed int.UShort (num_of int.Int (pos x)) refl refl (omega arith) ∙ low_bits int.Int int.UShort x (λ r l. omega (arith, l)) (omega arith) (omega arith)) ∙ mod-mod x (256 ^ 2)

-- ---- a lane as an integer of a row's result

pub byte_in_range : (n : ℕ) → n < 256 → InRange int.UChar (pos n)
byte_in_range n h = (omega (arith, ints), omega (arith, ints, h))

pub word_in_range : (n : ℕ) → n < 256 ^ 2 → InRange int.UShort (pos n)
word_in_range n h = (omega (arith, ints), omega (arith, ints, h))

pub int_in_range : (n : ℕ) → n < 2 ^ 31 → InRange int.Int (pos n)
int_in_range n h = (omega (arith, ints), omega (arith, ints, h))

-- a number that both types hold keeps its value
pub converted_small : (t u : IntType) (z : ℤ) → InRange t z → InRange u z → converted u (num_of t z) ≡ num_of u z
unfolding num_of
converted_small t u z h i =
    num_same (converted u (num_of t z)) (num_of u z) (converted_type u (num_of t z))
    (converted_kept u (num_of t z) (subst (InRange u) (sym (num_of_in_range t z h)) i) ∙ num_of_in_range t z h ∙ sym (num_of_in_range u z i))

-- a small `int` as an argument
pub int_small : (n : ℕ) → n < 2 ^ 31 → bits_of int.ULong (num_of int.Int (pos n)).value ≡ n
int_small n h = ap (bits_of int.ULong) (num_of_in_range int.Int (pos n) (int_in_range n h)) ∙ bits_small n (omega (arith, h))

pub byte_given : (y : ℕ) → y < 256 → bits_of int.ULong (converted int.Int (num_of int.UChar (pos (y % 256 ^ 8)))).value ≡ y
byte_given y h =
    ap (λ v. bits_of int.ULong (converted int.Int (num_of int.UChar (pos v))).value) (mod-eq_of_lt {n = y} {m = 256 ^ 8} (omega (arith, h)))
    ∙ ap (λ (n : Num). bits_of int.ULong n.value) (converted_small int.UChar int.Int (pos y) (byte_in_range y h) (int_in_range y (omega (arith, h))))
    ∙ int_small y (omega (arith, h))

pub word_given : (y : ℕ) → y < 256 ^ 2 → bits_of int.ULong (converted int.Int (num_of int.UShort (pos (y % 256 ^ 8)))).value ≡ y
word_given y h =
    ap (λ v. bits_of int.ULong (converted int.Int (num_of int.UShort (pos v))).value) (mod-eq_of_lt {n = y} {m = 256 ^ 8} (omega (arith, h)))
    ∙ ap (λ (n : Num). bits_of int.ULong n.value) (converted_small int.UShort int.Int (pos y) (word_in_range y h) (int_in_range y (omega (arith, h))))
    ∙ int_small y (omega (arith, h))

-- a dword read with its sign
low_given : (y : ℕ) → y < 2 ^ 31 → bits_of int.ULong (num_of int.Int (pos (register.wrapped 8 (register.signed 4 y)))).value ≡ register.wrapped 8 (register.signed 4 y)
unfolding register.wrapped
low_given y h =
    let e : register.signed 4 y ≡ pos y = signed_low 4 y h in
    let m : y % 256 ^ 8 ≡ y = omega (arith, h) in
    rw (e, m) (int_small y h)

below_zero : (size y : ℕ) → y < size → pos y -ℤ pos size ≡ negsuc (size - y - 1)
below_zero size y l = omega (arith, ints, l)

high_value : (y : ℕ) → 2 ^ 31 ≤ y → y < 256 ^ 4 → (num_of int.Int (pos (2 ^ 64 - 2 ^ 32 + y))).value ≡ negsuc (2 ^ 32 - y - 1)
unfolding num_of wrapped value_of_bits bits_of
high_value y h l =
    let r : (2 ^ 64 - 2 ^ 32 + y) % 2 ^ 32 ≡ y = omega (arith, h, l) in
    let t : int_le (pos y) (pos (2 ^ 31 - 1)) ≡ false = grind (arith, ints, h) in
    rw (r, t) (below_zero (2 ^ 32) y l)

high_given : (y : ℕ) → 2 ^ 31 ≤ y → y < 256 ^ 4 → bits_of int.ULong (num_of int.Int (pos (register.wrapped 8 (register.signed 4 y)))).value ≡ register.wrapped 8 (register.signed 4 y)
unfolding register.wrapped bits_of
high_given y h l =
    let e : register.signed 4 y ≡ negsuc (2 ^ 32 - y - 1) = signed_high 4 y h ∙ below_zero (2 ^ 32) y l in
    let m : 256 ^ 8 - 1 - (2 ^ 32 - y - 1) % 256 ^ 8 ≡ 2 ^ 64 - 2 ^ 32 + y = omega (arith, h, l) in
    rw (e, m) (ap (λ (z : ℤ). unsigned_abs (int_rem_euclid z (pos (2 ^ 64)))) (high_value y h l) ∙ m)

pub dword_given : (y : ℕ) → y < 256 ^ 4 → bits_of int.ULong (num_of int.Int (pos (register.wrapped 8 (register.signed 4 y)))).value ≡ register.wrapped 8 (register.signed 4 y)
dword_given y l = elim (cases_lt y (2 ^ 31)) [
  | inl b ↦ low_given y b
  | inr b ↦ high_given y b l
]

-- a qword
pub qword_given : (y : ℕ) → y < 256 ^ 8 → bits_of int.ULong (converted int.LLong (num_of int.Long (pos (register.wrapped 8 (register.signed 8 y))))).value ≡ y
unfolding num_of
qword_given y l =
    ap (λ v. bits_of int.ULong (converted int.LLong (num_of int.Long (pos v))).value) (wrapped-signed 8 y l)
    ∙ ap (bits_of int.ULong) (converted_kept int.LLong (num_of int.Long (pos y)) (num_of int.Long (pos y)).in_range)
    ∙ low_bits int.Long int.ULong y (λ r k. omega (arith, k)) (omega arith) (omega arith)
    ∙ mod-eq_of_lt l
