-- Numbers and their bits.
use Rattle.std.proofs.Common.{◌≡◌, ℕ, ◌%◌, ◌^◌, ◌<◌, ap, ◌∙◌, refl, arith, mod-eq_of_lt, to_z, of_z}
use Rattle.std.specs.Prelude.{ℤ, pos, Bool, true, false, FitsSigned, unsigned_abs, if◌then◌else◌}
use Rattle.std.specs.Ordering.{int_eq}
use Rattle.std.specs.Int.{w128, int_rem_euclid}
use Rattle.std.proofs.lemmas.Int.{ints, to_z-of_z}
use Rattle.lane_core.specs.declared.number.IntType.{IntType}
use Rattle.lane_core.specs.declared.number.IntType.TheVariants.{Boolean, ULong}
use Rattle.lane_core.specs.declared.number.Num.{Num}
use Rattle.lane_core.specs.IntRange.{InRange, width}
use Rattle.scalar_core.specs.TwosComplement.{bits_of, value_of_bits, wrapped}
use Rattle.scalar_core.specs.Wrapping.{bits-below}
use Rattle.scalar_core.specs.Numbers.{num_of, is_boolean, converted}
use Rattle.scalar_core.specs.NumberLaws.{num_same, num_of_in_range}

bits_below : (t : IntType) (n : ℕ) → n < 2 ^ width t → bits_of t (pos n) ≡ n
unfolding bits_of
bits_below t n h = mod-eq_of_lt {n = n} {m = 2 ^ width t} h

-- the number with the bits of z is that of z
pub num_of_bits : (t : IntType) (z : ℤ) → num_of t (pos (bits_of t z)) ≡ num_of t z
unfolding num_of wrapped
num_of_bits t z =
    num_same (num_of t (pos (bits_of t z))) (num_of t z) refl (ap (value_of_bits t) (bits_below t (bits_of t z) (bits-below t z)))

-- the code's remainder
pub bits_are : (t : IntType) (z m r : ℤ) → FitsSigned w128 z → FitsSigned w128 m → FitsSigned w128 r → m ≡ pos (2 ^ width t)
    → r ≡ int_rem_euclid (to_z w128 (of_z w128 z)) (to_z w128 (of_z w128 m)) → unsigned_abs (to_z w128 (of_z w128 r)) ≡ bits_of t z
unfolding bits_of
bits_are t z m r f g h e k = rw (to_z-of_z w128 r h, k, to_z-of_z w128 z f, to_z-of_z w128 m g, e) refl

low_bit : (n : ℕ) → num_of Boolean (pos (n % 2)) ≡ num_of Boolean (pos n)
unfolding bits_of
low_bit n = num_of_bits Boolean (pos n)

pub boolean_of_bits : (t : IntType) (n : ℕ) (z : ℤ) (r : Num) → is_boolean t ≡ true → FitsSigned w128 z → z ≡ pos (n % 2)
    → r ≡ num_of Boolean (to_z w128 (of_z w128 z)) → r ≡ num_of t (pos n)
boolean_of_bits Boolean n z r e f g h = h ∙ ap (num_of Boolean) (to_z-of_z w128 z f ∙ g) ∙ low_bit n
boolean_of_bits _ n z r e f g h = absurd (cc)

in_ulong : (n : ℕ) → n < 2 ^ 64 → InRange ULong (pos n)
in_ulong n h = (omega (arith, ints), omega (arith, ints))

pub other_of_bits : (t : IntType) (n : ℕ) (z : ℤ) (m r : Num) → is_boolean t ≡ false → n < 2 ^ 64 → FitsSigned w128 z → z ≡ pos n
    → m ≡ num_of ULong (to_z w128 (of_z w128 z)) → r ≡ converted t m → r ≡ num_of t (pos n)
unfolding converted
other_of_bits t n z m r e l f g h k =
    let same : m.value ≡ pos n = rw (h, to_z-of_z w128 z f, g) (num_of_in_range ULong (pos n) (in_ulong n l)) in
    k ∙ ap (λ (b : Bool). num_of t (if b then (if int_eq m.value (pos 0) then pos 0 else pos 1) else m.value)) e ∙ ap (num_of t) same
