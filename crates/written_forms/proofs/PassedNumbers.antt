-- An integer that is passed modulo 2 ^ 64 is read back in its type.
use Rattle.std.proofs.Common.{◌≡◌, ℕ, ◌^◌, ◌<◌, ◌≤◌, refl, ap, ◌∙◌, arith, ℤ, pos, negsuc, ◌≤ℤ◌}
use Rattle.std.proofs.lemmas.Int.{ints}
use Rattle.std.proofs.Math.Nat.{mod-eq_of_lt}
use Rattle.lane_core.specs.declared.number.IntType.{IntType}
use Rattle.lane_core.specs.declared.number.IntType.TheVariants as int
use Rattle.lane_core.specs.declared.number.Num.{Num}
use Rattle.lane_core.specs.IntRange.{InRange, greatest}
use Rattle.scalar_core.specs.TwosComplement.{bits_of, value_of_bits, wrapped}
use Rattle.scalar_core.specs.Wrapping.{wrapped_same}
use Rattle.scalar_core.specs.Numbers.{num_of}
use Rattle.scalar_core.specs.NumberLaws.{num_same}

below : (t : IntType) (n : ℕ) → pos n ≤ℤ greatest t → n < 2 ^ 64
below int.Boolean n h = omega (arith, ints, h)
below int.Char n h = omega (arith, ints, h)
below int.SChar n h = omega (arith, ints, h)
below int.UChar n h = omega (arith, ints, h)
below int.Short n h = omega (arith, ints, h)
below int.UShort n h = omega (arith, ints, h)
below int.Int n h = omega (arith, ints, h)
below int.UInt n h = omega (arith, ints, h)
below int.Long n h = omega (arith, ints, h)
below int.ULong n h = omega (arith, ints, h)
below int.LLong n h = omega (arith, ints, h)
below int.ULLong n h = omega (arith, ints, h)

-- a number below 0 has, at the type's width, the low bits of those that it has at 64
low_bits : (t : IntType) (n : ℕ) → InRange t (negsuc n) → bits_of t (pos (bits_of int.ULong (negsuc n))) ≡ bits_of t (negsuc n)
unfolding bits_of
low_bits int.Char n h = let l : n ≤ 127 = omega (arith, ints, h.0) in omega (arith, l)
low_bits int.SChar n h = let l : n ≤ 127 = omega (arith, ints, h.0) in omega (arith, l)
low_bits int.Short n h = let l : n ≤ 32767 = omega (arith, ints, h.0) in omega (arith, l)
low_bits int.Int n h = let l : n ≤ 2147483647 = omega (arith, ints, h.0) in omega (arith, l)
low_bits int.Long n h = let l : n ≤ 9223372036854775807 = omega (arith, ints, h.0) in omega (arith, l)
low_bits int.LLong n h = let l : n ≤ 9223372036854775807 = omega (arith, ints, h.0) in omega (arith, l)
low_bits int.Boolean n h = absurd (omega (arith, ints, h.0))
low_bits int.UChar n h = absurd (omega (arith, ints, h.0))
low_bits int.UShort n h = absurd (omega (arith, ints, h.0))
low_bits int.UInt n h = absurd (omega (arith, ints, h.0))
low_bits int.ULong n h = absurd (omega (arith, ints, h.0))
low_bits int.ULLong n h = absurd (omega (arith, ints, h.0))

whole_bits : (n : ℕ) → n < 2 ^ 64 → bits_of int.ULong (pos n) ≡ n
unfolding bits_of
whole_bits n l = mod-eq_of_lt l

pub read_back : (t : IntType) (z : ℤ) → InRange t z → wrapped t (pos (bits_of int.ULong z)) ≡ z
unfolding wrapped
read_back t (pos n) h = ap (λ k. wrapped t (pos k)) (whole_bits n (below t n h.1)) ∙ wrapped_same t (pos n) h
read_back t (negsuc n) h = ap (value_of_bits t) (low_bits t n h) ∙ wrapped_same t (negsuc n) h

-- as a number of the type
pub value_back : (t : IntType) (z : ℤ) → InRange t z → (num_of t (pos (bits_of int.ULong z))).value ≡ z
unfolding num_of
value_back t z h = read_back t z h

pub type_back : (t : IntType) (z : ℤ) → (num_of t z).ty ≡ t
unfolding num_of
type_back t z = refl

pub number_back : (n : Num) → num_of n.ty (pos (bits_of int.ULong n.value)) ≡ n
number_back n =
    num_same (num_of n.ty (pos (bits_of int.ULong n.value))) n (type_back n.ty (pos (bits_of int.ULong n.value))) (value_back n.ty n.value n.in_range)
