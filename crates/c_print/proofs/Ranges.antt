-- No number of a C type has a magnitude of 2^64 or more.
use Rattle.std.proofs.Common.{ℕ, ◌-◌, ◌<◌, ◌^◌, arith}
use Rattle.std.specs.Prelude.{ℤ, pos, negsuc, ◌≤ℤ◌, unsigned_abs, FitsSigned}
use Rattle.std.specs.Int.{w128}
use Rattle.std.proofs.lemmas.Int.{ints, fits_signed_from_abs}
use Rattle.lane_core.specs.declared.number.IntType.{IntType}
use Rattle.lane_core.specs.declared.number.IntType.TheVariants.{Boolean, Char, SChar, UChar, Short, UShort, Int, UInt, Long, ULong, LLong, ULLong}
use Rattle.lane_core.specs.IntRange.{InRange}

within : (low high : ℕ) (z : ℤ) → negsuc low ≤ℤ z → z ≤ℤ pos high → low < 2 ^ 63 → high < 2 ^ 64 → unsigned_abs z < 2 ^ 64
within low high (pos n) l h small large = omega (arith, ints)
within low high (negsuc n) l h small large = omega (arith, ints)

natural : (high : ℕ) (z : ℤ) → pos 0 ≤ℤ z → z ≤ℤ pos high → high < 2 ^ 64 → unsigned_abs z < 2 ^ 64
natural high (pos n) l h large = omega (arith, ints)
natural high (negsuc n) l h large = absurd (omega (arith, ints))

pub abs_bound : (t : IntType) (z : ℤ) → InRange t z → unsigned_abs z < 2 ^ 64
abs_bound Boolean z h = natural 1 z h.0 h.1 (omega arith)
abs_bound UChar z h = natural (2 ^ 8 - 1) z h.0 h.1 (omega arith)
abs_bound UShort z h = natural (2 ^ 16 - 1) z h.0 h.1 (omega arith)
abs_bound UInt z h = natural (2 ^ 32 - 1) z h.0 h.1 (omega arith)
abs_bound ULong z h = natural (2 ^ 64 - 1) z h.0 h.1 (omega arith)
abs_bound ULLong z h = natural (2 ^ 64 - 1) z h.0 h.1 (omega arith)
abs_bound Char z h = within (2 ^ 7 - 1) (2 ^ 7 - 1) z h.0 h.1 (omega arith) (omega arith)
abs_bound SChar z h = within (2 ^ 7 - 1) (2 ^ 7 - 1) z h.0 h.1 (omega arith) (omega arith)
abs_bound Short z h = within (2 ^ 15 - 1) (2 ^ 15 - 1) z h.0 h.1 (omega arith) (omega arith)
abs_bound Int z h = within (2 ^ 31 - 1) (2 ^ 31 - 1) z h.0 h.1 (omega arith) (omega arith)
abs_bound Long z h = within (2 ^ 63 - 1) (2 ^ 63 - 1) z h.0 h.1 (omega arith) (omega arith)
abs_bound LLong z h = within (2 ^ 63 - 1) (2 ^ 63 - 1) z h.0 h.1 (omega arith) (omega arith)

pub value_fits : (t : IntType) (z : ℤ) → InRange t z → FitsSigned w128 z
value_fits t z h = let b = abs_bound t z h in fits_signed_from_abs w128 z (omega (arith, b))
