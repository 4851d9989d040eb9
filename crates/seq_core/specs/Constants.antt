-- Numbers that are constants of C (C11 6.4.4.1).
use Rattle.std.specs.Prelude.{◌≡◌, ℕ, true, pos}
use Rattle.std.proofs.Common.{sym, subst}
use Rattle.lane_core.specs.declared.number.IntType.{IntType}
use Rattle.lane_core.specs.IntRange.{InRange}
use Rattle.scalar_core.specs.Numbers.{num_of}
use Rattle.scalar_core.specs.Wrapping.{wrapped_same}
use Rattle.seq_core.specs.Formed.{is_promoted, IsNatural, IsConstant}

-- a number that a promoted type has, and that is not negative
pub natural_is_constant : (t : IntType) (n : ℕ) → is_promoted t ≡ true → InRange t (pos n) → IsConstant (num_of t (pos n))
unfolding num_of
natural_is_constant t n p r = (p, subst IsNatural (sym (wrapped_same t (pos n) r)) tt)
