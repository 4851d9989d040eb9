use Rattle.std.proofs.Common.{◌≡◌, ◌-◌, ◌^◌}
use Rattle.std.specs.Prelude.{bit_and, ◌==◌}
use Rattle.lane_core.specs.Register.{lane}
use Rattle.intel_forms.specs.Scalars.{all_below}
use Rattle.intel_forms.proofs.scalars.is_within.Given as goal

abbrev pub invariant-loop-k : goal.invariant-loop-k
invariant-loop-k g l = l.holds ≡ all_below l.k (λ k. bit_and (256 ^ 8 - 1 - lane 8 l.a k) (lane 8 l.b k) == 0)
