use Rattle.std.proofs.Common.{◌≡◌, ◌<◌, ◌*◌, ◌/◌, ◌^◌}
use Rattle.lane_core.specs.Register.{lane}
use Rattle.intel_lanes.specs.Blocks.{sum_below}
use Rattle.intel_forms.proofs.scalars.top_bits.Given as goal

abbrev pub invariant-loop-k : goal.invariant-loop-k
invariant-loop-k g l = record {
  sum : l.bits ≡ sum_below l.k (λ k. lane 1 l.a k / 128 * 2 ^ k);
  power : l.bit ≡ 2 ^ l.k;
  bounded : l.bits < 2 ^ l.k;
}
