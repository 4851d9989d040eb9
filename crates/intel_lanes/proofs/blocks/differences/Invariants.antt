use Rattle.std.proofs.Common.{◌≡◌, ◌+◌, ◌*◌, ◌≤◌}
use Rattle.lane_core.specs.Register.{lane}
use Rattle.intel_lanes.specs.Blocks.{difference, sum_below}
use Rattle.intel_lanes.proofs.blocks.differences.Given as goal

abbrev pub invariant-loop-k : goal.invariant-loop-k
invariant-loop-k l = record {
  sum : l.sum ≡ sum_below l.k (λ k. difference (lane 1 l.a (l.i + k)) (lane 1 l.b (l.j + k)));
  bounded : l.sum ≤ 256 * l.k;
}
