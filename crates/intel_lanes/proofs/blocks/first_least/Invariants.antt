use Rattle.std.proofs.Common.{◌≡◌, ◌≤◌}
use Rattle.lane_core.specs.Register.{lane}
use Rattle.intel_lanes.specs.Blocks.{first_least}
use Rattle.intel_lanes.proofs.blocks.first_least.Given as goal

abbrev pub invariant-loop-k : goal.invariant-loop-k
invariant-loop-k l = record {
  value : l.place ≡ first_least l.k (λ i. lane 2 l.a i);
  inside : l.place ≤ l.k;
}
