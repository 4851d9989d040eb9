use Rattle.std.proofs.Common.{◌≡◌, ◌*◌, ◌≤◌}
use Rattle.lane_core.specs.Register.{lane}
use Rattle.neon_elements.specs.Elements.{sum_of}
use Rattle.neon_elements.proofs.vectors.sum_across.Given as goal

abbrev pub invariant-loop-e : goal.invariant-loop-e
invariant-loop-e g l = record {
  sum : l.sum ≡ sum_of l.e (lane l.w l.a);
  bounded : l.sum ≤ l.e * 4294967296;
}
