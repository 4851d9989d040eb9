use Rattle.std.proofs.Common.{◌≡◌, ◌<◌, ◌^◌}
use Rattle.lane_core.specs.Register.{lane}
use Rattle.neon_elements.specs.declared.elements.Binary.TheVariants.{Min}
use Rattle.neon_elements.specs.Elements.{reduce_by}
use Rattle.neon_elements.proofs.vectors.least_across.Given as goal

abbrev pub invariant-loop-e : goal.invariant-loop-e
invariant-loop-e g l = record {
  value : l.least ≡ reduce_by Min l.t (lane l.w l.a) l.e;
  bounded : l.least < 256 ^ l.w;
}
