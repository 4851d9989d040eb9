use Rattle.std.proofs.Common.{◌≡◌, ◌<◌, ◌^◌}
use Rattle.lane_core.specs.Register.{lane}
use Rattle.neon_elements.specs.declared.elements.Binary.TheVariants.{Max}
use Rattle.neon_elements.specs.Elements.{reduce_by}
use Rattle.neon_elements.proofs.vectors.greatest_across.Given as goal

abbrev pub invariant-loop-e : goal.invariant-loop-e
invariant-loop-e g l = record {
  value : l.greatest ≡ reduce_by Max l.t (lane l.w l.a) l.e;
  bounded : l.greatest < 256 ^ l.w;
}
