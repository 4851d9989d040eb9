use Rattle.std.proofs.Common.{refl, arith}
use Rattle.c_preproc.specs.Role.{next_role}
use Rattle.c_preproc.proofs.Judging.{behind_none}
use Rattle.c_preproc.specs.Scan.{first_refusal}
use Rattle.c_preproc.proofs.scanning.scan_all.Goals as goal

pub loop-i-init : goal.loop-i-init
unfolding first_refusal
loop-i-init c = record {
  shown = rw (behind_none (next_role c.args.tokens.now)) c.new-nesting.ensures.shown;
  light = omega (arith, c.new-nesting.ensures.light);
  passed = refl;
}
