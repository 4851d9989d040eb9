use Rattle.std.proofs.Common.{arith}
use Rattle.simd_top.proofs.Asking.{few}
use Rattle.simd_top.proofs.words.asked_to_run.Goals as goal

pub returns-in_default-clause-command : goal.returns-in_default-clause-command
returns-in_default-clause-command c = few c.args.words.now (omega (arith, c.in_default.len_below))
