use Rattle.std.proofs.Common.{arith}
use Rattle.simd_top.proofs.Asking.{few_for_both}
use Rattle.simd_top.proofs.words.asked_for_both.Goals as goal

pub returns-in_default-clause-command : goal.returns-in_default-clause-command
returns-in_default-clause-command c = few_for_both c.args.words.now (omega (arith, c.in_default.len_below))
