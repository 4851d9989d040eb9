use Rattle.std.proofs.Common.{◌+◌, length}
use Rattle.seq_core.proofs.evaluation.+push_values.Given as goal

abbrev pub decreases-push_values : goal.decreases-push_values
decreases-push_values l = length l.kinds.now + length l.operands.now
