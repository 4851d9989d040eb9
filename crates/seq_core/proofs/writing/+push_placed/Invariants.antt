use Rattle.std.proofs.Common.{◌+◌, length}
use Rattle.seq_core.proofs.writing.+push_placed.Given as goal

abbrev pub decreases-push_placed : goal.decreases-push_placed
decreases-push_placed l = length l.kinds.now + length l.operands.now
