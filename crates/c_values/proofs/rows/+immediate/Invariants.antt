use Rattle.std.proofs.Common.{length}
use Rattle.c_values.proofs.rows.+immediate.Given as goal

abbrev pub decreases-immediate : goal.decreases-immediate
decreases-immediate l = length l.kinds.now
