use Rattle.std.proofs.Common.{length}
use Rattle.c_values.proofs.rows.+reads.Given as goal

abbrev pub decreases-reads : goal.decreases-reads
decreases-reads l = length l.kinds.now
