use Rattle.std.proofs.Common.{length}
use Rattle.c_values.proofs.rows.+pointer_among.Given as goal

abbrev pub decreases-pointer_among : goal.decreases-pointer_among
decreases-pointer_among l = length l.values.now
