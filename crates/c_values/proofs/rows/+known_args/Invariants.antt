use Rattle.std.proofs.Common.{length}
use Rattle.c_values.proofs.rows.+known_args.Given as goal

abbrev pub decreases-known_args : goal.decreases-known_args
decreases-known_args l = length l.args.now
