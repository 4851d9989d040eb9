use Rattle.std.proofs.Common.{◌≡◌, drop}
use Rattle.seq_core.specs.View.{view_all}
use Rattle.seq_core.specs.Called.{are_constants}
use Rattle.seq_core.proofs.counts.are_constants.Given as goal

abbrev pub invariant-loop-t : goal.invariant-loop-t
invariant-loop-t l = are_constants (view_all l.all) ≡ are_constants (view_all (drop l.t-index l.all))
