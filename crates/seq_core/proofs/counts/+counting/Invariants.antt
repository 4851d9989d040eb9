use Rattle.std.proofs.Common.{◌≡◌, ◌+◌, drop, length}
use Rattle.seq_core.specs.View.{view_all}
use Rattle.seq_core.specs.Called.{rows_in_all}
use Rattle.seq_core.proofs.counts.+counting.Given as goal

abbrev pub invariant-count_all-loop-t : goal.invariant-count_all-loop-t
invariant-count_all-loop-t l = length (rows_in_all (view_all l.all)) ≡ l.total + length (rows_in_all (view_all (drop l.t-index l.all)))
