use Rattle.std.proofs.Common.{◌≡◌, ◌+◌, drop, length, map}
use Rattle.seq_core.specs.View.{view}
use Rattle.seq_core.specs.Called.{rows_in_steps}
use Rattle.seq_core.proofs.counts.calls.Given as goal

abbrev pub invariant-loop-t : goal.invariant-loop-t
invariant-loop-t l = length (rows_in_steps (map view l.seq.steps.items)) ≡ l.total + length (rows_in_steps (map view (drop l.t-index l.seq.steps.items)))
