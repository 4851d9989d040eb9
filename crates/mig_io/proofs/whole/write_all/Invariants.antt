use Rattle.std.proofs.Common.{length, take, ◌-◌, ◌≤◌}
use Rattle.mig_io.specs.Outside.{Grew}
use Rattle.mig_io.proofs.whole.write_all.Given as goal

-- the sink has taken the first bytes, and its count of faults didn't fall
abbrev pub invariant-loop-taken : goal.invariant-loop-taken
invariant-loop-taken g l =
    (l.taken ≤ length l.bytes) × Grew (g.K.Sink.held l.fn.sink) (take l.taken l.bytes) (g.K.Sink.held l.sink)
    × (g.K.Sink.faults l.fn.sink ≤ g.K.Sink.faults l.sink)

abbrev pub decreases-loop-taken : goal.decreases-loop-taken
decreases-loop-taken g l = length l.bytes - l.taken
