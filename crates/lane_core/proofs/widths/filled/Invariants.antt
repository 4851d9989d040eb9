use Rattle.std.proofs.Common.{◌<◌, ◌/◌}
use Rattle.lane_core.proofs.Loops.{Filled}
use Rattle.lane_core.proofs.widths.filled.Given as goal

abbrev pub invariant-loop-k : goal.invariant-loop-k
invariant-loop-k g l = Filled l.w l.k g.row.N (λ i v. (i < g.row.N / l.w) × goal.F-post g l.f i v) l.out
