use Rattle.std.proofs.Common.{◌≡◌}
use Rattle.seq_core.specs.View.{view}
use Rattle.seq_pack.specs.Sets.{lanes_to}
use Rattle.seq_pack.proofs.sets.all_lanes.Given as goal

abbrev pub invariant-loop-k : goal.invariant-loop-k
invariant-loop-k l = view l.all ≡ lanes_to l.reversed l.width l.k
