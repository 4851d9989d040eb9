use Rattle.std.proofs.Common.{◌≡◌, drop}
use Rattle.seq_core.specs.View.{view_all}
use Rattle.seq_core.specs.InPlace.{are_straight}
use Rattle.seq_core.proofs.in_place.+straight.Given as goal

abbrev pub invariant-are_straight-loop-t : goal.invariant-are_straight-loop-t
invariant-are_straight-loop-t l = are_straight (view_all l.all) ≡ are_straight (view_all (drop l.t-index l.all))
