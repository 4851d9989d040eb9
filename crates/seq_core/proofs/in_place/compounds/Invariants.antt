use Rattle.std.proofs.Common.{◌≡◌, ◌++◌, drop}
use Rattle.seq_core.specs.InPlace.{compounds}
use Rattle.seq_core.proofs.in_place.compounds.Given as goal

abbrev pub invariant-loop-n : goal.invariant-loop-n
invariant-loop-n l = l.out.items ++ compounds l.simple (drop l.n-index l.places) ≡ compounds l.simple l.places
