use Rattle.std.proofs.Common.{◌≡◌, ◌++◌, drop}
use Rattle.seq_core.specs.InPlace.{compounds, numbers_from}
use Rattle.seq_core.proofs.in_place.all_compounds.Given as goal

abbrev pub invariant-loop-k : goal.invariant-loop-k
invariant-loop-k l = l.out.items ++ compounds l.simple (numbers_from l.k (drop l.k l.simple)) ≡ compounds l.simple (numbers_from 0 l.simple)
