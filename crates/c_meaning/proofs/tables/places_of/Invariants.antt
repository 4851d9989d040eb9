use Rattle.std.proofs.Common.{take}
use Rattle.c_meaning.specs.Bindings.{ArePlaced}
use Rattle.c_meaning.proofs.tables.places_of.Given as goal

abbrev pub invariant-loop-k : goal.invariant-loop-k
invariant-loop-k l = ArePlaced l.places (take l.k l.bindings)
