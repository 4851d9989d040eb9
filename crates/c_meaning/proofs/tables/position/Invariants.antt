use Rattle.std.proofs.Common.{◌≡◌, ◌≤◌, true, length, drop}
use Rattle.c_meaning.specs.Bindings.{none_named}
use Rattle.c_meaning.proofs.tables.position.Given as goal

abbrev pub invariant-loop-k : goal.invariant-loop-k
invariant-loop-k l = (l.k ≤ length l.bindings) × (none_named l.name (drop l.k l.bindings) ≡ true)

abbrev pub decreases-loop-k : goal.decreases-loop-k
decreases-loop-k l = l.k
