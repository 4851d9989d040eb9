use Rattle.std.proofs.Common.{◌≡◌, true, map, take}
use Rattle.c_meaning.specs.Callees.{seen_callee}
use Rattle.c_meaning.specs.Marked.{none_flagged}
use Rattle.c_meaning.proofs.calls.first_called.Given as goal

abbrev pub invariant-loop-k : goal.invariant-loop-k
invariant-loop-k l = none_flagged l.name (map seen_callee (take l.k l.callees)) ≡ true
