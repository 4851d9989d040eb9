use Rattle.std.proofs.Common.{◌≡◌, ◌++◌, map, drop}
use Rattle.type_rules.specs.Passing.{parameter}
use Rattle.type_rules.proofs.passing.parameters.Given as goal

abbrev pub invariant-loop-kind : goal.invariant-loop-kind
invariant-loop-kind l = map parameter l.kinds ≡ l.out.items ++ map parameter (drop l.kind-index l.kinds)
