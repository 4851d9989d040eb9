use Rattle.std.proofs.Common.{◌≡◌, None, drop}
use Rattle.c_tree.specs.View.{views}
use Rattle.type_rules.specs.Operations.{last_after}
use Rattle.type_rules.proofs.operations.last_type.Given as goal

abbrev pub invariant-loop-e : goal.invariant-loop-e
invariant-loop-e l = last_after None (views l.all) ≡ last_after l.last (views (drop l.e-index l.all))
