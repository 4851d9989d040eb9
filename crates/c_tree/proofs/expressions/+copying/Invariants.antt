use Rattle.std.proofs.Common.{◌≡◌, map, take}
use Rattle.c_tree.specs.View.{view}
use Rattle.c_tree.proofs.expressions.+copying.Given as goal

abbrev pub invariant-copy_exprs-loop-x : goal.invariant-copy_exprs-loop-x
invariant-copy_exprs-loop-x l = map view l.out.items ≡ map view (take l.x-index l.all)
