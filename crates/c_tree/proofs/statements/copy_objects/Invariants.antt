use Rattle.std.proofs.Common.{◌≡◌, map, take}
use Rattle.c_tree.specs.View.{view_declared}
use Rattle.c_tree.proofs.statements.copy_objects.Given as goal

abbrev pub invariant-loop-x : goal.invariant-loop-x
invariant-loop-x l = map view_declared l.out.items ≡ map view_declared (take l.x-index l.all)
