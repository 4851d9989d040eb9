use Rattle.std.proofs.Common.{◌≡◌, map, take}
use Rattle.c_tree.specs.View.{view_stmt}
use Rattle.c_tree.proofs.statements.+copying.Given as goal

abbrev pub invariant-copy_stmts-loop-x : goal.invariant-copy_stmts-loop-x
invariant-copy_stmts-loop-x l = map view_stmt l.out.items ≡ map view_stmt (take l.x-index l.all)
