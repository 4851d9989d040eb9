use Rattle.std.proofs.Common.{◌≡◌, ◌↔◌, drop}
use Rattle.c_tree.specs.View.{view_stmts}
use Rattle.c_tree.specs.Same.{stripped_statements}
use Rattle.c_tree.proofs.same.+same_stmt.Given as goal

abbrev pub invariant-same_stmts-loop-x : goal.invariant-same_stmts-loop-x
invariant-same_stmts-loop-x l = (stripped_statements (view_stmts l.a) ≡ stripped_statements (view_stmts l.b)) ↔ (stripped_statements (view_stmts (drop l.x-index l.a)) ≡ stripped_statements (view_stmts l.rest))
