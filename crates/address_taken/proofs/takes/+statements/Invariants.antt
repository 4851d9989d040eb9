use Rattle.std.proofs.Common.{◌≡◌, drop}
use Rattle.c_tree.specs.View.{view_stmts}
use Rattle.address_taken.specs.Addressed.{takes_statements}
use Rattle.address_taken.proofs.takes.+statements.Given as goal

abbrev pub invariant-takes_statements-loop-s : goal.invariant-takes_statements-loop-s
invariant-takes_statements-loop-s l = takes_statements l.name (view_stmts (drop l.s-index l.all)) ≡ takes_statements l.name (view_stmts l.all)
