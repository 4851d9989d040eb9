use Rattle.std.proofs.Common.{◌≡◌, ◌++◌, drop}
use Rattle.c_tree.specs.View.{view_stmts}
use Rattle.c_print.specs.Statements.{statements_text}
use Rattle.c_print.proofs.statements.+printer.Given as goal

abbrev pub invariant-write_stmts-loop-s : goal.invariant-write_stmts-loop-s
invariant-write_stmts-loop-s l = l.initial.out.items ++ statements_text l.depth (view_stmts l.all) ≡ l.out.items ++ statements_text l.depth (view_stmts (drop l.s-index l.all))
