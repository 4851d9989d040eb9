use Rattle.std.proofs.Common.{◌≡◌, ◌++◌, ◌-◌}
use Rattle.c_print.specs.Statements.{margin}
use Rattle.c_print.proofs.statements.write_margin.Given as goal

abbrev pub invariant-loop-level : goal.invariant-loop-level
invariant-loop-level l = l.initial.out.items ++ margin l.depth ≡ l.out.items ++ margin (l.depth - l.level)
