use Rattle.std.proofs.Common.{◌≡◌, ◌++◌, drop}
use Rattle.c_tree.specs.View.{views}
use Rattle.c_print.specs.Expressions.{more_text}
use Rattle.c_print.proofs.expressions.+printer.Given as goal

abbrev pub invariant-write_list-loop-next : goal.invariant-write_list-loop-next
invariant-write_list-loop-next l = l.initial.out.items ++ more_text (views l.others) ≡ l.out.items ++ more_text (views (drop l.next-index l.others))
