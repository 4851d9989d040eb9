use Rattle.std.proofs.Common.{◌≡◌, ◌++◌, map, drop}
use Rattle.c_tree.specs.View.{view_declared}
use Rattle.c_print.specs.Declarations.{further_text}
use Rattle.c_print.proofs.declarations.write_further.Given as goal

abbrev pub invariant-loop-d : goal.invariant-loop-d
invariant-loop-d l = l.initial.out.items ++ further_text l.shared (map view_declared l.all) ≡ l.out.items ++ further_text l.shared (map view_declared (drop l.d-index l.all))
