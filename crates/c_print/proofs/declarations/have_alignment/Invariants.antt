use Rattle.std.proofs.Common.{◌≡◌, map, drop}
use Rattle.c_tree.specs.View.{view_declared}
use Rattle.c_print.specs.Declarations.{have_alignment}
use Rattle.c_print.proofs.declarations.have_alignment.Given as goal

abbrev pub invariant-loop-d : goal.invariant-loop-d
invariant-loop-d l = have_alignment l.wanted (map view_declared l.all) ≡ have_alignment l.wanted (map view_declared (drop l.d-index l.all))
