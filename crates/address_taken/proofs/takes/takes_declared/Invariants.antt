use Rattle.std.proofs.Common.{◌≡◌, map, drop}
use Rattle.c_tree.specs.View.{view_declared}
use Rattle.address_taken.specs.Addressed.{takes_declared}
use Rattle.address_taken.proofs.takes.takes_declared.Given as goal

abbrev pub invariant-loop-d : goal.invariant-loop-d
invariant-loop-d l = takes_declared l.name (map view_declared (drop l.d-index l.all)) ≡ takes_declared l.name (map view_declared l.all)
