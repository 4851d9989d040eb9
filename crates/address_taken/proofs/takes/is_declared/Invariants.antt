use Rattle.std.proofs.Common.{◌≡◌, map, drop}
use Rattle.c_tree.specs.View.{view_declared}
use Rattle.address_taken.specs.Addressed.{is_declared}
use Rattle.address_taken.proofs.takes.is_declared.Given as goal

abbrev pub invariant-loop-d : goal.invariant-loop-d
invariant-loop-d l = is_declared l.name (map view_declared (drop l.d-index l.all)) ≡ is_declared l.name (map view_declared l.all)
