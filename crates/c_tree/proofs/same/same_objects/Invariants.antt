use Rattle.std.proofs.Common.{◌≡◌, ◌↔◌, map, drop}
use Rattle.c_tree.specs.View.{view_declared}
use Rattle.c_tree.specs.Same.{stripped_object}
use Rattle.c_tree.proofs.same.same_objects.Given as goal

abbrev pub invariant-loop-x : goal.invariant-loop-x
invariant-loop-x l = (map stripped_object (map view_declared l.a) ≡ map stripped_object (map view_declared l.b)) ↔ (map stripped_object (map view_declared (drop l.x-index l.a)) ≡ map stripped_object (map view_declared l.rest))
