use Rattle.std.proofs.Common.{◌≡◌, ◌↔◌, map, drop}
use Rattle.c_tree.specs.View.{view_item}
use Rattle.c_tree.specs.Same.{stripped_external}
use Rattle.c_tree.proofs.same.same_items.Given as goal

abbrev pub invariant-loop-x : goal.invariant-loop-x
invariant-loop-x l = (map stripped_external (map view_item l.a) ≡ map stripped_external (map view_item l.b)) ↔ (map stripped_external (map view_item (drop l.x-index l.a)) ≡ map stripped_external (map view_item l.rest))
