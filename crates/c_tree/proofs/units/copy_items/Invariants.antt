use Rattle.std.proofs.Common.{◌≡◌, map, take}
use Rattle.c_tree.specs.View.{view_item}
use Rattle.c_tree.proofs.units.copy_items.Given as goal

abbrev pub invariant-loop-x : goal.invariant-loop-x
invariant-loop-x l = map view_item l.out.items ≡ map view_item (take l.x-index l.all)
