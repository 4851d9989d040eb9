use Rattle.std.proofs.Common.{◌≡◌, map, length}
use Rattle.c_tree.specs.View.{view_item}
use Rattle.c_parse.specs.ItemReading.{unit_of, with_items}
use Rattle.c_parse.proofs.items.items.Given as goal

abbrev pub invariant-loop-left : goal.invariant-loop-left
invariant-loop-left l = unit_of l.dialect l.tokens ≡ with_items (map view_item l.all.items) (unit_of l.dialect l.left)

abbrev pub decreases-loop-left : goal.decreases-loop-left
decreases-loop-left l = length l.left
