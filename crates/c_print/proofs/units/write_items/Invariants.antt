use Rattle.std.proofs.Common.{◌≡◌, ◌++◌, map, drop}
use Rattle.c_tree.specs.View.{view_item}
use Rattle.c_print.specs.Text.{items_text}
use Rattle.c_print.proofs.units.write_items.Given as goal

abbrev pub invariant-loop-item : goal.invariant-loop-item
invariant-loop-item l = l.initial.out.items ++ items_text (map view_item l.all) ≡ l.out.items ++ items_text (map view_item (drop l.item-index l.all))
