use Rattle.std.proofs.Common.{◌≡◌, map, drop}
use Rattle.c_tree.specs.View.{view_item}
use Rattle.c_memory.specs.Meaning.{functions}
use Rattle.c_meaning.specs.Indexed.{IsIndexed}
use Rattle.c_meaning.specs.Marked.{marked}
use Rattle.c_meaning.proofs.Units.{known}
use Rattle.c_meaning.proofs.unit.callees_of.Given as goal

abbrev pub invariant-loop-item : goal.invariant-loop-item
invariant-loop-item l =
    (known l.all.items (drop l.item-index l.items) ≡ map marked (functions (map view_item l.items)))
    × IsIndexed l.places l.all.items
