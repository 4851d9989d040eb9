use Rattle.std.proofs.Common.{◌≡◌, ◌++◌, length, map, drop}
use Rattle.c_tree.specs.View.{view_item}
use Rattle.c_memory.specs.Meaning.{table_blocks, table_objects}
use Rattle.c_meaning.specs.Bindings.{seen_binding}
use Rattle.c_meaning.proofs.unit.begin_tables.Given as goal

abbrev pub invariant-loop-item : goal.invariant-loop-item
invariant-loop-item l =
    (l.blocks ++ table_blocks (map view_item (drop l.item-index l.items)) ≡ l.initial.blocks ++ table_blocks (map view_item l.items))
    × (map seen_binding l.tables.items ++ table_objects (length l.blocks) (map view_item (drop l.item-index l.items)) ≡ table_objects (length l.initial.blocks) (map view_item l.items))
