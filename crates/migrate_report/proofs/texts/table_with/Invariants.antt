use Rattle.std.proofs.Common.{◌≡◌, map, drop}
use Rattle.std.specs.Prelude.{slice_get}
use Rattle.c_tree.specs.View.{view_item}
use Rattle.migrate_report.specs.Texts.{tables}
use Rattle.migrate_report.proofs.texts.table_with.Given as goal

abbrev pub invariant-loop-item : goal.invariant-loop-item
invariant-loop-item l =
    slice_get (tables (map view_item l.items)) l.number ≡ slice_get (tables (map view_item (drop l.item-index l.items))) l.before
