use Rattle.std.proofs.Common.{◌≡◌, map, drop}
use Rattle.c_tree.specs.View.{view_item}
use Rattle.c_memory.specs.Functions.{function_named}
use Rattle.migrate_report.proofs.fits.function_named.Given as goal

abbrev pub invariant-loop-item : goal.invariant-loop-item
invariant-loop-item l = function_named l.name (map view_item l.items) ≡ function_named l.name (map view_item (drop l.item-index l.items))
