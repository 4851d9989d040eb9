use Rattle.std.proofs.Common.{◌≡◌, Some, map, drop}
use Rattle.std.specs.Prelude.{filter}
use Rattle.c_tree.specs.View.{view_declared}
use Rattle.migrate_report.specs.Items.{joined}
use Rattle.migrate_report.specs.Reading.{view_item}
use Rattle.c_memory.specs.Functions.{types_of}
use Rattle.migrate_report.specs.Fits.{arguments, gives_argument}
use Rattle.migrate_report.proofs.fits.arguments_of.Given as goal

abbrev pub invariant-loop-item : goal.invariant-loop-item
invariant-loop-item l =
    arguments l.blocks (types_of (map view_declared l.fn.params)) (filter gives_argument (map view_item l.items))
    ≡ joined (Some l.values.items) (arguments l.blocks (types_of (map view_declared l.left)) (filter gives_argument (map view_item (drop l.item-index l.items))))
