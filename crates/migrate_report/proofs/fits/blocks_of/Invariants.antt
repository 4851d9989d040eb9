use Rattle.std.proofs.Common.{◌≡◌, Some, map, drop}
use Rattle.migrate_report.specs.Items.{joined}
use Rattle.migrate_report.specs.Reading.{view_item}
use Rattle.migrate_report.specs.Fits.{blocks_of}
use Rattle.migrate_report.proofs.fits.blocks_of.Given as goal

abbrev pub invariant-loop-item : goal.invariant-loop-item
invariant-loop-item l = blocks_of (map view_item l.items) ≡ joined (Some l.blocks.items) (blocks_of (map view_item (drop l.item-index l.items)))
