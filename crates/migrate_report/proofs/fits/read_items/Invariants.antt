use Rattle.std.proofs.Common.{◌≡◌, Some, map, drop}
use Rattle.std.specs.Prelude.{string_bytes}
use Rattle.migrate_report.specs.Items.{items_of, joined}
use Rattle.migrate_report.specs.Reading.{view_item}
use Rattle.migrate_report.proofs.fits.read_items.Given as goal

abbrev pub invariant-loop-word : goal.invariant-loop-word
invariant-loop-word l =
    items_of (map (λ w. string_bytes w) l.words) ≡ joined (Some (map view_item l.items.items)) (items_of (map (λ w. string_bytes w) (drop l.word-index l.words)))
