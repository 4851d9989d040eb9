use Rattle.std.proofs.Common.{◌≡◌, ◌∙◌, sym, ap, Some, [], ◌∷◌, map, drop, ◌+◌}
use Rattle.std.specs.Prelude.{string_bytes}
use Rattle.std.proofs.lemmas.List.{map-append}
use Rattle.migrate_report.specs.Items.{joined, item_of, items_of}
use Rattle.migrate_report.specs.Reading.{view_item}
use Rattle.migrate_report.proofs.Joins.{reads_on}
use Rattle.migrate_report.proofs.fits.read_items.Goals as goal

pub loop-word-preserved : goal.loop-word-preserved
loop-word-preserved c =
    let due : item_of (string_bytes c.word-item.result) ≡ Some (view_item c.in-Some.item) = ap item_of (sym c.as_bytes.ensures.value) ∙ sym c.in-Some.ensures in
    let grown = ap (map view_item) c.in_ok-push-in-Some.ensures.items ∙ map-append view_item c.loop-word.items.items (c.in-Some.item ∷ []) in
    c.loop-word.invariant
    ∙ reads_on (λ w. string_bytes w) c.args.words.now c.word-item.result c.loop-word.word-index (map view_item c.loop-word.items.items) (view_item c.in-Some.item) c.loop-word-test.true c.word-item.is due
    ∙ ap (λ l. joined (Some l) (items_of (map (λ w. string_bytes w) (drop (c.loop-word.word-index + 1) c.args.words.now)))) (sym grown)
