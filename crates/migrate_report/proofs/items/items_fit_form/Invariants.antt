use Rattle.std.proofs.Common.{◌≡◌, map, drop}
use Rattle.std.specs.Prelude.{string_bytes}
use Rattle.migrate_report.specs.Items.{items_fit_form, is_within, items_of}
use Rattle.migrate_report.proofs.items.items_fit_form.Given as goal

abbrev pub invariant-loop-word : goal.invariant-loop-word
invariant-loop-word l =
    items_fit_form (map (λ w. string_bytes w) l.words) ≡ is_within l.room (items_of (map (λ w. string_bytes w) (drop l.word-index l.words)))
