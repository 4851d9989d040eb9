use Rattle.std.proofs.Common.{◌≡◌, ◌∙◌, sym, ap, Some, None}
use Rattle.std.specs.Prelude.{string_bytes}
use Rattle.migrate_report.specs.Items.{item_of}
use Rattle.migrate_report.specs.Reading.{room_after}
use Rattle.migrate_report.proofs.Sizes.{fails_at, goes_on_at}
use Rattle.migrate_report.proofs.items.items_fit_form.Goals as goal

pub returns-in-None : goal.returns-in-None
returns-in-None c =
    let due : room_after c.loop-word.room (item_of (string_bytes c.word-item.result)) ≡ None =
    ap (λ b. room_after c.loop-word.room (item_of b)) (sym c.as_bytes.ensures.value) ∙ sym c.room_after.ensures ∙ c.in-None.is in
    record {
      form = sym (c.loop-word.invariant
          ∙ fails_at (λ w. string_bytes w) c.args.words.now c.word-item.result c.loop-word.room c.loop-word.word-index c.loop-word-test.true c.word-item.is due);
    }

pub loop-word-preserved : goal.loop-word-preserved
loop-word-preserved c =
    let due : room_after c.loop-word.room (item_of (string_bytes c.word-item.result)) ≡ Some c.in-Some.left =
    ap (λ b. room_after c.loop-word.room (item_of b)) (sym c.as_bytes.ensures.value) ∙ sym c.room_after.ensures ∙ c.in-Some.is in
    c.loop-word.invariant
    ∙ goes_on_at (λ w. string_bytes w) c.args.words.now c.word-item.result c.loop-word.room c.in-Some.left c.loop-word.word-index c.loop-word-test.true c.word-item.is due
