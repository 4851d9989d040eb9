use Rattle.std.proofs.Common.{◌∙◌, sym, ap, Some, map, drop, ◌+◌}
use Rattle.std.specs.Prelude.{filter}
use Rattle.c_tree.specs.View.{view_declared}
use Rattle.migrate_report.specs.Items.{joined}
use Rattle.migrate_report.specs.Reading.{view_item}
use Rattle.c_memory.specs.Functions.{types_of}
use Rattle.migrate_report.specs.Fits.{arguments, gives_argument}
use Rattle.migrate_report.proofs.Joins.{skips, takes_on}
use Rattle.migrate_report.proofs.fits.arguments_of.Goals.{then-gives_argument+in-Some+in_ok-push-in-Some, else-gives_argument}
use Rattle.migrate_report.proofs.fits.arguments_of.Goals as goal

pub loop-item-preserved : goal.loop-item-preserved
loop-item-preserved c =
    let types = types_of (map view_declared c.loop-item.left.now) in
    elim c.if-gives_argument.branch [
      | then-gives_argument+in-Some+in_ok-push-in-Some w ↦
          let others = types_of (map view_declared w.in-Some.rest.now) in
          let rest = filter gives_argument (map view_item (drop (c.loop-item.item-index + 1) c.args.items.now)) in
          rw (w.values-is, w.left-is) (
          c.loop-item.invariant
          ∙ takes_on view_item c.args.items.now _ c.loop-item.item-index c.args.blocks.now types others c.loop-item.values.items w.in-Some.value c.loop-item-test.true
          (sym c.gives_argument.ensures ∙ w.if-gives_argument.true) (sym w.in-Some.ensures)
          ∙ ap (λ vs. joined (Some vs) (arguments c.args.blocks.now others rest)) (sym w.in_ok-push-in-Some.ensures.items))
      | else-gives_argument w ↦
          rw (w.values-is, w.left-is) (
          c.loop-item.invariant
          ∙ skips view_item c.args.items.now _ c.loop-item.item-index c.args.blocks.now types c.loop-item.values.items c.loop-item-test.true (sym c.gives_argument.ensures ∙ w.if-gives_argument.false))
    ]
