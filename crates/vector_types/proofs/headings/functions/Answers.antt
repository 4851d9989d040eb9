use Rattle.std.proofs.Common.{◌≡◌, ◌∙◌, ◌+◌, ◌∷◌, sym, ap, drop, map, arith}
use Rattle.std.proofs.lemmas.Grind.{common_steps}
use Rattle.c_tree.specs.View.{view_item}
use Rattle.scopes.specs.Scopes.{functions_of}
use Rattle.vector_types.specs.Functions.{with_items}
use Rattle.vector_types.proofs.headings.functions.Goals as goal

pub loop-item-preserved : goal.loop-item-preserved
loop-item-preserved c =
    let i = c.loop-item.item-index in
    let n = c.loop-item.order in
    let here : drop i c.args.items.now ≡ c.item-item.result ∷ drop (i + 1) c.args.items.now = grind (arith, common_steps) in
    record {
      counts = omega (arith, c.loop-item.invariant.counts);
      goes =
          c.loop-item.invariant.goes ∙ ap (λ l. with_items c.args.dialect n (map view_item l) (functions_of c.loop-item.all)) here ∙
          ap (with_items c.args.dialect (n + 1) (map view_item (drop (i + 1) c.args.items.now))) (sym c.in_ok-add_item.ensures);
    }
