use Rattle.std.proofs.Common.{◌≡◌, ◌∙◌, ◌+◌, [], ◌∷◌, drop, ap, sym, arith}
use Rattle.std.proofs.lemmas.Grind.{common_steps}
use Rattle.c_tree.specs.View.{view_item}
use Rattle.scopes.specs.Scopes.{env_of, entries_of}
use Rattle.scopes.specs.Kept.{at_file}
use Rattle.vector_types.specs.Units.{item_checked, beyond_item, callees_beyond}
use Rattle.vector_types.proofs.Judging.{at_item, answered, beyond_file, beyond_next, one_more_judged, all_judged}
use Rattle.vector_types.proofs.units.check_items.Goals as goal

pub loop-item-preserved : goal.loop-item-preserved
loop-item-preserved c =
    let i = c.loop-item.item-index in
    let u = view_item c.item-item.result in
    let env = env_of c.loop-item.env in
    let now = at_item c.loop-item.here env in
    let here : drop i c.args.items.now ≡ c.item-item.result ∷ drop (i + 1) c.args.items.now = grind (arith, common_steps) in
    let callees = entries_of c.loop-item.callees in
    let names : env_of c.item_checked-answer.new.env ≡ beyond_item u now = answered c.item_checked-answer.result c.in_ok-judge.ensures.answered c.item_checked-answer.ensures.names in
    let noted : entries_of c.item_checked-answer.new.callees ≡ callees_beyond u now callees = answered c.item_checked-answer.result c.in_ok-judge.ensures.answered c.item_checked-answer.ensures.callees in
    record {
      counts = omega (arith, c.loop-item.invariant.counts);
      file = names ∙ beyond_file u c.loop-item.here env c.loop-item.invariant.file ∙ ap at_file (sym names);
      goes =
          one_more_judged _ _ _ _ _ c.item-item.result now _ callees _ c.loop-item.invariant.goes here (c.in_ok-judge.ensures.judged (item_checked u now callees) c.item_checked-answer.ensures.value)
          (ap (at_item (c.loop-item.here + 1)) names ∙ beyond_next u c.loop-item.here env) noted;
    }

pub returns : goal.returns
returns c =
    let past : drop c.loop-item.item-index c.args.items.now ≡ [] = grind (arith, common_steps) in
    all_judged _ _ _ _ _ c.loop-item.invariant.goes past
