use Rattle.std.proofs.Common.{◌≡◌, ◌+◌, ◌∷◌, drop, arith}
use Rattle.std.proofs.lemmas.Grind.{common_steps}
use Rattle.expression_types.proofs.Lists.{checks_one_more}
use Rattle.expression_types.proofs.check.+check.Goals as goal

pub check_expressions-loop-x-preserved : goal.check_expressions-loop-x-preserved
check_expressions-loop-x-preserved t c =
    let i = c.loop-x.x-index in
    let here : drop i c.args.all.now ≡ c.x-item.result ∷ drop (i + 1) c.args.all.now = grind (arith, common_steps) in
    checks_one_more _ _ _ _ _ _ _ _ c.loop-x.invariant here c.in_ok-y.ensures c.in_ok-push.ensures.items
