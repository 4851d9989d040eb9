use Rattle.std.proofs.Common.{◌≡◌, ◌+◌, ◌∷◌, drop, arith}
use Rattle.std.proofs.lemmas.Grind.{common_steps}
use Rattle.object_types.proofs.Initialisers.{members_one_more}
use Rattle.object_types.proofs.parts.members.Goals as goal

pub loop-x-preserved : goal.loop-x-preserved
loop-x-preserved c =
    let i = c.loop-x.x-index in
    let here : drop i c.args.all.now ≡ c.x-item.result ∷ drop (i + 1) c.args.all.now = grind (arith, common_steps) in
    record {
      counts = omega (arith, c.loop-x.invariant.counts);
      goes = members_one_more _ _ _ _ _ _ _ _ _ _ _ _ c.loop-x.invariant.goes here c.in_ok-x.ensures (rw c.is_room.ensures at c.in_ok-y.ensures) c.in_ok-push.ensures.items;
    }
