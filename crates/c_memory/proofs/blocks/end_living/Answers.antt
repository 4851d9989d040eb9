use Rattle.std.proofs.Common.{◌≡◌, ◌≤◌, ◌∷◌, ◌∙◌, true, length, reverse, ap, sym, subst}
use Rattle.c_memory.specs.Living.{fall, AreEnded}
use Rattle.c_memory.proofs.Living.{end_turn}
use Rattle.c_memory.proofs.blocks.end_living.Goals as goal

pub loop-k-preserved : goal.loop-k-preserved
loop-k-preserved c =
    let popped = c.in-Some.ensures.popped in
    let down : fall (length c.loop-k.blocks) (c.in-Some.k ∷ reverse c.pop_from.new.living.items) ≡ true = ap (fall (length c.loop-k.blocks)) (sym popped.1) ∙ c.loop-k.invariant.0 in
    let t = end_turn c.args.start c.in-Some.k (reverse c.pop_from.new.living.items) c.index-blocks-k.result c.end.new.self c.loop-k.blocks popped.0 down c.end.ensures in
    (t.0, (λ first h. t.1 first (subst (λ l. AreEnded first l c.loop-k.blocks) popped.1 (c.loop-k.invariant.1 first h))), t.2 ∙ c.loop-k.invariant.2, t.3 ∙ c.loop-k.invariant.3)
