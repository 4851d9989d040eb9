use Rattle.std.proofs.Common.{◌≡◌, ◌∙◌, ℕ, ◌+◌, ◌∷◌, ap, drop, arith}
use Rattle.std.proofs.lemmas.Grind.{common_steps}
use Rattle.c_tree.specs.View.{views}
use Rattle.object_types.specs.Objects.{count_all}
use Rattle.object_types.proofs.objects.count_all.Goals as goal

one_more : (n r : ℕ) → n + (r + 1) ≡ (n + 1) + r
one_more n r = omega arith

pub loop-x-preserved : goal.loop-x-preserved
loop-x-preserved c =
    let i = c.loop-x.x-index in
    let here : drop i c.args.all.now ≡ c.x-item.result ∷ drop (i + 1) c.args.all.now = grind (arith, common_steps) in
    record {
      counts = omega (arith, c.loop-x.invariant.counts);
      goes = c.loop-x.invariant.goes ∙ ap (λ l. c.loop-x.n + count_all (views l)) here ∙ one_more c.loop-x.n (count_all (views (drop (i + 1) c.args.all.now)));
    }
