use Rattle.std.proofs.Common.{◌≡◌, ◌<◌, ◌+◌, suc, [], ◌∷◌, ◌++◌, length, take, refl, ap, sym, ◌∙◌, arith}
use Rattle.std.proofs.Math.Seq.{take-suc}
use Rattle.price_choice.specs.declared.forms.Form.TheVariants.{TablePair}
use Rattle.price_choice.specs.List.{forms}
use Rattle.shuffle_plans.proofs.listed.forms.Goals as goal

how_many : length forms ≡ 390
how_many = refl

pub loop-i-preserved : goal.loop-i-preserved
loop-i-preserved c =
    let next : suc c.loop-i.i ≡ c.loop-i.i + 1 = omega arith in
    let inside : c.loop-i.i < length forms = omega (arith, how_many, c.loop-i-test.true) in
    c.in_ok-push.ensures.items
    ∙ ap (λ xs. xs ++ (c.form_at.result ∷ [])) c.loop-i.invariant
    ∙ ap (λ f. take c.loop-i.i forms ++ (f ∷ [])) (sym c.form_at.ensures.there)
    ∙ sym (take-suc forms c.loop-i.i TablePair inside)
    ∙ ap (λ n. take n forms) next
