use Rattle.std.proofs.Common.{◌≡◌, [], ◌∙◌, ap, drop, arith}
use Rattle.std.proofs.lemmas.Grind.{common_steps}
use Rattle.c_tree.specs.View.{views}
use Rattle.type_rules.specs.Passing.{immediate_of}
use Rattle.type_rules.proofs.Arguments.{no_immediate}
use Rattle.type_rules.proofs.passing.immediate_of.Goals as goal

pub returns-in-None-clause-none : goal.returns-in-None-clause-none
returns-in-None-clause-none c =
    let nothing : c.loop-p.left.now ≡ [] = grind (arith, common_steps, c.in-None.ensures) in
    c.loop-p.invariant ∙ ap (λ l. immediate_of (drop c.loop-p.p-index c.args.params.now) (views l)) nothing ∙ no_immediate (drop c.loop-p.p-index c.args.params.now)
