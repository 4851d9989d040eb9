use Rattle.std.proofs.Common.{◌∙◌, ◌++◌, ◌<◌, ap, arith, append_assoc, rules}
use Rattle.c_print.proofs.Margins.{margin_step}
use Rattle.c_print.proofs.statements.write_margin.Goals as goal

pub loop-level-preserved : goal.loop-level-preserved
loop-level-preserved c =
    let below : c.loop-level.level < c.args.depth = omega (arith, c.loop-level-test.true) in
    c.loop-level.invariant ∙ ap (λ m. c.loop-level.out.items ++ m) (margin_step c.args.depth c.loop-level.level below) ∙ search (rules, append_assoc)
