use Rattle.std.proofs.Common.{rules, map, string_bytes}
use Rattle.c_tree.specs.View.{view_unit}
use Rattle.simd_top.proofs.BothRuns.{nameless_both, unfit_both}
use Rattle.simd_top.proofs.due.both_of.Goals as goal

pub returns-in-Err-NoFunction : goal.returns-in-Err-NoFunction
returns-in-Err-NoFunction c =
    nameless_both (view_unit c.args.unit.now.unit) (view_unit c.in_ok-written.written.unit) c.args.name.now c.args.turns (map (λ w. string_bytes w) c.args.items.now) c.in_ok-line-in-Err-NoFunction.line.items c.requires.form
    (search rules) (rw c.in-Err-NoFunction.field-0-is at c.in-Err-NoFunction.ensures.fails) c.in_ok-line-in-Err-NoFunction.ensures

pub returns-in-Err-DontFit : goal.returns-in-Err-DontFit
returns-in-Err-DontFit c =
    unfit_both (view_unit c.args.unit.now.unit) (view_unit c.in_ok-written.written.unit) c.args.name.now c.args.turns (map (λ w. string_bytes w) c.args.items.now) c.in_ok-line-in-Err-DontFit.line.items c.requires.form
    (search rules) (rw c.in-Err-DontFit.field-0-is at c.in-Err-DontFit.ensures.fails) c.in_ok-line-in-Err-DontFit.ensures
