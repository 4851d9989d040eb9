use Rattle.std.proofs.Common.{map, string_bytes}
use Rattle.c_tree.specs.View.{view_unit}
use Rattle.simd_top.proofs.Answering.{nameless_due, unfit_due}
use Rattle.simd_top.proofs.due.run_of.Goals as goal

pub returns-in_ok-line-in-Err-NoFunction : goal.returns-in_ok-line-in-Err-NoFunction
returns-in_ok-line-in-Err-NoFunction c =
    nameless_due c.args.dialect c.args.name.now c.args.turns (map (λ w. string_bytes w) c.args.items.now) (view_unit c.args.unit.now.unit) c.in_ok-line-in-Err-NoFunction.line.items
    (rw (c.in-Err-NoFunction.field-0-is, c.unit.ensures) at c.in-Err-NoFunction.ensures.fits) c.in_ok-line-in-Err-NoFunction.ensures

pub returns-in_ok-line-in-Err-DontFit : goal.returns-in_ok-line-in-Err-DontFit
returns-in_ok-line-in-Err-DontFit c =
    unfit_due c.args.dialect c.args.name.now c.args.turns (map (λ w. string_bytes w) c.args.items.now) (view_unit c.args.unit.now.unit) c.in_ok-line-in-Err-DontFit.line.items
    (rw (c.in-Err-DontFit.field-0-is, c.unit.ensures) at c.in-Err-DontFit.ensures.fits) c.in_ok-line-in-Err-DontFit.ensures
