use Rattle.std.proofs.Common.{◌∙◌, ap, Some}
use Rattle.c_conditions.specs.Value.{whole}
use Rattle.c_conditions.specs.Stack.{resumed}
use Rattle.c_conditions.proofs.Resuming.{resumed-push}
use Rattle.c_conditions.proofs.Coding.{goes_along}
use Rattle.c_conditions.proofs.reading.close.Goals as goal

pub returns-in-Some-clause-goes : goal.returns-in-Some-clause-goes
returns-in-Some-clause-goes c =
    goes_along _ _ c.close_in.result c.close_in.new.stack.items
    (ap (λ ps. whole (resumed ps (Some (c.args.operand, c.args.tokens.now)))) c.in-Some.ensures.items ∙
    ap whole (resumed-push c.pop.new.self.items c.in-Some.pending (Some (c.args.operand, c.args.tokens.now))))
    c.close_in.ensures.goes
