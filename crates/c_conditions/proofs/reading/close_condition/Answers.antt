use Rattle.std.proofs.Common.{◌∙◌, ap, sym, codes}
use Rattle.c_conditions.specs.Value.{Level, read, whole}
use Rattle.c_conditions.specs.Stack.{last}
use Rattle.c_conditions.specs.declared.reading.Pending.TheVariants as pending
use Rattle.c_conditions.proofs.Resuming.{unmarked, marked, resumed-push}
use Rattle.c_conditions.proofs.reading.close_condition.Goals as goal

pub returns-in-None-clause-goes : goal.returns-in-None-clause-goes
returns-in-None-clause-goes c =
    unmarked c.args.stack.now.items (codes ":") c.args.tokens.now (λ after. last c.args.condition c.args.operand after) (sym c.in-None.ensures.value)

pub returns-in_ok-push-in-Some-clause-goes : goal.returns-in_ok-push-in-Some-clause-goes
returns-in_ok-push-in-Some-clause-goes c =
    rw c.in_ok-push-in-Some.ensures.items
    (marked c.args.stack.now.items (codes ":") c.args.tokens.now c.in-Some.after.now
    (λ after. last c.args.condition c.args.operand after) (sym c.in-Some.ensures.value) ∙
    ap whole (sym (resumed-push c.args.stack.now.items (pending.Choice c.args.condition c.args.operand) (read (Level 0) c.in-Some.after.now))))
