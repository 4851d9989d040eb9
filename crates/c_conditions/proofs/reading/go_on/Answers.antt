use Rattle.c_conditions.proofs.Resuming.{goes-joint, goes-question, goes-nowhere}
use Rattle.c_conditions.proofs.Coding.{goes_along, no_tokens, unlinked_end, unlinked_infix, unlinked_question, unlinked_nothing}
use Rattle.c_conditions.proofs.reading.go_on.Goals as goal
use Rattle.c_conditions.proofs.reading.go_on.Goals.{in_default-via-in-Infix+else-level-tight, in_default-via-in-Question+else-level-eq0}
use Rattle.c_conditions.proofs.reading.go_on.Goals.{in_default-via-in_default}

pub returns-in-None-clause-goes : goal.returns-in-None-clause-goes
returns-in-None-clause-goes c =
    goes_along _ _ c.close.result c.close.new.stack.items
    (goes-nowhere c.args.stack.now.items c.args.level c.args.operand c.args.tokens.now
    (unlinked_end c.args.level c.args.tokens.now (no_tokens c.args.tokens.now c.in-None.ensures.cases)))
    c.close.ensures.goes

pub returns-in_ok-push-in-Infix-clause-goes : goal.returns-in_ok-push-in-Infix-clause-goes
returns-in_ok-push-in-Infix-clause-goes c =
    rw (c.in-Some.ensures.cases.0, c.in_ok-push-in-Infix.ensures.items)
    (goes-joint c.args.stack.now.items c.args.level c.in-Infix.tight c.in-Infix.operator c.args.operand c.in-Some.token.now c.in-Some.rest.now
    c.in-Infix.ensures.value c.if-level-tight.true)

pub returns-in_ok-push-in-Question-clause-goes : goal.returns-in_ok-push-in-Question-clause-goes
returns-in_ok-push-in-Question-clause-goes c =
    rw (c.in-Some.ensures.cases.0, c.in_ok-push-in-Question.ensures.items)
    (goes-question c.args.stack.now.items c.args.level c.args.operand c.in-Some.token.now c.in-Some.rest.now c.in-Question.ensures.value c.if-level-eq0.true)

pub returns-in_default-clause-goes : goal.returns-in_default-clause-goes
returns-in_default-clause-goes c =
    goes_along _ _ c.close-in_default.result c.close-in_default.new.stack.items
    (goes-nowhere c.args.stack.now.items c.args.level c.args.operand c.args.tokens.now
    (elim c.in_default.branch [
      | in_default-via-in-Infix+else-level-tight w ↦
          unlinked_infix c.args.level w.in-Infix.tight w.in-Infix.operator c.in-Some.token.now c.in-Some.rest.now c.args.tokens.now c.in-Some.ensures.cases.0
          w.in-Infix.ensures.value w.if-level-tight.false
      | in_default-via-in-Question+else-level-eq0 w ↦
          unlinked_question c.args.level c.in-Some.token.now c.in-Some.rest.now c.args.tokens.now c.in-Some.ensures.cases.0 w.in-Question.ensures.value
          w.if-level-eq0.false
      | in_default-via-in_default w ↦
          unlinked_nothing c.args.level c.in-Some.token.now c.in-Some.rest.now c.args.tokens.now c.in-Some.ensures.cases.0 w.in_default.ensures.value
    ]))
    c.close-in_default.ensures.goes
