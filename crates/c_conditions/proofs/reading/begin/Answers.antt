use Rattle.c_conditions.proofs.Resuming.{starts-nowhere, starts-nothing, starts-operand, starts-prefix, starts-bracket}
use Rattle.c_conditions.proofs.Coding.{no_tokens}
use Rattle.c_conditions.proofs.reading.begin.Goals as goal

pub returns-in-None-clause-goes : goal.returns-in-None-clause-goes
returns-in-None-clause-goes c =
    rw (no_tokens c.args.tokens.now c.in-None.ensures.cases) (starts-nowhere c.args.stack.now.items c.args.level)

pub returns-in_ok-push-in-Prefix-clause-goes : goal.returns-in_ok-push-in-Prefix-clause-goes
returns-in_ok-push-in-Prefix-clause-goes c =
    rw (c.in-Some.ensures.cases.0, c.in_ok-push-in-Prefix.ensures.items)
    (starts-prefix c.args.stack.now.items c.args.level c.in-Prefix.op c.in-Some.token.now c.in-Some.rest.now c.in-Prefix.ensures)

pub returns-in_ok-push-in-Bracket-clause-goes : goal.returns-in_ok-push-in-Bracket-clause-goes
returns-in_ok-push-in-Bracket-clause-goes c =
    rw (c.in-Some.ensures.cases.0, c.in_ok-push-in-Bracket.ensures.items)
    (starts-bracket c.args.stack.now.items c.args.level c.in-Some.token.now c.in-Some.rest.now c.in-Bracket.ensures)

pub returns-in-Operand-clause-goes : goal.returns-in-Operand-clause-goes
returns-in-Operand-clause-goes c =
    rw c.in-Some.ensures.cases.0
    (starts-operand c.args.stack.now.items c.args.level c.in-Operand.operand c.in-Some.token.now c.in-Some.rest.now c.in-Operand.ensures)

pub returns-in-Nothing-clause-goes : goal.returns-in-Nothing-clause-goes
returns-in-Nothing-clause-goes c =
    rw c.in-Some.ensures.cases.0 (starts-nothing c.args.stack.now.items c.args.level c.in-Some.token.now c.in-Some.rest.now c.in-Nothing.ensures)
