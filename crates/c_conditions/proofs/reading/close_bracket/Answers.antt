use Rattle.std.proofs.Common.{sym, codes}
use Rattle.c_conditions.specs.Stack.{behind_operand}
use Rattle.c_conditions.proofs.Resuming.{unmarked}
use Rattle.c_conditions.proofs.reading.close_bracket.Goals as goal

pub returns-in-None-clause-goes : goal.returns-in-None-clause-goes
returns-in-None-clause-goes c =
    λ ps. unmarked ps (codes ")") c.args.tokens.now (λ after. behind_operand c.args.outside c.args.operand after) (sym c.in-None.ensures.value)
