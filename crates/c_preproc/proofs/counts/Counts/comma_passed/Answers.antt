use Rattle.std.proofs.Common.{arith}
use Rattle.c_preproc.proofs.Counting.{comma_waits, comma_lowers}
use Rattle.c_preproc.proofs.counts.Counts.comma_passed.Goals as goal

pub returns-then-self-gt0-clause-shown : goal.returns-then-self-gt0-clause-shown
returns-then-self-gt0-clause-shown c = λ context is. comma_waits c.args.self context (omega arith) is

pub returns-else-self-gt0-clause-shown : goal.returns-else-self-gt0-clause-shown
returns-else-self-gt0-clause-shown c = λ context is. comma_lowers c.args.self context (omega arith) is
