use Rattle.c_parse.proofs.Refusals.{refused_syntax}
use Rattle.c_parse.proofs.unit.parse.Goals as goal

pub returns-in-Err-Syntax-clause-refused : goal.returns-in-Err-Syntax-clause-refused
returns-in-Err-Syntax-clause-refused c = refused_syntax _ _ _ c.syntax.result (rw c.in-Err-Syntax.field-0-is at c.in-Err-Syntax.ensures) c.syntax.ensures
