use Rattle.c_text.proofs.Cuts.{tokens_or_fault}
use Rattle.c_text.proofs.lexer.tokens_or_fault.Goals as goal

pub returns : goal.returns
returns c = tokens_or_fault
