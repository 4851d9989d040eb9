use Rattle.c_directives.proofs.Printing.{printed_text}
use Rattle.c_directives.proofs.laws.printed_text.Goals as goal

pub returns : goal.returns
returns c = printed_text c.free_tokens.ensures
