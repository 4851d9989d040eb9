use Rattle.c_text.proofs.Cuts.{one_token_list}
use Rattle.c_text.proofs.lexer.one_token_list.Goals as goal

pub returns : goal.returns
returns c = one_token_list
