use Rattle.c_parse.proofs.DeclarationsRead.{declarations_are_read}
use Rattle.c_parse.proofs.declaration_laws.declarations_are_read.Goals as goal

pub returns : goal.returns
returns c = declarations_are_read
