use Rattle.c_parse.proofs.DeclarationsRead.{headings_are_read}
use Rattle.c_parse.proofs.declaration_laws.headings_are_read.Goals as goal

pub returns : goal.returns
returns c = headings_are_read
