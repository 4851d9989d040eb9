use Rattle.c_parse.proofs.DeclarationsRead.{objects_are_read}
use Rattle.c_parse.proofs.declaration_laws.objects_are_read.Goals as goal

pub returns : goal.returns
returns c = objects_are_read
