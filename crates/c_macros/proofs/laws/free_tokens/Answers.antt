use Rattle.c_macros.proofs.Free.{free}
use Rattle.c_macros.proofs.laws.free_tokens.Goals as goal

pub returns : goal.returns
returns c = free
