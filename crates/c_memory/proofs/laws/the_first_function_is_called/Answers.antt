use Rattle.c_memory.proofs.Outermost.{outermost_first}
use Rattle.c_memory.proofs.laws.the_first_function_is_called.Goals as goal

pub returns : goal.returns
returns c = outermost_first
