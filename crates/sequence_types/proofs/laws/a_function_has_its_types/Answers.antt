use Rattle.sequence_types.proofs.Functions.{function_typed}
use Rattle.sequence_types.proofs.laws.a_function_has_its_types.Goals as goal

pub returns : goal.returns
returns c = function_typed
