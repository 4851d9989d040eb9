use Rattle.sequence_types.proofs.InPlace.{in_place_typed}
use Rattle.sequence_types.proofs.laws.a_sequence_in_place_has_its_type.Goals as goal

pub returns : goal.returns
returns c = in_place_typed
