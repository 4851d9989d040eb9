use Rattle.seq_core.proofs.InOrder.{holds}
use Rattle.seq_core.proofs.laws.a_sequence_in_place_gives_its_value.Goals as goal

pub returns : goal.returns
returns c = λ place params simple q. holds place params simple q
