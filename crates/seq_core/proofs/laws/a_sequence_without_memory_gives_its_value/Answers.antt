use Rattle.seq_core.proofs.Pure.{sequence_gives}
use Rattle.seq_core.proofs.laws.a_sequence_without_memory_gives_its_value.Goals as goal

pub returns : goal.returns
returns c = λ q. sequence_gives q
