use Rattle.seq_core.proofs.Addresses.{none_taken}
use Rattle.seq_core.proofs.laws.a_sequence_in_place_takes_no_address.Goals as goal

pub returns : goal.returns
returns c = λ place params q. none_taken place params q
