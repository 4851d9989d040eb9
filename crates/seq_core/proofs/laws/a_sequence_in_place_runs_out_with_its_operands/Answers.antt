use Rattle.seq_core.proofs.RunningOut.{out}
use Rattle.seq_core.proofs.laws.a_sequence_in_place_runs_out_with_its_operands.Goals as goal

pub returns : goal.returns
returns c = λ place params simple q. out place params simple q
