use Rattle.c_memory.proofs.Matched.{matching_exist, matching_are_same}
use Rattle.c_memory.proofs.laws.matching_arguments_are_determined.Goals as goal

pub returns : goal.returns
returns c = record { exist = matching_exist; same = matching_are_same }
