use Rattle.c_memory.proofs.Braces.{same_acts, same_takes}
use Rattle.c_memory.proofs.laws.braces_change_nothing.Goals as goal

pub returns : goal.returns
returns c = record { does = same_acts; takes = same_takes }
