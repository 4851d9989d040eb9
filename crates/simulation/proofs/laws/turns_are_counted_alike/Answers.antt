use Rattle.simulation.proofs.Covering.{turns_law}
use Rattle.simulation.proofs.laws.turns_are_counted_alike.Goals as goal

pub returns : goal.returns
returns c = turns_law
