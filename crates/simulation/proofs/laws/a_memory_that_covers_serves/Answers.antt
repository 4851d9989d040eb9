use Rattle.simulation.proofs.Covering.{memory_law}
use Rattle.simulation.proofs.laws.a_memory_that_covers_serves.Goals as goal

pub returns : goal.returns
returns c = memory_law
