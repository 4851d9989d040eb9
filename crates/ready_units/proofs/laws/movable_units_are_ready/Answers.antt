use Rattle.ready_units.proofs.Units.{movable_units}
use Rattle.ready_units.proofs.laws.movable_units_are_ready.Goals as goal

pub returns : goal.returns
returns c = movable_units
