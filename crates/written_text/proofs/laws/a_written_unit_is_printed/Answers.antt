use Rattle.written_text.proofs.Units.{written_units}
use Rattle.written_text.proofs.laws.a_written_unit_is_printed.Goals as goal

pub returns : goal.returns
returns c = written_units c.movable_units_are_ready.ensures
