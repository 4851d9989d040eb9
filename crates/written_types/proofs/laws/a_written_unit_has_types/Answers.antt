use Rattle.written_types.proofs.Units.{written_unit_typed}
use Rattle.written_types.proofs.laws.a_written_unit_has_types.Goals as goal

pub returns : goal.returns
returns c = written_unit_typed c.a_sequence_in_place_has_its_type.ensures c.a_function_has_its_types.ensures c.movable_units_are_ready.ensures
