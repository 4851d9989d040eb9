use Rattle.written_forms.proofs.ScalarRows.{value_rows_stand}
use Rattle.written_forms.proofs.laws.a_sequence_of_values_stands_for_its_row.Goals as goal

pub returns : goal.returns
returns c = value_rows_stand
