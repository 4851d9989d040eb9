use Rattle.written_forms.proofs.VectorRows.{vector_rows_stand}
use Rattle.written_forms.proofs.laws.a_sequence_of_registers_stands_for_its_row.Goals as goal

pub returns : goal.returns
returns c = vector_rows_stand
