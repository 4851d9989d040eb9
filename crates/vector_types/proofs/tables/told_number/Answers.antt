use Rattle.vector_types.proofs.tables.told_number.Goals as goal

pub returns-in-Some : goal.returns-in-Some
returns-in-Some c = rw c.in-Some.is c.number_written.ensures
