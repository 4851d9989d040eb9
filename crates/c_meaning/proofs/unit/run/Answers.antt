use Rattle.c_tree.specs.View.{view_unit}
use Rattle.c_memory.specs.Outcomes.{outcome_of}
use Rattle.c_memory.specs.MeaningRows.{rows_of, call_of_row}
use Rattle.c_meaning.proofs.Units.{run_ended}
use Rattle.c_meaning.proofs.unit.run.Goals as goal

pub returns-clause-ended : goal.returns-clause-ended
returns-clause-ended g c =
    run_ended (call_of_row (rows_of g.T.VectorTable.find_of g.T.VectorTable.signature_of g.T.VectorTable.range_of g.T.VectorTable.accesses_of g.T.VectorTable.access_of g.T.VectorTable.eval_of)) (view_unit c.args.unit.now) c.args.name.now c.args.args.now c.args.memory.blocks c.args.turns (outcome_of c.in_ok-outcome.outcome) c.in_ok-outcome.ensures
