use Rattle.c_memory.specs.MeaningRows.{rows_of}
use Rattle.c_meaning.proofs.Made.{row_answers}
use Rattle.c_meaning.proofs.found.FoundRow.call.Goals as goal

pub returns : goal.returns
returns g c =
    row_answers (rows_of g.T.VectorTable.find_of g.T.VectorTable.signature_of g.T.VectorTable.range_of g.T.VectorTable.accesses_of g.T.VectorTable.access_of g.T.VectorTable.eval_of) c.args.self.now.name.now c.args.self.now.op c.args.values.now c.args.state.now c.in_ok-given.given c.row_call.new.memory c.ok_or.result
    c.args.self.now.found c.in_ok-given.ensures c.ok_or.ensures.value
