use Rattle.std.proofs.Common.{sym, ◌∙◌}
use Rattle.c_memory.specs.MeaningRows.{rows_of}
use Rattle.c_meaning.proofs.Made.{row_answers}
use Rattle.c_meaning.proofs.found.TableRows.call_unfound.Goals as goal

pub returns-in_ok-given-in-Some : goal.returns-in_ok-given-in-Some
returns-in_ok-given-in-Some g c =
    row_answers (rows_of g.T.VectorTable.find_of g.T.VectorTable.signature_of g.T.VectorTable.range_of g.T.VectorTable.accesses_of g.T.VectorTable.access_of g.T.VectorTable.eval_of) c.args.name.now c.in-Some.op c.args.values.now c.args.state.now c.in_ok-given-in-Some.given c.row_call.new.memory c.ok_or.result
    (sym c.find.ensures ∙ c.in-Some.is) c.in_ok-given-in-Some.ensures c.ok_or.ensures.value
