use Rattle.std.proofs.Common.{map}
use Rattle.c_tree.specs.View.{view_item}
use Rattle.c_memory.specs.Meaning.{functions}
use Rattle.c_memory.specs.MeaningRows.{rows_of, call_of_row}
use Rattle.c_meaning.specs.Callees.{seen_callee}
use Rattle.c_meaning.specs.Marked.{marked}
use Rattle.c_meaning.specs.Seen.{seen_tables, seen_objects}
use Rattle.c_meaning.proofs.Units.{starts}
use Rattle.c_meaning.proofs.unit.run_over.Goals as goal

pub returns : goal.returns
returns g c =
    starts (call_of_row (rows_of g.T.VectorTable.find_of g.T.VectorTable.signature_of g.T.VectorTable.range_of g.T.VectorTable.accesses_of g.T.VectorTable.access_of g.T.VectorTable.eval_of)) c.args.name.now c.args.args.now c.args.memory.blocks c.args.turns
    (seen_objects c.over.result) (seen_tables c.args.tables.now) (seen_objects c.new-2.result) (map seen_callee c.in_ok-callees.callees.all.items) (map marked (functions (map view_item c.args.items.now)))
    c.outermost.result c.outermost.ensures c.new-2.ensures c.in_ok-callees.ensures c.over.ensures
