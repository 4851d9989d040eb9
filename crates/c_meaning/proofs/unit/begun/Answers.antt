use Rattle.std.proofs.Common.{◌++◌, length, map, ap, ◌∙◌}
use Rattle.c_tree.specs.View.{view_item, view_unit}
use Rattle.c_memory.specs.Meaning.{table_blocks, table_objects}
use Rattle.c_memory.specs.MeaningRows.{rows_of, call_of_row}
use Rattle.c_meaning.specs.Seen.{seen_tables}
use Rattle.c_meaning.proofs.Units.{run_means}
use Rattle.c_meaning.proofs.unit.begun.Goals as goal

pub returns : goal.returns
returns g c =
    let rows = (call_of_row (rows_of g.T.VectorTable.find_of g.T.VectorTable.signature_of g.T.VectorTable.range_of g.T.VectorTable.accesses_of g.T.VectorTable.access_of g.T.VectorTable.eval_of)) in
    let same = c.as_slice-items.ensures.value in
    run_means rows (view_unit c.args.unit.now) c.args.name.now c.args.args.now c.args.memory.blocks c.begin_tables.new.blocks c.args.turns (seen_tables c.in_ok-tables.tables) c.run_over.result
    (rw same at c.run_over.ensures)
    (c.in_ok-tables.ensures.objects ∙ ap (λ l. table_objects (length c.args.memory.blocks) (map view_item l)) same)
    (c.in_ok-tables.ensures.blocks ∙ ap (λ l. c.args.memory.blocks ++ table_blocks (map view_item l)) same)
