use Rattle.c_values.specs.Results.{Gives}
use Rattle.c_memory.specs.MeaningRows.{with_bytes_read}
use Rattle.c_values.proofs.RowLemmas.{fits_called}
use Rattle.c_values.proofs.rows.made.Goals as goal

pub applied-requires-clause-fit : goal.applied-requires-clause-fit
applied-requires-clause-fit g c =
    let read : Gives (with_bytes_read c.args.sig.now c.args.memory.now.blocks c.pointer_among-at.result c.deref-2.result.now c.push_arguments.new.out.items)
    c.in_ok-push_bytes_read.field-0 c.push_bytes_read.new.args.items = c.in_ok-push_bytes_read.ensures in
    fits_called c.args.sig.now (g.T.VectorTable.signature_of c.args.op) c.args.memory.now.blocks c.pointer_among-at.result c.deref-2.result.now c.args.values.now
    c.kinds_of.result.now c.new-args.result.items c.push_arguments.new.out.items c.push_bytes_read.new.args.items c.deref-in-Some.result.now c.deref-in-Some-3.result.now
    c.in_ok-push_bytes_read.field-0 c.in-Some.field-0 c.requires.signature c.requires.fit c.kinds_of.ensures c.new-args.ensures.items c.in_ok-push_arguments.ensures
    read c.in-Some.is c.known_args.ensures c.deref-in-Some.ensures.value c.deref-in-Some-3.ensures.value
