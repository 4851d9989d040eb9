use Rattle.c_memory.specs.MeaningObjects.{encoded}
use Rattle.c_values.proofs.BlockLemmas.{refill_leaves}
use Rattle.c_values.proofs.blocks.fill_value.Goals as goal

pub returns-in-Some : goal.returns-in-Some
returns-in-Some c =
    let e = c.in_ok-bytes.ensures in
    refill_leaves (encoded c.args.ty c.args.v) c.in-Some.bytes.items c.args.block c.args.memory.now.blocks c.refill.new.self (rw c.in-Some.is at e) c.refill.ensures
