use Rattle.c_tree.specs.View.{views}
use Rattle.c_memory.specs.MeaningObjects.{constants_bytes}
use Rattle.c_values.proofs.BlockLemmas.{padded_set}
use Rattle.c_values.proofs.blocks.filled_up.Goals as goal

pub returns-in_ok-padded-in-Some : goal.returns-in_ok-padded-in-Some
returns-in_ok-padded-in-Some c =
    let e = c.in_ok-bytes.ensures in
    padded_set (constants_bytes c.args.ty (views c.args.list.now)) c.in-Some.bytes.items c.in_ok-padded-in-Some.field-0.items c.args.size (rw c.in-Some.is at e) c.in_ok-padded-in-Some.ensures
