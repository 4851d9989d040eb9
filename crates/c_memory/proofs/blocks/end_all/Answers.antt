use Rattle.std.proofs.Common.{add-one}
use Rattle.c_memory.proofs.Ends.{end_step}
use Rattle.c_memory.proofs.blocks.end_all.Goals as goal

pub loop-block-preserved : goal.loop-block-preserved
loop-block-preserved c = rw (c.end.ensures, c.loop-block.invariant, add-one) (end_step c.args.blocks.now c.loop-block.block-index c.block-item.result c.loop-block-test.true)
