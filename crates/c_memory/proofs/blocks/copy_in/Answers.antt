use Rattle.std.proofs.Common.{Some, add-one}
use Rattle.c_memory.proofs.Bytes.{put_step}
use Rattle.c_memory.proofs.blocks.copy_in.Goals as goal

pub loop-i-preserved : goal.loop-i-preserved
loop-i-preserved c = rw (c.loop-i.invariant, add-one) (put_step Some c.args.bytes.now c.args.into.now c.loop-i.i 0 c.loop-i-test.true c.requires)
