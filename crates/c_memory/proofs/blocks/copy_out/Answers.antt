use Rattle.std.proofs.Common.{None, add-one}
use Rattle.std.specs.Option.{unwrap_or}
use Rattle.c_memory.proofs.Bytes.{put_step}
use Rattle.c_memory.proofs.blocks.copy_out.Goals as goal

pub loop-i-preserved : goal.loop-i-preserved
loop-i-preserved c =
    rw (c.loop-i.invariant, add-one, c.unwrap_or.ensures) (put_step (λ byte. unwrap_or byte 0) c.args.bytes.now c.args.into.now c.loop-i.i None c.loop-i-test.true c.requires)
