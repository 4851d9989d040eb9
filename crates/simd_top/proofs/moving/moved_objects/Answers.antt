use Rattle.simd_top.proofs.Moved.{moved_lists}
use Rattle.simd_top.proofs.moving.moved_objects.Goals as goal

pub returns : goal.returns
returns c = moved_lists c.loop-o.out.items c.args.all.now c.loop-o.o-index c.loop-o.invariant c.loop-o-test.false
