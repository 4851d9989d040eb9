use Rattle.simd_top.proofs.Moved.{moved_views}
use Rattle.simd_top.proofs.moving.+moving.Goals as goal

pub moved_trees-returns : goal.moved_trees-returns
moved_trees-returns g c = moved_views c.loop-e.out.items c.args.all.now c.loop-e.e-index c.loop-e.invariant c.loop-e-test.false
