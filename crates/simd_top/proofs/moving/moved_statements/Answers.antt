use Rattle.simd_top.proofs.Moved.{moved_bodies}
use Rattle.simd_top.proofs.moving.moved_statements.Goals as goal

pub returns : goal.returns
returns c = moved_bodies c.loop-s.out.items c.args.all.now c.loop-s.s-index c.loop-s.invariant c.loop-s-test.false
