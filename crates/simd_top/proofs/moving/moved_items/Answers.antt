use Rattle.simd_top.proofs.Moved.{moved_items_are}
use Rattle.simd_top.proofs.moving.moved_items.Goals as goal

pub returns : goal.returns
returns c = moved_items_are c.loop-item.out.items c.args.all.now c.loop-item.item-index c.loop-item.invariant c.loop-item-test.false
