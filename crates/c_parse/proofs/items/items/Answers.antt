use Rattle.std.proofs.Common.{arith}
use Rattle.c_parse.proofs.ItemsGrow.{items_step, items_end}
use Rattle.c_parse.proofs.items.items.Goals as goal

pub loop-left-preserved : goal.loop-left-preserved
loop-left-preserved c = items_step _ _ _ _ _ _ _ c.loop-left.invariant c.in_ok-next.ensures.value c.in_ok-all.ensures

pub returns : goal.returns
returns c = items_end _ _ _ _ c.loop-left.invariant (omega (arith, c.in_default.len_below))
