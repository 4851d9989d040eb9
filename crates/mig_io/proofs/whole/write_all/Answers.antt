use Rattle.std.proofs.Common.{arith, length-drop}
use Rattle.std.proofs.lemmas.List.{take_rest}
use Rattle.mig_io.proofs.Runs.{grew_by_more}
use Rattle.mig_io.proofs.whole.write_all.Goals as goal

pub loop-taken-preserved : goal.loop-taken-preserved
loop-taken-preserved g c =
    let rest = take_rest c.args.bytes.now c.loop-taken.taken in (
      omega (arith, rw rest at c.in_ok-taken.ensures.within, length-drop c.loop-taken.taken c.args.bytes.now, c.loop-taken.invariant.0),
      grew_by_more _ _ _ _ _ _ c.loop-taken.invariant.1 (rw rest at c.in_ok-taken.ensures.told),
      omega (arith, c.in_ok-taken.ensures.never_falls, c.loop-taken.invariant.2),
    )
