use Rattle.c_tree.specs.View.{view_unit}
use Rattle.simd_top.proofs.BothRuns.{never_refused}
use Rattle.simd_top.proofs.due.written_unit.Goals as goal

pub prove-unreachable-requires : goal.prove-unreachable-requires
prove-unreachable-requires c =
    never_refused (view_unit c.args.unit.now) c.in-Err-Refused.field-0-0.items c.requires
    (rw c.in_ok-moved.ensures at (rw c.in-Err-Refused.field-0-is at c.in-Err-Refused.ensures.refused))
