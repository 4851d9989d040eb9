use Rattle.std.proofs.Common.{rules}
use Rattle.c_tree.specs.View.{view_unit}
use Rattle.simd_top.proofs.Answering.{outside_due}
use Rattle.simd_top.proofs.due.migrated.Goals as goal

pub returns-in_ok-line-in-Some : goal.returns-in_ok-line-in-Some
returns-in_ok-line-in-Some c = outside_due (view_unit c.args.unit.now) c.in-Some.refusal c.in_ok-line-in-Some.line.items (search rules) c.in_ok-line-in-Some.ensures
