use Rattle.c_tree.specs.View.{view_unit}
use Rattle.simd_top.proofs.Refused.{untyped}
use Rattle.simd_top.proofs.front.unit_of.Goals as goal

pub returns-in-Ok-clause-refused : goal.returns-in-Ok-clause-refused
returns-in-Ok-clause-refused c = untyped c.args.dialect c.check.result c.args.source.now (view_unit c.in-Ok.unit) c.in-Ok.ensures.unit c.check.ensures.refused
