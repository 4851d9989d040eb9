use Rattle.simd_top.proofs.Refused.{behind_refused}
use Rattle.simd_top.proofs.front.read.Goals as goal

pub returns-clause-refused : goal.returns-clause-refused
returns-clause-refused c = behind_refused c.args.dialect c.parsed.result c.args.source.now c.in_ok-left.left.items c.as_slice.result.now c.in_ok-left.ensures.left c.as_slice.ensures.value c.parsed.ensures.refused
