use Rattle.simd_top.proofs.Refused.{expansion_refused}
use Rattle.simd_top.proofs.front.left_of.Goals as goal

pub returns-clause-refused : goal.returns-clause-refused
returns-clause-refused c = expansion_refused c.args.dialect c.expand.result c.args.source.now c.in_ok-tokens.tokens.items c.as_slice.result.now c.in_ok-tokens.ensures.found c.as_slice.ensures.value c.expand.ensures.refused
