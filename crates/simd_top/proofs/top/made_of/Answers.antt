use Rattle.simd_top.specs.Seen.{command_of}
use Rattle.simd_top.proofs.Told.{answer_due}
use Rattle.simd_top.proofs.top.made_of.Goals as goal

pub returns-in-Ok-clause-due : goal.returns-in-Ok-clause-due
returns-in-Ok-clause-due g c =
    answer_due (command_of c.args.command) c.dialect.result c.source_limit.result c.answer.result _ _ c.in-Ok.bytes.items c.deref.result.now c.source_limit.ensures c.dialect.ensures c.deref.ensures.value c.in-Ok.ensures.whole
    c.in-Ok.ensures.within c.answer.ensures.due
