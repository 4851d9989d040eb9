use Rattle.simd_top.specs.Seen.{command_of}
use Rattle.simd_top.proofs.Answering.{first_refused}
use Rattle.simd_top.proofs.top.answer.Goals as goal

pub returns-in_ok-lines-in-Err-Refused-clause-due : goal.returns-in_ok-lines-in-Err-Refused-clause-due
returns-in_ok-lines-in-Err-Refused-clause-due c =
    first_refused (command_of c.args.command) c.dialect.result c.args.source.now c.in_ok-lines-in-Err-Refused.lines.items c.in-Err-Refused.list.items c.as_slice.result.now c.requires.within c.dialect.ensures c.as_slice.ensures.value
    (rw c.in-Err-Refused.field-0-is at c.in-Err-Refused.ensures.refused) c.in_ok-lines-in-Err-Refused.ensures.lines
