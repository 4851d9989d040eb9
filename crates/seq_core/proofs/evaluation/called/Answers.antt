use Rattle.std.proofs.Common.{refl, ◌≡◌, subst, IfOk}
use Rattle.lane_core.specs.Table.{params_of}
use Rattle.c_memory.specs.MeaningRows.{row_result}
use Rattle.neon_table.specs.Rows.{signature_of}
use Rattle.seq_core.specs.Rows.{table}
use Rattle.seq_core.specs.Actions.{just, with_value}
use Rattle.seq_core.proofs.Evaluated.{made_ok}
use Rattle.seq_core.proofs.evaluation.called.Goals as goal

pub returns : goal.returns
returns c =
    let same : c.deref.result.now ≡ with_value (params_of (signature_of c.args.op)) c.args.operands.now c.args.imm =
    rw (c.deref.ensures.value, c.in_ok-push_values.ensures, c.new-values.ensures.items, c.kinds_of.ensures, c.signature-sig.ensures.value) refl in
    subst (λ vs. IfOk c.row_call.result (λ r. row_result table c.args.op vs c.args.memory.now.blocks ≡ just r c.row_call.new.memory.blocks)) same (made_ok c.row_call.result _ _ c.row_call.ensures)
