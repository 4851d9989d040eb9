-- Each sequence takes and gives carriers, and has no steps.
use Rattle.std.proofs.Common.{◌≡◌, ℕ, zero, suc, ◌*◌, List, [], ◌∷◌, Bool, true, false, refl, rules}
use Rattle.std.specs.Prelude.{◌==◌, nat_lt, replicate, if◌then◌else◌}
use Rattle.lane_core.specs.Table.{params_of}
use Rattle.c_tree.specs.declared.types.CType.{CType}
use Rattle.intel_lanes.specs.declared.lanes.Width.{Width}
use Rattle.intel_lanes.specs.declared.lanes.Width.TheVariants.{Byte, Word, Dword, Qword}
use Rattle.intel_lanes.specs.declared.lanes.Lane1.TheVariants.{Absolute}
use Rattle.intel_lanes.specs.declared.lanes.Lane2.{Lane2}
use Rattle.intel_lanes.specs.declared.lanes.Lane2.TheVariants as op
use Rattle.intel_lanes.specs.declared.lanes.Shift.{Shift}
use Rattle.intel_lanes.specs.declared.lanes.Shift.TheVariants as shift
use Rattle.intel_lanes.specs.declared.blocks.One.TheVariants as one
use Rattle.intel_lanes.specs.declared.blocks.Two.TheVariants as two
use Rattle.intel_lanes.specs.declared.blocks.OneImm.TheVariants as one_imm
use Rattle.intel_lanes.specs.declared.blocks.TwoImm.TheVariants.{SumsOfFour}
use Rattle.intel_lanes.specs.Lanes.{bytes_of}
use Rattle.intel_forms.specs.declared.sizes.Size.TheVariants.{Xmm}
use Rattle.intel_forms.specs.declared.forms.Form.{Form}
use Rattle.intel_forms.specs.declared.forms.Form.TheVariants as form
use Rattle.intel_forms.specs.Forms.{signature_of, value_of}
use Rattle.intel_table.specs.Rows.{form_of}
use Rattle.seq_core.specs.Terms.{Sequence, Param, Const}
use Rattle.seq_core.specs.Formed.{vector, sequence_type}
use Rattle.seq_arith.specs.declared.plans.Shape.TheVariants as shape
use Rattle.seq_arith.specs.Calls.{on_one, over_one}
use Rattle.seq_arith.specs.Rows.{shift_row_of}
use Rattle.seq_arith.specs.Plans.{shifted_by, sequence_of, by_count, planned_two, planned, ceiling_of}
use Rattle.seq_arith.specs.Listed.{listed}
use Rattle.seq_arith.specs.Claims.{carriers_of, PlansAreRows}
use Rattle.seq_arith.proofs.Shapes.{IsWhole, plan_whole}
use Rattle.seq_arith.proofs.Values.{When, Gives, from_plan, plan_due}

abbrev IsTyped : List CType → Sequence → Type 0
IsTyped ps s = (s.params ≡ ps) × (sequence_type s ≡ vector) × (s.steps ≡ [])

abbrev of_one : List CType
of_one = vector ∷ []

abbrev of_two : List CType
of_two = vector ∷ vector ∷ []

lanes1_typed : (width : Width) (imm : ℕ) → When (IsTyped of_one) (planned (form.One Xmm (one.Lanes Absolute width))) imm
lanes1_typed Byte imm = search rules
lanes1_typed _ imm = search rules

lanes2_typed : (o : Lane2) (width : Width) (imm : ℕ) → When (IsTyped of_two) (planned_two (two.Lanes o width)) imm
lanes2_typed (op.ShiftBy shift.Left) Dword imm = search rules
lanes2_typed (op.ShiftBy shift.Right) Dword imm = search rules
lanes2_typed (op.ShiftBy shift.Arithmetic) Dword imm = search rules
lanes2_typed (op.ShiftBy shift.Left) Qword imm = search rules
lanes2_typed (op.ShiftBy shift.Right) Qword imm = search rules
lanes2_typed (op.ShiftBy shift.Arithmetic) Qword imm = search rules
lanes2_typed op.Add Byte imm = search rules
lanes2_typed _ Byte imm = search rules
lanes2_typed _ _ imm = search rules

counted_typed : (s : Shift) (width : Width) (imm : ℕ) → When (IsTyped of_two) (by_count s width) imm
counted_typed s Byte imm = tt
counted_typed shift.Left _ imm = search rules
counted_typed shift.Right _ imm = search rules
counted_typed shift.Arithmetic _ imm = search rules

pairs_typed : (o : Lane2) (width : Width) (imm : ℕ) → When (IsTyped of_two) (planned_two (two.Pairs o width)) imm
pairs_typed op.Add Byte imm = tt
pairs_typed _ Byte imm = tt
pairs_typed _ Qword imm = tt
pairs_typed _ _ imm = search rules

left_typed : (width : Width) (imm : ℕ) (b : Bool) → IsTyped of_one (over_one (if b then on_one (shift_row_of shift.Left width) (Param 0) imm else Const (replicate 16 0)))
left_typed Byte imm true = (refl, refl, refl)
left_typed Word imm true = (refl, refl, refl)
left_typed Dword imm true = (refl, refl, refl)
left_typed Qword imm true = (refl, refl, refl)
left_typed width imm false = (refl, refl, refl)

right_typed : (width : Width) (imm : ℕ) (b : Bool) → IsTyped of_one (over_one (if b then on_one (shift_row_of shift.Right width) (Param 0) imm else Const (replicate 16 0)))
right_typed Byte imm true = (refl, refl, refl)
right_typed Word imm true = (refl, refl, refl)
right_typed Dword imm true = (refl, refl, refl)
right_typed Qword imm true = (refl, refl, refl)
right_typed width imm false = (refl, refl, refl)

arithmetic_typed : (width : Width) (imm : ℕ) → IsTyped of_one (over_one (shifted_by shift.Arithmetic width imm))
arithmetic_typed Byte imm = (refl, refl, refl)
arithmetic_typed Word imm = (refl, refl, refl)
arithmetic_typed Dword imm = (refl, refl, refl)
arithmetic_typed Qword imm = (refl, refl, refl)

not_zero : (n : ℕ) → (suc n == 0) ≡ false
not_zero n = search rules

shift_typed : (s : Shift) (width : Width) (imm : ℕ) → IsTyped of_one (sequence_of (shape.Shifted s width) imm)
shift_typed s width zero = (refl, refl, refl)
shift_typed shift.Left width (suc n) = rw (not_zero n) (left_typed width (suc n) (nat_lt (suc n) (8 * bytes_of width)))
shift_typed shift.Right width (suc n) = rw (not_zero n) (right_typed width (suc n) (nat_lt (suc n) (8 * bytes_of width)))
shift_typed shift.Arithmetic width (suc n) = rw (not_zero n) (arithmetic_typed width (suc n))

plan_typed : (f : Form) (imm : ℕ) → When (IsTyped (carriers_of (params_of (signature_of f)))) (planned f) imm
plan_typed (form.One Xmm (one.Lanes Absolute width)) imm = lanes1_typed width imm
plan_typed (form.Two Xmm (two.Lanes o width)) imm = lanes2_typed o width imm
plan_typed (form.Two Xmm (two.Pairs o width)) imm = pairs_typed o width imm
plan_typed (form.Two Xmm two.MultiplyEven) imm = (refl, refl, refl)
plan_typed (form.Two Xmm two.MultiplyEvenUnsigned) imm = (refl, refl, refl)
plan_typed (form.Two Xmm two.MultiplyAdd) imm = (refl, refl, refl)
plan_typed (form.Two Xmm two.SumDifferences) imm = (refl, refl, refl)
plan_typed (form.Counted Xmm s width) imm = counted_typed s width imm
plan_typed (form.Two Xmm two.MultiplyAddBytes) imm = (refl, refl, refl)
plan_typed (form.TwoImm Xmm SumsOfFour) imm = (refl, refl, refl)
plan_typed (form.OneImm Xmm (one_imm.Shifted s width)) imm = shift_typed s width imm
plan_typed _ imm = tt

pub plans_are_rows : PlansAreRows
plans_are_rows op imm q e =
    let f = form_of op in
    let w = from_plan (IsWhole (ceiling_of f) (listed f imm)) (planned f) imm (plan_whole f imm) q e in
    let t = from_plan (IsTyped (carriers_of (params_of (signature_of f)))) (planned f) imm (plan_typed f imm) q e in
    record {
      formed = w.0;
      params = t.0;
      result = t.1;
      steps = t.2;
      value = from_plan (Gives (signature_of f) (λ args. value_of f args imm)) (planned f) imm (plan_due f imm) q e;
    }
