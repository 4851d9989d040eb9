-- Each sequence is well formed, and calls the rows that are due.
use Rattle.std.proofs.Common.{◌≡◌, ℕ, zero, suc, ◌+◌, ◌*◌, ◌/◌, ◌%◌, ◌≤◌, ◌<◌, List, [], length, map, Bool, true, false, Option, Some, None, refl, arith, rules}
use Rattle.std.specs.Prelude.{◌==◌, nat_lt, replicate, if◌then◌else◌, codes}
use Rattle.std.proofs.lemmas.Bool.{ltb-true}
use Rattle.lane_core.proofs.Laws.{IsRegister-zeros}
use Rattle.intel_lanes.specs.declared.lanes.Width.{Width}
use Rattle.intel_lanes.specs.declared.lanes.Width.TheVariants.{Byte, Word, Dword, Qword}
use Rattle.intel_lanes.specs.declared.lanes.Lane1.TheVariants.{Absolute}
use Rattle.intel_lanes.specs.declared.lanes.Lane2.{Lane2}
use Rattle.intel_lanes.specs.declared.lanes.Lane2.TheVariants as op
use Rattle.intel_lanes.specs.declared.lanes.Shift.{Shift}
use Rattle.intel_lanes.specs.declared.lanes.Shift.TheVariants as shift
use Rattle.intel_lanes.specs.declared.blocks.One.TheVariants as one
use Rattle.intel_lanes.specs.declared.blocks.Two.TheVariants as two
use Rattle.intel_lanes.specs.declared.blocks.OneImm.TheVariants as one_imm
use Rattle.intel_lanes.specs.declared.blocks.TwoImm.TheVariants.{SumsOfFour}
use Rattle.intel_lanes.specs.Lanes.{bytes_of}
use Rattle.intel_forms.specs.declared.sizes.Size.TheVariants.{Xmm}
use Rattle.intel_forms.specs.declared.forms.Form.{Form}
use Rattle.intel_forms.specs.declared.forms.Form.TheVariants as form
use Rattle.neon_table.specs.Rows.{name_of}
use Rattle.seq_core.specs.Terms.{Sequence, Param, Const}
use Rattle.seq_core.specs.Formed.{WellFormed}
use Rattle.seq_core.specs.Called.{rows_called, plain}
use Rattle.seq_arith.specs.declared.plans.Shape.TheVariants as shape
use Rattle.seq_arith.specs.Calls.{on_one, over_one}
use Rattle.seq_arith.specs.Rows.{shift_row_of}
use Rattle.seq_arith.specs.Plans.{shifted_by, sequence_of, by_count, planned_two, planned, ceiling_of}
use Rattle.seq_arith.specs.Listed.{one_row, listed2, listed_pairs, listed_shift, listed}
use Rattle.seq_arith.proofs.Signs.{ones_register, minus_register}
use Rattle.seq_arith.proofs.Dwords.{limit_register}
use Rattle.seq_arith.proofs.Fours.{fours_register}
use Rattle.seq_arith.proofs.Amounts.{sixty_four_register}
use Rattle.seq_arith.proofs.Values.{When}

-- the rows have these names, where names are due
abbrev pub Named : Option (List (List ℕ)) → Sequence → Type 0
Named None s = Unit {0}
Named (Some names) s = map name_of (rows_called s) ≡ names

-- it is well formed, and calls so many rows at most, these where they are due
abbrev pub IsWhole : ℕ → Option (List (List ℕ)) → Sequence → Type 0
IsWhole most names s = WellFormed s × (length (rows_called s) ≤ most) × (plain s ≡ true) × Named names s

lanes1_whole : (width : Width) (imm : ℕ) → When (IsWhole 24 (Some (one_row (codes "vabsq_s") width))) (planned (form.One Xmm (one.Lanes Absolute width))) imm
lanes1_whole Byte imm = search (rules, arith) depth 14
lanes1_whole _ imm = search (rules, arith) depth 14

shifts_whole : (s : Shift) (imm : ℕ) → When (IsWhole 24 None) (Some (shape.ShiftedBy s)) imm
shifts_whole shift.Left imm = search (rules, arith, limit_register shift.Left) depth 20
shifts_whole shift.Right imm = search (rules, arith, limit_register shift.Right) depth 20
shifts_whole shift.Arithmetic imm = search (rules, arith, limit_register shift.Arithmetic) depth 20

qwords_whole : (s : Shift) (imm : ℕ) → When (IsWhole 24 None) (Some (shape.QwordsBy s)) imm
qwords_whole shift.Left imm = search (rules, arith, sixty_four_register) depth 20
qwords_whole shift.Right imm = search (rules, arith, sixty_four_register) depth 20
qwords_whole shift.Arithmetic imm = search (rules, arith, sixty_four_register) depth 20

lanes2_whole : (o : Lane2) (width : Width) (imm : ℕ) → When (IsWhole 24 (listed2 o width)) (planned_two (two.Lanes o width)) imm
lanes2_whole op.Add Byte imm = search (rules, arith) depth 14
lanes2_whole op.MultiplyRound Word imm = search (rules, arith) depth 20
lanes2_whole op.Sign Byte imm = search (rules, arith, ones_register Byte, minus_register) depth 20
lanes2_whole op.Sign Word imm = search (rules, arith, ones_register Word, minus_register) depth 20
lanes2_whole op.Sign Dword imm = search (rules, arith, ones_register Dword, minus_register) depth 20
lanes2_whole (op.ShiftBy s) Dword imm = shifts_whole s imm
lanes2_whole (op.ShiftBy s) Qword imm = qwords_whole s imm
lanes2_whole op.MultiplyHigh Word imm = search (rules, arith) depth 20
lanes2_whole op.MultiplyHighUnsigned Word imm = search (rules, arith) depth 20
lanes2_whole _ Byte imm = search (rules, arith) depth 14
lanes2_whole _ _ imm = search (rules, arith) depth 14

counted_whole : (s : Shift) (width : Width) (imm : ℕ) → When (IsWhole 4 None) (by_count s width) imm
counted_whole s Byte imm = tt
counted_whole shift.Left Word imm = search (rules, arith, sixty_four_register) depth 20
counted_whole shift.Left Dword imm = search (rules, arith, sixty_four_register) depth 20
counted_whole shift.Left Qword imm = search (rules, arith, sixty_four_register) depth 20
counted_whole shift.Right Word imm = search (rules, arith, sixty_four_register) depth 20
counted_whole shift.Right Dword imm = search (rules, arith, sixty_four_register) depth 20
counted_whole shift.Right Qword imm = search (rules, arith, sixty_four_register) depth 20
counted_whole shift.Arithmetic Word imm = search (rules, arith, sixty_four_register) depth 20
counted_whole shift.Arithmetic Dword imm = search (rules, arith, sixty_four_register) depth 20
counted_whole shift.Arithmetic Qword imm = search (rules, arith, sixty_four_register) depth 20

pairs_whole : (o : Lane2) (width : Width) (imm : ℕ) → When (IsWhole 24 (listed_pairs o width)) (planned_two (two.Pairs o width)) imm
pairs_whole op.Add Byte imm = tt
pairs_whole _ Byte imm = tt
pairs_whole _ Qword imm = tt
pairs_whole _ _ imm = search (rules, arith) depth 20

even_whole : (signs : Bool) (imm : ℕ) → When (IsWhole 24 None) (Some (shape.EvenProducts signs)) imm
even_whole true imm = search (rules, arith) depth 20
even_whole false imm = search (rules, arith) depth 20

-- shifts by a constant that isn't 0
left_whole : (width : Width) (imm : ℕ) (b : Bool) → nat_lt imm (8 * bytes_of width) ≡ b
    → IsWhole 24 (Some (if b then one_row (codes "vshlq_n_u") width else [])) (over_one (if b then on_one (shift_row_of shift.Left width) (Param 0) imm else Const (replicate 16 0)))
left_whole Byte imm true e = let l : imm < 8 = ltb-true imm 8 e in search (rules, arith, l) depth 14
left_whole Word imm true e = let l : imm < 16 = ltb-true imm 16 e in search (rules, arith, l) depth 14
left_whole Dword imm true e = let l : imm < 32 = ltb-true imm 32 e in search (rules, arith, l) depth 14
left_whole Qword imm true e = let l : imm < 64 = ltb-true imm 64 e in search (rules, arith, l) depth 14
left_whole width imm false e = search (rules, arith, IsRegister-zeros) depth 14

right_whole : (width : Width) (n : ℕ) (b : Bool) → nat_lt (suc n) (8 * bytes_of width) ≡ b
    → IsWhole 24 (Some (if b then one_row (codes "vshrq_n_u") width else [])) (over_one (if b then on_one (shift_row_of shift.Right width) (Param 0) (suc n) else Const (replicate 16 0)))
right_whole Byte n true e = let l : suc n < 8 = ltb-true (suc n) 8 e in search (rules, arith, l) depth 14
right_whole Word n true e = let l : suc n < 16 = ltb-true (suc n) 16 e in search (rules, arith, l) depth 14
right_whole Dword n true e = let l : suc n < 32 = ltb-true (suc n) 32 e in search (rules, arith, l) depth 14
right_whole Qword n true e = let l : suc n < 64 = ltb-true (suc n) 64 e in search (rules, arith, l) depth 14
right_whole width n false e = search (rules, arith, IsRegister-zeros) depth 14

arithmetic_whole : (width : Width) (n : ℕ) → IsWhole 24 (Some (one_row (codes "vshrq_n_s") width)) (over_one (shifted_by shift.Arithmetic width (suc n)))
arithmetic_whole Byte n = search (rules, arith) depth 14
arithmetic_whole _ n = search (rules, arith) depth 14

fours_whole : (imm : ℕ) → IsWhole 24 None (sequence_of shape.SumsOfFour imm)
fours_whole imm =
    let r = fours_register (4 * (imm / 4 % 2)) in
    let s = fours_register (4 * (imm / 4 % 2) + 4) in
    let l : imm % 4 ≤ 3 = omega arith in
    search (rules, arith, r, s, l) depth 24

not_zero : (n : ℕ) → (suc n == 0) ≡ false
not_zero n = search rules

shift_whole : (s : Shift) (width : Width) (imm : ℕ) → IsWhole 24 (Some (listed_shift s width imm)) (sequence_of (shape.Shifted s width) imm)
shift_whole shift.Left width zero = search (rules, arith) depth 14
shift_whole shift.Right width zero = search (rules, arith) depth 14
shift_whole shift.Arithmetic width zero = search (rules, arith) depth 14
shift_whole shift.Left width (suc n) = rw (not_zero n) (left_whole width (suc n) (nat_lt (suc n) (8 * bytes_of width)) refl)
shift_whole shift.Right width (suc n) = rw (not_zero n) (right_whole width n (nat_lt (suc n) (8 * bytes_of width)) refl)
shift_whole shift.Arithmetic width (suc n) = rw (not_zero n) (arithmetic_whole width n)

pub plan_whole : (f : Form) (imm : ℕ) → When (IsWhole (ceiling_of f) (listed f imm)) (planned f) imm
plan_whole (form.One Xmm (one.Lanes Absolute width)) imm = lanes1_whole width imm
plan_whole (form.Two Xmm (two.Lanes o width)) imm = lanes2_whole o width imm
plan_whole (form.Two Xmm (two.Pairs o width)) imm = pairs_whole o width imm
plan_whole (form.Two Xmm two.MultiplyEven) imm = even_whole true imm
plan_whole (form.Two Xmm two.MultiplyEvenUnsigned) imm = even_whole false imm
plan_whole (form.Two Xmm two.MultiplyAdd) imm = search (rules, arith) depth 20
plan_whole (form.Two Xmm two.SumDifferences) imm = search (rules, arith) depth 20
plan_whole (form.Counted Xmm s width) imm = counted_whole s width imm
plan_whole (form.Two Xmm two.MultiplyAddBytes) imm = search (rules, arith) depth 24
plan_whole (form.TwoImm Xmm SumsOfFour) imm = fours_whole imm
plan_whole (form.OneImm Xmm (one_imm.Shifted s width)) imm = shift_whole s width imm
plan_whole _ imm = tt

-- where names are due, the rows have them
pub named_so : (due : Option (List (List ℕ))) (s : Sequence) → Named due s → (names : List (List ℕ)) → due ≡ Some names → map name_of (rows_called s) ≡ names
named_so None s h names e = absurd (grind (arith, e))
named_so (Some ns) s h names e = cc
