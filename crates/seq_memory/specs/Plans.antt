-- The sequence of each row that moves a register or its low half at a pointer. The Neon rows ask for no alignment, so that an aligned row has the sequence of
-- one that isn't.
use Rattle.std.specs.Prelude.{ℕ, ◌==◌, [], ◌∷◌, if◌then◌else◌, Bool, true, false, Option, Some, None, pos}
use Rattle.lane_core.specs.declared.number.IntType.TheVariants as int
use Rattle.lane_core.specs.declared.vector.Pointee.{Pointee}
use Rattle.scalar_core.specs.Numbers.{num_of}
use Rattle.c_tree.specs.declared.types.CType.{CType}
use Rattle.intel_forms.specs.declared.forms.Form.{Form}
use Rattle.intel_forms.specs.declared.forms.Form.TheVariants as form
use Rattle.intel_forms.specs.declared.memory.Memory.TheVariants as row
use Rattle.intel_forms.specs.declared.memory.Indexing.TheVariants.{QwordsByDwords}
use Rattle.intel_lanes.specs.declared.lanes.Width.TheVariants.{Qword}
use Rattle.intel_forms.specs.declared.sizes.Size.TheVariants.{Xmm}
use Rattle.neon_lane.specs.declared.LaneOp.TheVariants.{Shifts}
use Rattle.neon_lane.specs.declared.shifts.Shifts.TheVariants.{VshlqNS64, VshrqNU64}
use Rattle.neon_move.specs.declared.MoveOp.TheVariants.{Bytes, Halves, Places, ToSigned, ToUnsigned, Widened}
use Rattle.neon_move.specs.declared.bytes.Bytes.TheVariants.{VcreateU8, Vld1U8, Vld1qU8, Vst1U8, Vst1qU8}
use Rattle.neon_move.specs.declared.halves.Halves as halves
use Rattle.neon_move.specs.declared.halves.Halves.TheVariants.{VcombineU8, VgetHighU8, VgetLowS32, VgetLowU8}
use Rattle.neon_move.specs.declared.places.Places.TheVariants.{VgetqLaneS64, VgetqLaneU64}
use Rattle.neon_move.specs.declared.to_signed.ToSigned.TheVariants.{VreinterpretqS32U8}
use Rattle.neon_move.specs.declared.widened.Widened.TheVariants.{VmovlS32}
use Rattle.neon_move.specs.declared.to_unsigned.ToUnsigned.TheVariants.{VreinterpretqU64U8}
use Rattle.neon_table.specs.declared.NeonOp.{NeonOp}
use Rattle.neon_table.specs.Rows.{of_lane, of_move}
use Rattle.seq_core.specs.Terms.{Term, Param, Step, Int, Call, Choice, Shifted, NoTerms, More, Sequence}
use Rattle.seq_core.specs.Formed.{vector}

-- a call of one operand, and of two
abbrev pub one : NeonOp → Term → Term
one f x = Call f (More x NoTerms) 0

abbrev pub two : NeonOp → Term → Term → Term
two f x y = Call f (More x (More y NoTerms)) 0

-- `uint8_t *`, to const or not
abbrev pub pointer : Bool → CType
pointer constant = CType.Pointer (Pointee.Int int.UChar) constant

-- over a pointer, what is read; over a pointer and a register, what is stored
abbrev pub reading : Term → Sequence
reading t = record { params = pointer true ∷ []; steps = []; result = Some t }

abbrev pub storing : Term → Sequence
storing t = record { params = pointer false ∷ vector ∷ []; steps = t ∷ []; result = None }

-- eight bytes that are 0
abbrev pub no_bytes : Term
no_bytes = one (of_move (Bytes VcreateU8)) (Int (num_of int.ULong (pos 0)))

-- eight bytes at the pointer, zeros above; the low half is stored there
abbrev pub low_loaded : Term
low_loaded = two (of_move (Halves VcombineU8)) (one (of_move (Bytes Vld1U8)) (Param 0)) no_bytes

abbrev pub low_stored : Term
low_stored = two (of_move (Bytes Vst1U8)) (Param 0) (one (of_move (Halves VgetLowU8)) (Param 1))

-- 1 in each qword of a register whose top bit is 1, else 0
abbrev pub top_bits : Term → Term
top_bits x = Call (of_lane (Shifts VshrqNU64)) (More (one (of_move (ToUnsigned VreinterpretqU64U8)) x) NoTerms) 63

-- eight bytes at a pointer where that qword's top bit is 1, else zeros, and nothing is touched
abbrev pub chosen_bytes : ℕ → Term → Term
chosen_bytes k at = Choice (Call (of_move (Places VgetqLaneU64)) (More (Step 0) NoTerms) k) (one (of_move (Bytes Vld1U8)) at) no_bytes

-- the pointer eight bytes on
abbrev pub eight_on : Term
eight_on = Shifted (Param 0) (Int (num_of int.Int (pos 8)))

-- the qwords that the mask chooses
abbrev pub masked_qwords : Sequence
masked_qwords = record {
  params = pointer true ∷ vector ∷ [];
  steps = top_bits (Param 1) ∷ [];
  result = Some (two (of_move (Halves VcombineU8)) (chosen_bytes 0 (Param 0)) (chosen_bytes 1 eight_on));
}

-- the power of two that a scale is
abbrev pub power_of : ℕ → ℕ
power_of scale = if scale == 8 then 3 else (if scale == 4 then 2 else (if scale == 2 then 1 else 0))

-- the two low dwords of the indices, as qwords, times the scale
abbrev pub distances : Term → ℕ → Term
distances indices scale = Call (of_lane (Shifts VshlqNS64)) (More (one (of_move (Widened VmovlS32)) (one (of_move (Halves VgetLowS32)) (one (of_move (ToSigned VreinterpretqS32U8)) indices))) NoTerms) (power_of scale)

-- eight bytes that far on
abbrev pub gathered : Term → ℕ → Term
gathered p k = one (of_move (Bytes Vld1U8)) (Shifted p (Call (of_move (Places VgetqLaneS64)) (More (Step 0) NoTerms) k))

-- two qwords by dwords
abbrev pub gathered_qwords : ℕ → Sequence
gathered_qwords scale = record {
  params = pointer true ∷ vector ∷ [];
  steps = distances (Param 1) scale ∷ [];
  result = Some (two (of_move (Halves VcombineU8)) (gathered (Param 0) 0) (gathered (Param 0) 1));
}

-- where that qword of the mask has its top bit, else that half of the first operand
abbrev pub merged_bytes : ℕ → halves.Halves → Term
merged_bytes k part = Choice (Call (of_move (Places VgetqLaneU64)) (More (Step 1) NoTerms) k) (gathered (Param 1) k) (one (of_move (Halves part)) (Param 0))

abbrev pub merged_qwords : ℕ → Sequence
merged_qwords scale = record {
  params = vector ∷ pointer true ∷ vector ∷ vector ∷ [];
  steps = distances (Param 2) scale ∷ top_bits (Param 3) ∷ [];
  result = Some (two (of_move (Halves VcombineU8)) (merged_bytes 0 VgetLowU8) (merged_bytes 1 VgetHighU8));
}

-- of a row with that constant, 0 for a row without one
abbrev pub plan_of : Form → ℕ → Option Sequence
plan_of (form.Memory (row.Load Xmm aligned)) imm = Some (reading (one (of_move (Bytes Vld1qU8)) (Param 0)))
plan_of (form.Memory (row.Store Xmm aligned)) imm = Some (storing (two (of_move (Bytes Vst1qU8)) (Param 0) (Param 1)))
plan_of (form.Memory row.LoadLow) imm = Some (reading low_loaded)
plan_of (form.Memory row.StoreLow) imm = Some (storing low_stored)
plan_of (form.Memory (row.MaskLoad Xmm Qword)) imm = Some masked_qwords
plan_of (form.Memory (row.Gather Xmm QwordsByDwords)) imm = Some (gathered_qwords imm)
plan_of (form.Memory (row.MaskGather Xmm QwordsByDwords)) imm = Some (merged_qwords imm)
plan_of f imm = None

-- the most rows that a sequence may call: one where a whole register moves, and one more for a half; 8 for each lane that is moved by itself
abbrev pub ceiling_of : Form → ℕ
ceiling_of (form.Memory row.LoadLow) = 2
ceiling_of (form.Memory row.StoreLow) = 2
ceiling_of (form.Memory (row.MaskLoad Xmm Qword)) = 16
ceiling_of (form.Memory (row.Gather Xmm QwordsByDwords)) = 16
ceiling_of (form.Memory (row.MaskGather Xmm QwordsByDwords)) = 16
ceiling_of f = 1
