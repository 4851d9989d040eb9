-- The sequence of each row, and the rows that have one here.
use Rattle.seq_pack.specs.Terms.{scalar_type}
use Rattle.std.specs.Prelude.{ℕ, ◌/◌, replicate, [], ◌∷◌, Bool, true, false, Option, Some, None, option_map, is_some}
use Rattle.lane_core.specs.declared.vector.NeonLane.TheVariants.{U8, U16, S8, S16, S32}
use Rattle.c_tree.specs.declared.types.CType.{CType}
use Rattle.intel_lanes.specs.declared.lanes.Width.TheVariants.{Word, Dword}
use Rattle.intel_lanes.specs.declared.blocks.One.TheVariants as one
use Rattle.intel_lanes.specs.declared.blocks.Two.{Two}
use Rattle.intel_lanes.specs.declared.blocks.Two.TheVariants as two
use Rattle.intel_lanes.specs.declared.blocks.TwoImm.{TwoImm}
use Rattle.intel_lanes.specs.declared.blocks.TwoImm.TheVariants as two_imm
use Rattle.intel_lanes.specs.Lanes.{bytes_of}
use Rattle.intel_forms.specs.declared.sizes.Size.TheVariants.{Xmm}
use Rattle.intel_forms.specs.declared.scalars.Scalar.{Scalar}
use Rattle.intel_forms.specs.declared.scalars.Scalar.TheVariants as scalar
use Rattle.intel_forms.specs.declared.forms.Form.{Form}
use Rattle.intel_forms.specs.declared.forms.Form.TheVariants as form
use Rattle.intel_forms.specs.Sizes.{result_type}
use Rattle.intel_table.specs.declared.IntelOp.{IntelOp}
use Rattle.intel_table.specs.Rows.{form_of}
use Rattle.neon_move.specs.declared.narrowed.Narrowed.TheVariants.{VqmovnS16, VqmovnS32, VqmovunS16, VqmovunS32}
use Rattle.neon_move.specs.declared.halves.Halves.TheVariants.{VcombineS8, VcombineS16, VcombineU8, VcombineU16}
use Rattle.seq_core.specs.Terms.{Param, Const, Sequence}
use Rattle.seq_core.specs.Formed.{vector}
use Rattle.seq_pack.specs.declared.plans.Shape.{Shape}
use Rattle.seq_pack.specs.declared.plans.Shape.TheVariants as shape
use Rattle.seq_pack.specs.Calls.{over, over_steps}
use Rattle.seq_pack.specs.Terms.{packed, extended, shuffled, blended_bytes, blended, zeros, all_lanes, with_lane, lane_at}
use Rattle.seq_pack.specs.Sets.{each_lane}
use Rattle.seq_pack.specs.Tests.{marks, marks_summed, tested, tested_ones, least, least_place, least_and_place}

abbrev pub sequence_of : Shape → ℕ → Sequence
sequence_of (shape.Packed from narrow join to) imm = over (vector ∷ vector ∷ []) (packed from narrow join to)
sequence_of (shape.Extended signs widths) imm = over (vector ∷ []) (extended signs widths)
sequence_of shape.Shuffled imm = over (vector ∷ vector ∷ []) shuffled
sequence_of shape.BlendedBytes imm = over (vector ∷ vector ∷ vector ∷ []) blended_bytes
sequence_of (shape.Blended width) imm = over (vector ∷ vector ∷ []) (blended width imm)
sequence_of shape.Zero imm = over [] (Const zeros)
sequence_of (shape.AllLanes width) imm = over (CType.Int (scalar_type width) ∷ []) (all_lanes width)
sequence_of (shape.LowLane width) imm = over (CType.Int (scalar_type width) ∷ []) (with_lane width (Param 0) (Const zeros) 0)
sequence_of (shape.First width) imm = over (vector ∷ []) (lane_at width 0)
sequence_of (shape.Lane width) imm = over (vector ∷ []) (lane_at width imm)
sequence_of (shape.WithLane width) imm = over (vector ∷ CType.Int (result_type width) ∷ []) (with_lane width (Param 1) (Param 0) imm)
sequence_of (shape.EachLane reversed width) imm = over (replicate (16 / bytes_of width) (CType.Int (scalar_type width))) (each_lane reversed width)
sequence_of shape.ByteSigns imm = over_steps (vector ∷ []) (marks ∷ []) marks_summed
sequence_of (shape.Tested test) imm = over (vector ∷ vector ∷ []) (tested test)
sequence_of shape.TestedOnes imm = over (vector ∷ []) tested_ones
sequence_of shape.MinPosition imm = over_steps (vector ∷ []) (least ∷ least_place ∷ []) least_and_place

abbrev pub planned_two : Two → Option Shape
planned_two two.PackWords = Some (shape.Packed S16 VqmovnS16 VcombineS8 S8)
planned_two two.PackDwords = Some (shape.Packed S32 VqmovnS32 VcombineS16 S16)
planned_two two.PackWordsUnsigned = Some (shape.Packed S16 VqmovunS16 VcombineU8 U8)
planned_two two.PackDwordsUnsigned = Some (shape.Packed S32 VqmovunS32 VcombineU16 U16)
planned_two two.ShuffleBytes = Some shape.Shuffled
planned_two _ = None

abbrev pub planned_blend : TwoImm → Option Shape
planned_blend two_imm.BlendWords = Some (shape.Blended Word)
planned_blend two_imm.BlendDwords = Some (shape.Blended Dword)
planned_blend _ = None

abbrev pub planned_scalar : Scalar → Option Shape
planned_scalar (scalar.SetZero Xmm) = Some shape.Zero
planned_scalar (scalar.SetAll Xmm width) = Some (shape.AllLanes width)
planned_scalar (scalar.ToVector width) = Some (shape.LowLane width)
planned_scalar (scalar.FromVector width) = Some (shape.First width)
planned_scalar (scalar.Extract Xmm width) = Some (shape.Lane width)
planned_scalar (scalar.Insert Xmm width) = Some (shape.WithLane width)
planned_scalar (scalar.Set Xmm width) = Some (shape.EachLane false width)
planned_scalar (scalar.SetReversed Xmm width) = Some (shape.EachLane true width)
planned_scalar (scalar.ByteSigns Xmm) = Some shape.ByteSigns
planned_scalar (scalar.Tested Xmm test) = Some (shape.Tested test)
planned_scalar scalar.TestedOnes = Some shape.TestedOnes
planned_scalar _ = None

-- the kind of a form's sequence, where its rows have one here
abbrev pub planned : Form → Option Shape
planned (form.One Xmm one.MinPosition) = Some shape.MinPosition
planned (form.Two Xmm op) = planned_two op
planned (form.TwoImm Xmm op) = planned_blend op
planned (form.BlendBytes Xmm) = Some shape.BlendedBytes
planned (form.Extend Xmm signs widths) = Some (shape.Extended signs widths)
planned (form.Scalar row) = planned_scalar row
planned _ = None

-- the row packs, extends or selects lanes, takes or gives single values, or reduces a vector, on 128 bits, and has a sequence here
abbrev pub is_packing : IntelOp → Bool
is_packing op = is_some (planned (form_of op))

abbrev pub plan_of : IntelOp → ℕ → Option Sequence
plan_of op imm = option_map (λ p. sequence_of p imm) (planned (form_of op))
