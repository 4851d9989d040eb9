-- The rows of AVX2 on 16 bytes. One line for each, with its name and its form.
use Rattle.std.specs.Prelude.{List, [], ◌∷◌, map, codes}
use Rattle.intel_forms.specs.Row.{Row, row}
use Rattle.intel_forms.specs.declared.forms.Form.TheVariants as form
use Rattle.intel_forms.specs.declared.memory.Indexing.TheVariants as index
use Rattle.intel_forms.specs.declared.memory.Memory.TheVariants as memory
use Rattle.intel_forms.specs.declared.sizes.Size.TheVariants.{Xmm}
use Rattle.intel_lanes.specs.declared.blocks.Two.TheVariants as two
use Rattle.intel_lanes.specs.declared.blocks.TwoImm.TheVariants as two_imm
use Rattle.intel_lanes.specs.declared.lanes.Lane2.TheVariants as lane2
use Rattle.intel_lanes.specs.declared.lanes.Shift.TheVariants as shift
use Rattle.intel_lanes.specs.declared.lanes.Width.TheVariants.{Byte, Word, Dword, Qword}
use Rattle.intel_wide.specs.declared.WideOp.{WideOp}
use Rattle.intel_wide.specs.declared.WideOp.TheVariants as op
use Rattle.intel_wide.specs.declared.avx2.Avx2.{Avx2}
use Rattle.intel_wide.specs.declared.avx2.Avx2.TheVariants as v

abbrev pub avx2_row : Avx2 → Row
avx2_row v.BlendEpi32 = row (codes "_mm_blend_epi32") (form.TwoImm Xmm two_imm.BlendDwords)
avx2_row v.BroadcastbEpi8 = row (codes "_mm_broadcastb_epi8") (form.Broadcast Xmm Byte)
avx2_row v.BroadcastdEpi32 = row (codes "_mm_broadcastd_epi32") (form.Broadcast Xmm Dword)
avx2_row v.BroadcastqEpi64 = row (codes "_mm_broadcastq_epi64") (form.Broadcast Xmm Qword)
avx2_row v.BroadcastwEpi16 = row (codes "_mm_broadcastw_epi16") (form.Broadcast Xmm Word)
avx2_row v.I32gatherEpi32 = row (codes "_mm_i32gather_epi32") (form.Memory (memory.Gather Xmm index.DwordsByDwords))
avx2_row v.I32gatherEpi64 = row (codes "_mm_i32gather_epi64") (form.Memory (memory.Gather Xmm index.QwordsByDwords))
avx2_row v.I64gatherEpi32 = row (codes "_mm_i64gather_epi32") (form.Memory (memory.Gather Xmm index.DwordsByQwords))
avx2_row v.I64gatherEpi64 = row (codes "_mm_i64gather_epi64") (form.Memory (memory.Gather Xmm index.QwordsByQwords))
avx2_row v.MaskI32gatherEpi32 = row (codes "_mm_mask_i32gather_epi32") (form.Memory (memory.MaskGather Xmm index.DwordsByDwords))
avx2_row v.MaskI32gatherEpi64 = row (codes "_mm_mask_i32gather_epi64") (form.Memory (memory.MaskGather Xmm index.QwordsByDwords))
avx2_row v.MaskI64gatherEpi32 = row (codes "_mm_mask_i64gather_epi32") (form.Memory (memory.MaskGather Xmm index.DwordsByQwords))
avx2_row v.MaskI64gatherEpi64 = row (codes "_mm_mask_i64gather_epi64") (form.Memory (memory.MaskGather Xmm index.QwordsByQwords))
avx2_row v.MaskloadEpi32 = row (codes "_mm_maskload_epi32") (form.Memory (memory.MaskLoad Xmm Dword))
avx2_row v.MaskloadEpi64 = row (codes "_mm_maskload_epi64") (form.Memory (memory.MaskLoad Xmm Qword))
avx2_row v.MaskstoreEpi32 = row (codes "_mm_maskstore_epi32") (form.Memory (memory.MaskStore Xmm Dword))
avx2_row v.MaskstoreEpi64 = row (codes "_mm_maskstore_epi64") (form.Memory (memory.MaskStore Xmm Qword))
avx2_row v.SllvEpi32 = row (codes "_mm_sllv_epi32") (form.Two Xmm (two.Lanes (lane2.ShiftBy shift.Left) Dword))
avx2_row v.SllvEpi64 = row (codes "_mm_sllv_epi64") (form.Two Xmm (two.Lanes (lane2.ShiftBy shift.Left) Qword))
avx2_row v.SravEpi32 = row (codes "_mm_srav_epi32") (form.Two Xmm (two.Lanes (lane2.ShiftBy shift.Arithmetic) Dword))
avx2_row v.SrlvEpi32 = row (codes "_mm_srlv_epi32") (form.Two Xmm (two.Lanes (lane2.ShiftBy shift.Right) Dword))
avx2_row v.SrlvEpi64 = row (codes "_mm_srlv_epi64") (form.Two Xmm (two.Lanes (lane2.ShiftBy shift.Right) Qword))

-- in ascending order of their names
unfoldable pub avx2_rows : List WideOp
avx2_rows = map op.Avx2 (
    v.BlendEpi32 ∷ v.BroadcastbEpi8 ∷ v.BroadcastdEpi32 ∷ v.BroadcastqEpi64 ∷ v.BroadcastwEpi16 ∷ v.I32gatherEpi32 ∷ v.I32gatherEpi64 ∷
    v.I64gatherEpi32 ∷ v.I64gatherEpi64 ∷ v.MaskI32gatherEpi32 ∷ v.MaskI32gatherEpi64 ∷ v.MaskI64gatherEpi32 ∷ v.MaskI64gatherEpi64 ∷
    v.MaskloadEpi32 ∷ v.MaskloadEpi64 ∷ v.MaskstoreEpi32 ∷ v.MaskstoreEpi64 ∷ v.SllvEpi32 ∷ v.SllvEpi64 ∷ v.SravEpi32 ∷ v.SrlvEpi32 ∷
    v.SrlvEpi64 ∷ [])
