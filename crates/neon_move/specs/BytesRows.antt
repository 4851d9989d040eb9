-- The rows of bytes alone: vectors of 64 bits read as bytes and back, bytes that are chosen, and memory. One line for each, with its name and its form.
use Rattle.std.specs.Prelude.{List, [], ◌∷◌, map, codes}
use Rattle.neon_forms.specs.Row.{Row, row}
use Rattle.neon_forms.specs.declared.forms.Form.TheVariants as form
use Rattle.lane_core.specs.declared.vector.NeonLane.TheVariants as lane
use Rattle.neon_forms.specs.declared.forms.Transfer.TheVariants as transfer
use Rattle.neon_move.specs.declared.MoveOp.{MoveOp}
use Rattle.neon_move.specs.declared.MoveOp.TheVariants as op
use Rattle.neon_move.specs.declared.bytes.Bytes.{Bytes}
use Rattle.neon_move.specs.declared.bytes.Bytes.TheVariants as v

abbrev pub bytes_row : Bytes → Row
bytes_row v.VcreateU8 = row (codes "vcreate_u8") form.Create
bytes_row v.VextqU8 = row (codes "vextq_u8") form.Extract
bytes_row v.Vld1U8 = row (codes "vld1_u8") (form.Load transfer.D)
bytes_row v.Vld1qU8 = row (codes "vld1q_u8") (form.Load transfer.Q)
bytes_row v.Vld1qU8X2 = row (codes "vld1q_u8_x2") (form.Load transfer.Pair)
bytes_row v.Vqtbl1qU8 = row (codes "vqtbl1q_u8") form.Lookup
bytes_row v.Vqtbl2qU8 = row (codes "vqtbl2q_u8") form.LookupPair
bytes_row v.VreinterpretS16U8 = row (codes "vreinterpret_s16_u8") (form.ReinterpretHalf lane.S16 lane.U8)
bytes_row v.VreinterpretS32U8 = row (codes "vreinterpret_s32_u8") (form.ReinterpretHalf lane.S32 lane.U8)
bytes_row v.VreinterpretS64U8 = row (codes "vreinterpret_s64_u8") (form.ReinterpretHalf lane.S64 lane.U8)
bytes_row v.VreinterpretS8U8 = row (codes "vreinterpret_s8_u8") (form.ReinterpretHalf lane.S8 lane.U8)
bytes_row v.VreinterpretU16U8 = row (codes "vreinterpret_u16_u8") (form.ReinterpretHalf lane.U16 lane.U8)
bytes_row v.VreinterpretU32U8 = row (codes "vreinterpret_u32_u8") (form.ReinterpretHalf lane.U32 lane.U8)
bytes_row v.VreinterpretU64U8 = row (codes "vreinterpret_u64_u8") (form.ReinterpretHalf lane.U64 lane.U8)
bytes_row v.VreinterpretU8S16 = row (codes "vreinterpret_u8_s16") (form.ReinterpretHalf lane.U8 lane.S16)
bytes_row v.VreinterpretU8S32 = row (codes "vreinterpret_u8_s32") (form.ReinterpretHalf lane.U8 lane.S32)
bytes_row v.VreinterpretU8S64 = row (codes "vreinterpret_u8_s64") (form.ReinterpretHalf lane.U8 lane.S64)
bytes_row v.VreinterpretU8S8 = row (codes "vreinterpret_u8_s8") (form.ReinterpretHalf lane.U8 lane.S8)
bytes_row v.VreinterpretU8U16 = row (codes "vreinterpret_u8_u16") (form.ReinterpretHalf lane.U8 lane.U16)
bytes_row v.VreinterpretU8U32 = row (codes "vreinterpret_u8_u32") (form.ReinterpretHalf lane.U8 lane.U32)
bytes_row v.VreinterpretU8U64 = row (codes "vreinterpret_u8_u64") (form.ReinterpretHalf lane.U8 lane.U64)
bytes_row v.Vst1U8 = row (codes "vst1_u8") (form.Store transfer.D)
bytes_row v.Vst1qU8 = row (codes "vst1q_u8") (form.Store transfer.Q)
bytes_row v.Vst1qU8X2 = row (codes "vst1q_u8_x2") (form.Store transfer.Pair)

-- in ascending order of their names
unfoldable pub bytes_rows : List MoveOp
bytes_rows = map op.Bytes (
    v.VcreateU8 ∷ v.VextqU8 ∷ v.Vld1U8 ∷ v.Vld1qU8 ∷ v.Vld1qU8X2 ∷ v.Vqtbl1qU8 ∷ v.Vqtbl2qU8 ∷ v.VreinterpretS16U8 ∷ v.VreinterpretS32U8 ∷
    v.VreinterpretS64U8 ∷ v.VreinterpretS8U8 ∷ v.VreinterpretU16U8 ∷ v.VreinterpretU32U8 ∷ v.VreinterpretU64U8 ∷ v.VreinterpretU8S16 ∷
    v.VreinterpretU8S32 ∷ v.VreinterpretU8S64 ∷ v.VreinterpretU8S8 ∷ v.VreinterpretU8U16 ∷ v.VreinterpretU8U32 ∷ v.VreinterpretU8U64 ∷ v.Vst1U8 ∷
    v.Vst1qU8 ∷ v.Vst1qU8X2 ∷ [])
