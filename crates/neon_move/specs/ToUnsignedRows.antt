-- The rows that read a vector of 128 bits as one of unsigned elements. One line for each, with its name and its form.
use Rattle.std.specs.Prelude.{List, [], ◌∷◌, map, codes}
use Rattle.neon_forms.specs.Row.{Row, row}
use Rattle.neon_forms.specs.declared.forms.Form.TheVariants as form
use Rattle.lane_core.specs.declared.vector.NeonLane.TheVariants as lane
use Rattle.neon_move.specs.declared.MoveOp.{MoveOp}
use Rattle.neon_move.specs.declared.MoveOp.TheVariants as op
use Rattle.neon_move.specs.declared.to_unsigned.ToUnsigned.{ToUnsigned}
use Rattle.neon_move.specs.declared.to_unsigned.ToUnsigned.TheVariants as v

abbrev pub to_unsigned_row : ToUnsigned → Row
to_unsigned_row v.VreinterpretqU16S16 = row (codes "vreinterpretq_u16_s16") (form.Reinterpret lane.U16 lane.S16)
to_unsigned_row v.VreinterpretqU16S32 = row (codes "vreinterpretq_u16_s32") (form.Reinterpret lane.U16 lane.S32)
to_unsigned_row v.VreinterpretqU16S64 = row (codes "vreinterpretq_u16_s64") (form.Reinterpret lane.U16 lane.S64)
to_unsigned_row v.VreinterpretqU16S8 = row (codes "vreinterpretq_u16_s8") (form.Reinterpret lane.U16 lane.S8)
to_unsigned_row v.VreinterpretqU16U32 = row (codes "vreinterpretq_u16_u32") (form.Reinterpret lane.U16 lane.U32)
to_unsigned_row v.VreinterpretqU16U64 = row (codes "vreinterpretq_u16_u64") (form.Reinterpret lane.U16 lane.U64)
to_unsigned_row v.VreinterpretqU16U8 = row (codes "vreinterpretq_u16_u8") (form.Reinterpret lane.U16 lane.U8)
to_unsigned_row v.VreinterpretqU32S16 = row (codes "vreinterpretq_u32_s16") (form.Reinterpret lane.U32 lane.S16)
to_unsigned_row v.VreinterpretqU32S32 = row (codes "vreinterpretq_u32_s32") (form.Reinterpret lane.U32 lane.S32)
to_unsigned_row v.VreinterpretqU32S64 = row (codes "vreinterpretq_u32_s64") (form.Reinterpret lane.U32 lane.S64)
to_unsigned_row v.VreinterpretqU32S8 = row (codes "vreinterpretq_u32_s8") (form.Reinterpret lane.U32 lane.S8)
to_unsigned_row v.VreinterpretqU32U16 = row (codes "vreinterpretq_u32_u16") (form.Reinterpret lane.U32 lane.U16)
to_unsigned_row v.VreinterpretqU32U64 = row (codes "vreinterpretq_u32_u64") (form.Reinterpret lane.U32 lane.U64)
to_unsigned_row v.VreinterpretqU32U8 = row (codes "vreinterpretq_u32_u8") (form.Reinterpret lane.U32 lane.U8)
to_unsigned_row v.VreinterpretqU64S16 = row (codes "vreinterpretq_u64_s16") (form.Reinterpret lane.U64 lane.S16)
to_unsigned_row v.VreinterpretqU64S32 = row (codes "vreinterpretq_u64_s32") (form.Reinterpret lane.U64 lane.S32)
to_unsigned_row v.VreinterpretqU64S64 = row (codes "vreinterpretq_u64_s64") (form.Reinterpret lane.U64 lane.S64)
to_unsigned_row v.VreinterpretqU64S8 = row (codes "vreinterpretq_u64_s8") (form.Reinterpret lane.U64 lane.S8)
to_unsigned_row v.VreinterpretqU64U16 = row (codes "vreinterpretq_u64_u16") (form.Reinterpret lane.U64 lane.U16)
to_unsigned_row v.VreinterpretqU64U32 = row (codes "vreinterpretq_u64_u32") (form.Reinterpret lane.U64 lane.U32)
to_unsigned_row v.VreinterpretqU64U8 = row (codes "vreinterpretq_u64_u8") (form.Reinterpret lane.U64 lane.U8)
to_unsigned_row v.VreinterpretqU8S16 = row (codes "vreinterpretq_u8_s16") (form.Reinterpret lane.U8 lane.S16)
to_unsigned_row v.VreinterpretqU8S32 = row (codes "vreinterpretq_u8_s32") (form.Reinterpret lane.U8 lane.S32)
to_unsigned_row v.VreinterpretqU8S64 = row (codes "vreinterpretq_u8_s64") (form.Reinterpret lane.U8 lane.S64)
to_unsigned_row v.VreinterpretqU8S8 = row (codes "vreinterpretq_u8_s8") (form.Reinterpret lane.U8 lane.S8)
to_unsigned_row v.VreinterpretqU8U16 = row (codes "vreinterpretq_u8_u16") (form.Reinterpret lane.U8 lane.U16)
to_unsigned_row v.VreinterpretqU8U32 = row (codes "vreinterpretq_u8_u32") (form.Reinterpret lane.U8 lane.U32)
to_unsigned_row v.VreinterpretqU8U64 = row (codes "vreinterpretq_u8_u64") (form.Reinterpret lane.U8 lane.U64)

-- in ascending order of their names
unfoldable pub to_unsigned_rows : List MoveOp
to_unsigned_rows = map op.ToUnsigned (
    v.VreinterpretqU16S16 ∷ v.VreinterpretqU16S32 ∷ v.VreinterpretqU16S64 ∷ v.VreinterpretqU16S8 ∷ v.VreinterpretqU16U32 ∷ v.VreinterpretqU16U64 ∷
    v.VreinterpretqU16U8 ∷ v.VreinterpretqU32S16 ∷ v.VreinterpretqU32S32 ∷ v.VreinterpretqU32S64 ∷ v.VreinterpretqU32S8 ∷ v.VreinterpretqU32U16 ∷
    v.VreinterpretqU32U64 ∷ v.VreinterpretqU32U8 ∷ v.VreinterpretqU64S16 ∷ v.VreinterpretqU64S32 ∷ v.VreinterpretqU64S64 ∷ v.VreinterpretqU64S8 ∷
    v.VreinterpretqU64U16 ∷ v.VreinterpretqU64U32 ∷ v.VreinterpretqU64U8 ∷ v.VreinterpretqU8S16 ∷ v.VreinterpretqU8S32 ∷ v.VreinterpretqU8S64 ∷
    v.VreinterpretqU8S8 ∷ v.VreinterpretqU8U16 ∷ v.VreinterpretqU8U32 ∷ v.VreinterpretqU8U64 ∷ [])
