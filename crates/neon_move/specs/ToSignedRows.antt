-- The rows that read a vector of 128 bits as one of signed elements. One line for each, with its name and its form.
use Rattle.std.specs.Prelude.{List, [], ◌∷◌, map, codes}
use Rattle.neon_forms.specs.Row.{Row, row}
use Rattle.neon_forms.specs.declared.forms.Form.TheVariants as form
use Rattle.lane_core.specs.declared.vector.NeonLane.TheVariants as lane
use Rattle.neon_move.specs.declared.MoveOp.{MoveOp}
use Rattle.neon_move.specs.declared.MoveOp.TheVariants as op
use Rattle.neon_move.specs.declared.to_signed.ToSigned.{ToSigned}
use Rattle.neon_move.specs.declared.to_signed.ToSigned.TheVariants as v

abbrev pub to_signed_row : ToSigned → Row
to_signed_row v.VreinterpretqS16S32 = row (codes "vreinterpretq_s16_s32") (form.Reinterpret lane.S16 lane.S32)
to_signed_row v.VreinterpretqS16S64 = row (codes "vreinterpretq_s16_s64") (form.Reinterpret lane.S16 lane.S64)
to_signed_row v.VreinterpretqS16S8 = row (codes "vreinterpretq_s16_s8") (form.Reinterpret lane.S16 lane.S8)
to_signed_row v.VreinterpretqS16U16 = row (codes "vreinterpretq_s16_u16") (form.Reinterpret lane.S16 lane.U16)
to_signed_row v.VreinterpretqS16U32 = row (codes "vreinterpretq_s16_u32") (form.Reinterpret lane.S16 lane.U32)
to_signed_row v.VreinterpretqS16U64 = row (codes "vreinterpretq_s16_u64") (form.Reinterpret lane.S16 lane.U64)
to_signed_row v.VreinterpretqS16U8 = row (codes "vreinterpretq_s16_u8") (form.Reinterpret lane.S16 lane.U8)
to_signed_row v.VreinterpretqS32S16 = row (codes "vreinterpretq_s32_s16") (form.Reinterpret lane.S32 lane.S16)
to_signed_row v.VreinterpretqS32S64 = row (codes "vreinterpretq_s32_s64") (form.Reinterpret lane.S32 lane.S64)
to_signed_row v.VreinterpretqS32S8 = row (codes "vreinterpretq_s32_s8") (form.Reinterpret lane.S32 lane.S8)
to_signed_row v.VreinterpretqS32U16 = row (codes "vreinterpretq_s32_u16") (form.Reinterpret lane.S32 lane.U16)
to_signed_row v.VreinterpretqS32U32 = row (codes "vreinterpretq_s32_u32") (form.Reinterpret lane.S32 lane.U32)
to_signed_row v.VreinterpretqS32U64 = row (codes "vreinterpretq_s32_u64") (form.Reinterpret lane.S32 lane.U64)
to_signed_row v.VreinterpretqS32U8 = row (codes "vreinterpretq_s32_u8") (form.Reinterpret lane.S32 lane.U8)
to_signed_row v.VreinterpretqS64S16 = row (codes "vreinterpretq_s64_s16") (form.Reinterpret lane.S64 lane.S16)
to_signed_row v.VreinterpretqS64S32 = row (codes "vreinterpretq_s64_s32") (form.Reinterpret lane.S64 lane.S32)
to_signed_row v.VreinterpretqS64S8 = row (codes "vreinterpretq_s64_s8") (form.Reinterpret lane.S64 lane.S8)
to_signed_row v.VreinterpretqS64U16 = row (codes "vreinterpretq_s64_u16") (form.Reinterpret lane.S64 lane.U16)
to_signed_row v.VreinterpretqS64U32 = row (codes "vreinterpretq_s64_u32") (form.Reinterpret lane.S64 lane.U32)
to_signed_row v.VreinterpretqS64U64 = row (codes "vreinterpretq_s64_u64") (form.Reinterpret lane.S64 lane.U64)
to_signed_row v.VreinterpretqS64U8 = row (codes "vreinterpretq_s64_u8") (form.Reinterpret lane.S64 lane.U8)
to_signed_row v.VreinterpretqS8S16 = row (codes "vreinterpretq_s8_s16") (form.Reinterpret lane.S8 lane.S16)
to_signed_row v.VreinterpretqS8S32 = row (codes "vreinterpretq_s8_s32") (form.Reinterpret lane.S8 lane.S32)
to_signed_row v.VreinterpretqS8S64 = row (codes "vreinterpretq_s8_s64") (form.Reinterpret lane.S8 lane.S64)
to_signed_row v.VreinterpretqS8U16 = row (codes "vreinterpretq_s8_u16") (form.Reinterpret lane.S8 lane.U16)
to_signed_row v.VreinterpretqS8U32 = row (codes "vreinterpretq_s8_u32") (form.Reinterpret lane.S8 lane.U32)
to_signed_row v.VreinterpretqS8U64 = row (codes "vreinterpretq_s8_u64") (form.Reinterpret lane.S8 lane.U64)
to_signed_row v.VreinterpretqS8U8 = row (codes "vreinterpretq_s8_u8") (form.Reinterpret lane.S8 lane.U8)

-- in ascending order of their names
unfoldable pub to_signed_rows : List MoveOp
to_signed_rows = map op.ToSigned (
    v.VreinterpretqS16S32 ∷ v.VreinterpretqS16S64 ∷ v.VreinterpretqS16S8 ∷ v.VreinterpretqS16U16 ∷ v.VreinterpretqS16U32 ∷ v.VreinterpretqS16U64 ∷
    v.VreinterpretqS16U8 ∷ v.VreinterpretqS32S16 ∷ v.VreinterpretqS32S64 ∷ v.VreinterpretqS32S8 ∷ v.VreinterpretqS32U16 ∷ v.VreinterpretqS32U32 ∷
    v.VreinterpretqS32U64 ∷ v.VreinterpretqS32U8 ∷ v.VreinterpretqS64S16 ∷ v.VreinterpretqS64S32 ∷ v.VreinterpretqS64S8 ∷ v.VreinterpretqS64U16 ∷
    v.VreinterpretqS64U32 ∷ v.VreinterpretqS64U64 ∷ v.VreinterpretqS64U8 ∷ v.VreinterpretqS8S16 ∷ v.VreinterpretqS8S32 ∷ v.VreinterpretqS8S64 ∷
    v.VreinterpretqS8U16 ∷ v.VreinterpretqS8U32 ∷ v.VreinterpretqS8U64 ∷ v.VreinterpretqS8U8 ∷ [])
