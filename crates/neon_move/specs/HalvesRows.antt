-- The rows that take vectors apart into halves, and join them. One line for each, with its name and its form.
use Rattle.std.specs.Prelude.{List, [], ◌∷◌, map, codes}
use Rattle.neon_forms.specs.Row.{Row, row}
use Rattle.neon_forms.specs.declared.forms.Form.TheVariants as form
use Rattle.lane_core.specs.declared.vector.NeonLane.TheVariants as lane
use Rattle.neon_forms.specs.declared.forms.Part.TheVariants as part
use Rattle.neon_move.specs.declared.MoveOp.{MoveOp}
use Rattle.neon_move.specs.declared.MoveOp.TheVariants as op
use Rattle.neon_move.specs.declared.halves.Halves.{Halves}
use Rattle.neon_move.specs.declared.halves.Halves.TheVariants as v

abbrev pub halves_row : Halves → Row
halves_row v.VcombineS16 = row (codes "vcombine_s16") (form.Combine lane.S16)
halves_row v.VcombineS32 = row (codes "vcombine_s32") (form.Combine lane.S32)
halves_row v.VcombineS64 = row (codes "vcombine_s64") (form.Combine lane.S64)
halves_row v.VcombineS8 = row (codes "vcombine_s8") (form.Combine lane.S8)
halves_row v.VcombineU16 = row (codes "vcombine_u16") (form.Combine lane.U16)
halves_row v.VcombineU32 = row (codes "vcombine_u32") (form.Combine lane.U32)
halves_row v.VcombineU64 = row (codes "vcombine_u64") (form.Combine lane.U64)
halves_row v.VcombineU8 = row (codes "vcombine_u8") (form.Combine lane.U8)
halves_row v.VgetHighS16 = row (codes "vget_high_s16") (form.Half part.High lane.S16)
halves_row v.VgetHighS32 = row (codes "vget_high_s32") (form.Half part.High lane.S32)
halves_row v.VgetHighS64 = row (codes "vget_high_s64") (form.Half part.High lane.S64)
halves_row v.VgetHighS8 = row (codes "vget_high_s8") (form.Half part.High lane.S8)
halves_row v.VgetHighU16 = row (codes "vget_high_u16") (form.Half part.High lane.U16)
halves_row v.VgetHighU32 = row (codes "vget_high_u32") (form.Half part.High lane.U32)
halves_row v.VgetHighU64 = row (codes "vget_high_u64") (form.Half part.High lane.U64)
halves_row v.VgetHighU8 = row (codes "vget_high_u8") (form.Half part.High lane.U8)
halves_row v.VgetLowS16 = row (codes "vget_low_s16") (form.Half part.Low lane.S16)
halves_row v.VgetLowS32 = row (codes "vget_low_s32") (form.Half part.Low lane.S32)
halves_row v.VgetLowS64 = row (codes "vget_low_s64") (form.Half part.Low lane.S64)
halves_row v.VgetLowS8 = row (codes "vget_low_s8") (form.Half part.Low lane.S8)
halves_row v.VgetLowU16 = row (codes "vget_low_u16") (form.Half part.Low lane.U16)
halves_row v.VgetLowU32 = row (codes "vget_low_u32") (form.Half part.Low lane.U32)
halves_row v.VgetLowU64 = row (codes "vget_low_u64") (form.Half part.Low lane.U64)
halves_row v.VgetLowU8 = row (codes "vget_low_u8") (form.Half part.Low lane.U8)

-- in ascending order of their names
unfoldable pub halves_rows : List MoveOp
halves_rows = map op.Halves (
    v.VcombineS16 ∷ v.VcombineS32 ∷ v.VcombineS64 ∷ v.VcombineS8 ∷ v.VcombineU16 ∷ v.VcombineU32 ∷ v.VcombineU64 ∷ v.VcombineU8 ∷ v.VgetHighS16 ∷
    v.VgetHighS32 ∷ v.VgetHighS64 ∷ v.VgetHighS8 ∷ v.VgetHighU16 ∷ v.VgetHighU32 ∷ v.VgetHighU64 ∷ v.VgetHighU8 ∷ v.VgetLowS16 ∷ v.VgetLowS32 ∷
    v.VgetLowS64 ∷ v.VgetLowS8 ∷ v.VgetLowU16 ∷ v.VgetLowU32 ∷ v.VgetLowU64 ∷ v.VgetLowU8 ∷ [])
