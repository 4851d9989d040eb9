-- The rows that shift each element. One line for each, with its name and its form.
use Rattle.std.specs.Prelude.{List, [], ◌∷◌, map, codes}
use Rattle.neon_forms.specs.Row.{Row, row}
use Rattle.neon_forms.specs.declared.forms.Form.TheVariants as form
use Rattle.lane_core.specs.declared.vector.NeonLane.TheVariants as lane
use Rattle.neon_lane.specs.declared.LaneOp.{LaneOp}
use Rattle.neon_lane.specs.declared.LaneOp.TheVariants as op
use Rattle.neon_lane.specs.declared.shifts.Shifts.{Shifts}
use Rattle.neon_lane.specs.declared.shifts.Shifts.TheVariants as v

abbrev pub shifts_row : Shifts → Row
shifts_row v.VshlqNS16 = row (codes "vshlq_n_s16") (form.ShiftLeft lane.S16)
shifts_row v.VshlqNS32 = row (codes "vshlq_n_s32") (form.ShiftLeft lane.S32)
shifts_row v.VshlqNS64 = row (codes "vshlq_n_s64") (form.ShiftLeft lane.S64)
shifts_row v.VshlqNS8 = row (codes "vshlq_n_s8") (form.ShiftLeft lane.S8)
shifts_row v.VshlqNU16 = row (codes "vshlq_n_u16") (form.ShiftLeft lane.U16)
shifts_row v.VshlqNU32 = row (codes "vshlq_n_u32") (form.ShiftLeft lane.U32)
shifts_row v.VshlqNU64 = row (codes "vshlq_n_u64") (form.ShiftLeft lane.U64)
shifts_row v.VshlqNU8 = row (codes "vshlq_n_u8") (form.ShiftLeft lane.U8)
shifts_row v.VshlqS16 = row (codes "vshlq_s16") (form.ShiftBy lane.S16)
shifts_row v.VshlqS32 = row (codes "vshlq_s32") (form.ShiftBy lane.S32)
shifts_row v.VshlqS64 = row (codes "vshlq_s64") (form.ShiftBy lane.S64)
shifts_row v.VshlqS8 = row (codes "vshlq_s8") (form.ShiftBy lane.S8)
shifts_row v.VshlqU16 = row (codes "vshlq_u16") (form.ShiftBy lane.U16)
shifts_row v.VshlqU32 = row (codes "vshlq_u32") (form.ShiftBy lane.U32)
shifts_row v.VshlqU64 = row (codes "vshlq_u64") (form.ShiftBy lane.U64)
shifts_row v.VshlqU8 = row (codes "vshlq_u8") (form.ShiftBy lane.U8)
shifts_row v.VshrqNS16 = row (codes "vshrq_n_s16") (form.ShiftRight lane.S16)
shifts_row v.VshrqNS32 = row (codes "vshrq_n_s32") (form.ShiftRight lane.S32)
shifts_row v.VshrqNS64 = row (codes "vshrq_n_s64") (form.ShiftRight lane.S64)
shifts_row v.VshrqNS8 = row (codes "vshrq_n_s8") (form.ShiftRight lane.S8)
shifts_row v.VshrqNU16 = row (codes "vshrq_n_u16") (form.ShiftRight lane.U16)
shifts_row v.VshrqNU32 = row (codes "vshrq_n_u32") (form.ShiftRight lane.U32)
shifts_row v.VshrqNU64 = row (codes "vshrq_n_u64") (form.ShiftRight lane.U64)
shifts_row v.VshrqNU8 = row (codes "vshrq_n_u8") (form.ShiftRight lane.U8)

-- in ascending order of their names
unfoldable pub shifts_rows : List LaneOp
shifts_rows = map op.Shifts (
    v.VshlqNS16 ∷ v.VshlqNS32 ∷ v.VshlqNS64 ∷ v.VshlqNS8 ∷ v.VshlqNU16 ∷ v.VshlqNU32 ∷ v.VshlqNU64 ∷ v.VshlqNU8 ∷ v.VshlqS16 ∷ v.VshlqS32 ∷
    v.VshlqS64 ∷ v.VshlqS8 ∷ v.VshlqU16 ∷ v.VshlqU32 ∷ v.VshlqU64 ∷ v.VshlqU8 ∷ v.VshrqNS16 ∷ v.VshrqNS32 ∷ v.VshrqNS64 ∷ v.VshrqNS8 ∷ v.VshrqNU16 ∷
    v.VshrqNU32 ∷ v.VshrqNU64 ∷ v.VshrqNU8 ∷ [])
