-- The rows that give, set or repeat one element. One line for each, with its name and its form.
use Rattle.std.specs.Prelude.{List, [], ◌∷◌, map, codes}
use Rattle.neon_forms.specs.Row.{Row, row}
use Rattle.neon_forms.specs.declared.forms.Form.TheVariants as form
use Rattle.lane_core.specs.declared.vector.NeonLane.TheVariants as lane
use Rattle.neon_move.specs.declared.MoveOp.{MoveOp}
use Rattle.neon_move.specs.declared.MoveOp.TheVariants as op
use Rattle.neon_move.specs.declared.places.Places.{Places}
use Rattle.neon_move.specs.declared.places.Places.TheVariants as v

abbrev pub places_row : Places → Row
places_row v.VdupqLaneqU16 = row (codes "vdupq_laneq_u16") (form.DuplicateLane lane.U16)
places_row v.VdupqLaneqU32 = row (codes "vdupq_laneq_u32") (form.DuplicateLane lane.U32)
places_row v.VdupqLaneqU64 = row (codes "vdupq_laneq_u64") (form.DuplicateLane lane.U64)
places_row v.VdupqLaneqU8 = row (codes "vdupq_laneq_u8") (form.DuplicateLane lane.U8)
places_row v.VdupqNS16 = row (codes "vdupq_n_s16") (form.Duplicate lane.S16)
places_row v.VdupqNS32 = row (codes "vdupq_n_s32") (form.Duplicate lane.S32)
places_row v.VdupqNS64 = row (codes "vdupq_n_s64") (form.Duplicate lane.S64)
places_row v.VdupqNS8 = row (codes "vdupq_n_s8") (form.Duplicate lane.S8)
places_row v.VdupqNU16 = row (codes "vdupq_n_u16") (form.Duplicate lane.U16)
places_row v.VdupqNU32 = row (codes "vdupq_n_u32") (form.Duplicate lane.U32)
places_row v.VdupqNU64 = row (codes "vdupq_n_u64") (form.Duplicate lane.U64)
places_row v.VdupqNU8 = row (codes "vdupq_n_u8") (form.Duplicate lane.U8)
places_row v.VgetqLaneS16 = row (codes "vgetq_lane_s16") (form.GetLane lane.S16)
places_row v.VgetqLaneS32 = row (codes "vgetq_lane_s32") (form.GetLane lane.S32)
places_row v.VgetqLaneS64 = row (codes "vgetq_lane_s64") (form.GetLane lane.S64)
places_row v.VgetqLaneS8 = row (codes "vgetq_lane_s8") (form.GetLane lane.S8)
places_row v.VgetqLaneU16 = row (codes "vgetq_lane_u16") (form.GetLane lane.U16)
places_row v.VgetqLaneU32 = row (codes "vgetq_lane_u32") (form.GetLane lane.U32)
places_row v.VgetqLaneU64 = row (codes "vgetq_lane_u64") (form.GetLane lane.U64)
places_row v.VgetqLaneU8 = row (codes "vgetq_lane_u8") (form.GetLane lane.U8)
places_row v.VsetqLaneS16 = row (codes "vsetq_lane_s16") (form.SetLane lane.S16)
places_row v.VsetqLaneS32 = row (codes "vsetq_lane_s32") (form.SetLane lane.S32)
places_row v.VsetqLaneS64 = row (codes "vsetq_lane_s64") (form.SetLane lane.S64)
places_row v.VsetqLaneS8 = row (codes "vsetq_lane_s8") (form.SetLane lane.S8)
places_row v.VsetqLaneU16 = row (codes "vsetq_lane_u16") (form.SetLane lane.U16)
places_row v.VsetqLaneU32 = row (codes "vsetq_lane_u32") (form.SetLane lane.U32)
places_row v.VsetqLaneU64 = row (codes "vsetq_lane_u64") (form.SetLane lane.U64)
places_row v.VsetqLaneU8 = row (codes "vsetq_lane_u8") (form.SetLane lane.U8)

-- in ascending order of their names
unfoldable pub places_rows : List MoveOp
places_rows = map op.Places (
    v.VdupqLaneqU16 ∷ v.VdupqLaneqU32 ∷ v.VdupqLaneqU64 ∷ v.VdupqLaneqU8 ∷ v.VdupqNS16 ∷ v.VdupqNS32 ∷ v.VdupqNS64 ∷ v.VdupqNS8 ∷ v.VdupqNU16 ∷
    v.VdupqNU32 ∷ v.VdupqNU64 ∷ v.VdupqNU8 ∷ v.VgetqLaneS16 ∷ v.VgetqLaneS32 ∷ v.VgetqLaneS64 ∷ v.VgetqLaneS8 ∷ v.VgetqLaneU16 ∷ v.VgetqLaneU32 ∷
    v.VgetqLaneU64 ∷ v.VgetqLaneU8 ∷ v.VsetqLaneS16 ∷ v.VsetqLaneS32 ∷ v.VsetqLaneS64 ∷ v.VsetqLaneS8 ∷ v.VsetqLaneU16 ∷ v.VsetqLaneU32 ∷
    v.VsetqLaneU64 ∷ v.VsetqLaneU8 ∷ [])
