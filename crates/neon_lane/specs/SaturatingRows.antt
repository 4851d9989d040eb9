-- The rows that saturate, halve or take differences. One line for each, with its name and its form.
use Rattle.std.specs.Prelude.{List, [], ◌∷◌, map, codes}
use Rattle.neon_forms.specs.Row.{Row, row}
use Rattle.neon_forms.specs.declared.forms.Form.TheVariants as form
use Rattle.neon_elements.specs.declared.elements.Binary.TheVariants as binary
use Rattle.lane_core.specs.declared.vector.NeonLane.TheVariants as lane
use Rattle.neon_elements.specs.declared.elements.Long.TheVariants as long
use Rattle.neon_forms.specs.declared.forms.Narrow.TheVariants as narrow
use Rattle.neon_lane.specs.declared.LaneOp.{LaneOp}
use Rattle.neon_lane.specs.declared.LaneOp.TheVariants as op
use Rattle.neon_lane.specs.declared.saturating.Saturating.{Saturating}
use Rattle.neon_lane.specs.declared.saturating.Saturating.TheVariants as v

abbrev pub saturating_row : Saturating → Row
saturating_row v.VabdlHighU8 = row (codes "vabdl_high_u8") (form.LengthenHigh long.Difference narrow.U8)
saturating_row v.VabdlU8 = row (codes "vabdl_u8") (form.Lengthen long.Difference narrow.U8)
saturating_row v.VabdqU16 = row (codes "vabdq_u16") (form.Each2 binary.AbsoluteDifference lane.U16)
saturating_row v.VabdqU32 = row (codes "vabdq_u32") (form.Each2 binary.AbsoluteDifference lane.U32)
saturating_row v.VabdqU8 = row (codes "vabdq_u8") (form.Each2 binary.AbsoluteDifference lane.U8)
saturating_row v.VqaddqS16 = row (codes "vqaddq_s16") (form.Each2 binary.SaturatingAdd lane.S16)
saturating_row v.VqaddqS32 = row (codes "vqaddq_s32") (form.Each2 binary.SaturatingAdd lane.S32)
saturating_row v.VqaddqS64 = row (codes "vqaddq_s64") (form.Each2 binary.SaturatingAdd lane.S64)
saturating_row v.VqaddqS8 = row (codes "vqaddq_s8") (form.Each2 binary.SaturatingAdd lane.S8)
saturating_row v.VqaddqU16 = row (codes "vqaddq_u16") (form.Each2 binary.SaturatingAdd lane.U16)
saturating_row v.VqaddqU32 = row (codes "vqaddq_u32") (form.Each2 binary.SaturatingAdd lane.U32)
saturating_row v.VqaddqU64 = row (codes "vqaddq_u64") (form.Each2 binary.SaturatingAdd lane.U64)
saturating_row v.VqaddqU8 = row (codes "vqaddq_u8") (form.Each2 binary.SaturatingAdd lane.U8)
saturating_row v.VqsubqS16 = row (codes "vqsubq_s16") (form.Each2 binary.SaturatingSub lane.S16)
saturating_row v.VqsubqS32 = row (codes "vqsubq_s32") (form.Each2 binary.SaturatingSub lane.S32)
saturating_row v.VqsubqS64 = row (codes "vqsubq_s64") (form.Each2 binary.SaturatingSub lane.S64)
saturating_row v.VqsubqS8 = row (codes "vqsubq_s8") (form.Each2 binary.SaturatingSub lane.S8)
saturating_row v.VqsubqU16 = row (codes "vqsubq_u16") (form.Each2 binary.SaturatingSub lane.U16)
saturating_row v.VqsubqU32 = row (codes "vqsubq_u32") (form.Each2 binary.SaturatingSub lane.U32)
saturating_row v.VqsubqU64 = row (codes "vqsubq_u64") (form.Each2 binary.SaturatingSub lane.U64)
saturating_row v.VqsubqU8 = row (codes "vqsubq_u8") (form.Each2 binary.SaturatingSub lane.U8)
saturating_row v.VrhaddqU16 = row (codes "vrhaddq_u16") (form.Each2 binary.RoundingHalvingAdd lane.U16)
saturating_row v.VrhaddqU8 = row (codes "vrhaddq_u8") (form.Each2 binary.RoundingHalvingAdd lane.U8)

-- in ascending order of their names
unfoldable pub saturating_rows : List LaneOp
saturating_rows = map op.Saturating (
    v.VabdlHighU8 ∷ v.VabdlU8 ∷ v.VabdqU16 ∷ v.VabdqU32 ∷ v.VabdqU8 ∷ v.VqaddqS16 ∷ v.VqaddqS32 ∷ v.VqaddqS64 ∷ v.VqaddqS8 ∷ v.VqaddqU16 ∷
    v.VqaddqU32 ∷ v.VqaddqU64 ∷ v.VqaddqU8 ∷ v.VqsubqS16 ∷ v.VqsubqS32 ∷ v.VqsubqS64 ∷ v.VqsubqS8 ∷ v.VqsubqU16 ∷ v.VqsubqU32 ∷ v.VqsubqU64 ∷
    v.VqsubqU8 ∷ v.VrhaddqU16 ∷ v.VrhaddqU8 ∷ [])
