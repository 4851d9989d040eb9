-- The rows that compare, and those that choose or turn bits. One line for each, with its name and its form.
use Rattle.std.specs.Prelude.{List, [], ◌∷◌, map, codes}
use Rattle.neon_forms.specs.Row.{Row, row}
use Rattle.neon_forms.specs.declared.forms.Form.TheVariants as form
use Rattle.neon_elements.specs.declared.elements.Compare.TheVariants as compare
use Rattle.lane_core.specs.declared.vector.NeonLane.TheVariants as lane
use Rattle.neon_elements.specs.declared.elements.Unary.TheVariants as unary
use Rattle.neon_lane.specs.declared.LaneOp.{LaneOp}
use Rattle.neon_lane.specs.declared.LaneOp.TheVariants as op
use Rattle.neon_lane.specs.declared.choices.Choices.{Choices}
use Rattle.neon_lane.specs.declared.choices.Choices.TheVariants as v

abbrev pub choices_row : Choices → Row
choices_row v.VbslqS16 = row (codes "vbslq_s16") (form.Select lane.S16)
choices_row v.VbslqS32 = row (codes "vbslq_s32") (form.Select lane.S32)
choices_row v.VbslqS64 = row (codes "vbslq_s64") (form.Select lane.S64)
choices_row v.VbslqS8 = row (codes "vbslq_s8") (form.Select lane.S8)
choices_row v.VbslqU16 = row (codes "vbslq_u16") (form.Select lane.U16)
choices_row v.VbslqU32 = row (codes "vbslq_u32") (form.Select lane.U32)
choices_row v.VbslqU64 = row (codes "vbslq_u64") (form.Select lane.U64)
choices_row v.VbslqU8 = row (codes "vbslq_u8") (form.Select lane.U8)
choices_row v.VceqqS16 = row (codes "vceqq_s16") (form.Compared compare.Equal lane.S16)
choices_row v.VceqqS32 = row (codes "vceqq_s32") (form.Compared compare.Equal lane.S32)
choices_row v.VceqqS64 = row (codes "vceqq_s64") (form.Compared compare.Equal lane.S64)
choices_row v.VceqqS8 = row (codes "vceqq_s8") (form.Compared compare.Equal lane.S8)
choices_row v.VceqqU16 = row (codes "vceqq_u16") (form.Compared compare.Equal lane.U16)
choices_row v.VceqqU32 = row (codes "vceqq_u32") (form.Compared compare.Equal lane.U32)
choices_row v.VceqqU64 = row (codes "vceqq_u64") (form.Compared compare.Equal lane.U64)
choices_row v.VceqqU8 = row (codes "vceqq_u8") (form.Compared compare.Equal lane.U8)
choices_row v.VcgtqS16 = row (codes "vcgtq_s16") (form.Compared compare.Greater lane.S16)
choices_row v.VcgtqS32 = row (codes "vcgtq_s32") (form.Compared compare.Greater lane.S32)
choices_row v.VcgtqS64 = row (codes "vcgtq_s64") (form.Compared compare.Greater lane.S64)
choices_row v.VcgtqS8 = row (codes "vcgtq_s8") (form.Compared compare.Greater lane.S8)
choices_row v.VcgtqU16 = row (codes "vcgtq_u16") (form.Compared compare.Greater lane.U16)
choices_row v.VcgtqU32 = row (codes "vcgtq_u32") (form.Compared compare.Greater lane.U32)
choices_row v.VcgtqU64 = row (codes "vcgtq_u64") (form.Compared compare.Greater lane.U64)
choices_row v.VcgtqU8 = row (codes "vcgtq_u8") (form.Compared compare.Greater lane.U8)
choices_row v.VmvnqU16 = row (codes "vmvnq_u16") (form.Each1 unary.Not lane.U16)
choices_row v.VmvnqU32 = row (codes "vmvnq_u32") (form.Each1 unary.Not lane.U32)
choices_row v.VmvnqU8 = row (codes "vmvnq_u8") (form.Each1 unary.Not lane.U8)

-- in ascending order of their names
unfoldable pub choices_rows : List LaneOp
choices_rows = map op.Choices (
    v.VbslqS16 ∷ v.VbslqS32 ∷ v.VbslqS64 ∷ v.VbslqS8 ∷ v.VbslqU16 ∷ v.VbslqU32 ∷ v.VbslqU64 ∷ v.VbslqU8 ∷ v.VceqqS16 ∷ v.VceqqS32 ∷ v.VceqqS64 ∷
    v.VceqqS8 ∷ v.VceqqU16 ∷ v.VceqqU32 ∷ v.VceqqU64 ∷ v.VceqqU8 ∷ v.VcgtqS16 ∷ v.VcgtqS32 ∷ v.VcgtqS64 ∷ v.VcgtqS8 ∷ v.VcgtqU16 ∷ v.VcgtqU32 ∷
    v.VcgtqU64 ∷ v.VcgtqU8 ∷ v.VmvnqU16 ∷ v.VmvnqU32 ∷ v.VmvnqU8 ∷ [])
