-- The rows of least and greatest elements, and of all elements of a vector. One line for each, with its name and its form.
use Rattle.std.specs.Prelude.{List, [], ◌∷◌, map, codes}
use Rattle.neon_forms.specs.Row.{Row, row}
use Rattle.neon_forms.specs.declared.forms.Form.TheVariants as form
use Rattle.neon_elements.specs.declared.vectors.Across.TheVariants as across
use Rattle.neon_elements.specs.declared.elements.Binary.TheVariants as binary
use Rattle.lane_core.specs.declared.vector.NeonLane.TheVariants as lane
use Rattle.neon_forms.specs.declared.forms.Narrow.TheVariants as narrow
use Rattle.neon_lane.specs.declared.LaneOp.{LaneOp}
use Rattle.neon_lane.specs.declared.LaneOp.TheVariants as op
use Rattle.neon_lane.specs.declared.extremes.Extremes.{Extremes}
use Rattle.neon_lane.specs.declared.extremes.Extremes.TheVariants as v

abbrev pub extremes_row : Extremes → Row
extremes_row v.VaddvU8 = row (codes "vaddv_u8") (form.ReduceHalf across.Sum narrow.U8)
extremes_row v.VaddvqU16 = row (codes "vaddvq_u16") (form.Reduce across.Sum narrow.U16)
extremes_row v.VaddvqU8 = row (codes "vaddvq_u8") (form.Reduce across.Sum narrow.U8)
extremes_row v.VmaxqS16 = row (codes "vmaxq_s16") (form.Each2 binary.Max lane.S16)
extremes_row v.VmaxqS32 = row (codes "vmaxq_s32") (form.Each2 binary.Max lane.S32)
extremes_row v.VmaxqS8 = row (codes "vmaxq_s8") (form.Each2 binary.Max lane.S8)
extremes_row v.VmaxqU16 = row (codes "vmaxq_u16") (form.Each2 binary.Max lane.U16)
extremes_row v.VmaxqU32 = row (codes "vmaxq_u32") (form.Each2 binary.Max lane.U32)
extremes_row v.VmaxqU8 = row (codes "vmaxq_u8") (form.Each2 binary.Max lane.U8)
extremes_row v.VmaxvqU32 = row (codes "vmaxvq_u32") (form.Reduce across.Greatest narrow.U32)
extremes_row v.VmaxvqU8 = row (codes "vmaxvq_u8") (form.Reduce across.Greatest narrow.U8)
extremes_row v.VminqS16 = row (codes "vminq_s16") (form.Each2 binary.Min lane.S16)
extremes_row v.VminqS32 = row (codes "vminq_s32") (form.Each2 binary.Min lane.S32)
extremes_row v.VminqS8 = row (codes "vminq_s8") (form.Each2 binary.Min lane.S8)
extremes_row v.VminqU16 = row (codes "vminq_u16") (form.Each2 binary.Min lane.U16)
extremes_row v.VminqU32 = row (codes "vminq_u32") (form.Each2 binary.Min lane.U32)
extremes_row v.VminqU8 = row (codes "vminq_u8") (form.Each2 binary.Min lane.U8)
extremes_row v.VminvqU16 = row (codes "vminvq_u16") (form.Reduce across.Least narrow.U16)
extremes_row v.VminvqU8 = row (codes "vminvq_u8") (form.Reduce across.Least narrow.U8)

-- in ascending order of their names
unfoldable pub extremes_rows : List LaneOp
extremes_rows = map op.Extremes (
    v.VaddvU8 ∷ v.VaddvqU16 ∷ v.VaddvqU8 ∷ v.VmaxqS16 ∷ v.VmaxqS32 ∷ v.VmaxqS8 ∷ v.VmaxqU16 ∷ v.VmaxqU32 ∷ v.VmaxqU8 ∷ v.VmaxvqU32 ∷ v.VmaxvqU8 ∷
    v.VminqS16 ∷ v.VminqS32 ∷ v.VminqS8 ∷ v.VminqU16 ∷ v.VminqU32 ∷ v.VminqU8 ∷ v.VminvqU16 ∷ v.VminvqU8 ∷ [])
