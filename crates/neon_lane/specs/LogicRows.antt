-- The rows that work bit by bit on two vectors. One line for each, with its name and its form.
use Rattle.std.specs.Prelude.{List, [], ◌∷◌, map, codes}
use Rattle.neon_forms.specs.Row.{Row, row}
use Rattle.neon_forms.specs.declared.forms.Form.TheVariants as form
use Rattle.neon_elements.specs.declared.elements.Binary.TheVariants as binary
use Rattle.lane_core.specs.declared.vector.NeonLane.TheVariants as lane
use Rattle.neon_lane.specs.declared.LaneOp.{LaneOp}
use Rattle.neon_lane.specs.declared.LaneOp.TheVariants as op
use Rattle.neon_lane.specs.declared.logic.Logic.{Logic}
use Rattle.neon_lane.specs.declared.logic.Logic.TheVariants as v

abbrev pub logic_row : Logic → Row
logic_row v.VandqS16 = row (codes "vandq_s16") (form.Each2 binary.And lane.S16)
logic_row v.VandqS32 = row (codes "vandq_s32") (form.Each2 binary.And lane.S32)
logic_row v.VandqS64 = row (codes "vandq_s64") (form.Each2 binary.And lane.S64)
logic_row v.VandqS8 = row (codes "vandq_s8") (form.Each2 binary.And lane.S8)
logic_row v.VandqU16 = row (codes "vandq_u16") (form.Each2 binary.And lane.U16)
logic_row v.VandqU32 = row (codes "vandq_u32") (form.Each2 binary.And lane.U32)
logic_row v.VandqU64 = row (codes "vandq_u64") (form.Each2 binary.And lane.U64)
logic_row v.VandqU8 = row (codes "vandq_u8") (form.Each2 binary.And lane.U8)
logic_row v.VbicqS16 = row (codes "vbicq_s16") (form.Each2 binary.Bic lane.S16)
logic_row v.VbicqS32 = row (codes "vbicq_s32") (form.Each2 binary.Bic lane.S32)
logic_row v.VbicqS64 = row (codes "vbicq_s64") (form.Each2 binary.Bic lane.S64)
logic_row v.VbicqS8 = row (codes "vbicq_s8") (form.Each2 binary.Bic lane.S8)
logic_row v.VbicqU16 = row (codes "vbicq_u16") (form.Each2 binary.Bic lane.U16)
logic_row v.VbicqU32 = row (codes "vbicq_u32") (form.Each2 binary.Bic lane.U32)
logic_row v.VbicqU64 = row (codes "vbicq_u64") (form.Each2 binary.Bic lane.U64)
logic_row v.VbicqU8 = row (codes "vbicq_u8") (form.Each2 binary.Bic lane.U8)
logic_row v.VeorqS16 = row (codes "veorq_s16") (form.Each2 binary.Eor lane.S16)
logic_row v.VeorqS32 = row (codes "veorq_s32") (form.Each2 binary.Eor lane.S32)
logic_row v.VeorqS64 = row (codes "veorq_s64") (form.Each2 binary.Eor lane.S64)
logic_row v.VeorqS8 = row (codes "veorq_s8") (form.Each2 binary.Eor lane.S8)
logic_row v.VeorqU16 = row (codes "veorq_u16") (form.Each2 binary.Eor lane.U16)
logic_row v.VeorqU32 = row (codes "veorq_u32") (form.Each2 binary.Eor lane.U32)
logic_row v.VeorqU64 = row (codes "veorq_u64") (form.Each2 binary.Eor lane.U64)
logic_row v.VeorqU8 = row (codes "veorq_u8") (form.Each2 binary.Eor lane.U8)
logic_row v.VorrqS16 = row (codes "vorrq_s16") (form.Each2 binary.Orr lane.S16)
logic_row v.VorrqS32 = row (codes "vorrq_s32") (form.Each2 binary.Orr lane.S32)
logic_row v.VorrqS64 = row (codes "vorrq_s64") (form.Each2 binary.Orr lane.S64)
logic_row v.VorrqS8 = row (codes "vorrq_s8") (form.Each2 binary.Orr lane.S8)
logic_row v.VorrqU16 = row (codes "vorrq_u16") (form.Each2 binary.Orr lane.U16)
logic_row v.VorrqU32 = row (codes "vorrq_u32") (form.Each2 binary.Orr lane.U32)
logic_row v.VorrqU64 = row (codes "vorrq_u64") (form.Each2 binary.Orr lane.U64)
logic_row v.VorrqU8 = row (codes "vorrq_u8") (form.Each2 binary.Orr lane.U8)

-- in ascending order of their names
unfoldable pub logic_rows : List LaneOp
logic_rows = map op.Logic (
    v.VandqS16 ∷ v.VandqS32 ∷ v.VandqS64 ∷ v.VandqS8 ∷ v.VandqU16 ∷ v.VandqU32 ∷ v.VandqU64 ∷ v.VandqU8 ∷ v.VbicqS16 ∷ v.VbicqS32 ∷ v.VbicqS64 ∷
    v.VbicqS8 ∷ v.VbicqU16 ∷ v.VbicqU32 ∷ v.VbicqU64 ∷ v.VbicqU8 ∷ v.VeorqS16 ∷ v.VeorqS32 ∷ v.VeorqS64 ∷ v.VeorqS8 ∷ v.VeorqU16 ∷ v.VeorqU32 ∷
    v.VeorqU64 ∷ v.VeorqU8 ∷ v.VorrqS16 ∷ v.VorrqS32 ∷ v.VorrqS64 ∷ v.VorrqS8 ∷ v.VorrqU16 ∷ v.VorrqU32 ∷ v.VorrqU64 ∷ v.VorrqU8 ∷ [])
