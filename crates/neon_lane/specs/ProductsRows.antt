-- The rows that multiply at twice the width, and those that add adjacent elements. One line for each, with its name and its form.
use Rattle.std.specs.Prelude.{List, [], ◌∷◌, map, codes}
use Rattle.neon_forms.specs.Row.{Row, row}
use Rattle.neon_forms.specs.declared.forms.Form.TheVariants as form
use Rattle.lane_core.specs.declared.vector.NeonLane.TheVariants as lane
use Rattle.neon_elements.specs.declared.elements.Long.TheVariants as long
use Rattle.neon_forms.specs.declared.forms.Narrow.TheVariants as narrow
use Rattle.neon_lane.specs.declared.LaneOp.{LaneOp}
use Rattle.neon_lane.specs.declared.LaneOp.TheVariants as op
use Rattle.neon_lane.specs.declared.products.Products.{Products}
use Rattle.neon_lane.specs.declared.products.Products.TheVariants as v

abbrev pub products_row : Products → Row
products_row v.VmullHighS16 = row (codes "vmull_high_s16") (form.LengthenHigh long.Product narrow.S16)
products_row v.VmullHighS32 = row (codes "vmull_high_s32") (form.LengthenHigh long.Product narrow.S32)
products_row v.VmullHighS8 = row (codes "vmull_high_s8") (form.LengthenHigh long.Product narrow.S8)
products_row v.VmullHighU16 = row (codes "vmull_high_u16") (form.LengthenHigh long.Product narrow.U16)
products_row v.VmullHighU32 = row (codes "vmull_high_u32") (form.LengthenHigh long.Product narrow.U32)
products_row v.VmullHighU8 = row (codes "vmull_high_u8") (form.LengthenHigh long.Product narrow.U8)
products_row v.VmullS16 = row (codes "vmull_s16") (form.Lengthen long.Product narrow.S16)
products_row v.VmullS32 = row (codes "vmull_s32") (form.Lengthen long.Product narrow.S32)
products_row v.VmullS8 = row (codes "vmull_s8") (form.Lengthen long.Product narrow.S8)
products_row v.VmullU16 = row (codes "vmull_u16") (form.Lengthen long.Product narrow.U16)
products_row v.VmullU32 = row (codes "vmull_u32") (form.Lengthen long.Product narrow.U32)
products_row v.VmullU8 = row (codes "vmull_u8") (form.Lengthen long.Product narrow.U8)
products_row v.VpaddlqS16 = row (codes "vpaddlq_s16") (form.LongPairSums narrow.S16)
products_row v.VpaddlqS32 = row (codes "vpaddlq_s32") (form.LongPairSums narrow.S32)
products_row v.VpaddlqS8 = row (codes "vpaddlq_s8") (form.LongPairSums narrow.S8)
products_row v.VpaddlqU16 = row (codes "vpaddlq_u16") (form.LongPairSums narrow.U16)
products_row v.VpaddlqU32 = row (codes "vpaddlq_u32") (form.LongPairSums narrow.U32)
products_row v.VpaddlqU8 = row (codes "vpaddlq_u8") (form.LongPairSums narrow.U8)
products_row v.VpaddqS16 = row (codes "vpaddq_s16") (form.PairSums lane.S16)
products_row v.VpaddqS32 = row (codes "vpaddq_s32") (form.PairSums lane.S32)
products_row v.VpaddqS64 = row (codes "vpaddq_s64") (form.PairSums lane.S64)
products_row v.VpaddqS8 = row (codes "vpaddq_s8") (form.PairSums lane.S8)
products_row v.VpaddqU16 = row (codes "vpaddq_u16") (form.PairSums lane.U16)
products_row v.VpaddqU32 = row (codes "vpaddq_u32") (form.PairSums lane.U32)
products_row v.VpaddqU64 = row (codes "vpaddq_u64") (form.PairSums lane.U64)
products_row v.VpaddqU8 = row (codes "vpaddq_u8") (form.PairSums lane.U8)

-- in ascending order of their names
unfoldable pub products_rows : List LaneOp
products_rows = map op.Products (
    v.VmullHighS16 ∷ v.VmullHighS32 ∷ v.VmullHighS8 ∷ v.VmullHighU16 ∷ v.VmullHighU32 ∷ v.VmullHighU8 ∷ v.VmullS16 ∷ v.VmullS32 ∷ v.VmullS8 ∷
    v.VmullU16 ∷ v.VmullU32 ∷ v.VmullU8 ∷ v.VpaddlqS16 ∷ v.VpaddlqS32 ∷ v.VpaddlqS8 ∷ v.VpaddlqU16 ∷ v.VpaddlqU32 ∷ v.VpaddlqU8 ∷ v.VpaddqS16 ∷
    v.VpaddqS32 ∷ v.VpaddqS64 ∷ v.VpaddqS8 ∷ v.VpaddqU16 ∷ v.VpaddqU32 ∷ v.VpaddqU64 ∷ v.VpaddqU8 ∷ [])
