-- The rows that add, subtract and multiply elements. One line for each, with its name and its form.
use Rattle.std.specs.Prelude.{List, [], ◌∷◌, map, codes}
use Rattle.neon_forms.specs.Row.{Row, row}
use Rattle.neon_forms.specs.declared.forms.Form.TheVariants as form
use Rattle.neon_elements.specs.declared.elements.Binary.TheVariants as binary
use Rattle.lane_core.specs.declared.vector.NeonLane.TheVariants as lane
use Rattle.neon_elements.specs.declared.elements.Unary.TheVariants as unary
use Rattle.neon_lane.specs.declared.LaneOp.{LaneOp}
use Rattle.neon_lane.specs.declared.LaneOp.TheVariants as op
use Rattle.neon_lane.specs.declared.arithmetic.Arithmetic.{Arithmetic}
use Rattle.neon_lane.specs.declared.arithmetic.Arithmetic.TheVariants as v

abbrev pub arithmetic_row : Arithmetic → Row
arithmetic_row v.VabsqS16 = row (codes "vabsq_s16") (form.Each1 unary.Absolute lane.S16)
arithmetic_row v.VabsqS32 = row (codes "vabsq_s32") (form.Each1 unary.Absolute lane.S32)
arithmetic_row v.VabsqS64 = row (codes "vabsq_s64") (form.Each1 unary.Absolute lane.S64)
arithmetic_row v.VabsqS8 = row (codes "vabsq_s8") (form.Each1 unary.Absolute lane.S8)
arithmetic_row v.VaddqS16 = row (codes "vaddq_s16") (form.Each2 binary.Add lane.S16)
arithmetic_row v.VaddqS32 = row (codes "vaddq_s32") (form.Each2 binary.Add lane.S32)
arithmetic_row v.VaddqS64 = row (codes "vaddq_s64") (form.Each2 binary.Add lane.S64)
arithmetic_row v.VaddqS8 = row (codes "vaddq_s8") (form.Each2 binary.Add lane.S8)
arithmetic_row v.VaddqU16 = row (codes "vaddq_u16") (form.Each2 binary.Add lane.U16)
arithmetic_row v.VaddqU32 = row (codes "vaddq_u32") (form.Each2 binary.Add lane.U32)
arithmetic_row v.VaddqU64 = row (codes "vaddq_u64") (form.Each2 binary.Add lane.U64)
arithmetic_row v.VaddqU8 = row (codes "vaddq_u8") (form.Each2 binary.Add lane.U8)
arithmetic_row v.VmulqS16 = row (codes "vmulq_s16") (form.Each2 binary.Multiply lane.S16)
arithmetic_row v.VmulqS32 = row (codes "vmulq_s32") (form.Each2 binary.Multiply lane.S32)
arithmetic_row v.VmulqS8 = row (codes "vmulq_s8") (form.Each2 binary.Multiply lane.S8)
arithmetic_row v.VmulqU16 = row (codes "vmulq_u16") (form.Each2 binary.Multiply lane.U16)
arithmetic_row v.VmulqU32 = row (codes "vmulq_u32") (form.Each2 binary.Multiply lane.U32)
arithmetic_row v.VmulqU8 = row (codes "vmulq_u8") (form.Each2 binary.Multiply lane.U8)
arithmetic_row v.VnegqS16 = row (codes "vnegq_s16") (form.Each1 unary.Negate lane.S16)
arithmetic_row v.VnegqS32 = row (codes "vnegq_s32") (form.Each1 unary.Negate lane.S32)
arithmetic_row v.VnegqS64 = row (codes "vnegq_s64") (form.Each1 unary.Negate lane.S64)
arithmetic_row v.VnegqS8 = row (codes "vnegq_s8") (form.Each1 unary.Negate lane.S8)
arithmetic_row v.VsubqS16 = row (codes "vsubq_s16") (form.Each2 binary.Sub lane.S16)
arithmetic_row v.VsubqS32 = row (codes "vsubq_s32") (form.Each2 binary.Sub lane.S32)
arithmetic_row v.VsubqS64 = row (codes "vsubq_s64") (form.Each2 binary.Sub lane.S64)
arithmetic_row v.VsubqS8 = row (codes "vsubq_s8") (form.Each2 binary.Sub lane.S8)
arithmetic_row v.VsubqU16 = row (codes "vsubq_u16") (form.Each2 binary.Sub lane.U16)
arithmetic_row v.VsubqU32 = row (codes "vsubq_u32") (form.Each2 binary.Sub lane.U32)
arithmetic_row v.VsubqU64 = row (codes "vsubq_u64") (form.Each2 binary.Sub lane.U64)
arithmetic_row v.VsubqU8 = row (codes "vsubq_u8") (form.Each2 binary.Sub lane.U8)

-- in ascending order of their names
unfoldable pub arithmetic_rows : List LaneOp
arithmetic_rows = map op.Arithmetic (
    v.VabsqS16 ∷ v.VabsqS32 ∷ v.VabsqS64 ∷ v.VabsqS8 ∷ v.VaddqS16 ∷ v.VaddqS32 ∷ v.VaddqS64 ∷ v.VaddqS8 ∷ v.VaddqU16 ∷ v.VaddqU32 ∷ v.VaddqU64 ∷
    v.VaddqU8 ∷ v.VmulqS16 ∷ v.VmulqS32 ∷ v.VmulqS8 ∷ v.VmulqU16 ∷ v.VmulqU32 ∷ v.VmulqU8 ∷ v.VnegqS16 ∷ v.VnegqS32 ∷ v.VnegqS64 ∷ v.VnegqS8 ∷
    v.VsubqS16 ∷ v.VsubqS32 ∷ v.VsubqS64 ∷ v.VsubqS8 ∷ v.VsubqU16 ∷ v.VsubqU32 ∷ v.VsubqU64 ∷ v.VsubqU8 ∷ [])
