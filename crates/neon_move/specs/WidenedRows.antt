-- The rows that widen elements. One line for each, with its name and its form.
use Rattle.std.specs.Prelude.{List, [], ◌∷◌, map, codes}
use Rattle.neon_forms.specs.Row.{Row, row}
use Rattle.neon_forms.specs.declared.forms.Form.TheVariants as form
use Rattle.neon_forms.specs.declared.forms.Narrow.TheVariants as narrow
use Rattle.neon_move.specs.declared.MoveOp.{MoveOp}
use Rattle.neon_move.specs.declared.MoveOp.TheVariants as op
use Rattle.neon_move.specs.declared.widened.Widened.{Widened}
use Rattle.neon_move.specs.declared.widened.Widened.TheVariants as v

abbrev pub widened_row : Widened → Row
widened_row v.VmovlHighS16 = row (codes "vmovl_high_s16") (form.WidenHigh narrow.S16)
widened_row v.VmovlHighS32 = row (codes "vmovl_high_s32") (form.WidenHigh narrow.S32)
widened_row v.VmovlHighS8 = row (codes "vmovl_high_s8") (form.WidenHigh narrow.S8)
widened_row v.VmovlHighU16 = row (codes "vmovl_high_u16") (form.WidenHigh narrow.U16)
widened_row v.VmovlHighU32 = row (codes "vmovl_high_u32") (form.WidenHigh narrow.U32)
widened_row v.VmovlHighU8 = row (codes "vmovl_high_u8") (form.WidenHigh narrow.U8)
widened_row v.VmovlS16 = row (codes "vmovl_s16") (form.Widen narrow.S16)
widened_row v.VmovlS32 = row (codes "vmovl_s32") (form.Widen narrow.S32)
widened_row v.VmovlS8 = row (codes "vmovl_s8") (form.Widen narrow.S8)
widened_row v.VmovlU16 = row (codes "vmovl_u16") (form.Widen narrow.U16)
widened_row v.VmovlU32 = row (codes "vmovl_u32") (form.Widen narrow.U32)
widened_row v.VmovlU8 = row (codes "vmovl_u8") (form.Widen narrow.U8)

-- in ascending order of their names
unfoldable pub widened_rows : List MoveOp
widened_rows = map op.Widened (
    v.VmovlHighS16 ∷ v.VmovlHighS32 ∷ v.VmovlHighS8 ∷ v.VmovlHighU16 ∷ v.VmovlHighU32 ∷ v.VmovlHighU8 ∷ v.VmovlS16 ∷ v.VmovlS32 ∷ v.VmovlS8 ∷
    v.VmovlU16 ∷ v.VmovlU32 ∷ v.VmovlU8 ∷ [])
