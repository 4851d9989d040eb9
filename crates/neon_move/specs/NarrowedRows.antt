-- The rows that narrow elements. One line for each, with its name and its form.
use Rattle.std.specs.Prelude.{List, [], ◌∷◌, map, codes, true, false}
use Rattle.neon_forms.specs.Row.{Row, row}
use Rattle.neon_forms.specs.declared.forms.Form.TheVariants as form
use Rattle.neon_forms.specs.declared.forms.Narrow.TheVariants as narrow
use Rattle.neon_elements.specs.declared.elements.Narrowing.TheVariants as narrowing
use Rattle.neon_move.specs.declared.MoveOp.{MoveOp}
use Rattle.neon_move.specs.declared.MoveOp.TheVariants as op
use Rattle.neon_move.specs.declared.narrowed.Narrowed.{Narrowed}
use Rattle.neon_move.specs.declared.narrowed.Narrowed.TheVariants as v

abbrev pub narrowed_row : Narrowed → Row
narrowed_row v.VmovnS16 = row (codes "vmovn_s16") (form.Narrowed narrowing.Low narrow.S8)
narrowed_row v.VmovnS32 = row (codes "vmovn_s32") (form.Narrowed narrowing.Low narrow.S16)
narrowed_row v.VmovnS64 = row (codes "vmovn_s64") (form.Narrowed narrowing.Low narrow.S32)
narrowed_row v.VmovnU16 = row (codes "vmovn_u16") (form.Narrowed narrowing.Low narrow.U8)
narrowed_row v.VmovnU32 = row (codes "vmovn_u32") (form.Narrowed narrowing.Low narrow.U16)
narrowed_row v.VmovnU64 = row (codes "vmovn_u64") (form.Narrowed narrowing.Low narrow.U32)
narrowed_row v.VqmovnS16 = row (codes "vqmovn_s16") (form.Narrowed narrowing.Saturate narrow.S8)
narrowed_row v.VqmovnS32 = row (codes "vqmovn_s32") (form.Narrowed narrowing.Saturate narrow.S16)
narrowed_row v.VqmovnU16 = row (codes "vqmovn_u16") (form.Narrowed narrowing.Saturate narrow.U8)
narrowed_row v.VqmovnU32 = row (codes "vqmovn_u32") (form.Narrowed narrowing.Saturate narrow.U16)
narrowed_row v.VqmovunS16 = row (codes "vqmovun_s16") (form.NarrowedUnsigned narrow.S8)
narrowed_row v.VqmovunS32 = row (codes "vqmovun_s32") (form.NarrowedUnsigned narrow.S16)
narrowed_row v.VrshrnNS16 = row (codes "vrshrn_n_s16") (form.ShiftNarrowed true narrow.S8)
narrowed_row v.VrshrnNS32 = row (codes "vrshrn_n_s32") (form.ShiftNarrowed true narrow.S16)
narrowed_row v.VrshrnNS64 = row (codes "vrshrn_n_s64") (form.ShiftNarrowed true narrow.S32)
narrowed_row v.VrshrnNU16 = row (codes "vrshrn_n_u16") (form.ShiftNarrowed true narrow.U8)
narrowed_row v.VrshrnNU32 = row (codes "vrshrn_n_u32") (form.ShiftNarrowed true narrow.U16)
narrowed_row v.VrshrnNU64 = row (codes "vrshrn_n_u64") (form.ShiftNarrowed true narrow.U32)
narrowed_row v.VshrnNS16 = row (codes "vshrn_n_s16") (form.ShiftNarrowed false narrow.S8)
narrowed_row v.VshrnNS32 = row (codes "vshrn_n_s32") (form.ShiftNarrowed false narrow.S16)
narrowed_row v.VshrnNS64 = row (codes "vshrn_n_s64") (form.ShiftNarrowed false narrow.S32)
narrowed_row v.VshrnNU16 = row (codes "vshrn_n_u16") (form.ShiftNarrowed false narrow.U8)
narrowed_row v.VshrnNU32 = row (codes "vshrn_n_u32") (form.ShiftNarrowed false narrow.U16)
narrowed_row v.VshrnNU64 = row (codes "vshrn_n_u64") (form.ShiftNarrowed false narrow.U32)

-- in ascending order of their names
unfoldable pub narrowed_rows : List MoveOp
narrowed_rows = map op.Narrowed (
    v.VmovnS16 ∷ v.VmovnS32 ∷ v.VmovnS64 ∷ v.VmovnU16 ∷ v.VmovnU32 ∷ v.VmovnU64 ∷ v.VqmovnS16 ∷ v.VqmovnS32 ∷ v.VqmovnU16 ∷ v.VqmovnU32 ∷
    v.VqmovunS16 ∷ v.VqmovunS32 ∷ v.VrshrnNS16 ∷ v.VrshrnNS32 ∷ v.VrshrnNS64 ∷ v.VrshrnNU16 ∷ v.VrshrnNU32 ∷ v.VrshrnNU64 ∷ v.VshrnNS16 ∷
    v.VshrnNS32 ∷ v.VshrnNS64 ∷ v.VshrnNU16 ∷ v.VshrnNU32 ∷ v.VshrnNU64 ∷ [])
