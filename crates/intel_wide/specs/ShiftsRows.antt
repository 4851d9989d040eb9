-- The rows on 32 bytes that shift. One line for each, with its name and its form.
use Rattle.std.specs.Prelude.{List, [], ◌∷◌, map, codes}
use Rattle.intel_forms.specs.Row.{Row, row}
use Rattle.intel_forms.specs.declared.forms.Form.TheVariants as form
use Rattle.intel_forms.specs.declared.sizes.Size.TheVariants.{Ymm}
use Rattle.intel_lanes.specs.declared.blocks.OneImm.TheVariants as one_imm
use Rattle.intel_lanes.specs.declared.blocks.Two.TheVariants as two
use Rattle.intel_lanes.specs.declared.lanes.Lane2.TheVariants as lane2
use Rattle.intel_lanes.specs.declared.lanes.Shift.TheVariants as shift
use Rattle.intel_lanes.specs.declared.lanes.Width.TheVariants.{Word, Dword, Qword}
use Rattle.intel_wide.specs.declared.WideOp.{WideOp}
use Rattle.intel_wide.specs.declared.WideOp.TheVariants as op
use Rattle.intel_wide.specs.declared.shifts.Shifts.{Shifts}
use Rattle.intel_wide.specs.declared.shifts.Shifts.TheVariants as v

abbrev pub shifts_row : Shifts → Row
shifts_row v.SllEpi16 = row (codes "_mm256_sll_epi16") (form.Counted Ymm shift.Left Word)
shifts_row v.SllEpi32 = row (codes "_mm256_sll_epi32") (form.Counted Ymm shift.Left Dword)
shifts_row v.SllEpi64 = row (codes "_mm256_sll_epi64") (form.Counted Ymm shift.Left Qword)
shifts_row v.SlliEpi16 = row (codes "_mm256_slli_epi16") (form.OneImm Ymm (one_imm.Shifted shift.Left Word))
shifts_row v.SlliEpi32 = row (codes "_mm256_slli_epi32") (form.OneImm Ymm (one_imm.Shifted shift.Left Dword))
shifts_row v.SlliEpi64 = row (codes "_mm256_slli_epi64") (form.OneImm Ymm (one_imm.Shifted shift.Left Qword))
shifts_row v.SllvEpi32 = row (codes "_mm256_sllv_epi32") (form.Two Ymm (two.Lanes (lane2.ShiftBy shift.Left) Dword))
shifts_row v.SllvEpi64 = row (codes "_mm256_sllv_epi64") (form.Two Ymm (two.Lanes (lane2.ShiftBy shift.Left) Qword))
shifts_row v.SraEpi16 = row (codes "_mm256_sra_epi16") (form.Counted Ymm shift.Arithmetic Word)
shifts_row v.SraEpi32 = row (codes "_mm256_sra_epi32") (form.Counted Ymm shift.Arithmetic Dword)
shifts_row v.SraiEpi16 = row (codes "_mm256_srai_epi16") (form.OneImm Ymm (one_imm.Shifted shift.Arithmetic Word))
shifts_row v.SraiEpi32 = row (codes "_mm256_srai_epi32") (form.OneImm Ymm (one_imm.Shifted shift.Arithmetic Dword))
shifts_row v.SravEpi32 = row (codes "_mm256_srav_epi32") (form.Two Ymm (two.Lanes (lane2.ShiftBy shift.Arithmetic) Dword))
shifts_row v.SrlEpi16 = row (codes "_mm256_srl_epi16") (form.Counted Ymm shift.Right Word)
shifts_row v.SrlEpi32 = row (codes "_mm256_srl_epi32") (form.Counted Ymm shift.Right Dword)
shifts_row v.SrlEpi64 = row (codes "_mm256_srl_epi64") (form.Counted Ymm shift.Right Qword)
shifts_row v.SrliEpi16 = row (codes "_mm256_srli_epi16") (form.OneImm Ymm (one_imm.Shifted shift.Right Word))
shifts_row v.SrliEpi32 = row (codes "_mm256_srli_epi32") (form.OneImm Ymm (one_imm.Shifted shift.Right Dword))
shifts_row v.SrliEpi64 = row (codes "_mm256_srli_epi64") (form.OneImm Ymm (one_imm.Shifted shift.Right Qword))
shifts_row v.SrlvEpi32 = row (codes "_mm256_srlv_epi32") (form.Two Ymm (two.Lanes (lane2.ShiftBy shift.Right) Dword))
shifts_row v.SrlvEpi64 = row (codes "_mm256_srlv_epi64") (form.Two Ymm (two.Lanes (lane2.ShiftBy shift.Right) Qword))

-- in ascending order of their names
unfoldable pub shifts_rows : List WideOp
shifts_rows = map op.Shifts (
    v.SllEpi16 ∷ v.SllEpi32 ∷ v.SllEpi64 ∷ v.SlliEpi16 ∷ v.SlliEpi32 ∷ v.SlliEpi64 ∷ v.SllvEpi32 ∷ v.SllvEpi64 ∷ v.SraEpi16 ∷
    v.SraEpi32 ∷ v.SraiEpi16 ∷ v.SraiEpi32 ∷ v.SravEpi32 ∷ v.SrlEpi16 ∷ v.SrlEpi32 ∷ v.SrlEpi64 ∷ v.SrliEpi16 ∷ v.SrliEpi32 ∷
    v.SrliEpi64 ∷ v.SrlvEpi32 ∷ v.SrlvEpi64 ∷ [])
