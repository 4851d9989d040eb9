-- The rows of SSE2 that compute with bits: logic, compares and shifts. One line for each, with its name and its form.
use Rattle.std.specs.Prelude.{List, [], ◌∷◌, map, codes}
use Rattle.intel_forms.specs.Row.{Row, row}
use Rattle.intel_forms.specs.declared.forms.Form.TheVariants as form
use Rattle.intel_forms.specs.declared.sizes.Size.TheVariants.{Xmm}
use Rattle.intel_lanes.specs.declared.blocks.OneImm.TheVariants as one_imm
use Rattle.intel_lanes.specs.declared.blocks.Two.TheVariants as two
use Rattle.intel_lanes.specs.declared.lanes.Lane2.TheVariants as lane2
use Rattle.intel_lanes.specs.declared.lanes.Shift.TheVariants as shift
use Rattle.intel_lanes.specs.declared.lanes.Width.TheVariants.{Byte, Word, Dword, Qword}
use Rattle.intel_base.specs.declared.BaseOp.{BaseOp}
use Rattle.intel_base.specs.declared.BaseOp.TheVariants as op
use Rattle.intel_base.specs.declared.logic.Logic.{Logic}
use Rattle.intel_base.specs.declared.logic.Logic.TheVariants as v

abbrev pub logic_row : Logic → Row
logic_row v.AndSi128 = row (codes "_mm_and_si128") (form.Two Xmm (two.Lanes lane2.And Byte))
logic_row v.AndnotSi128 = row (codes "_mm_andnot_si128") (form.Two Xmm (two.Lanes lane2.AndNot Byte))
logic_row v.CmpeqEpi16 = row (codes "_mm_cmpeq_epi16") (form.Two Xmm (two.Lanes lane2.Equal Word))
logic_row v.CmpeqEpi32 = row (codes "_mm_cmpeq_epi32") (form.Two Xmm (two.Lanes lane2.Equal Dword))
logic_row v.CmpeqEpi8 = row (codes "_mm_cmpeq_epi8") (form.Two Xmm (two.Lanes lane2.Equal Byte))
logic_row v.CmpgtEpi16 = row (codes "_mm_cmpgt_epi16") (form.Two Xmm (two.Lanes lane2.Greater Word))
logic_row v.CmpgtEpi32 = row (codes "_mm_cmpgt_epi32") (form.Two Xmm (two.Lanes lane2.Greater Dword))
logic_row v.CmpgtEpi8 = row (codes "_mm_cmpgt_epi8") (form.Two Xmm (two.Lanes lane2.Greater Byte))
logic_row v.CmpltEpi16 = row (codes "_mm_cmplt_epi16") (form.Two Xmm (two.Lanes lane2.Less Word))
logic_row v.CmpltEpi32 = row (codes "_mm_cmplt_epi32") (form.Two Xmm (two.Lanes lane2.Less Dword))
logic_row v.CmpltEpi8 = row (codes "_mm_cmplt_epi8") (form.Two Xmm (two.Lanes lane2.Less Byte))
logic_row v.OrSi128 = row (codes "_mm_or_si128") (form.Two Xmm (two.Lanes lane2.Or Byte))
logic_row v.SllEpi16 = row (codes "_mm_sll_epi16") (form.Counted Xmm shift.Left Word)
logic_row v.SllEpi32 = row (codes "_mm_sll_epi32") (form.Counted Xmm shift.Left Dword)
logic_row v.SllEpi64 = row (codes "_mm_sll_epi64") (form.Counted Xmm shift.Left Qword)
logic_row v.SlliEpi16 = row (codes "_mm_slli_epi16") (form.OneImm Xmm (one_imm.Shifted shift.Left Word))
logic_row v.SlliEpi32 = row (codes "_mm_slli_epi32") (form.OneImm Xmm (one_imm.Shifted shift.Left Dword))
logic_row v.SlliEpi64 = row (codes "_mm_slli_epi64") (form.OneImm Xmm (one_imm.Shifted shift.Left Qword))
logic_row v.SraEpi16 = row (codes "_mm_sra_epi16") (form.Counted Xmm shift.Arithmetic Word)
logic_row v.SraEpi32 = row (codes "_mm_sra_epi32") (form.Counted Xmm shift.Arithmetic Dword)
logic_row v.SraiEpi16 = row (codes "_mm_srai_epi16") (form.OneImm Xmm (one_imm.Shifted shift.Arithmetic Word))
logic_row v.SraiEpi32 = row (codes "_mm_srai_epi32") (form.OneImm Xmm (one_imm.Shifted shift.Arithmetic Dword))
logic_row v.SrlEpi16 = row (codes "_mm_srl_epi16") (form.Counted Xmm shift.Right Word)
logic_row v.SrlEpi32 = row (codes "_mm_srl_epi32") (form.Counted Xmm shift.Right Dword)
logic_row v.SrlEpi64 = row (codes "_mm_srl_epi64") (form.Counted Xmm shift.Right Qword)
logic_row v.SrliEpi16 = row (codes "_mm_srli_epi16") (form.OneImm Xmm (one_imm.Shifted shift.Right Word))
logic_row v.SrliEpi32 = row (codes "_mm_srli_epi32") (form.OneImm Xmm (one_imm.Shifted shift.Right Dword))
logic_row v.SrliEpi64 = row (codes "_mm_srli_epi64") (form.OneImm Xmm (one_imm.Shifted shift.Right Qword))
logic_row v.XorSi128 = row (codes "_mm_xor_si128") (form.Two Xmm (two.Lanes lane2.Xor Byte))

-- in ascending order of their names
unfoldable pub logic_rows : List BaseOp
logic_rows = map op.Logic (
    v.AndSi128 ∷ v.AndnotSi128 ∷ v.CmpeqEpi16 ∷ v.CmpeqEpi32 ∷ v.CmpeqEpi8 ∷ v.CmpgtEpi16 ∷ v.CmpgtEpi32 ∷ v.CmpgtEpi8 ∷ v.CmpltEpi16 ∷
    v.CmpltEpi32 ∷ v.CmpltEpi8 ∷ v.OrSi128 ∷ v.SllEpi16 ∷ v.SllEpi32 ∷ v.SllEpi64 ∷ v.SlliEpi16 ∷ v.SlliEpi32 ∷ v.SlliEpi64 ∷
    v.SraEpi16 ∷ v.SraEpi32 ∷ v.SraiEpi16 ∷ v.SraiEpi32 ∷ v.SrlEpi16 ∷ v.SrlEpi32 ∷ v.SrlEpi64 ∷ v.SrliEpi16 ∷ v.SrliEpi32 ∷
    v.SrliEpi64 ∷ v.XorSi128 ∷ [])
