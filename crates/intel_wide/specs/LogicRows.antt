-- The rows on 32 bytes that compute with bits, and compares. One line for each, with its name and its form.
use Rattle.std.specs.Prelude.{List, [], ◌∷◌, map, codes}
use Rattle.intel_forms.specs.Row.{Row, row}
use Rattle.intel_forms.specs.declared.forms.Form.TheVariants as form
use Rattle.intel_forms.specs.declared.sizes.Size.TheVariants.{Ymm}
use Rattle.intel_lanes.specs.declared.blocks.Two.TheVariants as two
use Rattle.intel_lanes.specs.declared.lanes.Lane2.TheVariants as lane2
use Rattle.intel_lanes.specs.declared.lanes.Width.TheVariants.{Byte, Word, Dword, Qword}
use Rattle.intel_wide.specs.declared.WideOp.{WideOp}
use Rattle.intel_wide.specs.declared.WideOp.TheVariants as op
use Rattle.intel_wide.specs.declared.logic.Logic.{Logic}
use Rattle.intel_wide.specs.declared.logic.Logic.TheVariants as v

abbrev pub logic_row : Logic → Row
logic_row v.AndSi256 = row (codes "_mm256_and_si256") (form.Two Ymm (two.Lanes lane2.And Byte))
logic_row v.AndnotSi256 = row (codes "_mm256_andnot_si256") (form.Two Ymm (two.Lanes lane2.AndNot Byte))
logic_row v.CmpeqEpi16 = row (codes "_mm256_cmpeq_epi16") (form.Two Ymm (two.Lanes lane2.Equal Word))
logic_row v.CmpeqEpi32 = row (codes "_mm256_cmpeq_epi32") (form.Two Ymm (two.Lanes lane2.Equal Dword))
logic_row v.CmpeqEpi64 = row (codes "_mm256_cmpeq_epi64") (form.Two Ymm (two.Lanes lane2.Equal Qword))
logic_row v.CmpeqEpi8 = row (codes "_mm256_cmpeq_epi8") (form.Two Ymm (two.Lanes lane2.Equal Byte))
logic_row v.CmpgtEpi16 = row (codes "_mm256_cmpgt_epi16") (form.Two Ymm (two.Lanes lane2.Greater Word))
logic_row v.CmpgtEpi32 = row (codes "_mm256_cmpgt_epi32") (form.Two Ymm (two.Lanes lane2.Greater Dword))
logic_row v.CmpgtEpi64 = row (codes "_mm256_cmpgt_epi64") (form.Two Ymm (two.Lanes lane2.Greater Qword))
logic_row v.CmpgtEpi8 = row (codes "_mm256_cmpgt_epi8") (form.Two Ymm (two.Lanes lane2.Greater Byte))
logic_row v.OrSi256 = row (codes "_mm256_or_si256") (form.Two Ymm (two.Lanes lane2.Or Byte))
logic_row v.XorSi256 = row (codes "_mm256_xor_si256") (form.Two Ymm (two.Lanes lane2.Xor Byte))

-- in ascending order of their names
unfoldable pub logic_rows : List WideOp
logic_rows = map op.Logic (
    v.AndSi256 ∷ v.AndnotSi256 ∷ v.CmpeqEpi16 ∷ v.CmpeqEpi32 ∷ v.CmpeqEpi64 ∷ v.CmpeqEpi8 ∷ v.CmpgtEpi16 ∷ v.CmpgtEpi32 ∷ v.CmpgtEpi64 ∷
    v.CmpgtEpi8 ∷ v.OrSi256 ∷ v.XorSi256 ∷ [])
