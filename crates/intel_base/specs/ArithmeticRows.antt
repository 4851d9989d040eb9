-- The rows of SSE2 that compute with numbers. One line for each, with its name and its form.
use Rattle.std.specs.Prelude.{List, [], ◌∷◌, map, codes}
use Rattle.intel_forms.specs.Row.{Row, row}
use Rattle.intel_forms.specs.declared.forms.Form.TheVariants as form
use Rattle.intel_forms.specs.declared.sizes.Size.TheVariants.{Xmm}
use Rattle.intel_lanes.specs.declared.blocks.Two.TheVariants as two
use Rattle.intel_lanes.specs.declared.lanes.Lane2.TheVariants as lane2
use Rattle.intel_lanes.specs.declared.lanes.Width.TheVariants.{Byte, Word, Dword, Qword}
use Rattle.intel_base.specs.declared.BaseOp.{BaseOp}
use Rattle.intel_base.specs.declared.BaseOp.TheVariants as op
use Rattle.intel_base.specs.declared.arithmetic.Arithmetic.{Arithmetic}
use Rattle.intel_base.specs.declared.arithmetic.Arithmetic.TheVariants as v

abbrev pub arithmetic_row : Arithmetic → Row
arithmetic_row v.AddEpi16 = row (codes "_mm_add_epi16") (form.Two Xmm (two.Lanes lane2.Add Word))
arithmetic_row v.AddEpi32 = row (codes "_mm_add_epi32") (form.Two Xmm (two.Lanes lane2.Add Dword))
arithmetic_row v.AddEpi64 = row (codes "_mm_add_epi64") (form.Two Xmm (two.Lanes lane2.Add Qword))
arithmetic_row v.AddEpi8 = row (codes "_mm_add_epi8") (form.Two Xmm (two.Lanes lane2.Add Byte))
arithmetic_row v.AddsEpi16 = row (codes "_mm_adds_epi16") (form.Two Xmm (two.Lanes lane2.AddSaturate Word))
arithmetic_row v.AddsEpi8 = row (codes "_mm_adds_epi8") (form.Two Xmm (two.Lanes lane2.AddSaturate Byte))
arithmetic_row v.AddsEpu16 = row (codes "_mm_adds_epu16") (form.Two Xmm (two.Lanes lane2.AddSaturateUnsigned Word))
arithmetic_row v.AddsEpu8 = row (codes "_mm_adds_epu8") (form.Two Xmm (two.Lanes lane2.AddSaturateUnsigned Byte))
arithmetic_row v.AvgEpu16 = row (codes "_mm_avg_epu16") (form.Two Xmm (two.Lanes lane2.Average Word))
arithmetic_row v.AvgEpu8 = row (codes "_mm_avg_epu8") (form.Two Xmm (two.Lanes lane2.Average Byte))
arithmetic_row v.MaddEpi16 = row (codes "_mm_madd_epi16") (form.Two Xmm two.MultiplyAdd)
arithmetic_row v.MaxEpi16 = row (codes "_mm_max_epi16") (form.Two Xmm (two.Lanes lane2.Max Word))
arithmetic_row v.MaxEpu8 = row (codes "_mm_max_epu8") (form.Two Xmm (two.Lanes lane2.MaxUnsigned Byte))
arithmetic_row v.MinEpi16 = row (codes "_mm_min_epi16") (form.Two Xmm (two.Lanes lane2.Min Word))
arithmetic_row v.MinEpu8 = row (codes "_mm_min_epu8") (form.Two Xmm (two.Lanes lane2.MinUnsigned Byte))
arithmetic_row v.MulEpu32 = row (codes "_mm_mul_epu32") (form.Two Xmm two.MultiplyEvenUnsigned)
arithmetic_row v.MulhiEpi16 = row (codes "_mm_mulhi_epi16") (form.Two Xmm (two.Lanes lane2.MultiplyHigh Word))
arithmetic_row v.MulhiEpu16 = row (codes "_mm_mulhi_epu16") (form.Two Xmm (two.Lanes lane2.MultiplyHighUnsigned Word))
arithmetic_row v.MulloEpi16 = row (codes "_mm_mullo_epi16") (form.Two Xmm (two.Lanes lane2.MultiplyLow Word))
arithmetic_row v.SadEpu8 = row (codes "_mm_sad_epu8") (form.Two Xmm two.SumDifferences)
arithmetic_row v.SubEpi16 = row (codes "_mm_sub_epi16") (form.Two Xmm (two.Lanes lane2.Sub Word))
arithmetic_row v.SubEpi32 = row (codes "_mm_sub_epi32") (form.Two Xmm (two.Lanes lane2.Sub Dword))
arithmetic_row v.SubEpi64 = row (codes "_mm_sub_epi64") (form.Two Xmm (two.Lanes lane2.Sub Qword))
arithmetic_row v.SubEpi8 = row (codes "_mm_sub_epi8") (form.Two Xmm (two.Lanes lane2.Sub Byte))
arithmetic_row v.SubsEpi16 = row (codes "_mm_subs_epi16") (form.Two Xmm (two.Lanes lane2.SubSaturate Word))
arithmetic_row v.SubsEpi8 = row (codes "_mm_subs_epi8") (form.Two Xmm (two.Lanes lane2.SubSaturate Byte))
arithmetic_row v.SubsEpu16 = row (codes "_mm_subs_epu16") (form.Two Xmm (two.Lanes lane2.SubSaturateUnsigned Word))
arithmetic_row v.SubsEpu8 = row (codes "_mm_subs_epu8") (form.Two Xmm (two.Lanes lane2.SubSaturateUnsigned Byte))

-- in ascending order of their names
unfoldable pub arithmetic_rows : List BaseOp
arithmetic_rows = map op.Arithmetic (
    v.AddEpi16 ∷ v.AddEpi32 ∷ v.AddEpi64 ∷ v.AddEpi8 ∷ v.AddsEpi16 ∷ v.AddsEpi8 ∷ v.AddsEpu16 ∷ v.AddsEpu8 ∷ v.AvgEpu16 ∷ v.AvgEpu8 ∷
    v.MaddEpi16 ∷ v.MaxEpi16 ∷ v.MaxEpu8 ∷ v.MinEpi16 ∷ v.MinEpu8 ∷ v.MulEpu32 ∷ v.MulhiEpi16 ∷ v.MulhiEpu16 ∷ v.MulloEpi16 ∷ v.SadEpu8 ∷
    v.SubEpi16 ∷ v.SubEpi32 ∷ v.SubEpi64 ∷ v.SubEpi8 ∷ v.SubsEpi16 ∷ v.SubsEpi8 ∷ v.SubsEpu16 ∷ v.SubsEpu8 ∷ [])
