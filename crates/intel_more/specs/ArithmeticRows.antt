-- The rows of SSSE3 and SSE4.1 that compute with numbers. One line for each, with its name and its form.
use Rattle.std.specs.Prelude.{List, [], ◌∷◌, map, codes}
use Rattle.intel_forms.specs.Row.{Row, row}
use Rattle.intel_forms.specs.declared.forms.Form.TheVariants as form
use Rattle.intel_forms.specs.declared.sizes.Size.TheVariants.{Xmm}
use Rattle.intel_lanes.specs.declared.blocks.One.TheVariants as one
use Rattle.intel_lanes.specs.declared.blocks.Two.TheVariants as two
use Rattle.intel_lanes.specs.declared.blocks.TwoImm.TheVariants as two_imm
use Rattle.intel_lanes.specs.declared.lanes.Lane1.TheVariants as lane1
use Rattle.intel_lanes.specs.declared.lanes.Lane2.TheVariants as lane2
use Rattle.intel_lanes.specs.declared.lanes.Width.TheVariants.{Byte, Word, Dword, Qword}
use Rattle.intel_more.specs.declared.MoreOp.{MoreOp}
use Rattle.intel_more.specs.declared.MoreOp.TheVariants as op
use Rattle.intel_more.specs.declared.arithmetic.Arithmetic.{Arithmetic}
use Rattle.intel_more.specs.declared.arithmetic.Arithmetic.TheVariants as v

abbrev pub arithmetic_row : Arithmetic → Row
arithmetic_row v.AbsEpi16 = row (codes "_mm_abs_epi16") (form.One Xmm (one.Lanes lane1.Absolute Word))
arithmetic_row v.AbsEpi32 = row (codes "_mm_abs_epi32") (form.One Xmm (one.Lanes lane1.Absolute Dword))
arithmetic_row v.AbsEpi8 = row (codes "_mm_abs_epi8") (form.One Xmm (one.Lanes lane1.Absolute Byte))
arithmetic_row v.CmpeqEpi64 = row (codes "_mm_cmpeq_epi64") (form.Two Xmm (two.Lanes lane2.Equal Qword))
arithmetic_row v.HaddEpi16 = row (codes "_mm_hadd_epi16") (form.Two Xmm (two.Pairs lane2.Add Word))
arithmetic_row v.HaddEpi32 = row (codes "_mm_hadd_epi32") (form.Two Xmm (two.Pairs lane2.Add Dword))
arithmetic_row v.HaddsEpi16 = row (codes "_mm_hadds_epi16") (form.Two Xmm (two.Pairs lane2.AddSaturate Word))
arithmetic_row v.HsubEpi16 = row (codes "_mm_hsub_epi16") (form.Two Xmm (two.Pairs lane2.Sub Word))
arithmetic_row v.HsubEpi32 = row (codes "_mm_hsub_epi32") (form.Two Xmm (two.Pairs lane2.Sub Dword))
arithmetic_row v.HsubsEpi16 = row (codes "_mm_hsubs_epi16") (form.Two Xmm (two.Pairs lane2.SubSaturate Word))
arithmetic_row v.MaddubsEpi16 = row (codes "_mm_maddubs_epi16") (form.Two Xmm two.MultiplyAddBytes)
arithmetic_row v.MaxEpi32 = row (codes "_mm_max_epi32") (form.Two Xmm (two.Lanes lane2.Max Dword))
arithmetic_row v.MaxEpi8 = row (codes "_mm_max_epi8") (form.Two Xmm (two.Lanes lane2.Max Byte))
arithmetic_row v.MaxEpu16 = row (codes "_mm_max_epu16") (form.Two Xmm (two.Lanes lane2.MaxUnsigned Word))
arithmetic_row v.MaxEpu32 = row (codes "_mm_max_epu32") (form.Two Xmm (two.Lanes lane2.MaxUnsigned Dword))
arithmetic_row v.MinEpi32 = row (codes "_mm_min_epi32") (form.Two Xmm (two.Lanes lane2.Min Dword))
arithmetic_row v.MinEpi8 = row (codes "_mm_min_epi8") (form.Two Xmm (two.Lanes lane2.Min Byte))
arithmetic_row v.MinEpu16 = row (codes "_mm_min_epu16") (form.Two Xmm (two.Lanes lane2.MinUnsigned Word))
arithmetic_row v.MinEpu32 = row (codes "_mm_min_epu32") (form.Two Xmm (two.Lanes lane2.MinUnsigned Dword))
arithmetic_row v.MpsadbwEpu8 = row (codes "_mm_mpsadbw_epu8") (form.TwoImm Xmm two_imm.SumsOfFour)
arithmetic_row v.MulEpi32 = row (codes "_mm_mul_epi32") (form.Two Xmm two.MultiplyEven)
arithmetic_row v.MulhrsEpi16 = row (codes "_mm_mulhrs_epi16") (form.Two Xmm (two.Lanes lane2.MultiplyRound Word))
arithmetic_row v.MulloEpi32 = row (codes "_mm_mullo_epi32") (form.Two Xmm (two.Lanes lane2.MultiplyLow Dword))
arithmetic_row v.SignEpi16 = row (codes "_mm_sign_epi16") (form.Two Xmm (two.Lanes lane2.Sign Word))
arithmetic_row v.SignEpi32 = row (codes "_mm_sign_epi32") (form.Two Xmm (two.Lanes lane2.Sign Dword))
arithmetic_row v.SignEpi8 = row (codes "_mm_sign_epi8") (form.Two Xmm (two.Lanes lane2.Sign Byte))

-- in ascending order of their names
unfoldable pub arithmetic_rows : List MoreOp
arithmetic_rows = map op.Arithmetic (
    v.AbsEpi16 ∷ v.AbsEpi32 ∷ v.AbsEpi8 ∷ v.CmpeqEpi64 ∷ v.HaddEpi16 ∷ v.HaddEpi32 ∷ v.HaddsEpi16 ∷ v.HsubEpi16 ∷ v.HsubEpi32 ∷
    v.HsubsEpi16 ∷ v.MaddubsEpi16 ∷ v.MaxEpi32 ∷ v.MaxEpi8 ∷ v.MaxEpu16 ∷ v.MaxEpu32 ∷ v.MinEpi32 ∷ v.MinEpi8 ∷ v.MinEpu16 ∷ v.MinEpu32 ∷
    v.MpsadbwEpu8 ∷ v.MulEpi32 ∷ v.MulhrsEpi16 ∷ v.MulloEpi32 ∷ v.SignEpi16 ∷ v.SignEpi32 ∷ v.SignEpi8 ∷ [])
