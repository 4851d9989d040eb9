-- The rows on 32 bytes that compute with numbers as SSSE3's and SSE4.1's do. One line for each, with its name and its form.
use Rattle.std.specs.Prelude.{List, [], ◌∷◌, map, codes}
use Rattle.intel_forms.specs.Row.{Row, row}
use Rattle.intel_forms.specs.declared.forms.Form.TheVariants as form
use Rattle.intel_forms.specs.declared.sizes.Size.TheVariants.{Ymm}
use Rattle.intel_lanes.specs.declared.blocks.One.TheVariants as one
use Rattle.intel_lanes.specs.declared.blocks.Two.TheVariants as two
use Rattle.intel_lanes.specs.declared.blocks.TwoImm.TheVariants as two_imm
use Rattle.intel_lanes.specs.declared.lanes.Lane1.TheVariants as lane1
use Rattle.intel_lanes.specs.declared.lanes.Lane2.TheVariants as lane2
use Rattle.intel_lanes.specs.declared.lanes.Width.TheVariants.{Byte, Word, Dword}
use Rattle.intel_wide.specs.declared.WideOp.{WideOp}
use Rattle.intel_wide.specs.declared.WideOp.TheVariants as op
use Rattle.intel_wide.specs.declared.more_arithmetic.MoreArithmetic.{MoreArithmetic}
use Rattle.intel_wide.specs.declared.more_arithmetic.MoreArithmetic.TheVariants as v

abbrev pub more_arithmetic_row : MoreArithmetic → Row
more_arithmetic_row v.AbsEpi16 = row (codes "_mm256_abs_epi16") (form.One Ymm (one.Lanes lane1.Absolute Word))
more_arithmetic_row v.AbsEpi32 = row (codes "_mm256_abs_epi32") (form.One Ymm (one.Lanes lane1.Absolute Dword))
more_arithmetic_row v.AbsEpi8 = row (codes "_mm256_abs_epi8") (form.One Ymm (one.Lanes lane1.Absolute Byte))
more_arithmetic_row v.HaddEpi16 = row (codes "_mm256_hadd_epi16") (form.Two Ymm (two.Pairs lane2.Add Word))
more_arithmetic_row v.HaddEpi32 = row (codes "_mm256_hadd_epi32") (form.Two Ymm (two.Pairs lane2.Add Dword))
more_arithmetic_row v.HaddsEpi16 = row (codes "_mm256_hadds_epi16") (form.Two Ymm (two.Pairs lane2.AddSaturate Word))
more_arithmetic_row v.HsubEpi16 = row (codes "_mm256_hsub_epi16") (form.Two Ymm (two.Pairs lane2.Sub Word))
more_arithmetic_row v.HsubEpi32 = row (codes "_mm256_hsub_epi32") (form.Two Ymm (two.Pairs lane2.Sub Dword))
more_arithmetic_row v.HsubsEpi16 = row (codes "_mm256_hsubs_epi16") (form.Two Ymm (two.Pairs lane2.SubSaturate Word))
more_arithmetic_row v.MaddubsEpi16 = row (codes "_mm256_maddubs_epi16") (form.Two Ymm two.MultiplyAddBytes)
more_arithmetic_row v.MaxEpi32 = row (codes "_mm256_max_epi32") (form.Two Ymm (two.Lanes lane2.Max Dword))
more_arithmetic_row v.MaxEpi8 = row (codes "_mm256_max_epi8") (form.Two Ymm (two.Lanes lane2.Max Byte))
more_arithmetic_row v.MaxEpu16 = row (codes "_mm256_max_epu16") (form.Two Ymm (two.Lanes lane2.MaxUnsigned Word))
more_arithmetic_row v.MaxEpu32 = row (codes "_mm256_max_epu32") (form.Two Ymm (two.Lanes lane2.MaxUnsigned Dword))
more_arithmetic_row v.MinEpi32 = row (codes "_mm256_min_epi32") (form.Two Ymm (two.Lanes lane2.Min Dword))
more_arithmetic_row v.MinEpi8 = row (codes "_mm256_min_epi8") (form.Two Ymm (two.Lanes lane2.Min Byte))
more_arithmetic_row v.MinEpu16 = row (codes "_mm256_min_epu16") (form.Two Ymm (two.Lanes lane2.MinUnsigned Word))
more_arithmetic_row v.MinEpu32 = row (codes "_mm256_min_epu32") (form.Two Ymm (two.Lanes lane2.MinUnsigned Dword))
more_arithmetic_row v.MpsadbwEpu8 = row (codes "_mm256_mpsadbw_epu8") (form.TwoImm Ymm two_imm.SumsOfFour)
more_arithmetic_row v.MulEpi32 = row (codes "_mm256_mul_epi32") (form.Two Ymm two.MultiplyEven)
more_arithmetic_row v.MulhrsEpi16 = row (codes "_mm256_mulhrs_epi16") (form.Two Ymm (two.Lanes lane2.MultiplyRound Word))
more_arithmetic_row v.MulloEpi32 = row (codes "_mm256_mullo_epi32") (form.Two Ymm (two.Lanes lane2.MultiplyLow Dword))
more_arithmetic_row v.SignEpi16 = row (codes "_mm256_sign_epi16") (form.Two Ymm (two.Lanes lane2.Sign Word))
more_arithmetic_row v.SignEpi32 = row (codes "_mm256_sign_epi32") (form.Two Ymm (two.Lanes lane2.Sign Dword))
more_arithmetic_row v.SignEpi8 = row (codes "_mm256_sign_epi8") (form.Two Ymm (two.Lanes lane2.Sign Byte))

-- in ascending order of their names
unfoldable pub more_arithmetic_rows : List WideOp
more_arithmetic_rows = map op.MoreArithmetic (
    v.AbsEpi16 ∷ v.AbsEpi32 ∷ v.AbsEpi8 ∷ v.HaddEpi16 ∷ v.HaddEpi32 ∷ v.HaddsEpi16 ∷ v.HsubEpi16 ∷ v.HsubEpi32 ∷ v.HsubsEpi16 ∷
    v.MaddubsEpi16 ∷ v.MaxEpi32 ∷ v.MaxEpi8 ∷ v.MaxEpu16 ∷ v.MaxEpu32 ∷ v.MinEpi32 ∷ v.MinEpi8 ∷ v.MinEpu16 ∷ v.MinEpu32 ∷
    v.MpsadbwEpu8 ∷ v.MulEpi32 ∷ v.MulhrsEpi16 ∷ v.MulloEpi32 ∷ v.SignEpi16 ∷ v.SignEpi32 ∷ v.SignEpi8 ∷ [])
