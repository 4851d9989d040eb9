-- The rows on 32 bytes that take or give integers. One line for each, with its name and its form.
use Rattle.std.specs.Prelude.{List, [], ◌∷◌, map, codes}
use Rattle.intel_forms.specs.Row.{Row, row}
use Rattle.intel_forms.specs.declared.forms.Form.TheVariants as form
use Rattle.intel_forms.specs.declared.scalars.Scalar.TheVariants as scalar
use Rattle.intel_forms.specs.declared.scalars.Test.TheVariants as test
use Rattle.intel_forms.specs.declared.sizes.Size.TheVariants.{Ymm}
use Rattle.intel_lanes.specs.declared.lanes.Width.TheVariants.{Byte, Word, Dword, Qword}
use Rattle.intel_wide.specs.declared.WideOp.{WideOp}
use Rattle.intel_wide.specs.declared.WideOp.TheVariants as op
use Rattle.intel_wide.specs.declared.scalars.Scalars.{Scalars}
use Rattle.intel_wide.specs.declared.scalars.Scalars.TheVariants as v

abbrev pub scalars_row : Scalars → Row
scalars_row v.ExtractEpi32 = row (codes "_mm256_extract_epi32") (form.Scalar (scalar.Extract Ymm Dword))
scalars_row v.ExtractEpi64 = row (codes "_mm256_extract_epi64") (form.Scalar (scalar.Extract Ymm Qword))
scalars_row v.InsertEpi16 = row (codes "_mm256_insert_epi16") (form.Scalar (scalar.Insert Ymm Word))
scalars_row v.InsertEpi32 = row (codes "_mm256_insert_epi32") (form.Scalar (scalar.Insert Ymm Dword))
scalars_row v.InsertEpi64 = row (codes "_mm256_insert_epi64") (form.Scalar (scalar.Insert Ymm Qword))
scalars_row v.InsertEpi8 = row (codes "_mm256_insert_epi8") (form.Scalar (scalar.Insert Ymm Byte))
scalars_row v.MovemaskEpi8 = row (codes "_mm256_movemask_epi8") (form.Scalar (scalar.ByteSigns Ymm))
scalars_row v.Set1Epi16 = row (codes "_mm256_set1_epi16") (form.Scalar (scalar.SetAll Ymm Word))
scalars_row v.Set1Epi32 = row (codes "_mm256_set1_epi32") (form.Scalar (scalar.SetAll Ymm Dword))
scalars_row v.Set1Epi64x = row (codes "_mm256_set1_epi64x") (form.Scalar (scalar.SetAll Ymm Qword))
scalars_row v.Set1Epi8 = row (codes "_mm256_set1_epi8") (form.Scalar (scalar.SetAll Ymm Byte))
scalars_row v.SetEpi16 = row (codes "_mm256_set_epi16") (form.Scalar (scalar.Set Ymm Word))
scalars_row v.SetEpi32 = row (codes "_mm256_set_epi32") (form.Scalar (scalar.Set Ymm Dword))
scalars_row v.SetEpi64x = row (codes "_mm256_set_epi64x") (form.Scalar (scalar.Set Ymm Qword))
scalars_row v.SetEpi8 = row (codes "_mm256_set_epi8") (form.Scalar (scalar.Set Ymm Byte))
scalars_row v.SetM128i = row (codes "_mm256_set_m128i") (form.Scalar scalar.SetHalves)
scalars_row v.SetrEpi16 = row (codes "_mm256_setr_epi16") (form.Scalar (scalar.SetReversed Ymm Word))
scalars_row v.SetrEpi32 = row (codes "_mm256_setr_epi32") (form.Scalar (scalar.SetReversed Ymm Dword))
scalars_row v.SetrEpi64x = row (codes "_mm256_setr_epi64x") (form.Scalar (scalar.SetReversed Ymm Qword))
scalars_row v.SetrEpi8 = row (codes "_mm256_setr_epi8") (form.Scalar (scalar.SetReversed Ymm Byte))
scalars_row v.SetrM128i = row (codes "_mm256_setr_m128i") (form.Scalar scalar.SetHalvesReversed)
scalars_row v.SetzeroSi256 = row (codes "_mm256_setzero_si256") (form.Scalar (scalar.SetZero Ymm))
scalars_row v.TestcSi256 = row (codes "_mm256_testc_si256") (form.Scalar (scalar.Tested Ymm test.Carry))
scalars_row v.TestnzcSi256 = row (codes "_mm256_testnzc_si256") (form.Scalar (scalar.Tested Ymm test.Neither))
scalars_row v.TestzSi256 = row (codes "_mm256_testz_si256") (form.Scalar (scalar.Tested Ymm test.Zero))

-- in ascending order of their names
unfoldable pub scalars_rows : List WideOp
scalars_rows = map op.Scalars (
    v.ExtractEpi32 ∷ v.ExtractEpi64 ∷ v.InsertEpi16 ∷ v.InsertEpi32 ∷ v.InsertEpi64 ∷ v.InsertEpi8 ∷ v.MovemaskEpi8 ∷ v.Set1Epi16 ∷
    v.Set1Epi32 ∷ v.Set1Epi64x ∷ v.Set1Epi8 ∷ v.SetEpi16 ∷ v.SetEpi32 ∷ v.SetEpi64x ∷ v.SetEpi8 ∷ v.SetM128i ∷ v.SetrEpi16 ∷
    v.SetrEpi32 ∷ v.SetrEpi64x ∷ v.SetrEpi8 ∷ v.SetrM128i ∷ v.SetzeroSi256 ∷ v.TestcSi256 ∷ v.TestnzcSi256 ∷ v.TestzSi256 ∷ [])
