-- The rows of SSE2 that take or give integers. One line for each, with its name and its form.
use Rattle.std.specs.Prelude.{List, [], ◌∷◌, map, codes}
use Rattle.intel_forms.specs.Row.{Row, row}
use Rattle.intel_forms.specs.declared.forms.Form.TheVariants as form
use Rattle.intel_forms.specs.declared.scalars.Scalar.TheVariants as scalar
use Rattle.intel_forms.specs.declared.sizes.Size.TheVariants.{Xmm}
use Rattle.intel_lanes.specs.declared.lanes.Width.TheVariants.{Byte, Word, Dword, Qword}
use Rattle.intel_base.specs.declared.BaseOp.{BaseOp}
use Rattle.intel_base.specs.declared.BaseOp.TheVariants as op
use Rattle.intel_base.specs.declared.scalars.Scalars.{Scalars}
use Rattle.intel_base.specs.declared.scalars.Scalars.TheVariants as v

abbrev pub scalars_row : Scalars → Row
scalars_row v.Cvtsi128Si32 = row (codes "_mm_cvtsi128_si32") (form.Scalar (scalar.FromVector Dword))
scalars_row v.Cvtsi128Si64 = row (codes "_mm_cvtsi128_si64") (form.Scalar (scalar.FromVector Qword))
scalars_row v.Cvtsi32Si128 = row (codes "_mm_cvtsi32_si128") (form.Scalar (scalar.ToVector Dword))
scalars_row v.Cvtsi64Si128 = row (codes "_mm_cvtsi64_si128") (form.Scalar (scalar.ToVector Qword))
scalars_row v.ExtractEpi16 = row (codes "_mm_extract_epi16") (form.Scalar (scalar.Extract Xmm Word))
scalars_row v.InsertEpi16 = row (codes "_mm_insert_epi16") (form.Scalar (scalar.Insert Xmm Word))
scalars_row v.MovemaskEpi8 = row (codes "_mm_movemask_epi8") (form.Scalar (scalar.ByteSigns Xmm))
scalars_row v.Set1Epi16 = row (codes "_mm_set1_epi16") (form.Scalar (scalar.SetAll Xmm Word))
scalars_row v.Set1Epi32 = row (codes "_mm_set1_epi32") (form.Scalar (scalar.SetAll Xmm Dword))
scalars_row v.Set1Epi64x = row (codes "_mm_set1_epi64x") (form.Scalar (scalar.SetAll Xmm Qword))
scalars_row v.Set1Epi8 = row (codes "_mm_set1_epi8") (form.Scalar (scalar.SetAll Xmm Byte))
scalars_row v.SetEpi16 = row (codes "_mm_set_epi16") (form.Scalar (scalar.Set Xmm Word))
scalars_row v.SetEpi32 = row (codes "_mm_set_epi32") (form.Scalar (scalar.Set Xmm Dword))
scalars_row v.SetEpi64x = row (codes "_mm_set_epi64x") (form.Scalar (scalar.Set Xmm Qword))
scalars_row v.SetEpi8 = row (codes "_mm_set_epi8") (form.Scalar (scalar.Set Xmm Byte))
scalars_row v.SetrEpi16 = row (codes "_mm_setr_epi16") (form.Scalar (scalar.SetReversed Xmm Word))
scalars_row v.SetrEpi32 = row (codes "_mm_setr_epi32") (form.Scalar (scalar.SetReversed Xmm Dword))
scalars_row v.SetrEpi8 = row (codes "_mm_setr_epi8") (form.Scalar (scalar.SetReversed Xmm Byte))
scalars_row v.SetzeroSi128 = row (codes "_mm_setzero_si128") (form.Scalar (scalar.SetZero Xmm))

-- in ascending order of their names
unfoldable pub scalars_rows : List BaseOp
scalars_rows = map op.Scalars (
    v.Cvtsi128Si32 ∷ v.Cvtsi128Si64 ∷ v.Cvtsi32Si128 ∷ v.Cvtsi64Si128 ∷ v.ExtractEpi16 ∷ v.InsertEpi16 ∷ v.MovemaskEpi8 ∷ v.Set1Epi16 ∷
    v.Set1Epi32 ∷ v.Set1Epi64x ∷ v.Set1Epi8 ∷ v.SetEpi16 ∷ v.SetEpi32 ∷ v.SetEpi64x ∷ v.SetEpi8 ∷ v.SetrEpi16 ∷ v.SetrEpi32 ∷
    v.SetrEpi8 ∷ v.SetzeroSi128 ∷ [])
