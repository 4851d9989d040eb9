-- The rows of SSE4.1 that take or give integers or find a place. One line for each, with its name and its form.
use Rattle.std.specs.Prelude.{List, [], ◌∷◌, map, codes}
use Rattle.intel_forms.specs.Row.{Row, row}
use Rattle.intel_forms.specs.declared.forms.Form.TheVariants as form
use Rattle.intel_forms.specs.declared.scalars.Scalar.TheVariants as scalar
use Rattle.intel_forms.specs.declared.scalars.Test.TheVariants as test
use Rattle.intel_forms.specs.declared.sizes.Size.TheVariants.{Xmm}
use Rattle.intel_lanes.specs.declared.blocks.One.TheVariants as one
use Rattle.intel_lanes.specs.declared.lanes.Width.TheVariants.{Byte, Dword, Qword}
use Rattle.intel_more.specs.declared.MoreOp.{MoreOp}
use Rattle.intel_more.specs.declared.MoreOp.TheVariants as op
use Rattle.intel_more.specs.declared.scalars.Scalars.{Scalars}
use Rattle.intel_more.specs.declared.scalars.Scalars.TheVariants as v

abbrev pub scalars_row : Scalars → Row
scalars_row v.ExtractEpi32 = row (codes "_mm_extract_epi32") (form.Scalar (scalar.Extract Xmm Dword))
scalars_row v.ExtractEpi64 = row (codes "_mm_extract_epi64") (form.Scalar (scalar.Extract Xmm Qword))
scalars_row v.ExtractEpi8 = row (codes "_mm_extract_epi8") (form.Scalar (scalar.Extract Xmm Byte))
scalars_row v.InsertEpi32 = row (codes "_mm_insert_epi32") (form.Scalar (scalar.Insert Xmm Dword))
scalars_row v.InsertEpi64 = row (codes "_mm_insert_epi64") (form.Scalar (scalar.Insert Xmm Qword))
scalars_row v.InsertEpi8 = row (codes "_mm_insert_epi8") (form.Scalar (scalar.Insert Xmm Byte))
scalars_row v.MinposEpu16 = row (codes "_mm_minpos_epu16") (form.One Xmm one.MinPosition)
scalars_row v.TestAllOnes = row (codes "_mm_test_all_ones") (form.Scalar scalar.TestedOnes)
scalars_row v.TestAllZeros = row (codes "_mm_test_all_zeros") (form.Scalar (scalar.Tested Xmm test.Zero))
scalars_row v.TestcSi128 = row (codes "_mm_testc_si128") (form.Scalar (scalar.Tested Xmm test.Carry))
scalars_row v.TestnzcSi128 = row (codes "_mm_testnzc_si128") (form.Scalar (scalar.Tested Xmm test.Neither))
scalars_row v.TestzSi128 = row (codes "_mm_testz_si128") (form.Scalar (scalar.Tested Xmm test.Zero))

-- in ascending order of their names
unfoldable pub scalars_rows : List MoreOp
scalars_rows = map op.Scalars (
    v.ExtractEpi32 ∷ v.ExtractEpi64 ∷ v.ExtractEpi8 ∷ v.InsertEpi32 ∷ v.InsertEpi64 ∷ v.InsertEpi8 ∷ v.MinposEpu16 ∷ v.TestAllOnes ∷
    v.TestAllZeros ∷ v.TestcSi128 ∷ v.TestnzcSi128 ∷ v.TestzSi128 ∷ [])
