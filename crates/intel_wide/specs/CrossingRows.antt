-- The rows on 32 bytes that move lanes across blocks. One line for each, with its name and its form.
use Rattle.std.specs.Prelude.{List, [], ◌∷◌, map, codes, true, false}
use Rattle.intel_forms.specs.Row.{Row, row}
use Rattle.intel_forms.specs.declared.across.Across.TheVariants as across
use Rattle.intel_forms.specs.declared.forms.Extension.TheVariants as ext
use Rattle.intel_forms.specs.declared.forms.Form.TheVariants as form
use Rattle.intel_forms.specs.declared.sizes.Size.TheVariants.{Ymm}
use Rattle.intel_lanes.specs.declared.lanes.Width.TheVariants.{Byte, Word, Dword, Qword}
use Rattle.intel_wide.specs.declared.WideOp.{WideOp}
use Rattle.intel_wide.specs.declared.WideOp.TheVariants as op
use Rattle.intel_wide.specs.declared.crossing.Crossing.{Crossing}
use Rattle.intel_wide.specs.declared.crossing.Crossing.TheVariants as v

abbrev pub crossing_row : Crossing → Row
crossing_row v.BroadcastbEpi8 = row (codes "_mm256_broadcastb_epi8") (form.Broadcast Ymm Byte)
crossing_row v.BroadcastdEpi32 = row (codes "_mm256_broadcastd_epi32") (form.Broadcast Ymm Dword)
crossing_row v.BroadcastqEpi64 = row (codes "_mm256_broadcastq_epi64") (form.Broadcast Ymm Qword)
crossing_row v.Broadcastsi128Si256 = row (codes "_mm256_broadcastsi128_si256") (form.Across across.BroadcastHalf)
crossing_row v.BroadcastwEpi16 = row (codes "_mm256_broadcastw_epi16") (form.Broadcast Ymm Word)
crossing_row v.Castsi256Si128 = row (codes "_mm256_castsi256_si128") (form.Across across.LowHalf)
crossing_row v.Cvtepi16Epi32 = row (codes "_mm256_cvtepi16_epi32") (form.Extend Ymm true ext.WordDword)
crossing_row v.Cvtepi16Epi64 = row (codes "_mm256_cvtepi16_epi64") (form.Extend Ymm true ext.WordQword)
crossing_row v.Cvtepi32Epi64 = row (codes "_mm256_cvtepi32_epi64") (form.Extend Ymm true ext.DwordQword)
crossing_row v.Cvtepi8Epi16 = row (codes "_mm256_cvtepi8_epi16") (form.Extend Ymm true ext.ByteWord)
crossing_row v.Cvtepi8Epi32 = row (codes "_mm256_cvtepi8_epi32") (form.Extend Ymm true ext.ByteDword)
crossing_row v.Cvtepi8Epi64 = row (codes "_mm256_cvtepi8_epi64") (form.Extend Ymm true ext.ByteQword)
crossing_row v.Cvtepu16Epi32 = row (codes "_mm256_cvtepu16_epi32") (form.Extend Ymm false ext.WordDword)
crossing_row v.Cvtepu16Epi64 = row (codes "_mm256_cvtepu16_epi64") (form.Extend Ymm false ext.WordQword)
crossing_row v.Cvtepu32Epi64 = row (codes "_mm256_cvtepu32_epi64") (form.Extend Ymm false ext.DwordQword)
crossing_row v.Cvtepu8Epi16 = row (codes "_mm256_cvtepu8_epi16") (form.Extend Ymm false ext.ByteWord)
crossing_row v.Cvtepu8Epi32 = row (codes "_mm256_cvtepu8_epi32") (form.Extend Ymm false ext.ByteDword)
crossing_row v.Cvtepu8Epi64 = row (codes "_mm256_cvtepu8_epi64") (form.Extend Ymm false ext.ByteQword)
crossing_row v.Extractf128Si256 = row (codes "_mm256_extractf128_si256") (form.Across across.ExtractHalf)
crossing_row v.Extracti128Si256 = row (codes "_mm256_extracti128_si256") (form.Across across.ExtractHalf)
crossing_row v.Insertf128Si256 = row (codes "_mm256_insertf128_si256") (form.Across across.InsertHalf)
crossing_row v.Inserti128Si256 = row (codes "_mm256_inserti128_si256") (form.Across across.InsertHalf)
crossing_row v.Permute2f128Si256 = row (codes "_mm256_permute2f128_si256") (form.Across across.PermuteHalves)
crossing_row v.Permute2x128Si256 = row (codes "_mm256_permute2x128_si256") (form.Across across.PermuteHalves)
crossing_row v.Permute4x64Epi64 = row (codes "_mm256_permute4x64_epi64") (form.Across across.PermuteQwords)
crossing_row v.Permutevar8x32Epi32 = row (codes "_mm256_permutevar8x32_epi32") (form.Across across.PermuteDwords)
crossing_row v.Zextsi128Si256 = row (codes "_mm256_zextsi128_si256") (form.Across across.ZeroExtend)

-- in ascending order of their names
unfoldable pub crossing_rows : List WideOp
crossing_rows = map op.Crossing (
    v.BroadcastbEpi8 ∷ v.BroadcastdEpi32 ∷ v.BroadcastqEpi64 ∷ v.Broadcastsi128Si256 ∷ v.BroadcastwEpi16 ∷ v.Castsi256Si128 ∷
    v.Cvtepi16Epi32 ∷ v.Cvtepi16Epi64 ∷ v.Cvtepi32Epi64 ∷ v.Cvtepi8Epi16 ∷ v.Cvtepi8Epi32 ∷ v.Cvtepi8Epi64 ∷ v.Cvtepu16Epi32 ∷
    v.Cvtepu16Epi64 ∷ v.Cvtepu32Epi64 ∷ v.Cvtepu8Epi16 ∷ v.Cvtepu8Epi32 ∷ v.Cvtepu8Epi64 ∷ v.Extractf128Si256 ∷ v.Extracti128Si256 ∷
    v.Insertf128Si256 ∷ v.Inserti128Si256 ∷ v.Permute2f128Si256 ∷ v.Permute2x128Si256 ∷ v.Permute4x64Epi64 ∷ v.Permutevar8x32Epi32 ∷
    v.Zextsi128Si256 ∷ [])
