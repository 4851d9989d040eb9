-- The rows of SSSE3 and SSE4.1 that move lanes. One line for each, with its name and its form.
use Rattle.std.specs.Prelude.{List, [], ◌∷◌, map, codes, true, false}
use Rattle.intel_forms.specs.Row.{Row, row}
use Rattle.intel_forms.specs.declared.forms.Extension.TheVariants as ext
use Rattle.intel_forms.specs.declared.forms.Form.TheVariants as form
use Rattle.intel_forms.specs.declared.sizes.Size.TheVariants.{Xmm}
use Rattle.intel_lanes.specs.declared.blocks.Two.TheVariants as two
use Rattle.intel_lanes.specs.declared.blocks.TwoImm.TheVariants as two_imm
use Rattle.intel_more.specs.declared.MoreOp.{MoreOp}
use Rattle.intel_more.specs.declared.MoreOp.TheVariants as op
use Rattle.intel_more.specs.declared.moves.Moves.{Moves}
use Rattle.intel_more.specs.declared.moves.Moves.TheVariants as v

abbrev pub moves_row : Moves → Row
moves_row v.AlignrEpi8 = row (codes "_mm_alignr_epi8") (form.TwoImm Xmm two_imm.AlignRight)
moves_row v.BlendEpi16 = row (codes "_mm_blend_epi16") (form.TwoImm Xmm two_imm.BlendWords)
moves_row v.BlendvEpi8 = row (codes "_mm_blendv_epi8") (form.BlendBytes Xmm)
moves_row v.Cvtepi16Epi32 = row (codes "_mm_cvtepi16_epi32") (form.Extend Xmm true ext.WordDword)
moves_row v.Cvtepi16Epi64 = row (codes "_mm_cvtepi16_epi64") (form.Extend Xmm true ext.WordQword)
moves_row v.Cvtepi32Epi64 = row (codes "_mm_cvtepi32_epi64") (form.Extend Xmm true ext.DwordQword)
moves_row v.Cvtepi8Epi16 = row (codes "_mm_cvtepi8_epi16") (form.Extend Xmm true ext.ByteWord)
moves_row v.Cvtepi8Epi32 = row (codes "_mm_cvtepi8_epi32") (form.Extend Xmm true ext.ByteDword)
moves_row v.Cvtepi8Epi64 = row (codes "_mm_cvtepi8_epi64") (form.Extend Xmm true ext.ByteQword)
moves_row v.Cvtepu16Epi32 = row (codes "_mm_cvtepu16_epi32") (form.Extend Xmm false ext.WordDword)
moves_row v.Cvtepu16Epi64 = row (codes "_mm_cvtepu16_epi64") (form.Extend Xmm false ext.WordQword)
moves_row v.Cvtepu32Epi64 = row (codes "_mm_cvtepu32_epi64") (form.Extend Xmm false ext.DwordQword)
moves_row v.Cvtepu8Epi16 = row (codes "_mm_cvtepu8_epi16") (form.Extend Xmm false ext.ByteWord)
moves_row v.Cvtepu8Epi32 = row (codes "_mm_cvtepu8_epi32") (form.Extend Xmm false ext.ByteDword)
moves_row v.Cvtepu8Epi64 = row (codes "_mm_cvtepu8_epi64") (form.Extend Xmm false ext.ByteQword)
moves_row v.PackusEpi32 = row (codes "_mm_packus_epi32") (form.Two Xmm two.PackDwordsUnsigned)
moves_row v.ShuffleEpi8 = row (codes "_mm_shuffle_epi8") (form.Two Xmm two.ShuffleBytes)

-- in ascending order of their names
unfoldable pub moves_rows : List MoreOp
moves_rows = map op.Moves (
    v.AlignrEpi8 ∷ v.BlendEpi16 ∷ v.BlendvEpi8 ∷ v.Cvtepi16Epi32 ∷ v.Cvtepi16Epi64 ∷ v.Cvtepi32Epi64 ∷ v.Cvtepi8Epi16 ∷ v.Cvtepi8Epi32 ∷
    v.Cvtepi8Epi64 ∷ v.Cvtepu16Epi32 ∷ v.Cvtepu16Epi64 ∷ v.Cvtepu32Epi64 ∷ v.Cvtepu8Epi16 ∷ v.Cvtepu8Epi32 ∷ v.Cvtepu8Epi64 ∷
    v.PackusEpi32 ∷ v.ShuffleEpi8 ∷ [])
