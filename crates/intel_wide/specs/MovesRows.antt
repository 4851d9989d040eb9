-- The rows on 32 bytes that move lanes within blocks. One line for each, with its name and its form.
use Rattle.std.specs.Prelude.{List, [], ◌∷◌, map, codes}
use Rattle.intel_forms.specs.Row.{Row, row}
use Rattle.intel_forms.specs.declared.forms.Form.TheVariants as form
use Rattle.intel_forms.specs.declared.sizes.Size.TheVariants.{Ymm}
use Rattle.intel_lanes.specs.declared.blocks.OneImm.TheVariants as one_imm
use Rattle.intel_lanes.specs.declared.blocks.Two.TheVariants as two
use Rattle.intel_lanes.specs.declared.blocks.TwoImm.TheVariants as two_imm
use Rattle.intel_lanes.specs.declared.lanes.Width.TheVariants.{Byte, Word, Dword, Qword}
use Rattle.intel_wide.specs.declared.WideOp.{WideOp}
use Rattle.intel_wide.specs.declared.WideOp.TheVariants as op
use Rattle.intel_wide.specs.declared.moves.Moves.{Moves}
use Rattle.intel_wide.specs.declared.moves.Moves.TheVariants as v

abbrev pub moves_row : Moves → Row
moves_row v.AlignrEpi8 = row (codes "_mm256_alignr_epi8") (form.TwoImm Ymm two_imm.AlignRight)
moves_row v.BlendEpi16 = row (codes "_mm256_blend_epi16") (form.TwoImm Ymm two_imm.BlendWords)
moves_row v.BlendEpi32 = row (codes "_mm256_blend_epi32") (form.TwoImm Ymm two_imm.BlendDwords)
moves_row v.BlendvEpi8 = row (codes "_mm256_blendv_epi8") (form.BlendBytes Ymm)
moves_row v.BslliEpi128 = row (codes "_mm256_bslli_epi128") (form.OneImm Ymm one_imm.BytesUp)
moves_row v.BsrliEpi128 = row (codes "_mm256_bsrli_epi128") (form.OneImm Ymm one_imm.BytesDown)
moves_row v.PacksEpi16 = row (codes "_mm256_packs_epi16") (form.Two Ymm two.PackWords)
moves_row v.PacksEpi32 = row (codes "_mm256_packs_epi32") (form.Two Ymm two.PackDwords)
moves_row v.PackusEpi16 = row (codes "_mm256_packus_epi16") (form.Two Ymm two.PackWordsUnsigned)
moves_row v.PackusEpi32 = row (codes "_mm256_packus_epi32") (form.Two Ymm two.PackDwordsUnsigned)
moves_row v.ShuffleEpi32 = row (codes "_mm256_shuffle_epi32") (form.OneImm Ymm one_imm.ShuffleDwords)
moves_row v.ShuffleEpi8 = row (codes "_mm256_shuffle_epi8") (form.Two Ymm two.ShuffleBytes)
moves_row v.ShufflehiEpi16 = row (codes "_mm256_shufflehi_epi16") (form.OneImm Ymm one_imm.ShuffleHigh)
moves_row v.ShuffleloEpi16 = row (codes "_mm256_shufflelo_epi16") (form.OneImm Ymm one_imm.ShuffleLow)
moves_row v.SlliSi256 = row (codes "_mm256_slli_si256") (form.OneImm Ymm one_imm.BytesUp)
moves_row v.SrliSi256 = row (codes "_mm256_srli_si256") (form.OneImm Ymm one_imm.BytesDown)
moves_row v.UnpackhiEpi16 = row (codes "_mm256_unpackhi_epi16") (form.Two Ymm (two.UnpackHigh Word))
moves_row v.UnpackhiEpi32 = row (codes "_mm256_unpackhi_epi32") (form.Two Ymm (two.UnpackHigh Dword))
moves_row v.UnpackhiEpi64 = row (codes "_mm256_unpackhi_epi64") (form.Two Ymm (two.UnpackHigh Qword))
moves_row v.UnpackhiEpi8 = row (codes "_mm256_unpackhi_epi8") (form.Two Ymm (two.UnpackHigh Byte))
moves_row v.UnpackloEpi16 = row (codes "_mm256_unpacklo_epi16") (form.Two Ymm (two.UnpackLow Word))
moves_row v.UnpackloEpi32 = row (codes "_mm256_unpacklo_epi32") (form.Two Ymm (two.UnpackLow Dword))
moves_row v.UnpackloEpi64 = row (codes "_mm256_unpacklo_epi64") (form.Two Ymm (two.UnpackLow Qword))
moves_row v.UnpackloEpi8 = row (codes "_mm256_unpacklo_epi8") (form.Two Ymm (two.UnpackLow Byte))

-- in ascending order of their names
unfoldable pub moves_rows : List WideOp
moves_rows = map op.Moves (
    v.AlignrEpi8 ∷ v.BlendEpi16 ∷ v.BlendEpi32 ∷ v.BlendvEpi8 ∷ v.BslliEpi128 ∷ v.BsrliEpi128 ∷ v.PacksEpi16 ∷ v.PacksEpi32 ∷
    v.PackusEpi16 ∷ v.PackusEpi32 ∷ v.ShuffleEpi32 ∷ v.ShuffleEpi8 ∷ v.ShufflehiEpi16 ∷ v.ShuffleloEpi16 ∷ v.SlliSi256 ∷ v.SrliSi256 ∷
    v.UnpackhiEpi16 ∷ v.UnpackhiEpi32 ∷ v.UnpackhiEpi64 ∷ v.UnpackhiEpi8 ∷ v.UnpackloEpi16 ∷ v.UnpackloEpi32 ∷ v.UnpackloEpi64 ∷
    v.UnpackloEpi8 ∷ [])
