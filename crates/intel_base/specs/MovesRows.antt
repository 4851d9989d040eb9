-- The rows of SSE2 that move lanes. One line for each, with its name and its form.
use Rattle.std.specs.Prelude.{List, [], ◌∷◌, map, codes}
use Rattle.intel_forms.specs.Row.{Row, row}
use Rattle.intel_forms.specs.declared.forms.Form.TheVariants as form
use Rattle.intel_forms.specs.declared.sizes.Size.TheVariants.{Xmm}
use Rattle.intel_lanes.specs.declared.blocks.One.TheVariants as one
use Rattle.intel_lanes.specs.declared.blocks.OneImm.TheVariants as one_imm
use Rattle.intel_lanes.specs.declared.blocks.Two.TheVariants as two
use Rattle.intel_lanes.specs.declared.lanes.Width.TheVariants.{Byte, Word, Dword, Qword}
use Rattle.intel_base.specs.declared.BaseOp.{BaseOp}
use Rattle.intel_base.specs.declared.BaseOp.TheVariants as op
use Rattle.intel_base.specs.declared.moves.Moves.{Moves}
use Rattle.intel_base.specs.declared.moves.Moves.TheVariants as v

abbrev pub moves_row : Moves → Row
moves_row v.BslliSi128 = row (codes "_mm_bslli_si128") (form.OneImm Xmm one_imm.BytesUp)
moves_row v.BsrliSi128 = row (codes "_mm_bsrli_si128") (form.OneImm Xmm one_imm.BytesDown)
moves_row v.MoveEpi64 = row (codes "_mm_move_epi64") (form.One Xmm one.MoveLow)
moves_row v.PacksEpi16 = row (codes "_mm_packs_epi16") (form.Two Xmm two.PackWords)
moves_row v.PacksEpi32 = row (codes "_mm_packs_epi32") (form.Two Xmm two.PackDwords)
moves_row v.PackusEpi16 = row (codes "_mm_packus_epi16") (form.Two Xmm two.PackWordsUnsigned)
moves_row v.ShuffleEpi32 = row (codes "_mm_shuffle_epi32") (form.OneImm Xmm one_imm.ShuffleDwords)
moves_row v.ShufflehiEpi16 = row (codes "_mm_shufflehi_epi16") (form.OneImm Xmm one_imm.ShuffleHigh)
moves_row v.ShuffleloEpi16 = row (codes "_mm_shufflelo_epi16") (form.OneImm Xmm one_imm.ShuffleLow)
moves_row v.SlliSi128 = row (codes "_mm_slli_si128") (form.OneImm Xmm one_imm.BytesUp)
moves_row v.SrliSi128 = row (codes "_mm_srli_si128") (form.OneImm Xmm one_imm.BytesDown)
moves_row v.UnpackhiEpi16 = row (codes "_mm_unpackhi_epi16") (form.Two Xmm (two.UnpackHigh Word))
moves_row v.UnpackhiEpi32 = row (codes "_mm_unpackhi_epi32") (form.Two Xmm (two.UnpackHigh Dword))
moves_row v.UnpackhiEpi64 = row (codes "_mm_unpackhi_epi64") (form.Two Xmm (two.UnpackHigh Qword))
moves_row v.UnpackhiEpi8 = row (codes "_mm_unpackhi_epi8") (form.Two Xmm (two.UnpackHigh Byte))
moves_row v.UnpackloEpi16 = row (codes "_mm_unpacklo_epi16") (form.Two Xmm (two.UnpackLow Word))
moves_row v.UnpackloEpi32 = row (codes "_mm_unpacklo_epi32") (form.Two Xmm (two.UnpackLow Dword))
moves_row v.UnpackloEpi64 = row (codes "_mm_unpacklo_epi64") (form.Two Xmm (two.UnpackLow Qword))
moves_row v.UnpackloEpi8 = row (codes "_mm_unpacklo_epi8") (form.Two Xmm (two.UnpackLow Byte))

-- in ascending order of their names
unfoldable pub moves_rows : List BaseOp
moves_rows = map op.Moves (
    v.BslliSi128 ∷ v.BsrliSi128 ∷ v.MoveEpi64 ∷ v.PacksEpi16 ∷ v.PacksEpi32 ∷ v.PackusEpi16 ∷ v.ShuffleEpi32 ∷ v.ShufflehiEpi16 ∷
    v.ShuffleloEpi16 ∷ v.SlliSi128 ∷ v.SrliSi128 ∷ v.UnpackhiEpi16 ∷ v.UnpackhiEpi32 ∷ v.UnpackhiEpi64 ∷ v.UnpackhiEpi8 ∷
    v.UnpackloEpi16 ∷ v.UnpackloEpi32 ∷ v.UnpackloEpi64 ∷ v.UnpackloEpi8 ∷ [])
