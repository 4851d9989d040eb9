-- The rows that interleave, part, transpose or reverse elements. One line for each, with its name and its form.
use Rattle.std.specs.Prelude.{List, [], ◌∷◌, map, codes}
use Rattle.neon_forms.specs.Row.{Row, row}
use Rattle.neon_forms.specs.declared.forms.Form.TheVariants as form
use Rattle.lane_core.specs.declared.vector.NeonLane.TheVariants as lane
use Rattle.neon_elements.specs.declared.permutes.Permute.TheVariants as permute
use Rattle.neon_elements.specs.declared.permutes.Reverse.TheVariants as reverse
use Rattle.neon_move.specs.declared.MoveOp.{MoveOp}
use Rattle.neon_move.specs.declared.MoveOp.TheVariants as op
use Rattle.neon_move.specs.declared.permuting.Permuting.{Permuting}
use Rattle.neon_move.specs.declared.permuting.Permuting.TheVariants as v

abbrev pub permuting_row : Permuting → Row
permuting_row v.Vrev16qU8 = row (codes "vrev16q_u8") (form.Reversed reverse.Rev16U8)
permuting_row v.Vrev32qU16 = row (codes "vrev32q_u16") (form.Reversed reverse.Rev32U16)
permuting_row v.Vrev32qU8 = row (codes "vrev32q_u8") (form.Reversed reverse.Rev32U8)
permuting_row v.Vrev64qU16 = row (codes "vrev64q_u16") (form.Reversed reverse.Rev64U16)
permuting_row v.Vrev64qU32 = row (codes "vrev64q_u32") (form.Reversed reverse.Rev64U32)
permuting_row v.Vrev64qU8 = row (codes "vrev64q_u8") (form.Reversed reverse.Rev64U8)
permuting_row v.Vtrn1qU16 = row (codes "vtrn1q_u16") (form.Permuted permute.Trn1 lane.U16)
permuting_row v.Vtrn1qU32 = row (codes "vtrn1q_u32") (form.Permuted permute.Trn1 lane.U32)
permuting_row v.Vtrn1qU64 = row (codes "vtrn1q_u64") (form.Permuted permute.Trn1 lane.U64)
permuting_row v.Vtrn1qU8 = row (codes "vtrn1q_u8") (form.Permuted permute.Trn1 lane.U8)
permuting_row v.Vtrn2qU16 = row (codes "vtrn2q_u16") (form.Permuted permute.Trn2 lane.U16)
permuting_row v.Vtrn2qU32 = row (codes "vtrn2q_u32") (form.Permuted permute.Trn2 lane.U32)
permuting_row v.Vtrn2qU64 = row (codes "vtrn2q_u64") (form.Permuted permute.Trn2 lane.U64)
permuting_row v.Vtrn2qU8 = row (codes "vtrn2q_u8") (form.Permuted permute.Trn2 lane.U8)
permuting_row v.Vuzp1qU16 = row (codes "vuzp1q_u16") (form.Permuted permute.Uzp1 lane.U16)
permuting_row v.Vuzp1qU32 = row (codes "vuzp1q_u32") (form.Permuted permute.Uzp1 lane.U32)
permuting_row v.Vuzp1qU64 = row (codes "vuzp1q_u64") (form.Permuted permute.Uzp1 lane.U64)
permuting_row v.Vuzp1qU8 = row (codes "vuzp1q_u8") (form.Permuted permute.Uzp1 lane.U8)
permuting_row v.Vuzp2qU16 = row (codes "vuzp2q_u16") (form.Permuted permute.Uzp2 lane.U16)
permuting_row v.Vuzp2qU32 = row (codes "vuzp2q_u32") (form.Permuted permute.Uzp2 lane.U32)
permuting_row v.Vuzp2qU64 = row (codes "vuzp2q_u64") (form.Permuted permute.Uzp2 lane.U64)
permuting_row v.Vuzp2qU8 = row (codes "vuzp2q_u8") (form.Permuted permute.Uzp2 lane.U8)
permuting_row v.Vzip1qU16 = row (codes "vzip1q_u16") (form.Permuted permute.Zip1 lane.U16)
permuting_row v.Vzip1qU32 = row (codes "vzip1q_u32") (form.Permuted permute.Zip1 lane.U32)
permuting_row v.Vzip1qU64 = row (codes "vzip1q_u64") (form.Permuted permute.Zip1 lane.U64)
permuting_row v.Vzip1qU8 = row (codes "vzip1q_u8") (form.Permuted permute.Zip1 lane.U8)
permuting_row v.Vzip2qU16 = row (codes "vzip2q_u16") (form.Permuted permute.Zip2 lane.U16)
permuting_row v.Vzip2qU32 = row (codes "vzip2q_u32") (form.Permuted permute.Zip2 lane.U32)
permuting_row v.Vzip2qU64 = row (codes "vzip2q_u64") (form.Permuted permute.Zip2 lane.U64)
permuting_row v.Vzip2qU8 = row (codes "vzip2q_u8") (form.Permuted permute.Zip2 lane.U8)

-- in ascending order of their names
unfoldable pub permuting_rows : List MoveOp
permuting_rows = map op.Permuting (
    v.Vrev16qU8 ∷ v.Vrev32qU16 ∷ v.Vrev32qU8 ∷ v.Vrev64qU16 ∷ v.Vrev64qU32 ∷ v.Vrev64qU8 ∷ v.Vtrn1qU16 ∷ v.Vtrn1qU32 ∷ v.Vtrn1qU64 ∷ v.Vtrn1qU8 ∷
    v.Vtrn2qU16 ∷ v.Vtrn2qU32 ∷ v.Vtrn2qU64 ∷ v.Vtrn2qU8 ∷ v.Vuzp1qU16 ∷ v.Vuzp1qU32 ∷ v.Vuzp1qU64 ∷ v.Vuzp1qU8 ∷ v.Vuzp2qU16 ∷ v.Vuzp2qU32 ∷
    v.Vuzp2qU64 ∷ v.Vuzp2qU8 ∷ v.Vzip1qU16 ∷ v.Vzip1qU32 ∷ v.Vzip1qU64 ∷ v.Vzip1qU8 ∷ v.Vzip2qU16 ∷ v.Vzip2qU32 ∷ v.Vzip2qU64 ∷ v.Vzip2qU8 ∷ [])
