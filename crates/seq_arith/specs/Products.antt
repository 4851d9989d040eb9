-- The terms of rows that take several calls.
use Rattle.std.specs.Prelude.{ℕ, ◌+◌, ◌*◌, ◌/◌, ◌%◌, List, [], ◌∷◌, replicate, Bool, true, false}
use Rattle.lane_core.specs.Register.{build}
use Rattle.lane_core.specs.declared.vector.NeonLane.{NeonLane}
use Rattle.lane_core.specs.declared.vector.NeonLane.TheVariants.{U16, U32, U64, S8, S16, S32, S64}
use Rattle.intel_lanes.specs.declared.lanes.Width.{Width}
use Rattle.intel_lanes.specs.declared.lanes.Width.TheVariants.{Byte, Word, Dword, Qword}
use Rattle.neon_lane.specs.declared.LaneOp.{LaneOp}
use Rattle.neon_lane.specs.declared.LaneOp.TheVariants.{Arithmetic, Extremes, Products, Saturating, Shifts}
use Rattle.neon_lane.specs.declared.arithmetic.Arithmetic.TheVariants.{VmulqS8, VmulqS16, VmulqS32}
use Rattle.neon_lane.specs.declared.extremes.Extremes.TheVariants.{VmaxqS8, VmaxqS16, VmaxqS32, VminqS8, VminqS16, VminqS32}
use Rattle.neon_lane.specs.declared.products.Products.TheVariants.{VmullS16, VmullU16, VmullS32, VmullU32, VmullHighS16, VmullHighU16, VpaddlqU8, VpaddlqU16, VpaddlqU32, VpaddqU16, VpaddqS32}
use Rattle.neon_lane.specs.declared.saturating.Saturating.TheVariants.{VabdqU8, VqaddqS16}
use Rattle.neon_lane.specs.declared.shifts.Shifts as lane
use Rattle.neon_lane.specs.declared.shifts.Shifts.TheVariants.{VshlqNU16, VshlqNS16, VshrqNU16, VshrqNS16}
use Rattle.neon_move.specs.declared.MoveOp.{MoveOp}
use Rattle.neon_move.specs.declared.MoveOp.TheVariants.{Bytes, Halves, Narrowed, Permuting, Places, ToSigned, ToUnsigned}
use Rattle.neon_move.specs.declared.bytes.Bytes.TheVariants.{Vqtbl1qU8}
use Rattle.neon_move.specs.declared.halves.Halves.TheVariants.{VgetLowS16, VgetLowU16, VcombineS16}
use Rattle.neon_move.specs.declared.narrowed.Narrowed.TheVariants.{VmovnS64, VmovnU64, VrshrnNS32}
use Rattle.neon_move.specs.declared.permuting.Permuting.TheVariants.{Vuzp2qU16}
use Rattle.neon_move.specs.declared.places.Places.TheVariants.{VdupqLaneqU32}
use Rattle.neon_move.specs.declared.to_signed.ToSigned.TheVariants.{VreinterpretqS16U16}
use Rattle.neon_move.specs.declared.to_unsigned.ToUnsigned.TheVariants.{VreinterpretqU16S32, VreinterpretqU16U32}
use Rattle.neon_table.specs.declared.NeonOp.{NeonOp}
use Rattle.neon_table.specs.Rows.{of_lane, of_move}
use Rattle.seq_core.specs.Terms.{Term, Param, Const, Call, NoTerms, More}
use Rattle.seq_arith.specs.Calls.{reread, into, back, on_two}

-- the call of a row on vectors of its own elements
abbrev pub one : NeonOp → Term → Term
one row x = Call row (More x NoTerms) 0

abbrev pub two : NeonOp → Term → Term → Term
two row x y = Call row (More x (More y NoTerms)) 0

-- a row on both operands as vectors of these elements, and on a part of each
abbrev pub on_whole : LaneOp → NeonLane → Term
on_whole row t = two (of_lane row) (into t (Param 0)) (into t (Param 1))

abbrev pub on_parts : LaneOp → MoveOp → NeonLane → Term
on_parts row part t = two (of_lane row) (one (of_move part) (into t (Param 0))) (one (of_move part) (into t (Param 1)))

-- the products of the low and of the high words, signed where the truth value is true
abbrev pub low_products : Bool → Term
low_products true = on_parts (Products VmullS16) (Halves VgetLowS16) S16
low_products false = on_parts (Products VmullU16) (Halves VgetLowU16) U16

abbrev pub high_products : Bool → Term
high_products true = on_whole (Products VmullHighS16) S16
high_products false = on_whole (Products VmullHighU16) U16

-- the dwords as words
abbrev pub as_words : Bool → Term → Term
as_words true x = reread (ToUnsigned VreinterpretqU16S32) x
as_words false x = reread (ToUnsigned VreinterpretqU16U32) x

-- the high words of the products
abbrev pub high_words : Bool → Term
high_words signs = back U16 (two (of_move (Permuting Vuzp2qU16)) (as_words signs (low_products signs)) (as_words signs (high_products signs)))

-- the products of the even dwords
abbrev pub even_products : Bool → Term
even_products true = back S64 (on_parts (Products VmullS32) (Narrowed VmovnS64) S64)
even_products false = back U64 (on_parts (Products VmullU32) (Narrowed VmovnU64) U64)

-- a row on the even and the odd lanes of both operands
abbrev pub on_uneven : MoveOp → MoveOp → NeonOp → Term
on_uneven even odd row = on_two row (on_two (of_move even) (Param 0) (Param 1)) (on_two (of_move odd) (Param 0) (Param 1))

-- the products, the two of adjacent words summed
abbrev pub added_products : Term
added_products = back S32 (two (of_lane (Products VpaddqS32)) (low_products true) (high_products true))

-- the differences of the bytes, eight summed
abbrev pub differences : Term
differences = back U64 (one (of_lane (Products VpaddlqU32)) (one (of_lane (Products VpaddlqU16)) (one (of_lane (Products VpaddlqU8)) (two (of_lane (Saturating VabdqU8)) (Param 0) (Param 1)))))

-- the products over 2^15, a half rounded up
abbrev pub rounded : Term → Term
rounded x = Call (of_move (Narrowed VrshrnNS32)) (More x NoTerms) 15

abbrev pub rounded_products : Term
rounded_products = back S16 (two (of_move (Halves VcombineS16)) (rounded (low_products true)) (rounded (high_products true)))

-- 1 in each lane, and -1
abbrev pub ones : Width → List ℕ
ones Byte = 1 ∷ 1 ∷ 1 ∷ 1 ∷ 1 ∷ 1 ∷ 1 ∷ 1 ∷ 1 ∷ 1 ∷ 1 ∷ 1 ∷ 1 ∷ 1 ∷ 1 ∷ 1 ∷ []
ones Word = 1 ∷ 0 ∷ 1 ∷ 0 ∷ 1 ∷ 0 ∷ 1 ∷ 0 ∷ 1 ∷ 0 ∷ 1 ∷ 0 ∷ 1 ∷ 0 ∷ 1 ∷ 0 ∷ []
ones Dword = 1 ∷ 0 ∷ 0 ∷ 0 ∷ 1 ∷ 0 ∷ 0 ∷ 0 ∷ 1 ∷ 0 ∷ 0 ∷ 0 ∷ 1 ∷ 0 ∷ 0 ∷ 0 ∷ []
ones Qword = 1 ∷ 0 ∷ 0 ∷ 0 ∷ 0 ∷ 0 ∷ 0 ∷ 0 ∷ 1 ∷ 0 ∷ 0 ∷ 0 ∷ 0 ∷ 0 ∷ 0 ∷ 0 ∷ []

abbrev pub minus_ones : List ℕ
minus_ones = replicate 16 255

-- the second operand cut to 1 and -1, by the rows for these elements
abbrev pub cut : LaneOp → LaneOp → NeonLane → List ℕ → Term
cut greater lesser t one = two (of_lane greater) (two (of_lane lesser) (into t (Param 1)) (into t (Const one))) (into t (Const minus_ones))

-- the first operand times the sign of the second
abbrev pub by_sign : LaneOp → LaneOp → LaneOp → NeonLane → List ℕ → Term
by_sign product greater lesser t one =
    back t (two (of_lane product) (into t (Param 0)) (cut greater lesser t one))

abbrev pub signs : Width → Term
signs Byte = by_sign (Arithmetic VmulqS8) (Extremes VmaxqS8) (Extremes VminqS8) S8 (ones Byte)
signs Word = by_sign (Arithmetic VmulqS16) (Extremes VmaxqS16) (Extremes VminqS16) S16 (ones Word)
signs _ = by_sign (Arithmetic VmulqS32) (Extremes VmaxqS32) (Extremes VminqS32) S32 (ones Dword)

-- a vector of words shifted by a byte
abbrev pub by_byte : lane.Shifts → Term → Term
by_byte row x = Call (of_lane (Shifts row)) (More x NoTerms) 8

-- the products of the even bytes as words, and of the odd bytes: those of the first operand without a sign, those of the second with one
abbrev pub even_bytes : Term
even_bytes = two (of_lane (Arithmetic VmulqS16)) (reread (ToSigned VreinterpretqS16U16) (by_byte VshrqNU16 (by_byte VshlqNU16 (into U16 (Param 0))))) (by_byte VshrqNS16 (by_byte VshlqNS16 (into S16 (Param 1))))

abbrev pub odd_bytes : Term
odd_bytes = two (of_lane (Arithmetic VmulqS16)) (reread (ToSigned VreinterpretqS16U16) (by_byte VshrqNU16 (into U16 (Param 0)))) (by_byte VshrqNS16 (into S16 (Param 1)))

-- and their sums
abbrev pub added_bytes : Term
added_bytes = back S16 (two (of_lane (Saturating VqaddqS16)) even_bytes odd_bytes)

-- the places of four adjacent bytes, from four adjacent places on
abbrev pub fours : ℕ → List ℕ
fours first = build 1 16 (λ i. first + (i / 4 + i % 4))

-- the differences of these bytes of the first operand and of one dword of the second
abbrev pub four_differences : ℕ → ℕ → Term
four_differences first dword = two (of_lane (Saturating VabdqU8))
    (two (of_move (Bytes Vqtbl1qU8)) (Param 0) (Const (fours first))) (back U32 (Call (of_move (Places VdupqLaneqU32)) (More (into U32 (Param 1)) NoTerms) dword))

-- each four summed, from the places that the immediate gives
abbrev pub sums_of_four : ℕ → Term
sums_of_four imm = back U16 (two (of_lane (Products VpaddqU16))
    (one (of_lane (Products VpaddlqU8)) (four_differences (4 * (imm / 4 % 2)) (imm % 4)))
    (one (of_lane (Products VpaddlqU8)) (four_differences (4 * (imm / 4 % 2) + 4) (imm % 4))))
