-- The terms of rows that reduce a vector to an integer.
use Rattle.std.specs.Prelude.{ℕ, List, [], ◌∷◌, replicate, pos}
use Rattle.lane_core.specs.declared.number.BinOp.TheVariants.{Eq, Ne, BitAnd}
use Rattle.lane_core.specs.declared.number.BinOp.{BinOp}
use Rattle.lane_core.specs.declared.number.IntType.TheVariants as int
use Rattle.lane_core.specs.declared.vector.NeonLane.TheVariants.{U16, U64, S8}
use Rattle.scalar_core.specs.Numbers.{num_of}
use Rattle.intel_forms.specs.declared.scalars.Test.{Test}
use Rattle.intel_forms.specs.declared.scalars.Test.TheVariants.{Zero, Carry, Neither}
use Rattle.neon_lane.specs.declared.LaneOp.TheVariants.{Choices, Extremes, Logic, Shifts}
use Rattle.neon_lane.specs.declared.extremes.Extremes.TheVariants.{VaddvqU16, VmaxvqU32, VminvqU8, VminvqU16}
use Rattle.neon_lane.specs.declared.choices.Choices.TheVariants.{VbslqU16, VceqqU16}
use Rattle.neon_lane.specs.declared.logic.Logic.TheVariants.{VandqU8, VandqU64, VbicqU64}
use Rattle.neon_lane.specs.declared.shifts.Shifts.TheVariants.{VshrqNS8}
use Rattle.neon_move.specs.declared.MoveOp.TheVariants.{Bytes, Permuting, Places, ToUnsigned}
use Rattle.neon_move.specs.declared.bytes.Bytes.TheVariants.{VextqU8}
use Rattle.neon_move.specs.declared.permuting.Permuting.TheVariants.{Vzip1qU8}
use Rattle.neon_move.specs.declared.places.Places.TheVariants.{VdupqNU16, VsetqLaneU16}
use Rattle.neon_move.specs.declared.to_unsigned.ToUnsigned.TheVariants.{VreinterpretqU32U64}
use Rattle.seq_core.specs.Terms.{Term, Param, Step, Const, Int, Convert, Scalar}
use Rattle.seq_pack.specs.Calls.{moved, moved_two, worked, worked_two, worked_three, into, back}
use Rattle.seq_pack.specs.Terms.{zeros}

-- bit j for byte j of each half
abbrev pub places : List ℕ
places = 1 ∷ 2 ∷ 4 ∷ 8 ∷ 16 ∷ 32 ∷ 64 ∷ 128 ∷ 1 ∷ 2 ∷ 4 ∷ 8 ∷ 16 ∷ 32 ∷ 64 ∷ 128 ∷ []

-- the top bit of byte j of a half, as bit j
abbrev pub marks : Term
marks = worked_two (Logic VandqU8) (back S8 (worked (Shifts VshrqNS8) (into S8 (Param 0)) 7)) (Const places)

-- the marks in the step before: bytes j of both halves as word j, and all words summed
abbrev pub marks_summed : Term
marks_summed =
    Convert int.Int (worked (Extremes VaddvqU16) (into U16 (moved_two (Permuting Vzip1qU8) (Step 0) (moved_two (Bytes VextqU8) (Step 0) (Step 0) 8) 0)) 0)

-- the bits of the second operand that are 1 in the first too, and those that aren't
abbrev pub common : Term
common = worked_two (Logic VandqU64) (into U64 (Param 0)) (into U64 (Param 1))

abbrev pub left_over : Term
left_over = worked_two (Logic VbicqU64) (into U64 (Param 1)) (into U64 (Param 0))

-- the greatest dword of qwords beside 0
abbrev pub against_zero : BinOp → Term → Term
against_zero o x = Scalar o (worked (Extremes VmaxvqU32) (moved (ToUnsigned VreinterpretqU32U64) x 0) 0) (Int (num_of int.UInt (pos 0)))

abbrev pub tested : Test → Term
tested Zero = against_zero Eq common
tested Carry = against_zero Eq left_over
tested Neither = Scalar BitAnd (against_zero Ne common) (against_zero Ne left_over)

-- whether the least byte is 255
abbrev pub tested_ones : Term
tested_ones = Scalar Eq (Convert int.Int (worked (Extremes VminvqU8) (Param 0) 0)) (Int (num_of int.Int (pos 255)))

-- the numbers of the words, and words of ones
abbrev pub numbers : List ℕ
numbers = 0 ∷ 0 ∷ 1 ∷ 0 ∷ 2 ∷ 0 ∷ 3 ∷ 0 ∷ 4 ∷ 0 ∷ 5 ∷ 0 ∷ 6 ∷ 0 ∷ 7 ∷ 0 ∷ []

abbrev pub ones : List ℕ
ones = replicate 16 255

-- the least word
abbrev pub least : Term
least = worked (Extremes VminvqU16) (into U16 (Param 0)) 0

-- the words that are the value of the step before, and the least of their numbers
abbrev pub least_words : Term
least_words = worked_two (Choices VceqqU16) (into U16 (Param 0)) (moved (Places VdupqNU16) (Step 0) 0)

abbrev pub least_place : Term
least_place = worked (Extremes VminvqU16) (worked_three (Choices VbslqU16) least_words (into U16 (Const numbers)) (into U16 (Const ones))) 0

-- both steps as the low words of zeros
abbrev pub least_and_place : Term
least_and_place = back U16 (moved_two (Places VsetqLaneU16) (Step 1) (moved_two (Places VsetqLaneU16) (Step 0) (into U16 (Const zeros)) 0) 1)
