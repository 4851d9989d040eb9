-- The terms of rows that shift by counts in lanes of the second operand.
use Rattle.std.specs.Prelude.{ℕ, List, [], ◌∷◌}
use Rattle.lane_core.specs.declared.vector.NeonLane.{NeonLane}
use Rattle.lane_core.specs.declared.vector.NeonLane.TheVariants.{U16, U32, U64, S16, S32, S64}
use Rattle.intel_lanes.specs.declared.lanes.Width.{Width}
use Rattle.intel_lanes.specs.declared.lanes.Width.TheVariants.{Word, Dword, Qword}
use Rattle.intel_lanes.specs.declared.lanes.Shift.{Shift}
use Rattle.intel_lanes.specs.declared.lanes.Shift.TheVariants.{Left, Right, Arithmetic}
use Rattle.neon_lane.specs.declared.LaneOp.TheVariants as group
use Rattle.neon_lane.specs.declared.arithmetic.Arithmetic.TheVariants.{VnegqS32, VsubqU64}
use Rattle.neon_lane.specs.declared.extremes.Extremes.TheVariants.{VminqU32}
use Rattle.neon_lane.specs.declared.saturating.Saturating.TheVariants.{VqsubqU64}
use Rattle.neon_lane.specs.declared.shifts.Shifts.{Shifts}
use Rattle.neon_lane.specs.declared.shifts.Shifts.TheVariants.{VshlqU16, VshlqU32, VshlqU64, VshlqS16, VshlqS32, VshlqS64}
use Rattle.neon_move.specs.declared.MoveOp.TheVariants.{Places, ToSigned, ToUnsigned}
use Rattle.neon_move.specs.declared.places.Places.TheVariants.{VdupqLaneqU16, VdupqLaneqU32, VdupqLaneqU64}
use Rattle.neon_move.specs.declared.to_signed.ToSigned.TheVariants.{VreinterpretqS16U16, VreinterpretqS32U32, VreinterpretqS64U64}
use Rattle.neon_move.specs.declared.to_unsigned.ToUnsigned.TheVariants.{VreinterpretqU16U64, VreinterpretqU32U64}
use Rattle.neon_table.specs.Rows.{of_lane, of_move}
use Rattle.seq_core.specs.Terms.{Term, Param, Const}
use Rattle.seq_arith.specs.Calls.{reread, into, back}
use Rattle.seq_arith.specs.Products.{one, two}

-- the greatest count in each dword: the width, which leaves zeros, or one bit less, which leaves the sign
abbrev pub limit : Shift → List ℕ
limit Left = 32 ∷ 0 ∷ 0 ∷ 0 ∷ 32 ∷ 0 ∷ 0 ∷ 0 ∷ 32 ∷ 0 ∷ 0 ∷ 0 ∷ 32 ∷ 0 ∷ 0 ∷ 0 ∷ []
limit Right = 32 ∷ 0 ∷ 0 ∷ 0 ∷ 32 ∷ 0 ∷ 0 ∷ 0 ∷ 32 ∷ 0 ∷ 0 ∷ 0 ∷ 32 ∷ 0 ∷ 0 ∷ 0 ∷ []
limit Arithmetic = 31 ∷ 0 ∷ 0 ∷ 0 ∷ 31 ∷ 0 ∷ 0 ∷ 0 ∷ 31 ∷ 0 ∷ 0 ∷ 0 ∷ 31 ∷ 0 ∷ 0 ∷ 0 ∷ []

-- the second operand's counts, cut to the limit
abbrev pub counts : Shift → Term
counts s = reread (ToSigned VreinterpretqS32U32) (two (of_lane (group.Extremes VminqU32)) (into U32 (Param 1)) (into U32 (Const (limit s))))

-- a shift to the right is one to the left by the negated count
abbrev pub negated : Shift → Term
negated s = one (of_lane (group.Arithmetic VnegqS32)) (counts s)

abbrev pub dword_shifts : Shift → Term
dword_shifts Left = back U32 (two (of_lane (group.Shifts VshlqU32)) (into U32 (Param 0)) (counts Left))
dword_shifts Right = back U32 (two (of_lane (group.Shifts VshlqU32)) (into U32 (Param 0)) (negated Right))
dword_shifts Arithmetic = back S32 (two (of_lane (group.Shifts VshlqS32)) (into S32 (Param 0)) (negated Arithmetic))

-- 64 in each qword: a shift by so much leaves nothing but the sign of any lane
abbrev pub sixty_four : List ℕ
sixty_four = 64 ∷ 0 ∷ 0 ∷ 0 ∷ 0 ∷ 0 ∷ 0 ∷ 0 ∷ 64 ∷ 0 ∷ 0 ∷ 0 ∷ 0 ∷ 0 ∷ 0 ∷ 0 ∷ []

-- by how much the qwords of the second operand exceed 64
abbrev pub excess : Term
excess = two (of_lane (group.Saturating VqsubqU64)) (into U64 (Param 1)) (into U64 (Const sixty_four))

-- these qwords cut to 64, and negated for a shift to the right
abbrev pub amounts : Shift → Term
amounts Left = two (of_lane (group.Arithmetic VsubqU64)) (into U64 (Param 1)) excess
amounts Right = two (of_lane (group.Arithmetic VsubqU64)) excess (into U64 (Param 1))
amounts Arithmetic = two (of_lane (group.Arithmetic VsubqU64)) excess (into U64 (Param 1))

-- the low one of them in all lanes
abbrev pub amount : Shift → Width → Term
amount s Word = reread (ToSigned VreinterpretqS16U16) (one (of_move (Places VdupqLaneqU16)) (reread (ToUnsigned VreinterpretqU16U64) (amounts s)))
amount s Dword = reread (ToSigned VreinterpretqS32U32) (one (of_move (Places VdupqLaneqU32)) (reread (ToUnsigned VreinterpretqU32U64) (amounts s)))
amount s _ = reread (ToSigned VreinterpretqS64U64) (one (of_move (Places VdupqLaneqU64)) (amounts s))

-- the first operand's elements shifted by signed counts
abbrev pub moved : Shifts → NeonLane → Term → Term
moved row t n = back t (two (of_lane (group.Shifts row)) (into t (Param 0)) n)

abbrev pub moved_by : Shift → Width → Term → Term
moved_by Arithmetic Word n = moved VshlqS16 S16 n
moved_by Arithmetic Dword n = moved VshlqS32 S32 n
moved_by Arithmetic _ n = moved VshlqS64 S64 n
moved_by _ Word n = moved VshlqU16 U16 n
moved_by _ Dword n = moved VshlqU32 U32 n
moved_by _ _ n = moved VshlqU64 U64 n

-- each qword by the qword beside it, and each lane by the low qword
abbrev pub qword_shifts : Shift → Term
qword_shifts s = moved_by s Qword (reread (ToSigned VreinterpretqS64U64) (amounts s))

abbrev pub counted_shifts : Shift → Width → Term
counted_shifts s width = moved_by s width (amount s width)
