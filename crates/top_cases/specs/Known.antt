-- The sequences that the tests print and run.
use Rattle.std.specs.Prelude.{ℕ, List, [], ◌∷◌, Some, None, pos, replicate, false}
use Rattle.lane_core.specs.declared.number.IntType.TheVariants as int
use Rattle.lane_core.specs.declared.number.BinOp.TheVariants.{Add}
use Rattle.lane_core.specs.declared.vector.Pointee.{Pointee}
use Rattle.scalar_core.specs.Numbers.{num_of}
use Rattle.c_tree.specs.declared.types.CType.{CType}
use Rattle.neon_lane.specs.declared.LaneOp.TheVariants.{Arithmetic}
use Rattle.neon_lane.specs.declared.arithmetic.Arithmetic.TheVariants.{VaddqU8}
use Rattle.neon_move.specs.declared.MoveOp.TheVariants.{Bytes}
use Rattle.neon_move.specs.declared.bytes.Bytes.TheVariants.{Vst1qU8}
use Rattle.neon_table.specs.declared.NeonOp.{NeonOp}
use Rattle.neon_table.specs.Rows.{of_lane, of_move}
use Rattle.seq_core.specs.Terms.{Term, Param, Step, Const, Int, Call, PairOf, Half, Scalar, Convert, Choice, Shifted, ByteAt, SetByte, NoTerms, More, Sequence}
use Rattle.seq_core.specs.Formed.{vector}

abbrev pub added : Term → Term → Term
added x y = Call (of_lane (Arithmetic VaddqU8)) (More x (More y NoTerms)) 0

-- a sum as a step, and that step and a constant vector summed
abbrev pub sums : Sequence
sums = record { params = vector ∷ vector ∷ []; steps = added (Param 0) (Param 1) ∷ []; result = Some (added (Step 0) (Const (replicate 16 1))) }

-- the halves of a pair summed
abbrev pub halves : Sequence
halves = record { params = vector ∷ vector ∷ []; steps = PairOf (Param 0) (Param 1) ∷ []; result = Some (added (Half (Step 0) 0) (Half (Step 0) 1)) }

abbrev pub three : Term
three = Int (num_of int.Int (pos 3))

abbrev pub bytes : CType
bytes = CType.Pointer (Pointee.Int int.UChar) false

-- a vector stored, and where a number isn't 0 a byte three bytes on; then the byte there and three more
abbrev pub stored : Sequence
stored = record {
  params = bytes ∷ vector ∷ CType.Int int.UChar ∷ CType.Int int.Int ∷ [];
  steps =
      Call (of_move (Bytes Vst1qU8)) (More (Param 0) (More (Param 1) NoTerms)) 0
      ∷ Choice (Param 3) (Convert int.Int (SetByte (Shifted (Param 0) three) (Param 2))) three
      ∷ [];
  result = Some (Scalar Add (Convert int.Int (ByteAt (Shifted (Param 0) three))) three);
}
