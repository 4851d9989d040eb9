-- Calls of rows on carriers: vectors of 16 bytes, which stand for all vectors of 128 bits.
use Rattle.std.specs.Prelude.{ℕ, List, [], ◌∷◌, Some}
use Rattle.lane_core.specs.declared.table.Arg.{Arg}
use Rattle.lane_core.specs.declared.table.ParamKind.{ParamKind}
use Rattle.lane_core.specs.declared.table.ParamKind.TheVariants as kind
use Rattle.lane_core.specs.declared.vector.NeonLane.{NeonLane}
use Rattle.lane_core.specs.declared.vector.NeonLane.TheVariants.{U8, U16, U32, U64, S8, S16, S32, S64}
use Rattle.c_tree.specs.declared.types.CType.{CType}
use Rattle.neon_move.specs.declared.MoveOp.{MoveOp}
use Rattle.neon_move.specs.declared.MoveOp.TheVariants.{ToUnsigned, ToSigned}
use Rattle.neon_move.specs.declared.to_signed.ToSigned.TheVariants as to_signed
use Rattle.neon_move.specs.declared.to_unsigned.ToUnsigned.TheVariants as to_unsigned
use Rattle.neon_lane.specs.declared.LaneOp.{LaneOp}
use Rattle.neon_table.specs.Rows.{of_lane, of_move}
use Rattle.seq_core.specs.Terms.{Term, Call, NoTerms, More, Sequence}

-- the call of a row of one operand, with its constant, 0 for a row without one; of two, and of three
abbrev pub moved : MoveOp → Term → ℕ → Term
moved row x imm = Call (of_move row) (More x NoTerms) imm

abbrev pub moved_two : MoveOp → Term → Term → ℕ → Term
moved_two row x y imm = Call (of_move row) (More x (More y NoTerms)) imm

abbrev pub worked : LaneOp → Term → ℕ → Term
worked row x imm = Call (of_lane row) (More x NoTerms) imm

abbrev pub worked_two : LaneOp → Term → Term → Term
worked_two row x y = Call (of_lane row) (More x (More y NoTerms)) 0

abbrev pub worked_three : LaneOp → Term → Term → Term → Term
worked_three row x y z = Call (of_lane row) (More x (More y (More z NoTerms))) 0

-- a carrier read as a vector of these elements, and such a vector as a carrier
abbrev pub into : NeonLane → Term → Term
into U8 x = x
into U16 x = moved (ToUnsigned to_unsigned.VreinterpretqU16U8) x 0
into U32 x = moved (ToUnsigned to_unsigned.VreinterpretqU32U8) x 0
into U64 x = moved (ToUnsigned to_unsigned.VreinterpretqU64U8) x 0
into S8 x = moved (ToSigned to_signed.VreinterpretqS8U8) x 0
into S16 x = moved (ToSigned to_signed.VreinterpretqS16U8) x 0
into S32 x = moved (ToSigned to_signed.VreinterpretqS32U8) x 0
into S64 x = moved (ToSigned to_signed.VreinterpretqS64U8) x 0

abbrev pub back : NeonLane → Term → Term
back U8 x = x
back U16 x = moved (ToUnsigned to_unsigned.VreinterpretqU8U16) x 0
back U32 x = moved (ToUnsigned to_unsigned.VreinterpretqU8U32) x 0
back U64 x = moved (ToUnsigned to_unsigned.VreinterpretqU8U64) x 0
back S8 x = moved (ToUnsigned to_unsigned.VreinterpretqU8S8) x 0
back S16 x = moved (ToUnsigned to_unsigned.VreinterpretqU8S16) x 0
back S32 x = moved (ToUnsigned to_unsigned.VreinterpretqU8S32) x 0
back S64 x = moved (ToUnsigned to_unsigned.VreinterpretqU8S64) x 0

-- a sequence without steps over parameters of these types
abbrev pub over : List CType → Term → Sequence
over types t = record { params = types; steps = []; result = Some t }

-- with steps
abbrev pub over_steps : List CType → List Term → Term → Sequence
over_steps types steps t = record { params = types; steps = steps; result = Some t }

-- the arguments of a row but the place of its immediate: a sequence takes these
abbrev pub operands : List ParamKind → List Arg → List Arg
operands (kind.Immediate ∷ ks) (a ∷ rest) = operands ks rest
operands (k ∷ ks) (a ∷ rest) = a ∷ operands ks rest
operands _ args = args
