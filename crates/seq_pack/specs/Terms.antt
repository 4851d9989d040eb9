-- The terms of the rows.
use Rattle.std.specs.Prelude.{ℕ, ◌+◌, ◌-◌, ◌/◌, ◌%◌, ◌^◌, ◌==◌, replicate, List, Bool, true, false, if◌then◌else◌}
use Rattle.lane_core.specs.Register.{build}
use Rattle.lane_core.specs.declared.number.IntType.{IntType}
use Rattle.lane_core.specs.declared.number.IntType.TheVariants as int
use Rattle.lane_core.specs.declared.vector.NeonLane.{NeonLane}
use Rattle.lane_core.specs.declared.vector.NeonLane.TheVariants.{U8, U16, U32, U64, S8, S16, S32, S64}
use Rattle.intel_lanes.specs.declared.lanes.Width.{Width}
use Rattle.intel_lanes.specs.declared.lanes.Width.TheVariants.{Byte, Word, Dword, Qword}
use Rattle.intel_lanes.specs.Lanes.{bytes_of}
use Rattle.intel_forms.specs.declared.forms.Extension.{Extension}
use Rattle.intel_forms.specs.declared.forms.Extension.TheVariants.{ByteWord, ByteDword, ByteQword, WordDword, WordQword, DwordQword}
use Rattle.neon_lane.specs.declared.LaneOp.TheVariants.{Choices, Logic, Shifts}
use Rattle.neon_lane.specs.declared.choices.Choices.TheVariants.{VbslqU8, VbslqU16, VbslqU32}
use Rattle.neon_lane.specs.declared.logic.Logic.TheVariants.{VandqU8}
use Rattle.neon_lane.specs.declared.shifts.Shifts.TheVariants.{VshrqNS8}
use Rattle.neon_move.specs.declared.MoveOp.TheVariants as move
use Rattle.neon_move.specs.declared.halves.Halves.{Halves}
use Rattle.neon_move.specs.declared.halves.Halves.TheVariants.{VgetLowS8, VgetLowS16, VgetLowS32, VgetLowU8, VgetLowU16, VgetLowU32, VgetHighU8, VcombineU8}
use Rattle.neon_move.specs.declared.narrowed.Narrowed.{Narrowed}
use Rattle.neon_move.specs.declared.widened.Widened.{Widened}
use Rattle.neon_move.specs.declared.widened.Widened.TheVariants.{VmovlS8, VmovlS16, VmovlS32, VmovlU8, VmovlU16, VmovlU32}
use Rattle.neon_move.specs.declared.bytes.Bytes.TheVariants.{Vqtbl1qU8}
use Rattle.neon_move.specs.declared.places.Places.{Places}
use Rattle.neon_move.specs.declared.places.Places.TheVariants.{VdupqNU8, VdupqNU16, VdupqNU32, VdupqNU64, VsetqLaneU8, VsetqLaneU16, VsetqLaneU32, VsetqLaneU64, VgetqLaneU8, VgetqLaneU16, VgetqLaneS32, VgetqLaneS64}
use Rattle.seq_core.specs.Terms.{Term, Param, Const, Convert}
use Rattle.seq_pack.specs.Calls.{moved, moved_two, worked, worked_two, worked_three, into, back}

-- ---- packs and extensions

-- the lanes of both operands halved in width by a row, and joined
abbrev pub packed : NeonLane → Narrowed → Halves → NeonLane → Term
packed from narrow join to =
    back to (moved_two (move.Halves join) (moved (move.Narrowed narrow) (into from (Param 0)) 0) (moved (move.Narrowed narrow) (into from (Param 1)) 0) 0)

-- the elements of a lane, with signs where the truth value is true
abbrev pub elements : Bool → Width → NeonLane
elements true Byte = S8
elements true Word = S16
elements true Dword = S32
elements true Qword = S64
elements false Byte = U8
elements false Word = U16
elements false Dword = U32
elements false Qword = U64

-- the low half of a vector, each element at twice the width
abbrev pub widened : Halves → Widened → Term → Term
widened low wide x = moved (move.Widened wide) (moved (move.Halves low) x 0) 0

-- the low bytes as words, the low words as dwords, the low dwords as qwords
abbrev pub words : Bool → Term → Term
words true x = widened VgetLowS8 VmovlS8 x
words false x = widened VgetLowU8 VmovlU8 x

abbrev pub dwords : Bool → Term → Term
dwords true x = widened VgetLowS16 VmovlS16 x
dwords false x = widened VgetLowU16 VmovlU16 x

abbrev pub qwords : Bool → Term → Term
qwords true x = widened VgetLowS32 VmovlS32 x
qwords false x = widened VgetLowU32 VmovlU32 x

-- the widths of an extension
abbrev pub narrow : Extension → Width
narrow ByteWord = Byte
narrow ByteDword = Byte
narrow ByteQword = Byte
narrow WordDword = Word
narrow WordQword = Word
narrow DwordQword = Dword

abbrev pub wide : Extension → Width
wide ByteWord = Word
wide ByteDword = Dword
wide ByteQword = Qword
wide WordDword = Dword
wide WordQword = Qword
wide DwordQword = Qword

-- its steps, each to twice the width
abbrev pub steps_up : Bool → Extension → Term → Term
steps_up s ByteWord x = words s x
steps_up s ByteDword x = dwords s (words s x)
steps_up s ByteQword x = qwords s (dwords s (words s x))
steps_up s WordDword x = dwords s x
steps_up s WordQword x = qwords s (dwords s x)
steps_up s DwordQword x = qwords s x

-- the low lanes of the operand, extended
abbrev pub extended : Bool → Extension → Term
extended s widths = back (elements s (wide widths)) (steps_up s widths (into (elements s (narrow widths)) (Param 0)))

-- ---- selections

-- of an index the low four bits, and the top bit, which is past every table
abbrev pub kept_bits : List ℕ
kept_bits = replicate 16 143

abbrev pub shuffled : Term
shuffled = moved_two (move.Bytes Vqtbl1qU8) (Param 0) (worked_two (Logic VandqU8) (Param 1) (Const kept_bits)) 0

-- the top bit of each byte of the third operand in all bits chooses the second one's byte
abbrev pub blended_bytes : Term
blended_bytes = worked_three (Choices VbslqU8) (back S8 (worked (Shifts VshrqNS8) (into S8 (Param 2)) 7)) (Param 1) (Param 0)

-- all bits of the lanes of width w whose bit of the immediate is 1
unfoldable pub mask : ℕ → ℕ → List ℕ
mask w imm = build w (16 / w) (λ k. if imm / 2 ^ k % 2 == 1 then 256 ^ w - 1 else 0)

-- the second operand's lanes where the bit is 1, else the first one's; these are words or dwords
abbrev pub by_mask : Width → ℕ → Term
by_mask Word imm = back U16 (worked_three (Choices VbslqU16) (into U16 (Const (mask 2 imm))) (into U16 (Param 1)) (into U16 (Param 0)))
by_mask _ imm = back U32 (worked_three (Choices VbslqU32) (into U32 (Const (mask 4 imm))) (into U32 (Param 1)) (into U32 (Param 0)))

-- the low half of one below the high half of another
abbrev pub halves : Term → Term → Term
halves lo hi = moved_two (move.Halves VcombineU8) (moved (move.Halves VgetLowU8) lo 0) (moved (move.Halves VgetHighU8) hi 0) 0

-- by an operand alone where the immediate has no bit or all, and by halves where it has all bits of one
abbrev pub blended : Width → ℕ → Term
blended width imm =
    if imm == 0 then Param 0 else
    (if imm + 1 == 2 ^ (16 / bytes_of width) then Param 1 else
    (if imm + 1 == 2 ^ (8 / bytes_of width) then halves (Param 1) (Param 0) else
    (if imm + 2 ^ (8 / bytes_of width) == 2 ^ (16 / bytes_of width) then halves (Param 0) (Param 1) else by_mask width imm)))

-- ---- single values

-- the type that an integer for a lane has in the written unit: a `char` of the source is a `signed char`
abbrev pub scalar_type : Width → IntType
scalar_type Byte = int.SChar
scalar_type Word = int.Short
scalar_type Dword = int.Int
scalar_type Qword = int.LLong

-- the type of an unsigned lane
abbrev pub unsigned_type : Width → IntType
unsigned_type Byte = int.UChar
unsigned_type Word = int.UShort
unsigned_type Dword = int.UInt
unsigned_type Qword = int.ULong

abbrev pub zeros : List ℕ
zeros = replicate 16 0

abbrev pub duplicating : Width → Places
duplicating Byte = VdupqNU8
duplicating Word = VdupqNU16
duplicating Dword = VdupqNU32
duplicating Qword = VdupqNU64

abbrev pub setting : Width → Places
setting Byte = VsetqLaneU8
setting Word = VsetqLaneU16
setting Dword = VsetqLaneU32
setting Qword = VsetqLaneU64

-- the integer in all lanes
abbrev pub all_lanes : Width → Term
all_lanes width = back (elements false width) (moved (move.Places (duplicating width)) (Convert (unsigned_type width) (Param 0)) 0)

-- a vector with lane n replaced by the low bits of an integer
abbrev pub with_lane : Width → Term → Term → ℕ → Term
with_lane width x v n = back (elements false width) (moved_two (move.Places (setting width)) (Convert (unsigned_type width) x) (into (elements false width) v) n)

-- lane n of the operand as the integer of a row's result
abbrev pub lane_at : Width → ℕ → Term
lane_at Byte n = Convert int.Int (moved (move.Places VgetqLaneU8) (Param 0) n)
lane_at Word n = Convert int.Int (moved (move.Places VgetqLaneU16) (into U16 (Param 0)) n)
lane_at Dword n = moved (move.Places VgetqLaneS32) (into S32 (Param 0)) n
lane_at Qword n = Convert int.LLong (moved (move.Places VgetqLaneS64) (into S64 (Param 0)) n)
