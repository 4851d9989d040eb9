-- What is done to lanes, by the "Operation" of the rows in the Intel Intrinsics Guide. A lane has w bytes; what is stored in it is the
-- formula's value modulo its size.
use Rattle.std.specs.Prelude.{ℕ, ◌+◌, ◌-◌, ◌*◌, ◌/◌, ◌^◌, ℤ, pos, negsuc, ◌+ℤ◌, ◌-ℤ◌, ◌*ℤ◌, min, max, nat_lt, ◌==◌, int_lt, if◌then◌else◌, bit_and, bit_or, bit_xor}
use Rattle.std.specs.Int.{int_shr}
use Rattle.lane_core.specs.Register.{signed, wrapped}
use Rattle.intel_lanes.specs.declared.lanes.Width.{Width}
use Rattle.intel_lanes.specs.declared.lanes.Width.TheVariants.{Byte, Word, Dword, Qword}
use Rattle.intel_lanes.specs.declared.lanes.Lane1.{Lane1}
use Rattle.intel_lanes.specs.declared.lanes.Lane1.TheVariants.{Absolute}
use Rattle.intel_lanes.specs.declared.lanes.Lane2.{Lane2}
use Rattle.intel_lanes.specs.declared.lanes.Lane2.TheVariants as op
use Rattle.intel_lanes.specs.declared.lanes.Shift.{Shift}
use Rattle.intel_lanes.specs.declared.lanes.Shift.TheVariants.{Left, Right, Arithmetic}

-- the bytes of a lane
abbrev pub bytes_of : Width → ℕ
bytes_of Byte = 1
bytes_of Word = 2
bytes_of Dword = 4
bytes_of Qword = 8

-- `Saturate8` to `Saturate32`: the nearest signed value, as a lane
unfoldable pub saturate : ℕ → ℤ → ℕ
saturate w (pos n) = min n (256 ^ w / 2 - 1)
saturate w (negsuc n) = 256 ^ w - 1 - min n (256 ^ w / 2 - 1)

-- `SaturateU8`, `SaturateU16`: the nearest unsigned value
unfoldable pub saturate_unsigned : ℕ → ℤ → ℕ
saturate_unsigned w (pos n) = min n (256 ^ w - 1)
saturate_unsigned w (negsuc n) = 0

-- lane j of the result, of lane j of a: "ABS(a[i+7:i])"
abbrev pub lane1_of : Lane1 → ℕ → ℕ → ℕ
lane1_of Absolute w x = if int_lt (signed w x) (pos 0) then wrapped w (pos 0 -ℤ signed w x) else x

-- a lane shifted by a count: "IF count > 15: 0 ELSE ZeroExtend16(a[i+15:i] << count)", and with the sign for `sra`
abbrev pub shift_of : Shift → ℕ → ℕ → ℕ → ℕ
shift_of Left w x count = if nat_lt count (8 * w) then x * 2 ^ count else 0
shift_of Right w x count = if nat_lt count (8 * w) then x / 2 ^ count else 0
shift_of Arithmetic w x count = wrapped w (int_shr (signed w x) (if nat_lt count (8 * w) then count else 8 * w - 1))

-- lane j of the result, of lanes j of a and b: "Saturate8(a[i+7:i] + b[i+7:i])", "SaturateU8(..)"; "(a[i+7:i] + b[i+7:i] + 1) >> 1"; of "tmp[31:0] :=
-- SignExtend32(a[i+15:i]) * SignExtend32(b[i+15:i])" the low half, "tmp[15:0]", is that of the unsigned product, the high half is "tmp[31:16]", and
-- MultiplyRound is "tmp := ((.. * ..) >> 14) + 1; tmp[16:1]"; "MIN(a[i+15:i], b[i+15:i])"; "(NOT a) AND b"; "( a[i+7:i] > b[i+7:i] ) ? 0xFF : 0"; "IF (b[i+7:i]
-- < 0): NEG(a[i+7:i]) ELSE IF (b[i+7:i] == 0): 0 ELSE a[i+7:i]"
abbrev pub lane2_of : Lane2 → ℕ → ℕ → ℕ → ℕ
lane2_of op.Add w x y = x + y
lane2_of op.Sub w x y = wrapped w (pos x -ℤ pos y)
lane2_of op.AddSaturate w x y = saturate w (signed w x +ℤ signed w y)
lane2_of op.SubSaturate w x y = saturate w (signed w x -ℤ signed w y)
lane2_of op.AddSaturateUnsigned w x y = saturate_unsigned w (pos (x + y))
lane2_of op.SubSaturateUnsigned w x y = saturate_unsigned w (pos x -ℤ pos y)
lane2_of op.Average w x y = (x + y + 1) / 2
lane2_of op.MultiplyLow w x y = x * y
lane2_of op.MultiplyHigh w x y = wrapped w (int_shr (signed w x *ℤ signed w y) (8 * w))
lane2_of op.MultiplyHighUnsigned w x y = x * y / 256 ^ w
lane2_of op.MultiplyRound w x y = wrapped w (int_shr (int_shr (signed w x *ℤ signed w y) 14 +ℤ pos 1) 1)
lane2_of op.Min w x y = if int_lt (signed w x) (signed w y) then x else y
lane2_of op.Max w x y = if int_lt (signed w x) (signed w y) then y else x
lane2_of op.MinUnsigned w x y = min x y
lane2_of op.MaxUnsigned w x y = max x y
lane2_of op.And w x y = bit_and x y
lane2_of op.Or w x y = bit_or x y
lane2_of op.Xor w x y = bit_xor x y
lane2_of op.AndNot w x y = bit_and (256 ^ w - 1 - x) y
lane2_of op.Equal w x y = if x == y then 256 ^ w - 1 else 0
lane2_of op.Greater w x y = if int_lt (signed w y) (signed w x) then 256 ^ w - 1 else 0
lane2_of op.Less w x y = if int_lt (signed w x) (signed w y) then 256 ^ w - 1 else 0
lane2_of op.Sign w x y = if int_lt (signed w y) (pos 0) then wrapped w (pos 0 -ℤ signed w x) else (if y == 0 then 0 else x)
lane2_of (op.ShiftBy shift) w x y = shift_of shift w x y
