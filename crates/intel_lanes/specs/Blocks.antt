-- What the rows do to blocks of 16 bytes, by the "Operation" of each in the Intel Intrinsics Guide. A row on 16 bytes works on one block;
-- a row on 32 bytes has the same formula for each of its blocks, unless it is said otherwise.
use Rattle.std.specs.Prelude.{ℕ, zero, suc, ◌+◌, ◌-◌, ◌*◌, ◌/◌, ◌%◌, ◌^◌, pos, ◌+ℤ◌, ◌*ℤ◌, List, ◌++◌, take, drop, nat_lt, nat_le, ◌==◌, if◌then◌else◌, Bool, true, false}
use Rattle.lane_core.specs.Register.{lane, build, signed, wrapped}
use Rattle.lane_core.specs.Kernels.{map1_of, map2_of, pairwise_of}
use Rattle.intel_lanes.specs.declared.lanes.Lane1.{Lane1}
use Rattle.intel_lanes.specs.declared.lanes.Lane2.{Lane2}
use Rattle.intel_lanes.specs.declared.lanes.Shift.{Shift}
use Rattle.intel_lanes.specs.declared.blocks.One.{One}
use Rattle.intel_lanes.specs.declared.blocks.One.TheVariants as one
use Rattle.intel_lanes.specs.declared.blocks.Two.{Two}
use Rattle.intel_lanes.specs.declared.blocks.Two.TheVariants as two
use Rattle.intel_lanes.specs.declared.blocks.OneImm.{OneImm}
use Rattle.intel_lanes.specs.declared.blocks.OneImm.TheVariants as one_imm
use Rattle.intel_lanes.specs.declared.blocks.TwoImm.{TwoImm}
use Rattle.intel_lanes.specs.declared.blocks.TwoImm.TheVariants as two_imm
use Rattle.intel_lanes.specs.Lanes.{bytes_of, saturate, saturate_unsigned, lane1_of, lane2_of, shift_of}

-- the sum of f 0 to f (n - 1)
abbrev pub sum_below : ℕ → (ℕ → ℕ) → ℕ
sum_below zero f = 0
sum_below (suc n) f = sum_below n f + f n

-- the place of the first least number among f 0 to f n
abbrev pub first_least : ℕ → (ℕ → ℕ) → ℕ
first_least zero f = 0
first_least (suc n) f = if nat_lt (f (suc n)) (f (first_least n f)) then suc n else first_least n f

-- the difference of two numbers, without a sign
abbrev pub difference : ℕ → ℕ → ℕ
difference x y = (x - y) + (y - x)

unfoldable pub lanes1 : Lane1 → ℕ → List ℕ → List ℕ
lanes1 op w a = map1_of w 16 (lane1_of op w) a

-- "dst[63:0] := a[63:0]; dst[127:64] := 0"
unfoldable pub move_low : List ℕ → List ℕ
move_low a = build 8 2 (λ k. if k == 0 then lane 8 a 0 else 0)

-- "dst[15:0] := min; dst[18:16] := index; dst[127:19] := 0"
unfoldable pub min_position : List ℕ → List ℕ
min_position a = let place = first_least 7 (λ i. lane 2 a i) in build 2 8 (λ k. if k == 0 then lane 2 a place else (if k == 1 then place else 0))

abbrev pub one_of : One → List ℕ → List ℕ
one_of (one.Lanes op width) a = lanes1 op (bytes_of width) a
one_of one.MoveLow a = move_low a
one_of one.MinPosition a = min_position a

unfoldable pub lanes2 : Lane2 → ℕ → List ℕ → List ℕ → List ℕ
lanes2 op w a b = map2_of w 16 (lane2_of op w) a b

-- "dst[15:0] := a[31:16] + a[15:0]": the adjacent lanes of a, then of b
unfoldable pub pairs : Lane2 → ℕ → List ℕ → List ℕ → List ℕ
pairs op w a b = pairwise_of w 16 (lane2_of op w) a b

-- "dst[i+63:i] := SignExtend64(a[i+31:i]) * SignExtend64(b[i+31:i])"
unfoldable pub multiply_even : List ℕ → List ℕ → List ℕ
multiply_even a b = build 8 2 (λ k. wrapped 8 (signed 4 (lane 4 a (2 * k)) *ℤ signed 4 (lane 4 b (2 * k))))

-- "dst[i+63:i] := a[i+31:i] * b[i+31:i]"
unfoldable pub multiply_even_unsigned : List ℕ → List ℕ → List ℕ
multiply_even_unsigned a b = build 8 2 (λ k. lane 4 a (2 * k) * lane 4 b (2 * k))

-- "dst[i+31:i] := SignExtend32(a[i+31:i+16]*b[i+31:i+16]) + SignExtend32(a[i+15:i]*b[i+15:i])"
unfoldable pub multiply_add : List ℕ → List ℕ → List ℕ
multiply_add a b = build 4 4 (λ k. wrapped 4
    (signed 2 (lane 2 a (2 * k)) *ℤ signed 2 (lane 2 b (2 * k)) +ℤ signed 2 (lane 2 a (2 * k + 1)) *ℤ signed 2 (lane 2 b (2 * k + 1))))

-- "dst[i+15:i] := Saturate16( a[i+15:i+8]*b[i+15:i+8] + a[i+7:i]*b[i+7:i] )", the bytes of a without a sign, those of b with one
unfoldable pub multiply_add_bytes : List ℕ → List ℕ → List ℕ
multiply_add_bytes a b = build 2 8 (λ k. saturate 2
    (pos (lane 1 a (2 * k)) *ℤ signed 1 (lane 1 b (2 * k)) +ℤ pos (lane 1 a (2 * k + 1)) *ℤ signed 1 (lane 1 b (2 * k + 1))))

-- "ABS(a[..] - b[..])" summed over eight bytes
unfoldable pub sum_differences : List ℕ → List ℕ → List ℕ
sum_differences a b = build 8 2 (λ k. sum_below 8 (λ j. difference (lane 1 a (8 * k + j)) (lane 1 b (8 * k + j))))

-- "dst[7:0] := Saturate8(a[15:0])" and so on: the lanes of a, then of b, halved in width
unfoldable pub pack : ℕ → List ℕ → List ℕ → List ℕ
pack w a b = build w (16 / w) (λ k. saturate w (signed (2 * w) (lane (2 * w) (a ++ b) k)))

unfoldable pub pack_unsigned : ℕ → List ℕ → List ℕ → List ℕ
pack_unsigned w a b = build w (16 / w) (λ k. saturate_unsigned w (signed (2 * w) (lane (2 * w) (a ++ b) k)))

-- `INTERLEAVE_BYTES` and so on: lanes of a and of b in turn, from lane number first on
unfoldable pub interleave : ℕ → ℕ → List ℕ → List ℕ → List ℕ
interleave first w a b = build w (16 / w) (λ k. if k % 2 == 0 then lane w a (first + k / 2) else lane w b (first + k / 2))

-- "IF b[i+7] == 1: 0, ELSE a[index*8+7:index*8], index := b[i+3:i]"
unfoldable pub shuffle_bytes : List ℕ → List ℕ → List ℕ
shuffle_bytes a b = build 1 16 (λ k. if nat_lt (lane 1 b k) 128 then lane 1 a (lane 1 b k % 16) else 0)

abbrev pub two_of : Two → List ℕ → List ℕ → List ℕ
two_of (two.Lanes op width) a b = lanes2 op (bytes_of width) a b
two_of (two.Pairs op width) a b = pairs op (bytes_of width) a b
two_of two.MultiplyEven a b = multiply_even a b
two_of two.MultiplyEvenUnsigned a b = multiply_even_unsigned a b
two_of two.MultiplyAdd a b = multiply_add a b
two_of two.MultiplyAddBytes a b = multiply_add_bytes a b
two_of two.SumDifferences a b = sum_differences a b
two_of two.PackWords a b = pack 1 a b
two_of two.PackDwords a b = pack 2 a b
two_of two.PackWordsUnsigned a b = pack_unsigned 1 a b
two_of two.PackDwordsUnsigned a b = pack_unsigned 2 a b
two_of (two.UnpackLow width) a b = interleave 0 (bytes_of width) a b
two_of (two.UnpackHigh width) a b = interleave (8 / bytes_of width) (bytes_of width) a b
two_of two.ShuffleBytes a b = shuffle_bytes a b

unfoldable pub shifted : Shift → ℕ → ℕ → List ℕ → List ℕ
shifted op w count a = map1_of w 16 (λ x. shift_of op w x count) a

-- "dst[i+31:i] := (a >> (control[2i+1:2i] * 32))[31:0]"
unfoldable pub shuffle_dwords : List ℕ → ℕ → List ℕ
shuffle_dwords a imm = build 4 4 (λ k. lane 4 a (imm / 4 ^ k % 4))

-- "dst[15:0] := (a >> (imm8[1:0] * 16))[15:0]; ..; dst[127:64] := a[127:64]"
unfoldable pub shuffle_low : List ℕ → ℕ → List ℕ
shuffle_low a imm = build 2 8 (λ k. if nat_lt k 4 then lane 2 a (imm / 4 ^ k % 4) else lane 2 a k)

-- "dst[63:0] := a[63:0]; dst[79:64] := (a >> (imm8[1:0] * 16))[79:64]; .."
unfoldable pub shuffle_high : List ℕ → ℕ → List ℕ
shuffle_high a imm = build 2 8 (λ k. if nat_lt k 4 then lane 2 a k else lane 2 a (4 + imm / 4 ^ (k - 4) % 4))

-- "tmp > 15: tmp := 16; dst := a << (tmp*8)"
unfoldable pub bytes_up : List ℕ → ℕ → List ℕ
bytes_up a imm = build 1 16 (λ k. if nat_le imm k then lane 1 a (k - imm) else 0)

-- "tmp > 15: tmp := 16; dst := a >> (tmp*8)"
unfoldable pub bytes_down : List ℕ → ℕ → List ℕ
bytes_down a imm = build 1 16 (λ k. if nat_lt (k + imm) 16 then lane 1 a (k + imm) else 0)

abbrev pub one_imm_of : OneImm → List ℕ → ℕ → List ℕ
one_imm_of (one_imm.Shifted op width) a imm = shifted op (bytes_of width) imm a
one_imm_of one_imm.ShuffleDwords a imm = shuffle_dwords a imm
one_imm_of one_imm.ShuffleLow a imm = shuffle_low a imm
one_imm_of one_imm.ShuffleHigh a imm = shuffle_high a imm
one_imm_of one_imm.BytesUp a imm = bytes_up a imm
one_imm_of one_imm.BytesDown a imm = bytes_down a imm

-- "((a << 128)[255:0] OR b) >> (imm8*8)": bytes from imm on of b, then a, then zeros
unfoldable pub align_right : List ℕ → List ℕ → ℕ → List ℕ
align_right a b imm = build 1 16 (λ k. if nat_lt (k + imm) 32 then lane 1 (b ++ a) (k + imm) else 0)

-- "IF imm8[j] b[i+15:i] ELSE a[i+15:i]"
unfoldable pub blend : ℕ → List ℕ → List ℕ → ℕ → List ℕ
blend w a b imm = build w (16 / w) (λ k. if imm / 2 ^ k % 2 == 1 then lane w b k else lane w a k)

-- word j: the four absolute differences of a from byte 4 * imm[2] + j on and of b from byte 4 * imm[1:0] on
unfoldable pub sums_of_four : List ℕ → List ℕ → ℕ → List ℕ
sums_of_four a b imm =
    build 2 8 (λ j. sum_below 4 (λ k. difference (lane 1 a (4 * (imm / 4 % 2) + j + k)) (lane 1 b (4 * (imm % 4) + k))))

abbrev pub two_imm_of : TwoImm → List ℕ → List ℕ → ℕ → List ℕ
two_imm_of two_imm.AlignRight a b imm = align_right a b imm
two_imm_of two_imm.BlendWords a b imm = blend 2 a b imm
two_imm_of two_imm.BlendDwords a b imm = blend 4 a b imm
two_imm_of two_imm.SumsOfFour a b imm = sums_of_four a b imm

-- "IF mask[i+7] b[i+7:i] ELSE a[i+7:i]"
unfoldable pub blend_bytes : List ℕ → List ℕ → List ℕ → List ℕ
blend_bytes a b mask = build 1 16 (λ k. if nat_lt (lane 1 mask k) 128 then lane 1 a k else lane 1 b k)

-- "SignExtend32(a[i+7:i])" or "ZeroExtend32(a[i+7:i])": a lane of width `from` as one of width w
abbrev pub extended_lane : Bool → ℕ → ℕ → ℕ → ℕ
extended_lane true from w x = wrapped w (signed from x)
extended_lane false from w x = x

-- n bytes, across blocks: the low lanes of width `from` as lanes of width w
unfoldable pub extended : Bool → ℕ → ℕ → ℕ → List ℕ → List ℕ
extended signs n from w a = build w (n / w) (λ k. extended_lane signs from w (lane from a k))

-- n bytes: lane 0 in all lanes
unfoldable pub broadcast : ℕ → ℕ → List ℕ → List ℕ
broadcast n w a = build w (n / w) (λ k. lane w a 0)

-- a row on 32 bytes, block by block
abbrev pub by_blocks : (List ℕ → List ℕ) → List ℕ → List ℕ
by_blocks f a = f (take 16 a) ++ f (drop 16 a)

abbrev pub by_blocks2 : (List ℕ → List ℕ → List ℕ) → List ℕ → List ℕ → List ℕ
by_blocks2 f a b = f (take 16 a) (take 16 b) ++ f (drop 16 a) (drop 16 b)

abbrev pub by_blocks3 : (List ℕ → List ℕ → List ℕ → List ℕ) → List ℕ → List ℕ → List ℕ → List ℕ
by_blocks3 f a b c = f (take 16 a) (take 16 b) (take 16 c) ++ f (drop 16 a) (drop 16 b) (drop 16 c)
