-- What the formulas give: registers of 16 bytes, and of n bytes across blocks.
use Rattle.std.proofs.Common.{ℕ, List, Bool, refl, inl, inr}
use Rattle.lane_core.specs.Register.{IsRegister, IsWidth, IsSize}
use Rattle.lane_core.proofs.Laws.{IsRegister-build, IsRegister-map1, IsRegister-map2, IsRegister-pairwise}
use Rattle.intel_lanes.specs.declared.lanes.Width.{Width}
use Rattle.intel_lanes.specs.declared.lanes.Width.TheVariants.{Byte, Word, Dword, Qword}
use Rattle.intel_lanes.specs.declared.lanes.Shift.{Shift}
use Rattle.intel_lanes.specs.declared.blocks.One.{One}
use Rattle.intel_lanes.specs.declared.blocks.One.TheVariants as one
use Rattle.intel_lanes.specs.declared.blocks.Two.{Two}
use Rattle.intel_lanes.specs.declared.blocks.Two.TheVariants as two
use Rattle.intel_lanes.specs.declared.blocks.OneImm.{OneImm}
use Rattle.intel_lanes.specs.declared.blocks.OneImm.TheVariants as one_imm
use Rattle.intel_lanes.specs.declared.blocks.TwoImm.{TwoImm}
use Rattle.intel_lanes.specs.declared.blocks.TwoImm.TheVariants as two_imm
use Rattle.intel_lanes.specs.Lanes.{bytes_of, lane1_of, lane2_of}
use Rattle.intel_lanes.specs.Blocks.{one_of, two_of, one_imm_of, two_imm_of, lanes1, lanes2, pairs, move_low, min_position, multiply_even, multiply_even_unsigned, multiply_add, multiply_add_bytes, sum_differences, pack, pack_unsigned, interleave, shuffle_bytes, shifted, shuffle_dwords, shuffle_low, shuffle_high, bytes_up, bytes_down, align_right, blend, sums_of_four, blend_bytes, extended, broadcast}

pub byte : IsWidth 1
byte = inl refl

pub word : IsWidth 2
word = inr (inl refl)

pub dword : IsWidth 4
dword = inr (inr (inl refl))

pub qword : IsWidth 8
qword = inr (inr (inr refl))

pub width_is : (width : Width) → IsWidth (bytes_of width)
width_is Byte = byte
width_is Word = word
width_is Dword = dword
width_is Qword = qword

pub xmm : IsSize 16
xmm = inr (inl refl)

pub ymm : IsSize 32
ymm = inr (inr refl)

pub move_low_is : (a : List ℕ) → IsRegister 16 (move_low a)
unfolding move_low
move_low_is a = IsRegister-build 8 16 _ qword xmm

pub one_is : (op : One) (a : List ℕ) → IsRegister 16 (one_of op a)
unfolding lanes1 min_position
one_is (one.Lanes op width) a = IsRegister-map1 (bytes_of width) 16 (lane1_of op (bytes_of width)) a (width_is width) xmm
one_is one.MoveLow a = move_low_is a
one_is one.MinPosition a = IsRegister-build 2 16 _ word xmm

pub two_is : (op : Two) (a b : List ℕ) → IsRegister 16 (two_of op a b)
unfolding lanes2 pairs multiply_even multiply_even_unsigned multiply_add multiply_add_bytes sum_differences pack pack_unsigned interleave shuffle_bytes
two_is (two.Lanes op width) a b = IsRegister-map2 (bytes_of width) 16 (lane2_of op (bytes_of width)) a b (width_is width) xmm
two_is (two.Pairs op width) a b = IsRegister-pairwise (bytes_of width) 16 (lane2_of op (bytes_of width)) a b (width_is width) xmm
two_is two.MultiplyEven a b = IsRegister-build 8 16 _ qword xmm
two_is two.MultiplyEvenUnsigned a b = IsRegister-build 8 16 _ qword xmm
two_is two.MultiplyAdd a b = IsRegister-build 4 16 _ dword xmm
two_is two.MultiplyAddBytes a b = IsRegister-build 2 16 _ word xmm
two_is two.SumDifferences a b = IsRegister-build 8 16 _ qword xmm
two_is two.PackWords a b = IsRegister-build 1 16 _ byte xmm
two_is two.PackDwords a b = IsRegister-build 2 16 _ word xmm
two_is two.PackWordsUnsigned a b = IsRegister-build 1 16 _ byte xmm
two_is two.PackDwordsUnsigned a b = IsRegister-build 2 16 _ word xmm
two_is (two.UnpackLow width) a b = IsRegister-build (bytes_of width) 16 _ (width_is width) xmm
two_is (two.UnpackHigh width) a b = IsRegister-build (bytes_of width) 16 _ (width_is width) xmm
two_is two.ShuffleBytes a b = IsRegister-build 1 16 _ byte xmm

pub shifted_is : (op : Shift) (width : Width) (count : ℕ) (a : List ℕ) → IsRegister 16 (shifted op (bytes_of width) count a)
unfolding shifted
shifted_is op width count a = IsRegister-map1 (bytes_of width) 16 _ a (width_is width) xmm

pub one_imm_is : (op : OneImm) (a : List ℕ) (imm : ℕ) → IsRegister 16 (one_imm_of op a imm)
unfolding shuffle_dwords shuffle_low shuffle_high bytes_up bytes_down
one_imm_is (one_imm.Shifted op width) a imm = shifted_is op width imm a
one_imm_is one_imm.ShuffleDwords a imm = IsRegister-build 4 16 _ dword xmm
one_imm_is one_imm.ShuffleLow a imm = IsRegister-build 2 16 _ word xmm
one_imm_is one_imm.ShuffleHigh a imm = IsRegister-build 2 16 _ word xmm
one_imm_is one_imm.BytesUp a imm = IsRegister-build 1 16 _ byte xmm
one_imm_is one_imm.BytesDown a imm = IsRegister-build 1 16 _ byte xmm

pub two_imm_is : (op : TwoImm) (a b : List ℕ) (imm : ℕ) → IsRegister 16 (two_imm_of op a b imm)
unfolding align_right blend sums_of_four
two_imm_is two_imm.AlignRight a b imm = IsRegister-build 1 16 _ byte xmm
two_imm_is two_imm.BlendWords a b imm = IsRegister-build 2 16 _ word xmm
two_imm_is two_imm.BlendDwords a b imm = IsRegister-build 4 16 _ dword xmm
two_imm_is two_imm.SumsOfFour a b imm = IsRegister-build 2 16 _ word xmm

pub blend_is : (a b mask : List ℕ) → IsRegister 16 (blend_bytes a b mask)
unfolding blend_bytes
blend_is a b mask = IsRegister-build 1 16 _ byte xmm

pub extended_is : (signs : Bool) (n from w : ℕ) (a : List ℕ) → IsWidth w → IsSize n → IsRegister n (extended signs n from w a)
unfolding extended
extended_is signs n from w a h s = IsRegister-build w n _ h s

pub broadcast_is : (n w : ℕ) (a : List ℕ) → IsWidth w → IsSize n → IsRegister n (broadcast n w a)
unfolding broadcast
broadcast_is n w a h s = IsRegister-build w n _ h s
