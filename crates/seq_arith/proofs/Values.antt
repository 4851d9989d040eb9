-- Each sequence gives its row's value.
use Rattle.std.proofs.Common.{◌≡◌, ℕ, zero, suc, ◌+◌, ◌-◌, ◌*◌, ◌/◌, ◌%◌, ◌^◌, ◌<◌, List, [], ◌∷◌, ◌++◌, Bool, true, false, Option, Some, None, option_map, refl, ap, sym, subst, ◌∙◌, arith, rules}
use Rattle.std.specs.Prelude.{pos, ◌+ℤ◌, ◌-ℤ◌, ◌==◌, min, nat_lt, int_lt, bit_and, replicate, if◌then◌else◌, IfOk, Result, Ok, Err}
use Rattle.std.specs.Int.{int_shr}
use Rattle.std.specs.Int.Bits.{and_comm}
use Rattle.lane_core.specs.Register.{IsRegister, signed, wrapped, lane, build}
use Rattle.lane_core.specs.Kernels.{map1_of, map2_of}
use Rattle.lane_core.specs.declared.vector.NeonLane.TheVariants.{U16, U32, U64, S16, S32, S64}
use Rattle.lane_core.specs.declared.table.Arg.{Arg}
use Rattle.lane_core.specs.declared.table.Arg.TheVariants as arg
use Rattle.lane_core.specs.declared.table.ParamKind.TheVariants as kind
use Rattle.lane_core.specs.declared.table.Sig.{Sig}
use Rattle.lane_core.specs.Table.{Fits, FitsKinds, params_of, signature}
use Rattle.lane_core.proofs.Lanes.{width_pos, lanes_fill, build_same}
use Rattle.lane_core.proofs.Laws.{map1_same, map2_same, IsRegister-build}
use Rattle.intel_lanes.specs.declared.lanes.Width.{Width}
use Rattle.intel_lanes.specs.declared.lanes.Width.TheVariants.{Byte, Word, Dword, Qword}
use Rattle.intel_lanes.specs.declared.lanes.Lane1.TheVariants.{Absolute}
use Rattle.intel_lanes.specs.declared.lanes.Lane2.{Lane2}
use Rattle.intel_lanes.specs.declared.lanes.Lane2.TheVariants as op
use Rattle.intel_lanes.specs.declared.lanes.Shift.{Shift}
use Rattle.intel_lanes.specs.declared.lanes.Shift.TheVariants as shift
use Rattle.intel_lanes.specs.declared.blocks.One.TheVariants as one
use Rattle.intel_lanes.specs.declared.blocks.Two.TheVariants as two
use Rattle.intel_lanes.specs.declared.blocks.OneImm.TheVariants as one_imm
use Rattle.intel_lanes.specs.declared.blocks.TwoImm.{TwoImm}
use Rattle.intel_lanes.specs.declared.blocks.TwoImm.TheVariants.{SumsOfFour}
use Rattle.intel_lanes.specs.Lanes.{bytes_of, lane1_of, lane2_of, shift_of}
use Rattle.intel_lanes.specs.Blocks.{lanes1, lanes2, pairs, shifted, multiply_even, multiply_even_unsigned, multiply_add, multiply_add_bytes, sum_differences, two_imm_of}
use Rattle.intel_lanes.specs.Laws.{width_is, word, xmm}
use Rattle.intel_forms.specs.declared.sizes.Size.TheVariants.{Xmm}
use Rattle.intel_forms.specs.declared.forms.Form.{Form}
use Rattle.intel_forms.specs.declared.forms.Form.TheVariants as form
use Rattle.intel_forms.specs.Forms.{signature_of, value_of, one_value, two_value, counted_value, one_imm_value, two_imm_value}
use Rattle.neon_elements.specs.Elements.{signed_sat, unsigned_sat, abs_of}
use Rattle.neon_elements.specs.Vectors.{each1, each2, compared, pair_sums, shifted_left, shifted_right, unzipped, duplicated_lane}
use Rattle.seq_core.specs.declared.terms.Seq.{Seq}
use Rattle.seq_core.specs.View.{view_seq}
use Rattle.seq_core.specs.Terms.{Sequence, Param, Const}
use Rattle.seq_core.specs.Values.{evaluated}
use Rattle.seq_arith.specs.declared.plans.Shape.{Shape}
use Rattle.seq_arith.specs.declared.plans.Shape.TheVariants as shape
use Rattle.seq_arith.specs.Calls.{operands, on_one, over_one}
use Rattle.seq_arith.specs.Rows.{shift_row_of}
use Rattle.seq_arith.specs.Plans.{shifted_by, sequence_of, by_count, planned_two, planned}
use Rattle.seq_arith.proofs.Sums.{added_products, differences}
use Rattle.seq_arith.proofs.Rounded.{rounded_products}
use Rattle.seq_arith.proofs.Signs.{signs_1, signs_2, signs_4}
use Rattle.seq_arith.proofs.ByteProducts.{added_bytes}
use Rattle.seq_arith.proofs.Fours.{sums}
use Rattle.seq_arith.proofs.Amounts.{left_qwords, right_qwords, arithmetic_qwords, counted, low_2, low_4, low_8}
use Rattle.seq_arith.proofs.Dwords.{left_dwords, right_dwords, arithmetic_dwords}
use Rattle.seq_arith.proofs.Wide.{uneven, high_signed, high_unsigned, even_signed, even_unsigned}
use Rattle.seq_arith.proofs.Kernels.{saturate_is, saturate_unsigned_is, average_is, min_is, min_unsigned_is, max_unsigned_is, absolute_is, none_shifted, right_is, arithmetic_is}

-- ---- registers

-- formulas that are equal, or equal modulo the lane's size
equal2 : (w : ℕ) (f g : ℕ → ℕ → ℕ) (a b : List ℕ) → IsRegister 16 a → IsRegister 16 b → ((x y : ℕ) → x < 256 ^ w → y < 256 ^ w → f x y ≡ g x y)
    → map2_of w 16 g a b ≡ map2_of w 16 f a b
equal2 w f g a b h k e = sym (map2_same w 16 f g a b h.bytes k.bytes (λ x y l m. ap (λ v. v % 256 ^ w) (e x y l m)))

add_saturate : (w : ℕ) (a b : List ℕ) → IsRegister 16 a → IsRegister 16 b
    → map2_of w 16 (λ x y. signed_sat w (signed w x +ℤ signed w y)) a b ≡ map2_of w 16 (lane2_of op.AddSaturate w) a b
add_saturate w a b h k = equal2 w (lane2_of op.AddSaturate w) (λ x y. signed_sat w (signed w x +ℤ signed w y)) a b h k (λ x y l m. saturate_is w (signed w x +ℤ signed w y))

sub_saturate : (w : ℕ) (a b : List ℕ) → IsRegister 16 a → IsRegister 16 b
    → map2_of w 16 (λ x y. signed_sat w (signed w x -ℤ signed w y)) a b ≡ map2_of w 16 (lane2_of op.SubSaturate w) a b
sub_saturate w a b h k = equal2 w (lane2_of op.SubSaturate w) (λ x y. signed_sat w (signed w x -ℤ signed w y)) a b h k (λ x y l m. saturate_is w (signed w x -ℤ signed w y))

add_saturate_unsigned : (w : ℕ) (a b : List ℕ) → IsRegister 16 a → IsRegister 16 b
    → map2_of w 16 (λ x y. unsigned_sat w (pos x +ℤ pos y)) a b ≡ map2_of w 16 (lane2_of op.AddSaturateUnsigned w) a b
add_saturate_unsigned w a b h k = equal2 w (lane2_of op.AddSaturateUnsigned w) (λ x y. unsigned_sat w (pos x +ℤ pos y)) a b h k (λ x y l m. saturate_unsigned_is w (pos (x + y)))

sub_saturate_unsigned : (w : ℕ) (a b : List ℕ) → IsRegister 16 a → IsRegister 16 b
    → map2_of w 16 (λ x y. unsigned_sat w (pos x -ℤ pos y)) a b ≡ map2_of w 16 (lane2_of op.SubSaturateUnsigned w) a b
sub_saturate_unsigned w a b h k = equal2 w (lane2_of op.SubSaturateUnsigned w) (λ x y. unsigned_sat w (pos x -ℤ pos y)) a b h k (λ x y l m. saturate_unsigned_is w (pos x -ℤ pos y))

average : (w : ℕ) (a b : List ℕ) → IsRegister 16 a → IsRegister 16 b
    → map2_of w 16 (λ x y. wrapped w (int_shr (pos x +ℤ pos y +ℤ pos 1) 1)) a b ≡ map2_of w 16 (lane2_of op.Average w) a b
average w a b h k =
    sym (map2_same w 16 (lane2_of op.Average w) (λ x y. wrapped w (int_shr (pos x +ℤ pos y +ℤ pos 1) 1)) a b h.bytes k.bytes (λ x y l m. average_is w x y))

least : (w : ℕ) (a b : List ℕ) → IsRegister 16 a → IsRegister 16 b
    → map2_of w 16 (λ x y. if int_lt (signed w y) (signed w x) then y else x) a b ≡ map2_of w 16 (lane2_of op.Min w) a b
least w a b h k = equal2 w (lane2_of op.Min w) (λ x y. if int_lt (signed w y) (signed w x) then y else x) a b h k (min_is w)

least_unsigned : (w : ℕ) (a b : List ℕ) → IsRegister 16 a → IsRegister 16 b
    → map2_of w 16 (λ x y. if int_lt (pos y) (pos x) then y else x) a b ≡ map2_of w 16 (lane2_of op.MinUnsigned w) a b
least_unsigned w a b h k = equal2 w (lane2_of op.MinUnsigned w) (λ x y. if int_lt (pos y) (pos x) then y else x) a b h k (λ x y l m. min_unsigned_is x y)

greatest_unsigned : (w : ℕ) (a b : List ℕ) → IsRegister 16 a → IsRegister 16 b
    → map2_of w 16 (λ x y. if int_lt (pos x) (pos y) then y else x) a b ≡ map2_of w 16 (lane2_of op.MaxUnsigned w) a b
greatest_unsigned w a b h k = equal2 w (lane2_of op.MaxUnsigned w) (λ x y. if int_lt (pos x) (pos y) then y else x) a b h k (λ x y l m. max_unsigned_is x y)

-- the operands exchanged
without : (a b : List ℕ) → map2_of 1 16 (λ x y. bit_and x (256 ^ 1 - 1 - y)) b a ≡ map2_of 1 16 (lane2_of op.AndNot 1) a b
unfolding map2_of
without a b =
    build_same 1 16 (λ k. bit_and (lane 1 b k) (256 ^ 1 - 1 - lane 1 a k)) (λ k. bit_and (256 ^ 1 - 1 - lane 1 a k) (lane 1 b k))
    (λ k l. ap (λ v. v % 256 ^ 1) (and_comm (lane 1 b k) (256 ^ 1 - 1 - lane 1 a k)))

less : (w : ℕ) (a b : List ℕ) → map2_of w 16 (lane2_of op.Greater w) b a ≡ map2_of w 16 (lane2_of op.Less w) a b
unfolding map2_of
less w a b = refl

absolute : (w : ℕ) (a : List ℕ) → IsRegister 16 a → map1_of w 16 (λ x. wrapped w (abs_of (signed w x))) a ≡ map1_of w 16 (lane1_of Absolute w) a
absolute w a h =
    sym (map1_same w 16 (lane1_of Absolute w) (λ x. wrapped w (abs_of (signed w x))) a h.bytes (λ x l. ap (λ v. v % 256 ^ w) (absolute_is w x l)))

-- ---- sequences

-- the sequence, where there is one, gives f of its operands
abbrev Gives1 : Option Shape → ℕ → (List ℕ → List ℕ) → Type 0
Gives1 None imm f = Unit {0}
Gives1 (Some p) imm f = (a : List ℕ) → IsRegister 16 a → evaluated (sequence_of p imm) (arg.R16 a ∷ []) ≡ Some (arg.R16 (f a))

abbrev Gives2 : Option Shape → ℕ → (List ℕ → List ℕ → List ℕ) → Type 0
Gives2 None imm f = Unit {0}
Gives2 (Some p) imm f = (a b : List ℕ) → IsRegister 16 a → IsRegister 16 b → evaluated (sequence_of p imm) (arg.R16 a ∷ arg.R16 b ∷ []) ≡ Some (arg.R16 (f a b))

as_register : {r s : List ℕ} → r ≡ s → Some (arg.R16 r) ≡ Some (arg.R16 s)
as_register e = ap (λ r. Some (arg.R16 r)) e

lanes1_give : (width : Width) (imm : ℕ) → Gives1 (planned (form.One Xmm (one.Lanes Absolute width))) imm (lanes1 Absolute (bytes_of width))
unfolding lanes1 each1
lanes1_give Byte imm = λ a h. as_register (absolute 1 a h)
lanes1_give Word imm = λ a h. as_register (absolute 2 a h)
lanes1_give Dword imm = λ a h. as_register (absolute 4 a h)
lanes1_give Qword imm = tt

lanes2_give : (o : Lane2) (width : Width) (imm : ℕ) → Gives2 (planned_two (two.Lanes o width)) imm (lanes2 o (bytes_of width))
unfolding lanes2 each2 compared
lanes2_give op.Add Byte imm = λ a b h k. refl
lanes2_give op.Add _ imm = λ a b h k. refl
lanes2_give op.Sub Byte imm = λ a b h k. refl
lanes2_give op.Sub _ imm = λ a b h k. refl
lanes2_give op.AddSaturate Byte imm = λ a b h k. as_register (add_saturate 1 a b h k)
lanes2_give op.AddSaturate Word imm = λ a b h k. as_register (add_saturate 2 a b h k)
lanes2_give op.SubSaturate Byte imm = λ a b h k. as_register (sub_saturate 1 a b h k)
lanes2_give op.SubSaturate Word imm = λ a b h k. as_register (sub_saturate 2 a b h k)
lanes2_give op.AddSaturateUnsigned Byte imm = λ a b h k. as_register (add_saturate_unsigned 1 a b h k)
lanes2_give op.AddSaturateUnsigned Word imm = λ a b h k. as_register (add_saturate_unsigned 2 a b h k)
lanes2_give op.SubSaturateUnsigned Byte imm = λ a b h k. as_register (sub_saturate_unsigned 1 a b h k)
lanes2_give op.SubSaturateUnsigned Word imm = λ a b h k. as_register (sub_saturate_unsigned 2 a b h k)
lanes2_give op.Average Byte imm = λ a b h k. as_register (average 1 a b h k)
lanes2_give op.Average Word imm = λ a b h k. as_register (average 2 a b h k)
lanes2_give op.MultiplyLow Word imm = λ a b h k. refl
lanes2_give op.MultiplyLow Dword imm = λ a b h k. refl
lanes2_give op.MultiplyHigh Word imm = λ a b h k. as_register (high_signed a b h k)
lanes2_give op.MultiplyHighUnsigned Word imm = λ a b h k. as_register (high_unsigned a b h k)
lanes2_give op.MultiplyRound Word imm = λ a b h k. as_register (rounded_products a b h k)
lanes2_give op.Sign Byte imm = λ a b h k. as_register (signs_1 a b h k)
lanes2_give op.Sign Word imm = λ a b h k. as_register (signs_2 a b h k)
lanes2_give op.Sign Dword imm = λ a b h k. as_register (signs_4 a b h k)
lanes2_give (op.ShiftBy shift.Left) Dword imm = λ a b h k. as_register (left_dwords a b h k)
lanes2_give (op.ShiftBy shift.Right) Dword imm = λ a b h k. as_register (right_dwords a b h k)
lanes2_give (op.ShiftBy shift.Arithmetic) Dword imm = λ a b h k. as_register (arithmetic_dwords a b h k)
lanes2_give (op.ShiftBy shift.Left) Qword imm = λ a b h k. as_register (left_qwords a b h k)
lanes2_give (op.ShiftBy shift.Right) Qword imm = λ a b h k. as_register (right_qwords a b h k)
lanes2_give (op.ShiftBy shift.Arithmetic) Qword imm = λ a b h k. as_register (arithmetic_qwords a b h k)
lanes2_give op.Min Byte imm = λ a b h k. as_register (least 1 a b h k)
lanes2_give op.Min Word imm = λ a b h k. as_register (least 2 a b h k)
lanes2_give op.Min Dword imm = λ a b h k. as_register (least 4 a b h k)
lanes2_give op.Max Byte imm = λ a b h k. refl
lanes2_give op.Max Word imm = λ a b h k. refl
lanes2_give op.Max Dword imm = λ a b h k. refl
lanes2_give op.MinUnsigned Byte imm = λ a b h k. as_register (least_unsigned 1 a b h k)
lanes2_give op.MinUnsigned Word imm = λ a b h k. as_register (least_unsigned 2 a b h k)
lanes2_give op.MinUnsigned Dword imm = λ a b h k. as_register (least_unsigned 4 a b h k)
lanes2_give op.MaxUnsigned Byte imm = λ a b h k. as_register (greatest_unsigned 1 a b h k)
lanes2_give op.MaxUnsigned Word imm = λ a b h k. as_register (greatest_unsigned 2 a b h k)
lanes2_give op.MaxUnsigned Dword imm = λ a b h k. as_register (greatest_unsigned 4 a b h k)
lanes2_give op.And Byte imm = λ a b h k. refl
lanes2_give op.Or Byte imm = λ a b h k. refl
lanes2_give op.Xor Byte imm = λ a b h k. refl
lanes2_give op.AndNot Byte imm = λ a b h k. as_register (without a b)
lanes2_give op.Equal Byte imm = λ a b h k. refl
lanes2_give op.Equal _ imm = λ a b h k. refl
lanes2_give op.Greater Byte imm = λ a b h k. refl
lanes2_give op.Greater _ imm = λ a b h k. refl
lanes2_give op.Less Byte imm = λ a b h k. as_register (less 1 a b)
lanes2_give op.Less Word imm = λ a b h k. as_register (less 2 a b)
lanes2_give op.Less Dword imm = λ a b h k. as_register (less 4 a b)
lanes2_give op.Less Qword imm = λ a b h k. as_register (less 8 a b)
lanes2_give _ _ imm = tt

counted_give : (s : Shift) (width : Width) (imm : ℕ) → Gives2 (by_count s width) imm (λ a b. shifted s (bytes_of width) (lane 8 b 0) a)
unfolding each2 duplicated_lane
counted_give shift.Left Word imm = λ a b h k. as_register (counted shift.Left U16 a b (omega arith) low_2 h k)
counted_give shift.Left Dword imm = λ a b h k. as_register (counted shift.Left U32 a b (omega arith) low_4 h k)
counted_give shift.Left Qword imm = λ a b h k. as_register (counted shift.Left U64 a b (omega arith) low_8 h k)
counted_give shift.Right Word imm = λ a b h k. as_register (counted shift.Right U16 a b (omega arith, omega arith, refl) low_2 h k)
counted_give shift.Right Dword imm = λ a b h k. as_register (counted shift.Right U32 a b (omega arith, omega arith, refl) low_4 h k)
counted_give shift.Right Qword imm = λ a b h k. as_register (counted shift.Right U64 a b (omega arith, omega arith, refl) low_8 h k)
counted_give shift.Arithmetic Word imm = λ a b h k. as_register (counted shift.Arithmetic S16 a b (omega arith, omega arith, refl) low_2 h k)
counted_give shift.Arithmetic Dword imm = λ a b h k. as_register (counted shift.Arithmetic S32 a b (omega arith, omega arith, refl) low_4 h k)
counted_give shift.Arithmetic Qword imm = λ a b h k. as_register (counted shift.Arithmetic S64 a b (omega arith, omega arith, refl) low_8 h k)
counted_give _ Byte imm = tt

-- the even words of two vectors, or the odd ones
abbrev lanes_from : ℕ → List ℕ → List ℕ → List ℕ
lanes_from part a b = build 2 8 (λ e. lane 2 (a ++ b) (2 * e + part))

half_of_lanes : (part : ℕ) (a b : List ℕ) → IsRegister 16 (lanes_from part a b)
half_of_lanes part a b = IsRegister-build 2 16 (λ e. lane 2 (a ++ b) (2 * e + part)) word xmm

pairs_give : (o : Lane2) (width : Width) (imm : ℕ) → Gives2 (planned_two (two.Pairs o width)) imm (pairs o (bytes_of width))
unfolding pairs pair_sums each2 unzipped
pairs_give op.Add Word imm = λ a b h k. refl
pairs_give op.Add Dword imm = λ a b h k. refl
pairs_give op.Sub Word imm = λ a b h k. as_register (uneven 2 16 (lane2_of op.Sub 2) a b h.bytes k.bytes)
pairs_give op.Sub Dword imm = λ a b h k. as_register (uneven 4 16 (lane2_of op.Sub 4) a b h.bytes k.bytes)
pairs_give op.AddSaturate Word imm = λ a b h k.
    as_register (add_saturate 2 (lanes_from 0 a b) (lanes_from 1 a b) (half_of_lanes 0 a b) (half_of_lanes 1 a b) ∙ uneven 2 16 (lane2_of op.AddSaturate 2) a b h.bytes k.bytes)
pairs_give op.SubSaturate Word imm = λ a b h k.
    as_register (sub_saturate 2 (lanes_from 0 a b) (lanes_from 1 a b) (half_of_lanes 0 a b) (half_of_lanes 1 a b) ∙ uneven 2 16 (lane2_of op.SubSaturate 2) a b h.bytes k.bytes)
pairs_give _ _ imm = tt

-- ---- shifts

-- all bits are shifted out
gone : (w n imm : ℕ) (a : List ℕ) (s : ℕ → ℕ → ℕ) → ((x : ℕ) → s x imm ≡ 0) → build w n (λ k. 0) ≡ build w n (λ k. s (lane w a k) imm)
gone w n imm a s e = build_same w n (λ k. 0) (λ k. s (lane w a k) imm) (λ k l. ap (λ v. v % 256 ^ w) (sym (e (lane w a k))))

zeros : (width : Width) → replicate 16 0 ≡ build (bytes_of width) (16 / bytes_of width) (λ k. 0)
unfolding build
zeros Byte = refl
zeros Word = refl
zeros Dword = refl
zeros Qword = refl

left_gone : (w x imm : ℕ) → nat_lt imm (8 * w) ≡ false → shift_of shift.Left w x imm ≡ 0
left_gone w x imm e = rw e refl

right_gone : (w x imm : ℕ) → nat_lt imm (8 * w) ≡ false → shift_of shift.Right w x imm ≡ 0
right_gone w x imm e = rw e refl

left_all : (width : Width) (imm : ℕ) (a : List ℕ) → nat_lt imm (8 * bytes_of width) ≡ false → replicate 16 0 ≡ shifted shift.Left (bytes_of width) imm a
unfolding shifted map1_of
left_all width imm a e =
    let w = bytes_of width in
    zeros width ∙ gone w (16 / w) imm a (shift_of shift.Left w) (λ x. left_gone w x imm e)

right_all : (width : Width) (imm : ℕ) (a : List ℕ) → nat_lt imm (8 * bytes_of width) ≡ false → replicate 16 0 ≡ shifted shift.Right (bytes_of width) imm a
unfolding shifted map1_of
right_all width imm a e =
    let w = bytes_of width in
    zeros width ∙ gone w (16 / w) imm a (shift_of shift.Right w) (λ x. right_gone w x imm e)

right_some : (w imm : ℕ) (a : List ℕ) → IsRegister 16 a → nat_lt imm (8 * w) ≡ true
    → map1_of w 16 (λ x. wrapped w (int_shr (pos x) (min imm (8 * w)))) a ≡ map1_of w 16 (λ x. shift_of shift.Right w x imm) a
right_some w imm a h e = sym (map1_same w 16 (λ x. shift_of shift.Right w x imm) (λ x. wrapped w (int_shr (pos x) (min imm (8 * w)))) a h.bytes (λ x l. right_is w imm x e))

arithmetic_some : (w imm : ℕ) (a : List ℕ) → 0 < w → IsRegister 16 a
    → map1_of w 16 (λ x. wrapped w (int_shr (signed w x) (min (min imm (8 * w)) (8 * w)))) a ≡ map1_of w 16 (λ x. shift_of shift.Arithmetic w x imm) a
arithmetic_some w imm a p h =
    sym (map1_same w 16 (λ x. shift_of shift.Arithmetic w x imm) (λ x. wrapped w (int_shr (signed w x) (min (min imm (8 * w)) (8 * w)))) a h.bytes
    (λ x l. ap (λ v. v % 256 ^ w) (arithmetic_is w imm x p l)))

-- by less than the width, and by more
left_gives : (width : Width) (imm : ℕ) (a : List ℕ) (b : Bool) → nat_lt imm (8 * bytes_of width) ≡ b
    → evaluated (over_one (if b then on_one (shift_row_of shift.Left width) (Param 0) imm else Const (replicate 16 0))) (arg.R16 a ∷ []) ≡ Some (arg.R16 (shifted shift.Left (bytes_of width) imm a))
unfolding shifted shifted_left
left_gives Byte imm a true e = refl
left_gives Word imm a true e = refl
left_gives Dword imm a true e = refl
left_gives Qword imm a true e = refl
left_gives width imm a false e = as_register (left_all width imm a e)

right_gives : (width : Width) (imm : ℕ) (a : List ℕ) (b : Bool) → IsRegister 16 a → nat_lt imm (8 * bytes_of width) ≡ b
    → evaluated (over_one (if b then on_one (shift_row_of shift.Right width) (Param 0) imm else Const (replicate 16 0))) (arg.R16 a ∷ []) ≡ Some (arg.R16 (shifted shift.Right (bytes_of width) imm a))
unfolding shifted shifted_right
right_gives Byte imm a true h e = as_register (right_some 1 imm a h e)
right_gives Word imm a true h e = as_register (right_some 2 imm a h e)
right_gives Dword imm a true h e = as_register (right_some 4 imm a h e)
right_gives Qword imm a true h e = as_register (right_some 8 imm a h e)
right_gives width imm a false h e = as_register (right_all width imm a e)

arithmetic_gives : (width : Width) (imm : ℕ) (a : List ℕ) → IsRegister 16 a
    → evaluated (over_one (shifted_by shift.Arithmetic width imm)) (arg.R16 a ∷ []) ≡ Some (arg.R16 (shifted shift.Arithmetic (bytes_of width) imm a))
unfolding shifted shifted_right
arithmetic_gives Byte imm a h = as_register (arithmetic_some 1 imm a (omega arith) h)
arithmetic_gives Word imm a h = as_register (arithmetic_some 2 imm a (omega arith) h)
arithmetic_gives Dword imm a h = as_register (arithmetic_some 4 imm a (omega arith) h)
arithmetic_gives Qword imm a h = as_register (arithmetic_some 8 imm a (omega arith) h)

not_zero : (n : ℕ) → (suc n == 0) ≡ false
not_zero n = search rules

shift_gives : (s : Shift) (width : Width) (imm : ℕ) → Gives1 (Some (shape.Shifted s width)) imm (shifted s (bytes_of width) imm)
unfolding shifted
shift_gives s width zero = λ a h.
    let w = width_is width in
    as_register (sym (none_shifted s (bytes_of width) 16 a (width_pos (bytes_of width) w) h.bytes (h.size ∙ sym (lanes_fill (bytes_of width) 16 w xmm))))
shift_gives shift.Left width (suc n) = λ a h. rw (not_zero n) (left_gives width (suc n) a (nat_lt (suc n) (8 * bytes_of width)) refl)
shift_gives shift.Right width (suc n) = λ a h. rw (not_zero n) (right_gives width (suc n) a (nat_lt (suc n) (8 * bytes_of width)) h refl)
shift_gives shift.Arithmetic width (suc n) = λ a h. rw (not_zero n) (arithmetic_gives width (suc n) a h)

-- ---- rows

-- what holds of the sequence, where there is one
abbrev pub When : (Sequence → Type 0) → Option Shape → ℕ → Type 0
When P None imm = Unit {0}
When P (Some p) imm = P (sequence_of p imm)

pub from_plan : (P : Sequence → Type 0) (o : Option Shape) (imm : ℕ) → When P o imm → (s : Sequence) → option_map (λ p. sequence_of p imm) o ≡ Some s → P s
from_plan P None imm h s e = absurd (grind (arith, e))
from_plan P (Some p) imm h s e = subst P (inner e) h
  where
    inner : Some (sequence_of p imm) ≡ Some s → sequence_of p imm ≡ s
    inner d = cc

-- it gives v of all arguments that fit
abbrev pub Gives : Sig → (List Arg → Arg) → Sequence → Type 0
Gives sig v s = (args : List Arg) → Fits sig args → evaluated s (operands (params_of sig) args) ≡ Some (v args)

abbrev Due : Option Shape → ℕ → Sig → (List Arg → Arg) → Type 0
Due o imm sig v = When (Gives sig v) o imm

one_due : (o : Option Shape) (imm : ℕ) (f : List ℕ → List ℕ) → Gives1 o imm f → Due o imm (signature (kind.Reg 16) (kind.Reg 16 ∷ [])) (one_value Xmm f)
one_due None imm f h = tt
one_due (Some p) imm f h = go
  where
    go : (args : List Arg) → FitsKinds (kind.Reg 16 ∷ []) args → evaluated (sequence_of p imm) (operands (kind.Reg 16 ∷ []) args) ≡ Some (one_value Xmm f args)
    go (arg.R16 a ∷ []) k = h a k.0.1
    go _ k = absurd (grind (arith, k))

two_due : (o : Option Shape) (imm : ℕ) (f : List ℕ → List ℕ → List ℕ) → Gives2 o imm f → Due o imm (signature (kind.Reg 16) (kind.Reg 16 ∷ kind.Reg 16 ∷ [])) (two_value Xmm f)
two_due None imm f h = tt
two_due (Some p) imm f h = go
  where
    go : (args : List Arg) → FitsKinds (kind.Reg 16 ∷ kind.Reg 16 ∷ []) args → evaluated (sequence_of p imm) (operands (kind.Reg 16 ∷ kind.Reg 16 ∷ []) args) ≡ Some (two_value Xmm f args)
    go (arg.R16 a ∷ arg.R16 b ∷ []) k = h a b k.0.1 k.1.0.1
    go _ k = absurd (grind (arith, k))

counted_due : (o : Option Shape) (imm : ℕ) (f : ℕ → List ℕ → List ℕ) → Gives2 o imm (λ a b. f (lane 8 b 0) a) → Due o imm (signature (kind.Reg 16) (kind.Reg 16 ∷ kind.Reg 16 ∷ [])) (counted_value Xmm f)
counted_due None imm f h = tt
counted_due (Some p) imm f h = go
  where
    go : (args : List Arg) → FitsKinds (kind.Reg 16 ∷ kind.Reg 16 ∷ []) args → evaluated (sequence_of p imm) (operands (kind.Reg 16 ∷ kind.Reg 16 ∷ []) args) ≡ Some (counted_value Xmm f args)
    go (arg.R16 a ∷ arg.R16 b ∷ []) k = h a b k.0.1 k.1.0.1
    go _ k = absurd (grind (arith, k))

imm_due : (o : Option Shape) (imm : ℕ) (f : List ℕ → List ℕ) → Gives1 o imm f → Due o imm (signature (kind.Reg 16) (kind.Reg 16 ∷ kind.Immediate ∷ [])) (one_imm_value Xmm f)
imm_due None imm f h = tt
imm_due (Some p) imm f h = go
  where
    go : (args : List Arg) → FitsKinds (kind.Reg 16 ∷ kind.Immediate ∷ []) args
        → evaluated (sequence_of p imm) (operands (kind.Reg 16 ∷ kind.Immediate ∷ []) args) ≡ Some (one_imm_value Xmm f args)
    go (arg.R16 a ∷ arg.Nothing ∷ []) k = h a k.0.1
    go _ k = absurd (grind (arith, k))

two_imm_due : (o : Option Shape) (imm : ℕ) (t : TwoImm) → Gives2 o imm (λ a b. two_imm_of t a b imm)
    → Due o imm (signature (kind.Reg 16) (kind.Reg 16 ∷ kind.Reg 16 ∷ kind.Immediate ∷ [])) (λ args. two_imm_value Xmm t args imm)
two_imm_due None imm t h = tt
two_imm_due (Some p) imm t h = go
  where
    go : (args : List Arg) → FitsKinds (kind.Reg 16 ∷ kind.Reg 16 ∷ kind.Immediate ∷ []) args
        → evaluated (sequence_of p imm) (operands (kind.Reg 16 ∷ kind.Reg 16 ∷ kind.Immediate ∷ []) args) ≡ Some (two_imm_value Xmm t args imm)
    go (arg.R16 a ∷ arg.R16 b ∷ arg.Nothing ∷ []) k = h a b k.0.1 k.1.0.1
    go _ k = absurd (grind (arith, k))

pub plan_due : (f : Form) (imm : ℕ) → Due (planned f) imm (signature_of f) (λ args. value_of f args imm)
plan_due (form.One Xmm (one.Lanes Absolute width)) imm = one_due (planned (form.One Xmm (one.Lanes Absolute width))) imm (lanes1 Absolute (bytes_of width)) (lanes1_give width imm)
plan_due (form.Two Xmm (two.Lanes o width)) imm = two_due (planned_two (two.Lanes o width)) imm (lanes2 o (bytes_of width)) (lanes2_give o width imm)
plan_due (form.Two Xmm (two.Pairs o width)) imm = two_due (planned_two (two.Pairs o width)) imm (pairs o (bytes_of width)) (pairs_give o width imm)
plan_due (form.Two Xmm two.MultiplyEven) imm = two_due (Some (shape.EvenProducts true)) imm multiply_even (λ a b h k. as_register (even_signed a b h k))
plan_due (form.Two Xmm two.MultiplyEvenUnsigned) imm = two_due (Some (shape.EvenProducts false)) imm multiply_even_unsigned (λ a b h k. as_register (even_unsigned a b h k))
plan_due (form.Two Xmm two.MultiplyAdd) imm = two_due (Some shape.AddedProducts) imm multiply_add (λ a b h k. as_register (added_products a b h k))
plan_due (form.Two Xmm two.SumDifferences) imm = two_due (Some shape.SumDifferences) imm sum_differences (λ a b h k. as_register (differences a b h k))
plan_due (form.Counted Xmm s width) imm = counted_due (by_count s width) imm (shifted s (bytes_of width)) (counted_give s width imm)
plan_due (form.Two Xmm two.MultiplyAddBytes) imm = two_due (Some shape.AddedBytes) imm multiply_add_bytes (λ a b h k. as_register (added_bytes a b h k))
plan_due (form.TwoImm Xmm SumsOfFour) imm = two_imm_due (Some shape.SumsOfFour) imm SumsOfFour (λ a b h k. as_register (sums a b imm h k))
plan_due (form.OneImm Xmm (one_imm.Shifted s width)) imm = imm_due (Some (shape.Shifted s width)) imm (shifted s (bytes_of width) imm) (shift_gives s width imm)
plan_due _ imm = tt

-- what holds of the listed sequence holds of the one that was made
pub carry : {E : Type 0} (r : Result Seq E) (f : Form) (imm : ℕ) (P : Sequence → Type 0) → When P (planned f) imm
    → IfOk r (λ s. option_map (λ p. sequence_of p imm) (planned f) ≡ Some (view_seq s)) → IfOk r (λ s. P (view_seq s))
carry (Ok s) f imm P w e = from_plan P (planned f) imm w (view_seq s) e
carry (Err x) f imm P w e = tt
