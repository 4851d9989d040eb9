-- The sequence of each row, and the rows that have one here.
use Rattle.std.specs.Prelude.{ℕ, ◌*◌, ◌==◌, min, nat_lt, replicate, Bool, false, true, Option, Some, None, option_map, is_some, if◌then◌else◌}
use Rattle.intel_lanes.specs.declared.lanes.Width.{Width}
use Rattle.intel_lanes.specs.declared.lanes.Width.TheVariants.{Byte, Word, Dword, Qword}
use Rattle.intel_lanes.specs.declared.lanes.Lane2.{Lane2}
use Rattle.intel_lanes.specs.declared.lanes.Lane2.TheVariants as op
use Rattle.intel_lanes.specs.declared.lanes.Shift.{Shift}
use Rattle.intel_lanes.specs.declared.lanes.Shift.TheVariants.{Left, Right, Arithmetic}
use Rattle.intel_lanes.specs.declared.blocks.One.TheVariants as one
use Rattle.intel_lanes.specs.declared.blocks.Two.{Two}
use Rattle.intel_lanes.specs.declared.blocks.Two.TheVariants as two
use Rattle.intel_lanes.specs.declared.blocks.OneImm.TheVariants as one_imm
use Rattle.intel_lanes.specs.declared.blocks.TwoImm.TheVariants.{SumsOfFour}
use Rattle.intel_lanes.specs.Lanes.{bytes_of}
use Rattle.intel_forms.specs.declared.sizes.Size.TheVariants.{Xmm}
use Rattle.intel_forms.specs.declared.forms.Form.{Form}
use Rattle.intel_forms.specs.declared.forms.Form.TheVariants as form
use Rattle.intel_table.specs.declared.IntelOp.{IntelOp}
use Rattle.intel_table.specs.Rows.{form_of}
use Rattle.neon_move.specs.declared.MoveOp.TheVariants.{Permuting}
use Rattle.neon_move.specs.declared.permuting.Permuting.TheVariants.{Vuzp1qU16, Vuzp1qU32, Vuzp2qU16, Vuzp2qU32}
use Rattle.neon_table.specs.declared.NeonOp.{NeonOp}
use Rattle.seq_core.specs.Terms.{Term, Param, Const, Sequence}
use Rattle.seq_arith.specs.declared.plans.Shape.{Shape}
use Rattle.seq_arith.specs.declared.plans.Shape.TheVariants as shape
use Rattle.seq_arith.specs.Calls.{on_one, on_two, over_one, over_two}
use Rattle.seq_arith.specs.Rows.{row1_of, row2_of, is_exchanged, pair_sums, shift_row_of}
use Rattle.seq_arith.specs.Counts.{dword_shifts, qword_shifts, counted_shifts}
use Rattle.seq_arith.specs.Products.{high_words, even_products, on_uneven, added_products, differences, rounded_products, signs, added_bytes, sums_of_four}

-- a shift of the first operand by a constant that isn't 0: none is left from the width on, or the sign
abbrev pub shifted_by : Shift → Width → ℕ → Term
shifted_by Left width imm = if nat_lt imm (8 * bytes_of width) then on_one (shift_row_of Left width) (Param 0) imm else Const (replicate 16 0)
shifted_by Right width imm = if nat_lt imm (8 * bytes_of width) then on_one (shift_row_of Right width) (Param 0) imm else Const (replicate 16 0)
shifted_by Arithmetic width imm = on_one (shift_row_of Arithmetic width) (Param 0) (min imm (8 * bytes_of width))

abbrev pub sequence_of : Shape → ℕ → Sequence
sequence_of (shape.One row) imm = over_one (on_one row (Param 0) 0)
sequence_of (shape.Two row) imm = over_two (on_two row (Param 0) (Param 1))
sequence_of (shape.Exchanged row) imm = over_two (on_two row (Param 1) (Param 0))
sequence_of (shape.Uneven even odd row) imm = over_two (on_uneven even odd row)
sequence_of (shape.HighWords signs) imm = over_two (high_words signs)
sequence_of (shape.EvenProducts signs) imm = over_two (even_products signs)
sequence_of shape.AddedProducts imm = over_two added_products
sequence_of shape.SumDifferences imm = over_two differences
sequence_of shape.AddedBytes imm = over_two added_bytes
sequence_of shape.SumsOfFour imm = over_two (sums_of_four imm)
sequence_of shape.RoundedProducts imm = over_two rounded_products
sequence_of (shape.Signs width) imm = over_two (signs width)
sequence_of (shape.ShiftedBy s) imm = over_two (dword_shifts s)
sequence_of (shape.QwordsBy s) imm = over_two (qword_shifts s)
sequence_of (shape.Counted s width) imm = over_two (counted_shifts s width)
sequence_of (shape.Shifted shift width) imm = over_one (if imm == 0 then Param 0 else shifted_by shift width imm)

abbrev pub ordered : Bool → NeonOp → Shape
ordered exchanged row = if exchanged then shape.Exchanged row else shape.Two row

-- where the lanes are words
abbrev pub for_words : Width → Shape → Option Shape
for_words Word s = Some s
for_words _ s = None

-- lanes by lanes, where they are dwords or qwords
abbrev pub by_lanes : Shift → Width → Option Shape
by_lanes s Dword = Some (shape.ShiftedBy s)
by_lanes s Qword = Some (shape.QwordsBy s)
by_lanes s _ = None

-- lanes by one count, where they aren't bytes
abbrev pub by_count : Shift → Width → Option Shape
by_count s Byte = None
by_count s width = Some (shape.Counted s width)

-- where one row multiplies the lanes
abbrev pub for_sign : Width → Option Shape
for_sign Qword = None
for_sign width = Some (shape.Signs width)

abbrev pub planned_lanes : Lane2 → Width → Option Shape
planned_lanes op.MultiplyHigh width = for_words width (shape.HighWords true)
planned_lanes op.MultiplyHighUnsigned width = for_words width (shape.HighWords false)
planned_lanes op.MultiplyRound width = for_words width shape.RoundedProducts
planned_lanes op.Sign width = for_sign width
planned_lanes (op.ShiftBy s) width = by_lanes s width
planned_lanes o width = option_map (ordered (is_exchanged o)) (row2_of o width)

-- a row of even and odd lanes
abbrev pub uneven : Width → Option NeonOp → Option Shape
uneven Word row = option_map (shape.Uneven (Permuting Vuzp1qU16) (Permuting Vuzp2qU16)) row
uneven Dword row = option_map (shape.Uneven (Permuting Vuzp1qU32) (Permuting Vuzp2qU32)) row
uneven _ row = None

abbrev pub planned_pairs : Lane2 → Width → Option Shape
planned_pairs op.Add width = option_map shape.Two (pair_sums width)
planned_pairs op.Sub width = uneven width (row2_of op.Sub width)
planned_pairs op.AddSaturate width = uneven width (row2_of op.AddSaturate width)
planned_pairs op.SubSaturate width = uneven width (row2_of op.SubSaturate width)
planned_pairs _ width = None

abbrev pub planned_two : Two → Option Shape
planned_two (two.Lanes o width) = planned_lanes o width
planned_two (two.Pairs o width) = planned_pairs o width
planned_two two.MultiplyEven = Some (shape.EvenProducts true)
planned_two two.MultiplyEvenUnsigned = Some (shape.EvenProducts false)
planned_two two.MultiplyAdd = Some shape.AddedProducts
planned_two two.MultiplyAddBytes = Some shape.AddedBytes
planned_two two.SumDifferences = Some shape.SumDifferences
planned_two _ = None

-- the kind of a form's sequence, where its rows have one here
abbrev pub planned : Form → Option Shape
planned (form.One Xmm (one.Lanes op width)) = option_map shape.One (row1_of op width)
planned (form.Two Xmm op) = planned_two op
planned (form.Counted Xmm s width) = by_count s width
planned (form.TwoImm Xmm SumsOfFour) = Some shape.SumsOfFour
planned (form.OneImm Xmm (one_imm.Shifted shift width)) = Some (shape.Shifted shift width)
planned _ = None

-- the most rows that a sequence may call: 4 where the row is scalar by nature
abbrev pub ceiling_of : Form → ℕ
ceiling_of (form.Counted size s width) = 4
ceiling_of f = 24

-- the row computes lane by lane on 128 bits, and has a sequence here
abbrev pub is_arithmetic : IntelOp → Bool
is_arithmetic op = is_some (planned (form_of op))

abbrev pub plan_of : IntelOp → ℕ → Option Sequence
plan_of op imm = option_map (λ p. sequence_of p imm) (planned (form_of op))
