-- The selections of shuffle rows: for each byte of a block of 16 bytes of the result, the byte of the first operand A or of the second operand B
-- that it is, or zero, by the "Operation" of the row in the Intel Intrinsics Guide.
use Rattle.std.specs.Prelude.{ℕ, ◌+◌, ◌-◌, ◌*◌, ◌/◌, ◌%◌, ◌^◌, nat_lt, nat_le, ◌==◌, List, Bool, Option, Some, None, is_some, unwrap_or, if◌then◌else◌}
use Rattle.intel_lanes.specs.declared.blocks.One.{One}
use Rattle.intel_lanes.specs.declared.blocks.One.TheVariants as one
use Rattle.intel_lanes.specs.declared.blocks.Two.{Two}
use Rattle.intel_lanes.specs.declared.blocks.Two.TheVariants as two
use Rattle.intel_lanes.specs.declared.blocks.OneImm.{OneImm}
use Rattle.intel_lanes.specs.declared.blocks.OneImm.TheVariants as one_imm
use Rattle.intel_lanes.specs.declared.blocks.TwoImm.{TwoImm}
use Rattle.intel_lanes.specs.declared.blocks.TwoImm.TheVariants as two_imm
use Rattle.intel_lanes.specs.Lanes.{bytes_of}
use Rattle.intel_forms.specs.declared.across.Across.{Across}
use Rattle.intel_forms.specs.declared.across.Across.TheVariants as across
use Rattle.intel_forms.specs.declared.forms.Form.{Form}
use Rattle.intel_forms.specs.declared.forms.Form.TheVariants as form
use Rattle.price_choice.specs.declared.forms.Pick.{Pick}
use Rattle.price_choice.specs.declared.forms.Pick.TheVariants.{A, B, Zero}
use Rattle.shuffle_plans.specs.Operands.{picks}

-- "dst[63:0] := a[63:0]; dst[127:64] := 0"
abbrev pub low_pick : ℕ → Pick
low_pick i = if nat_lt i 8 then A i else Zero

-- `INTERLEAVE_BYTES` and so on: lanes of w bytes of A and of B in turn, from lane number first on
abbrev pub interleave_pick : ℕ → ℕ → ℕ → Pick
interleave_pick first w i = if i / w % 2 == 0 then A ((first + i / w / 2) * w + i % w) else B ((first + i / w / 2) * w + i % w)

-- "dst[i+31:i] := (a >> (control[2i+1:2i] * 32))[31:0]"
abbrev pub dword_pick : ℕ → ℕ → Pick
dword_pick imm i = A (imm / 4 ^ (i / 4) % 4 * 4 + i % 4)

-- "dst[15:0] := (a >> (imm8[1:0] * 16))[15:0]; ..; dst[127:64] := a[127:64]"
abbrev pub low_word_pick : ℕ → ℕ → Pick
low_word_pick imm i = if nat_lt i 8 then A (imm / 4 ^ (i / 2) % 4 * 2 + i % 2) else A i

-- "dst[63:0] := a[63:0]; dst[79:64] := (a >> (imm8[1:0] * 16))[79:64]; .."
abbrev pub high_word_pick : ℕ → ℕ → Pick
high_word_pick imm i = if nat_lt i 8 then A i else A ((4 + imm / 4 ^ (i / 2 - 4) % 4) * 2 + i % 2)

-- "dst := a << (tmp*8)"
abbrev pub up_pick : ℕ → ℕ → Pick
up_pick imm i = if nat_le imm i then A (i - imm) else Zero

-- "dst := a >> (tmp*8)"
abbrev pub down_pick : ℕ → ℕ → Pick
down_pick imm i = if nat_lt (i + imm) 16 then A (i + imm) else Zero

-- "((a << 128)[255:0] OR b) >> (imm8*8)": bytes from imm on of B, then A, then zeros
abbrev pub align_pick : ℕ → ℕ → Pick
align_pick imm i = if nat_lt (i + imm) 16 then B (i + imm) else (if nat_lt (i + imm) 32 then A (i + imm - 16) else Zero)

-- lane 0, of w bytes, in all lanes
abbrev pub broadcast_pick : ℕ → ℕ → Pick
broadcast_pick w i = A (i % w)

-- byte i of quadword q of A, which has the numbers 0 and 1, and B
abbrev pub qword_byte : ℕ → ℕ → Pick
qword_byte q i = if nat_lt q 2 then A (q * 8 + i % 8) else B ((q - 2) * 8 + i % 8)

-- "SELECT4(a[255:0], imm8[2i+1:2i])"
abbrev pub qword_pick : ℕ → ℕ → ℕ → Pick
qword_pick imm half i = qword_byte (imm / 4 ^ (2 * half + i / 8) % 4) i

abbrev pub one_pick : One → ℕ → Option Pick
one_pick one.MoveLow i = Some (low_pick i)
one_pick _ i = None

abbrev pub two_pick : Two → ℕ → Option Pick
two_pick (two.UnpackLow width) i = Some (interleave_pick 0 (bytes_of width) i)
two_pick (two.UnpackHigh width) i = Some (interleave_pick (8 / bytes_of width) (bytes_of width) i)
two_pick _ i = None

abbrev pub one_imm_pick : OneImm → ℕ → ℕ → Option Pick
one_imm_pick one_imm.ShuffleDwords imm i = Some (dword_pick imm i)
one_imm_pick one_imm.ShuffleLow imm i = Some (low_word_pick imm i)
one_imm_pick one_imm.ShuffleHigh imm i = Some (high_word_pick imm i)
one_imm_pick one_imm.BytesUp imm i = Some (up_pick imm i)
one_imm_pick one_imm.BytesDown imm i = Some (down_pick imm i)
one_imm_pick _ imm i = None

abbrev pub two_imm_pick : TwoImm → ℕ → ℕ → Option Pick
two_imm_pick two_imm.AlignRight imm i = Some (align_pick imm i)
two_imm_pick _ imm i = None

abbrev pub across_pick : Across → ℕ → ℕ → ℕ → Option Pick
across_pick across.PermuteQwords imm half i = Some (qword_pick imm half i)
across_pick _ imm half i = None

-- byte i of a block of the row's result; none where the row is no shuffle
abbrev pub pick_of : Form → ℕ → ℕ → ℕ → Option Pick
pick_of (form.One size op) imm half i = one_pick op i
pick_of (form.Two size op) imm half i = two_pick op i
pick_of (form.OneImm size op) imm half i = one_imm_pick op imm i
pick_of (form.TwoImm size op) imm half i = two_imm_pick op imm i
pick_of (form.Broadcast size width) imm half i = Some (broadcast_pick (bytes_of width) i)
pick_of (form.Across row) imm half i = across_pick row imm half i
pick_of _ imm half i = None

-- the row is a shuffle
abbrev pub is_shuffle : Form → Bool
is_shuffle f = is_some (pick_of f 0 0 0)

abbrev pub picked_at : Form → ℕ → ℕ → ℕ → Pick
picked_at f imm half i = unwrap_or (pick_of f imm half i) Zero

abbrev pub selection_of : Form → ℕ → ℕ → Option (List Pick)
selection_of f imm half = if is_shuffle f then Some (picks (picked_at f imm half)) else None
