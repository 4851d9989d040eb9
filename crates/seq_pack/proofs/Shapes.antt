-- Each sequence is well formed, takes and gives what its row does, and calls the rows that are due.
use Rattle.std.proofs.Common.{◌≡◌, refl, pos, ℕ, ◌+◌, ◌≤◌, ◌^◌, List, [], ◌∷◌, length, map, Bool, true, false, Option, Some, None, arith, rules}
use Rattle.std.proofs.lemmas.Int.{ints}
use Rattle.std.specs.Prelude.{◌==◌, if◌then◌else◌}
use Rattle.lane_core.specs.declared.number.IntType.TheVariants as int
use Rattle.lane_core.specs.Table.{InImmRange}
use Rattle.lane_core.proofs.Laws.{IsRegister-zeros}
use Rattle.intel_lanes.specs.declared.lanes.Width.{Width}
use Rattle.intel_lanes.specs.declared.lanes.Width.TheVariants.{Byte, Word, Dword, Qword}
use Rattle.intel_lanes.specs.declared.blocks.One.TheVariants as one
use Rattle.intel_lanes.specs.declared.blocks.Two.TheVariants as two
use Rattle.intel_lanes.specs.declared.blocks.TwoImm.TheVariants as two_imm
use Rattle.intel_lanes.specs.Laws.{word, dword}
use Rattle.intel_forms.specs.declared.sizes.Size.TheVariants.{Xmm}
use Rattle.intel_forms.specs.declared.scalars.Scalar.TheVariants as scalar
use Rattle.scalar_core.specs.Numbers.{num_of}
use Rattle.intel_forms.specs.declared.scalars.Test.{Test}
use Rattle.intel_forms.specs.declared.scalars.Test.TheVariants.{Zero, Carry, Neither}
use Rattle.intel_forms.specs.declared.forms.Extension.{Extension}
use Rattle.intel_forms.specs.declared.forms.Extension.TheVariants.{ByteWord, ByteDword, ByteQword, WordDword, WordQword, DwordQword}
use Rattle.intel_forms.specs.declared.forms.Form.{Form}
use Rattle.intel_forms.specs.declared.forms.Form.TheVariants as form
use Rattle.intel_forms.specs.Forms.{signature_of, range_of, is_scalar}
use Rattle.neon_table.specs.Rows.{name_of}
use Rattle.seq_core.specs.Terms.{Sequence, Param}
use Rattle.seq_core.specs.Formed.{WellFormed, vector, IsConstant}
use Rattle.seq_core.specs.Constants.{natural_is_constant}
use Rattle.seq_core.specs.Called.{rows_called, plain}
use Rattle.seq_pack.specs.Calls.{over}
use Rattle.seq_pack.specs.Terms.{halves, by_mask}
use Rattle.seq_pack.specs.Plans.{planned}
use Rattle.seq_pack.specs.Listed.{IsTyped, ceiling, listed}
use Rattle.seq_pack.proofs.Selections.{kept_register, mask_register}
use Rattle.seq_pack.proofs.Signs.{places_register}
use Rattle.seq_pack.proofs.Places.{numbers_register, ones_register}
use Rattle.seq_pack.proofs.Values.{When}

-- the rows have these names, where names are due
abbrev pub Named : Option (List (List ℕ)) → Sequence → Type 0
Named None s = Unit {0}
Named (Some names) s = map name_of (rows_called s) ≡ names

-- without scalar parts, unless the row is scalar by nature
abbrev pub Unmarked : Bool → Sequence → Type 0
Unmarked true s = Unit {0}
Unmarked false s = plain s ≡ true

abbrev pub IsWhole : Form → Sequence → Type 0
IsWhole f s = WellFormed s × IsTyped (signature_of f) s × (length (rows_called s) ≤ ceiling f) × Unmarked (is_scalar f) s × Named (listed f) s

abbrev pub Whole : Form → ℕ → Type 0
Whole f imm = When (IsWhole f) (planned f) imm

extended_whole : (s : Bool) (widths : Extension) (imm : ℕ) → Whole (form.Extend Xmm s widths) imm
extended_whole true ByteWord imm = search (rules, arith) depth 20
extended_whole true ByteDword imm = search (rules, arith) depth 20
extended_whole true ByteQword imm = search (rules, arith) depth 24
extended_whole true WordDword imm = search (rules, arith) depth 20
extended_whole true WordQword imm = search (rules, arith) depth 20
extended_whole true DwordQword imm = search (rules, arith) depth 20
extended_whole false ByteWord imm = search (rules, arith) depth 20
extended_whole false ByteDword imm = search (rules, arith) depth 20
extended_whole false ByteQword imm = search (rules, arith) depth 24
extended_whole false WordDword imm = search (rules, arith) depth 20
extended_whole false WordQword imm = search (rules, arith) depth 20
extended_whole false DwordQword imm = search (rules, arith) depth 20

-- by the immediate: no bit, all bits, those of a half, or others
word_whole : (imm : ℕ) (p q s t : Bool) → IsWhole (form.TwoImm Xmm two_imm.BlendWords) (over (vector ∷ vector ∷ []) (if p then Param 0 else (if q then Param 1 else (if s then halves (Param 1) (Param 0) else (if t then halves (Param 0) (Param 1) else by_mask Word imm)))))
word_whole imm true q s t = search (rules, arith) depth 14
word_whole imm false true s t = search (rules, arith) depth 14
word_whole imm false false true t = search (rules, arith) depth 20
word_whole imm false false false true = search (rules, arith) depth 20
word_whole imm false false false false = let m = mask_register 2 imm word in search (rules, arith, m) depth 20

dword_whole : (imm : ℕ) (p q s t : Bool) → IsWhole (form.TwoImm Xmm two_imm.BlendDwords) (over (vector ∷ vector ∷ []) (if p then Param 0 else (if q then Param 1 else (if s then halves (Param 1) (Param 0) else (if t then halves (Param 0) (Param 1) else by_mask Dword imm)))))
dword_whole imm true q s t = search (rules, arith) depth 14
dword_whole imm false true s t = search (rules, arith) depth 14
dword_whole imm false false true t = search (rules, arith) depth 20
dword_whole imm false false false true = search (rules, arith) depth 20
dword_whole imm false false false false = let m = mask_register 4 imm dword in search (rules, arith, m) depth 20

all_lanes_whole : (width : Width) (imm : ℕ) → Whole (form.Scalar (scalar.SetAll Xmm width)) imm
all_lanes_whole Byte imm = search (rules, arith) depth 20
all_lanes_whole _ imm = search (rules, arith) depth 20

low_lane_whole : (width : Width) (imm : ℕ) → Whole (form.Scalar (scalar.ToVector width)) imm
low_lane_whole Byte imm = search (rules, arith, IsRegister-zeros) depth 20
low_lane_whole _ imm = search (rules, arith, IsRegister-zeros) depth 20

first_whole : (width : Width) (imm : ℕ) → Whole (form.Scalar (scalar.FromVector width)) imm
first_whole Byte imm = search (rules, arith) depth 20
first_whole _ imm = search (rules, arith) depth 20

lane_whole : (width : Width) (imm : ℕ) → InImmRange (range_of (form.Scalar (scalar.Extract Xmm width))) imm → Whole (form.Scalar (scalar.Extract Xmm width)) imm
lane_whole Byte imm r = search (rules, arith, r) depth 20
lane_whole Word imm r = search (rules, arith, r) depth 20
lane_whole Dword imm r = search (rules, arith, r) depth 20
lane_whole Qword imm r = search (rules, arith, r) depth 20

with_lane_whole : (width : Width) (imm : ℕ) → InImmRange (range_of (form.Scalar (scalar.Insert Xmm width))) imm → Whole (form.Scalar (scalar.Insert Xmm width)) imm
with_lane_whole Byte imm r = search (rules, arith, r) depth 20
with_lane_whole Word imm r = search (rules, arith, r) depth 20
with_lane_whole Dword imm r = search (rules, arith, r) depth 20
with_lane_whole Qword imm r = search (rules, arith, r) depth 20

no_bits : IsConstant (num_of int.UInt (pos 0))
no_bits = natural_is_constant int.UInt 0 refl (omega (arith, ints), omega (arith, ints))

all_bits : IsConstant (num_of int.Int (pos 255))
all_bits = natural_is_constant int.Int 255 refl (omega (arith, ints), omega (arith, ints))

tested_whole : (test : Test) (imm : ℕ) → Whole (form.Scalar (scalar.Tested Xmm test)) imm
unfolding num_of
tested_whole Zero imm = search (rules, arith, no_bits) depth 20
tested_whole Carry imm = search (rules, arith, no_bits) depth 20
tested_whole Neither imm = search (rules, arith, no_bits) depth 24

ones_whole : (imm : ℕ) → Whole (form.Scalar scalar.TestedOnes) imm
unfolding num_of
ones_whole imm = search (rules, arith, all_bits) depth 20

least_whole : (imm : ℕ) → Whole (form.One Xmm one.MinPosition) imm
least_whole imm = search (rules, arith, numbers_register, ones_register, IsRegister-zeros) depth 24

set_whole : (width : Width) (imm : ℕ) → Whole (form.Scalar (scalar.Set Xmm width)) imm
set_whole Byte imm = search (rules, arith) depth 80
set_whole Word imm = search (rules, arith) depth 60
set_whole Dword imm = search (rules, arith) depth 40
set_whole Qword imm = search (rules, arith) depth 30

set_reversed_whole : (width : Width) (imm : ℕ) → Whole (form.Scalar (scalar.SetReversed Xmm width)) imm
set_reversed_whole Byte imm = search (rules, arith) depth 80
set_reversed_whole Word imm = search (rules, arith) depth 60
set_reversed_whole Dword imm = search (rules, arith) depth 40
set_reversed_whole Qword imm = search (rules, arith) depth 30

pub plan_whole : (f : Form) (imm : ℕ) → InImmRange (range_of f) imm → Whole f imm
plan_whole (form.Two Xmm two.PackWords) imm r = search (rules, arith) depth 20
plan_whole (form.Two Xmm two.PackDwords) imm r = search (rules, arith) depth 20
plan_whole (form.Two Xmm two.PackWordsUnsigned) imm r = search (rules, arith) depth 20
plan_whole (form.Two Xmm two.PackDwordsUnsigned) imm r = search (rules, arith) depth 20
plan_whole (form.Two Xmm two.ShuffleBytes) imm r = search (rules, arith, kept_register) depth 20
plan_whole (form.TwoImm Xmm two_imm.BlendWords) imm r = word_whole imm (imm == 0) (imm + 1 == 2 ^ 8) (imm + 1 == 2 ^ 4) (imm + 2 ^ 4 == 2 ^ 8)
plan_whole (form.TwoImm Xmm two_imm.BlendDwords) imm r = dword_whole imm (imm == 0) (imm + 1 == 2 ^ 4) (imm + 1 == 2 ^ 2) (imm + 2 ^ 2 == 2 ^ 4)
plan_whole (form.BlendBytes Xmm) imm r = search (rules, arith) depth 20
plan_whole (form.Extend Xmm s widths) imm r = extended_whole s widths imm
plan_whole (form.Scalar (scalar.SetZero Xmm)) imm r = search (rules, arith, IsRegister-zeros) depth 20
plan_whole (form.Scalar (scalar.SetAll Xmm width)) imm r = all_lanes_whole width imm
plan_whole (form.Scalar (scalar.ToVector width)) imm r = low_lane_whole width imm
plan_whole (form.Scalar (scalar.FromVector width)) imm r = first_whole width imm
plan_whole (form.Scalar (scalar.Extract Xmm width)) imm r = lane_whole width imm r
plan_whole (form.Scalar (scalar.Insert Xmm width)) imm r = with_lane_whole width imm r
plan_whole (form.Scalar (scalar.Set Xmm width)) imm r = set_whole width imm
plan_whole (form.Scalar (scalar.SetReversed Xmm width)) imm r = set_reversed_whole width imm
plan_whole (form.Scalar (scalar.ByteSigns Xmm)) imm r = search (rules, arith, places_register) depth 24
plan_whole (form.Scalar (scalar.Tested Xmm test)) imm r = tested_whole test imm
plan_whole (form.Scalar scalar.TestedOnes) imm r = ones_whole imm
plan_whole (form.One Xmm one.MinPosition) imm r = least_whole imm
plan_whole _ imm r = tt

-- where names are due, the rows have them; where the row isn't scalar by nature, neither is the sequence
pub named_so : (due : Option (List (List ℕ))) (s : Sequence) → Named due s → (names : List (List ℕ)) → due ≡ Some names → map name_of (rows_called s) ≡ names
named_so None s h names e = absurd (grind (arith, e))
named_so (Some ns) s h names e = cc

pub unmarked_so : (marked : Bool) (s : Sequence) → Unmarked marked s → marked ≡ false → plain s ≡ true
unmarked_so true s h e = absurd (grind (arith, e))
unmarked_so false s h e = h
