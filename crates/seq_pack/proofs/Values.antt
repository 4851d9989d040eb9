-- Each sequence gives its row's value.
use Rattle.std.proofs.Common.{◌≡◌, ℕ, ◌+◌, ◌*◌, ◌%◌, ◌^◌, List, [], ◌∷◌, ◌++◌, take, drop, Bool, not, ◌&&◌, true, false, Option, Some, None, option_map, refl, ap, sym, subst, ◌∙◌, arith}
use Rattle.std.specs.Prelude.{◌==◌, if◌then◌else◌, IfOk, Result, Ok, Err}
use Rattle.lane_core.specs.Register.{IsRegister, lane, build, wrapped}
use Rattle.lane_core.specs.Kernels.{put_of}
use Rattle.lane_core.specs.declared.table.Arg.{Arg}
use Rattle.lane_core.specs.declared.table.Arg.TheVariants as arg
use Rattle.lane_core.specs.declared.table.ParamKind.{ParamKind}
use Rattle.lane_core.specs.declared.table.ParamKind.TheVariants as kind
use Rattle.lane_core.specs.declared.table.Sig.{Sig}
use Rattle.lane_core.specs.declared.number.IntType.{IntType}
use Rattle.lane_core.specs.declared.number.IntType.TheVariants as int
use Rattle.lane_core.specs.Table.{Fits, FitsKinds, params_of, signature}
use Rattle.lane_core.proofs.Lists.{digits-mod}
use Rattle.lane_core.proofs.Lanes.{build_same, lane_below}
use Rattle.intel_lanes.specs.declared.lanes.Width.{Width}
use Rattle.intel_lanes.specs.declared.lanes.Width.TheVariants.{Byte, Word, Dword, Qword}
use Rattle.intel_lanes.specs.declared.blocks.One.TheVariants as one
use Rattle.intel_lanes.specs.declared.blocks.Two.TheVariants as two
use Rattle.intel_lanes.specs.declared.blocks.TwoImm.TheVariants as two_imm
use Rattle.intel_lanes.specs.Lanes.{bytes_of}
use Rattle.intel_lanes.specs.Blocks.{min_position, pack, pack_unsigned, shuffle_bytes, blend, blend_bytes, extended}
use Rattle.intel_forms.specs.declared.sizes.Size.TheVariants.{Xmm}
use Rattle.intel_forms.specs.declared.scalars.Scalar.TheVariants as scalar
use Rattle.intel_forms.specs.declared.forms.Extension.{Extension}
use Rattle.intel_forms.specs.declared.forms.Extension.TheVariants.{ByteWord, ByteDword, ByteQword, WordDword, WordQword, DwordQword}
use Rattle.intel_forms.specs.declared.forms.Form.{Form}
use Rattle.intel_forms.specs.declared.forms.Form.TheVariants as form
use Rattle.intel_forms.specs.Forms.{signature_of, value_of, narrow_of, wide_of, one_value, two_value, two_imm_value, blend_value, across_blocks_value}
use Rattle.intel_forms.specs.Sizes.{lane_type, result_type}
use Rattle.intel_forms.specs.Scalars as row
use Rattle.lane_core.specs.declared.vector.NeonLane.TheVariants.{U8, U16, U32, U64, S8, S16, S32}
use Rattle.neon_move.specs.declared.narrowed.Narrowed.TheVariants.{VqmovnS16, VqmovnS32, VqmovunS16, VqmovunS32}
use Rattle.neon_move.specs.declared.halves.Halves.TheVariants.{VcombineS8, VcombineS16, VcombineU8, VcombineU16}
use Rattle.neon_elements.specs.declared.elements.Binary.TheVariants.{And, Bic, Min}
use Rattle.neon_elements.specs.declared.vectors.Across.TheVariants.{Greatest}
use Rattle.neon_elements.specs.Elements.{sum_of, reduce_by}
use Rattle.neon_elements.specs.Vectors.{duplicated, each2, reduced, zipped, extracted}
use Rattle.neon_elements.specs.Laws.{each2_is}
use Rattle.intel_forms.specs.declared.scalars.Test.{Test}
use Rattle.intel_forms.specs.declared.scalars.Test.TheVariants.{Zero, Carry, Neither}
use Rattle.seq_pack.proofs.Lanes.{sets_of}
use Rattle.seq_pack.proofs.Signs.{marked, signs_summed, small_signs}
use Rattle.seq_pack.proofs.Least.{all_ones, least_byte_below}
use Rattle.seq_pack.proofs.Places.{byte_reduced, equal_ones, least_registered}
use Rattle.seq_pack.proofs.Tested.{reduced_below, no_common, none_left, equal_none, unequal_none, both_truths, truth_given}
use Rattle.seq_core.specs.declared.terms.Seq.{Seq}
use Rattle.seq_core.specs.View.{view_seq}
use Rattle.seq_core.specs.Formed.{vector}
use Rattle.seq_core.specs.Terms.{Sequence, Param}
use Rattle.seq_core.specs.Values.{evaluated}
use Rattle.seq_pack.specs.declared.plans.Shape.{Shape}
use Rattle.seq_pack.specs.declared.plans.Shape.TheVariants as shape
use Rattle.seq_pack.specs.Calls.{operands, over}
use Rattle.seq_pack.specs.Terms as term
use Rattle.seq_pack.specs.Terms.{zeros, kept_bits}
use Rattle.seq_pack.specs.Plans.{sequence_of, planned}
use Rattle.seq_pack.proofs.Packs.{pack_words, pack_dwords, pack_words_unsigned, pack_dwords_unsigned, chained_is}
use Rattle.seq_pack.proofs.Selections.{shuffles, blends_bytes, blends_words, blends_dwords, blends_none, blends_all, low_words, high_words, low_dwords, high_dwords}
use Rattle.seq_pack.proofs.Numbers.{passed, char_passed, short_passed, int_passed, long_passed, int_passed_byte, int_passed_word, byte_given, word_given, dword_given, qword_given}

as_register : {r s : List ℕ} → r ≡ s → Some (arg.R16 r) ≡ Some (arg.R16 s)
as_register e = ap (λ r. Some (arg.R16 r)) e

-- ---- packs, extensions, selections

abbrev Two : Shape → ℕ → (List ℕ → List ℕ → List ℕ) → Type 0
Two p imm f = (a b : List ℕ) → IsRegister 16 a → IsRegister 16 b → evaluated (sequence_of p imm) (arg.R16 a ∷ arg.R16 b ∷ []) ≡ Some (arg.R16 (f a b))

shuffled_gives : (imm : ℕ) → Two shape.Shuffled imm shuffle_bytes
shuffled_gives imm a b h k = as_register (shuffles a b k)

blended_bytes_gives : (imm : ℕ) (a b m : List ℕ) → IsRegister 16 a → IsRegister 16 b → IsRegister 16 m → evaluated (sequence_of shape.BlendedBytes imm) (arg.R16 a ∷ arg.R16 b ∷ arg.R16 m ∷ []) ≡ Some (arg.R16 (blend_bytes a b m))
blended_bytes_gives imm a b m h i j = as_register (blends_bytes a b m h i j)

extended_gives : (s : Bool) (widths : Extension) (imm : ℕ) (a : List ℕ) → IsRegister 16 a → evaluated (sequence_of (shape.Extended s widths) imm) (arg.R16 a ∷ []) ≡ Some (arg.R16 (extended s 16 (narrow_of widths) (wide_of widths) a))
extended_gives true ByteWord imm a h = as_register (chained_is true ByteWord a h)
extended_gives true ByteDword imm a h = as_register (chained_is true ByteDword a h)
extended_gives true ByteQword imm a h = as_register (chained_is true ByteQword a h)
extended_gives true WordDword imm a h = as_register (chained_is true WordDword a h)
extended_gives true WordQword imm a h = as_register (chained_is true WordQword a h)
extended_gives true DwordQword imm a h = as_register (chained_is true DwordQword a h)
extended_gives false ByteWord imm a h = as_register (chained_is false ByteWord a h)
extended_gives false ByteDword imm a h = as_register (chained_is false ByteDword a h)
extended_gives false ByteQword imm a h = as_register (chained_is false ByteQword a h)
extended_gives false WordDword imm a h = as_register (chained_is false WordDword a h)
extended_gives false WordQword imm a h = as_register (chained_is false WordQword a h)
extended_gives false DwordQword imm a h = as_register (chained_is false DwordQword a h)

-- by the immediate: no bit, all bits, those of a half, or others
word_blend : (imm : ℕ) (p q s t : Bool) → (imm == 0) ≡ p → (imm + 1 == 2 ^ 8) ≡ q → (imm + 1 == 2 ^ 4) ≡ s → (imm + 2 ^ 4 == 2 ^ 8) ≡ t → (a b : List ℕ) → IsRegister 16 a → IsRegister 16 b
    → evaluated (over (vector ∷ vector ∷ []) (if p then Param 0 else (if q then Param 1 else (if s then term.halves (Param 1) (Param 0) else (if t then term.halves (Param 0) (Param 1) else term.by_mask Word imm))))) (arg.R16 a ∷ arg.R16 b ∷ []) ≡ Some (arg.R16 (blend 2 a b imm))
word_blend imm true q s t c d e f a b h k = let z : 0 ≡ imm = grind (arith, c) in as_register (blends_none 2 a b h refl ∙ ap (blend 2 a b) z)
word_blend imm false true s t c d e f a b h k = let z : 255 ≡ imm = grind (arith, d) in as_register (blends_all 2 255 a b k refl refl ∙ ap (blend 2 a b) z)
word_blend imm false false true t c d e f a b h k = let z : 15 ≡ imm = grind (arith, e) in as_register (low_words a b h k ∙ ap (blend 2 a b) z)
word_blend imm false false false true c d e f a b h k = let z : 240 ≡ imm = grind (arith, f) in as_register (high_words a b h k ∙ ap (blend 2 a b) z)
word_blend imm false false false false c d e f a b h k = as_register (blends_words imm a b h k)

dword_blend : (imm : ℕ) (p q s t : Bool) → (imm == 0) ≡ p → (imm + 1 == 2 ^ 4) ≡ q → (imm + 1 == 2 ^ 2) ≡ s → (imm + 2 ^ 2 == 2 ^ 4) ≡ t → (a b : List ℕ) → IsRegister 16 a → IsRegister 16 b
    → evaluated (over (vector ∷ vector ∷ []) (if p then Param 0 else (if q then Param 1 else (if s then term.halves (Param 1) (Param 0) else (if t then term.halves (Param 0) (Param 1) else term.by_mask Dword imm))))) (arg.R16 a ∷ arg.R16 b ∷ []) ≡ Some (arg.R16 (blend 4 a b imm))
dword_blend imm true q s t c d e f a b h k = let z : 0 ≡ imm = grind (arith, c) in as_register (blends_none 4 a b h refl ∙ ap (blend 4 a b) z)
dword_blend imm false true s t c d e f a b h k = let z : 15 ≡ imm = grind (arith, d) in as_register (blends_all 4 15 a b k refl refl ∙ ap (blend 4 a b) z)
dword_blend imm false false true t c d e f a b h k = let z : 3 ≡ imm = grind (arith, e) in as_register (low_dwords a b h k ∙ ap (blend 4 a b) z)
dword_blend imm false false false true c d e f a b h k = let z : 12 ≡ imm = grind (arith, f) in as_register (high_dwords a b h k ∙ ap (blend 4 a b) z)
dword_blend imm false false false false c d e f a b h k = as_register (blends_dwords imm a b h k)

-- ---- single values

zero_gives : (imm : ℕ) → evaluated (sequence_of shape.Zero imm) [] ≡ Some (arg.R16 (row.all_lanes 16 8 0))
unfolding row.all_lanes build
zero_gives imm = refl

-- an integer in all lanes, by its low bits
all_lanes_by : (w n p x : ℕ) → p % 256 ^ w ≡ x % 256 ^ w → build w n (λ e. p) ≡ build w n (λ k. x)
all_lanes_by w n p x e = build_same w n (λ i. p) (λ i. x) (λ k l. e)

all_lanes_give : (width : Width) (imm x : ℕ) → evaluated (sequence_of (shape.AllLanes width) imm) (arg.Int x ∷ []) ≡ Some (arg.R16 (row.all_lanes 16 (bytes_of width) x))
unfolding row.all_lanes duplicated
all_lanes_give Byte imm x = as_register (all_lanes_by 1 16 (passed int.UChar int.SChar x) x (char_passed x))
all_lanes_give Word imm x = as_register (all_lanes_by 2 8 (passed int.UShort int.Short x) x (short_passed x))
all_lanes_give Dword imm x = as_register (all_lanes_by 4 4 (passed int.UInt int.Int x) x (int_passed x))
all_lanes_give Qword imm x = as_register (all_lanes_by 8 2 (passed int.ULong int.LLong x) x (long_passed x))

-- a lane replaced, by the low bits
put_by : (w k p x : ℕ) (a : List ℕ) → p % 256 ^ w ≡ x % 256 ^ w → put_of w a k p ≡ put_of w a k x
unfolding put_of
put_by w k p x a e = ap (λ (d : List ℕ). take (k * w) a ++ (d ++ drop (k * w + w) a)) (digits-mod w p x e)

-- the low lane of zeros
low_lane : (width : Width) (x : ℕ) → put_of (bytes_of width) zeros 0 x ≡ row.to_low_lane (bytes_of width) x
unfolding put_of row.to_low_lane build
low_lane Byte x = refl
low_lane Word x = refl
low_lane Dword x = refl
low_lane Qword x = refl

low_lane_gives : (width : Width) (imm x : ℕ) → evaluated (sequence_of (shape.LowLane width) imm) (arg.Int x ∷ []) ≡ Some (arg.R16 (row.to_low_lane (bytes_of width) x))
low_lane_gives Byte imm x = as_register (put_by 1 0 (passed int.UChar int.SChar x) x zeros (char_passed x) ∙ low_lane Byte x)
low_lane_gives Word imm x = as_register (put_by 2 0 (passed int.UShort int.Short x) x zeros (short_passed x) ∙ low_lane Word x)
low_lane_gives Dword imm x = as_register (put_by 4 0 (passed int.UInt int.Int x) x zeros (int_passed x) ∙ low_lane Dword x)
low_lane_gives Qword imm x = as_register (put_by 8 0 (passed int.ULong int.LLong x) x zeros (long_passed x) ∙ low_lane Qword x)

with_lane_gives : (width : Width) (imm x : ℕ) (a : List ℕ) → IsRegister 16 a
    → evaluated (sequence_of (shape.WithLane width) imm) (arg.R16 a ∷ arg.Int x ∷ []) ≡ Some (arg.R16 (row.inserted 16 width a x imm))
with_lane_gives Byte imm x a h = as_register (put_by 1 (imm % 16) (passed int.UChar int.Int x) x a (int_passed_byte x))
with_lane_gives Word imm x a h = as_register (put_by 2 (imm % 8) (passed int.UShort int.Int x) x a (int_passed_word x))
with_lane_gives Dword imm x a h = as_register (put_by 4 (imm % 4) (passed int.UInt int.Int x) x a (int_passed x))
with_lane_gives Qword imm x a h = as_register (put_by 8 (imm % 2) (passed int.ULong int.LLong x) x a (long_passed x))

as_number : {m n : ℕ} → m ≡ n → Some (arg.Int m) ≡ Some (arg.Int n)
as_number e = ap (λ m. Some (arg.Int m)) e

lane_gives : (width : Width) (n : ℕ) (a : List ℕ) → IsRegister 16 a → evaluated (over (vector ∷ []) (term.lane_at width n)) (arg.R16 a ∷ []) ≡ Some (arg.Int (row.extracted 16 width a n))
unfolding wrapped
lane_gives Byte n a h = as_number (byte_given (lane 1 a (n % 16)) (lane_below 1 a (n % 16) h.bytes))
lane_gives Word n a h = as_number (word_given (lane 2 a (n % 8)) (lane_below 2 a (n % 8) h.bytes))
lane_gives Dword n a h = as_number (dword_given (lane 4 a (n % 4)) (lane_below 4 a (n % 4) h.bytes))
lane_gives Qword n a h = as_number (qword_given (lane 8 a (n % 2)) (lane_below 8 a (n % 2) h.bytes))

-- ---- reductions

signs_give : (imm : ℕ) (a : List ℕ) → IsRegister 16 a → evaluated (sequence_of shape.ByteSigns imm) (arg.R16 a ∷ []) ≡ Some (arg.Int (row.byte_signs 16 a))
unfolding reduced wrapped
signs_give imm a h =
    let n = sum_of 8 (lane 2 (zipped 0 U8 (marked a) (extracted (marked a) (marked a) 8))) % 256 ^ 2 in
    as_number (word_given n (omega arith) ∙ signs_summed a h ∙ sym (small_signs a h))

tested_gives : (test : Test) (imm : ℕ) (a b : List ℕ) → IsRegister 16 a → IsRegister 16 b → evaluated (sequence_of (shape.Tested test) imm) (arg.R16 a ∷ arg.R16 b ∷ []) ≡ Some (arg.Int (row.tested test 16 a b))
tested_gives Zero imm a b h k =
    let r = each2_is And U64 a b in
    let m = reduced Greatest U32 16 (each2 And U64 a b) in
    rw (equal_none (reduced Greatest U32 16 (each2 And U64 a b)) (reduced_below (each2 And U64 a b) r)) (as_number (truth_given (m == 0) ∙ ap row.bit (no_common a b h r)))
tested_gives Carry imm a b h k =
    let r = each2_is Bic U64 b a in
    let m = reduced Greatest U32 16 (each2 Bic U64 b a) in
    rw (equal_none (reduced Greatest U32 16 (each2 Bic U64 b a)) (reduced_below (each2 Bic U64 b a) r)) (as_number (truth_given (m == 0) ∙ ap row.bit (none_left a b k r)))
tested_gives Neither imm a b h k =
    let r = each2_is And U64 a b in
    let s = each2_is Bic U64 b a in
    let m = reduced Greatest U32 16 (each2 And U64 a b) in
    let n = reduced Greatest U32 16 (each2 Bic U64 b a) in
    rw (unequal_none (reduced Greatest U32 16 (each2 And U64 a b)) (reduced_below (each2 And U64 a b) r), unequal_none (reduced Greatest U32 16 (each2 Bic U64 b a)) (reduced_below (each2 Bic U64 b a) s), both_truths (not (reduced Greatest U32 16 (each2 And U64 a b) == 0)) (not (reduced Greatest U32 16 (each2 Bic U64 b a) == 0)))
    (as_number (truth_given (not (m == 0) && not (n == 0)) ∙ ap (λ p. row.bit (not p && not (n == 0))) (no_common a b h r) ∙ ap (λ p. row.bit (not (row.is_disjoint 16 a b) && not p)) (none_left a b k s)))

ones_give : (imm : ℕ) (a : List ℕ) → IsRegister 16 a → evaluated (sequence_of shape.TestedOnes imm) (arg.R16 a ∷ []) ≡ Some (arg.Int (row.bit (row.is_ones a)))
ones_give imm a h =
    let m = reduce_by Min U8 (lane 1 a) 15 in
    rw (byte_reduced a h, equal_ones (reduce_by Min U8 (lane 1 a) 15) (least_byte_below a h)) (as_number (truth_given (m == 255) ∙ ap row.bit (all_ones a h)))

least_gives : (imm : ℕ) (a : List ℕ) → IsRegister 16 a → evaluated (sequence_of shape.MinPosition imm) (arg.R16 a ∷ []) ≡ Some (arg.R16 (min_position a))
least_gives imm a h = as_register (least_registered a h)

-- ---- rows

-- what holds of the sequence, where there is one
abbrev pub When : (Sequence → Type 0) → Option Shape → ℕ → Type 0
When P None imm = Unit {0}
When P (Some p) imm = P (sequence_of p imm)

pub from_plan : (P : Sequence → Type 0) (o : Option Shape) (imm : ℕ) → When P o imm → (s : Sequence) → option_map (λ p. sequence_of p imm) o ≡ Some s → P s
from_plan P None imm h s e = absurd (grind (arith, e))
from_plan P (Some p) imm h s e = subst P (inner e) h
  where
    inner : Some (sequence_of p imm) ≡ Some s → sequence_of p imm ≡ s
    inner d = cc

-- it gives v of all arguments that fit
abbrev pub Gives : Sig → (List Arg → Arg) → Sequence → Type 0
Gives sig v s = (args : List Arg) → Fits sig args → evaluated s (operands (params_of sig) args) ≡ Some (v args)

-- for registers, integers and an immediate's place, as the row takes them
over_none : (s : Sequence) (result : ParamKind) (v : List Arg → Arg) → evaluated s [] ≡ Some (v []) → Gives (signature result []) v s
over_none s result v h = go
  where
    go : (args : List Arg) → FitsKinds [] args → evaluated s (operands [] args) ≡ Some (v args)
    go [] k = h
    go _ k = absurd (grind (arith, k))

over_one : (s : Sequence) (result : ParamKind) (v : List Arg → Arg) → ((a : List ℕ) → IsRegister 16 a → evaluated s (arg.R16 a ∷ []) ≡ Some (v (arg.R16 a ∷ []))) → Gives (signature result (kind.Reg 16 ∷ [])) v s
over_one s result v h = go
  where
    go : (args : List Arg) → FitsKinds (kind.Reg 16 ∷ []) args → evaluated s (operands (kind.Reg 16 ∷ []) args) ≡ Some (v args)
    go (arg.R16 a ∷ []) k = h a k.0.1
    go _ k = absurd (grind (arith, k))

over_integer : (s : Sequence) (result : ParamKind) (t : IntType) (v : List Arg → Arg) → ((x : ℕ) → evaluated s (arg.Int x ∷ []) ≡ Some (v (arg.Int x ∷ []))) → Gives (signature result (kind.Scalar t ∷ [])) v s
over_integer s result t v h = go
  where
    go : (args : List Arg) → FitsKinds (kind.Scalar t ∷ []) args → evaluated s (operands (kind.Scalar t ∷ []) args) ≡ Some (v args)
    go (arg.Int x ∷ []) k = h x
    go _ k = absurd (grind (arith, k))

over_two : (s : Sequence) (result : ParamKind) (v : List Arg → Arg) → ((a b : List ℕ) → IsRegister 16 a → IsRegister 16 b → evaluated s (arg.R16 a ∷ arg.R16 b ∷ []) ≡ Some (v (arg.R16 a ∷ arg.R16 b ∷ [])))
    → Gives (signature result (kind.Reg 16 ∷ kind.Reg 16 ∷ [])) v s
over_two s result v h = go
  where
    go : (args : List Arg) → FitsKinds (kind.Reg 16 ∷ kind.Reg 16 ∷ []) args → evaluated s (operands (kind.Reg 16 ∷ kind.Reg 16 ∷ []) args) ≡ Some (v args)
    go (arg.R16 a ∷ arg.R16 b ∷ []) k = h a b k.0.1 k.1.0.1
    go _ k = absurd (grind (arith, k))

over_three : (s : Sequence) (result : ParamKind) (v : List Arg → Arg) → ((a b c : List ℕ) → IsRegister 16 a → IsRegister 16 b → IsRegister 16 c → evaluated s (arg.R16 a ∷ arg.R16 b ∷ arg.R16 c ∷ []) ≡ Some (v (arg.R16 a ∷ arg.R16 b ∷ arg.R16 c ∷ [])))
    → Gives (signature result (kind.Reg 16 ∷ kind.Reg 16 ∷ kind.Reg 16 ∷ [])) v s
over_three s result v h = go
  where
    go : (args : List Arg) → FitsKinds (kind.Reg 16 ∷ kind.Reg 16 ∷ kind.Reg 16 ∷ []) args → evaluated s (operands (kind.Reg 16 ∷ kind.Reg 16 ∷ kind.Reg 16 ∷ []) args) ≡ Some (v args)
    go (arg.R16 a ∷ arg.R16 b ∷ arg.R16 c ∷ []) k = h a b c k.0.1 k.1.0.1 k.1.1.0.1
    go _ k = absurd (grind (arith, k))

over_one_imm : (s : Sequence) (result : ParamKind) (v : List Arg → Arg) → ((a : List ℕ) → IsRegister 16 a → evaluated s (arg.R16 a ∷ []) ≡ Some (v (arg.R16 a ∷ arg.Nothing ∷ []))) → Gives (signature result (kind.Reg 16 ∷ kind.Immediate ∷ [])) v s
over_one_imm s result v h = go
  where
    go : (args : List Arg) → FitsKinds (kind.Reg 16 ∷ kind.Immediate ∷ []) args → evaluated s (operands (kind.Reg 16 ∷ kind.Immediate ∷ []) args) ≡ Some (v args)
    go (arg.R16 a ∷ arg.Nothing ∷ []) k = h a k.0.1
    go _ k = absurd (grind (arith, k))

over_two_imm : (s : Sequence) (result : ParamKind) (v : List Arg → Arg) → ((a b : List ℕ) → IsRegister 16 a → IsRegister 16 b → evaluated s (arg.R16 a ∷ arg.R16 b ∷ []) ≡ Some (v (arg.R16 a ∷ arg.R16 b ∷ arg.Nothing ∷ [])))
    → Gives (signature result (kind.Reg 16 ∷ kind.Reg 16 ∷ kind.Immediate ∷ [])) v s
over_two_imm s result v h = go
  where
    go : (args : List Arg) → FitsKinds (kind.Reg 16 ∷ kind.Reg 16 ∷ kind.Immediate ∷ []) args → evaluated s (operands (kind.Reg 16 ∷ kind.Reg 16 ∷ kind.Immediate ∷ []) args) ≡ Some (v args)
    go (arg.R16 a ∷ arg.R16 b ∷ arg.Nothing ∷ []) k = h a b k.0.1 k.1.0.1
    go _ k = absurd (grind (arith, k))

over_integer_imm : (s : Sequence) (result : ParamKind) (t : IntType) (v : List Arg → Arg) → ((a : List ℕ) (x : ℕ) → IsRegister 16 a → evaluated s (arg.R16 a ∷ arg.Int x ∷ []) ≡ Some (v (arg.R16 a ∷ arg.Int x ∷ arg.Nothing ∷ [])))
    → Gives (signature result (kind.Reg 16 ∷ kind.Scalar t ∷ kind.Immediate ∷ [])) v s
over_integer_imm s result t v h = go
  where
    go : (args : List Arg) → FitsKinds (kind.Reg 16 ∷ kind.Scalar t ∷ kind.Immediate ∷ []) args → evaluated s (operands (kind.Reg 16 ∷ kind.Scalar t ∷ kind.Immediate ∷ []) args) ≡ Some (v args)
    go (arg.R16 a ∷ arg.Int x ∷ arg.Nothing ∷ []) k = h a x k.0.1
    go _ k = absurd (grind (arith, k))

abbrev Due : Form → ℕ → Type 0
Due f imm = When (Gives (signature_of f) (λ args. value_of f args imm)) (planned f) imm

set_due : (width : Width) (imm : ℕ) → Due (form.Scalar (scalar.Set Xmm width)) imm
unfolding row.each_lane
set_due Byte imm = λ args h. sets_of false Byte args h
set_due Word imm = λ args h. sets_of false Word args h
set_due Dword imm = λ args h. sets_of false Dword args h
set_due Qword imm = λ args h. sets_of false Qword args h

set_reversed_due : (width : Width) (imm : ℕ) → Due (form.Scalar (scalar.SetReversed Xmm width)) imm
unfolding row.each_lane_reversed
set_reversed_due Byte imm = λ args h. sets_of true Byte args h
set_reversed_due Word imm = λ args h. sets_of true Word args h
set_reversed_due Dword imm = λ args h. sets_of true Dword args h
set_reversed_due Qword imm = λ args h. sets_of true Qword args h

pub plan_due : (f : Form) (imm : ℕ) → Due f imm
plan_due (form.Two Xmm two.PackWords) imm = over_two (over (vector ∷ vector ∷ []) (term.packed S16 VqmovnS16 VcombineS8 S8)) (kind.Reg 16) (two_value Xmm (pack 1)) (λ a b h k. as_register (pack_words a b h))
plan_due (form.Two Xmm two.PackDwords) imm = over_two (over (vector ∷ vector ∷ []) (term.packed S32 VqmovnS32 VcombineS16 S16)) (kind.Reg 16) (two_value Xmm (pack 2)) (λ a b h k. as_register (pack_dwords a b h))
plan_due (form.Two Xmm two.PackWordsUnsigned) imm = over_two (over (vector ∷ vector ∷ []) (term.packed S16 VqmovunS16 VcombineU8 U8)) (kind.Reg 16) (two_value Xmm (pack_unsigned 1)) (λ a b h k. as_register (pack_words_unsigned a b h))
plan_due (form.Two Xmm two.PackDwordsUnsigned) imm = over_two (over (vector ∷ vector ∷ []) (term.packed S32 VqmovunS32 VcombineU16 U16)) (kind.Reg 16) (two_value Xmm (pack_unsigned 2)) (λ a b h k. as_register (pack_dwords_unsigned a b h))
plan_due (form.Two Xmm two.ShuffleBytes) imm = over_two (sequence_of shape.Shuffled imm) (kind.Reg 16) (two_value Xmm shuffle_bytes) (shuffled_gives imm)
plan_due (form.TwoImm Xmm two_imm.BlendWords) imm = over_two_imm (sequence_of (shape.Blended Word) imm) (kind.Reg 16) (λ args. two_imm_value Xmm two_imm.BlendWords args imm) (word_blend imm (imm == 0) (imm + 1 == 2 ^ 8) (imm + 1 == 2 ^ 4) (imm + 2 ^ 4 == 2 ^ 8) refl refl refl refl)
plan_due (form.TwoImm Xmm two_imm.BlendDwords) imm = over_two_imm (sequence_of (shape.Blended Dword) imm) (kind.Reg 16) (λ args. two_imm_value Xmm two_imm.BlendDwords args imm) (dword_blend imm (imm == 0) (imm + 1 == 2 ^ 4) (imm + 1 == 2 ^ 2) (imm + 2 ^ 2 == 2 ^ 4) refl refl refl refl)
plan_due (form.BlendBytes Xmm) imm = over_three (sequence_of shape.BlendedBytes imm) (kind.Reg 16) (blend_value Xmm) (blended_bytes_gives imm)
plan_due (form.Extend Xmm s widths) imm = over_one (sequence_of (shape.Extended s widths) imm) (kind.Reg 16) (across_blocks_value Xmm (λ n. extended s n (narrow_of widths) (wide_of widths))) (extended_gives s widths imm)
plan_due (form.Scalar (scalar.SetZero Xmm)) imm = over_none (sequence_of shape.Zero imm) (kind.Reg 16) (λ args. row.scalar_value (scalar.SetZero Xmm) args imm) (zero_gives imm)
plan_due (form.Scalar (scalar.SetAll Xmm width)) imm = over_integer (sequence_of (shape.AllLanes width) imm) (kind.Reg 16) (lane_type width) (λ args. row.scalar_value (scalar.SetAll Xmm width) args imm) (all_lanes_give width imm)
plan_due (form.Scalar (scalar.ToVector width)) imm = over_integer (sequence_of (shape.LowLane width) imm) (kind.Reg 16) (lane_type width) (λ args. row.scalar_value (scalar.ToVector width) args imm) (low_lane_gives width imm)
plan_due (form.Scalar (scalar.FromVector width)) imm = over_one (sequence_of (shape.First width) imm) (kind.Scalar (result_type width)) (row.from_vector_value width) (lane_gives width 0)
plan_due (form.Scalar (scalar.Extract Xmm width)) imm = over_one_imm (sequence_of (shape.Lane width) imm) (kind.Scalar (result_type width)) (λ args. row.extract_value Xmm width args imm) (lane_gives width imm)
plan_due (form.Scalar (scalar.Insert Xmm width)) imm =
    over_integer_imm (sequence_of (shape.WithLane width) imm) (kind.Reg 16) (result_type width) (λ args. row.insert_value Xmm width args imm) (λ a x h. with_lane_gives width imm x a h)
plan_due (form.Scalar (scalar.Set Xmm width)) imm = set_due width imm
plan_due (form.Scalar (scalar.SetReversed Xmm width)) imm = set_reversed_due width imm
plan_due (form.Scalar (scalar.ByteSigns Xmm)) imm = over_one (sequence_of shape.ByteSigns imm) (kind.Scalar int.Int) (row.signs_value Xmm) (signs_give imm)
plan_due (form.Scalar (scalar.Tested Xmm test)) imm = over_two (sequence_of (shape.Tested test) imm) (kind.Scalar int.Int) (row.tested_value Xmm test) (tested_gives test imm)
plan_due (form.Scalar scalar.TestedOnes) imm = over_one (sequence_of shape.TestedOnes imm) (kind.Scalar int.Int) row.ones_value (ones_give imm)
plan_due (form.One Xmm one.MinPosition) imm = over_one (sequence_of shape.MinPosition imm) (kind.Reg 16) (one_value Xmm min_position) (least_gives imm)
plan_due _ imm = tt

-- what holds of the listed sequence holds of the one that was made
pub carry : {E : Type 0} (r : Result Seq E) (f : Form) (imm : ℕ) (P : Sequence → Type 0) → When P (planned f) imm
    → IfOk r (λ s. option_map (λ p. sequence_of p imm) (planned f) ≡ Some (view_seq s)) → IfOk r (λ s. P (view_seq s))
carry (Ok s) f imm P w e = from_plan P (planned f) imm w (view_seq s) e
carry (Err x) f imm P w e = tt
