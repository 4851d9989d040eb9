-- What loads of the qwords that a mask chooses do.
use Rattle.std.proofs.Common.{◌≡◌, ℕ, zero, suc, ◌+◌, ◌-◌, ◌/◌, ◌%◌, ◌^◌, ◌<◌, ◌≤◌, ◌==◌, List, [], ◌∷◌, ◌++◌, Bool, true, false, Option, Some, None, refl, sym, ap, subst, ◌∙◌, arith, rules, replicate, ℤ, pos, take, drop, length, slice_get, inl, inr}
use Rattle.std.proofs.lemmas.Bool.{leb-true, le-leb, cases_lt}
use Rattle.std.proofs.lemmas.Int.{ints}
use Rattle.std.proofs.lemmas.List.{length-take-le, length-append, length-drop}
use Rattle.std.specs.Prelude.{not, ◌&&◌, ◌*ℤ◌, ◌+ℤ◌, unsigned_abs, int_le, nat_le, nat_lt, option_map, if◌then◌else◌}
use Rattle.std.specs.Option.{option_and_then}
use Rattle.std.specs.Ordering.{int_eq}
use Rattle.std.specs.Int.{int_shr}
use Rattle.lane_core.specs.declared.number.IntType.TheVariants as int
use Rattle.lane_core.specs.declared.number.Num.{Num}
use Rattle.lane_core.specs.declared.vector.NeonLane.TheVariants.{U64}
use Rattle.lane_core.specs.IntRange.{InRange}
use Rattle.lane_core.specs.Register.{IsRegister, lane, build, wrapped}
use Rattle.lane_core.proofs.Lanes.{lane-build, build_same, lane_below, lane-take, lane-append_left, lane-append_right}
use Rattle.lane_core.proofs.Laws.{lane-map1}
use Rattle.scalar_core.specs.Numbers.{num_of}
use Rattle.scalar_core.specs.NumberLaws.{num_of_in_range}
use Rattle.c_memory.specs.declared.blocks.Block.{Block}
use Rattle.c_memory.specs.declared.memory.Pointer.{Pointer}
use Rattle.c_memory.specs.declared.memory.Pointer.TheVariants.{Null, At}
use Rattle.c_memory.specs.declared.value.Value.{Value}
use Rattle.c_memory.specs.Memory.{reaches, set_bytes, read_in, bytes_read}
use Rattle.c_memory.specs.MeaningValues.{at_distance, in_block, moved, stepped}
use Rattle.c_memory.specs.MeaningRows.{row_result, access_at, put}
use Rattle.const_imm.specs.Constant.{is_true}
use Rattle.intel_forms.specs.Memory.{is_chosen, merged}
use Rattle.intel_lanes.specs.declared.lanes.Width.TheVariants.{Qword}
use Rattle.intel_forms.specs.declared.forms.Form.{Form}
use Rattle.intel_forms.specs.declared.forms.Form.TheVariants as form
use Rattle.intel_forms.specs.declared.memory.Memory.TheVariants as row
use Rattle.intel_forms.specs.declared.sizes.Size.TheVariants.{Xmm}
use Rattle.intel_table.specs.declared.IntelOp.{IntelOp}
use Rattle.intel_table.specs.Rows.{form_of}
use Rattle.neon_elements.specs.Elements.{integer_of}
use Rattle.neon_elements.specs.Vectors.{combined, created, shifted_right}
use Rattle.seq_core.specs.Actions.{sequence_in}
use Rattle.seq_memory.specs.Plans.{masked_qwords}
use Rattle.seq_memory.specs.Claims.{table, Asked}
use Rattle.seq_memory.proofs.Moves.{Directly, split_and, formed, by_form, apart}
use Rattle.seq_memory.proofs.Halves.{low_read, eight_read, read_length, low_lane, none, none_is, given_by}

-- ---- which lanes are chosen

-- the number that a row gives for a qword of the mask's top bits
abbrev pub bit_number : List ℕ → ℕ → Num
bit_number mask k = num_of int.ULong (pos (integer_of U64 (lane 8 (shifted_right U64 63 mask) k)))

bit_of : (mask : List ℕ) (k : ℕ) → IsRegister 16 mask → k < 2 → integer_of U64 (lane 8 (shifted_right U64 63 mask) k) ≡ lane 8 mask k / 2 ^ 63
unfolding shifted_right wrapped
bit_of mask k h l =
    let small : lane 8 mask k < 256 ^ 8 = lane_below 8 mask k h.bytes in
    ap (λ v. v % 256 ^ 8) (lane-map1 8 16 (λ x. wrapped 8 (int_shr (pos x) 63)) mask k l) ∙ omega (arith, small)

chosen_by : (x : ℕ) → x < 256 ^ 8 → not (int_eq (pos (x / 2 ^ 63)) (pos 0)) ≡ nat_lt (256 ^ 8 / 2 - 1) x
chosen_by x h = elim (cases_lt x (2 ^ 63)) [
  | inl b ↦
      let e : x / 2 ^ 63 ≡ 0 = omega (arith, b) in
      let t : nat_lt (256 ^ 8 / 2 - 1) x ≡ false = let u : x ≤ 256 ^ 8 / 2 - 1 = omega (arith, b) in search (rules, u) in
      rw (e, t) refl
  | inr b ↦
      let e : x / 2 ^ 63 ≡ 1 = omega (arith, b, h) in
      let t : nat_lt (256 ^ 8 / 2 - 1) x ≡ true = let u : 256 ^ 8 / 2 - 1 < x = omega (arith, b) in search (rules, u) in
      rw (e, t) refl
]

pub same_choice : (mask : List ℕ) (k : ℕ) → IsRegister 16 mask → k < 2 → is_true (bit_number mask k) ≡ is_chosen 8 mask k
same_choice mask k h l =
    let small : lane 8 mask k < 256 ^ 8 = lane_below 8 mask k h.bytes in
    let e = bit_of mask k h l in
    let r : InRange int.ULong (pos (lane 8 mask k / 2 ^ 63)) = omega (arith, ints, small) in
    ap (λ n. is_true (num_of int.ULong (pos n))) e
    ∙ ap (λ z. not (int_eq z (pos 0))) (num_of_in_range int.ULong (pos (lane 8 mask k / 2 ^ 63)) r)
    ∙ chosen_by (lane 8 mask k) small

-- ---- what is read

-- eight bytes that far from the row's pointer
abbrev pub read_from : List Block → Pointer → ℤ → Option (List ℕ)
read_from memory p distance = option_and_then (λ q. bytes_read memory q 1 8) (access_at p distance)

at_once : (n : ℕ) → at_distance n (pos 0) ≡ Some n
at_once n =
    let e : pos n +ℤ pos 0 ≡ pos n = omega (arith, ints) in
    let t : int_le (pos 0) (pos n) ≡ true = grind (arith, ints) in
    ap (λ (z : ℤ). if int_le (pos 0) z then Some (unsigned_abs z) else None) e ∙ rw t refl

-- the pointer moved there by itself, from which the bytes are read
pub pointed : (memory : List Block) (p : Pointer) (distance : ℤ) (bytes : List ℕ) → read_from memory p distance ≡ Some bytes
    → (q : Pointer) × (moved memory p distance ≡ Some q) × (low_read memory q ≡ Some bytes) × (length bytes ≡ 8)
pointed memory Null distance bytes e = absurd (cc)
pointed memory (At block offset) distance bytes e = there (at_distance offset distance) e
  where
    place : (n : ℕ) → (o : Option Block) → slice_get memory block ≡ o → read_in o n 1 8 ≡ Some bytes
        → (q : Pointer) × (in_block (slice_get memory block) block n ≡ Some q) × (low_read memory q ≡ Some bytes) × (length bytes ≡ 8)
    place n None k g = absurd (cc)
    place n (Some b) k g = (At block n, inside, read, read_length (Some b) n 8 bytes g)
      where
        by_test : (t : Bool) → reaches b n 1 8 ≡ t → (if t then set_bytes (take 8 (drop n b.bytes)) else None) ≡ Some bytes → in_block (Some b) block n ≡ Some (At block n)
        by_test false r f = absurd (cc)
        by_test true r f =
            let lives = split_and b.alive (nat_le (n + 8) (length b.bytes) && (nat_le 1 b.align && n % 1 == 0)) r in
            let fits = split_and (nat_le (n + 8) (length b.bytes)) (nat_le 1 b.align && n % 1 == 0) lives.1 in
            let least : n + 8 ≤ length b.bytes = leb-true (n + 8) (length b.bytes) fits.0 in
            let t : nat_lt (length b.bytes) n ≡ false = let u : n ≤ length b.bytes = omega (arith, least) in search (rules, u) in
            rw (lives.0, t) refl

        inside : in_block (slice_get memory block) block n ≡ Some (At block n)
        inside = ap (λ o. in_block o block n) k ∙ by_test (reaches b n 1 8) refl g

        read : low_read memory (At block n) ≡ Some bytes
        read = ap (λ o. option_and_then (λ q. bytes_read memory q 1 8) (option_map (At block) o)) (at_once n) ∙ ap (λ o. read_in o n 1 8) k ∙ g

    there : (o : Option ℕ) → option_and_then (λ q. bytes_read memory q 1 8) (option_map (At block) o) ≡ Some bytes
        → (q : Pointer) × (option_and_then (in_block (slice_get memory block) block) o ≡ Some q) × (low_read memory q ≡ Some bytes) × (length bytes ≡ 8)
    there None g = absurd (cc)
    there (Some n) g = place n (slice_get memory block) refl g

abbrev eight : ℤ
eight = (num_of int.Int (pos 8)).value

eight_is : eight *ℤ pos 1 ≡ pos 8
eight_is = let r : InRange int.Int (pos 8) = omega (arith, ints) in ap (λ z. z *ℤ pos 1) (num_of_in_range int.Int (pos 8) r)

pub stepped_eight : (memory : List Block) (p q : Pointer) → moved memory p (pos 8) ≡ Some q → stepped memory p (Some 1) eight ≡ Some (Value.At q)
stepped_eight memory p q e = ap (λ z. option_map Value.At (moved memory p z)) eight_is ∙ ap (option_map Value.At) e

-- ---- the register

abbrev pub zeros : List ℕ
zeros = replicate 16 0

abbrev pub eight_zeros : List ℕ
eight_zeros = replicate 8 0

zero_lane : lane 8 (replicate 16 0) 0 ≡ 0
unfolding lane
zero_lane = refl

zero_lane_1 : lane 8 (replicate 16 0) 1 ≡ 0
unfolding lane
zero_lane_1 = refl

pub no_lane : lane 8 (created none) 0 ≡ 0
unfolding created
no_lane = ap (λ n. lane 8 (build 8 1 (λ e. n)) 0) none_is ∙ lane-build 8 1 (λ e. 0) 0 (omega arith)

pub whole : (bytes : List ℕ) → length bytes ≡ 8 → length (put zeros 0 bytes) ≡ 16
whole bytes h = let a = length-append bytes (drop (0 + length bytes) zeros) in let d = length-drop (0 + length bytes) zeros in omega (arith, h, a, d)

pub first_put : (r bytes : List ℕ) → length bytes ≡ 8 → lane 8 (put r 0 bytes) 0 ≡ lane 8 bytes 0
first_put r bytes h = low_lane bytes (drop (0 + length bytes) r) h

pub second_put : (r bytes : List ℕ) → length r ≡ 16 → length bytes ≡ 8 → lane 8 (put r 8 bytes) 1 ≡ lane 8 bytes 0
second_put r bytes h k =
    lane-append_right 8 1 (take 8 r) (bytes ++ drop (8 + length bytes) r) 0 (length-take-le 8 r (omega (arith, h))) ∙ low_lane bytes (drop (8 + length bytes) r) k

pub kept_put : (r bytes : List ℕ) → length r ≡ 16 → lane 8 (put r 8 bytes) 0 ≡ lane 8 r 0
kept_put r bytes h =
    let s = length-take-le 8 r (omega (arith, h)) in
    lane-append_left 8 (take 8 r) (bytes ++ drop (8 + length bytes) r) 0 (omega (arith, s)) ∙ lane-take 8 8 r 0 (omega arith)

same_value : (mask read lo hi : List ℕ) (t u : Bool) → is_chosen 8 mask 0 ≡ t → is_chosen 8 mask 1 ≡ u
    → lane 8 lo 0 ≡ (if t then lane 8 read 0 else 0) → lane 8 hi 0 ≡ (if u then lane 8 read 1 else 0) → combined lo hi ≡ merged 8 16 2 mask read zeros
unfolding combined merged
same_value mask read lo hi t u c d e f =
    build_same 8 2 (λ i. if i == 0 then lane 8 lo 0 else lane 8 hi 0) (λ k. if nat_lt k 2 then (if is_chosen 8 mask k then lane 8 read k else lane 8 zeros k) else 0) each
  where
    each : (i : ℕ) → i < 2 → (if i == 0 then lane 8 lo 0 else lane 8 hi 0) % 256 ^ 8
        ≡ (if nat_lt i 2 then (if is_chosen 8 mask i then lane 8 read i else lane 8 zeros i) else 0) % 256 ^ 8
    each zero l =
        ap (λ v. v % 256 ^ 8) (e ∙ ap (λ z. if t then lane 8 read 0 else z) (sym zero_lane) ∙ ap (λ b. if b then lane 8 read 0 else lane 8 zeros 0) (sym c))
    each (suc zero) l =
        ap (λ v. v % 256 ^ 8) (f ∙ ap (λ z. if u then lane 8 read 1 else z) (sym zero_lane_1) ∙ ap (λ b. if b then lane 8 read 1 else lane 8 zeros 1) (sym d))
    each (suc (suc n)) l = absurd (omega (arith, l))

-- ---- calls

abbrev mask_form : Form
mask_form = form.Memory (row.MaskLoad Xmm Qword)

abbrev intel_call : IntelOp → Pointer → List ℕ → List Block → Option (Option Value × List Block)
intel_call op p mask memory = row_result (formed mask_form) op (Value.At p ∷ Value.R16 mask ∷ []) memory

abbrev neon_call : Pointer → List ℕ → List Block → Option (Option Value × List Block)
neon_call p mask memory = sequence_in masked_qwords (Value.At p ∷ Value.R16 mask ∷ []) memory

abbrev pub gave : List ℕ → List Block → Option (Option Value × List Block)
gave r memory = Some (Some (Value.R16 r), memory)

-- the rows' constants
pub constant : (n : ℕ) → n < 64 → (num_of int.Int (pos n)).value ≡ pos n
constant n h = num_of_in_range int.Int (pos n) (omega (arith, ints, h))

pub c0 : (num_of int.Int (pos 0)).value ≡ pos 0
c0 = constant 0 (omega arith)

pub c1 : (num_of int.Int (pos 1)).value ≡ pos 1
c1 = constant 1 (omega arith)

pub c63 : (num_of int.Int (pos 63)).value ≡ pos 63
c63 = constant 63 (omega arith)

-- neither lane
intel_none : (op : IntelOp) (p : Pointer) (mask : List ℕ) (memory : List Block) → is_chosen 8 mask 0 ≡ false → is_chosen 8 mask 1 ≡ false
    → intel_call op p mask memory ≡ gave (merged 8 16 2 mask zeros zeros) memory
intel_none op p mask memory c d = rw (c, d) refl

neon_none : (p : Pointer) (mask : List ℕ) (memory : List Block) → is_true (bit_number mask 0) ≡ false → is_true (bit_number mask 1) ≡ false
    → neon_call p mask memory ≡ gave (combined (created none) (created none)) memory
neon_none p mask memory c d = rw (c63, c0, c, c1, d) refl

-- the low lane alone
intel_low : (op : IntelOp) (p : Pointer) (mask : List ℕ) (memory : List Block) (x : Option (List ℕ)) → is_chosen 8 mask 0 ≡ true → is_chosen 8 mask 1 ≡ false
    → read_from memory p (pos 0) ≡ x → intel_call op p mask memory ≡ given_by (λ bytes. merged 8 16 2 mask (put zeros 0 bytes) zeros) memory x
intel_low op p mask memory None c d h = rw (c, d, h) refl
intel_low op p mask memory (Some bytes) c d h = rw (c, d, h) refl

neon_low : (p : Pointer) (mask : List ℕ) (memory : List Block) (bytes : List ℕ) → is_true (bit_number mask 0) ≡ true → is_true (bit_number mask 1) ≡ false
    → low_read memory p ≡ Some bytes → neon_call p mask memory ≡ gave (combined (put eight_zeros 0 bytes) (created none)) memory
neon_low p mask memory bytes c d h = rw (c63, c0, c, h, c1, d) refl

-- the high lane alone
intel_high : (op : IntelOp) (p : Pointer) (mask : List ℕ) (memory : List Block) (x : Option (List ℕ)) → is_chosen 8 mask 0 ≡ false → is_chosen 8 mask 1 ≡ true
    → read_from memory p (pos 8) ≡ x → intel_call op p mask memory ≡ given_by (λ bytes. merged 8 16 2 mask (put zeros 8 bytes) zeros) memory x
intel_high op p mask memory None c d h = rw (c, d, h) refl
intel_high op p mask memory (Some bytes) c d h = rw (c, d, h) refl

neon_high : (p q : Pointer) (mask : List ℕ) (memory : List Block) (bytes : List ℕ) → is_true (bit_number mask 0) ≡ false → is_true (bit_number mask 1) ≡ true
    → stepped memory p (Some 1) eight ≡ Some (Value.At q) → low_read memory q ≡ Some bytes → neon_call p mask memory ≡ gave (combined (created none) (put eight_zeros 0 bytes)) memory
neon_high p q mask memory bytes c d s h = rw (c63, c0, c, c1, d, s, h) refl

-- both lanes
intel_no_low : (op : IntelOp) (p : Pointer) (mask : List ℕ) (memory : List Block) → is_chosen 8 mask 0 ≡ true → is_chosen 8 mask 1 ≡ true
    → read_from memory p (pos 0) ≡ None → intel_call op p mask memory ≡ None
intel_no_low op p mask memory c d h = rw (c, d, h) refl

intel_both : (op : IntelOp) (p : Pointer) (mask : List ℕ) (memory : List Block) (low : List ℕ) (x : Option (List ℕ)) → is_chosen 8 mask 0 ≡ true → is_chosen 8 mask 1 ≡ true
    → read_from memory p (pos 0) ≡ Some low → nat_le 16 (length (put zeros 0 low)) ≡ true → read_from memory p (pos 8) ≡ x
    → intel_call op p mask memory ≡ given_by (λ bytes. merged 8 16 2 mask (put (put zeros 0 low) 8 bytes) zeros) memory x
intel_both op p mask memory low None c d h n k = rw (c, d, h, n, k) refl
intel_both op p mask memory low (Some bytes) c d h n k = rw (c, d, h, n, k) refl

neon_both : (p q : Pointer) (mask : List ℕ) (memory : List Block) (low bytes : List ℕ) → is_true (bit_number mask 0) ≡ true → is_true (bit_number mask 1) ≡ true
    → low_read memory p ≡ Some low → stepped memory p (Some 1) eight ≡ Some (Value.At q) → low_read memory q ≡ Some bytes
    → neon_call p mask memory ≡ gave (combined (put eight_zeros 0 low) (put eight_zeros 0 bytes)) memory
neon_both p q mask memory low bytes c d h s k = rw (c63, c0, c, h, c1, d, s, k) refl

pub masked : (op : IntelOp) → form_of op ≡ mask_form → Directly op masked_qwords
masked op e (Value.At p ∷ Value.R16 mask ∷ []) memory after o a h = by_choice (is_chosen 8 mask 0) (is_chosen 8 mask 1) refl refl
  where
    asked : IsRegister 16 mask × Unit {0}
    asked = subst (λ f. Asked f 0 (Value.At p ∷ Value.R16 mask ∷ [])) e a

    first : (t : Bool) → is_chosen 8 mask 0 ≡ t → is_true (bit_number mask 0) ≡ t
    first t c = same_choice mask 0 asked.0 (omega arith) ∙ c

    second : (t : Bool) → is_chosen 8 mask 1 ≡ t → is_true (bit_number mask 1) ≡ t
    second t d = same_choice mask 1 asked.0 (omega arith) ∙ d

    here : intel_call op p mask memory ≡ Some (o, after)
    here = sym (by_form op mask_form e (Value.At p ∷ Value.R16 mask ∷ []) memory) ∙ h

    low_alone : is_chosen 8 mask 0 ≡ true → is_chosen 8 mask 1 ≡ false → (x : Option (List ℕ)) → read_from memory p (pos 0) ≡ x → neon_call p mask memory ≡ Some (o, after)
    low_alone c d None k = apart _ (o, after) (intel_low op p mask memory None c d k) here
    low_alone c d (Some bytes) k =
        let n = eight_read memory p bytes k in
        neon_low p mask memory bytes (first true c) (second false d) k
        ∙ ap (λ r. gave r memory) (same_value mask (put zeros 0 bytes) (put eight_zeros 0 bytes) (created none) true false c d (first_put eight_zeros bytes n ∙ sym (first_put zeros bytes n)) no_lane)
        ∙ sym (intel_low op p mask memory (Some bytes) c d k)
        ∙ here

    high_alone : is_chosen 8 mask 0 ≡ false → is_chosen 8 mask 1 ≡ true → (x : Option (List ℕ)) → read_from memory p (pos 8) ≡ x → neon_call p mask memory ≡ Some (o, after)
    high_alone c d None k = apart _ (o, after) (intel_high op p mask memory None c d k) here
    high_alone c d (Some bytes) k =
        let at = pointed memory p (pos 8) bytes k in
        neon_high p at.0 mask memory bytes (first false c) (second true d) (stepped_eight memory p at.0 at.1) at.2
        ∙ ap (λ r. gave r memory) (same_value mask (put zeros 8 bytes) (created none) (put eight_zeros 0 bytes) false true c d no_lane (first_put eight_zeros bytes at.3 ∙ sym (second_put zeros bytes refl at.3)))
        ∙ sym (intel_high op p mask memory (Some bytes) c d k)
        ∙ here

    both_after : is_chosen 8 mask 0 ≡ true → is_chosen 8 mask 1 ≡ true → (low : List ℕ) → read_from memory p (pos 0) ≡ Some low → (x : Option (List ℕ)) → read_from memory p (pos 8) ≡ x
        → neon_call p mask memory ≡ Some (o, after)
    both_after c d low j None k =
        let w = whole low (eight_read memory p low j) in
        apart _ (o, after) (intel_both op p mask memory low None c d j (le-leb 16 (length (put zeros 0 low)) (omega (arith, w))) k) here
    both_after c d low j (Some bytes) k =
        let n = eight_read memory p low j in
        let w = whole low n in
        let at = pointed memory p (pos 8) bytes k in
        neon_both p at.0 mask memory low bytes (first true c) (second true d) j (stepped_eight memory p at.0 at.1) at.2
        ∙ ap (λ r. gave r memory) (same_value mask (put (put zeros 0 low) 8 bytes) (put eight_zeros 0 low) (put eight_zeros 0 bytes) true true c d
        (first_put eight_zeros low n ∙ sym (kept_put (put zeros 0 low) bytes w ∙ first_put zeros low n)) (first_put eight_zeros bytes at.3 ∙ sym (second_put (put zeros 0 low) bytes w at.3)))
        ∙ sym (intel_both op p mask memory low (Some bytes) c d j (le-leb 16 (length (put zeros 0 low)) (omega (arith, w))) k)
        ∙ here

    both : is_chosen 8 mask 0 ≡ true → is_chosen 8 mask 1 ≡ true → (x : Option (List ℕ)) → read_from memory p (pos 0) ≡ x → neon_call p mask memory ≡ Some (o, after)
    both c d None j = apart _ (o, after) (intel_no_low op p mask memory c d j) here
    both c d (Some low) j = both_after c d low j (read_from memory p (pos 8)) refl

    by_choice : (t u : Bool) → is_chosen 8 mask 0 ≡ t → is_chosen 8 mask 1 ≡ u → neon_call p mask memory ≡ Some (o, after)
    by_choice false false c d =
        neon_none p mask memory (first false c) (second false d)
        ∙ ap (λ r. gave r memory) (same_value mask zeros (created none) (created none) false false c d no_lane no_lane)
        ∙ sym (intel_none op p mask memory c d)
        ∙ here
    by_choice true false c d = low_alone c d (read_from memory p (pos 0)) refl
    by_choice false true c d = high_alone c d (read_from memory p (pos 8)) refl
    by_choice true true c d = both c d (read_from memory p (pos 0)) refl
masked op e [] memory after o k h = apart (row_result table op [] memory) (o, after) (rw e refl) h
masked op e (Value.Int n ∷ vs) memory after o k h = apart (row_result table op (Value.Int n ∷ vs) memory) (o, after) (rw e refl) h
masked op e (Value.R8 r ∷ vs) memory after o k h = apart (row_result table op (Value.R8 r ∷ vs) memory) (o, after) (rw e refl) h
masked op e (Value.R16 r ∷ vs) memory after o k h = apart (row_result table op (Value.R16 r ∷ vs) memory) (o, after) (rw e refl) h
masked op e (Value.R32 r ∷ vs) memory after o k h = apart (row_result table op (Value.R32 r ∷ vs) memory) (o, after) (rw e refl) h
masked op e (Value.At p ∷ []) memory after o k h = apart (row_result table op (Value.At p ∷ []) memory) (o, after) (rw e refl) h
masked op e (Value.At p ∷ Value.Int n ∷ vs) memory after o k h = apart (row_result table op (Value.At p ∷ Value.Int n ∷ vs) memory) (o, after) (rw e refl) h
masked op e (Value.At p ∷ Value.R8 r ∷ vs) memory after o k h = apart (row_result table op (Value.At p ∷ Value.R8 r ∷ vs) memory) (o, after) (rw e refl) h
masked op e (Value.At p ∷ Value.R32 r ∷ vs) memory after o k h = apart (row_result table op (Value.At p ∷ Value.R32 r ∷ vs) memory) (o, after) (rw e refl) h
masked op e (Value.At p ∷ Value.At q ∷ vs) memory after o k h = apart (row_result table op (Value.At p ∷ Value.At q ∷ vs) memory) (o, after) (rw e refl) h
masked op e (Value.At p ∷ Value.R16 r ∷ v ∷ vs) memory after o k h = apart (row_result table op (Value.At p ∷ Value.R16 r ∷ v ∷ vs) memory) (o, after) (rw e refl) h
