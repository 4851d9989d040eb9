-- What gathers of two qwords by dwords do.
use Rattle.std.proofs.Common.{◌≡◌, ℕ, zero, suc, ◌+◌, ◌-◌, ◌*◌, ◌%◌, ◌^◌, ◌<◌, ◌==◌, List, [], ◌∷◌, Bool, true, false, Option, Some, None, refl, sym, ap, subst, ◌∙◌, arith, rules, ℤ, pos, negsuc, length}
use Rattle.std.proofs.lemmas.Bool.{le-leb}
use Rattle.std.proofs.lemmas.Int.{ints}
use Rattle.std.specs.Prelude.{◌*ℤ◌, ◌-ℤ◌, ◌≤ℤ◌, ◌<ℤ◌, nat_le, nat_lt, int_le, unsigned_abs, option_map, if◌then◌else◌}
use Rattle.lane_core.specs.declared.number.IntType.TheVariants as int
use Rattle.lane_core.specs.declared.number.Num.{Num}
use Rattle.lane_core.specs.declared.table.ImmRange.TheVariants.{Scale}
use Rattle.lane_core.specs.declared.vector.NeonLane.TheVariants.{S32, S64}
use Rattle.lane_core.specs.Table.{params_of}
use Rattle.lane_core.specs.Register.{IsRegister, lane, signed, wrapped}
use Rattle.lane_core.proofs.Lanes.{lane-build, build_same, lane_below, lane-take}
use Rattle.lane_core.proofs.Laws.{lane-map1}
use Rattle.lane_core.proofs.Signed.{signed-wrapped, signed_least, signed_greatest}
use Rattle.scalar_core.specs.Numbers.{num_of}
use Rattle.scalar_core.specs.NumberLaws.{num_of_in_range}
use Rattle.scalar_core.specs.TwosComplement as twos
use Rattle.neon_elements.specs.Elements.{integer_of}
use Rattle.neon_elements.specs.Vectors.{half, widened, shifted_left}
use Rattle.c_memory.specs.declared.blocks.Block.{Block}
use Rattle.c_memory.specs.declared.memory.Pointer.{Pointer}
use Rattle.c_memory.specs.declared.value.Value.{Value}
use Rattle.c_memory.specs.MeaningValues.{moved, stepped}
use Rattle.c_memory.specs.MeaningRows.{row_result, is_in_range, put}
use Rattle.intel_forms.specs.Memory.{low_lanes}
use Rattle.intel_forms.specs.declared.forms.Form.{Form}
use Rattle.intel_forms.specs.declared.forms.Form.TheVariants as form
use Rattle.intel_forms.specs.declared.memory.Indexing.TheVariants.{QwordsByDwords}
use Rattle.intel_forms.specs.declared.memory.Memory.TheVariants as row
use Rattle.intel_forms.specs.declared.sizes.Size.TheVariants.{Xmm}
use Rattle.intel_forms.specs.Forms as forms
use Rattle.intel_table.specs.declared.IntelOp.{IntelOp}
use Rattle.intel_table.specs.Rows.{form_of}
use Rattle.neon_elements.specs.Vectors.{combined}
use Rattle.seq_core.specs.Actions.{sequence_in}
use Rattle.seq_memory.specs.Plans.{power_of, gathered_qwords}
use Rattle.seq_memory.specs.Claims.{Asked, operands, DoesAsTheRow}
use Rattle.seq_memory.proofs.Moves.{formed, by_form, apart}
use Rattle.seq_memory.proofs.Halves.{low_half, low_read, given_by}
use Rattle.seq_memory.proofs.Masks.{read_from, pointed, zeros, eight_zeros, whole, first_put, second_put, kept_put, constant, c0, c1}

-- ---- distances

-- a number of 64 bits with its sign, from its lane
long_low : (n : ℕ) → n < 2 ^ 63 → (num_of int.Long (pos (wrapped 8 (pos n)))).value ≡ pos n
unfolding wrapped
long_low n h =
    let e : n % 256 ^ 8 ≡ n = omega (arith, h) in
    ap (λ m. (num_of int.Long (pos m)).value) e ∙ num_of_in_range int.Long (pos n) (omega (arith, ints, h))

long_high : (n : ℕ) → n < 2 ^ 63 → (num_of int.Long (pos (wrapped 8 (negsuc n)))).value ≡ negsuc n
unfolding wrapped num_of twos.wrapped twos.bits_of twos.value_of_bits
long_high n h =
    let e : 256 ^ 8 - 1 - n % 256 ^ 8 ≡ 2 ^ 64 - 1 - n = omega (arith, h) in
    ap (λ m. (num_of int.Long (pos m)).value) e ∙ grind (arith, ints, h)

pub long_is : (z : ℤ) → (pos 0 -ℤ pos (2 ^ 63)) ≤ℤ z → z <ℤ pos (2 ^ 63) → (num_of int.Long (pos (wrapped 8 z))).value ≡ z
long_is (pos n) l h = long_low n (omega (arith, ints, h))
long_is (negsuc n) l h = long_high n (omega (arith, ints, l))

-- a signed dword times a scale
abbrev Scales : ℕ → Type 0
Scales s = (z : ℤ) → wrapped 8 z % 256 ^ 8 * s % 256 ^ 8 ≡ wrapped 8 (z *ℤ pos s)

scales_1 : Scales 1
unfolding wrapped
scales_1 (pos n) = omega arith
scales_1 (negsuc n) = let e : negsuc n *ℤ pos 1 ≡ negsuc n = omega (arith, ints) in rw e (omega arith)

scales_2 : Scales 2
unfolding wrapped
scales_2 (pos n) = omega arith
scales_2 (negsuc n) = let e : negsuc n *ℤ pos 2 ≡ negsuc (2 * n + 1) = omega (arith, ints) in rw e (omega arith)

scales_4 : Scales 4
unfolding wrapped
scales_4 (pos n) = omega arith
scales_4 (negsuc n) = let e : negsuc n *ℤ pos 4 ≡ negsuc (4 * n + 3) = omega (arith, ints) in rw e (omega arith)

scales_8 : Scales 8
unfolding wrapped
scales_8 (pos n) = omega arith
scales_8 (negsuc n) = let e : negsuc n *ℤ pos 8 ≡ negsuc (8 * n + 7) = omega (arith, ints) in rw e (omega arith)

abbrev pub distance : List ℕ → ℕ → ℕ → ℤ
distance index scale k = signed 4 (lane 4 index k) *ℤ pos scale

-- what the sequence's row gives for it
abbrev pub distance_number : List ℕ → ℕ → ℕ → Num
distance_number index scale k = num_of int.Long (pos (integer_of S64 (lane 8 (shifted_left S64 (power_of scale) (widened S32 (half 0 index))) k)))

wide_lane : (index : List ℕ) (k : ℕ) → IsRegister 16 index → k < 2 → lane 8 (widened S32 (half 0 index)) k ≡ wrapped 8 (signed 4 (lane 4 index k)) % 256 ^ 8
unfolding widened
wide_lane index k h l =
    lane-build 8 2 (λ e. wrapped 8 (signed 4 (lane 4 (half 0 index) e))) k l
    ∙ ap (λ r. wrapped 8 (signed 4 (lane 4 r k)) % 256 ^ 8) (low_half index h)
    ∙ ap (λ v. wrapped 8 (signed 4 v) % 256 ^ 8) (lane-take 4 8 index k (omega (arith, l)))

abbrev Bounded : ℕ → Type 0
Bounded s = (z : ℤ) → (pos 0 -ℤ pos (2 ^ 31)) ≤ℤ z → z <ℤ pos (2 ^ 31) → ((pos 0 -ℤ pos (2 ^ 63)) ≤ℤ (z *ℤ pos s)) × ((z *ℤ pos s) <ℤ pos (2 ^ 63))

bounded_1 : Bounded 1
bounded_1 z l h = (omega (arith, ints, l, h), omega (arith, ints, l, h))

bounded_2 : Bounded 2
bounded_2 z l h = (omega (arith, ints, l, h), omega (arith, ints, l, h))

bounded_4 : Bounded 4
bounded_4 z l h = (omega (arith, ints, l, h), omega (arith, ints, l, h))

bounded_8 : Bounded 8
bounded_8 z l h = (omega (arith, ints, l, h), omega (arith, ints, l, h))

number_by : (index : List ℕ) (s j k : ℕ) → IsRegister 16 index → k < 2 → Scales s → Bounded s
    → lane 8 (shifted_left S64 j (widened S32 (half 0 index))) k ≡ lane 8 (widened S32 (half 0 index)) k * s % 256 ^ 8
    → (num_of int.Long (pos (integer_of S64 (lane 8 (shifted_left S64 j (widened S32 (half 0 index))) k)))).value ≡ distance index s k
number_by index s j k h l law bounds e =
    let small : lane 4 index k < 256 ^ 4 = lane_below 4 index k h.bytes in
    let b = bounds (signed 4 (lane 4 index k)) (signed_least 4 (lane 4 index k) (omega arith)) (signed_greatest 4 (lane 4 index k) (omega arith) small) in
    ap (λ v. (num_of int.Long (pos (wrapped 8 (signed 8 v)))).value) (e ∙ ap (λ v. v * s % 256 ^ 8) (wide_lane index k h l) ∙ law (signed 4 (lane 4 index k)))
    ∙ ap (λ z. (num_of int.Long (pos (wrapped 8 z))).value) (signed-wrapped 8 (distance index s k) (omega arith) b.0 b.1)
    ∙ long_is (distance index s k) b.0 b.1

pub number_1 : (index : List ℕ) (k : ℕ) → IsRegister 16 index → k < 2 → (distance_number index 1 k).value ≡ distance index 1 k
unfolding shifted_left
number_1 index k h l = number_by index 1 0 k h l scales_1 bounded_1 (lane-map1 8 16 (λ x. x * 2 ^ 0) (widened S32 (half 0 index)) k l)

pub number_2 : (index : List ℕ) (k : ℕ) → IsRegister 16 index → k < 2 → (distance_number index 2 k).value ≡ distance index 2 k
unfolding shifted_left
number_2 index k h l = number_by index 2 1 k h l scales_2 bounded_2 (lane-map1 8 16 (λ x. x * 2 ^ 1) (widened S32 (half 0 index)) k l)

pub number_4 : (index : List ℕ) (k : ℕ) → IsRegister 16 index → k < 2 → (distance_number index 4 k).value ≡ distance index 4 k
unfolding shifted_left
number_4 index k h l = number_by index 4 2 k h l scales_4 bounded_4 (lane-map1 8 16 (λ x. x * 2 ^ 2) (widened S32 (half 0 index)) k l)

pub number_8 : (index : List ℕ) (k : ℕ) → IsRegister 16 index → k < 2 → (distance_number index 8 k).value ≡ distance index 8 k
unfolding shifted_left
number_8 index k h l = number_by index 8 3 k h l scales_8 bounded_8 (lane-map1 8 16 (λ x. x * 2 ^ 3) (widened S32 (half 0 index)) k l)

-- ---- calls

abbrev pub gather_form : Form
gather_form = form.Memory (row.Gather Xmm QwordsByDwords)

abbrev intel_call : IntelOp → Pointer → List ℕ → Num → List Block → Option (Option Value × List Block)
intel_call op p index n memory = row_result (formed gather_form) op (Value.At p ∷ Value.R16 index ∷ Value.Int n ∷ []) memory

abbrev neon_call : Pointer → List ℕ → ℕ → List Block → Option (Option Value × List Block)
neon_call p index scale memory = sequence_in (gathered_qwords scale) (Value.At p ∷ Value.R16 index ∷ []) memory

intel_negative : (op : IntelOp) (p : Pointer) (index : List ℕ) (n : Num) (memory : List Block) → int_le (pos 0) n.value ≡ false → intel_call op p index n memory ≡ None
intel_negative op p index n memory t = rw t refl

intel_out : (op : IntelOp) (p : Pointer) (index : List ℕ) (n : Num) (memory : List Block) (s : ℕ) → int_le (pos 0) n.value ≡ true → unsigned_abs n.value ≡ s → is_in_range Scale s ≡ false
    → intel_call op p index n memory ≡ None
intel_out op p index n memory s t u r = rw (t, u, r) refl

intel_no_low : (op : IntelOp) (p : Pointer) (index : List ℕ) (n : Num) (memory : List Block) (s : ℕ) → int_le (pos 0) n.value ≡ true → unsigned_abs n.value ≡ s → is_in_range Scale s ≡ true
    → read_from memory p (distance index s 0) ≡ None → intel_call op p index n memory ≡ None
intel_no_low op p index n memory s t u r h = rw (t, u, r, h) refl

intel_both : (op : IntelOp) (p : Pointer) (index : List ℕ) (n : Num) (memory : List Block) (s : ℕ) (low : List ℕ) (x : Option (List ℕ)) → int_le (pos 0) n.value ≡ true → unsigned_abs n.value ≡ s
    → is_in_range Scale s ≡ true → read_from memory p (distance index s 0) ≡ Some low → nat_le 16 (length (put zeros 0 low)) ≡ true → read_from memory p (distance index s 1) ≡ x
    → intel_call op p index n memory ≡ given_by (λ bytes. low_lanes 8 16 2 (put (put zeros 0 low) 8 bytes)) memory x
intel_both op p index n memory s low None t u r h l k = rw (t, u, r, h, l, k) refl
intel_both op p index n memory s low (Some bytes) t u r h l k = rw (t, u, r, h, l, k) refl

-- at a scale, whose power is a constant in range
neon_both : (p q r : Pointer) (index : List ℕ) (scale : ℕ) (memory : List Block) (low high : List ℕ) → (num_of int.Int (pos (power_of scale))).value ≡ pos (power_of scale) → nat_le 0 (power_of scale) ≡ true → nat_le (power_of scale) 63 ≡ true
    → stepped memory p (Some 1) (distance_number index scale 0).value ≡ Some (Value.At q) → low_read memory q ≡ Some low
    → stepped memory p (Some 1) (distance_number index scale 1).value ≡ Some (Value.At r) → low_read memory r ≡ Some high
    → neon_call p index scale memory ≡ Some (Some (Value.R16 (combined (put eight_zeros 0 low) (put eight_zeros 0 high))), memory)
neon_both p q r index scale memory low high c z l a b d e = rw (c, z, l, c0, a, b, c1, d, e) refl

same_value : (read lo hi : List ℕ) → lane 8 lo 0 ≡ lane 8 read 0 → lane 8 hi 0 ≡ lane 8 read 1 → combined lo hi ≡ low_lanes 8 16 2 read
unfolding combined low_lanes
same_value read lo hi e f = build_same 8 2 (λ i. if i == 0 then lane 8 lo 0 else lane 8 hi 0) (λ k. if nat_lt k 2 then lane 8 read k else 0) each
  where
    each : (i : ℕ) → i < 2 → (if i == 0 then lane 8 lo 0 else lane 8 hi 0) % 256 ^ 8 ≡ (if nat_lt i 2 then lane 8 read i else 0) % 256 ^ 8
    each zero l = ap (λ v. v % 256 ^ 8) e
    each (suc zero) l = ap (λ v. v % 256 ^ 8) f
    each (suc (suc n)) l = absurd (omega (arith, l))

pub stepped_so : (memory : List Block) (p q : Pointer) (n : Num) (z : ℤ) → n.value ≡ z → moved memory p z ≡ Some q → stepped memory p (Some 1) n.value ≡ Some (Value.At q)
stepped_so memory p q n z e m = ap (λ d. option_map Value.At (moved memory p (d *ℤ pos 1))) e ∙ ap (λ d. option_map Value.At (moved memory p d)) (let o : z *ℤ pos 1 ≡ z = omega (arith, ints) in o) ∙ ap (option_map Value.At) m

-- a scale is one of four
abbrev pub Numbers : ℕ → Type 0
Numbers scale = ((index : List ℕ) (k : ℕ) → IsRegister 16 index → k < 2 → (distance_number index scale k).value ≡ distance index scale k)
    × ((num_of int.Int (pos (power_of scale))).value ≡ pos (power_of scale)) × (nat_le 0 (power_of scale) ≡ true) × (nat_le (power_of scale) 63 ≡ true)

numbers_1 : Numbers 1
numbers_1 = (number_1, constant 0 (omega arith), refl, refl)

numbers_2 : Numbers 2
numbers_2 = (number_2, constant 1 (omega arith), refl, refl)

numbers_4 : Numbers 4
numbers_4 = (number_4, constant 2 (omega arith), refl, refl)

numbers_8 : Numbers 8
numbers_8 = (number_8, constant 3 (omega arith), refl, refl)

pub numbers : (scale : ℕ) → is_in_range Scale scale ≡ true → Numbers scale
numbers scale r = by_one (scale == 1) refl
  where
    by_eight : (t : Bool) → (scale == 8) ≡ t → (scale == 1) ≡ false → (scale == 2) ≡ false → (scale == 4) ≡ false → Numbers scale
    by_eight true e a b c = let d : scale ≡ 8 = search (rules, e) in subst Numbers (sym d) numbers_8
    by_eight false e a b c = absurd (grind (arith, r, e, a, b, c))

    by_four : (t : Bool) → (scale == 4) ≡ t → (scale == 1) ≡ false → (scale == 2) ≡ false → Numbers scale
    by_four true e a b = let d : scale ≡ 4 = search (rules, e) in subst Numbers (sym d) numbers_4
    by_four false e a b = by_eight (scale == 8) refl a b e

    by_two : (t : Bool) → (scale == 2) ≡ t → (scale == 1) ≡ false → Numbers scale
    by_two true e a = let d : scale ≡ 2 = search (rules, e) in subst Numbers (sym d) numbers_2
    by_two false e a = by_four (scale == 4) refl a e

    by_one : (t : Bool) → (scale == 1) ≡ t → Numbers scale
    by_one true e = let d : scale ≡ 1 = search (rules, e) in subst Numbers (sym d) numbers_1
    by_one false e = by_two (scale == 2) refl e

pub gathers : (op : IntelOp) (imm : ℕ) → form_of op ≡ gather_form → DoesAsTheRow op imm (gathered_qwords imm)
gathers op imm e vs memory after o a h =
    ap (λ us. sequence_in (gathered_qwords imm) us memory) (ap (λ g. operands (params_of (forms.signature_of g)) vs) e)
    ∙ by_values vs (subst (λ g. Asked g imm vs) e a) (sym (by_form op gather_form e vs memory) ∙ h)
  where
    by_high : (p : Pointer) (index : List ℕ) (n : Num) → IsRegister 16 index → int_le (pos 0) n.value ≡ true → unsigned_abs n.value ≡ imm → is_in_range Scale imm ≡ true
        → (low : List ℕ) → read_from memory p (distance index imm 0) ≡ Some low → (x : Option (List ℕ)) → read_from memory p (distance index imm 1) ≡ x
        → intel_call op p index n memory ≡ Some (o, after) → neon_call p index imm memory ≡ Some (o, after)
    by_high p index n i t u r low j None k g =
        let first = pointed memory p (distance index imm 0) low j in
        let w = whole low first.3 in
        apart _ (o, after) (intel_both op p index n memory imm low None t u r j (le-leb 16 (length (put zeros 0 low)) (omega (arith, w))) k) g
    by_high p index n i t u r low j (Some high) k g =
        let first = pointed memory p (distance index imm 0) low j in
        let second = pointed memory p (distance index imm 1) high k in
        let w = whole low first.3 in
        let all = numbers imm r in
        neon_both p first.0 second.0 index imm memory low high all.1 all.2 all.3
        (stepped_so memory p first.0 (distance_number index imm 0) (distance index imm 0) (all.0 index 0 i (omega arith)) first.1) first.2
        (stepped_so memory p second.0 (distance_number index imm 1) (distance index imm 1) (all.0 index 1 i (omega arith)) second.1) second.2
        ∙ ap (λ q. Some (Some (Value.R16 q), memory)) (same_value (put (put zeros 0 low) 8 high) (put eight_zeros 0 low) (put eight_zeros 0 high)
        (first_put eight_zeros low first.3 ∙ sym (kept_put (put zeros 0 low) high w ∙ first_put zeros low first.3)) (first_put eight_zeros high second.3 ∙ sym (second_put (put zeros 0 low) high w second.3)))
        ∙ sym (intel_both op p index n memory imm low (Some high) t u r j (le-leb 16 (length (put zeros 0 low)) (omega (arith, w))) k)
        ∙ g

    by_low : (p : Pointer) (index : List ℕ) (n : Num) → IsRegister 16 index → int_le (pos 0) n.value ≡ true → unsigned_abs n.value ≡ imm → is_in_range Scale imm ≡ true
        → (x : Option (List ℕ)) → read_from memory p (distance index imm 0) ≡ x → intel_call op p index n memory ≡ Some (o, after) → neon_call p index imm memory ≡ Some (o, after)
    by_low p index n i t u r None k g = apart _ (o, after) (intel_no_low op p index n memory imm t u r k) g
    by_low p index n i t u r (Some low) k g = by_high p index n i t u r low k (read_from memory p (distance index imm 1)) refl g

    by_range : (p : Pointer) (index : List ℕ) (n : Num) → IsRegister 16 index → (t : Bool) → int_le (pos 0) n.value ≡ t → unsigned_abs n.value ≡ imm → (r : Bool) → is_in_range Scale imm ≡ r
        → intel_call op p index n memory ≡ Some (o, after) → neon_call p index imm memory ≡ Some (o, after)
    by_range p index n i false t u r k g = apart _ (o, after) (intel_negative op p index n memory t) g
    by_range p index n i true t u false k g = apart _ (o, after) (intel_out op p index n memory imm t u k) g
    by_range p index n i true t u true k g = by_low p index n i t u k (read_from memory p (distance index imm 0)) refl g

    by_values : (us : List Value) → Asked gather_form imm us → row_result (formed gather_form) op us memory ≡ Some (o, after)
        → sequence_in (gathered_qwords imm) (operands (params_of (forms.signature_of gather_form)) us) memory ≡ Some (o, after)
    by_values (Value.At p ∷ Value.R16 index ∷ Value.Int n ∷ []) b g = by_range p index n b.0.0 (int_le (pos 0) n.value) refl b.1 (is_in_range Scale imm) refl g
    by_values [] b g = apart (row_result (formed gather_form) op [] memory) (o, after) refl g
    by_values (Value.Int n ∷ us) b g = apart (row_result (formed gather_form) op (Value.Int n ∷ us) memory) (o, after) refl g
    by_values (Value.R8 r ∷ us) b g = apart (row_result (formed gather_form) op (Value.R8 r ∷ us) memory) (o, after) refl g
    by_values (Value.R16 r ∷ us) b g = apart (row_result (formed gather_form) op (Value.R16 r ∷ us) memory) (o, after) refl g
    by_values (Value.R32 r ∷ us) b g = apart (row_result (formed gather_form) op (Value.R32 r ∷ us) memory) (o, after) refl g
    by_values (Value.At p ∷ []) b g = apart (row_result (formed gather_form) op (Value.At p ∷ []) memory) (o, after) refl g
    by_values (Value.At p ∷ Value.Int n ∷ us) b g = apart (row_result (formed gather_form) op (Value.At p ∷ Value.Int n ∷ us) memory) (o, after) refl g
    by_values (Value.At p ∷ Value.R8 r ∷ us) b g = apart (row_result (formed gather_form) op (Value.At p ∷ Value.R8 r ∷ us) memory) (o, after) refl g
    by_values (Value.At p ∷ Value.R32 r ∷ us) b g = apart (row_result (formed gather_form) op (Value.At p ∷ Value.R32 r ∷ us) memory) (o, after) refl g
    by_values (Value.At p ∷ Value.At q ∷ us) b g = apart (row_result (formed gather_form) op (Value.At p ∷ Value.At q ∷ us) memory) (o, after) refl g
    by_values (Value.At p ∷ Value.R16 r ∷ []) b g = apart (row_result (formed gather_form) op (Value.At p ∷ Value.R16 r ∷ []) memory) (o, after) refl g
    by_values (Value.At p ∷ Value.R16 r ∷ Value.R8 s ∷ us) b g = apart (row_result (formed gather_form) op (Value.At p ∷ Value.R16 r ∷ Value.R8 s ∷ us) memory) (o, after) refl g
    by_values (Value.At p ∷ Value.R16 r ∷ Value.R16 s ∷ us) b g = apart (row_result (formed gather_form) op (Value.At p ∷ Value.R16 r ∷ Value.R16 s ∷ us) memory) (o, after) refl g
    by_values (Value.At p ∷ Value.R16 r ∷ Value.R32 s ∷ us) b g = apart (row_result (formed gather_form) op (Value.At p ∷ Value.R16 r ∷ Value.R32 s ∷ us) memory) (o, after) refl g
    by_values (Value.At p ∷ Value.R16 r ∷ Value.At q ∷ us) b g = apart (row_result (formed gather_form) op (Value.At p ∷ Value.R16 r ∷ Value.At q ∷ us) memory) (o, after) refl g
    by_values (Value.At p ∷ Value.R16 r ∷ Value.Int n ∷ v ∷ us) b g = more (int_le (pos 0) n.value) refl
      where
        more : (t : Bool) → int_le (pos 0) n.value ≡ t → sequence_in (gathered_qwords imm) (Value.At p ∷ Value.R16 r ∷ v ∷ us) memory ≡ Some (o, after)
        more true t = apart (row_result (formed gather_form) op (Value.At p ∷ Value.R16 r ∷ Value.Int n ∷ v ∷ us) memory) (o, after) (rw t refl) g
        more false t = apart (row_result (formed gather_form) op (Value.At p ∷ Value.R16 r ∷ Value.Int n ∷ v ∷ us) memory) (o, after) (rw t refl) g
