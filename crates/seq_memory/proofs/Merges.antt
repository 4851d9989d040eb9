-- What gathers do of the qwords that a mask chooses, by dwords.
use Rattle.std.proofs.Common.{◌≡◌, ℕ, zero, suc, ◌%◌, ◌^◌, ◌<◌, ◌==◌, List, [], ◌∷◌, Bool, true, false, Option, Some, None, refl, sym, ap, subst, ◌∙◌, arith, pos, length}
use Rattle.std.proofs.lemmas.Bool.{le-leb}
use Rattle.std.proofs.Math.Nat.{mod-eq_of_lt}
use Rattle.std.specs.Prelude.{nat_le, nat_lt, int_le, unsigned_abs, if◌then◌else◌}
use Rattle.lane_core.specs.declared.number.IntType.TheVariants as int
use Rattle.lane_core.specs.declared.number.Num.{Num}
use Rattle.lane_core.specs.declared.table.ImmRange.TheVariants.{Scale}
use Rattle.lane_core.specs.Table.{params_of}
use Rattle.lane_core.specs.Register.{IsRegister, lane}
use Rattle.lane_core.proofs.Lanes.{lane-build, build_same, lane_below}
use Rattle.scalar_core.specs.Numbers.{num_of}
use Rattle.neon_elements.specs.Vectors.{half}
use Rattle.const_imm.specs.Constant.{is_true}
use Rattle.c_memory.specs.declared.blocks.Block.{Block}
use Rattle.c_memory.specs.declared.memory.Pointer.{Pointer}
use Rattle.c_memory.specs.declared.value.Value.{Value}
use Rattle.c_memory.specs.MeaningValues.{moved, stepped}
use Rattle.c_memory.specs.MeaningRows.{row_result, is_in_range, put}
use Rattle.intel_forms.specs.Memory.{is_chosen, merged}
use Rattle.intel_forms.specs.declared.forms.Form.{Form}
use Rattle.intel_forms.specs.declared.forms.Form.TheVariants as form
use Rattle.intel_forms.specs.declared.memory.Indexing.TheVariants.{QwordsByDwords}
use Rattle.intel_forms.specs.declared.memory.Memory.TheVariants as row
use Rattle.intel_forms.specs.declared.sizes.Size.TheVariants.{Xmm}
use Rattle.intel_forms.specs.Forms as forms
use Rattle.intel_table.specs.declared.IntelOp.{IntelOp}
use Rattle.intel_table.specs.Rows.{form_of}
use Rattle.neon_elements.specs.Vectors.{combined}
use Rattle.seq_core.specs.Actions.{sequence_in}
use Rattle.seq_memory.specs.Plans.{power_of, merged_qwords}
use Rattle.seq_memory.specs.Claims.{Asked, operands, DoesAsTheRow}
use Rattle.seq_memory.proofs.Moves.{formed, by_form, apart}
use Rattle.seq_memory.proofs.Halves.{low_read, given_by}
use Rattle.seq_memory.proofs.Gathers.{distance, distance_number, stepped_so, numbers}
use Rattle.seq_memory.proofs.Masks.{bit_number, same_choice, read_from, pointed, gave, c63, zeros, eight_zeros, whole, first_put, second_put, kept_put, c0, c1}

abbrev pub merging_form : Form
merging_form = form.Memory (row.MaskGather Xmm QwordsByDwords)

abbrev intel_call : IntelOp → List ℕ → Pointer → List ℕ → List ℕ → Num → List Block → Option (Option Value × List Block)
intel_call op src p index mask n memory = row_result (formed merging_form) op (Value.R16 src ∷ Value.At p ∷ Value.R16 index ∷ Value.R16 mask ∷ Value.Int n ∷ []) memory

abbrev neon_call : List ℕ → Pointer → List ℕ → List ℕ → ℕ → List Block → Option (Option Value × List Block)
neon_call src p index mask scale memory = sequence_in (merged_qwords scale) (Value.R16 src ∷ Value.At p ∷ Value.R16 index ∷ Value.R16 mask ∷ []) memory

intel_negative : (op : IntelOp) (src : List ℕ) (p : Pointer) (index mask : List ℕ) (n : Num) (memory : List Block) → int_le (pos 0) n.value ≡ false → intel_call op src p index mask n memory ≡ None
intel_negative op src p index mask n memory t = rw t refl

intel_out : (op : IntelOp) (src : List ℕ) (p : Pointer) (index mask : List ℕ) (n : Num) (memory : List Block) (s : ℕ) → int_le (pos 0) n.value ≡ true → unsigned_abs n.value ≡ s → is_in_range Scale s ≡ false
    → intel_call op src p index mask n memory ≡ None
intel_out op src p index mask n memory s t u r = rw (t, u, r) refl

-- a call whose constant is a scale
abbrev IsScaled : Num → ℕ → Type 0
IsScaled n s = (int_le (pos 0) n.value ≡ true) × (unsigned_abs n.value ≡ s) × (is_in_range Scale s ≡ true)

intel_none : (op : IntelOp) (src : List ℕ) (p : Pointer) (index mask : List ℕ) (n : Num) (memory : List Block) (s : ℕ) → IsScaled n s → is_chosen 8 mask 0 ≡ false → is_chosen 8 mask 1 ≡ false
    → intel_call op src p index mask n memory ≡ gave (merged 8 16 2 mask zeros src) memory
intel_none op src p index mask n memory s i c d = rw (i.0, i.1, i.2, c, d) refl

intel_low : (op : IntelOp) (src : List ℕ) (p : Pointer) (index mask : List ℕ) (n : Num) (memory : List Block) (s : ℕ) (x : Option (List ℕ)) → IsScaled n s → is_chosen 8 mask 0 ≡ true → is_chosen 8 mask 1 ≡ false
    → read_from memory p (distance index s 0) ≡ x → intel_call op src p index mask n memory ≡ given_by (λ bytes. merged 8 16 2 mask (put zeros 0 bytes) src) memory x
intel_low op src p index mask n memory s None i c d h = rw (i.0, i.1, i.2, c, d, h) refl
intel_low op src p index mask n memory s (Some bytes) i c d h = rw (i.0, i.1, i.2, c, d, h) refl

intel_high : (op : IntelOp) (src : List ℕ) (p : Pointer) (index mask : List ℕ) (n : Num) (memory : List Block) (s : ℕ) (x : Option (List ℕ)) → IsScaled n s → is_chosen 8 mask 0 ≡ false → is_chosen 8 mask 1 ≡ true
    → read_from memory p (distance index s 1) ≡ x → intel_call op src p index mask n memory ≡ given_by (λ bytes. merged 8 16 2 mask (put zeros 8 bytes) src) memory x
intel_high op src p index mask n memory s None i c d h = rw (i.0, i.1, i.2, c, d, h) refl
intel_high op src p index mask n memory s (Some bytes) i c d h = rw (i.0, i.1, i.2, c, d, h) refl

intel_no_low : (op : IntelOp) (src : List ℕ) (p : Pointer) (index mask : List ℕ) (n : Num) (memory : List Block) (s : ℕ) → IsScaled n s → is_chosen 8 mask 0 ≡ true → is_chosen 8 mask 1 ≡ true
    → read_from memory p (distance index s 0) ≡ None → intel_call op src p index mask n memory ≡ None
intel_no_low op src p index mask n memory s i c d h = rw (i.0, i.1, i.2, c, d, h) refl

intel_both : (op : IntelOp) (src : List ℕ) (p : Pointer) (index mask : List ℕ) (n : Num) (memory : List Block) (s : ℕ) (low : List ℕ) (x : Option (List ℕ)) → IsScaled n s
    → is_chosen 8 mask 0 ≡ true → is_chosen 8 mask 1 ≡ true → read_from memory p (distance index s 0) ≡ Some low → nat_le 16 (length (put zeros 0 low)) ≡ true → read_from memory p (distance index s 1) ≡ x
    → intel_call op src p index mask n memory ≡ given_by (λ bytes. merged 8 16 2 mask (put (put zeros 0 low) 8 bytes) src) memory x
intel_both op src p index mask n memory s low None i c d h l k = rw (i.0, i.1, i.2, c, d, h, l, k) refl
intel_both op src p index mask n memory s low (Some bytes) i c d h l k = rw (i.0, i.1, i.2, c, d, h, l, k) refl

-- a scale's power is a constant in range
abbrev IsConstant : ℕ → Type 0
IsConstant j = ((num_of int.Int (pos j)).value ≡ pos j) × (nat_le 0 j ≡ true) × (nat_le j 63 ≡ true)

-- the pointer moved by a distance, and what is read there
abbrev Reads : List Block → Pointer → Pointer → Num → List ℕ → Type 0
Reads memory p q n bytes = (stepped memory p (Some 1) n.value ≡ Some (Value.At q)) × (low_read memory q ≡ Some bytes)

neon_none : (src : List ℕ) (p : Pointer) (index mask : List ℕ) (s : ℕ) (memory : List Block) → IsConstant (power_of s) → is_true (bit_number mask 0) ≡ false → is_true (bit_number mask 1) ≡ false
    → neon_call src p index mask s memory ≡ gave (combined (half 0 src) (half 1 src)) memory
neon_none src p index mask s memory k c d = rw (k.0, k.1, k.2, c63, c0, c, c1, d) refl

neon_low : (src : List ℕ) (p q : Pointer) (index mask : List ℕ) (s : ℕ) (memory : List Block) (bytes : List ℕ) → IsConstant (power_of s) → is_true (bit_number mask 0) ≡ true → is_true (bit_number mask 1) ≡ false
    → Reads memory p q (distance_number index s 0) bytes → neon_call src p index mask s memory ≡ gave (combined (put eight_zeros 0 bytes) (half 1 src)) memory
neon_low src p q index mask s memory bytes k c d r = rw (k.0, k.1, k.2, c63, c0, c, c0, r.0, r.1, c1, d) refl

neon_high : (src : List ℕ) (p q : Pointer) (index mask : List ℕ) (s : ℕ) (memory : List Block) (bytes : List ℕ) → IsConstant (power_of s) → is_true (bit_number mask 0) ≡ false → is_true (bit_number mask 1) ≡ true
    → Reads memory p q (distance_number index s 1) bytes → neon_call src p index mask s memory ≡ gave (combined (half 0 src) (put eight_zeros 0 bytes)) memory
neon_high src p q index mask s memory bytes k c d r = rw (k.0, k.1, k.2, c63, c0, c, c1, d, c1, r.0, r.1) refl

neon_both : (src : List ℕ) (p q t : Pointer) (index mask : List ℕ) (s : ℕ) (memory : List Block) (low high : List ℕ) → IsConstant (power_of s) → is_true (bit_number mask 0) ≡ true → is_true (bit_number mask 1) ≡ true
    → Reads memory p q (distance_number index s 0) low → Reads memory p t (distance_number index s 1) high
    → neon_call src p index mask s memory ≡ gave (combined (put eight_zeros 0 low) (put eight_zeros 0 high)) memory
neon_both src p q t index mask s memory low high k c d r u = rw (k.0, k.1, k.2, c63, c0, c, c0, r.0, r.1, c1, d, c1, u.0, u.1) refl

half_lane : (src : List ℕ) (part : ℕ) → IsRegister 16 src → lane 8 (half part src) 0 ≡ lane 8 src part
unfolding half
half_lane src part h = lane-build 8 1 (λ e. lane 8 src part) 0 (omega arith) ∙ mod-eq_of_lt (lane_below 8 src part h.bytes)

same_value : (mask read src lo hi : List ℕ) (t u : Bool) → is_chosen 8 mask 0 ≡ t → is_chosen 8 mask 1 ≡ u
    → lane 8 lo 0 ≡ (if t then lane 8 read 0 else lane 8 src 0) → lane 8 hi 0 ≡ (if u then lane 8 read 1 else lane 8 src 1) → combined lo hi ≡ merged 8 16 2 mask read src
unfolding combined merged
same_value mask read src lo hi t u c d e f =
    build_same 8 2 (λ i. if i == 0 then lane 8 lo 0 else lane 8 hi 0) (λ k. if nat_lt k 2 then (if is_chosen 8 mask k then lane 8 read k else lane 8 src k) else 0) each
  where
    each : (i : ℕ) → i < 2 → (if i == 0 then lane 8 lo 0 else lane 8 hi 0) % 256 ^ 8
        ≡ (if nat_lt i 2 then (if is_chosen 8 mask i then lane 8 read i else lane 8 src i) else 0) % 256 ^ 8
    each zero l = ap (λ v. v % 256 ^ 8) (e ∙ ap (λ b. if b then lane 8 read 0 else lane 8 src 0) (sym c))
    each (suc zero) l = ap (λ v. v % 256 ^ 8) (f ∙ ap (λ b. if b then lane 8 read 1 else lane 8 src 1) (sym d))
    each (suc (suc n)) l = absurd (omega (arith, l))

pub merges : (op : IntelOp) (imm : ℕ) → form_of op ≡ merging_form → DoesAsTheRow op imm (merged_qwords imm)
merges op imm e vs memory after o a h =
    ap (λ us. sequence_in (merged_qwords imm) us memory) (ap (λ g. operands (params_of (forms.signature_of g)) vs) e)
    ∙ by_values vs (subst (λ g. Asked g imm vs) e a) (sym (by_form op merging_form e vs memory) ∙ h)
  where
    constants : is_in_range Scale imm ≡ true → IsConstant (power_of imm)
    constants r = let all = numbers imm r in (all.1, all.2, all.3)

    reads : (p q : Pointer) (index : List ℕ) (k : ℕ) (bytes : List ℕ) → IsRegister 16 index → k < 2 → is_in_range Scale imm ≡ true → moved memory p (distance index imm k) ≡ Some q → low_read memory q ≡ Some bytes
        → Reads memory p q (distance_number index imm k) bytes
    reads p q index k bytes i l r m b = let all = numbers imm r in (stepped_so memory p q (distance_number index imm k) (distance index imm k) (all.0 index k i l) m, b)

    by_choice : (src : List ℕ) (p : Pointer) (index mask : List ℕ) (n : Num) → IsRegister 16 src → IsRegister 16 index → IsRegister 16 mask → IsScaled n imm → (t u : Bool) → is_chosen 8 mask 0 ≡ t → is_chosen 8 mask 1 ≡ u
        → intel_call op src p index mask n memory ≡ Some (o, after) → neon_call src p index mask imm memory ≡ Some (o, after)
    by_choice src p index mask n x i m s false false c d g =
        neon_none src p index mask imm memory (constants s.2) (same_choice mask 0 m (omega arith) ∙ c) (same_choice mask 1 m (omega arith) ∙ d)
        ∙ ap (λ r. gave r memory) (same_value mask zeros src (half 0 src) (half 1 src) false false c d (half_lane src 0 x) (half_lane src 1 x))
        ∙ sym (intel_none op src p index mask n memory imm s c d)
        ∙ g
    by_choice src p index mask n x i m s true false c d g = low_alone (read_from memory p (distance index imm 0)) refl
      where
        low_alone : (y : Option (List ℕ)) → read_from memory p (distance index imm 0) ≡ y → neon_call src p index mask imm memory ≡ Some (o, after)
        low_alone None k = apart _ (o, after) (intel_low op src p index mask n memory imm None s c d k) g
        low_alone (Some bytes) k =
            let at = pointed memory p (distance index imm 0) bytes k in
            neon_low src p at.0 index mask imm memory bytes (constants s.2) (same_choice mask 0 m (omega arith) ∙ c) (same_choice mask 1 m (omega arith) ∙ d)
            (reads p at.0 index 0 bytes i (omega arith) s.2 at.1 at.2)
            ∙ ap (λ r. gave r memory) (same_value mask (put zeros 0 bytes) src (put eight_zeros 0 bytes) (half 1 src) true false c d (first_put eight_zeros bytes at.3 ∙ sym (first_put zeros bytes at.3)) (half_lane src 1 x))
            ∙ sym (intel_low op src p index mask n memory imm (Some bytes) s c d k)
            ∙ g
    by_choice src p index mask n x i m s false true c d g = high_alone (read_from memory p (distance index imm 1)) refl
      where
        high_alone : (y : Option (List ℕ)) → read_from memory p (distance index imm 1) ≡ y → neon_call src p index mask imm memory ≡ Some (o, after)
        high_alone None k = apart _ (o, after) (intel_high op src p index mask n memory imm None s c d k) g
        high_alone (Some bytes) k =
            let at = pointed memory p (distance index imm 1) bytes k in
            neon_high src p at.0 index mask imm memory bytes (constants s.2) (same_choice mask 0 m (omega arith) ∙ c) (same_choice mask 1 m (omega arith) ∙ d)
            (reads p at.0 index 1 bytes i (omega arith) s.2 at.1 at.2)
            ∙ ap (λ r. gave r memory) (same_value mask (put zeros 8 bytes) src (half 0 src) (put eight_zeros 0 bytes) false true c d (half_lane src 0 x) (first_put eight_zeros bytes at.3 ∙ sym (second_put zeros bytes refl at.3)))
            ∙ sym (intel_high op src p index mask n memory imm (Some bytes) s c d k)
            ∙ g
    by_choice src p index mask n x i m s true true c d g = both (read_from memory p (distance index imm 0)) refl
      where
        then_high : (low : List ℕ) → read_from memory p (distance index imm 0) ≡ Some low → (y : Option (List ℕ)) → read_from memory p (distance index imm 1) ≡ y → neon_call src p index mask imm memory ≡ Some (o, after)
        then_high low j None k =
            let first = pointed memory p (distance index imm 0) low j in
            let w = whole low first.3 in
            apart _ (o, after) (intel_both op src p index mask n memory imm low None s c d j (le-leb 16 (length (put zeros 0 low)) (omega (arith, w))) k) g
        then_high low j (Some high) k =
            let first = pointed memory p (distance index imm 0) low j in
            let second = pointed memory p (distance index imm 1) high k in
            let w = whole low first.3 in
            neon_both src p first.0 second.0 index mask imm memory low high (constants s.2) (same_choice mask 0 m (omega arith) ∙ c) (same_choice mask 1 m (omega arith) ∙ d)
            (reads p first.0 index 0 low i (omega arith) s.2 first.1 first.2) (reads p second.0 index 1 high i (omega arith) s.2 second.1 second.2)
            ∙ ap (λ r. gave r memory) (same_value mask (put (put zeros 0 low) 8 high) src (put eight_zeros 0 low) (put eight_zeros 0 high) true true c d
            (first_put eight_zeros low first.3 ∙ sym (kept_put (put zeros 0 low) high w ∙ first_put zeros low first.3)) (first_put eight_zeros high second.3 ∙ sym (second_put (put zeros 0 low) high w second.3)))
            ∙ sym (intel_both op src p index mask n memory imm low (Some high) s c d j (le-leb 16 (length (put zeros 0 low)) (omega (arith, w))) k)
            ∙ g

        both : (y : Option (List ℕ)) → read_from memory p (distance index imm 0) ≡ y → neon_call src p index mask imm memory ≡ Some (o, after)
        both None k = apart _ (o, after) (intel_no_low op src p index mask n memory imm s c d k) g
        both (Some low) k = then_high low k (read_from memory p (distance index imm 1)) refl

    by_range : (src : List ℕ) (p : Pointer) (index mask : List ℕ) (n : Num) → IsRegister 16 src → IsRegister 16 index → IsRegister 16 mask → (t : Bool) → int_le (pos 0) n.value ≡ t → unsigned_abs n.value ≡ imm
        → (r : Bool) → is_in_range Scale imm ≡ r → intel_call op src p index mask n memory ≡ Some (o, after) → neon_call src p index mask imm memory ≡ Some (o, after)
    by_range src p index mask n x i m false t u r k g = apart _ (o, after) (intel_negative op src p index mask n memory t) g
    by_range src p index mask n x i m true t u false k g = apart _ (o, after) (intel_out op src p index mask n memory imm t u k) g
    by_range src p index mask n x i m true t u true k g = by_choice src p index mask n x i m (t, u, k) (is_chosen 8 mask 0) (is_chosen 8 mask 1) refl refl g

    by_values : (us : List Value) → Asked merging_form imm us → row_result (formed merging_form) op us memory ≡ Some (o, after)
        → sequence_in (merged_qwords imm) (operands (params_of (forms.signature_of merging_form)) us) memory ≡ Some (o, after)
    by_values (Value.R16 src ∷ Value.At p ∷ Value.R16 index ∷ Value.R16 mask ∷ Value.Int n ∷ []) b g =
        by_range src p index mask n b.0.0 b.0.1.0 b.0.1.1.0 (int_le (pos 0) n.value) refl b.1 (is_in_range Scale imm) refl g
    by_values us b g = absurd (grind (arith, g))
