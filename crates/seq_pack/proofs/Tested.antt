-- Tests of whole vectors.
use Rattle.std.proofs.Common.{◌≡◌, ℕ, zero, suc, ◌+◌, ◌-◌, ◌*◌, ◌^◌, ◌<◌, max, List, Bool, true, false, ◌&&◌, not, Some, refl, ap, sym, ◌∙◌, subst, arith, rules, pos}
use Rattle.std.specs.Prelude.{◌==◌, int_lt, bit_and, if◌then◌else◌}
use Rattle.std.specs.Ordering.{int_eq}
use Rattle.std.specs.Int.Bits.{and_comm}
use Rattle.std.proofs.lemmas.Bool.Decides.{nat_tests}
use Rattle.std.proofs.lemmas.Int.{ints}
use Rattle.std.proofs.lemmas.Nat.{and_le_l}
use Rattle.std.proofs.Math.Nat.{mod-eq_of_lt}
use Rattle.lane_core.specs.declared.number.IntType.TheVariants as int
use Rattle.lane_core.specs.declared.number.BinOp.TheVariants.{Eq, Ne, BitAnd}
use Rattle.lane_core.specs.declared.number.Num.{Num}
use Rattle.lane_core.specs.IntRange.{InRange}
use Rattle.lane_core.specs.Register as register
use Rattle.lane_core.specs.Register.{IsRegister, lane, build}
use Rattle.lane_core.proofs.Lanes.{lane_below}
use Rattle.lane_core.proofs.Laws.{lane-map2, lane_split}
use Rattle.lane_core.specs.declared.vector.NeonLane.TheVariants.{U32, U64}
use Rattle.scalar_core.specs.TwosComplement.{bits_of, value_of_bits, wrapped}
use Rattle.scalar_core.specs.Numbers.{num_of, converted}
use Rattle.scalar_core.specs.NumberLaws.{num_of_in_range}
use Rattle.scalar_core.specs.Ranks.{promoted, common_of}
use Rattle.scalar_core.specs.Operators.{binary_of, operate, truth}
use Rattle.intel_forms.specs.Scalars.{all_below, is_disjoint, is_within, bit}
use Rattle.neon_elements.specs.declared.elements.Binary.TheVariants.{And, Bic, Max}
use Rattle.neon_elements.specs.declared.vectors.Across.TheVariants.{Greatest}
use Rattle.neon_elements.specs.Elements.{reduce_by}
use Rattle.neon_elements.specs.Vectors.{each2, reduced}
use Rattle.seq_pack.proofs.Numbers.{converted_small, int_small}

-- ---- the greatest dword

max_is : (x y : ℕ) → (if int_lt (pos x) (pos y) then y else x) ≡ max x y
max_is x y = grind (arith, nat_tests)

greatest_is : (f : ℕ → ℕ) → reduce_by Max U32 f 3 ≡ max (max (max (f 0) (f 1)) (f 2)) (f 3)
greatest_is f =
    max_is (reduce_by Max U32 f 2) (f 3) ∙ ap (λ m. max m (f 3)) (max_is (reduce_by Max U32 f 1) (f 2) ∙ ap (λ m. max m (f 2)) (max_is (f 0) (f 1)))

none_is : (w x y z : ℕ) → (max (max (max w x) y) z == 0) ≡ ((true && (w + 256 ^ 4 * x == 0)) && (y + 256 ^ 4 * z == 0))
none_is w x y z = grind (arith, nat_tests)

greatest_none : (r : List ℕ) → (reduce_by Max U32 (lane 4 r) 3 == 0) ≡ all_below 2 (λ k. lane 8 r k == 0)
greatest_none r =
    ap (λ m. m == 0) (greatest_is (lane 4 r)) ∙ none_is (lane 4 r 0) (lane 4 r 1) (lane 4 r 2) (lane 4 r 3)
    ∙ ap (λ v. (true && (v == 0)) && (lane 4 r 2 + 256 ^ 4 * lane 4 r 3 == 0)) (sym (lane_split 4 r 0))
    ∙ ap (λ v. (true && (lane 8 r 0 == 0)) && (v == 0)) (sym (lane_split 4 r 1))

greatest_below : (r : List ℕ) → IsRegister 16 r → reduce_by Max U32 (lane 4 r) 3 < 256 ^ 4
greatest_below r h =
    subst (λ m. m < 256 ^ 4) (sym (greatest_is (lane 4 r)))
    (let a = lane_below 4 r 0 h.bytes in let b = lane_below 4 r 1 h.bytes in let c = lane_below 4 r 2 h.bytes in let d = lane_below 4 r 3 h.bytes in omega (arith, a, b, c, d))

-- as a row gives it
pub reduced_is : (r : List ℕ) → IsRegister 16 r → reduced Greatest U32 16 r ≡ reduce_by Max U32 (lane 4 r) 3
unfolding reduced register.wrapped
reduced_is r h = let b = greatest_below r h in mod-eq_of_lt (omega (arith, b))

pub reduced_below : (r : List ℕ) → IsRegister 16 r → reduced Greatest U32 16 r < 256 ^ 4
reduced_below r h = subst (λ m. m < 256 ^ 4) (sym (reduced_is r h)) (greatest_below r h)

-- ---- the bits in common, and those left over

both_below : (p q : ℕ → Bool) → p 0 ≡ q 0 → p 1 ≡ q 1 → all_below 2 p ≡ all_below 2 q
both_below p q e f = ap (λ b. (true && b) && p 1) e ∙ ap (λ b. (true && q 0) && b) f

common_at : (a b : List ℕ) (k : ℕ) → IsRegister 16 a → k < 2 → lane 8 (each2 And U64 a b) k ≡ bit_and (lane 8 a k) (lane 8 b k)
unfolding each2
common_at a b k h l =
    let u = lane_below 8 a k h.bytes in
    let v = and_le_l (lane 8 a k) (lane 8 b k) in
    lane-map2 8 16 bit_and a b k l ∙ mod-eq_of_lt (omega (arith, u, v))

pub no_common : (a b : List ℕ) → IsRegister 16 a → IsRegister 16 (each2 And U64 a b) → (reduced Greatest U32 16 (each2 And U64 a b) == 0) ≡ is_disjoint 16 a b
unfolding is_disjoint
no_common a b h r =
    ap (λ m. m == 0) (reduced_is (each2 And U64 a b) r) ∙ greatest_none (each2 And U64 a b)
    ∙ both_below (λ k. lane 8 (each2 And U64 a b) k == 0) (λ k. bit_and (lane 8 a k) (lane 8 b k) == 0) (ap (λ v. v == 0) (common_at a b 0 h (omega arith))) (ap (λ v. v == 0) (common_at a b 1 h (omega arith)))

left_at : (a b : List ℕ) (k : ℕ) → IsRegister 16 b → k < 2 → lane 8 (each2 Bic U64 b a) k ≡ bit_and (256 ^ 8 - 1 - lane 8 a k) (lane 8 b k)
unfolding each2
left_at a b k h l =
    let u = lane_below 8 b k h.bytes in
    let v = and_le_l (lane 8 b k) (256 ^ 8 - 1 - lane 8 a k) in
    lane-map2 8 16 (λ x y. bit_and x (256 ^ 8 - 1 - y)) b a k l ∙ mod-eq_of_lt (omega (arith, u, v)) ∙ and_comm (lane 8 b k) (256 ^ 8 - 1 - lane 8 a k)

pub none_left : (a b : List ℕ) → IsRegister 16 b → IsRegister 16 (each2 Bic U64 b a) → (reduced Greatest U32 16 (each2 Bic U64 b a) == 0) ≡ is_within 16 a b
unfolding is_within
none_left a b h r =
    ap (λ m. m == 0) (reduced_is (each2 Bic U64 b a) r) ∙ greatest_none (each2 Bic U64 b a)
    ∙ both_below (λ k. lane 8 (each2 Bic U64 b a) k == 0) (λ k. bit_and (256 ^ 8 - 1 - lane 8 a k) (lane 8 b k) == 0) (ap (λ v. v == 0) (left_at a b 0 h (omega arith))) (ap (λ v. v == 0) (left_at a b 1 h (omega arith)))

-- ---- comparisons with 0, as C has them

uint_in_range : (n : ℕ) → n < 256 ^ 4 → InRange int.UInt (pos n)
uint_in_range n h = (omega (arith, ints), omega (arith, ints, h))

int_none : (m : ℕ) → int_eq (pos m) (pos 0) ≡ (m == 0)
int_none zero = refl
int_none (suc n) = search rules

pub equal_none : (m : ℕ) → m < 256 ^ 4 → binary_of Eq (num_of int.UInt (pos m)) (num_of int.UInt (pos 0)) ≡ Some (truth (m == 0))
unfolding binary_of operate promoted common_of num_of converted
equal_none m h =
    ap (λ (x : Num). operate Eq x (converted int.UInt (num_of int.UInt (pos 0)))) (converted_small int.UInt int.UInt (pos m) (uint_in_range m h) (uint_in_range m h))
    ∙ ap (λ (x : Num). operate Eq (num_of int.UInt (pos m)) x) (converted_small int.UInt int.UInt (pos 0) (uint_in_range 0 (omega arith)) (uint_in_range 0 (omega arith)))
    ∙ ap (λ z. Some (truth (int_eq z (num_of int.UInt (pos 0)).value))) (num_of_in_range int.UInt (pos m) (uint_in_range m h))
    ∙ ap (λ z. Some (truth (int_eq (pos m) z))) (num_of_in_range int.UInt (pos 0) (uint_in_range 0 (omega arith)))
    ∙ ap (λ b. Some (truth b)) (int_none m)

pub unequal_none : (m : ℕ) → m < 256 ^ 4 → binary_of Ne (num_of int.UInt (pos m)) (num_of int.UInt (pos 0)) ≡ Some (truth (not (m == 0)))
unfolding binary_of operate promoted common_of num_of converted
unequal_none m h =
    ap (λ (x : Num). operate Ne x (converted int.UInt (num_of int.UInt (pos 0)))) (converted_small int.UInt int.UInt (pos m) (uint_in_range m h) (uint_in_range m h))
    ∙ ap (λ (x : Num). operate Ne (num_of int.UInt (pos m)) x) (converted_small int.UInt int.UInt (pos 0) (uint_in_range 0 (omega arith)) (uint_in_range 0 (omega arith)))
    ∙ ap (λ z. Some (truth (not (int_eq z (num_of int.UInt (pos 0)).value)))) (num_of_in_range int.UInt (pos m) (uint_in_range m h))
    ∙ ap (λ z. Some (truth (not (int_eq (pos m) z)))) (num_of_in_range int.UInt (pos 0) (uint_in_range 0 (omega arith)))
    ∙ ap (λ b. Some (truth (not b))) (int_none m)

pub both_truths : (p q : Bool) → binary_of BitAnd (truth p) (truth q) ≡ Some (truth (p && q))
unfolding binary_of operate promoted common_of num_of converted truth wrapped value_of_bits bits_of
both_truths true true = refl
both_truths true false = refl
both_truths false true = refl
both_truths false false = refl

pub truth_given : (b : Bool) → bits_of int.ULong (truth b).value ≡ bit b
unfolding truth
truth_given true = int_small 1 (omega arith)
truth_given false = int_small 0 (omega arith)
