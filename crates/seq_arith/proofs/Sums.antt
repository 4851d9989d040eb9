-- Sums of products and of differences, by sums of adjacent lanes.
use Rattle.std.proofs.Common.{◌≡◌, ℕ, ◌+◌, ◌-◌, ◌*◌, ◌%◌, ◌^◌, ◌<◌, List, refl, ap, sym, ◌∙◌, arith, ℤ, pos, negsuc, ◌+ℤ◌, ◌-ℤ◌, ◌*ℤ◌, inl, inr}
use Rattle.std.specs.Prelude.{Bool, true, false, int_lt, if◌then◌else◌}
use Rattle.std.proofs.lemmas.Bool.{cases_lt}
use Rattle.std.proofs.lemmas.Int.{ints}
use Rattle.std.proofs.Math.Nat.{mod-eq_of_lt}
use Rattle.lane_core.specs.Register.{IsRegister, lane, build, signed, wrapped}
use Rattle.lane_core.specs.Kernels.{map2_of, pairwise_of}
use Rattle.lane_core.proofs.Lanes.{lane-build, build_same, lane_below}
use Rattle.lane_core.specs.declared.vector.NeonLane.TheVariants.{U8, U16, U32, S16, S32}
use Rattle.intel_lanes.specs.Blocks.{multiply_add, sum_differences, sum_below, difference}
use Rattle.neon_elements.specs.declared.elements.Long.TheVariants.{Product}
use Rattle.neon_elements.specs.declared.elements.Binary.TheVariants.{AbsoluteDifference}
use Rattle.neon_elements.specs.Elements.{abs_of}
use Rattle.neon_elements.specs.Vectors.{each2, half, lengthened, lengthened_high, pair_sums, long_pair_sums}
use Rattle.seq_arith.proofs.Wide.{by_halves}

-- ---- sums of products

-- lanes of a sum are the sum of the lanes
mixed : (m n : ℕ) → (m % 256 ^ 4 % 256 ^ 4 + (256 ^ 4 - 1 - n % 256 ^ 4) % 256 ^ 4) % 256 ^ 4 ≡ wrapped 4 (pos m +ℤ negsuc n) % 256 ^ 4
unfolding wrapped
mixed m n = elim (cases_lt n m) [
  | inl b ↦ let e : pos m +ℤ negsuc n ≡ pos (m - (n + 1)) = omega (arith, ints, b) in rw e (omega (arith, b))
  | inr b ↦ let e : pos m +ℤ negsuc n ≡ negsuc (n - m) = omega (arith, ints, b) in rw e (omega (arith, b))
]

sum_of_lanes : (u v : ℤ) → (wrapped 4 u % 256 ^ 4 + wrapped 4 v % 256 ^ 4) % 256 ^ 4 ≡ wrapped 4 (u +ℤ v) % 256 ^ 4
unfolding wrapped
sum_of_lanes (pos m) (pos n) = omega arith
sum_of_lanes (pos m) (negsuc n) = mixed m n
sum_of_lanes (negsuc m) (pos n) =
    let e : negsuc m +ℤ pos n ≡ pos n +ℤ negsuc m = omega (arith, ints) in
    rw e (ap (λ x. x % 256 ^ 4) (omega arith) ∙ mixed n m)
sum_of_lanes (negsuc m) (negsuc n) = omega arith

pub added_products : (a b : List ℕ) → IsRegister 16 a → IsRegister 16 b
    → pair_sums S32 (lengthened Product S16 (half 0 a) (half 0 b)) (lengthened_high Product S16 a b) ≡ multiply_add a b
unfolding pair_sums pairwise_of lengthened lengthened_high half multiply_add
added_products a b h k =
    let p = λ (x y : ℕ). wrapped 4 (signed 2 x *ℤ signed 2 y) in
    let r = build 4 8 (λ i. p (lane 2 a i) (lane 2 b i)) in
    ap (λ s. build 4 4 (λ e. lane 4 s (2 * e) + lane 4 s (2 * e + 1))) (by_halves p a b h k)
    ∙ build_same 4 4 (λ e. lane 4 r (2 * e) + lane 4 r (2 * e + 1))
    (λ e. wrapped 4 (signed 2 (lane 2 a (2 * e)) *ℤ signed 2 (lane 2 b (2 * e)) +ℤ signed 2 (lane 2 a (2 * e + 1)) *ℤ signed 2 (lane 2 b (2 * e + 1))))
    (λ e l.
    ap (λ v. v % 256 ^ 4)
    (ap (λ v. v + lane 4 r (2 * e + 1)) (lane-build 4 8 (λ i. p (lane 2 a i) (lane 2 b i)) (2 * e) (omega (arith, l)))
    ∙ ap (λ v. p (lane 2 a (2 * e)) (lane 2 b (2 * e)) % 256 ^ 4 + v) (lane-build 4 8 (λ i. p (lane 2 a i) (lane 2 b i)) (2 * e + 1) (omega (arith, l))))
    ∙ sum_of_lanes (signed 2 (lane 2 a (2 * e)) *ℤ signed 2 (lane 2 b (2 * e))) (signed 2 (lane 2 a (2 * e + 1)) *ℤ signed 2 (lane 2 b (2 * e + 1))))

-- ---- sums of differences

of_negative : (m : ℕ) → wrapped 1 (abs_of (negsuc m)) ≡ (m + 1) % 256
unfolding wrapped
of_negative m = omega arith

of_positive : (m : ℕ) → wrapped 1 (abs_of (pos m)) ≡ m % 256
unfolding wrapped
of_positive m = go (int_lt (pos m) (pos 0)) refl
  where
    go : (b : Bool) → int_lt (pos m) (pos 0) ≡ b → wrapped 1 (if b then pos 0 -ℤ pos m else pos m) ≡ m % 256
    go true e = absurd (grind (arith, ints, e))
    go false e = refl

pub difference_is : (x y : ℕ) → x < 256 → y < 256 → wrapped 1 (abs_of (pos x -ℤ pos y)) % 256 ≡ difference x y
difference_is x y h k = elim (cases_lt x y) [
  | inl b ↦
      let e : pos x -ℤ pos y ≡ negsuc (y - x - 1) = omega (arith, ints, b) in
      ap (λ (z : ℤ). wrapped 1 (abs_of z) % 256) e ∙ ap (λ v. v % 256) (of_negative (y - x - 1)) ∙ omega (arith, b, h, k)
  | inr b ↦
      let e : pos x -ℤ pos y ≡ pos (x - y) = omega (arith, ints, b) in
      ap (λ (z : ℤ). wrapped 1 (abs_of z) % 256) e ∙ ap (λ v. v % 256) (of_positive (x - y)) ∙ omega (arith, b, h, k)
]

pub difference_below : (x y : ℕ) → x < 256 → y < 256 → difference x y < 256
difference_below x y h k = omega (arith, h, k)

-- one step of a sum of adjacent lanes
pub pair_sum : (w n m : ℕ) (g : ℕ → ℕ) → n ≡ 2 * m → ((j : ℕ) → j < n → g j < 256 ^ w) → ((j : ℕ) → j < m → g (2 * j) + g (2 * j + 1) < 256 ^ (2 * w))
    → build (2 * w) m (λ e. wrapped (2 * w) (pos (lane w (build w n g) (2 * e)) +ℤ pos (lane w (build w n g) (2 * e + 1)))) ≡ build (2 * w) m (λ e. g (2 * e) + g (2 * e + 1))
unfolding wrapped
pair_sum w n m g s small fits =
    let r = build w n g in
    build_same (2 * w) m (λ e. (lane w r (2 * e) + lane w r (2 * e + 1)) % 256 ^ (2 * w)) (λ e. g (2 * e) + g (2 * e + 1))
    (λ e l.
    let i : 2 * e < n = omega (arith, s, l) in
    let j : 2 * e + 1 < n = omega (arith, s, l) in
    ap (λ v. v % 256 ^ (2 * w))
    (ap (λ v. v % 256 ^ (2 * w))
    (ap (λ v. v + lane w r (2 * e + 1)) (lane-build w n g (2 * e) i ∙ mod-eq_of_lt (small (2 * e) i))
    ∙ ap (λ v. g (2 * e) + v) (lane-build w n g (2 * e + 1) j ∙ mod-eq_of_lt (small (2 * e + 1) j)))
    ∙ mod-eq_of_lt (fits e l)))

-- the terms of a sum of eight, in pairs
eight_terms : (d : ℕ → ℕ) (k : ℕ) →
    ((d (2 * (2 * (2 * k))) + d (2 * (2 * (2 * k)) + 1)) + (d (2 * (2 * (2 * k) + 1)) + d (2 * (2 * (2 * k) + 1) + 1)))
    + ((d (2 * (2 * (2 * k + 1))) + d (2 * (2 * (2 * k + 1)) + 1)) + (d (2 * (2 * (2 * k + 1) + 1)) + d (2 * (2 * (2 * k + 1) + 1) + 1)))
    ≡ sum_below 8 (λ j. d (8 * k + j))
eight_terms d k =
    let e0 : d (2 * (2 * (2 * k))) ≡ d (8 * k + 0) = ap d (omega arith) in
    let e1 : d (2 * (2 * (2 * k)) + 1) ≡ d (8 * k + 1) = ap d (omega arith) in
    let e2 : d (2 * (2 * (2 * k) + 1)) ≡ d (8 * k + 2) = ap d (omega arith) in
    let e3 : d (2 * (2 * (2 * k) + 1) + 1) ≡ d (8 * k + 3) = ap d (omega arith) in
    let e4 : d (2 * (2 * (2 * k + 1))) ≡ d (8 * k + 4) = ap d (omega arith) in
    let e5 : d (2 * (2 * (2 * k + 1)) + 1) ≡ d (8 * k + 5) = ap d (omega arith) in
    let e6 : d (2 * (2 * (2 * k + 1) + 1)) ≡ d (8 * k + 6) = ap d (omega arith) in
    let e7 : d (2 * (2 * (2 * k + 1) + 1) + 1) ≡ d (8 * k + 7) = ap d (omega arith) in
    omega arith

pub differences : (a b : List ℕ) → IsRegister 16 a → IsRegister 16 b
    → long_pair_sums U32 (long_pair_sums U16 (long_pair_sums U8 (each2 AbsoluteDifference U8 a b))) ≡ sum_differences a b
unfolding long_pair_sums each2 map2_of sum_differences
differences a b h k =
    let d = λ (i : ℕ). difference (lane 1 a i) (lane 1 b i) in
    let small : (i : ℕ) → d i < 256 = λ i. difference_below (lane 1 a i) (lane 1 b i) (lane_below 1 a i h.bytes) (lane_below 1 b i k.bytes) in
    let d2 = λ (i : ℕ). d (2 * i) + d (2 * i + 1) in
    let d4 = λ (i : ℕ). d2 (2 * i) + d2 (2 * i + 1) in
    let small2 : (i : ℕ) → d2 i < 512 = λ i. omega (arith, small (2 * i), small (2 * i + 1)) in
    let small4 : (i : ℕ) → d4 i < 1024 = λ i. omega (arith, small2 (2 * i), small2 (2 * i + 1)) in
    let sums = λ (w m : ℕ) (r : List ℕ). build (2 * w) m (λ e. wrapped (2 * w) (pos (lane w r (2 * e)) +ℤ pos (lane w r (2 * e + 1)))) in
    ap (λ r. sums 4 2 (sums 2 4 (sums 1 8 r)))
    (build_same 1 16 (λ i. wrapped 1 (abs_of (pos (lane 1 a i) -ℤ pos (lane 1 b i)))) d
    (λ i l. difference_is (lane 1 a i) (lane 1 b i) (lane_below 1 a i h.bytes) (lane_below 1 b i k.bytes) ∙ sym (mod-eq_of_lt (small i))))
    ∙ ap (λ r. sums 4 2 (sums 2 4 r)) (pair_sum 1 16 8 d refl (λ j l. small j) (λ j l. omega (arith, small2 j)))
    ∙ ap (sums 4 2) (pair_sum 2 8 4 d2 refl (λ j l. omega (arith, small2 j)) (λ j l. omega (arith, small4 j)))
    ∙ pair_sum 4 4 2 d4 refl (λ j l. omega (arith, small4 j)) (λ j l. omega (arith, small4 (2 * j), small4 (2 * j + 1)))
    ∙ build_same 8 2 (λ e. d4 (2 * e) + d4 (2 * e + 1)) (λ e. sum_below 8 (λ j. d (8 * e + j))) (λ e l. ap (λ x. x % 256 ^ 8) (eight_terms d e))
