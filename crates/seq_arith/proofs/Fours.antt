-- Sums of four differences, by a table of places.
use Rattle.std.proofs.Common.{◌≡◌, ℕ, ◌+◌, ◌*◌, ◌/◌, ◌%◌, ◌^◌, ◌<◌, ◌≤◌, List, ◌++◌, true, refl, ap, sym, ◌∙◌, arith, rules, pos, ◌+ℤ◌, ◌-ℤ◌}
use Rattle.std.specs.Prelude.{nat_lt, get_or, if◌then◌else◌}
use Rattle.std.proofs.Math.Nat.{mod-eq_of_lt}
use Rattle.lane_core.specs.declared.vector.NeonLane.TheVariants.{U8, U16, U32}
use Rattle.lane_core.specs.Register.{IsRegister, lane, build, wrapped}
use Rattle.lane_core.specs.Kernels.{map2_of, pairwise_of}
use Rattle.lane_core.proofs.Lanes.{lane-build, build_same, lane_below, lane_of_byte}
use Rattle.lane_core.proofs.Laws.{build-append, lanes_by_bytes, IsRegister-build}
use Rattle.intel_lanes.specs.Blocks.{difference, sum_below, sums_of_four}
use Rattle.intel_lanes.specs.Laws.{byte, xmm}
use Rattle.neon_elements.specs.declared.elements.Binary.TheVariants.{AbsoluteDifference}
use Rattle.neon_elements.specs.Elements.{abs_of}
use Rattle.neon_elements.specs.Vectors.{each2, looked_up, duplicated_lane, long_pair_sums, pair_sums}
use Rattle.seq_arith.specs.Products.{fours}
use Rattle.seq_arith.proofs.Sums.{difference_is, difference_below, pair_sum}

pub fours_register : (first : ℕ) → IsRegister 16 (fours first)
fours_register first = IsRegister-build 1 16 (λ i. first + (i / 4 + i % 4)) byte xmm

-- the bytes at these places
place : (first e : ℕ) → first ≤ 8 → e < 16 → lane 1 (fours first) e ≡ first + (e / 4 + e % 4)
place first e h l = lane-build 1 16 (λ i. first + (i / 4 + i % 4)) e l ∙ mod-eq_of_lt (omega (arith, h, l))

found : (a : List ℕ) (first e : ℕ) → IsRegister 16 a → first ≤ 8 → e < 16 → lane 1 (looked_up 16 a (fours first)) e ≡ lane 1 a (first + (e / 4 + e % 4))
unfolding looked_up
found a first e r h l =
    let i = first + (e / 4 + e % 4) in
    let t : nat_lt i 16 ≡ true = let u : first + (e / 4 + e % 4) < 16 = omega (arith, h, l) in search (rules, u) in
    lane-build 1 16 (λ k. if nat_lt (lane 1 (fours first) k) 16 then lane 1 a (lane 1 (fours first) k) else 0) e l
    ∙ ap (λ p. (if nat_lt p 16 then lane 1 a p else 0) % 256 ^ 1) (place first e h l)
    ∙ rw t (mod-eq_of_lt (lane_below 1 a i r.bytes))

-- the bytes of one dword, again and again
repeated : (b : List ℕ) (n e : ℕ) → IsRegister 16 b → n < 4 → e < 16 → lane 1 (duplicated_lane U32 n b) e ≡ lane 1 b (4 * n + e % 4)
unfolding duplicated_lane
repeated b n e r h l =
    let m : n % 4 ≡ n = omega (arith, h) in
    ap (λ j. lane 1 (build 4 4 (λ k. lane 4 b j)) e) m
    ∙ ap (λ s. lane 1 s e) (lanes_by_bytes 4 4 b (λ k. n) (omega arith) r.bytes (λ k i. let s = r.size in omega (arith, h, s)))
    ∙ lane-build 1 16 (λ i. get_or b (n * 4 + i % 4) 0) e l
    ∙ mod-eq_of_lt (r.bytes.below (n * 4 + e % 4))
    ∙ ap (λ p. get_or b p 0) (omega arith)
    ∙ sym (lane_of_byte b (4 * n + e % 4))

abbrev apart : List ℕ → List ℕ → ℕ → ℕ → ℕ
apart a b i j = difference (lane 1 a i) (lane 1 b j)

same : (a b : List ℕ) (i j p q : ℕ) → i ≡ p → j ≡ q → apart a b i j ≡ apart a b p q
same a b i j p q e f = ap (λ v. apart a b v j) e ∙ ap (apart a b p) f

-- the differences
abbrev terms : List ℕ → List ℕ → ℕ → ℕ → ℕ → ℕ
terms a b n first e = apart a b (first + (e / 4 + e % 4)) (4 * n + e % 4)

small : (a b : List ℕ) (n first e : ℕ) → IsRegister 16 a → IsRegister 16 b → terms a b n first e < 256
small a b n first e h k =
    difference_below (lane 1 a (first + (e / 4 + e % 4))) (lane 1 b (4 * n + e % 4)) (lane_below 1 a (first + (e / 4 + e % 4)) h.bytes) (lane_below 1 b (4 * n + e % 4) k.bytes)

differences : (a b : List ℕ) (n first : ℕ) → IsRegister 16 a → IsRegister 16 b → n < 4 → first ≤ 8
    → each2 AbsoluteDifference U8 (looked_up 16 a (fours first)) (duplicated_lane U32 n b) ≡ build 1 16 (terms a b n first)
unfolding each2 map2_of
differences a b n first h k l m =
    let s = looked_up 16 a (fours first) in
    let t = duplicated_lane U32 n b in
    build_same 1 16 (λ e. wrapped 1 (abs_of (pos (lane 1 s e) -ℤ pos (lane 1 t e)))) (terms a b n first)
    (λ e i.
    ap (λ x. wrapped 1 (abs_of (pos x -ℤ pos (lane 1 t e))) % 256 ^ 1) (found a first e h m i)
    ∙ ap (λ y. wrapped 1 (abs_of (pos (lane 1 a (first + (e / 4 + e % 4))) -ℤ pos y)) % 256 ^ 1) (repeated b n e k l i)
    ∙ difference_is (lane 1 a (first + (e / 4 + e % 4))) (lane 1 b (4 * n + e % 4)) (lane_below 1 a (first + (e / 4 + e % 4)) h.bytes) (lane_below 1 b (4 * n + e % 4) k.bytes)
    ∙ sym (mod-eq_of_lt (small a b n first e h k)))

-- two adjacent ones summed
abbrev twos : List ℕ → List ℕ → ℕ → ℕ → ℕ → ℕ
twos a b n first e = terms a b n first (2 * e) + terms a b n first (2 * e + 1)

summed : (a b : List ℕ) (n first : ℕ) → IsRegister 16 a → IsRegister 16 b → n < 4 → first ≤ 8
    → long_pair_sums U8 (each2 AbsoluteDifference U8 (looked_up 16 a (fours first)) (duplicated_lane U32 n b)) ≡ build 2 8 (twos a b n first)
unfolding long_pair_sums
summed a b n first h k l m =
    ap (λ r. build 2 8 (λ e. wrapped 2 (pos (lane 1 r (2 * e)) +ℤ pos (lane 1 r (2 * e + 1))))) (differences a b n first h k l m)
    ∙ pair_sum 1 16 8 (terms a b n first) refl (λ j i. small a b n first j h k)
    (λ j i. let p = small a b n first (2 * j) h k in let q = small a b n first (2 * j + 1) h k in omega (arith, p, q))

twos_below : (a b : List ℕ) (n first e : ℕ) → IsRegister 16 a → IsRegister 16 b → twos a b n first e < 256 ^ 2
twos_below a b n first e h k = let p = small a b n first (2 * e) h k in let q = small a b n first (2 * e + 1) h k in omega (arith, p, q)

-- the second half goes on with the first
goes_on : (a b : List ℕ) (n first e : ℕ) → twos a b n (first + 4) e ≡ twos a b n first (8 + e)
goes_on a b n first e =
    ap (λ v. v + terms a b n (first + 4) (2 * e + 1)) (same a b (first + 4 + (2 * e / 4 + 2 * e % 4)) (4 * n + 2 * e % 4)
    (first + (2 * (8 + e) / 4 + 2 * (8 + e) % 4)) (4 * n + 2 * (8 + e) % 4) (omega arith) (omega arith))
    ∙ ap (λ v. terms a b n first (2 * (8 + e)) + v) (same a b (first + 4 + ((2 * e + 1) / 4 + (2 * e + 1) % 4)) (4 * n + (2 * e + 1) % 4)
    (first + ((2 * (8 + e) + 1) / 4 + (2 * (8 + e) + 1) % 4)) (4 * n + (2 * (8 + e) + 1) % 4) (omega arith) (omega arith))

joined : (a b : List ℕ) (n first : ℕ) → build 2 8 (twos a b n first) ++ build 2 8 (twos a b n (first + 4)) ≡ build 2 16 (twos a b n first)
joined a b n first =
    ap (λ r. build 2 8 (twos a b n first) ++ r) (build_same 2 8 (twos a b n (first + 4)) (λ e. twos a b n first (8 + e)) (λ e l. ap (λ v. v % 256 ^ 2) (goes_on a b n first e)))
    ∙ sym (build-append 2 8 8 (twos a b n first))

four_terms : (a b : List ℕ) (n first e : ℕ) → twos a b n first (2 * e) + twos a b n first (2 * e + 1) ≡ sum_below 4 (λ k. apart a b (first + e + k) (4 * n + k))
four_terms a b n first e =
    let t = terms a b n first in
    let e0 : t (2 * (2 * e)) ≡ apart a b (first + e + 0) (4 * n + 0) =
    same a b (first + (2 * (2 * e) / 4 + 2 * (2 * e) % 4)) (4 * n + 2 * (2 * e) % 4) (first + e + 0) (4 * n + 0) (omega arith) (omega arith) in
    let e1 : t (2 * (2 * e) + 1) ≡ apart a b (first + e + 1) (4 * n + 1) =
    same a b (first + ((2 * (2 * e) + 1) / 4 + (2 * (2 * e) + 1) % 4)) (4 * n + (2 * (2 * e) + 1) % 4) (first + e + 1) (4 * n + 1) (omega arith) (omega arith) in
    let e2 : t (2 * (2 * e + 1)) ≡ apart a b (first + e + 2) (4 * n + 2) =
    same a b (first + (2 * (2 * e + 1) / 4 + 2 * (2 * e + 1) % 4)) (4 * n + 2 * (2 * e + 1) % 4) (first + e + 2) (4 * n + 2) (omega arith) (omega arith) in
    let e3 : t (2 * (2 * e + 1) + 1) ≡ apart a b (first + e + 3) (4 * n + 3) =
    same a b (first + ((2 * (2 * e + 1) + 1) / 4 + (2 * (2 * e + 1) + 1) % 4)) (4 * n + (2 * (2 * e + 1) + 1) % 4) (first + e + 3) (4 * n + 3) (omega arith) (omega arith) in
    omega (arith, e0, e1, e2, e3)

pub sums : (a b : List ℕ) (imm : ℕ) → IsRegister 16 a → IsRegister 16 b
    → pair_sums U16 (long_pair_sums U8 (each2 AbsoluteDifference U8 (looked_up 16 a (fours (4 * (imm / 4 % 2)))) (duplicated_lane U32 (imm % 4) b)))
    (long_pair_sums U8 (each2 AbsoluteDifference U8 (looked_up 16 a (fours (4 * (imm / 4 % 2) + 4))) (duplicated_lane U32 (imm % 4) b)))
    ≡ sums_of_four a b imm
unfolding pair_sums pairwise_of sums_of_four
sums a b imm h k =
    let first = 4 * (imm / 4 % 2) in
    let n = imm % 4 in
    let p = twos a b n first in
    let adds = λ (r : List ℕ). build 2 8 (λ e. lane 2 r (2 * e) + lane 2 r (2 * e + 1)) in
    ap adds
    (ap (λ r. r ++ long_pair_sums U8 (each2 AbsoluteDifference U8 (looked_up 16 a (fours (first + 4))) (duplicated_lane U32 n b))) (summed a b n first h k (omega arith) (omega arith))
    ∙ ap (λ r. build 2 8 p ++ r) (summed a b n (first + 4) h k (omega arith) (omega arith))
    ∙ joined a b n first)
    ∙ build_same 2 8 (λ e. lane 2 (build 2 16 p) (2 * e) + lane 2 (build 2 16 p) (2 * e + 1)) (λ e. sum_below 4 (λ j. apart a b (first + e + j) (4 * n + j)))
    (λ e l. ap (λ v. v % 256 ^ 2)
    (ap (λ v. v + lane 2 (build 2 16 p) (2 * e + 1)) (lane-build 2 16 p (2 * e) (omega (arith, l)) ∙ mod-eq_of_lt (twos_below a b n first (2 * e) h k))
    ∙ ap (λ v. p (2 * e) + v) (lane-build 2 16 p (2 * e + 1) (omega (arith, l)) ∙ mod-eq_of_lt (twos_below a b n first (2 * e + 1) h k))
    ∙ four_terms a b n first e))
