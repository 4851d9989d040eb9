-- What rows that work on halves and on pairs of lanes make together.
use Rattle.std.proofs.Common.{◌≡◌, ℕ, ◌+◌, ◌*◌, ◌/◌, ◌%◌, ◌^◌, List, ◌++◌, take, length-take, ap, sym, ◌∙◌, arith, ℤ, pos, negsuc, ◌*ℤ◌}
use Rattle.std.specs.Int.{int_shr}
use Rattle.std.proofs.Math.Nat.{mod-eq_of_lt, mod-mod}
use Rattle.std.proofs.Math.IntN.{pos-*ℤ-pos}
use Rattle.lane_core.specs.Register.{Bytes, IsRegister, lane, build, signed, wrapped}
use Rattle.lane_core.specs.Kernels.{map2_of, pairwise_of}
use Rattle.lane_core.proofs.Lists.{Bytes-append, Bytes-take}
use Rattle.lane_core.proofs.Lanes.{lane-build, build_same, build-lane, lane_below, lane-take, Bytes-build}
use Rattle.lane_core.proofs.Laws.{build-append, lane_low, lane_high}
use Rattle.lane_core.specs.declared.vector.NeonLane.TheVariants.{U16, U32, U64, S16, S32, S64}
use Rattle.intel_lanes.specs.declared.lanes.Lane2.TheVariants as op
use Rattle.intel_lanes.specs.Lanes.{lane2_of}
use Rattle.intel_lanes.specs.Blocks.{lanes2, multiply_even, multiply_even_unsigned}
use Rattle.neon_elements.specs.declared.elements.Long.TheVariants.{Product}
use Rattle.neon_elements.specs.declared.elements.Narrowing.TheVariants.{Low}
use Rattle.neon_elements.specs.Vectors.{half, lengthened, lengthened_high, unzipped, narrowed}

-- adjacent lanes, by the vectors of the even and of the odd lanes
pub uneven : (w n : ℕ) (g : ℕ → ℕ → ℕ) (a b : List ℕ) → Bytes a → Bytes b
    → map2_of w n g (build w (n / w) (λ e. lane w (a ++ b) (2 * e + 0))) (build w (n / w) (λ e. lane w (a ++ b) (2 * e + 1))) ≡ pairwise_of w n g a b
unfolding map2_of pairwise_of
uneven w n g a b h k =
    let both = Bytes-append a b h k in
    let even = build w (n / w) (λ e. lane w (a ++ b) (2 * e + 0)) in
    let odd = build w (n / w) (λ e. lane w (a ++ b) (2 * e + 1)) in
    build_same w (n / w) (λ j. g (lane w even j) (lane w odd j)) (λ j. g (lane w (a ++ b) (2 * j)) (lane w (a ++ b) (2 * j + 1)))
    (λ j l. ap (λ v. v % 256 ^ w)
    (ap (λ x. g x (lane w odd j)) (lane-build w (n / w) (λ e. lane w (a ++ b) (2 * e + 0)) j l ∙ mod-eq_of_lt (lane_below w (a ++ b) (2 * j + 0) both) ∙ ap (lane w (a ++ b)) (omega arith))
    ∙ ap (g (lane w (a ++ b) (2 * j))) (lane-build w (n / w) (λ e. lane w (a ++ b) (2 * e + 1)) j l ∙ mod-eq_of_lt (lane_below w (a ++ b) (2 * j + 1) both))))

-- the even dwords, narrowed from qwords
pub even_dwords : (f : ℕ → ℕ → ℕ) (a b : List ℕ) → Bytes a → Bytes b
    → build 8 2 (λ e. f (lane 4 (build 4 2 (lane 8 a)) e) (lane 4 (build 4 2 (lane 8 b)) e)) ≡ build 8 2 (λ e. f (lane 4 a (2 * e)) (lane 4 b (2 * e)))
even_dwords f a b h k =
    build_same 8 2 (λ e. f (lane 4 (build 4 2 (lane 8 a)) e) (lane 4 (build 4 2 (lane 8 b)) e)) (λ e. f (lane 4 a (2 * e)) (lane 4 b (2 * e)))
    (λ e l. ap (λ v. v % 256 ^ 8)
    (ap (λ x. f x (lane 4 (build 4 2 (lane 8 b)) e)) (lane-build 4 2 (lane 8 a) e l ∙ sym (lane_low 4 a e h))
    ∙ ap (f (lane 4 a (2 * e))) (lane-build 4 2 (lane 8 b) e l ∙ sym (lane_low 4 b e k))))

-- the low half of a vector
pub low_half : (a : List ℕ) → IsRegister 16 a → build 8 1 (λ e. lane 8 a 0) ≡ take 8 a
low_half a h =
    build_same 8 1 (λ e. lane 8 a 0) (lane 8 (take 8 a)) (λ e l. let z : e ≡ 0 = omega (arith, l) in ap (λ v. v % 256 ^ 8) (sym (lane-take 8 8 a 0 (omega arith)) ∙ ap (lane 8 (take 8 a)) (sym z)))
    ∙ build-lane 8 1 (take 8 a) (Bytes-take 8 a h.bytes) (let s = h.size in omega (arith, length-take 8 a, s))

-- formulas of words with answers of dwords, by halves
pub by_halves : (p : ℕ → ℕ → ℕ) (a b : List ℕ) → IsRegister 16 a → IsRegister 16 b
    → build 4 4 (λ e. p (lane 2 (build 8 1 (λ i. lane 8 a 0)) e) (lane 2 (build 8 1 (λ i. lane 8 b 0)) e)) ++ build 4 4 (λ e. p (lane 2 a (4 + e)) (lane 2 b (4 + e)))
    ≡ build 4 8 (λ k. p (lane 2 a k) (lane 2 b k))
by_halves p a b h k =
    let q = λ (i : ℕ). p (lane 2 a i) (lane 2 b i) in
    let low = λ (e : ℕ). p (lane 2 (build 8 1 (λ i. lane 8 a 0)) e) (lane 2 (build 8 1 (λ i. lane 8 b 0)) e) in
    ap (λ r. r ++ build 4 4 (λ e. p (lane 2 a (4 + e)) (lane 2 b (4 + e))))
    (build_same 4 4 (λ e. p (lane 2 (build 8 1 (λ i. lane 8 a 0)) e) (lane 2 (build 8 1 (λ i. lane 8 b 0)) e)) (λ e. p (lane 2 a e) (lane 2 b e))
    (λ e l. ap (λ v. v % 256 ^ 4)
    (ap (λ x. p x (lane 2 (build 8 1 (λ i. lane 8 b 0)) e)) (ap (λ r. lane 2 r e) (low_half a h) ∙ lane-take 2 8 a e (omega (arith, l)))
    ∙ ap (p (lane 2 a e)) (ap (λ r. lane 2 r e) (low_half b k) ∙ lane-take 2 8 b e (omega (arith, l))))))
    ∙ sym (build-append 4 4 4 (λ i. p (lane 2 a i) (lane 2 b i)))

-- the high words of such answers
pub high_words : (p : ℕ → ℕ → ℕ) (a b : List ℕ)
    → build 2 8 (λ e. lane 2 (build 4 8 (λ k. p (lane 2 a k) (lane 2 b k))) (2 * e + 1)) ≡ build 2 8 (λ e. p (lane 2 a e) (lane 2 b e) % 256 ^ 4 / 256 ^ 2)
high_words p a b =
    let r = build 4 8 (λ k. p (lane 2 a k) (lane 2 b k)) in
    build_same 2 8 (λ e. lane 2 r (2 * e + 1)) (λ e. p (lane 2 a e) (lane 2 b e) % 256 ^ 4 / 256 ^ 2)
    (λ e l. ap (λ v. v % 256 ^ 2) (lane_high 2 r e (Bytes-build 4 8 (λ k. p (lane 2 a k) (lane 2 b k))) ∙ ap (λ v. v / 256 ^ 2) (lane-build 4 8 (λ k. p (lane 2 a k) (lane 2 b k)) e l)))

-- the high half of a product
pub high_of : (z : ℤ) → wrapped 2 (int_shr z 16) ≡ wrapped 4 z % 256 ^ 4 / 256 ^ 2
unfolding wrapped
high_of (pos n) = omega arith
high_of (negsuc n) = omega arith

high_of_product : (m : ℕ) → m % 256 ^ 4 % 256 ^ 4 / 256 ^ 2 % 256 ^ 2 ≡ m / 256 ^ 2 % 256 ^ 2
high_of_product m = omega arith

pub high_signed : (a b : List ℕ) → IsRegister 16 a → IsRegister 16 b
    → unzipped 1 U16 (lengthened Product S16 (half 0 a) (half 0 b)) (lengthened_high Product S16 a b) ≡ lanes2 op.MultiplyHigh 2 a b
unfolding unzipped lengthened lengthened_high half lanes2 map2_of
high_signed a b h k =
    let p = λ (x y : ℕ). wrapped 4 (signed 2 x *ℤ signed 2 y) in
    ap (λ r. build 2 8 (λ e. lane 2 r (2 * e + 1))) (by_halves p a b h k)
    ∙ high_words p a b
    ∙ build_same 2 8 (λ e. p (lane 2 a e) (lane 2 b e) % 256 ^ 4 / 256 ^ 2) (λ e. lane2_of op.MultiplyHigh 2 (lane 2 a e) (lane 2 b e))
    (λ e l. ap (λ v. v % 256 ^ 2) (sym (high_of (signed 2 (lane 2 a e) *ℤ signed 2 (lane 2 b e)))))

pub high_unsigned : (a b : List ℕ) → IsRegister 16 a → IsRegister 16 b
    → unzipped 1 U16 (lengthened Product U16 (half 0 a) (half 0 b)) (lengthened_high Product U16 a b) ≡ lanes2 op.MultiplyHighUnsigned 2 a b
unfolding unzipped lengthened lengthened_high half lanes2 map2_of wrapped
high_unsigned a b h k =
    let p = λ (x y : ℕ). wrapped 4 (pos x *ℤ pos y) in
    ap (λ r. build 2 8 (λ e. lane 2 r (2 * e + 1))) (by_halves p a b h k)
    ∙ high_words p a b
    ∙ build_same 2 8 (λ e. p (lane 2 a e) (lane 2 b e) % 256 ^ 4 / 256 ^ 2) (λ e. lane2_of op.MultiplyHighUnsigned 2 (lane 2 a e) (lane 2 b e))
    (λ e l. ap (λ (z : ℤ). wrapped 4 z % 256 ^ 4 / 256 ^ 2 % 256 ^ 2) (pos-*ℤ-pos (lane 2 a e) (lane 2 b e)) ∙ high_of_product (lane 2 a e * lane 2 b e))

pub even_signed : (a b : List ℕ) → IsRegister 16 a → IsRegister 16 b → lengthened Product S32 (narrowed Low S32 S64 a) (narrowed Low S32 S64 b) ≡ multiply_even a b
unfolding lengthened narrowed multiply_even
even_signed a b h k = even_dwords (λ x y. wrapped 8 (signed 4 x *ℤ signed 4 y)) a b h.bytes k.bytes

pub even_unsigned : (a b : List ℕ) → IsRegister 16 a → IsRegister 16 b → lengthened Product U32 (narrowed Low U32 U64 a) (narrowed Low U32 U64 b) ≡ multiply_even_unsigned a b
unfolding lengthened narrowed multiply_even_unsigned wrapped
even_unsigned a b h k =
    even_dwords (λ x y. wrapped 8 (pos x *ℤ pos y)) a b h.bytes k.bytes
    ∙ build_same 8 2 (λ e. wrapped 8 (pos (lane 4 a (2 * e)) *ℤ pos (lane 4 b (2 * e)))) (λ e. lane 4 a (2 * e) * lane 4 b (2 * e))
    (λ e l. ap (λ (z : ℤ). wrapped 8 z % 256 ^ 8) (pos-*ℤ-pos (lane 4 a (2 * e)) (lane 4 b (2 * e))) ∙ mod-mod (lane 4 a (2 * e) * lane 4 b (2 * e)) (256 ^ 8))
