-- The top bits of bytes as one integer.
use Rattle.std.proofs.Common.{◌≡◌, ℕ, zero, suc, ◌+◌, ◌-◌, ◌*◌, ◌/◌, ◌%◌, ◌^◌, ◌<◌, ◌≤◌, List, ◌++◌, true, false, refl, ap, ◌∙◌, subst, arith, rules, inl, inr, pos, ◌⊎◌}
use Rattle.std.specs.Prelude.{nat_lt, ◌==◌, bit_and, if◌then◌else◌}
use Rattle.std.specs.Int.{int_shr}
use Rattle.std.specs.Int.Bits.{and_comm}
use Rattle.std.proofs.lemmas.Bool.{cases_lt}
use Rattle.std.proofs.lemmas.Grind.{and_numeral}
use Rattle.std.proofs.Math.Nat.{mod-eq_of_lt}
use Rattle.lane_core.specs.Register.{IsRegister, lane, build, signed, wrapped}
use Rattle.lane_core.specs.Kernels.{map1_of, map2_of}
use Rattle.lane_core.proofs.Lanes.{lane-build, lane_below, lane-append_left}
use Rattle.lane_core.proofs.Laws.{lane-map1, lane-map2, lane_split, IsRegister-build}
use Rattle.lane_core.proofs.Signed.{signed_low}
use Rattle.lane_core.specs.declared.vector.NeonLane.TheVariants.{U8, S8}
use Rattle.intel_lanes.specs.Blocks.{sum_below}
use Rattle.intel_lanes.specs.Laws.{byte, xmm}
use Rattle.intel_forms.specs.Scalars.{all_below, top_bits, byte_signs}
use Rattle.neon_elements.specs.declared.elements.Binary.TheVariants.{And}
use Rattle.neon_elements.specs.Elements.{sum_of}
use Rattle.neon_elements.specs.Vectors.{each2, shifted_right, zipped, extracted}
use Rattle.seq_pack.specs.Tests.{places}
use Rattle.seq_pack.proofs.Selections.{told, sign_told}

none : (p : ℕ) → 0 ≡ 0 * p
none p = omega arith

-- the top bit of a byte, at the place of a bit p
mark_is : (x p : ℕ) → x < 256 → p < 256 → bit_and (wrapped 1 (int_shr (signed 1 x) 7) % 256 ^ 1) p % 256 ^ 1 ≡ x / 128 * p
mark_is x p l k = ap (λ m. bit_and m p % 256 ^ 1) (sign_told x l) ∙ by (cases_lt x 128)
  where
    by : (x < 128) ⊎ (128 ≤ x) → bit_and (if nat_lt x 128 then 0 else 256 ^ 1 - 1) p % 256 ^ 1 ≡ x / 128 * p
    by (inl b) =
        let t : nat_lt x 128 ≡ true = search (rules, b) in
        let d : x / 128 ≡ 0 = omega (arith, b) in
        rw (t, d) (none p)
    by (inr b) =
        let t : nat_lt x 128 ≡ false = search (rules, b) in
        let d : x / 128 ≡ 1 = omega (arith, b, l) in
        rw (t, d) (ap (λ v. v % 256) (and_comm 255 p ∙ and_numeral p 254 refl ∙ mod-eq_of_lt k) ∙ mod-eq_of_lt k ∙ omega arith)

-- the bits of both halves
low_told : all_below 8 (λ k. lane 1 places k == 2 ^ k) ≡ true
unfolding lane
low_told = refl

high_told : all_below 8 (λ k. lane 1 places (8 + k) == 2 ^ k) ≡ true
unfolding lane
high_told = refl

low_place : (k : ℕ) → k < 8 → lane 1 places k ≡ 2 ^ k
low_place k l = let t : (lane 1 places k == 2 ^ k) ≡ true = told 8 (λ i. lane 1 places i == 2 ^ i) low_told k l in grind (arith, t)

high_place : (k : ℕ) → k < 8 → lane 1 places (8 + k) ≡ 2 ^ k
high_place k l = let t : (lane 1 places (8 + k) == 2 ^ k) ≡ true = told 8 (λ i. lane 1 places (8 + i) == 2 ^ i) high_told k l in grind (arith, t)

bit_below : (k : ℕ) → k < 8 → 2 ^ k < 256
bit_below k l = let t : nat_lt (2 ^ k) 256 ≡ true = told 8 (λ i. nat_lt (2 ^ i) 256) refl k l in grind (arith, t)

abbrev top : List ℕ → ℕ → ℕ
top a k = lane 1 a k / 128

abbrev pub marked : List ℕ → List ℕ
marked a = each2 And U8 (shifted_right S8 7 a) places

mark_at : (a : List ℕ) (j p : ℕ) → IsRegister 16 a → j < 16 → lane 1 places j ≡ p → p < 256 → lane 1 (marked a) j ≡ top a j * p
unfolding each2 shifted_right
mark_at a j p h l e k =
    let f = λ (x : ℕ). wrapped 1 (int_shr (signed 1 x) 7) in
    lane-map2 1 16 bit_and (map1_of 1 16 f a) places j l
    ∙ ap (λ q. bit_and (lane 1 (map1_of 1 16 f a) j) q % 256 ^ 1) e
    ∙ ap (λ m. bit_and m p % 256 ^ 1) (lane-map1 1 16 f a j l)
    ∙ mark_is (lane 1 a j) p (lane_below 1 a j h.bytes) k

places_are : build 1 16 (λ k. 2 ^ (k % 8)) ≡ places
unfolding build
places_are = refl

pub places_register : IsRegister 16 places
places_register = subst (IsRegister 16) places_are (IsRegister-build 1 16 (λ k. 2 ^ (k % 8)) byte xmm)

marked_register : (a : List ℕ) → IsRegister 16 (marked a)
unfolding each2 map2_of
marked_register a = IsRegister-build 1 16 (λ k. bit_and (lane 1 (shifted_right S8 7 a) k) (lane 1 places k)) byte xmm

-- bytes k of both halves as word k
even_place : (k : ℕ) → (2 * k % 2 == 0) ≡ true
even_place k = search (rules, arith)

odd_place : (k : ℕ) → ((2 * k + 1) % 2 == 0) ≡ false
odd_place k = search (rules, arith)

word_at : (t : List ℕ) (k : ℕ) → IsRegister 16 t → k < 8 → lane 2 (zipped 0 U8 t (extracted t t 8)) k ≡ lane 1 t k + 256 ^ 1 * lane 1 t (8 + k)
unfolding zipped extracted
word_at t k h l =
    let x = build 1 16 (λ e. if nat_lt (8 + e) 32 then lane 1 (t ++ t) (8 + e) else 0) in
    let g = λ (e : ℕ). if e % 2 == 0 then lane 1 t (0 * (8 / 1) + e / 2) else lane 1 x (0 * (8 / 1) + e / 2) in
    let z = build 1 16 g in
    let d : 0 * (8 / 1) + 2 * k / 2 ≡ k = omega arith in
    let d' : 0 * (8 / 1) + (2 * k + 1) / 2 ≡ k = omega arith in
    let i : nat_lt (8 + k) 32 ≡ true = let u : 8 + k < 32 = omega (arith, l) in search (rules, u) in
    let first : lane 1 z (2 * k) ≡ lane 1 t k =
    lane-build 1 16 g (2 * k) (omega (arith, l)) ∙ rw (even_place k, d) (mod-eq_of_lt (lane_below 1 t k h.bytes)) in
    let shifted : lane 1 x k ≡ lane 1 t (8 + k) =
    lane-build 1 16 (λ e. if nat_lt (8 + e) 32 then lane 1 (t ++ t) (8 + e) else 0) k (omega (arith, l))
    ∙ rw i (ap (λ v. v % 256 ^ 1) (lane-append_left 1 t t (8 + k) (let s = h.size in omega (arith, s, l))) ∙ mod-eq_of_lt (lane_below 1 t (8 + k) h.bytes)) in
    let second : lane 1 z (2 * k + 1) ≡ lane 1 t (8 + k) =
    lane-build 1 16 g (2 * k + 1) (omega (arith, l)) ∙ rw (odd_place k, d') (ap (λ v. v % 256 ^ 1) shifted ∙ mod-eq_of_lt (lane_below 1 t (8 + k) h.bytes)) in
    lane_split 1 z k ∙ ap (λ v. v + 256 ^ 1 * lane 1 z (2 * k + 1)) first ∙ ap (λ v. lane 1 t k + 256 ^ 1 * v) second

-- sums
sum_same : (n : ℕ) (f g : ℕ → ℕ) → ((k : ℕ) → k < n → f k ≡ g k) → sum_of n f ≡ sum_of n g
sum_same zero f g e = refl
sum_same (suc n) f g e =
    ap (λ v. v + f n) (sum_same n f g (λ k l. e k (omega (arith, l)))) ∙ ap (λ v. sum_of n g + v) (e n (omega arith))

sixteen : (q : ℕ → ℕ) → sum_of 8 (λ k. q k * 2 ^ k + 256 ^ 1 * (q (8 + k) * 2 ^ k)) ≡ sum_below 16 (λ k. q k * 2 ^ k)
sixteen q = omega arith

sixteen_below : (q : ℕ → ℕ) → ((i : ℕ) → q i < 2) → sum_below 16 (λ k. q k * 2 ^ k) < 256 ^ 2
sixteen_below q h = omega (arith, h 0, h 1, h 2, h 3, h 4, h 5, h 6, h 7, h 8, h 9, h 10, h 11, h 12, h 13, h 14, h 15)

summed : (a : List ℕ) → IsRegister 16 a → sum_of 8 (lane 2 (zipped 0 U8 (marked a) (extracted (marked a) (marked a) 8))) ≡ top_bits 16 a
unfolding top_bits
summed a h =
    sum_same 8 (lane 2 (zipped 0 U8 (marked a) (extracted (marked a) (marked a) 8))) (λ k. top a k * 2 ^ k + 256 ^ 1 * (top a (8 + k) * 2 ^ k))
    (λ k l. word_at (marked a) k (marked_register a) l
    ∙ ap (λ v. v + 256 ^ 1 * lane 1 (marked a) (8 + k)) (mark_at a k (2 ^ k) h (omega (arith, l)) (low_place k l) (bit_below k l))
    ∙ ap (λ v. top a k * 2 ^ k + 256 ^ 1 * v) (mark_at a (8 + k) (2 ^ k) h (omega (arith, l)) (high_place k l) (bit_below k l)))
    ∙ sixteen (top a)

pub top_bits_below : (a : List ℕ) → IsRegister 16 a → top_bits 16 a < 256 ^ 2
unfolding top_bits
top_bits_below a h = sixteen_below (top a) (λ i. let b = lane_below 1 a i h.bytes in omega (arith, b))

pub signs_summed : (a : List ℕ) → IsRegister 16 a → sum_of 8 (lane 2 (zipped 0 U8 (marked a) (extracted (marked a) (marked a) 8))) % 256 ^ 2 ≡ top_bits 16 a
signs_summed a h = ap (λ v. v % 256 ^ 2) (summed a h) ∙ mod-eq_of_lt (top_bits_below a h)

-- a small number read as `int`
pub small_signs : (a : List ℕ) → IsRegister 16 a → byte_signs 16 a ≡ top_bits 16 a
unfolding wrapped
small_signs a h =
    let b = top_bits_below a h in
    let e : signed 4 (top_bits 16 a) ≡ pos (top_bits 16 a) = signed_low 4 (top_bits 16 a) (omega (arith, b)) in
    rw e (omega (arith, b))
