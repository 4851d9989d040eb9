-- Bytes and lanes that are chosen.
use Rattle.std.proofs.Common.{◌≡◌, ℕ, zero, suc, ◌+◌, ◌-◌, ◌*◌, ◌/◌, ◌%◌, ◌^◌, ◌<◌, ◌≤◌, List, ◌++◌, take, drop, length-take, length-drop, Bool, true, false, not, ◌&&◌, refl, ap, sym, ◌∙◌, subst, arith, rules, inl, inr}
use Rattle.std.specs.Prelude.{nat_lt, nat_le, ◌==◌, bit_and, bit_or, if◌then◌else◌}
use Rattle.std.specs.Int.{int_shr}
use Rattle.std.specs.Int.Bits.{and_comm, or_comm}
use Rattle.std.proofs.lemmas.Grind.{and_numeral}
use Rattle.std.proofs.lemmas.Bool.{cases_lt}
use Rattle.std.proofs.lemmas.Int.{ints}
use Rattle.std.proofs.Math.Nat.{mod-eq_of_lt}
use Rattle.lane_core.specs.Register.{IsRegister, IsWidth, lane, build, signed, wrapped}
use Rattle.lane_core.specs.Kernels.{map1_of, map2_of}
use Rattle.lane_core.proofs.Lists.{Bytes-take, Bytes-drop}
use Rattle.lane_core.proofs.Lanes.{lane-build, build_same, build-lane, lane_below, lane-take, lane-drop}
use Rattle.lane_core.proofs.Laws.{build-append, lane-map1, lane-map2, IsRegister-build}
use Rattle.lane_core.specs.declared.vector.NeonLane.TheVariants.{U8, U16, U32, S8}
use Rattle.intel_lanes.specs.Blocks.{shuffle_bytes, blend_bytes, blend}
use Rattle.intel_lanes.specs.Laws.{byte, xmm}
use Rattle.intel_forms.specs.Scalars.{all_below}
use Rattle.neon_elements.specs.declared.elements.Binary.TheVariants.{And}
use Rattle.neon_elements.specs.Vectors.{combined, half, each2, selected, shifted_right, looked_up}
use Rattle.neon_elements.specs.Elements.{select_of}
use Rattle.seq_pack.specs.Terms.{kept_bits, mask}
use Rattle.seq_pack.proofs.Packs.{halves_joined}

-- what a test tells of each number below n, it tells of one
both_true : (a b : Bool) → (a && b) ≡ true → (a ≡ true) × (b ≡ true)
both_true true true h = (refl, refl)
both_true true false h = absurd (grind (arith, h))
both_true false b h = absurd (grind (arith, h))

pub told : (n : ℕ) (p : ℕ → Bool) → all_below n p ≡ true → (k : ℕ) → k < n → p k ≡ true
told zero p h k l = absurd (omega (arith, l))
told (suc n) p h k l = elim (cases_lt k n) [
  | inl b ↦ told n p (both_true (all_below n p) (p n) h).0 k b
  | inr b ↦ let e : n ≡ k = omega (arith, l, b) in subst (λ i. p i ≡ true) e (both_true (all_below n p) (p n) h).1
]

-- ---- shuffles

-- the index of a byte: past the table exactly where the top bit is set
abbrev index_told : ℕ → Bool
index_told x = if nat_lt x 128 then bit_and x 143 % 256 == x % 16 else nat_le 16 (bit_and x 143 % 256)

indices_told : all_below 256 index_told ≡ true
indices_told = refl

index_is : (x : ℕ) (t : ℕ → ℕ) → x < 256 → (if nat_lt (bit_and x 143 % 256) 16 then t (bit_and x 143 % 256) else 0) ≡ (if nat_lt x 128 then t (x % 16) else 0)
index_is x t l = by (nat_lt x 128) refl (told 256 index_told indices_told x l)
  where
    by : (b : Bool) → nat_lt x 128 ≡ b → (if b then bit_and x 143 % 256 == x % 16 else nat_le 16 (bit_and x 143 % 256)) ≡ true
        → (if nat_lt (bit_and x 143 % 256) 16 then t (bit_and x 143 % 256) else 0) ≡ (if b then t (x % 16) else 0)
    by true e h =
        let same : bit_and x 143 % 256 ≡ x % 16 = grind (arith, h) in
        let below : nat_lt (x % 16) 16 ≡ true = let u : x % 16 < 16 = omega arith in search (rules, u) in
        rw (same, below) refl
    by false e h =
        let past : nat_lt (bit_and x 143 % 256) 16 ≡ false = grind (arith, h) in
        rw past refl

kept_is : build 1 16 (λ k. 143) ≡ kept_bits
unfolding build
kept_is = refl

pub kept_register : IsRegister 16 kept_bits
kept_register = subst (IsRegister 16) kept_is (IsRegister-build 1 16 (λ k. 143) byte xmm)

pub shuffles : (a b : List ℕ) → IsRegister 16 b → looked_up 16 a (each2 And U8 b kept_bits) ≡ shuffle_bytes a b
unfolding looked_up each2 shuffle_bytes
shuffles a b h =
    let index = map2_of 1 16 bit_and b kept_bits in
    let at : (k : ℕ) → k < 16 → lane 1 index k ≡ bit_and (lane 1 b k) 143 % 256 =
    λ k l. lane-map2 1 16 bit_and b kept_bits k l ∙ ap (λ m. bit_and (lane 1 b k) m % 256) (ap (λ r. lane 1 r k) (sym kept_is) ∙ lane-build 1 16 (λ i. 143) k l) in
    build_same 1 16 (λ k. if nat_lt (lane 1 index k) 16 then lane 1 a (lane 1 index k) else 0) (λ k. if nat_lt (lane 1 b k) 128 then lane 1 a (lane 1 b k % 16) else 0)
    (λ k l. ap (λ v. v % 256 ^ 1) (ap (λ i. if nat_lt i 16 then lane 1 a i else 0) (at k l) ∙ index_is (lane 1 b k) (lane 1 a) (lane_below 1 b k h.bytes)))

-- ---- choices by bits

or_none : (x : ℕ) → bit_or 0 x ≡ x
or_none x = grind arith

or_none' : (x : ℕ) → bit_or x 0 ≡ x
or_none' x = or_comm x 0 ∙ or_none x

pub and_none : (x : ℕ) → bit_and x 0 ≡ 0
and_none x = and_comm x 0

-- all bits of a lane, or none
all_bits_1 : (x : ℕ) → x < 256 ^ 1 → bit_and x (256 ^ 1 - 1) ≡ x
all_bits_1 x h = and_numeral x 254 refl ∙ mod-eq_of_lt h

pub all_bits_2 : (x : ℕ) → x < 256 ^ 2 → bit_and x (256 ^ 2 - 1) ≡ x
all_bits_2 x h = and_numeral x 65534 refl ∙ mod-eq_of_lt h

all_bits_4 : (x : ℕ) → x < 256 ^ 4 → bit_and x (256 ^ 4 - 1) ≡ x
all_bits_4 x h = and_numeral x 4294967294 refl ∙ mod-eq_of_lt h

-- the lane that a mask of all bits or none chooses
pub chosen : (w x y : ℕ) (b : Bool) → bit_and x (256 ^ w - 1) ≡ x → bit_and y (256 ^ w - 1) ≡ y
    → bit_or (bit_and x (if b then 256 ^ w - 1 else 0)) (bit_and y (256 ^ w - 1 - (if b then 256 ^ w - 1 else 0))) ≡ (if b then x else y)
chosen w x y true e f =
    let z : 256 ^ w - 1 - (256 ^ w - 1) ≡ 0 = omega arith in
    ap (λ m. bit_or (bit_and x (256 ^ w - 1)) (bit_and y m)) z ∙ ap (bit_or (bit_and x (256 ^ w - 1))) (and_none y) ∙ or_none' (bit_and x (256 ^ w - 1)) ∙ e
chosen w x y false e f =
    let z : 256 ^ w - 1 - 0 ≡ 256 ^ w - 1 = omega arith in
    ap (λ m. bit_or (bit_and x 0) (bit_and y m)) z ∙ ap (λ m. bit_or m (bit_and y (256 ^ w - 1))) (and_none x) ∙ or_none (bit_and y (256 ^ w - 1)) ∙ f

-- ---- blends by the top bits

pub sign_told : (x : ℕ) → x < 256 → wrapped 1 (int_shr (signed 1 x) 7) % 256 ^ 1 ≡ (if nat_lt x 128 then 0 else 256 ^ 1 - 1)
unfolding wrapped signed
sign_told x h = grind (arith, ints, h)

flipped : (b : Bool) (x y : ℕ) → (if (if b then false else true) then x else y) ≡ (if b then y else x)
flipped true x y = refl
flipped false x y = refl

pub blends_bytes : (a b m : List ℕ) → IsRegister 16 a → IsRegister 16 b → IsRegister 16 m → selected U8 (shifted_right S8 7 m) b a ≡ blend_bytes a b m
unfolding selected shifted_right blend_bytes
blends_bytes a b m h i j =
    let f = λ (x : ℕ). wrapped 1 (int_shr (signed 1 x) 7) in
    let signs = map1_of 1 16 f m in
    build_same 1 16 (λ k. select_of U8 (lane 1 signs k) (lane 1 b k) (lane 1 a k)) (λ k. if nat_lt (lane 1 m k) 128 then lane 1 a k else lane 1 b k)
    (λ k l. ap (λ v. v % 256 ^ 1)
    (ap (λ s. select_of U8 s (lane 1 b k) (lane 1 a k)) (lane-map1 1 16 f m k l ∙ sign_told (lane 1 m k) (lane_below 1 m k j.bytes))
    ∙ by (nat_lt (lane 1 m k) 128) (lane 1 b k) (lane 1 a k) (all_bits_1 (lane 1 b k) (lane_below 1 b k i.bytes)) (all_bits_1 (lane 1 a k) (lane_below 1 a k h.bytes))))
  where
    by : (t : Bool) (x y : ℕ) → bit_and x (256 ^ 1 - 1) ≡ x → bit_and y (256 ^ 1 - 1) ≡ y → select_of U8 (if t then 0 else 256 ^ 1 - 1) x y ≡ (if t then y else x)
    by true x y e f = chosen 1 x y false e f
    by false x y e f = chosen 1 x y true e f

-- ---- blends by an immediate

-- lane k of the mask
mask_at : (w imm k : ℕ) → 0 < 256 ^ w → k < 16 / w → lane w (mask w imm) k ≡ (if imm / 2 ^ k % 2 == 1 then 256 ^ w - 1 else 0)
unfolding mask
mask_at w imm k p l = lane-build w (16 / w) (λ i. if imm / 2 ^ i % 2 == 1 then 256 ^ w - 1 else 0) k l ∙ mod-eq_of_lt (by (imm / 2 ^ k % 2 == 1))
  where
    by : (b : Bool) → (if b then 256 ^ w - 1 else 0) < 256 ^ w
    by true = omega (arith, p)
    by false = p

by_mask : (w imm : ℕ) (a b : List ℕ) → 0 < 256 ^ w → IsRegister 16 a → IsRegister 16 b → ((x : ℕ) → x < 256 ^ w → bit_and x (256 ^ w - 1) ≡ x)
    → build w (16 / w) (λ k. bit_or (bit_and (lane w b k) (lane w (mask w imm) k)) (bit_and (lane w a k) (256 ^ w - 1 - lane w (mask w imm) k))) ≡ blend w a b imm
unfolding blend
by_mask w imm a b p h i bits =
    build_same w (16 / w) (λ k. bit_or (bit_and (lane w b k) (lane w (mask w imm) k)) (bit_and (lane w a k) (256 ^ w - 1 - lane w (mask w imm) k)))
    (λ k. if imm / 2 ^ k % 2 == 1 then lane w b k else lane w a k)
    (λ k l. ap (λ v. v % 256 ^ w)
    (ap (λ m. bit_or (bit_and (lane w b k) m) (bit_and (lane w a k) (256 ^ w - 1 - m))) (mask_at w imm k p l)
    ∙ chosen w (lane w b k) (lane w a k) (imm / 2 ^ k % 2 == 1) (bits (lane w b k) (lane_below w b k i.bytes)) (bits (lane w a k) (lane_below w a k h.bytes))))

pub blends_words : (imm : ℕ) (a b : List ℕ) → IsRegister 16 a → IsRegister 16 b → selected U16 (mask 2 imm) b a ≡ blend 2 a b imm
unfolding selected
blends_words imm a b h i = by_mask 2 imm a b (omega arith) h i all_bits_2

pub blends_dwords : (imm : ℕ) (a b : List ℕ) → IsRegister 16 a → IsRegister 16 b → selected U32 (mask 4 imm) b a ≡ blend 4 a b imm
unfolding selected
blends_dwords imm a b h i = by_mask 4 imm a b (omega arith) h i all_bits_4

pub mask_register : (w imm : ℕ) → IsWidth w → IsRegister 16 (mask w imm)
unfolding mask
mask_register w imm h = IsRegister-build w 16 (λ k. if imm / 2 ^ k % 2 == 1 then 256 ^ w - 1 else 0) h xmm

-- no bit, and all bits
no_bit : (k : ℕ) → (0 / 2 ^ k % 2 == 1) ≡ false
no_bit k = search (rules, arith)

pub blends_none : (w : ℕ) (a b : List ℕ) → IsRegister 16 a → 16 ≡ 16 / w * w → a ≡ blend w a b 0
unfolding blend
blends_none w a b h fill =
    sym (build_same w (16 / w) (λ k. if 0 / 2 ^ k % 2 == 1 then lane w b k else lane w a k) (lane w a) (λ k l. ap (λ t. (if t then lane w b k else lane w a k) % 256 ^ w) (no_bit k))
    ∙ build-lane w (16 / w) a h.bytes (h.size ∙ fill))

pub blends_all : (w imm : ℕ) (a b : List ℕ) → IsRegister 16 b → 16 ≡ 16 / w * w → all_below (16 / w) (λ k. imm / 2 ^ k % 2 == 1) ≡ true → b ≡ blend w a b imm
unfolding blend
blends_all w imm a b h fill bits =
    sym (build_same w (16 / w) (λ k. if imm / 2 ^ k % 2 == 1 then lane w b k else lane w a k) (lane w b)
    (λ k l. ap (λ t. (if t then lane w b k else lane w a k) % 256 ^ w) (told (16 / w) (λ k. imm / 2 ^ k % 2 == 1) bits k l))
    ∙ build-lane w (16 / w) b h.bytes (h.size ∙ fill))

-- ---- blends by halves

-- the lanes of a low half below those of a high half, where the bits say so
halves_blend : (w n imm : ℕ) (lo hi : List ℕ) (a b : List ℕ) → IsRegister 16 lo → IsRegister 16 hi → 16 / w ≡ n + n → n * w ≡ 8 → ((k : ℕ) → k < n → k * w + w ≤ 8)
    → ((k : ℕ) → k < n → (if imm / 2 ^ k % 2 == 1 then lane w b k else lane w a k) ≡ lane w lo k)
    → ((k : ℕ) → k < n → (if imm / 2 ^ (n + k) % 2 == 1 then lane w b (n + k) else lane w a (n + k)) ≡ lane w hi (n + k))
    → combined (half 0 lo) (half 1 hi) ≡ blend w a b imm
unfolding blend
halves_blend w n imm lo hi a b h i count fill inside low high =
    let g = λ (k : ℕ). if imm / 2 ^ k % 2 == 1 then lane w b k else lane w a k in
    let s = h.size in
    let t = i.size in
    halves_joined lo hi h i
    ∙ sym (ap (λ m. build w m (λ k. if imm / 2 ^ k % 2 == 1 then lane w b k else lane w a k)) count
    ∙ build-append w n n g
    ∙ ap (λ (z : List ℕ). z ++ build w n (λ k. g (n + k)))
    (build_same w n g (lane w (take 8 lo)) (λ k l. ap (λ v. v % 256 ^ w) (low k l ∙ sym (lane-take w 8 lo k (inside k l))))
    ∙ build-lane w n (take 8 lo) (Bytes-take 8 lo h.bytes) (omega (arith, length-take 8 lo, s, fill)))
    ∙ ap (λ (z : List ℕ). take 8 lo ++ z)
    (build_same w n (λ k. g (n + k)) (lane w (drop (n * w) hi)) (λ k l. ap (λ v. v % 256 ^ w) (high k l ∙ sym (lane-drop w n hi k)))
    ∙ ap (λ m. build w n (lane w (drop m hi))) fill
    ∙ build-lane w n (drop 8 hi) (Bytes-drop 8 hi i.bytes) (omega (arith, length-drop 8 hi, t, fill))))

-- by tests of the bits
bit_of : (w imm k : ℕ) (a b : List ℕ) (v : Bool) → (imm / 2 ^ k % 2 == 1) ≡ v → (if imm / 2 ^ k % 2 == 1 then lane w b k else lane w a k) ≡ lane w (if v then b else a) k
bit_of w imm k a b true e = ap (λ t. if t then lane w b k else lane w a k) e
bit_of w imm k a b false e = ap (λ t. if t then lane w b k else lane w a k) e

is_false : (b : Bool) → not b ≡ true → b ≡ false
is_false false h = refl
is_false true h = absurd (grind (arith, h))

pub low_words : (a b : List ℕ) → IsRegister 16 a → IsRegister 16 b → combined (half 0 b) (half 1 a) ≡ blend 2 a b 15
low_words a b h i =
    halves_blend 2 4 15 b a a b i h refl refl (λ k l. omega (arith, l)) (λ k l. bit_of 2 15 k a b true (told 4 (λ j. 15 / 2 ^ j % 2 == 1) refl k l))
    (λ k l. bit_of 2 15 (4 + k) a b false (is_false (15 / 2 ^ (4 + k) % 2 == 1) (told 4 (λ j. not (15 / 2 ^ (4 + j) % 2 == 1)) refl k l)))

pub high_words : (a b : List ℕ) → IsRegister 16 a → IsRegister 16 b → combined (half 0 a) (half 1 b) ≡ blend 2 a b 240
high_words a b h i =
    halves_blend 2 4 240 a b a b h i refl refl (λ k l. omega (arith, l)) (λ k l. bit_of 2 240 k a b false (is_false (240 / 2 ^ k % 2 == 1) (told 4 (λ j. not (240 / 2 ^ j % 2 == 1)) refl k l)))
    (λ k l. bit_of 2 240 (4 + k) a b true (told 4 (λ j. 240 / 2 ^ (4 + j) % 2 == 1) refl k l))

pub low_dwords : (a b : List ℕ) → IsRegister 16 a → IsRegister 16 b → combined (half 0 b) (half 1 a) ≡ blend 4 a b 3
low_dwords a b h i =
    halves_blend 4 2 3 b a a b i h refl refl (λ k l. omega (arith, l)) (λ k l. bit_of 4 3 k a b true (told 2 (λ j. 3 / 2 ^ j % 2 == 1) refl k l))
    (λ k l. bit_of 4 3 (2 + k) a b false (is_false (3 / 2 ^ (2 + k) % 2 == 1) (told 2 (λ j. not (3 / 2 ^ (2 + j) % 2 == 1)) refl k l)))

pub high_dwords : (a b : List ℕ) → IsRegister 16 a → IsRegister 16 b → combined (half 0 a) (half 1 b) ≡ blend 4 a b 12
high_dwords a b h i =
    halves_blend 4 2 12 a b a b h i refl refl (λ k l. omega (arith, l)) (λ k l. bit_of 4 12 k a b false (is_false (12 / 2 ^ k % 2 == 1) (told 2 (λ j. not (12 / 2 ^ j % 2 == 1)) refl k l)))
    (λ k l. bit_of 4 12 (2 + k) a b true (told 2 (λ j. 12 / 2 ^ (2 + j) % 2 == 1) refl k l))
