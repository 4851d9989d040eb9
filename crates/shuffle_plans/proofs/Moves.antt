-- Registers whose bytes are those of a selection.
use Rattle.std.proofs.Common.{◌≡◌, ℕ, zero, suc, ◌+◌, ◌-◌, ◌*◌, ◌/◌, ◌%◌, ◌^◌, ◌<◌, ◌≤◌, List, ◌++◌, length, map, get_or, take, drop, refl, ap, sym, ◌∙◌, arith, inl, inr}
use Rattle.std.proofs.lemmas.Bool.{cases_lt}
use Rattle.std.proofs.lemmas.Nat.{mod_below}
use Rattle.std.proofs.lemmas.Grind.{common_steps}
use Rattle.std.proofs.Math.Nat.{mod-eq_of_lt, mul-le-mul_right, zero-div, zero-mod}
use Rattle.std.proofs.Math.Seq.{take-append_seam, drop-append_seam}
use Rattle.lane_core.specs.Register.{IsWidth, Bytes, lane, build}
use Rattle.lane_core.proofs.Lanes.{width_pos, lanes_fill, lane_below, length-build, Bytes-build, lane-build, build_same, build-lane}
use Rattle.lane_core.proofs.Laws.{byte_of_lane, lanes_by_bytes}
use Rattle.price_choice.specs.declared.forms.Pick.{Pick}
use Rattle.price_choice.specs.declared.forms.Pick.TheVariants as pick
use Rattle.price_choice.specs.List.{numbers}
use Rattle.shuffle_plans.specs.Operands.{byte_picked, selected, picks, block}

numbered : (f : ℕ → Pick) (m n i : ℕ) → i < n → get_or (map f (numbers m n)) i pick.Zero ≡ f (m + i)
numbered f m zero i l = absurd (omega (arith, l))
numbered f m (suc n) zero l = let e : m ≡ m + 0 = omega arith in ap f e
numbered f m (suc n) (suc i) l = let e : m + 1 + i ≡ m + suc i = omega arith in numbered f (m + 1) n i (omega (arith, l)) ∙ ap f e

pub pick_there : (f : ℕ → Pick) (i : ℕ) → i < 16 → get_or (picks f) i pick.Zero ≡ f i
pick_there f i l = let e : 0 + i ≡ i = omega arith in numbered f 0 16 i l ∙ ap f e

-- a register whose bytes are those of the picks
pub picked_bytes : (f : ℕ → Pick) (g : ℕ → ℕ) (a b : List ℕ) → ((i : ℕ) → i < 16 → g i ≡ byte_picked a b (f i)) → build 1 16 g ≡ selected (picks f) a b
unfolding selected
picked_bytes f g a b h =
    build_same 1 16 g (λ i. byte_picked a b (get_or (picks f) i pick.Zero)) (λ i l. ap (λ x. x % 256 ^ 1) (h i l ∙ ap (byte_picked a b) (sym (pick_there f i l))))

below_quotient : (i w n : ℕ) → 0 < w → i < n * w → i / w < n
below_quotient i w n pos l = elim (cases_lt (i / w) n) [
  | inl b ↦ b
  | inr b ↦ let m : n * w ≤ i / w * w = mul-le-mul_right w b in let d : i / w * w ≤ i = omega arith in absurd (omega (arith, m, d, l))
]

-- the bytes of a register that is given by its lanes
pub by_bytes : (w n : ℕ) (g : ℕ → ℕ) → 0 < w → build w n g ≡ build 1 (n * w) (λ i. g (i / w) % 256 ^ w / 256 ^ (i % w) % 256)
by_bytes w n g pos =
    let r = build w n g in
    let bytes = Bytes-build w n g in
    let size : length r ≡ n * w = length-build w n g in
    sym (build-lane w n r bytes size)
    ∙ lanes_by_bytes w n r (λ k. k) pos bytes (λ k l. omega (arith, size, mul-le-mul_right w l))
    ∙ build_same 1 (n * w) (λ i. get_or r (i / w * w + i % w) 0) (λ i. g (i / w) % 256 ^ w / 256 ^ (i % w) % 256)
    (λ i l.
    ap (λ x. x % 256 ^ 1)
    (byte_of_lane w r (i / w) (i % w) bytes (mod_below i w pos)
    ∙ ap (λ x. x / 256 ^ (i % w) % 256) (lane-build w n g (i / w) (below_quotient i w n pos l))))

-- a register of lanes whose bytes are those of the picks
pub picked_lanes : (w : ℕ) (f : ℕ → Pick) (g : ℕ → ℕ) (a b : List ℕ) → IsWidth w
    → ((i : ℕ) → i < 16 → g (i / w) % 256 ^ w / 256 ^ (i % w) % 256 ≡ byte_picked a b (f i)) → build w (16 / w) g ≡ selected (picks f) a b
picked_lanes w f g a b width h =
    by_bytes w (16 / w) g (width_pos w width)
    ∙ ap (λ n. build 1 n (λ i. g (i / w) % 256 ^ w / 256 ^ (i % w) % 256)) (lanes_fill w 16 width (inr (inl refl)))
    ∙ picked_bytes f (λ i. g (i / w) % 256 ^ w / 256 ^ (i % w) % 256) a b h

-- the byte of a lane that was moved
pub moved_byte : (w : ℕ) (r : List ℕ) (k j : ℕ) → Bytes r → j < w → lane w r k % 256 ^ w / 256 ^ j % 256 ≡ get_or r (k * w + j) 0
moved_byte w r k j h l = ap (λ x. x / 256 ^ j % 256) (mod-eq_of_lt (lane_below w r k h)) ∙ sym (byte_of_lane w r k j h l)

pub zero_byte : (w j : ℕ) → 0 % 256 ^ w / 256 ^ j % 256 ≡ 0
zero_byte w j = ap (λ x. x / 256 ^ j % 256) (zero-mod (256 ^ w)) ∙ ap (λ x. x % 256) (zero-div (256 ^ j))

pub selected_length : (want : List Pick) (a b : List ℕ) → length (selected want a b) ≡ 16
unfolding selected
selected_length want a b = length-build 1 16 (λ i. byte_picked a b (get_or want i pick.Zero))

-- the blocks of two registers, one behind the other
pub low_block : (r s : List ℕ) → length r ≡ 16 → block 0 (r ++ s) ≡ r
low_block r s h = ap (λ n. take n (r ++ s)) (sym h) ∙ take-append_seam r s

pub high_block : (r s : List ℕ) → length r ≡ 16 → block 1 (r ++ s) ≡ s
high_block r s h = ap (λ n. drop n (r ++ s)) (sym h) ∙ drop-append_seam r s

pub left_byte : (r s : List ℕ) (p n : ℕ) → length r ≡ n → p < n → get_or (r ++ s) p 0 ≡ get_or r p 0
left_byte r s p n e l = grind (arith, common_steps)

pub right_byte : (r s : List ℕ) (p n : ℕ) → length r ≡ n → n ≤ p → get_or (r ++ s) p 0 ≡ get_or s (p - n) 0
right_byte r s p n e l = grind (arith, common_steps)
