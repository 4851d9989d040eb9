-- Each formula of a shuffle row has the bytes of its selection.
use Rattle.std.proofs.Common.{◌≡◌, ℕ, ◌+◌, ◌-◌, ◌*◌, ◌/◌, ◌%◌, ◌^◌, ◌<◌, ◌≤◌, List, ◌++◌, length, get_or, refl, ap, ◌∙◌, arith, rules, inl, inr, Bool, true, false}
use Rattle.std.specs.Prelude.{nat_lt, nat_le, if◌then◌else◌, ◌==◌}
use Rattle.std.proofs.lemmas.Bool.{cases_lt}
use Rattle.std.proofs.lemmas.Nat.{mod_below}
use Rattle.lane_core.specs.Register.{IsWidth, Bytes, lane, build}
use Rattle.lane_core.proofs.Lanes.{width_pos, lane_of_byte}
use Rattle.intel_lanes.specs.Blocks.{move_low, interleave, shuffle_dwords, shuffle_low, shuffle_high, bytes_up, bytes_down, align_right}
use Rattle.price_choice.specs.declared.forms.Pick.TheVariants.{A, B, Zero}
use Rattle.shuffle_plans.specs.Operands.{byte_picked, selected, picks}
use Rattle.shuffle_plans.specs.Selections.{low_pick, interleave_pick, dword_pick, low_word_pick, high_word_pick, up_pick, down_pick, align_pick, broadcast_pick}
use Rattle.shuffle_plans.proofs.Moves.{picked_bytes, picked_lanes, moved_byte, zero_byte, left_byte, right_byte}

dword : IsWidth 4
dword = inr (inr (inl refl))

word : IsWidth 2
word = inr (inl refl)

qword : IsWidth 8
qword = inr (inr (inr refl))

pub low_moved : (a b : List ℕ) → Bytes a → move_low a ≡ selected (picks low_pick) a b
unfolding move_low
low_moved a b h = picked_lanes 8 low_pick (λ k. if k == 0 then lane 8 a 0 else 0) a b qword (λ i l.
    elim (cases_lt i 8) [
      | inl s ↦
          let t : nat_lt i 8 ≡ true = search (rules, s) in
          let q : i / 8 ≡ 0 = omega (arith, s) in
          let m : i % 8 ≡ i = omega (arith, s) in
          let e : 0 * 8 + i ≡ i = omega arith in
          rw (t, q, m) (moved_byte 8 a 0 i h s ∙ ap (λ p. get_or a p 0) e)
      | inr s ↦
          let t : nat_lt i 8 ≡ false = search (rules, s) in
          let q : i / 8 ≡ 1 = omega (arith, s, l) in
          rw (t, q) (zero_byte 8 (i % 8))
    ])

turn : (c : Bool) (w p j : ℕ) (a b : List ℕ) → Bytes a → Bytes b → j < w → (if c then lane w a p else lane w b p) % 256 ^ w / 256 ^ j % 256 ≡ byte_picked a b (if c then A (p * w + j) else B (p * w + j))
turn true w p j a b h k l = moved_byte w a p j h l
turn false w p j a b h k l = moved_byte w b p j k l

pub interleaved : (first w : ℕ) (a b : List ℕ) → IsWidth w → Bytes a → Bytes b → interleave first w a b ≡ selected (picks (interleave_pick first w)) a b
unfolding interleave
interleaved first w a b width h k =
    picked_lanes w (interleave_pick first w) (λ k. if k % 2 == 0 then lane w a (first + k / 2) else lane w b (first + k / 2)) a b width
    (λ i l. turn (i / w % 2 == 0) w (first + i / w / 2) (i % w) a b h k (mod_below i w (width_pos w width)))

pub dwords_shuffled : (a b : List ℕ) (imm : ℕ) → Bytes a → shuffle_dwords a imm ≡ selected (picks (dword_pick imm)) a b
unfolding shuffle_dwords
dwords_shuffled a b imm h = picked_lanes 4 (dword_pick imm) (λ k. lane 4 a (imm / 4 ^ k % 4)) a b dword (λ i l. moved_byte 4 a (imm / 4 ^ (i / 4) % 4) (i % 4) h (mod_below i 4 (omega arith)))

-- a word in its place
kept_word : (a : List ℕ) (i : ℕ) → Bytes a → lane 2 a (i / 2) % 256 ^ 2 / 256 ^ (i % 2) % 256 ≡ get_or a i 0
kept_word a i h = let e : i / 2 * 2 + i % 2 ≡ i = omega arith in moved_byte 2 a (i / 2) (i % 2) h (mod_below i 2 (omega arith)) ∙ ap (λ p. get_or a p 0) e

low_words : (i : ℕ) → i < 8 → nat_lt (i / 2) 4 ≡ true
low_words i l = let s : i / 2 < 4 = omega (arith, l) in search (rules, s)

high_words : (i : ℕ) → 8 ≤ i → nat_lt (i / 2) 4 ≡ false
high_words i l = let s : 4 ≤ i / 2 = omega (arith, l) in search (rules, s)

pub low_shuffled : (a b : List ℕ) (imm : ℕ) → Bytes a → shuffle_low a imm ≡ selected (picks (low_word_pick imm)) a b
unfolding shuffle_low
low_shuffled a b imm h =
    picked_lanes 2 (low_word_pick imm) (λ k. if nat_lt k 4 then lane 2 a (imm / 4 ^ k % 4) else lane 2 a k) a b word (λ i l.
    elim (cases_lt i 8) [
      | inl s ↦ let t : nat_lt i 8 ≡ true = search (rules, s) in rw (t, low_words i s) (moved_byte 2 a (imm / 4 ^ (i / 2) % 4) (i % 2) h (mod_below i 2 (omega arith)))
      | inr s ↦ let t : nat_lt i 8 ≡ false = search (rules, s) in rw (t, high_words i s) (kept_word a i h)
    ])

pub high_shuffled : (a b : List ℕ) (imm : ℕ) → Bytes a → shuffle_high a imm ≡ selected (picks (high_word_pick imm)) a b
unfolding shuffle_high
high_shuffled a b imm h =
    picked_lanes 2 (high_word_pick imm) (λ k. if nat_lt k 4 then lane 2 a k else lane 2 a (4 + imm / 4 ^ (k - 4) % 4)) a b word (λ i l.
    elim (cases_lt i 8) [
      | inl s ↦ let t : nat_lt i 8 ≡ true = search (rules, s) in rw (t, low_words i s) (kept_word a i h)
      | inr s ↦ let t : nat_lt i 8 ≡ false = search (rules, s) in rw (t, high_words i s) (moved_byte 2 a (4 + imm / 4 ^ (i / 2 - 4) % 4) (i % 2) h (mod_below i 2 (omega arith)))
    ])

-- a byte, or zero
byte_or_zero : (c : Bool) (a b : List ℕ) (p : ℕ) → (if c then lane 1 a p else 0) ≡ byte_picked a b (if c then A p else Zero)
byte_or_zero true a b p = lane_of_byte a p
byte_or_zero false a b p = refl

pub moved_up : (a b : List ℕ) (imm : ℕ) → bytes_up a imm ≡ selected (picks (up_pick imm)) a b
unfolding bytes_up
moved_up a b imm = picked_bytes (up_pick imm) (λ k. if nat_le imm k then lane 1 a (k - imm) else 0) a b (λ i l. byte_or_zero (nat_le imm i) a b (i - imm))

pub moved_down : (a b : List ℕ) (imm : ℕ) → bytes_down a imm ≡ selected (picks (down_pick imm)) a b
unfolding bytes_down
moved_down a b imm = picked_bytes (down_pick imm) (λ k. if nat_lt (k + imm) 16 then lane 1 a (k + imm) else 0) a b (λ i l. byte_or_zero (nat_lt (i + imm) 16) a b (i + imm))

aligned_byte : (a b : List ℕ) (p : ℕ) → length b ≡ 16 → (if nat_lt p 32 then lane 1 (b ++ a) p else 0) ≡ byte_picked a b (if nat_lt p 16 then B p else (if nat_lt p 32 then A (p - 16) else Zero))
aligned_byte a b p h = elim (cases_lt p 16) [
  | inl s ↦
      let t : nat_lt p 16 ≡ true = search (rules, s) in
      let m : p < 32 = omega (arith, s) in
      let u : nat_lt p 32 ≡ true = search (rules, m) in
      rw (t, u) (lane_of_byte (b ++ a) p ∙ left_byte b a p 16 h s)
  | inr s ↦
      let t : nat_lt p 16 ≡ false = search (rules, s) in
      elim (cases_lt p 32) [
        | inl m ↦ let u : nat_lt p 32 ≡ true = search (rules, m) in rw (t, u) (lane_of_byte (b ++ a) p ∙ right_byte b a p 16 h s)
        | inr m ↦ let u : nat_lt p 32 ≡ false = search (rules, m) in rw (t, u) refl
      ]
]

pub aligned : (a b : List ℕ) (imm : ℕ) → length b ≡ 16 → align_right a b imm ≡ selected (picks (align_pick imm)) a b
unfolding align_right
aligned a b imm h = picked_bytes (align_pick imm) (λ k. if nat_lt (k + imm) 32 then lane 1 (b ++ a) (k + imm) else 0) a b (λ i l. aligned_byte a b (i + imm) h)

-- lane 0 in the 16 / w lanes of a block
pub broadcast_block : (w : ℕ) (a b : List ℕ) → IsWidth w → Bytes a → build w (16 / w) (λ k. lane w a 0) ≡ selected (picks (broadcast_pick w)) a b
broadcast_block w a b width h =
    picked_lanes w (broadcast_pick w) (λ k. lane w a 0) a b width (λ i l. let e : 0 * w + i % w ≡ i % w = omega arith in moved_byte w a 0 (i % w) h (mod_below i w (width_pos w width)) ∙ ap (λ p. get_or a p 0) e)
