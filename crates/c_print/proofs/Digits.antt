-- The digits of a number in base 16 are those of its bytes, two for each.
use Rattle.std.proofs.Common.{◌≡◌, ◌∙◌, ℕ, zero, suc, ◌*◌, ◌/◌, ◌%◌, ◌^◌, ◌<◌, ◌==◌, Bool, true, ◌&&◌, inl, inr, List, ◌∷◌, slice_index, refl, sym, ap, arith}
use Rattle.std.proofs.lemmas.Bool.{and_parts, cases_lt, eqb-true}
use Rattle.std.proofs.Math.Nat.{div-div-eq-div-mul}
use Rattle.std.specs.Int.{w64, to_be_bytes}
use Rattle.hex.specs.Hex.{lower_digits, encode_lower, encode_with}
use Rattle.c_print.specs.Constants.{hex_digit, hex_digits}

-- the digits below n are those of the table, by a test that computes
abbrev same_below : ℕ → Bool
same_below zero = true
same_below (suc n) = (slice_index lower_digits n == hex_digit n) && same_below n

same_at : (n k : ℕ) → same_below n ≡ true → k < n → slice_index lower_digits k ≡ hex_digit k
same_at zero k h lt = absurd (omega arith)
same_at (suc n) k h lt =
    let parts = and_parts (slice_index lower_digits n == hex_digit n) (same_below n) h in
    elim (cases_lt k n) [
      | inl below ↦ same_at n k parts.1 below
      | inr top ↦
          let e : k ≡ n = omega arith in
          rw e (eqb-true (slice_index lower_digits n) (hex_digit n) parts.0)
    ]

digit : (d : ℕ) → d < 16 → slice_index lower_digits d ≡ hex_digit d
digit d lt = same_at 16 d refl lt

-- the digits of a byte, which is a number's part from this unit on
high : (n unit : ℕ) → slice_index lower_digits (n / unit % 256 / 16) ≡ hex_digit (n / (unit * 16) % 16)
high n unit =
    let e : n / unit % 256 / 16 ≡ n / (unit * 16) % 16 = rw (sym (div-div-eq-div-mul n unit 16)) (omega arith) in
    rw e (digit (n / (unit * 16) % 16) (omega arith))

low : (n unit : ℕ) → slice_index lower_digits (n / unit % 256 % 16) ≡ hex_digit (n / unit % 16)
low n unit =
    let e : n / unit % 256 % 16 ≡ n / unit % 16 = omega arith in
    rw e (digit (n / unit % 16) (omega arith))

-- the lowest byte
lowest_high : (n : ℕ) → slice_index lower_digits (n % 256 / 16) ≡ hex_digit (n / 16 % 16)
lowest_high n = let e : n % 256 / 16 ≡ n / 16 % 16 = omega arith in rw e (digit (n / 16 % 16) (omega arith))

lowest_low : (n : ℕ) → slice_index lower_digits (n % 256 % 16) ≡ hex_digit (n / 1 % 16)
lowest_low n = let e : n % 256 % 16 ≡ n / 1 % 16 = omega arith in rw e (digit (n / 1 % 16) (omega arith))

two_more : {a b c d : ℕ} {xs ys : List ℕ} → a ≡ c → b ≡ d → xs ≡ ys → a ∷ b ∷ xs ≡ c ∷ d ∷ ys
two_more {a} {b} {c} {d} {xs} {ys} e f g = ap (λ x. x ∷ b ∷ xs) e ∙ ap (λ x. c ∷ x ∷ xs) f ∙ ap (λ l. c ∷ d ∷ l) g

pub digits_of_bytes : (n : ℕ) → encode_lower (to_be_bytes w64 n) ≡ hex_digits 16 n
unfolding encode_with hex_digits
digits_of_bytes n =
    two_more (high n (256 ^ 7)) (low n (256 ^ 7)) (two_more (high n (256 ^ 6)) (low n (256 ^ 6))
    (two_more (high n (256 ^ 5)) (low n (256 ^ 5)) (two_more (high n (256 ^ 4)) (low n (256 ^ 4))
    (two_more (high n (256 ^ 3)) (low n (256 ^ 3)) (two_more (high n (256 ^ 2)) (low n (256 ^ 2))
    (two_more (high n 256) (low n 256) (two_more (lowest_high n) (lowest_low n) refl)))))))
