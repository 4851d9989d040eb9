-- What Intel's formula makes of lanes is what Arm's makes of them.
use Rattle.std.proofs.Common.{◌≡◌, ℕ, suc, ◌+◌, ◌-◌, ◌*◌, ◌/◌, ◌%◌, ◌^◌, ◌<◌, Bool, true, false, refl, ap, sym, ◌∙◌, arith, rules, inl, inr}
use Rattle.std.specs.Prelude.{ℤ, pos, negsuc, ◌+ℤ◌, ◌-ℤ◌, ◌≤ℤ◌, ◌<ℤ◌, min, max, nat_lt, int_lt, if◌then◌else◌, List, length}
use Rattle.std.specs.Int.{int_shr}
use Rattle.std.proofs.lemmas.Bool.{cases_lt}
use Rattle.std.proofs.lemmas.Bool.Decides.{nat_tests}
use Rattle.std.proofs.lemmas.Int.{ints}
use Rattle.std.proofs.Math.Nat.{mod-mod, div-eq_of_lt, div-one}
use Rattle.lane_core.specs.Register.{Bytes, signed, wrapped, lane}
use Rattle.lane_core.specs.Kernels.{map1_of}
use Rattle.lane_core.proofs.Lanes.{lane_below, build_same, build-lane}
use Rattle.lane_core.proofs.Signed.{wrapped-signed, signed_least, signed_greatest}
use Rattle.intel_lanes.specs.declared.lanes.Shift.{Shift}
use Rattle.intel_lanes.specs.declared.lanes.Shift.TheVariants.{Left, Right, Arithmetic}
use Rattle.intel_lanes.specs.Lanes.{saturate, saturate_unsigned, shift_of}
use Rattle.neon_elements.specs.Elements.{signed_sat, unsigned_sat, abs_of}

-- ---- saturation, averages

pub saturate_is : (w : ℕ) (z : ℤ) → saturate w z ≡ signed_sat w z
unfolding saturate signed_sat
saturate_is w (pos n) = refl
saturate_is w (negsuc n) = omega arith

pub saturate_unsigned_is : (w : ℕ) (z : ℤ) → saturate_unsigned w z ≡ unsigned_sat w z
unfolding saturate_unsigned unsigned_sat
saturate_unsigned_is w (pos n) = refl
saturate_unsigned_is w (negsuc n) = refl

pub average_is : (w x y : ℕ) → (x + y + 1) / 2 % 256 ^ w ≡ wrapped w (int_shr (pos x +ℤ pos y +ℤ pos 1) 1) % 256 ^ w
unfolding wrapped
average_is w x y = sym (mod-mod ((x + y + 1) / 2) (256 ^ w))

-- ---- the lesser and the greater

-- of two numbers, the one or the other first
either_first : (a b : ℤ) (x y : ℕ) → (a ≡ b → x ≡ y) → (if int_lt a b then x else y) ≡ (if int_lt b a then y else x)
either_first a b x y same = go (int_lt a b) (int_lt b a) refl refl
  where
    both : int_lt a b ≡ true → int_lt b a ≡ true → ⊥
    both p q = grind (arith, ints, p, q)

    neither : int_lt a b ≡ false → int_lt b a ≡ false → a ≡ b
    neither p q = omega (arith, ints, p, q)

    go : (p q : Bool) → int_lt a b ≡ p → int_lt b a ≡ q → (if p then x else y) ≡ (if q then y else x)
    go true true i j = absurd (both i j)
    go true false i j = refl
    go false true i j = refl
    go false false i j = sym (same (neither i j))

pub min_is : (w x y : ℕ) → x < 256 ^ w → y < 256 ^ w → (if int_lt (signed w x) (signed w y) then x else y) ≡ (if int_lt (signed w y) (signed w x) then y else x)
min_is w x y h k = either_first (signed w x) (signed w y) x y (λ e. sym (wrapped-signed w x h) ∙ ap (wrapped w) e ∙ wrapped-signed w y k)

pub min_unsigned_is : (x y : ℕ) → min x y ≡ (if int_lt (pos y) (pos x) then y else x)
min_unsigned_is x y = grind (arith, nat_tests)

pub max_unsigned_is : (x y : ℕ) → max x y ≡ (if int_lt (pos x) (pos y) then y else x)
max_unsigned_is x y = grind (arith, nat_tests)

-- ---- one lane

absolute_by : (b : Bool) (w x : ℕ) → wrapped w (signed w x) ≡ x → (if b then wrapped w (pos 0 -ℤ signed w x) else x) ≡ wrapped w (if b then pos 0 -ℤ signed w x else signed w x)
absolute_by true w x e = refl
absolute_by false w x e = sym e

pub absolute_is : (w x : ℕ) → x < 256 ^ w → (if int_lt (signed w x) (pos 0) then wrapped w (pos 0 -ℤ signed w x) else x) ≡ wrapped w (abs_of (signed w x))
absolute_is w x h = absolute_by (int_lt (signed w x) (pos 0)) w x (wrapped-signed w x h)

-- ---- shifts

-- by nothing
shr_none : (z : ℤ) → int_shr z 0 ≡ z
shr_none (pos n) = ap pos (div-one n)
shr_none (negsuc n) = ap negsuc (div-one n)

shift_none : (op : Shift) (w x : ℕ) → 0 < w → x < 256 ^ w → shift_of op w x 0 ≡ x
shift_none Left w x h l = let t : nat_lt 0 (8 * w) ≡ true = let u : 0 < 8 * w = omega (arith, h) in search (rules, u) in rw t (omega arith)
shift_none Right w x h l = let t : nat_lt 0 (8 * w) ≡ true = let u : 0 < 8 * w = omega (arith, h) in search (rules, u) in rw t (div-one x)
shift_none Arithmetic w x h l =
    let t : nat_lt 0 (8 * w) ≡ true = let u : 0 < 8 * w = omega (arith, h) in search (rules, u) in
    rw t (ap (wrapped w) (shr_none (signed w x)) ∙ wrapped-signed w x l)

pub none_shifted : (op : Shift) (w n : ℕ) (a : List ℕ) → 0 < w → Bytes a → length a ≡ n / w * w → map1_of w n (λ x. shift_of op w x 0) a ≡ a
unfolding map1_of
none_shifted op w n a p h len =
    build_same w (n / w) (λ k. shift_of op w (lane w a k) 0) (lane w a) (λ k l. ap (λ x. x % 256 ^ w) (shift_none op w (lane w a k) p (lane_below w a k h)))
    ∙ build-lane w (n / w) a h len

-- to the right, by less than the width
pub right_is : (w n x : ℕ) → nat_lt n (8 * w) ≡ true → shift_of Right w x n % 256 ^ w ≡ wrapped w (int_shr (pos x) (min n (8 * w))) % 256 ^ w
unfolding wrapped
right_is w n x t =
    let m : min n (8 * w) ≡ n = grind (arith, nat_tests, t) in
    rw (t, m) (sym (mod-mod (x / 2 ^ n) (256 ^ w)))

-- a shift by the width or more leaves the sign, as a shift by all bits but one does
shr_all : (z : ℤ) (m : ℕ) → (pos 0 -ℤ pos (2 ^ m)) ≤ℤ z → z <ℤ pos (2 ^ m) → int_shr z m ≡ int_shr z (suc m)
shr_all (pos n) m l g =
    let b : n < 2 ^ m = omega (arith, ints, g) in
    let c : n < 2 ^ suc m = omega (arith, b) in
    ap pos (div-eq_of_lt b ∙ sym (div-eq_of_lt c))
shr_all (negsuc n) m l g =
    let b : n < 2 ^ m = omega (arith, ints, l) in
    let c : n < 2 ^ suc m = omega (arith, b) in
    ap negsuc (div-eq_of_lt b ∙ sym (div-eq_of_lt c))

pub arithmetic_is : (w n x : ℕ) → 0 < w → x < 256 ^ w → shift_of Arithmetic w x n ≡ wrapped w (int_shr (signed w x) (min (min n (8 * w)) (8 * w)))
arithmetic_is w n x p h =
    elim (cases_lt n (8 * w)) [
      | inl b ↦
          let t : nat_lt n (8 * w) ≡ true = search (rules, b) in
          let m : min (min n (8 * w)) (8 * w) ≡ n = omega (arith, b) in
          rw (t, m) refl
      | inr b ↦
          let t : nat_lt n (8 * w) ≡ false = search (rules, b) in
          let m : min (min n (8 * w)) (8 * w) ≡ suc (8 * w - 1) = omega (arith, b, p) in
          rw (t, m) (ap (wrapped w) (shr_all (signed w x) (8 * w - 1) (signed_least w x p) (signed_greatest w x p h)))
    ]
