-- Dwords shifted by dwords, where counts are cut to the width, or to one bit less.
use Rattle.std.proofs.Common.{◌≡◌, ℕ, zero, suc, ◌-◌, ◌*◌, ◌/◌, ◌%◌, ◌^◌, ◌<◌, ◌≤◌, List, true, false, refl, ap, sym, subst, ◌∙◌, arith, rules, ℤ, pos, negsuc, ◌-ℤ◌, inl, inr}
use Rattle.std.specs.Prelude.{nat_lt, int_lt, min, if◌then◌else◌}
use Rattle.std.specs.Int.{int_shr}
use Rattle.std.proofs.lemmas.Bool.{cases_lt}
use Rattle.std.proofs.lemmas.Bool.Decides.{nat_tests}
use Rattle.std.proofs.lemmas.Int.{ints}
use Rattle.std.proofs.Math.Nat.{mod-mod, mod-eq_of_lt, div-one, div-eq_of_lt}
use Rattle.lane_core.specs.declared.vector.NeonLane.TheVariants.{U32, S32}
use Rattle.lane_core.specs.Register.{IsRegister, lane, build, signed, wrapped}
use Rattle.lane_core.specs.Kernels.{map1_of, map2_of}
use Rattle.lane_core.proofs.Lanes.{lane-build, build_same, lane_below}
use Rattle.lane_core.proofs.Laws.{lane-map1, lane-map2, IsRegister-build}
use Rattle.lane_core.proofs.Signed.{signed_low, signed_high, wrapped-signed}
use Rattle.intel_lanes.specs.declared.lanes.Shift.{Shift}
use Rattle.intel_lanes.specs.declared.lanes.Shift.TheVariants.{Left, Right, Arithmetic}
use Rattle.intel_lanes.specs.declared.lanes.Lane2.TheVariants.{ShiftBy}
use Rattle.intel_lanes.specs.Lanes as intel
use Rattle.intel_lanes.specs.Blocks.{lanes2}
use Rattle.intel_lanes.specs.Laws.{dword, xmm}
use Rattle.neon_elements.specs.declared.elements.Unary.TheVariants.{Negate}
use Rattle.neon_elements.specs.declared.elements.Binary.TheVariants.{Min}
use Rattle.neon_elements.specs.Elements as neon
use Rattle.neon_elements.specs.Vectors.{each1, each2, shifted}
use Rattle.seq_arith.specs.Counts.{limit}

-- the lesser of a count and n
abbrev pub cut : ℕ → ℕ → ℕ
cut y n = if int_lt (pos n) (pos y) then n else y

-- a shift by a count from 0 to 32, read from a lane's low byte, and by one from -32 to 0
by_count : (n : ℕ) → n ≤ 32 → signed 1 (n % 256) ≡ pos n
by_count n h = let e : n % 256 ≡ n = omega (arith, h) in ap (signed 1) e ∙ signed_low 1 n (omega (arith, h))

by_negated : (n : ℕ) → n ≤ 32 → signed 1 (wrapped 4 (pos 0 -ℤ signed 4 n) % 256 ^ 4 % 256) ≡ pos 0 -ℤ pos n
unfolding wrapped
by_negated zero h = ap (λ (z : ℤ). signed 1 (wrapped 4 (pos 0 -ℤ z) % 256 ^ 4 % 256)) (signed_low 4 0 (omega arith)) ∙ signed_low 1 0 (omega arith)
by_negated (suc n) h =
    let e : pos 0 -ℤ pos (suc n) ≡ negsuc n = omega (arith, ints) in
    let m : (256 ^ 4 - 1 - n % 256 ^ 4) % 256 ^ 4 % 256 ≡ 255 - n = omega (arith, h) in
    ap (λ (z : ℤ). signed 1 (wrapped 4 (pos 0 -ℤ z) % 256 ^ 4 % 256)) (signed_low 4 (suc n) (omega (arith, h)))
    ∙ ap (λ (z : ℤ). signed 1 (wrapped 4 z % 256 ^ 4 % 256)) e
    ∙ ap (signed 1) m
    ∙ signed_high 1 (255 - n) (omega (arith, h))
    ∙ omega (arith, ints, h)

cut_low : (y n : ℕ) → y < n → cut y n ≡ y
cut_low y n h = let t : nat_lt n y ≡ false = let u : y ≤ n = omega (arith, h) in search (rules, u) in rw t refl

cut_high : (y n : ℕ) → n ≤ y → cut y n ≡ n
cut_high y n h = grind (arith, nat_tests, h)

left_lane : (x y : ℕ) → neon.shift_of U32 (pos (cut y 32)) x ≡ intel.shift_of Left 4 x y
left_lane x y = elim (cases_lt y 32) [
  | inl b ↦ ap (λ n. neon.shift_of U32 (pos n) x) (cut_low y 32 b)
  | inr b ↦ let t : nat_lt y 32 ≡ false = search (rules, b) in rw t (ap (λ n. neon.shift_of U32 (pos n) x) (cut_high y 32 b))
]

-- to the right by n, whatever the sign
right_by : (x n : ℕ) → x < 256 ^ 4 → n ≤ 32 → neon.shift_of U32 (pos 0 -ℤ pos n) x % 256 ^ 4 ≡ x / 2 ^ n % 256 ^ 4
unfolding wrapped
right_by x zero l h = ap (λ v. v % 256 ^ 4) (sym (div-one x ∙ omega arith))
right_by x (suc n) l h =
    let e : pos 0 -ℤ pos (suc n) ≡ negsuc n = omega (arith, ints) in
    let m : min (suc n) 32 ≡ suc n = omega (arith, h) in
    ap (λ (z : ℤ). neon.shift_of U32 z x % 256 ^ 4) e
    ∙ ap (λ j. x / 2 ^ j % 256 ^ 4 % 256 ^ 4) m
    ∙ mod-mod (x / 2 ^ suc n) (256 ^ 4)

right_lane : (x y : ℕ) → x < 256 ^ 4 → neon.shift_of U32 (pos 0 -ℤ pos (cut y 32)) x % 256 ^ 4 ≡ intel.shift_of Right 4 x y % 256 ^ 4
right_lane x y l = elim (cases_lt y 32) [
  | inl b ↦
      let t : nat_lt y 32 ≡ true = search (rules, b) in
      rw t (ap (λ n. neon.shift_of U32 (pos 0 -ℤ pos n) x % 256 ^ 4) (cut_low y 32 b) ∙ right_by x y l (omega (arith, b)))
  | inr b ↦
      let t : nat_lt y 32 ≡ false = search (rules, b) in
      rw t (ap (λ n. neon.shift_of U32 (pos 0 -ℤ pos n) x % 256 ^ 4) (cut_high y 32 b) ∙ right_by x 32 l (omega arith) ∙ ap (λ v. v % 256 ^ 4) (div-eq_of_lt l))
]

shr_none : (z : ℤ) → int_shr z 0 ≡ z
shr_none (pos n) = ap pos (div-one n)
shr_none (negsuc n) = ap negsuc (div-one n)

-- to the right by n with the sign
sign_by : (x n : ℕ) → x < 256 ^ 4 → n ≤ 31 → neon.shift_of S32 (pos 0 -ℤ pos n) x ≡ wrapped 4 (int_shr (signed 4 x) n)
sign_by x zero l h = let e : x * 2 ^ 0 ≡ x = omega arith in e ∙ sym (ap (wrapped 4) (shr_none (signed 4 x)) ∙ wrapped-signed 4 x l)
sign_by x (suc n) l h =
    let e : pos 0 -ℤ pos (suc n) ≡ negsuc n = omega (arith, ints) in
    let m : min (suc n) 32 ≡ suc n = omega (arith, h) in
    ap (λ (z : ℤ). neon.shift_of S32 z x) e ∙ ap (λ j. wrapped 4 (int_shr (signed 4 x) j)) m

arithmetic_lane : (x y : ℕ) → x < 256 ^ 4 → neon.shift_of S32 (pos 0 -ℤ pos (cut y 31)) x ≡ intel.shift_of Arithmetic 4 x y
arithmetic_lane x y l = elim (cases_lt y 31) [
  | inl b ↦
      let t : nat_lt y 32 ≡ true = let u : y < 32 = omega (arith, b) in search (rules, u) in
      rw t (ap (λ n. neon.shift_of S32 (pos 0 -ℤ pos n) x) (cut_low y 31 b) ∙ sign_by x y l (omega (arith, b)))
  | inr b ↦ ap (λ n. neon.shift_of S32 (pos 0 -ℤ pos n) x) (cut_high y 31 b) ∙ sign_by x 31 l (omega arith) ∙ ap (λ j. wrapped 4 (int_shr (signed 4 x) j)) (last y b)
]
  where
    last : (j : ℕ) → 31 ≤ j → 31 ≡ (if nat_lt j 32 then j else 31)
    last j h = elim (cases_lt j 32) [
      | inl b ↦ let t : nat_lt j 32 ≡ true = search (rules, b) in rw t (omega (arith, h, b))
      | inr b ↦ let t : nat_lt j 32 ≡ false = search (rules, b) in rw t refl
    ]

-- ---- registers

limit_32 : build 4 4 (λ k. 32) ≡ limit Left
unfolding build
limit_32 = refl

limit_31 : build 4 4 (λ k. 31) ≡ limit Arithmetic
unfolding build
limit_31 = refl

limit_is : (n : ℕ) (r : List ℕ) → n < 256 → build 4 4 (λ k. n) ≡ r → (k : ℕ) → k < 4 → lane 4 r k ≡ n
limit_is n r h e k l = ap (λ s. lane 4 s k) (sym e) ∙ lane-build 4 4 (λ k. n) k l ∙ mod-eq_of_lt (omega (arith, h))

cut_below : (y n : ℕ) → n ≤ 32 → cut y n ≤ n
cut_below y n h = elim (cases_lt y n) [
  | inl b ↦ subst (λ v. v ≤ n) (sym (cut_low y n b)) (omega (arith, b))
  | inr b ↦ subst (λ v. v ≤ n) (sym (cut_high y n b)) (omega arith)
]

-- the counts, cut to n
abbrev cuts : ℕ → List ℕ → List ℕ → List ℕ
cuts n b r = map2_of 4 16 (λ y o. if int_lt (pos o) (pos y) then o else y) b r

cut_lane : (n : ℕ) (b r : List ℕ) → n ≤ 32 → build 4 4 (λ k. n) ≡ r → (k : ℕ) → k < 4 → lane 4 (cuts n b r) k ≡ cut (lane 4 b k) n
cut_lane n b r h e k l =
    let u = cut_below (lane 4 b k) n h in
    lane-map2 4 16 (λ y o. if int_lt (pos o) (pos y) then o else y) b r k l
    ∙ ap (λ o. cut (lane 4 b k) o % 256 ^ 4) (limit_is n r (omega (arith, h)) e k l)
    ∙ mod-eq_of_lt (omega (arith, h, u))

negated_lane : (n : ℕ) (b r : List ℕ) → n ≤ 32 → build 4 4 (λ k. n) ≡ r → (k : ℕ) → k < 4
    → signed 1 (lane 4 (map1_of 4 16 (λ v. wrapped 4 (pos 0 -ℤ signed 4 v)) (cuts n b r)) k % 256) ≡ pos 0 -ℤ pos (cut (lane 4 b k) n)
negated_lane n b r h e k l =
    let u = cut_below (lane 4 b k) n h in
    ap (λ v. signed 1 (v % 256)) (lane-map1 4 16 (λ v. wrapped 4 (pos 0 -ℤ signed 4 v)) (cuts n b r) k l ∙ ap (λ v. wrapped 4 (pos 0 -ℤ signed 4 v) % 256 ^ 4) (cut_lane n b r h e k l))
    ∙ by_negated (cut (lane 4 b k) n) (omega (arith, h, u))

pub left_dwords : (a b : List ℕ) → IsRegister 16 a → IsRegister 16 b → shifted U32 a (each2 Min U32 b (limit Left)) ≡ lanes2 (ShiftBy Left) 4 a b
unfolding shifted each2 lanes2 map2_of
left_dwords a b h k =
    build_same 4 4 (λ j. neon.shift_of U32 (signed 1 (lane 4 (cuts 32 b (limit Left)) j % 256)) (lane 4 a j)) (λ j. intel.shift_of Left 4 (lane 4 a j) (lane 4 b j))
    (λ j l. ap (λ v. v % 256 ^ 4)
    (ap (λ z. neon.shift_of U32 z (lane 4 a j))
    (ap (λ v. signed 1 (v % 256)) (cut_lane 32 b (limit Left) (omega arith) limit_32 j l) ∙ by_count (cut (lane 4 b j) 32) (cut_below (lane 4 b j) 32 (omega arith)))
    ∙ left_lane (lane 4 a j) (lane 4 b j)))

pub right_dwords : (a b : List ℕ) → IsRegister 16 a → IsRegister 16 b → shifted U32 a (each1 Negate S32 (each2 Min U32 b (limit Right))) ≡ lanes2 (ShiftBy Right) 4 a b
unfolding shifted each1 each2 lanes2 map2_of
right_dwords a b h k =
    let c = map1_of 4 16 (λ v. wrapped 4 (pos 0 -ℤ signed 4 v)) (cuts 32 b (limit Right)) in
    build_same 4 4 (λ j. neon.shift_of U32 (signed 1 (lane 4 c j % 256)) (lane 4 a j)) (λ j. intel.shift_of Right 4 (lane 4 a j) (lane 4 b j))
    (λ j l.
    ap (λ z. neon.shift_of U32 z (lane 4 a j) % 256 ^ 4) (negated_lane 32 b (limit Right) (omega arith) limit_32 j l)
    ∙ right_lane (lane 4 a j) (lane 4 b j) (lane_below 4 a j h.bytes))

pub arithmetic_dwords : (a b : List ℕ) → IsRegister 16 a → IsRegister 16 b
    → shifted S32 a (each1 Negate S32 (each2 Min U32 b (limit Arithmetic))) ≡ lanes2 (ShiftBy Arithmetic) 4 a b
unfolding shifted each1 each2 lanes2 map2_of
arithmetic_dwords a b h k =
    let c = map1_of 4 16 (λ v. wrapped 4 (pos 0 -ℤ signed 4 v)) (cuts 31 b (limit Arithmetic)) in
    build_same 4 4 (λ j. neon.shift_of S32 (signed 1 (lane 4 c j % 256)) (lane 4 a j)) (λ j. intel.shift_of Arithmetic 4 (lane 4 a j) (lane 4 b j))
    (λ j l. ap (λ v. v % 256 ^ 4)
    (ap (λ z. neon.shift_of S32 z (lane 4 a j)) (negated_lane 31 b (limit Arithmetic) (omega arith) limit_31 j l)
    ∙ arithmetic_lane (lane 4 a j) (lane 4 b j) (lane_below 4 a j h.bytes)))

-- the limits are registers
pub limit_register : (s : Shift) → IsRegister 16 (limit s)
limit_register Left = subst (IsRegister 16) limit_32 (IsRegister-build 4 16 (λ k. 32) dword xmm)
limit_register Right = subst (IsRegister 16) limit_32 (IsRegister-build 4 16 (λ k. 32) dword xmm)
limit_register Arithmetic = subst (IsRegister 16) limit_31 (IsRegister-build 4 16 (λ k. 31) dword xmm)
