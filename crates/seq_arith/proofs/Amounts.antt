-- Lanes shifted by counts that are cut to 64.
use Rattle.std.proofs.Common.{◌≡◌, ℕ, zero, suc, ◌-◌, ◌*◌, ◌/◌, ◌%◌, ◌^◌, ◌<◌, ◌≤◌, List, true, false, refl, ap, sym, subst, ◌∙◌, arith, rules, ℤ, pos, negsuc, ◌-ℤ◌, inl, inr}
use Rattle.std.specs.Prelude.{nat_lt, min, if◌then◌else◌}
use Rattle.std.specs.Int.{int_shr}
use Rattle.std.proofs.lemmas.Bool.{cases_lt}
use Rattle.std.proofs.lemmas.Int.{ints}
use Rattle.std.proofs.Math.Nat.{mod-mod, mod-eq_of_lt, div-one, div-eq_of_lt}
use Rattle.lane_core.specs.declared.vector.NeonLane.{NeonLane}
use Rattle.lane_core.specs.declared.vector.NeonLane.TheVariants.{U64, S64}
use Rattle.lane_core.specs.Register.{Bytes, IsRegister, lane, build, signed, wrapped}
use Rattle.lane_core.specs.Kernels.{map1_of, map2_of}
use Rattle.lane_core.proofs.Lanes.{lane-build, build_same, lane_below, Bytes-build}
use Rattle.lane_core.proofs.Laws.{lane-map2, lane_low, IsRegister-build}
use Rattle.lane_core.proofs.Signed.{signed_low, signed_high, wrapped-signed, size_in_bits}
use Rattle.intel_lanes.specs.declared.lanes.Shift.{Shift}
use Rattle.intel_lanes.specs.declared.lanes.Shift.TheVariants.{Left, Right, Arithmetic}
use Rattle.intel_lanes.specs.declared.lanes.Lane2.TheVariants.{ShiftBy}
use Rattle.intel_lanes.specs.Lanes as intel
use Rattle.intel_lanes.specs.Blocks as blocks
use Rattle.intel_lanes.specs.Laws.{qword, xmm}
use Rattle.neon_elements.specs.Elements as neon
use Rattle.neon_elements.specs.Elements.{bytes_of, has_sign, unsigned_sat}
use Rattle.neon_elements.specs.Vectors.{shifted}
use Rattle.seq_arith.specs.Counts.{sixty_four}
use Rattle.seq_arith.proofs.Kernels.{arithmetic_is}

-- ---- counts

-- a count cut to 64
abbrev pub cut : ℕ → ℕ
cut y = if nat_lt y 64 then y else 64

cut_low : (y : ℕ) → y < 64 → cut y ≡ y
cut_low y h = let t : nat_lt y 64 ≡ true = search (rules, h) in rw t refl

cut_high : (y : ℕ) → 64 ≤ y → cut y ≡ 64
cut_high y h = let t : nat_lt y 64 ≡ false = search (rules, h) in rw t refl

cut_below : (y : ℕ) → cut y ≤ 64
cut_below y = elim (cases_lt y 64) [
  | inl b ↦ subst (λ v. v ≤ 64) (sym (cut_low y b)) (omega (arith, b))
  | inr b ↦ subst (λ v. v ≤ 64) (sym (cut_high y b)) (omega arith)
]

-- what a row that shifts by signed counts is given: negative ones shift to the right
abbrev pub amount_of : Shift → ℕ → ℤ
amount_of Left y = pos (cut y)
amount_of Right y = pos 0 -ℤ pos (cut y)
amount_of Arithmetic y = pos 0 -ℤ pos (cut y)

excess_is : (y : ℕ) → y < 256 ^ 8 → unsigned_sat 8 (pos y -ℤ pos 64) ≡ y - 64
unfolding unsigned_sat
excess_is y h = elim (cases_lt y 64) [
  | inl b ↦ let e : pos y -ℤ pos 64 ≡ negsuc (63 - y) = omega (arith, ints, b) in rw e (omega (arith, b))
  | inr b ↦ let e : pos y -ℤ pos 64 ≡ pos (y - 64) = omega (arith, ints, b) in rw e (omega (arith, h))
]

-- the count that a row reads from a lane's low byte
low_byte : (n : ℕ) → n ≤ 64 → signed 1 (wrapped 8 (pos n) % 256 ^ 8 % 256) ≡ pos n
unfolding wrapped
low_byte n h = let e : n % 256 ^ 8 % 256 ^ 8 % 256 ≡ n = omega (arith, h) in ap (signed 1) e ∙ signed_low 1 n (omega (arith, h))

low_byte_negated : (n : ℕ) → n ≤ 64 → signed 1 (wrapped 8 (pos 0 -ℤ pos n) % 256 ^ 8 % 256) ≡ pos 0 -ℤ pos n
unfolding wrapped
low_byte_negated zero h = signed_low 1 0 (omega arith)
low_byte_negated (suc n) h =
    let e : pos 0 -ℤ pos (suc n) ≡ negsuc n = omega (arith, ints) in
    let m : (256 ^ 8 - 1 - n % 256 ^ 8) % 256 ^ 8 % 256 ≡ 255 - n = omega (arith, h) in
    ap (λ (z : ℤ). signed 1 (wrapped 8 z % 256 ^ 8 % 256)) e
    ∙ ap (signed 1) m
    ∙ signed_high 1 (255 - n) (omega (arith, h))
    ∙ omega (arith, ints, h)

left_rest : (y : ℕ) → pos y -ℤ pos (y - 64) ≡ pos (cut y)
left_rest y = elim (cases_lt y 64) [
  | inl b ↦ omega (arith, ints, b) ∙ ap pos (sym (cut_low y b))
  | inr b ↦ omega (arith, ints, b) ∙ ap pos (sym (cut_high y b))
]

right_rest : (y : ℕ) → pos (y - 64) -ℤ pos y ≡ pos 0 -ℤ pos (cut y)
right_rest y = elim (cases_lt y 64) [
  | inl b ↦ omega (arith, ints, b) ∙ ap (λ n. pos 0 -ℤ pos n) (sym (cut_low y b))
  | inr b ↦ omega (arith, ints, b) ∙ ap (λ n. pos 0 -ℤ pos n) (sym (cut_high y b))
]

-- ---- lanes

-- the elements that a shift works on
abbrev pub Suits : Shift → NeonLane → Type 0
Suits Left t = bytes_of t ≤ 8
Suits Right t = (bytes_of t ≤ 8) × (0 < bytes_of t) × (has_sign t ≡ false)
Suits Arithmetic t = (bytes_of t ≤ 8) × (0 < bytes_of t) × (has_sign t ≡ true)

left_lane : (t : NeonLane) (x y : ℕ) → bytes_of t ≤ 8 → neon.shift_of t (pos (cut y)) x ≡ intel.shift_of Left (bytes_of t) x y
left_lane t x y h = elim (cases_lt y 64) [
  | inl b ↦ ap (λ n. neon.shift_of t (pos n) x) (cut_low y b)
  | inr b ↦
      let e : nat_lt 64 (8 * bytes_of t) ≡ false = let u : 8 * bytes_of t ≤ 64 = omega (arith, h) in search (rules, u) in
      let f : nat_lt y (8 * bytes_of t) ≡ false = let u : 8 * bytes_of t ≤ y = omega (arith, h, b) in search (rules, u) in
      ap (λ n. neon.shift_of t (pos n) x) (cut_high y b) ∙ rw (e, f) refl
]

-- by nothing
none : (t : NeonLane) (x : ℕ) → 0 < bytes_of t → neon.shift_of t (pos 0) x ≡ x
none t x h = let e : nat_lt 0 (8 * bytes_of t) ≡ true = let u : 0 < 8 * bytes_of t = omega (arith, h) in search (rules, u) in rw e (omega arith)

right_by : (t : NeonLane) (x n : ℕ) → 0 < bytes_of t → has_sign t ≡ false
    → neon.shift_of t (pos 0 -ℤ pos n) x % 256 ^ bytes_of t ≡ x / 2 ^ min n (8 * bytes_of t) % 256 ^ bytes_of t
unfolding wrapped
right_by t x zero p s =
    let m : min 0 (8 * bytes_of t) ≡ 0 = omega arith in
    ap (λ v. v % 256 ^ bytes_of t) (none t x p ∙ sym (ap (λ j. x / 2 ^ j) m ∙ div-one x))
right_by t x (suc n) p s =
    let e : pos 0 -ℤ pos (suc n) ≡ negsuc n = omega (arith, ints) in
    ap (λ (z : ℤ). neon.shift_of t z x % 256 ^ bytes_of t) e
    ∙ rw s (mod-mod (x / 2 ^ min (suc n) (8 * bytes_of t)) (256 ^ bytes_of t))

right_lane : (t : NeonLane) (x y : ℕ) → bytes_of t ≤ 8 → 0 < bytes_of t → has_sign t ≡ false → x < 256 ^ bytes_of t
    → neon.shift_of t (pos 0 -ℤ pos (cut y)) x % 256 ^ bytes_of t ≡ intel.shift_of Right (bytes_of t) x y % 256 ^ bytes_of t
right_lane t x y h p s l = right_by t x (cut y) p s ∙ ap (λ v. v % 256 ^ bytes_of t) (elim (cases_lt y (8 * bytes_of t)) [
  | inl b ↦
      let e : nat_lt y (8 * bytes_of t) ≡ true = search (rules, b) in
      let c : cut y ≡ y = cut_low y (omega (arith, h, b)) in
      let m : min (cut y) (8 * bytes_of t) ≡ y = omega (arith, b, c) in
      ap (λ j. x / 2 ^ j) m ∙ rw e refl
  | inr b ↦
      let e : nat_lt y (8 * bytes_of t) ≡ false = search (rules, b) in
      let m : min (cut y) (8 * bytes_of t) ≡ 8 * bytes_of t = elim (cases_lt y 64) [
        | inl d ↦ let c = cut_low y d in omega (arith, b, c)
        | inr d ↦ let c = cut_high y d in omega (arith, h, c)
      ] in
      ap (λ j. x / 2 ^ j) m ∙ ap (λ j. x / j) (size_in_bits (bytes_of t)) ∙ div-eq_of_lt l ∙ rw e refl
])

shr_none : (z : ℤ) → int_shr z 0 ≡ z
shr_none (pos n) = ap pos (div-one n)
shr_none (negsuc n) = ap negsuc (div-one n)

sign_by : (t : NeonLane) (x n : ℕ) → 0 < bytes_of t → has_sign t ≡ true → x < 256 ^ bytes_of t
    → neon.shift_of t (pos 0 -ℤ pos n) x ≡ wrapped (bytes_of t) (int_shr (signed (bytes_of t) x) (min n (8 * bytes_of t)))
sign_by t x zero p s l =
    let m : min 0 (8 * bytes_of t) ≡ 0 = omega arith in
    none t x p
    ∙ sym (ap (λ j. wrapped (bytes_of t) (int_shr (signed (bytes_of t) x) j)) m ∙ ap (wrapped (bytes_of t)) (shr_none (signed (bytes_of t) x)) ∙ wrapped-signed (bytes_of t) x l)
sign_by t x (suc n) p s l =
    let e : pos 0 -ℤ pos (suc n) ≡ negsuc n = omega (arith, ints) in
    ap (λ (z : ℤ). neon.shift_of t z x) e ∙ rw s refl

arithmetic_lane : (t : NeonLane) (x y : ℕ) → bytes_of t ≤ 8 → 0 < bytes_of t → has_sign t ≡ true → x < 256 ^ bytes_of t
    → neon.shift_of t (pos 0 -ℤ pos (cut y)) x ≡ intel.shift_of Arithmetic (bytes_of t) x y
arithmetic_lane t x y h p s l =
    let m : min (cut y) (8 * bytes_of t) ≡ min (min y (8 * bytes_of t)) (8 * bytes_of t) = elim (cases_lt y 64) [
      | inl d ↦ let c = cut_low y d in omega (arith, c)
      | inr d ↦ let c = cut_high y d in omega (arith, h, c, d)
    ] in
    sign_by t x (cut y) p s l
    ∙ ap (λ j. wrapped (bytes_of t) (int_shr (signed (bytes_of t) x) j)) m
    ∙ sym (arithmetic_is (bytes_of t) y x p l)

lane_law : (s : Shift) (t : NeonLane) (x y : ℕ) → Suits s t → x < 256 ^ bytes_of t
    → neon.shift_of t (amount_of s y) x % 256 ^ bytes_of t ≡ intel.shift_of s (bytes_of t) x y % 256 ^ bytes_of t
lane_law Left t x y h l = ap (λ v. v % 256 ^ bytes_of t) (left_lane t x y h)
lane_law Right t x y h l = right_lane t x y h.0 h.1 h.2 l
lane_law Arithmetic t x y h l = ap (λ v. v % 256 ^ bytes_of t) (arithmetic_lane t x y h.0 h.1 h.2 l)

-- ---- registers

-- a shift by a vector whose low bytes are the amounts of y
moved_lanes : (s : Shift) (t : NeonLane) (a c : List ℕ) (y : ℕ → ℕ) → Suits s t → IsRegister 16 a
    → ((k : ℕ) → k < 16 / bytes_of t → signed 1 (lane (bytes_of t) c k % 256) ≡ amount_of s (y k))
    → shifted t a c ≡ build (bytes_of t) (16 / bytes_of t) (λ k. intel.shift_of s (bytes_of t) (lane (bytes_of t) a k) (y k))
unfolding shifted map2_of
moved_lanes s t a c y h r e =
    let w = bytes_of t in
    build_same w (16 / w) (λ k. neon.shift_of t (signed 1 (lane w c k % 256)) (lane w a k)) (λ k. intel.shift_of s w (lane w a k) (y k))
    (λ k l. ap (λ z. neon.shift_of t z (lane w a k) % 256 ^ w) (e k l) ∙ lane_law s t (lane w a k) (y k) h (lane_below w a k r.bytes))

-- the vector of amounts
abbrev pub over : List ℕ → List ℕ
over b = map2_of 8 16 (λ x y. unsigned_sat 8 (pos x -ℤ pos y)) b sixty_four

abbrev pub amounts_of : Shift → List ℕ → List ℕ
amounts_of Left b = map2_of 8 16 (λ x y. wrapped 8 (pos x -ℤ pos y)) b (over b)
amounts_of Right b = map2_of 8 16 (λ x y. wrapped 8 (pos x -ℤ pos y)) (over b) b
amounts_of Arithmetic b = map2_of 8 16 (λ x y. wrapped 8 (pos x -ℤ pos y)) (over b) b

sixty_fours : build 8 2 (λ k. 64) ≡ sixty_four
unfolding build
sixty_fours = refl

pub sixty_four_register : IsRegister 16 sixty_four
sixty_four_register = subst (IsRegister 16) sixty_fours (IsRegister-build 8 16 (λ k. 64) qword xmm)

limit_lane : (k : ℕ) → k < 2 → lane 8 sixty_four k ≡ 64
limit_lane k l = ap (λ r. lane 8 r k) (sym sixty_fours) ∙ lane-build 8 2 (λ k. 64) k l ∙ mod-eq_of_lt {m = 256 ^ 8} (omega arith)

over_lane : (b : List ℕ) (k : ℕ) → IsRegister 16 b → k < 2 → lane 8 (over b) k ≡ lane 8 b k - 64
over_lane b k h l =
    let small : lane 8 b k < 256 ^ 8 = lane_below 8 b k h.bytes in
    lane-map2 8 16 (λ x y. unsigned_sat 8 (pos x -ℤ pos y)) b sixty_four k l
    ∙ ap (λ n. unsigned_sat 8 (pos (lane 8 b k) -ℤ pos n) % 256 ^ 8) (limit_lane k l)
    ∙ ap (λ n. n % 256 ^ 8) (excess_is (lane 8 b k) small)
    ∙ mod-eq_of_lt (omega (arith, small))

left_amount : (b : List ℕ) (k : ℕ) → IsRegister 16 b → k < 2 → signed 1 (lane 8 (amounts_of Left b) k % 256) ≡ pos (cut (lane 8 b k))
left_amount b k h l =
    let y = lane 8 b k in
    ap (λ v. signed 1 (v % 256)) (lane-map2 8 16 (λ x y. wrapped 8 (pos x -ℤ pos y)) b (over b) k l)
    ∙ ap (λ n. signed 1 (wrapped 8 (pos y -ℤ pos n) % 256 ^ 8 % 256)) (over_lane b k h l)
    ∙ ap (λ (z : ℤ). signed 1 (wrapped 8 z % 256 ^ 8 % 256)) (left_rest y)
    ∙ low_byte (cut y) (cut_below y)

right_amount : (b : List ℕ) (k : ℕ) → IsRegister 16 b → k < 2 → signed 1 (lane 8 (amounts_of Right b) k % 256) ≡ pos 0 -ℤ pos (cut (lane 8 b k))
right_amount b k h l =
    let y = lane 8 b k in
    ap (λ v. signed 1 (v % 256)) (lane-map2 8 16 (λ x y. wrapped 8 (pos x -ℤ pos y)) (over b) b k l)
    ∙ ap (λ n. signed 1 (wrapped 8 (pos n -ℤ pos y) % 256 ^ 8 % 256)) (over_lane b k h l)
    ∙ ap (λ (z : ℤ). signed 1 (wrapped 8 z % 256 ^ 8 % 256)) (right_rest y)
    ∙ low_byte_negated (cut y) (cut_below y)

amounts_lane : (s : Shift) (b : List ℕ) (k : ℕ) → IsRegister 16 b → k < 2 → signed 1 (lane 8 (amounts_of s b) k % 256) ≡ amount_of s (lane 8 b k)
amounts_lane Left b k h l = left_amount b k h l
amounts_lane Right b k h l = right_amount b k h l
amounts_lane Arithmetic b k h l = right_amount b k h l

amounts_bytes : (s : Shift) (b : List ℕ) → Bytes (amounts_of s b)
unfolding map2_of
amounts_bytes Left b = Bytes-build 8 2 (λ k. wrapped 8 (pos (lane 8 b k) -ℤ pos (lane 8 (over b) k)))
amounts_bytes Right b = Bytes-build 8 2 (λ k. wrapped 8 (pos (lane 8 (over b) k) -ℤ pos (lane 8 b k)))
amounts_bytes Arithmetic b = Bytes-build 8 2 (λ k. wrapped 8 (pos (lane 8 (over b) k) -ℤ pos (lane 8 b k)))

-- qwords by qwords
abbrev QwordsBy : Shift → NeonLane → Type 0
QwordsBy s t = (a b : List ℕ) → IsRegister 16 a → IsRegister 16 b → shifted t a (amounts_of s b) ≡ blocks.lanes2 (ShiftBy s) 8 a b

pub left_qwords : QwordsBy Left U64
unfolding blocks.lanes2 map2_of
left_qwords a b h k = moved_lanes Left U64 a (amounts_of Left b) (lane 8 b) (omega arith) h (λ j l. amounts_lane Left b j k l)

pub right_qwords : QwordsBy Right U64
unfolding blocks.lanes2 map2_of
right_qwords a b h k = moved_lanes Right U64 a (amounts_of Right b) (lane 8 b) (omega arith, omega arith, refl) h (λ j l. amounts_lane Right b j k l)

pub arithmetic_qwords : QwordsBy Arithmetic S64
unfolding blocks.lanes2 map2_of
arithmetic_qwords a b h k = moved_lanes Arithmetic S64 a (amounts_of Arithmetic b) (lane 8 b) (omega arith, omega arith, refl) h (λ j l. amounts_lane Arithmetic b j k l)

-- all lanes by the low qword
abbrev pub LowByte : ℕ → Type 0
LowByte w = (r : List ℕ) → Bytes r → lane w r 0 % 256 ≡ lane 8 r 0 % 256

pub low_4 : LowByte 4
low_4 r h = ap (λ v. v % 256) (lane_low 4 r 0 h) ∙ omega arith

pub low_2 : LowByte 2
low_2 r h = ap (λ v. v % 256) (lane_low 2 r 0 h) ∙ omega arith ∙ low_4 r h

pub low_8 : LowByte 8
low_8 r h = refl

pub counted : (s : Shift) (t : NeonLane) (a b : List ℕ) → Suits s t → LowByte (bytes_of t) → IsRegister 16 a → IsRegister 16 b
    → shifted t a (build (bytes_of t) (16 / bytes_of t) (λ e. lane (bytes_of t) (amounts_of s b) 0)) ≡ blocks.shifted s (bytes_of t) (lane 8 b 0) a
unfolding blocks.shifted map1_of
counted s t a b suits low h k =
    let w = bytes_of t in
    let r = amounts_of s b in
    let bytes = amounts_bytes s b in
    moved_lanes s t a (build w (16 / w) (λ e. lane w r 0)) (λ j. lane 8 b 0) suits h
    (λ j l.
    ap (λ v. signed 1 (v % 256)) (lane-build w (16 / w) (λ e. lane w r 0) j l ∙ mod-eq_of_lt (lane_below w r 0 bytes))
    ∙ ap (signed 1) (low r bytes)
    ∙ amounts_lane s b 0 k (omega arith))
