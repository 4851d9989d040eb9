-- Products of bytes without a sign and bytes with one.
use Rattle.std.proofs.Common.{◌≡◌, ℕ, zero, suc, ◌+◌, ◌-◌, ◌*◌, ◌/◌, ◌%◌, ◌^◌, ◌<◌, ◌≤◌, List, ap, sym, ◌∙◌, arith, pos, negsuc, ◌+ℤ◌, ◌-ℤ◌, ◌*ℤ◌, inl, inr}
use Rattle.std.specs.Int.{int_shr}
use Rattle.std.proofs.lemmas.Bool.{cases_lt}
use Rattle.std.proofs.lemmas.Int.{ints}
use Rattle.std.proofs.lemmas.Nat.{mul-le}
use Rattle.std.proofs.Math.IntN.{neg_ℤ, pos-*ℤ-pos, pos-*ℤ-negsuc}
use Rattle.std.proofs.Math.Nat.{mul-add}
use Rattle.lane_core.specs.declared.vector.NeonLane.TheVariants.{U16, S16}
use Rattle.lane_core.specs.Register.{IsRegister, lane, signed, wrapped}
use Rattle.lane_core.specs.Kernels.{map1_of, map2_of}
use Rattle.lane_core.proofs.Lanes.{build_same, lane_below}
use Rattle.lane_core.proofs.Laws.{lane-map1, lane-map2, lane_low, lane_high}
use Rattle.lane_core.proofs.Signed.{signed_low, signed_high}
use Rattle.intel_lanes.specs.Lanes.{saturate}
use Rattle.intel_lanes.specs.Blocks.{multiply_add_bytes}
use Rattle.neon_elements.specs.declared.elements.Binary.TheVariants.{Multiply, SaturatingAdd}
use Rattle.neon_elements.specs.Elements.{signed_sat}
use Rattle.neon_elements.specs.Vectors.{each2, shifted_left, shifted_right}
use Rattle.seq_arith.proofs.Kernels.{saturate_is}

-- ---- bytes of words

-- the upper byte of a word with its sign
upper : (h l : ℕ) → h < 256 → l < 256 → int_shr (signed 2 (h * 256 + l)) 8 ≡ signed 1 h
upper h l p q = elim (cases_lt h 128) [
  | inl b ↦
      ap (λ z. int_shr z 8) (signed_low 2 (h * 256 + l) (omega (arith, b, q)))
      ∙ ap pos (let e : (h * 256 + l) / 2 ^ 8 ≡ h = omega (arith, q) in e)
      ∙ sym (signed_low 1 h b)
  | inr b ↦
      let e : pos (h * 256 + l) -ℤ pos (256 ^ 2) ≡ negsuc (65535 - (h * 256 + l)) = omega (arith, ints, p, q) in
      let f : pos h -ℤ pos (256 ^ 1) ≡ negsuc (255 - h) = omega (arith, ints, p) in
      ap (λ z. int_shr z 8) (signed_high 2 (h * 256 + l) (omega (arith, b)) ∙ e)
      ∙ ap negsuc (let g : (65535 - (h * 256 + l)) / 2 ^ 8 ≡ 255 - h = omega (arith, p, q) in g)
      ∙ sym (signed_high 1 h b ∙ f)
]

even_unsigned : (x : ℕ) → wrapped 2 (int_shr (pos (x * 2 ^ 8 % 256 ^ 2)) 8) % 256 ^ 2 ≡ x % 256
unfolding wrapped
even_unsigned x = omega arith

odd_unsigned : (x : ℕ) → x < 256 ^ 2 → wrapped 2 (int_shr (pos x) 8) % 256 ^ 2 ≡ x / 256
unfolding wrapped
odd_unsigned x h = omega (arith, h)

even_signed : (y : ℕ) → wrapped 2 (int_shr (signed 2 (y * 2 ^ 8 % 256 ^ 2)) 8) ≡ wrapped 2 (signed 1 (y % 256))
even_signed y =
    let e : y * 2 ^ 8 % 256 ^ 2 ≡ y % 256 * 256 + 0 = omega arith in
    ap (λ v. wrapped 2 (int_shr (signed 2 v) 8)) e ∙ ap (wrapped 2) (upper (y % 256) 0 (omega arith) (omega arith))

odd_signed : (y : ℕ) → y < 256 ^ 2 → wrapped 2 (int_shr (signed 2 y) 8) ≡ wrapped 2 (signed 1 (y / 256))
odd_signed y h =
    let e : y ≡ y / 256 * 256 + y % 256 = omega arith in
    ap (λ v. wrapped 2 (int_shr (signed 2 v) 8)) e ∙ ap (wrapped 2) (upper (y / 256) (y % 256) (omega (arith, h)) (omega arith))

-- ---- a product fits in a word

below_none : (q p u : ℕ) → q + p ≡ u * 65536 → p ≤ 32640 → signed 2 (q % 256 ^ 2) ≡ neg_ℤ (pos p)
below_none q zero u e h = let m : q % 256 ^ 2 ≡ 0 = omega (arith, e) in ap (signed 2) m ∙ signed_low 2 0 (omega arith)
below_none q (suc p) u e h =
    let m : q % 256 ^ 2 ≡ 65535 - p = omega (arith, e, h) in
    ap (signed 2) m ∙ signed_high 2 (65535 - p) (omega (arith, h)) ∙ omega (arith, ints, h)

product : (u h : ℕ) → u < 256 → h < 256 → signed 2 (u * (wrapped 2 (signed 1 h) % 256 ^ 2) % 256 ^ 2) ≡ pos u *ℤ signed 1 h
unfolding wrapped
product u h k l = elim (cases_lt h 128) [
  | inl b ↦
      let low : signed 1 h ≡ pos h = signed_low 1 h b in
      let small : u * h ≤ 255 * 127 = mul-le u h 255 127 (omega (arith, k)) (omega (arith, b)) in
      let m : h % 256 ^ 2 % 256 ^ 2 ≡ h = omega (arith, l) in
      rw low (ap (λ v. signed 2 (u * v % 256 ^ 2)) m
      ∙ ap (signed 2) (let e : u * h % 256 ^ 2 ≡ u * h = omega (arith, small) in e)
      ∙ signed_low 2 (u * h) (omega (arith, small))
      ∙ sym (pos-*ℤ-pos u h))
  | inr b ↦
      let n = 255 - h in
      let high : signed 1 h ≡ negsuc n = signed_high 1 h b ∙ omega (arith, ints, l) in
      let small : u * suc n ≤ 255 * 128 = mul-le u (suc n) 255 128 (omega (arith, k)) (omega (arith, b)) in
      let m : (256 ^ 2 - 1 - n % 256 ^ 2) % 256 ^ 2 ≡ 65535 - n = omega (arith, b) in
      let whole : u * (65535 - n) + u * suc n ≡ u * 65536 =
      sym (mul-add u (65535 - n) (suc n)) ∙ ap (λ v. u * v) (let e : 65535 - n + suc n ≡ 65536 = omega (arith, b) in e) in
      rw high (ap (λ v. signed 2 (u * v % 256 ^ 2)) m ∙ below_none (u * (65535 - n)) (u * suc n) u whole small ∙ sym (pos-*ℤ-negsuc u n))
]

-- ---- registers

-- words shifted by a byte
abbrev up : List ℕ → List ℕ
up a = map1_of 2 16 (λ x. x * 2 ^ 8) a

abbrev down : List ℕ → List ℕ
down a = map1_of 2 16 (λ x. wrapped 2 (int_shr (pos x) 8)) a

abbrev down_signed : List ℕ → List ℕ
down_signed a = map1_of 2 16 (λ x. wrapped 2 (int_shr (signed 2 x) 8)) a

-- words that are products
product_lane : (r s : List ℕ) (k u h : ℕ) → k < 8 → u < 256 → h < 256 → lane 2 r k ≡ u → lane 2 s k ≡ wrapped 2 (signed 1 h) % 256 ^ 2
    → signed 2 (lane 2 (map2_of 2 16 (λ x y. x * y) r s) k) ≡ pos u *ℤ signed 1 h
product_lane r s k u h l p q e f =
    ap (signed 2) (lane-map2 2 16 (λ x y. x * y) r s k l ∙ ap (λ v. v * lane 2 s k % 256 ^ 2) e ∙ ap (λ v. u * v % 256 ^ 2) f) ∙ product u h p q

even_lane : (a b : List ℕ) (k : ℕ) → IsRegister 16 a → IsRegister 16 b → k < 8
    → signed 2 (lane 2 (map2_of 2 16 (λ x y. x * y) (down (up a)) (down_signed (up b))) k) ≡ pos (lane 1 a (2 * k)) *ℤ signed 1 (lane 1 b (2 * k))
even_lane a b k h i l =
    let x = lane 2 a k in
    let y = lane 2 b k in
    product_lane (down (up a)) (down_signed (up b)) k (lane 1 a (2 * k)) (lane 1 b (2 * k)) l (lane_below 1 a (2 * k) h.bytes) (lane_below 1 b (2 * k) i.bytes)
    (lane-map1 2 16 (λ v. wrapped 2 (int_shr (pos v) 8)) (up a) k l
    ∙ ap (λ v. wrapped 2 (int_shr (pos v) 8) % 256 ^ 2) (lane-map1 2 16 (λ v. v * 2 ^ 8) a k l) ∙ even_unsigned x ∙ sym (lane_low 1 a k h.bytes))
    (lane-map1 2 16 (λ v. wrapped 2 (int_shr (signed 2 v) 8)) (up b) k l
    ∙ ap (λ v. wrapped 2 (int_shr (signed 2 v) 8) % 256 ^ 2) (lane-map1 2 16 (λ v. v * 2 ^ 8) b k l)
    ∙ ap (λ v. v % 256 ^ 2) (even_signed y ∙ ap (λ v. wrapped 2 (signed 1 v)) (sym (lane_low 1 b k i.bytes))))

odd_lane : (a b : List ℕ) (k : ℕ) → IsRegister 16 a → IsRegister 16 b → k < 8
    → signed 2 (lane 2 (map2_of 2 16 (λ x y. x * y) (down a) (down_signed b)) k) ≡ pos (lane 1 a (2 * k + 1)) *ℤ signed 1 (lane 1 b (2 * k + 1))
odd_lane a b k h i l =
    let x = lane 2 a k in
    let y = lane 2 b k in
    product_lane (down a) (down_signed b) k (lane 1 a (2 * k + 1)) (lane 1 b (2 * k + 1)) l (lane_below 1 a (2 * k + 1) h.bytes) (lane_below 1 b (2 * k + 1) i.bytes)
    (lane-map1 2 16 (λ v. wrapped 2 (int_shr (pos v) 8)) a k l ∙ odd_unsigned x (lane_below 2 a k h.bytes) ∙ sym (lane_high 1 a k h.bytes))
    (lane-map1 2 16 (λ v. wrapped 2 (int_shr (signed 2 v) 8)) b k l
    ∙ ap (λ v. v % 256 ^ 2) (odd_signed y (lane_below 2 b k i.bytes) ∙ ap (λ v. wrapped 2 (signed 1 v)) (sym (lane_high 1 b k i.bytes))))

pub added_bytes : (a b : List ℕ) → IsRegister 16 a → IsRegister 16 b
    → each2 SaturatingAdd S16 (each2 Multiply S16 (shifted_right U16 8 (shifted_left U16 8 a)) (shifted_right S16 8 (shifted_left S16 8 b)))
    (each2 Multiply S16 (shifted_right U16 8 a) (shifted_right S16 8 b))
    ≡ multiply_add_bytes a b
unfolding each2 shifted_left shifted_right map2_of multiply_add_bytes
added_bytes a b h i =
    let evens = map2_of 2 16 (λ x y. x * y) (down (up a)) (down_signed (up b)) in
    let odds = map2_of 2 16 (λ x y. x * y) (down a) (down_signed b) in
    build_same 2 8 (λ k. signed_sat 2 (signed 2 (lane 2 evens k) +ℤ signed 2 (lane 2 odds k)))
    (λ k. saturate 2 (pos (lane 1 a (2 * k)) *ℤ signed 1 (lane 1 b (2 * k)) +ℤ pos (lane 1 a (2 * k + 1)) *ℤ signed 1 (lane 1 b (2 * k + 1))))
    (λ k l. ap (λ v. v % 256 ^ 2)
    (ap (λ z. signed_sat 2 (z +ℤ signed 2 (lane 2 odds k))) (even_lane a b k h i l)
    ∙ ap (λ z. signed_sat 2 (pos (lane 1 a (2 * k)) *ℤ signed 1 (lane 1 b (2 * k)) +ℤ z)) (odd_lane a b k h i l)
    ∙ sym (saturate_is 2 (pos (lane 1 a (2 * k)) *ℤ signed 1 (lane 1 b (2 * k)) +ℤ pos (lane 1 a (2 * k + 1)) *ℤ signed 1 (lane 1 b (2 * k + 1))))))
