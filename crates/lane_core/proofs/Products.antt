-- Products of whole numbers between bounds.
use Rattle.std.proofs.Common.{◌≡◌, ℕ, suc, ◌-◌, ◌*◌, ◌/◌, ◌^◌, ◌<◌, ◌≤◌, ℤ, pos, negsuc, ◌*ℤ◌, ◌≤ℤ◌, ◌<ℤ◌, arith, sym, subst}
use Rattle.std.specs.Prelude.{FitsSigned}
use Rattle.std.specs.Int.{w128}
use Rattle.std.proofs.lemmas.Int.{ints}
use Rattle.std.proofs.lemmas.Nat.{mul-le}
use Rattle.lane_core.specs.Register.{IsWidth, signed}
use Rattle.lane_core.proofs.Lanes.{half_pos, width_pos}
use Rattle.lane_core.proofs.Signed.{half_size, signed_least, signed_greatest}
use Rattle.std.proofs.Math.IntN.{pos-*ℤ-negsuc, negsuc-*ℤ-pos, negsuc-*ℤ-negsuc, pos-*ℤ-pos}

-- the product of two numbers from -m to m - 1
least_product : (m : ℕ) (a b : ℤ) → negsuc (m - 1) ≤ℤ a → a ≤ℤ pos (m - 1) → negsuc (m - 1) ≤ℤ b → b ≤ℤ pos (m - 1) → 0 < m → negsuc (m * m) ≤ℤ (a *ℤ b)
least_product m (pos a) (pos b) h i j k p = rw (pos-*ℤ-pos a b) (omega (arith, ints))
least_product m (pos a) (negsuc b) h i j k p = rw (pos-*ℤ-negsuc a b) (let u : a * suc b ≤ m * m = mul-le a (suc b) m m (omega (arith, ints)) (omega (arith, ints)) in omega (arith, ints, u))
least_product m (negsuc a) (pos b) h i j k p = rw (negsuc-*ℤ-pos a b) (let u : suc a * b ≤ m * m = mul-le (suc a) b m m (omega (arith, ints)) (omega (arith, ints)) in omega (arith, ints, u))
least_product m (negsuc a) (negsuc b) h i j k p = rw (negsuc-*ℤ-negsuc a b) (omega (arith, ints))

greatest_product : (m : ℕ) (a b : ℤ) → negsuc (m - 1) ≤ℤ a → a ≤ℤ pos (m - 1) → negsuc (m - 1) ≤ℤ b → b ≤ℤ pos (m - 1) → 0 < m → (a *ℤ b) ≤ℤ pos (m * m)
greatest_product m (pos a) (pos b) h i j k p = rw (pos-*ℤ-pos a b) (let u : a * b ≤ m * m = mul-le a b m m (omega (arith, ints)) (omega (arith, ints)) in omega (arith, ints, u))
greatest_product m (pos a) (negsuc b) h i j k p = rw (pos-*ℤ-negsuc a b) (omega (arith, ints))
greatest_product m (negsuc a) (pos b) h i j k p = rw (negsuc-*ℤ-pos a b) (omega (arith, ints))
greatest_product m (negsuc a) (negsuc b) h i j k p = rw (negsuc-*ℤ-negsuc a b) (let u : suc a * suc b ≤ m * m = mul-le (suc a) (suc b) m m (omega (arith, ints)) (omega (arith, ints)) in omega (arith, ints, u))

-- the product of two signed numbers of 64 bits doesn't overflow 128
pub product_fits : (a b : ℤ) → negsuc (2 ^ 63 - 1) ≤ℤ a → a <ℤ pos (2 ^ 63) → negsuc (2 ^ 63 - 1) ≤ℤ b → b <ℤ pos (2 ^ 63) → FitsSigned w128 (a *ℤ b)
product_fits a b h i j k =
    let l = least_product (2 ^ 63) a b h (omega (arith, ints)) j (omega (arith, ints)) (omega arith) in
    let m = greatest_product (2 ^ 63) a b h (omega (arith, ints)) j (omega (arith, ints)) (omega arith) in
    omega (arith, ints, l, m)

-- a signed lane of w bytes lies between the halves of its size
signed_from : (w x : ℕ) → IsWidth w → negsuc (256 ^ w / 2 - 1) ≤ℤ signed w x
signed_from w x h =
    let p = width_pos w h in
    let half = half_size w p in
    let least = signed_least w x p in
    omega (arith, ints, half_pos w h)

signed_to : (w x : ℕ) → IsWidth w → x < 256 ^ w → signed w x ≤ℤ pos (256 ^ w / 2 - 1)
signed_to w x h l =
    let p = width_pos w h in
    let half = half_size w p in
    let greatest = signed_greatest w x p l in
    omega (arith, ints, half_pos w h)

-- the product of two signed lanes
pub product_least : (w x y : ℕ) (z : ℤ) → IsWidth w → x < 256 ^ w → y < 256 ^ w → z ≡ signed w x *ℤ signed w y → negsuc (256 ^ w / 2 * (256 ^ w / 2)) ≤ℤ z
product_least w x y z h i j e =
    let m = 256 ^ w / 2 in
    subst (λ (n : ℤ). negsuc (m * m) ≤ℤ n) (sym e)
    (least_product m (signed w x) (signed w y) (signed_from w x h) (signed_to w x h i) (signed_from w y h) (signed_to w y h j) (half_pos w h))

pub product_greatest : (w x y : ℕ) (z : ℤ) → IsWidth w → x < 256 ^ w → y < 256 ^ w → z ≡ signed w x *ℤ signed w y → z ≤ℤ pos (256 ^ w / 2 * (256 ^ w / 2))
product_greatest w x y z h i j e =
    let m = 256 ^ w / 2 in
    subst (λ (n : ℤ). n ≤ℤ pos (m * m)) (sym e)
    (greatest_product m (signed w x) (signed w y) (signed_from w x h) (signed_to w x h i) (signed_from w y h) (signed_to w y h j) (half_pos w h))
