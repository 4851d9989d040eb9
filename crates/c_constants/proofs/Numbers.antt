-- Numbers written by digits.
use Rattle.std.proofs.Common.{◌≡◌, ℕ, suc, ◌+◌, ◌*◌, ◌^◌, ◌<◌, ◌≤◌, List, ◌∷◌, length, drop, sym, ◌∙◌, ap, arith, drop-cons, get_or}
use Rattle.std.proofs.Math.Nat.{pow-succ', one-le-pow, mul-le-mul_left, add-mul, mul_assoc, add_assoc}
use Rattle.std.proofs.lemmas.List.Sums.{prefix_len-le-length}
use Rattle.c_constants.specs.declared.integer.Base.{Base}
use Rattle.c_constants.specs.declared.integer.Base.TheVariants.{Binary, Octal, Decimal, Hexadecimal}
use Rattle.c_constants.specs.IntegerConstant.{radix_of, digit_value, number_of}

-- a front is no longer than the list
pub ruleset prefixes = (prefix_len-le-length)

-- the first digit of those behind n becomes n's last
behind-cons : (r n d : ℕ) (ds : List ℕ) → n * r ^ length (d ∷ ds) + number_of r (d ∷ ds) ≡ (n * r + digit_value d) * r ^ length ds + number_of r ds
behind-cons r n d ds =
    let power : r ^ suc (length ds) ≡ r * r ^ length ds = pow-succ' r (length ds) in
    let product : n * (r * r ^ length ds) ≡ n * r * r ^ length ds = sym (mul_assoc n r (r ^ length ds)) in
    let sum : (n * r + digit_value d) * r ^ length ds ≡ n * r * r ^ length ds + digit_value d * r ^ length ds = add-mul (n * r) (digit_value d) (r ^ length ds) in
    rw (power, product, sum) (sym (add_assoc (n * r * r ^ length ds) (digit_value d * r ^ length ds) (number_of r ds)))

radix-positive : (base : Base) → 0 < radix_of base
radix-positive Binary = omega arith
radix-positive Octal = omega arith
radix-positive Decimal = omega arith
radix-positive Hexadecimal = omega arith

-- one digit more, in a loop over the digits
pub number_step : (r n i v : ℕ) (ds : List ℕ) → v ≡ n * r ^ length (drop i ds) + number_of r (drop i ds) → i < length ds →
    v ≡ (n * r + digit_value (get_or ds i 0)) * r ^ length (drop (suc i) ds) + number_of r (drop (suc i) ds)
number_step r n i v ds is within = is ∙ ap (λ l. n * r ^ length l + number_of r l) (drop-cons ds i 0 within) ∙ behind-cons r n (get_or ds i 0) (drop (suc i) ds)

-- a number that is too large with one digit more is too large with all
pub number_over : (base : Base) (n i v : ℕ) (ds : List ℕ) → v ≡ n * radix_of base ^ length (drop i ds) + number_of (radix_of base) (drop i ds) → i < length ds →
    18446744073709551616 ≤ n * radix_of base + digit_value (get_or ds i 0) → 18446744073709551616 ≤ v
number_over base n i v ds is within large =
    let r = radix_of base in
    let m = n * r + digit_value (get_or ds i 0) in
    let p = r ^ length (drop (suc i) ds) in
    let step = number_step r n i v ds is within in
    let some : 1 ≤ p = one-le-pow (length (drop (suc i) ds)) r (radix-positive base) in
    let grows : m * 1 ≤ m * p = mul-le-mul_left m some in
    omega arith
