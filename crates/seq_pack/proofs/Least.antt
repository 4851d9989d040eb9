-- The least element and its first place; whether all bits are 1.
use Rattle.std.proofs.Common.{◌≡◌, ℕ, zero, suc, ◌+◌, ◌-◌, ◌*◌, ◌^◌, ◌<◌, ◌≤◌, min, List, Bool, true, false, ◌&&◌, refl, ap, sym, ◌∙◌, subst, arith, inl, inr, pos}
use Rattle.std.specs.Prelude.{nat_lt, int_lt, ◌==◌, if◌then◌else◌}
use Rattle.std.proofs.lemmas.Bool.{cases_lt}
use Rattle.std.proofs.lemmas.Bool.Decides.{nat_tests}
use Rattle.lane_core.specs.Register.{Bytes, IsRegister, lane}
use Rattle.lane_core.proofs.Lanes.{lane_below}
use Rattle.lane_core.proofs.Laws.{lane_split}
use Rattle.lane_core.specs.declared.vector.NeonLane.TheVariants.{U8, U16}
use Rattle.intel_lanes.specs.Blocks.{first_least}
use Rattle.intel_forms.specs.Scalars.{all_below, is_ones}
use Rattle.neon_elements.specs.declared.elements.Binary.TheVariants.{Min}
use Rattle.neon_elements.specs.Elements.{reduce_by}

-- ---- the least of words

first_of : (f : ℕ → ℕ) (b : Bool) (i j : ℕ) → (if b then f i else f j) ≡ f (if b then i else j)
first_of f true i j = refl
first_of f false i j = refl

same_order : (x y : ℕ) → int_lt (pos x) (pos y) ≡ nat_lt x y
same_order x y = grind (arith, nat_tests)

pub least_is : (n : ℕ) (f : ℕ → ℕ) → reduce_by Min U16 f n ≡ f (first_least n f)
least_is zero f = refl
least_is (suc n) f =
    ap (λ m. if int_lt (pos (f (suc n))) (pos m) then f (suc n) else m) (least_is n f)
    ∙ ap (λ b. if b then f (suc n) else f (first_least n f)) (same_order (f (suc n)) (f (first_least n f)))
    ∙ first_of f (nat_lt (f (suc n)) (f (first_least n f))) (suc n) (first_least n f)

-- p is at most n, nothing up to n is less, and all before it is greater
abbrev IsFirst : ℕ → (ℕ → ℕ) → ℕ → Type 0
IsFirst n f p = (p ≤ n) × ((j : ℕ) → j ≤ n → f p ≤ f j) × ((j : ℕ) → j < p → f p < f j)

extend_first : (n : ℕ) (f : ℕ → ℕ) (p : ℕ) (b : Bool) → nat_lt (f (suc n)) (f p) ≡ b → IsFirst n f p → IsFirst (suc n) f (if b then suc n else p)
extend_first n f p true e h =
    let less : f (suc n) < f p = grind (arith, nat_tests, e) in (
      omega arith,
      (λ j l. elim (cases_lt j (suc n)) [
        | inl b ↦ let k = h.1 j (omega (arith, b)) in omega (arith, k, less)
        | inr b ↦ let s : suc n ≡ j = omega (arith, l, b) in subst (λ i. f (suc n) ≤ f i) s (omega arith)
      ]),
      λ j l. let k = h.1 j (omega (arith, l)) in omega (arith, k, less),
    )
extend_first n f p false e h =
    let most : f p ≤ f (suc n) = grind (arith, nat_tests, e) in
    let a = h.0 in (
      omega (arith, a),
      (λ j l. elim (cases_lt j (suc n)) [
        | inl b ↦ h.1 j (omega (arith, b))
        | inr b ↦ let s : suc n ≡ j = omega (arith, l, b) in subst (λ i. f p ≤ f i) s most
      ]),
      h.2,
    )

is_first : (n : ℕ) (f : ℕ → ℕ) → IsFirst n f (first_least n f)
is_first zero f = (omega arith, (λ j l. let z : 0 ≡ j = omega (arith, l) in subst (λ i. f 0 ≤ f i) z (omega arith)), λ j l. absurd (omega (arith, l)))
is_first (suc n) f = extend_first n f (first_least n f) (nat_lt (f (suc n)) (f (first_least n f))) refl (is_first n f)

-- the places of the least, and a great number elsewhere
abbrev pub place_or : (ℕ → ℕ) → ℕ → ℕ → ℕ
place_or f m k = if f k == m then k else 65535

place_at : (f : ℕ → ℕ) (m p : ℕ) → f p ≡ m → place_or f m p ≡ p
place_at f m p e = let t : (f p == m) ≡ true = grind (arith, e) in rw t refl

place_small : (f : ℕ → ℕ) (m q : ℕ) (b : Bool) → (f q == m) ≡ b → (if b then q else 65535) ≤ 7 → (f q ≡ m) × ((if b then q else 65535) ≡ q)
place_small f m q true e h = (grind (arith, e), refl)
place_small f m q false e h = absurd (omega (arith, h))

pub first_within : (f : ℕ → ℕ) → first_least 7 f ≤ 7
first_within f = (is_first 7 f).0

pub first_place : (f : ℕ → ℕ) → reduce_by Min U16 (place_or f (f (first_least 7 f))) 7 ≡ first_least 7 f
first_place f =
    let p = first_least 7 f in
    let g = place_or f (f p) in
    let q = first_least 7 g in
    let F = is_first 7 f in
    let G = is_first 7 g in
    let at : place_or f (f (first_least 7 f)) (first_least 7 f) ≡ first_least 7 f = place_at f (f p) p refl in
    let within = F.0 in
    let most = G.1 p F.0 in
    let small = place_small f (f p) q (f q == f p) refl (omega (arith, at, within, most)) in
    least_is 7 g ∙ small.1 ∙ meet p q (omega (arith, at, most, small.1)) (λ l. let k = F.2 q l in let e = small.0 in omega (arith, k, e))
  where
    meet : (p q : ℕ) → q ≤ p → (q < p → ⊥) → q ≡ p
    meet p q h k = elim (cases_lt q p) [
      | inl b ↦ absurd (k b)
      | inr b ↦ omega (arith, h, b)
    ]

-- ---- all bits

min_is : (x y : ℕ) → (if int_lt (pos y) (pos x) then y else x) ≡ min x y
min_is x y = grind (arith, nat_tests)

min_ones : (x y : ℕ) → x < 256 → y < 256 → (min x y == 255) ≡ ((x == 255) && (y == 255))
min_ones x y h k = grind (arith, nat_tests, h, k)

least_below : (n : ℕ) (f : ℕ → ℕ) → ((k : ℕ) → f k < 256) → reduce_by Min U8 f n < 256
least_below zero f h = h 0
least_below (suc n) f h = subst (λ m. m < 256) (sym (min_is (reduce_by Min U8 f n) (f (suc n)))) (let a = least_below n f h in omega (arith, a))

least_ones : (n : ℕ) (f : ℕ → ℕ) → ((k : ℕ) → f k < 256) → (reduce_by Min U8 f n == 255) ≡ all_below (suc n) (λ k. f k == 255)
least_ones zero f h = refl
least_ones (suc n) f h =
    ap (λ m. m == 255) (min_is (reduce_by Min U8 f n) (f (suc n)))
    ∙ min_ones (reduce_by Min U8 f n) (f (suc n)) (least_below n f h) (h (suc n))
    ∙ ap (λ b. b && (f (suc n) == 255)) (least_ones n f h)

-- lanes in pairs
abbrev double : ℕ → ℕ
double zero = zero
double (suc n) = suc (suc (double n))

double_is : (n : ℕ) → double n ≡ 2 * n
double_is zero = refl
double_is (suc n) = let e = double_is n in omega (arith, e)

regroup : (a p q r : Bool) → (p && q) ≡ r → ((a && p) && q) ≡ (a && r)
regroup true p q r e = e
regroup false p q r e = refl

abbrev Halves : ℕ → Type 0
Halves w = (x y : ℕ) → x < 256 ^ w → y < 256 ^ w → ((x == 256 ^ w - 1) && (y == 256 ^ w - 1)) ≡ (x + 256 ^ w * y == 256 ^ (2 * w) - 1)

halves_1 : Halves 1
halves_1 x y h k = grind (arith, nat_tests, h, k)

halves_2 : Halves 2
halves_2 x y h k = grind (arith, nat_tests, h, k)

halves_4 : Halves 4
halves_4 x y h k = grind (arith, nat_tests, h, k)

in_pairs : (w n : ℕ) (r : List ℕ) → Bytes r → Halves w → all_below (double n) (λ k. lane w r k == 256 ^ w - 1) ≡ all_below n (λ k. lane (2 * w) r k == 256 ^ (2 * w) - 1)
in_pairs w zero r h e = refl
in_pairs w (suc n) r h e =
    regroup (all_below (double n) (λ k. lane w r k == 256 ^ w - 1)) (lane w r (double n) == 256 ^ w - 1) (lane w r (suc (double n)) == 256 ^ w - 1) (lane (2 * w) r n == 256 ^ (2 * w) - 1)
    (e (lane w r (double n)) (lane w r (suc (double n))) (lane_below w r (double n) h) (lane_below w r (suc (double n)) h)
    ∙ ap (λ v. v == 256 ^ (2 * w) - 1) (whole (double n) (double_is n)))
    ∙ ap (λ b. b && (lane (2 * w) r n == 256 ^ (2 * w) - 1)) (in_pairs w n r h e)
  where
    whole : (d : ℕ) → d ≡ 2 * n → lane w r d + 256 ^ w * lane w r (suc d) ≡ lane (2 * w) r n
    whole d s =
        let t : suc d ≡ 2 * n + 1 = omega (arith, s) in
        ap (λ i. lane w r i + 256 ^ w * lane w r (suc d)) s ∙ ap (λ i. lane w r (2 * n) + 256 ^ w * lane w r i) t ∙ sym (lane_split w r n)

pub all_ones : (a : List ℕ) → IsRegister 16 a → (reduce_by Min U8 (lane 1 a) 15 == 255) ≡ is_ones a
unfolding is_ones
all_ones a h =
    least_ones 15 (lane 1 a) (λ k. lane_below 1 a k h.bytes)
    ∙ in_pairs 1 8 a h.bytes halves_1 ∙ in_pairs 2 4 a h.bytes halves_2 ∙ in_pairs 4 2 a h.bytes halves_4

pub least_byte_below : (a : List ℕ) → IsRegister 16 a → reduce_by Min U8 (lane 1 a) 15 < 256
least_byte_below a h = least_below 15 (lane 1 a) (λ k. lane_below 1 a k h.bytes)
