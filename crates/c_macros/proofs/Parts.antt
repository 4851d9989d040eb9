-- Jumps stay sound in a part of the tokens.
use Rattle.std.proofs.Common.{◌≡◌, ◌∙◌, ℕ, zero, suc, ◌+◌, ◌-◌, ◌<◌, ◌≤◌, List, [], ◌∷◌, length, get_or, take, drop, refl, ap, sym, subst, arith}
use Rattle.std.proofs.lemmas.List.{drop-drop, drop-take, get_or-drop, get_or-take}
use Rattle.std.proofs.Math.Seq.{take-length}
use Rattle.std.proofs.lemmas.Grind.{common_steps}
use Rattle.std.proofs.lemmas.Option.{unwrap_or-slice_get}
use Rattle.c_text.specs.declared.tokens.Token.{Token}
use Rattle.c_macros.specs.Groups.{IsGroup, Sound, jump_at}

jump_is : (js : List ℕ) (i : ℕ) → jump_at js i ≡ get_or js i 0
jump_is js i = unwrap_or-slice_get js i 0

get_part : (js : List ℕ) (a n i : ℕ) → i < n → get_or (take n (drop a js)) i 0 ≡ get_or js (a + i) 0
get_part js a n i h = get_or-take n (drop a js) i 0 h ∙ get_or-drop a js i 0

front : {A : Type 0} (k r : ℕ) (l : List A) → take k (take (k + r) l) ≡ take k l
front zero r l = refl
front {A} (suc k) r [] = let e : suc k + r ≡ suc (k + r) = omega arith in ap {A = ℕ} {B = List A} (λ m. take (suc k) (take m [])) e
front (suc k) r (x ∷ l) = let e : suc k + r ≡ suc (k + r) = omega arith in ap (λ m. take (suc k) (take m (x ∷ l))) e ∙ ap (λ y. x ∷ y) (front k r l)

part_in : (ts : List Token) (a n i k : ℕ) → i + k ≤ n → take k (drop i (take n (drop a ts))) ≡ take k (drop (a + i) ts)
part_in ts a n i k h =
    let rest : n ≡ i + (n - i) = omega arith in
    let more : n - i ≡ k + (n - i - k) = omega arith in
    ap (λ m. take k (drop i (take m (drop a ts)))) rest ∙ ap (take k) (drop-take i (n - i) (drop a ts)) ∙
    ap (λ m. take k (take m (drop i (drop a ts)))) more ∙ front k (n - i - k) (drop i (drop a ts)) ∙ ap (take k) (drop-drop i a ts)

many_in : (ts : List Token) (a n : ℕ) → a + n ≤ length ts → length (take n (drop a ts)) ≡ n
many_in ts a n h = grind (arith, common_steps)

pub sound_part : (ts : List Token) (js : List ℕ) (from to : ℕ) → from ≤ to → to ≤ length ts → Sound ts js → Sound (take (to - from) (drop from ts)) (take (to - from) (drop from js))
sound_part ts js from to h g sound i some within =
    let n = to - from in
    let k = jump_at (take n (drop from js)) i in
    let many : length (take n (drop from ts)) ≡ n = many_in ts from n (omega arith) in
    let inside : i < n = omega (arith, within, many) in
    let e : k ≡ jump_at js (from + i) = jump_is (take n (drop from js)) i ∙ get_part js from n i inside ∙ sym (jump_is js (from + i)) in
    let group : IsGroup (take (jump_at js (from + i) + 1) (drop (from + i) ts)) = sound (from + i) (omega (arith, e, some)) (omega (arith, e, within, many)) in
    let same : take (jump_at js (from + i) + 1) (drop (from + i) ts) ≡ take (k + 1) (drop i (take n (drop from ts))) =
    ap (λ m. take (m + 1) (drop (from + i) ts)) (sym e) ∙ sym (part_in ts from n i (k + 1) (omega (arith, within, many))) in
    let P : List Token → Type 0 = IsGroup in subst P same group

pub many_part : (ts : List Token) (js : List ℕ) (from to : ℕ) → from ≤ to → to ≤ length ts → length js ≡ length ts → length (take (to - from) (drop from js)) ≡ length (take (to - from) (drop from ts))
many_part ts js from to h g e = grind (arith, common_steps)

pub all_but_first : (ts : List Token) (t : Token) → 0 < length ts → t ≡ get_or ts 0 t → ts ≡ t ∷ take (length ts - 1) (drop 1 ts)
all_but_first [] t h e = absurd (omega (arith, h))
all_but_first (u ∷ ts) t h e = let n : length (u ∷ ts) - 1 ≡ length ts = omega arith in ap (λ x. x ∷ ts) (sym e) ∙ ap (λ x. t ∷ x) (sym (take-length ts) ∙ ap (λ m. take m ts) (sym n))
