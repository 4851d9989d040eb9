-- Arguments, token by token.
use Rattle.std.proofs.Common.{◌≡◌, ◌∙◌, ℕ, zero, suc, ◌+◌, ◌-◌, ◌<◌, ◌≤◌, List, [], ◌∷◌, ◌++◌, length, get_or, take, drop, Some, None, map, refl, ap, sym, append_assoc, arith}
use Rattle.std.proofs.lemmas.List.{append-nil, drop_more, map-append}
use Rattle.std.proofs.lemmas.List.Edits.{between_more}
use Rattle.c_text.specs.declared.tokens.Token.{Token}
use Rattle.c_macros.specs.declared.roles.Role.TheVariants.{Opens, Closes, Parts, Other}
use Rattle.c_macros.specs.declared.segments.Segment.{Segment}
use Rattle.c_macros.specs.Arguments.{Cut, onto, before, role, arguments}
use Rattle.c_macros.specs.Seen.{listed, glued}

-- nothing was passed
pub glued_none : (c : Cut) → listed c ≡ glued [] [] c
glued_none None = refl
glued_none (Some (first, (others, rest))) = refl

-- one more token of an argument
pub glued_more : (done : List (List Token)) (start : List Token) (t : Token) (c : Cut) → glued done start (onto t c) ≡ glued done (start ++ t ∷ []) c
glued_more done start t None = refl
glued_more done start t (Some (first, (others, rest))) = ap (λ x. Some (done ++ x ∷ others, rest)) (sym (append_assoc start (t ∷ []) first))

-- the next argument
pub glued_next : (done : List (List Token)) (start : List Token) (c : Cut) → glued done start (before c) ≡ glued (done ++ start ∷ []) [] c
glued_next done start None = refl
glued_next done start (Some (first, (others, rest))) =
    ap (λ x. Some (done ++ x ∷ (first ∷ others), rest)) (append-nil start) ∙ ap (λ x. Some (x, rest)) (sym (append_assoc done (start ∷ []) (first ∷ others)))

-- the tokens from a place on, where the token of that place is known
pub from_here : (ts : List Token) (i : ℕ) (t : Token) → i < length ts → t ≡ get_or ts i t → drop i ts ≡ t ∷ drop (i + 1) ts
from_here ts i t h e = drop_more ts i t h ∙ ap (λ x. x ∷ drop (i + 1) ts) (sym e)

-- what an argument has so far, one token on
pub so_far : (ts : List Token) (start i : ℕ) (t : Token) → start ≤ i → i < length ts → t ≡ get_or ts i t →
    take (i + 1 - start) (drop start ts) ≡ take (i - start) (drop start ts) ++ t ∷ []
so_far ts start i t b h e = between_more ts start i t b h ∙ ap (λ x. take (i - start) (drop start ts) ++ x ∷ []) (sym e)

module _ (ts : List Token) (start i : ℕ) (t : Token) (done : List (List Token)) (b : start ≤ i) (h : i < length ts) (e : t ≡ get_or ts i t) where
  within : (n : ℕ) (c : Cut) → arguments n (t ∷ drop (i + 1) ts) ≡ onto t c →
      glued done (take (i - start) (drop start ts)) (arguments n (drop i ts)) ≡ glued done (take (i + 1 - start) (drop start ts)) c
  within n c f =
      ap (λ x. glued done (take (i - start) (drop start ts)) (arguments n x)) (from_here ts i t h e) ∙
      ap (glued done (take (i - start) (drop start ts))) f ∙ glued_more done (take (i - start) (drop start ts)) t c ∙
      ap (λ x. glued done x c) (sym (so_far ts start i t b h e))

  pub opens_more : (n : ℕ) → Opens ≡ role t →
      glued done (take (i - start) (drop start ts)) (arguments n (drop i ts)) ≡ glued done (take (i + 1 - start) (drop start ts)) (arguments (n + 1) (drop (i + 1) ts))
  opens_more n f = within n (arguments (n + 1) (drop (i + 1) ts)) (rw (← f) refl)

  pub closes_more : (n : ℕ) → Closes ≡ role t →
      glued done (take (i - start) (drop start ts)) (arguments (suc n) (drop i ts)) ≡ glued done (take (i + 1 - start) (drop start ts)) (arguments n (drop (i + 1) ts))
  closes_more n f = within (suc n) (arguments n (drop (i + 1) ts)) (rw (← f) refl)

  pub parts_more : (n : ℕ) → Parts ≡ role t →
      glued done (take (i - start) (drop start ts)) (arguments (suc n) (drop i ts)) ≡ glued done (take (i + 1 - start) (drop start ts)) (arguments (suc n) (drop (i + 1) ts))
  parts_more n f = within (suc n) (arguments (suc n) (drop (i + 1) ts)) (rw (← f) refl)

  pub other_more : (n : ℕ) → Other ≡ role t →
      glued done (take (i - start) (drop start ts)) (arguments n (drop i ts)) ≡ glued done (take (i + 1 - start) (drop start ts)) (arguments n (drop (i + 1) ts))
  other_more n f = within n (arguments n (drop (i + 1) ts)) (rw (← f) refl)

  pub parts_next : Parts ≡ role t →
      glued done (take (i - start) (drop start ts)) (arguments 0 (drop i ts)) ≡ glued (done ++ take (i - start) (drop start ts) ∷ []) [] (arguments 0 (drop (i + 1) ts))
  parts_next f =
      ap (λ x. glued done (take (i - start) (drop start ts)) (arguments 0 x)) (from_here ts i t h e) ∙
      rw (← f) (glued_next done (take (i - start) (drop start ts)) (arguments 0 (drop (i + 1) ts)))

  pub closes_end : Closes ≡ role t →
      glued done (take (i - start) (drop start ts)) (arguments 0 (drop i ts)) ≡ Some (done ++ take (i - start) (drop start ts) ∷ [], drop (i + 1) ts)
  closes_end f =
      ap (λ x. glued done (take (i - start) (drop start ts)) (arguments 0 x)) (from_here ts i t h e) ∙
      rw (← f) (ap (λ x. Some (done ++ x ∷ [], drop (i + 1) ts)) (append-nil (take (i - start) (drop start ts))))

  pub closes_less : (n : ℕ) → (n ≡ 0 → ⊥) → Closes ≡ role t →
      glued done (take (i - start) (drop start ts)) (arguments n (drop i ts)) ≡ glued done (take (i + 1 - start) (drop start ts)) (arguments (n - 1) (drop (i + 1) ts))
  closes_less zero some f = absurd (some refl)
  closes_less (suc n) some f = let less : suc n - 1 ≡ n = omega arith in rw less (closes_more n f)

  pub parts_within : (n : ℕ) → (n ≡ 0 → ⊥) → Parts ≡ role t →
      glued done (take (i - start) (drop start ts)) (arguments n (drop i ts)) ≡ glued done (take (i + 1 - start) (drop start ts)) (arguments n (drop (i + 1) ts))
  parts_within zero some f = absurd (some refl)
  parts_within (suc n) some f = parts_more n f

-- a further argument, seen as it is kept
pub kept_next : (done : List Segment) (x : Segment) → map (λ a. a.tokens.now) (done ++ x ∷ []) ≡ map (λ a. a.tokens.now) done ++ x.tokens.now ∷ []
kept_next done x = map-append {B = List Token} (λ a. a.tokens.now) done (x ∷ [])

pub empty_start : (ts : List Token) (i : ℕ) → take (i - i) (drop i ts) ≡ []
empty_start ts i = let none : i - i ≡ 0 = omega arith in rw none refl
