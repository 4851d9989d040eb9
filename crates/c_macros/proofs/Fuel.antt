-- A list is expanded in the same way however many tokens it may have at most.
use Rattle.std.proofs.Common.{◌≡◌, ◌∙◌, ℕ, zero, suc, ◌≤◌, Bool, true, false, cond, List, [], ◌∷◌, length, Option, Some, Ok, Err, refl, ap, arith}
use Rattle.c_text.specs.declared.tokens.Token.{Token}
use Rattle.c_macros.specs.Definition.{Macros}
use Rattle.c_macros.specs.Arguments.{Sight, Plain, Wrong, Use, sight}
use Rattle.c_text.specs.Details.{refusal_of}
use Rattle.c_macros.specs.Expansion.{Made, and_then, behind, outermost, Expands, Within, each, replaced, begun, Bodies, filled, expand_most, expand_in, bodies_in, too_deep}
use Rattle.c_macros.specs.Stack.{size}
use Rattle.c_macros.proofs.Sizes.{Short, short}

-- what follows does the same with whatever was made
pub and_then-same : {A B : Type 0} (made : Made A) (f g : A → ℕ → Made B) → ((x : A) (w : ℕ) → f x w ≡ g x w) → and_then made f ≡ and_then made g
and_then-same (Ok (x, w)) f g h = h x w
and_then-same (Err r) f g h = refl

pub and_then-assoc : {A B C : Type 0} (made : Made A) (f : A → ℕ → Made B) (g : B → ℕ → Made C) →
    and_then (and_then made f) g ≡ and_then made (λ x w. and_then (f x w) g)
and_then-assoc (Ok (x, w)) f g = refl
and_then-assoc (Err r) f g = refl

-- both expand a list of at most k tokens in the same way
abbrev pub Agree : ℕ → Expands → Expands → Type 0
Agree k f g = (ts : List Token) (w : ℕ) → length ts ≤ k → f ts w ≡ g ts w

argument_same : (k : ℕ) (f g : Expands) → Agree k f g → (b : Bool) (a : List Token) (w : ℕ) → length a ≤ k →
    cond b (f a w) (Ok ([], w)) ≡ cond b (g a w) (Ok ([], w))
argument_same k f g h true a w short = h a w short
argument_same k f g h false a w short = refl

each_same : (k : ℕ) (f g : Expands) → Agree k f g → (used : List Bool) (args : List (List Token)) (w : ℕ) → size args ≤ suc k → each f used args w ≡ each g used args w
each_same k f g h [] args w short = refl
each_same k f g h (u ∷ us) [] w short = refl
each_same k f g h (u ∷ us) (a ∷ args) w short =
    ap (λ m. and_then m (λ x v. and_then (each f us args v) (λ xs z. Ok (x ∷ xs, z)))) (argument_same k f g h u a w (omega arith)) ∙
    and_then-same (cond u (g a w) (Ok ([], w))) _ _ (λ x v. ap (λ m. and_then m (λ xs z. Ok (x ∷ xs, z))) (each_same k f g h us args v (omega arith)))

begun_same : (limit : ℕ) (bodies : Bodies) (uses : List Token) (f g : Within) (top : Option Token) (t : Token) (ts : List Token) → ((u : Option Token) → Agree (length ts) (f u) (g u)) →
    (s : Sight) → Short (length ts) s → (w : ℕ) → begun limit bodies uses f top t ts s w ≡ begun limit bodies uses g top t ts s w
begun_same limit bodies uses f g top t ts h Plain short w = ap (λ m. and_then m (behind (t ∷ []))) (h top ts w (omega arith))
begun_same limit bodies uses f g top t ts h Wrong short w = refl
begun_same limit bodies uses f g top t ts h (Use m args rest) short w =
    let u : Option Token = Some (outermost top t) in
    ap (λ e. and_then e (λ xs v. and_then (replaced limit bodies uses (outermost top t) t (filled t.place xs m.body) v) (λ ys z. and_then (f top rest z) (behind ys))))
    (each_same (length ts) (f u) (g u) (h u) m.used args w (omega (arith, short))) ∙
    and_then-same (each (g u) m.used args w) _ _ (λ xs v.
    and_then-same (replaced limit bodies uses (outermost top t) t (filled t.place xs m.body) v) _ _ (λ ys z.
    ap (λ e. and_then e (behind ys)) (h top rest z (omega (arith, short)))))

pub most_same : (limit : ℕ) (macros : Macros) (bodies : Bodies) (uses : List Token) (n m : ℕ) (top : Option Token) (ts : List Token) (w : ℕ) → length ts ≤ n → length ts ≤ m →
    expand_most limit macros bodies uses n top ts w ≡ expand_most limit macros bodies uses m top ts w
most_same limit macros bodies uses zero m top [] w h g = refl
most_same limit macros bodies uses (suc n) m top [] w h g = refl
most_same limit macros bodies uses zero m top (t ∷ ts) w h g = absurd (omega (arith, h))
most_same limit macros bodies uses (suc n) zero top (t ∷ ts) w h g = absurd (omega (arith, g))
most_same limit macros bodies uses (suc n) (suc m) top (t ∷ ts) w h g =
    begun_same limit bodies uses (λ u us v. expand_most limit macros bodies uses n u us v) (λ u us v. expand_most limit macros bodies uses m u us v) top t ts
    (λ u us v short. most_same limit macros bodies uses n m u us v (omega (arith, h, short)) (omega (arith, g, short)))
    (sight macros uses t ts) (short macros uses t ts) w

-- what a list gives by its first token
pub expand-first : (limit : ℕ) (macros : Macros) (depth : ℕ) (uses : List Token) (top : Option Token) (t : Token) (ts : List Token) (w : ℕ) →
    expand_in limit macros depth uses top (t ∷ ts) w ≡ begun limit (bodies_in limit macros depth) uses (expand_in limit macros depth uses) top t ts (sight macros uses t ts) w
unfolding expand_in
expand-first limit macros depth uses top t ts w =
    begun_same limit (bodies_in limit macros depth) uses (λ u us v. expand_most limit macros (bodies_in limit macros depth) uses (length ts) u us v) (expand_in limit macros depth uses) top t ts
    (λ u us v few. most_same limit macros (bodies_in limit macros depth) uses (length ts) (length us) u us v few (omega arith))
    (sight macros uses t ts) (short macros uses t ts) w

pub expand-none : (limit : ℕ) (macros : Macros) (depth : ℕ) (uses : List Token) (top : Option Token) (w : ℕ) → expand_in limit macros depth uses top [] w ≡ Ok ([], w)
unfolding expand_in
expand-none limit macros depth uses top w = refl

-- a body
pub bodies-more : (limit : ℕ) (macros : Macros) (depth : ℕ) (top : Token) (uses : List Token) (ts : List Token) (w : ℕ) →
    bodies_in limit macros (suc depth) top uses ts w ≡ expand_in limit macros depth uses (Some top) ts w
unfolding expand_in bodies_in
bodies-more limit macros depth top uses ts w = refl

pub bodies-none : (limit : ℕ) (macros : Macros) (top : Token) (uses : List Token) (ts : List Token) (w : ℕ) → bodies_in limit macros zero top uses ts w ≡ Err (refusal_of too_deep top)
unfolding bodies_in
bodies-none limit macros top uses ts w = refl
