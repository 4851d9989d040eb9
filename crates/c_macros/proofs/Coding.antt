-- What the code's steps say of what is left.
use Rattle.std.proofs.Common.{◌≡◌, ◌∙◌, ℕ, zero, suc, ◌-◌, cond, false, nat_lt, ◌+◌, ◌≤◌, List, [], ◌∷◌, ◌++◌, map, length, Option, Some, None, Result, Ok, Err, refl, ap, sym, subst, arith, rules, Vec, Global, vec_len}
use Rattle.std.proofs.lemmas.List.{map-append, append-nil}
use Rattle.c_text.specs.declared.tokens.Token.{Token}
use Rattle.c_text.specs.declared.refusals.Refusal.{Refusal}
use Rattle.c_text.specs.declared.refusals.Fail.{Fail}
use Rattle.c_text.specs.declared.refusals.Fail.TheVariants.{Refused, Memory}
use Rattle.c_macros.specs.declared.expanding.Open.{Open}
use Rattle.c_macros.specs.declared.expanding.Next.{Next}
use Rattle.c_macros.specs.declared.expanding.Made.{Made as CodeMade}
use Rattle.c_macros.specs.Definition.{Definition, Macros}
use Rattle.c_macros.specs.Arguments.{Sight, Use, sight}
use Rattle.c_macros.proofs.Sizes.{Short, short}
use Rattle.c_text.specs.Details.{refusal_of, IfRefused}
use Rattle.c_macros.specs.Expansion.{Made, and_then, behind, replaced, filled, bodies_in, expand_in, too_many, too_deep}
use Rattle.std.proofs.lemmas.Bool.{le-ltb}
use Rattle.c_macros.specs.Stack.{Frame, top_of, with_done, size, next_of, pending, resumed}
use Rattle.c_macros.specs.Gives.{Refuses, Goes, frame_seen, frame_size, stack_size}
use Rattle.c_macros.proofs.Resuming.{pending-end, resumed-refused, resumed-push, stack_size-push}
use Rattle.c_macros.proofs.Fuel.{bodies-more, bodies-none, expand-none}

-- one more use on the stack
pub frames-push : (xs : List Open) (o : Open) → map frame_seen (xs ++ o ∷ []) ≡ map frame_seen xs ++ frame_seen o ∷ []
frames-push xs o = map-append {B = Frame} frame_seen xs (o ∷ [])

-- one more argument that is expanded
pub done-more : (xs : List (Vec Token Global)) (x : Vec Token Global) → map (λ v. v.items) (xs ++ x ∷ []) ≡ map (λ v. v.items) xs ++ x.items ∷ []
done-more xs x = map-append {B = List Token} (λ v. v.items) xs (x ∷ [])

-- a refusal is passed on
pub refuses_along : {X : Type 0} (a b : Made X) (e : Fail) → a ≡ b → Refuses b e → Refuses a e
refuses_along a b (Refused r) p h = p ∙ h
refuses_along a b Memory p h = tt

pub refuses_as : {X : Type 0} (a : Made X) (r : Refusal) (e : Fail) → a ≡ Err r → IfRefused e (λ s. s ≡ r) → Refuses a e
refuses_as a r (Refused s) p h = p ∙ ap (λ x. Err x) (sym h)
refuses_as a r Memory p h = tt

refused_made : (m : Made (List Token)) (front : List Token) (r : Refusal) → and_then m (behind front) ≡ Err r → m ≡ Err r
refused_made (Ok (ys, w)) front r h = cc
refused_made (Err s) front r h = h

tokens_in : Made (List Token) → List Token
tokens_in (Ok (ts, w)) = ts
tokens_in (Err r) = []

work_in : Made (List Token) → ℕ
work_in (Ok (ts, w)) = w
work_in (Err r) = 0

ok_parts : (xs ys : List Token) (w v : ℕ) → ◌≡◌ {A = Made (List Token)} (Ok (xs, w)) (Ok (ys, v)) → (xs ≡ ys) × (w ≡ v)
unfolding tokens_in work_in
ok_parts xs ys w v h = (ap tokens_in h, ap work_in h)

made_made : (m : Made (List Token)) (front ts : List Token) (v : ℕ) (g : List Token → ℕ → Made (List Token)) → and_then m (behind front) ≡ Ok (ts, v) →
    and_then m (λ ys u. g (front ++ ys) u) ≡ g ts v
made_made (Ok (ys, w)) front ts v g h = let same : (front ++ ys ≡ ts) × (w ≡ v) = ok_parts (front ++ ys) ts w v h in ap (λ x. g x w) same.0 ∙ ap (g ts) same.1
made_made (Err s) front ts v g h = absurd (cc)

-- what is answered of one thing is answered of what is the same
pub goes_along : (limit : ℕ) (macros : Macros) (depth : ℕ) (uses : List Token) (a b : Made (List Token)) (r : Result Next Fail) (stack : List Open) (made : CodeMade) →
    a ≡ b → Goes limit macros depth uses b r stack made → Goes limit macros depth uses a r stack made
goes_along limit macros depth uses a b (Ok next) stack made p h = p ∙ h
goes_along limit macros depth uses a b (Err e) stack made p h = refuses_along a b e p h

-- a use is no longer than what stands behind its name
short_if_use : (k : ℕ) (s : Sight) (m : Definition) (args : List (List Token)) (rest : List Token) → Use m args rest ≡ s → Short k s → size args + length rest ≤ k
short_if_use k s m args rest e h = let P : Sight → Type 0 = Short k in subst P (sym e) h

pub use_short : (macros : Macros) (uses : List Token) (t : Token) (ts : List Token) (m : Definition) (args : List (List Token)) (rest : List Token) → Use m args rest ≡ sight macros uses t ts →
    size args + length rest ≤ length ts
use_short macros uses t ts m args rest e = short_if_use (length ts) (sight macros uses t ts) m args rest e (short macros uses t ts)

module _ (limit : ℕ) (macros : Macros) (depth : ℕ) (uses : List Token) where
  -- a use without arguments to be read, whose body is refused
  pub ended-fails : (fs : List Frame) (f : Frame) (w : ℕ) (e : Fail) → next_of f ≡ None →
      Refuses (and_then (replaced limit (bodies_in limit macros depth) uses (top_of f) f.name (filled f.name.place f.done f.definition.body) w) (behind f.front)) e →
      Refuses (resumed limit macros depth uses fs (pending limit macros depth uses f w)) e
  ended-fails fs f w (Refused r) none h =
      ap (resumed limit macros depth uses fs)
      (pending-end limit macros depth uses f w none ∙
      ap (λ m. and_then m (λ ys v. and_then (expand_in limit macros depth uses f.outer f.rest v) (behind (f.front ++ ys))))
      (refused_made (replaced limit (bodies_in limit macros depth) uses (top_of f) f.name (filled f.name.place f.done f.definition.body) w) f.front r h)) ∙
      resumed-refused limit macros depth uses fs r
  ended-fails fs f w Memory none h = tt

  -- or is made
  pub ended-goes : (fs : List Frame) (f : Frame) (w : ℕ) (ts : List Token) (v : ℕ) → next_of f ≡ None →
      and_then (replaced limit (bodies_in limit macros depth) uses (top_of f) f.name (filled f.name.place f.done f.definition.body) w) (behind f.front) ≡ Ok (ts, v) →
      resumed limit macros depth uses fs (pending limit macros depth uses f w) ≡ resumed limit macros depth uses fs (and_then (expand_in limit macros depth uses f.outer f.rest v) (behind ts))
  ended-goes fs f w ts v none h =
      ap (resumed limit macros depth uses fs)
      (pending-end limit macros depth uses f w none ∙
      made_made (replaced limit (bodies_in limit macros depth) uses (top_of f) f.name (filled f.name.place f.done f.definition.body) w) f.front ts v
      (λ ys u. and_then (expand_in limit macros depth uses f.outer f.rest u) (behind ys)) h)

-- a body that is expanded
pub replaced-more : (limit : ℕ) (macros : Macros) (depth : ℕ) (uses : List Token) (top t : Token) (ts : List Token) (work sum : ℕ) →
    sum ≡ work + (1 + length ts) → sum ≤ limit → (depth ≡ 0 → ⊥) →
    replaced limit (bodies_in limit macros depth) uses top t ts work ≡ expand_in limit macros (depth - 1) (uses ++ t ∷ []) (Some top) ts sum
replaced-more limit macros zero uses top t ts work sum e h some = absurd (some refl)
replaced-more limit macros (suc depth) uses top t ts work sum e h some =
    let less : suc depth - 1 ≡ depth = omega arith in
    let within : nat_lt limit (work + (1 + length ts)) ≡ false = le-ltb limit (work + (1 + length ts)) (omega arith) in
    ap (λ b. cond b (Err (refusal_of too_many top)) (bodies_in limit macros (suc depth) top (uses ++ t ∷ []) ts (work + (1 + length ts)))) within ∙
    bodies-more limit macros depth top (uses ++ t ∷ []) ts (work + (1 + length ts)) ∙
    ap (λ n. expand_in limit macros depth (uses ++ t ∷ []) (Some top) ts n) (sym e) ∙ ap (λ d. expand_in limit macros d (uses ++ t ∷ []) (Some top) ts sum) (sym less)

-- the end of an argument, where a use is taken off the stack
pub stack-popped : (xs all : List Open) (o : Open) → all ≡ xs ++ o ∷ [] → stack_size (map frame_seen all) ≡ stack_size (map frame_seen xs) + frame_size (frame_seen o)
stack-popped xs all o e = ap (λ x. stack_size (map frame_seen x)) e ∙ ap stack_size (frames-push xs o) ∙ stack_size-push (map frame_seen xs) (frame_seen o)

pub resumed-popped : (limit : ℕ) (macros : Macros) (depth : ℕ) (uses : List Token) (top : Option Token) (xs all : List Open) (o : Open) (ls ts : List Token) (w : ℕ) → all ≡ xs ++ o ∷ [] → ls ≡ [] →
    resumed limit macros depth uses (map frame_seen all) (and_then (expand_in limit macros depth uses top ls w) (behind ts)) ≡
    resumed limit macros depth uses (map frame_seen xs) (pending limit macros depth uses (with_done ts (frame_seen o)) w)
resumed-popped limit macros depth uses top xs all o ls ts w e g =
    ap (λ x. resumed limit macros depth uses (map frame_seen all) (and_then (expand_in limit macros depth uses top x w) (behind ts))) g ∙
    ap (λ m. resumed limit macros depth uses (map frame_seen all) (and_then m (behind ts))) (expand-none limit macros depth uses top w) ∙
    ap (λ x. resumed limit macros depth uses (map frame_seen all) (Ok (x, w))) (append-nil ts) ∙
    ap (λ x. resumed limit macros depth uses x (Ok (ts, w))) (ap (map frame_seen) e ∙ frames-push xs o) ∙
    resumed-push limit macros depth uses (map frame_seen xs) (frame_seen o) (Ok (ts, w))

pub nothing_in : (v : Vec Open Global) → vec_len v ≡ 0 → v.items ≡ []
nothing_in v h = none_in v.items (search rules) where
  none_in : (xs : List Open) → length xs ≡ 0 → xs ≡ []
  none_in [] e = refl
  none_in (o ∷ xs) e = absurd (omega (arith, e))

-- nothing is left
pub resumed-done : (limit : ℕ) (macros : Macros) (depth : ℕ) (uses : List Token) (top : Option Token) (all : List Open) (ls ts : List Token) (w : ℕ) → all ≡ [] → ls ≡ [] →
    resumed limit macros depth uses (map frame_seen all) (and_then (expand_in limit macros depth uses top ls w) (behind ts)) ≡ Ok (ts, w)
resumed-done limit macros depth uses top all ls ts w e g =
    ap (λ x. resumed limit macros depth uses x (and_then (expand_in limit macros depth uses top ls w) (behind ts))) (ap (map frame_seen) e) ∙
    ap (λ x. and_then (expand_in limit macros depth uses top x w) (behind ts)) g ∙
    ap (λ m. and_then m (behind ts)) (expand-none limit macros depth uses top w) ∙
    ap (λ x. Ok (x, w)) (append-nil ts)

-- a body that stands in too many
pub replaced-deep : (limit : ℕ) (macros : Macros) (depth : ℕ) (uses : List Token) (top t : Token) (ts : List Token) (work sum : ℕ) →
    sum ≡ work + (1 + length ts) → sum ≤ limit → depth ≡ 0 → replaced limit (bodies_in limit macros depth) uses top t ts work ≡ Err (refusal_of too_deep top)
replaced-deep limit macros zero uses top t ts work sum e h none =
    let within : nat_lt limit (work + (1 + length ts)) ≡ false = le-ltb limit (work + (1 + length ts)) (omega arith) in
    ap (λ b. cond b (Err (refusal_of too_many top)) (bodies_in limit macros zero top (uses ++ t ∷ []) ts (work + (1 + length ts)))) within ∙
    bodies-none limit macros top (uses ++ t ∷ []) ts (work + (1 + length ts))
replaced-deep limit macros (suc depth) uses top t ts work sum e h none = absurd (omega (arith, none))
