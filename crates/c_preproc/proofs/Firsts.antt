-- The first refusal of a text, and what holds at each of its tokens.
use Rattle.std.proofs.Common.{◌≡◌, List, [], ◌∷◌, ◌++◌, reverse, Option, Some, None, Result, Ok, Err, OnOk, IfErr, refl, ◌∙◌, ap, subst, append_assoc, append-nil}
use Rattle.std.proofs.lemmas.List.{reverse-append}
use Rattle.c_text.specs.declared.tokens.Dialect.{Dialect}
use Rattle.c_text.specs.declared.tokens.Token.{Token}
use Rattle.c_text.specs.declared.refusals.Refusal.{Refusal}
use Rattle.c_text.specs.declared.refusals.Fail.{Fail}
use Rattle.c_text.specs.declared.refusals.Fail.TheVariants.{Refused, Memory}
use Rattle.c_preproc.specs.Scan.{refusal_at, earlier, first_refusal, first_refusal_behind, Passes, IsRefused}
use Rattle.c_text.specs.Details.{IfRefused}

-- a token in front of others, read from their end
turned : (x : Token) (front before : List Token) → reverse (x ∷ front) ++ before ≡ reverse front ++ x ∷ before
turned x front before =
    let ends : reverse (x ∷ front) ≡ reverse front ++ x ∷ [] = reverse-append (x ∷ []) front in
    rw (ends, append_assoc) refl

first_none : (a b : Option Refusal) → earlier a b ≡ None → a ≡ None
first_none None b h = refl
first_none (Some r) b h = cc

later_none : (a b : Option Refusal) → earlier a b ≡ None → b ≡ None
later_none None b h = h
later_none (Some r) b h = cc

-- where there is no first refusal behind others, every token passes
all_pass : (d : Dialect) (before tokens : List Token) → first_refusal_behind d before tokens ≡ None →
    (front after : List Token) (t : Token) → tokens ≡ front ++ t ∷ after → refusal_at d (reverse front ++ before) t after ≡ None
all_pass d before [] none [] after t cut = absurd (empty cut)
  where
    empty : [] ≡ t ∷ after → ⊥
    empty e = cc
all_pass d before [] none (x ∷ front) after t cut = absurd (empty cut)
  where
    empty : [] ≡ x ∷ (front ++ t ∷ after) → ⊥
    empty e = cc
all_pass d before (u ∷ us) none [] after t cut =
    let token : u ≡ t = cc in
    let rest : us ≡ after = cc in
    rw (← token, ← rest) (first_none (refusal_at d before u us) _ none)
all_pass d before (u ∷ us) none (x ∷ front) after t cut =
    let token : u ≡ x = cc in
    let rest : us ≡ front ++ t ∷ after = cc in
    rw (turned x front before, ← token) (all_pass d (u ∷ before) us (later_none (refusal_at d before u us) _ none) front after t rest)

-- a first refusal behind others
record RefusedBehind (d : Dialect) (before tokens : List Token) (r : Refusal) : Type 0 where
  front : List Token
  token : Token
  after : List Token
  cut : tokens ≡ front ++ token ∷ after
  refused : refusal_at d (reverse front ++ before) token after ≡ Some r
  earlier : (others rest : List Token) (t : Token) → front ≡ others ++ t ∷ rest → refusal_at d (reverse others ++ before) t (rest ++ token ∷ after) ≡ None

nothing_before : (others rest : List Token) (t : Token) → [] ≡ others ++ t ∷ rest → ⊥
nothing_before [] rest t e = cc
nothing_before (x ∷ others) rest t e = cc

at_once : (d : Dialect) (before us : List Token) (u : Token) (r : Refusal) → refusal_at d before u us ≡ Some r → RefusedBehind d before (u ∷ us) r
at_once d before us u r here = record {
  front = [];
  token = u;
  after = us;
  cut = refl;
  refused = here;
  earlier = λ others rest t e. absurd (nothing_before others rest t e);
}

one_later : (d : Dialect) (before us : List Token) (u : Token) (r : Refusal) → refusal_at d before u us ≡ None → RefusedBehind d (u ∷ before) us r → RefusedBehind d before (u ∷ us) r
one_later d before us u r here f = record {
  front = u ∷ f.front;
  token = f.token;
  after = f.after;
  cut = ap (λ ts. u ∷ ts) f.cut;
  refused = rw (turned u f.front before) f.refused;
  earlier = others_pass;
}
  where
    others_pass : (others rest : List Token) (t : Token) → u ∷ f.front ≡ others ++ t ∷ rest → refusal_at d (reverse others ++ before) t (rest ++ f.token ∷ f.after) ≡ None
    others_pass [] rest t e =
        let token : u ≡ t = cc in
        let back : f.front ≡ rest = cc in
        rw (← token, ← back, ← f.cut) here
    others_pass (x ∷ others) rest t e =
        let token : u ≡ x = cc in
        let back : f.front ≡ others ++ t ∷ rest = cc in
        rw (turned x others before, ← token) (f.earlier others rest t back)

-- the first refusal behind others
first_refused : (d : Dialect) (before tokens : List Token) (r : Refusal) → first_refusal_behind d before tokens ≡ Some r → RefusedBehind d before tokens r
first_refused d before [] r is = absurd (nothing is)
  where
    nothing : None ≡ Some r → ⊥
    nothing e = cc
first_refused d before (u ∷ us) r is = by_case (refusal_at d before u us) refl is (λ later. first_refused d (u ∷ before) us r later)
  where
    by_case : (here : Option Refusal) → refusal_at d before u us ≡ here → earlier here (first_refusal_behind d (u ∷ before) us) ≡ Some r →
        (first_refusal_behind d (u ∷ before) us ≡ Some r → RefusedBehind d (u ∷ before) us r) → RefusedBehind d before (u ∷ us) r
    by_case None at is later = one_later d before us u r at (later is)
    by_case (Some q) at is later = at_once d before us u r (at ∙ is)

pub passes : (d : Dialect) (tokens : List Token) → first_refusal d tokens ≡ None → Passes d tokens
unfolding first_refusal
passes d tokens none front after t cut = subst (λ before. refusal_at d before t after ≡ None) (append-nil (reverse front)) (all_pass d [] tokens none front after t cut)

pub refuses : (d : Dialect) (tokens : List Token) (r : Refusal) → first_refusal d tokens ≡ Some r → IsRefused d tokens r
unfolding first_refusal
refuses d tokens r is =
    let f = first_refused d [] tokens r is in
    record {
      front = f.front;
      token = f.token;
      after = f.after;
      cut = f.cut;
      refused = subst (λ before. refusal_at d before f.token f.after ≡ Some r) (append-nil (reverse f.front)) f.refused;
      earlier = λ others rest t e. subst (λ before. refusal_at d before t (rest ++ f.token ∷ f.after) ≡ None) (append-nil (reverse others)) (f.earlier others rest t e);
    }

-- what the scan answers, token by token

pub none_passes : {X : Type 0} (d : Dialect) (tokens : List Token) (r : Result X Fail) → OnOk r (first_refusal d tokens ≡ None) → OnOk r (Passes d tokens)
none_passes d tokens (Ok x) none = passes d tokens none
none_passes d tokens (Err e) none = tt

pub first_is_refused : {X : Type 0} (d : Dialect) (tokens : List Token) (r : Result X Fail) → IfErr r (λ e. IfRefused e (λ q. first_refusal d tokens ≡ Some q)) →
    IfErr r (λ e. IfRefused e (IsRefused d tokens))
first_is_refused d tokens (Ok x) is = tt
first_is_refused d tokens (Err (Refused q)) is = refuses d tokens q is
first_is_refused d tokens (Err Memory) is = tt
