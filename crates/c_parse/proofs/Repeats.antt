-- The same thing again and again: what is read was written, what is written is read, and how one more is read.
use Rattle.std.proofs.Common.{◌≡◌, ℕ, zero, suc, ◌+◌, ◌<◌, inl, inr, List, [], ◌∷◌, ◌++◌, length, map, Option, Some, None, refl, ◌∙◌, ap, arith}
use Rattle.c_text.specs.declared.tokens.Token.{Token}
use Rattle.c_parse.specs.Reading.{◌>>=◌, or_else}
use Rattle.c_parse.specs.Repeated.{Each, spell_each, says_each, means_each, repeat_at, repeated}
use Rattle.c_parse.proofs.Fronts.{bind_some, or_else_cases}
use Rattle.c_parse.proofs.Stable.{bind_same, or_else_same}

-- the pairs that two equal answers hold are the same
pub same_answer : {A : Type 0} (x y : A) (us vs : List Token) → ◌≡◌ {A = Option (A × List Token)} (Some (x, us)) (Some (y, vs)) → x ≡ y
same_answer x y us vs e = ap (λ (o : Option _). or_else o (λ p. p.0) x) e

pub same_rest : {A : Type 0} (x y : A) (us vs : List Token) → ◌≡◌ {A = Option (A × List Token)} (Some (x, us)) (Some (y, vs)) → us ≡ vs
same_rest x y us vs e = ap (λ (o : Option _). or_else o (λ p. p.1) us) e

pub same_some : {A : Type 0} (x y : A) → Some x ≡ Some y → x ≡ y
same_some x y e = ap (λ (o : Option _). or_else o (λ p. p) x) e

-- ts is written as one of these that means r, and then us
pub record Wrote {I A : Type 0} (Fits : I → Type 0) (spell : I → List Token → List Token) (say : I → Option A) (ts : List Token) (r : A) (us : List Token) : Type 0 where
  pub item : I
  pub fits : Fits item
  pub spelled : ts ≡ spell item us
  pub means : say item ≡ Some r

module _ {S I : Type 0} (test : List Token → Option (List Token)) (one : S → List Token → Option (S × List Token)) (fits : I → Type 0) (spell : I → List Token → List Token) (say : S → I → Option S) where
  repeat_sound : ((s r : S) (ts us vs : List Token) → test ts ≡ Some us → one s us ≡ Some (r, vs) → Wrote fits spell (say s) ts r vs) →
      (n : ℕ) (s r : S) (ts us : List Token) → repeat_at n test one s ts ≡ Some (r, us) → Wrote (Each fits) (spell_each spell) (says_each say s) ts r us
  repeat_sound sound zero s r ts us e = absurd (cc)
  repeat_sound sound (suc n) s r ts us e =
      elim (or_else_cases (test ts) _ _ _ e) [
        | inl (vs, o, e1) ↦
            let (x, xe, e2) = bind_some (one s vs) _ _ e1 in
            let w = sound s x.0 ts vs x.1 o xe in
            let more = repeat_sound sound n x.0 r x.1 us e2 in
            record {
              item = w.item ∷ more.item;
              fits = (w.fits, more.fits);
              spelled = w.spelled ∙ ap (spell w.item) more.spelled;
              means = rw (w.means) more.means;
            }
        | inr (o, e1) ↦ record { item = []; fits = tt; spelled = same_rest _ _ _ _ e1; means = ap Some (same_answer _ _ _ _ e1) }
      ]

  -- what is read was written
  pub repeated_sound : ((s r : S) (ts us vs : List Token) → test ts ≡ Some us → one s us ≡ Some (r, vs) → Wrote fits spell (say s) ts r vs) →
      (s r : S) (ts us : List Token) → repeated test one s ts ≡ Some (r, us) → Wrote (Each fits) (spell_each spell) (says_each say s) ts r us
  unfolding repeated
  repeated_sound sound s r ts us e = repeat_sound sound (suc (length ts)) s r ts us e

module _ {S : Type 0} (test : List Token → Option (List Token)) (one : S → List Token → Option (S × List Token)) (shrinks : (s r : S) (ts us vs : List Token) → test ts ≡ Some us → one s us ≡ Some (r, vs) → length vs < length ts) where
  repeat_same : (n k : ℕ) (s : S) (ts : List Token) → length ts < n → length ts < k → repeat_at n test one s ts ≡ repeat_at k test one s ts
  repeat_same zero k s ts h j = absurd (omega arith)
  repeat_same (suc n) zero s ts h j = absurd (omega arith)
  repeat_same (suc n) (suc k) s ts h j = or_else_same (test ts) _ _ _ _ (λ us o. bind_same (one s us) _ _ _ refl (λ x xe.
      let less = shrinks s x.0 ts us x.1 o xe in
      repeat_same n k x.0 x.1 (omega arith) (omega arith))) refl

  -- one more
  pub repeated_eq : (s : S) (ts : List Token) → repeated test one s ts ≡ or_else (test ts) (λ us. one s us >>= λ x. repeated test one x.0 x.1) (Some (s, ts))
  unfolding repeated
  repeated_eq s ts = or_else_same (test ts) _ _ _ _ (λ us o. bind_same (one s us) _ _ _ refl (λ x xe.
      let less = shrinks s x.0 ts us x.1 o xe in
      repeat_same (length ts) (suc (length x.1)) x.0 x.1 (omega arith) (omega arith))) refl

-- where one is read, in front of what may follow it
pub record Goes {S : Type 0} (test : List Token → Option (List Token)) (one : S → List Token → Option (S × List Token)) (s r : S) (ts us : List Token) : Type 0 where
  pub behind : List Token
  pub on : test ts ≡ Some behind
  pub reads : one s behind ≡ Some (r, us)

module _ {S I : Type 0} (test : List Token → Option (List Token)) (one : S → List Token → Option (S × List Token)) (fits : I → Type 0) (spell : I → List Token → List Token) (say : S → I → Option S)
    (shrinks : (s r : S) (ts us vs : List Token) → test ts ≡ Some us → one s us ≡ Some (r, vs) → length vs < length ts)
    (fine : List Token → Type 0) (spells : (i : I) (ts : List Token) → fits i → fine (spell i ts))
    (goes : (i : I) (s r : S) (us : List Token) → fits i → fine us → say s i ≡ Some r → Goes test one s r (spell i us) us) where
  each_fine : (all : List I) (us : List Token) → Each fits all → fine us → fine (spell_each spell all us)
  each_fine [] us f h = h
  each_fine (i ∷ all) us f h = spells i (spell_each spell all us) f.0

  -- what is written is read
  pub repeated_complete : (all : List I) (s r : S) (us : List Token) → Each fits all → fine us → test us ≡ None → says_each say s all ≡ Some r →
      repeated test one s (spell_each spell all us) ≡ Some (r, us)
  repeated_complete [] s r us f h stop e = repeated_eq test one shrinks s us ∙ rw stop (ap (λ x. Some (x, us)) (ap (λ (o : Option S). or_else o (λ x. x) s) e))
  repeated_complete (i ∷ all) s r us f h stop e =
      let (x, xe, e1) = bind_some (say s i) _ _ e in
      let g = goes i s x (spell_each spell all us) f.0 (each_fine all us f.1 h) xe in
      repeated_eq test one shrinks s (spell i (spell_each spell all us)) ∙ rw (g.on, g.reads) (repeated_complete all x r us f.1 h stop e1)

nothing_more : {A : Type 0} (s : List A) → s ≡ s ++ []
nothing_more [] = refl
nothing_more (x ∷ s) = ap (λ y. x ∷ y) (nothing_more s)

joined : {A : Type 0} (u v w : List A) → (u ++ v) ++ w ≡ u ++ (v ++ w)
joined [] v w = refl
joined (x ∷ u) v w = ap (λ y. x ∷ y) (joined u v w)

added : {A : Type 0} (s : List A) (x : A) (o : Option (List A)) → (o >>= λ xs. Some ((s ++ (x ∷ [])) ++ xs)) ≡ ((o >>= λ xs. Some (x ∷ xs)) >>= λ xs. Some (s ++ xs))
added s x None = refl
added s x (Some xs) = ap Some (joined s (x ∷ []) xs)

-- what is added one by one at the end of a list
pub means_added : {I A : Type 0} (means : I → Option A) (all : List I) (s : List A) →
    says_each (λ s i. means i >>= λ x. Some (s ++ (x ∷ []))) s all ≡ (means_each means all >>= λ xs. Some (s ++ xs))
means_added means [] s = ap Some (nothing_more s)
means_added {A = A} means (i ∷ all) s = go (λ r. means_added means all r) (means i)
  where
    go : ((r : List A) → says_each (λ s i. means i >>= λ x. Some (s ++ (x ∷ []))) r all ≡ (means_each means all >>= λ xs. Some (r ++ xs))) → (o : Option A) →
        ((o >>= λ x. Some (s ++ (x ∷ []))) >>= λ r. says_each (λ s i. means i >>= λ x. Some (s ++ (x ∷ []))) r all) ≡
        ((o >>= λ x. means_each means all >>= λ xs. Some (x ∷ xs)) >>= λ xs. Some (s ++ xs))
    go more None = refl
    go more (Some x) = more (s ++ (x ∷ [])) ∙ added s x (means_each means all)

pub means_map : {I A : Type 0} (f : I → A) (all : List I) → means_each (λ i. Some (f i)) all ≡ Some (map f all)
means_map f [] = refl
means_map f (i ∷ all) = rw (means_map f all) refl
