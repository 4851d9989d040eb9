-- With enough depth the answer doesn't depend on it, so that reading has equations without it.
use Rattle.std.proofs.Common.{◌≡◌, ℕ, zero, suc, ◌+◌, ◌*◌, ◌≤◌, ◌<◌, List, [], ◌∷◌, ◌++◌, length, Option, Some, None, refl, ◌∙◌, ap, arith}
use Rattle.c_text.specs.declared.tokens.Dialect.{Dialect}
use Rattle.c_text.specs.declared.tokens.Place.{Place}
use Rattle.c_text.specs.declared.tokens.Token.{Token}
use Rattle.c_tree.specs.declared.types.CType.{CType}
use Rattle.c_tree.specs.Tree.{Tree, Trees}
use Rattle.c_parse.specs.declared.symbols.Sign.{Sign}
use Rattle.c_parse.specs.declared.symbols.Sign.TheVariants.{Open, Close, OpenSquare, Comma, Question, Colon, SizeOf, OpenBrace}
use Rattle.c_parse.specs.declared.symbols.Symbol.{Symbol}
use Rattle.c_parse.specs.declared.symbols.Symbol.TheVariants as symbols
use Rattle.c_parse.specs.Reading.{◌>>=◌, or_else, front, place_at, behind, past, node, level_of, infix_at, infix_kind, assignment_behind, step_of, prefix_of, name_front, constant_front, cast_front, Goal, Assignment, Conditional, Operators, Operand, Prefixed, Base, Others, Readers, expression_with, arguments_with, others_with, choice_with, conditional_from, conditional_with, assignment_with, operators_with, operand_with, index_with, half_behind, postfix_with, prefixed_with, pair_front, pair_with, base_with, step, read_at, rank, weight, read}
use Rattle.c_parse.specs.Grammar.{Written, Tail, Constant, Named, Bare, Call, Brackets, Pair, Half, Index, After, Before, Prefix, SizeOfType, SizeOfName, SizeOfBracketed, Cast, Between, Choice, Assign, End, Then, spell, spell_tail}
use Rattle.c_parse.proofs.Fronts.{bind_some, past_is, name_is, front_is, infix_is, cast_is, pair_is}
use Rattle.c_parse.proofs.Sound.{Wrote, WroteTail, Sound, sound, level_max, none_past}

longer_words : (w ts : List Token) → length ts ≤ length (w ++ ts)
longer_words [] ts = omega arith
longer_words (t ∷ w) ts = let h = longer_words w ts in omega arith

mutual
  pub longer : (c : Written) (ts : List Token) → length ts < length (spell c ts)
  longer (Constant t c) ts = omega arith
  longer (Named t) ts = omega arith
  longer (Bare f o c) ts = omega arith
  longer (Call f o a rest c) ts = let h = longer_tail rest (c ∷ ts) in let k = longer a (spell_tail rest (c ∷ ts)) in omega arith
  longer (Brackets o a rest c) ts = let h = longer_tail rest (c ∷ ts) in let k = longer a (spell_tail rest (c ∷ ts)) in omega arith
  longer (Pair o w c b1 b2 a m b e1 e2) ts = let h = longer b (e1 ∷ e2 ∷ ts) in let k = longer a (m ∷ spell b (e1 ∷ e2 ∷ ts)) in omega arith
  longer (Half a o v s n k c) ts = let h = longer a (o ∷ v ∷ s ∷ n ∷ c ∷ ts) in omega arith
  longer (Index a o b rest c) ts =
      let h = longer_tail rest (c ∷ ts) in
      let k = longer b (spell_tail rest (c ∷ ts)) in
      let m = longer a (o ∷ spell b (spell_tail rest (c ∷ ts))) in
      omega arith
  longer (After a t up) ts = let h = longer a (t ∷ ts) in omega arith
  longer (Before t up a) ts = let h = longer a ts in omega arith
  longer (Prefix t op a) ts = let h = longer a ts in omega arith
  longer (SizeOfType s o words ty c) ts = let h = longer_words words (c ∷ ts) in omega arith
  longer (SizeOfName s x) ts = omega arith
  longer (SizeOfBracketed s o x c) ts = omega arith
  longer (Cast o words ty c a) ts = let h = longer a ts in let k = longer_words words (c ∷ spell a ts) in omega arith
  longer (Between a t op b) ts = let h = longer b ts in let k = longer a (t ∷ spell b ts) in omega arith
  longer (Choice a q b rest c e) ts =
      let h = longer e ts in
      let k = longer_tail rest (c ∷ spell e ts) in
      let m = longer b (spell_tail rest (c ∷ spell e ts)) in
      let n = longer a (q ∷ spell b (spell_tail rest (c ∷ spell e ts))) in
      omega arith
  longer (Assign a t op b) ts = let h = longer b ts in let k = longer a (t ∷ spell b ts) in omega arith

  pub longer_tail : (rest : Tail) (ts : List Token) → length ts ≤ length (spell_tail rest ts)
  longer_tail End ts = omega arith
  longer_tail (Then t a rest) ts = let h = longer_tail rest ts in let k = longer a (spell_tail rest ts) in omega arith

pub shrinks : (d : Dialect) (l : ℕ) (ts us : List Token) (t : Tree) → Wrote d l ts t us → length us < length ts
shrinks d l ts us t w = let h = longer w.written us in omega (arith, ap length w.spelled)

pub tail_shrinks : (d : Dialect) (ts us : List Token) (t : Trees) → WroteTail d ts t us → length us ≤ length ts
tail_shrinks d ts us t w = let h = longer_tail w.written us in omega (arith, ap length w.spelled)

pub past_shrinks : (d : Dialect) (s : Sign) (ts us : List Token) → past d s ts ≡ Some us → length us < length ts
past_shrinks d s ts us e = omega (arith, ap length (past_is d s ts us e).split)

pub cast_shrinks : (d : Dialect) (ts : List Token) (x : CType × List Token) → cast_front d ts ≡ Some x → length x.1 < length ts
cast_shrinks d ts x e = let h = cast_is d ts x e in let k = longer_words h.words (h.close ∷ x.1) in omega (arith, ap length h.split)

pub pair_shrinks : (d : Dialect) (ts us : List Token) → pair_front d ts ≡ Some us → length us < length ts
pair_shrinks d ts us e = omega (arith, ap length (pair_is d ts us e).split)

pub name_shrinks : (d : Dialect) (ts : List Token) (x : Token × List Token) → name_front d ts ≡ Some x → length x.1 < length ts
name_shrinks d ts x e = omega (arith, ap length (name_is d ts x e).1)

pub front_shrinks : {A : Type 0} (d : Dialect) (test : Symbol → Option A) (ts : List Token) (a : A) → test symbols.Other ≡ None → test (front d ts) ≡ Some a → length (behind ts) < length ts
front_shrinks d test ts a none e = let (t, is, split) = front_is d test ts a none e in omega (arith, ap length split)

-- an answer may be replaced by the same one, and what is done with it by what is the same at that answer
pub bind_same : {A B : Type 0} (o p : Option A) (f g : A → Option B) → o ≡ p → ((x : A) → o ≡ Some x → f x ≡ g x) → (o >>= f) ≡ (p >>= g)
bind_same None p f g e h = ap (λ q. q >>= g) e
bind_same (Some x) p f g e h = h x refl ∙ ap (λ q. q >>= g) e

pub or_else_same : {A B : Type 0} (o : Option A) (f g : A → B) (y z : B) → ((x : A) → o ≡ Some x → f x ≡ g x) → y ≡ z → or_else o f y ≡ or_else o g z
or_else_same None f g y z h e = e
or_else_same (Some x) f g y z h e = h x refl

module _ (d : Dialect) (R Q : Readers) (s : Sound d R) (m : ℕ) (agree : (g : Goal) (ts : List Token) → weight g ts < m → R g ts ≡ Q g ts) where
  same_row : (ts : List Token) → 6 * length ts + 5 < m → expression_with R ts ≡ expression_with Q ts
  same_row ts h = bind_same (R Assignment ts) _ _ _ (agree Assignment ts h) (λ a ae.
      let short = shrinks d 1 ts a.1 a.0 (s Assignment ts a.1 a.0 ae) in
      bind_same (R Others a.1) _ _ _ (agree Others a.1 (omega arith)) (λ r re. refl))

  same_arguments : (ts : List Token) → 6 * length ts + 5 < m → arguments_with d R ts ≡ arguments_with d Q ts
  same_arguments ts h = or_else_same (past d Close ts) _ _ _ _ (λ us o. refl) (bind_same (R Assignment ts) _ _ _ (agree Assignment ts h) (λ a ae.
      let short = shrinks d 1 ts a.1 a.0 (s Assignment ts a.1 a.0 ae) in
      bind_same (R Others a.1) _ _ _ (agree Others a.1 (omega arith)) (λ r re. refl)))

  same_others : (ts : List Token) → 6 * length ts + 5 ≤ m → others_with d R ts ≡ others_with d Q ts
  same_others ts h = or_else_same (past d Comma ts) _ _ _ _ (λ us o.
      let short = past_shrinks d Comma ts us o in
      bind_same (R Assignment us) _ _ _ (agree Assignment us (omega arith)) (λ a ae.
      let short_a = shrinks d 1 us a.1 a.0 (s Assignment us a.1 a.0 ae) in
      bind_same (R Others a.1) _ _ _ (agree Others a.1 (omega arith)) (λ r re. refl))) refl

  same_choice : (c : Tree) (ts : List Token) → 6 * length ts + 5 ≤ m → choice_with d R c ts ≡ choice_with d Q c ts
  same_choice c ts h = or_else_same (past d Question ts) _ _ _ _ (λ us o.
      let short = past_shrinks d Question ts us o in
      bind_same (expression_with R us) _ _ _ (same_row us (omega arith)) (λ a ae.
      let (b, be, e1) = bind_some (R Assignment us) _ _ ae in
      let (r, re, e2) = bind_some (R Others b.1) _ _ e1 in
      let short_b = shrinks d 1 us b.1 b.0 (s Assignment us b.1 b.0 be) in
      let short_r = tail_shrinks d b.1 r.1 r.0 (s Others b.1 r.1 r.0 re) in
      let rest : r.1 ≡ a.1 = ap (λ (o : Option (Tree × List Token)). or_else o (λ y. y.1) r.1) e2 in
      bind_same (past d Colon a.1) _ _ _ refl (λ vs k.
      let short_vs = past_shrinks d Colon a.1 vs k in
      bind_same (R Conditional vs) _ _ _ (agree Conditional vs (omega (arith, ap length rest))) (λ x xe. refl)))) refl

  -- behind an operand that was written
  same_from : (a : Tree) (ts vs : List Token) → Wrote d 13 vs a ts → 6 * length vs + 5 ≤ m → conditional_from d R a ts ≡ conditional_from d Q a ts
  same_from a ts vs w h =
      let short = shrinks d 13 vs ts a w in
      bind_same (R (Operators 3 a) ts) _ _ _ (agree (Operators 3 a) ts (omega arith)) (λ x xe.
      let y = (s (Operators 3 a) ts x.1 x.0 xe 13 w.written (omega arith) w.fits (none_past d ts) w.means).0 in
      let less = shrinks d 3 (spell w.written ts) x.1 x.0 y in
      same_choice x.0 x.1 (omega (arith, ap length w.spelled)))

  same_conditional : (ts : List Token) → 6 * length ts + 5 ≤ m → conditional_with d R ts ≡ conditional_with d Q ts
  same_conditional ts h = bind_same (R Operand ts) _ _ _ (agree Operand ts (omega arith)) (λ a ae.
      let w = (s Operand ts a.1 a.0 ae).0 in
      let short = shrinks d 13 ts a.1 a.0 w in
      same_from a.0 a.1 ts w h)

  same_assignment : (ts : List Token) → 6 * length ts + 5 ≤ m → assignment_with d R ts ≡ assignment_with d Q ts
  same_assignment ts h = bind_same (R Operand ts) _ _ _ (agree Operand ts (omega arith)) (λ a ae.
      let w = (s Operand ts a.1 a.0 ae).0 in
      let short = shrinks d 13 ts a.1 a.0 w in
      or_else_same (assignment_behind d (cast_front d ts) a.1) _ _ _ _ (λ op o.
      let less = behind_shorter a.1 in
      bind_same (R Assignment (behind a.1)) _ _ _ (agree Assignment (behind a.1) (omega arith)) (λ b be. refl))
      (same_from a.0 a.1 ts w h))
    where
      behind_shorter : (us : List Token) → length (behind us) ≤ length us
      behind_shorter [] = omega arith
      behind_shorter (t ∷ us) = omega arith

  same_operators : (l : ℕ) (a : Tree) (ts : List Token) → 6 * length ts + 5 ≤ m → operators_with d R l a ts ≡ operators_with d Q l a ts
  same_operators l a ts h = or_else_same (infix_at d l ts) _ _ _ _ (λ op o.
      let at = infix_is d l ts op o in
      let max = level_max op in
      let less : length (behind ts) < length ts = omega (arith, ap length at.split) in
      bind_same (R Operand (behind ts)) _ _ _ (agree Operand (behind ts) (omega arith)) (λ b be.
      let w = (s Operand (behind ts) b.1 b.0 be).0 in
      let short = shrinks d 13 (behind ts) b.1 b.0 w in
      bind_same (R (Operators (level_of op + 1) b.0) b.1) _ _ _ (agree (Operators (level_of op + 1) b.0) b.1 (omega arith)) (λ c ce.
      let y = (s (Operators (level_of op + 1) b.0) b.1 c.1 c.0 ce 13 w.written (omega arith) w.fits (none_past d b.1) w.means).0 in
      let short_c = shrinks d (level_of op + 1) (spell w.written b.1) c.1 c.0 y in
      agree (Operators l (node (place_at ts) (infix_kind op a c.0))) c.1 (omega (arith, ap length w.spelled))))) refl

  same_operand : (ts : List Token) → 6 * length ts + 4 ≤ m → operand_with d R ts ≡ operand_with d Q ts
  same_operand ts h = or_else_same (cast_front d ts) _ _ _ _ (λ c o.
      let short = cast_shrinks d ts c o in
      bind_same (R Operand c.1) _ _ _ (agree Operand c.1 (omega arith)) (λ a ae. refl)) (agree Prefixed ts (omega arith))

  same_index : (a : Tree) (ts : List Token) → 6 * length ts + 5 ≤ m → index_with d R a ts ≡ index_with d Q a ts
  same_index a ts h = or_else_same (past d OpenSquare ts) _ _ _ _ (λ us o.
      let short = past_shrinks d OpenSquare ts us o in
      bind_same (expression_with R us) _ _ _ (same_row us (omega arith)) (λ i ie. refl)) refl

  same_postfix : (ts : List Token) → 6 * length ts + 3 ≤ m → postfix_with d R ts ≡ postfix_with d Q ts
  same_postfix ts h = bind_same (R Base ts) _ _ _ (agree Base ts (omega arith)) (λ b be.
      let short = shrinks d 17 ts b.1 b.0 (s Base ts b.1 b.0 be) in
      or_else_same (half_behind d (constant_front ts) b.1) _ _ _ _ (λ x o. refl)
      (bind_same (index_with d R b.0 b.1) _ _ _ (same_index b.0 b.1 (omega arith)) (λ i ie. refl)))

  same_prefixed : (ts : List Token) → 6 * length ts + 3 ≤ m → prefixed_with d R ts ≡ prefixed_with d Q ts
  same_prefixed ts h = or_else_same (prefix_of (front d ts)) _ _ _ _ (λ op o.
      let short = front_shrinks d prefix_of ts op refl o in
      bind_same (R Operand (behind ts)) _ _ _ (agree Operand (behind ts) (omega arith)) (λ a ae. refl))
      (or_else_same (step_of (front d ts)) _ _ _ _ (λ up o.
      let short = front_shrinks d step_of ts up refl o in
      bind_same (R Prefixed (behind ts)) _ _ _ (agree Prefixed (behind ts) (omega arith)) (λ a ae. refl))
      (or_else_same (past d SizeOf ts) _ _ _ _ (λ us o. refl) (same_postfix ts h)))

  same_pair : (p : Place) (ts : List Token) → 6 * length ts + 5 < m → pair_with d R p ts ≡ pair_with d Q p ts
  same_pair p ts h = bind_same (past d OpenBrace ts) _ _ _ refl (λ us o.
      let short = past_shrinks d OpenBrace ts us o in
      bind_same (R Assignment us) _ _ _ (agree Assignment us (omega arith)) (λ a ae.
      let short_a = shrinks d 1 us a.1 a.0 (s Assignment us a.1 a.0 ae) in
      bind_same (past d Comma a.1) _ _ _ refl (λ vs o'.
      let short_vs = past_shrinks d Comma a.1 vs o' in
      bind_same (R Assignment vs) _ _ _ (agree Assignment vs (omega arith)) (λ b be. refl))))

  same_base : (ts : List Token) → 6 * length ts + 2 ≤ m → base_with d R ts ≡ base_with d Q ts
  same_base ts h = or_else_same (constant_front ts) _ _ _ _ (λ c o. refl) (or_else_same (name_front d ts) _ _ _ _
      (λ x o.
      let short = name_shrinks d ts x o in
      or_else_same (past d Open x.1) _ _ _ _ (λ us p.
      let short_us = past_shrinks d Open x.1 us p in
      bind_same (arguments_with d R us) _ _ _ (same_arguments us (omega arith)) (λ r re. refl)) refl)
      (or_else_same (pair_front d ts) _ _ _ _
      (λ us o.
      let short = pair_shrinks d ts us o in
      same_pair (place_at ts) us (omega arith))
      (bind_same (past d Open ts) _ _ _ refl (λ us o.
      let short = past_shrinks d Open ts us o in
      bind_same (expression_with R us) _ _ _ (same_row us (omega arith)) (λ a ae. refl)))))

  step_same : (g : Goal) (ts : List Token) → weight g ts ≤ m → step d R g ts ≡ step d Q g ts
  step_same Assignment ts h = same_assignment ts h
  step_same Conditional ts h = same_conditional ts h
  step_same (Operators l a) ts h = same_operators l a ts h
  step_same Operand ts h = same_operand ts h
  step_same Prefixed ts h = same_prefixed ts h
  step_same Base ts h = same_base ts h
  step_same Others ts h = same_others ts h

some_rank : (g : Goal) → 2 ≤ rank g
some_rank Assignment = omega arith
some_rank Conditional = omega arith
some_rank (Operators l a) = omega arith
some_rank Operand = omega arith
some_rank Prefixed = omega arith
some_rank Base = omega arith
some_rank Others = omega arith

-- deeper than deep enough is the same
stable : (d : Dialect) (n k : ℕ) (g : Goal) (ts : List Token) → weight g ts ≤ n → weight g ts ≤ k → read_at d n g ts ≡ read_at d k g ts
unfolding read_at
stable d zero k g ts h j = let r = some_rank g in absurd (omega arith)
stable d (suc n) zero g ts h j = let r = some_rank g in absurd (omega arith)
stable d (suc n) (suc k) g ts h j =
    step_same d (read_at d n) (read_at d k) (sound d n) (weight g ts) (λ p us less. stable d n k p us (omega arith) (omega arith)) g ts (omega arith)

-- reading without a depth
pub read_eq : (d : Dialect) (g : Goal) (ts : List Token) → read d g ts ≡ step d (read d) g ts
unfolding read read_at
read_eq d g ts =
    let n : ℕ = weight g ts in
    stable d n (suc n) g ts (omega arith) (omega arith)
    ∙ step_same d (read_at d n) (read d) (sound d n) n (λ p us less. stable d n (weight p us) p us (omega arith) (omega arith)) g ts (omega arith)

pub read_sound : (d : Dialect) → Sound d (read d)
unfolding read
read_sound d g ts us t e = sound d (weight g ts) g ts us t e
