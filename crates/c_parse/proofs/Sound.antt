-- What is read was written so.
use Rattle.std.proofs.Common.{◌≡◌, ℕ, zero, suc, ◌+◌, ◌≤◌, ◌<◌, inl, inr, List, ◌∷◌, ◌++◌, Option, Some, None, refl, sym, ◌∙◌, ap, arith, true, false, cond, Bool}
use Rattle.std.proofs.lemmas.Bool.{lt-leb, leb-false}
use Rattle.std.specs.Prelude.{nat_le}
use Rattle.c_text.specs.declared.tokens.Dialect.{Dialect}
use Rattle.c_text.specs.declared.tokens.Token.{Token}
use Rattle.lane_core.specs.declared.number.BinOp.{BinOp}
use Rattle.lane_core.specs.declared.number.BinOp.TheVariants as ops
use Rattle.c_tree.specs.declared.types.CType.{CType}
use Rattle.c_tree.specs.Tree as trees
use Rattle.c_tree.specs.Tree.{Tree, Kind, Trees, NoTrees, More}
use Rattle.c_parse.specs.declared.symbols.Infix.{Infix}
use Rattle.c_parse.specs.declared.symbols.Infix.TheVariants as infixes
use Rattle.c_parse.specs.declared.symbols.Sign.TheVariants.{Open, Close, OpenSquare, CloseSquare, Comma, Question, Colon, SizeOf, OpenBrace, CloseBrace}
use Rattle.c_parse.specs.declared.symbols.Symbol.TheVariants as symbols
use Rattle.c_parse.specs.Symbols.{symbol_of}
use Rattle.c_parse.specs.Reading.{or_else, front, place_at, behind, past, node, level_of, infix_of, tight_enough, infix_at, infix_kind, assignment_of, assignment_behind, step_of, prefix_of, name_front, constant_front, type_front, cast_front, sequence, Goal, Answer, Assignment, Conditional, Operators, Operand, Prefixed, Base, Others, Readers, expression_with, arguments_with, others_with, choice_with, conditional_from, conditional_with, assignment_with, operators_with, operand_with, size_with, index_with, stepped, half_front, half_behind, postfix_with, prefixed_with, named_with, pair_front, pair_with, brackets_with, base_with, step, read_at}
use Rattle.c_parse.specs.Grammar.{Written, Tail, Constant, Named, Bare, Call, Brackets, Pair, Half, Index, After, Before, Prefix, SizeOfType, SizeOfName, SizeOfBracketed, Cast, Between, Choice, Assign, End, Then, Is, IsName, IsPair, is_constant, Fits, FitAll, spell, spell_tail, tree, comma_tree, trees_of}
use Rattle.c_parse.proofs.Fronts.{bind_some, or_else_cases, past_is, name_is, constant_is, front_is, assignment_is, step_is, infix_is, type_is, cast_is, pair_is, half_is, half_behind_is}

-- ts is written as an expression of this level that means t, and then us
pub record Wrote (d : Dialect) (l : ℕ) (ts : List Token) (t : Tree) (us : List Token) : Type 0 where
  pub written : Written
  pub fits : Fits d l written
  pub spelled : ts ≡ spell written us
  pub means : tree written ≡ t

pub record WroteTail (d : Dialect) (ts : List Token) (t : Trees) (us : List Token) : Type 0 where
  pub written : Tail
  pub fits : FitAll d written
  pub spelled : ts ≡ spell_tail written us
  pub means : trees_of written ≡ t

pub record WroteRow (d : Dialect) (ts : List Token) (t : Tree) (us : List Token) : Type 0 where
  pub first : Written
  pub others : Tail
  pub fits : Fits d 1 first × FitAll d others
  pub spelled : ts ≡ spell first (spell_tail others us)
  pub means : comma_tree (tree first) others ≡ t

-- what stands at a level stands at each looser one
pub looser : (d : Dialect) (c : Written) (j k : ℕ) → j ≤ k → Fits d k c → Fits d j c
looser d (Constant t c) j k h f = f
looser d (Named t) j k h f = f
looser d (Bare g o c) j k h f = f
looser d (Call g o a rest c) j k h f = f
looser d (Brackets o a rest c) j k h f = f
looser d (Pair o w c b1 b2 a m b e1 e2) j k h f = f
looser d (Half a o v s n i c) j k h f = (omega (arith, f.0), f.1, f.2, f.3, f.4, f.5, f.6, f.7, f.8, f.9)
looser d (Index a o b rest c) j k h f = (omega (arith, f.0), f.1, f.2, f.3, f.4, f.5)
looser d (After a t up) j k h f = (omega (arith, f.0), f.1, f.2)
looser d (Before t up a) j k h f = (omega (arith, f.0), f.1, f.2)
looser d (Prefix t op a) j k h f = (omega (arith, f.0), f.1, f.2)
looser d (SizeOfType s o words ty c) j k h f = (omega (arith, f.0), f.1, f.2, f.3, f.4)
looser d (SizeOfName s x) j k h f = (omega (arith, f.0), f.1, f.2)
looser d (SizeOfBracketed s o x c) j k h f = (omega (arith, f.0), f.1, f.2, f.3, f.4)
looser d (Cast o words ty c a) j k h f = (omega (arith, f.0), f.1, f.2, f.3, f.4)
looser d (Between a t op b) j k h f = (omega (arith, f.0), f.1, f.2, f.3)
looser d (Choice a q b rest c e) j k h f = (omega (arith, f.0), f.1, f.2, f.3, f.4, f.5, f.6)
looser d (Assign a t op b) j k h f = (omega (arith, f.0), f.1, f.2, f.3)

-- a reader's answer is what was written
abbrev pub Holds : Dialect → (g : Goal) → List Token → Answer g → List Token → Type 0
Holds d Assignment ts t us = Wrote d 1 ts t us
Holds d Conditional ts t us = Wrote d 2 ts t us
Holds d (Operators l a) ts t us = (k : ℕ) (c : Written) → l ≤ k → Fits d k c → infix_at d (k + 1) ts ≡ None → tree c ≡ a → Wrote d l (spell c ts) t us × (infix_at d l us ≡ None)
Holds d Operand ts t us = Wrote d 13 ts t us × (cast_front d ts ≡ None → Wrote d 14 ts t us)
Holds d Prefixed ts t us = Wrote d 14 ts t us
Holds d Base ts t us = Wrote d 17 ts t us
Holds d Others ts t us = WroteTail d ts t us

abbrev pub Sound : Dialect → Readers → Type 0
Sound d R = (g : Goal) (ts us : List Token) (t : Answer g) → R g ts ≡ Some (t, us) → Holds d g ts t us

-- the pairs that two equal answers hold are the same
same_0 : {A : Type 0} (x y : A) (us vs : List Token) → ◌≡◌ {A = Option (A × List Token)} (Some (x, us)) (Some (y, vs)) → x ≡ y
same_0 x y us vs e = ap (λ (o : Option _). or_else o (λ p. p.0) x) e

same_1 : {A : Type 0} (x y : A) (us vs : List Token) → ◌≡◌ {A = Option (A × List Token)} (Some (x, us)) (Some (y, vs)) → us ≡ vs
same_1 x y us vs e = ap (λ (o : Option _). or_else o (λ p. p.1) us) e

some_is_none : {A B : Type 0} (o : Option A) (x : A) → o ≡ Some x → o ≡ None → B
some_is_none None x e n = absurd (cc)
some_is_none (Some y) x e n = absurd (cc)

-- an assignment stands behind no cast
assignment_behind_is : (d : Dialect) (c : Option (CType × List Token)) (ts : List Token) (op : Option BinOp) → assignment_behind d c ts ≡ Some op → (c ≡ None) × (assignment_of (front d ts) ≡ Some op)
assignment_behind_is d (Some c) ts op e = absurd (cc)
assignment_behind_is d None ts op e = (refl, e)

pub row_tree : (a : Tree) (rest : Tail) (us : List Token) → sequence a (place_at (spell_tail rest us)) (trees_of rest) ≡ comma_tree a rest
row_tree a End us = refl
row_tree a (Then t b rest) us = refl

row_same : (w a : Tree) (rest : Tail) (ts us : List Token) (r : Trees) (t : Tree) → w ≡ a → ts ≡ spell_tail rest us → trees_of rest ≡ r → sequence a (place_at ts) r ≡ t → comma_tree w rest ≡ t
row_same w a rest ts us r t e f g h =
    sym (row_tree w rest us)
    ∙ ap (λ x. sequence x (place_at (spell_tail rest us)) (trees_of rest)) e
    ∙ ap (λ x. sequence a (place_at x) (trees_of rest)) (sym f)
    ∙ ap (λ x. sequence a (place_at ts) x) g
    ∙ h

pub level_max : (op : Infix) → level_of op ≤ 12
level_max infixes.OrElse = omega arith
level_max infixes.AndThen = omega arith
level_max (infixes.Operator ops.BitOr) = omega arith
level_max (infixes.Operator ops.BitXor) = omega arith
level_max (infixes.Operator ops.BitAnd) = omega arith
level_max (infixes.Operator ops.Eq) = omega arith
level_max (infixes.Operator ops.Ne) = omega arith
level_max (infixes.Operator ops.Lt) = omega arith
level_max (infixes.Operator ops.Gt) = omega arith
level_max (infixes.Operator ops.Le) = omega arith
level_max (infixes.Operator ops.Ge) = omega arith
level_max (infixes.Operator ops.Shl) = omega arith
level_max (infixes.Operator ops.Shr) = omega arith
level_max (infixes.Operator ops.Add) = omega arith
level_max (infixes.Operator ops.Sub) = omega arith
level_max (infixes.Operator ops.Mul) = omega arith
level_max (infixes.Operator ops.Div) = omega arith
level_max (infixes.Operator ops.Rem) = omega arith

too_tight : (o : Option Infix) → tight_enough 14 o ≡ None
too_tight None = refl
too_tight (Some op) = let h = level_max op in rw (lt-leb 14 (level_of op) (omega arith)) refl

pub none_past : (d : Dialect) (ts : List Token) → infix_at d (13 + 1) ts ≡ None
none_past d ts = too_tight (infix_of (front d ts))

-- an operator that doesn't stand at a level is looser
loose_is : (d : Dialect) (k : ℕ) (t : Token) (ts : List Token) (op : Infix) → symbol_of d t ≡ symbols.Infix op → infix_at d k (t ∷ ts) ≡ None → level_of op < k
loose_is d k t ts op is e = go (nat_le k (level_of op)) refl (sym (ap (λ m. tight_enough k (infix_of m)) is) ∙ e)
  where
    go : (b : Bool) → nat_le k (level_of op) ≡ b → cond b (Some op) None ≡ None → level_of op < k
    go true t f = absurd (cc)
    go false t f = leb-false k (level_of op) t

-- what begins with no constant is none
not_constant : (d : Dialect) (c : Written) (ts us : List Token) → Fits d 17 c → ts ≡ spell c us → constant_front ts ≡ None → is_constant c ≡ false
not_constant d (Constant t k) ts us f e none = let some : constant_front ts ≡ Some (k, us) = ap constant_front e ∙ rw f refl in absurd (cc)
not_constant d _ ts us f e none = refl

module _ (d : Dialect) (R : Readers) (s : Sound d R) where
  pub sound_row : (ts us : List Token) (t : Tree) → expression_with R ts ≡ Some (t, us) → WroteRow d ts t us
  sound_row ts us t e =
      let (a, ae, e1) = bind_some (R Assignment ts) _ _ e in
      let (r, re, e2) = bind_some (R Others a.1) _ _ e1 in
      let w : Wrote d 1 ts a.0 a.1 = s Assignment ts a.1 a.0 ae in
      let x : WroteTail d a.1 r.0 r.1 = s Others a.1 r.1 r.0 re in
      let same = same_0 _ _ _ _ e2 in
      let rest = same_1 _ _ _ _ e2 in
      record {
        first = w.written;
        others = x.written;
        fits = (w.fits, x.fits);
        spelled = cc (w.spelled, x.spelled, rest);
        means = row_same (tree w.written) a.0 x.written a.1 r.1 r.0 t w.means x.spelled x.means same;
      }

  sound_others : (ts us : List Token) (t : Trees) → others_with d R ts ≡ Some (t, us) → WroteTail d ts t us
  sound_others ts us t e =
      elim (or_else_cases (past d Comma ts) _ _ _ e) [
        | inl (vs, o, e1) ↦
            let comma = past_is d Comma ts vs o in
            let (a, ae, e2) = bind_some (R Assignment vs) _ _ e1 in
            let (r, re, e3) = bind_some (R Others a.1) _ _ e2 in
            let w : Wrote d 1 vs a.0 a.1 = s Assignment vs a.1 a.0 ae in
            let x : WroteTail d a.1 r.0 r.1 = s Others a.1 r.1 r.0 re in
            let same = same_0 _ _ _ _ e3 in
            let rest = same_1 _ _ _ _ e3 in
            record {
              written = Then comma.token w.written x.written;
              fits = (comma.is, w.fits, x.fits);
              spelled = cc (comma.split, w.spelled, x.spelled, rest);
              means = cc (w.means, x.means, same);
            }
        | inr (o, e1) ↦ record { written = End; fits = tt; spelled = same_1 _ _ _ _ e1; means = same_0 _ _ _ _ e1 }
      ]

  -- behind what was written as the condition
  sound_choice : (c : Written) (ts us : List Token) (t : Tree) → Fits d 3 c → choice_with d R (tree c) ts ≡ Some (t, us) → Wrote d 2 (spell c ts) t us
  sound_choice c ts us t f e =
      elim (or_else_cases (past d Question ts) _ _ _ e) [
        | inl (vs, o, e1) ↦
            let question = past_is d Question ts vs o in
            let (a, ae, e2) = bind_some (expression_with R vs) _ _ e1 in
            let (ws, p, e3) = bind_some (past d Colon a.1) _ _ e2 in
            let (b, be, e4) = bind_some (R Conditional ws) _ _ e3 in
            let colon = past_is d Colon a.1 ws p in
            let row = sound_row vs a.1 a.0 ae in
            let w : Wrote d 2 ws b.0 b.1 = s Conditional ws b.1 b.0 be in
            let same = same_0 _ _ _ _ e4 in
            let rest = same_1 _ _ _ _ e4 in
            let place : place_at ts ≡ question.token.place = ap place_at question.split in
            record {
              written = Choice c question.token row.first row.others colon.token w.written;
              fits = (omega arith, f, question.is, row.fits.0, row.fits.1, colon.is, w.fits);
              spelled = cc (question.split, row.spelled, colon.split, w.spelled, rest);
              means = cc (row.means, w.means, place, same);
            }
        | inr (o, e1) ↦
            let same = same_0 _ _ _ _ e1 in
            let rest = same_1 _ _ _ _ e1 in
            record { written = c; fits = looser d c 2 3 (omega arith) f; spelled = ap (spell c) rest; means = same }
      ]

  -- behind what was written as the first operand
  sound_from : (c : Written) (a : Tree) (ts us : List Token) (t : Tree) → Fits d 13 c → tree c ≡ a → conditional_from d R a ts ≡ Some (t, us) → Wrote d 2 (spell c ts) t us
  sound_from c a ts us t f m e =
      let (x, xe, e1) = bind_some (R (Operators 3 a) ts) _ _ e in
      let w : Wrote d 3 (spell c ts) x.0 x.1 = (s (Operators 3 a) ts x.1 x.0 xe 13 c (omega arith) f (none_past d ts) m).0 in
      let y = sound_choice w.written x.1 us t w.fits (ap (λ z. choice_with d R z x.1) w.means ∙ e1) in
      record { written = y.written; fits = y.fits; spelled = w.spelled ∙ y.spelled; means = y.means }

  sound_conditional : (ts us : List Token) (t : Tree) → conditional_with d R ts ≡ Some (t, us) → Wrote d 2 ts t us
  sound_conditional ts us t e =
      let (a, ae, e1) = bind_some (R Operand ts) _ _ e in
      let w : Wrote d 13 ts a.0 a.1 = (s Operand ts a.1 a.0 ae).0 in
      let y = sound_from w.written a.0 a.1 us t w.fits w.means e1 in
      record { written = y.written; fits = y.fits; spelled = w.spelled ∙ y.spelled; means = y.means }

  sound_operators : (l : ℕ) (a : Tree) (ts us : List Token) (t : Tree) → operators_with d R l a ts ≡ Some (t, us) → Holds d (Operators l a) ts t us
  sound_operators l a ts us t e k c lk f stop m =
      elim (or_else_cases (infix_at d l ts) _ _ _ e) [
        | inl (op, o, e1) ↦
            let h = infix_is d l ts op o in
            let max = level_max op in
            let (b, be, e2) = bind_some (R Operand (behind ts)) _ _ e1 in
            let (x, xe, e3) = bind_some (R (Operators (level_of op + 1) b.0) b.1) _ _ e2 in
            let w : Wrote d 13 (behind ts) b.0 b.1 = (s Operand (behind ts) b.1 b.0 be).0 in
            let (y, next) = s (Operators (level_of op + 1) b.0) b.1 x.1 x.0 xe 13 w.written (omega arith) w.fits (none_past d b.1) w.means in
            let low : level_of op < k + 1 = loose_is d (k + 1) h.token (behind ts) op h.is (sym (ap (infix_at d (k + 1)) h.split) ∙ stop) in
            let seam : ts ≡ h.token ∷ spell y.written x.1 = h.split ∙ ap (λ z. h.token ∷ z) (w.spelled ∙ y.spelled) in
            let place : h.token.place ≡ place_at ts = sym (ap place_at h.split) in
            let made : tree (Between c h.token op y.written) ≡ node (place_at ts) (infix_kind op a x.0) =
            ap (λ z. node z (infix_kind op (tree c) (tree y.written))) place ∙ ap (λ z. node (place_at ts) (infix_kind op z (tree y.written))) m ∙ ap (λ z. node (place_at ts) (infix_kind op a z)) y.means in
            let (z, stop') = s (Operators l (node (place_at ts) (infix_kind op a x.0))) x.1 us t e3 (level_of op) (Between c h.token op y.written) h.tight (omega arith, looser d c (level_of op) k (omega arith) f, h.is, y.fits) next made in
            (record { written = z.written; fits = z.fits; spelled = ap (spell c) seam ∙ z.spelled; means = z.means }, stop')
        | inr (o, e1) ↦
            let same = same_0 _ _ _ _ e1 in
            let rest = same_1 _ _ _ _ e1 in
            (record { written = c; fits = looser d c l k lk f; spelled = ap (spell c) rest; means = m ∙ same }, rw (← rest) o)
      ]

  sound_assignment : (ts us : List Token) (t : Tree) → assignment_with d R ts ≡ Some (t, us) → Wrote d 1 ts t us
  sound_assignment ts us t e =
      let (a, ae, e1) = bind_some (R Operand ts) _ _ e in
      elim (or_else_cases (assignment_behind d (cast_front d ts) a.1) _ _ _ e1) [
        | inl (op, o, e2) ↦
            let (none, o') = assignment_behind_is d (cast_front d ts) a.1 op o in
            let w : Wrote d 14 ts a.0 a.1 = (s Operand ts a.1 a.0 ae).1 none in
            let (token, is, split) = front_is d assignment_of a.1 op refl o' in
            let (b, be, e3) = bind_some (R Assignment (behind a.1)) _ _ e2 in
            let x : Wrote d 1 (behind a.1) b.0 b.1 = s Assignment (behind a.1) b.1 b.0 be in
            let place : token.place ≡ place_at a.1 = sym (ap place_at split) in
            let same = same_0 _ _ _ _ e3 in
            record {
              written = Assign w.written token op x.written;
              fits = (omega arith, w.fits, assignment_is (symbol_of d token) op is, x.fits);
              spelled = w.spelled ∙ ap (spell w.written) (split ∙ ap (λ y. token ∷ y) (x.spelled ∙ ap (spell x.written) (same_1 _ _ _ _ e3)));
              means = cc (w.means, x.means, place, same);
            }
        | inr (o, e2) ↦
            let w : Wrote d 13 ts a.0 a.1 = (s Operand ts a.1 a.0 ae).0 in
            let y = sound_from w.written a.0 a.1 us t w.fits w.means e2 in
            record { written = y.written; fits = looser d y.written 1 2 (omega arith) y.fits; spelled = w.spelled ∙ y.spelled; means = y.means }
      ]

  sound_operand : (ts us : List Token) (t : Tree) → operand_with d R ts ≡ Some (t, us) → Holds d Operand ts t us
  sound_operand ts us t e =
      elim (or_else_cases (cast_front d ts) _ _ _ e) [
        | inl (c, o, e1) ↦
            let (a, ae, e2) = bind_some (R Operand c.1) _ _ e1 in
            let h = cast_is d ts c o in
            let w : Wrote d 13 c.1 a.0 a.1 = (s Operand c.1 a.1 a.0 ae).0 in
            let same = same_0 _ _ _ _ e2 in
            let rest = same_1 _ _ _ _ e2 in
            let place : h.open'.place ≡ place_at ts = sym (ap place_at h.split) in (
              record {
                written = Cast h.open' h.words c.0 h.close w.written;
                fits = (omega arith, h.is_open, h.is_type, h.is_close, w.fits);
                spelled = h.split ∙ ap (λ y. h.open' ∷ (h.words ++ h.close ∷ y)) (w.spelled ∙ ap (spell w.written) rest);
                means = cc (w.means, place, same);
              },
              λ n. some_is_none (cast_front d ts) c o n,
            )
        | inr (o, e1) ↦
            let w : Wrote d 14 ts t us = s Prefixed ts us t e1 in
            (record { written = w.written; fits = looser d w.written 13 14 (omega arith) w.fits; spelled = w.spelled; means = w.means }, λ n. w)
      ]

  sound_size : (z : Token) (ts us : List Token) (t : Tree) → Is d SizeOf z → size_with d z.place ts ≡ Some (t, us) → Wrote d 14 (z ∷ ts) t us
  sound_size z ts us t is e =
      elim (or_else_cases (name_front d ts) _ _ _ e) [
        | inl (x, o, e1) ↦
            let name = name_is d ts x o in
            record { written = SizeOfName z x.0; fits = (omega arith, is, name.0); spelled = ap (λ y. z ∷ y) (name.1 ∙ ap (λ y. x.0 ∷ y) (same_1 _ _ _ _ e1)); means = same_0 _ _ _ _ e1 }
        | inr (o, e1) ↦
            let (vs, p, e2) = bind_some (past d Open ts) _ _ e1 in
            let open' = past_is d Open ts vs p in
            elim (or_else_cases (name_front d vs) _ _ _ e2) [
              | inl (x, o', e3) ↦
                  let (ws, q, e4) = bind_some (past d Close x.1) _ _ e3 in
                  let name = name_is d vs x o' in
                  let close = past_is d Close x.1 ws q in
                  record {
                    written = SizeOfBracketed z open'.token x.0 close.token;
                    fits = (omega arith, is, open'.is, name.0, close.is);
                    spelled = ap (λ y. z ∷ y) (open'.split ∙ ap (λ y. open'.token ∷ y) (name.1 ∙ ap (λ y. x.0 ∷ y) (close.split ∙ ap (λ y. close.token ∷ y) (same_1 _ _ _ _ e4))));
                    means = same_0 _ _ _ _ e4;
                  }
              | inr (o', e3) ↦
                  let (ty, r, e4) = bind_some (type_front d vs) _ _ e3 in
                  let (ws, q, e5) = bind_some (past d Close ty.1) _ _ e4 in
                  let name = type_is d vs ty r in
                  let close = past_is d Close ty.1 ws q in
                  record {
                    written = SizeOfType z open'.token name.words ty.0 close.token;
                    fits = (omega arith, is, open'.is, name.is, close.is);
                    spelled = ap (λ y. z ∷ y) (open'.split ∙ ap (λ y. open'.token ∷ y) (name.split ∙ ap (λ y. name.words ++ y) (close.split ∙ ap (λ y. close.token ∷ y) (same_1 _ _ _ _ e5))));
                    means = same_0 _ _ _ _ e5;
                  }
            ]
      ]

  -- an index behind a base
  sound_index : (c : Written) (a : Tree) (ts us : List Token) (t : Tree) → Fits d 17 c → tree c ≡ a → index_with d R a ts ≡ Some (t, us) → Wrote d 16 (spell c ts) t us
  sound_index c a ts us t f m e =
      elim (or_else_cases (past d OpenSquare ts) _ _ _ e) [
        | inl (vs, o, e1) ↦
            let open' = past_is d OpenSquare ts vs o in
            let (i, ie, e2) = bind_some (expression_with R vs) _ _ e1 in
            let (ws, p, e3) = bind_some (past d CloseSquare i.1) _ _ e2 in
            let close = past_is d CloseSquare i.1 ws p in
            let row = sound_row vs i.1 i.0 ie in
            let same = same_0 _ _ _ _ e3 in
            let rest = same_1 _ _ _ _ e3 in
            let place : open'.token.place ≡ place_at ts = sym (ap place_at open'.split) in
            record {
              written = Index c open'.token row.first row.others close.token;
              fits = (omega arith, f, open'.is, row.fits.0, row.fits.1, close.is);
              spelled = ap (spell c) (cc (open'.split, row.spelled, close.split, rest));
              means = cc (row.means, m, place, same);
            }
        | inr (o, e1) ↦ record { written = c; fits = looser d c 16 17 (omega arith) f; spelled = ap (spell c) (same_1 _ _ _ _ e1); means = m ∙ same_0 _ _ _ _ e1 }
      ]

  sound_step_behind : (c : Written) (a : Tree) (ts us : List Token) (t : Tree) → Fits d 16 c → tree c ≡ a → stepped d a ts ≡ (t, us) → Wrote d 15 (spell c ts) t us
  sound_step_behind c a ts us t f m e =
      elim (or_else_cases (step_of (front d ts)) _ _ _ e) [
        | inl (up, o, e1) ↦
            let (token, is, split) = front_is d step_of ts up refl o in
            let same : node (place_at ts) _ ≡ t = ap (λ p. p.0) e1 in
            let rest : behind ts ≡ us = ap (λ p. p.1) e1 in
            let place : token.place ≡ place_at ts = sym (ap place_at split) in
            record {
              written = After c token up;
              fits = (omega arith, f, step_is (symbol_of d token) up is);
              spelled = ap (spell c) (split ∙ ap (λ y. token ∷ y) rest);
              means = cc (m, place, same);
            }
        | inr (o, e1) ↦
            let same : a ≡ t = ap (λ p. p.0) e1 in
            let rest : ts ≡ us = ap (λ p. p.1) e1 in
            record { written = c; fits = looser d c 15 16 (omega arith) f; spelled = ap (spell c) rest; means = m ∙ same }
      ]

  -- a half of a pair, behind a base
  sound_half : (c : Written) (a : Tree) (ts us : List Token) (x : ℕ × List Token) (t : Tree) → Fits d 17 c → is_constant c ≡ false → tree c ≡ a → half_front d ts ≡ Some x →
      ◌≡◌ {A = Option (Tree × List Token)} (Some (node (place_at ts) (trees.Half a x.0), x.1)) (Some (t, us)) → Wrote d 15 (spell c ts) t us
  sound_half c a ts us x t f none m o e =
      let h = half_is d ts x o in
      let place : h.dot.place ≡ place_at ts = sym (ap place_at h.split) in
      let same = same_0 _ _ _ _ e in
      record {
        written = Half c h.dot h.val h.square h.number x.0 h.close;
        fits = (omega arith, f, none, h.neon, h.is_dot, h.is_val, h.text, h.is_square, h.which, h.is_close);
        spelled = ap (spell c) (h.split ∙ ap (λ y. h.dot ∷ h.val ∷ h.square ∷ h.number ∷ h.close ∷ y) (same_1 _ _ _ _ e));
        means = cc (m, place, same);
      }

  sound_postfix : (ts us : List Token) (t : Tree) → postfix_with d R ts ≡ Some (t, us) → Wrote d 15 ts t us
  sound_postfix ts us t e =
      let (b, be, e1) = bind_some (R Base ts) _ _ e in
      let w : Wrote d 17 ts b.0 b.1 = s Base ts b.1 b.0 be in
      elim (or_else_cases (half_behind d (constant_front ts) b.1) _ _ _ e1) [
        | inl (h, o, e2) ↦
            let (none, named) = half_behind_is d (constant_front ts) b.1 h o in
            let x = sound_half w.written b.0 b.1 us h t w.fits (not_constant d w.written ts b.1 w.fits w.spelled none) w.means named e2 in
            record { written = x.written; fits = x.fits; spelled = w.spelled ∙ x.spelled; means = x.means }
        | inr (o, e2) ↦
            let (i, ie, e3) = bind_some (index_with d R b.0 b.1) _ _ e2 in
            let x = sound_index w.written b.0 b.1 i.1 i.0 w.fits w.means ie in
            let last : stepped d i.0 i.1 ≡ (t, us) = ap (λ o. or_else o (λ p. p) (t, us)) e3 in
            let y = sound_step_behind x.written i.0 i.1 us t x.fits x.means last in
            record { written = y.written; fits = y.fits; spelled = w.spelled ∙ x.spelled ∙ y.spelled; means = y.means }
      ]

  sound_prefixed : (ts us : List Token) (t : Tree) → prefixed_with d R ts ≡ Some (t, us) → Wrote d 14 ts t us
  sound_prefixed ts us t e =
      elim (or_else_cases (prefix_of (front d ts)) _ _ _ e) [
        | inl (op, o, e1) ↦
            let (token, is, split) = front_is d prefix_of ts op refl o in
            let (a, ae, e2) = bind_some (R Operand (behind ts)) _ _ e1 in
            let w : Wrote d 13 (behind ts) a.0 a.1 = (s Operand (behind ts) a.1 a.0 ae).0 in
            let place : token.place ≡ place_at ts = sym (ap place_at split) in
            record {
              written = Prefix token op w.written;
              fits = (omega arith, is, w.fits);
              spelled = split ∙ ap (λ y. token ∷ y) (w.spelled ∙ ap (spell w.written) (same_1 _ _ _ _ e2));
              means = ap (λ p. node p (op (tree w.written))) place ∙ ap (λ z. node (place_at ts) (op z)) w.means ∙ same_0 _ _ _ _ e2;
            }
        | inr (o, e1) ↦ elim (or_else_cases (step_of (front d ts)) _ _ _ e1) [
          | inl (up, o', e2) ↦
              let (token, is, split) = front_is d step_of ts up refl o' in
              let (a, ae, e3) = bind_some (R Prefixed (behind ts)) _ _ e2 in
              let w : Wrote d 14 (behind ts) a.0 a.1 = s Prefixed (behind ts) a.1 a.0 ae in
              let place : token.place ≡ place_at ts = sym (ap place_at split) in
              let same = same_0 _ _ _ _ e3 in
              record {
                written = Before token up w.written;
                fits = (omega arith, step_is (symbol_of d token) up is, w.fits);
                spelled = split ∙ ap (λ y. token ∷ y) (w.spelled ∙ ap (spell w.written) (same_1 _ _ _ _ e3));
                means = cc (w.means, place, same);
              }
          | inr (o', e2) ↦ elim (or_else_cases (past d SizeOf ts) _ _ _ e2) [
            | inl (vs, o'', e3) ↦
                let size = past_is d SizeOf ts vs o'' in
                let place : size.token.place ≡ place_at ts = sym (ap place_at size.split) in
                let w = sound_size size.token vs us t size.is (ap (λ p. size_with d p vs) place ∙ e3) in
                record { written = w.written; fits = w.fits; spelled = size.split ∙ w.spelled; means = w.means }
            | inr (o'', e3) ↦
                let w = sound_postfix ts us t e3 in
                record { written = w.written; fits = looser d w.written 14 15 (omega arith) w.fits; spelled = w.spelled; means = w.means }
          ]
        ]
      ]

  -- a name, and a call
  sound_named : (x : Token) (ts us : List Token) (t : Tree) → IsName d x → named_with d R x ts ≡ Some (t, us) → Wrote d 17 (x ∷ ts) t us
  sound_named x ts us t is e =
      elim (or_else_cases (past d Open ts) _ _ _ e) [
        | inl (vs, o, e1) ↦
            let open' = past_is d Open ts vs o in
            let (r, re, e2) = bind_some (arguments_with d R vs) _ _ e1 in
            let rest = same_1 _ _ _ _ e2 in
            elim (or_else_cases (past d Close vs) _ _ _ re) [
              | inl (ws, p, e3) ↦
                  let close = past_is d Close vs ws p in
                  record {
                    written = Bare x open'.token close.token;
                    fits = (is, open'.is, close.is);
                    spelled = ap (λ y. x ∷ y) (open'.split ∙ ap (λ y. open'.token ∷ y) (close.split ∙ ap (λ y. close.token ∷ y) (same_1 _ _ _ _ e3 ∙ rest)));
                    means = ap (λ z. node x.place (trees.Call x.text z)) (same_0 _ _ _ _ e3) ∙ same_0 _ _ _ _ e2;
                  }
              | inr (p, e3) ↦
                  let (a, ae, e4) = bind_some (R Assignment vs) _ _ e3 in
                  let (b, be, e5) = bind_some (R Others a.1) _ _ e4 in
                  let (ws, q, e6) = bind_some (past d Close b.1) _ _ e5 in
                  let close = past_is d Close b.1 ws q in
                  let w : Wrote d 1 vs a.0 a.1 = s Assignment vs a.1 a.0 ae in
                  let z : WroteTail d a.1 b.0 b.1 = s Others a.1 b.1 b.0 be in
                  let args : More a.0 b.0 ≡ r.0 = same_0 _ _ _ _ e6 in
                  record {
                    written = Call x open'.token w.written z.written close.token;
                    fits = (is, open'.is, w.fits, z.fits, close.is);
                    spelled = ap (λ y. x ∷ y) (open'.split ∙ ap (λ y. open'.token ∷ y) (w.spelled ∙ ap (spell w.written) (z.spelled ∙ ap (spell_tail z.written) (close.split ∙ ap (λ y. close.token ∷ y) (same_1 _ _ _ _ e6 ∙ rest)))));
                    means = ap (λ y. node x.place (trees.Call x.text (More y (trees_of z.written)))) w.means ∙ ap (λ y. node x.place (trees.Call x.text (More a.0 y))) z.means ∙ ap (λ y. node x.place (trees.Call x.text y)) args ∙ same_0 _ _ _ _ e2;
                  }
            ]
        | inr (o, e1) ↦ record { written = Named x; fits = is; spelled = ap (λ y. x ∷ y) (same_1 _ _ _ _ e1); means = same_0 _ _ _ _ e1 }
      ]

  -- the halves of a pair
  sound_pair : (o w c b : Token) (ts us : List Token) (t : Tree) → Is d Open o → IsPair d w → Is d Close c → Is d OpenBrace b → pair_with d R o.place ts ≡ Some (t, us) → Wrote d 17 (o ∷ w ∷ c ∷ b ∷ ts) t us
  sound_pair o w c b ts us t f g h k e =
      let (vs, p, e1) = bind_some (past d OpenBrace ts) _ _ e in
      let (x, xe, e2) = bind_some (R Assignment vs) _ _ e1 in
      let (ws, q, e3) = bind_some (past d Comma x.1) _ _ e2 in
      let (y, ye, e4) = bind_some (R Assignment ws) _ _ e3 in
      let (xs, r, e5) = bind_some (past d CloseBrace y.1) _ _ e4 in
      let (zs, z, e6) = bind_some (past d CloseBrace xs) _ _ e5 in
      let second = past_is d OpenBrace ts vs p in
      let comma = past_is d Comma x.1 ws q in
      let inner = past_is d CloseBrace y.1 xs r in
      let outer = past_is d CloseBrace xs zs z in
      let low : Wrote d 1 vs x.0 x.1 = s Assignment vs x.1 x.0 xe in
      let high : Wrote d 1 ws y.0 y.1 = s Assignment ws y.1 y.0 ye in
      let ends : y.1 ≡ inner.token ∷ outer.token ∷ us = inner.split ∙ ap (λ l. inner.token ∷ l) (outer.split ∙ ap (λ l. outer.token ∷ l) (same_1 _ _ _ _ e6)) in
      let from : x.1 ≡ comma.token ∷ spell high.written (inner.token ∷ outer.token ∷ us) = comma.split ∙ ap (λ l. comma.token ∷ l) (high.spelled ∙ ap (spell high.written) ends) in
      record {
        written = Pair o w c b second.token low.written comma.token high.written inner.token outer.token;
        fits = (f, g, h, k, second.is, low.fits, comma.is, high.fits, inner.is, outer.is);
        spelled = ap (λ l. o ∷ w ∷ c ∷ b ∷ l) (second.split ∙ ap (λ l. second.token ∷ l) (low.spelled ∙ ap (spell low.written) from));
        means = ap (λ l. node o.place (trees.PairOf l (tree high.written))) low.means ∙ ap (λ l. node o.place (trees.PairOf x.0 l)) high.means ∙ same_0 _ _ _ _ e6;
      }

  sound_brackets : (ts us : List Token) (t : Tree) → brackets_with d R ts ≡ Some (t, us) → Wrote d 17 ts t us
  sound_brackets ts us t e =
      let (vs, p, e3) = bind_some (past d Open ts) _ _ e in
      let (a, ae, e4) = bind_some (expression_with R vs) _ _ e3 in
      let (ws, q, e5) = bind_some (past d Close a.1) _ _ e4 in
      let open' = past_is d Open ts vs p in
      let close = past_is d Close a.1 ws q in
      let row = sound_row vs a.1 a.0 ae in
      record {
        written = Brackets open'.token row.first row.others close.token;
        fits = (open'.is, row.fits.0, row.fits.1, close.is);
        spelled = open'.split ∙ ap (λ y. open'.token ∷ y) (row.spelled ∙ ap (λ y. spell row.first (spell_tail row.others y)) (close.split ∙ ap (λ y. close.token ∷ y) (same_1 _ _ _ _ e5)));
        means = row.means ∙ same_0 _ _ _ _ e5;
      }

  sound_base : (ts us : List Token) (t : Tree) → base_with d R ts ≡ Some (t, us) → Wrote d 17 ts t us
  sound_base ts us t e =
      elim (or_else_cases (constant_front ts) _ _ _ e) [
        | inl (c, o, e1) ↦
            let h = constant_is d ts c o in
            record { written = Constant h.token c.0; fits = h.is; spelled = h.split ∙ ap (λ y. h.token ∷ y) (same_1 _ _ _ _ e1); means = same_0 _ _ _ _ e1 }
        | inr (o, e1) ↦ elim (or_else_cases (name_front d ts) _ _ _ e1) [
          | inl (x, o', e2) ↦
              let name = name_is d ts x o' in
              let w = sound_named x.0 x.1 us t name.0 e2 in
              record { written = w.written; fits = w.fits; spelled = name.1 ∙ w.spelled; means = w.means }
          | inr (o', e2) ↦ elim (or_else_cases (pair_front d ts) _ _ _ e2) [
            | inl (vs, p, e3) ↦
                let h = pair_is d ts vs p in
                let place : h.open'.place ≡ place_at ts = sym (ap place_at h.split) in
                let w = sound_pair h.open' h.word h.close h.brace vs us t h.is_open h.is_word h.is_close h.is_brace (ap (λ p. pair_with d R p vs) place ∙ e3) in
                record { written = w.written; fits = w.fits; spelled = h.split ∙ w.spelled; means = w.means }
            | inr (p, e3) ↦ sound_brackets ts us t e3
          ]
        ]
      ]

  sound_next : Sound d (step d R)
  sound_next Assignment ts us t e = sound_assignment ts us t e
  sound_next Conditional ts us t e = sound_conditional ts us t e
  sound_next (Operators l a) ts us t e = sound_operators l a ts us t e
  sound_next Operand ts us t e = sound_operand ts us t e
  sound_next Prefixed ts us t e = sound_prefixed ts us t e
  sound_next Base ts us t e = sound_base ts us t e
  sound_next Others ts us t e = sound_others ts us t e

pub sound : (d : Dialect) (n : ℕ) → Sound d (read_at d n)
unfolding read_at
sound d zero g ts us t e = absurd (cc)
sound d (suc n) g ts us t e = sound_next d (read_at d n) (sound d n) g ts us t e
