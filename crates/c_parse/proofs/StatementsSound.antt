-- What is read as a statement was written so.
use Rattle.std.proofs.Common.{◌≡◌, ℕ, zero, suc, ◌⊎◌, inl, inr, List, [], ◌∷◌, ◌++◌, get_or, ◌==◌, Option, Some, None, refl, sym, ◌∙◌, ap, Bool, true, false, cond}
use Rattle.std.proofs.lemmas.Bool.{eqb-true}
use Rattle.c_text.specs.declared.tokens.Dialect.{Dialect}
use Rattle.c_text.specs.declared.tokens.Token.{Token}
use Rattle.c_tree.specs.Tree as trees
use Rattle.c_tree.specs.Tree.{Tree, Object, Statement, Statements, Optional}
use Rattle.c_parse.specs.declared.symbols.Sign.{Sign}
use Rattle.c_parse.specs.declared.symbols.Sign.TheVariants as signs
use Rattle.c_parse.specs.declared.symbols.Symbol.{Symbol}
use Rattle.c_parse.specs.declared.symbols.Symbol.TheVariants as symbols
use Rattle.c_parse.specs.declared.symbols.Word.{Word}
use Rattle.c_parse.specs.declared.symbols.Word.TheVariants as words
use Rattle.c_parse.specs.Symbols.{symbol_of}
use Rattle.c_parse.specs.Reading.{or_else, front, place_at, behind, past, read, expression_with}
use Rattle.c_parse.specs.Grammar.{Is}
use Rattle.c_parse.specs.Objects.{begins_declaration}
use Rattle.c_parse.specs.DeclarationReading.{declaration_front}
use Rattle.c_parse.specs.Statements.{Part, Condition, Start, Declared, Started, Turns, WrittenStatement, WrittenStatements, Declare, Run, Block, If, IfElse, While, DoWhile, For, Break, Continue, Return, Empty, End, Then, IsPart, IsCondition, IsStart, IsTurns, Fits, FitAll, spell_part, spell_condition, spell_start, spell_turns, spell, spell_all, part_tree, started, start_tree, tree, tree_all}
use Rattle.c_parse.specs.StatementReading.{Reader, word_code, is_word, past_word, condition_front, part_front, run_front, declare_front, start_front, turns_front, if_with, while_with, do_with, for_with, word_front, return_front, block_with, plain_front, beginning_with, statement_with, statements_with, statement_at, statements_at}
use Rattle.c_parse.proofs.Fronts.{bind_some, or_else_cases, Begins, past_is}
use Rattle.c_parse.proofs.Leaves.{expression_sound}
use Rattle.c_parse.proofs.DeclarationsRead.{declaration_sound}

words_in_order : List Word
words_in_order =
    words.If ∷ words.Else ∷ words.While ∷ words.Do ∷ words.For ∷ words.Break ∷ words.Continue ∷ words.Return ∷ words.Static ∷ words.Inline ∷ words.AlignAs ∷ words.Attribute ∷ []

word_again : (w : Word) → get_or words_in_order (word_code w) words.If ≡ w
unfolding words_in_order
word_again words.If = refl
word_again words.Else = refl
word_again words.While = refl
word_again words.Do = refl
word_again words.For = refl
word_again words.Break = refl
word_again words.Continue = refl
word_again words.Return = refl
word_again words.Static = refl
word_again words.Inline = refl
word_again words.AlignAs = refl
word_again words.Attribute = refl

word_is : (w v : Word) → (word_code w == word_code v) ≡ true → w ≡ v
word_is w v t = sym (word_again w) ∙ ap (λ i. get_or words_in_order i words.If) (eqb-true (word_code w) (word_code v) t) ∙ word_again v

is_word_is : (w : Word) (m : Symbol) → is_word w m ≡ true → m ≡ symbols.Word w
is_word_is w (symbols.Word v) e = ap symbols.Word (sym (word_is w v e))
is_word_is w _ e = absurd (cc)

pub past_word_is : (d : Dialect) (w : Word) (ts us : List Token) → past_word d w ts ≡ Some us → Begins d (symbols.Word w) ts us
past_word_is d w [] us e = absurd (cc)
past_word_is d w (t ∷ ts) us e = go (is_word w (symbol_of d t)) refl e
  where
    go : (b : Bool) → is_word w (symbol_of d t) ≡ b → cond b (Some ts) None ≡ Some us → Begins d (symbols.Word w) (t ∷ ts) us
    go true h f = record { token = t; is = is_word_is w (symbol_of d t) h; split = ap (λ (o : Option (List Token)). t ∷ or_else o (λ x. x) ts) f }
    go false h f = absurd (cc)

-- the first token, where it is a word or a mark
pub first_word : (d : Dialect) (w : Word) (ts : List Token) → front d ts ≡ symbols.Word w → Begins d (symbols.Word w) ts (behind ts)
first_word d w [] e = absurd (cc)
first_word d w (t ∷ ts) e = record { token = t; is = e; split = refl }

pub first_sign : (d : Dialect) (s : Sign) (ts : List Token) → front d ts ≡ symbols.Sign s → Begins d (symbols.Sign s) ts (behind ts)
first_sign d s [] e = absurd (cc)
first_sign d s (t ∷ ts) e = record { token = t; is = e; split = refl }

-- the pairs that two equal answers hold are the same
pub same_0 : {A : Type 0} (x y : A) (us vs : List Token) → ◌≡◌ {A = Option (A × List Token)} (Some (x, us)) (Some (y, vs)) → x ≡ y
same_0 x y us vs e = ap (λ (o : Option _). or_else o (λ p. p.0) x) e

pub same_1 : {A : Type 0} (x y : A) (us vs : List Token) → ◌≡◌ {A = Option (A × List Token)} (Some (x, us)) (Some (y, vs)) → us ≡ vs
same_1 x y us vs e = ap (λ (o : Option _). or_else o (λ p. p.1) us) e

pub cond_cases : {A : Type 0} (b : Bool) (x y z : A) → cond b x y ≡ z → ((b ≡ true) × (x ≡ z)) ⊎ ((b ≡ false) × (y ≡ z))
cond_cases true x y z e = inl (refl, e)
cond_cases false x y z e = inr (refl, e)

pub record ConditionAt (d : Dialect) (ts : List Token) (e : Tree) (us : List Token) : Type 0 where
  pub written : Condition
  pub is : IsCondition d written
  pub split : ts ≡ spell_condition written us
  pub means : written.test ≡ e

pub condition_sound : (d : Dialect) (ts us : List Token) (e : Tree) → condition_front d ts ≡ Some (e, us) → ConditionAt d ts e us
condition_sound d ts us e h =
    let (vs, o, h1) = bind_some (past d signs.Open ts) _ _ h in
    let (x, xe, h2) = bind_some (expression_with (read d) vs) _ _ h1 in
    let (ws, c, h3) = bind_some (past d signs.Close x.1) _ _ h2 in
    let opens = past_is d signs.Open ts vs o in
    let leaf = expression_sound d vs x.1 x.0 xe in
    let closes = past_is d signs.Close x.1 ws c in
    record {
      written = record { opening = opens.token; words = leaf.words; test = x.0; closing = closes.token };
      is = (opens.is, leaf.is, closes.is);
      split = opens.split ∙ ap (λ y. opens.token ∷ y) (leaf.split ∙ ap (λ y. leaf.words ++ y) (closes.split ∙ ap (λ y. closes.token ∷ y) (same_1 _ _ _ _ h3)));
      means = same_0 _ _ _ _ h3;
    }

pub record PartAt (d : Dialect) (s : Sign) (ts : List Token) (x : Option Tree) (us : List Token) : Type 0 where
  pub written : Part
  pub token : Token
  pub is : IsPart d written
  pub sign : Is d s token
  pub split : ts ≡ spell_part written (token ∷ us)
  pub means : part_tree written ≡ x

pub part_sound : (d : Dialect) (s : Sign) (ts us : List Token) (x : Option Tree) → part_front d s ts ≡ Some (x, us) → PartAt d s ts x us
part_sound d s ts us x h =
    elim (or_else_cases (past d s ts) _ _ _ h) [
      | inl (vs, o, h1) ↦
          let ends = past_is d s ts vs o in
          record { written = None; token = ends.token; is = tt; sign = ends.is; split = ends.split ∙ ap (λ y. ends.token ∷ y) (same_1 _ _ _ _ h1); means = same_0 _ _ _ _ h1 }
      | inr (_, h1) ↦
          let (e, ee, h2) = bind_some (expression_with (read d) ts) _ _ h1 in
          let (vs, o, h3) = bind_some (past d s e.1) _ _ h2 in
          let leaf = expression_sound d ts e.1 e.0 ee in
          let ends = past_is d s e.1 vs o in
          record {
            written = Some (leaf.words, e.0);
            token = ends.token;
            is = leaf.is;
            sign = ends.is;
            split = leaf.split ∙ ap (λ y. leaf.words ++ y) (ends.split ∙ ap (λ y. ends.token ∷ y) (same_1 _ _ _ _ h3));
            means = same_0 _ _ _ _ h3;
          }
    ]

pub record StartAt (d : Dialect) (ts : List Token) (x : Optional) (us : List Token) : Type 0 where
  pub written : Start
  pub is : IsStart d written
  pub split : ts ≡ spell_start written us
  pub means : start_tree written ≡ x

pub start_sound : (d : Dialect) (ts us : List Token) (x : Optional) → start_front d ts ≡ Some (x, us) → StartAt d ts x us
start_sound d ts us x h =
    elim (cond_cases (begins_declaration (front d ts)) _ _ _ h) [
      | inl (_, h1) ↦
          let (s, se, h2) = bind_some (declare_front d ts) _ _ h1 in
          let (o, oe, h3) = bind_some (declaration_front d ts) _ _ se in
          let w = declaration_sound d ts o.1 o.0 oe in
          record {
            written = Declared w.words o.0;
            is = w.is;
            split = w.split ∙ ap (λ y. w.words ++ y) (same_1 _ _ _ _ h3 ∙ same_1 _ _ _ _ h2);
            means = ap trees.Present (same_0 _ _ _ _ h3) ∙ same_0 _ _ _ _ h2;
          }
      | inr (_, h1) ↦
          let (p, pe, h2) = bind_some (part_front d signs.Semicolon ts) _ _ h1 in
          let w = part_sound d signs.Semicolon ts p.1 p.0 pe in
          record {
            written = Started w.written w.token;
            is = (w.is, w.sign);
            split = w.split ∙ ap (λ y. spell_part w.written (w.token ∷ y)) (same_1 _ _ _ _ h2);
            means = ap started w.means ∙ same_0 _ _ _ _ h2;
          }
    ]

pub record TurnsAt (d : Dialect) (ts : List Token) (x : Optional × Option Tree × Option Tree) (us : List Token) : Type 0 where
  pub written : Turns
  pub is : IsTurns d written
  pub split : ts ≡ spell_turns written us
  pub start : start_tree written.start ≡ x.0
  pub test : part_tree written.test ≡ x.1
  pub step : part_tree written.step ≡ x.2

pub turns_sound : (d : Dialect) (ts us : List Token) (x : Optional × Option Tree × Option Tree) → turns_front d ts ≡ Some (x, us) → TurnsAt d ts x us
turns_sound d ts us x h =
    let (vs, o, h1) = bind_some (past d signs.Open ts) _ _ h in
    let (a, ae, h2) = bind_some (start_front d vs) _ _ h1 in
    let (b, be, h3) = bind_some (part_front d signs.Semicolon a.1) _ _ h2 in
    let (c, ce, h4) = bind_some (part_front d signs.Close b.1) _ _ h3 in
    let opens = past_is d signs.Open ts vs o in
    let wa = start_sound d vs a.1 a.0 ae in
    let wb = part_sound d signs.Semicolon a.1 b.1 b.0 be in
    let wc = part_sound d signs.Close b.1 c.1 c.0 ce in
    let same = same_0 _ _ _ _ h4 in
    record {
      written = record { opening = opens.token; start = wa.written; test = wb.written; semicolon = wb.token; step = wc.written; closing = wc.token };
      is = (opens.is, wa.is, wb.is, wb.sign, wc.is, wc.sign);
      split = opens.split ∙ ap (λ y. opens.token ∷ y) (wa.split ∙ ap (spell_start wa.written) (wb.split ∙ ap (λ y. spell_part wb.written (wb.token ∷ y))
          (wc.split ∙ ap (λ y. spell_part wc.written (wc.token ∷ y)) (same_1 _ _ _ _ h4))));
      start = wa.means ∙ ap (λ y. y.0) same;
      test = wb.means ∙ ap (λ y. y.1) same;
      step = wc.means ∙ ap (λ y. y.2) same;
    }

-- ts is written as a statement that means t, and then us; where an `else` follows, as a closed one
pub record Wrote (d : Dialect) (ts : List Token) (t : Statement) (us : List Token) : Type 0 where
  pub written : WrittenStatement
  pub fits : Fits d false written
  pub closed : (past_word d words.Else us ≡ None) ⊎ Fits d true written
  pub spelled : ts ≡ spell written us
  pub means : tree written ≡ t

pub record WroteAll (d : Dialect) (ts : List Token) (t : Statements) (us : List Token) : Type 0 where
  pub written : WrittenStatements
  pub fits : FitAll d written
  pub spelled : ts ≡ spell_all written us
  pub means : tree_all written ≡ t

-- a statement in front of an `else` is closed
is_closed : {A : Type 0} (d : Dialect) (us vs : List Token) → past_word d words.Else us ≡ Some vs → (past_word d words.Else us ≡ None) ⊎ A → A
is_closed d us vs e (inl h) = absurd (cc)
is_closed d us vs e (inr h) = h

closed_as : {A B : Type 0} (d : Dialect) (us vs : List Token) → us ≡ vs → (A → B) → (past_word d words.Else us ≡ None) ⊎ A → (past_word d words.Else vs ≡ None) ⊎ B
closed_as d us vs e f (inl h) = inl (sym (ap (past_word d words.Else) e) ∙ h)
closed_as d us vs e f (inr h) = inr (f h)

abbrev pub Sound : Dialect → Reader Statement → Type 0
Sound d R = (ts us : List Token) (t : Statement) → R ts ≡ Some (t, us) → Wrote d ts t us

abbrev pub SoundAll : Dialect → Reader Statements → Type 0
SoundAll d S = (ts us : List Token) (t : Statements) → S ts ≡ Some (t, us) → WroteAll d ts t us

run_sound : (d : Dialect) (ts us : List Token) (t : Statement) → run_front d ts ≡ Some (t, us) → Wrote d ts t us
run_sound d ts us t h =
    let (e, ee, h1) = bind_some (expression_with (read d) ts) _ _ h in
    let (vs, o, h2) = bind_some (past d signs.Semicolon e.1) _ _ h1 in
    let leaf = expression_sound d ts e.1 e.0 ee in
    let ends = past_is d signs.Semicolon e.1 vs o in
    record {
      written = Run leaf.words e.0 ends.token;
      fits = (leaf.is, ends.is);
      closed = inr (leaf.is, ends.is);
      spelled = leaf.split ∙ ap (λ y. leaf.words ++ y) (ends.split ∙ ap (λ y. ends.token ∷ y) (same_1 _ _ _ _ h2));
      means = same_0 _ _ _ _ h2;
    }

declare_sound : (d : Dialect) (ts us : List Token) (t : Statement) → declare_front d ts ≡ Some (t, us) → Wrote d ts t us
declare_sound d ts us t h =
    let (o, oe, h1) = bind_some (declaration_front d ts) _ _ h in
    let w = declaration_sound d ts o.1 o.0 oe in
    record { written = Declare w.words o.0; fits = w.is; closed = inr w.is; spelled = w.split ∙ ap (λ y. w.words ++ y) (same_1 _ _ _ _ h1); means = same_0 _ _ _ _ h1 }

plain_sound : (d : Dialect) (ts us : List Token) (t : Statement) → plain_front d ts ≡ Some (t, us) → Wrote d ts t us
plain_sound d ts us t h =
    elim (cond_cases (begins_declaration (front d ts)) _ _ _ h) [
      | inl (_, h1) ↦ declare_sound d ts us t h1
      | inr (_, h1) ↦ run_sound d ts us t h1
    ]

return_sound : (d : Dialect) (ts us : List Token) (t : Statement) → front d ts ≡ symbols.Word words.Return → return_front d (place_at ts) (behind ts) ≡ Some (t, us) → Wrote d ts t us
return_sound d ts us t b h =
    let word = first_word d words.Return ts b in
    let (p, pe, h1) = bind_some (part_front d signs.Semicolon (behind ts)) _ _ h in
    let w = part_sound d signs.Semicolon (behind ts) p.1 p.0 pe in
    record {
      written = Return word.token w.written w.token;
      fits = (word.is, w.is, w.sign);
      closed = inr (word.is, w.is, w.sign);
      spelled = word.split ∙ ap (λ y. word.token ∷ y) (w.split ∙ ap (λ y. spell_part w.written (w.token ∷ y)) (same_1 _ _ _ _ h1));
      means = cc (ap place_at word.split, w.means, same_0 _ _ _ _ h1);
    }

break_sound : (d : Dialect) (ts us : List Token) (t : Statement) → front d ts ≡ symbols.Word words.Break → word_front d (trees.Break (place_at ts)) (behind ts) ≡ Some (t, us) → Wrote d ts t us
break_sound d ts us t b h =
    let word = first_word d words.Break ts b in
    let (vs, o, h1) = bind_some (past d signs.Semicolon (behind ts)) _ _ h in
    let ends = past_is d signs.Semicolon (behind ts) vs o in
    record {
      written = Break word.token ends.token;
      fits = (word.is, ends.is);
      closed = inr (word.is, ends.is);
      spelled = word.split ∙ ap (λ y. word.token ∷ y) (ends.split ∙ ap (λ y. ends.token ∷ y) (same_1 _ _ _ _ h1));
      means = ap (λ y. trees.Break (place_at y)) (sym word.split) ∙ same_0 _ _ _ _ h1;
    }

continue_sound : (d : Dialect) (ts us : List Token) (t : Statement) → front d ts ≡ symbols.Word words.Continue → word_front d (trees.Continue (place_at ts)) (behind ts) ≡ Some (t, us) → Wrote d ts t us
continue_sound d ts us t b h =
    let word = first_word d words.Continue ts b in
    let (vs, o, h1) = bind_some (past d signs.Semicolon (behind ts)) _ _ h in
    let ends = past_is d signs.Semicolon (behind ts) vs o in
    record {
      written = Continue word.token ends.token;
      fits = (word.is, ends.is);
      closed = inr (word.is, ends.is);
      spelled = word.split ∙ ap (λ y. word.token ∷ y) (ends.split ∙ ap (λ y. ends.token ∷ y) (same_1 _ _ _ _ h1));
      means = ap (λ y. trees.Continue (place_at y)) (sym word.split) ∙ same_0 _ _ _ _ h1;
    }

empty_sound : (d : Dialect) (ts us : List Token) (t : Statement) → front d ts ≡ symbols.Sign signs.Semicolon → ◌≡◌ {A = Option (Statement × List Token)} (Some (trees.Empty, behind ts)) (Some (t, us)) → Wrote d ts t us
empty_sound d ts us t b h =
    let sign = first_sign d signs.Semicolon ts b in
    record { written = Empty sign.token; fits = sign.is; closed = inr sign.is; spelled = sign.split ∙ ap (λ y. sign.token ∷ y) (same_1 _ _ _ _ h); means = same_0 _ _ _ _ h }

module _ (d : Dialect) (R : Reader Statement) (S : Reader Statements) (r : Sound d R) (s : SoundAll d S) where
  if_sound : (ts us : List Token) (t : Statement) → front d ts ≡ symbols.Word words.If → if_with d R (behind ts) ≡ Some (t, us) → Wrote d ts t us
  if_sound ts us t b h =
      let word = first_word d words.If ts b in
      let (c, ce, h1) = bind_some (condition_front d (behind ts)) _ _ h in
      let (x, xe, h2) = bind_some (R c.1) _ _ h1 in
      let wc = condition_sound d (behind ts) c.1 c.0 ce in
      let wx = r c.1 x.1 x.0 xe in
      elim (or_else_cases (past_word d words.Else x.1) _ _ _ h2) [
        | inl (vs, o, h3) ↦
            let (y, ye, h4) = bind_some (R vs) _ _ h3 in
            let other = past_word_is d words.Else x.1 vs o in
            let wy = r vs y.1 y.0 ye in
            let first = is_closed d x.1 vs o wx.closed in
            let rest : y.1 ≡ us = same_1 _ _ _ _ h4 in
            let same = same_0 _ _ _ _ h4 in
            record {
              written = IfElse word.token wc.written wx.written other.token wy.written;
              fits = (word.is, wc.is, first, other.is, wy.fits);
              closed = closed_as d y.1 us rest (λ f. (word.is, wc.is, first, other.is, f)) wy.closed;
              spelled = word.split ∙ ap (λ z. word.token ∷ z) (wc.split ∙ ap (spell_condition wc.written) (wx.spelled ∙ ap (spell wx.written)
                  (other.split ∙ ap (λ z. other.token ∷ z) (wy.spelled ∙ ap (spell wy.written) rest))));
              means = cc (wc.means, wx.means, wy.means, same);
            }
        | inr (none, h3) ↦
            let rest : x.1 ≡ us = same_1 _ _ _ _ h3 in
            let same = same_0 _ _ _ _ h3 in
            record {
              written = If word.token wc.written wx.written;
              fits = (refl, word.is, wc.is, wx.fits);
              closed = inl (sym (ap (past_word d words.Else) rest) ∙ none);
              spelled = word.split ∙ ap (λ z. word.token ∷ z) (wc.split ∙ ap (spell_condition wc.written) (wx.spelled ∙ ap (spell wx.written) rest));
              means = cc (wc.means, wx.means, same);
            }
      ]

  while_sound : (ts us : List Token) (t : Statement) → front d ts ≡ symbols.Word words.While → while_with d R (behind ts) ≡ Some (t, us) → Wrote d ts t us
  while_sound ts us t b h =
      let word = first_word d words.While ts b in
      let (c, ce, h1) = bind_some (condition_front d (behind ts)) _ _ h in
      let (x, xe, h2) = bind_some (R c.1) _ _ h1 in
      let wc = condition_sound d (behind ts) c.1 c.0 ce in
      let wx = r c.1 x.1 x.0 xe in
      let rest : x.1 ≡ us = same_1 _ _ _ _ h2 in
      let same = same_0 _ _ _ _ h2 in
      record {
        written = While word.token wc.written wx.written;
        fits = (word.is, wc.is, wx.fits);
        closed = closed_as d x.1 us rest (λ f. (word.is, wc.is, f)) wx.closed;
        spelled = word.split ∙ ap (λ z. word.token ∷ z) (wc.split ∙ ap (spell_condition wc.written) (wx.spelled ∙ ap (spell wx.written) rest));
        means = cc (wc.means, wx.means, same);
      }

  do_sound : (ts us : List Token) (t : Statement) → front d ts ≡ symbols.Word words.Do → do_with d R (behind ts) ≡ Some (t, us) → Wrote d ts t us
  do_sound ts us t b h =
      let word = first_word d words.Do ts b in
      let (x, xe, h1) = bind_some (R (behind ts)) _ _ h in
      let (vs, o, h2) = bind_some (past_word d words.While x.1) _ _ h1 in
      let (c, ce, h3) = bind_some (condition_front d vs) _ _ h2 in
      let (ws, p, h4) = bind_some (past d signs.Semicolon c.1) _ _ h3 in
      let wx = r (behind ts) x.1 x.0 xe in
      let again = past_word_is d words.While x.1 vs o in
      let wc = condition_sound d vs c.1 c.0 ce in
      let ends = past_is d signs.Semicolon c.1 ws p in
      let same = same_0 _ _ _ _ h4 in
      record {
        written = DoWhile word.token wx.written again.token wc.written ends.token;
        fits = (word.is, wx.fits, again.is, wc.is, ends.is);
        closed = inr (word.is, wx.fits, again.is, wc.is, ends.is);
        spelled = word.split ∙ ap (λ z. word.token ∷ z) (wx.spelled ∙ ap (spell wx.written) (again.split ∙ ap (λ z. again.token ∷ z)
            (wc.split ∙ ap (spell_condition wc.written) (ends.split ∙ ap (λ z. ends.token ∷ z) (same_1 _ _ _ _ h4)))));
        means = cc (wc.means, wx.means, same);
      }

  for_sound : (ts us : List Token) (t : Statement) → front d ts ≡ symbols.Word words.For → for_with d R (behind ts) ≡ Some (t, us) → Wrote d ts t us
  for_sound ts us t b h =
      let word = first_word d words.For ts b in
      let (c, ce, h1) = bind_some (turns_front d (behind ts)) _ _ h in
      let (x, xe, h2) = bind_some (R c.1) _ _ h1 in
      let wc = turns_sound d (behind ts) c.1 c.0 ce in
      let wx = r c.1 x.1 x.0 xe in
      let rest : x.1 ≡ us = same_1 _ _ _ _ h2 in
      let same = same_0 _ _ _ _ h2 in
      record {
        written = For word.token wc.written wx.written;
        fits = (word.is, wc.is, wx.fits);
        closed = closed_as d x.1 us rest (λ f. (word.is, wc.is, f)) wx.closed;
        spelled = word.split ∙ ap (λ z. word.token ∷ z) (wc.split ∙ ap (spell_turns wc.written) (wx.spelled ∙ ap (spell wx.written) rest));
        means = cc (wc.start, wc.test, wc.step, wx.means, same);
      }

  block_sound : (ts us : List Token) (t : Statement) → front d ts ≡ symbols.Sign signs.OpenBrace → block_with S (behind ts) ≡ Some (t, us) → Wrote d ts t us
  block_sound ts us t b h =
      let sign = first_sign d signs.OpenBrace ts b in
      let (x, xe, h1) = bind_some (S (behind ts)) _ _ h in
      let w = s (behind ts) x.1 x.0 xe in
      record {
        written = Block sign.token w.written;
        fits = (sign.is, w.fits);
        closed = inr (sign.is, w.fits);
        spelled = sign.split ∙ ap (λ z. sign.token ∷ z) (w.spelled ∙ ap (spell_all w.written) (same_1 _ _ _ _ h1));
        means = ap trees.Block w.means ∙ same_0 _ _ _ _ h1;
      }

  beginning_sound : (m : Symbol) (ts us : List Token) (t : Statement) → front d ts ≡ m → beginning_with d R S m ts ≡ Some (t, us) → Wrote d ts t us
  beginning_sound (symbols.Word words.If) ts us t b h = if_sound ts us t b h
  beginning_sound (symbols.Word words.While) ts us t b h = while_sound ts us t b h
  beginning_sound (symbols.Word words.Do) ts us t b h = do_sound ts us t b h
  beginning_sound (symbols.Word words.For) ts us t b h = for_sound ts us t b h
  beginning_sound (symbols.Word words.Break) ts us t b h = break_sound d ts us t b h
  beginning_sound (symbols.Word words.Continue) ts us t b h = continue_sound d ts us t b h
  beginning_sound (symbols.Word words.Return) ts us t b h = return_sound d ts us t b h
  beginning_sound (symbols.Sign signs.OpenBrace) ts us t b h = block_sound ts us t b h
  beginning_sound (symbols.Sign signs.Semicolon) ts us t b h = empty_sound d ts us t b h
  beginning_sound _ ts us t b h = plain_sound d ts us t h

  statement_step : (ts us : List Token) (t : Statement) → statement_with d R S ts ≡ Some (t, us) → Wrote d ts t us
  statement_step ts us t h = beginning_sound (front d ts) ts us t refl h

  statements_step : (ts us : List Token) (t : Statements) → statements_with d R S ts ≡ Some (t, us) → WroteAll d ts t us
  statements_step ts us t h =
      elim (or_else_cases (past d signs.CloseBrace ts) _ _ _ h) [
        | inl (vs, o, h1) ↦
            let ends = past_is d signs.CloseBrace ts vs o in
            record { written = End ends.token; fits = ends.is; spelled = ends.split ∙ ap (λ z. ends.token ∷ z) (same_1 _ _ _ _ h1); means = same_0 _ _ _ _ h1 }
        | inr (_, h1) ↦
            let (x, xe, h2) = bind_some (R ts) _ _ h1 in
            let (y, ye, h3) = bind_some (S x.1) _ _ h2 in
            let wx = r ts x.1 x.0 xe in
            let wy = s x.1 y.1 y.0 ye in
            let same = same_0 _ _ _ _ h3 in
            record {
              written = Then wx.written wy.written;
              fits = (wx.fits, wy.fits);
              spelled = wx.spelled ∙ ap (spell wx.written) (wy.spelled ∙ ap (spell_all wy.written) (same_1 _ _ _ _ h3));
              means = cc (wx.means, wy.means, same);
            }
      ]

pub record Both (d : Dialect) (n : ℕ) : Type 0 where
  pub statement : Sound d (statement_at d n)
  pub statements : SoundAll d (statements_at d n)

none_sound : (d : Dialect) → Both d zero
unfolding statement_at
none_sound d = record { statement = λ ts us t e. absurd (cc); statements = λ ts us t e. absurd (cc) }

next_sound : (d : Dialect) (n : ℕ) → Both d n → Both d (suc n)
unfolding statement_at
next_sound d n b = record {
  statement = statement_step d (statement_at d n) (statements_at d n) b.statement b.statements;
  statements = statements_step d (statement_at d n) (statements_at d n) b.statement b.statements;
}

pub sound : (d : Dialect) (n : ℕ) → Both d n
sound d zero = none_sound d
sound d (suc n) = next_sound d n (sound d n)
