-- Expressions as lists of tokens in front of others: what is read there, and what they begin with.
use Rattle.std.proofs.Common.{◌≡◌, ◌<◌, ◌≤◌, List, [], ◌∷◌, ◌++◌, length, Option, Some, None, refl, sym, ◌∙◌, ap, arith, Bool, true, false}
use Rattle.std.proofs.lemmas.List.{length-append}
use Rattle.c_text.specs.declared.tokens.Dialect.{Dialect}
use Rattle.c_text.specs.declared.tokens.Token.{Token}
use Rattle.c_tree.specs.Tree.{Tree}
use Rattle.c_parse.specs.Reading.{front, read, expression_with}
use Rattle.c_parse.specs.Grammar.{Written, Tail, spell, spell_tail, Expression}
use Rattle.c_parse.proofs.Sound.{sound_row}
use Rattle.c_parse.proofs.Stable.{read_sound, longer, longer_tail}
use Rattle.c_parse.proofs.Complete.{Closed, row_complete}
use Rattle.c_parse.proofs.Whole.{reads}
use Rattle.c_parse.proofs.Endings.{begins_expression, no_expression}
use Rattle.c_parse.proofs.Spelling.{spell_more, tail_more}

pub longer_words : (w ts : List Token) → length ts ≤ length (w ++ ts)
longer_words w ts = omega (arith, length-append w ts)

row_more : (c : Written) (rest : Tail) (us : List Token) → spell c (spell_tail rest []) ++ us ≡ spell c (spell_tail rest us)
row_more c rest us = spell_more c (spell_tail rest []) us ∙ ap (spell c) (tail_more rest [] us)

-- an expression in front, and what is behind it
pub record Leaf (d : Dialect) (ts : List Token) (t : Tree) (us : List Token) : Type 0 where
  pub words : List Token
  pub is : Expression d words t
  pub split : ts ≡ words ++ us

pub expression_sound : (d : Dialect) (ts us : List Token) (t : Tree) → expression_with (read d) ts ≡ Some (t, us) → Leaf d ts t us
expression_sound d ts us t e =
    let w = sound_row d (read d) (read_sound d) ts us t e in
    record {
      words = spell w.first (spell_tail w.others []);
      is = record { first = w.first; others = w.others; fits = w.fits; spelled = refl; means = w.means };
      split = w.spelled ∙ sym (row_more w.first w.others us);
    }

-- an expression is read in front of what doesn't go on with it
pub expression_complete : (d : Dialect) (words : List Token) (t : Tree) (rest : List Token) → Expression d words t → Closed d rest →
    expression_with (read d) (words ++ rest) ≡ Some (t, rest)
expression_complete d words t rest e c =
    ap (λ w. expression_with (read d) (w ++ rest)) e.spelled
    ∙ ap (expression_with (read d)) (row_more e.first e.others rest)
    ∙ row_complete d e.first e.others rest e.fits.0 e.fits.1 c
    ∙ ap (λ x. Some (x, rest)) e.means

pub expression_shrinks : (d : Dialect) (ts us : List Token) (t : Tree) → expression_with (read d) ts ≡ Some (t, us) → length us < length ts
expression_shrinks d ts us t e =
    let w = sound_row d (read d) (read_sound d) ts us t e in
    let a = longer_tail w.others us in
    let b = longer w.first (spell_tail w.others us) in
    omega (arith, ap length w.spelled)

-- the first token of an expression, whatever stands behind it
pub expression_begins : (d : Dialect) (words : List Token) (t : Tree) (rest : List Token) → Expression d words t → begins_expression (front d (words ++ rest)) ≡ true
expression_begins d [] t rest e = let h = expression_shrinks d [] [] t (reads d [] t e) in absurd (omega arith)
expression_begins d (w ∷ words) t rest e = go (begins_expression (front d (w ∷ words))) refl
  where
    go : (b : Bool) → begins_expression (front d (w ∷ words)) ≡ b → begins_expression (front d (w ∷ words)) ≡ true
    go true h = h
    go false h =
        let none : expression_with (read d) (w ∷ words) ≡ None = rw (no_expression d (w ∷ words) h) refl in
        let some : ◌≡◌ {A = Option (Tree × List Token)} None (Some (t, [])) = sym none ∙ reads d (w ∷ words) t e in
        absurd (cc)
