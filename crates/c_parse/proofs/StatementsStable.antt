-- Reading statements has equations without a depth.
use Rattle.std.proofs.Common.{◌≡◌, ℕ, zero, suc, ◌+◌, ◌*◌, ◌<◌, ◌≤◌, List, [], ◌∷◌, ◌++◌, length, Option, Some, None, refl, sym, ◌∙◌, ap, arith, Bool, true, false}
use Rattle.c_text.specs.declared.tokens.Dialect.{Dialect}
use Rattle.c_text.specs.declared.tokens.Token.{Token}
use Rattle.c_tree.specs.Tree.{Tree, Statement, Statements, Optional}
use Rattle.c_parse.specs.declared.symbols.Sign.{Sign}
use Rattle.c_parse.specs.declared.symbols.Sign.TheVariants as signs
use Rattle.c_parse.specs.declared.symbols.Symbol.{Symbol}
use Rattle.c_parse.specs.declared.symbols.Symbol.TheVariants as symbols
use Rattle.c_parse.specs.declared.symbols.Word.{Word}
use Rattle.c_parse.specs.declared.symbols.Word.TheVariants as words
use Rattle.c_parse.specs.Reading.{front, behind, past}
use Rattle.c_parse.specs.Objects.{begins_declaration}
use Rattle.c_parse.specs.Statements.{Part, Condition, Start, Declared, Started, Turns, WrittenStatement, WrittenStatements, Declare, Run, Block, If, IfElse, While, DoWhile, For, Break, Continue, Return, Empty, End, Then, Fits, FitAll, spell_part, spell_condition, spell_start, spell_turns, spell, spell_all}
use Rattle.c_parse.specs.StatementReading.{Reader, past_word, condition_front, turns_front, if_with, while_with, do_with, for_with, beginning_with, statement_with, statements_with, statement_at, statements_at, statement_of, statements_of}
use Rattle.c_parse.proofs.Stable.{bind_same, or_else_same}
use Rattle.c_parse.proofs.Leaves.{longer_words}
use Rattle.c_parse.proofs.DeclarationsRead.{declaration_begins}
use Rattle.c_parse.proofs.StatementsSound.{past_word_is, first_word, first_sign, condition_sound, turns_sound, Wrote, WroteAll, Sound, SoundAll, sound}

longer_part : (p : Part) (ts : List Token) → length ts ≤ length (spell_part p ts)
longer_part None ts = omega arith
longer_part (Some x) ts = longer_words x.0 ts

longer_condition : (c : Condition) (ts : List Token) → length ts < length (spell_condition c ts)
longer_condition c ts = let h = longer_words c.words (c.closing ∷ ts) in omega arith

longer_start : (s : Start) (ts : List Token) → length ts ≤ length (spell_start s ts)
longer_start (Declared words os) ts = longer_words words ts
longer_start (Started p t) ts = let h = longer_part p (t ∷ ts) in omega arith

longer_turns : (h : Turns) (ts : List Token) → length ts < length (spell_turns h ts)
longer_turns h ts =
    let a = longer_part h.step (h.closing ∷ ts) in
    let b = longer_part h.test (h.semicolon ∷ spell_part h.step (h.closing ∷ ts)) in
    let c = longer_start h.start (spell_part h.test (h.semicolon ∷ spell_part h.step (h.closing ∷ ts))) in
    omega arith

-- what begins a declaration is at least one token
pub begins_longer : (d : Dialect) (w ts : List Token) → begins_declaration (front d (w ++ [])) ≡ true → length ts < length (w ++ ts)
begins_longer d [] ts e = absurd (cc)
begins_longer d (t ∷ w) ts e = let h = longer_words w ts in omega arith

mutual
  longer : (d : Dialect) (closed : Bool) (s : WrittenStatement) (ts : List Token) → Fits d closed s → length ts < length (spell s ts)
  longer d closed (Declare words os) ts f = begins_longer d words ts (declaration_begins d words os [] f)
  longer d closed (Run words e t) ts f = let h = longer_words words (t ∷ ts) in omega arith
  longer d closed (Block o row) ts f = let h = longer_all d row ts f.1 in omega arith
  longer d closed (If i c s) ts f = let h = longer d false s ts f.3 in let k = longer_condition c (spell s ts) in omega arith
  longer d closed (IfElse i c s l r) ts f =
      let h = longer d closed r ts f.4 in
      let k = longer d true s (l ∷ spell r ts) f.2 in
      let m = longer_condition c (spell s (l ∷ spell r ts)) in
      omega arith
  longer d closed (While w c s) ts f = let h = longer d closed s ts f.2 in let k = longer_condition c (spell s ts) in omega arith
  longer d closed (DoWhile o s w c t) ts f =
      let h = longer_condition c (t ∷ ts) in
      let k = longer d false s (w ∷ spell_condition c (t ∷ ts)) f.1 in
      omega arith
  longer d closed (For w h s) ts f = let k = longer d closed s ts f.2 in let m = longer_turns h (spell s ts) in omega arith
  longer d closed (Break b t) ts f = omega arith
  longer d closed (Continue b t) ts f = omega arith
  longer d closed (Return b p t) ts f = let h = longer_part p (t ∷ ts) in omega arith
  longer d closed (Empty t) ts f = omega arith

  pub longer_all : (d : Dialect) (row : WrittenStatements) (ts : List Token) → FitAll d row → length ts < length (spell_all row ts)
  longer_all d (End t) ts f = omega arith
  longer_all d (Then s rest) ts f = let h = longer_all d rest ts f.1 in let k = longer d false s (spell_all rest ts) f.0 in omega arith

shrinks : (d : Dialect) (ts us : List Token) (t : Statement) → Wrote d ts t us → length us < length ts
shrinks d ts us t w = let h = longer d false w.written us w.fits in omega (arith, ap length w.spelled)

all_shrinks : (d : Dialect) (ts us : List Token) (t : Statements) → WroteAll d ts t us → length us < length ts
all_shrinks d ts us t w = let h = longer_all d w.written us w.fits in omega (arith, ap length w.spelled)

pub past_word_shrinks : (d : Dialect) (w : Word) (ts us : List Token) → past_word d w ts ≡ Some us → length us < length ts
past_word_shrinks d w ts us e = omega (arith, ap length (past_word_is d w ts us e).split)

word_shrinks : (d : Dialect) (w : Word) (ts : List Token) → front d ts ≡ symbols.Word w → length (behind ts) < length ts
word_shrinks d w ts e = omega (arith, ap length (first_word d w ts e).split)

sign_shrinks : (d : Dialect) (s : Sign) (ts : List Token) → front d ts ≡ symbols.Sign s → length (behind ts) < length ts
sign_shrinks d s ts e = omega (arith, ap length (first_sign d s ts e).split)

condition_shrinks : (d : Dialect) (ts : List Token) (x : Tree × List Token) → condition_front d ts ≡ Some x → length x.1 < length ts
condition_shrinks d ts x e = let w = condition_sound d ts x.1 x.0 e in let h = longer_condition w.written x.1 in omega (arith, ap length w.split)

turns_shrinks : (d : Dialect) (ts : List Token) (x : (Optional × Option Tree × Option Tree) × List Token) → turns_front d ts ≡ Some x → length x.1 < length ts
turns_shrinks d ts x e = let w = turns_sound d ts x.1 x.0 e in let h = longer_turns w.written x.1 in omega (arith, ap length w.split)

pub record Agrees (d : Dialect) (n : ℕ) (R Q : Reader Statement) (S P : Reader Statements) : Type 0 where
  pub at_statement : (ts : List Token) → 2 * length ts + 1 ≤ n → R ts ≡ Q ts
  pub at_statements : (ts : List Token) → 2 * length ts + 2 ≤ n → S ts ≡ P ts

module _ (d : Dialect) (n : ℕ) (R Q : Reader Statement) (S P : Reader Statements) (r : Sound d R) (s : SoundAll d S) (a : Agrees d n R Q S P) where
  same_if : (ts : List Token) → 2 * length ts + 1 ≤ n → if_with d R ts ≡ if_with d Q ts
  same_if ts h = bind_same (condition_front d ts) _ _ _ refl (λ c ce.
      let s1 = condition_shrinks d ts c ce in
      bind_same (R c.1) _ _ _ (a.at_statement c.1 (omega arith)) (λ x xe.
      let s2 = shrinks d c.1 x.1 x.0 (r c.1 x.1 x.0 xe) in
      or_else_same (past_word d words.Else x.1) _ _ _ _ (λ vs o.
      let s3 = past_word_shrinks d words.Else x.1 vs o in
      bind_same (R vs) _ _ _ (a.at_statement vs (omega arith)) (λ y ye. refl)) refl))

  same_while : (ts : List Token) → 2 * length ts + 1 ≤ n → while_with d R ts ≡ while_with d Q ts
  same_while ts h = bind_same (condition_front d ts) _ _ _ refl (λ c ce.
      let s1 = condition_shrinks d ts c ce in
      bind_same (R c.1) _ _ _ (a.at_statement c.1 (omega arith)) (λ x xe. refl))

  same_do : (ts : List Token) → 2 * length ts + 1 ≤ n → do_with d R ts ≡ do_with d Q ts
  same_do ts h = bind_same (R ts) _ _ _ (a.at_statement ts h) (λ x xe. refl)

  same_for : (ts : List Token) → 2 * length ts + 1 ≤ n → for_with d R ts ≡ for_with d Q ts
  same_for ts h = bind_same (turns_front d ts) _ _ _ refl (λ c ce.
      let s1 = turns_shrinks d ts c ce in
      bind_same (R c.1) _ _ _ (a.at_statement c.1 (omega arith)) (λ x xe. refl))

  same_beginning : (m : Symbol) (ts : List Token) → front d ts ≡ m → 2 * length ts ≤ n → beginning_with d R S m ts ≡ beginning_with d Q P m ts
  same_beginning (symbols.Word words.If) ts b h = let s1 = word_shrinks d words.If ts b in same_if (behind ts) (omega arith)
  same_beginning (symbols.Word words.While) ts b h = let s1 = word_shrinks d words.While ts b in same_while (behind ts) (omega arith)
  same_beginning (symbols.Word words.Do) ts b h = let s1 = word_shrinks d words.Do ts b in same_do (behind ts) (omega arith)
  same_beginning (symbols.Word words.For) ts b h = let s1 = word_shrinks d words.For ts b in same_for (behind ts) (omega arith)
  same_beginning (symbols.Sign signs.OpenBrace) ts b h =
      let s1 = sign_shrinks d signs.OpenBrace ts b in
      bind_same (S (behind ts)) _ _ _ (a.at_statements (behind ts) (omega arith)) (λ x xe. refl)
  same_beginning _ ts b h = refl

  same_statement : (ts : List Token) → 2 * length ts ≤ n → statement_with d R S ts ≡ statement_with d Q P ts
  same_statement ts h = same_beginning (front d ts) ts refl h

  same_statements : (ts : List Token) → 2 * length ts + 1 ≤ n → statements_with d R S ts ≡ statements_with d Q P ts
  same_statements ts h = or_else_same (past d signs.CloseBrace ts) _ _ _ _ (λ vs o. refl) (bind_same (R ts) _ _ _ (a.at_statement ts h) (λ x xe.
      let s1 = shrinks d ts x.1 x.0 (r ts x.1 x.0 xe) in
      bind_same (S x.1) _ _ _ (a.at_statements x.1 (omega arith)) (λ y ye. refl)))

abbrev Stable : Dialect → ℕ → ℕ → Type 0
Stable d n m = Agrees d n (statement_at d n) (statement_at d m) (statements_at d n) (statements_at d m)

next_stable : (d : Dialect) (n m : ℕ) → Stable d n m → Stable d (suc n) (suc m)
unfolding statement_at
next_stable d n m a =
    let b = sound d n in
    record {
      at_statement = λ ts h. same_statement d n (statement_at d n) (statement_at d m) (statements_at d n) (statements_at d m) b.statement b.statements a ts (omega arith);
      at_statements = λ ts h. same_statements d n (statement_at d n) (statement_at d m) (statements_at d n) (statements_at d m) b.statement b.statements a ts (omega arith);
    }

-- deeper than deep enough is the same
stable : (d : Dialect) (n m : ℕ) → n ≤ m → Stable d n m
stable d zero m h = record { at_statement = λ ts g. absurd (omega arith); at_statements = λ ts g. absurd (omega arith) }
stable d (suc n) zero h = absurd (omega arith)
stable d (suc n) (suc m) h = next_stable d n m (stable d n m (omega arith))

deep : (d : Dialect) (n : ℕ) → Agrees d n (statement_of d) (statement_at d n) (statements_of d) (statements_at d n)
unfolding statement_of statements_of
deep d n = record {
  at_statement = λ ts h. (stable d (2 * length ts + 1) n h).at_statement ts (omega arith);
  at_statements = λ ts h. (stable d (2 * length ts + 2) n h).at_statements ts (omega arith);
}

back : (d : Dialect) (n : ℕ) → Agrees d n (statement_at d n) (statement_of d) (statements_at d n) (statements_of d)
back d n = record { at_statement = λ ts h. sym ((deep d n).at_statement ts h); at_statements = λ ts h. sym ((deep d n).at_statements ts h) }

pub statement_eq : (d : Dialect) (ts : List Token) → statement_of d ts ≡ statement_with d (statement_of d) (statements_of d) ts
unfolding statement_at
statement_eq d ts =
    let n : ℕ = 2 * length ts + 1 in
    let b = sound d n in
    (deep d (suc n)).at_statement ts (omega arith)
    ∙ same_statement d n (statement_at d n) (statement_of d) (statements_at d n) (statements_of d) b.statement b.statements (back d n) ts (omega arith)

pub statements_eq : (d : Dialect) (ts : List Token) → statements_of d ts ≡ statements_with d (statement_of d) (statements_of d) ts
unfolding statement_at
statements_eq d ts =
    let n : ℕ = 2 * length ts + 2 in
    let b = sound d n in
    (deep d (suc n)).at_statements ts (omega arith)
    ∙ same_statements d n (statement_at d n) (statement_of d) (statements_at d n) (statements_of d) b.statement b.statements (back d n) ts (omega arith)

pub statement_sound : (d : Dialect) → Sound d (statement_of d)
unfolding statement_of
statement_sound d ts us t e = (sound d (2 * length ts + 1)).statement ts us t e

pub statements_sound : (d : Dialect) → SoundAll d (statements_of d)
unfolding statements_of
statements_sound d ts us t e = (sound d (2 * length ts + 2)).statements ts us t e

pub statement_shrinks : (d : Dialect) (ts us : List Token) (t : Statement) → statement_of d ts ≡ Some (t, us) → length us < length ts
statement_shrinks d ts us t e = shrinks d ts us t (statement_sound d ts us t e)

pub statements_shrink : (d : Dialect) (ts us : List Token) (t : Statements) → statements_of d ts ≡ Some (t, us) → length us < length ts
statements_shrink d ts us t e = all_shrinks d ts us t (statements_sound d ts us t e)
