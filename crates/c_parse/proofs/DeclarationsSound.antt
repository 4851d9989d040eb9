-- What is read of a declaration was written so.
use Rattle.std.proofs.Common.{◌≡◌, ◌+◌, inl, inr, List, [], ◌∷◌, ◌++◌, map, Option, Some, None, refl, sym, ◌∙◌, ap, Bool, true, false, cond, ◌||◌}
use Rattle.std.specs.List.{list_any}
use Rattle.c_text.specs.declared.tokens.Dialect.{Dialect}
use Rattle.c_text.specs.declared.tokens.Token.{Token}
use Rattle.c_text.specs.declared.tokens.TokenKind.{TokenKind}
use Rattle.c_text.specs.declared.tokens.TokenKind.TheVariants as kinds
use Rattle.c_tree.specs.Tree.{Tree, NoTrees, Object, Definition}
use Rattle.c_tree.specs.View.{and_more}
use Rattle.c_parse.specs.declared.attribute_names.AttributeName.{AttributeName}
use Rattle.c_parse.specs.declared.attribute_names.AttributeName.TheVariants as names
use Rattle.c_parse.specs.declared.symbols.Sign.TheVariants.{Open, Close, OpenSquare, CloseSquare, Comma, OpenBrace, CloseBrace, Semicolon}
use Rattle.c_parse.specs.declared.symbols.Symbol.{Symbol}
use Rattle.c_parse.specs.declared.symbols.Symbol.TheVariants as symbols
use Rattle.c_parse.specs.declared.symbols.Word.TheVariants as keywords
use Rattle.c_parse.specs.Symbols.{symbol_of}
use Rattle.c_parse.specs.Reading.{◌>>=◌, or_else, front, is_sign, past, name_front, is_star, is_qualifier, with_rest, Assignment, read}
use Rattle.c_parse.specs.Grammar.{Written, Is, Fits, spell, tree}
use Rattle.c_parse.specs.Repeated.{Each, spell_each, spell_next, says_each, means_each, repeated}
use Rattle.c_parse.specs.Objects.{attribute_of, is_specifier, is_align_as, is_attribute, is_const, is_void, is_equals, begins_declaration, Specification, nothing_said, word_says, align_once, plain, not_inline, Extent, Single, Bounded, is_array, Declarator, Initial, object, parameter, table, heading}
use Rattle.c_parse.specs.Declarations.{NextFits, next_says, Dropped, Target, Aligned, AttributeFits, spell_attribute, attribute_says, GroupFits, spell_group, group_says, Word, AlignAs, Attributes, SpecifierFits, spell_specifier, specifier_says, Pointing, Direct, Star, QualifierFits, PointingFits, spell_pointing, pointing_says, NoBrackets, Empty, Length, BracketsFit, spell_brackets, brackets_say, DeclaratorFits, spell_declarator, declarator_says}
use Rattle.c_parse.specs.Declarations.{NoInitialiser, Value, Values, OptionalComma, InitialiserFits, spell_optional, spell_initialiser, initialiser_says, ObjectFits, spell_object, object_says, DeclarationFits, spell_declaration, declaration_says, TableFits, spell_table, table_says, ParameterFits, spell_parameter, parameter_says, NoParameters, VoidParameters, SomeParameters, ParametersFit, spell_parameters, parameters_say, HeadingFits, spell_heading, heading_says}
use Rattle.c_parse.specs.DeclarationReading.{past_test, alignment_front, is_string, past_string, attribute_behind, attribute_front, attributes_front, group_behind, groups_front, with_alignment, word_front, specifier_front, begun, specifiers_front, qualify, qualifiers_front, pointing_front, brackets_front, declarator_front, and_one, past_member, members_front, past_optional, list_front, initialiser_behind, initialiser_front, initialised_front, more_objects, declaration_front, object_front, parameter_front, more_parameters, past_void, parameters_front, heading_front}
use Rattle.c_parse.proofs.Fronts.{bind_some, or_else_cases, past_is, name_is}
use Rattle.c_parse.proofs.Sound.{Wrote as Expressed}
use Rattle.c_parse.proofs.Stable.{read_sound}
use Rattle.c_parse.proofs.Repeats.{Wrote, same_answer, same_rest, same_some, repeated_sound, means_added, means_map}

pub bind_to : {A B : Type 0} (o : Option A) (x : A) (f : A → Option B) (y : Option B) → o ≡ Some x → f x ≡ y → (o >>= f) ≡ y
bind_to o x f y e g = ap (λ p. p >>= f) e ∙ g

pub with_rest_is : {A : Type 0} (o : Option A) (ts : List Token) (x : A) (us : List Token) → with_rest o ts ≡ Some (x, us) → (o ≡ Some x) × (ts ≡ us)
with_rest_is (Some y) ts x us e = (ap Some (same_answer _ _ _ _ e), same_rest _ _ _ _ e)
with_rest_is None ts x us e = absurd (cc)

-- a token that passes a test, and those behind it
pub record Passes (d : Dialect) (test : Symbol → Bool) (ts us : List Token) : Type 0 where
  pub token : Token
  pub is : test (symbol_of d token) ≡ true
  pub split : ts ≡ token ∷ us

pub past_test_is : (d : Dialect) (test : Symbol → Bool) (ts us : List Token) → test symbols.Other ≡ false → past_test d test ts ≡ Some us → Passes d test ts us
past_test_is d test [] us none e = go (test symbols.Other) none e
  where
    go : (b : Bool) → b ≡ false → cond b (Some []) None ≡ Some us → Passes d test [] us
    go true h f = absurd (cc)
    go false h f = absurd (cc)
past_test_is d test (t ∷ ts) us none e = go (test (symbol_of d t)) refl e
  where
    go : (b : Bool) → test (symbol_of d t) ≡ b → cond b (Some ts) None ≡ Some us → Passes d test (t ∷ ts) us
    go true h f = record { token = t; is = h; split = ap (λ y. t ∷ y) (same_some _ _ f) }
    go false h f = absurd (cc)

-- an expression without commas
pub assigned : (d : Dialect) (ts : List Token) (a : Tree) (us : List Token) → read d Assignment ts ≡ Some (a, us) → Expressed d 1 ts a us
assigned d ts a us e = read_sound d Assignment ts us a e

record Alignment (d : Dialect) (s r : Option Tree) (ts us : List Token) : Type 0 where
  bracket : Token
  expression : Written
  close : Token
  fits : Is d Open bracket × Fits d 1 expression × Is d Close close
  spelled : ts ≡ bracket ∷ spell expression (close ∷ us)
  means : align_once s (tree expression) ≡ Some r

alignment_sound : (d : Dialect) (s r : Option Tree) (ts us : List Token) → alignment_front d s ts ≡ Some (r, us) → Alignment d s r ts us
alignment_sound d s r ts us e =
    let (vs, o, e1) = bind_some (past d Open ts) _ _ e in
    let (a, ae, e2) = bind_some (read d Assignment vs) _ _ e1 in
    let (ws, c, e3) = bind_some (past d Close a.1) _ _ e2 in
    let bracket = past_is d Open ts vs o in
    let w = assigned d vs a.0 a.1 ae in
    let close = past_is d Close a.1 ws c in
    let last = with_rest_is (align_once s a.0) ws r us e3 in
    record {
      bracket = bracket.token;
      expression = w.written;
      close = close.token;
      fits = (bracket.is, w.fits, close.is);
      spelled = bracket.split ∙ ap (λ y. bracket.token ∷ y) (w.spelled ∙ ap (spell w.written) (close.split ∙ ap (λ y. close.token ∷ y) last.1));
      means = ap (align_once s) w.means ∙ last.0;
    }

is_string_is : (k : TokenKind) → is_string k ≡ true → k ≡ kinds.Str
is_string_is kinds.Str e = refl
is_string_is _ e = absurd (cc)

string_is : (ts us : List Token) → past_string ts ≡ Some us → (x : Token) × (x.kind ≡ kinds.Str) × (ts ≡ x ∷ us)
string_is [] us e = absurd (cc)
string_is (t ∷ ts) us e = go (is_string t.kind) refl e
  where
    go : (b : Bool) → is_string t.kind ≡ b → cond b (Some ts) None ≡ Some us → (x : Token) × (x.kind ≡ kinds.Str) × (t ∷ ts ≡ x ∷ us)
    go true h f = (t, is_string_is t.kind h, ap (λ y. t ∷ y) (same_some _ _ f))
    go false h f = absurd (cc)

pub attribute_sound : (d : Dialect) (s r : Option Tree) (ts us : List Token) → attribute_front d s ts ≡ Some (r, us) → Wrote (AttributeFits d) spell_attribute (attribute_says s) ts r us
attribute_sound d s r [] us e = absurd (cc)
attribute_sound d s r (t ∷ ts) us e =
    let (w, we, e1) = bind_some (attribute_of d t) _ _ e in
    go w we e1
  where
    go : (w : AttributeName) → attribute_of d t ≡ Some w → attribute_behind d s w ts ≡ Some (r, us) → Wrote (AttributeFits d) spell_attribute (attribute_says s) (t ∷ ts) r us
    go names.Dropped h f = record { item = Dropped t; fits = h; spelled = ap (λ y. t ∷ y) (same_rest _ _ _ _ f); means = ap Some (same_answer _ _ _ _ f) }
    go names.Target h f =
        let (vs, o, f1) = bind_some (past d Open ts) _ _ f in
        let (ws, x, f2) = bind_some (past_string vs) _ _ f1 in
        let (xs, c, f3) = bind_some (past d Close ws) _ _ f2 in
        let bracket = past_is d Open ts vs o in
        let string = string_is vs ws x in
        let close = past_is d Close ws xs c in
        record {
          item = Target t bracket.token string.0 close.token;
          fits = (h, bracket.is, string.1, close.is);
          spelled = ap (λ y. t ∷ y) (bracket.split ∙ ap (λ y. bracket.token ∷ y) (string.2 ∙ ap (λ y. string.0 ∷ y) (close.split ∙ ap (λ y. close.token ∷ y) (same_rest _ _ _ _ f3))));
          means = ap Some (same_answer _ _ _ _ f3);
        }
    go names.Aligned h f =
        let a = alignment_sound d s r ts us f in
        record {
          item = Aligned t a.bracket a.expression a.close;
          fits = (h, a.fits.0, a.fits.1, a.fits.2);
          spelled = ap (λ y. t ∷ y) a.spelled;
          means = a.means;
        }

-- one behind a comma
next_sound : {I A : Type 0} (d : Dialect) (fits : I → Type 0) (spell : I → List Token → List Token) (means : I → Option A) (ts us vs : List Token) (r : A) → past d Comma ts ≡ Some us →
    Wrote fits spell means us r vs → Wrote (NextFits d fits) (spell_next spell) (λ i. means i.1) ts r vs
next_sound d fits spell means ts us vs r e w =
    let comma = past_is d Comma ts us e in
    record { item = (comma.token, w.item); fits = (comma.is, w.fits); spelled = comma.split ∙ ap (λ y. comma.token ∷ y) w.spelled; means = w.means }

attributes_sound : (d : Dialect) (s r : Option Tree) (ts us : List Token) → attributes_front d s ts ≡ Some (r, us) →
    Wrote (Each (NextFits d (AttributeFits d))) (spell_each (spell_next spell_attribute)) (says_each (next_says attribute_says) s) ts r us
attributes_sound d s r ts us e =
    repeated_sound (past d Comma) (attribute_front d) (NextFits d (AttributeFits d)) (spell_next spell_attribute) (next_says attribute_says)
    (λ s r ts us vs o f. next_sound d (AttributeFits d) spell_attribute (attribute_says s) ts us vs r o (attribute_sound d s r us vs f)) s r ts us e

pub group_sound : (d : Dialect) (s r : Option Tree) (ts us vs : List Token) → past_test d is_attribute ts ≡ Some us → group_behind d s us ≡ Some (r, vs) → Wrote (GroupFits d) spell_group (group_says s) ts r vs
group_sound d s r ts us vs o e =
    let word = past_test_is d is_attribute ts us refl o in
    let (ws, p, e1) = bind_some (past d Open us) _ _ e in
    let (xs, q, e2) = bind_some (past d Open ws) _ _ e1 in
    let (a, ae, e3) = bind_some (attribute_front d s xs) _ _ e2 in
    let (b, be, e4) = bind_some (attributes_front d a.0 a.1) _ _ e3 in
    let (ys, c, e5) = bind_some (past d Close b.1) _ _ e4 in
    let (zs, g, e6) = bind_some (past d Close ys) _ _ e5 in
    let outer = past_is d Open us ws p in
    let inner = past_is d Open ws xs q in
    let first = attribute_sound d s a.0 xs a.1 ae in
    let others = attributes_sound d a.0 b.0 a.1 b.1 be in
    let inner_close = past_is d Close b.1 ys c in
    let outer_close = past_is d Close ys zs g in
    record {
      item = record { word = word.token; outer = outer.token; inner = inner.token; first = first.item; others = others.item; inner_close = inner_close.token; outer_close = outer_close.token };
      fits = (word.is, outer.is, inner.is, first.fits, others.fits, inner_close.is, outer_close.is);
      spelled =
          word.split ∙ ap (λ y. word.token ∷ y) (outer.split ∙ ap (λ y. outer.token ∷ y) (inner.split ∙ ap (λ y. inner.token ∷ y) (first.spelled ∙ ap (spell_attribute first.item)
          (others.spelled ∙ ap (spell_each (spell_next spell_attribute) others.item) (inner_close.split ∙ ap (λ y. inner_close.token ∷ y) (outer_close.split ∙ ap (λ y. outer_close.token ∷ y) (same_rest _ _ _ _ e6)))))));
      means = rw (first.means, others.means) (ap Some (same_answer _ _ _ _ e6));
    }

pub groups_sound : (d : Dialect) (s r : Option Tree) (ts us : List Token) → groups_front d s ts ≡ Some (r, us) → Wrote (Each (GroupFits d)) (spell_each spell_group) (says_each group_says s) ts r us
groups_sound d s r ts us e =
    repeated_sound (past_test d is_attribute) (group_behind d) (GroupFits d) spell_group group_says (λ s r ts us vs o f. group_sound d s r ts us vs o f) s r ts us e

with_alignment_is : (s r : Specification) (o : Option (Option Tree × List Token)) (us : List Token) → with_alignment s o ≡ Some (r, us) → (a : Option Tree) × (o ≡ Some (a, us)) × (record s { align = a } ≡ r)
with_alignment_is s r o us e =
    let (a, ae, e1) = bind_some o _ _ e in
    (a.0, ae ∙ ap (λ y. Some (a.0, y)) (same_rest _ _ _ _ e1), same_answer _ _ _ _ e1)

pub begun_is : (d : Dialect) (ts us : List Token) → begun d ts ≡ Some us → (begins_declaration (front d ts) ≡ true) × (ts ≡ us)
begun_is d ts us e = go (begins_declaration (front d ts)) refl e
  where
    go : (b : Bool) → begins_declaration (front d ts) ≡ b → cond b (Some ts) None ≡ Some us → (begins_declaration (front d ts) ≡ true) × (ts ≡ us)
    go true h f = (h, same_some _ _ f)
    go false h f = absurd (cc)

-- what says something by itself is a word that stands alone
word_alone : (s : Specification) (m : Symbol) (r : Specification) → word_says s m ≡ Some r → is_specifier m ≡ true
word_alone s (symbols.Type w) r e = refl
word_alone s symbols.Const r e = refl
word_alone s (symbols.Word keywords.Static) r e = refl
word_alone s (symbols.Word keywords.Inline) r e = refl
word_alone s (symbols.Word _) r e = absurd (cc)
word_alone s _ r e = absurd (cc)

word_sound : (d : Dialect) (s r : Specification) (ts us : List Token) → word_front d s ts ≡ Some (r, us) → Wrote (SpecifierFits d) spell_specifier (specifier_says d s) ts r us
word_sound d s r [] us e = absurd (cc)
word_sound d s r (t ∷ ts) us e =
    let w = with_rest_is (word_says s (symbol_of d t)) ts r us e in
    record { item = Word t; fits = word_alone s (symbol_of d t) r w.0; spelled = ap (λ y. t ∷ y) w.1; means = w.0 }

pub specifier_sound : (d : Dialect) (s r : Specification) (ts us : List Token) → specifier_front d s ts ≡ Some (r, us) → Wrote (SpecifierFits d) spell_specifier (specifier_says d s) ts r us
specifier_sound d s r ts us e =
    elim (or_else_cases (past_test d is_align_as ts) _ _ _ e) [
      | inl (vs, o, e1) ↦
          let word = past_test_is d is_align_as ts vs refl o in
          let (a, ae, last) = with_alignment_is s r (alignment_front d s.align vs) us e1 in
          let w = alignment_sound d s.align a vs us ae in
          record {
            item = AlignAs word.token w.bracket w.expression w.close;
            fits = (word.is, w.fits.0, w.fits.1, w.fits.2);
            spelled = word.split ∙ ap (λ y. word.token ∷ y) w.spelled;
            means = rw (w.means) (ap Some last);
          }
      | inr (o, e1) ↦ elim (or_else_cases (past_test d is_attribute ts) _ _ _ e1) [
        | inl (vs, o', e2) ↦
            let (a, ae, last) = with_alignment_is s r (group_behind d s.align vs) us e2 in
            let w = group_sound d s.align a ts vs us o' ae in
            record { item = Attributes w.item; fits = w.fits; spelled = w.spelled; means = rw (w.means) (ap Some last) }
        | inr (o', e2) ↦ word_sound d s r ts us e2
      ]
    ]

pub specifiers_sound : (d : Dialect) (s r : Specification) (ts us : List Token) → specifiers_front d s ts ≡ Some (r, us) → Wrote (Each (SpecifierFits d)) (spell_each spell_specifier) (says_each (specifier_says d) s) ts r us
specifiers_sound d s r ts us e =
    repeated_sound (begun d) (specifier_front d) (SpecifierFits d) spell_specifier (specifier_says d)
    (λ s r ts us vs o f. let b = begun_is d ts us o in specifier_sound d s r ts vs (ap (specifier_front d s) b.1 ∙ f)) s r ts us e

-- the qualifiers in front
record Qualifiers (d : Dialect) (constant : Bool) (ts : List Token) : Type 0 where
  all : List Token
  fits : Each (QualifierFits d) all
  spelled : ts ≡ all ++ (qualifiers_front d constant ts).1
  means : constant || list_any (λ q. is_const (symbol_of d q)) all ≡ (qualifiers_front d constant ts).0

or_joined : (a b c r : Bool) → (a || b) || c ≡ r → a || (b || c) ≡ r
or_joined true b c r e = e
or_joined false b c r e = e

or_false : (a : Bool) → a || false ≡ a
or_false true = refl
or_false false = refl

or_true : (a : Bool) → a || true ≡ true
or_true true = refl
or_true false = refl

qualify_is : (constant c : Bool) (m : Symbol) → qualify constant m ≡ Some c → (is_qualifier m ≡ true) × (constant || is_const m ≡ c)
qualify_is constant c symbols.Const e = (refl, or_true constant ∙ same_some _ _ e)
qualify_is constant c symbols.Restrict e = (refl, or_false constant ∙ same_some _ _ e)
qualify_is constant c _ e = absurd (cc)

qualifiers_sound : (d : Dialect) (constant : Bool) (ts : List Token) → Qualifiers d constant ts
qualifiers_sound d constant [] = record { all = []; fits = tt; spelled = refl; means = or_false constant }
qualifiers_sound d constant (t ∷ ts) = go (λ c. qualifiers_sound d c ts) (qualify constant (symbol_of d t)) refl
  where
    go : ((c : Bool) → Qualifiers d c ts) → (o : Option Bool) → qualify constant (symbol_of d t) ≡ o → Qualifiers d constant (t ∷ ts)
    go more (Some c) e =
        let h = qualify_is constant c (symbol_of d t) e in
        let w = more c in
        record {
          all = t ∷ w.all;
          fits = (h.0, w.fits);
          spelled = rw e (ap (λ y. t ∷ y) w.spelled);
          means = rw e (or_joined constant (is_const (symbol_of d t)) (list_any (λ q. is_const (symbol_of d q)) w.all) _ (ap (λ b. b || list_any (λ q. is_const (symbol_of d q)) w.all) h.1 ∙ w.means));
        }
    go more None e = record { all = []; fits = tt; spelled = rw e refl; means = rw e (or_false constant) }

pub record Pointed (d : Dialect) (ts : List Token) (r : Option Bool) (us : List Token) : Type 0 where
  pub item : Pointing
  pub fits : PointingFits d item
  pub spelled : ts ≡ spell_pointing item us
  pub means : pointing_says d item ≡ r

pub pointing_sound : (d : Dialect) (ts us : List Token) (r : Option Bool) → pointing_front d ts ≡ (r, us) → Pointed d ts r us
pointing_sound d ts us r e =
    elim (or_else_cases (past_test d is_star ts) _ _ _ e) [
      | inl (vs, o, e1) ↦
          let star = past_test_is d is_star ts vs refl o in
          let w = qualifiers_sound d false vs in
          let first : Some (qualifiers_front d false vs).0 ≡ r = ap (λ p. p.0) e1 in
          let rest : (qualifiers_front d false vs).1 ≡ us = ap (λ p. p.1) e1 in
          record {
            item = Star star.token w.all;
            fits = (star.is, w.fits);
            spelled = star.split ∙ ap (λ y. star.token ∷ y) (w.spelled ∙ ap (λ y. w.all ++ y) rest);
            means = ap Some w.means ∙ first;
          }
      | inr (o, e1) ↦ record { item = Direct; fits = tt; spelled = ap (λ p. p.1) e1; means = ap (λ p. p.0) e1 }
    ]

pub brackets_sound : (d : Dialect) (ts us : List Token) (r : Extent) → brackets_front d ts ≡ Some (r, us) → Wrote (BracketsFit d) spell_brackets (λ b. Some (brackets_say b)) ts r us
brackets_sound d ts us r e =
    elim (or_else_cases (past d OpenSquare ts) _ _ _ e) [
      | inl (vs, o, e1) ↦
          let bracket = past_is d OpenSquare ts vs o in
          elim (or_else_cases (past d CloseSquare vs) _ _ _ e1) [
            | inl (ws, c, e2) ↦
                let close = past_is d CloseSquare vs ws c in
                record {
                  item = Empty bracket.token close.token;
                  fits = (bracket.is, close.is);
                  spelled = bracket.split ∙ ap (λ y. bracket.token ∷ y) (close.split ∙ ap (λ y. close.token ∷ y) (same_rest _ _ _ _ e2));
                  means = ap Some (same_answer _ _ _ _ e2);
                }
            | inr (c, e2) ↦
                let (a, ae, e3) = bind_some (read d Assignment vs) _ _ e2 in
                let (ws, g, e4) = bind_some (past d CloseSquare a.1) _ _ e3 in
                let w = assigned d vs a.0 a.1 ae in
                let close = past_is d CloseSquare a.1 ws g in
                record {
                  item = Length bracket.token w.written close.token;
                  fits = (bracket.is, w.fits, close.is);
                  spelled = bracket.split ∙ ap (λ y. bracket.token ∷ y) (w.spelled ∙ ap (spell w.written) (close.split ∙ ap (λ y. close.token ∷ y) (same_rest _ _ _ _ e4)));
                  means = ap (λ y. Some (Bounded y)) w.means ∙ ap Some (same_answer _ _ _ _ e4);
                }
          ]
      | inr (o, e1) ↦ record { item = NoBrackets; fits = tt; spelled = same_rest _ _ _ _ e1; means = ap Some (same_answer _ _ _ _ e1) }
    ]

pub declarator_sound : (d : Dialect) (align : Option Tree) (ts us : List Token) (r : Declarator) → declarator_front d align ts ≡ Some (r, us) → Wrote (DeclaratorFits d) spell_declarator (declarator_says d align) ts r us
declarator_sound d align ts us r e =
    let (x, xe, e1) = bind_some (name_front d (pointing_front d ts).1) _ _ e in
    let (b, be, e2) = bind_some (brackets_front d x.1) _ _ e1 in
    let (a, ae, e3) = bind_some (groups_front d align b.1) _ _ e2 in
    let pointing = pointing_sound d ts (pointing_front d ts).1 (pointing_front d ts).0 refl in
    let name = name_is d (pointing_front d ts).1 x xe in
    let brackets = brackets_sound d x.1 b.1 b.0 be in
    let groups = groups_sound d align a.0 b.1 a.1 ae in
    record {
      item = record { pointing = pointing.item; name = x.0; brackets = brackets.item; groups = groups.item };
      fits = (pointing.fits, name.0, brackets.fits, groups.fits);
      spelled =
          pointing.spelled ∙ ap (spell_pointing pointing.item) (name.1 ∙ ap (λ y. x.0 ∷ y) (brackets.spelled ∙ ap (spell_brackets brackets.item)
          (groups.spelled ∙ ap (spell_each spell_group groups.item) (same_rest _ _ _ _ e3))));
      means = rw (groups.means, pointing.means, same_some _ _ brackets.means) (ap Some (same_answer _ _ _ _ e3));
    }

-- a row behind commas, whose parts are added one by one
record Row {I A : Type 0} (d : Dialect) (fits : I → Type 0) (spell : I → List Token → List Token) (means : I → Option A) (first : A) (ts : List Token) (all : List A) (us : List Token) : Type 0 where
  others : List (Token × I)
  fit : Each (NextFits d fits) others
  spelled : ts ≡ spell_each (spell_next spell) others us
  mean : (means_each (λ i. means i.1) others >>= λ xs. Some (first ∷ xs)) ≡ Some all

row_sound : {I A : Type 0} (d : Dialect) (test : List Token → Option (List Token)) (one : List Token → Option (A × List Token)) (fits : I → Type 0) (spell : I → List Token → List Token) (means : I → Option A) →
    ((ts us : List Token) → test ts ≡ Some us → past d Comma ts ≡ Some us) → ((ts us : List Token) (r : A) → one ts ≡ Some (r, us) → Wrote fits spell means ts r us) →
    (first : A) (ts us : List Token) (all : List A) → repeated test (λ s us. and_one s (one us)) (first ∷ []) ts ≡ Some (all, us) → Row d fits spell means first ts all us
row_sound {I = I} {A = A} d test one fits spell means comma sound first ts us all e =
    let w = repeated_sound test (λ s us. and_one s (one us)) (NextFits d fits) (spell_next spell) (λ (s : List A) (i : Token × I). means i.1 >>= λ x. Some (s ++ (x ∷ []))) step (first ∷ []) all ts us e in
    record { others = w.item; fit = w.fits; spelled = w.spelled; mean = sym (means_added (λ (i : Token × I). means i.1) w.item (first ∷ [])) ∙ w.means }
  where
    step : (s r : List A) (ts us vs : List Token) → test ts ≡ Some us → and_one s (one us) ≡ Some (r, vs) → Wrote (NextFits d fits) (spell_next spell) (λ (i : Token × I). means i.1 >>= λ x. Some (s ++ (x ∷ []))) ts r vs
    step s r ts us vs o f =
        let (x, xe, f1) = bind_some (one us) _ _ f in
        let n = next_sound d fits spell means ts us x.1 x.0 (comma ts us o) (sound us x.1 x.0 xe) in
        record { item = n.item; fits = n.fits; spelled = n.spelled ∙ ap (spell_next spell n.item) (same_rest _ _ _ _ f1); means = rw (n.means) (ap Some (same_answer _ _ _ _ f1)) }

-- a member of a list is behind a comma
pub past_member_is : (d : Dialect) (ts us : List Token) → past_member d ts ≡ Some us → past d Comma ts ≡ Some us
past_member_is d ts us e =
    let (vs, o, e1) = bind_some (past d Comma ts) _ _ e in
    o ∙ go vs (is_sign CloseBrace (front d vs)) e1
  where
    go : (vs : List Token) (b : Bool) → cond b None (Some vs) ≡ Some us → Some vs ≡ Some us
    go vs true f = absurd (cc)
    go vs false f = f

pub expression_sound : (d : Dialect) (ts us : List Token) (a : Tree) → read d Assignment ts ≡ Some (a, us) → Wrote (Fits d 1) spell (λ w. Some (tree w)) ts a us
expression_sound d ts us a e = let w = assigned d ts a us e in record { item = w.written; fits = w.fits; spelled = w.spelled; means = ap Some w.means }

members_sound : (d : Dialect) (first : Tree) (ts us : List Token) (all : List Tree) → members_front d (first ∷ []) ts ≡ Some (all, us) → Row d (Fits d 1) spell (λ w. Some (tree w)) first ts all us
members_sound d first ts us all e =
    row_sound d (past_member d) (read d Assignment) (Fits d 1) spell (λ w. Some (tree w)) (past_member_is d) (expression_sound d) first ts us all e

record Optional (d : Dialect) (ts us : List Token) : Type 0 where
  comma : Option Token
  fits : OptionalComma d comma
  spelled : ts ≡ spell_optional comma us

optional_sound : (d : Dialect) (ts : List Token) → Optional d ts (past_optional d ts)
optional_sound d ts = go (past d Comma ts) refl
  where
    go : (o : Option (List Token)) → past d Comma ts ≡ o → Optional d ts (past_optional d ts)
    go (Some us) e = let comma = past_is d Comma ts us e in record { comma = Some comma.token; fits = comma.is; spelled = rw e (comma.split) }
    go None e = record { comma = None; fits = tt; spelled = rw e refl }

initialiser_sound : (d : Dialect) (array : Bool) (ts us : List Token) (r : Initial) → initialiser_front d array ts ≡ Some (r, us) →
    Wrote (InitialiserFits d array) spell_initialiser (λ w. Some (initialiser_says w)) ts r us
initialiser_sound d array ts us r e =
    elim (or_else_cases (past_test d is_equals ts) _ _ _ e) [
      | inl (vs, o, e1) ↦ let equals = past_test_is d is_equals ts vs refl o in go array vs equals.token equals.is equals.split e1
      | inr (o, e1) ↦ record { item = NoInitialiser; fits = tt; spelled = same_rest _ _ _ _ e1; means = ap Some (same_answer _ _ _ _ e1) }
    ]
  where
    go : (b : Bool) (vs : List Token) (t : Token) → is_equals (symbol_of d t) ≡ true → ts ≡ t ∷ vs → initialiser_behind d b vs ≡ Some (r, us) →
        Wrote (InitialiserFits d b) spell_initialiser (λ w. Some (initialiser_says w)) ts r us
    go false vs t is split f =
        let (a, ae, f1) = bind_some (read d Assignment vs) _ _ f in
        let w = assigned d vs a.0 a.1 ae in
        record {
          item = Value t w.written;
          fits = (refl, is, w.fits);
          spelled = split ∙ ap (λ y. t ∷ y) (w.spelled ∙ ap (spell w.written) (same_rest _ _ _ _ f1));
          means = ap (λ y. Some (record { init = Some y; list = None })) w.means ∙ ap Some (same_answer _ _ _ _ f1);
        }
    go true vs t is split f =
        let (l, le, f1) = bind_some (list_front d vs) _ _ f in
        let (ws, o, f2) = bind_some (past d OpenBrace vs) _ _ le in
        let (a, ae, f3) = bind_some (read d Assignment ws) _ _ f2 in
        let (m, me, f4) = bind_some (members_front d (a.0 ∷ []) a.1) _ _ f3 in
        let (xs, c, f5) = bind_some (past d CloseBrace (past_optional d m.1)) _ _ f4 in
        let brace = past_is d OpenBrace vs ws o in
        let w = assigned d ws a.0 a.1 ae in
        let row = members_sound d a.0 a.1 m.1 m.0 me in
        let last = optional_sound d m.1 in
        let close = past_is d CloseBrace (past_optional d m.1) xs c in
        let listed : Some (a.0 ∷ map (λ (i : Token × Written). tree i.1) row.others) ≡ Some m.0 = rw (← ap (λ o. o >>= λ xs. Some (a.0 ∷ xs)) (means_map (λ (i : Token × Written). tree i.1) row.others)) row.mean in
        record {
          item = Values t brace.token w.written row.others last.comma close.token;
          fits = (refl, is, brace.is, w.fits, row.fit, last.fits, close.is);
          spelled =
              split ∙ ap (λ y. t ∷ y) (brace.split ∙ ap (λ y. brace.token ∷ y) (w.spelled ∙ ap (spell w.written) (row.spelled ∙ ap (spell_each (spell_next spell) row.others)
              (last.spelled ∙ ap (spell_optional last.comma) (close.split ∙ ap (λ y. close.token ∷ y) (same_rest _ _ _ _ f5 ∙ same_rest _ _ _ _ f1))))));
          means =
              ap (λ y. Some (record { init = None; list = Some (and_more (y ∷ map (λ (i : Token × Written). tree i.1) row.others) NoTrees) })) w.means
              ∙ ap (λ y. Some (record { init = None; list = Some (and_more y NoTrees) })) (same_some _ _ listed ∙ same_answer _ _ _ _ f5)
              ∙ ap Some (same_answer _ _ _ _ f1);
        }

pub initialised_sound : (d : Dialect) (s : Specification) (ts us : List Token) (r : Object) → initialised_front d s ts ≡ Some (r, us) → Wrote (ObjectFits d) spell_object (object_says d s) ts r us
initialised_sound d s ts us r e =
    let (x, xe, e1) = bind_some (declarator_front d s.align ts) _ _ e in
    let (i, ie, e2) = bind_some (initialiser_front d (is_array x.0.extent) x.1) _ _ e1 in
    let last = with_rest_is (object s x.0 i.0) i.1 r us e2 in
    let w = declarator_sound d s.align ts x.1 x.0 xe in
    let y = initialiser_sound d (is_array x.0.extent) x.1 i.1 i.0 ie in
    let (a, ae, said) = bind_some (says_each group_says s.align w.item.groups) _ _ w.means in
    let extent : brackets_say w.item.brackets ≡ x.0.extent = ap (λ (o : Option Declarator). or_else o (λ z. z.extent) Single) said in
    record {
      item = record { declarator = w.item; initialiser = y.item };
      fits = (w.fits, rw extent y.fits);
      spelled = w.spelled ∙ ap (spell_declarator w.item) (y.spelled ∙ ap (spell_initialiser y.item) last.1);
      means = rw (w.means, same_some _ _ y.means) last.0;
    }

pub declaration_sound : (d : Dialect) (ts us : List Token) (r : List Object) → declaration_front d ts ≡ Some (r, us) → Wrote (DeclarationFits d) spell_declaration (declaration_says d) ts r us
unfolding declaration_front
declaration_sound d ts us r e =
    let (q, qe, e1) = bind_some (specifiers_front d nothing_said ts) _ _ e in
    let (s, se, e2) = bind_some (plain q.0) _ _ e1 in
    let (o, oe, e3) = bind_some (initialised_front d s q.1) _ _ e2 in
    let (all, ae, e4) = bind_some (more_objects d s (o.0 ∷ []) o.1) _ _ e3 in
    let (vs, c, e5) = bind_some (past d Semicolon all.1) _ _ e4 in
    let specifiers = specifiers_sound d nothing_said q.0 ts q.1 qe in
    let first = initialised_sound d s q.1 o.1 o.0 oe in
    let row = row_sound d (past d Comma) (initialised_front d s) (ObjectFits d) spell_object (object_says d s) (λ ts us f. f) (initialised_sound d s) o.0 o.1 all.1 all.0 ae in
    let semicolon = past_is d Semicolon all.1 vs c in
    record {
      item = record { specifiers = specifiers.item; first = first.item; others = row.others; semicolon = semicolon.token };
      fits = (specifiers.fits, first.fits, row.fit, semicolon.is);
      spelled =
          specifiers.spelled ∙ ap (spell_each spell_specifier specifiers.item) (first.spelled ∙ ap (spell_object first.item) (row.spelled ∙ ap (spell_each (spell_next spell_object) row.others)
          (semicolon.split ∙ ap (λ y. semicolon.token ∷ y) (same_rest _ _ _ _ e5))));
      means = bind_to _ _ _ _ specifiers.means (bind_to _ _ _ _ se (bind_to _ _ _ _ first.means (row.mean ∙ ap Some (same_answer _ _ _ _ e5))));
    }

pub object_sound : (d : Dialect) (ts us : List Token) (r : Object × Bool) → object_front d ts ≡ Some (r, us) → Wrote (TableFits d) spell_table (table_says d) ts r us
unfolding object_front
object_sound d ts us r e =
    let (q, qe, e1) = bind_some (specifiers_front d nothing_said ts) _ _ e in
    let (s, se, e2) = bind_some (not_inline q.0) _ _ e1 in
    let (o, oe, e3) = bind_some (initialised_front d s q.1) _ _ e2 in
    let (vs, c, e4) = bind_some (past d Semicolon o.1) _ _ e3 in
    let last = with_rest_is (table s o.0) vs r us e4 in
    let specifiers = specifiers_sound d nothing_said q.0 ts q.1 qe in
    let only = initialised_sound d s q.1 o.1 o.0 oe in
    let semicolon = past_is d Semicolon o.1 vs c in
    record {
      item = record { specifiers = specifiers.item; only = only.item; semicolon = semicolon.token };
      fits = (specifiers.fits, only.fits, semicolon.is);
      spelled =
          specifiers.spelled ∙ ap (spell_each spell_specifier specifiers.item) (only.spelled ∙ ap (spell_object only.item) (semicolon.split ∙ ap (λ y. semicolon.token ∷ y) last.1));
      means = bind_to _ _ _ _ specifiers.means (bind_to _ _ _ _ se (bind_to _ _ _ _ only.means last.0));
    }

pub parameter_sound : (d : Dialect) (ts us : List Token) (r : Object) → parameter_front d ts ≡ Some (r, us) → Wrote (ParameterFits d) spell_parameter (parameter_says d) ts r us
parameter_sound d ts us r e =
    let (q, qe, e1) = bind_some (specifiers_front d nothing_said ts) _ _ e in
    let (s, se, e2) = bind_some (plain q.0) _ _ e1 in
    let (x, xe, e3) = bind_some (declarator_front d s.align q.1) _ _ e2 in
    let last = with_rest_is (parameter s.words x.0) x.1 r us e3 in
    let specifiers = specifiers_sound d nothing_said q.0 ts q.1 qe in
    let w = declarator_sound d s.align q.1 x.1 x.0 xe in
    record {
      item = record { specifiers = specifiers.item; declarator = w.item };
      fits = (specifiers.fits, w.fits);
      spelled = specifiers.spelled ∙ ap (spell_each spell_specifier specifiers.item) (w.spelled ∙ ap (spell_declarator w.item) last.1);
      means = bind_to _ _ _ _ specifiers.means (bind_to _ _ _ _ se (bind_to _ _ _ _ w.means last.0));
    }

pub parameters_sound : (d : Dialect) (ts us : List Token) (r : List Object) → parameters_front d ts ≡ Some (r, us) → Wrote (ParametersFit d) spell_parameters (parameters_say d) ts r us
parameters_sound d ts us r e =
    elim (or_else_cases (past d Close ts) _ _ _ e) [
      | inl (vs, o, e1) ↦
          let close = past_is d Close ts vs o in
          record { item = NoParameters close.token; fits = close.is; spelled = close.split ∙ ap (λ y. close.token ∷ y) (same_rest _ _ _ _ e1); means = ap Some (same_answer _ _ _ _ e1) }
      | inr (o, e1) ↦ elim (or_else_cases (past_void d ts) _ _ _ e1) [
        | inl (vs, p, e2) ↦
            let (ws, q, p1) = bind_some (past_test d is_void ts) _ _ p in
            let word = past_test_is d is_void ts ws refl q in
            let close = past_is d Close ws vs p1 in
            record {
              item = VoidParameters word.token close.token;
              fits = (word.is, close.is);
              spelled = word.split ∙ ap (λ y. word.token ∷ y) (close.split ∙ ap (λ y. close.token ∷ y) (same_rest _ _ _ _ e2));
              means = ap Some (same_answer _ _ _ _ e2);
            }
        | inr (p, e2) ↦
            let (x, xe, e3) = bind_some (parameter_front d ts) _ _ e2 in
            let (all, ae, e4) = bind_some (more_parameters d (x.0 ∷ []) x.1) _ _ e3 in
            let (vs, c, e5) = bind_some (past d Close all.1) _ _ e4 in
            let first = parameter_sound d ts x.1 x.0 xe in
            let row = row_sound d (past d Comma) (parameter_front d) (ParameterFits d) spell_parameter (parameter_says d) (λ ts us f. f) (parameter_sound d) x.0 x.1 all.1 all.0 ae in
            let close = past_is d Close all.1 vs c in
            record {
              item = SomeParameters first.item row.others close.token;
              fits = (first.fits, row.fit, close.is);
              spelled =
                  first.spelled ∙ ap (spell_parameter first.item) (row.spelled ∙ ap (spell_each (spell_next spell_parameter) row.others) (close.split ∙ ap (λ y. close.token ∷ y) (same_rest _ _ _ _ e5)));
              means = rw (first.means) (row.mean ∙ ap Some (same_answer _ _ _ _ e5));
            }
      ]
    ]

pub heading_sound : (d : Dialect) (ts us : List Token) (r : Definition) → heading_front d ts ≡ Some (r, us) → Wrote (HeadingFits d) spell_heading (heading_says d) ts r us
unfolding heading_front
heading_sound d ts us r e =
    let (s, se, e1) = bind_some (specifiers_front d nothing_said ts) _ _ e in
    let (x, xe, e2) = bind_some (name_front d (pointing_front d s.1).1) _ _ e1 in
    let (vs, o, e3) = bind_some (past d Open x.1) _ _ e2 in
    let (ps, pe, e4) = bind_some (parameters_front d vs) _ _ e3 in
    let (a, ae, e5) = bind_some (groups_front d s.0.align ps.1) _ _ e4 in
    let last = with_rest_is (heading s.0 (pointing_front d s.1).0 x.0 ps.0 a.0) a.1 r us e5 in
    let specifiers = specifiers_sound d nothing_said s.0 ts s.1 se in
    let pointing = pointing_sound d s.1 (pointing_front d s.1).1 (pointing_front d s.1).0 refl in
    let name = name_is d (pointing_front d s.1).1 x xe in
    let bracket = past_is d Open x.1 vs o in
    let params = parameters_sound d vs ps.1 ps.0 pe in
    let groups = groups_sound d s.0.align a.0 ps.1 a.1 ae in
    record {
      item = record { specifiers = specifiers.item; pointing = pointing.item; name = x.0; bracket = bracket.token; parameters = params.item; groups = groups.item };
      fits = (specifiers.fits, pointing.fits, name.0, bracket.is, params.fits, groups.fits);
      spelled =
          specifiers.spelled ∙ ap (spell_each spell_specifier specifiers.item) (pointing.spelled ∙ ap (spell_pointing pointing.item) (name.1 ∙ ap (λ y. x.0 ∷ y) (bracket.split ∙ ap (λ y. bracket.token ∷ y)
          (params.spelled ∙ ap (spell_parameters params.item) (groups.spelled ∙ ap (spell_each spell_group groups.item) last.1)))));
      means = rw (specifiers.means, params.means, groups.means, pointing.means) last.0;
    }
