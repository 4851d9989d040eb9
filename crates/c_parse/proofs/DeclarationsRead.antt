-- Declarations, headings and objects at file scope in front of other tokens: what is read there, and what they begin with.
use Rattle.std.proofs.Common.{◌≡◌, ◌↔◌, List, [], ◌∷◌, ◌++◌, Option, Some, None, refl, sym, ◌∙◌, ap, Bool, true, false}
use Rattle.c_text.specs.declared.tokens.Dialect.{Dialect}
use Rattle.c_text.specs.declared.tokens.Token.{Token}
use Rattle.c_tree.specs.Tree.{Object, Definition}
use Rattle.c_parse.specs.Reading.{front}
use Rattle.c_parse.specs.Objects.{begins_declaration, is_attribute}
use Rattle.c_parse.specs.Declarations.{spell_declaration, spell_heading, spell_table, IsDeclaration, IsHeading, IsObject}
use Rattle.c_parse.specs.DeclarationReading.{declaration_front, heading_front, object_front}
use Rattle.c_parse.proofs.Spelling.{declaration_more, heading_more, table_more}
use Rattle.c_parse.proofs.DeclarationsSound as sound
use Rattle.c_parse.proofs.DeclarationsWhole as whole

-- a declaration in front, and what is behind it
pub record DeclarationAt (d : Dialect) (ts : List Token) (os : List Object) (us : List Token) : Type 0 where
  pub words : List Token
  pub is : IsDeclaration d words os
  pub split : ts ≡ words ++ us

pub record HeadingAt (d : Dialect) (ts : List Token) (h : Definition) (us : List Token) : Type 0 where
  pub words : List Token
  pub is : IsHeading d words h
  pub split : ts ≡ words ++ us

pub record ObjectAt (d : Dialect) (ts : List Token) (x : Object × Bool) (us : List Token) : Type 0 where
  pub words : List Token
  pub is : IsObject d words x
  pub split : ts ≡ words ++ us

pub declaration_sound : (d : Dialect) (ts us : List Token) (os : List Object) → declaration_front d ts ≡ Some (os, us) → DeclarationAt d ts os us
declaration_sound d ts us os e =
    let w = sound.declaration_sound d ts us os e in
    record {
      words = spell_declaration w.item [];
      is = record { written = w.item; fits = w.fits; spelled = refl; means = w.means };
      split = w.spelled ∙ sym (declaration_more w.item us);
    }

pub declaration_complete : (d : Dialect) (words : List Token) (os : List Object) (rest : List Token) → IsDeclaration d words os → declaration_front d (words ++ rest) ≡ Some (os, rest)
declaration_complete d words os rest is =
    ap (λ w. declaration_front d (w ++ rest)) is.spelled ∙ ap (declaration_front d) (declaration_more is.written rest) ∙ whole.declaration_complete d is.written os rest is.fits is.means

-- what is read begins so
begins : {A : Type 0} (d : Dialect) (reads : List Token → Option A) → ((ts : List Token) → begins_declaration (front d ts) ≡ false → reads ts ≡ None) → (ts : List Token) (x : A) → reads ts ≡ Some x →
    begins_declaration (front d ts) ≡ true
begins {A} d reads none ts x e = go (begins_declaration (front d ts)) refl
  where
    go : (b : Bool) → begins_declaration (front d ts) ≡ b → begins_declaration (front d ts) ≡ true
    go true h = h
    go false h = let n = none ts h in absurd (cc)

pub declaration_begins : (d : Dialect) (words : List Token) (os : List Object) (rest : List Token) → IsDeclaration d words os → begins_declaration (front d (words ++ rest)) ≡ true
declaration_begins d words os rest is = begins d (declaration_front d) (whole.no_declaration d) (words ++ rest) (os, rest) (declaration_complete d words os rest is)

pub heading_sound : (d : Dialect) (ts us : List Token) (h : Definition) → heading_front d ts ≡ Some (h, us) → HeadingAt d ts h us
heading_sound d ts us h e =
    let w = sound.heading_sound d ts us h e in
    record {
      words = spell_heading w.item [];
      is = record { written = w.item; fits = w.fits; spelled = refl; means = w.means };
      split = w.spelled ∙ sym (heading_more w.item us);
    }

-- no attribute stands behind a heading that ends there
pub heading_complete : (d : Dialect) (words : List Token) (h : Definition) (rest : List Token) → IsHeading d words h → is_attribute (front d rest) ≡ false → heading_front d (words ++ rest) ≡ Some (h, rest)
heading_complete d words h rest is none =
    ap (λ w. heading_front d (w ++ rest)) is.spelled ∙ ap (heading_front d) (heading_more is.written rest) ∙ whole.heading_complete d is.written h rest is.fits none is.means

begins_more : (d : Dialect) (words rest : List Token) → begins_declaration (front d (words ++ [])) ≡ true → begins_declaration (front d (words ++ rest)) ≡ true
begins_more d [] rest e = absurd (cc)
begins_more d (t ∷ words) rest e = e

pub heading_begins : (d : Dialect) (words : List Token) (h : Definition) (rest : List Token) → IsHeading d words h → begins_declaration (front d (words ++ rest)) ≡ true
heading_begins d words h rest is = begins_more d words rest (begins d (heading_front d) (whole.no_heading d) (words ++ []) (h, []) (heading_complete d words h [] is refl))

pub object_sound : (d : Dialect) (ts us : List Token) (x : Object × Bool) → object_front d ts ≡ Some (x, us) → ObjectAt d ts x us
object_sound d ts us x e =
    let w = sound.object_sound d ts us x e in
    record {
      words = spell_table w.item [];
      is = record { written = w.item; fits = w.fits; spelled = refl; means = w.means };
      split = w.spelled ∙ sym (table_more w.item us);
    }

pub object_complete : (d : Dialect) (words : List Token) (x : Object × Bool) (rest : List Token) → IsObject d words x → object_front d (words ++ rest) ≡ Some (x, rest)
object_complete d words x rest is =
    ap (λ w. object_front d (w ++ rest)) is.spelled ∙ ap (object_front d) (table_more is.written rest) ∙ whole.object_complete d is.written x rest is.fits is.means

pub object_begins : (d : Dialect) (words : List Token) (x : Object × Bool) (rest : List Token) → IsObject d words x → begins_declaration (front d (words ++ rest)) ≡ true
object_begins d words x rest is = begins d (object_front d) (whole.no_table d) (words ++ rest) (x, rest) (object_complete d words x rest is)

-- an object begins with no heading
pub object_no_heading : (d : Dialect) (words : List Token) (x : Object × Bool) (rest : List Token) → IsObject d words x → heading_front d (words ++ rest) ≡ None
object_no_heading d words x rest is =
    ap (λ w. heading_front d (w ++ rest)) is.spelled ∙ ap (heading_front d) (table_more is.written rest) ∙ whole.object_no_heading d is.written x rest is.fits is.means

-- where nothing is left, the tokens are all of it
nothing_more : (w : List Token) → w ++ [] ≡ w
nothing_more [] = refl
nothing_more (t ∷ w) = ap (λ x. t ∷ x) (nothing_more w)

pub declarations_are_read : (d : Dialect) (ts : List Token) (os : List Object) → IsDeclaration d ts os ↔ (declaration_front d ts ≡ Some (os, []))
declarations_are_read d ts os = (
  (λ is. ap (declaration_front d) (sym (nothing_more ts)) ∙ declaration_complete d ts os [] is),
  (λ e. let w = declaration_sound d ts [] os e in let i = w.is in
      record { written = i.written; fits = i.fits; spelled = w.split ∙ nothing_more w.words ∙ i.spelled; means = i.means }),
)

pub headings_are_read : (d : Dialect) (ts : List Token) (h : Definition) → IsHeading d ts h ↔ (heading_front d ts ≡ Some (h, []))
headings_are_read d ts h = (
  (λ is. ap (heading_front d) (sym (nothing_more ts)) ∙ heading_complete d ts h [] is refl),
  (λ e. let w = heading_sound d ts [] h e in let i = w.is in
      record { written = i.written; fits = i.fits; spelled = w.split ∙ nothing_more w.words ∙ i.spelled; means = i.means }),
)

pub objects_are_read : (d : Dialect) (ts : List Token) (x : Object × Bool) → IsObject d ts x ↔ (object_front d ts ≡ Some (x, []))
objects_are_read d ts x = (
  (λ is. ap (object_front d) (sym (nothing_more ts)) ∙ object_complete d ts x [] is),
  (λ e. let w = object_sound d ts [] x e in let i = w.is in
      record { written = i.written; fits = i.fits; spelled = w.split ∙ nothing_more w.words ∙ i.spelled; means = i.means }),
)

pub declarations_begin : (d : Dialect) (ts : List Token) (os : List Object) → IsDeclaration d ts os → begins_declaration (front d ts) ≡ true
declarations_begin d ts os is = ap (λ w. begins_declaration (front d w)) (sym (nothing_more ts)) ∙ declaration_begins d ts os [] is
