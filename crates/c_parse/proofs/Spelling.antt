-- More tokens behind what is written.
use Rattle.std.proofs.Common.{◌≡◌, List, [], ◌∷◌, ◌++◌, Option, Some, None, refl, ◌∙◌, ap}
use Rattle.c_text.specs.declared.tokens.Token.{Token}
use Rattle.c_parse.specs.Grammar.{Written, Tail, Constant, Named, Bare, Call, Brackets, Index, After, Before, Prefix, SizeOfType, SizeOfName, SizeOfBracketed, Cast, Between, Choice, Assign, Pair, Half, End, Then, spell, spell_tail}
use Rattle.c_parse.specs.Repeated.{spell_each, spell_next}
use Rattle.c_parse.specs.Declarations.{Attribute, Dropped, Target, Aligned, spell_attribute, Group, spell_group, Specifier, Word, AlignAs, Attributes, spell_specifier, Pointing, Direct, Star, spell_pointing, Brackets as Squares, NoBrackets, Empty, Length, spell_brackets, WrittenDeclarator, spell_declarator, Initialiser, NoInitialiser, Value, Values, spell_optional, spell_initialiser, WrittenObject, spell_object, WrittenDeclaration, spell_declaration, WrittenTable, spell_table, WrittenParameter, spell_parameter, Parameters, NoParameters, VoidParameters, SomeParameters, spell_parameters, WrittenHeading, spell_heading}

joined : (u v w : List Token) → (u ++ v) ++ w ≡ u ++ (v ++ w)
joined [] v w = refl
joined (t ∷ u) v w = ap (λ x. t ∷ x) (joined u v w)

mutual
  pub spell_more : (c : Written) (ts us : List Token) → spell c ts ++ us ≡ spell c (ts ++ us)
  spell_more (Constant t c) ts us = refl
  spell_more (Named t) ts us = refl
  spell_more (Bare f o c) ts us = refl
  spell_more (Call f o a rest c) ts us = rw (spell_more a (spell_tail rest (c ∷ ts)) us, tail_more rest (c ∷ ts) us) refl
  spell_more (Brackets o a rest c) ts us = rw (spell_more a (spell_tail rest (c ∷ ts)) us, tail_more rest (c ∷ ts) us) refl
  spell_more (Index a o b rest c) ts us = rw (spell_more a (o ∷ spell b (spell_tail rest (c ∷ ts))) us, spell_more b (spell_tail rest (c ∷ ts)) us, tail_more rest (c ∷ ts) us) refl
  spell_more (After a t up) ts us = spell_more a (t ∷ ts) us
  spell_more (Before t up a) ts us = rw (spell_more a ts us) refl
  spell_more (Prefix t op a) ts us = rw (spell_more a ts us) refl
  spell_more (SizeOfType s o words ty c) ts us = rw (joined words (c ∷ ts) us) refl
  spell_more (SizeOfName s x) ts us = refl
  spell_more (SizeOfBracketed s o x c) ts us = refl
  spell_more (Cast o words ty c a) ts us = rw (joined words (c ∷ spell a ts) us, spell_more a ts us) refl
  spell_more (Between a t op b) ts us = rw (spell_more a (t ∷ spell b ts) us, spell_more b ts us) refl
  spell_more (Choice a q b rest c e) ts us =
      rw (spell_more a (q ∷ spell b (spell_tail rest (c ∷ spell e ts))) us, spell_more b (spell_tail rest (c ∷ spell e ts)) us, tail_more rest (c ∷ spell e ts) us, spell_more e ts us) refl
  spell_more (Assign a t op b) ts us = rw (spell_more a (t ∷ spell b ts) us, spell_more b ts us) refl
  spell_more (Pair o w c b1 b2 a m b e1 e2) ts us = rw (spell_more a (m ∷ spell b (e1 ∷ e2 ∷ ts)) us, spell_more b (e1 ∷ e2 ∷ ts) us) refl
  spell_more (Half a o v s n k c) ts us = spell_more a (o ∷ v ∷ s ∷ n ∷ c ∷ ts) us

  pub tail_more : (rest : Tail) (ts us : List Token) → spell_tail rest ts ++ us ≡ spell_tail rest (ts ++ us)
  tail_more End ts us = refl
  tail_more (Then t a rest) ts us = rw (spell_more a (spell_tail rest ts) us, tail_more rest ts us) refl

each_more : {I : Type 0} (spell : I → List Token → List Token) → ((i : I) (ts us : List Token) → spell i ts ++ us ≡ spell i (ts ++ us)) → (all : List I) (ts us : List Token) →
    spell_each spell all ts ++ us ≡ spell_each spell all (ts ++ us)
each_more spell h [] ts us = refl
each_more spell h (i ∷ all) ts us = h i (spell_each spell all ts) us ∙ ap (spell i) (each_more spell h all ts us)

next_more : {I : Type 0} (spell : I → List Token → List Token) → ((i : I) (ts us : List Token) → spell i ts ++ us ≡ spell i (ts ++ us)) → (i : Token × I) (ts us : List Token) →
    spell_next spell i ts ++ us ≡ spell_next spell i (ts ++ us)
next_more spell h i ts us = ap (λ x. i.0 ∷ x) (h i.1 ts us)

row_more : {I : Type 0} (spell : I → List Token → List Token) → ((i : I) (ts us : List Token) → spell i ts ++ us ≡ spell i (ts ++ us)) → (all : List (Token × I)) (ts us : List Token) →
    spell_each (spell_next spell) all ts ++ us ≡ spell_each (spell_next spell) all (ts ++ us)
row_more spell h all ts us = each_more (spell_next spell) (next_more spell h) all ts us

attribute_more : (w : Attribute) (ts us : List Token) → spell_attribute w ts ++ us ≡ spell_attribute w (ts ++ us)
attribute_more (Dropped t) ts us = refl
attribute_more (Target t o x c) ts us = refl
attribute_more (Aligned t o a c) ts us = rw (spell_more a (c ∷ ts) us) refl

group_more : (g : Group) (ts us : List Token) → spell_group g ts ++ us ≡ spell_group g (ts ++ us)
group_more g ts us =
    ap (λ x. g.word ∷ g.outer ∷ g.inner ∷ x)
    (attribute_more g.first (spell_each (spell_next spell_attribute) g.others (g.inner_close ∷ g.outer_close ∷ ts)) us
    ∙ ap (spell_attribute g.first) (row_more spell_attribute attribute_more g.others (g.inner_close ∷ g.outer_close ∷ ts) us))

specifier_more : (w : Specifier) (ts us : List Token) → spell_specifier w ts ++ us ≡ spell_specifier w (ts ++ us)
specifier_more (Word t) ts us = refl
specifier_more (AlignAs t o a c) ts us = rw (spell_more a (c ∷ ts) us) refl
specifier_more (Attributes g) ts us = group_more g ts us

pointing_more : (w : Pointing) (ts us : List Token) → spell_pointing w ts ++ us ≡ spell_pointing w (ts ++ us)
pointing_more Direct ts us = refl
pointing_more (Star t qualifiers) ts us = rw (joined qualifiers ts us) refl

brackets_more : (w : Squares) (ts us : List Token) → spell_brackets w ts ++ us ≡ spell_brackets w (ts ++ us)
brackets_more NoBrackets ts us = refl
brackets_more (Empty o c) ts us = refl
brackets_more (Length o a c) ts us = rw (spell_more a (c ∷ ts) us) refl

declarator_more : (w : WrittenDeclarator) (ts us : List Token) → spell_declarator w ts ++ us ≡ spell_declarator w (ts ++ us)
declarator_more w ts us =
    pointing_more w.pointing (w.name ∷ spell_brackets w.brackets (spell_each spell_group w.groups ts)) us
    ∙ ap (λ x. spell_pointing w.pointing (w.name ∷ x)) (brackets_more w.brackets (spell_each spell_group w.groups ts) us ∙ ap (spell_brackets w.brackets) (each_more spell_group group_more w.groups ts us))

optional_more : (w : Option Token) (ts us : List Token) → spell_optional w ts ++ us ≡ spell_optional w (ts ++ us)
optional_more None ts us = refl
optional_more (Some t) ts us = refl

initialiser_more : (w : Initialiser) (ts us : List Token) → spell_initialiser w ts ++ us ≡ spell_initialiser w (ts ++ us)
initialiser_more NoInitialiser ts us = refl
initialiser_more (Value e a) ts us = rw (spell_more a ts us) refl
initialiser_more (Values e o a others comma c) ts us =
    ap (λ x. e ∷ o ∷ x)
    (spell_more a (spell_each (spell_next spell) others (spell_optional comma (c ∷ ts))) us
    ∙ ap (spell a) (row_more spell spell_more others (spell_optional comma (c ∷ ts)) us ∙ ap (spell_each (spell_next spell) others) (optional_more comma (c ∷ ts) us)))

object_more : (w : WrittenObject) (ts us : List Token) → spell_object w ts ++ us ≡ spell_object w (ts ++ us)
object_more w ts us = declarator_more w.declarator (spell_initialiser w.initialiser ts) us ∙ ap (spell_declarator w.declarator) (initialiser_more w.initialiser ts us)

specifiers_more : (all : List Specifier) (ts us : List Token) → spell_each spell_specifier all ts ++ us ≡ spell_each spell_specifier all (ts ++ us)
specifiers_more all ts us = each_more spell_specifier specifier_more all ts us

pub declaration_more : (w : WrittenDeclaration) (us : List Token) → spell_declaration w [] ++ us ≡ spell_declaration w us
declaration_more w us =
    specifiers_more w.specifiers (spell_object w.first (spell_each (spell_next spell_object) w.others (w.semicolon ∷ []))) us
    ∙ ap (spell_each spell_specifier w.specifiers)
    (object_more w.first (spell_each (spell_next spell_object) w.others (w.semicolon ∷ [])) us ∙ ap (spell_object w.first) (row_more spell_object object_more w.others (w.semicolon ∷ []) us))

pub table_more : (w : WrittenTable) (us : List Token) → spell_table w [] ++ us ≡ spell_table w us
table_more w us = specifiers_more w.specifiers (spell_object w.only (w.semicolon ∷ [])) us ∙ ap (spell_each spell_specifier w.specifiers) (object_more w.only (w.semicolon ∷ []) us)

parameter_more : (w : WrittenParameter) (ts us : List Token) → spell_parameter w ts ++ us ≡ spell_parameter w (ts ++ us)
parameter_more w ts us = specifiers_more w.specifiers (spell_declarator w.declarator ts) us ∙ ap (spell_each spell_specifier w.specifiers) (declarator_more w.declarator ts us)

parameters_more : (w : Parameters) (ts us : List Token) → spell_parameters w ts ++ us ≡ spell_parameters w (ts ++ us)
parameters_more (NoParameters c) ts us = refl
parameters_more (VoidParameters t c) ts us = refl
parameters_more (SomeParameters p others c) ts us =
    parameter_more p (spell_each (spell_next spell_parameter) others (c ∷ ts)) us ∙ ap (spell_parameter p) (row_more spell_parameter parameter_more others (c ∷ ts) us)

pub heading_more : (w : WrittenHeading) (us : List Token) → spell_heading w [] ++ us ≡ spell_heading w us
heading_more w us =
    let ts : List Token = spell_each spell_group w.groups [] in
    specifiers_more w.specifiers (spell_pointing w.pointing (w.name ∷ w.bracket ∷ spell_parameters w.parameters ts)) us
    ∙ ap (spell_each spell_specifier w.specifiers)
    (pointing_more w.pointing (w.name ∷ w.bracket ∷ spell_parameters w.parameters ts) us
    ∙ ap (λ x. spell_pointing w.pointing (w.name ∷ w.bracket ∷ x)) (parameters_more w.parameters ts us ∙ ap (spell_parameters w.parameters) (each_more spell_group group_more w.groups [] us)))
