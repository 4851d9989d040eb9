-- The grammar of declarations (C11 6.7 and 6.9), with the attributes of GNU C: how each is written, and what it declares.
use Rattle.std.specs.Prelude.{◌≡◌, List, [], ◌∷◌, ◌++◌, map, Option, Some, None, Bool, true, false}
use Rattle.std.specs.List.{list_any}
use Rattle.c_text.specs.declared.tokens.Dialect.{Dialect}
use Rattle.c_text.specs.declared.tokens.Token.{Token}
use Rattle.c_text.specs.declared.tokens.TokenKind.TheVariants.{Str}
use Rattle.c_tree.specs.Tree.{Tree, NoTrees, Object, Definition}
use Rattle.c_tree.specs.View.{and_more}
use Rattle.c_parse.specs.declared.attribute_names.AttributeName.TheVariants as names
use Rattle.c_parse.specs.declared.symbols.Sign.TheVariants.{Open, Close, OpenSquare, CloseSquare, Comma, OpenBrace, CloseBrace, Semicolon}
use Rattle.c_parse.specs.Symbols.{symbol_of}
use Rattle.c_parse.specs.Reading.{◌>>=◌, is_qualifier, is_star}
use Rattle.c_parse.specs.Grammar.{Written, Is, IsName, Fits, spell, tree}
use Rattle.c_parse.specs.Repeated.{Each, spell_each, spell_next, says_each, means_each}
use Rattle.c_parse.specs.Objects.{attribute_of, is_specifier, is_align_as, is_attribute, is_const, is_void, is_equals, Specification, nothing_said, word_says, align_once, plain, not_inline, Extent, Single, Unbounded, Bounded, is_array, Declarator, Initial, no_initial, object, parameter, table, heading}

-- one of these behind a comma
abbrev pub NextFits : {I : Type 0} → Dialect → (I → Type 0) → Token × I → Type 0
NextFits d fits i = Is d Comma i.0 × fits i.1

abbrev pub next_says : {S I : Type 0} → (S → I → Option S) → S → Token × I → Option S
next_says say s i = say s i.1

-- An attribute: its name, then for `target` a string in brackets, and for `aligned` an expression in brackets.
pub data Attribute : Type 0 where
  Dropped : Token → Attribute
  Target : Token → Token → Token → Token → Attribute
  Aligned : Token → Token → Written → Token → Attribute

abbrev pub AttributeFits : Dialect → Attribute → Type 0
AttributeFits d (Dropped t) = attribute_of d t ≡ Some names.Dropped
AttributeFits d (Target t o x c) = (attribute_of d t ≡ Some names.Target) × Is d Open o × (x.kind ≡ Str) × Is d Close c
AttributeFits d (Aligned t o a c) = (attribute_of d t ≡ Some names.Aligned) × Is d Open o × Fits d 1 a × Is d Close c

abbrev pub spell_attribute : Attribute → List Token → List Token
spell_attribute (Dropped t) ts = t ∷ ts
spell_attribute (Target t o x c) ts = t ∷ o ∷ x ∷ c ∷ ts
spell_attribute (Aligned t o a c) ts = t ∷ o ∷ spell a (c ∷ ts)

-- the alignment of an object, after that which it has already
abbrev pub attribute_says : Option Tree → Attribute → Option (Option Tree)
attribute_says s (Dropped t) = Some s
attribute_says s (Target t o x c) = Some s
attribute_says s (Aligned t o a c) = align_once s (tree a)

-- `__attribute__`, and in two brackets one attribute or more
pub record Group : Type 0 where
  pub word : Token
  pub outer : Token
  pub inner : Token
  pub first : Attribute
  pub others : List (Token × Attribute)
  pub inner_close : Token
  pub outer_close : Token

abbrev pub GroupFits : Dialect → Group → Type 0
GroupFits d g =
    (is_attribute (symbol_of d g.word) ≡ true) × Is d Open g.outer × Is d Open g.inner ×
    AttributeFits d g.first × Each (NextFits d (AttributeFits d)) g.others × Is d Close g.inner_close × Is d Close g.outer_close

abbrev pub spell_group : Group → List Token → List Token
spell_group g ts =
    g.word ∷ g.outer ∷ g.inner ∷ spell_attribute g.first (spell_each (spell_next spell_attribute) g.others (g.inner_close ∷ g.outer_close ∷ ts))

abbrev pub group_says : Option Tree → Group → Option (Option Tree)
group_says s g = attribute_says s g.first >>= λ r. says_each (next_says attribute_says) r g.others

-- A specifier (C11 6.7p1): a word of a type, `const`, `static` or `inline`; an alignment `_Alignas ( A )`; or attributes.
pub data Specifier : Type 0 where
  Word : Token → Specifier
  AlignAs : Token → Token → Written → Token → Specifier
  Attributes : Group → Specifier

abbrev pub SpecifierFits : Dialect → Specifier → Type 0
SpecifierFits d (Word t) = is_specifier (symbol_of d t) ≡ true
SpecifierFits d (AlignAs t o a c) = (is_align_as (symbol_of d t) ≡ true) × Is d Open o × Fits d 1 a × Is d Close c
SpecifierFits d (Attributes g) = GroupFits d g

abbrev pub spell_specifier : Specifier → List Token → List Token
spell_specifier (Word t) ts = t ∷ ts
spell_specifier (AlignAs t o a c) ts = t ∷ o ∷ spell a (c ∷ ts)
spell_specifier (Attributes g) ts = spell_group g ts

abbrev pub with_align : Specification → Option (Option Tree) → Option Specification
with_align s a = a >>= λ b. Some (record s { align = b })

abbrev pub specifier_says : Dialect → Specification → Specifier → Option Specification
specifier_says d s (Word t) = word_says s (symbol_of d t)
specifier_says d s (AlignAs t o a c) = with_align s (align_once s.align (tree a))
specifier_says d s (Attributes g) = with_align s (group_says s.align g)

-- specifiers in any order
abbrev pub specifiers_say : Dialect → List Specifier → Option Specification
specifiers_say d all = says_each (specifier_says d) nothing_said all

-- a `*` with its qualifiers, or none (C11 6.7.6.1)
pub data Pointing : Type 0 where
  Direct : Pointing
  Star : Token → List Token → Pointing

abbrev pub QualifierFits : Dialect → Token → Type 0
QualifierFits d q = is_qualifier (symbol_of d q) ≡ true

abbrev pub PointingFits : Dialect → Pointing → Type 0
PointingFits d Direct = Unit {0}
PointingFits d (Star t qualifiers) = (is_star (symbol_of d t) ≡ true) × Each (QualifierFits d) qualifiers

abbrev pub spell_pointing : Pointing → List Token → List Token
spell_pointing Direct ts = ts
spell_pointing (Star t qualifiers) ts = t ∷ (qualifiers ++ ts)

-- with a `*`, whether the pointer is const
abbrev pub pointing_says : Dialect → Pointing → Option Bool
pointing_says d Direct = None
pointing_says d (Star t qualifiers) = Some (list_any (λ q. is_const (symbol_of d q)) qualifiers)

-- the brackets of an array, or none (C11 6.7.6.2)
pub data Brackets : Type 0 where
  NoBrackets : Brackets
  Empty : Token → Token → Brackets
  Length : Token → Written → Token → Brackets

abbrev pub BracketsFit : Dialect → Brackets → Type 0
BracketsFit d NoBrackets = Unit {0}
BracketsFit d (Empty o c) = Is d OpenSquare o × Is d CloseSquare c
BracketsFit d (Length o a c) = Is d OpenSquare o × Fits d 1 a × Is d CloseSquare c

abbrev pub spell_brackets : Brackets → List Token → List Token
spell_brackets NoBrackets ts = ts
spell_brackets (Empty o c) ts = o ∷ c ∷ ts
spell_brackets (Length o a c) ts = o ∷ spell a (c ∷ ts)

abbrev pub brackets_say : Brackets → Extent
brackets_say NoBrackets = Single
brackets_say (Empty o c) = Unbounded
brackets_say (Length o a c) = Bounded (tree a)

-- a declarator with the attributes behind it
pub record WrittenDeclarator : Type 0 where
  pub pointing : Pointing
  pub name : Token
  pub brackets : Brackets
  pub groups : List Group

abbrev pub DeclaratorFits : Dialect → WrittenDeclarator → Type 0
DeclaratorFits d w = PointingFits d w.pointing × IsName d w.name × BracketsFit d w.brackets × Each (GroupFits d) w.groups

abbrev pub spell_declarator : WrittenDeclarator → List Token → List Token
spell_declarator w ts = spell_pointing w.pointing (w.name ∷ spell_brackets w.brackets (spell_each spell_group w.groups ts))

-- what a declarator says behind specifiers with this alignment
abbrev pub declarator_says : Dialect → Option Tree → WrittenDeclarator → Option Declarator
declarator_says d align w =
    says_each group_says align w.groups >>= λ a. Some (record { star = pointing_says d w.pointing; place = w.name.place; name = w.name.text; extent = brackets_say w.brackets; align = a })

-- An initialiser, or none (C11 6.7.9): an expression, or a list of expressions with a comma behind the last one or without.
pub data Initialiser : Type 0 where
  NoInitialiser : Initialiser
  Value : Token → Written → Initialiser
  Values : Token → Token → Written → List (Token × Written) → Option Token → Token → Initialiser

abbrev pub OptionalComma : Dialect → Option Token → Type 0
OptionalComma d None = Unit {0}
OptionalComma d (Some t) = Is d Comma t

-- arrays have lists, and all other objects an expression
abbrev pub InitialiserFits : Dialect → Bool → Initialiser → Type 0
InitialiserFits d array NoInitialiser = Unit {0}
InitialiserFits d array (Value e a) = (array ≡ false) × (is_equals (symbol_of d e) ≡ true) × Fits d 1 a
InitialiserFits d array (Values e o a others comma c) =
    (array ≡ true) × (is_equals (symbol_of d e) ≡ true) × Is d OpenBrace o × Fits d 1 a × Each (NextFits d (Fits d 1)) others × OptionalComma d comma × Is d CloseBrace c

abbrev pub spell_optional : Option Token → List Token → List Token
spell_optional None ts = ts
spell_optional (Some t) ts = t ∷ ts

abbrev pub spell_initialiser : Initialiser → List Token → List Token
spell_initialiser NoInitialiser ts = ts
spell_initialiser (Value e a) ts = e ∷ spell a ts
spell_initialiser (Values e o a others comma c) ts = e ∷ o ∷ spell a (spell_each (spell_next spell) others (spell_optional comma (c ∷ ts)))

abbrev pub initialiser_says : Initialiser → Initial
initialiser_says NoInitialiser = no_initial
initialiser_says (Value e a) = record { init = Some (tree a); list = None }
initialiser_says (Values e o a others comma c) = record { init = None; list = Some (and_more (tree a ∷ map (λ x. tree x.1) others) NoTrees) }

-- a declarator with its initialiser
pub record WrittenObject : Type 0 where
  pub declarator : WrittenDeclarator
  pub initialiser : Initialiser

abbrev pub ObjectFits : Dialect → WrittenObject → Type 0
ObjectFits d w = DeclaratorFits d w.declarator × InitialiserFits d (is_array (brackets_say w.declarator.brackets)) w.initialiser

abbrev pub spell_object : WrittenObject → List Token → List Token
spell_object w ts = spell_declarator w.declarator (spell_initialiser w.initialiser ts)

abbrev pub object_says : Dialect → Specification → WrittenObject → Option Object
object_says d s w = declarator_says d s.align w.declarator >>= λ x. object s x (initialiser_says w.initialiser)

-- a declaration in a block
pub record WrittenDeclaration : Type 0 where
  pub specifiers : List Specifier
  pub first : WrittenObject
  pub others : List (Token × WrittenObject)
  pub semicolon : Token

abbrev pub DeclarationFits : Dialect → WrittenDeclaration → Type 0
DeclarationFits d w = Each (SpecifierFits d) w.specifiers × ObjectFits d w.first × Each (NextFits d (ObjectFits d)) w.others × Is d Semicolon w.semicolon

abbrev pub spell_declaration : WrittenDeclaration → List Token → List Token
spell_declaration w ts = spell_each spell_specifier w.specifiers (spell_object w.first (spell_each (spell_next spell_object) w.others (w.semicolon ∷ ts)))

abbrev pub declaration_says : Dialect → WrittenDeclaration → Option (List Object)
declaration_says d w =
    specifiers_say d w.specifiers >>= λ r. plain r >>= λ s. object_says d s w.first >>= λ o.
    means_each (λ x. object_says d s x.1) w.others >>= λ os. Some (o ∷ os)

-- an object at file scope
pub record WrittenTable : Type 0 where
  pub specifiers : List Specifier
  pub only : WrittenObject
  pub semicolon : Token

abbrev pub TableFits : Dialect → WrittenTable → Type 0
TableFits d w = Each (SpecifierFits d) w.specifiers × ObjectFits d w.only × Is d Semicolon w.semicolon

abbrev pub spell_table : WrittenTable → List Token → List Token
spell_table w ts = spell_each spell_specifier w.specifiers (spell_object w.only (w.semicolon ∷ ts))

abbrev pub table_says : Dialect → WrittenTable → Option (Object × Bool)
table_says d w = specifiers_say d w.specifiers >>= λ r. not_inline r >>= λ s. object_says d s w.only >>= λ o. table s o

-- a parameter
pub record WrittenParameter : Type 0 where
  pub specifiers : List Specifier
  pub declarator : WrittenDeclarator

abbrev pub ParameterFits : Dialect → WrittenParameter → Type 0
ParameterFits d w = Each (SpecifierFits d) w.specifiers × DeclaratorFits d w.declarator

abbrev pub spell_parameter : WrittenParameter → List Token → List Token
spell_parameter w ts = spell_each spell_specifier w.specifiers (spell_declarator w.declarator ts)

abbrev pub parameter_says : Dialect → WrittenParameter → Option Object
parameter_says d w = specifiers_say d w.specifiers >>= λ r. plain r >>= λ s. declarator_says d s.align w.declarator >>= λ x. parameter s.words x

-- what stands behind the bracket that opens a list of parameters: nothing, `void`, or parameters; and the closing bracket
pub data Parameters : Type 0 where
  NoParameters : Token → Parameters
  VoidParameters : Token → Token → Parameters
  SomeParameters : WrittenParameter → List (Token × WrittenParameter) → Token → Parameters

abbrev pub ParametersFit : Dialect → Parameters → Type 0
ParametersFit d (NoParameters c) = Is d Close c
ParametersFit d (VoidParameters t c) = (is_void (symbol_of d t) ≡ true) × Is d Close c
ParametersFit d (SomeParameters p others c) = ParameterFits d p × Each (NextFits d (ParameterFits d)) others × Is d Close c

abbrev pub spell_parameters : Parameters → List Token → List Token
spell_parameters (NoParameters c) ts = c ∷ ts
spell_parameters (VoidParameters t c) ts = t ∷ c ∷ ts
spell_parameters (SomeParameters p others c) ts = spell_parameter p (spell_each (spell_next spell_parameter) others (c ∷ ts))

abbrev pub parameters_say : Dialect → Parameters → Option (List Object)
parameters_say d (NoParameters c) = Some []
parameters_say d (VoidParameters t c) = Some []
parameters_say d (SomeParameters p others c) = parameter_says d p >>= λ x. means_each (λ i. parameter_says d i.1) others >>= λ xs. Some (x ∷ xs)

-- the heading of a function: all that stands before its body, or before the `;` of a prototype
pub record WrittenHeading : Type 0 where
  pub specifiers : List Specifier
  pub pointing : Pointing
  pub name : Token
  pub bracket : Token
  pub parameters : Parameters
  pub groups : List Group

abbrev pub HeadingFits : Dialect → WrittenHeading → Type 0
HeadingFits d w =
    Each (SpecifierFits d) w.specifiers × PointingFits d w.pointing × IsName d w.name × Is d Open w.bracket × ParametersFit d w.parameters × Each (GroupFits d) w.groups

abbrev pub spell_heading : WrittenHeading → List Token → List Token
spell_heading w ts =
    spell_each spell_specifier w.specifiers (spell_pointing w.pointing (w.name ∷ w.bracket ∷ spell_parameters w.parameters (spell_each spell_group w.groups ts)))

abbrev pub heading_says : Dialect → WrittenHeading → Option Definition
heading_says d w =
    specifiers_say d w.specifiers >>= λ s. parameters_say d w.parameters >>= λ params. says_each group_says s.align w.groups >>= λ align.
    heading s (pointing_says d w.pointing) w.name params align

-- these tokens are a declaration in a block, its `;` too, and these are the objects that it declares
pub record IsDeclaration (d : Dialect) (ts : List Token) (os : List Object) : Type 0 where
  pub written : WrittenDeclaration
  pub fits : DeclarationFits d written
  pub spelled : ts ≡ spell_declaration written []
  pub means : declaration_says d written ≡ Some os

-- these tokens are the heading of a function; it stands here with no body
pub record IsHeading (d : Dialect) (ts : List Token) (h : Definition) : Type 0 where
  pub written : WrittenHeading
  pub fits : HeadingFits d written
  pub spelled : ts ≡ spell_heading written []
  pub means : heading_says d written ≡ Some h

-- these tokens are an object at file scope, its `;` too; the truth value says whether it is `static`
pub record IsObject (d : Dialect) (ts : List Token) (o : Object × Bool) : Type 0 where
  pub written : WrittenTable
  pub fits : TableFits d written
  pub spelled : ts ≡ spell_table written []
  pub means : table_says d written ≡ Some o
