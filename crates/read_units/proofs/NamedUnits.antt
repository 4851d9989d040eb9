-- The names in declarations, statements and units of the grammar are names of C (C11 6.4.2.1), where those of their tokens are.
use Rattle.std.proofs.Common.{List, [], ◌∷◌, ◌++◌, map, Bool, true, false, cond, Option, Some, None, subst}
use Rattle.std.specs.Prelude.{is_some}
use Rattle.c_text.specs.declared.tokens.Dialect.TheVariants.{X86}
use Rattle.c_text.specs.declared.tokens.Token.{Token}
use Rattle.c_text.specs.Tokens.{AllNamed}
use Rattle.c_tree.specs.declared.types.CType.{CType}
use Rattle.c_tree.specs.Tree.{Tree, NoTrees, NoStatements, Object, Definition, External}
use Rattle.c_tree.specs.View.{and_more}
use Rattle.c_parse.specs.declared.symbols.Symbol.{Symbol}
use Rattle.c_parse.specs.declared.symbols.Symbol.TheVariants as symbols
use Rattle.c_parse.specs.declared.symbols.Word.TheVariants as keywords
use Rattle.c_parse.specs.declared.types.Specifiers.{Specifiers}
use Rattle.c_parse.specs.Symbols.{symbol_of}
use Rattle.c_parse.specs.Reading.{◌>>=◌, specify}
use Rattle.c_parse.specs.Grammar as Grammar
use Rattle.c_parse.specs.Grammar.{Written, IsName}
use Rattle.c_parse.specs.Repeated.{Each, spell_each, spell_next, says_each, means_each}
use Rattle.c_parse.specs.Objects.{Specification, nothing_said, word_says, align_once, is_plain, plain, not_inline, Single, length_of, Declarator, object_type, parameter_type, has_length, object, parameter, has_value, table, heading}
use Rattle.c_parse.specs.Declarations.{NextFits, next_says, Attribute, Dropped, Target, Aligned, AttributeFits, spell_attribute, attribute_says, Group, GroupFits, spell_group, group_says, Specifier, Word, AlignAs, Attributes, SpecifierFits, spell_specifier, with_align, specifier_says, specifiers_say}
use Rattle.c_parse.specs.Declarations.{Pointing, Direct, Star, spell_pointing, pointing_says, Brackets, NoBrackets, Empty, Length, BracketsFit, spell_brackets, brackets_say, WrittenDeclarator, DeclaratorFits, spell_declarator, declarator_says}
use Rattle.c_parse.specs.Declarations.{Initialiser, NoInitialiser, Value, Values, InitialiserFits, spell_optional, spell_initialiser, initialiser_says, WrittenObject, ObjectFits, spell_object, object_says, declaration_says, IsDeclaration, table_says, IsObject}
use Rattle.c_parse.specs.Declarations.{WrittenParameter, ParameterFits, spell_parameter, parameter_says, Parameters, NoParameters, VoidParameters, SomeParameters, ParametersFit, spell_parameters, parameters_say, heading_says, IsHeading}
use Rattle.c_parse.specs.Statements as forms
use Rattle.c_parse.specs.Statements.{Part, IsPart, spell_part, part_tree, Condition, IsCondition, spell_condition, Start, Declared, Started, IsStart, spell_start, start_tree, Turns, WrittenStatement, WrittenStatements}
use Rattle.c_parse.specs.Items as Items
use Rattle.c_parse.specs.Items.{Item, IsItem, spell_item, tree_items, with_body, IsUnit}
use Rattle.read_units.proofs.Names.{IsNamed, HasNames, AllHaveNames, PartHasNames, ListHasNames, ObjectHasNames, ObjectsHaveNames, ParametersHaveNames, OptionalHasNames, StatementHasNames, StatementsHaveNames, FunctionHasNames, UnitHasNames}
use Rattle.read_units.proofs.Answered.{Holds, bound, says_hold, means_hold}
use Rattle.read_units.proofs.NamedExpressions.{Told, token_named, behind_words, front_words, written_names, expression_names}

-- What is told of each one, with the tokens behind it.
each_told : {I : Type 0} (F N : I → Type 0) (spell : I → List Token → List Token) → ((i : I) → F i → (ts : List Token) → AllNamed (spell i ts) → Told (N i) ts) → (all : List I) → Each F all → (ts : List Token) → AllNamed (spell_each spell all ts) → Told (Each N all) ts
each_told F N spell one [] f ts h = (tt, h)
each_told F N spell one (i ∷ rest) f ts h =
    let x = one i f.0 (spell_each spell rest ts) h in
    let y = each_told F N spell one rest f.1 ts x.1 in
    ((x.0, y.0), y.1)

abbrev NextNamed : {I : Type 0} → (I → Type 0) → Token × I → Type 0
NextNamed N i = N i.1

next_told : {I : Type 0} (F N : I → Type 0) (spell : I → List Token → List Token) → ((i : I) → F i → (ts : List Token) → AllNamed (spell i ts) → Told (N i) ts) → (all : List (Token × I)) → Each (NextFits X86 F) all → (ts : List Token) → AllNamed (spell_each (spell_next spell) all ts) → Told (Each (NextNamed N) all) ts
next_told F N spell one all f ts h = each_told (NextFits X86 F) (NextNamed N) (spell_next spell) (λ i g us k. one i.1 g.1 us k.1) all f ts h

-- What is written has names: attributes, specifiers, declarators and initialisers.
abbrev AttributeNamed : Attribute → Type 0
AttributeNamed (Dropped t) = Unit {0}
AttributeNamed (Target t o x c) = Unit {0}
AttributeNamed (Aligned t o a c) = HasNames (Grammar.tree a)

abbrev GroupNamed : Group → Type 0
GroupNamed g = AttributeNamed g.first × Each (NextNamed AttributeNamed) g.others

abbrev SpecifierNamed : Specifier → Type 0
SpecifierNamed (Word t) = Unit {0}
SpecifierNamed (AlignAs t o a c) = HasNames (Grammar.tree a)
SpecifierNamed (Attributes g) = GroupNamed g

abbrev DeclaratorNamed : WrittenDeclarator → Type 0
DeclaratorNamed w = IsNamed w.name.text × PartHasNames (length_of (brackets_say w.brackets)) × Each GroupNamed w.groups

abbrev ValueNamed : Written → Type 0
ValueNamed a = HasNames (Grammar.tree a)

abbrev InitialiserNamed : Initialiser → Type 0
InitialiserNamed i = PartHasNames (initialiser_says i).init × ListHasNames (initialiser_says i).list

abbrev WrittenNamed : WrittenObject → Type 0
WrittenNamed w = DeclaratorNamed w.declarator × InitialiserNamed w.initialiser

abbrev ParameterNamed : WrittenParameter → Type 0
ParameterNamed w = Each SpecifierNamed w.specifiers × DeclaratorNamed w.declarator

abbrev NamedParameters : Parameters → Type 0
NamedParameters (NoParameters c) = Unit {0}
NamedParameters (VoidParameters t c) = Unit {0}
NamedParameters (SomeParameters p others c) = ParameterNamed p × Each (NextNamed ParameterNamed) others

value_told : (a : Written) → Grammar.Fits X86 1 a → (ts : List Token) → AllNamed (Grammar.spell a ts) → Told (ValueNamed a) ts
value_told a f ts h = written_names a 1 f ts h

attribute_told : (a : Attribute) → AttributeFits X86 a → (ts : List Token) → AllNamed (spell_attribute a ts) → Told (AttributeNamed a) ts
attribute_told (Dropped t) f ts h = (tt, h.1)
attribute_told (Target t o x c) f ts h = (tt, h.1.1.1.1)
attribute_told (Aligned t o a c) f ts h = let x = written_names a 1 f.2 (c ∷ ts) h.1.1 in (x.0, x.1.1)

group_told : (g : Group) → GroupFits X86 g → (ts : List Token) → AllNamed (spell_group g ts) → Told (GroupNamed g) ts
group_told g f ts h =
    let behind = g.inner_close ∷ g.outer_close ∷ ts in
    let x = attribute_told g.first f.3 (spell_each (spell_next spell_attribute) g.others behind) h.1.1.1 in
    let y = next_told (AttributeFits X86) AttributeNamed spell_attribute attribute_told g.others f.4 behind x.1 in
    ((x.0, y.0), y.1.1.1)

groups_told : (all : List Group) → Each (GroupFits X86) all → (ts : List Token) → AllNamed (spell_each spell_group all ts) → Told (Each GroupNamed all) ts
groups_told all f ts h = each_told (GroupFits X86) GroupNamed spell_group group_told all f ts h

specifier_told : (s : Specifier) → SpecifierFits X86 s → (ts : List Token) → AllNamed (spell_specifier s ts) → Told (SpecifierNamed s) ts
specifier_told (Word t) f ts h = (tt, h.1)
specifier_told (AlignAs t o a c) f ts h = let x = written_names a 1 f.2 (c ∷ ts) h.1.1 in (x.0, x.1.1)
specifier_told (Attributes g) f ts h = group_told g f ts h

specifiers_told : (all : List Specifier) → Each (SpecifierFits X86) all → (ts : List Token) → AllNamed (spell_each spell_specifier all ts) → Told (Each SpecifierNamed all) ts
specifiers_told all f ts h = each_told (SpecifierFits X86) SpecifierNamed spell_specifier specifier_told all f ts h

behind_pointing : (p : Pointing) (ts : List Token) → AllNamed (spell_pointing p ts) → AllNamed ts
behind_pointing Direct ts h = h
behind_pointing (Star t qualifiers) ts h = behind_words qualifiers ts h.1

brackets_told : (b : Brackets) → BracketsFit X86 b → (ts : List Token) → AllNamed (spell_brackets b ts) → Told (PartHasNames (length_of (brackets_say b))) ts
brackets_told NoBrackets f ts h = (tt, h)
brackets_told (Empty o c) f ts h = (tt, h.1.1)
brackets_told (Length o a c) f ts h = let x = written_names a 1 f.1 (c ∷ ts) h.1 in (x.0, x.1.1)

declarator_told : (w : WrittenDeclarator) → DeclaratorFits X86 w → (ts : List Token) → AllNamed (spell_declarator w ts) → Told (DeclaratorNamed w) ts
declarator_told w f ts h =
    let name = behind_pointing w.pointing (w.name ∷ spell_brackets w.brackets (spell_each spell_group w.groups ts)) h in
    let x = brackets_told w.brackets f.2 (spell_each spell_group w.groups ts) name.1 in
    let y = groups_told w.groups f.3 ts x.1 in
    ((token_named w.name f.1 name.0, x.0, y.0), y.1)

behind_optional : (o : Option Token) (ts : List Token) → AllNamed (spell_optional o ts) → AllNamed ts
behind_optional None ts h = h
behind_optional (Some t) ts h = h.1

values_named : (others : List (Token × Written)) → Each (NextNamed ValueNamed) others → AllHaveNames (and_more (map (λ x. Grammar.tree x.1) others) NoTrees)
values_named [] h = tt
values_named (x ∷ rest) h = (h.0, values_named rest h.1)

initialiser_told : (array : Bool) (i : Initialiser) → InitialiserFits X86 array i → (ts : List Token) → AllNamed (spell_initialiser i ts) → Told (InitialiserNamed i) ts
initialiser_told array NoInitialiser f ts h = ((tt, tt), h)
initialiser_told array (Value e a) f ts h = let x = written_names a 1 f.2 ts h.1 in ((x.0, tt), x.1)
initialiser_told array (Values e o a others comma c) f ts h =
    let behind = spell_optional comma (c ∷ ts) in
    let x = written_names a 1 f.3 (spell_each (spell_next Grammar.spell) others behind) h.1.1 in
    let y = next_told (Grammar.Fits X86 1) ValueNamed Grammar.spell value_told others f.4 behind x.1 in
    ((tt, (x.0, values_named others y.0)), (behind_optional comma (c ∷ ts) y.1).1)

written_told : (w : WrittenObject) → ObjectFits X86 w → (ts : List Token) → AllNamed (spell_object w ts) → Told (WrittenNamed w) ts
written_told w f ts h =
    let x = declarator_told w.declarator f.0 (spell_initialiser w.initialiser ts) h in
    let y = initialiser_told _ w.initialiser f.1 ts x.1 in
    ((x.0, y.0), y.1)

parameter_told : (w : WrittenParameter) → ParameterFits X86 w → (ts : List Token) → AllNamed (spell_parameter w ts) → Told (ParameterNamed w) ts
parameter_told w f ts h =
    let x = specifiers_told w.specifiers f.0 (spell_declarator w.declarator ts) h in
    let y = declarator_told w.declarator f.1 ts x.1 in
    ((x.0, y.0), y.1)

parameters_told : (w : Parameters) → ParametersFit X86 w → (ts : List Token) → AllNamed (spell_parameters w ts) → Told (NamedParameters w) ts
parameters_told (NoParameters c) f ts h = (tt, h.1)
parameters_told (VoidParameters t c) f ts h = (tt, h.1.1)
parameters_told (SomeParameters p others c) f ts h =
    let x = parameter_told p f.0 (spell_each (spell_next spell_parameter) others (c ∷ ts)) h in
    let y = next_told (ParameterFits X86) ParameterNamed spell_parameter parameter_told others f.1 (c ∷ ts) x.1 in
    ((x.0, y.0), y.1.1)

-- What it says has these names.
once_named : (s : Option Tree) (a : Tree) → HasNames a → Holds PartHasNames (align_once s a)
once_named None a h = h
once_named (Some b) a h = tt

attribute_named : (s : Option Tree) (a : Attribute) → PartHasNames s → AttributeNamed a → Holds PartHasNames (attribute_says s a)
attribute_named s (Dropped t) h n = h
attribute_named s (Target t o x c) h n = h
attribute_named s (Aligned t o a c) h n = once_named s (Grammar.tree a) n

group_named : (s : Option Tree) (g : Group) → PartHasNames s → GroupNamed g → Holds PartHasNames (group_says s g)
group_named s g h n =
    bound PartHasNames PartHasNames (attribute_says s g.first) (λ r. says_each (next_says attribute_says) r g.others) (attribute_named s g.first h n.0)
    (λ r k. says_hold PartHasNames (NextNamed AttributeNamed) (next_says attribute_says) (λ s i h m. attribute_named s i.1 h m) g.others r k n.1)

abbrev AlignNamed : Specification → Type 0
AlignNamed s = PartHasNames s.align

words_named : (s : Specification) (o : Option Specifiers) → AlignNamed s → Holds AlignNamed (o >>= λ w. Some (record s { words = w }))
words_named s None h = tt
words_named s (Some r) h = h

static_named : (s : Specification) (b : Bool) → AlignNamed s → Holds AlignNamed (cond b None (Some (record s { is_static = true })))
static_named s true h = tt
static_named s false h = h

word_named : (s : Specification) (m : Symbol) → AlignNamed s → Holds AlignNamed (word_says s m)
word_named s (symbols.Sign x) h = tt
word_named s (symbols.Infix op) h = tt
word_named s (symbols.Assign op) h = tt
word_named s (symbols.Step up) h = tt
word_named s symbols.Tilde h = tt
word_named s symbols.Exclamation h = tt
word_named s (symbols.Type w) h = words_named s (specify s.words (symbols.Type w)) h
word_named s symbols.Const h = h
word_named s symbols.Restrict h = tt
word_named s (symbols.Word keywords.Static) h = static_named s s.is_static h
word_named s (symbols.Word keywords.Inline) h = h
word_named s (symbols.Word keywords.If) h = tt
word_named s (symbols.Word keywords.Else) h = tt
word_named s (symbols.Word keywords.While) h = tt
word_named s (symbols.Word keywords.Do) h = tt
word_named s (symbols.Word keywords.For) h = tt
word_named s (symbols.Word keywords.Break) h = tt
word_named s (symbols.Word keywords.Continue) h = tt
word_named s (symbols.Word keywords.Return) h = tt
word_named s (symbols.Word keywords.AlignAs) h = tt
word_named s (symbols.Word keywords.Attribute) h = tt
word_named s symbols.Name h = tt
word_named s symbols.Constant h = tt
word_named s symbols.Other h = tt

align_named : (s : Specification) (a : Option (Option Tree)) → Holds PartHasNames a → Holds AlignNamed (with_align s a)
align_named s None h = tt
align_named s (Some a) h = h

specifier_named : (s : Specification) (x : Specifier) → AlignNamed s → SpecifierNamed x → Holds AlignNamed (specifier_says X86 s x)
specifier_named s (Word t) h n = word_named s (symbol_of X86 t) h
specifier_named s (AlignAs t o a c) h n = align_named s (align_once s.align (Grammar.tree a)) (once_named s.align (Grammar.tree a) n)
specifier_named s (Attributes g) h n = align_named s (group_says s.align g) (group_named s.align g h n)

specifiers_named : (all : List Specifier) → Each SpecifierNamed all → Holds AlignNamed (specifiers_say X86 all)
specifiers_named all n = says_hold AlignNamed SpecifierNamed (specifier_says X86) specifier_named all nothing_said tt n

plain_named : (s : Specification) → AlignNamed s → Holds AlignNamed (plain s)
plain_named s h = go (is_plain s)
  where
    go : (b : Bool) → Holds AlignNamed (cond b (Some s) None)
    go true = h
    go false = tt

not_inline_named : (s : Specification) → AlignNamed s → Holds AlignNamed (not_inline s)
not_inline_named s h = go s.is_inline
  where
    go : (b : Bool) → Holds AlignNamed (cond b None (Some s))
    go true = tt
    go false = h

record DeclaratorHasNames (x : Declarator) : Type 0 where
  name : IsNamed x.name
  length : PartHasNames (length_of x.extent)
  align : PartHasNames x.align

declarator_named : (align : Option Tree) (w : WrittenDeclarator) → PartHasNames align → DeclaratorNamed w → Holds DeclaratorHasNames (declarator_says X86 align w)
declarator_named align w h n =
    bound PartHasNames DeclaratorHasNames (says_each group_says align w.groups) (λ a. Some (record { star = pointing_says X86 w.pointing; place = w.name.place; name = w.name.text; extent = brackets_say w.brackets; align = a }))
    (says_hold PartHasNames GroupNamed group_says group_named w.groups align h n.2)
    (λ a k. record { name = n.0; length = n.1; align = k })

-- Objects.
object_named : (s : Specification) (x : Declarator) (i : Initialiser) → DeclaratorHasNames x → InitialiserNamed i → Holds ObjectHasNames (object s x (initialiser_says i))
object_named s x i d n = go (has_length x.extent (initialiser_says i).list) (object_type s.words x.star x.extent)
  where
    go : (b : Bool) (o : Option (CType × Bool)) → Holds ObjectHasNames (cond b (o >>= λ t. Some (record { place = x.place; name = x.name; ty = t.0; length = length_of x.extent; constant = t.1; align = x.align; align_first = is_some s.align; init = (initialiser_says i).init; list = (initialiser_says i).list })) None)
    go true None = tt
    go true (Some t) = record { name = d.name; length = d.length; align = d.align; init = n.0; list = n.1 }
    go false o = tt

written_object_named : (s : Specification) (w : WrittenObject) → AlignNamed s → WrittenNamed w → Holds ObjectHasNames (object_says X86 s w)
written_object_named s w h n =
    bound DeclaratorHasNames ObjectHasNames (declarator_says X86 s.align w.declarator) (λ x. object s x (initialiser_says w.initialiser)) (declarator_named s.align w.declarator h n.0)
    (λ x d. object_named s x w.initialiser d n.1)

objects_named : (os : List Object) → Each ObjectHasNames os → ObjectsHaveNames os
objects_named [] h = tt
objects_named (o ∷ os) h = (h.0, objects_named os h.1)

pub declaration_names : (ts : List Token) (os : List Object) → IsDeclaration X86 ts os → AllNamed ts → ObjectsHaveNames os
declaration_names ts os d h = subst (Holds ObjectsHaveNames) d.means says
  where
    named : Each SpecifierNamed d.written.specifiers × WrittenNamed d.written.first × Each (NextNamed WrittenNamed) d.written.others
    named =
        let behind = spell_each (spell_next spell_object) d.written.others (d.written.semicolon ∷ []) in
        let x = specifiers_told d.written.specifiers d.fits.0 (spell_object d.written.first behind) (subst AllNamed d.spelled h) in
        let y = written_told d.written.first d.fits.1 behind x.1 in
        let z = next_told (ObjectFits X86) WrittenNamed spell_object written_told d.written.others d.fits.2 (d.written.semicolon ∷ []) y.1 in
        (x.0, y.0, z.0)

    behind : (s : Specification) (o : Object) → AlignNamed s → ObjectHasNames o → Holds ObjectsHaveNames (means_each (λ x. object_says X86 s x.1) d.written.others >>= λ os. Some (o ∷ os))
    behind s o a k =
        bound (Each ObjectHasNames) ObjectsHaveNames (means_each (λ x. object_says X86 s x.1) d.written.others) (λ os. Some (o ∷ os))
        (means_hold (NextNamed WrittenNamed) ObjectHasNames (λ x. object_says X86 s x.1) (λ x n. written_object_named s x.1 a n) d.written.others named.2)
        (λ os ks. (k, objects_named os ks))

    first : (s : Specification) → AlignNamed s → Holds ObjectsHaveNames (object_says X86 s d.written.first >>= λ o. means_each (λ x. object_says X86 s x.1) d.written.others >>= λ os. Some (o ∷ os))
    first s a = bound ObjectHasNames ObjectsHaveNames (object_says X86 s d.written.first) (λ o. means_each (λ x. object_says X86 s x.1) d.written.others >>= λ os. Some (o ∷ os)) (written_object_named s d.written.first a named.1) (λ o k. behind s o a k)

    says : Holds ObjectsHaveNames (declaration_says X86 d.written)
    says =
        bound AlignNamed ObjectsHaveNames (specifiers_say X86 d.written.specifiers) (λ r. plain r >>= λ s. object_says X86 s d.written.first >>= λ o. means_each (λ x. object_says X86 s x.1) d.written.others >>= λ os. Some (o ∷ os))
        (specifiers_named d.written.specifiers named.0)
        (λ r a. bound AlignNamed ObjectsHaveNames (plain r) (λ s. object_says X86 s d.written.first >>= λ o. means_each (λ x. object_says X86 s x.1) d.written.others >>= λ os. Some (o ∷ os)) (plain_named r a) first)

-- Objects at file scope.
abbrev TableHasNames : Object × Bool → Type 0
TableHasNames x = ObjectHasNames x.0

table_named : (s : Specification) (o : Object) → ObjectHasNames o → Holds TableHasNames (table s o)
table_named s o h = go (has_value o)
  where
    go : (b : Bool) → Holds TableHasNames (cond b (Some (o, s.is_static)) None)
    go true = h
    go false = tt

table_names : (ts : List Token) (o : Object) (is_static : Bool) → IsObject X86 ts (o, is_static) → AllNamed ts → ObjectHasNames o
table_names ts o is_static d h = subst (Holds TableHasNames) d.means says
  where
    named : Each SpecifierNamed d.written.specifiers × WrittenNamed d.written.only
    named =
        let behind = d.written.semicolon ∷ [] in
        let x = specifiers_told d.written.specifiers d.fits.0 (spell_object d.written.only behind) (subst AllNamed d.spelled h) in
        let y = written_told d.written.only d.fits.1 behind x.1 in
        (x.0, y.0)

    says : Holds TableHasNames (table_says X86 d.written)
    says =
        bound AlignNamed TableHasNames (specifiers_say X86 d.written.specifiers) (λ r. not_inline r >>= λ s. object_says X86 s d.written.only >>= λ o. table s o) (specifiers_named d.written.specifiers named.0)
        (λ r a. bound AlignNamed TableHasNames (not_inline r) (λ s. object_says X86 s d.written.only >>= λ o. table s o) (not_inline_named r a)
        (λ s k. bound ObjectHasNames TableHasNames (object_says X86 s d.written.only) (λ o. table s o) (written_object_named s d.written.only k named.1) (λ o g. table_named s o g)))

-- Parameters.
abbrev NameIsNamed : Object → Type 0
NameIsNamed o = IsNamed o.name

parameter_named : (s : Specification) (x : Declarator) → IsNamed x.name → Holds NameIsNamed (parameter s.words x)
parameter_named s x n = go (is_some x.align) (parameter_type s.words x.star x.extent)
  where
    go : (b : Bool) (o : Option (CType × Bool)) → Holds NameIsNamed (cond b None (o >>= λ t. Some (record { place = x.place; name = x.name; ty = t.0; length = length_of x.extent; constant = t.1; align = None; align_first = false; init = None; list = None })))
    go true o = tt
    go false None = tt
    go false (Some t) = n

one_named : (w : WrittenParameter) → ParameterNamed w → Holds NameIsNamed (parameter_says X86 w)
one_named w n =
    bound AlignNamed NameIsNamed (specifiers_say X86 w.specifiers) (λ r. plain r >>= λ s. declarator_says X86 s.align w.declarator >>= λ x. parameter s.words x) (specifiers_named w.specifiers n.0)
    (λ r a. bound AlignNamed NameIsNamed (plain r) (λ s. declarator_says X86 s.align w.declarator >>= λ x. parameter s.words x) (plain_named r a)
    (λ s k. bound DeclaratorHasNames NameIsNamed (declarator_says X86 s.align w.declarator) (λ x. parameter s.words x) (declarator_named s.align w.declarator k n.1) (λ x d. parameter_named s x d.name)))

all_named : (os : List Object) → Each NameIsNamed os → ParametersHaveNames os
all_named [] h = tt
all_named (o ∷ os) h = (h.0, all_named os h.1)

parameters_named : (w : Parameters) → NamedParameters w → Holds ParametersHaveNames (parameters_say X86 w)
parameters_named (NoParameters c) n = tt
parameters_named (VoidParameters t c) n = tt
parameters_named (SomeParameters p others c) n =
    bound NameIsNamed ParametersHaveNames (parameter_says X86 p) (λ x. means_each (λ i. parameter_says X86 i.1) others >>= λ xs. Some (x ∷ xs)) (one_named p n.0)
    (λ x k. bound (Each NameIsNamed) ParametersHaveNames (means_each (λ i. parameter_says X86 i.1) others) (λ xs. Some (x ∷ xs))
    (means_hold (NextNamed ParameterNamed) NameIsNamed (λ i. parameter_says X86 i.1) (λ i m. one_named i.1 m) others n.1) (λ xs ks. (k, all_named xs ks)))

-- Headings of functions.
record HeadingNames (f : Definition) : Type 0 where
  name : IsNamed f.name
  params : ParametersHaveNames f.params

heading_named : (s : Specification) (star : Option Bool) (t : Token) (params : List Object) (align : Option Tree) → IsNamed t.text → ParametersHaveNames params → Holds HeadingNames (heading s star t params align)
heading_named s star t params (Some a) n k = tt
heading_named s star t params None n k = go (object_type s.words star Single)
  where
    go : (o : Option (CType × Bool)) → Holds HeadingNames (o >>= λ r. Some (record { place = t.place; name = t.text; result = r.0; params = params; is_static = s.is_static; is_inline = s.is_inline; body = NoStatements }))
    go None = tt
    go (Some r) = record { name = n; params = k }

heading_names : (ts : List Token) (f : Definition) → IsHeading X86 ts f → AllNamed ts → HeadingNames f
heading_names ts f d h = subst (Holds HeadingNames) d.means says
  where
    named : Each SpecifierNamed d.written.specifiers × IsNamed d.written.name.text × NamedParameters d.written.parameters
    named =
        let behind = spell_each spell_group d.written.groups [] in
        let words = d.written.name ∷ d.written.bracket ∷ spell_parameters d.written.parameters behind in
        let x = specifiers_told d.written.specifiers d.fits.0 (spell_pointing d.written.pointing words) (subst AllNamed d.spelled h) in
        let y = behind_pointing d.written.pointing words x.1 in
        let z = parameters_told d.written.parameters d.fits.4 behind y.1.1 in
        (x.0, token_named d.written.name d.fits.2 y.0, z.0)

    last : Specification → List Object → Option Tree → Option Definition
    last s params align = heading s (pointing_says X86 d.written.pointing) d.written.name params align

    aligned : (s : Specification) (params : List Object) → ParametersHaveNames params → Holds HeadingNames (says_each group_says s.align d.written.groups >>= λ align. last s params align)
    aligned s params k = go (says_each group_says s.align d.written.groups)
      where
        go : (o : Option (Option Tree)) → Holds HeadingNames (o >>= λ align. last s params align)
        go None = tt
        go (Some align) = heading_named s (pointing_says X86 d.written.pointing) d.written.name params align named.1 k

    says : Holds HeadingNames (heading_says X86 d.written)
    says =
        bound AlignNamed HeadingNames (specifiers_say X86 d.written.specifiers) (λ s. parameters_say X86 d.written.parameters >>= λ params. says_each group_says s.align d.written.groups >>= λ align. last s params align)
        (specifiers_named d.written.specifiers named.0)
        (λ s a. bound ParametersHaveNames HeadingNames (parameters_say X86 d.written.parameters) (λ params. says_each group_says s.align d.written.groups >>= λ align. last s params align) (parameters_named d.written.parameters named.2) (λ params k. aligned s params k))

-- Statements, with the tokens behind them.
words_told : (N : Type 0) (words ts : List Token) → (AllNamed words → N) → AllNamed (words ++ ts) → Told N ts
words_told N words ts names h = (names (front_words words ts h), behind_words words ts h)

part_told : (p : Part) → IsPart X86 p → (ts : List Token) → AllNamed (spell_part p ts) → Told (PartHasNames (part_tree p)) ts
part_told None f ts h = (tt, h)
part_told (Some x) f ts h = words_told (HasNames x.1) x.0 ts (expression_names x.0 x.1 f) h

condition_told : (c : Condition) → IsCondition X86 c → (ts : List Token) → AllNamed (spell_condition c ts) → Told (HasNames c.test) ts
condition_told c f ts h = let x = words_told (HasNames c.test) c.words (c.closing ∷ ts) (expression_names c.words c.test f.1) h.1 in (x.0, x.1.1)

start_told : (s : Start) → IsStart X86 s → (ts : List Token) → AllNamed (spell_start s ts) → Told (OptionalHasNames (start_tree s)) ts
start_told (Declared words os) f ts h = words_told (ObjectsHaveNames os) words ts (declaration_names words os f) h
start_told (Started None t) f ts h = (tt, h.1)
start_told (Started (Some x) t) f ts h = let y = words_told (HasNames x.1) x.0 (t ∷ ts) (expression_names x.0 x.1 f.0) h in (y.0, y.1.1)

mutual
  statement_told : (s : WrittenStatement) (closed : Bool) → forms.Fits X86 closed s → (ts : List Token) → AllNamed (forms.spell s ts) → Told (StatementHasNames (forms.tree s)) ts
  statement_told (forms.Declare words os) closed f ts h = words_told (ObjectsHaveNames os) words ts (declaration_names words os f) h
  statement_told (forms.Run words e t) closed f ts h = let x = words_told (HasNames e) words (t ∷ ts) (expression_names words e f.0) h in (x.0, x.1.1)
  statement_told (forms.Block o row) closed f ts h = statements_told row f.1 ts h.1
  statement_told (forms.If i c s) closed f ts h =
      let x = condition_told c f.2 (forms.spell s ts) h.1 in
      let y = statement_told s false f.3 ts x.1 in
      ((x.0, y.0, tt), y.1)
  statement_told (forms.IfElse i c s l r) closed f ts h =
      let x = condition_told c f.1 (forms.spell s (l ∷ forms.spell r ts)) h.1 in
      let y = statement_told s true f.2 (l ∷ forms.spell r ts) x.1 in
      let z = statement_told r closed f.4 ts y.1.1 in
      ((x.0, y.0, z.0), z.1)
  statement_told (forms.While x c s) closed f ts h =
      let y = condition_told c f.1 (forms.spell s ts) h.1 in
      let z = statement_told s closed f.2 ts y.1 in
      ((y.0, z.0), z.1)
  statement_told (forms.DoWhile o s x c t) closed f ts h =
      let y = statement_told s false f.1 (x ∷ spell_condition c (t ∷ ts)) h.1 in
      let z = condition_told c f.3 (t ∷ ts) y.1.1 in
      ((y.0, z.0), z.1.1)
  statement_told (forms.For x t s) closed f ts h =
      let last = forms.spell s ts in
      let i = start_told t.start f.1.1 (spell_part t.test (t.semicolon ∷ spell_part t.step (t.closing ∷ last))) h.1.1 in
      let c = part_told t.test f.1.2 (t.semicolon ∷ spell_part t.step (t.closing ∷ last)) i.1 in
      let n = part_told t.step f.1.4 (t.closing ∷ last) c.1.1 in
      let y = statement_told s closed f.2 ts n.1.1 in
      ((i.0, c.0, n.0, y.0), y.1)
  statement_told (forms.Break b t) closed f ts h = (tt, h.1.1)
  statement_told (forms.Continue b t) closed f ts h = (tt, h.1.1)
  statement_told (forms.Return b part t) closed f ts h = let x = part_told part f.1 (t ∷ ts) h.1 in (x.0, x.1.1)
  statement_told (forms.Empty t) closed f ts h = (tt, h.1)

  statements_told : (all : WrittenStatements) → forms.FitAll X86 all → (ts : List Token) → AllNamed (forms.spell_all all ts) → Told (StatementsHaveNames (forms.tree_all all)) ts
  statements_told (forms.End t) f ts h = (tt, h.1)
  statements_told (forms.Then s rest) f ts h =
      let x = statement_told s false f.0 (forms.spell_all rest ts) h in
      let y = statements_told rest f.1 ts x.1 in
      ((x.0, y.0), y.1)

-- Functions, and units.
function_told : (words : List Token) (k : Definition) (o : Token) (body : WrittenStatements) → IsHeading X86 words k → forms.FitAll X86 body → (ts : List Token) → AllNamed (words ++ o ∷ forms.spell_all body ts) → Told (FunctionHasNames (with_body k (forms.tree_all body))) ts
function_told words k o body is f ts h =
    let x = words_told (HeadingNames k) words (o ∷ forms.spell_all body ts) (heading_names words k is) h in
    let y = statements_told body f ts x.1.1 in
    (record { name = x.0.name; params = x.0.params; body = y.0 }, y.1)

items_named : (all : List Item) → Each (IsItem X86) all → AllNamed (spell_each spell_item all []) → UnitHasNames (tree_items all)
items_named [] f h = tt
items_named (Items.Stray t ∷ rest) f h = items_named rest f.1 h.1
items_named (Items.Prototype words k t ∷ rest) f h = items_named rest f.1 (behind_words words (t ∷ spell_each spell_item rest []) h).1
items_named (Items.Function words k o body ∷ rest) f h =
    let x = function_told words k o body f.0.0 f.0.2 (spell_each spell_item rest []) h in
    (x.0, items_named rest f.1 x.1)
items_named (Items.Table words o is_static ∷ rest) f h =
    let x = words_told (ObjectHasNames o) words (spell_each spell_item rest []) (table_names words o is_static f.0) h in
    (x.0, items_named rest f.1 x.1)

-- The names of a unit of the grammar.
pub unit_names : (ts : List Token) (items : List External) → IsUnit X86 ts items → AllNamed ts → UnitHasNames items
unit_names ts items u h = subst UnitHasNames u.means (items_named u.written u.fits (subst AllNamed u.spelled h))
