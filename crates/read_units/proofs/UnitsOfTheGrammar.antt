-- What the grammar of the x86 dialect reads as declarations, statements and units (C11 6.7 to 6.9).
use Rattle.std.proofs.Common.{◌≡◌, List, [], ◌∷◌, map, Bool, true, false, cond, Option, Some, None, refl, sym, ◌∙◌, subst}
use Rattle.std.specs.Prelude.{is_some, ◌||◌}
use Rattle.c_text.specs.declared.tokens.Dialect.TheVariants.{X86}
use Rattle.c_text.specs.declared.tokens.Token.{Token}
use Rattle.c_tree.specs.declared.types.CType.{CType}
use Rattle.c_tree.specs.declared.types.CType.TheVariants as ctypes
use Rattle.c_tree.specs.Tree.{Tree, NoTrees, Object, Definition, External}
use Rattle.c_tree.specs.View.{and_more}
use Rattle.c_print.specs.Declarations.{has_const}
use Rattle.c_parse.specs.declared.symbols.Symbol.{Symbol}
use Rattle.c_parse.specs.declared.symbols.Symbol.TheVariants as symbols
use Rattle.c_parse.specs.declared.symbols.Word.TheVariants as keywords
use Rattle.c_parse.specs.declared.types.Specifiers.{Specifiers}
use Rattle.c_parse.specs.Symbols.{symbol_of}
use Rattle.c_parse.specs.Types.{base_of, pointer_to}
use Rattle.c_parse.specs.Reading.{◌>>=◌, specify}
use Rattle.c_parse.specs.Grammar as Grammar
use Rattle.c_parse.specs.Grammar.{Written, IsName}
use Rattle.c_parse.specs.Repeated.{Each, says_each, means_each}
use Rattle.c_parse.specs.Objects.{Specification, nothing_said, word_says, align_once, is_plain, plain, not_inline, Extent, Single, Unbounded, Bounded, is_array, length_of, Declarator, array_of, and_const, object_type, parameter_type, has_length, object, parameter, has_value, table, heading}
use Rattle.c_parse.specs.Declarations.{NextFits, next_says, Attribute, Dropped, Target, Aligned, AttributeFits, attribute_says, Group, GroupFits, group_says, Specifier, Word, AlignAs, Attributes, SpecifierFits, with_align, specifier_says, specifiers_say, pointing_says, Brackets, NoBrackets, Empty, Length, BracketsFit, brackets_say}
use Rattle.c_parse.specs.Declarations.{WrittenDeclarator, DeclaratorFits, declarator_says, Initialiser, NoInitialiser, Value, Values, InitialiserFits, initialiser_says, WrittenObject, ObjectFits, object_says, declaration_says, IsDeclaration, table_says, IsObject}
use Rattle.c_parse.specs.Declarations.{WrittenParameter, ParameterFits, parameter_says, Parameters, NoParameters, VoidParameters, SomeParameters, ParametersFit, parameters_say, heading_says, IsHeading}
use Rattle.c_parse.specs.Statements as forms
use Rattle.c_parse.specs.Statements.{Part, IsPart, part_tree, Start, Declared, Started, IsStart, start_tree, WrittenStatement, WrittenStatements}
use Rattle.c_parse.specs.Items as Items
use Rattle.c_parse.specs.Items.{Item, IsItem, tree_items, with_body, IsUnit}
use Rattle.round_trip.specs.GoodUnits.{first_type, IsNoArray}
use Rattle.read_units.specs.Read.{ReadName, ReadAll, ReadPart, ReadList, HasLength, ReadObject, ReadOthers, ReadDeclaration, ReadOptional, ReadStatement, ReadStatements, ReadParameters, ReadFunction, ReadUnit}
use Rattle.read_units.proofs.Names.{IsNamed, AllHaveNames, PartHasNames, ListHasNames, ObjectHasNames, ObjectsHaveNames, ParametersHaveNames, OptionalHasNames, StatementHasNames, StatementsHaveNames, FunctionHasNames, UnitHasNames}
use Rattle.read_units.proofs.Answered.{Holds, bound, says_hold, means_hold}
use Rattle.read_units.proofs.ReadTypes.{IsBaseType, Typed, typed_token, WholeIn, specify_whole, BaseIn, base_in, same_type}
use Rattle.read_units.proofs.ReadExpressions.{read_name, read_written, read_expression}

-- An alignment that can be written is good.
abbrev AlignIn : Option Tree → Type 0
AlignIn a = PartHasNames a → ReadPart a

once_in : (s : Option Tree) (a : Written) → Grammar.Fits X86 1 a → Holds AlignIn (align_once s (Grammar.tree a))
once_in None a f = read_written a 1 f
once_in (Some b) a f = tt

attribute_in : (s : Option Tree) (a : Attribute) → AlignIn s → AttributeFits X86 a → Holds AlignIn (attribute_says s a)
attribute_in s (Dropped t) h f = h
attribute_in s (Target t o x c) h f = h
attribute_in s (Aligned t o a c) h f = once_in s a f.2

group_in : (s : Option Tree) (g : Group) → AlignIn s → GroupFits X86 g → Holds AlignIn (group_says s g)
group_in s g h f =
    bound AlignIn AlignIn (attribute_says s g.first) (λ r. says_each (next_says attribute_says) r g.others) (attribute_in s g.first h f.3)
    (λ r k. says_hold AlignIn (NextFits X86 (AttributeFits X86)) (next_says attribute_says) (λ s i h f. attribute_in s i.1 h f.1) g.others r k f.4)

-- What specifiers say is of the X86 dialect, with a good alignment.
record SpecificationIn (s : Specification) : Type 0 where
  whole : IsBaseType s.words.whole
  align : AlignIn s.align

words_in : (s : Specification) (o : Option Specifiers) → SpecificationIn s → WholeIn o → Holds SpecificationIn (o >>= λ w. Some (record s { words = w }))
words_in s None h w = tt
words_in s (Some r) h w = record { whole = w; align = h.align }

static_in : (s : Specification) (b : Bool) → SpecificationIn s → Holds SpecificationIn (cond b None (Some (record s { is_static = true })))
static_in s true h = tt
static_in s false h = record { whole = h.whole; align = h.align }

word_in : (s : Specification) (m : Symbol) → SpecificationIn s → Typed m → Holds SpecificationIn (word_says s m)
word_in s (symbols.Sign x) h t = tt
word_in s (symbols.Infix op) h t = tt
word_in s (symbols.Assign op) h t = tt
word_in s (symbols.Step up) h t = tt
word_in s symbols.Tilde h t = tt
word_in s symbols.Exclamation h t = tt
word_in s (symbols.Type w) h t = words_in s (specify s.words (symbols.Type w)) h (specify_whole s.words (symbols.Type w) h.whole t)
word_in s symbols.Const h t = record { whole = h.whole; align = h.align }
word_in s symbols.Restrict h t = tt
word_in s (symbols.Word keywords.Static) h t = static_in s s.is_static h
word_in s (symbols.Word keywords.Inline) h t = record { whole = h.whole; align = h.align }
word_in s (symbols.Word keywords.If) h t = tt
word_in s (symbols.Word keywords.Else) h t = tt
word_in s (symbols.Word keywords.While) h t = tt
word_in s (symbols.Word keywords.Do) h t = tt
word_in s (symbols.Word keywords.For) h t = tt
word_in s (symbols.Word keywords.Break) h t = tt
word_in s (symbols.Word keywords.Continue) h t = tt
word_in s (symbols.Word keywords.Return) h t = tt
word_in s (symbols.Word keywords.AlignAs) h t = tt
word_in s (symbols.Word keywords.Attribute) h t = tt
word_in s symbols.Name h t = tt
word_in s symbols.Constant h t = tt
word_in s symbols.Other h t = tt

align_in : (s : Specification) (a : Option (Option Tree)) → SpecificationIn s → Holds AlignIn a → Holds SpecificationIn (with_align s a)
align_in s None h k = tt
align_in s (Some a) h k = record { whole = h.whole; align = k }

specifier_in : (s : Specification) (x : Specifier) → SpecificationIn s → SpecifierFits X86 x → Holds SpecificationIn (specifier_says X86 s x)
specifier_in s (Word t) h f = word_in s (symbol_of X86 t) h (typed_token t)
specifier_in s (AlignAs t o a c) h f = align_in s (align_once s.align (Grammar.tree a)) h (once_in s.align a f.2)
specifier_in s (Attributes g) h f = align_in s (group_says s.align g) h (group_in s.align g h.align f)

specifiers_in : (all : List Specifier) → Each (SpecifierFits X86) all → Holds SpecificationIn (specifiers_say X86 all)
specifiers_in all f = says_hold SpecificationIn (SpecifierFits X86) (specifier_says X86) specifier_in all nothing_said (record { whole = tt; align = λ w. tt }) f

plain_in : (s : Specification) → SpecificationIn s → Holds SpecificationIn (plain s)
plain_in s h = go (is_plain s)
  where
    go : (b : Bool) → Holds SpecificationIn (cond b (Some s) None)
    go true = h
    go false = tt

not_inline_in : (s : Specification) → SpecificationIn s → Holds SpecificationIn (not_inline s)
not_inline_in s h = go s.is_inline
  where
    go : (b : Bool) → Holds SpecificationIn (cond b None (Some s))
    go true = tt
    go false = h

-- What a declarator says, if what stands before it says this: a name, a length and an alignment that are good if they can be written.
record DeclaratorIn (w : WrittenDeclarator) (x : Declarator) : Type 0 where
  named : IsNamed x.name → ReadName x.name
  extent : x.extent ≡ brackets_say w.brackets
  length : PartHasNames (length_of x.extent) → ReadPart (length_of x.extent)
  align : AlignIn x.align

length_in : (b : Brackets) → BracketsFit X86 b → PartHasNames (length_of (brackets_say b)) → ReadPart (length_of (brackets_say b))
length_in NoBrackets f w = tt
length_in (Empty o c) f w = tt
length_in (Length o a c) f w = read_written a 1 f.1 w

declarator_in : (s : Specification) (w : WrittenDeclarator) → SpecificationIn s → DeclaratorFits X86 w → Holds (DeclaratorIn w) (declarator_says X86 s.align w)
declarator_in s w h f =
    bound AlignIn (DeclaratorIn w) (says_each group_says s.align w.groups) (λ a. Some (record { star = pointing_says X86 w.pointing; place = w.name.place; name = w.name.text; extent = brackets_say w.brackets; align = a }))
    (says_hold AlignIn (GroupFits X86) group_says group_in w.groups s.align h.align f.3)
    (λ a k. record { named = read_name w.name f.1; extent = refl; length = length_in w.brackets f.2; align = k })

-- Types of objects.
abbrev ArrayIf : Bool → CType → Type 0
ArrayIf true (ctypes.Array p n constant) = Unit {0}
ArrayIf true t = ⊥
ArrayIf false t = IsNoArray t

-- the type of an object, and whether that is const, where specifiers name this base and say whether they have `const`
record TypeIn (base : Option CType) (constant array : Bool) (t : CType × Bool) : Type 0 where
  first : Some (first_type t.0) ≡ base
  shared : has_const t.0 t.1 ≡ constant
  is_array : ArrayIf array t.0

direct_in : (o : Option CType) (k : Bool) → BaseIn o → Holds (TypeIn o k false) (and_const o k)
direct_in None k h = tt
direct_in (Some (ctypes.Pointer p c)) k h = absurd h
direct_in (Some (ctypes.Array p n c)) k h = absurd h
direct_in (Some _) k h = record { first = refl; shared = refl; is_array = tt }

starred_in : (o : Option CType) (k c : Bool) → BaseIn o → Holds (TypeIn o k false) (and_const (pointer_to o k) c)
starred_in None k c h = tt
starred_in (Some ctypes.Void) k c h = record { first = refl; shared = refl; is_array = tt }
starred_in (Some (ctypes.Int t)) k c h = record { first = refl; shared = refl; is_array = tt }
starred_in (Some ctypes.M128) k c h = record { first = refl; shared = refl; is_array = tt }
starred_in (Some ctypes.M256) k c h = record { first = refl; shared = refl; is_array = tt }
starred_in (Some _) k c h = tt

or_same : (k : Bool) → (k || k) ≡ k
or_same true = refl
or_same false = refl

array_in : (o : Option CType) (k : Bool) → BaseIn o → Holds (TypeIn o k true) (and_const (array_of (pointer_to o k)) k)
array_in None k h = tt
array_in (Some ctypes.Void) k h = record { first = refl; shared = or_same k; is_array = tt }
array_in (Some (ctypes.Int t)) k h = record { first = refl; shared = or_same k; is_array = tt }
array_in (Some ctypes.M128) k h = record { first = refl; shared = or_same k; is_array = tt }
array_in (Some ctypes.M256) k h = record { first = refl; shared = or_same k; is_array = tt }
array_in (Some _) k h = tt

object_type_in : (w : Specifiers) (star : Option Bool) (x : Extent) → BaseIn (base_of w) → Holds (TypeIn (base_of w) w.constant (is_array x)) (object_type w star x)
object_type_in w None Single h = direct_in (base_of w) w.constant h
object_type_in w None Unbounded h = array_in (base_of w) w.constant h
object_type_in w None (Bounded n) h = array_in (base_of w) w.constant h
object_type_in w (Some c) Single h = starred_in (base_of w) w.constant c h
object_type_in w (Some c) Unbounded h = tt
object_type_in w (Some c) (Bounded n) h = tt

parameter_type_in : (w : Specifiers) (star : Option Bool) (x : Extent) → BaseIn (base_of w) → Holds (TypeIn (base_of w) w.constant false) (parameter_type w star x)
parameter_type_in w None Single h = direct_in (base_of w) w.constant h
parameter_type_in w None Unbounded h = starred_in (base_of w) w.constant false h
parameter_type_in w None (Bounded n) h = starred_in (base_of w) w.constant false h
parameter_type_in w (Some c) Single h = starred_in (base_of w) w.constant c h
parameter_type_in w (Some c) Unbounded h = tt
parameter_type_in w (Some c) (Bounded n) h = tt

-- no array has a length
single_length : (t : CType) → IsNoArray t → HasLength t None
single_length (ctypes.Array p n c) h = absurd h
single_length _ h = refl

array_length : (t : CType) (length : Option Tree) → ArrayIf true t → HasLength t length
array_length (ctypes.Array p n c) length h = tt
array_length _ length h = absurd h

length_fits : (t : CType) (x : Extent) → ArrayIf (is_array x) t → HasLength t (length_of x)
length_fits t Single h = single_length t h
length_fits t Unbounded h = array_length t None h
length_fits t (Bounded n) h = array_length t (Some n) h

-- Initialisers.
init_in : (array : Bool) (i : Initialiser) → InitialiserFits X86 array i → PartHasNames (initialiser_says i).init → ReadPart (initialiser_says i).init
init_in array NoInitialiser f w = tt
init_in array (Value e a) f w = read_written a 1 f.2 w
init_in array (Values e o a others comma c) f w = tt

others_in : (others : List (Token × Written)) → Each (NextFits X86 (Grammar.Fits X86 1)) others → AllHaveNames (and_more (map (λ x. Grammar.tree x.1) others) NoTrees) → ReadAll (and_more (map (λ x. Grammar.tree x.1) others) NoTrees)
others_in [] f w = tt
others_in (x ∷ rest) f w = (read_written x.1 1 f.0.1 w.0, others_in rest f.1 w.1)

list_in : (array : Bool) (i : Initialiser) → InitialiserFits X86 array i → ListHasNames (initialiser_says i).list → ReadList (initialiser_says i).list
list_in array NoInitialiser f w = tt
list_in array (Value e a) f w = tt
list_in array (Values e o a others comma c) f w = (read_written a 1 f.3 w.0, others_in others f.4 w.1)

-- Objects: good if they can be written, of the type that their specifiers name, and const where these are.
record ObjectIn (s : Specification) (o : Object) : Type 0 where
  good : ObjectHasNames o → ReadObject o
  first : Some (first_type o.ty) ≡ base_of s.words
  shared : has_const o.ty o.constant ≡ s.words.constant

object_in : (s : Specification) (w : WrittenDeclarator) (x : Declarator) (i : Initialiser) → SpecificationIn s → DeclaratorIn w x → InitialiserFits X86 (is_array x.extent) i → Holds (ObjectIn s) (object s x (initialiser_says i))
object_in s w x i h d f = go (has_length x.extent (initialiser_says i).list) refl
  where
    make : CType × Bool → Object
    make t = record { place = x.place; name = x.name; ty = t.0; length = length_of x.extent; constant = t.1; align = x.align; align_first = is_some s.align; init = (initialiser_says i).init; list = (initialiser_says i).list }

    made : has_length x.extent (initialiser_says i).list ≡ true → (t : CType × Bool) → TypeIn (base_of s.words) s.words.constant (is_array x.extent) t → ObjectIn s (make t)
    made e t k = record {
      good = λ v. record {
        named = d.named v.name;
        shaped = length_fits t.0 x.extent k.is_array;
        length = d.length v.length;
        align = d.align v.align;
        init = init_in (is_array x.extent) i f v.init;
        list = list_in (is_array x.extent) i f v.list;
      };
      first = k.first;
      shared = k.shared;
    }

    go : (b : Bool) → has_length x.extent (initialiser_says i).list ≡ b → Holds (ObjectIn s) (cond b (object_type s.words x.star x.extent >>= λ t. Some (make t)) None)
    go true e = bound (TypeIn (base_of s.words) s.words.constant (is_array x.extent)) (ObjectIn s) (object_type s.words x.star x.extent) (λ t. Some (make t)) (object_type_in s.words x.star x.extent (base_in s.words h.whole)) (made e)
    go false e = tt

written_in : (s : Specification) (w : WrittenObject) → SpecificationIn s → ObjectFits X86 w → Holds (ObjectIn s) (object_says X86 s w)
written_in s w h f =
    bound (DeclaratorIn w.declarator) (ObjectIn s) (declarator_says X86 s.align w.declarator) (λ x. object s x (initialiser_says w.initialiser)) (declarator_in s w.declarator h f.0)
    (λ x d. object_in s w.declarator x w.initialiser h d (subst (λ e. InitialiserFits X86 (is_array e) w.initialiser) (sym d.extent) f.1))

-- Declarations.
further_in : (s : Specification) (t : CType) (c : Bool) → Some t ≡ base_of s.words → c ≡ s.words.constant → (os : List Object) → Each (ObjectIn s) os → ObjectsHaveNames os → ReadOthers t c os
further_in s t c e k [] h w = tt
further_in s t c e k (o ∷ os) h w = (h.0.good w.0, same_type (first_type o.ty) t (h.0.first ∙ sym e), h.0.shared ∙ sym k, further_in s t c e k os h.1 w.1)

abbrev DeclarationIn : List Object → Type 0
DeclarationIn os = ObjectsHaveNames os → ReadDeclaration os

objects_in : (s : Specification) (o : Object) (os : List Object) → ObjectIn s o → Each (ObjectIn s) os → DeclarationIn (o ∷ os)
objects_in s o os h k w = (h.good w.0, further_in s (first_type o.ty) (has_const o.ty o.constant) h.first h.shared os k w.1)

pub read_declaration : (ts : List Token) (os : List Object) → IsDeclaration X86 ts os → ObjectsHaveNames os → ReadDeclaration os
read_declaration ts os d = subst (Holds DeclarationIn) d.means says
  where
    behind : (s : Specification) (o : Object) → SpecificationIn s → ObjectIn s o → Holds DeclarationIn (means_each (λ x. object_says X86 s x.1) d.written.others >>= λ os. Some (o ∷ os))
    behind s o h k =
        bound (Each (ObjectIn s)) DeclarationIn (means_each (λ x. object_says X86 s x.1) d.written.others) (λ os. Some (o ∷ os))
        (means_hold (NextFits X86 (ObjectFits X86)) (ObjectIn s) (λ x. object_says X86 s x.1) (λ x f. written_in s x.1 h f.1) d.written.others d.fits.2)
        (λ os ks. objects_in s o os k ks)

    first : (s : Specification) → SpecificationIn s → Holds DeclarationIn (object_says X86 s d.written.first >>= λ o. means_each (λ x. object_says X86 s x.1) d.written.others >>= λ os. Some (o ∷ os))
    first s h = bound (ObjectIn s) DeclarationIn (object_says X86 s d.written.first) (λ o. means_each (λ x. object_says X86 s x.1) d.written.others >>= λ os. Some (o ∷ os)) (written_in s d.written.first h d.fits.1) (λ o k. behind s o h k)

    says : Holds DeclarationIn (declaration_says X86 d.written)
    says =
        bound SpecificationIn DeclarationIn (specifiers_say X86 d.written.specifiers) (λ r. plain r >>= λ s. object_says X86 s d.written.first >>= λ o. means_each (λ x. object_says X86 s x.1) d.written.others >>= λ os. Some (o ∷ os))
        (specifiers_in d.written.specifiers d.fits.0)
        (λ r h. bound SpecificationIn DeclarationIn (plain r) (λ s. object_says X86 s d.written.first >>= λ o. means_each (λ x. object_says X86 s x.1) d.written.others >>= λ os. Some (o ∷ os)) (plain_in r h) first)

-- Objects at file scope.
abbrev TableIn : Object × Bool → Type 0
TableIn x = ObjectHasNames x.0 → ReadObject x.0

table_in : (s : Specification) (o : Object) → (ObjectHasNames o → ReadObject o) → Holds TableIn (table s o)
table_in s o g = go (has_value o) refl
  where
    go : (b : Bool) → has_value o ≡ b → Holds TableIn (cond b (Some (o, s.is_static)) None)
    go true e = g
    go false e = tt

read_table : (ts : List Token) (o : Object) (is_static : Bool) → IsObject X86 ts (o, is_static) → ObjectHasNames o → ReadObject o
read_table ts o is_static d = subst (Holds TableIn) d.means says
  where
    says : Holds TableIn (table_says X86 d.written)
    says =
        bound SpecificationIn TableIn (specifiers_say X86 d.written.specifiers) (λ r. not_inline r >>= λ s. object_says X86 s d.written.only >>= λ o. table s o) (specifiers_in d.written.specifiers d.fits.0)
        (λ r h. bound SpecificationIn TableIn (not_inline r) (λ s. object_says X86 s d.written.only >>= λ o. table s o) (not_inline_in r h)
        (λ s k. bound (ObjectIn s) TableIn (object_says X86 s d.written.only) (λ o. table s o) (written_in s d.written.only k d.fits.1) (λ o g. table_in s o g.good)))

-- Parameters.
abbrev ParameterIn : Object → Type 0
ParameterIn o = IsNamed o.name → ReadName o.name

parameter_in : (s : Specification) (w : WrittenDeclarator) (x : Declarator) → SpecificationIn s → DeclaratorIn w x → Holds ParameterIn (parameter s.words x)
parameter_in s w x h d = go (is_some x.align)
  where
    make : CType × Bool → Object
    make t = record { place = x.place; name = x.name; ty = t.0; length = length_of x.extent; constant = t.1; align = None; align_first = false; init = None; list = None }

    go : (b : Bool) → Holds ParameterIn (cond b None (parameter_type s.words x.star x.extent >>= λ t. Some (make t)))
    go true = tt
    go false = bound (TypeIn (base_of s.words) s.words.constant false) ParameterIn (parameter_type s.words x.star x.extent) (λ t. Some (make t)) (parameter_type_in s.words x.star x.extent (base_in s.words h.whole)) (λ t k. d.named)

one_in : (w : WrittenParameter) → ParameterFits X86 w → Holds ParameterIn (parameter_says X86 w)
one_in w f =
    bound SpecificationIn ParameterIn (specifiers_say X86 w.specifiers) (λ r. plain r >>= λ s. declarator_says X86 s.align w.declarator >>= λ x. parameter s.words x) (specifiers_in w.specifiers f.0)
    (λ r h. bound SpecificationIn ParameterIn (plain r) (λ s. declarator_says X86 s.align w.declarator >>= λ x. parameter s.words x) (plain_in r h)
    (λ s k. bound (DeclaratorIn w.declarator) ParameterIn (declarator_says X86 s.align w.declarator) (λ x. parameter s.words x) (declarator_in s w.declarator k f.1) (λ x d. parameter_in s w.declarator x k d)))

parameters_in : (w : Parameters) → ParametersFit X86 w → Holds (Each ParameterIn) (parameters_say X86 w)
parameters_in (NoParameters c) f = tt
parameters_in (VoidParameters t c) f = tt
parameters_in (SomeParameters p others c) f =
    bound ParameterIn (Each ParameterIn) (parameter_says X86 p) (λ x. means_each (λ i. parameter_says X86 i.1) others >>= λ xs. Some (x ∷ xs)) (one_in p f.0)
    (λ x k. bound (Each ParameterIn) (Each ParameterIn) (means_each (λ i. parameter_says X86 i.1) others) (λ xs. Some (x ∷ xs))
    (means_hold (NextFits X86 (ParameterFits X86)) ParameterIn (λ i. parameter_says X86 i.1) (λ i f. one_in i.1 f.1) others f.1) (λ xs ks. (k, ks)))

read_parameters : (os : List Object) → Each ParameterIn os → ParametersHaveNames os → ReadParameters os
read_parameters [] h w = tt
read_parameters (o ∷ os) h w = (h.0 w.0, read_parameters os h.1 w.1)

-- Headings of functions.
record HeadingIn (f : Definition) : Type 0 where
  named : IsNamed f.name → ReadName f.name
  params : Each ParameterIn f.params

heading_in : (s : Specification) (star : Option Bool) (t : Token) (params : List Object) (align : Option Tree) → SpecificationIn s → IsName X86 t → Each ParameterIn params → Holds HeadingIn (heading s star t params align)
heading_in s star t params (Some a) h is k = tt
heading_in s star t params None h is k =
    bound (TypeIn (base_of s.words) s.words.constant false) HeadingIn (object_type s.words star Single) _ (object_type_in s.words star Single (base_in s.words h.whole))
    (λ ty g. record { named = read_name t is; params = k })

read_heading : (ts : List Token) (f : Definition) → IsHeading X86 ts f → HeadingIn f
read_heading ts f d = subst (Holds HeadingIn) d.means says
  where
    last : Specification → List Object → Option Tree → Option Definition
    last s params align = heading s (pointing_says X86 d.written.pointing) d.written.name params align

    aligned : (s : Specification) (params : List Object) → SpecificationIn s → Each ParameterIn params → Holds HeadingIn (says_each group_says s.align d.written.groups >>= λ align. last s params align)
    aligned s params h k =
        bound AlignIn HeadingIn (says_each group_says s.align d.written.groups) (λ align. last s params align) (says_hold AlignIn (GroupFits X86) group_says group_in d.written.groups s.align h.align d.fits.5)
        (λ align a. heading_in s (pointing_says X86 d.written.pointing) d.written.name params align h d.fits.2 k)

    says : Holds HeadingIn (heading_says X86 d.written)
    says =
        bound SpecificationIn HeadingIn (specifiers_say X86 d.written.specifiers) (λ s. parameters_say X86 d.written.parameters >>= λ params. says_each group_says s.align d.written.groups >>= λ align. last s params align)
        (specifiers_in d.written.specifiers d.fits.0)
        (λ s h. bound (Each ParameterIn) HeadingIn (parameters_say X86 d.written.parameters) (λ params. says_each group_says s.align d.written.groups >>= λ align. last s params align) (parameters_in d.written.parameters d.fits.4) (λ params k. aligned s params h k))

-- Statements.
read_part : (p : Part) → IsPart X86 p → PartHasNames (part_tree p) → ReadPart (part_tree p)
read_part None f w = tt
read_part (Some x) f w = read_expression x.0 x.1 f w

read_start : (s : Start) → IsStart X86 s → OptionalHasNames (start_tree s) → ReadOptional (start_tree s)
read_start (Declared words os) f w = read_declaration words os f w
read_start (Started None t) f w = tt
read_start (Started (Some x) t) f w = read_expression x.0 x.1 f.0 w

mutual
  pub read_statement : (s : WrittenStatement) (closed : Bool) → forms.Fits X86 closed s → StatementHasNames (forms.tree s) → ReadStatement (forms.tree s)
  read_statement (forms.Declare words os) closed f w = read_declaration words os f w
  read_statement (forms.Run words e t) closed f w = read_expression words e f.0 w
  read_statement (forms.Block o row) closed f w = read_statements row f.1 w
  read_statement (forms.If i c s) closed f w = (read_expression c.words c.test f.2.1 w.0, read_statement s false f.3 w.1, tt)
  read_statement (forms.IfElse i c s l r) closed f w = (read_expression c.words c.test f.1.1 w.0, read_statement s true f.2 w.1, read_statement r closed f.4 w.2)
  read_statement (forms.While x c s) closed f w = (read_expression c.words c.test f.1.1 w.0, read_statement s closed f.2 w.1)
  read_statement (forms.DoWhile o s x c t) closed f w = (read_statement s false f.1 w.0, read_expression c.words c.test f.3.1 w.1)
  read_statement (forms.For x h s) closed f w = (read_start h.start f.1.1 w.0, read_part h.test f.1.2 w.1, read_part h.step f.1.4 w.2, read_statement s closed f.2 w.3)
  read_statement (forms.Break b t) closed f w = tt
  read_statement (forms.Continue b t) closed f w = tt
  read_statement (forms.Return b part t) closed f w = read_part part f.1 w
  read_statement (forms.Empty t) closed f w = tt

  pub read_statements : (all : WrittenStatements) → forms.FitAll X86 all → StatementsHaveNames (forms.tree_all all) → ReadStatements (forms.tree_all all)
  read_statements (forms.End t) f w = tt
  read_statements (forms.Then s rest) f w = (read_statement s false f.0 w.0, read_statements rest f.1 w.1)

-- Functions, and units.
read_function : (words : List Token) (h : Definition) (body : WrittenStatements) → IsHeading X86 words h → forms.FitAll X86 body → FunctionHasNames (with_body h (forms.tree_all body)) → ReadFunction (with_body h (forms.tree_all body))
read_function words h body is f w = go (read_heading words h is)
  where
    go : HeadingIn h → ReadFunction (with_body h (forms.tree_all body))
    go k = record { named = k.named w.name; params = read_parameters h.params k.params w.params; body = read_statements body f w.body }

read_items : (all : List Item) → Each (IsItem X86) all → UnitHasNames (tree_items all) → ReadUnit (tree_items all)
read_items [] f w = tt
read_items (Items.Stray t ∷ rest) f w = read_items rest f.1 w
read_items (Items.Prototype words h t ∷ rest) f w = read_items rest f.1 w
read_items (Items.Function words h o body ∷ rest) f w = (read_function words h body f.0.0 f.0.2 w.0, read_items rest f.1 w.1)
read_items (Items.Table words o is_static ∷ rest) f w = (read_table words o is_static f.0 w.0, read_items rest f.1 w.1)

-- What the grammar reads as a unit, where its names are names.
pub read_unit : (ts : List Token) (items : List External) → IsUnit X86 ts items → UnitHasNames items → ReadUnit items
read_unit ts items u w = subst ReadUnit u.means (read_items u.written u.fits (subst UnitHasNames (sym u.means) w))
