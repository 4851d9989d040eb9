-- What is written of declarations and headings is read.
use Rattle.std.proofs.Common.{◌≡◌, List, [], ◌∷◌, Option, Some, None, refl, ◌∙◌, ap, Bool, true, false, cond}
use Rattle.c_text.specs.declared.tokens.Dialect.{Dialect}
use Rattle.c_text.specs.declared.tokens.Token.{Token}
use Rattle.c_tree.specs.Tree.{Tree, Object, Definition}
use Rattle.c_parse.specs.declared.symbols.Sign.TheVariants.{Open, Close, Comma, Semicolon}
use Rattle.c_parse.specs.declared.symbols.Symbol.{Symbol}
use Rattle.c_parse.specs.declared.symbols.Symbol.TheVariants as symbols
use Rattle.c_parse.specs.declared.symbols.TypeWord.TheVariants as types
use Rattle.c_parse.specs.declared.types.Specifiers.{Specifiers}
use Rattle.c_tree.specs.declared.types.CType.TheVariants as ctypes
use Rattle.c_parse.specs.Symbols.{symbol_of}
use Rattle.c_parse.specs.Types.{counted, base_of}
use Rattle.c_parse.specs.Reading.{◌>>=◌, front, past, name_front, is_star, with_rest, no_specifiers}
use Rattle.c_parse.specs.Grammar.{Is, IsName}
use Rattle.c_parse.specs.Repeated.{Each, spell_each, spell_next, says_each}
use Rattle.c_parse.specs.Objects.{is_align_as, is_attribute, is_void, begins_declaration, Specification, nothing_said, plain, not_inline, Extent, Single, Unbounded, Bounded, is_array, Declarator, Initial, object, object_type, has_length, parameter, table, heading}
use Rattle.c_parse.specs.Declarations.{Group, GroupFits, spell_group, group_says, specifiers_say, Pointing, Direct, Star, PointingFits, spell_pointing, Brackets, NoBrackets, Empty, Length, BracketsFit, spell_brackets, brackets_say, WrittenDeclarator, DeclaratorFits, spell_declarator, declarator_says}
use Rattle.c_parse.specs.Declarations.{Initialiser, NoInitialiser, Value, Values, InitialiserFits, spell_initialiser, ObjectFits, spell_object, object_says, WrittenDeclaration, DeclarationFits, spell_declaration, declaration_says, WrittenTable, TableFits, spell_table, table_says, WrittenParameter, ParameterFits, spell_parameter, parameter_says, Parameters, NoParameters, VoidParameters, SomeParameters, ParametersFit, spell_parameters, parameters_say, WrittenHeading, HeadingFits, spell_heading, heading_says}
use Rattle.c_parse.specs.DeclarationReading.{past_test, groups_front, word_front, specifier_front, begun, specifiers_front, pointing_front, declarator_front, initialiser_front, initialised_front, more_objects, declaration_front, object_front, parameter_front, past_void, parameters_front, heading_front}
use Rattle.c_parse.proofs.Fronts.{bind_some, past_is}
use Rattle.c_parse.proofs.Repeats.{same_some}
use Rattle.c_parse.proofs.DeclarationsSound.{bind_to, past_test_is}
use Rattle.c_parse.proofs.DeclarationsComplete.{attribute_is, groups_complete, specifiers_complete, pointing_complete, declarator_complete}
use Rattle.c_parse.proofs.DeclarationsRows.{equals_is, Separated, row_complete, separated_behind, initialised_complete, next_separated, row_separated}
use Rattle.c_parse.proofs.DeclarationsShorter.{objects_shrink, parameters_shrink, specifiers_eq}

-- no declarator begins with a word of specifiers
star_begins : (m : Symbol) → is_star m ≡ true → begins_declaration m ≡ false
star_begins (symbols.Infix op) e = refl
star_begins _ e = absurd (cc)

pointing_begins : (d : Dialect) (w : Pointing) (x : Token) (us : List Token) → PointingFits d w → IsName d x → begins_declaration (front d (spell_pointing w (x ∷ us))) ≡ false
pointing_begins d Direct x us f name = rw name refl
pointing_begins d (Star t all) x us f name = star_begins (symbol_of d t) f.0

declarator_begins : (d : Dialect) (w : WrittenDeclarator) (us : List Token) → DeclaratorFits d w → begins_declaration (front d (spell_declarator w us)) ≡ false
declarator_begins d w us f = pointing_begins d w.pointing w.name (spell_brackets w.brackets (spell_each spell_group w.groups us)) f.0 f.1

pub declaration_complete : (d : Dialect) (w : WrittenDeclaration) (r : List Object) (us : List Token) → DeclarationFits d w → declaration_says d w ≡ Some r → declaration_front d (spell_declaration w us) ≡ Some (r, us)
unfolding declaration_front
declaration_complete d w r us f e =
    let (q, qe, e1) = bind_some (specifiers_say d w.specifiers) _ _ e in
    let (s, se, e2) = bind_some (plain q) _ _ e1 in
    let (o, oe, e3) = bind_some (object_says d s w.first) _ _ e2 in
    let ts : List Token = w.semicolon ∷ us in
    let last : Separated d ts = record { sign = Semicolon; stops = refl; is = f.3 } in
    let row : List Token = spell_each (spell_next spell_object) w.others ts in
    let specifiers = specifiers_complete d w.specifiers nothing_said q (spell_object w.first row) f.0 (declarator_begins d w.first.declarator (spell_initialiser w.first.initialiser row) f.1.0) qe in
    let first = initialised_complete d s w.first o row f.1 (row_separated d (ObjectFits d) spell_object w.others ts f.2 last) oe in
    let others =
    row_complete d (past d Comma) (initialised_front d s) (ObjectFits d) spell_object (object_says d s) (objects_shrink d s) (Separated d) (next_separated d (ObjectFits d) spell_object)
    (λ i us f h. rw (f.0) refl) (λ i r us f h e. initialised_complete d s i r us f h e) w.others o r ts f.2 last (rw (f.3) refl) e3 in
    bind_to _ _ _ _ specifiers (bind_to _ _ _ _ se (bind_to _ _ _ _ first (bind_to _ _ _ _ others (rw (f.3) refl))))

pub object_complete : (d : Dialect) (w : WrittenTable) (r : Object × Bool) (us : List Token) → TableFits d w → table_says d w ≡ Some r → object_front d (spell_table w us) ≡ Some (r, us)
unfolding object_front
object_complete d w r us f e =
    let (q, qe, e1) = bind_some (specifiers_say d w.specifiers) _ _ e in
    let (s, se, e2) = bind_some (not_inline q) _ _ e1 in
    let (o, oe, e3) = bind_some (object_says d s w.only) _ _ e2 in
    let ts : List Token = w.semicolon ∷ us in
    let specifiers = specifiers_complete d w.specifiers nothing_said q (spell_object w.only ts) f.0 (declarator_begins d w.only.declarator (spell_initialiser w.only.initialiser ts) f.1.0) qe in
    let only = initialised_complete d s w.only o ts f.1 (record { sign = Semicolon; stops = refl; is = f.2 }) oe in
    bind_to _ _ _ _ specifiers (bind_to _ _ _ _ se (bind_to _ _ _ _ only (rw (f.2, e3) refl)))

parameter_complete : (d : Dialect) (w : WrittenParameter) (r : Object) (us : List Token) → ParameterFits d w → Separated d us → parameter_says d w ≡ Some r → parameter_front d (spell_parameter w us) ≡ Some (r, us)
parameter_complete d w r us f h e =
    let (q, qe, e1) = bind_some (specifiers_say d w.specifiers) _ _ e in
    let (s, se, e2) = bind_some (plain q) _ _ e1 in
    let (x, xe, e3) = bind_some (declarator_says d s.align w.declarator) _ _ e2 in
    let specifiers = specifiers_complete d w.specifiers nothing_said q (spell_declarator w.declarator us) f.0 (declarator_begins d w.declarator us f.1) qe in
    let declarator = declarator_complete d w.declarator s.align x us f.1 (separated_behind d us h) xe in
    bind_to _ _ _ _ specifiers (bind_to _ _ _ _ se (bind_to _ _ _ _ declarator (ap (λ o. with_rest o us) e3)))

-- no parameter begins with a closing bracket, or with `void` and a closing bracket
specifiers_none : (d : Dialect) (s : Specification) (ts : List Token) → begins_declaration (front d ts) ≡ false → specifiers_front d s ts ≡ Some (s, ts)
specifiers_none d s ts e = specifiers_eq d s ts ∙ rw e refl

no_declarator : (d : Dialect) (align : Option Tree) (c : Token) (us : List Token) → Is d Close c → declarator_front d align (c ∷ us) ≡ None
no_declarator d align c us e =
    let pointing : pointing_front d (c ∷ us) ≡ (None, c ∷ us) = rw e refl in
    let name : name_front d (c ∷ us) ≡ None = rw e refl in
    rw (pointing, name) refl

close_no_parameter : (d : Dialect) (c : Token) (us : List Token) → Is d Close c → parameter_front d (c ∷ us) ≡ None
close_no_parameter d c us e =
    bind_to _ _ _ _ (specifiers_none d nothing_said (c ∷ us) (rw e refl)) (ap (λ o. o >>= λ x. with_rest (parameter no_specifiers x.0) x.1) (no_declarator d None c us e))

void_is : (m : Symbol) → is_void m ≡ true → m ≡ symbols.Type (types.Whole ctypes.Void)
void_is (symbols.Type (types.Whole ctypes.Void)) e = refl
void_is (symbols.Type (types.Whole _)) e = absurd (cc)
void_is (symbols.Type _) e = absurd (cc)
void_is _ e = absurd (cc)

void_no_parameter : (d : Dialect) (t c : Token) (us : List Token) → is_void (symbol_of d t) ≡ true → Is d Close c → parameter_front d (t ∷ c ∷ us) ≡ None
void_no_parameter d t c us e f =
    let is = void_is (symbol_of d t) e in
    let s : Specification = record nothing_said { words = counted no_specifiers (types.Whole ctypes.Void) } in
    let ts : List Token = c ∷ us in
    let align : past_test d is_align_as (t ∷ ts) ≡ None = rw is refl in
    let attribute : past_test d is_attribute (t ∷ ts) ≡ None = rw is refl in
    let word : word_front d nothing_said (t ∷ ts) ≡ Some (s, ts) = rw is refl in
    let one : specifier_front d nothing_said (t ∷ ts) ≡ Some (s, ts) = rw (align, attribute, word) refl in
    let on : begun d (t ∷ ts) ≡ Some (t ∷ ts) = rw is refl in
    let specifiers : specifiers_front d nothing_said (t ∷ ts) ≡ Some (s, ts) = specifiers_eq d nothing_said (t ∷ ts) ∙ rw (on, one) (specifiers_none d s ts (rw f refl)) in
    bind_to _ _ _ _ specifiers (ap (λ o. o >>= λ x. with_rest (parameter s.words x.0) x.1) (no_declarator d None c us f))

parameter_no_close : (d : Dialect) (ts : List Token) (x : Object × List Token) → parameter_front d ts ≡ Some x → past d Close ts ≡ None
parameter_no_close d ts x e = go (past d Close ts) refl
  where
    go : (o : Option (List Token)) → past d Close ts ≡ o → past d Close ts ≡ None
    go None h = h
    go (Some us) h =
        let c = past_is d Close ts us h in
        let none = ap (parameter_front d) c.split ∙ close_no_parameter d c.token us c.is in
        absurd (cc (none, e))

parameter_no_void : (d : Dialect) (ts : List Token) (x : Object × List Token) → parameter_front d ts ≡ Some x → past_void d ts ≡ None
parameter_no_void d ts x e = go (past_void d ts) refl
  where
    go : (o : Option (List Token)) → past_void d ts ≡ o → past_void d ts ≡ None
    go None h = h
    go (Some us) h =
        let (vs, o, h1) = bind_some (past_test d is_void ts) _ _ h in
        let t = past_test_is d is_void ts vs refl o in
        let c = past_is d Close vs us h1 in
        let none = ap (parameter_front d) (t.split ∙ ap (λ y. t.token ∷ y) c.split) ∙ void_no_parameter d t.token c.token us t.is c.is in
        absurd (cc (none, e))

parameters_complete : (d : Dialect) (w : Parameters) (r : List Object) (us : List Token) → ParametersFit d w → parameters_say d w ≡ Some r → parameters_front d (spell_parameters w us) ≡ Some (r, us)
parameters_complete d (NoParameters c) r us f e = rw f (ap (λ x. Some (x, us)) (same_some _ _ e))
parameters_complete d (VoidParameters t c) r us f e = rw (void_is (symbol_of d t) f.0, f.1) (ap (λ x. Some (x, us)) (same_some _ _ e))
parameters_complete d (SomeParameters p others c) r us f e =
    let (o, oe, e1) = bind_some (parameter_says d p) _ _ e in
    let ts : List Token = c ∷ us in
    let last : Separated d ts = record { sign = Close; stops = refl; is = f.2 } in
    let row : List Token = spell_each (spell_next spell_parameter) others ts in
    let first = parameter_complete d p o row f.0 (row_separated d (ParameterFits d) spell_parameter others ts f.1 last) oe in
    let more =
    row_complete d (past d Comma) (parameter_front d) (ParameterFits d) spell_parameter (parameter_says d) (parameters_shrink d) (Separated d) (next_separated d (ParameterFits d) spell_parameter)
    (λ i us f h. rw (f.0) refl) (λ i r us f h e. parameter_complete d i r us f h e) others o r ts f.1 last (rw (f.2) refl) e1 in
    rw (parameter_no_close d (spell_parameter p row) (o, row) first, parameter_no_void d (spell_parameter p row) (o, row) first) (bind_to _ _ _ _ first (bind_to _ _ _ _ more (rw (f.2) refl)))

pub heading_complete : (d : Dialect) (w : WrittenHeading) (r : Definition) (us : List Token) → HeadingFits d w → is_attribute (front d us) ≡ false → heading_says d w ≡ Some r →
    heading_front d (spell_heading w us) ≡ Some (r, us)
unfolding heading_front
heading_complete d w r us f stop e =
    let (s, se, e1) = bind_some (specifiers_say d w.specifiers) _ _ e in
    let (ps, pe, e2) = bind_some (parameters_say d w.parameters) _ _ e1 in
    let (a, ae, e3) = bind_some (says_each group_says s.align w.groups) _ _ e2 in
    let ts : List Token = spell_each spell_group w.groups us in
    let us' : List Token = w.bracket ∷ spell_parameters w.parameters ts in
    let specifiers = specifiers_complete d w.specifiers nothing_said s (spell_pointing w.pointing (w.name ∷ us')) f.0 (pointing_begins d w.pointing w.name us' f.1 f.2) se in
    let pointing = pointing_complete d w.pointing w.name us' f.1 f.2 in
    let params = parameters_complete d w.parameters ps ts f.4 pe in
    let groups = groups_complete d w.groups s.align a us f.5 stop ae in
    bind_to _ _ _ _ specifiers (rw (pointing, f.2, f.3, params, groups, e3) refl)

-- nothing declares an object without a word of its type
typeless : (s : Specifiers) (star : Option Bool) (extent : Extent) → base_of s ≡ None → object_type s star extent ≡ None
typeless s None Single e = rw e refl
typeless s None Unbounded e = rw e refl
typeless s None (Bounded n) e = rw e refl
typeless s (Some c) Single e = rw e refl
typeless s (Some c) Unbounded e = refl
typeless s (Some c) (Bounded n) e = refl

cond_none : {A : Type 0} (b : Bool) (o : Option A) → o ≡ None → cond b o None ≡ None
cond_none true o e = e
cond_none false o e = refl

nothing_to : {A B : Type 0} (o : Option A) (f : A → Option B) → o ≡ None → (o >>= f) ≡ None
nothing_to o f e = ap (λ p. p >>= f) e

no_object : (x : Declarator) (i : Initial) → object nothing_said x i ≡ None
no_object x i = cond_none (has_length x.extent i.list) _ (nothing_to _ _ (typeless no_specifiers x.star x.extent refl))

bind_none : {A B : Type 0} (o : Option A) (f : A → Option B) → ((x : A) → f x ≡ None) → (o >>= f) ≡ None
bind_none None f h = refl
bind_none (Some x) f h = h x

no_initialised : (d : Dialect) (ts : List Token) → initialised_front d nothing_said ts ≡ None
no_initialised d ts =
    bind_none (declarator_front d None ts) _ (λ x. bind_none (initialiser_front d (is_array x.0.extent) x.1) _ (λ i. ap (λ o. with_rest o i.1) (no_object x.0 i.0)))

-- a declaration begins with a word of specifiers, and so do a heading and an object at file scope
pub no_declaration : (d : Dialect) (ts : List Token) → begins_declaration (front d ts) ≡ false → declaration_front d ts ≡ None
unfolding declaration_front
no_declaration d ts e = bind_to _ _ _ _ (specifiers_none d nothing_said ts e) (ap (λ o. o >>= λ x. more_objects d nothing_said (x.0 ∷ []) x.1 >>= λ all. past d Semicolon all.1 >>= λ us. Some (all.0, us)) (no_initialised d ts))

pub no_table : (d : Dialect) (ts : List Token) → begins_declaration (front d ts) ≡ false → object_front d ts ≡ None
unfolding object_front
no_table d ts e = bind_to _ _ _ _ (specifiers_none d nothing_said ts e) (ap (λ o. o >>= λ x. past d Semicolon x.1 >>= λ us. with_rest (table nothing_said x.0) us) (no_initialised d ts))

no_definition : (star : Option Bool) (name : Token) (params : List Object) (align : Option Tree) → heading nothing_said star name params align ≡ None
no_definition star name params (Some a) = refl
no_definition star name params None = rw (typeless no_specifiers star Single refl) refl

pub no_heading : (d : Dialect) (ts : List Token) → begins_declaration (front d ts) ≡ false → heading_front d ts ≡ None
unfolding heading_front
no_heading d ts e =
    bind_to _ _ _ _ (specifiers_none d nothing_said ts e)
    (bind_none (name_front d (pointing_front d ts).1) _ (λ x. bind_none (past d Open x.1) _ (λ us. bind_none (parameters_front d us) _ (λ ps. bind_none (groups_front d None ps.1) _ (λ a.
    ap (λ o. with_rest o a.1) (no_definition (pointing_front d ts).0 x.0 ps.0 a.0))))))

-- what stands behind the name of an object opens no parameters
groups_open : (d : Dialect) (all : List Group) (us : List Token) → Each (GroupFits d) all → past d Open us ≡ None → past d Open (spell_each spell_group all us) ≡ None
groups_open d [] us f stop = stop
groups_open d (g ∷ all) us f stop = rw (attribute_is (symbol_of d g.word) f.0.0) refl

brackets_open : (d : Dialect) (w : Brackets) (us : List Token) → BracketsFit d w → past d Open us ≡ None → past d Open (spell_brackets w us) ≡ None
brackets_open d NoBrackets us f stop = stop
brackets_open d (Empty o c) us f stop = rw (f.0) refl
brackets_open d (Length o a c) us f stop = rw (f.0) refl

initialiser_open : (d : Dialect) (array : Bool) (w : Initialiser) (us : List Token) → InitialiserFits d array w → past d Open us ≡ None → past d Open (spell_initialiser w us) ≡ None
initialiser_open d array NoInitialiser us f stop = stop
initialiser_open d array (Value e a) us f stop = rw (equals_is (symbol_of d e) f.1) refl
initialiser_open d array (Values e o a others comma c) us f stop = rw (equals_is (symbol_of d e) f.1) refl

-- an object at file scope is no function's heading
pub object_no_heading : (d : Dialect) (w : WrittenTable) (r : Object × Bool) (us : List Token) → TableFits d w → table_says d w ≡ Some r → heading_front d (spell_table w us) ≡ None
unfolding heading_front
object_no_heading d w r us f e =
    let (q, qe, e1) = bind_some (specifiers_say d w.specifiers) _ _ e in
    let x : WrittenDeclarator = w.only.declarator in
    let ts : List Token = w.semicolon ∷ us in
    let rest : List Token = spell_brackets x.brackets (spell_each spell_group x.groups (spell_initialiser w.only.initialiser ts)) in
    let specifiers = specifiers_complete d w.specifiers nothing_said q (spell_object w.only ts) f.0 (declarator_begins d x (spell_initialiser w.only.initialiser ts) f.1.0) qe in
    let pointing = pointing_complete d x.pointing x.name rest f.1.0.0 f.1.0.1 in
    let last = initialiser_open d (is_array (brackets_say x.brackets)) w.only.initialiser ts f.1.1 (rw (f.2) refl) in
    let shut = brackets_open d x.brackets _ f.1.0.2 (groups_open d x.groups _ f.1.0.3 last) in
    bind_to _ _ _ _ specifiers (rw (pointing, f.1.0.1, shut) refl)
