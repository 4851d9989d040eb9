-- What is written of rows, initialisers and objects is read.
use Rattle.std.proofs.Common.{◌≡◌, ◌+◌, ◌<◌, List, [], ◌∷◌, ◌++◌, length, map, Option, Some, None, refl, sym, ◌∙◌, ap, Bool, true, false, cond}
use Rattle.c_text.specs.declared.tokens.Dialect.{Dialect}
use Rattle.c_text.specs.declared.tokens.Token.{Token}
use Rattle.c_tree.specs.Tree.{Tree, Object}
use Rattle.c_parse.specs.declared.symbols.Sign.{Sign}
use Rattle.c_parse.specs.declared.symbols.Sign.TheVariants as signs
use Rattle.c_parse.specs.declared.symbols.Sign.TheVariants.{Close, OpenSquare, Comma, CloseBrace, Semicolon}
use Rattle.c_parse.specs.declared.symbols.Symbol.{Symbol}
use Rattle.c_parse.specs.declared.symbols.Symbol.TheVariants as symbols
use Rattle.c_parse.specs.Symbols.{symbol_of}
use Rattle.c_parse.specs.Reading.{◌>>=◌, or_else, front, behind, is_sign, with_rest, Assignment, read}
use Rattle.c_parse.specs.Grammar.{Written, Is, Fits, spell, tree}
use Rattle.c_parse.specs.Repeated.{Each, spell_each, spell_next, says_each, means_each, repeated}
use Rattle.c_parse.specs.Objects.{is_equals, Specification, Single, is_array, Declarator}
use Rattle.c_parse.specs.Declarations.{NextFits, group_says, brackets_say, declarator_says}
use Rattle.c_parse.specs.Declarations.{Initialiser, NoInitialiser, Value, Values, OptionalComma, InitialiserFits, spell_optional, spell_initialiser, initialiser_says, WrittenObject, ObjectFits, spell_object, object_says}
use Rattle.c_parse.specs.DeclarationReading.{and_one, past_member, members_front, past_optional, initialiser_front, initialised_front}
use Rattle.c_parse.proofs.Fronts.{bind_some}
use Rattle.c_parse.proofs.Complete.{Ends, assignment_complete}
use Rattle.c_parse.proofs.Endings.{closes, sign_ends, expression_begins, begins_no_sign}
use Rattle.c_parse.proofs.Repeats.{Goes, same_some, repeated_complete, means_added, means_map}
use Rattle.c_parse.proofs.DeclarationsSound.{bind_to}
use Rattle.c_parse.proofs.DeclarationsComplete.{token_ends, Behind, declarator_complete}
use Rattle.c_parse.proofs.DeclarationsShorter.{members_shrink}

-- a row behind commas
pub row_complete : {I A : Type 0} (d : Dialect) (test : List Token → Option (List Token)) (one : List Token → Option (A × List Token)) (fits : I → Type 0) (spell : I → List Token → List Token) (means : I → Option A) →
    ((s r : List A) (ts us vs : List Token) → test ts ≡ Some us → and_one s (one us) ≡ Some (r, vs) → length vs < length ts) →
    (fine : List Token → Type 0) → ((i : Token × I) (ts : List Token) → NextFits d fits i → fine (spell_next spell i ts)) →
    ((i : Token × I) (us : List Token) → NextFits d fits i → fine us → test (spell_next spell i us) ≡ Some (spell i.1 us)) →
    ((i : I) (r : A) (us : List Token) → fits i → fine us → means i ≡ Some r → one (spell i us) ≡ Some (r, us)) →
    (others : List (Token × I)) (first : A) (all : List A) (us : List Token) → Each (NextFits d fits) others → fine us → test us ≡ None →
    (means_each (λ i. means i.1) others >>= λ xs. Some (first ∷ xs)) ≡ Some all →
    repeated test (λ s us. and_one s (one us)) (first ∷ []) (spell_each (spell_next spell) others us) ≡ Some (all, us)
row_complete {I = I} {A = A} d test one fits spell means shrinks fine spells on reads others first all us f h stop e =
    repeated_complete test (λ s us. and_one s (one us)) (NextFits d fits) (spell_next spell) (λ (s : List A) (i : Token × I). means i.1 >>= λ x. Some (s ++ (x ∷ []))) shrinks fine spells step
    others (first ∷ []) all us f h stop (means_added (λ (i : Token × I). means i.1) others (first ∷ []) ∙ e)
  where
    step : (i : Token × I) (s r : List A) (us : List Token) → NextFits d fits i → fine us → (means i.1 >>= λ x. Some (s ++ (x ∷ []))) ≡ Some r → Goes test (λ s us. and_one s (one us)) s r (spell_next spell i us) us
    step i s r us f h e =
        let (x, xe, e1) = bind_some (means i.1) _ _ e in
        record { behind = spell i.1 us; on = on i us f h; reads = rw (reads i.1 x us f.1 h xe) (ap (λ y. Some (y, us)) (same_some _ _ e1)) }

next_ends : {I : Type 0} (d : Dialect) (fits : I → Type 0) (spell : I → List Token → List Token) (i : Token × I) (ts : List Token) → NextFits d fits i → Ends d (spell_next spell i ts)
next_ends d fits spell i ts f = token_ends d Comma i.0 (spell i.1 ts) refl f.0

member_on : (d : Dialect) (i : Token × Written) (us : List Token) → NextFits d (Fits d 1) i → Ends d us → past_member d (spell_next spell i us) ≡ Some (spell i.1 us)
member_on d i us f h =
    let none = begins_no_sign d CloseBrace (spell i.1 us) refl (expression_begins d i.1 us f.1 h) in
    rw (f.0) (go (is_sign CloseBrace (front d (spell i.1 us))) none)
  where
    go : (b : Bool) → cond b (Some (behind (spell i.1 us))) None ≡ None → cond b None (Some (spell i.1 us)) ≡ Some (spell i.1 us)
    go true e = absurd (cc)
    go false e = refl

members_complete : (d : Dialect) (others : List (Token × Written)) (first : Tree) (us : List Token) → Each (NextFits d (Fits d 1)) others → Ends d us → past_member d us ≡ None →
    members_front d (first ∷ []) (spell_each (spell_next spell) others us) ≡ Some (first ∷ map (λ x. tree x.1) others, us)
members_complete d others first us f h stop =
    row_complete d (past_member d) (read d Assignment) (Fits d 1) spell (λ w. Some (tree w)) (members_shrink d) (Ends d) (next_ends d (Fits d 1) spell) (member_on d)
    (λ i r us f h e. assignment_complete d i us f h ∙ ap (λ x. Some (x, us)) (same_some _ _ e)) others first (first ∷ map (λ x. tree x.1) others) us f h stop
    (ap (λ o. o >>= λ xs. Some (first ∷ xs)) (means_map (λ (x : Token × Written). tree x.1) others))

optional_ends : (d : Dialect) (comma : Option Token) (c : Token) (us : List Token) → OptionalComma d comma → Is d CloseBrace c → Ends d (spell_optional comma (c ∷ us))
optional_ends d None c us f e = token_ends d CloseBrace c us refl e
optional_ends d (Some t) c us f e = token_ends d Comma t (c ∷ us) refl f

optional_member : (d : Dialect) (comma : Option Token) (c : Token) (us : List Token) → OptionalComma d comma → Is d CloseBrace c → past_member d (spell_optional comma (c ∷ us)) ≡ None
optional_member d None c us f e = rw e refl
optional_member d (Some t) c us f e = rw (f, e) refl

optional_complete : (d : Dialect) (comma : Option Token) (c : Token) (us : List Token) → OptionalComma d comma → Is d CloseBrace c → past_optional d (spell_optional comma (c ∷ us)) ≡ c ∷ us
optional_complete d None c us f e = rw e refl
optional_complete d (Some t) c us f e = rw f refl

initialiser_complete : (d : Dialect) (array : Bool) (w : Initialiser) (us : List Token) → InitialiserFits d array w → is_equals (front d us) ≡ false → Ends d us →
    initialiser_front d array (spell_initialiser w us) ≡ Some (initialiser_says w, us)
initialiser_complete d array NoInitialiser us f stop ends = rw stop refl
initialiser_complete d array (Value e a) us f stop ends = rw (f.0, f.1, assignment_complete d a us f.2 ends) refl
initialiser_complete d array (Values e o a others comma c) us f stop ends =
    let ts : List Token = spell_optional comma (c ∷ us) in
    let close = optional_ends d comma c us f.5 f.6 in
    let first = assignment_complete d a (spell_each (spell_next spell) others ts) f.3 (row_ends others f.4 close) in
    let row = members_complete d others (tree a) ts f.4 close (optional_member d comma c us f.5 f.6) in
    rw (f.0, f.1, f.2, first, row, optional_complete d comma c us f.5 f.6, f.6) refl
  where
    row_ends : (others : List (Token × Written)) → Each (NextFits d (Fits d 1)) others → Ends d (spell_optional comma (c ∷ us)) → Ends d (spell_each (spell_next spell) others (spell_optional comma (c ∷ us)))
    row_ends [] f h = h
    row_ends (i ∷ others) f h = next_ends d (Fits d 1) spell i (spell_each (spell_next spell) others (spell_optional comma (c ∷ us))) f.0

-- the marks that stand behind an object or a parameter
abbrev pub separates : Sign → Bool
separates signs.Comma = true
separates signs.Close = true
separates signs.Semicolon = true
separates _ = false

pub record Separated (d : Dialect) (us : List Token) : Type 0 where
  pub sign : Sign
  pub stops : separates sign ≡ true
  pub is : front d us ≡ symbols.Sign sign

record Separates (s : Sign) : Type 0 where
  closes : closes s ≡ true
  square : is_sign OpenSquare (symbols.Sign s) ≡ false

separated : (s : Sign) → separates s ≡ true → Separates s
separated signs.Comma e = record { closes = refl; square = refl }
separated signs.Close e = record { closes = refl; square = refl }
separated signs.Semicolon e = record { closes = refl; square = refl }
separated _ e = absurd (cc)

pub separated_ends : (d : Dialect) (us : List Token) → Separated d us → Ends d us
separated_ends d us h = sign_ends d h.sign us (separated h.sign h.stops).closes h.is

pub separated_behind : (d : Dialect) (us : List Token) → Separated d us → Behind d us
separated_behind d us h = record { square = rw (h.is, (separated h.sign h.stops).square) refl; attribute = rw (h.is) refl }

pub equals_is : (m : Symbol) → is_equals m ≡ true → m ≡ symbols.Assign None
equals_is (symbols.Assign None) e = refl
equals_is (symbols.Assign (Some op)) e = absurd (cc)
equals_is _ e = absurd (cc)

initialiser_behind_declarator : (d : Dialect) (array : Bool) (w : Initialiser) (us : List Token) → InitialiserFits d array w → Behind d us → Behind d (spell_initialiser w us)
initialiser_behind_declarator d array NoInitialiser us f h = h
initialiser_behind_declarator d array (Value e a) us f h = let is = equals_is (symbol_of d e) f.1 in record { square = rw is refl; attribute = rw is refl }
initialiser_behind_declarator d array (Values e o a others comma c) us f h = let is = equals_is (symbol_of d e) f.1 in record { square = rw is refl; attribute = rw is refl }

pub initialised_complete : (d : Dialect) (s : Specification) (w : WrittenObject) (r : Object) (us : List Token) → ObjectFits d w → Separated d us → object_says d s w ≡ Some r →
    initialised_front d s (spell_object w us) ≡ Some (r, us)
initialised_complete d s w r us f h e =
    let (x, xe, e1) = bind_some (declarator_says d s.align w.declarator) _ _ e in
    let (a, ae, said) = bind_some (says_each group_says s.align w.declarator.groups) _ _ xe in
    let extent : brackets_say w.declarator.brackets ≡ x.extent = ap (λ (o : Option Declarator). or_else o (λ z. z.extent) Single) said in
    let array : Bool = is_array (brackets_say w.declarator.brackets) in
    let declarator = declarator_complete d w.declarator s.align x (spell_initialiser w.initialiser us) f.0 (initialiser_behind_declarator d array w.initialiser us f.1 (separated_behind d us h)) xe in
    let initialiser = initialiser_complete d array w.initialiser us f.1 (rw (h.is) refl) (separated_ends d us h) in
    bind_to _ _ _ _ declarator (bind_to _ _ _ _ (ap (λ y. initialiser_front d (is_array y) (spell_initialiser w.initialiser us)) (sym extent) ∙ initialiser) (ap (λ o. with_rest o us) e1))

pub next_separated : {I : Type 0} (d : Dialect) (fits : I → Type 0) (spell : I → List Token → List Token) (i : Token × I) (ts : List Token) → NextFits d fits i → Separated d (spell_next spell i ts)
next_separated d fits spell i ts f = record { sign = Comma; stops = refl; is = f.0 }

pub row_separated : {I : Type 0} (d : Dialect) (fits : I → Type 0) (spell : I → List Token → List Token) (all : List (Token × I)) (us : List Token) → Each (NextFits d fits) all → Separated d us →
    Separated d (spell_each (spell_next spell) all us)
row_separated d fits spell [] us f h = h
row_separated d fits spell (i ∷ all) us f h = next_separated d fits spell i (spell_each (spell_next spell) all us) f.0
