-- What is written of a declaration is read.
use Rattle.std.proofs.Common.{◌≡◌, ◌+◌, List, [], ◌∷◌, ◌++◌, Option, Some, None, refl, ◌∙◌, ap, Bool, true, false, ◌||◌}
use Rattle.std.specs.List.{list_any}
use Rattle.c_text.specs.declared.tokens.Dialect.{Dialect}
use Rattle.c_text.specs.declared.tokens.Token.{Token}
use Rattle.c_tree.specs.Tree.{Tree}
use Rattle.c_parse.specs.declared.symbols.Sign.{Sign}
use Rattle.c_parse.specs.declared.symbols.Sign.TheVariants.{Open, Close, OpenSquare, CloseSquare, Comma}
use Rattle.c_parse.specs.declared.symbols.Symbol.{Symbol}
use Rattle.c_parse.specs.declared.symbols.Symbol.TheVariants as symbols
use Rattle.c_parse.specs.declared.symbols.Word.TheVariants as keywords
use Rattle.c_parse.specs.Symbols.{symbol_of}
use Rattle.c_parse.specs.Reading.{front, behind, past, is_qualifier}
use Rattle.c_parse.specs.Grammar.{Written, Is, IsName, Fits, spell, tree}
use Rattle.c_parse.specs.Repeated.{Each, spell_each, spell_next, says_each}
use Rattle.c_parse.specs.Objects.{is_specifier, is_align_as, is_attribute, is_const, begins_declaration, Specification, align_once, Declarator}
use Rattle.c_parse.specs.Declarations.{NextFits, next_says, Attribute, Dropped, Target, Aligned, AttributeFits, spell_attribute, attribute_says, Group, GroupFits, spell_group, group_says, Specifier, Word, AlignAs, Attributes, SpecifierFits, spell_specifier, specifier_says, Pointing, Direct, Star, QualifierFits, PointingFits, spell_pointing, pointing_says, Brackets, NoBrackets, Empty, Length, BracketsFit, spell_brackets, brackets_say, WrittenDeclarator, DeclaratorFits, spell_declarator, declarator_says}
use Rattle.c_parse.specs.DeclarationReading.{past_test, alignment_front, attribute_front, attributes_front, group_behind, groups_front, specifier_front, begun, specifiers_front, qualify, qualifiers_front, pointing_front, brackets_front, declarator_front}
use Rattle.c_parse.proofs.Fronts.{bind_some}
use Rattle.c_parse.proofs.Complete.{Ends, assignment_complete}
use Rattle.c_parse.proofs.Endings.{closes, sign_ends, expression_begins, begins_no_sign}
use Rattle.c_parse.proofs.Repeats.{Goes, same_some, repeated_complete}
use Rattle.c_parse.proofs.DeclarationsShorter.{attributes_shrink, groups_shrink, specifiers_shrink}

abbrev Anything : List Token → Type 0
Anything ts = Unit {0}

-- a closing mark ends an expression
pub token_ends : (d : Dialect) (s : Sign) (t : Token) (ts : List Token) → closes s ≡ true → Is d s t → Ends d (t ∷ ts)
token_ends d s t ts c e = sign_ends d s (t ∷ ts) c e

alignment_complete : (d : Dialect) (o : Token) (a : Written) (c : Token) (s r : Option Tree) (us : List Token) → Is d Open o × Fits d 1 a × Is d Close c → align_once s (tree a) ≡ Some r →
    alignment_front d s (o ∷ spell a (c ∷ us)) ≡ Some (r, us)
alignment_complete d o a c s r us f e = rw (f.0, assignment_complete d a (c ∷ us) f.1 (token_ends d Close c us refl f.2), f.2, e) refl

attribute_complete : (d : Dialect) (w : Attribute) (s r : Option Tree) (us : List Token) → AttributeFits d w → attribute_says s w ≡ Some r → attribute_front d s (spell_attribute w us) ≡ Some (r, us)
attribute_complete d (Dropped t) s r us f e = rw f (ap (λ x. Some (x, us)) (same_some _ _ e))
attribute_complete d (Target t o x c) s r us f e = rw (f.0, f.1, f.2, f.3) (ap (λ x. Some (x, us)) (same_some _ _ e))
attribute_complete d (Aligned t o a c) s r us f e = rw (f.0) (alignment_complete d o a c s r us (f.1, f.2, f.3) e)

next_attribute : (d : Dialect) (w : Token × Attribute) (s r : Option Tree) (us : List Token) → NextFits d (AttributeFits d) w → next_says attribute_says s w ≡ Some r →
    Goes (past d Comma) (attribute_front d) s r (spell_next spell_attribute w us) us
next_attribute d w s r us f e = record { behind = spell_attribute w.1 us; on = rw (f.0) refl; reads = attribute_complete d w.1 s r us f.1 e }

attributes_complete : (d : Dialect) (all : List (Token × Attribute)) (s r : Option Tree) (us : List Token) → Each (NextFits d (AttributeFits d)) all → past d Comma us ≡ None →
    says_each (next_says attribute_says) s all ≡ Some r → attributes_front d s (spell_each (spell_next spell_attribute) all us) ≡ Some (r, us)
attributes_complete d all s r us f stop e =
    repeated_complete (past d Comma) (attribute_front d) (NextFits d (AttributeFits d)) (spell_next spell_attribute) (next_says attribute_says) (attributes_shrink d)
    Anything (λ i ts f. tt) (λ i s r us f h e. next_attribute d i s r us f e) all s r us f tt stop e

group_behind_complete : (d : Dialect) (g : Group) (s r : Option Tree) (us : List Token) → GroupFits d g → group_says s g ≡ Some r →
    group_behind d s (g.outer ∷ g.inner ∷ spell_attribute g.first (spell_each (spell_next spell_attribute) g.others (g.inner_close ∷ g.outer_close ∷ us))) ≡ Some (r, us)
group_behind_complete d g s r us f e =
    let (x, xe, e1) = bind_some (attribute_says s g.first) _ _ e in
    let ts : List Token = g.inner_close ∷ g.outer_close ∷ us in
    let first = attribute_complete d g.first s x (spell_each (spell_next spell_attribute) g.others ts) f.3 xe in
    let others = attributes_complete d g.others x r ts f.4 (rw (f.5) refl) e1 in
    rw (f.1, f.2, first, others, f.5, f.6) refl

group_complete : (d : Dialect) (g : Group) (s r : Option Tree) (us : List Token) → GroupFits d g → group_says s g ≡ Some r → Goes (past_test d is_attribute) (group_behind d) s r (spell_group g us) us
group_complete d g s r us f e =
    record {
      behind = g.outer ∷ g.inner ∷ spell_attribute g.first (spell_each (spell_next spell_attribute) g.others (g.inner_close ∷ g.outer_close ∷ us));
      on = rw (f.0) refl;
      reads = group_behind_complete d g s r us f e;
    }

pub groups_complete : (d : Dialect) (all : List Group) (s r : Option Tree) (us : List Token) → Each (GroupFits d) all → is_attribute (front d us) ≡ false → says_each group_says s all ≡ Some r →
    groups_front d s (spell_each spell_group all us) ≡ Some (r, us)
groups_complete d all s r us f stop e =
    repeated_complete (past_test d is_attribute) (group_behind d) (GroupFits d) spell_group group_says (groups_shrink d) Anything (λ i ts f. tt) (λ i s r us f h e. group_complete d i s r us f e)
    all s r us f tt (rw stop refl) e

-- what a specifier's first token is
record Alone (m : Symbol) : Type 0 where
  align : is_align_as m ≡ false
  attribute : is_attribute m ≡ false

alone : (m : Symbol) → is_specifier m ≡ true → Alone m
alone (symbols.Type w) e = record { align = refl; attribute = refl }
alone symbols.Const e = record { align = refl; attribute = refl }
alone (symbols.Word keywords.Static) e = record { align = refl; attribute = refl }
alone (symbols.Word keywords.Inline) e = record { align = refl; attribute = refl }
alone (symbols.Word _) e = absurd (cc)
alone _ e = absurd (cc)

align_is : (m : Symbol) → is_align_as m ≡ true → m ≡ symbols.Word keywords.AlignAs
align_is (symbols.Word keywords.AlignAs) e = refl
align_is (symbols.Word _) e = absurd (cc)
align_is _ e = absurd (cc)

pub attribute_is : (m : Symbol) → is_attribute m ≡ true → m ≡ symbols.Word keywords.Attribute
attribute_is (symbols.Word keywords.Attribute) e = refl
attribute_is (symbols.Word _) e = absurd (cc)
attribute_is _ e = absurd (cc)

specifier_complete : (d : Dialect) (w : Specifier) (s r : Specification) (us : List Token) → SpecifierFits d w → specifier_says d s w ≡ Some r →
    Goes (begun d) (specifier_front d) s r (spell_specifier w us) us
specifier_complete d (Word t) s r us f e =
    let h = alone (symbol_of d t) f in
    record { behind = t ∷ us; on = rw f refl; reads = rw (h.align, h.attribute, e) refl }
specifier_complete d (AlignAs t o a c) s r us f e =
    let (b, be, e1) = bind_some (align_once s.align (tree a)) _ _ e in
    let word = align_is (symbol_of d t) f.0 in
    let reads = alignment_complete d o a c s.align b us (f.1, f.2, f.3) be in
    record { behind = t ∷ o ∷ spell a (c ∷ us); on = rw word refl; reads = rw (word, reads) (ap (λ x. Some (x, us)) (same_some _ _ e1)) }
specifier_complete d (Attributes g) s r us f e =
    let (b, be, e1) = bind_some (group_says s.align g) _ _ e in
    let word = attribute_is (symbol_of d g.word) f.0 in
    let reads = group_behind_complete d g s.align b us f be in
    record { behind = spell_group g us; on = rw word refl; reads = rw (word, reads) (ap (λ x. Some (x, us)) (same_some _ _ e1)) }

pub specifiers_complete : (d : Dialect) (all : List Specifier) (s r : Specification) (us : List Token) → Each (SpecifierFits d) all → begins_declaration (front d us) ≡ false → says_each (specifier_says d) s all ≡ Some r →
    specifiers_front d s (spell_each spell_specifier all us) ≡ Some (r, us)
specifiers_complete d all s r us f stop e =
    repeated_complete (begun d) (specifier_front d) (SpecifierFits d) spell_specifier (specifier_says d) (specifiers_shrink d) Anything (λ i ts f. tt) (λ i s r us f h e. specifier_complete d i s r us f e)
    all s r us f tt (rw stop refl) e

qualify_more : (constant : Bool) (m : Symbol) → is_qualifier m ≡ true → qualify constant m ≡ Some (constant || is_const m)
qualify_more true symbols.Const e = refl
qualify_more false symbols.Const e = refl
qualify_more true symbols.Restrict e = refl
qualify_more false symbols.Restrict e = refl
qualify_more constant _ e = absurd (cc)

or_joined : (a b c : Bool) → (a || b) || c ≡ a || (b || c)
or_joined true b c = refl
or_joined false b c = refl

or_false : (a : Bool) → a ≡ a || false
or_false true = refl
or_false false = refl

qualifiers_complete : (d : Dialect) (constant : Bool) (all : List Token) (x : Token) (us : List Token) → Each (QualifierFits d) all → IsName d x →
    qualifiers_front d constant (all ++ x ∷ us) ≡ (constant || list_any (λ q. is_const (symbol_of d q)) all, x ∷ us)
qualifiers_complete d constant [] x us f name = rw name (ap (λ b. (b, x ∷ us)) (or_false constant))
qualifiers_complete d constant (t ∷ all) x us f name =
    rw (qualify_more constant (symbol_of d t) f.0)
    (qualifiers_complete d (constant || is_const (symbol_of d t)) all x us f.1 name
    ∙ ap (λ b. (b, x ∷ us)) (or_joined constant (is_const (symbol_of d t)) (list_any (λ q. is_const (symbol_of d q)) all)))

pub pointing_complete : (d : Dialect) (w : Pointing) (x : Token) (us : List Token) → PointingFits d w → IsName d x → pointing_front d (spell_pointing w (x ∷ us)) ≡ (pointing_says d w, x ∷ us)
pointing_complete d Direct x us f name = rw name refl
pointing_complete d (Star t all) x us f name = rw (f.0, qualifiers_complete d false all x us f.1 name) refl

brackets_complete : (d : Dialect) (w : Brackets) (us : List Token) → BracketsFit d w → past d OpenSquare us ≡ None → brackets_front d (spell_brackets w us) ≡ Some (brackets_say w, us)
brackets_complete d NoBrackets us f stop = rw stop refl
brackets_complete d (Empty o c) us f stop = rw (f.0, f.1) refl
brackets_complete d (Length o a c) us f stop =
    let ends = token_ends d CloseSquare c us refl f.2 in
    let some = begins_no_sign d CloseSquare (spell a (c ∷ us)) refl (expression_begins d a (c ∷ us) f.1 ends) in
    rw (f.0, some, assignment_complete d a (c ∷ us) f.1 ends, f.2) refl

-- nothing here goes on with a declarator
pub record Behind (d : Dialect) (us : List Token) : Type 0 where
  pub square : past d OpenSquare us ≡ None
  pub attribute : is_attribute (front d us) ≡ false

groups_square : (d : Dialect) (all : List Group) (us : List Token) → Each (GroupFits d) all → past d OpenSquare us ≡ None → past d OpenSquare (spell_each spell_group all us) ≡ None
groups_square d [] us f stop = stop
groups_square d (g ∷ all) us f stop = rw (attribute_is (symbol_of d g.word) f.0.0) refl

pub declarator_complete : (d : Dialect) (w : WrittenDeclarator) (align : Option Tree) (r : Declarator) (us : List Token) → DeclaratorFits d w → Behind d us → declarator_says d align w ≡ Some r →
    declarator_front d align (spell_declarator w us) ≡ Some (r, us)
declarator_complete d w align r us f stop e =
    let (a, ae, e1) = bind_some (says_each group_says align w.groups) _ _ e in
    let ts : List Token = spell_each spell_group w.groups us in
    let pointing = pointing_complete d w.pointing w.name (spell_brackets w.brackets ts) f.0 f.1 in
    let brackets = brackets_complete d w.brackets ts f.2 (groups_square d w.groups us f.3 stop.square) in
    let groups = groups_complete d w.groups align a us f.3 stop.attribute ae in
    rw (pointing, f.1, brackets, groups) (ap (λ x. Some (x, us)) (same_some _ _ e1))
