-- Reading declarations leaves fewer tokens, and what one step of it does.
use Rattle.std.proofs.Common.{◌≡◌, ℕ, ◌+◌, ◌≤◌, ◌<◌, List, [], ◌∷◌, ◌++◌, length, Option, Some, None, ap, arith}
use Rattle.c_text.specs.declared.tokens.Dialect.{Dialect}
use Rattle.c_text.specs.declared.tokens.Token.{Token}
use Rattle.c_tree.specs.Tree.{Tree, Object}
use Rattle.c_parse.specs.declared.symbols.Sign.TheVariants.{Comma}
use Rattle.c_parse.specs.Reading.{◌>>=◌, or_else, past, Assignment, read}
use Rattle.c_parse.specs.Grammar.{Written, spell}
use Rattle.c_parse.specs.Repeated.{spell_each, spell_next}
use Rattle.c_parse.specs.Objects.{is_attribute, Specification}
use Rattle.c_parse.specs.Declarations.{Attribute, Dropped, Target, Aligned, spell_attribute, Group, spell_group, Specifier, Word, AlignAs, Attributes, spell_specifier, Pointing, Direct, Star, spell_pointing, Brackets, NoBrackets, Empty, Length, spell_brackets, WrittenDeclarator, spell_declarator, Initialiser, NoInitialiser, Value, Values, spell_optional, spell_initialiser, WrittenObject, spell_object, WrittenParameter, spell_parameter}
use Rattle.c_parse.specs.DeclarationReading.{past_test, attribute_front, attributes_front, group_behind, groups_front, specifier_front, begun, specifiers_front, and_one, past_member, member_front, members_front, initialised_front, more_objects, parameter_front, more_parameters}
use Rattle.c_parse.proofs.Fronts.{bind_some}
use Rattle.c_parse.proofs.Stable.{longer, past_shrinks}
use Rattle.c_parse.proofs.Repeats.{same_rest, repeated_eq}
use Rattle.c_parse.proofs.DeclarationsSound.{attribute_sound, group_sound, begun_is, specifier_sound, past_member_is, expression_sound, initialised_sound, parameter_sound}

each_longer : {I : Type 0} (spell : I → List Token → List Token) → ((i : I) (ts : List Token) → length ts ≤ length (spell i ts)) → (all : List I) (ts : List Token) → length ts ≤ length (spell_each spell all ts)
each_longer spell h [] ts = omega arith
each_longer spell h (i ∷ all) ts = let k = each_longer spell h all ts in let m = h i (spell_each spell all ts) in omega arith

attribute_longer : (w : Attribute) (ts : List Token) → length ts < length (spell_attribute w ts)
attribute_longer (Dropped t) ts = omega arith
attribute_longer (Target t o x c) ts = omega arith
attribute_longer (Aligned t o a c) ts = let h = longer a (c ∷ ts) in omega arith

next_attribute_longer : (w : Token × Attribute) (ts : List Token) → length ts ≤ length (spell_next spell_attribute w ts)
next_attribute_longer w ts = let h = attribute_longer w.1 ts in omega arith

group_longer : (w : Group) (ts : List Token) → length ts < length (spell_group w ts)
group_longer w ts =
    let h = each_longer (spell_next spell_attribute) next_attribute_longer w.others (w.inner_close ∷ w.outer_close ∷ ts) in
    let k = attribute_longer w.first (spell_each (spell_next spell_attribute) w.others (w.inner_close ∷ w.outer_close ∷ ts)) in
    omega arith

groups_longer : (all : List Group) (ts : List Token) → length ts ≤ length (spell_each spell_group all ts)
groups_longer all ts = each_longer spell_group (λ w ts. let h = group_longer w ts in omega arith) all ts

specifier_longer : (w : Specifier) (ts : List Token) → length ts < length (spell_specifier w ts)
specifier_longer (Word t) ts = omega arith
specifier_longer (AlignAs t o a c) ts = let h = longer a (c ∷ ts) in omega arith
specifier_longer (Attributes g) ts = group_longer g ts

specifiers_longer : (all : List Specifier) (ts : List Token) → length ts ≤ length (spell_each spell_specifier all ts)
specifiers_longer all ts = each_longer spell_specifier (λ w ts. let h = specifier_longer w ts in omega arith) all ts

words_longer : (w ts : List Token) → length ts ≤ length (w ++ ts)
words_longer [] ts = omega arith
words_longer (t ∷ w) ts = let h = words_longer w ts in omega arith

pointing_longer : (w : Pointing) (ts : List Token) → length ts ≤ length (spell_pointing w ts)
pointing_longer Direct ts = omega arith
pointing_longer (Star t qualifiers) ts = let h = words_longer qualifiers ts in omega arith

brackets_longer : (w : Brackets) (ts : List Token) → length ts ≤ length (spell_brackets w ts)
brackets_longer NoBrackets ts = omega arith
brackets_longer (Empty o c) ts = omega arith
brackets_longer (Length o a c) ts = let h = longer a (c ∷ ts) in omega arith

declarator_longer : (w : WrittenDeclarator) (ts : List Token) → length ts < length (spell_declarator w ts)
declarator_longer w ts =
    let h = groups_longer w.groups ts in
    let k = brackets_longer w.brackets (spell_each spell_group w.groups ts) in
    let m = pointing_longer w.pointing (w.name ∷ spell_brackets w.brackets (spell_each spell_group w.groups ts)) in
    omega arith

optional_longer : (w : Option Token) (ts : List Token) → length ts ≤ length (spell_optional w ts)
optional_longer None ts = omega arith
optional_longer (Some t) ts = omega arith

next_longer : (w : Token × Written) (ts : List Token) → length ts ≤ length (spell_next spell w ts)
next_longer w ts = let h = longer w.1 ts in omega arith

initialiser_longer : (w : Initialiser) (ts : List Token) → length ts ≤ length (spell_initialiser w ts)
initialiser_longer NoInitialiser ts = omega arith
initialiser_longer (Value e a) ts = let h = longer a ts in omega arith
initialiser_longer (Values e o a others comma c) ts =
    let h = optional_longer comma (c ∷ ts) in
    let k = each_longer (spell_next spell) next_longer others (spell_optional comma (c ∷ ts)) in
    let m = longer a (spell_each (spell_next spell) others (spell_optional comma (c ∷ ts))) in
    omega arith

object_longer : (w : WrittenObject) (ts : List Token) → length ts < length (spell_object w ts)
object_longer w ts = let h = initialiser_longer w.initialiser ts in let k = declarator_longer w.declarator (spell_initialiser w.initialiser ts) in omega arith

parameter_longer : (w : WrittenParameter) (ts : List Token) → length ts < length (spell_parameter w ts)
parameter_longer w ts = let h = declarator_longer w.declarator ts in let k = specifiers_longer w.specifiers (spell_declarator w.declarator ts) in omega arith

pub attributes_shrink : (d : Dialect) (s r : Option Tree) (ts us vs : List Token) → past d Comma ts ≡ Some us → attribute_front d s us ≡ Some (r, vs) → length vs < length ts
attributes_shrink d s r ts us vs o e =
    let w = attribute_sound d s r us vs e in
    let h = attribute_longer w.item vs in
    let k = past_shrinks d Comma ts us o in
    omega (arith, ap length w.spelled)

pub groups_shrink : (d : Dialect) (s r : Option Tree) (ts us vs : List Token) → past_test d is_attribute ts ≡ Some us → group_behind d s us ≡ Some (r, vs) → length vs < length ts
groups_shrink d s r ts us vs o e =
    let w = group_sound d s r ts us vs o e in
    let h = group_longer w.item vs in
    omega (arith, ap length w.spelled)

pub specifiers_shrink : (d : Dialect) (s r : Specification) (ts us vs : List Token) → begun d ts ≡ Some us → specifier_front d s us ≡ Some (r, vs) → length vs < length ts
specifiers_shrink d s r ts us vs o e =
    let w = specifier_sound d s r us vs e in
    let h = specifier_longer w.item vs in
    omega (arith, ap length w.spelled, ap length (begun_is d ts us o).1)

-- adding what was read leaves what reading it leaves
and_one_shrinks : {A : Type 0} (s r : List A) (o : Option (A × List Token)) (n : ℕ) (vs : List Token) → ((x : A) (us : List Token) → o ≡ Some (x, us) → length us < n) → and_one s o ≡ Some (r, vs) → length vs < n
and_one_shrinks s r o n vs h e =
    let (x, xe, e1) = bind_some o _ _ e in
    let k = h x.0 x.1 xe in
    omega (arith, ap length (same_rest _ _ _ _ e1))

pub members_shrink : (d : Dialect) (s r : List Tree) (ts us vs : List Token) → past_member d ts ≡ Some us → member_front d s us ≡ Some (r, vs) → length vs < length ts
members_shrink d s r ts us vs o e = and_one_shrinks s r (read d Assignment us) (length ts) vs (λ x ws f.
    let w = expression_sound d us ws x f in
    let h = longer w.item ws in
    let k = past_shrinks d Comma ts us (past_member_is d ts us o) in
    omega (arith, ap length w.spelled)) e

pub objects_shrink : (d : Dialect) (s : Specification) (all r : List Object) (ts us vs : List Token) → past d Comma ts ≡ Some us → and_one all (initialised_front d s us) ≡ Some (r, vs) → length vs < length ts
objects_shrink d s all r ts us vs o e = and_one_shrinks all r (initialised_front d s us) (length ts) vs (λ x ws f.
    let w = initialised_sound d s us ws x f in
    let h = object_longer w.item ws in
    let k = past_shrinks d Comma ts us o in
    omega (arith, ap length w.spelled)) e

pub parameters_shrink : (d : Dialect) (all r : List Object) (ts us vs : List Token) → past d Comma ts ≡ Some us → and_one all (parameter_front d us) ≡ Some (r, vs) → length vs < length ts
parameters_shrink d all r ts us vs o e = and_one_shrinks all r (parameter_front d us) (length ts) vs (λ x ws f.
    let w = parameter_sound d us ws x f in
    let h = parameter_longer w.item ws in
    let k = past_shrinks d Comma ts us o in
    omega (arith, ap length w.spelled)) e

pub attributes_eq : (d : Dialect) (s : Option Tree) (ts : List Token) → attributes_front d s ts ≡ or_else (past d Comma ts) (λ us. attribute_front d s us >>= λ x. attributes_front d x.0 x.1) (Some (s, ts))
attributes_eq d s ts = repeated_eq (past d Comma) (attribute_front d) (attributes_shrink d) s ts

pub groups_eq : (d : Dialect) (s : Option Tree) (ts : List Token) → groups_front d s ts ≡ or_else (past_test d is_attribute ts) (λ us. group_behind d s us >>= λ x. groups_front d x.0 x.1) (Some (s, ts))
groups_eq d s ts = repeated_eq (past_test d is_attribute) (group_behind d) (groups_shrink d) s ts

pub specifiers_eq : (d : Dialect) (s : Specification) (ts : List Token) → specifiers_front d s ts ≡ or_else (begun d ts) (λ us. specifier_front d s us >>= λ x. specifiers_front d x.0 x.1) (Some (s, ts))
specifiers_eq d s ts = repeated_eq (begun d) (specifier_front d) (specifiers_shrink d) s ts

pub members_eq : (d : Dialect) (s : List Tree) (ts : List Token) → members_front d s ts ≡ or_else (past_member d ts) (λ us. member_front d s us >>= λ x. members_front d x.0 x.1) (Some (s, ts))
members_eq d s ts = repeated_eq (past_member d) (member_front d) (members_shrink d) s ts

pub objects_eq : (d : Dialect) (s : Specification) (all : List Object) (ts : List Token) →
    more_objects d s all ts ≡ or_else (past d Comma ts) (λ us. and_one all (initialised_front d s us) >>= λ x. more_objects d s x.0 x.1) (Some (all, ts))
objects_eq d s all ts = repeated_eq (past d Comma) (λ os us. and_one os (initialised_front d s us)) (objects_shrink d s) all ts

pub parameters_eq : (d : Dialect) (all : List Object) (ts : List Token) →
    more_parameters d all ts ≡ or_else (past d Comma ts) (λ us. and_one all (parameter_front d us) >>= λ x. more_parameters d x.0 x.1) (Some (all, ts))
parameters_eq d all ts = repeated_eq (past d Comma) (λ os us. and_one os (parameter_front d us)) (parameters_shrink d) all ts
