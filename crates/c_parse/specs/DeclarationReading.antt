-- Reading declarations from left to right: what the parser finds, without places in memory.
use Rattle.std.specs.Prelude.{◌≡◌, Result, Ok, Err, List, [], ◌∷◌, ◌++◌, Bool, true, false, if◌then◌else◌, Option, Some, None}
use Rattle.c_text.specs.declared.tokens.Dialect.{Dialect}
use Rattle.c_text.specs.declared.tokens.Token.{Token}
use Rattle.c_text.specs.declared.tokens.TokenKind.{TokenKind}
use Rattle.c_text.specs.declared.tokens.TokenKind.TheVariants as kinds
use Rattle.c_tree.specs.Tree.{Tree, NoTrees, Object, Definition}
use Rattle.c_tree.specs.View.{and_more}
use Rattle.c_parse.specs.declared.attribute_names.AttributeName.{AttributeName}
use Rattle.c_parse.specs.declared.attribute_names.AttributeName.TheVariants as names
use Rattle.c_parse.specs.declared.symbols.Sign.TheVariants.{Open, Close, OpenSquare, CloseSquare, Comma, OpenBrace, CloseBrace, Semicolon}
use Rattle.c_parse.specs.declared.symbols.Symbol.{Symbol}
use Rattle.c_parse.specs.declared.symbols.Symbol.TheVariants as symbols
use Rattle.std.specs.Borrow.{Bor}
use Rattle.c_parse.specs.declared.nodes.Stuck.{Stuck}
use Rattle.c_parse.specs.declared.nodes.Stuck.TheVariants as stucks
use Rattle.c_parse.specs.Symbols.{symbol_of}
use Rattle.c_parse.specs.Reading.{◌>>=◌, or_else, front, behind, is_sign, past, name_front, is_star, with_rest, Assignment, read}
use Rattle.c_parse.specs.Repeated.{repeated}
use Rattle.c_parse.specs.Objects.{attribute_of, is_align_as, is_attribute, is_void, is_equals, begins_declaration, Specification, nothing_said, word_says, align_once, plain, not_inline, Extent, Single, Unbounded, Bounded, is_array, Declarator, Initial, no_initial, object, parameter, table, heading}

-- what is behind a wanted token, or that it isn't there
abbrev pub Wanted : Result (Bor (List Token)) Stuck → Option (List Token) → Type 0
Wanted (Ok x) o = o ≡ Some x.now
Wanted (Err stucks.Memory) o = ⊥
Wanted (Err (stucks.Syntax n)) o = o ≡ None

-- what is behind a first token that passes a test
abbrev pub past_test : Dialect → (Symbol → Bool) → List Token → Option (List Token)
past_test d test ts = if test (front d ts) then Some (behind ts) else None

-- an alignment in brackets, after that which the object has already
abbrev pub alignment_front : Dialect → Option Tree → List Token → Option (Option Tree × List Token)
alignment_front d s ts = past d Open ts >>= λ us. read d Assignment us >>= λ a. past d Close a.1 >>= λ vs. with_rest (align_once s a.0) vs

abbrev pub is_string : TokenKind → Bool
is_string kinds.Str = true
is_string _ = false

abbrev pub past_string : List Token → Option (List Token)
past_string [] = None
past_string (t ∷ ts) = if is_string t.kind then Some ts else None

-- behind an attribute's name
abbrev pub attribute_behind : Dialect → Option Tree → AttributeName → List Token → Option (Option Tree × List Token)
attribute_behind d s names.Dropped ts = Some (s, ts)
attribute_behind d s names.Target ts = past d Open ts >>= λ us. past_string us >>= λ vs. past d Close vs >>= λ ws. Some (s, ws)
attribute_behind d s names.Aligned ts = alignment_front d s ts

abbrev pub attribute_front : Dialect → Option Tree → List Token → Option (Option Tree × List Token)
attribute_front d s [] = None
attribute_front d s (t ∷ ts) = attribute_of d t >>= λ a. attribute_behind d s a ts

-- attributes behind an attribute, each with a comma before it
abbrev pub attributes_front : Dialect → Option Tree → List Token → Option (Option Tree × List Token)
attributes_front d s ts = repeated (past d Comma) (attribute_front d) s ts

-- behind `__attribute__`
abbrev pub group_behind : Dialect → Option Tree → List Token → Option (Option Tree × List Token)
group_behind d s ts =
    past d Open ts >>= λ us. past d Open us >>= λ vs. attribute_front d s vs >>= λ a. attributes_front d a.0 a.1 >>= λ r.
    past d Close r.1 >>= λ ws. past d Close ws >>= λ xs. Some (r.0, xs)

-- attributes behind a declarator
abbrev pub groups_front : Dialect → Option Tree → List Token → Option (Option Tree × List Token)
groups_front d s ts = repeated (past_test d is_attribute) (group_behind d) s ts

abbrev pub with_alignment : Specification → Option (Option Tree × List Token) → Option (Specification × List Token)
with_alignment s o = o >>= λ a. Some (record s { align = a.0 }, a.1)

abbrev pub word_front : Dialect → Specification → List Token → Option (Specification × List Token)
word_front d s ts = with_rest (word_says s (front d ts)) (behind ts)

abbrev pub specifier_front : Dialect → Specification → List Token → Option (Specification × List Token)
specifier_front d s ts = or_else (past_test d is_align_as ts)
    (λ us. with_alignment s (alignment_front d s.align us))
    (or_else (past_test d is_attribute ts) (λ us. with_alignment s (group_behind d s.align us)) (word_front d s ts))

-- these tokens, where they begin a declaration
abbrev pub begun : Dialect → List Token → Option (List Token)
begun d ts = if begins_declaration (front d ts) then Some ts else None

-- the specifiers in front, after some
abbrev pub specifiers_front : Dialect → Specification → List Token → Option (Specification × List Token)
specifiers_front d s ts = repeated (begun d) (specifier_front d) s ts

-- a qualifier of a pointer, and whether the pointer is const with it
abbrev pub qualify : Bool → Symbol → Option Bool
qualify constant symbols.Const = Some true
qualify constant symbols.Restrict = Some constant
qualify constant _ = None

abbrev pub qualifiers_front : Dialect → Bool → List Token → Bool × List Token
qualifiers_front d constant [] = (constant, [])
qualifiers_front d constant (t ∷ ts) = or_else (qualify constant (symbol_of d t)) (λ c. qualifiers_front d c ts) (constant, t ∷ ts)

-- the `*` in front, if there is one, with its qualifiers
abbrev pub pointing_front : Dialect → List Token → Option Bool × List Token
pointing_front d ts = or_else (past_test d is_star ts) (λ us. (Some (qualifiers_front d false us).0, (qualifiers_front d false us).1)) (None, ts)

abbrev pub brackets_front : Dialect → List Token → Option (Extent × List Token)
brackets_front d ts = or_else (past d OpenSquare ts)
    (λ us. or_else (past d CloseSquare us)
    (λ vs. Some (Unbounded, vs))
    (read d Assignment us >>= λ a. past d CloseSquare a.1 >>= λ vs. Some (Bounded a.0, vs)))
    (Some (Single, ts))

-- a declarator, behind specifiers with this alignment
abbrev pub declarator_front : Dialect → Option Tree → List Token → Option (Declarator × List Token)
declarator_front d align ts =
    name_front d (pointing_front d ts).1 >>= λ x. brackets_front d x.1 >>= λ e. groups_front d align e.1 >>= λ a.
    Some (record { star = (pointing_front d ts).0; place = x.0.place; name = x.0.text; extent = e.0; align = a.0 }, a.1)

-- these, and one more at their end
abbrev pub and_one : {A : Type 0} → List A → Option (A × List Token) → Option (List A × List Token)
and_one all o = o >>= λ x. Some (all ++ (x.0 ∷ []), x.1)

-- behind a comma, where no brace closes the list there
abbrev pub past_member : Dialect → List Token → Option (List Token)
past_member d ts = past d Comma ts >>= λ us. if is_sign CloseBrace (front d us) then None else Some us

abbrev pub member_front : Dialect → List Tree → List Token → Option (List Tree × List Token)
member_front d all ts = and_one all (read d Assignment ts)

abbrev pub members_front : Dialect → List Tree → List Token → Option (List Tree × List Token)
members_front d all ts = repeated (past_member d) (member_front d) all ts

-- behind a comma, if there is one
abbrev pub past_optional : Dialect → List Token → List Token
past_optional d ts = or_else (past d Comma ts) (λ us. us) ts

-- a list of initialisers in braces
abbrev pub list_front : Dialect → List Token → Option (List Tree × List Token)
list_front d ts =
    past d OpenBrace ts >>= λ us. read d Assignment us >>= λ a. members_front d (a.0 ∷ []) a.1 >>= λ r.
    past d CloseBrace (past_optional d r.1) >>= λ vs. Some (r.0, vs)

-- behind `=`
abbrev pub initialiser_behind : Dialect → Bool → List Token → Option (Initial × List Token)
initialiser_behind d true ts = list_front d ts >>= λ l. Some (record { init = None; list = Some (and_more l.0 NoTrees) }, l.1)
initialiser_behind d false ts = read d Assignment ts >>= λ a. Some (record { init = Some a.0; list = None }, a.1)

abbrev pub initialiser_front : Dialect → Bool → List Token → Option (Initial × List Token)
initialiser_front d array ts = or_else (past_test d is_equals ts) (initialiser_behind d array) (Some (no_initial, ts))

-- a declarator with its initialiser
abbrev pub initialised_front : Dialect → Specification → List Token → Option (Object × List Token)
initialised_front d s ts =
    declarator_front d s.align ts >>= λ x. initialiser_front d (is_array x.0.extent) x.1 >>= λ i. with_rest (object s x.0 i.0) i.1

abbrev pub more_objects : Dialect → Specification → List Object → List Token → Option (List Object × List Token)
more_objects d s all ts = repeated (past d Comma) (λ os us. and_one os (initialised_front d s us)) all ts

-- a declaration in a block
unfoldable pub declaration_front : Dialect → List Token → Option (List Object × List Token)
declaration_front d ts =
    specifiers_front d nothing_said ts >>= λ r. plain r.0 >>= λ s. initialised_front d s r.1 >>= λ o. more_objects d s (o.0 ∷ []) o.1 >>= λ all.
    past d Semicolon all.1 >>= λ us. Some (all.0, us)

-- an object at file scope
unfoldable pub object_front : Dialect → List Token → Option ((Object × Bool) × List Token)
object_front d ts =
    specifiers_front d nothing_said ts >>= λ r. not_inline r.0 >>= λ s. initialised_front d s r.1 >>= λ o. past d Semicolon o.1 >>= λ us.
    with_rest (table s o.0) us

abbrev pub parameter_front : Dialect → List Token → Option (Object × List Token)
parameter_front d ts =
    specifiers_front d nothing_said ts >>= λ r. plain r.0 >>= λ s. declarator_front d s.align r.1 >>= λ x. with_rest (parameter s.words x.0) x.1

abbrev pub more_parameters : Dialect → List Object → List Token → Option (List Object × List Token)
more_parameters d all ts = repeated (past d Comma) (λ os us. and_one os (parameter_front d us)) all ts

-- behind `void` and a closing bracket
abbrev pub past_void : Dialect → List Token → Option (List Token)
past_void d ts = past_test d is_void ts >>= λ us. past d Close us

-- the parameters behind a bracket, and the bracket that closes them
abbrev pub parameters_front : Dialect → List Token → Option (List Object × List Token)
parameters_front d ts = or_else (past d Close ts)
    (λ us. Some ([], us))
    (or_else (past_void d ts)
    (λ us. Some ([], us))
    (parameter_front d ts >>= λ p. more_parameters d (p.0 ∷ []) p.1 >>= λ all. past d Close all.1 >>= λ us. Some (all.0, us)))

-- the heading of a function
unfoldable pub heading_front : Dialect → List Token → Option (Definition × List Token)
heading_front d ts =
    specifiers_front d nothing_said ts >>= λ s. name_front d (pointing_front d s.1).1 >>= λ x. past d Open x.1 >>= λ us.
    parameters_front d us >>= λ ps. groups_front d s.0.align ps.1 >>= λ a.
    with_rest (heading s.0 (pointing_front d s.1).0 x.0 ps.0 a.0) a.1
