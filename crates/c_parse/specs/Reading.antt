-- Reading from left to right: what the parser finds, without places in memory.
use Rattle.std.specs.Prelude.{◌≡◌, ℕ, zero, suc, ◌+◌, ◌*◌, List, [], ◌∷◌, length, Bool, true, false, nat_le, ◌==◌, ◌&&◌, codes, bytes_eq, if◌then◌else◌, Option, Some, None, option_map, map, Result, Ok, Err, ℤ, pos, negsuc, int_le, refl}
use Rattle.std.specs.Int.Signed.{le_z_yes}
use Rattle.std.proofs.lemmas.Float.{T_from_true}
use Rattle.c_text.specs.declared.tokens.Dialect.{Dialect}
use Rattle.c_text.specs.declared.tokens.Dialect.TheVariants.{X86, Neon}
use Rattle.c_text.specs.declared.tokens.Place.{Place}
use Rattle.c_text.specs.declared.tokens.Token.{Token}
use Rattle.c_text.specs.declared.tokens.TokenKind.{TokenKind}
use Rattle.c_text.specs.declared.tokens.TokenKind.TheVariants as kinds
use Rattle.lane_core.specs.IntRange.{least, greatest}
use Rattle.lane_core.specs.declared.number.BinOp.{BinOp}
use Rattle.lane_core.specs.declared.number.BinOp.TheVariants as ops
use Rattle.lane_core.specs.declared.number.UnOp.TheVariants.{Plus, Neg, BitNot, Not}
use Rattle.lane_core.specs.declared.number.IntType.{IntType}
use Rattle.lane_core.specs.declared.number.IntType.TheVariants.{Int}
use Rattle.lane_core.specs.declared.number.Num.{Num}
use Rattle.c_constants.specs.Constant.{constant_of}
use Rattle.c_tree.specs.declared.types.CType.{CType}
use Rattle.c_tree.specs.declared.types.CType.TheVariants.{Void}
use Rattle.c_tree.specs.declared.types.CType.TheVariants as ctypes
use Rattle.c_tree.specs.Tree.{Tree, Kind, Trees, Node, Const, Name, Unary, Step, Binary, AndThen, OrElse, Choice, Assign, Comma, Cast, Index, Deref, Address, Call, Half, PairOf, SizeOfType, SizeOfName, NoTrees, More}
use Rattle.c_parse.specs.declared.nodes.Stuck.{Stuck}
use Rattle.c_parse.specs.declared.nodes.Stuck.TheVariants as stucks
use Rattle.c_parse.specs.declared.peeks.Prefix.{Prefix}
use Rattle.c_parse.specs.declared.peeks.Prefix.TheVariants as prefixes
use Rattle.std.specs.Borrow.{Bor}
use Rattle.c_tree.specs.declared.expressions.Expr.{Expr}
use Rattle.c_tree.specs.View.{view, and_more}
use Rattle.c_parse.specs.declared.symbols.Infix.{Infix}
use Rattle.c_parse.specs.declared.symbols.Infix.TheVariants as infixes
use Rattle.c_parse.specs.declared.symbols.Sign.{Sign}
use Rattle.c_parse.specs.declared.symbols.Sign.TheVariants as signs
use Rattle.c_parse.specs.declared.symbols.TypeWord.TheVariants as words
use Rattle.c_parse.specs.declared.symbols.Symbol.{Symbol}
use Rattle.c_parse.specs.declared.symbols.Symbol.TheVariants as symbols
use Rattle.c_parse.specs.declared.types.Specifiers.{Specifiers}
use Rattle.c_parse.specs.Symbols.{symbol_of}
use Rattle.c_parse.specs.Types.{counted, base_of, pointer_to}

infixl 10 ◌>>=◌
abbrev pub ◌>>=◌ : {A B : Type 0} → Option A → (A → Option B) → Option B
(Some x) >>= f = f x
None >>= f = None

abbrev pub or_else : {A B : Type 0} → Option A → (A → B) → B → B
or_else (Some x) f y = f x
or_else None f y = y

-- the first token: what it is, and where it stands
abbrev pub front : Dialect → List Token → Symbol
front d [] = symbols.Other
front d (t ∷ ts) = symbol_of d t

abbrev pub place_at : List Token → Place
place_at [] = record { line = 0; col = 0 }
place_at (t ∷ ts) = t.place

abbrev pub behind : List Token → List Token
behind [] = []
behind (t ∷ ts) = ts

-- a number for each sign
abbrev pub code : Sign → ℕ
code signs.Open = 0
code signs.Close = 1
code signs.OpenSquare = 2
code signs.CloseSquare = 3
code signs.Comma = 4
code signs.Question = 5
code signs.Colon = 6
code signs.SizeOf = 7
code signs.Dot = 8
code signs.OpenBrace = 9
code signs.CloseBrace = 10
code signs.Semicolon = 11

abbrev pub is_sign : Sign → Symbol → Bool
is_sign s (symbols.Sign r) = code s == code r
is_sign s _ = false

-- what is behind this sign
abbrev pub past : Dialect → Sign → List Token → Option (List Token)
past d s ts = if is_sign s (front d ts) then Some (behind ts) else None

-- how tight an operator between operands binds (C11 6.5.5 to 6.5.14): 1 is the assignment, 2 the choice, 13 the cast
abbrev pub level_of : Infix → ℕ
level_of infixes.OrElse = 3
level_of infixes.AndThen = 4
level_of (infixes.Operator ops.BitOr) = 5
level_of (infixes.Operator ops.BitXor) = 6
level_of (infixes.Operator ops.BitAnd) = 7
level_of (infixes.Operator ops.Eq) = 8
level_of (infixes.Operator ops.Ne) = 8
level_of (infixes.Operator ops.Lt) = 9
level_of (infixes.Operator ops.Gt) = 9
level_of (infixes.Operator ops.Le) = 9
level_of (infixes.Operator ops.Ge) = 9
level_of (infixes.Operator ops.Shl) = 10
level_of (infixes.Operator ops.Shr) = 10
level_of (infixes.Operator ops.Add) = 11
level_of (infixes.Operator ops.Sub) = 11
level_of (infixes.Operator ops.Mul) = 12
level_of (infixes.Operator ops.Div) = 12
level_of (infixes.Operator ops.Rem) = 12

abbrev pub infix_of : Symbol → Option Infix
infix_of (symbols.Infix op) = Some op
infix_of _ = None

-- the operator, if it binds at least as tight as this level
abbrev pub tight_enough : ℕ → Option Infix → Option Infix
tight_enough l None = None
tight_enough l (Some op) = if nat_le l (level_of op) then Some op else None

abbrev pub infix_at : Dialect → ℕ → List Token → Option Infix
infix_at d l ts = tight_enough l (infix_of (front d ts))

abbrev pub assignment_of : Symbol → Option (Option BinOp)
assignment_of (symbols.Assign op) = Some op
assignment_of _ = None

abbrev pub step_of : Symbol → Option Bool
step_of (symbols.Step up) = Some up
step_of _ = None

-- an operator before its operand (C11 6.5.3), with the form that it makes
abbrev pub prefix_of : Symbol → Option (Tree → Kind)
prefix_of (symbols.Infix (infixes.Operator ops.Add)) = Some (Unary Plus)
prefix_of (symbols.Infix (infixes.Operator ops.Sub)) = Some (Unary Neg)
prefix_of (symbols.Infix (infixes.Operator ops.Mul)) = Some Deref
prefix_of (symbols.Infix (infixes.Operator ops.BitAnd)) = Some Address
prefix_of symbols.Tilde = Some (Unary BitNot)
prefix_of symbols.Exclamation = Some (Unary Not)
prefix_of _ = None

-- the parser knows no types
abbrev pub node : Place → Kind → Tree
node p k = Node p Void k

abbrev pub infix_kind : Infix → Tree → Tree → Kind
infix_kind (infixes.Operator op) a b = Binary op a b
infix_kind infixes.AndThen a b = AndThen a b
infix_kind infixes.OrElse a b = OrElse a b

abbrev pub number_where : (t : IntType) (z : ℤ) (low high : Bool) → int_le (least t) z ≡ low → int_le z (greatest t) ≡ high → Option Num
number_where t z true true p q = Some (record { ty = t; value = z; in_range = (le_z_yes (T_from_true (int_le (least t) z) p), le_z_yes (T_from_true (int_le z (greatest t)) q)) })
number_where t z true false p q = None
number_where t z false high p q = None

-- the number of this type and value, if the value is in the type's range
unfoldable pub number : IntType → ℤ → Option Num
number t z = number_where t z (int_le (least t) z) (int_le z (greatest t)) refl refl

-- the number, or the negation of it
abbrev pub signed_tree : Bool → Place → Num → Tree
signed_tree false p k = node p (Const k)
signed_tree true p k = node p (Unary Neg (node p (Const k)))

-- A constant that is negative stands as the negation of its magnitude. Only character constants are (C11 6.4.4.4p10):
-- they have the type `int` and the value of a byte that is read as a signed number.
abbrev pub constant_tree : Place → IntType → ℤ → Option Tree
constant_tree p t (pos n) = option_map (signed_tree false p) (number t (pos n))
constant_tree p t (negsuc n) = if nat_le n 127 then option_map (signed_tree true p) (number Int (pos (n + 1))) else None

-- the tree of a token that is a constant
unfoldable pub constant_at : Token → Option Tree
constant_at t = constant_of t.kind t.text >>= λ c. constant_tree t.place c.0 c.1

abbrev pub constant_front : List Token → Option (Tree × List Token)
constant_front [] = None
constant_front (t ∷ ts) = constant_at t >>= λ c. Some (c, ts)

abbrev pub is_name : Symbol → Bool
is_name symbols.Name = true
is_name _ = false

abbrev pub name_front : Dialect → List Token → Option (Token × List Token)
name_front d [] = None
name_front d (t ∷ ts) = if is_name (symbol_of d t) then Some (t, ts) else None

-- the specifiers in front, after some that were counted, and what is behind them
abbrev pub specify : Specifiers → Symbol → Option Specifiers
specify s (symbols.Type w) = Some (counted s w)
specify s symbols.Const = Some (record s { constant = true })
specify s _ = None

abbrev pub specifiers_front : Dialect → Specifiers → List Token → Specifiers × List Token
specifiers_front d s [] = (s, [])
specifiers_front d s (t ∷ ts) = or_else (specify s (symbol_of d t)) (λ r. specifiers_front d r ts) (s, t ∷ ts)

abbrev pub no_specifiers : Specifiers
no_specifiers = record { char = 0; short = 0; int = 0; long = 0; signed = 0; unsigned = 0; wholes = 0; whole = Void; constant = false }

abbrev pub is_qualifier : Symbol → Bool
is_qualifier symbols.Const = true
is_qualifier symbols.Restrict = true
is_qualifier _ = false

-- what is behind the qualifiers of a pointer
abbrev pub past_qualifiers : Dialect → List Token → List Token
past_qualifiers d [] = []
past_qualifiers d (t ∷ ts) = if is_qualifier (symbol_of d t) then past_qualifiers d ts else t ∷ ts

abbrev pub is_star : Symbol → Bool
is_star (symbols.Infix (infixes.Operator ops.Mul)) = true
is_star _ = false

abbrev pub with_rest : {A : Type 0} → Option A → List Token → Option (A × List Token)
with_rest (Some x) ts = Some (x, ts)
with_rest None ts = None

abbrev pub type_behind : Dialect → Specifiers × List Token → Option (CType × List Token)
type_behind d r =
    if is_star (front d r.1) then with_rest (pointer_to (base_of r.0) r.0.constant) (past_qualifiers d (behind r.1))
    else with_rest (base_of r.0) r.1

-- the name of a type in front, and what is behind it: specifiers, and one `*` at most, with qualifiers
unfoldable pub type_front : Dialect → List Token → Option (CType × List Token)
type_front d ts = type_behind d (specifiers_front d no_specifiers ts)

-- what doesn't begin with this sign
abbrev pub without : Dialect → Sign → List Token → Option (List Token)
without d s ts = if is_sign s (front d ts) then None else Some ts

-- a type in brackets in front, with no brace behind it: with an expression behind it, a cast
abbrev pub cast_front : Dialect → List Token → Option (CType × List Token)
cast_front d ts = past d signs.Open ts >>= λ us. type_front d us >>= λ t. past d signs.Close t.1 >>= λ vs. without d signs.OpenBrace vs >>= λ ws. Some (t.0, ws)

-- the type of pairs in brackets and the first brace in front: behind it are the two halves of a pair
abbrev pub is_pair : Symbol → Bool
is_pair (symbols.Type (words.Whole ctypes.Pair)) = true
is_pair _ = false

abbrev pub past_pair : Dialect → List Token → Option (List Token)
past_pair d ts = if is_pair (front d ts) then Some (behind ts) else None

abbrev pub pair_front : Dialect → List Token → Option (List Token)
pair_front d ts = past d signs.Open ts >>= λ us. past_pair d us >>= λ vs. past d signs.Close vs >>= λ ws. past d signs.OpenBrace ws

-- the name `val`, which names the halves in the Neon dialect
abbrev pub is_neon : Dialect → Bool
is_neon X86 = false
is_neon Neon = true

abbrev pub past_val : Dialect → List Token → Option (List Token)
past_val d ts = name_front d ts >>= λ x. if is_neon d && bytes_eq x.0.text (codes "val") then Some x.1 else None

-- which half a number names: its text is exactly `0` or `1`
abbrev pub half_in : TokenKind → List ℕ → Option ℕ
half_in kinds.Number text = if bytes_eq text (codes "0") then Some 0 else if bytes_eq text (codes "1") then Some 1 else None
half_in _ text = None

abbrev pub half_of : Token → Option ℕ
half_of t = half_in t.kind t.text

abbrev pub which_front : List Token → Option (ℕ × List Token)
which_front [] = None
which_front (t ∷ ts) = half_of t >>= λ k. Some (k, ts)

-- `.val[0]` or `.val[1]` in front: which half it is
abbrev pub half_front : Dialect → List Token → Option (ℕ × List Token)
half_front d ts = past d signs.Dot ts >>= λ us. past_val d us >>= λ vs. past d signs.OpenSquare vs >>= λ ws. which_front ws >>= λ k. past d signs.CloseSquare k.1 >>= λ xs. Some (k.0, xs)

-- what can be read; `Operators l a` are those of level l and tighter ones behind an operand a, `Others` the expressions behind commas
pub data Goal : Type 0 where
  Assignment : Goal
  Conditional : Goal
  Operators : ℕ → Tree → Goal
  Operand : Goal
  Prefixed : Goal
  Base : Goal
  Others : Goal

abbrev pub Answer : Goal → Type 0
Answer Assignment = Tree
Answer Conditional = Tree
Answer (Operators l a) = Tree
Answer Operand = Tree
Answer Prefixed = Tree
Answer Base = Tree
Answer Others = Trees

abbrev pub Readers : Type 0
Readers = (g : Goal) → List Token → Option (Answer g × List Token)

-- an expression and those behind commas, the first of which is at this place
abbrev pub sequence : Tree → Place → Trees → Tree
sequence a p NoTrees = a
sequence a p (More b rest) = node p (Comma (More a (More b rest)))

abbrev pub expression_with : Readers → List Token → Option (Tree × List Token)
expression_with R ts = R Assignment ts >>= λ a. R Others a.1 >>= λ r. Some (sequence a.0 (place_at a.1) r.0, r.1)

-- the arguments behind the bracket, and the bracket that closes them
abbrev pub arguments_with : Dialect → Readers → List Token → Option (Trees × List Token)
arguments_with d R ts = or_else (past d signs.Close ts)
    (λ us. Some (NoTrees, us))
    (R Assignment ts >>= λ a. R Others a.1 >>= λ r. past d signs.Close r.1 >>= λ us. Some (More a.0 r.0, us))

abbrev pub others_with : Dialect → Readers → List Token → Option (Trees × List Token)
others_with d R ts = or_else (past d signs.Comma ts)
    (λ us. R Assignment us >>= λ a. R Others a.1 >>= λ r. Some (More a.0 r.0, r.1))
    (Some (NoTrees, ts))

-- behind a condition
abbrev pub choice_with : Dialect → Readers → Tree → List Token → Option (Tree × List Token)
choice_with d R c ts = or_else (past d signs.Question ts)
    (λ us. expression_with R us >>= λ a. past d signs.Colon a.1 >>= λ vs. R Conditional vs >>= λ b. Some (node (place_at ts) (Choice c a.0 b.0), b.1))
    (Some (c, ts))

-- behind the first operand of a conditional expression
abbrev pub conditional_from : Dialect → Readers → Tree → List Token → Option (Tree × List Token)
conditional_from d R a ts = R (Operators 3 a) ts >>= λ c. choice_with d R c.0 c.1

abbrev pub conditional_with : Dialect → Readers → List Token → Option (Tree × List Token)
conditional_with d R ts = R Operand ts >>= λ a. conditional_from d R a.0 a.1

-- the assignment behind an operand, which is no cast
abbrev pub assignment_behind : Dialect → Option (CType × List Token) → List Token → Option (Option BinOp)
assignment_behind d (Some cast) ts = None
assignment_behind d None ts = assignment_of (front d ts)

abbrev pub assignment_with : Dialect → Readers → List Token → Option (Tree × List Token)
assignment_with d R ts = R Operand ts >>= λ a. or_else (assignment_behind d (cast_front d ts) a.1)
    (λ op. R Assignment (behind a.1) >>= λ b. Some (node (place_at a.1) (Assign op a.0 b.0), b.1))
    (conditional_from d R a.0 a.1)

abbrev pub operators_with : Dialect → Readers → ℕ → Tree → List Token → Option (Tree × List Token)
operators_with d R l a ts = or_else (infix_at d l ts)
    (λ op. R Operand (behind ts) >>= λ b. R (Operators (level_of op + 1) b.0) b.1 >>= λ c. R (Operators l (node (place_at ts) (infix_kind op a c.0))) c.1)
    (Some (a, ts))

abbrev pub operand_with : Dialect → Readers → List Token → Option (Tree × List Token)
operand_with d R ts = or_else (cast_front d ts)
    (λ c. R Operand c.1 >>= λ a. Some (node (place_at ts) (Cast c.0 a.0 true), a.1))
    (R Prefixed ts)

-- behind `sizeof`, which is at this place
abbrev pub size_with : Dialect → Place → List Token → Option (Tree × List Token)
size_with d p ts = or_else (name_front d ts)
    (λ x. Some (node x.0.place (SizeOfName x.0.text), x.1))
    (past d signs.Open ts >>= λ us. or_else (name_front d us)
    (λ x. past d signs.Close x.1 >>= λ vs. Some (node x.0.place (SizeOfName x.0.text), vs))
    (type_front d us >>= λ t. past d signs.Close t.1 >>= λ vs. Some (node p (SizeOfType t.0), vs)))

abbrev pub index_with : Dialect → Readers → Tree → List Token → Option (Tree × List Token)
index_with d R a ts = or_else (past d signs.OpenSquare ts)
    (λ us. expression_with R us >>= λ i. past d signs.CloseSquare i.1 >>= λ vs. Some (node (place_at ts) (Index a i.0), vs))
    (Some (a, ts))

abbrev pub stepped : Dialect → Tree → List Token → Tree × List Token
stepped d a ts = or_else (step_of (front d ts)) (λ up. (node (place_at ts) (Step a up false), behind ts)) (a, ts)

-- the half behind a base, which is no constant
abbrev pub half_behind : Dialect → Option (Tree × List Token) → List Token → Option (ℕ × List Token)
half_behind d (Some constant) ts = None
half_behind d None ts = half_front d ts

abbrev pub postfix_behind : Dialect → Readers → Option (Tree × List Token) → Tree → List Token → Option (Tree × List Token)
postfix_behind d R constant a ts = or_else (half_behind d constant ts)
    (λ h. Some (node (place_at ts) (Half a h.0), h.1))
    (index_with d R a ts >>= λ i. Some (stepped d i.0 i.1))

abbrev pub postfix_with : Dialect → Readers → List Token → Option (Tree × List Token)
postfix_with d R ts = R Base ts >>= λ b. postfix_behind d R (constant_front ts) b.0 b.1

abbrev pub prefixed_with : Dialect → Readers → List Token → Option (Tree × List Token)
prefixed_with d R ts = or_else (prefix_of (front d ts))
    (λ op. R Operand (behind ts) >>= λ a. Some (node (place_at ts) (op a.0), a.1))
    (or_else (step_of (front d ts))
    (λ up. R Prefixed (behind ts) >>= λ a. Some (node (place_at ts) (Step a.0 up true), a.1))
    (or_else (past d signs.SizeOf ts) (λ us. size_with d (place_at ts) us) (postfix_with d R ts)))

abbrev pub named_with : Dialect → Readers → Token → List Token → Option (Tree × List Token)
named_with d R x ts = or_else (past d signs.Open ts)
    (λ us. arguments_with d R us >>= λ r. Some (node x.place (Call x.text r.0), r.1))
    (Some (node x.place (Name x.text), ts))

-- the halves of a pair, behind its first brace
abbrev pub pair_with : Dialect → Readers → Place → List Token → Option (Tree × List Token)
pair_with d R p ts =
    past d signs.OpenBrace ts >>= λ us. R Assignment us >>= λ a. past d signs.Comma a.1 >>= λ vs. R Assignment vs >>= λ b.
    past d signs.CloseBrace b.1 >>= λ ws. past d signs.CloseBrace ws >>= λ xs. Some (node p (PairOf a.0 b.0), xs)

abbrev pub brackets_with : Dialect → Readers → List Token → Option (Tree × List Token)
brackets_with d R ts = past d signs.Open ts >>= λ us. expression_with R us >>= λ a. past d signs.Close a.1 >>= λ vs. Some (a.0, vs)

abbrev pub base_with : Dialect → Readers → List Token → Option (Tree × List Token)
base_with d R ts = or_else (constant_front ts)
    (λ c. Some c)
    (or_else (name_front d ts)
    (λ x. named_with d R x.0 x.1)
    (or_else (pair_front d ts) (λ us. pair_with d R (place_at ts) us) (brackets_with d R ts)))

-- one step of reading, with readers for the parts
abbrev pub step : Dialect → Readers → Readers
step d R Assignment ts = assignment_with d R ts
step d R Conditional ts = conditional_with d R ts
step d R (Operators l a) ts = operators_with d R l a ts
step d R Operand ts = operand_with d R ts
step d R Prefixed ts = prefixed_with d R ts
step d R Base ts = base_with d R ts
step d R Others ts = others_with d R ts

-- the first number bounds how deep the calls go
unfoldable pub read_at : Dialect → ℕ → Readers
read_at d zero g ts = None
read_at d (suc n) g ts = step d (read_at d n) g ts

-- where a reader may call one of a higher rank, tokens are left out before
abbrev pub rank : Goal → ℕ
rank Assignment = 5
rank Conditional = 5
rank (Operators l a) = 5
rank Operand = 4
rank Prefixed = 3
rank Base = 2
rank Others = 5

abbrev pub weight : Goal → List Token → ℕ
weight g ts = 6 * length ts + rank g

-- the same, deep enough for these tokens
unfoldable pub read : Dialect → Readers
read d g ts = read_at d (weight g ts) g ts

-- An operator before its operand, as the code has it.
abbrev pub prefix_kind : Prefix → Tree → Kind
prefix_kind (prefixes.Unary op) a = Unary op a
prefix_kind prefixes.Deref a = Deref a
prefix_kind prefixes.Address a = Address a

-- these trees in front of what was read
abbrev pub with_front : List Expr → Option (Trees × List Token) → Option (Trees × List Token)
with_front all o = o >>= λ x. Some (and_more (map view all) x.0, x.1)

-- what a function returned, seen by view, is this answer, unless memory ran out
abbrev pub Gives : {X Y : Type 0} → (X → Y) → Result (X × Bor (List Token)) Stuck → Option (Y × List Token) → Type 0
Gives view (Ok x) o = o ≡ Some (view x.0, x.1.now)
Gives view (Err stucks.Memory) o = Unit {0}
Gives view (Err (stucks.Syntax n)) o = o ≡ None
