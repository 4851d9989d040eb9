-- What is written is read.
use Rattle.std.proofs.Common.{◌≡◌, ℕ, ◌+◌, ◌≤◌, ◌<◌, ◌⊎◌, inl, inr, List, [], ◌∷◌, ◌++◌, Option, Some, None, refl, sym, ◌∙◌, ap, arith, true, false, cond, Bool}
use Rattle.std.proofs.lemmas.Bool.{lt-leb, le-leb, leb-false}
use Rattle.std.specs.Prelude.{nat_le}
use Rattle.c_text.specs.declared.tokens.Dialect.{Dialect}
use Rattle.c_text.specs.declared.tokens.Token.{Token}
use Rattle.c_text.specs.declared.tokens.TokenKind.{TokenKind}
use Rattle.c_text.specs.declared.tokens.TokenKind.TheVariants as kinds
use Rattle.lane_core.specs.declared.number.BinOp.{BinOp}
use Rattle.lane_core.specs.declared.number.BinOp.TheVariants as ops
use Rattle.c_constants.specs.Constant.{constant_of}
use Rattle.c_tree.specs.declared.types.CType.{CType}
use Rattle.c_tree.specs.Tree.{Tree, Kind, More}
use Rattle.c_parse.specs.declared.symbols.Infix.{Infix}
use Rattle.c_parse.specs.declared.symbols.Infix.TheVariants as infixes
use Rattle.c_parse.specs.declared.symbols.Sign.TheVariants.{Open, Close, OpenSquare, CloseSquare, Comma, Question, Colon, Dot, OpenBrace, CloseBrace}
use Rattle.c_parse.specs.declared.symbols.Symbol.{Symbol}
use Rattle.c_parse.specs.declared.symbols.Symbol.TheVariants as symbols
use Rattle.c_parse.specs.declared.types.Specifiers.{Specifiers}
use Rattle.c_parse.specs.Symbols.{symbol_of}
use Rattle.c_parse.specs.Reading.{front, is_sign, past, level_of, infix_of, tight_enough, infix_at, assignment_of, assignment_behind, step_of, prefix_of, constant_at, is_name, name_front, specify, no_specifiers, is_star, type_behind, type_front, cast_front, constant_front, pair_front, is_neon, half_behind, Assignment, Conditional, Operators, Operand, Prefixed, Base, Others, expression_with, arguments_with, conditional_from, stepped, postfix_with, read}
use Rattle.c_parse.specs.Grammar.{Written, Tail, Constant, Named, Bare, Call, Brackets, Pair, Half, Index, After, Before, Prefix, SizeOfType, SizeOfName, SizeOfBracketed, Cast, Between, Choice, Assign, End, Then, Is, IsName, IsType, is_constant, Fits, FitAll, spell, spell_tail, tree, comma_tree, trees_of}
use Rattle.c_parse.proofs.Fronts.{NoSpecifier, specifiers_stop, type_read, is_name_is, pair_type, no_pair}
use Rattle.c_parse.proofs.Sound.{looser, level_max, row_tree}
use Rattle.c_parse.proofs.Stable.{read_eq}

-- nothing here goes on with a base
pub record Stops (d : Dialect) (ts : List Token) : Type 0 where
  pub call : past d Open ts ≡ None
  pub index : past d OpenSquare ts ≡ None
  pub step : step_of (front d ts) ≡ None
  pub dot : past d Dot ts ≡ None

-- nothing here goes on with an expression, a comma apart
pub record Ends (d : Dialect) (ts : List Token) : Type 0 where
  pub stops : Stops d ts
  pub operator : infix_at d 3 ts ≡ None
  pub question : past d Question ts ≡ None
  pub assign : assignment_of (front d ts) ≡ None

pub record Closed (d : Dialect) (ts : List Token) : Type 0 where
  pub ends : Ends d ts
  pub comma : past d Comma ts ≡ None

pub nothing_ends : (d : Dialect) → Closed d []
nothing_ends d = record { ends = record { stops = record { call = refl; index = refl; step = refl; dot = refl }; operator = refl; question = refl; assign = refl }; comma = refl }

close_ends : (d : Dialect) (t : Token) (ts : List Token) → Is d Close t → Closed d (t ∷ ts)
close_ends d t ts e = record { ends = record { stops = record { call = rw e refl; index = rw e refl; step = rw e refl; dot = rw e refl }; operator = rw e refl; question = rw e refl; assign = rw e refl }; comma = rw e refl }

square_ends : (d : Dialect) (t : Token) (ts : List Token) → Is d CloseSquare t → Closed d (t ∷ ts)
square_ends d t ts e = record { ends = record { stops = record { call = rw e refl; index = rw e refl; step = rw e refl; dot = rw e refl }; operator = rw e refl; question = rw e refl; assign = rw e refl }; comma = rw e refl }

brace_ends : (d : Dialect) (t : Token) (ts : List Token) → Is d CloseBrace t → Closed d (t ∷ ts)
brace_ends d t ts e = record { ends = record { stops = record { call = rw e refl; index = rw e refl; step = rw e refl; dot = rw e refl }; operator = rw e refl; question = rw e refl; assign = rw e refl }; comma = rw e refl }

colon_ends : (d : Dialect) (t : Token) (ts : List Token) → Is d Colon t → Closed d (t ∷ ts)
colon_ends d t ts e = record { ends = record { stops = record { call = rw e refl; index = rw e refl; step = rw e refl; dot = rw e refl }; operator = rw e refl; question = rw e refl; assign = rw e refl }; comma = rw e refl }

comma_ends : (d : Dialect) (t : Token) (ts : List Token) → Is d Comma t → Ends d (t ∷ ts)
comma_ends d t ts e = record { stops = record { call = rw e refl; index = rw e refl; step = rw e refl; dot = rw e refl }; operator = rw e refl; question = rw e refl; assign = rw e refl }

question_stops : (d : Dialect) (t : Token) (ts : List Token) → Is d Question t → Stops d (t ∷ ts)
question_stops d t ts e = record { call = rw e refl; index = rw e refl; step = rw e refl; dot = rw e refl }

infix_stops : (d : Dialect) (t : Token) (ts : List Token) (op : Infix) → symbol_of d t ≡ symbols.Infix op → Stops d (t ∷ ts)
infix_stops d t ts op e = record { call = rw e refl; index = rw e refl; step = rw e refl; dot = rw e refl }

assign_stops : (d : Dialect) (t : Token) (ts : List Token) (op : Option BinOp) → symbol_of d t ≡ symbols.Assign op → Stops d (t ∷ ts)
assign_stops d t ts op e = record { call = rw e refl; index = rw e refl; step = rw e refl; dot = rw e refl }

pub level_min : (op : Infix) → 3 ≤ level_of op
level_min infixes.OrElse = omega arith
level_min infixes.AndThen = omega arith
level_min (infixes.Operator ops.BitOr) = omega arith
level_min (infixes.Operator ops.BitXor) = omega arith
level_min (infixes.Operator ops.BitAnd) = omega arith
level_min (infixes.Operator ops.Eq) = omega arith
level_min (infixes.Operator ops.Ne) = omega arith
level_min (infixes.Operator ops.Lt) = omega arith
level_min (infixes.Operator ops.Gt) = omega arith
level_min (infixes.Operator ops.Le) = omega arith
level_min (infixes.Operator ops.Ge) = omega arith
level_min (infixes.Operator ops.Shl) = omega arith
level_min (infixes.Operator ops.Shr) = omega arith
level_min (infixes.Operator ops.Add) = omega arith
level_min (infixes.Operator ops.Sub) = omega arith
level_min (infixes.Operator ops.Mul) = omega arith
level_min (infixes.Operator ops.Div) = omega arith
level_min (infixes.Operator ops.Rem) = omega arith

-- an operator that doesn't stand at a level stands at no tighter one
tighter : (j k : ℕ) (o : Option Infix) → j ≤ k → tight_enough j o ≡ None → tight_enough k o ≡ None
tighter j k None h e = refl
tighter j k (Some op) h e = go (nat_le j (level_of op)) refl e
  where
    go : (b : Bool) → nat_le j (level_of op) ≡ b → cond b (Some op) None ≡ None → tight_enough k (Some op) ≡ None
    go true t e = absurd (cc)
    go false t e = let lt = leb-false j (level_of op) t in rw (lt-leb k (level_of op) (omega arith)) refl

infix_tighter : (d : Dialect) (j k : ℕ) (ts : List Token) → j ≤ k → infix_at d j ts ≡ None → infix_at d k ts ≡ None
infix_tighter d j k ts h e = tighter j k (infix_of (front d ts)) h e

tight : (d : Dialect) (l : ℕ) (t : Token) (ts : List Token) (op : Infix) → symbol_of d t ≡ symbols.Infix op → l ≤ level_of op → infix_at d l (t ∷ ts) ≡ Some op
tight d l t ts op e h = rw (e, le-leb l (level_of op) h) refl

loose : (d : Dialect) (l : ℕ) (t : Token) (ts : List Token) (op : Infix) → symbol_of d t ≡ symbols.Infix op → level_of op < l → infix_at d l (t ∷ ts) ≡ None
loose d l t ts op e h = rw (e, lt-leb l (level_of op) h) refl

-- a constant's token is no name and no mark
constant_symbol : (d : Dialect) (t : Token) (c : Tree) → constant_at t ≡ Some c → symbol_of d t ≡ symbols.Constant
unfolding constant_at symbol_of constant_of
constant_symbol d t c e = go t.kind refl
  where
    go : (k : TokenKind) → t.kind ≡ k → symbol_of d t ≡ symbols.Constant
    go kinds.Name h = let none : constant_at t ≡ None = rw h refl in absurd (cc)
    go kinds.Number h = rw h refl
    go kinds.Quote h = rw h refl
    go kinds.Str h = let none : constant_at t ≡ None = rw h refl in absurd (cc)
    go kinds.Mark h = let none : constant_at t ≡ None = rw h refl in absurd (cc)
    go kinds.Lone h = let none : constant_at t ≡ None = rw h refl in absurd (cc)

-- what an operator before its operand isn't
record Before' (m : Symbol) : Type 0 where
  specifier : (s : Specifiers) → specify s m ≡ None
  open' : is_sign Open m ≡ false
  close : is_sign Close m ≡ false
  brace : is_sign OpenBrace m ≡ false

prefix_symbol : (m : Symbol) (op : Tree → Kind) → prefix_of m ≡ Some op → Before' m
prefix_symbol (symbols.Infix o) op e = record { specifier = λ s. refl; open' = refl; close = refl; brace = refl }
prefix_symbol symbols.Tilde op e = record { specifier = λ s. refl; open' = refl; close = refl; brace = refl }
prefix_symbol symbols.Exclamation op e = record { specifier = λ s. refl; open' = refl; close = refl; brace = refl }
prefix_symbol _ op e = absurd (cc)

-- no expression begins with a type, a closing bracket or a brace
record Starts (d : Dialect) (ts : List Token) : Type 0 where
  specifier : NoSpecifier d ts
  close : past d Close ts ≡ None
  brace : is_sign OpenBrace (front d ts) ≡ false

starts : (d : Dialect) (c : Written) (l : ℕ) (ts : List Token) → Fits d l c → Starts d (spell c ts)
starts d (Constant t c) l ts f = let e = constant_symbol d t c f in record { specifier = λ s. rw e refl; close = rw e refl; brace = rw e refl }
starts d (Named t) l ts f = record { specifier = λ s. rw f refl; close = rw f refl; brace = rw f refl }
starts d (Bare g o c) l ts f = record { specifier = λ s. rw f.0 refl; close = rw f.0 refl; brace = rw f.0 refl }
starts d (Call g o a rest c) l ts f = record { specifier = λ s. rw f.0 refl; close = rw f.0 refl; brace = rw f.0 refl }
starts d (Brackets o a rest c) l ts f = record { specifier = λ s. rw f.0 refl; close = rw f.0 refl; brace = rw f.0 refl }
starts d (Pair o w c b1 b2 a m b e1 e2) l ts f = record { specifier = λ s. rw f.0 refl; close = rw f.0 refl; brace = rw f.0 refl }
starts d (Half a o v s n k c) l ts f = starts d a 17 (o ∷ v ∷ s ∷ n ∷ c ∷ ts) f.1
starts d (Index a o b rest c) l ts f = starts d a 17 (o ∷ spell b (spell_tail rest (c ∷ ts))) f.1
starts d (After a t up) l ts f = starts d a 16 (t ∷ ts) f.1
starts d (Before t up a) l ts f = record { specifier = λ s. rw f.1 refl; close = rw f.1 refl; brace = rw f.1 refl }
starts d (Prefix t op a) l ts f = let h = prefix_symbol (symbol_of d t) op f.1 in record { specifier = h.specifier; close = rw h.close refl; brace = h.brace }
starts d (SizeOfType s o words ty c) l ts f = record { specifier = λ r. rw f.1 refl; close = rw f.1 refl; brace = rw f.1 refl }
starts d (SizeOfName s x) l ts f = record { specifier = λ r. rw f.1 refl; close = rw f.1 refl; brace = rw f.1 refl }
starts d (SizeOfBracketed s o x c) l ts f = record { specifier = λ r. rw f.1 refl; close = rw f.1 refl; brace = rw f.1 refl }
starts d (Cast o words ty c a) l ts f = record { specifier = λ s. rw f.1 refl; close = rw f.1 refl; brace = rw f.1 refl }
starts d (Between a t op b) l ts f = starts d a (level_of op) (t ∷ spell b ts) f.1
starts d (Choice a q b rest c e) l ts f = starts d a 3 (q ∷ spell b (spell_tail rest (c ∷ spell e ts))) f.1
starts d (Assign a t op b) l ts f = starts d a 14 (t ∷ spell b ts) f.1

type_none : (d : Dialect) (ts : List Token) → NoSpecifier d ts → type_front d ts ≡ None
unfolding type_front
type_none d ts stop = ap (type_behind d) (specifiers_stop d no_specifiers ts stop) ∙ go (is_star (front d ts)) refl
  where
    go : (b : Bool) → is_star (front d ts) ≡ b → type_behind d (no_specifiers, ts) ≡ None
    go true h = rw h refl
    go false h = rw h refl

-- what is tighter than a cast begins with none
cast_none : (d : Dialect) (c : Written) (ts : List Token) → Fits d 14 c → cast_front d (spell c ts) ≡ None
cast_none d (Constant t c) ts f = rw (constant_symbol d t c f) refl
cast_none d (Named t) ts f = rw f refl
cast_none d (Bare g o c) ts f = rw f.0 refl
cast_none d (Call g o a rest c) ts f = rw f.0 refl
cast_none d (Brackets o a rest c) ts f = rw (f.0, type_none d (spell a (spell_tail rest (c ∷ ts))) (starts d a 1 (spell_tail rest (c ∷ ts)) f.1).specifier) refl
cast_none d (Pair o w c b1 b2 a m b e1 e2) ts f = rw (f.0, pair_type d w c (b1 ∷ b2 ∷ spell a (m ∷ spell b (e1 ∷ e2 ∷ ts))) f.1 f.2, f.2, f.3) refl
cast_none d (Half a o v s n k c) ts f = cast_none d a (o ∷ v ∷ s ∷ n ∷ c ∷ ts) (looser d a 14 17 (omega arith) f.1)
cast_none d (Index a o b rest c) ts f = cast_none d a (o ∷ spell b (spell_tail rest (c ∷ ts))) (looser d a 14 17 (omega arith) f.1)
cast_none d (After a t up) ts f = cast_none d a (t ∷ ts) (looser d a 14 16 (omega arith) f.1)
cast_none d (Before t up a) ts f = rw f.1 refl
cast_none d (Prefix t op a) ts f = let h = prefix_symbol (symbol_of d t) op f.1 in rw h.open' refl
cast_none d (SizeOfType s o words ty c) ts f = rw f.1 refl
cast_none d (SizeOfName s x) ts f = rw f.1 refl
cast_none d (SizeOfBracketed s o x c) ts f = rw f.1 refl
cast_none d (Cast o words ty c a) ts f = absurd (omega (arith, f.0))
cast_none d (Between a t op b) ts f = let max = level_max op in absurd (omega (arith, f.0))
cast_none d (Choice a q b rest c e) ts f = absurd (omega (arith, f.0))
cast_none d (Assign a t op b) ts f = absurd (omega (arith, f.0))

-- what a base begins with
Bases : Symbol → Type 0
Bases m = (m ≡ symbols.Constant) ⊎ (m ≡ symbols.Name) ⊎ (m ≡ symbols.Sign Open)

base_front : (d : Dialect) (c : Written) (ts : List Token) → Fits d 15 c → Bases (front d (spell c ts))
unfolding Bases
base_front d (Constant t c) ts f = inl (constant_symbol d t c f)
base_front d (Named t) ts f = inr (inl f)
base_front d (Bare g o c) ts f = inr (inl f.0)
base_front d (Call g o a rest c) ts f = inr (inl f.0)
base_front d (Brackets o a rest c) ts f = inr (inr f.0)
base_front d (Pair o w c b1 b2 a m b e1 e2) ts f = inr (inr f.0)
base_front d (Half a o v s n k c) ts f = base_front d a (o ∷ v ∷ s ∷ n ∷ c ∷ ts) (looser d a 15 17 (omega arith) f.1)
base_front d (Index a o b rest c) ts f = base_front d a (o ∷ spell b (spell_tail rest (c ∷ ts))) (looser d a 15 17 (omega arith) f.1)
base_front d (After a t up) ts f = base_front d a (t ∷ ts) (looser d a 15 16 (omega arith) f.1)
base_front d (Before t up a) ts f = absurd (omega (arith, f.0))
base_front d (Prefix t op a) ts f = absurd (omega (arith, f.0))
base_front d (SizeOfType s o words ty c) ts f = absurd (omega (arith, f.0))
base_front d (SizeOfName s x) ts f = absurd (omega (arith, f.0))
base_front d (SizeOfBracketed s o x c) ts f = absurd (omega (arith, f.0))
base_front d (Cast o words ty c a) ts f = absurd (omega (arith, f.0))
base_front d (Between a t op b) ts f = let max = level_max op in absurd (omega (arith, f.0))
base_front d (Choice a q b rest c e) ts f = absurd (omega (arith, f.0))
base_front d (Assign a t op b) ts f = absurd (omega (arith, f.0))

-- where the operators behind an expression are read, and what is read before
record Lead (d : Dialect) (l : ℕ) (c : Written) (rest : List Token) : Type 0 where
  operand : Tree
  others : List Token
  reads : read d Operand (spell c rest) ≡ Some (operand, others)
  same : read d (Operators l operand) others ≡ read d (Operators l (tree c)) rest
  assign : assignment_of (front d others) ≡ None

-- an operand is read, and the rest of a conditional expression behind it
record From (d : Dialect) (c : Written) (rest : List Token) : Type 0 where
  operand : Tree
  others : List Token
  reads : read d Operand (spell c rest) ≡ Some (operand, others)
  same : conditional_from d (read d) operand others ≡ Some (tree c, rest)
  assign : assignment_of (front d others) ≡ None

record Complete (d : Dialect) (c : Written) : Type 0 where
  base : (rest : List Token) → Fits d 17 c → past d Open rest ≡ None → read d Base (spell c rest) ≡ Some (tree c, rest)
  indexed : (rest : List Token) → Fits d 16 c → past d Open rest ≡ None → past d OpenSquare rest ≡ None → past d Dot rest ≡ None →
      postfix_with d (read d) (spell c rest) ≡ Some (stepped d (tree c) rest)
  prefixed : (rest : List Token) → Fits d 14 c → Stops d rest → read d Prefixed (spell c rest) ≡ Some (tree c, rest)
  operand : (rest : List Token) → Fits d 13 c → Stops d rest → read d Operand (spell c rest) ≡ Some (tree c, rest)
  lead : (k l : ℕ) (rest : List Token) → Fits d k c → 3 ≤ k → l ≤ k → Stops d rest → infix_at d (k + 1) rest ≡ None → assignment_of (front d rest) ≡ None → Lead d l c rest
  from : (rest : List Token) → Fits d 2 c → Ends d rest → From d c rest
  assignment : (rest : List Token) → Fits d 1 c → Ends d rest → read d Assignment (spell c rest) ≡ Some (tree c, rest)

record CompleteTail (d : Dialect) (tl : Tail) : Type 0 where
  others : (rest : List Token) → FitAll d tl → Closed d rest → read d Others (spell_tail tl rest) ≡ Some (trees_of tl, rest)

operators_stop : (d : Dialect) (l : ℕ) (a : Tree) (ts : List Token) → infix_at d l ts ≡ None → read d (Operators l a) ts ≡ Some (a, ts)
operators_stop d l a ts e = read_eq d (Operators l a) ts ∙ rw e refl

tail_ends : (d : Dialect) (tl : Tail) (rest : List Token) → FitAll d tl → Closed d rest → Ends d (spell_tail tl rest)
tail_ends d End rest f h = h.ends
tail_ends d (Then t a tl) rest f h = comma_ends d t (spell a (spell_tail tl rest)) f.0

-- an expression and those behind commas
row_read : (d : Dialect) (a : Written) (tl : Tail) (rest : List Token) → Complete d a → CompleteTail d tl → Fits d 1 a → FitAll d tl → Closed d rest →
    expression_with (read d) (spell a (spell_tail tl rest)) ≡ Some (comma_tree (tree a) tl, rest)
row_read d a tl rest ca ct f g h =
    rw (ca.assignment (spell_tail tl rest) f (tail_ends d tl rest g h), ct.others rest g h) (ap (λ t. Some (t, rest)) (row_tree (tree a) tl rest))

arguments_read : (d : Dialect) (a : Written) (tl : Tail) (c : Token) (rest : List Token) → Complete d a → CompleteTail d tl → Fits d 1 a → FitAll d tl → Is d Close c →
    arguments_with d (read d) (spell a (spell_tail tl (c ∷ rest))) ≡ Some (More (tree a) (trees_of tl), rest)
arguments_read d a tl c rest ca ct f g close =
    let h = close_ends d c rest close in
    rw ((starts d a 1 (spell_tail tl (c ∷ rest)) f).close, ca.assignment (spell_tail tl (c ∷ rest)) f (tail_ends d tl (c ∷ rest) g h), ct.others (c ∷ rest) g h, close) refl

-- behind the operand
prefixed_postfix : (d : Dialect) (c : Written) (ts rest : List Token) → Fits d 15 c → postfix_with d (read d) (spell c ts) ≡ Some (tree c, rest) → read d Prefixed (spell c ts) ≡ Some (tree c, rest)
unfolding Bases
prefixed_postfix d c ts rest f e = read_eq d Prefixed (spell c ts) ∙ elim (base_front d c ts f) [
  | inl h ↦ rw (h, e) refl
  | inr h ↦ elim h [ inl h ↦ rw (h, e) refl | inr h ↦ rw (h, e) refl ]
]

half_none : (d : Dialect) (c : Option (Tree × List Token)) (ts : List Token) → past d Dot ts ≡ None → half_behind d c ts ≡ None
half_none d (Some c) ts e = refl
half_none d None ts e = rw e refl

-- nothing is stepped
postfix_read : (d : Dialect) (c : Written) (rest : List Token) → postfix_with d (read d) (spell c rest) ≡ Some (stepped d (tree c) rest) → step_of (front d rest) ≡ None →
    postfix_with d (read d) (spell c rest) ≡ Some (tree c, rest)
postfix_read d c rest e stop = e ∙ rw stop refl

from_lead : (d : Dialect) (c : Written) (rest : List Token) → Lead d 3 c rest → Ends d rest → From d c rest
from_lead d c rest h ends = record {
  operand = h.operand;
  others = h.others;
  reads = h.reads;
  same = rw (h.same, operators_stop d 3 (tree c) rest ends.operator, ends.question) refl;
  assign = h.assign;
}

assign_none : (d : Dialect) (o : Option (CType × List Token)) (ts : List Token) → assignment_of (front d ts) ≡ None → assignment_behind d o ts ≡ None
assign_none d None ts e = e
assign_none d (Some c) ts e = refl

assignment_from : (d : Dialect) (c : Written) (rest : List Token) → From d c rest → read d Assignment (spell c rest) ≡ Some (tree c, rest)
assignment_from d c rest h =
    read_eq d Assignment (spell c rest) ∙ rw (h.reads, assign_none d (cast_front d (spell c rest)) h.others h.assign, h.same) refl

conditional_read : (d : Dialect) (c : Written) (rest : List Token) → From d c rest → read d Conditional (spell c rest) ≡ Some (tree c, rest)
conditional_read d c rest h = read_eq d Conditional (spell c rest) ∙ rw (h.reads, h.same) refl

operand_prefixed : (d : Dialect) (c : Written) (rest : List Token) → Fits d 14 c → read d Prefixed (spell c rest) ≡ Some (tree c, rest) → read d Operand (spell c rest) ≡ Some (tree c, rest)
operand_prefixed d c rest f e = read_eq d Operand (spell c rest) ∙ rw (cast_none d c rest f, e) refl

abbrev OperandPart : Dialect → Written → Type 0
OperandPart d c = (rest : List Token) → Fits d 13 c → Stops d rest → read d Operand (spell c rest) ≡ Some (tree c, rest)

-- an expression that is an operand
lead_operand : (d : Dialect) (c : Written) (l : ℕ) (rest : List Token) → OperandPart d c → Fits d 13 c → Stops d rest → assignment_of (front d rest) ≡ None → Lead d l c rest
lead_operand d c l rest p f stops assign = record { operand = tree c; others = rest; reads = p rest f stops; same = refl; assign = assign }

abbrev BasePart : Dialect → Written → Type 0
BasePart d c = (rest : List Token) → Fits d 17 c → past d Open rest ≡ None → read d Base (spell c rest) ≡ Some (tree c, rest)

abbrev IndexedPart : Dialect → Written → Type 0
IndexedPart d c = (rest : List Token) → Fits d 16 c → past d Open rest ≡ None → past d OpenSquare rest ≡ None → past d Dot rest ≡ None →
    postfix_with d (read d) (spell c rest) ≡ Some (stepped d (tree c) rest)

abbrev PrefixedPart : Dialect → Written → Type 0
PrefixedPart d c = (rest : List Token) → Fits d 14 c → Stops d rest → read d Prefixed (spell c rest) ≡ Some (tree c, rest)

complete_operand : (d : Dialect) (c : Written) → ((k : ℕ) → Fits d k c → Fits d 13 c) → BasePart d c → IndexedPart d c → PrefixedPart d c → OperandPart d c → Complete d c
complete_operand d c fits base indexed prefixed operand =
    let from : (rest : List Token) (k : ℕ) → Fits d k c → Ends d rest → From d c rest =
    λ rest k f ends. from_lead d c rest (lead_operand d c 3 rest operand (fits k f) ends.stops ends.assign) ends in
    record {
      base = base;
      indexed = indexed;
      prefixed = prefixed;
      operand = operand;
      lead = λ k l rest f k3 lk stops stop assign. lead_operand d c l rest operand (fits k f) stops assign;
      from = λ rest f ends. from rest 2 f ends;
      assignment = λ rest f ends. assignment_from d c rest (from rest 1 f ends);
    }

complete_prefixed : (d : Dialect) (c : Written) → ((k : ℕ) → Fits d k c → Fits d 14 c) → BasePart d c → IndexedPart d c → PrefixedPart d c → Complete d c
complete_prefixed d c fits base indexed prefixed =
    complete_operand d c (λ k f. looser d c 13 14 (omega arith) (fits k f)) base indexed prefixed
    (λ rest f stops. let g = fits 13 f in operand_prefixed d c rest g (prefixed rest g stops))

complete_indexed : (d : Dialect) (c : Written) → ((k : ℕ) → Fits d k c → Fits d 16 c) → BasePart d c → IndexedPart d c → Complete d c
complete_indexed d c fits base indexed =
    complete_prefixed d c (λ k f. looser d c 14 16 (omega arith) (fits k f)) base indexed
    (λ rest f stops. let g = fits 14 f in prefixed_postfix d c rest rest (looser d c 15 16 (omega arith) g) (postfix_read d c rest (indexed rest g stops.call stops.index stops.dot) stops.step))

complete_base : (d : Dialect) (c : Written) → ((k : ℕ) → Fits d k c → Fits d 17 c) → BasePart d c → Complete d c
complete_base d c fits base =
    complete_indexed d c (λ k f. looser d c 16 17 (omega arith) (fits k f)) base
    (λ rest f call index dot. rw (base rest (fits 16 f) call, half_none d (constant_front (spell c rest)) rest dot, index) refl)

base_constant : (d : Dialect) (t : Token) (c : Tree) → BasePart d (Constant t c)
base_constant d t c rest f call = read_eq d Base (t ∷ rest) ∙ rw f refl

base_named : (d : Dialect) (t : Token) → constant_at t ≡ None → BasePart d (Named t)
base_named d t none rest f call = read_eq d Base (t ∷ rest) ∙ rw (none, f, call) refl

name_no_constant : (d : Dialect) (t : Token) (m : Symbol) → symbol_of d t ≡ m → (m ≡ symbols.Constant → ⊥) → constant_at t ≡ None
name_no_constant d t m e never = go (constant_at t) refl
  where
    go : (o : Option Tree) → constant_at t ≡ o → constant_at t ≡ None
    go None h = h
    go (Some c) h = absurd (never (sym e ∙ constant_symbol d t c h))

named_no : (d : Dialect) (t : Token) → IsName d t → constant_at t ≡ None
named_no d t e = name_no_constant d t symbols.Name e (λ h. cc)

open_no : (d : Dialect) (t : Token) → Is d Open t → constant_at t ≡ None
open_no d t e = name_no_constant d t (symbols.Sign Open) e (λ h. cc)

base_bare : (d : Dialect) (g o c : Token) → BasePart d (Bare g o c)
base_bare d g o c rest f call = read_eq d Base (g ∷ o ∷ c ∷ rest) ∙ rw (named_no d g f.0, f.0, f.1, f.2) refl

base_call : (d : Dialect) (g o : Token) (a : Written) (tl : Tail) (c : Token) → Complete d a → CompleteTail d tl → BasePart d (Call g o a tl c)
base_call d g o a tl c ca ct rest f call =
    read_eq d Base (spell (Call g o a tl c) rest) ∙ rw (named_no d g f.0, f.0, f.1, arguments_read d a tl c rest ca ct f.2 f.3 f.4) refl

-- a pair's type stands first in no brackets around an expression
brackets_no_pair : (d : Dialect) (o : Token) (ts : List Token) → Is d Open o → NoSpecifier d ts → pair_front d (o ∷ ts) ≡ None
brackets_no_pair d o ts is stop = rw (is, no_pair d ts stop) refl

base_brackets : (d : Dialect) (o : Token) (a : Written) (tl : Tail) (c : Token) → Complete d a → CompleteTail d tl → BasePart d (Brackets o a tl c)
base_brackets d o a tl c ca ct rest f call =
    read_eq d Base (spell (Brackets o a tl c) rest) ∙ rw (
      open_no d o f.0,
      brackets_no_pair d o (spell a (spell_tail tl (c ∷ rest))) f.0 (starts d a 1 (spell_tail tl (c ∷ rest)) f.1).specifier,
      f.0,
      row_read d a tl (c ∷ rest) ca ct f.1 f.2 (close_ends d c rest f.3),
      f.3,
    ) refl

base_pair : (d : Dialect) (o w c b1 b2 : Token) (a : Written) (m : Token) (b : Written) (e1 e2 : Token) → Complete d a → Complete d b → BasePart d (Pair o w c b1 b2 a m b e1 e2)
base_pair d o w c b1 b2 a m b e1 e2 ca cb rest f call =
    let ts : List Token = spell b (e1 ∷ e2 ∷ rest) in
    read_eq d Base (o ∷ w ∷ c ∷ b1 ∷ b2 ∷ spell a (m ∷ ts)) ∙ rw (
      open_no d o f.0,
      f.0,
      f.1,
      f.2,
      f.3,
      f.4,
      ca.assignment (m ∷ ts) f.5 (comma_ends d m ts f.6),
      f.6,
      cb.assignment (e1 ∷ e2 ∷ rest) f.7 (brace_ends d e1 (e2 ∷ rest) f.8).ends,
      f.8,
      f.9,
    ) refl

indexed_index : (d : Dialect) (a : Written) (o : Token) (b : Written) (tl : Tail) (c : Token) → Complete d a → Complete d b → CompleteTail d tl → IndexedPart d (Index a o b tl c)
indexed_index d a o b tl c ca cb ct rest f call index dot =
    let ts : List Token = o ∷ spell b (spell_tail tl (c ∷ rest)) in
    rw (
      ca.base ts f.1 (rw f.2 refl),
      half_none d (constant_front (spell a ts)) ts (rw f.2 refl),
      f.2,
      row_read d b tl (c ∷ rest) cb ct f.3 f.4 (square_ends d c rest f.5),
      f.5,
    ) refl

-- a base that is no constant begins with none
no_constant : (d : Dialect) (c : Written) (ts : List Token) → Fits d 17 c → is_constant c ≡ false → constant_front (spell c ts) ≡ None
no_constant d (Constant t c) ts f e = absurd (cc)
no_constant d (Named t) ts f e = rw (named_no d t f) refl
no_constant d (Bare g o c) ts f e = rw (named_no d g f.0) refl
no_constant d (Call g o a rest c) ts f e = rw (named_no d g f.0) refl
no_constant d (Brackets o a rest c) ts f e = rw (open_no d o f.0) refl
no_constant d (Pair o w c b1 b2 a m b e1 e2) ts f e = rw (open_no d o f.0) refl
no_constant d (Half a o v s n k c) ts f e = absurd (omega (arith, f.0))
no_constant d (Index a o b rest c) ts f e = absurd (omega (arith, f.0))
no_constant d (After a t up) ts f e = absurd (omega (arith, f.0))
no_constant d (Before t up a) ts f e = absurd (omega (arith, f.0))
no_constant d (Prefix t op a) ts f e = absurd (omega (arith, f.0))
no_constant d (SizeOfType s o words ty c) ts f e = absurd (omega (arith, f.0))
no_constant d (SizeOfName s x) ts f e = absurd (omega (arith, f.0))
no_constant d (SizeOfBracketed s o x c) ts f e = absurd (omega (arith, f.0))
no_constant d (Cast o words ty c a) ts f e = absurd (omega (arith, f.0))
no_constant d (Between a t op b) ts f e = let max = level_max op in absurd (omega (arith, f.0))
no_constant d (Choice a q b rest c g) ts f e = absurd (omega (arith, f.0))
no_constant d (Assign a t op b) ts f e = absurd (omega (arith, f.0))

prefixed_half : (d : Dialect) (a : Written) (o v s n : Token) (k : ℕ) (c : Token) → Complete d a → PrefixedPart d (Half a o v s n k c)
prefixed_half d a o v s n k c ca rest f stops =
    let ts : List Token = o ∷ v ∷ s ∷ n ∷ c ∷ rest in
    let g : Fits d 15 (Half a o v s n k c) = (omega arith, f.1, f.2, f.3, f.4, f.5, f.6, f.7, f.8, f.9) in
    let neon : is_neon d ≡ true = ap is_neon f.3 in
    prefixed_postfix d (Half a o v s n k c) rest rest g
    (rw (ca.base ts f.1 (rw f.4 refl), no_constant d a ts f.1 f.2, f.4, f.5, neon, f.6, f.7, f.8, f.9) refl)

prefixed_after : (d : Dialect) (a : Written) (t : Token) (up : Bool) → Complete d a → PrefixedPart d (After a t up)
prefixed_after d a t up ca rest f stops =
    let g : Fits d 15 (After a t up) = (omega arith, f.1, f.2) in
    prefixed_postfix d (After a t up) rest rest g (ca.indexed (t ∷ rest) f.1 (rw f.2 refl) (rw f.2 refl) (rw f.2 refl) ∙ rw f.2 refl)

prefixed_before : (d : Dialect) (t : Token) (up : Bool) (a : Written) → Complete d a → PrefixedPart d (Before t up a)
prefixed_before d t up a ca rest f stops = read_eq d Prefixed (t ∷ spell a rest) ∙ rw (f.1, ca.prefixed rest f.2 stops) refl

prefixed_prefix : (d : Dialect) (t : Token) (op : Tree → Kind) (a : Written) → Complete d a → PrefixedPart d (Prefix t op a)
prefixed_prefix d t op a ca rest f stops = read_eq d Prefixed (t ∷ spell a rest) ∙ rw (f.1, ca.operand rest f.2 stops) refl

prefixed_size_name : (d : Dialect) (s x : Token) → PrefixedPart d (SizeOfName s x)
prefixed_size_name d s x rest f stops = read_eq d Prefixed (s ∷ x ∷ rest) ∙ rw (f.1, f.2) refl

prefixed_size_bracketed : (d : Dialect) (s o x c : Token) → PrefixedPart d (SizeOfBracketed s o x c)
prefixed_size_bracketed d s o x c rest f stops = read_eq d Prefixed (s ∷ o ∷ x ∷ c ∷ rest) ∙ rw (f.1, f.2, f.3, f.4) refl

-- the name of a type begins with no name
type_no_name : (d : Dialect) (words rest : List Token) (ty : CType) → IsType d words ty → name_front d (words ++ rest) ≡ None
type_no_name d [] rest ty is = let none = type_none d [] (λ s. refl) in absurd (cc)
type_no_name d (t ∷ words) rest ty is = go (is_name (symbol_of d t)) refl
  where
    go : (b : Bool) → is_name (symbol_of d t) ≡ b → name_front d (t ∷ (words ++ rest)) ≡ None
    go true h = let e : symbol_of d t ≡ symbols.Name = is_name_is (symbol_of d t) h in let none = type_none d (t ∷ words) (λ s. rw e refl) in absurd (cc)
    go false h = rw h refl

prefixed_size_type : (d : Dialect) (s o : Token) (words : List Token) (ty : CType) (c : Token) → PrefixedPart d (SizeOfType s o words ty c)
prefixed_size_type d s o words ty c rest f stops =
    read_eq d Prefixed (s ∷ o ∷ (words ++ c ∷ rest)) ∙ rw (f.1, f.2, type_no_name d words (c ∷ rest) ty f.3, type_read d words ty c rest f.3 f.4, f.4) refl

operand_cast : (d : Dialect) (o : Token) (words : List Token) (ty : CType) (c : Token) (a : Written) → Complete d a → OperandPart d (Cast o words ty c a)
operand_cast d o words ty c a ca rest f stops =
    let brace = (starts d a 13 rest f.4).brace in
    read_eq d Operand (o ∷ (words ++ c ∷ spell a rest)) ∙ rw (f.1, type_read d words ty c (spell a rest) f.2 f.3, f.3, brace, ca.operand rest f.4 stops) refl

lead_between : (d : Dialect) (a : Written) (t : Token) (op : Infix) (b : Written) → Complete d a → Complete d b → (k l : ℕ) (rest : List Token) → Fits d k (Between a t op b) → 3 ≤ k → l ≤ k →
    Stops d rest → infix_at d (k + 1) rest ≡ None → assignment_of (front d rest) ≡ None → Lead d l (Between a t op b) rest
lead_between d a t op b ca cb k l rest f k3 lk stops stop assign =
    let ts : List Token = spell b rest in
    let min = level_min op in
    let left = ca.lead (level_of op) l (t ∷ ts) f.1 min (omega (arith, f.0)) (infix_stops d t ts op f.2) (loose d (level_of op + 1) t ts op f.2 (omega arith)) (rw f.2 refl) in
    let right = cb.lead (level_of op + 1) (level_of op + 1) rest f.3 (omega arith) (omega arith) stops (infix_tighter d (k + 1) (level_of op + 1 + 1) rest (omega (arith, f.0)) stop) assign in
    let ends = operators_stop d (level_of op + 1) (tree b) rest (infix_tighter d (k + 1) (level_of op + 1) rest (omega (arith, f.0)) stop) in
    let climbs : read d (Operators l (tree a)) (t ∷ ts) ≡ read d (Operators l (tree (Between a t op b))) rest =
    read_eq d (Operators l (tree a)) (t ∷ ts) ∙ rw (tight d l t ts op f.2 (omega (arith, f.0)), right.reads, right.same, ends) refl in
    record { operand = left.operand; others = left.others; reads = left.reads; same = left.same ∙ climbs; assign = left.assign }

from_between : (d : Dialect) (a : Written) (t : Token) (op : Infix) (b : Written) → Complete d a → Complete d b → (k : ℕ) (rest : List Token) → Fits d k (Between a t op b) → Ends d rest → From d (Between a t op b) rest
from_between d a t op b ca cb k rest f ends =
    from_lead d (Between a t op b) rest
    (lead_between d a t op b ca cb 3 3 rest (level_min op, f.1, f.2, f.3) (omega arith) (omega arith) ends.stops (infix_tighter d 3 (3 + 1) rest (omega arith) ends.operator) ends.assign) ends

from_choice : (d : Dialect) (a : Written) (q : Token) (b : Written) (tl : Tail) (c : Token) (e : Written) → Complete d a → Complete d b → CompleteTail d tl → Complete d e → (k : ℕ) (rest : List Token) →
    Fits d k (Choice a q b tl c e) → Ends d rest → From d (Choice a q b tl c e) rest
from_choice d a q b tl c e ca cb ct ce k rest f ends =
    let ts : List Token = spell b (spell_tail tl (c ∷ spell e rest)) in
    let h = ca.lead 3 3 (q ∷ ts) f.1 (omega arith) (omega arith) (question_stops d q ts f.2) (rw f.2 refl) (rw f.2 refl) in
    record {
      operand = h.operand;
      others = h.others;
      reads = h.reads;
      same = rw (
        h.same,
        operators_stop d 3 (tree a) (q ∷ ts) (rw f.2 refl),
        f.2,
        row_read d b tl (c ∷ spell e rest) cb ct f.3 f.4 (colon_ends d c (spell e rest) f.5),
        f.5,
        conditional_read d e rest (ce.from rest f.6 ends),
      ) refl;
      assign = h.assign;
    }

assignment_assign : (d : Dialect) (a : Written) (t : Token) (op : Option BinOp) (b : Written) → Complete d a → Complete d b → (rest : List Token) → Fits d 1 (Assign a t op b) → Ends d rest →
    read d Assignment (spell (Assign a t op b) rest) ≡ Some (tree (Assign a t op b), rest)
assignment_assign d a t op b ca cb rest f ends =
    let ts : List Token = spell b rest in
    read_eq d Assignment (spell a (t ∷ ts)) ∙ rw (
      ca.operand (t ∷ ts) (looser d a 13 14 (omega arith) f.1) (assign_stops d t ts op f.2),
      cast_none d a (t ∷ ts) f.1,
      f.2,
      cb.assignment rest f.3 ends,
    ) refl

complete_between : (d : Dialect) (a : Written) (t : Token) (op : Infix) (b : Written) → Complete d a → Complete d b → Complete d (Between a t op b)
complete_between d a t op b ca cb =
    let max = level_max op in
    record {
      base = λ rest f call. absurd (omega (arith, f.0));
      indexed = λ rest f call index dot. absurd (omega (arith, f.0));
      prefixed = λ rest f stops. absurd (omega (arith, f.0));
      operand = λ rest f stops. absurd (omega (arith, f.0));
      lead = λ k l rest f k3 lk stops stop assign. lead_between d a t op b ca cb k l rest f k3 lk stops stop assign;
      from = λ rest f ends. from_between d a t op b ca cb 2 rest f ends;
      assignment = λ rest f ends. assignment_from d (Between a t op b) rest (from_between d a t op b ca cb 1 rest f ends);
    }

complete_choice : (d : Dialect) (a : Written) (q : Token) (b : Written) (tl : Tail) (c : Token) (e : Written) → Complete d a → Complete d b → CompleteTail d tl → Complete d e → Complete d (Choice a q b tl c e)
complete_choice d a q b tl c e ca cb ct ce = record {
  base = λ rest f call. absurd (omega (arith, f.0));
  indexed = λ rest f call index dot. absurd (omega (arith, f.0));
  prefixed = λ rest f stops. absurd (omega (arith, f.0));
  operand = λ rest f stops. absurd (omega (arith, f.0));
  lead = λ k l rest f k3 lk stops stop assign. absurd (omega (arith, f.0));
  from = λ rest f ends. from_choice d a q b tl c e ca cb ct ce 2 rest f ends;
  assignment = λ rest f ends. assignment_from d (Choice a q b tl c e) rest (from_choice d a q b tl c e ca cb ct ce 1 rest f ends);
}

complete_assign : (d : Dialect) (a : Written) (t : Token) (op : Option BinOp) (b : Written) → Complete d a → Complete d b → Complete d (Assign a t op b)
complete_assign d a t op b ca cb = record {
  base = λ rest f call. absurd (omega (arith, f.0));
  indexed = λ rest f call index dot. absurd (omega (arith, f.0));
  prefixed = λ rest f stops. absurd (omega (arith, f.0));
  operand = λ rest f stops. absurd (omega (arith, f.0));
  lead = λ k l rest f k3 lk stops stop assign. absurd (omega (arith, f.0));
  from = λ rest f ends. absurd (omega (arith, f.0));
  assignment = λ rest f ends. assignment_assign d a t op b ca cb rest f ends;
}

no_base : (d : Dialect) (c : Written) → (Fits d 17 c → ⊥) → BasePart d c
no_base d c never rest f call = absurd (never f)

no_index : (d : Dialect) (c : Written) → (Fits d 16 c → ⊥) → IndexedPart d c
no_index d c never rest f call index dot = absurd (never f)

complete_unary : (d : Dialect) (c : Written) → ((k : ℕ) → Fits d k c → Fits d 14 c) → (Fits d 16 c → ⊥) → PrefixedPart d c → Complete d c
complete_unary d c fits never prefixed = complete_prefixed d c fits (no_base d c (λ f. never (looser d c 16 17 (omega arith) f))) (no_index d c never) prefixed

complete_end : (d : Dialect) → CompleteTail d End
complete_end d = record { others = λ rest f h. read_eq d Others rest ∙ rw h.comma refl }

complete_then : (d : Dialect) (t : Token) (a : Written) (tl : Tail) → Complete d a → CompleteTail d tl → CompleteTail d (Then t a tl)
complete_then d t a tl ca ct = record {
  others = λ rest f h. read_eq d Others (t ∷ spell a (spell_tail tl rest)) ∙ rw (f.0, ca.assignment (spell_tail tl rest) f.1 (tail_ends d tl rest f.2 h), ct.others rest f.2 h) refl;
}

mutual
  complete : (d : Dialect) (c : Written) → Complete d c
  complete d (Constant t c) = complete_base d (Constant t c) (λ k f. f) (base_constant d t c)
  complete d (Named t) = complete_base d (Named t) (λ k f. f) (λ rest f call. base_named d t (named_no d t f) rest f call)
  complete d (Bare g o c) = complete_base d (Bare g o c) (λ k f. f) (base_bare d g o c)
  complete d (Call g o a tl c) = complete_base d (Call g o a tl c) (λ k f. f) (base_call d g o a tl c (complete d a) (complete_tail d tl))
  complete d (Brackets o a tl c) = complete_base d (Brackets o a tl c) (λ k f. f) (base_brackets d o a tl c (complete d a) (complete_tail d tl))
  complete d (Pair o w c b1 b2 a m b e1 e2) = complete_base d (Pair o w c b1 b2 a m b e1 e2) (λ k f. f) (base_pair d o w c b1 b2 a m b e1 e2 (complete d a) (complete d b))
  complete d (Half a o v s n i c) = complete_unary d (Half a o v s n i c) (λ k f. (omega arith, f.1, f.2, f.3, f.4, f.5, f.6, f.7, f.8, f.9)) (λ f. omega (arith, f.0)) (prefixed_half d a o v s n i c (complete d a))
  complete d (Index a o b tl c) = complete_indexed d (Index a o b tl c) (λ k f. (omega arith, f.1, f.2, f.3, f.4, f.5)) (no_base d (Index a o b tl c) (λ f. omega (arith, f.0)))
      (indexed_index d a o b tl c (complete d a) (complete d b) (complete_tail d tl))
  complete d (After a t up) = complete_unary d (After a t up) (λ k f. (omega arith, f.1, f.2)) (λ f. omega (arith, f.0)) (prefixed_after d a t up (complete d a))
  complete d (Before t up a) = complete_unary d (Before t up a) (λ k f. (omega arith, f.1, f.2)) (λ f. omega (arith, f.0)) (prefixed_before d t up a (complete d a))
  complete d (Prefix t op a) = complete_unary d (Prefix t op a) (λ k f. (omega arith, f.1, f.2)) (λ f. omega (arith, f.0)) (prefixed_prefix d t op a (complete d a))
  complete d (SizeOfType s o words ty c) = complete_unary d (SizeOfType s o words ty c) (λ k f. (omega arith, f.1, f.2, f.3, f.4)) (λ f. omega (arith, f.0)) (prefixed_size_type d s o words ty c)
  complete d (SizeOfName s x) = complete_unary d (SizeOfName s x) (λ k f. (omega arith, f.1, f.2)) (λ f. omega (arith, f.0)) (prefixed_size_name d s x)
  complete d (SizeOfBracketed s o x c) = complete_unary d (SizeOfBracketed s o x c) (λ k f. (omega arith, f.1, f.2, f.3, f.4)) (λ f. omega (arith, f.0)) (prefixed_size_bracketed d s o x c)
  complete d (Cast o words ty c a) = complete_operand d (Cast o words ty c a) (λ k f. (omega arith, f.1, f.2, f.3, f.4)) (no_base d (Cast o words ty c a) (λ f. omega (arith, f.0))) (no_index d (Cast o words ty c a) (λ f. omega (arith, f.0)))
      (λ rest f stops. absurd (omega (arith, f.0))) (operand_cast d o words ty c a (complete d a))
  complete d (Between a t op b) = complete_between d a t op b (complete d a) (complete d b)
  complete d (Choice a q b tl c e) = complete_choice d a q b tl c e (complete d a) (complete d b) (complete_tail d tl) (complete d e)
  complete d (Assign a t op b) = complete_assign d a t op b (complete d a) (complete d b)

  complete_tail : (d : Dialect) (tl : Tail) → CompleteTail d tl
  complete_tail d End = complete_end d
  complete_tail d (Then t a tl) = complete_then d t a tl (complete d a) (complete_tail d tl)

-- what is written is read, whatever stands behind it that doesn't go on with it
pub row_complete : (d : Dialect) (a : Written) (tl : Tail) (rest : List Token) → Fits d 1 a → FitAll d tl → Closed d rest →
    expression_with (read d) (spell a (spell_tail tl rest)) ≡ Some (comma_tree (tree a) tl, rest)
row_complete d a tl rest f g h = row_read d a tl rest (complete d a) (complete_tail d tl) f g h

-- the same of an expression without commas
pub assignment_complete : (d : Dialect) (a : Written) (rest : List Token) → Fits d 1 a → Ends d rest → read d Assignment (spell a rest) ≡ Some (tree a, rest)
assignment_complete d a rest f h = (complete d a).assignment rest f h

-- what is no constant to the grammar has no value
pub no_value : (d : Dialect) (t : Token) (m : Symbol) → symbol_of d t ≡ m → (m ≡ symbols.Constant → ⊥) → constant_at t ≡ None
no_value d t m e never = name_no_constant d t m e never
