-- How expressions are written: with brackets where the levels of C11 6.5 need them, and round a prefix operation that is the
-- operand of another. A cast that isn't written has its operand's text. `sizeof` and strings stand in no unit that is written;
-- they have the text of C here.
use Rattle.std.specs.Prelude.{ℕ, ◌+◌, List, [], ◌++◌, Bool, true, false, int_lt, pos, nat_lt, not, ◌&&◌, ◌==◌, if◌then◌else◌, Option, Some, None, codes, decimal}
use Rattle.lane_core.specs.declared.number.BinOp.{BinOp}
use Rattle.lane_core.specs.declared.number.BinOp.TheVariants.{Mul, Div, Rem, Add, Sub, Shl, Shr, Lt, Gt, Le, Ge, Eq, Ne, BitAnd, BitXor, BitOr}
use Rattle.lane_core.specs.declared.number.Num.{Num}
use Rattle.lane_core.specs.declared.number.UnOp.{UnOp}
use Rattle.lane_core.specs.declared.number.UnOp.TheVariants.{Plus, Neg, BitNot, Not}
use Rattle.c_tree.specs.Operators.{operator_text, prefix_text, step_text}
use Rattle.c_tree.specs.Tree.{Tree, Kind, Trees, Node, Const, Name, Unary, Step, Binary, AndThen, OrElse, Choice, Assign, Comma, Cast, Index, Deref, Address, Call, Half, PairOf, SizeOfType, SizeOfName, Str, NoTrees, More}
use Rattle.c_print.specs.Types.{type_text}
use Rattle.c_print.specs.Constants.{constant_text}

-- an assignment, which may have an operator in it (C11 6.5.16), with a space on each side
abbrev pub assignment_text : Option BinOp → List ℕ
assignment_text None = codes " = "
assignment_text (Some op) = codes " " ++ (operator_text op ++ codes "= ")

-- How tight an operator binds. The levels of expressions are 0 for the comma, 1 the assignment, 2 the choice, 3 to 12 the
-- operators between two operands, 13 the cast, 14 the prefix operations, 15 a step or a half behind its operand, 16 the index,
-- 17 constants, and 18 names, calls, pairs and what stands in brackets.
abbrev pub operator_level : BinOp → ℕ
operator_level BitOr = 5
operator_level BitXor = 6
operator_level BitAnd = 7
operator_level Eq = 8
operator_level Ne = 8
operator_level Lt = 9
operator_level Gt = 9
operator_level Le = 9
operator_level Ge = 9
operator_level Shl = 10
operator_level Shr = 10
operator_level Add = 11
operator_level Sub = 11
operator_level Mul = 12
operator_level Div = 12
operator_level Rem = 12

-- the level of a number: a negative one is a prefix operation
abbrev pub constant_level : Num → ℕ
constant_level n = if int_lt n.value (pos 0) then 14 else 17

abbrev pub step_level : Bool → ℕ
step_level before = if before then 14 else 15

abbrev mutual
  -- the level of an expression; that of a cast that isn't written is its operand's
  pub level : Tree → ℕ
  level (Node p ty k) = kind_level k

  pub kind_level : Kind → ℕ
  kind_level (Const n) = constant_level n
  kind_level (Name x) = 18
  kind_level (Unary op a) = 14
  kind_level (Step a up before) = step_level before
  kind_level (Binary op a b) = operator_level op
  kind_level (AndThen a b) = 4
  kind_level (OrElse a b) = 3
  kind_level (Choice c a b) = 2
  kind_level (Assign op a b) = 1
  kind_level (Comma all) = 0
  kind_level (Cast ty a true) = 13
  kind_level (Cast ty a false) = level a
  kind_level (Index a b) = 16
  kind_level (Deref a) = 14
  kind_level (Address a) = 14
  kind_level (Call f all) = 18
  kind_level (Half a k) = 15
  kind_level (PairOf a b) = 18
  kind_level (SizeOfType ty) = 14
  kind_level (SizeOfName x) = 14
  kind_level (Str x) = 18

-- whether the form has several operands
abbrev mutual
  pub is_joined : Tree → Bool
  is_joined (Node p ty k) = is_joined_kind k

  pub is_joined_kind : Kind → Bool
  is_joined_kind (Binary op a b) = true
  is_joined_kind (AndThen a b) = true
  is_joined_kind (OrElse a b) = true
  is_joined_kind (Choice c a b) = true
  is_joined_kind (Assign op a b) = true
  is_joined_kind (Index a b) = true
  is_joined_kind (PairOf a b) = true
  is_joined_kind _ = false

-- a bracket, if one is needed
abbrev pub opening : Bool → List ℕ
opening true = codes "("
opening false = []

abbrev pub closing : Bool → List ℕ
closing true = codes ")"
closing false = []

abbrev pub bracketed : Bool → List ℕ → List ℕ
bracketed needed text = opening needed ++ (text ++ closing needed)

-- whether an expression of this level has brackets behind a prefix operator: a cast has none, a prefix operation has them
abbrev pub is_wrapped_operand : ℕ → Bool
is_wrapped_operand level = nat_lt level 15 && not (level == 13)

-- with a space on each side
abbrev pub spaced : List ℕ → List ℕ
spaced text = codes " " ++ (text ++ codes " ")

-- what a pair begins with
unfoldable pub pair_opening : List ℕ
pair_opening = codes "(uint8x16x2_t){{"

abbrev mutual
  -- an expression, with no brackets round it
  pub text : Tree → List ℕ
  text (Node p ty k) = kind_text k

  -- the same where this level is wanted or a tighter one may stand
  pub part : ℕ → Tree → List ℕ
  part wanted (Node p ty k) = bracketed (nat_lt (kind_level k) wanted) (kind_text k)

  -- the same behind a prefix operator, where casts stand without brackets and prefix operations have them
  pub operand : Tree → List ℕ
  operand (Node p ty k) = bracketed (is_wrapped_operand (kind_level k)) (kind_text k)

  pub kind_text : Kind → List ℕ
  kind_text (Const n) = constant_text n
  kind_text (Name x) = x
  kind_text (Unary op a) = prefix_text op ++ operand a
  kind_text (Step a up true) = step_text up ++ part 15 a
  kind_text (Step a up false) = part 16 a ++ step_text up
  kind_text (Binary op a b) = part (operator_level op) a ++ (spaced (operator_text op) ++ part (operator_level op + 1) b)
  kind_text (AndThen a b) = part 4 a ++ (spaced (codes "&&") ++ part 5 b)
  kind_text (OrElse a b) = part 3 a ++ (spaced (codes "||") ++ part 4 b)
  kind_text (Choice c a b) = part 3 c ++ (codes " ? " ++ (text a ++ (codes " : " ++ part 2 b)))
  kind_text (Assign op a b) = part 14 a ++ (assignment_text op ++ part 1 b)
  kind_text (Comma all) = list_text all
  kind_text (Cast ty a true) = codes "(" ++ (type_text ty ++ (codes ")" ++ part 13 a))
  kind_text (Cast ty a false) = text a
  kind_text (Index a b) = part 17 a ++ (codes "[" ++ (text b ++ codes "]"))
  kind_text (Deref a) = codes "*" ++ operand a
  kind_text (Address a) = codes "&" ++ operand a
  kind_text (Call f all) = f ++ (codes "(" ++ (list_text all ++ codes ")"))
  kind_text (Half a k) = part 18 a ++ (codes ".val[" ++ (decimal k ++ codes "]"))
  kind_text (PairOf a b) = pair_opening ++ (part 1 a ++ (codes ", " ++ (part 1 b ++ codes "}}")))
  kind_text (SizeOfType ty) = codes "sizeof(" ++ (type_text ty ++ codes ")")
  kind_text (SizeOfName x) = codes "sizeof(" ++ (x ++ codes ")")
  kind_text (Str x) = x

  -- expressions with commas between them
  pub list_text : Trees → List ℕ
  list_text NoTrees = []
  list_text (More a rest) = part 1 a ++ more_text rest

  -- the same, behind another
  pub more_text : Trees → List ℕ
  more_text NoTrees = []
  more_text (More a rest) = codes ", " ++ (part 1 a ++ more_text rest)
