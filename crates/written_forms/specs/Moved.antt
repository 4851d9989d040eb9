-- What the expressions of a source are written as.
use Rattle.std.specs.Prelude.{ℕ, Bool, true, false, ◌&&◌, List, [], ◌∷◌, ◌++◌, Option, Some, None, if◌then◌else◌, unsigned_abs, pos, codes, decimal}
use Rattle.lane_core.specs.declared.number.IntType.TheVariants as int
use Rattle.lane_core.specs.declared.number.Num.{Num}
use Rattle.lane_core.specs.declared.table.ImmRange.{ImmRange}
use Rattle.lane_core.specs.declared.table.ImmRange.TheVariants.{NoImmediate, Span, Scale}
use Rattle.lane_core.specs.declared.table.ParamKind.{ParamKind}
use Rattle.lane_core.specs.declared.table.ParamKind.TheVariants as kind
use Rattle.lane_core.specs.Table.{params_of}
use Rattle.scalar_core.specs.Numbers.{num_of}
use Rattle.const_imm.specs.Constant.{value_of}
use Rattle.const_imm.specs.Sizes.{size_of}
use Rattle.c_text.specs.declared.tokens.Place.{Place}
use Rattle.c_tree.specs.declared.types.CType.{CType}
use Rattle.c_tree.specs.Nodes.{node_place}
use Rattle.c_tree.specs.Tree.{Tree, Kind, Trees, Node, Const, Name, Unary, Step, Binary, AndThen, OrElse, Choice, Assign, Comma, Cast, Call, SizeOfType, SizeOfName, NoTrees, More}
use Rattle.c_memory.specs.Matching.{written_integer, written_type}
use Rattle.c_memory.specs.Meaning.{type_of}
use Rattle.type_rules.specs.Types.{same_type}
use Rattle.intel_table.specs.declared.IntelOp.{IntelOp}
use Rattle.intel_table.specs.Rows.{find_of, signature_of, range_of}
use Rattle.seq_core.specs.Terms.{Sequence}
use Rattle.seq_core.specs.InPlace.{stands_in_place, in_place}
use Rattle.seq_core.specs.Listed.{listed}
use Rattle.written_forms.specs.Seen.{Local, Sees}

-- the sequence that stands for the row of a name with an immediate, which is 0 for a row without one
abbrev pub Plans : Type 0
Plans = List ℕ → ℕ → Option Sequence

-- ---- parts

-- a constant of the type that its own is written as
abbrev pub number : Num → Num
number n = num_of (written_integer n.ty) n.value

-- A conversion to type t of an expression whose type is written as s: a written cast stays, and another, which stands where its operand does,
-- goes where the types are the same.
abbrev pub cast : Place → CType → CType → Tree → Bool → Tree
cast p t s a true = Node p t (Cast t a true)
cast p t s a false = if same_type s t then a else Node (node_place a) t (Cast t a false)

-- a size is written as its value
abbrev pub size : Place → Option ℕ → Tree
size p None = Node p (CType.Int int.ULong) (Const (num_of int.ULong (pos 0)))
size p (Some n) = Node p (CType.Int int.ULong) (Const (num_of int.ULong (pos n)))

abbrev pub size_of_local : Option Local → Option ℕ
size_of_local None = None
size_of_local (Some l) = size_of l.ty

-- ---- calls of rows

-- the operands of a row, which are its arguments without the immediate
abbrev pub operands : List ParamKind → Trees → Trees
operands (kind.Immediate ∷ ks) (More a rest) = operands ks rest
operands (k ∷ ks) (More a rest) = More a (operands ks rest)
operands _ _ = NoTrees

-- the immediate, and 0 where there is none
abbrev pub constant : Option Num → ℕ
constant None = 0
constant (Some n) = unsigned_abs n.value

abbrev pub immediate_among : List ParamKind → Trees → ℕ
immediate_among (kind.Immediate ∷ ks) (More a rest) = constant (value_of a)
immediate_among (k ∷ ks) (More a rest) = immediate_among ks rest
immediate_among _ _ = 0

-- a variable or a constant
abbrev pub is_plain : Tree → Bool
is_plain (Node p t (Name x)) = true
is_plain (Node p t (Const n)) = true
is_plain e = false

abbrev pub are_plain : Trees → Bool
are_plain NoTrees = true
are_plain (More a rest) = is_plain a && are_plain rest

abbrev pub is_steady_local : Option Local → Bool
is_steady_local None = false
is_steady_local (Some l) = l.steady

-- a variable that is always set, or a constant
abbrev pub is_steady : Sees → Tree → Bool
is_steady sees (Node p t (Name x)) = is_steady_local (sees x)
is_steady sees (Node p t (Const n)) = true
is_steady sees e = false

abbrev pub all_true : Trees → List Bool
all_true NoTrees = []
all_true (More a rest) = true ∷ all_true rest

abbrev pub steady : Sees → Trees → List Bool
steady sees NoTrees = []
steady sees (More a rest) = is_steady sees a ∷ steady sees rest

-- The operands that may be read at any place among the others. Where all are variables and constants, nothing is changed in between; else
-- these are the variables that are always set, and the constants.
abbrev pub simple : Sees → Trees → List Bool
simple sees all = if are_plain all then all_true all else steady sees all

-- a row's function is named `mg` and the row's name; `_` and the immediate follow where the row has one
abbrev pub suffix : ImmRange → ℕ → List ℕ
suffix NoImmediate imm = []
suffix (Span low high) imm = codes "_" ++ decimal imm
suffix Scale imm = codes "_" ++ decimal imm

abbrev pub helper_name : List ℕ → ImmRange → ℕ → List ℕ
helper_name f range imm = codes "mg" ++ (f ++ suffix range imm)

-- A conversion of an operand is written where a sequence takes the operand's place: it may stand there where no conversion is wanted.
abbrev pub stated : Tree → Tree
stated (Node p t (Cast u a false)) = Node p t (Cast u a true)
stated e = e

abbrev pub all_stated : Trees → Trees
all_stated NoTrees = NoTrees
all_stated (More a rest) = More (stated a) (all_stated rest)

-- the sequence stands in place of the call, or the call is one of the row's function
abbrev pub row_written : Place → CType → List ℕ → Option Sequence → List Bool → Trees → Tree
row_written p t name None flags args = Node p t (Call name args)
row_written p t name (Some q) flags args = if stands_in_place flags q then in_place p (listed (all_stated args)) q.result else Node p t (Call name args)

abbrev pub called : Plans → Sees → Place → CType → List ℕ → Option IntelOp → Trees → Trees → Tree
called plans sees p t f None all args = Node p t (Call f args)
called plans sees p t f (Some op) all args =
    let ks = params_of (signature_of op) in
    let imm = immediate_among ks all in
    row_written p t (helper_name f (range_of op) imm) (plans f imm) (simple sees (operands ks all)) (operands ks args)

-- ---- expressions

abbrev mutual
  pub moved : Plans → Sees → Tree → Tree
  moved plans sees (Node p t k) = moved_kind plans sees p (written_type t) k

  pub moved_kind : Plans → Sees → Place → CType → Kind → Tree
  moved_kind plans sees p t (Const n) = Node p t (Const (number n))
  moved_kind plans sees p t (Unary o a) = Node p t (Unary o (moved plans sees a))
  moved_kind plans sees p t (Step a up before) = Node p t (Step (moved plans sees a) up before)
  moved_kind plans sees p t (Binary o a b) = Node p t (Binary o (moved plans sees a) (moved plans sees b))
  moved_kind plans sees p t (AndThen a b) = Node p t (AndThen (moved plans sees a) (moved plans sees b))
  moved_kind plans sees p t (OrElse a b) = Node p t (OrElse (moved plans sees a) (moved plans sees b))
  moved_kind plans sees p t (Choice c a b) = Node p t (Choice (moved plans sees c) (moved plans sees a) (moved plans sees b))
  moved_kind plans sees p t (Assign o a b) = Node p t (Assign o (moved plans sees a) (moved plans sees b))
  moved_kind plans sees p t (Comma all) = Node p t (Comma (moved_all plans sees all))
  moved_kind plans sees p t (Cast u a written) = cast p (written_type u) (written_type (type_of a)) (moved plans sees a) written
  moved_kind plans sees p t (Call f all) = called plans sees p t f (find_of f) all (moved_all plans sees all)
  moved_kind plans sees p t (SizeOfType u) = size p (size_of u)
  moved_kind plans sees p t (SizeOfName x) = size p (size_of_local (sees x))
  moved_kind plans sees p t k = Node p t k

  pub moved_all : Plans → Sees → Trees → Trees
  moved_all plans sees NoTrees = NoTrees
  moved_all plans sees (More a rest) = More (moved plans sees a) (moved_all plans sees rest)
