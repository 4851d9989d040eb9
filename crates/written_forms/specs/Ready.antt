-- What is asked of the expressions of a source, so that what is written for them does the same: each part has the type that its place needs,
-- each name stands for an object apart from memory, and each row has a sequence that stands for it.
use Rattle.std.specs.Prelude.{◌≡◌, ℕ, Bool, true, false, ◌||◌, List, [], ◌∷◌, map, Option, Some, None, pos}
use Rattle.std.specs.Str.{bytes_eq}
use Rattle.lane_core.specs.declared.number.IntType.{IntType}
use Rattle.lane_core.specs.declared.number.IntType.TheVariants as int
use Rattle.lane_core.specs.declared.number.Num.{Num}
use Rattle.lane_core.specs.declared.number.BinOp.{BinOp}
use Rattle.lane_core.specs.declared.table.ParamKind.{ParamKind}
use Rattle.lane_core.specs.declared.table.ParamKind.TheVariants as kind
use Rattle.lane_core.specs.Table.{params_of}
use Rattle.scalar_core.specs.Ranks.{common_of}
use Rattle.scalar_core.specs.Operators.{binary_type, unary_type}
use Rattle.const_imm.specs.Constant.{value_of}
use Rattle.c_tree.specs.declared.types.CType.{CType}
use Rattle.c_tree.specs.Tree.{Tree, Kind, Trees, Node, Const, Name, Unary, Step, Binary, AndThen, OrElse, Choice, Assign, Comma, Cast, Call, SizeOfType, SizeOfName, NoTrees, More}
use Rattle.c_memory.specs.declared.value.Value.{Value}
use Rattle.c_memory.specs.declared.blocks.Block.{Block}
use Rattle.c_memory.specs.Matching.{written_type}
use Rattle.c_memory.specs.Meaning.{type_of}
use Rattle.c_memory.specs.MeaningRows.{RowTable, rows_of, row_result}
use Rattle.intel_table.specs.declared.IntelOp.{IntelOp}
use Rattle.intel_table.specs.Rows.{find_of, signature_of, range_of, accesses_of, access_of, eval_of}
use Rattle.type_rules.specs.Passing.{kind_type}
use Rattle.seq_core.specs.Terms.{Sequence}
use Rattle.seq_core.specs.Formed.{sequence_type}
use Rattle.seq_core.specs.Claims.{IsCallable}
use Rattle.seq_core.specs.InPlace.{stands_in_place}
use Rattle.seq_core.specs.Values.{sequence_value}
use Rattle.simulation.specs.Alike.{Arguments}
use Rattle.written_forms.specs.TypedValues.{TypedValues}
use Rattle.written_forms.specs.Seen.{Local, Sees}
use Rattle.written_forms.specs.Moved.{Plans, operands, immediate_among, are_plain, simple}

-- ---- rows

-- the Intel rows as the meaning of C takes them
abbrev pub table : RowTable IntelOp
table = rows_of find_of signature_of range_of accesses_of access_of eval_of

-- the types of a row's operands in the source
abbrev pub operand_types : List ParamKind → List CType
operand_types [] = []
operand_types (kind.Immediate ∷ ks) = operand_types ks
operand_types (k ∷ ks) = kind_type k ∷ operand_types ks

-- these are the operands with the immediate in its place, whatever integer type that has
abbrev pub Filled : List ParamKind → List Value → List Value → ℕ → Type 0
Filled (kind.Immediate ∷ ks) vs (Value.Int m ∷ all) imm = (m.value ≡ pos imm) × Filled ks vs all imm
Filled (kind.Reg bytes ∷ ks) (v ∷ vs) (w ∷ all) imm = (v ≡ w) × Filled ks vs all imm
Filled (kind.Lane lanes wide ∷ ks) (v ∷ vs) (w ∷ all) imm = (v ≡ w) × Filled ks vs all imm
Filled (kind.Pair ∷ ks) (v ∷ vs) (w ∷ all) imm = (v ≡ w) × Filled ks vs all imm
Filled (kind.Scalar t ∷ ks) (v ∷ vs) (w ∷ all) imm = (v ≡ w) × Filled ks vs all imm
Filled (kind.PointerTo e constant ∷ ks) (v ∷ vs) (w ∷ all) imm = (v ≡ w) × Filled ks vs all imm
Filled (kind.Nothing ∷ ks) (v ∷ vs) (w ∷ all) imm = (v ≡ w) × Filled ks vs all imm
Filled [] [] [] imm = Unit {0}
Filled _ _ _ imm = ⊥

-- For these operands, with the immediate in its place, a call of the row gives one value over every memory, which it leaves; the
-- sequence gives the one that it is written as.
pub record GivesAlike (op : IntelOp) (imm : ℕ) (q : Sequence) (vs ws : List Value) : Type 0 where
  pub v : Value
  pub w : Value
  pub values : TypedValues (kind_type (signature_of op).result) v w
  pub row : (all : List Value) → Filled (params_of (signature_of op)) vs all imm → (memory : List Block) → row_result table op all memory ≡ Some (Some v, memory)
  pub sequence : sequence_value q ws ≡ Some (Some w)

-- The sequence stands for the row with this immediate: for all operands it gives what the row gives. Its parameters have the types that
-- those of the row's operands are written as.
pub record Stands (op : IntelOp) (imm : ℕ) (q : Sequence) : Type 0 where
  pub callable : IsCallable q
  pub params : q.params ≡ map written_type (operand_types (params_of (signature_of op)))
  pub gives : (vs ws : List Value) → Arguments TypedValues (operand_types (params_of (signature_of op))) vs ws → GivesAlike op imm q vs ws

-- the immediate is this constant
abbrev pub IsConstant : Option Num → ℕ → Type 0
IsConstant None imm = ⊥
IsConstant (Some n) imm = n.value ≡ pos imm

-- as many arguments as parameters, and a constant where the immediate stands
abbrev pub HasImmediate : List ParamKind → Trees → ℕ → Type 0
HasImmediate (kind.Immediate ∷ ks) (More a rest) imm = IsConstant (value_of a) imm × HasImmediate ks rest imm
HasImmediate (k ∷ ks) (More a rest) imm = HasImmediate ks rest imm
HasImmediate [] NoTrees imm = Unit {0}
HasImmediate _ _ imm = ⊥

-- ---- names

-- the name stands for an object of this type
abbrev pub IsSeen : Sees → List ℕ → CType → Type 0
IsSeen sees x t = (l : Local) × (sees x ≡ Some l) × (l.ty ≡ t)

-- the types of objects apart from memory that are moved
abbrev pub IsCarried : CType → Type 0
IsCarried (CType.Int s) = Unit {0}
IsCarried CType.M128 = Unit {0}
IsCarried t = ⊥

abbrev pub AreCarried : List CType → Type 0
AreCarried [] = Unit {0}
AreCarried (t ∷ ts) = IsCarried t × AreCarried ts

-- the expression is a variable of this type
abbrev pub IsVariable : Sees → CType → Tree → Type 0
IsVariable sees t (Node p u (Name x)) = IsSeen sees x t × IsCarried t
IsVariable sees t e = ⊥

-- ---- which variables an expression sets

abbrev pub is_name : List ℕ → Tree → Bool
is_name x (Node p t (Name y)) = bytes_eq x y
is_name x e = false

abbrev mutual
  -- the expression assigns to the variable, or steps it
  pub assigns : List ℕ → Tree → Bool
  assigns x (Node p t k) = kind_assigns x k

  pub kind_assigns : List ℕ → Kind → Bool
  kind_assigns x (Unary o a) = assigns x a
  kind_assigns x (Step a up before) = is_name x a
  kind_assigns x (Binary o a b) = assigns x a || assigns x b
  kind_assigns x (AndThen a b) = assigns x a || assigns x b
  kind_assigns x (OrElse a b) = assigns x a || assigns x b
  kind_assigns x (Choice c a b) = assigns x c || (assigns x a || assigns x b)
  kind_assigns x (Assign o a b) = is_name x a || assigns x b
  kind_assigns x (Comma all) = any_assigns x all
  kind_assigns x (Cast u a written) = assigns x a
  kind_assigns x (Call f all) = any_assigns x all
  kind_assigns x k = false

  pub any_assigns : List ℕ → Trees → Bool
  any_assigns x NoTrees = false
  any_assigns x (More a rest) = assigns x a || any_assigns x rest

-- no operand assigns to a variable that stands as an operand beside it
abbrev pub StaysAmong : Trees → Tree → Type 0
StaysAmong all (Node p t (Name x)) = any_assigns x all ≡ false
StaysAmong all e = Unit {0}

abbrev pub AllStayAmong : Trees → Trees → Type 0
AllStayAmong all NoTrees = Unit {0}
AllStayAmong all (More a rest) = StaysAmong all a × AllStayAmong all rest

-- where all operands are variables and constants, none assigns anything
abbrev pub StayUnless : Bool → Trees → Type 0
StayUnless true all = Unit {0}
StayUnless false all = AllStayAmong all all

abbrev pub AreUndisturbed : Trees → Type 0
AreUndisturbed all = StayUnless (are_plain all) all

-- ---- expressions

pub record Heading : Type 0 where
  pub params : List CType
  pub result : CType

-- the sequences of the rows, which rows with which immediates have a function, and the functions of the unit that may be called
pub record Setting : Type 0 where
  pub plans : Plans
  pub helps : List ℕ → ℕ → Bool
  pub heads : List ℕ → Option Heading

abbrev pub IsInt : CType → Type 0
IsInt (CType.Int s) = Unit {0}
IsInt t = ⊥

abbrev pub WhenInt : CType → (IntType → Type 0) → Type 0
WhenInt (CType.Int s) P = P s
WhenInt t P = ⊥

-- an integer type that is the common type with itself (C11 6.3.1.8), or no integer type
abbrev pub IsCommon : CType → Type 0
IsCommon (CType.Int s) = common_of s s ≡ s
IsCommon t = Unit {0}

abbrev pub types_of : Trees → List CType
types_of NoTrees = []
types_of (More a rest) = type_of a ∷ types_of rest

-- the last of expressions between commas has this type
abbrev pub EndsIn : CType → Trees → Type 0
EndsIn t NoTrees = ⊥
EndsIn t (More a NoTrees) = type_of a ≡ t
EndsIn t (More a (More b rest)) = EndsIn t (More b rest)

-- what is given to an object of type t, with an operator or without
abbrev pub IsGivenTo : Option BinOp → CType → CType → Type 0
IsGivenTo None t u = u ≡ t
IsGivenTo (Some o) t u = IsInt t × IsInt u

-- a call of a function of the unit
pub record CallsFunction (w : Setting) (t : CType) (f : List ℕ) (all : Trees) : Type 0 where
  pub head : Heading
  pub is : w.heads f ≡ Some head
  pub types : types_of all ≡ head.params
  pub result : t ≡ head.result

-- a call of a row that has a sequence
pub record CallsRow (w : Setting) (sees : Sees) (t : CType) (f : List ℕ) (op : IntelOp) (all : Trees) : Type 0 where
  pub plan : Sequence
  pub is : w.plans f (immediate_among (params_of (signature_of op)) all) ≡ Some plan
  pub stands : Stands op (immediate_among (params_of (signature_of op)) all) plan
  pub gives : sequence_type plan ≡ written_type (kind_type (signature_of op).result)
  pub immediate : HasImmediate (params_of (signature_of op)) all (immediate_among (params_of (signature_of op)) all)
  pub helped : stands_in_place (simple sees (operands (params_of (signature_of op)) all)) plan ≡ false → w.helps f (immediate_among (params_of (signature_of op)) all) ≡ true
  pub types : types_of (operands (params_of (signature_of op)) all) ≡ operand_types (params_of (signature_of op))
  pub carried : AreCarried (types_of (operands (params_of (signature_of op)) all))
  pub result : t ≡ kind_type (signature_of op).result
  pub undisturbed : AreUndisturbed (operands (params_of (signature_of op)) all)

abbrev pub IsCall : Setting → Sees → CType → List ℕ → Option IntelOp → Trees → Type 0
IsCall w sees t f None all = CallsFunction w t f all
IsCall w sees t f (Some op) all = CallsRow w sees t f op all

abbrev mutual
  pub Ready : Setting → Sees → Tree → Type 0
  Ready w sees (Node p t k) = ReadyKind w sees t k

  pub ReadyKind : Setting → Sees → CType → Kind → Type 0
  ReadyKind w sees t (Const n) = t ≡ CType.Int n.ty
  ReadyKind w sees t (Name x) = IsSeen sees x t × IsCarried t
  ReadyKind w sees t (Unary o a) = WhenInt (type_of a) (λ s. t ≡ CType.Int (unary_type o s)) × Ready w sees a
  ReadyKind w sees t (Step a up before) = IsInt t × IsVariable sees t a
  ReadyKind w sees t (Binary o a b) =
      WhenInt (type_of a) (λ s. WhenInt (type_of b) (λ u. t ≡ CType.Int (binary_type o s u))) × Ready w sees a × Ready w sees b
  ReadyKind w sees t (AndThen a b) = (t ≡ CType.Int int.Int) × IsInt (type_of a) × IsInt (type_of b) × Ready w sees a × Ready w sees b
  ReadyKind w sees t (OrElse a b) = (t ≡ CType.Int int.Int) × IsInt (type_of a) × IsInt (type_of b) × Ready w sees a × Ready w sees b
  ReadyKind w sees t (Choice c a b) =
      IsInt (type_of c) × IsCommon t × (type_of a ≡ t) × (type_of b ≡ t) × Ready w sees c × Ready w sees a × Ready w sees b
  ReadyKind w sees t (Assign o a b) = IsVariable sees t a × IsGivenTo o t (type_of b) × Ready w sees b
  ReadyKind w sees t (Comma all) = EndsIn t all × AreReady w sees all
  ReadyKind w sees t (Cast CType.Void a true) = (t ≡ CType.Void) × Ready w sees a
  ReadyKind w sees t (Cast (CType.Int s) a written) = (t ≡ CType.Int s) × IsInt (type_of a) × Ready w sees a
  ReadyKind w sees t (Call f all) = IsCall w sees t f (find_of f) all × AreReady w sees all
  ReadyKind w sees t (SizeOfType u) = t ≡ CType.Int int.ULong
  ReadyKind w sees t (SizeOfName x) = (t ≡ CType.Int int.ULong) × ((l : Local) × (sees x ≡ Some l))
  ReadyKind w sees t k = ⊥

  pub AreReady : Setting → Sees → Trees → Type 0
  AreReady w sees NoTrees = Unit {0}
  AreReady w sees (More a rest) = Ready w sees a × AreReady w sees rest
