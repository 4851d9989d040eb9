-- The rules of C11 6.5 for types, one for each case that the standard names: what an operator, a cast or an argument becomes where
-- its parts have their types.
use Rattle.std.specs.Prelude.{◌≡◌, ℕ, ◌<◌, ◌⊎◌, Bool, true, false, ◌||◌, List, [], ◌∷◌, Some, None}
use Rattle.c_text.specs.declared.tokens.Place.{Place}
use Rattle.lane_core.specs.declared.number.IntType.{IntType}
use Rattle.lane_core.specs.declared.number.IntType.TheVariants as i
use Rattle.lane_core.specs.declared.number.Num.{Num}
use Rattle.lane_core.specs.declared.number.BinOp.{BinOp}
use Rattle.lane_core.specs.declared.number.BinOp.TheVariants.{Add, Sub, Lt, Gt, Le, Ge, Eq, Ne}
use Rattle.lane_core.specs.declared.number.UnOp.{UnOp}
use Rattle.lane_core.specs.declared.number.UnOp.TheVariants.{Not}
use Rattle.lane_core.specs.declared.vector.NeonLane.TheVariants as lane
use Rattle.lane_core.specs.declared.vector.Pointee.{Pointee}
use Rattle.lane_core.specs.declared.vector.Pointee.TheVariants as target
use Rattle.scalar_core.specs.Ranks.{promoted, common_of}
use Rattle.scalar_core.specs.Operators.{left_type, right_type, binary_type, is_comparison}
use Rattle.const_imm.specs.Sizes.{size_of}
use Rattle.c_tree.specs.declared.types.CType.{CType}
use Rattle.c_tree.specs.declared.types.CType.TheVariants as type
use Rattle.c_tree.specs.Tree.{Tree, Kind, Trees, Node, Const, Unary, Step, Binary, AndThen, OrElse, Choice, Assign, Comma, Cast, Index, Deref, Half, PairOf, SizeOfType, NoTrees, More}
use Rattle.type_rules.specs.declared.passing.Parameter.{Parameter}
use Rattle.type_rules.specs.declared.passing.Parameter.TheVariants.{Object, Immediate}
use Rattle.c_tree.specs.Nodes.{node_type}
use Rattle.type_rules.specs.Types.{is_zero, converted}

-- an integer, and a pointer, const or not, to this type
abbrev pub HasInteger : Tree → IntType → Type 0
HasInteger a t = node_type a ≡ type.Int t

abbrev pub HasPointer : Tree → Pointee → Bool → Type 0
HasPointer a e c = node_type a ≡ type.Pointer e c

-- an object type, as a pointee (6.2.5p1)
abbrev pub IsObject : Pointee → Type 0
IsObject target.Void = ⊥
IsObject e = Unit {0}

-- the type of an object that is pointed to
pub data IsObjectOf : Pointee → CType → Type 0 where
  an_integer : (t : IntType) → IsObjectOf (target.Int t) (type.Int t)
  a_vector : IsObjectOf target.M128 type.M128
  a_wide_vector : IsObjectOf target.M256 type.M256

-- a scalar is an integer or a pointer (6.2.5p21)
abbrev pub IsScalar : CType → Type 0
IsScalar (type.Int t) = Unit {0}
IsScalar (type.Pointer e c) = Unit {0}
IsScalar t = ⊥

abbrev pub IsVector : CType → Type 0
IsVector type.M128 = Unit {0}
IsVector type.M256 = Unit {0}
IsVector (type.Neon l wide) = Unit {0}
IsVector type.Pair = Unit {0}
IsVector t = ⊥

-- the character types (6.2.5p15)
abbrev pub IsCharacter : Pointee → Type 0
IsCharacter (target.Int i.Char) = Unit {0}
IsCharacter (target.Int i.SChar) = Unit {0}
IsCharacter (target.Int i.UChar) = Unit {0}
IsCharacter e = ⊥

-- the operators of 6.5.3.3 that promote; the additive (6.5.6), relational (6.5.8) and equality (6.5.9) operators
abbrev pub Promotes : UnOp → Type 0
Promotes Not = ⊥
Promotes o = Unit {0}

abbrev pub IsAdditive : BinOp → Type 0
IsAdditive Add = Unit {0}
IsAdditive Sub = Unit {0}
IsAdditive o = ⊥

abbrev pub IsRelational : BinOp → Type 0
IsRelational Lt = Unit {0}
IsRelational Gt = Unit {0}
IsRelational Le = Unit {0}
IsRelational Ge = Unit {0}
IsRelational o = ⊥

abbrev pub IsEquality : BinOp → Type 0
IsEquality Eq = Unit {0}
IsEquality Ne = Unit {0}
IsEquality o = ⊥

-- an expression, given to an object of a type (6.5.16.1p1; which pointers are converted without a cast is this project's): an
-- integer to an integer, the constant 0 to a pointer, a pointer to one to the same type or of a character type to another, where
-- const may be added and isn't lost, a vector to its own type
pub data Assigned (a : Tree) : CType → Tree → Type 0 where
  to_integer : (s t : IntType) → HasInteger a s → Assigned a (type.Int t) (converted (type.Int t) a)
  null_pointer : (s : IntType) (e : Pointee) (c : Bool) → HasInteger a s → is_zero a ≡ true → Assigned a (type.Pointer e c) (converted (type.Pointer e c) a)
  to_pointer : (e f : Pointee) (c d : Bool) → HasPointer a e c → (e ≡ f) ⊎ (IsCharacter e × IsCharacter f) → (c ≡ true → d ≡ true) → Assigned a (type.Pointer f d) (converted (type.Pointer f d) a)
  to_vector : (t : CType) → IsVector t → node_type a ≡ t → Assigned a t a

-- the last of expressions between commas
pub data Last : Trees → Tree → Type 0 where
  alone : (a : Tree) → Last (More a NoTrees) a
  behind : (a b : Tree) (rest : Trees) → Last rest b → Last (More a rest) b

-- what a form of expression becomes
pub data Results (p : Place) : Kind → Tree → Type 0 where
  -- constants (6.4.4)
  constant : (n : Num) → Results p (Const n) (Node p (type.Int n.ty) (Const n))
  -- operators before an operand (6.5.3.3)
  promoting : (o : UnOp) (a : Tree) (t : IntType) → Promotes o → HasInteger a t → Results p (Unary o a) (Node p (type.Int (promoted t)) (Unary o (converted (type.Int (promoted t)) a)))
  negation : (a : Tree) → IsScalar (node_type a) → Results p (Unary Not a) (Node p (type.Int i.Int) (Unary Not a))
  -- `++` and `--` (6.5.2.4, 6.5.3.1)
  integer_step : (a : Tree) (t : IntType) (up before : Bool) → HasInteger a t → Results p (Step a up before) (Node p (type.Int t) (Step a up before))
  pointer_step : (a : Tree) (e : Pointee) (c up before : Bool) → HasPointer a e c → IsObject e → Results p (Step a up before) (Node p (type.Pointer e c) (Step a up before))
  -- operators between integers (6.5.5 to 6.5.12)
  integers : (o : BinOp) (a b : Tree) (s t : IntType) → HasInteger a s → HasInteger b t →
      Results p (Binary o a b) (Node p (type.Int (binary_type o s t)) (Binary o (converted (type.Int (left_type o s t)) a) (converted (type.Int (right_type o s t)) b)))
  -- a pointer is moved by an integer (6.5.6p2, p3, p8)
  moved : (o : BinOp) (a b : Tree) (e : Pointee) (c : Bool) (t : IntType) → IsAdditive o → HasPointer a e c → IsObject e → HasInteger b t → Results p (Binary o a b) (Node p (type.Pointer e c) (Binary o a b))
  moved_by_left : (a b : Tree) (e : Pointee) (c : Bool) (t : IntType) → HasInteger a t → HasPointer b e c → IsObject e → Results p (Binary Add a b) (Node p (type.Pointer e c) (Binary Add a b))
  -- the difference of pointers to the same type is a `ptrdiff_t`, which is `long` (6.5.6p3, p9)
  difference : (a b : Tree) (e : Pointee) (c d : Bool) → HasPointer a e c → HasPointer b e d → IsObject e → Results p (Binary Sub a b) (Node p (type.Int i.Long) (Binary Sub a b))
  -- comparisons of pointers to the same type (6.5.8p2, 6.5.9p2), and of a pointer with the constant 0 (6.5.9p2, p5)
  ordered : (o : BinOp) (a b : Tree) (e : Pointee) (c d : Bool) → IsRelational o → HasPointer a e c → HasPointer b e d → IsObject e → Results p (Binary o a b) (Node p (type.Int i.Int) (Binary o a b))
  compared : (o : BinOp) (a b : Tree) (e : Pointee) (c d : Bool) → IsEquality o → HasPointer a e c → HasPointer b e d → Results p (Binary o a b) (Node p (type.Int i.Int) (Binary o a b))
  compared_with_null : (o : BinOp) (a b : Tree) (e : Pointee) (c : Bool) (t : IntType) → IsEquality o → HasPointer a e c → HasInteger b t → is_zero b ≡ true → Results p (Binary o a b) (Node p (type.Int i.Int) (Binary o a (converted (type.Pointer e c) b)))
  null_compared : (o : BinOp) (a b : Tree) (e : Pointee) (c : Bool) (t : IntType) → IsEquality o → HasInteger a t → is_zero a ≡ true → HasPointer b e c → Results p (Binary o a b) (Node p (type.Int i.Int) (Binary o (converted (type.Pointer e c) a) b))
  -- `&&` and `||` (6.5.13, 6.5.14)
  conjunction : (a b : Tree) → IsScalar (node_type a) → IsScalar (node_type b) → Results p (AndThen a b) (Node p (type.Int i.Int) (AndThen a b))
  disjunction : (a b : Tree) → IsScalar (node_type a) → IsScalar (node_type b) → Results p (OrElse a b) (Node p (type.Int i.Int) (OrElse a b))
  -- the choice (6.5.15p2 to p6)
  choice_of_integers : (c a b : Tree) (s t : IntType) → IsScalar (node_type c) → HasInteger a s → HasInteger b t →
      Results p (Choice c a b) (Node p (type.Int (common_of s t)) (Choice c (converted (type.Int (common_of s t)) a) (converted (type.Int (common_of s t)) b)))
  choice_of_pointers : (c a b : Tree) (e : Pointee) (k l : Bool) → IsScalar (node_type c) → HasPointer a e k → HasPointer b e l →
      Results p (Choice c a b) (Node p (type.Pointer e (k || l)) (Choice c (converted (type.Pointer e (k || l)) a) (converted (type.Pointer e (k || l)) b)))
  choice_or_null : (c a b : Tree) (e : Pointee) (k : Bool) (t : IntType) → IsScalar (node_type c) → HasPointer a e k → HasInteger b t → is_zero b ≡ true →
      Results p (Choice c a b) (Node p (type.Pointer e k) (Choice c a (converted (type.Pointer e k) b)))
  null_or_choice : (c a b : Tree) (e : Pointee) (k : Bool) (t : IntType) → IsScalar (node_type c) → HasInteger a t → is_zero a ≡ true → HasPointer b e k →
      Results p (Choice c a b) (Node p (type.Pointer e k) (Choice c (converted (type.Pointer e k) a) b))
  choice_of_nothing : (c a b : Tree) → IsScalar (node_type c) → node_type a ≡ type.Void → node_type b ≡ type.Void → Results p (Choice c a b) (Node p type.Void (Choice c a b))
  choice_of_vectors : (c a b : Tree) (t : CType) → IsScalar (node_type c) → IsVector t → node_type a ≡ t → node_type b ≡ t → Results p (Choice c a b) (Node p t (Choice c a b))
  -- assignments (6.5.16.1, 6.5.16.2)
  assignment : (a b c : Tree) → Assigned b (node_type a) c → Results p (Assign None a b) (Node p (node_type a) (Assign None a c))
  compound : (o : BinOp) (a b : Tree) (s t : IntType) → is_comparison o ≡ false → HasInteger a s → HasInteger b t → Results p (Assign (Some o) a b) (Node p (type.Int s) (Assign (Some o) a (converted (type.Int (right_type o s t)) b)))
  pointer_compound : (o : BinOp) (a b : Tree) (e : Pointee) (c : Bool) (t : IntType) → IsAdditive o → HasPointer a e c → IsObject e → HasInteger b t → Results p (Assign (Some o) a b) (Node p (type.Pointer e c) (Assign (Some o) a b))
  -- commas (6.5.17)
  sequence : (all : Trees) (a : Tree) → Last all a → Results p (Comma all) (Node p (node_type a) (Comma all))
  -- written casts (6.5.4)
  cast_to_void : (a : Tree) → Results p (Cast type.Void a true) (Node p type.Void (Cast type.Void a true))
  cast_to_integer : (a : Tree) (s t : IntType) → HasInteger a s → Results p (Cast (type.Int t) a true) (Node p (type.Int t) (Cast (type.Int t) a true))
  cast_to_pointer : (a : Tree) (e f : Pointee) (c d : Bool) → HasPointer a e c → Results p (Cast (type.Pointer f d) a true) (Node p (type.Pointer f d) (Cast (type.Pointer f d) a true))
  -- indices and dereferences (6.5.2.1, 6.5.3.2)
  element : (a b : Tree) (e : Pointee) (c : Bool) (t : IntType) (u : CType) → HasPointer a e c → HasInteger b t → IsObjectOf e u → Results p (Index a b) (Node p u (Index a b))
  element_by_left : (a b : Tree) (e : Pointee) (c : Bool) (t : IntType) (u : CType) → HasInteger a t → HasPointer b e c → IsObjectOf e u → Results p (Index a b) (Node p u (Index a b))
  pointed : (a : Tree) (e : Pointee) (c : Bool) (u : CType) → HasPointer a e c → IsObjectOf e u → Results p (Deref a) (Node p u (Deref a))
  -- pairs of vectors, as Arm's reference has them
  half : (a : Tree) (k : ℕ) → node_type a ≡ type.Pair → k < 2 → Results p (Half a k) (Node p (type.Neon lane.U8 true) (Half a k))
  pair : (a b : Tree) → node_type a ≡ type.Neon lane.U8 true → node_type b ≡ type.Neon lane.U8 true → Results p (PairOf a b) (Node p type.Pair (PairOf a b))
  -- the size of a type that has one is a `size_t`, which is `unsigned long` (6.5.3.4)
  size : (t : CType) (n : ℕ) → size_of t ≡ Some n → Results p (SizeOfType t) (Node p (type.Int i.ULong) (SizeOfType t))

-- an argument as it is passed: an immediate is an integer and stays as it is (6.5.2.2p2, p7)
pub data Given (a : Tree) : Parameter → Tree → Type 0 where
  by_value : (t : CType) (b : Tree) → Assigned a t b → Given a (Object t) b
  by_constant : (t : IntType) → HasInteger a t → Given a Immediate a

-- as many arguments as parameters
pub data Passed : List Parameter → Trees → Trees → Type 0 where
  no_more : Passed [] NoTrees NoTrees
  one_more : (t : Parameter) (ts : List Parameter) (a b : Tree) (all rest : Trees) → Given a t b → Passed ts all rest → Passed (t ∷ ts) (More a all) (More b rest)
