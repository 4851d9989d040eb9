-- Trees that are written as they are read: what each node must be so that its text is the text of an expression again.
use Rattle.std.specs.Prelude.{◌≡◌, ℕ, ◌<◌, List, [], true, false, bytes_eq, Option, Some}
use Rattle.std.specs.List.{list_any}
use Rattle.c_text.specs.declared.tokens.Dialect.TheVariants.{Neon}
use Rattle.c_text.specs.Forms.{is_name}
use Rattle.c_text.specs.PredefinedNames.{predefined_names}
use Rattle.lane_core.specs.declared.number.BinOp.{BinOp}
use Rattle.lane_core.specs.declared.number.BinOp.TheVariants as ops
use Rattle.lane_core.specs.declared.number.IntType.{IntType}
use Rattle.lane_core.specs.declared.number.IntType.TheVariants as ints
use Rattle.lane_core.specs.declared.number.Num.{Num}
use Rattle.lane_core.specs.declared.vector.Pointee.{Pointee}
use Rattle.lane_core.specs.declared.vector.Pointee.TheVariants as pointees
use Rattle.c_tree.specs.declared.types.CType.{CType}
use Rattle.c_tree.specs.declared.types.CType.TheVariants as ctypes
use Rattle.c_tree.specs.Tree.{Tree, Kind, Trees, Node, Const, Name, Unary, Step, Binary, AndThen, OrElse, Choice, Assign, Comma, Cast, Index, Deref, Address, Call, Half, PairOf, SizeOfType, SizeOfName, Str, NoTrees, More}
use Rattle.c_print.specs.Constants.{sign_text}
use Rattle.c_parse.specs.declared.symbols.Symbol.TheVariants as symbols
use Rattle.c_parse.specs.Symbols.{name_symbol}

-- a name that is no keyword and no type's, and no macro's before a text begins
pub record GoodName (x : List ℕ) : Type 0 where
  pub named : is_name x ≡ true
  pub free : name_symbol Neon x ≡ symbols.Name
  pub no_macro : list_any (λ m. bytes_eq x m.name) (predefined_names Neon) ≡ false

-- the types that an integer constant can have (C11 6.4.4.1p5)
abbrev pub IsConstantType : IntType → Type 0
IsConstantType ints.Int = Unit {0}
IsConstantType ints.UInt = Unit {0}
IsConstantType ints.Long = Unit {0}
IsConstantType ints.ULong = Unit {0}
IsConstantType ints.LLong = Unit {0}
IsConstantType ints.ULLong = Unit {0}
IsConstantType t = ⊥

-- a constant isn't negative, and has one of these types
abbrev pub GoodConstant : Num → Type 0
GoodConstant n = (sign_text n.value ≡ []) × IsConstantType n.ty

-- `char` isn't written
abbrev pub GoodInteger : IntType → Type 0
GoodInteger ints.Char = ⊥
GoodInteger t = Unit {0}

abbrev pub GoodPointee : Pointee → Type 0
GoodPointee pointees.Void = Unit {0}
GoodPointee (pointees.Int t) = GoodInteger t
GoodPointee p = ⊥

-- a type whose name is written as it is read
abbrev pub GoodType : CType → Type 0
GoodType ctypes.Void = Unit {0}
GoodType (ctypes.Int t) = GoodInteger t
GoodType (ctypes.Neon lane wide) = Unit {0}
GoodType ctypes.Pair = Unit {0}
GoodType (ctypes.Pointer p constant) = GoodPointee p
GoodType t = ⊥

-- an assignment has no comparison in it
abbrev pub GoodAssignment : Option BinOp → Type 0
GoodAssignment (Some ops.Lt) = ⊥
GoodAssignment (Some ops.Gt) = ⊥
GoodAssignment (Some ops.Le) = ⊥
GoodAssignment (Some ops.Ge) = ⊥
GoodAssignment (Some ops.Eq) = ⊥
GoodAssignment (Some ops.Ne) = ⊥
GoodAssignment op = Unit {0}

-- two expressions at least
abbrev pub Several : Trees → Type 0
Several NoTrees = ⊥
Several (More a NoTrees) = ⊥
Several (More a (More b rest)) = Unit {0}

abbrev mutual
  pub Good : Tree → Type 0
  Good (Node p ty k) = GoodKind k

  pub GoodKind : Kind → Type 0
  GoodKind (Const n) = GoodConstant n
  GoodKind (Name x) = GoodName x
  GoodKind (Unary op a) = Good a
  GoodKind (Step a up before) = Good a
  GoodKind (Binary op a b) = Good a × Good b
  GoodKind (AndThen a b) = Good a × Good b
  GoodKind (OrElse a b) = Good a × Good b
  GoodKind (Choice c a b) = Good c × Good a × Good b
  GoodKind (Assign op a b) = GoodAssignment op × Good a × Good b
  GoodKind (Comma all) = Several all × GoodAll all
  GoodKind (Cast ty a true) = GoodType ty × Good a
  GoodKind (Cast ty a false) = Good a
  GoodKind (Index a b) = Good a × Good b
  GoodKind (Deref a) = Good a
  GoodKind (Address a) = Good a
  GoodKind (Call f all) = GoodName f × GoodAll all
  GoodKind (Half a k) = Good a × (k < 2)
  GoodKind (PairOf a b) = Good a × Good b
  GoodKind (SizeOfType ty) = ⊥
  GoodKind (SizeOfName x) = ⊥
  GoodKind (Str x) = ⊥

  pub GoodAll : Trees → Type 0
  GoodAll NoTrees = Unit {0}
  GoodAll (More a rest) = Good a × GoodAll rest
