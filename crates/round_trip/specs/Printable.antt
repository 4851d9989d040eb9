-- Units that can be printed, so that what is printed is read as the same unit again.
use Rattle.std.specs.Prelude.{◌≡◌, ◌⊎◌, ℕ, List, [], ◌∷◌, true, false, bytes_eq, Option, Some, None}
use Rattle.std.specs.List.{list_any}
use Rattle.c_text.specs.declared.tokens.Dialect.TheVariants.{Neon}
use Rattle.c_text.specs.declared.tokens.Token.{Token}
use Rattle.c_text.specs.Forms.{is_name}
use Rattle.c_text.specs.PredefinedNames.{predefined_names}
use Rattle.lane_core.specs.declared.vector.Pointee.{Pointee}
use Rattle.lane_core.specs.declared.vector.Pointee.TheVariants as pointees
use Rattle.c_tree.specs.declared.types.CType.{CType}
use Rattle.c_tree.specs.declared.types.CType.TheVariants as ctypes
use Rattle.c_tree.specs.Same.{Same}
use Rattle.c_tree.specs.Tree.{Tree, Kind, Trees, Node, Const, Name, Unary, Step, Binary, AndThen, OrElse, Choice, Assign, Comma, Cast, Index, Deref, Address, Call, Half, PairOf, SizeOfType, SizeOfName, Str, NoTrees, More}
use Rattle.c_tree.specs.Tree.{Object, Statement, Statements, Optional, Declare, Run, Block, If, While, DoWhile, For, Break, Continue, Return, Empty, Absent, Present, NoStatements, Then}
use Rattle.c_tree.specs.Tree.{Definition, External, Function, Table}
use Rattle.c_parse.specs.Items.{IsUnit}
use Rattle.round_trip.specs.Good.{GoodInteger}
use Rattle.round_trip.specs.GoodUnits.{IsBlock, IsIf}

-- A name is made of letters, digits and `_`, without a digit first (C11 6.4.2.1), and no macro before a text begins has it.
pub record WritableName (x : List ℕ) : Type 0 where
  pub named : is_name x ≡ true
  pub no_macro : list_any (λ m. bytes_eq x m.name) (predefined_names Neon) ≡ false

-- A type without `char` in it, which is signed for one compiler and unsigned for another (C11 6.2.5p15).
abbrev pub PointeeHasNoChar : Pointee → Type 0
PointeeHasNoChar (pointees.Int t) = GoodInteger t
PointeeHasNoChar p = Unit {0}

abbrev pub HasNoChar : CType → Type 0
HasNoChar (ctypes.Int t) = GoodInteger t
HasNoChar (ctypes.Pointer p constant) = PointeeHasNoChar p
HasNoChar (ctypes.Array p n constant) = PointeeHasNoChar p
HasNoChar t = Unit {0}

-- An expression whose names can be written, without `char`, `sizeof` and strings. Casts that aren't written are looked through.
abbrev mutual
  pub Writable : Tree → Type 0
  Writable (Node p ty k) = WritableKind k

  pub WritableKind : Kind → Type 0
  WritableKind (Const n) = Unit {0}
  WritableKind (Name x) = WritableName x
  WritableKind (Unary op a) = Writable a
  WritableKind (Step a up before) = Writable a
  WritableKind (Binary op a b) = Writable a × Writable b
  WritableKind (AndThen a b) = Writable a × Writable b
  WritableKind (OrElse a b) = Writable a × Writable b
  WritableKind (Choice c a b) = Writable c × Writable a × Writable b
  WritableKind (Assign op a b) = Writable a × Writable b
  WritableKind (Comma all) = WritableAll all
  WritableKind (Cast ty a true) = HasNoChar ty × Writable a
  WritableKind (Cast ty a false) = Writable a
  WritableKind (Index a b) = Writable a × Writable b
  WritableKind (Deref a) = Writable a
  WritableKind (Address a) = Writable a
  WritableKind (Call f all) = WritableName f × WritableAll all
  WritableKind (Half a k) = Writable a
  WritableKind (PairOf a b) = Writable a × Writable b
  WritableKind (SizeOfType ty) = ⊥
  WritableKind (SizeOfName x) = ⊥
  WritableKind (Str x) = ⊥

  pub WritableAll : Trees → Type 0
  WritableAll NoTrees = Unit {0}
  WritableAll (More a rest) = Writable a × WritableAll rest

abbrev pub WritablePart : Option Tree → Type 0
WritablePart None = Unit {0}
WritablePart (Some e) = Writable e

abbrev pub WritableList : Option Trees → Type 0
WritableList None = Unit {0}
WritableList (Some all) = WritableAll all

-- the same of a declared object
pub record WritableObject (o : Object) : Type 0 where
  pub name : WritableName o.name
  pub ty : HasNoChar o.ty
  pub length : WritablePart o.length
  pub align : WritablePart o.align
  pub init : WritablePart o.init
  pub list : WritableList o.list

abbrev pub WritableObjects : List Object → Type 0
WritableObjects [] = Unit {0}
WritableObjects (o ∷ os) = WritableObject o × WritableObjects os

-- The same of a parameter. The length of an array isn't written, as the parameter is a pointer.
pub record WritableParameter (o : Object) : Type 0 where
  pub object : WritableObject o
  pub unsized : o.length ≡ None

abbrev pub WritableParameters : List Object → Type 0
WritableParameters [] = Unit {0}
WritableParameters (o ∷ os) = WritableParameter o × WritableParameters os

-- The same of a statement. The bodies of `if`, `else` and loops are blocks, or an `if` behind `else`.
abbrev mutual
  pub WritableStatement : Statement → Type 0
  WritableStatement (Declare os) = WritableObjects os
  WritableStatement (Run e) = Writable e
  WritableStatement (Block all) = WritableStatements all
  WritableStatement (If c s o) = Writable c × IsBlock s × WritableStatement s × WritableElse o
  WritableStatement (While c s) = Writable c × IsBlock s × WritableStatement s
  WritableStatement (DoWhile s c) = IsBlock s × WritableStatement s × Writable c
  WritableStatement (For i c n s) = WritableStart i × WritablePart c × WritablePart n × IsBlock s × WritableStatement s
  WritableStatement (Break p) = Unit {0}
  WritableStatement (Continue p) = Unit {0}
  WritableStatement (Return p e) = WritablePart e
  WritableStatement Empty = Unit {0}

  pub WritableElse : Optional → Type 0
  WritableElse Absent = Unit {0}
  WritableElse (Present s) = (IsBlock s ⊎ IsIf s) × WritableStatement s

  pub WritableStart : Optional → Type 0
  WritableStart Absent = Unit {0}
  WritableStart (Present s) = WritableStatement s

  pub WritableStatements : Statements → Type 0
  WritableStatements NoStatements = Unit {0}
  WritableStatements (Then s rest) = WritableStatement s × WritableStatements rest

-- the same of a function
pub record WritableFunction (f : Definition) : Type 0 where
  pub name : WritableName f.name
  pub result : HasNoChar f.result
  pub params : WritableParameters f.params
  pub body : WritableStatements f.body

abbrev pub WritableItem : External → Type 0
WritableItem (Function f) = WritableFunction f
WritableItem (Table o is_static) = WritableObject o

abbrev pub WritableUnit : List External → Type 0
WritableUnit [] = Unit {0}
WritableUnit (x ∷ xs) = WritableItem x × WritableUnit xs

-- The unit is the same as one that the grammar of the Neon dialect gives for some tokens, and it can be written.
pub record Printable (unit : List External) : Type 0 where
  pub tokens : List Token
  pub read : List External
  pub is_read : IsUnit Neon tokens read
  pub same : Same unit read
  pub writable : WritableUnit unit
