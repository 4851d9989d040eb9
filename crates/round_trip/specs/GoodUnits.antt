-- Declarations, statements and units that are written as they are read.
use Rattle.std.specs.Prelude.{◌≡◌, ◌⊎◌, List, [], ◌∷◌, Bool, true, Option, Some, None}
use Rattle.lane_core.specs.declared.vector.Pointee.{Pointee}
use Rattle.lane_core.specs.declared.vector.Pointee.TheVariants as pointees
use Rattle.c_tree.specs.declared.types.CType.{CType}
use Rattle.c_tree.specs.declared.types.CType.TheVariants as ctypes
use Rattle.c_tree.specs.Tree.{Tree, Trees, NoTrees, More, Object, Statement, Statements, Optional, Declare, Run, Block, If, While, DoWhile, For, Break, Continue, Return, Empty, Absent, Present, NoStatements, Then}
use Rattle.c_tree.specs.Tree.{Definition, External, Function, Table}
use Rattle.c_print.specs.Declarations.{has_const}
use Rattle.c_parse.specs.Objects.{has_value}
use Rattle.round_trip.specs.Good.{GoodName, GoodInteger, GoodPointee, Good, GoodAll}

-- the type that stands first in a declaration: a pointer's or an array's is what it is of
abbrev pub type_of_pointee : Pointee → CType
type_of_pointee pointees.Void = ctypes.Void
type_of_pointee (pointees.Int t) = ctypes.Int t
type_of_pointee pointees.M128 = ctypes.M128
type_of_pointee pointees.M256 = ctypes.M256

abbrev pub first_type : CType → CType
first_type (ctypes.Pointer p base) = type_of_pointee p
first_type (ctypes.Array p n base) = type_of_pointee p
first_type t = t

-- what an object's type may be; an array's elements are const where the array is
abbrev pub GoodObjectType : CType → Bool → Type 0
GoodObjectType ctypes.Void constant = Unit {0}
GoodObjectType (ctypes.Int t) constant = GoodInteger t
GoodObjectType (ctypes.Neon lane wide) constant = Unit {0}
GoodObjectType ctypes.Pair constant = Unit {0}
GoodObjectType (ctypes.Pointer p base) constant = GoodPointee p
GoodObjectType (ctypes.Array p n base) constant = GoodPointee p × (base ≡ constant)
GoodObjectType t constant = ⊥

abbrev pub GoodPart : Option Tree → Type 0
GoodPart None = Unit {0}
GoodPart (Some e) = Good e

-- a list of initialisers has one at least
abbrev pub GoodList : Option Trees → Type 0
GoodList None = Unit {0}
GoodList (Some NoTrees) = ⊥
GoodList (Some (More a rest)) = Good a × GoodAll rest

-- an array without a length has a list of initialisers; what is no array has neither
abbrev pub HasShape : CType → Option Tree → Option Tree → Option Trees → Type 0
HasShape (ctypes.Array p n base) None init None = ⊥
HasShape (ctypes.Array p n base) length init list = init ≡ None
HasShape t length init list = (length ≡ None) × (list ≡ None)

pub record GoodObject (o : Object) : Type 0 where
  pub named : GoodName o.name
  pub typed : GoodObjectType o.ty o.constant
  pub shaped : HasShape o.ty o.length o.init o.list
  pub length : GoodPart o.length
  pub align : GoodPart o.align
  pub init : GoodPart o.init
  pub list : GoodList o.list

-- objects that are declared together with one of this type, and const where that is
abbrev pub GoodOthers : CType → Bool → List Object → Type 0
GoodOthers t constant [] = Unit {0}
GoodOthers t constant (o ∷ os) = GoodObject o × (first_type o.ty ≡ t) × (has_const o.ty o.constant ≡ constant) × GoodOthers t constant os

abbrev pub GoodDeclaration : List Object → Type 0
GoodDeclaration [] = ⊥
GoodDeclaration (o ∷ os) = GoodObject o × GoodOthers (first_type o.ty) (has_const o.ty o.constant) os

abbrev pub IsNoArray : CType → Type 0
IsNoArray (ctypes.Array p n base) = ⊥
IsNoArray t = Unit {0}

pub record GoodParameter (o : Object) : Type 0 where
  pub good : GoodObject o
  pub no_array : IsNoArray o.ty
  pub no_align : o.align ≡ None
  pub no_init : o.init ≡ None

abbrev pub GoodParameters : List Object → Type 0
GoodParameters [] = Unit {0}
GoodParameters (o ∷ os) = GoodParameter o × GoodParameters os

abbrev pub IsBlock : Statement → Type 0
IsBlock (Block all) = Unit {0}
IsBlock s = ⊥

abbrev pub IsIf : Statement → Type 0
IsIf (If c s o) = Unit {0}
IsIf s = ⊥

-- what a `for` may begin with
abbrev pub GoodStart : Optional → Type 0
GoodStart Absent = Unit {0}
GoodStart (Present (Declare os)) = GoodDeclaration os
GoodStart (Present (Run e)) = Good e
GoodStart (Present s) = ⊥

-- the bodies of `if`, `else` and loops are blocks, or an `if` behind `else`
abbrev mutual
  pub GoodStatement : Statement → Type 0
  GoodStatement (Declare os) = GoodDeclaration os
  GoodStatement (Run e) = Good e
  GoodStatement (Block all) = GoodStatements all
  GoodStatement (If c s o) = Good c × IsBlock s × GoodStatement s × GoodElse o
  GoodStatement (While c s) = Good c × IsBlock s × GoodStatement s
  GoodStatement (DoWhile s c) = IsBlock s × GoodStatement s × Good c
  GoodStatement (For i c n s) = GoodStart i × GoodPart c × GoodPart n × IsBlock s × GoodStatement s
  GoodStatement (Break p) = Unit {0}
  GoodStatement (Continue p) = Unit {0}
  GoodStatement (Return p e) = GoodPart e
  GoodStatement Empty = Unit {0}

  pub GoodElse : Optional → Type 0
  GoodElse Absent = Unit {0}
  GoodElse (Present s) = (IsBlock s ⊎ IsIf s) × GoodStatement s

  pub GoodStatements : Statements → Type 0
  GoodStatements NoStatements = Unit {0}
  GoodStatements (Then s rest) = GoodStatement s × GoodStatements rest

pub record GoodFunction (f : Definition) : Type 0 where
  pub named : GoodName f.name
  pub result : GoodObjectType f.result true
  pub no_array : IsNoArray f.result
  pub params : GoodParameters f.params
  pub body : GoodStatements f.body

-- a const object has its initialiser
abbrev pub HasValue : Object → Type 0
HasValue o = has_value o ≡ true

abbrev pub GoodItem : External → Type 0
GoodItem (Function f) = GoodFunction f
GoodItem (Table o is_static) = GoodObject o × HasValue o

abbrev pub GoodUnit : List External → Type 0
GoodUnit [] = Unit {0}
GoodUnit (x ∷ xs) = GoodItem x × GoodUnit xs
