-- Expressions, statements and units whose names are names of C (C11 6.4.2.1), as those are that tokens give.
use Rattle.std.specs.Prelude.{◌≡◌, ℕ, List, [], ◌∷◌, true, Option, Some, None}
use Rattle.c_text.specs.Forms.{is_name}
use Rattle.c_tree.specs.Tree.{Tree, Kind, Trees, Node, Name, Unary, Step, Binary, AndThen, OrElse, Choice, Assign, Comma, Cast, Index, Deref, Address, Call, Half, PairOf, SizeOfName, NoTrees, More}
use Rattle.c_tree.specs.Tree.{Object, Statement, Statements, Optional, Declare, Run, Block, If, While, DoWhile, For, Return, Absent, Present, NoStatements, Then}
use Rattle.c_tree.specs.Tree.{Definition, External, Function, Table}

abbrev pub IsNamed : List ℕ → Type 0
IsNamed x = is_name x ≡ true

abbrev mutual
  pub HasNames : Tree → Type 0
  HasNames (Node p t k) = KindHasNames k

  pub KindHasNames : Kind → Type 0
  KindHasNames (Name x) = IsNamed x
  KindHasNames (Unary o a) = HasNames a
  KindHasNames (Step a up before) = HasNames a
  KindHasNames (Binary o a b) = HasNames a × HasNames b
  KindHasNames (AndThen a b) = HasNames a × HasNames b
  KindHasNames (OrElse a b) = HasNames a × HasNames b
  KindHasNames (Choice c a b) = HasNames c × HasNames a × HasNames b
  KindHasNames (Assign o a b) = HasNames a × HasNames b
  KindHasNames (Comma all) = AllHaveNames all
  KindHasNames (Cast t a written) = HasNames a
  KindHasNames (Index a b) = HasNames a × HasNames b
  KindHasNames (Deref a) = HasNames a
  KindHasNames (Address a) = HasNames a
  KindHasNames (Call f all) = IsNamed f × AllHaveNames all
  KindHasNames (Half a k) = HasNames a
  KindHasNames (PairOf a b) = HasNames a × HasNames b
  KindHasNames (SizeOfName x) = IsNamed x
  KindHasNames k = Unit {0}

  pub AllHaveNames : Trees → Type 0
  AllHaveNames NoTrees = Unit {0}
  AllHaveNames (More a rest) = HasNames a × AllHaveNames rest

-- ---- objects, statements and units

abbrev pub PartHasNames : Option Tree → Type 0
PartHasNames None = Unit {0}
PartHasNames (Some e) = HasNames e

abbrev pub ListHasNames : Option Trees → Type 0
ListHasNames None = Unit {0}
ListHasNames (Some all) = AllHaveNames all

pub record ObjectHasNames (o : Object) : Type 0 where
  pub name : IsNamed o.name
  pub length : PartHasNames o.length
  pub align : PartHasNames o.align
  pub init : PartHasNames o.init
  pub list : ListHasNames o.list

abbrev pub ObjectsHaveNames : List Object → Type 0
ObjectsHaveNames [] = Unit {0}
ObjectsHaveNames (o ∷ os) = ObjectHasNames o × ObjectsHaveNames os

abbrev pub ParametersHaveNames : List Object → Type 0
ParametersHaveNames [] = Unit {0}
ParametersHaveNames (o ∷ os) = IsNamed o.name × ParametersHaveNames os

abbrev mutual
  pub StatementHasNames : Statement → Type 0
  StatementHasNames (Declare os) = ObjectsHaveNames os
  StatementHasNames (Run e) = HasNames e
  StatementHasNames (Block all) = StatementsHaveNames all
  StatementHasNames (If c s o) = HasNames c × StatementHasNames s × OptionalHasNames o
  StatementHasNames (While c s) = HasNames c × StatementHasNames s
  StatementHasNames (DoWhile s c) = StatementHasNames s × HasNames c
  StatementHasNames (For i c n s) = OptionalHasNames i × PartHasNames c × PartHasNames n × StatementHasNames s
  StatementHasNames (Return p e) = PartHasNames e
  StatementHasNames s = Unit {0}

  pub OptionalHasNames : Optional → Type 0
  OptionalHasNames Absent = Unit {0}
  OptionalHasNames (Present s) = StatementHasNames s

  pub StatementsHaveNames : Statements → Type 0
  StatementsHaveNames NoStatements = Unit {0}
  StatementsHaveNames (Then s rest) = StatementHasNames s × StatementsHaveNames rest

pub record FunctionHasNames (f : Definition) : Type 0 where
  pub name : IsNamed f.name
  pub params : ParametersHaveNames f.params
  pub body : StatementsHaveNames f.body

abbrev pub UnitHasNames : List External → Type 0
UnitHasNames [] = Unit {0}
UnitHasNames (Function f ∷ rest) = FunctionHasNames f × UnitHasNames rest
UnitHasNames (Table o is_static ∷ rest) = ObjectHasNames o × UnitHasNames rest
