-- Trees that name no array type in a `sizeof`, and whose functions neither give nor take an array: the grammar has no such names of types, and a
-- parameter that is declared as an array is a pointer (C11 6.7.6.3p7). When trees are the same, the numbers of arrays' elements don't count.
use Rattle.std.specs.Prelude.{◌≡◌, false, List, [], ◌∷◌, Option, Some, None}
use Rattle.c_tree.specs.Types.{is_array}
use Rattle.c_tree.specs.Tree.{Tree, Kind, Trees, Node, Unary, Step, Binary, AndThen, OrElse, Choice, Assign, Comma, Cast, Index, Deref, Address, Call, Half, PairOf, SizeOfType, NoTrees, More}
use Rattle.c_tree.specs.Tree.{Object, Statement, Statements, Optional, Declare, Run, Block, If, While, DoWhile, For, Break, Continue, Return, Empty, Absent, Present, NoStatements, Then}
use Rattle.c_tree.specs.Tree.{Definition, External, Function, Table}

abbrev mutual
  pub Plain : Tree → Type 0
  Plain (Node p t k) = PlainKind k

  pub PlainKind : Kind → Type 0
  PlainKind (Unary o a) = Plain a
  PlainKind (Step a up before) = Plain a
  PlainKind (Binary o a b) = Plain a × Plain b
  PlainKind (AndThen a b) = Plain a × Plain b
  PlainKind (OrElse a b) = Plain a × Plain b
  PlainKind (Choice c a b) = Plain c × (Plain a × Plain b)
  PlainKind (Assign o a b) = Plain a × Plain b
  PlainKind (Comma all) = PlainAll all
  PlainKind (Cast t a written) = Plain a
  PlainKind (Index a b) = Plain a × Plain b
  PlainKind (Deref a) = Plain a
  PlainKind (Address a) = Plain a
  PlainKind (Call f all) = PlainAll all
  PlainKind (Half a k) = Plain a
  PlainKind (PairOf a b) = Plain a × Plain b
  PlainKind (SizeOfType t) = is_array t ≡ false
  PlainKind k = Unit {0}

  pub PlainAll : Trees → Type 0
  PlainAll NoTrees = Unit {0}
  PlainAll (More a rest) = Plain a × PlainAll rest

abbrev pub PlainPart : Option Tree → Type 0
PlainPart None = Unit {0}
PlainPart (Some e) = Plain e

abbrev pub PlainList : Option Trees → Type 0
PlainList None = Unit {0}
PlainList (Some all) = PlainAll all

abbrev pub PlainObject : Object → Type 0
PlainObject d = PlainPart d.length × (PlainPart d.align × (PlainPart d.init × PlainList d.list))

abbrev pub PlainObjects : List Object → Type 0
PlainObjects [] = Unit {0}
PlainObjects (d ∷ rest) = PlainObject d × PlainObjects rest

abbrev mutual
  pub PlainStatement : Statement → Type 0
  PlainStatement (Declare all) = PlainObjects all
  PlainStatement (Run e) = Plain e
  PlainStatement (Block all) = PlainStatements all
  PlainStatement (If c s o) = Plain c × (PlainStatement s × PlainOptional o)
  PlainStatement (While c s) = Plain c × PlainStatement s
  PlainStatement (DoWhile s c) = PlainStatement s × Plain c
  PlainStatement (For i c n s) = PlainOptional i × (PlainPart c × (PlainPart n × PlainStatement s))
  PlainStatement (Break p) = Unit {0}
  PlainStatement (Continue p) = Unit {0}
  PlainStatement (Return p e) = PlainPart e
  PlainStatement Empty = Unit {0}

  pub PlainOptional : Optional → Type 0
  PlainOptional Absent = Unit {0}
  PlainOptional (Present s) = PlainStatement s

  pub PlainStatements : Statements → Type 0
  PlainStatements NoStatements = Unit {0}
  PlainStatements (Then s rest) = PlainStatement s × PlainStatements rest

abbrev pub PlainParameters : List Object → Type 0
PlainParameters [] = Unit {0}
PlainParameters (d ∷ rest) = (PlainObject d × (is_array d.ty ≡ false)) × PlainParameters rest

abbrev pub PlainFunction : Definition → Type 0
PlainFunction f = (is_array f.result ≡ false) × (PlainParameters f.params × PlainStatements f.body)

abbrev pub PlainUnit : List External → Type 0
PlainUnit [] = Unit {0}
PlainUnit (Function f ∷ rest) = PlainFunction f × PlainUnit rest
PlainUnit (Table d is_static ∷ rest) = PlainObject d × PlainUnit rest
