-- Trees as the grammar of the x86 dialect gives them, before and after they have their types: what is asked of a source, so that what is written
-- for it can be printed and is read as it is written.
use Rattle.std.specs.Prelude.{◌≡◌, ℕ, Bool, true, List, [], ◌∷◌, Option, Some, None}
use Rattle.c_text.specs.declared.tokens.Dialect.TheVariants.{X86}
use Rattle.c_text.specs.Forms.{is_name}
use Rattle.c_tree.specs.declared.types.CType.{CType}
use Rattle.c_tree.specs.Tree.{Tree, Kind, Trees, Node, Const, Name, Unary, Step, Binary, AndThen, OrElse, Choice, Assign, Comma, Cast, Index, Deref, Address, Call, Half, PairOf, SizeOfName, NoTrees, More}
use Rattle.c_tree.specs.Tree.{Object, Statement, Statements, Optional, Declare, Run, Block, If, While, DoWhile, For, Return, Absent, Present, NoStatements, Then}
use Rattle.c_tree.specs.Tree.{Definition, External, Function, Table}
use Rattle.c_parse.specs.declared.symbols.Symbol.TheVariants as symbols
use Rattle.c_parse.specs.Symbols.{name_symbol}
use Rattle.c_print.specs.Declarations.{has_const}
use Rattle.round_trip.specs.Good.{GoodConstant, GoodAssignment, Several}
use Rattle.round_trip.specs.GoodUnits.{first_type}

-- a name that is neither a keyword nor a type's (C11 6.4.2.1)
pub record ReadName (x : List ℕ) : Type 0 where
  pub named : is_name x ≡ true
  pub free : name_symbol X86 x ≡ symbols.Name

abbrev mutual
  pub Read : Tree → Type 0
  Read (Node p t k) = ReadKind k

  pub ReadKind : Kind → Type 0
  ReadKind (Const n) = GoodConstant n
  ReadKind (Name x) = ReadName x
  ReadKind (Unary o a) = Read a
  ReadKind (Step a up before) = Read a
  ReadKind (Binary o a b) = Read a × Read b
  ReadKind (AndThen a b) = Read a × Read b
  ReadKind (OrElse a b) = Read a × Read b
  ReadKind (Choice c a b) = Read c × Read a × Read b
  ReadKind (Assign o a b) = GoodAssignment o × Read a × Read b
  ReadKind (Comma all) = Several all × ReadAll all
  ReadKind (Cast t a written) = Read a
  ReadKind (Index a b) = Read a × Read b
  ReadKind (Deref a) = Read a
  ReadKind (Address a) = Read a
  ReadKind (Call f all) = ReadName f × ReadAll all
  ReadKind (Half a k) = Read a
  ReadKind (PairOf a b) = Read a × Read b
  ReadKind (SizeOfName x) = ReadName x
  ReadKind k = Unit {0}

  pub ReadAll : Trees → Type 0
  ReadAll NoTrees = Unit {0}
  ReadAll (More a rest) = Read a × ReadAll rest

abbrev pub ReadPart : Option Tree → Type 0
ReadPart None = Unit {0}
ReadPart (Some e) = Read e

abbrev pub ReadList : Option Trees → Type 0
ReadList None = Unit {0}
ReadList (Some all) = ReadAll all

-- only an array has a length (6.7.6.2)
abbrev pub HasLength : CType → Option Tree → Type 0
HasLength (CType.Array e n c) length = Unit {0}
HasLength t length = length ≡ None

pub record ReadObject (d : Object) : Type 0 where
  pub named : ReadName d.name
  pub shaped : HasLength d.ty d.length
  pub length : ReadPart d.length
  pub align : ReadPart d.align
  pub init : ReadPart d.init
  pub list : ReadList d.list

-- objects that are declared together with one of this type, and const where that is (6.7p1)
abbrev pub ReadOthers : CType → Bool → List Object → Type 0
ReadOthers t constant [] = Unit {0}
ReadOthers t constant (d ∷ rest) = ReadObject d × (first_type d.ty ≡ t) × (has_const d.ty d.constant ≡ constant) × ReadOthers t constant rest

abbrev pub ReadDeclaration : List Object → Type 0
ReadDeclaration [] = ⊥
ReadDeclaration (d ∷ rest) = ReadObject d × ReadOthers (first_type d.ty) (has_const d.ty d.constant) rest

abbrev mutual
  pub ReadStatement : Statement → Type 0
  ReadStatement (Declare all) = ReadDeclaration all
  ReadStatement (Run e) = Read e
  ReadStatement (Block all) = ReadStatements all
  ReadStatement (If c s o) = Read c × ReadStatement s × ReadOptional o
  ReadStatement (While c s) = Read c × ReadStatement s
  ReadStatement (DoWhile s c) = ReadStatement s × Read c
  ReadStatement (For i c n s) = ReadOptional i × ReadPart c × ReadPart n × ReadStatement s
  ReadStatement (Return p e) = ReadPart e
  ReadStatement s = Unit {0}

  pub ReadOptional : Optional → Type 0
  ReadOptional Absent = Unit {0}
  ReadOptional (Present s) = ReadStatement s

  pub ReadStatements : Statements → Type 0
  ReadStatements NoStatements = Unit {0}
  ReadStatements (Then s rest) = ReadStatement s × ReadStatements rest

-- parameters; the length of one that is an array isn't kept, as it is a pointer (6.7.6.3p7)
abbrev pub ReadParameters : List Object → Type 0
ReadParameters [] = Unit {0}
ReadParameters (d ∷ rest) = ReadName d.name × ReadParameters rest

pub record ReadFunction (f : Definition) : Type 0 where
  pub named : ReadName f.name
  pub params : ReadParameters f.params
  pub body : ReadStatements f.body

abbrev pub ReadItem : External → Type 0
ReadItem (Function f) = ReadFunction f
ReadItem (Table d is_static) = ReadObject d

abbrev pub ReadUnit : List External → Type 0
ReadUnit [] = Unit {0}
ReadUnit (x ∷ rest) = ReadItem x × ReadUnit rest
