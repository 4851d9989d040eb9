-- Statements, functions and units without places, and with something done to their types, objects and expressions.
use Rattle.std.specs.Prelude.{List, map, option_map}
use Rattle.c_tree.specs.declared.types.CType.{CType}
use Rattle.c_tree.specs.Tree.{Tree, Object, Statement, Statements, Optional, Declare, Run, Block, If, While, DoWhile, For, Break, Continue, Return, Empty, Absent, Present, NoStatements, Then}
use Rattle.c_tree.specs.Tree.{Definition, External, Function, Table}
use Rattle.c_tree.specs.Same.{nowhere}

-- what is done to the types that functions give, to declared objects and to expressions
pub record Rewriting : Type 0 where
  pub ty : CType → CType
  pub object : Object → Object
  pub tree : Tree → Tree

abbrev mutual
  pub statement : Rewriting → Statement → Statement
  statement r (Declare all) = Declare (map r.object all)
  statement r (Run e) = Run (r.tree e)
  statement r (Block all) = Block (statements r all)
  statement r (If c s o) = If (r.tree c) (statement r s) (optional r o)
  statement r (While c s) = While (r.tree c) (statement r s)
  statement r (DoWhile s c) = DoWhile (statement r s) (r.tree c)
  statement r (For i c n s) = For (optional r i) (option_map r.tree c) (option_map r.tree n) (statement r s)
  statement r (Break p) = Break nowhere
  statement r (Continue p) = Continue nowhere
  statement r (Return p e) = Return nowhere (option_map r.tree e)
  statement r Empty = Empty

  pub optional : Rewriting → Optional → Optional
  optional r Absent = Absent
  optional r (Present s) = Present (statement r s)

  pub statements : Rewriting → Statements → Statements
  statements r NoStatements = NoStatements
  statements r (Then s rest) = Then (statement r s) (statements r rest)

abbrev pub definition : Rewriting → Definition → Definition
definition r f = record {
  place = nowhere;
  name = f.name;
  result = r.ty f.result;
  params = map r.object f.params;
  is_static = f.is_static;
  is_inline = f.is_inline;
  body = statements r f.body;
}

abbrev pub external : Rewriting → External → External
external r (Function f) = Function (definition r f)
external r (Table d is_static) = Table (r.object d) is_static

abbrev pub unit : Rewriting → List External → List External
unit r u = map (external r) u
