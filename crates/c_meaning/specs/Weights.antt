-- How large trees are: what a run goes down.
use Rattle.std.specs.Prelude.{ℕ, ◌+◌, List, [], ◌∷◌, Option, Some, None}
use Rattle.c_tree.specs.Tree.{Tree, Kind, Trees, Node, Unary, Step, Binary, AndThen, OrElse, Choice, Assign, Comma, Cast, Index, Deref, Address, Call, Half, PairOf, NoTrees, More}
use Rattle.c_tree.specs.Tree.{Object, Statement, Statements, Optional, Declare, Run, Block, If, While, DoWhile, For, Return, Absent, Present, NoStatements, Then}
use Rattle.c_meaning.specs.Flagged.{Flagged}

abbrev mutual
  pub weight : Tree → ℕ
  weight (Node p t k) = kind_weight k + 8

  pub kind_weight : Kind → ℕ
  kind_weight (Unary o a) = weight a
  kind_weight (Step a up before) = weight a
  kind_weight (Binary o a b) = weight a + weight b
  kind_weight (AndThen a b) = weight a + weight b
  kind_weight (OrElse a b) = weight a + weight b
  kind_weight (Choice c a b) = weight c + weight a + weight b
  kind_weight (Assign o a b) = weight a + weight b
  kind_weight (Comma all) = weights all
  kind_weight (Cast t a written) = weight a
  kind_weight (Index a b) = weight a + weight b
  kind_weight (Deref a) = weight a
  kind_weight (Address a) = weight a
  kind_weight (Call f all) = weights all
  kind_weight (Half a k) = weight a
  kind_weight (PairOf a b) = weight a + weight b
  kind_weight k = 0

  pub weights : Trees → ℕ
  weights NoTrees = 0
  weights (More a rest) = weight a + weights rest

abbrev pub optional_weight : Option Tree → ℕ
optional_weight None = 0
optional_weight (Some a) = weight a

abbrev pub objects_weight : List Object → ℕ
objects_weight [] = 0
objects_weight (d ∷ rest) = optional_weight d.init + objects_weight rest

abbrev mutual
  pub statement_weight : Statement → ℕ
  statement_weight (Declare all) = objects_weight all + 8
  statement_weight (Run e) = weight e + 8
  statement_weight (Block all) = statements_weight all + 8
  statement_weight (If e s o) = weight e + statement_weight s + maybe_weight o + 8
  statement_weight (While e s) = weight e + statement_weight s + 8
  statement_weight (DoWhile s e) = statement_weight s + weight e + 8
  statement_weight (For i e n s) = maybe_weight i + optional_weight e + optional_weight n + statement_weight s + 8
  statement_weight (Return p e) = optional_weight e + 8
  statement_weight s = 8

  pub maybe_weight : Optional → ℕ
  maybe_weight Absent = 0
  maybe_weight (Present s) = statement_weight s

  pub statements_weight : Statements → ℕ
  statements_weight NoStatements = 0
  statements_weight (Then s rest) = statement_weight s + statements_weight rest

abbrev pub functions_weight : List Flagged → ℕ
functions_weight [] = 0
functions_weight (f ∷ rest) = statements_weight f.function.body + 8 + functions_weight rest
