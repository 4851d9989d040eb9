-- What contracts see of the statements that the parser makes.
use Rattle.std.proofs.Common.{◌≡◌, Option, Some, None, map, option_map, Vec, Box, rules}
use Rattle.std.specs.declared.alloc.Global.{Global}
use Rattle.c_tree.specs.declared.expressions.Expr.{Expr}
use Rattle.c_tree.specs.declared.statements.Declared.{Declared}
use Rattle.c_tree.specs.declared.statements.Stmt.{Stmt, the_lemmas}
use Rattle.c_tree.specs.declared.statements.Stmt.TheVariants as Form
use Rattle.c_tree.specs.Tree.{Declare, Block, If, While, DoWhile, For, Absent, Present}
use Rattle.c_tree.specs.View.{view, view_declared, view_stmt, view_stmts, view_optional}

pub view_declare : (all : Vec Declared Global) → view_stmt (Form.Declare all) ≡ Declare (map view_declared all.items)
view_declare all = search (rules, the_lemmas)

pub view_block : (all : Vec Stmt Global) → view_stmt (Form.Block all) ≡ Block (view_stmts all.items)
view_block all = search (rules, the_lemmas)

pub view_if : (c : Expr) (s : Box Stmt Global) → view_stmt (Form.If c s None) ≡ If (view c) (view_stmt s.value) Absent
view_if c s = search (rules, the_lemmas)

pub view_if_else : (c : Expr) (s o : Box Stmt Global) → view_stmt (Form.If c s (Some o)) ≡ If (view c) (view_stmt s.value) (Present (view_stmt o.value))
view_if_else c s o = search (rules, the_lemmas)

pub view_while : (c : Expr) (s : Box Stmt Global) → view_stmt (Form.While c s) ≡ While (view c) (view_stmt s.value)
view_while c s = search (rules, the_lemmas)

pub view_do_while : (s : Box Stmt Global) (c : Expr) → view_stmt (Form.DoWhile s c) ≡ DoWhile (view_stmt s.value) (view c)
view_do_while s c = search (rules, the_lemmas)

pub view_for : (i : Option (Box Stmt Global)) (c n : Option Expr) (s : Box Stmt Global) →
    view_stmt (Form.For i c n s) ≡ For (view_optional i) (option_map view c) (option_map view n) (view_stmt s.value)
view_for None c n s = search (rules, the_lemmas)
view_for (Some i) c n s = search (rules, the_lemmas)
