-- What contracts see of the nodes that the parser makes.
use Rattle.std.proofs.Common.{◌≡◌, Vec, rules}
use Rattle.std.specs.declared.alloc.Global.{Global}
use Rattle.c_text.specs.declared.tokens.Text.{Text}
use Rattle.c_tree.specs.declared.expressions.Expr.{Expr}
use Rattle.c_tree.specs.declared.expressions.ExprKind.{the_lemmas}
use Rattle.c_tree.specs.declared.expressions.ExprKind.TheVariants as Form
use Rattle.c_tree.specs.Tree.{Node, Comma, Call}
use Rattle.c_tree.specs.View.{view, view_kind, views}

pub view_node : (e : Expr) → view e ≡ Node e.place e.ty (view_kind e.kind.value)
view_node e = search (rules, the_lemmas)

pub view_comma : (all : Vec Expr Global) → view_kind (Form.Comma all) ≡ Comma (views all.items)
view_comma all = search (rules, the_lemmas)

pub view_call : (f : Text) (all : Vec Expr Global) → view_kind (Form.Call f all) ≡ Call f (views all.items)
view_call f all = search (rules, the_lemmas)
