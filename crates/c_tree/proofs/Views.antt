-- What contracts see of the forms that hold boxes or lists in the code, and of lists that grow by one at their end.
use Rattle.std.proofs.Common.{◌≡◌, ◌∙◌, List, [], ◌∷◌, ◌++◌, Option, Some, None, map, option_map, Vec, Box, refl, sym, ap, rules}
use Rattle.std.proofs.lemmas.List.{map-append}
use Rattle.std.specs.declared.alloc.Global.{Global}
use Rattle.c_text.specs.declared.tokens.Text.{Text}
use Rattle.c_tree.specs.declared.expressions.Expr.{Expr}
use Rattle.c_tree.specs.declared.expressions.ExprKind.{the_lemmas}
use Rattle.c_tree.specs.declared.expressions.ExprKind.TheVariants as Form
use Rattle.c_tree.specs.declared.statements.Declared.{Declared}
use Rattle.c_tree.specs.declared.statements.Stmt.{Stmt, the_lemmas as stmt_lemmas}
use Rattle.c_tree.specs.declared.statements.Stmt.TheVariants as Form'
use Rattle.c_tree.specs.Tree.{Tree, Trees, Node, Comma, Call, NoTrees, More, Statement, Statements, Declare, Block, If, While, DoWhile, For, NoStatements, Then}
use Rattle.c_tree.specs.View.{view, view_kind, views, and_more, view_declared, view_stmt, view_stmts, and_then, view_optional}

pub view_node : (e : Expr) → view e ≡ Node e.place e.ty (view_kind e.kind.value)
view_node e = search (rules, the_lemmas)

pub view_comma : (all : Vec Expr Global) → view_kind (Form.Comma all) ≡ Comma (views all.items)
view_comma all = search (rules, the_lemmas)

pub view_call : (f : Text) (all : Vec Expr Global) → view_kind (Form.Call f all) ≡ Call f (views all.items)
view_call f all = search (rules, the_lemmas)

pub view_declare : (all : Vec Declared Global) → view_stmt (Form'.Declare all) ≡ Declare (map view_declared all.items)
view_declare all = search (rules, stmt_lemmas)

pub view_block : (all : Vec Stmt Global) → view_stmt (Form'.Block all) ≡ Block (view_stmts all.items)
view_block all = search (rules, stmt_lemmas)

pub view_if : (c : Expr) (s : Box Stmt Global) (o : Option (Box Stmt Global)) → view_stmt (Form'.If c s o) ≡ If (view c) (view_stmt s.value) (view_optional o)
view_if c s None = search (rules, stmt_lemmas)
view_if c s (Some o) = search (rules, stmt_lemmas)

pub view_while : (c : Expr) (s : Box Stmt Global) → view_stmt (Form'.While c s) ≡ While (view c) (view_stmt s.value)
view_while c s = search (rules, stmt_lemmas)

pub view_do_while : (s : Box Stmt Global) (c : Expr) → view_stmt (Form'.DoWhile s c) ≡ DoWhile (view_stmt s.value) (view c)
view_do_while s c = search (rules, stmt_lemmas)

pub view_for : (i : Option (Box Stmt Global)) (c n : Option Expr) (s : Box Stmt Global) →
    view_stmt (Form'.For i c n s) ≡ For (view_optional i) (option_map view c) (option_map view n) (view_stmt s.value)
view_for None c n s = search (rules, stmt_lemmas)
view_for (Some i) c n s = search (rules, stmt_lemmas)

-- one more at the end
pub and_more-append : (all : List Tree) (a : Tree) (more : Trees) → and_more (all ++ a ∷ []) more ≡ and_more all (More a more)
and_more-append [] a more = refl
and_more-append (x ∷ all) a more = ap (More x) (and_more-append all a more)

pub and_then-append : (all : List Statement) (s : Statement) (more : Statements) → and_then (all ++ s ∷ []) more ≡ and_then all (Then s more)
and_then-append [] s more = refl
and_then-append (x ∷ all) s more = ap (Then x) (and_then-append all s more)

pub views-append : (all : List Expr) (e : Expr) → views (all ++ e ∷ []) ≡ and_more (map view all) (More (view e) NoTrees)
views-append all e = ap (λ l. and_more l NoTrees) (map-append view all (e ∷ [])) ∙ and_more-append (map view all) (view e) NoTrees

pub view_stmts-append : (all : List Stmt) (s : Stmt) → view_stmts (all ++ s ∷ []) ≡ and_then (map view_stmt all) (Then (view_stmt s) NoStatements)
view_stmts-append all s = ap (λ l. and_then l NoStatements) (map-append view_stmt all (s ∷ [])) ∙ and_then-append (map view_stmt all) (view_stmt s) NoStatements

-- a turn of a loop that makes one expression of each: what is made so far, and then what becomes of the rest
pub one_more : (f : Tree → Tree) (f_all : Trees → Trees) → ((a : Tree) (rest : Trees) → f_all (More a rest) ≡ More (f a) (f_all rest)) →
    (whole : Trees) (out out' all rest : List Expr) (x y : Expr) → whole ≡ and_more (map view out) (f_all (views all)) →
    all ≡ x ∷ rest → view y ≡ f (view x) → out' ≡ out ++ y ∷ [] → whole ≡ and_more (map view out') (f_all (views rest))
one_more f f_all at_more whole out out' all rest x y so_far here made grown =
    so_far ∙ ap (λ l. and_more (map view out) (f_all (views l))) here ∙ ap (and_more (map view out)) (at_more (view x) (views rest)) ∙
    ap (λ t. and_more (map view out) (More t (f_all (views rest)))) (sym made) ∙ sym (and_more-append (map view out) (view y) (f_all (views rest))) ∙
    ap (λ l. and_more l (f_all (views rest))) (sym (map-append view out (y ∷ []))) ∙ ap (λ l. and_more (map view l) (f_all (views rest))) (sym grown)

-- the same for statements
pub one_more_stmt : (f : Statement → Statement) (f_all : Statements → Statements) → ((s : Statement) (rest : Statements) → f_all (Then s rest) ≡ Then (f s) (f_all rest)) →
    (whole : Statements) (out out' all rest : List Stmt) (x y : Stmt) → whole ≡ and_then (map view_stmt out) (f_all (view_stmts all)) →
    all ≡ x ∷ rest → view_stmt y ≡ f (view_stmt x) → out' ≡ out ++ y ∷ [] → whole ≡ and_then (map view_stmt out') (f_all (view_stmts rest))
one_more_stmt f f_all at_then whole out out' all rest x y so_far here made grown =
    so_far ∙ ap (λ l. and_then (map view_stmt out) (f_all (view_stmts l))) here ∙ ap (and_then (map view_stmt out)) (at_then (view_stmt x) (view_stmts rest)) ∙
    ap (λ t. and_then (map view_stmt out) (Then t (f_all (view_stmts rest)))) (sym made) ∙ sym (and_then-append (map view_stmt out) (view_stmt y) (f_all (view_stmts rest))) ∙
    ap (λ l. and_then l (f_all (view_stmts rest))) (sym (map-append view_stmt out (y ∷ []))) ∙ ap (λ l. and_then (map view_stmt l) (f_all (view_stmts rest))) (sym grown)
