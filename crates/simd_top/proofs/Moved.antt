-- What is seen of lists that were moved one by one.
use Rattle.std.proofs.Common.{◌≡◌, List, [], ◌∷◌, map, refl, ◌∙◌, ap, ℕ, ◌≤◌, length, take, arith}
use Rattle.std.proofs.lemmas.Grind.{common_steps}
use Rattle.c_tree.specs.declared.expressions.Expr.{Expr}
use Rattle.c_tree.specs.declared.statements.Declared.{Declared}
use Rattle.c_tree.specs.declared.statements.Stmt.{Stmt}
use Rattle.c_tree.specs.declared.units.Item.{Item}
use Rattle.c_tree.specs.Tree.{Object, External, NoTrees, More, NoStatements, Then}
use Rattle.c_tree.specs.View.{and_more, and_then, view, views, view_declared, view_stmt, view_stmts, view_item}
use Rattle.simd_top.specs.Written.{moved_tree, moved_trees, moved_object, moved_statement, moved_statements, moved_item}

whole : {A : Type 0} (i : ℕ) (all : List A) → length all ≤ i → take i all ≡ all
whole i all h = grind (arith, common_steps)

views_of : (all : List Expr) → and_more (map (λ e. moved_tree (view e)) all) NoTrees ≡ moved_trees (views all)
views_of [] = refl
views_of (e ∷ all) = ap (More (moved_tree (view e))) (views_of all)

pub moved_views : (out all : List Expr) (i : ℕ) → map view out ≡ map (λ e. moved_tree (view e)) (take i all) → length all ≤ i → views out ≡ moved_trees (views all)
moved_views out all i h n = ap (λ ts. and_more ts NoTrees) (h ∙ ap (map (λ e. moved_tree (view e))) (whole i all n)) ∙ views_of all

bodies_of : (all : List Stmt) → and_then (map (λ s. moved_statement (view_stmt s)) all) NoStatements ≡ moved_statements (view_stmts all)
bodies_of [] = refl
bodies_of (s ∷ all) = ap (Then (moved_statement (view_stmt s))) (bodies_of all)

pub moved_bodies : (out all : List Stmt) (i : ℕ) → map view_stmt out ≡ map (λ s. moved_statement (view_stmt s)) (take i all) → length all ≤ i → view_stmts out ≡ moved_statements (view_stmts all)
moved_bodies out all i h n = ap (λ ss. and_then ss NoStatements) (h ∙ ap (map (λ s. moved_statement (view_stmt s))) (whole i all n)) ∙ bodies_of all

lists_of : (all : List Declared) → map {B = Object} (λ o. moved_object (view_declared o)) all ≡ map moved_object (map view_declared all)
lists_of [] = refl
lists_of (o ∷ all) = ap (λ os. moved_object (view_declared o) ∷ os) (lists_of all)

pub moved_lists : (out all : List Declared) (i : ℕ) → map view_declared out ≡ map (λ o. moved_object (view_declared o)) (take i all) → length all ≤ i → map view_declared out ≡ map moved_object (map view_declared all)
moved_lists out all i h n = h ∙ ap (map {B = Object} (λ o. moved_object (view_declared o))) (whole i all n) ∙ lists_of all

items_of : (all : List Item) → map {B = External} (λ x. moved_item (view_item x)) all ≡ map moved_item (map view_item all)
items_of [] = refl
items_of (x ∷ all) = ap (λ xs. moved_item (view_item x) ∷ xs) (items_of all)

pub moved_items_are : (out all : List Item) (i : ℕ) → map view_item out ≡ map (λ x. moved_item (view_item x)) (take i all) → length all ≤ i → map view_item out ≡ map moved_item (map view_item all)
moved_items_are out all i h n = h ∙ ap (map {B = External} (λ x. moved_item (view_item x))) (whole i all n) ∙ items_of all
