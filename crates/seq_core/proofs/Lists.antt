-- Lists of expressions, statements and steps.
use Rattle.std.proofs.Common.{◌≡◌, ◌≤◌, ℕ, suc, List, [], ◌∷◌, ◌++◌, map, drop, refl, sym, ap, ◌∙◌, length, Option, None, true, append-nil}
use Rattle.std.proofs.lemmas.List.{drop_all}
use Rattle.c_text.specs.declared.tokens.Place.{Place}
use Rattle.c_tree.specs.declared.expressions.Expr.{Expr}
use Rattle.c_tree.specs.declared.types.CType.{CType}
use Rattle.c_tree.specs.Tree.{Tree, Trees, NoTrees, More, Object, Statement, NoStatements}
use Rattle.c_tree.specs.View.{view as view_tree, views, and_more, and_then}
use Rattle.seq_core.specs.declared.terms.Term.{Term as CodeTerm}
use Rattle.seq_core.specs.Terms.{Term}
use Rattle.seq_core.specs.View.{view_all}
use Rattle.seq_core.specs.Written.{Pen, pen, all_written}
use Rattle.seq_core.specs.Listed.{listed, names_after, statements_after, next_statement}
use Rattle.seq_core.specs.Functions.{params_from, object_of, returned, result_type, function_of, Variable, named, step_over, step_variable, step_statement, steps_written, steps_after}

pub listed_back : (ts : Trees) → and_more (listed ts) NoTrees ≡ ts
listed_back NoTrees = refl
listed_back (More a rest) = ap (More a) (listed_back rest)

-- the expressions that a loop has written, at its end
pub all_written_are : (p : Pen) (out : List Expr) (all : List CodeTerm) (i : ℕ) → map view_tree out ++ listed (all_written p (view_all (drop i all))) ≡ listed (all_written p (view_all all)) → length all ≤ i → views out ≡ all_written p (view_all all)
all_written_are p out all i h n =
    ap (λ ts. and_more ts NoTrees) (sym (append-nil (map view_tree out)) ∙ ap (λ (rest : List CodeTerm). map view_tree out ++ listed (all_written p (view_all rest))) (sym (drop_all i all n)) ∙ h) ∙ listed_back (all_written p (view_all all))

names_length : (place : Place) (ss : List Variable) → length (map (named place) ss) ≡ length ss
names_length place [] = refl
names_length place (x ∷ xs) = ap suc (names_length place xs)

names_push : (place : Place) (ss : List Variable) (x : Variable) → map (named place) ss ++ named place x ∷ [] ≡ map (named place) (ss ++ x ∷ [])
names_push place [] x = refl
names_push place (y ∷ ys) x = ap (λ (rest : List Tree). named place y ∷ rest) (names_push place ys x)

-- the name behind these is that of the next step
next_name : (place : Place) (ps ss : List Variable) (t : Term)
    → map (named place) ss ++ step_over place (map (named place) ps) (map (named place) ss) t ∷ [] ≡ map (named place) (ss ++ step_variable place ps ss t ∷ [])
next_name place ps ss t = rw (names_length place ss) (names_push place ss (step_variable place ps ss t))

next_is : (place : Place) (ps ss : List Variable) (t : Term) → next_statement place (map (named place) ps) (map (named place) ss) t ≡ step_statement place ps ss t
next_is place ps ss t = rw (names_length place ss) refl

pub names_are : (place : Place) (ps ss : List Variable) (ts : List Term)
    → names_after place (map (named place) ps) (map (named place) ss) ts ≡ map (named place) (steps_after place ps ss ts)
names_are place ps ss [] = refl
names_are place ps ss (t ∷ rest) =
    ap (λ names. names_after place (map (named place) ps) names rest) (next_name place ps ss t) ∙ names_are place ps (ss ++ step_variable place ps ss t ∷ []) rest

pub statements_are : (place : Place) (ps ss : List Variable) (ts : List Term)
    → statements_after place (map (named place) ps) (map (named place) ss) ts ≡ steps_written place ps ss ts
statements_are place ps ss [] = refl
statements_are place ps ss (t ∷ rest) =
    ap (λ s. s ∷ statements_after place (map (named place) ps) (map (named place) ss ++ step_over place (map (named place) ps) (map (named place) ss) t ∷ []) rest) (next_is place ps ss t)
    ∙ ap (λ (all : List Statement). step_statement place ps ss t ∷ all)
    (ap (λ names. statements_after place (map (named place) ps) names rest) (next_name place ps ss t) ∙ statements_are place ps (ss ++ step_variable place ps ss t ∷ []) rest)

-- the function's parts, each as it was written
pub function_written : (place : Place) (name : List ℕ) (types : List CType) (ts : List Term) (r : Option Term) (params : List Object) (names steps : List Tree) (body : List Statement) (result : CType)
    → params ≡ map (λ v. object_of place v None) (params_from 0 types) → names ≡ map (named place) (params_from 0 types) → steps ≡ names_after place names [] ts
    → result ≡ result_type (pen place names steps) r → body ≡ statements_after place names [] ts ++ returned (pen place names steps) r
    → function_of place name (record { params = types; steps = ts; result = r }) ≡ record { place = place; name = name; result = result; params = params; is_static = true; is_inline = true; body = and_then body NoStatements }
function_written place name types ts r params names steps body result p n s t b =
    rw (p, t, b, s, n, names_are place (params_from 0 types) [] ts, statements_are place (params_from 0 types) [] ts) refl
