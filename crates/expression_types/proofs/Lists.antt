-- Lists of expressions that grow.
use Rattle.std.proofs.Common.{◌≡◌, ◌∙◌, map, List, [], ◌∷◌, ◌++◌, Ok, Err, refl, ap}
use Rattle.std.proofs.lemmas.List.{map-append}
use Rattle.c_tree.specs.declared.expressions.Expr.{Expr}
use Rattle.c_tree.specs.Tree.{Tree, Trees, More}
use Rattle.c_tree.specs.View.{view, views, and_more}
use Rattle.scopes.specs.Scopes.{Env}
use Rattle.expression_types.specs.Check.{◌>>=◌, Checked, check, check_all}

and_one_more : (all : List Tree) (e : Tree) (more : Trees) → and_more (all ++ e ∷ []) more ≡ and_more all (More e more)
and_one_more [] e more = refl
and_one_more (a ∷ all) e more = ap (More a) (and_one_more all e more)

abbrev pub in_front : List Tree → Checked Trees → Checked Trees
in_front front r = r >>= λ rest. Ok (and_more front rest)

pub front_one_more : (front : List Tree) (e : Tree) (r : Checked Trees) → in_front (front ++ e ∷ []) r ≡ in_front front (r >>= λ rest. Ok (More e rest))
front_one_more front e (Ok rest) = ap Ok (and_one_more front e rest)
front_one_more front e (Err x) = refl

-- one more expression passes the check
pub checks_one_more : (env : Env) (w : Checked Trees) (out out' all rest : List Expr) (x y : Expr) → w ≡ in_front (map view out) (check_all (views all) env) →
    all ≡ x ∷ rest → check (view x) env ≡ Ok (view y) → out' ≡ out ++ y ∷ [] → w ≡ in_front (map view out') (check_all (views rest) env)
checks_one_more env w out out' all rest x y goes here passes grown =
    let seen : map view out' ≡ map view out ++ view y ∷ [] = ap (map view) grown ∙ map-append view out (y ∷ []) in
    rw (seen, front_one_more (map view out) (view y) (check_all (views rest) env)) (goes ∙ rw (here, passes) refl)
