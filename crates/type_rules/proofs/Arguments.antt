-- Arguments that are passed one after the other.
use Rattle.std.proofs.Common.{◌≡◌, ◌∙◌, ◌<◌, length, arith, Option, Some, None, map, List, [], ◌∷◌, ◌++◌, refl, sym, ap}
use Rattle.std.proofs.lemmas.List.{map-append}
use Rattle.c_tree.specs.declared.expressions.Expr.{Expr}
use Rattle.c_tree.specs.Tree.{Tree, Trees, NoTrees, More}
use Rattle.c_tree.specs.View.{view, views, and_more}
use Rattle.type_rules.specs.declared.passing.Parameter.{Parameter}
use Rattle.type_rules.specs.Passing.{given, and_rest, passed, immediate_of}

-- these arguments, and then the rest
abbrev pub behind : List Tree → Option Trees → Option Trees
behind front (Some rest) = Some (and_more front rest)
behind front None = None

and_one_more : (all : List Tree) (e : Tree) (more : Trees) → and_more (all ++ e ∷ []) more ≡ and_more all (More e more)
and_one_more [] e more = refl
and_one_more (a ∷ all) e more = ap (More a) (and_one_more all e more)

behind_one_more : (front : List Tree) (e : Tree) (r : Option Trees) → behind (front ++ e ∷ []) r ≡ behind front (and_rest (Some e) r)
behind_one_more front e (Some rest) = ap Some (and_one_more front e rest)
behind_one_more front e None = refl

-- one more argument is passed
pub passes_one_more : (w : Option Trees) (out out' all rest : List Expr) (ts us : List Parameter) (t : Parameter) (x y : Expr) →
    w ≡ behind (map view out) (passed ts (views all)) → ts ≡ t ∷ us → all ≡ x ∷ rest → Some (view y) ≡ given t (view x) → out' ≡ out ++ y ∷ [] →
    w ≡ behind (map view out') (passed us (views rest))
passes_one_more w out out' all rest ts us t x y goes types here fit grown =
    let seen : map view out' ≡ map view out ++ view y ∷ [] = ap (map view) grown ∙ map-append view out (y ∷ []) in
    rw (seen, behind_one_more (map view out) (view y) (passed us (views rest))) (goes ∙ rw (types, here, sym fit) refl)

pub no_immediate : (ts : List Parameter) → immediate_of ts NoTrees ≡ None
no_immediate [] = refl
no_immediate (t ∷ ts) = refl

pub no_argument : (ts : List Parameter) → 0 < length ts → passed ts NoTrees ≡ None
no_argument [] h = let no : ⊥ = omega arith in absurd no
no_argument (t ∷ ts) h = refl
