-- Members of initialisers, one after the other.
use Rattle.std.proofs.Common.{◌≡◌, ◌∙◌, ℕ, ◌+◌, Bool, ◌||◌, map, List, [], ◌∷◌, ◌++◌, Option, Ok, Err, refl, ap}
use Rattle.std.proofs.lemmas.List.{map-append}
use Rattle.std.specs.List.{list_any}
use Rattle.c_tree.specs.declared.types.CType.{CType}
use Rattle.c_tree.specs.declared.expressions.Expr.{Expr}
use Rattle.c_tree.specs.Tree.{Tree, Trees, More}
use Rattle.c_tree.specs.View.{view, views, and_more}
use Rattle.scopes.specs.Scopes.{Env}
use Rattle.expression_types.specs.Check.{◌>>=◌, Checked, check}
use Rattle.object_types.specs.Objects.{is_room, member, members}

and_one_more : (all : List Tree) (e : Tree) (more : Trees) → and_more (all ++ e ∷ []) more ≡ and_more all (More e more)
and_one_more [] e more = refl
and_one_more (a ∷ all) e more = ap (More a) (and_one_more all e more)

abbrev pub in_front : List Tree → Checked Trees → Checked Trees
in_front front r = r >>= λ rest. Ok (and_more front rest)

pub front_one_more : (front : List Tree) (e : Tree) (r : Checked Trees) → in_front (front ++ e ∷ []) r ≡ in_front front (r >>= λ rest. Ok (More e rest))
front_one_more front e (Ok rest) = ap Ok (and_one_more front e rest)
front_one_more front e (Err x) = refl

-- one more member fits
pub members_one_more : (t : CType) (n : Option ℕ) (i : ℕ) (env : Env) (w : Checked Trees) (out out' all rest : List Expr) (x y z : Expr) → w ≡ in_front (map view out) (members t n i (views all) env) →
    all ≡ x ∷ rest → check (view x) env ≡ Ok (view y) → member t (is_room i n) (view y) ≡ Ok (view z) → out' ≡ out ++ z ∷ [] → w ≡ in_front (map view out') (members t n (i + 1) (views rest) env)
members_one_more t n i env w out out' all rest x y z goes here passes fits grown =
    let seen : map view out' ≡ map view out ++ view z ∷ [] = ap (map view) grown ∙ map-append view out (z ∷ []) in
    rw (seen, front_one_more (map view out) (view z) (members t n (i + 1) (views rest) env)) (goes ∙ rw (here, passes, fits) refl)

-- a test of what is made of each of a list
pub any-map : {A B : Type 0} (f : B → Bool) (g : A → B) (xs : List A) → list_any f (map g xs) ≡ list_any (λ x. f (g x)) xs
any-map f g [] = refl
any-map f g (x ∷ xs) = ap (λ b. f (g x) || b) (any-map f g xs)
