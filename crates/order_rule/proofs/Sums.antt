-- Sums of how often something happens.
use Rattle.std.proofs.Common.{◌≡◌, ◌∙◌, List, ◌∷◌, refl, sym, ap}
use Rattle.c_tree.specs.declared.expressions.Expr.{Expr}
use Rattle.c_tree.specs.Tree.{Tree, Trees, More}
use Rattle.c_tree.specs.View.{view, views}
use Rattle.order_rule.specs.declared.times.Times.{Times}
use Rattle.order_rule.specs.declared.times.Times.TheVariants.{Never, Once, Often}
use Rattle.order_rule.specs.Writing.{sum}

pub sum-assoc : (s t u : Times) → sum (sum s t) u ≡ sum s (sum t u)
sum-assoc Never t u = refl
sum-assoc Once Never u = refl
sum-assoc Once Once Never = refl
sum-assoc Once Once Once = refl
sum-assoc Once Once Often = refl
sum-assoc Once Often Never = refl
sum-assoc Once Often Once = refl
sum-assoc Once Often Often = refl
sum-assoc Often t u = refl

pub sum-turned : (s t : Times) → sum s t ≡ sum t s
sum-turned Never Never = refl
sum-turned Never Once = refl
sum-turned Never Often = refl
sum-turned Once Never = refl
sum-turned Once Once = refl
sum-turned Once Often = refl
sum-turned Often Never = refl
sum-turned Often Once = refl
sum-turned Often Often = refl

-- a turn of a loop that adds what one expression has
pub one_more : (f : Tree → Times) (f_all : Trees → Times) → ((a : Tree) (rest : Trees) → f_all (More a rest) ≡ sum (f a) (f_all rest)) →
    (whole total total' : Times) (all rest : List Expr) (e : Expr) → whole ≡ sum total (f_all (views all)) → all ≡ e ∷ rest → total' ≡ sum total (f (view e)) →
    whole ≡ sum total' (f_all (views rest))
one_more f f_all at_more whole total total' all rest e so_far here grown =
    so_far ∙ ap (λ l. sum total (f_all (views l))) here ∙ ap (sum total) (at_more (view e) (views rest)) ∙ sym (sum-assoc total (f (view e)) (f_all (views rest))) ∙
    ap (λ t. sum t (f_all (views rest))) (sym grown)
