use Rattle.std.proofs.Common.{◌≡◌, map, drop}
use Rattle.c_tree.specs.View.{view, views}
use Rattle.scopes.specs.Scopes.{env_of}
use Rattle.expression_types.specs.Check.{check_all}
use Rattle.expression_types.proofs.Lists.{in_front}
use Rattle.expression_types.proofs.check.+check.Given as goal

abbrev pub invariant-check_expressions-loop-x : goal.invariant-check_expressions-loop-x
invariant-check_expressions-loop-x l = check_all (views l.all) (env_of l.env) ≡ in_front (map view l.out.items) (check_all (views (drop l.x-index l.all)) (env_of l.env))
