use Rattle.std.proofs.Common.{◌≡◌, ◌++◌, map, drop}
use Rattle.std.specs.Prelude.{None}
use Rattle.c_tree.specs.View.{view_declared}
use Rattle.seq_core.specs.Functions.{object_of, params_from}
use Rattle.seq_core.proofs.functions.param_objects.Given as goal

abbrev pub invariant-loop-k : goal.invariant-loop-k
invariant-loop-k l = map view_declared l.out.items ++ map (λ v. object_of l.place v None) (params_from l.k (drop l.k l.params)) ≡ map (λ v. object_of l.place v None) (params_from 0 l.params)
