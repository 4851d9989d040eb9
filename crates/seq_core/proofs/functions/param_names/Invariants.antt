use Rattle.std.proofs.Common.{◌≡◌, ◌++◌, map, drop}
use Rattle.c_tree.specs.View.{view as view_tree}
use Rattle.seq_core.specs.Functions.{named, params_from}
use Rattle.seq_core.proofs.functions.param_names.Given as goal

abbrev pub invariant-loop-k : goal.invariant-loop-k
invariant-loop-k l = map view_tree l.out.items ++ map (named l.place) (params_from l.k (drop l.k l.params)) ≡ map (named l.place) (params_from 0 l.params)
