use Rattle.std.proofs.Common.{◌≡◌, ◌++◌, map, drop}
use Rattle.c_tree.specs.View.{view_declared}
use Rattle.vector_types.specs.Functions.{parameter_of}
use Rattle.vector_types.proofs.headings.parameters.Given as goal

abbrev pub invariant-loop-d : goal.invariant-loop-d
invariant-loop-d l = map (parameter_of l.dialect) (map view_declared l.params) ≡ l.out.items ++ map (parameter_of l.dialect) (map view_declared (drop l.d-index l.params))
