use Rattle.std.proofs.Common.{◌≡◌, map, drop}
use Rattle.c_tree.specs.View.{view_declared}
use Rattle.scopes.specs.Scopes.{env_of}
use Rattle.statement_types.specs.Statements.{with_objects}
use Rattle.vector_types.specs.Functions.{check_parameters}
use Rattle.vector_types.proofs.Lists.{in_front}
use Rattle.vector_types.proofs.functions.check_parameters.Given as goal

abbrev pub invariant-loop-d : goal.invariant-loop-d
invariant-loop-d l = record {
  goes : check_parameters (map view_declared l.all) (env_of l.fn.env) ≡ in_front (map view_declared l.out.items) (check_parameters (map view_declared (drop l.d-index l.all)) (env_of l.env));
  names : env_of l.env ≡ with_objects (map view_declared l.out.items) (env_of l.fn.env);
}
