use Rattle.std.proofs.Common.{◌≡◌, map, drop}
use Rattle.c_tree.specs.View.{view_declared}
use Rattle.scopes.specs.Scopes.{env_of}
use Rattle.statement_types.specs.Statements.{with_objects, check_objects}
use Rattle.statement_types.proofs.Rows.{objects_front}
use Rattle.statement_types.proofs.declarations.check_objects.Given as goal

abbrev pub invariant-loop-d : goal.invariant-loop-d
invariant-loop-d l = record {
  goes : check_objects (map view_declared l.all) (env_of l.fn.env) ≡ objects_front (map view_declared l.out.items) (check_objects (map view_declared (drop l.d-index l.all)) (env_of l.env));
  names : env_of l.env ≡ with_objects (map view_declared l.out.items) (env_of l.fn.env);
}
