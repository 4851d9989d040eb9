use Rattle.std.proofs.Common.{◌≡◌, map, drop}
use Rattle.c_tree.specs.View.{view_stmt, view_stmts}
use Rattle.scopes.specs.Scopes.{env_of}
use Rattle.statement_types.specs.Statements.{around, beyond_all, check_statements}
use Rattle.statement_types.proofs.Rows.{in_front}
use Rattle.statement_types.proofs.statements.+check.Given as goal

abbrev pub invariant-statements-loop-s : goal.invariant-statements-loop-s
invariant-statements-loop-s l = record {
  goes : check_statements (view_stmts l.all) (around (env_of l.fn.env) l.returns l.looped) ≡ in_front (map view_stmt l.out.items) (check_statements (view_stmts (drop l.s-index l.all)) (around (env_of l.env) l.returns l.looped));
  names : env_of l.env ≡ beyond_all (view_stmts l.out.items) (env_of l.fn.env);
}
