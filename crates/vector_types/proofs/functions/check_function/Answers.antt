use Rattle.std.proofs.Common.{◌≡◌, ◌∙◌, ap, map, rules}
use Rattle.c_tree.specs.View.{view_declared, view_stmts}
use Rattle.scopes.specs.Scopes.{env_of}
use Rattle.scopes.specs.Kept.{at_file, OnAnswer}
use Rattle.statement_types.proofs.FileScope.{statements_at_file}
use Rattle.vector_types.proofs.InFunction.{entered_inside, entered_at_file, on_answer_then}
use Rattle.vector_types.proofs.functions.check_function.Goals as goal

pub returns-in_err-body-clause-kept : goal.returns-in_err-body-clause-kept
returns-in_err-body-clause-kept c =
    let ps = map view_declared c.in_ok-params.params.items in
    let said = c.in_err-body.ensures.kept (entered_inside ps _ _ _ c.in_ok-params.ensures.names c.in_ok-enter.ensures) in
    let kept : OnAnswer c.from_residual-in_err-body.result (at_file (env_of c.check_body.new.env) ≡ at_file (env_of c.check_parameters.new.env)) = search (rules, said) in
    on_answer_then c.from_residual-in_err-body.result (λ e. e ∙ entered_at_file ps _ _ _ c.in_ok-params.ensures.names c.in_ok-enter.ensures) kept

pub returns-clause-kept : goal.returns-clause-kept
returns-clause-kept c =
    let ps = map view_declared c.in_ok-params.params.items in
    let vs = view_stmts c.in_ok-body.body.items in
    ap at_file c.in_ok-body.ensures.names ∙
    statements_at_file vs (env_of c.check_parameters.new.env) (entered_inside ps _ _ _ c.in_ok-params.ensures.names c.in_ok-enter.ensures) ∙
    entered_at_file ps _ _ _ c.in_ok-params.ensures.names c.in_ok-enter.ensures
