use Rattle.std.proofs.Common.{◌≡◌, ◌∙◌, ◌+◌, ◌∷◌, [], true, sym, ap, subst, drop, arith, rules, Option, Some, None, option_map, Box}
use Rattle.std.specs.declared.alloc.Global.{Global}
use Rattle.c_tree.specs.declared.expressions.Expr.{Expr}
use Rattle.c_tree.specs.declared.statements.Stmt.{Stmt, the_lemmas}
use Rattle.c_tree.specs.declared.statements.Stmt.TheVariants as form
use Rattle.std.proofs.lemmas.Grind.{common_steps}
use Rattle.c_tree.specs.Tree.{Optional, For}
use Rattle.c_tree.specs.View.{view, view_stmt, view_stmts, view_optional}
use Rattle.scopes.specs.Scopes.{Env, env_of, opened, closed}
use Rattle.scopes.specs.Kept.{at_file, is_inside, OnRefusal}
use Rattle.scopes.proofs.Outermost.{opened_at_file, opened_inside, on_refusal, on_refusal_then}
use Rattle.statement_types.specs.Statements.{beyond, beyond_optional, beyond_all}
use Rattle.statement_types.proofs.FileScope.{optional_at_file, statements_inside, statements_at_file}
use Rattle.statement_types.proofs.Rows.{statements_one_more, beyond_all-append, statement-ends, statements-end, optional-ends}
use Rattle.statement_types.proofs.statements.+check.Goals as goal

pub statements-loop-s-preserved : goal.statements-loop-s-preserved
statements-loop-s-preserved t c =
    let i = c.loop-s.s-index in
    let here : drop i c.args.all.now ≡ c.s-item.result ∷ drop (i + 1) c.args.all.now = grind (arith, common_steps) in
    record {
      goes = statements_one_more _ _ _ _ _ _ _ _ _ _ _ c.loop-s.invariant.goes here c.in_ok-v.ensures.value c.in_ok-push.ensures.items c.in_ok-v.ensures.names;
      names = c.in_ok-v.ensures.names ∙ ap (beyond (view_stmt c.in_ok-v.v)) c.loop-s.invariant.names ∙ sym (beyond_all-append _ _ c.in_ok-v.v _ c.in_ok-push.ensures.items);
    }

pub block-returns-clause-names : goal.block-returns-clause-names
block-returns-clause-names t c =
    let vs = view_stmts c.in_ok-out.out.items in
    c.close.ensures ∙ ap closed (c.in_ok-out.ensures.names ∙ ap (beyond_all vs) c.in_ok-open.ensures) ∙ statements-end c.scopes_end.ensures vs (env_of c.args.env.now)

pub inner-returns-clause-names : goal.inner-returns-clause-names
inner-returns-clause-names t c =
    let v = view_stmt c.in_ok-s.s in
    c.close.ensures ∙ ap closed (c.in_ok-s.ensures.names ∙ ap (beyond v) c.in_ok-open.ensures) ∙ statement-ends c.scopes_end.ensures v (env_of c.args.env.now)

for_seen : (i : Option (Box Stmt Global)) (e n : Option Expr) (s : Box Stmt Global) →
    view_stmt (form.For i e n s) ≡ For (view_optional i) (option_map view e) (option_map view n) (view_stmt s.value)
for_seen None e n s = search (rules, the_lemmas)
for_seen (Some i) e n s = search (rules, the_lemmas)

pub statement-returns-in_ok-s-in-For-clause-names : goal.statement-returns-in_ok-s-in-For-clause-names
statement-returns-in_ok-s-in-For-clause-names t c =
    let i = c.in_ok-i-in-For.i in
    let env = env_of c.args.env.now in
    c.close.ensures ∙
    ap closed (c.in_ok-s-in-For.ensures.names ∙ c.in_ok-i-in-For.ensures.names ∙ ap (beyond_optional (view_optional i)) c.in_ok-open-in-For.ensures) ∙
    optional-ends c.scopes_end.ensures (view_optional i) env ∙ sym (ap (λ s. beyond s env) (for_seen i c.in_ok-e-in-For.e c.in_ok-n-in-For.n c.in_ok-s-in-For.s))

-- behind the first part of a `for`
first_at_file : (o : Optional) (env started first : Env) → first ≡ beyond_optional o started → started ≡ opened env → at_file first ≡ at_file env
first_at_file o env started first e h = ap at_file (e ∙ ap (beyond_optional o) h) ∙ optional_at_file o (opened env) (opened_inside env) ∙ opened_at_file env []

pub statement-returns-in_err-e-in-For-clause-kept : goal.statement-returns-in_err-e-in-For-clause-kept
statement-returns-in_err-e-in-For-clause-kept t c =
    λ inside. on_refusal c.from_residual-in_err-e-in-For.result (first_at_file (view_optional c.in_ok-i-in-For.i) (env_of c.args.env.now) _ _ c.in_ok-i-in-For.ensures.names c.in_ok-open-in-For.ensures)

pub statement-returns-in_err-n-in-For-clause-kept : goal.statement-returns-in_err-n-in-For-clause-kept
statement-returns-in_err-n-in-For-clause-kept t c =
    λ inside. on_refusal c.from_residual-in_err-n-in-For.result (first_at_file (view_optional c.in_ok-i-in-For.i) (env_of c.args.env.now) _ _ c.in_ok-i-in-For.ensures.names c.in_ok-open-in-For.ensures)

pub statement-returns-in_err-s-in-For-clause-kept : goal.statement-returns-in_err-s-in-For-clause-kept
statement-returns-in_err-s-in-For-clause-kept t c =
    let kept : OnRefusal c.from_residual-in_err-s-in-For.result (at_file (env_of c.inner-in-For.new.env) ≡ at_file (env_of c.optional.new.env)) = search rules in
    λ inside. on_refusal_then c.from_residual-in_err-s-in-For.result (λ e. e ∙ first_at_file (view_optional c.in_ok-i-in-For.i) (env_of c.args.env.now) _ _ c.in_ok-i-in-For.ensures.names c.in_ok-open-in-For.ensures) kept

pub statements-returns-in_err-v-clause-kept : goal.statements-returns-in_err-v-clause-kept
statements-returns-in_err-v-clause-kept t c =
    let env = env_of c.args.env.now in
    let vs = view_stmts c.loop-s.out.items in
    λ inside.
    (let here : is_inside (env_of c.loop-s.env) ≡ true = subst (λ e. is_inside e ≡ true) (sym c.loop-s.invariant.names) (statements_inside vs env inside) in
    let said = c.in_err-v.ensures.kept here in
    let kept : OnRefusal c.from_residual.result (at_file (env_of c.statement.new.env) ≡ at_file (env_of c.loop-s.env)) = search (rules, said) in
    on_refusal_then c.from_residual.result (λ e. e ∙ ap at_file c.loop-s.invariant.names ∙ statements_at_file vs env inside) kept)
