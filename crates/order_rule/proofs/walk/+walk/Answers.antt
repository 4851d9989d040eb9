use Rattle.std.proofs.Common.{◌≡◌, ◌∙◌, IfOk, sym, ap, subst}
use Rattle.c_tree.specs.Tree.{If}
use Rattle.c_tree.specs.View.{view, view_stmt, view_stmts, view_optional}
use Rattle.order_rule.specs.Callees.{callees_of}
use Rattle.address_taken.specs.Taken.{seen_all}
use Rattle.order_rule.specs.Memory.{env_of, opened, closed}
use Rattle.order_rule.specs.Full.{inner, behind, beyond, beyond_optional, beyond_all, full_statement, full_statements, noted_all, found}
use Rattle.order_rule.proofs.Scopes.{statement-ends, statements-end, optional-ends}
use Rattle.order_rule.proofs.Noted.{block_seen, if_seen, for_seen, if_found}
use Rattle.order_rule.proofs.walk.+walk.Goals as goal

pub block-returns-clause-names : goal.block-returns-clause-names
block-returns-clause-names t c =
    let ss = view_stmts c.args.all.now in
    let ts = seen_all c.args.parts.now in
    c.close.ensures ∙ ap closed (c.in_ok-now.ensures.names ∙ ap (beyond_all ss ts) c.in_ok-open.ensures) ∙ statements-end ss ts (env_of c.args.memory.now)

pub in_scope-returns-clause-names : goal.in_scope-returns-clause-names
in_scope-returns-clause-names t c =
    let s = view_stmt c.args.s.now in
    let ts = seen_all c.args.parts.now in
    c.close.ensures ∙ ap closed (c.in_ok-now.ensures.names ∙ ap (beyond s ts) c.in_ok-open.ensures) ∙ statement-ends s ts (env_of c.args.memory.now)

pub statement-returns-in-Block-clause-found : goal.statement-returns-in-Block-clause-found
statement-returns-in-Block-clause-found t c = λ more.
    let callees = callees_of c.args.callees.now in
    let ts = seen_all c.args.parts.now in
    let env = env_of c.args.memory.now in
    let f = found c.args.before in
    let whole : noted_all callees (full_statement (view_stmt c.args.s.now) ts env more) f ≡ noted_all callees (full_statements (view_stmts c.as_slice-in-Block.result.now) (seen_all c.inner.result.now) (opened env) more) f =
    ap (λ s. noted_all callees (full_statement (view_stmt s) ts env more) f) c.in-Block.is ∙ ap (λ s. noted_all callees (full_statement s ts env more) f) (block_seen c.in-Block.all) ∙
    ap (λ l. noted_all callees (full_statements (view_stmts l) (inner ts) (opened env) more) f) (sym c.as_slice-in-Block.ensures.value) ∙
    ap (λ i. noted_all callees (full_statements (view_stmts c.as_slice-in-Block.result.now) i (opened env) more) f) (sym c.inner.ensures) in
    subst (λ n. IfOk c.block.result (λ g. n ≡ noted_all callees more (found g))) (sym whole) (c.block.ensures.found more)

pub statement-returns-in_ok-now-in-If-2-clause-found : goal.statement-returns-in_ok-now-in-If-2-clause-found
statement-returns-in_ok-now-in-If-2-clause-found t c = λ more.
    let callees = callees_of c.args.callees.now in
    let ts = seen_all c.args.parts.now in
    let env = env_of c.args.memory.now in
    let f = found c.args.before in
    let whole =
    ap (λ s. noted_all callees (full_statement (view_stmt s) ts env more) f) c.in-If.is ∙ ap (λ s. noted_all callees (full_statement s ts env more) f) (if_seen c.in-If.c c.in-If.s c.in-If.other) ∙
    ap (λ s. noted_all callees (full_statement (If (view c.in-If.c) (view_stmt s) (view_optional c.in-If.other)) ts env more) f) (sym c.deref.ensures) ∙
    if_found callees (view c.in-If.c) (view_stmt c.deref.result.now) (view_optional c.in-If.other) ts (seen_all c.inner-in-If.result.now) (seen_all c.behind.result.now) env (env_of c.in_scope.new.memory) more f
    (found c.in_ok-now-in-If.now) (found c.in_ok-now-in-If-2.now) c.inner-in-If.ensures (c.behind.ensures ∙ ap behind c.inner-in-If-2.ensures) c.in_ok-now-in-If.ensures c.in_ok-now-in-If-2.ensures.found c.in_ok-now-in-If-2.ensures.names in
    subst (λ n. IfOk c.optional_in_scope.result (λ g. n ≡ noted_all callees more (found g))) (sym whole) (c.optional_in_scope.ensures.found more)

pub statement-returns-in_ok-now-in-For-4-clause-names : goal.statement-returns-in_ok-now-in-For-4-clause-names
statement-returns-in_ok-now-in-For-4-clause-names t c =
    let i = view_optional c.in-For.i in
    let its = seen_all c.inner-in-For.result.now in
    let ts = seen_all c.args.parts.now in
    let env = env_of c.args.memory.now in
    c.close.ensures ∙ ap closed (c.in_ok-now-in-For-4.ensures.names ∙ c.in_ok-now-in-For.ensures.names ∙ ap (beyond_optional i its) c.in_ok-open-in-For.ensures) ∙ optional-ends i its env ∙
    sym (ap (λ s. beyond (view_stmt s) ts env) c.in-For.is ∙ ap (λ s. beyond s ts env) (for_seen c.in-For.i c.in-For.c c.in-For.n c.in-For.s))
