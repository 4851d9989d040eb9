use Rattle.std.proofs.Common.{◌≡◌, true, option_map, rules, ap, sym, ◌∙◌, arith, refl, inl}
use Rattle.std.proofs.lemmas.Grind.{common_steps}
use Rattle.c_tree.specs.declared.statements.Stmt as code
use Rattle.c_tree.specs.declared.statements.Stmt.{Stmt, fold-roll-Stmt}
use Rattle.c_tree.specs.declared.statements.Stmt.TheVariants.{rolls-While, rolls-DoWhile}
use Rattle.c_tree.specs.declared.statements.Stmt.TheOpen.{Stmt-F}
use Rattle.c_tree.specs.Tree.{Statement, While, DoWhile}
use Rattle.c_tree.specs.View.{view, view_declared, view_stmt, stmt_step}
use Rattle.address_taken.specs.Taken.{seen_all}
use Rattle.c_memory.specs.MeaningState.{scoped}
use Rattle.c_memory.specs.Meaning.{condition, expression, loops, loops_after, with_step, optional_condition, optional_value}
use Rattle.c_meaning.specs.States.{seen_state}
use Rattle.c_meaning.specs.Callees.{calls_at}
use Rattle.c_meaning.specs.Flagged.{parts_of, act}
use Rattle.c_meaning.specs.Weights.{weight, optional_weight, statement_weight}
use Rattle.c_meaning.proofs.Callees.{call_enters, call_of_no_function, weight_falls}
use Rattle.c_meaning.proofs.Turns.{weights_at, objects_weight_at, statements_weight_at, loop_turn, loop_fails, loop_ends, loop_spends, loop_enters, after_turn, after_spends, after_enters, after_tests, steps, step_done, values_more, declare_starts, declare_more}
use Rattle.c_meaning.proofs.evaluation.+run.Goals as goal

pub last-expression-requires : goal.last-expression-requires
last-expression-requires g t c κs within =
    (omega (arith, c.decreases, weights_at c.args.all.now c.loop-e.e-index c.e-item.result c.loop-e-test.true, ap (λ x. weight (view x)) c.e-item.is), search (rules, within))

pub values-value-requires : goal.values-value-requires
values-value-requires g t c κs within =
    (omega (arith, c.decreases, weights_at c.args.all.now c.loop-e.e-index c.e-item.result c.loop-e-test.true, ap (λ x. weight (view x)) c.e-item.is), search (rules, within))

pub sequence-act-requires : goal.sequence-act-requires
sequence-act-requires g t c κs within =
    (omega (arith, c.decreases, statements_weight_at c.args.all.now c.loop-s.s-index c.s-item.result c.loop-s-test.true, ap (λ x. statement_weight (view_stmt x)) c.s-item.is), search (rules, within))

pub declare-initialise-requires : goal.declare-initialise-requires
declare-initialise-requires g t c κs within =
    (omega (arith, c.decreases, objects_weight_at c.args.all.now c.loop-d.d-index c.d-item.result c.loop-d-test.true, ap (λ x. optional_weight (view_declared x).init) c.d-item.is), search (rules, within))

pub call-enter-requires : goal.call-enter-requires
call-enter-requires g t c κs within =
    (omega (arith, c.decreases, weight_falls c.args.env.now.callees.all.items c.args.n c.in-Some.k c.index-callee.result.now c.in-Some.ensures.before c.in-Some.ensures.within c.index-callee.ensures), search (rules, within))

pub call-returns-in-None : goal.call-returns-in-None
call-returns-in-None g t c =
    rw (call_of_no_function c.args.env.now.tables g.R.Rows.row_call c.args.env.now.callees.all.items c.args.n c.args.name.now c.args.given.now (seen_state c.args.state.now) c.in-None.ensures.none) c.call.ensures

pub call-returns-in_err-spend_for-in-Some : goal.call-returns-in_err-spend_for-in-Some
call-returns-in_err-spend_for-in-Some g t c =
    rw (call_enters c.args.env.now.tables g.R.Rows.row_call c.args.env.now.callees.all.items c.args.n c.in-Some.k c.index-callee.result.now c.args.name.now c.args.given.now (seen_state c.args.state.now) c.in-Some.ensures.before c.in-Some.ensures.last c.index-callee.ensures) (search (rules, common_steps))

pub call-returns-in_ok-spend_for-in-Some : goal.call-returns-in_ok-spend_for-in-Some
call-returns-in_ok-spend_for-in-Some g t c =
    rw (call_enters c.args.env.now.tables g.R.Rows.row_call c.args.env.now.callees.all.items c.args.n c.in-Some.k c.index-callee.result.now c.args.name.now c.args.given.now (seen_state c.args.state.now) c.in-Some.ensures.before c.in-Some.ensures.last c.index-callee.ensures, c.in_ok-spend_for-in-Some.ensures) c.enter.ensures

pub initialise-returns-in-None : goal.initialise-returns-in-None
initialise-returns-in-None g t c =
    rw c.in-None.is (c.first_list.ensures (calls_at c.args.env.now.tables g.R.Rows.row_call c.args.env.now.callees.all.items c.args.n))

pub body-returns-in_err-flow : goal.body-returns-in_err-flow
body-returns-in_err-flow g t c =
    let done = rw (c.as_slice.ensures.value, c.as_slice-2.ensures.value) at c.in_ok-begin_parameters.ensures in
    let ran = rw (c.as_slice-3.ensures.value, c.as_slice-4.ensures.value) at c.sequence.ensures in
    rw done (search (rules, common_steps, ran))

pub body-returns : goal.body-returns
body-returns g t c =
    let done = rw (c.as_slice.ensures.value, c.as_slice-2.ensures.value) at c.in_ok-begin_parameters.ensures in
    let ran = rw (c.as_slice-3.ensures.value, c.as_slice-4.ensures.value) at c.in_ok-flow.ensures in
    rw (done, ran) c.given.ensures

pub turns-returns-in_err-v : goal.turns-returns-in_err-v
turns-returns-in_err-v g t c =
    rw (c.loop-v.invariant, loop_fails c.loop-v.most (condition (expression (view c.args.c.now) (calls_at c.args.env.now.tables g.R.Rows.row_call c.args.env.now.callees.all.items c.args.n))) (scoped (act (view_stmt c.args.s.now) (seen_all c.args.taken.now) (calls_at c.args.env.now.tables g.R.Rows.row_call c.args.env.now.callees.all.items c.args.n))) (seen_state c.loop-v.state) _ refl) (search (rules, common_steps))

pub turns-returns-in_err-spend : goal.turns-returns-in_err-spend
turns-returns-in_err-spend g t c =
    rw (c.loop-v.invariant ∙ loop_spends c.loop-v.most (condition (expression (view c.args.c.now) (calls_at c.args.env.now.tables g.R.Rows.row_call c.args.env.now.callees.all.items c.args.n))) (scoped (act (view_stmt c.args.s.now) (seen_all c.args.taken.now) (calls_at c.args.env.now.tables g.R.Rows.row_call c.args.env.now.callees.all.items c.args.n))) (seen_state c.loop-v.state) _ _ (omega arith) c.in_ok-v.ensures c.if-not-v.false) (search (rules, common_steps))

pub turns-returns-in_err-in_scope : goal.turns-returns-in_err-in_scope
turns-returns-in_err-in_scope g t c =
    rw (c.loop-v.invariant ∙ loop_enters c.loop-v.most (condition (expression (view c.args.c.now) (calls_at c.args.env.now.tables g.R.Rows.row_call c.args.env.now.callees.all.items c.args.n))) (scoped (act (view_stmt c.args.s.now) (seen_all c.args.taken.now) (calls_at c.args.env.now.tables g.R.Rows.row_call c.args.env.now.callees.all.items c.args.n))) (seen_state c.loop-v.state) _ _ _ _ (omega arith) c.in_ok-v.ensures c.if-not-v.false c.in_ok-spend.ensures) (search (rules, common_steps))

pub turns-returns-in-Broke : goal.turns-returns-in-Broke
turns-returns-in-Broke g t c =
    rw (c.loop-v.invariant ∙ loop_enters c.loop-v.most (condition (expression (view c.args.c.now) (calls_at c.args.env.now.tables g.R.Rows.row_call c.args.env.now.callees.all.items c.args.n))) (scoped (act (view_stmt c.args.s.now) (seen_all c.args.taken.now) (calls_at c.args.env.now.tables g.R.Rows.row_call c.args.env.now.callees.all.items c.args.n))) (seen_state c.loop-v.state) _ _ _ _ (omega arith) c.in_ok-v.ensures c.if-not-v.false c.in_ok-spend.ensures) (search (rules, common_steps))

pub turns-returns-in-Returned : goal.turns-returns-in-Returned
turns-returns-in-Returned g t c =
    rw (c.loop-v.invariant ∙ loop_enters c.loop-v.most (condition (expression (view c.args.c.now) (calls_at c.args.env.now.tables g.R.Rows.row_call c.args.env.now.callees.all.items c.args.n))) (scoped (act (view_stmt c.args.s.now) (seen_all c.args.taken.now) (calls_at c.args.env.now.tables g.R.Rows.row_call c.args.env.now.callees.all.items c.args.n))) (seen_state c.loop-v.state) _ _ _ _ (omega arith) c.in_ok-v.ensures c.if-not-v.false c.in_ok-spend.ensures) (search (rules, common_steps))

pub turns-loop-v-preserved : goal.turns-loop-v-preserved
turns-loop-v-preserved g t c =
    c.loop-v.invariant ∙ loop_turn c.loop-v.most (condition (expression (view c.args.c.now) (calls_at c.args.env.now.tables g.R.Rows.row_call c.args.env.now.callees.all.items c.args.n))) (scoped (act (view_stmt c.args.s.now) (seen_all c.args.taken.now) (calls_at c.args.env.now.tables g.R.Rows.row_call c.args.env.now.callees.all.items c.args.n))) (seen_state c.loop-v.state) _ _ _ _ _ _ (omega arith) c.in_ok-v.ensures c.if-not-v.false c.in_ok-spend.ensures c.in_ok-in_scope.ensures c.in-Next.is

pub turns_with-returns-in_err-v : goal.turns_with-returns-in_err-v
turns_with-returns-in_err-v g t c =
    rw (c.loop-v.invariant, loop_fails c.loop-v.most (optional_condition (option_map view c.args.c.now) (calls_at c.args.env.now.tables g.R.Rows.row_call c.args.env.now.callees.all.items c.args.n)) (with_step (scoped (act (view_stmt c.args.s.now) (seen_all c.args.taken.now) (calls_at c.args.env.now.tables g.R.Rows.row_call c.args.env.now.callees.all.items c.args.n))) (optional_value (option_map view c.args.next.now) (calls_at c.args.env.now.tables g.R.Rows.row_call c.args.env.now.callees.all.items c.args.n))) (seen_state c.loop-v.state) _ refl) (search (rules, common_steps))

pub turns_with-returns-then-not-v : goal.turns_with-returns-then-not-v
turns_with-returns-then-not-v g t c =
    c.loop-v.invariant ∙ loop_ends c.loop-v.most (optional_condition (option_map view c.args.c.now) (calls_at c.args.env.now.tables g.R.Rows.row_call c.args.env.now.callees.all.items c.args.n)) (with_step (scoped (act (view_stmt c.args.s.now) (seen_all c.args.taken.now) (calls_at c.args.env.now.tables g.R.Rows.row_call c.args.env.now.callees.all.items c.args.n))) (optional_value (option_map view c.args.next.now) (calls_at c.args.env.now.tables g.R.Rows.row_call c.args.env.now.callees.all.items c.args.n))) (seen_state c.loop-v.state) _ _ c.in_ok-v.ensures c.if-not-v.true

pub turns_with-returns-in_err-spend : goal.turns_with-returns-in_err-spend
turns_with-returns-in_err-spend g t c =
    rw (c.loop-v.invariant ∙ loop_spends c.loop-v.most (optional_condition (option_map view c.args.c.now) (calls_at c.args.env.now.tables g.R.Rows.row_call c.args.env.now.callees.all.items c.args.n)) (with_step (scoped (act (view_stmt c.args.s.now) (seen_all c.args.taken.now) (calls_at c.args.env.now.tables g.R.Rows.row_call c.args.env.now.callees.all.items c.args.n))) (optional_value (option_map view c.args.next.now) (calls_at c.args.env.now.tables g.R.Rows.row_call c.args.env.now.callees.all.items c.args.n))) (seen_state c.loop-v.state) _ _ (omega arith) c.in_ok-v.ensures c.if-not-v.false) (search (rules, common_steps))

pub turns_with-returns-in_err-in_scope : goal.turns_with-returns-in_err-in_scope
turns_with-returns-in_err-in_scope g t c =
    rw (c.loop-v.invariant ∙ loop_enters c.loop-v.most (optional_condition (option_map view c.args.c.now) (calls_at c.args.env.now.tables g.R.Rows.row_call c.args.env.now.callees.all.items c.args.n)) (with_step (scoped (act (view_stmt c.args.s.now) (seen_all c.args.taken.now) (calls_at c.args.env.now.tables g.R.Rows.row_call c.args.env.now.callees.all.items c.args.n))) (optional_value (option_map view c.args.next.now) (calls_at c.args.env.now.tables g.R.Rows.row_call c.args.env.now.callees.all.items c.args.n))) (seen_state c.loop-v.state) _ _ _ _ (omega arith) c.in_ok-v.ensures c.if-not-v.false c.in_ok-spend.ensures) (search (rules, common_steps))

pub turns_with-returns-in-Broke : goal.turns_with-returns-in-Broke
turns_with-returns-in-Broke g t c =
    rw (c.loop-v.invariant ∙ loop_enters c.loop-v.most (optional_condition (option_map view c.args.c.now) (calls_at c.args.env.now.tables g.R.Rows.row_call c.args.env.now.callees.all.items c.args.n)) (with_step (scoped (act (view_stmt c.args.s.now) (seen_all c.args.taken.now) (calls_at c.args.env.now.tables g.R.Rows.row_call c.args.env.now.callees.all.items c.args.n))) (optional_value (option_map view c.args.next.now) (calls_at c.args.env.now.tables g.R.Rows.row_call c.args.env.now.callees.all.items c.args.n))) (seen_state c.loop-v.state) _ _ _ _ (omega arith) c.in_ok-v.ensures c.if-not-v.false c.in_ok-spend.ensures) (search (rules, common_steps))

pub turns_with-returns-in-Returned : goal.turns_with-returns-in-Returned
turns_with-returns-in-Returned g t c =
    rw (c.loop-v.invariant ∙ loop_enters c.loop-v.most (optional_condition (option_map view c.args.c.now) (calls_at c.args.env.now.tables g.R.Rows.row_call c.args.env.now.callees.all.items c.args.n)) (with_step (scoped (act (view_stmt c.args.s.now) (seen_all c.args.taken.now) (calls_at c.args.env.now.tables g.R.Rows.row_call c.args.env.now.callees.all.items c.args.n))) (optional_value (option_map view c.args.next.now) (calls_at c.args.env.now.tables g.R.Rows.row_call c.args.env.now.callees.all.items c.args.n))) (seen_state c.loop-v.state) _ _ _ _ (omega arith) c.in_ok-v.ensures c.if-not-v.false c.in_ok-spend.ensures) (search (rules, common_steps))

pub turns_with-returns-in_err-optional_step : goal.turns_with-returns-in_err-optional_step
turns_with-returns-in_err-optional_step g t c =
    rw (c.loop-v.invariant ∙ loop_enters c.loop-v.most (optional_condition (option_map view c.args.c.now) (calls_at c.args.env.now.tables g.R.Rows.row_call c.args.env.now.callees.all.items c.args.n)) (with_step (scoped (act (view_stmt c.args.s.now) (seen_all c.args.taken.now) (calls_at c.args.env.now.tables g.R.Rows.row_call c.args.env.now.callees.all.items c.args.n))) (optional_value (option_map view c.args.next.now) (calls_at c.args.env.now.tables g.R.Rows.row_call c.args.env.now.callees.all.items c.args.n))) (seen_state c.loop-v.state) _ _ _ _ (omega arith) c.in_ok-v.ensures c.if-not-v.false c.in_ok-spend.ensures, steps (scoped (act (view_stmt c.args.s.now) (seen_all c.args.taken.now) (calls_at c.args.env.now.tables g.R.Rows.row_call c.args.env.now.callees.all.items c.args.n))) (optional_value (option_map view c.args.next.now) (calls_at c.args.env.now.tables g.R.Rows.row_call c.args.env.now.callees.all.items c.args.n)) (seen_state c.spend.new.self) _ _ c.in_ok-in_scope.ensures c.in-Next.is) (search (rules, common_steps))

pub turns_with-loop-v-preserved : goal.turns_with-loop-v-preserved
turns_with-loop-v-preserved g t c =
    c.loop-v.invariant ∙ loop_turn c.loop-v.most (optional_condition (option_map view c.args.c.now) (calls_at c.args.env.now.tables g.R.Rows.row_call c.args.env.now.callees.all.items c.args.n)) (with_step (scoped (act (view_stmt c.args.s.now) (seen_all c.args.taken.now) (calls_at c.args.env.now.tables g.R.Rows.row_call c.args.env.now.callees.all.items c.args.n))) (optional_value (option_map view c.args.next.now) (calls_at c.args.env.now.tables g.R.Rows.row_call c.args.env.now.callees.all.items c.args.n))) (seen_state c.loop-v.state) _ _ _ _ _ _ (omega arith) c.in_ok-v.ensures c.if-not-v.false c.in_ok-spend.ensures (step_done (scoped (act (view_stmt c.args.s.now) (seen_all c.args.taken.now) (calls_at c.args.env.now.tables g.R.Rows.row_call c.args.env.now.callees.all.items c.args.n))) (optional_value (option_map view c.args.next.now) (calls_at c.args.env.now.tables g.R.Rows.row_call c.args.env.now.callees.all.items c.args.n)) (seen_state c.spend.new.self) _ _ _ _ c.in_ok-in_scope.ensures c.in-Next.is c.in_ok-optional_step.ensures) (inl refl)

pub turns_after-returns-in_err-spend : goal.turns_after-returns-in_err-spend
turns_after-returns-in_err-spend g t c =
    rw (c.loop-most.invariant ∙ after_spends c.loop-most.most (condition (expression (view c.args.c.now) (calls_at c.args.env.now.tables g.R.Rows.row_call c.args.env.now.callees.all.items c.args.n))) (scoped (act (view_stmt c.args.s.now) (seen_all c.args.taken.now) (calls_at c.args.env.now.tables g.R.Rows.row_call c.args.env.now.callees.all.items c.args.n))) (seen_state c.loop-most.state) (omega arith)) (search (rules, common_steps))

pub turns_after-returns-in_err-in_scope : goal.turns_after-returns-in_err-in_scope
turns_after-returns-in_err-in_scope g t c =
    rw (c.loop-most.invariant ∙ after_enters c.loop-most.most (condition (expression (view c.args.c.now) (calls_at c.args.env.now.tables g.R.Rows.row_call c.args.env.now.callees.all.items c.args.n))) (scoped (act (view_stmt c.args.s.now) (seen_all c.args.taken.now) (calls_at c.args.env.now.tables g.R.Rows.row_call c.args.env.now.callees.all.items c.args.n))) (seen_state c.loop-most.state) _ _ (omega arith) c.in_ok-spend.ensures) (search (rules, common_steps))

pub turns_after-returns-in-Broke : goal.turns_after-returns-in-Broke
turns_after-returns-in-Broke g t c =
    rw (c.loop-most.invariant ∙ after_enters c.loop-most.most (condition (expression (view c.args.c.now) (calls_at c.args.env.now.tables g.R.Rows.row_call c.args.env.now.callees.all.items c.args.n))) (scoped (act (view_stmt c.args.s.now) (seen_all c.args.taken.now) (calls_at c.args.env.now.tables g.R.Rows.row_call c.args.env.now.callees.all.items c.args.n))) (seen_state c.loop-most.state) _ _ (omega arith) c.in_ok-spend.ensures) (search (rules, common_steps))

pub turns_after-returns-in-Returned : goal.turns_after-returns-in-Returned
turns_after-returns-in-Returned g t c =
    rw (c.loop-most.invariant ∙ after_enters c.loop-most.most (condition (expression (view c.args.c.now) (calls_at c.args.env.now.tables g.R.Rows.row_call c.args.env.now.callees.all.items c.args.n))) (scoped (act (view_stmt c.args.s.now) (seen_all c.args.taken.now) (calls_at c.args.env.now.tables g.R.Rows.row_call c.args.env.now.callees.all.items c.args.n))) (seen_state c.loop-most.state) _ _ (omega arith) c.in_ok-spend.ensures) (search (rules, common_steps))

pub turns_after-returns-in_err-v : goal.turns_after-returns-in_err-v
turns_after-returns-in_err-v g t c =
    rw (c.loop-most.invariant ∙ after_tests c.loop-most.most (condition (expression (view c.args.c.now) (calls_at c.args.env.now.tables g.R.Rows.row_call c.args.env.now.callees.all.items c.args.n))) (scoped (act (view_stmt c.args.s.now) (seen_all c.args.taken.now) (calls_at c.args.env.now.tables g.R.Rows.row_call c.args.env.now.callees.all.items c.args.n))) (seen_state c.loop-most.state) _ _ _ _ (omega arith) c.in_ok-spend.ensures c.in_ok-in_scope.ensures c.in-Next.is) (search (rules, common_steps))

pub turns_after-returns-then-not-v : goal.turns_after-returns-then-not-v
turns_after-returns-then-not-v g t c =
    rw (c.loop-most.invariant ∙ after_tests c.loop-most.most (condition (expression (view c.args.c.now) (calls_at c.args.env.now.tables g.R.Rows.row_call c.args.env.now.callees.all.items c.args.n))) (scoped (act (view_stmt c.args.s.now) (seen_all c.args.taken.now) (calls_at c.args.env.now.tables g.R.Rows.row_call c.args.env.now.callees.all.items c.args.n))) (seen_state c.loop-most.state) _ _ _ _ (omega arith) c.in_ok-spend.ensures c.in_ok-in_scope.ensures c.in-Next.is) (search (rules, common_steps))

pub turns_after-loop-most-preserved : goal.turns_after-loop-most-preserved
turns_after-loop-most-preserved g t c =
    c.loop-most.invariant ∙ after_turn c.loop-most.most (condition (expression (view c.args.c.now) (calls_at c.args.env.now.tables g.R.Rows.row_call c.args.env.now.callees.all.items c.args.n))) (scoped (act (view_stmt c.args.s.now) (seen_all c.args.taken.now) (calls_at c.args.env.now.tables g.R.Rows.row_call c.args.env.now.callees.all.items c.args.n))) (seen_state c.loop-most.state) _ _ _ _ _ _ (omega arith) c.in_ok-spend.ensures c.in_ok-in_scope.ensures c.in-Next.is c.in_ok-v.ensures c.if-not-v.false

pub values-loop-e-preserved : goal.values-loop-e-preserved
values-loop-e-preserved g t c =
    c.loop-e.invariant ∙ values_more (calls_at c.args.env.now.tables g.R.Rows.row_call c.args.env.now.callees.all.items c.args.n) c.args.all.now c.loop-e.e-index c.e-item.result (seen_state c.loop-e.state) _ c.loop-e.given.items _ _ c.loop-e-test.true c.e-item.is c.in_ok-v.ensures c.in_ok-push.ensures

pub declare-returns-in_err-initialise : goal.declare-returns-in_err-initialise
declare-returns-in_err-initialise g t c =
    rw (c.loop-d.invariant ∙ declare_starts (calls_at c.args.env.now.tables g.R.Rows.row_call c.args.env.now.callees.all.items c.args.n) c.args.all.now c.loop-d.d-index c.d-item.result c.loop-d.left.now c.first_flag.result c.is_block.result (seen_state c.loop-d.state) (seen_state c.begin_object.new.self) _ c.loop-d-test.true c.d-item.is c.first_flag.ensures c.is_block.ensures c.in_ok-begin_object.ensures) (search (rules, common_steps))

pub declare-loop-d-preserved : goal.declare-loop-d-preserved
declare-loop-d-preserved g t c =
    c.loop-d.invariant ∙ declare_more (calls_at c.args.env.now.tables g.R.Rows.row_call c.args.env.now.callees.all.items c.args.n) c.args.all.now c.loop-d.d-index c.d-item.result c.loop-d.left.now c.other_flags-left.result.now c.first_flag.result c.is_block.result (seen_state c.loop-d.state) (seen_state c.begin_object.new.self) _ _ _ c.loop-d-test.true c.d-item.is c.first_flag.ensures c.is_block.ensures c.in_ok-begin_object.ensures c.in_ok-initialise.ensures c.other_flags-left.ensures

pub while_loop-returns : goal.while_loop-returns
while_loop-returns g t c = rw c.parts_of.ensures at c.turns.ensures

pub do_loop-returns : goal.do_loop-returns
do_loop-returns g t c = rw c.parts_of.ensures at c.turns_after.ensures

pub act-returns-in-While : goal.act-returns-in-While
act-returns-in-While g t c =
    let calls = calls_at c.args.env.now.tables g.R.Rows.row_call c.args.env.now.callees.all.items c.args.n in
    let trees = seen_all c.args.taken.now in
    let here = seen_state c.args.state.now in
    let rolled : view_stmt (code.While c.in-While.c c.in-While.s) ≡ While (view c.in-While.c) (view_stmt c.in-While.s.value) = ap view_stmt (sym (rolls-While c.in-While.c c.in-While.s)) ∙ fold-roll-Stmt Statement stmt_step (Stmt-F.While c.in-While.c c.in-While.s) in
    let same : act (view_stmt c.args.s.now) trees calls here ≡ loops c.args.state.now.left (condition (expression (view c.in-While.c) calls)) (scoped (act (view_stmt c.deref-in-While.result.now) (parts_of trees) calls)) here =
    ap (λ (x : Stmt). act (view_stmt x) trees calls here) c.in-While.is ∙ ap (λ x. act x trees calls here) rolled ∙ ap (λ (x : Stmt). loops c.args.state.now.left (condition (expression (view c.in-While.c) calls)) (scoped (act (view_stmt x) (parts_of trees) calls)) here) (sym c.deref-in-While.ensures) in
    rw same c.while_loop.ensures

pub act-returns-in-DoWhile : goal.act-returns-in-DoWhile
act-returns-in-DoWhile g t c =
    let calls = calls_at c.args.env.now.tables g.R.Rows.row_call c.args.env.now.callees.all.items c.args.n in
    let trees = seen_all c.args.taken.now in
    let here = seen_state c.args.state.now in
    let rolled : view_stmt (code.DoWhile c.in-DoWhile.s c.in-DoWhile.c) ≡ DoWhile (view_stmt c.in-DoWhile.s.value) (view c.in-DoWhile.c) = ap view_stmt (sym (rolls-DoWhile c.in-DoWhile.s c.in-DoWhile.c)) ∙ fold-roll-Stmt Statement stmt_step (Stmt-F.DoWhile c.in-DoWhile.s c.in-DoWhile.c) in
    let same : act (view_stmt c.args.s.now) trees calls here ≡ loops_after c.args.state.now.left (condition (expression (view c.in-DoWhile.c) calls)) (scoped (act (view_stmt c.deref-in-DoWhile.result.now) (parts_of trees) calls)) here =
    ap (λ (x : Stmt). act (view_stmt x) trees calls here) c.in-DoWhile.is ∙ ap (λ x. act x trees calls here) rolled ∙ ap (λ (x : Stmt). loops_after c.args.state.now.left (condition (expression (view c.in-DoWhile.c) calls)) (scoped (act (view_stmt x) (parts_of trees) calls)) here) (sym c.deref-in-DoWhile.ensures) in
    rw same c.do_loop.ensures
