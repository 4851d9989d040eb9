use Rattle.std.proofs.Common.{◌≡◌, ◌+◌, ◌++◌, None, map, option_map, take, drop}
use Rattle.c_tree.specs.View.{view, views, view_declared, view_stmt, view_stmts, view_optional}
use Rattle.address_taken.specs.Taken.{seen_all}
use Rattle.c_memory.specs.MeaningState.{then_do, pure, scoped}
use Rattle.c_memory.specs.Meaning.{condition, expression, last, values, loops, loops_after, with_step, optional_condition, optional_value}
use Rattle.c_meaning.specs.States.{seen_state}
use Rattle.c_meaning.specs.Callees.{seen_callee, calls_at}
use Rattle.c_meaning.specs.Flagged.{declare, act, sequence}
use Rattle.c_meaning.specs.Weights.{weight, weights, optional_weight, objects_weight, statement_weight, maybe_weight, statements_weight, functions_weight}
use Rattle.c_meaning.proofs.evaluation.+run.Given as goal

abbrev pub decreases-expression : goal.decreases-expression
decreases-expression g l = functions_weight (take l.n (map seen_callee l.env.now.callees.all.items)) + weight (view l.e.now)

abbrev pub decreases-unary : goal.decreases-unary
decreases-unary g l = functions_weight (take l.n (map seen_callee l.env.now.callees.all.items)) + weight (view l.a.now) + 4

abbrev pub decreases-step : goal.decreases-step
decreases-step g l = functions_weight (take l.n (map seen_callee l.env.now.callees.all.items)) + weight (view l.a.now) + 4

abbrev pub decreases-cast : goal.decreases-cast
decreases-cast g l = functions_weight (take l.n (map seen_callee l.env.now.callees.all.items)) + weight (view l.a.now) + 4

abbrev pub decreases-deref : goal.decreases-deref
decreases-deref g l = functions_weight (take l.n (map seen_callee l.env.now.callees.all.items)) + weight (view l.a.now) + 4

abbrev pub decreases-address : goal.decreases-address
decreases-address g l = functions_weight (take l.n (map seen_callee l.env.now.callees.all.items)) + weight (view l.a.now) + 4

abbrev pub decreases-binary : goal.decreases-binary
decreases-binary g l = functions_weight (take l.n (map seen_callee l.env.now.callees.all.items)) + weight (view l.a.now) + weight (view l.b.now) + 4

abbrev pub decreases-and_then : goal.decreases-and_then
decreases-and_then g l = functions_weight (take l.n (map seen_callee l.env.now.callees.all.items)) + weight (view l.a.now) + weight (view l.b.now) + 4

abbrev pub decreases-or_else : goal.decreases-or_else
decreases-or_else g l = functions_weight (take l.n (map seen_callee l.env.now.callees.all.items)) + weight (view l.a.now) + weight (view l.b.now) + 4

abbrev pub decreases-assign : goal.decreases-assign
decreases-assign g l = functions_weight (take l.n (map seen_callee l.env.now.callees.all.items)) + weight (view l.a.now) + weight (view l.b.now) + 4

abbrev pub decreases-index : goal.decreases-index
decreases-index g l = functions_weight (take l.n (map seen_callee l.env.now.callees.all.items)) + weight (view l.a.now) + weight (view l.b.now) + 4

abbrev pub decreases-pair : goal.decreases-pair
decreases-pair g l = functions_weight (take l.n (map seen_callee l.env.now.callees.all.items)) + weight (view l.a.now) + weight (view l.b.now) + 4

abbrev pub decreases-choice : goal.decreases-choice
decreases-choice g l = functions_weight (take l.n (map seen_callee l.env.now.callees.all.items)) + weight (view l.c.now) + weight (view l.a.now) + weight (view l.b.now) + 4

abbrev pub decreases-called : goal.decreases-called
decreases-called g l = functions_weight (take l.n (map seen_callee l.env.now.callees.all.items)) + weights (views l.all.now) + 4

abbrev pub decreases-value : goal.decreases-value
decreases-value g l = functions_weight (take l.n (map seen_callee l.env.now.callees.all.items)) + weight (view l.e.now) + 1

abbrev pub decreases-holds : goal.decreases-holds
decreases-holds g l = functions_weight (take l.n (map seen_callee l.env.now.callees.all.items)) + weight (view l.e.now) + 2

abbrev pub decreases-while_loop : goal.decreases-while_loop
decreases-while_loop g l = functions_weight (take l.n (map seen_callee l.env.now.callees.all.items)) + weight (view l.c.now) + statement_weight (view_stmt l.s.now) + 7

abbrev pub decreases-do_loop : goal.decreases-do_loop
decreases-do_loop g l = functions_weight (take l.n (map seen_callee l.env.now.callees.all.items)) + statement_weight (view_stmt l.s.now) + weight (view l.c.now) + 7

abbrev pub decreases-half : goal.decreases-half
decreases-half g l = functions_weight (take l.n (map seen_callee l.env.now.callees.all.items)) + weight (view l.e.now) + 2

abbrev pub decreases-target : goal.decreases-target
decreases-target g l = functions_weight (take l.n (map seen_callee l.env.now.callees.all.items)) + weight (view l.e.now)

abbrev pub decreases-last : goal.decreases-last
decreases-last g l = functions_weight (take l.n (map seen_callee l.env.now.callees.all.items)) + weights (views l.all.now) + 1

abbrev pub decreases-values : goal.decreases-values
decreases-values g l = functions_weight (take l.n (map seen_callee l.env.now.callees.all.items)) + weights (views l.all.now) + 2

abbrev pub decreases-call : goal.decreases-call
decreases-call g l = functions_weight (take l.n (map seen_callee l.env.now.callees.all.items)) + 1

abbrev pub decreases-enter : goal.decreases-enter
decreases-enter g l = functions_weight (take l.k (map seen_callee l.env.now.callees.all.items)) + statements_weight (seen_callee l.callee.now).function.body + 3

abbrev pub decreases-body : goal.decreases-body
decreases-body g l = functions_weight (take l.n (map seen_callee l.env.now.callees.all.items)) + statements_weight (seen_callee l.callee.now).function.body + 2

abbrev pub decreases-act : goal.decreases-act
decreases-act g l = functions_weight (take l.n (map seen_callee l.env.now.callees.all.items)) + statement_weight (view_stmt l.s.now)

abbrev pub decreases-optional_act : goal.decreases-optional_act
decreases-optional_act g l = functions_weight (take l.n (map seen_callee l.env.now.callees.all.items)) + maybe_weight (view_optional l.s.now) + 1

abbrev pub decreases-in_scope : goal.decreases-in_scope
decreases-in_scope g l = functions_weight (take l.n (map seen_callee l.env.now.callees.all.items)) + statement_weight (view_stmt l.s.now) + 1

abbrev pub decreases-optional_body : goal.decreases-optional_body
decreases-optional_body g l = functions_weight (take l.n (map seen_callee l.env.now.callees.all.items)) + maybe_weight (view_optional l.s.now) + 2

abbrev pub decreases-sequence : goal.decreases-sequence
decreases-sequence g l = functions_weight (take l.n (map seen_callee l.env.now.callees.all.items)) + statements_weight (view_stmts l.all.now) + 1

abbrev pub decreases-declare : goal.decreases-declare
decreases-declare g l = functions_weight (take l.n (map seen_callee l.env.now.callees.all.items)) + objects_weight (map view_declared l.all.now) + 4

abbrev pub decreases-initialise : goal.decreases-initialise
decreases-initialise g l = functions_weight (take l.n (map seen_callee l.env.now.callees.all.items)) + optional_weight (view_declared l.d.now).init + 3

abbrev pub decreases-turns : goal.decreases-turns
decreases-turns g l = functions_weight (take l.n (map seen_callee l.env.now.callees.all.items)) + weight (view l.c.now) + statement_weight (view_stmt l.s.now) + 6

abbrev pub decreases-turns_after : goal.decreases-turns_after
decreases-turns_after g l = functions_weight (take l.n (map seen_callee l.env.now.callees.all.items)) + statement_weight (view_stmt l.s.now) + weight (view l.c.now) + 6

abbrev pub decreases-turns_with : goal.decreases-turns_with
decreases-turns_with g l = functions_weight (take l.n (map seen_callee l.env.now.callees.all.items)) + optional_weight (option_map view l.c.now) + optional_weight (option_map view l.next.now) + statement_weight (view_stmt l.s.now) + 6

abbrev pub decreases-optional_holds : goal.decreases-optional_holds
decreases-optional_holds g l = functions_weight (take l.n (map seen_callee l.env.now.callees.all.items)) + optional_weight (option_map view l.c.now) + 3

abbrev pub decreases-optional_step : goal.decreases-optional_step
decreases-optional_step g l = functions_weight (take l.n (map seen_callee l.env.now.callees.all.items)) + optional_weight (option_map view l.next.now) + 1

abbrev pub invariant-last-loop-e : goal.invariant-last-loop-e
invariant-last-loop-e g l =
    let c = calls_at l.env.tables g.R.Rows.row_call l.env.callees.all.items l.n in
    last None (views l.all) c (seen_state l.initial.state) ≡ last l.v (views (drop l.e-index l.all)) c (seen_state l.state)

abbrev pub invariant-values-loop-e : goal.invariant-values-loop-e
invariant-values-loop-e g l =
    let c = calls_at l.env.tables g.R.Rows.row_call l.env.callees.all.items l.n in
    values (views l.all) c (seen_state l.initial.state) ≡ then_do (values (views (drop l.e-index l.all)) c (seen_state l.state)) (λ vs. pure (l.given.items ++ vs))

abbrev pub invariant-sequence-loop-s : goal.invariant-sequence-loop-s
invariant-sequence-loop-s g l =
    let c = calls_at l.env.tables g.R.Rows.row_call l.env.callees.all.items l.n in
    sequence (view_stmts l.all) (seen_all l.initial.left) c (seen_state l.initial.state) ≡ sequence (view_stmts (drop l.s-index l.all)) (seen_all l.left) c (seen_state l.state)

abbrev pub invariant-declare-loop-d : goal.invariant-declare-loop-d
invariant-declare-loop-d g l =
    let c = calls_at l.env.tables g.R.Rows.row_call l.env.callees.all.items l.n in
    declare (map view_declared l.all) l.initial.left c (seen_state l.initial.state) ≡ declare (map view_declared (drop l.d-index l.all)) l.left c (seen_state l.state)

abbrev pub invariant-turns-loop-v : goal.invariant-turns-loop-v
invariant-turns-loop-v g l =
    let c = calls_at l.env.tables g.R.Rows.row_call l.env.callees.all.items l.n in
    let test = condition (expression (view l.c) c) in
    let body = scoped (act (view_stmt l.s) (seen_all l.taken) c) in
    loops l.initial.most test body (seen_state l.initial.state) ≡ loops l.most test body (seen_state l.state)

abbrev pub decreases-turns-loop-v : goal.decreases-turns-loop-v
decreases-turns-loop-v g l = l.most

abbrev pub invariant-turns_after-loop-most : goal.invariant-turns_after-loop-most
invariant-turns_after-loop-most g l =
    let c = calls_at l.env.tables g.R.Rows.row_call l.env.callees.all.items l.n in
    let test = condition (expression (view l.c) c) in
    let body = scoped (act (view_stmt l.s) (seen_all l.taken) c) in
    loops_after l.initial.most test body (seen_state l.initial.state) ≡ loops_after l.most test body (seen_state l.state)

abbrev pub decreases-turns_after-loop-most : goal.decreases-turns_after-loop-most
decreases-turns_after-loop-most g l = l.most

abbrev pub invariant-turns_with-loop-v : goal.invariant-turns_with-loop-v
invariant-turns_with-loop-v g l =
    let c = calls_at l.env.tables g.R.Rows.row_call l.env.callees.all.items l.n in
    let test = optional_condition (option_map view l.c) c in
    let body = with_step (scoped (act (view_stmt l.s) (seen_all l.taken) c)) (optional_value (option_map view l.next) c) in
    loops l.initial.most test body (seen_state l.initial.state) ≡ loops l.most test body (seen_state l.state)

abbrev pub decreases-turns_with-loop-v : goal.decreases-turns_with-loop-v
decreases-turns_with-loop-v g l = l.most
