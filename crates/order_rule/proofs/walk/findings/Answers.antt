use mathlib.Core.Path.{fun_ext}
use Rattle.std.proofs.Common.{◌∙◌, [], map, sym, ap}
use Rattle.c_tree.specs.View.{view_declared, view_function, view_stmts}
use Rattle.order_rule.specs.Callees.{callees_of}
use Rattle.address_taken.specs.Taken.{FunctionTaken, seen_all}
use Rattle.order_rule.specs.Memory.{begun, outset}
use Rattle.order_rule.specs.Full.{with_objects, entered, full_statements, noted_all, nothing}
use Rattle.order_rule.proofs.Noted.{if_ok}
use Rattle.order_rule.proofs.walk.findings.Goals as goal

pub returns : goal.returns
returns c =
    let callees = callees_of c.args.callees.now in
    let f = view_function c.args.function.now in
    let params = ap (with_objects (map view_declared c.as_slice.result.now) c.as_slice-2.result.now) (c.new-memory.ensures ∙ ap begun (fun_ext c.in_ok-taken.ensures.outside)) ∙
    ap (λ l. with_objects (map view_declared l) c.as_slice-2.result.now (outset f.body)) c.as_slice.ensures.value ∙
    ap (λ taken. with_objects f.params taken (outset f.body)) (c.as_slice-2.ensures.value ∙ ap (λ (t : FunctionTaken). t.params) c.in_ok-taken.ensures.answer) in
    let same = ap (λ env. noted_all callees (full_statements (view_stmts c.as_slice-body.result.now) (seen_all c.as_slice-3.result.now) env []) nothing) (c.in_ok-parameters.ensures ∙ params) ∙
    ap (λ b. noted_all callees (full_statements (view_stmts b) (seen_all c.as_slice-3.result.now) (entered f) []) nothing) c.as_slice-body.ensures.value ∙
    ap (λ ts. noted_all callees (full_statements f.body ts (entered f) []) nothing) (ap seen_all c.as_slice-3.ensures.value ∙ ap (λ (t : FunctionTaken). t.body) c.in_ok-taken.ensures.answer) in
    if_ok c.statements.result (λ g h. sym h ∙ same) (c.statements.ensures.found [])
