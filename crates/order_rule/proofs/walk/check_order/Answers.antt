use Rattle.std.proofs.Common.{◌∙◌, Some, option_map, sym, ap}
use Rattle.c_tree.specs.Tree.{Node}
use Rattle.c_tree.specs.View.{view, view_kind, view_function}
use Rattle.order_rule.specs.Callees.{callees_of}
use Rattle.order_rule.specs.Full.{Findings, full_expressions, refusal}
use Rattle.order_rule.proofs.Noted.{first_found, view_node}
use Rattle.order_rule.proofs.walk.check_order.Goals as goal

pub returns-in-None-clause-ok : goal.returns-in-None-clause-ok
returns-in-None-clause-ok c =
    ap (option_map refusal) (sym (first_found (callees_of c.args.callees.now) (full_expressions (view_function c.args.function.now))) ∙
    ap (λ (f : Findings). f.broken) (sym c.in_ok-found.ensures) ∙ ap (option_map (λ e. view e.now)) c.in-None.is)

pub returns-in_ok-fault-in-Some-clause-refused : goal.returns-in_ok-fault-in-Some-clause-refused
returns-in_ok-fault-in-Some-clause-refused c =
    rw c.in_ok-fault-in-Some.ensures
    (ap (option_map refusal) (sym (first_found (callees_of c.args.callees.now) (full_expressions (view_function c.args.function.now))) ∙
    ap (λ (f : Findings). f.broken) (sym c.in_ok-found.ensures) ∙ ap (option_map (λ e. view e.now)) c.in-Some.is) ∙ ap (λ e. Some (refusal e)) (view_node c.in-Some.part.now) ∙
    ap (λ k. Some (refusal (Node c.in-Some.part.now.place c.in-Some.part.now.ty (view_kind k)))) (sym c.deref.ensures))
