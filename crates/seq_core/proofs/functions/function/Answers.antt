use Rattle.std.proofs.lemmas.List.{length-map}
use Rattle.std.proofs.Common.{refl, ◌≡◌, ◌<◌, ◌^◌, ◌++◌, [], sym, subst, map, length, arith}
use Rattle.std.specs.Prelude.{option_map, None}
use Rattle.c_tree.specs.View.{view as view_tree, view_stmt, view_declared}
use Rattle.seq_core.specs.View.{view, view_seq}
use Rattle.seq_core.specs.Written.{pen}
use Rattle.seq_core.specs.Functions.{named, object_of, params_from, start, returned, result_type}
use Rattle.seq_core.specs.Listed.{names_after, statements_after}
use Rattle.seq_core.specs.Claims.{DoesTheSame}
use Rattle.seq_core.proofs.Bodies.{call_leads}
use Rattle.seq_core.proofs.Lists.{function_written}
use Rattle.seq_core.proofs.functions.function.Goals as goal

pub returns-clause-tree : goal.returns-clause-tree
returns-clause-tree c =
    let q = c.args.seq.now in
    let names = map view_tree c.in_ok-names.names.items in
    let steps = map view_tree c.in_ok-steps.steps.items in
    let parts : map view_declared c.in_ok-params.params.items ≡ map (λ v. object_of start v None) (params_from 0 q.params.items) = rw (c.in_ok-params.ensures, c.deref.ensures.value) refl in
    let named_so : names ≡ map (named start) (params_from 0 q.params.items) = rw (c.in_ok-names.ensures, c.deref-2.ensures.value) refl in
    let stepped : steps ≡ names_after start names [] (map view q.steps.items) = rw (c.in_ok-steps.ensures.names, c.deref-3.ensures.value, c.deref-4.ensures.value) refl in
    let typed : c.in_ok-result.result ≡ result_type (pen start names steps) (option_map view q.result) = rw (c.in_ok-result.ensures.ty, c.deref-5.ensures.value, c.deref-6.ensures.value) refl in
    let stated : map view_stmt c.push_return.new.out.items ≡ statements_after start names [] (map view q.steps.items) ++ returned (pen start names steps) (option_map view q.result) =
    rw (c.in_ok-result.ensures.statements, c.in_ok-steps.ensures.statements, c.new-body.ensures.items, c.deref-3.ensures.value, c.deref-4.ensures.value, c.deref-5.ensures.value, c.deref-6.ensures.value) refl in
    rw c.in_ok-name.ensures
    (sym (function_written start c.args.name.now q.params.items (map view q.steps.items) (option_map view q.result) (map view_declared c.in_ok-params.params.items) names steps (map view_stmt c.push_return.new.out.items) c.in_ok-result.result
    parts named_so stepped typed stated))

pub returns-clause-meaning : goal.returns-clause-meaning
returns-clause-meaning c =
    let q = view_seq c.args.seq.now in
    let some : length q.params < 2 ^ 64 = omega (arith, c.args.seq.now.params.ok) in
    let few : length q.steps < 2 ^ 64 = rw (length-map c.args.seq.now.steps.items view) (omega (arith, c.args.seq.now.steps.ok)) in
    subst (DoesTheSame q) (sym (returns-clause-tree c)) (λ calls rows tables vs s o k same e. call_leads calls rows tables start c.args.name.now q c.requires.formed some few vs same s o k e)
