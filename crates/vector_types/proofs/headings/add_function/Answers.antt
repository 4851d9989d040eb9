use Rattle.std.proofs.Common.{◌≡◌, ◌∙◌, ◌++◌, ◌∷◌, [], true, false, is_some, sym, subst, ap}
use Rattle.c_tree.specs.View.{view_function}
use Rattle.scopes.specs.declared.environment.Callee.{Callee as CodeCallee}
use Rattle.scopes.specs.Scopes.{named, entries_of}
use Rattle.vector_types.proofs.Lists.{function_known, function_added, on_ok_then}
use Rattle.vector_types.proofs.headings.add_function.Goals as goal

pub returns-then-is_known : goal.returns-then-is_known
returns-then-is_known c =
    function_known c.args.all.now c.args.dialect c.args.order (view_function c.args.f.now)
    (subst (λ x. is_some (named x (entries_of c.args.all.now)) ≡ true) c.bytes.ensures (sym c.is_known.ensures ∙ c.if-is_known.true))

pub returns-in_ok-heading : goal.returns-in_ok-heading
returns-in_ok-heading c =
    let f = view_function c.args.f.now in
    let absent : is_some (named f.name (entries_of c.args.all.now)) ≡ false =
    subst (λ x. is_some (named x (entries_of c.args.all.now)) ≡ false) c.bytes.ensures (sym c.is_known.ensures ∙ c.if-is_known.false) in
    let new : CodeCallee = record { order = c.args.order; heading = c.in_ok-heading.heading } in
    on_ok_then c.insert.result
    (λ grown. function_added c.args.all.now c.insert.new.self c.args.dialect f new absent
    (grown ∙ ap (λ x. entries_of c.args.all.now ++ (x, new) ∷ []) c.bytes-else-is_known.ensures) c.in_ok-heading.ensures) c.insert.ensures
