use Rattle.std.proofs.Common.{◌∙◌, ◌∷◌, [], ap}
use Rattle.scopes.specs.Scopes.{env_of, with_object, closed}
use Rattle.scopes.specs.Kept.{at_file}
use Rattle.scopes.proofs.Outermost.{opened_at_file, on_refusal}
use Rattle.object_types.proofs.objects.behind_name.Goals as goal

pub returns-clause-names : goal.returns-clause-names
returns-clause-names c =
    let x = c.bytes.result.now in
    let o = c.known.result in
    c.close.ensures ∙ ap closed (c.in_ok-declare.ensures ∙ ap (with_object x o) c.in_ok-open.ensures) ∙ c.scopes_end.ensures (env_of c.args.env.now) ((x, o) ∷ [])

pub returns-in_err-start-clause-kept : goal.returns-in_err-start-clause-kept
returns-in_err-start-clause-kept c =
    let x = c.bytes.result.now in
    let o = c.known.result in
    on_refusal c.from_residual-in_err-start.result
    (ap at_file (c.in_ok-declare.ensures ∙ ap (with_object x o) c.in_ok-open.ensures) ∙ opened_at_file (env_of c.args.env.now) ((x, o) ∷ []))
