use Rattle.std.proofs.Common.{◌∙◌, ◌∷◌, [], ap}
use Rattle.scopes.specs.Scopes.{env_of, with_object, closed}
use Rattle.vector_types.proofs.tables.value_behind_name.Goals as goal

pub returns-clause-names : goal.returns-clause-names
returns-clause-names c =
    let x = c.bytes.result.now in
    let o = c.known.result in
    c.close.ensures ∙ ap closed (c.in_ok-declare.ensures ∙ ap (with_object x o) c.in_ok-open.ensures) ∙ c.scopes_end.ensures (env_of c.args.env.now) ((x, o) ∷ [])
