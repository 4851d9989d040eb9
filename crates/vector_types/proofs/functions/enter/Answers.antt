use Rattle.std.proofs.Common.{◌∙◌, ap}
use Rattle.scopes.specs.Scopes.{Env, env_of, opened}
use Rattle.vector_types.specs.Functions.{is_helper}
use Rattle.vector_types.proofs.functions.enter.Goals as goal

pub returns : goal.returns
returns c =
    let env : Env = env_of c.args.env.now in
    c.in_ok-open.ensures ∙ ap (λ b. opened (record env { calls_none = b })) (c.is_helper-env.ensures ∙ ap (is_helper env.dialect) c.bytes.ensures)
