use Rattle.std.proofs.Common.{◌≡◌, ◌∙◌, [], ◌∷◌, ◌++◌, map, ap, rules}
use Rattle.std.proofs.lemmas.List.{map-append}
use Rattle.scopes.specs.Scopes.{entries_of, functions_of, env_of}
use Rattle.scopes.proofs.Entries.{closes}
use Rattle.scopes.proofs.environment.Environment.close.Goals as goal

pub returns-in-Some : goal.returns-in-Some
returns-in-Some c =
    let env = c.args.self.now in
    let whole : env.outer.items ≡ c.pop.new.self.items ++ c.in-Some.scope ∷ [] = search rules in
    let seen : map entries_of env.outer.items ≡ map entries_of c.pop.new.self.items ++ entries_of c.in-Some.scope ∷ [] = ap (map entries_of) whole ∙ map-append entries_of c.pop.new.self.items (c.in-Some.scope ∷ []) in
    closes env.dialect (env_of env).rows (env_of env).neon (map entries_of env.outer.items) (map entries_of c.pop.new.self.items) (entries_of c.in-Some.scope) (entries_of env.innermost) (functions_of env.functions) env.here env.calls_none seen
