use Rattle.std.proofs.Common.{◌≡◌, ◌∙◌, [], ◌∷◌, ◌++◌, map, ap, rules}
use Rattle.std.proofs.lemmas.List.{map-append}
use Rattle.scopes.specs.Scopes.{entries_of}
use Rattle.order_rule.specs.Memory.{env_of}
use Rattle.order_rule.proofs.Scopes.{closes}
use Rattle.order_rule.proofs.memory.Memory.close.Goals as goal

pub returns-in-Some : goal.returns-in-Some
returns-in-Some c =
    let m = c.args.self.now in
    let whole : m.outer.items ≡ c.pop.new.self.items ++ c.in-Some.scope ∷ [] = search rules in
    let seen : map entries_of m.outer.items ≡ map entries_of c.pop.new.self.items ++ entries_of c.in-Some.scope ∷ [] = ap (map entries_of) whole ∙ map-append entries_of c.pop.new.self.items (c.in-Some.scope ∷ []) in
    closes (map entries_of m.outer.items) (map entries_of c.pop.new.self.items) (entries_of c.in-Some.scope) (entries_of m.innermost) (env_of m).outside seen
