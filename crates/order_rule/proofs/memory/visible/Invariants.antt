use Rattle.std.proofs.Common.{◌≡◌, map, drop}
use Rattle.scopes.specs.Scopes.{or_else, entries_of}
use Rattle.order_rule.specs.Memory.{visible}
use Rattle.order_rule.proofs.memory.visible.Given as goal

abbrev pub invariant-loop-scope : goal.invariant-loop-scope
invariant-loop-scope l = visible l.name (map entries_of l.scopes) ≡ or_else (visible l.name (map entries_of (drop l.scope-index l.scopes))) l.found
