use Rattle.std.proofs.Common.{◌≡◌, map, drop}
use Rattle.scopes.specs.Scopes.{visible, or_else, entries_of}
use Rattle.scopes.proofs.environment.visible.Given as goal

abbrev pub invariant-loop-scope : goal.invariant-loop-scope
invariant-loop-scope l = visible l.name (map entries_of l.scopes) ≡ or_else (visible l.name (map entries_of (drop l.scope-index l.scopes))) l.found
