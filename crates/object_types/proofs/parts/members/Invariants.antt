use Rattle.std.proofs.Common.{◌≡◌, map, drop}
use Rattle.c_tree.specs.View.{view, views}
use Rattle.scopes.specs.Scopes.{env_of}
use Rattle.object_types.specs.Objects.{members}
use Rattle.object_types.proofs.Initialisers.{in_front}
use Rattle.object_types.proofs.parts.members.Given as goal

abbrev pub invariant-loop-x : goal.invariant-loop-x
invariant-loop-x l = record {
  counts : l.i ≡ l.x-index;
  goes : members l.t l.number 0 (views l.all) (env_of l.env) ≡ in_front (map view l.out.items) (members l.t l.number l.i (views (drop l.x-index l.all)) (env_of l.env));
}
