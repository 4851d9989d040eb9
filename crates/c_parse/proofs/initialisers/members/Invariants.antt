use Rattle.std.proofs.Common.{◌≡◌, ◌≤◌, length, map}
use Rattle.c_tree.specs.View.{view}
use Rattle.c_parse.specs.DeclarationReading.{members_front}
use Rattle.c_parse.proofs.initialisers.members.Given as goal

abbrev pub invariant-loop-behind : goal.invariant-loop-behind
invariant-loop-behind l = record {
  shorter : length l.left ≤ length l.tokens;
  goes : members_front l.dialect (map view l.fn.start.items) l.tokens ≡ members_front l.dialect (map view l.all.items) l.left;
}

abbrev pub decreases-loop-behind : goal.decreases-loop-behind
decreases-loop-behind l = length l.left
