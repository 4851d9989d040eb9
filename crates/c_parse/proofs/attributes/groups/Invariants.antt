use Rattle.std.proofs.Common.{◌≡◌, ◌≤◌, length, option_map}
use Rattle.c_tree.specs.View.{view}
use Rattle.c_parse.specs.DeclarationReading.{groups_front}
use Rattle.c_parse.proofs.attributes.groups.Given as goal

abbrev pub invariant-loop-behind : goal.invariant-loop-behind
invariant-loop-behind l = record {
  shorter : length l.left ≤ length l.tokens;
  goes : groups_front l.dialect (option_map view l.fn.align) l.tokens ≡ groups_front l.dialect (option_map view l.found) l.left;
}

abbrev pub decreases-loop-behind : goal.decreases-loop-behind
decreases-loop-behind l = length l.left
