use Rattle.std.proofs.Common.{◌≡◌, ◌+◌, ◌*◌, ◌≤◌, length}
use Rattle.c_tree.specs.View.{view}
use Rattle.c_parse.specs.Reading.{Operators, Others, read, with_front}
use Rattle.c_parse.proofs.expressions.+parser.Given as goal

abbrev pub decreases-expression : goal.decreases-expression
decreases-expression l = 8 * length l.tokens.now + 6

abbrev pub decreases-others : goal.decreases-others
decreases-others l = 8 * length l.tokens.now + 7

abbrev pub decreases-assignment : goal.decreases-assignment
decreases-assignment l = 8 * length l.tokens.now + 5

abbrev pub decreases-from_operand : goal.decreases-from_operand
decreases-from_operand l = 8 * length l.tokens.now + 8

abbrev pub decreases-conditional : goal.decreases-conditional
decreases-conditional l = 8 * length l.tokens.now + 5

abbrev pub decreases-operators : goal.decreases-operators
decreases-operators l = 8 * length l.tokens.now + 7

abbrev pub decreases-operand : goal.decreases-operand
decreases-operand l = 8 * length l.tokens.now + 4

abbrev pub decreases-prefixed : goal.decreases-prefixed
decreases-prefixed l = 8 * length l.tokens.now + 3

abbrev pub decreases-postfix : goal.decreases-postfix
decreases-postfix l = 8 * length l.tokens.now + 2

abbrev pub decreases-index : goal.decreases-index
decreases-index l = 8 * length l.tokens.now + 7

abbrev pub decreases-base : goal.decreases-base
decreases-base l = 8 * length l.tokens.now + 1

abbrev pub decreases-halves : goal.decreases-halves
decreases-halves l = 8 * length l.tokens.now + 6

abbrev pub decreases-named : goal.decreases-named
decreases-named l = 8 * length l.tokens.now + 7

abbrev pub decreases-arguments : goal.decreases-arguments
decreases-arguments l = 8 * length l.tokens.now + 6

abbrev pub invariant-operators-loop-op : goal.invariant-operators-loop-op
invariant-operators-loop-op l = record {
  shorter : length l.left ≤ length l.tokens;
  goes : read l.dialect (Operators l.least (view l.fn.start)) l.tokens ≡ read l.dialect (Operators l.least (view l.made)) l.left;
}

abbrev pub decreases-operators-loop-op : goal.decreases-operators-loop-op
decreases-operators-loop-op l = length l.left

abbrev pub invariant-others-loop-behind : goal.invariant-others-loop-behind
invariant-others-loop-behind l = record {
  shorter : length l.left ≤ length l.tokens;
  goes : with_front l.fn.start.items (read l.dialect Others l.tokens) ≡ with_front l.all.items (read l.dialect Others l.left);
}

abbrev pub decreases-others-loop-behind : goal.decreases-others-loop-behind
decreases-others-loop-behind l = length l.left
