use Rattle.std.proofs.Common.{◌≡◌, ◌+◌, ◌*◌, length}
use Rattle.c_conditions.specs.Value.{value, whole}
use Rattle.c_conditions.specs.Stack.{left, resumed}
use Rattle.c_conditions.proofs.reading.value.Given as goal

abbrev pub invariant-reading : goal.invariant-reading
invariant-reading l = value l.fn.tokens ≡ whole (resumed l.stack.items (left l.left.level l.left.operand l.left.tokens.now))

abbrev pub decreases-reading : goal.decreases-reading
decreases-reading l = 2 * length l.left.tokens.now + length l.stack.items
