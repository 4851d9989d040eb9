use Rattle.std.proofs.Common.{◌≡◌, ◌+◌, ◌*◌, ◌≤◌, length}
use Rattle.c_parse.specs.StatementReading.{statements_of, with_statements}
use Rattle.c_parse.proofs.statements.+statements.Given as goal

abbrev pub decreases-statement : goal.decreases-statement
decreases-statement l = 2 * length l.tokens.now + 1

abbrev pub decreases-conditional : goal.decreases-conditional
decreases-conditional l = 2 * length l.tokens.now + 2

abbrev pub decreases-while_loop : goal.decreases-while_loop
decreases-while_loop l = 2 * length l.tokens.now + 2

abbrev pub decreases-do_loop : goal.decreases-do_loop
decreases-do_loop l = 2 * length l.tokens.now + 2

abbrev pub decreases-for_loop : goal.decreases-for_loop
decreases-for_loop l = 2 * length l.tokens.now + 2

abbrev pub decreases-block : goal.decreases-block
decreases-block l = 2 * length l.tokens.now + 2

abbrev pub invariant-block-loop-behind : goal.invariant-block-loop-behind
invariant-block-loop-behind l = record {
  shorter : length l.left ≤ length l.tokens;
  goes : statements_of l.dialect l.tokens ≡ with_statements l.all.items (statements_of l.dialect l.left);
}

abbrev pub decreases-block-loop-behind : goal.decreases-block-loop-behind
decreases-block-loop-behind l = length l.left
