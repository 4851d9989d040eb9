use Rattle.std.proofs.Common.{sym, arith}
use Rattle.migrate_report.proofs.Sizes.{passed}
use Rattle.migrate_report.proofs.items.number_up_to.Goals as goal

pub returns-then-n-most : goal.returns-then-n-most
returns-then-n-most c = sym (passed c.args.digits.now c.loop-c.n c.loop-c.c-index c.args.most c.loop-c-test.true c.loop-c.invariant.1 (omega arith))
