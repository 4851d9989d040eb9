use Rattle.std.proofs.Common.{sym, arith}
use Rattle.c_parse.proofs.Equations.{other_read}
use Rattle.c_parse.proofs.expressions.+parser.Goals as goal

pub others-loop-behind-preserved : goal.others-loop-behind-preserved
others-loop-behind-preserved t c = record {
  shorter = omega (arith, c.loop-behind.invariant.shorter, c.in-Some.ensures.shorter, c.in_ok-next.ensures.shorter);
  goes = other_read _ _ _ _ _ _ _ _ c.loop-behind.invariant.goes (sym c.in-Some.ensures.value) c.in_ok-next.ensures.value c.in_ok-push.ensures.items;
}
