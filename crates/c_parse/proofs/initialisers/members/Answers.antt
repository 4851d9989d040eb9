use Rattle.std.proofs.Common.{sym, arith}
use Rattle.c_parse.proofs.DeclarationsTurns.{member_turn}
use Rattle.c_parse.proofs.initialisers.members.Goals as goal

pub loop-behind-preserved : goal.loop-behind-preserved
loop-behind-preserved c = record {
  shorter = omega (arith, c.loop-behind.invariant.shorter, c.in-Some.ensures.shorter, c.in_ok-next.ensures.shorter);
  goes = member_turn _ _ _ _ _ _ _ _ c.loop-behind.invariant.goes (sym c.in-Some.ensures.value) c.in_ok-next.ensures.value c.in_ok-push.ensures.items;
}
