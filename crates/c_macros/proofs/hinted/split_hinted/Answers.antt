use Rattle.std.proofs.Common.{arith, ◌∙◌, ◌+◌, ◌<◌, length, take, drop}
use Rattle.c_macros.specs.Groups.{IsGroup}
use Rattle.c_macros.proofs.Groups.{jump_more}
use Rattle.c_macros.proofs.Cutting.{opens_more, closes_less, parts_within, other_more, parts_next, kept_next, empty_start}
use Rattle.c_macros.proofs.hinted.split_hinted.Goals as goal
use Rattle.c_macros.proofs.hinted.split_hinted.Goals.{in-Opens, in-Closes+else-inner-eq0, in-Parts+then-inner-eq0-2+in_ok-push-in-Parts, in-Parts+else-inner-eq0-2, in-Other}

pub loop-i-preserved : goal.loop-i-preserved
loop-i-preserved c =
    let l = c.loop-i in
    let ts = c.args.segment.tokens.now in
    let h : l.i < length ts = c.loop-i-test.true in
    elim c.match-role.branch [
      | in-Opens w ↦ record {
        begun = omega arith;
        within = omega arith;
        few = omega arith;
        same =
            rw (w.list-is, w.start-is, w.inner-is)
            (l.invariant.same ∙ opens_more ts l.start l.i _ _ l.invariant.begun h c.index-tokens-i.is l.inner w.in-Opens.ensures);
      }
      | in-Closes+else-inner-eq0 w ↦ record {
        begun = omega arith;
        within = omega arith;
        few = omega arith;
        same =
            rw (w.list-is, w.start-is, w.inner-is)
            (l.invariant.same ∙ closes_less ts l.start l.i _ _ l.invariant.begun h c.index-tokens-i.is l.inner w.if-inner-eq0.false w.in-Closes.ensures);
      }
      | in-Parts+then-inner-eq0-2+in_ok-push-in-Parts w ↦ record {
        begun = omega arith;
        within = omega arith;
        few = omega arith;
        same =
            rw (w.list-is, w.start-is, w.inner-is, w.in_ok-push-in-Parts.ensures.items, kept_next l.list.items _, w.part-then-inner-eq0-2.ensures, w.if-inner-eq0-2.true, empty_start ts (l.i + 1))
            ((rw w.if-inner-eq0-2.true at l.invariant.same) ∙ parts_next ts l.start l.i _ _ l.invariant.begun h c.index-tokens-i.is w.in-Parts.ensures);
      }
      | in-Parts+else-inner-eq0-2 w ↦ record {
        begun = omega arith;
        within = omega arith;
        few = omega arith;
        same =
            rw (w.list-is, w.start-is, w.inner-is)
            (l.invariant.same ∙ parts_within ts l.start l.i _ _ l.invariant.begun h c.index-tokens-i.is l.inner w.if-inner-eq0-2.false w.in-Parts.ensures);
      }
      | in-Other w ↦ record {
        begun = omega arith;
        within = omega arith;
        few = omega arith;
        same =
            rw (w.list-is, w.start-is, w.inner-is)
            (l.invariant.same ∙ other_more ts l.start l.i _ _ l.invariant.begun h c.index-tokens-i.is l.inner w.in-Other.ensures);
      }
    ]

pub loop-i-preserved-then-jump-tokens : goal.loop-i-preserved-then-jump-tokens
loop-i-preserved-then-jump-tokens c =
    let l = c.loop-i in
    let ts = c.args.segment.tokens.now in
    let e = c.jump_at-jump.ensures in
    let group : IsGroup (take (c.jump_at-jump.result + 1) (drop l.i ts)) = rw e (c.args.segment.sound l.i (omega (arith, e)) (omega (arith, e))) in
    record {
      begun = omega arith;
      within = omega arith;
      few = omega arith;
      same = l.invariant.same ∙ jump_more ts l.start l.i (c.jump_at-jump.result + 1) _ l.inner l.invariant.begun group;
    }
