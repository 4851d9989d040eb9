use Rattle.std.proofs.Common.{◌≡◌, ◌∙◌, [], map, sym, ap, arith}
use Rattle.std.proofs.lemmas.Result.{err_from_is_err_and, IfOk-weaker}
use Rattle.std.specs.Option.{option_copied}
use Rattle.c_text.specs.Details.{refusal_of}
use Rattle.c_macros.specs.Expansion.{and_then, behind, expand_in}
use Rattle.c_macros.specs.Gives.{frame_seen, frame_size}
use Rattle.c_macros.specs.Stack.{pending, resumed}
use Rattle.c_macros.specs.Entries.{macros_of}
use Rattle.c_macros.proofs.Coding.{frames-push, done-more, refuses_along, refuses_as, ended-fails, ended-goes, goes_along, use_short, replaced-more, stack-popped, resumed-popped, resumed-done, replaced-deep, nothing_in}
use Rattle.c_macros.proofs.Resuming.{pending-next, next_shorter, stack_size-push, first-plain, first-wrong, first-use, resumed-refused}
use Rattle.c_macros.proofs.expanding.+expansion.Goals as goal

pub advance-returns-in-Some-clause-goes : goal.advance-returns-in-Some-clause-goes
advance-returns-in-Some-clause-goes t c =
    rw (c.in_ok-push.ensures.items, frames-push c.args.stack.now.items _, c.requires.bare, c.outermost.ensures)
    (pending-next c.args.limit (macros_of c.args.macros.now) c.args.depth c.args.uses.now.items (map frame_seen c.args.stack.now.items) (frame_seen c.args.inside)
    c.args.made.now.work c.in-Some.segment.tokens.now (sym c.in-Some.ensures.value))

pub advance-returns-in-Some-clause-shorter : goal.advance-returns-in-Some-clause-shorter
advance-returns-in-Some-clause-shorter t c =
    rw (c.in_ok-push.ensures.items, frames-push c.args.stack.now.items _, stack_size-push (map frame_seen c.args.stack.now.items) _)
    (omega (arith, next_shorter (frame_seen c.args.inside) c.in-Some.segment.tokens.now (sym c.in-Some.ensures.value)))

pub advance-returns-in_err-replace-clause-goes : goal.advance-returns-in_err-replace-clause-goes
advance-returns-in_err-replace-clause-goes t c =
    let p = err_from_is_err_and c.from_residual-in_err-replace.result c.from_residual-in_err-replace.ensures.1 in
    rw (p.1, p.2)
    (ended-fails c.args.limit (macros_of c.args.macros.now) c.args.depth c.args.uses.now.items (map frame_seen c.args.stack.now.items) (frame_seen c.args.inside)
    c.args.made.now.work c.in_err-replace.field-0.0 (sym c.in_default.ensures.value) (rw (c.deref.ensures.value, c.outermost-top.ensures) at c.in_err-replace.ensures.gives))

pub advance-returns-clause-goes : goal.advance-returns-clause-goes
advance-returns-clause-goes t c =
    ended-goes c.args.limit (macros_of c.args.macros.now) c.args.depth c.args.uses.now.items (map frame_seen c.args.stack.now.items) (frame_seen c.args.inside)
    c.args.made.now.work c.replace.new.made.tokens.items c.replace.new.made.work (sym c.in_default.ensures.value) (rw (c.deref.ensures.value, c.outermost-top.ensures) at c.in_ok-replace.ensures.gives)

pub read-returns-in-Wrong-clause-goes : goal.read-returns-in-Wrong-clause-goes
read-returns-in-Wrong-clause-goes t c =
    let e = rw (c.in-Wrong.is, c.deref.ensures.value) at c.in_ok-sight.ensures in
    refuses_as _ (refusal_of 7 c.args.token.now) _
    (ap (resumed c.args.limit (macros_of c.args.macros.now) c.args.depth c.args.uses.now.items (map frame_seen c.args.stack.now.items))
    (first-wrong c.args.limit (macros_of c.args.macros.now) c.args.depth c.args.uses.now.items (option_copied c.args.outer) c.args.token.now c.args.after.tokens.now c.args.made.now.tokens.items c.args.made.now.work e) ∙
    resumed-refused c.args.limit (macros_of c.args.macros.now) c.args.depth c.args.uses.now.items (map frame_seen c.args.stack.now.items) (refusal_of 7 c.args.token.now))
    c.refuse_token.ensures

pub read-returns-in-Use-clause-goes : goal.read-returns-in-Use-clause-goes
read-returns-in-Use-clause-goes t c =
    let m = macros_of c.args.macros.now in
    let f = c.in-Use.found in
    let e = rw (c.in-Use.is, c.deref.ensures.value) at c.in_ok-sight.ensures in
    goes_along c.args.limit m c.args.depth c.args.uses.now.items _ _ c.advance.result c.advance.new.stack.items c.advance.new.made
    (ap (resumed c.args.limit m c.args.depth c.args.uses.now.items (map frame_seen c.args.stack.now.items))
    (first-use c.args.limit m c.args.depth c.args.uses.now.items (option_copied c.args.outer) c.args.token.now c.args.after.tokens.now c.args.made.now.tokens.items c.args.made.now.work
    f.definition.now (map (λ a. a.tokens.now) f.arguments.items) f.rest.tokens.now e ∙
    ap (λ x. pending c.args.limit m c.args.depth c.args.uses.now.items x c.args.made.now.work) (sym c.enter-inside.ensures.frame) ∙
    ap (λ w. pending c.args.limit m c.args.depth c.args.uses.now.items (frame_seen c.enter-inside.result) w) (sym c.enter-inside.ensures.work)))
    c.advance.ensures.goes

pub read-returns-in-Use-clause-shorter : goal.read-returns-in-Use-clause-shorter
read-returns-in-Use-clause-shorter t c =
    let f = c.in-Use.found in
    let e = rw (c.in-Use.is, c.deref.ensures.value) at c.in_ok-sight.ensures in
    let short = use_short (macros_of c.args.macros.now) c.args.uses.now.items c.args.token.now c.args.after.tokens.now f.definition.now (map (λ a. a.tokens.now) f.arguments.items) f.rest.tokens.now e in
    IfOk-weaker c.advance.result _ _ (λ seg h. omega (arith, h, short, ap frame_size c.enter-inside.ensures.frame)) c.advance.ensures.shorter

pub replace-returns-in_err-expand_in-clause-gives : goal.replace-returns-in_err-expand_in-clause-gives
replace-returns-in_err-expand_in-clause-gives t c =
    let p = err_from_is_err_and c.from_residual-in_err-expand_in.result c.from_residual-in_err-expand_in.ensures.1 in
    let g = rw (c.in_ok-push.ensures.items, c.in_ok-placed.ensures, c.deref.ensures.value, c.in_ok-tokens.ensures, c.body_of-2.ensures) at c.in_err-expand_in.ensures.gives in
    let h = rw c.body_of.ensures at c.in-Some.ensures in
    rw (p.1, p.2) (refuses_along _ _ _ (ap (λ m. and_then m (behind c.args.made.now.tokens.items))
    (replaced-more c.args.limit (macros_of c.args.macros.now) c.args.depth c.args.uses.now.items c.args.top.now c.args.name.now _ c.args.made.now.work c.in-Some.work h.0 h.1 c.if-depth-eq0.false)) g)

pub replace-returns-clause-gives : goal.replace-returns-clause-gives
replace-returns-clause-gives t c =
    let g = rw (c.in_ok-push.ensures.items, c.in_ok-placed.ensures, c.deref.ensures.value, c.in_ok-tokens.ensures, c.body_of-2.ensures) at c.in_ok-expand_in.ensures.gives in
    let h = rw c.body_of.ensures at c.in-Some.ensures in
    ap (λ m. and_then m (behind c.args.made.now.tokens.items))
    (replaced-more c.args.limit (macros_of c.args.macros.now) c.args.depth c.args.uses.now.items c.args.top.now c.args.name.now _ c.args.made.now.work c.in-Some.work h.0 h.1 c.if-depth-eq0.false) ∙ g

pub expand_in-returns-in_err-left-in-Some-clause-gives : goal.expand_in-returns-in_err-left-in-Some-clause-gives
expand_in-returns-in_err-left-in-Some-clause-gives t c =
    let l = c.reading in
    let u = c.args.uses.now.items in
    let m = macros_of c.args.macros.now in
    let p = err_from_is_err_and c.from_residual-in_err-left-in-Some.result c.from_residual-in_err-left-in-Some.ensures.1 in
    rw (p.1, p.2)
    (refuses_along _ _ _
    (l.invariant.same ∙
    ap (λ x. resumed c.args.limit m c.args.depth u (map frame_seen l.stack.items) (and_then (expand_in c.args.limit m c.args.depth u (option_copied l.left.outer) x l.made.work) (behind l.made.tokens.items))) c.in-Some.ensures)
    (rw l.invariant.kept at c.in_err-left-in-Some.ensures.goes))

pub expand_in-reading-preserved-in-Some : goal.expand_in-reading-preserved-in-Some
expand_in-reading-preserved-in-Some t c =
    let l = c.reading in
    let u = c.args.uses.now.items in
    let m = macros_of c.args.macros.now in
    record {
      same = l.invariant.same ∙
          ap (λ x. resumed c.args.limit m c.args.depth u (map frame_seen l.stack.items) (and_then (expand_in c.args.limit m c.args.depth u (option_copied l.left.outer) x l.made.work) (behind l.made.tokens.items))) c.in-Some.ensures ∙
          (rw l.invariant.kept at c.in_ok-left-in-Some.ensures.goes);
      within = c.in_ok-left-in-Some.ensures.within;
      kept = c.in_ok-left-in-Some.ensures.kept ∙ l.invariant.kept;
    }

pub expand_in-returns-in_err-left-in-Some-pop-clause-gives : goal.expand_in-returns-in_err-left-in-Some-pop-clause-gives
expand_in-returns-in_err-left-in-Some-pop-clause-gives t c =
    let l = c.reading in
    let p = err_from_is_err_and c.from_residual-in_err-left-in-Some-pop.result c.from_residual-in_err-left-in-Some-pop.ensures.1 in
    rw (p.1, p.2)
    (refuses_along _ _ _
    (l.invariant.same ∙
    resumed-popped c.args.limit (macros_of c.args.macros.now) c.args.depth c.args.uses.now.items (option_copied l.left.outer) c.pop.new.self.items l.stack.items c.in-Some-pop.inside l.left.segment.tokens.now l.made.tokens.items l.made.work
    c.in-Some-pop.ensures.items c.in-None.ensures)
    (rw l.invariant.kept at c.in_err-left-in-Some-pop.ensures.goes))

pub expand_in-reading-smaller : goal.expand_in-reading-smaller
expand_in-reading-smaller t c = omega (arith, c.in_ok-left-in-Some-pop.ensures.shorter, stack-popped c.pop.new.self.items c.reading.stack.items c.in-Some-pop.inside c.in-Some-pop.ensures.items)

pub expand_in-reading-preserved : goal.expand_in-reading-preserved
expand_in-reading-preserved t c =
    let l = c.reading in
    record {
      same = l.invariant.same ∙
          resumed-popped c.args.limit (macros_of c.args.macros.now) c.args.depth c.args.uses.now.items (option_copied l.left.outer) c.pop.new.self.items l.stack.items c.in-Some-pop.inside l.left.segment.tokens.now l.made.tokens.items l.made.work
          c.in-Some-pop.ensures.items c.in-None.ensures ∙
          (rw l.invariant.kept at c.in_ok-left-in-Some-pop.ensures.goes);
      within = c.in_ok-left-in-Some-pop.ensures.within;
      kept = c.in_ok-left-in-Some-pop.ensures.kept ∙ l.invariant.kept;
    }

pub expand_in-returns-in-None-pop-clause-gives : goal.expand_in-returns-in-None-pop-clause-gives
expand_in-returns-in-None-pop-clause-gives t c =
    let l = c.reading in
    let none : l.stack.items ≡ [] = nothing_in l.stack c.in-None-pop.ensures.cases.0 in
    l.invariant.same ∙
    resumed-done c.args.limit (macros_of c.args.macros.now) c.args.depth c.args.uses.now.items (option_copied l.left.outer) l.stack.items l.left.segment.tokens.now l.made.tokens.items l.made.work none c.in-None.ensures

pub read-returns-in_ok-push-in-Plain-clause-goes : goal.read-returns-in_ok-push-in-Plain-clause-goes
read-returns-in_ok-push-in-Plain-clause-goes t c =
    let e = rw (c.in-Plain.is, c.deref.ensures.value) at c.in_ok-sight.ensures in
    rw (c.in_ok-push-in-Plain.ensures.items, c.in_ok-placed-in-Plain.ensures)
    (ap (resumed c.args.limit (macros_of c.args.macros.now) c.args.depth c.args.uses.now.items (map frame_seen c.args.stack.now.items))
    (first-plain c.args.limit (macros_of c.args.macros.now) c.args.depth c.args.uses.now.items (option_copied c.args.outer) c.args.token.now c.args.after.tokens.now c.args.made.now.tokens.items c.args.made.now.work e))

pub replace-returns-then-depth-eq0-clause-gives : goal.replace-returns-then-depth-eq0-clause-gives
replace-returns-then-depth-eq0-clause-gives t c =
    let h = rw c.body_of.ensures at c.in-Some.ensures in
    refuses_as _ _ _ (ap (λ m. and_then m (behind c.args.made.now.tokens.items))
    (replaced-deep c.args.limit (macros_of c.args.macros.now) c.args.depth c.args.uses.now.items c.args.top.now c.args.name.now _ c.args.made.now.work c.in-Some.work h.0 h.1 c.if-depth-eq0.true))
    c.refuse_token-then-depth-eq0.ensures

pub close-returns-clause-goes : goal.close-returns-clause-goes
close-returns-clause-goes t c = rw (c.in_ok-push.ensures.items, done-more _ _, c.replace-argument.ensures.value) at c.advance.ensures.goes
