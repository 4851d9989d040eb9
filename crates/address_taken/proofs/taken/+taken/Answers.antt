use Rattle.std.proofs.Common.{◌≡◌, ◌||◌, ◌∙◌, ◌∷◌, ◌-◌, IfOk, option_map, map, drop, refl, sym, ap, subst, if◌then◌else◌, arith}
use Rattle.std.proofs.lemmas.Grind.{common_steps}
use Rattle.c_tree.specs.Tree.{If, While, DoWhile, For}
use Rattle.c_tree.specs.View.{view, view_stmt, view_stmts, view_optional}
use Rattle.address_taken.specs.Addressed.{takes, takes_statement, takes_maybe, takes_statements}
use Rattle.address_taken.specs.Marks.{is_marked, is_among, declared_in}
use Rattle.address_taken.specs.Taken.{no_more, taken_statement, seen}
use Rattle.address_taken.proofs.Truth.{two, three}
use Rattle.address_taken.proofs.Walk.{always_ok, statement_marked, scope_marks, loop_marks, for_marks, for_answer, statement_answers, statement_marks, before_statements, view_if, view_while, view_do_while, view_for}
use Rattle.address_taken.proofs.taken.+taken.Goals as goal

pub taken_statement-returns-in_ok-mark_taken-in-If-clause-marked : goal.taken_statement-returns-in_ok-mark_taken-in-If-clause-marked
taken_statement-returns-in_ok-mark_taken-in-If-clause-marked t c =
    let s = view_stmt c.deref.result.now in
    let o = view_optional c.in-If.other in
    let e : view_stmt c.args.s.now ≡ If (view c.in-If.c) s o = ap view_stmt c.in-If.is ∙ view_if c.in-If.c c.in-If.s c.in-If.other ∙ ap (λ w. If (view c.in-If.c) (view_stmt w) o) (sym c.deref.ensures) in
    always_ok c.part_and.result (statement_marked c.args.alone c.args.s.now (If (view c.in-If.c) s o) (is_marked c.args.marks.now) (is_marked c.mark_taken.new.marks) e (λ x. refl)
    (λ x. three (takes_statement x s) (takes_maybe x o) (takes x (view c.in-If.c)) (is_marked c.args.marks.now x) (is_marked c.taken_optional.new.marks x) (is_marked c.taken_statement.new.marks x) (is_marked c.mark_taken.new.marks x)
    (c.in_ok-parts-in-If.ensures.marked x) (c.in_ok-part-in-If.ensures.marked x) (c.in_ok-mark_taken-in-If.ensures x)))

pub taken_statement-returns-in_ok-mark_taken-in-While-clause-marked : goal.taken_statement-returns-in_ok-mark_taken-in-While-clause-marked
taken_statement-returns-in_ok-mark_taken-in-While-clause-marked t c =
    let s = view_stmt c.deref-in-While.result.now in
    let e : view_stmt c.args.s.now ≡ While (view c.in-While.c) s = ap view_stmt c.in-While.is ∙ view_while c.in-While.c c.in-While.s ∙ ap (λ w. While (view c.in-While.c) (view_stmt w)) (sym c.deref-in-While.ensures) in
    always_ok c.one_part.result (statement_marked c.args.alone c.args.s.now (While (view c.in-While.c) s) (is_marked c.args.marks.now) (is_marked c.mark_taken-in-While.new.marks) e (λ x. refl)
    (λ x. two (takes x (view c.in-While.c)) (takes_statement x s) (is_marked c.args.marks.now x) (is_marked c.taken_statement-in-While.new.marks x) (is_marked c.mark_taken-in-While.new.marks x)
    (c.in_ok-part-in-While.ensures.marked x) (c.in_ok-mark_taken-in-While.ensures x)))

pub taken_statement-returns-in_ok-part-in-DoWhile-clause-marked : goal.taken_statement-returns-in_ok-part-in-DoWhile-clause-marked
taken_statement-returns-in_ok-part-in-DoWhile-clause-marked t c =
    let s = view_stmt c.deref-in-DoWhile.result.now in
    let e : view_stmt c.args.s.now ≡ DoWhile s (view c.in-DoWhile.c) = ap view_stmt c.in-DoWhile.is ∙ view_do_while c.in-DoWhile.s c.in-DoWhile.c ∙ ap (λ w. DoWhile (view_stmt w) (view c.in-DoWhile.c)) (sym c.deref-in-DoWhile.ensures) in
    always_ok c.one_part-in-DoWhile.result (statement_marked c.args.alone c.args.s.now (DoWhile s (view c.in-DoWhile.c)) (is_marked c.args.marks.now) (is_marked c.taken_statement-in-DoWhile.new.marks) e (λ x. refl)
    (λ x. two (takes_statement x s) (takes x (view c.in-DoWhile.c)) (is_marked c.args.marks.now x) (is_marked c.mark_taken-in-DoWhile.new.marks x) (is_marked c.taken_statement-in-DoWhile.new.marks x)
    (c.in_ok-mark_taken-in-DoWhile.ensures x) (c.in_ok-part-in-DoWhile.ensures.marked x)))

pub taken_statement-returns-in_ok-put_back-in-For-clause-answer : goal.taken_statement-returns-in_ok-put_back-in-For-clause-answer
taken_statement-returns-in_ok-put_back-in-For-clause-answer t c =
    let i = view_optional c.in-For.i in
    let w = option_map view c.in-For.c in
    let n = option_map view c.in-For.n in
    let s = view_stmt c.deref-in-For.result.now in
    let later = (if c.args.alone then no_more else is_marked c.args.marks.now) in
    let e : view_stmt c.args.s.now ≡ For i w n s = ap view_stmt c.in-For.is ∙ view_for c.in-For.i c.in-For.c c.in-For.n c.in-For.s ∙ ap (λ b. For i w n (view_stmt b)) (sym c.deref-in-For.ensures) in
    subst (λ u. IfOk c.parts_and.result (λ t'. seen t' ≡ u))
    (for_answer i w n s (is_marked c.args.marks.now) (is_marked c.hide_first.new.marks) (is_marked c.mark_optional-in-For.new.marks) later (map seen c.in_ok-parts-in-For.parts.items) (seen c.in_ok-part-in-For.part)
    c.in_ok-hide_first-in-For.ensures.unmarked
    (loop_marks w n s (is_marked c.hide_first.new.marks) (is_marked c.taken_statement-in-For.new.marks) (is_marked c.mark_optional.new.marks) (is_marked c.mark_optional-in-For.new.marks)
    c.in_ok-part-in-For.ensures.marked c.in_ok-mark_optional-in-For.ensures c.in_ok-mark_optional-in-For-2.ensures)
    c.in_ok-parts-in-For.ensures.answer c.in_ok-part-in-For.ensures.answer
    ∙ ap (λ u. taken_statement u later) (sym e))
    c.parts_and.ensures

pub taken_statement-returns-in_ok-put_back-in-For-clause-marked : goal.taken_statement-returns-in_ok-put_back-in-For-clause-marked
taken_statement-returns-in_ok-put_back-in-For-clause-marked t c =
    let i = view_optional c.in-For.i in
    let w = option_map view c.in-For.c in
    let n = option_map view c.in-For.n in
    let s = view_stmt c.deref-in-For.result.now in
    let e : view_stmt c.args.s.now ≡ For i w n s = ap view_stmt c.in-For.is ∙ view_for c.in-For.i c.in-For.c c.in-For.n c.in-For.s ∙ ap (λ b. For i w n (view_stmt b)) (sym c.deref-in-For.ensures) in
    always_ok c.parts_and.result (statement_marked c.args.alone c.args.s.now (For i w n s) (is_marked c.args.marks.now) (is_marked c.put_back.new.marks) e (λ x. refl)
    (for_marks i w n s c.hide_first.new.hidden.items c.as_slice-in-For.result.now c.new-hidden.result.items (is_marked c.args.marks.now) (is_marked c.hide_first.new.marks) (is_marked c.mark_optional-in-For.new.marks)
    (is_marked c.taken_optional-in-For.new.marks) (is_marked c.put_back.new.marks) c.as_slice-in-For.ensures.value c.new-hidden.ensures.items
    c.in_ok-hide_first-in-For.ensures.unmarked c.in_ok-hide_first-in-For.ensures.kept
    (loop_marks w n s (is_marked c.hide_first.new.marks) (is_marked c.taken_statement-in-For.new.marks) (is_marked c.mark_optional.new.marks) (is_marked c.mark_optional-in-For.new.marks)
    c.in_ok-part-in-For.ensures.marked c.in_ok-mark_optional-in-For.ensures c.in_ok-mark_optional-in-For-2.ensures)
    c.in_ok-parts-in-For.ensures.marked c.in_ok-put_back-in-For.ensures))

pub taken_block-returns-clause-marked : goal.taken_block-returns-clause-marked
taken_block-returns-clause-marked t c =
    let all = view_stmts c.args.all.now in
    scope_marks (λ x. takes_statements x all) (λ x. declared_in x all) (is_marked c.args.marks.now) (is_marked c.hide_all.new.marks) (is_marked c.taken_statements.new.marks) (is_marked c.put_back.new.marks)
    c.hide_all.new.hidden.items c.new-hidden.result.items c.new-hidden.ensures.items c.in_ok-hide_all.ensures.unmarked c.in_ok-hide_all.ensures.kept c.in_ok-parts.ensures.marked
    (λ x. c.in_ok-put_back.ensures x ∙ ap (λ l. is_among x l || is_marked c.taken_statements.new.marks x) c.as_slice.ensures.value)

pub taken_statements-loop-i-preserved : goal.taken_statements-loop-i-preserved
taken_statements-loop-i-preserved t c =
    let all = c.args.all.now in
    let here : drop (c.loop-i.i - 1) all ≡ c.index-all-i.result ∷ drop c.loop-i.i all = grind (arith, common_steps) in
    record {
      answer = statement_answers (c.loop-i.i - 1) all (drop c.loop-i.i all) c.index-all-i.result (is_marked c.args.marks.now) (is_marked c.loop-i.marks) c.in_ok-part.part c.loop-i.out.items c.push.new.self.items
          here c.requires c.loop-i.invariant.marked c.in_ok-part.ensures.answer c.in_ok-push.ensures.items c.loop-i.invariant.answer;
      marked = statement_marks (drop (c.loop-i.i - 1) all) (drop c.loop-i.i all) c.index-all-i.result (is_marked c.args.marks.now) (is_marked c.loop-i.marks) (is_marked c.taken_statement.new.marks)
          here c.loop-i.invariant.marked c.in_ok-part.ensures.marked;
    }

pub taken_statements-returns-clause-marked : goal.taken_statements-returns-clause-marked
taken_statements-returns-clause-marked t c = λ x.
    let done : c.loop-i.i ≡ 0 = omega arith in
    c.loop-i.invariant.marked x ∙ ap (λ n. before_statements (drop n c.args.all.now) (is_marked c.args.marks.now) x) done
