use Rattle.std.proofs.Common.{◌≡◌, ◌∙◌, ◌||◌, sym, ap}
use Rattle.c_tree.specs.Tree.{Choice}
use Rattle.c_tree.specs.View.{view, view_kind}
use Rattle.address_taken.specs.Addressed.{takes, takes_in}
use Rattle.address_taken.specs.Marks.{is_marked}
use Rattle.address_taken.proofs.Truth.{three}
use Rattle.address_taken.proofs.Walk.{on_ok, view_choice}
use Rattle.address_taken.proofs.marking.+marking.Goals as goal

pub mark_taken_in-returns-in_ok-mark_taken-in-Choice-2 : goal.mark_taken_in-returns-in_ok-mark_taken-in-Choice-2
mark_taken_in-returns-in_ok-mark_taken-in-Choice-2 t c =
    let e : view_kind c.args.k.now ≡ Choice (view c.in-Choice.c) (view c.in-Choice.a) (view c.in-Choice.b) = ap view_kind c.in-Choice.is ∙ view_choice c.in-Choice.c c.in-Choice.a c.in-Choice.b in
    on_ok c.mark_taken-in-Choice-3.result
    (λ h x. three (takes x (view c.in-Choice.a)) (takes x (view c.in-Choice.b)) (takes x (view c.in-Choice.c)) (is_marked c.args.marks.now x) _ _ _ (c.in_ok-mark_taken-in-Choice.ensures x) (c.in_ok-mark_taken-in-Choice-2.ensures x) (h x)
    ∙ ap (λ k. takes_in x k || is_marked c.args.marks.now x) (sym e))
    c.mark_taken-in-Choice-3.ensures
