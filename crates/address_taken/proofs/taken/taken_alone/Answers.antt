use Rattle.std.proofs.Common.{◌∙◌, map}
use Rattle.c_tree.specs.View.{view_declared}
use Rattle.address_taken.specs.Addressed.{is_declared}
use Rattle.address_taken.specs.Marks.{is_marked}
use Rattle.address_taken.specs.Taken.{no_more}
use Rattle.address_taken.proofs.Agree.{objects_agree}
use Rattle.address_taken.proofs.Walk.{hidden_is_none}
use Rattle.address_taken.proofs.taken.taken_alone.Goals as goal

pub returns-clause-answer : goal.returns-clause-answer
returns-clause-answer c =
    c.in_ok-out.ensures.answer ∙ objects_agree (map view_declared c.args.all.now) (is_marked c.hide_objects.new.marks) no_more
    (hidden_is_none (λ x. is_declared x (map view_declared c.args.all.now)) (is_marked c.args.marks.now) (is_marked c.hide_objects.new.marks) c.in_ok-hide_objects.ensures.unmarked)
