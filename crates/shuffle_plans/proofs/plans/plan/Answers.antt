use Rattle.std.proofs.Common.{◌≡◌, true, length}
use Rattle.std.specs.Prelude.{◌≤◌}
use Rattle.intel_table.specs.Rows.{form_of}
use Rattle.seq_core.specs.Formed.{WellFormed}
use Rattle.seq_core.specs.Called.{rows_called, plain}
use Rattle.shuffle_plans.specs.Plans.{IsPlan, GivesTheBlock, GivesTheRow}
use Rattle.shuffle_plans.proofs.Planned.{Holds, answer_holds, of_answer}
use Rattle.shuffle_plans.proofs.plans.plan.Goals as goal

pub returns-clause-choice : goal.returns-clause-choice
returns-clause-choice g c =
    of_answer c.planned.result (Holds c.args.chooser.now.stated (form_of c.args.op) c.args.imm c.args.half) (IsPlan c.args.chooser.now.stated (form_of c.args.op) c.args.imm c.args.half) (λ q h. h.choice)
    (answer_holds c.planned.result c.selections_are_rows.ensures.places c.args.chooser.now.stated c.form.result (form_of c.args.op) c.args.imm c.args.half c.form.ensures c.requires.shuffle c.requires.block c.planned.ensures)

pub returns-clause-value : goal.returns-clause-value
returns-clause-value g c =
    of_answer c.planned.result (Holds c.args.chooser.now.stated (form_of c.args.op) c.args.imm c.args.half) (GivesTheBlock (form_of c.args.op) c.args.imm c.args.half) (λ q h. h.value)
    (answer_holds c.planned.result c.selections_are_rows.ensures.places c.args.chooser.now.stated c.form.result (form_of c.args.op) c.args.imm c.args.half c.form.ensures c.requires.shuffle c.requires.block c.planned.ensures)

pub returns-clause-whole : goal.returns-clause-whole
returns-clause-whole g c =
    of_answer c.planned.result (Holds c.args.chooser.now.stated (form_of c.args.op) c.args.imm c.args.half) (GivesTheRow (form_of c.args.op) c.args.imm) (λ q h. h.whole)
    (answer_holds c.planned.result c.selections_are_rows.ensures.places c.args.chooser.now.stated c.form.result (form_of c.args.op) c.args.imm c.args.half c.form.ensures c.requires.shuffle c.requires.block c.planned.ensures)

pub returns-clause-formed : goal.returns-clause-formed
returns-clause-formed g c =
    of_answer c.planned.result (Holds c.args.chooser.now.stated (form_of c.args.op) c.args.imm c.args.half) WellFormed (λ q h. h.formed)
    (answer_holds c.planned.result c.selections_are_rows.ensures.places c.args.chooser.now.stated c.form.result (form_of c.args.op) c.args.imm c.args.half c.form.ensures c.requires.shuffle c.requires.block c.planned.ensures)

pub returns-clause-unmarked : goal.returns-clause-unmarked
returns-clause-unmarked g c =
    of_answer c.planned.result (Holds c.args.chooser.now.stated (form_of c.args.op) c.args.imm c.args.half) (λ q. plain q ≡ true) (λ q h. h.unmarked)
    (answer_holds c.planned.result c.selections_are_rows.ensures.places c.args.chooser.now.stated c.form.result (form_of c.args.op) c.args.imm c.args.half c.form.ensures c.requires.shuffle c.requires.block c.planned.ensures)

pub returns-clause-one_call : goal.returns-clause-one_call
returns-clause-one_call g c =
    of_answer c.planned.result (Holds c.args.chooser.now.stated (form_of c.args.op) c.args.imm c.args.half) (λ q. length (rows_called q) ≤ 1) (λ q h. h.one)
    (answer_holds c.planned.result c.selections_are_rows.ensures.places c.args.chooser.now.stated c.form.result (form_of c.args.op) c.args.imm c.args.half c.form.ensures c.requires.shuffle c.requires.block c.planned.ensures)
