use Rattle.std.proofs.Common.{refl, ◌≡◌, ◌≤◌, ℕ, length, true, Result, Ok, Err, IfOk, Some}
use Rattle.std.proofs.lemmas.Result.{IfOk-weaker}
use Rattle.intel_table.specs.declared.IntelOp.{IntelOp}
use Rattle.intel_table.specs.Rows.{form_of}
use Rattle.seq_core.specs.declared.terms.Seq.{Seq}
use Rattle.seq_core.specs.View.{view_seq}
use Rattle.seq_core.specs.Terms.{Sequence}
use Rattle.seq_core.specs.Called.{plain, rows_called}
use Rattle.seq_core.specs.Formed.{WellFormed}
use Rattle.seq_memory.specs.Plans.{plan_of, ceiling_of}
use Rattle.seq_memory.specs.Claims.{DoesAsTheRow}
use Rattle.seq_memory.proofs.Formed.{does, Fine, fine}
use Rattle.seq_memory.proofs.plans.plan.Goals as goal

carried : {E : Type 0} (op : IntelOp) (imm : ℕ) (P : Sequence → Type 0) → ((q : Sequence) → plan_of (form_of op) imm ≡ Some q → P q) → (r : Result Seq E) → IfOk r (λ s. plan_of (form_of op) imm ≡ Some (view_seq s)) → IfOk r (λ s. P (view_seq s))
carried op imm P k (Ok s) h = k (view_seq s) h
carried op imm P k (Err e) h = tt

pub returns-clause-does : goal.returns-clause-does
returns-clause-does c = carried c.args.op c.args.imm (DoesAsTheRow c.args.op c.args.imm) (does c.args.op (form_of c.args.op) c.args.imm refl) c.of_form.result (rw⁻¹ c.form.ensures c.of_form.ensures)

pub returns-clause-formed : goal.returns-clause-formed
returns-clause-formed c =
    let f = form_of c.args.op in
    IfOk-weaker c.of_form.result (λ s. Fine f (view_seq s)) (λ s. WellFormed (view_seq s)) (λ s w. w.0) (carried c.args.op c.args.imm (Fine f) (fine f c.args.imm) c.of_form.result (rw⁻¹ c.form.ensures c.of_form.ensures))

pub returns-clause-ceiling : goal.returns-clause-ceiling
returns-clause-ceiling c =
    let f = form_of c.args.op in
    IfOk-weaker c.of_form.result (λ s. Fine f (view_seq s)) (λ s. length (rows_called (view_seq s)) ≤ ceiling_of f) (λ s w. w.1)
    (carried c.args.op c.args.imm (Fine f) (fine f c.args.imm) c.of_form.result (rw⁻¹ c.form.ensures c.of_form.ensures))

pub returns-clause-unmarked : goal.returns-clause-unmarked
returns-clause-unmarked c scalar =
    let f = form_of c.args.op in
    IfOk-weaker c.of_form.result (λ s. Fine f (view_seq s)) (λ s. plain (view_seq s) ≡ true) (λ s w. w.2 scalar)
    (carried c.args.op c.args.imm (Fine f) (fine f c.args.imm) c.of_form.result (rw⁻¹ c.form.ensures c.of_form.ensures))
