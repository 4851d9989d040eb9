use Rattle.std.proofs.Common.{◌≡◌, ◌≤◌, length, map, true}
use Rattle.std.proofs.lemmas.Result.{IfOk-weaker}
use Rattle.intel_table.specs.Rows.{form_of, signature_of, eval_of}
use Rattle.neon_table.specs.Rows.{name_of}
use Rattle.seq_core.specs.View.{view_seq}
use Rattle.seq_core.specs.Formed.{WellFormed}
use Rattle.seq_core.specs.Called.{rows_called, plain}
use Rattle.seq_arith.specs.Plans.{ceiling_of}
use Rattle.seq_arith.specs.Listed.{listed}
use Rattle.seq_arith.proofs.Values.{Gives, carry, plan_due}
use Rattle.seq_arith.proofs.Shapes.{IsWhole, plan_whole, named_so}
use Rattle.seq_arith.proofs.plans.plan.Goals as goal

pub returns-clause-value : goal.returns-clause-value
returns-clause-value c =
    let f = form_of c.args.op in
    carry c.listed.result f c.args.imm (Gives (signature_of c.args.op) (λ args. eval_of c.args.op args c.args.imm)) (plan_due f c.args.imm) c.listed.ensures

pub returns-clause-formed : goal.returns-clause-formed
returns-clause-formed c =
    let f = form_of c.args.op in
    let P = IsWhole (ceiling_of f) (listed f c.args.imm) in
    IfOk-weaker c.listed.result (λ s. P (view_seq s)) (λ s. WellFormed (view_seq s)) (λ s w. w.0) (carry c.listed.result f c.args.imm P (plan_whole f c.args.imm) c.listed.ensures)

pub returns-clause-ceiling : goal.returns-clause-ceiling
returns-clause-ceiling c =
    let f = form_of c.args.op in
    let P = IsWhole (ceiling_of f) (listed f c.args.imm) in
    IfOk-weaker c.listed.result (λ s. P (view_seq s)) (λ s. length (rows_called (view_seq s)) ≤ ceiling_of f) (λ s w. w.1) (carry c.listed.result f c.args.imm P (plan_whole f c.args.imm) c.listed.ensures)

pub returns-clause-unmarked : goal.returns-clause-unmarked
returns-clause-unmarked c =
    let f = form_of c.args.op in
    let P = IsWhole (ceiling_of f) (listed f c.args.imm) in
    IfOk-weaker c.listed.result (λ s. P (view_seq s)) (λ s. plain (view_seq s) ≡ true) (λ s w. w.2) (carry c.listed.result f c.args.imm P (plan_whole f c.args.imm) c.listed.ensures)

pub returns-clause-one_call : goal.returns-clause-one_call
returns-clause-one_call c names due =
    let f = form_of c.args.op in
    let P = IsWhole (ceiling_of f) (listed f c.args.imm) in
    IfOk-weaker c.listed.result (λ s. P (view_seq s)) (λ s. map name_of (rows_called (view_seq s)) ≡ names)
    (λ s w. named_so (listed f c.args.imm) (view_seq s) w.3 names due) (carry c.listed.result f c.args.imm P (plan_whole f c.args.imm) c.listed.ensures)
