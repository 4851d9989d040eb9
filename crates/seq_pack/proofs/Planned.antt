-- All that holds of each sequence.
use Rattle.std.proofs.Common.{◌≤◌, ℕ, length, Option, Some, None, arith}
use Rattle.intel_forms.specs.Forms.{signature_of, value_of}
use Rattle.intel_table.specs.Rows.{form_of}
use Rattle.seq_pack.specs.declared.plans.Shape.{Shape}
use Rattle.seq_pack.specs.declared.plans.Shape.TheVariants as shape
use Rattle.seq_pack.specs.Plans.{sequence_of, planned}
use Rattle.seq_pack.specs.Claims.{PlansAreRows}
use Rattle.seq_pack.proofs.Shapes.{IsWhole, plan_whole}
use Rattle.seq_pack.proofs.Values.{When, Gives, from_plan, plan_due}

few_steps : (p : Shape) (imm : ℕ) → length (sequence_of p imm).steps ≤ 2
few_steps shape.MinPosition imm = omega arith
few_steps _ imm = omega arith

plan_steps : (o : Option Shape) (imm : ℕ) → When (λ s. length s.steps ≤ 2) o imm
plan_steps None imm = tt
plan_steps (Some p) imm = few_steps p imm

pub plans_are_rows : PlansAreRows
plans_are_rows op imm q range e =
    let f = form_of op in
    let w = from_plan (IsWhole f) (planned f) imm (plan_whole f imm range) q e in
    record {
      formed = w.0;
      typed = w.1;
      steps = from_plan (λ s. length s.steps ≤ 2) (planned f) imm (plan_steps (planned f) imm) q e;
      value = from_plan (Gives (signature_of f) (λ args. value_of f args imm)) (planned f) imm (plan_due f imm) q e;
    }
