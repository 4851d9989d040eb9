-- What holds of every row.
use Rattle.std.proofs.Common.{◌≡◌, ℕ, ◌≤◌, List, length}
use Rattle.std.specs.Prelude.{IfSome}
use Rattle.lane_core.specs.declared.table.Arg.{Arg}
use Rattle.lane_core.specs.Table.{Fits, FitsResult, InImmRange}
use Rattle.neon_forms.specs.Laws as law
use Rattle.neon_forms.specs.Laws.{Inside}
use Rattle.neon_table.specs.declared.NeonOp.{NeonOp}
use Rattle.neon_table.specs.Rows.{form_of, signature_of, range_of, access_of, register_of, eval_of}

-- a signature has at most 32 parameters
pub counts_parameters : (op : NeonOp) → ((signature_of op).count ≤ 32) × (length (signature_of op).params ≡ 32)
counts_parameters op = law.counts_parameters (form_of op)

-- a value has the kind of the row's result
pub gives_its_kind : (op : NeonOp) (args : List Arg) (imm : ℕ) → Fits (signature_of op) args → InImmRange (range_of op) imm → FitsResult (signature_of op).result (eval_of op args imm)
gives_its_kind op args imm fit range = law.gives_its_kind (form_of op) args imm fit

-- accesses lie in the row's register
pub accesses_inside : (op : NeonOp) (args : List Arg) (imm k : ℕ) → IfSome (access_of op args imm k) (Inside (register_of op))
accesses_inside op args imm k = law.accesses_inside (form_of op) k
