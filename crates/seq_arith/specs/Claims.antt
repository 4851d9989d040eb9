-- What is claimed of the sequences of rows.
use Rattle.std.specs.Prelude.{◌≡◌, ℕ, List, [], ◌∷◌, Some}
use Rattle.lane_core.specs.declared.table.Arg.{Arg}
use Rattle.lane_core.specs.declared.table.ParamKind.{ParamKind}
use Rattle.lane_core.specs.declared.table.ParamKind.TheVariants as kind
use Rattle.lane_core.specs.Table.{Fits, params_of}
use Rattle.c_tree.specs.declared.types.CType.{CType}
use Rattle.intel_table.specs.declared.IntelOp.{IntelOp}
use Rattle.intel_table.specs.Rows.{signature_of, eval_of}
use Rattle.seq_core.specs.Terms.{Sequence}
use Rattle.seq_core.specs.Values.{evaluated}
use Rattle.seq_core.specs.Formed.{vector, WellFormed, sequence_type}
use Rattle.seq_arith.specs.Calls.{operands}
use Rattle.seq_arith.specs.Plans.{plan_of}

-- a carrier for each parameter but the immediate
abbrev pub carriers_of : List ParamKind → List CType
carriers_of [] = []
carriers_of (kind.Immediate ∷ ks) = carriers_of ks
carriers_of (k ∷ ks) = vector ∷ carriers_of ks

-- The sequence is well formed, takes a carrier for each parameter but the immediate and gives one, has no steps, and its value is the row's for
-- all arguments.
pub record IsRowSequence (op : IntelOp) (imm : ℕ) (q : Sequence) : Type 0 where
  pub formed : WellFormed q
  pub params : q.params ≡ carriers_of (params_of (signature_of op))
  pub result : sequence_type q ≡ vector
  pub steps : q.steps ≡ []
  pub value : (args : List Arg) → Fits (signature_of op) args → evaluated q (operands (params_of (signature_of op)) args) ≡ Some (eval_of op args imm)

abbrev pub PlansAreRows : Type 0
PlansAreRows = (op : IntelOp) (imm : ℕ) (q : Sequence) → plan_of op imm ≡ Some q → IsRowSequence op imm q
