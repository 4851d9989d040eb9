-- What is claimed of the sequences of rows.
use Rattle.std.specs.Prelude.{◌≡◌, ◌≤◌, ℕ, List, length, Some}
use Rattle.lane_core.specs.declared.table.Arg.{Arg}
use Rattle.lane_core.specs.Table.{Fits, InImmRange, params_of}
use Rattle.intel_table.specs.declared.IntelOp.{IntelOp}
use Rattle.intel_table.specs.Rows.{signature_of, range_of, eval_of}
use Rattle.seq_core.specs.Terms.{Sequence}
use Rattle.seq_core.specs.Values.{evaluated}
use Rattle.seq_core.specs.Formed.{WellFormed}
use Rattle.seq_pack.specs.Calls.{operands}
use Rattle.seq_pack.specs.Plans.{plan_of}
use Rattle.seq_pack.specs.Listed.{IsTyped}

-- The sequence is well formed, takes and gives what the row does, has two steps at most, and its value is the row's for all arguments.
pub record IsRowSequence (op : IntelOp) (imm : ℕ) (q : Sequence) : Type 0 where
  pub formed : WellFormed q
  pub typed : IsTyped (signature_of op) q
  pub steps : length q.steps ≤ 2
  pub value : (args : List Arg) → Fits (signature_of op) args → evaluated q (operands (params_of (signature_of op)) args) ≡ Some (eval_of op args imm)

abbrev pub PlansAreRows : Type 0
PlansAreRows = (op : IntelOp) (imm : ℕ) (q : Sequence) → InImmRange (range_of op) imm → plan_of op imm ≡ Some q → IsRowSequence op imm q
