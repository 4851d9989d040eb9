-- Rows of registers and integers: when a sequence stands for one.
use Rattle.std.specs.Prelude.{◌≡◌, ℕ, false, List, [], ◌∷◌, map, Some}
use Rattle.lane_core.specs.declared.table.Arg.{Arg}
use Rattle.lane_core.specs.declared.table.ParamKind.{ParamKind}
use Rattle.lane_core.specs.declared.table.ParamKind.TheVariants as kind
use Rattle.lane_core.specs.Table.{params_of, Fits, InImmRange}
use Rattle.c_memory.specs.Matching.{written_type}
use Rattle.intel_table.specs.declared.IntelOp.{IntelOp}
use Rattle.intel_table.specs.Rows.{signature_of, range_of, accesses_of, eval_of}
use Rattle.type_rules.specs.Passing.{kind_type}
use Rattle.seq_core.specs.Claims.{IsCallable}
use Rattle.seq_core.specs.Formed.{sequence_type}
use Rattle.seq_core.specs.Terms.{Sequence}
use Rattle.seq_core.specs.Values.{evaluated}
use Rattle.written_forms.specs.Ready.{operand_types, Stands}
use Rattle.written_forms.specs.Vectors.{has_immediate}

-- a register of 16 bytes, or an integer
abbrev pub IsValue : ParamKind → Type 0
IsValue (kind.Reg bytes) = bytes ≡ 16
IsValue (kind.Scalar t) = Unit {0}
IsValue k = ⊥

-- such parameters, and an immediate
abbrev pub AreValues : List ParamKind → Type 0
AreValues [] = Unit {0}
AreValues (kind.Immediate ∷ ks) = AreValues ks
AreValues (k ∷ ks) = IsValue k × AreValues ks

-- the row takes registers and integers and perhaps an immediate, gives a register or an integer and touches no memory
pub record IsValueRow (op : IntelOp) : Type 0 where
  pub params : AreValues (params_of (signature_of op))
  pub result : IsValue (signature_of op).result
  pub still : accesses_of op ≡ 0

-- the arguments of a row but the place of its immediate: a sequence takes these
abbrev pub but_immediate : List ParamKind → List Arg → List Arg
but_immediate (kind.Immediate ∷ ks) (a ∷ rest) = but_immediate ks rest
but_immediate (k ∷ ks) (a ∷ rest) = a ∷ but_immediate ks rest
but_immediate _ args = []

-- A sequence that can be called, whose parameters and value have the types that the row's are written as, and whose value for all arguments is
-- the row's, stands for the row. The immediate is in the row's range, and 0 for a row without one.
abbrev pub ValueRowsStand : Type 0
ValueRowsStand =
    (op : IntelOp) (imm : ℕ) (q : Sequence) → IsValueRow op → InImmRange (range_of op) imm → (has_immediate (params_of (signature_of op)) ≡ false → imm ≡ 0) → IsCallable q
    → q.params ≡ map written_type (operand_types (params_of (signature_of op))) → sequence_type q ≡ written_type (kind_type (signature_of op).result)
    → ((args : List Arg) → Fits (signature_of op) args → evaluated q (but_immediate (params_of (signature_of op)) args) ≡ Some (eval_of op args imm))
    → Stands op imm q
