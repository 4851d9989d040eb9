-- Rows of registers alone: when a sequence stands for one.
use Rattle.std.specs.Prelude.{◌≡◌, ℕ, Bool, true, false, List, [], ◌∷◌, map, Some}
use Rattle.lane_core.specs.declared.table.Arg.{Arg}
use Rattle.lane_core.specs.declared.table.ParamKind.{ParamKind}
use Rattle.lane_core.specs.declared.table.ParamKind.TheVariants as kind
use Rattle.lane_core.specs.Register.{IsRegister}
use Rattle.lane_core.specs.Table.{params_of, InImmRange}
use Rattle.c_memory.specs.Matching.{written_type}
use Rattle.intel_table.specs.declared.IntelOp.{IntelOp}
use Rattle.intel_table.specs.Rows.{signature_of, range_of, accesses_of, eval_of}
use Rattle.seq_core.specs.Claims.{IsCallable}
use Rattle.seq_core.specs.Terms.{Sequence}
use Rattle.seq_core.specs.Values.{evaluated}
use Rattle.written_forms.specs.Ready.{operand_types, Stands}

-- registers of 16 bytes, and an immediate
abbrev pub AreVectors : List ParamKind → Type 0
AreVectors [] = Unit {0}
AreVectors (kind.Reg bytes ∷ ks) = (bytes ≡ 16) × AreVectors ks
AreVectors (kind.Immediate ∷ ks) = AreVectors ks
AreVectors _ = ⊥

abbrev pub has_immediate : List ParamKind → Bool
has_immediate [] = false
has_immediate (kind.Immediate ∷ ks) = true
has_immediate (k ∷ ks) = has_immediate ks

-- the row takes registers and perhaps an immediate, gives a register and touches no memory
pub record IsVectorRow (op : IntelOp) : Type 0 where
  pub params : AreVectors (params_of (signature_of op))
  pub result : (signature_of op).result ≡ kind.Reg 16
  pub still : accesses_of op ≡ 0

-- one register for each parameter but the immediate
abbrev pub AreRegisters : List ParamKind → List (List ℕ) → Type 0
AreRegisters [] [] = Unit {0}
AreRegisters (kind.Immediate ∷ ks) rs = AreRegisters ks rs
AreRegisters (k ∷ ks) (r ∷ rs) = IsRegister 16 r × AreRegisters ks rs
AreRegisters _ _ = ⊥

-- the row's arguments
abbrev pub vector_arguments : List ParamKind → List (List ℕ) → List Arg
vector_arguments (kind.Immediate ∷ ks) rs = Arg.Nothing ∷ vector_arguments ks rs
vector_arguments (k ∷ ks) (r ∷ rs) = Arg.R16 r ∷ vector_arguments ks rs
vector_arguments _ _ = []

-- A sequence that can be called, whose parameters are vectors and whose value for all registers is the row's, stands for the row. The
-- immediate is in the row's range, and 0 for a row without one.
abbrev pub VectorRowsStand : Type 0
VectorRowsStand =
    (op : IntelOp) (imm : ℕ) (q : Sequence) → IsVectorRow op → InImmRange (range_of op) imm → (has_immediate (params_of (signature_of op)) ≡ false → imm ≡ 0) → IsCallable q
    → q.params ≡ map written_type (operand_types (params_of (signature_of op)))
    → ((rs : List (List ℕ)) → AreRegisters (params_of (signature_of op)) rs → evaluated q (map Arg.R16 rs) ≡ Some (eval_of op (vector_arguments (params_of (signature_of op)) rs) imm))
    → Stands op imm q
