-- When the sequences of rows fit the rows.
use Rattle.std.specs.Prelude.{◌≡◌, ℕ, false, List, Some}
use Rattle.lane_core.specs.Table.{params_of, InImmRange}
use Rattle.c_memory.specs.Matching.{written_type}
use Rattle.intel_table.specs.declared.IntelOp.{IntelOp}
use Rattle.intel_table.specs.Rows.{find_of, signature_of, range_of}
use Rattle.type_rules.specs.Passing.{kind_type}
use Rattle.seq_core.specs.Formed.{sequence_type}
use Rattle.seq_core.specs.Terms.{Sequence}
use Rattle.written_forms.specs.Moved.{Plans}
use Rattle.written_forms.specs.Ready.{operand_types, Stands, IsCarried, AreCarried}
use Rattle.written_forms.specs.Vectors.{has_immediate}

-- the sequence stands for the row with this immediate, and its value has the type that the row's is written as
pub record FitsRow (op : IntelOp) (imm : ℕ) (q : Sequence) : Type 0 where
  pub stands : Stands op imm q
  pub result : sequence_type q ≡ written_type (kind_type (signature_of op).result)

-- Each sequence of a row that takes and gives integers and registers of 128 bits fits it, for every immediate in the row's range. The
-- immediate is 0 for a row without one.
abbrev pub AreFit : Plans → Type 0
AreFit plans =
    (f : List ℕ) (op : IntelOp) (imm : ℕ) (q : Sequence) → find_of f ≡ Some op → AreCarried (operand_types (params_of (signature_of op))) → IsCarried (kind_type (signature_of op).result)
    → InImmRange (range_of op) imm → (has_immediate (params_of (signature_of op)) ≡ false → imm ≡ 0) → plans f imm ≡ Some q → FitsRow op imm q
