-- What is claimed of the sequence of a row that touches memory.
use Rattle.std.specs.Prelude.{◌≡◌, ℕ, List, [], ◌∷◌, Option, Some}
use Rattle.lane_core.specs.declared.table.ParamKind.{ParamKind}
use Rattle.lane_core.specs.declared.table.ParamKind.TheVariants as kind
use Rattle.lane_core.specs.Register.{IsRegister}
use Rattle.lane_core.specs.Table.{params_of}
use Rattle.c_memory.specs.declared.blocks.Block.{Block}
use Rattle.c_memory.specs.declared.value.Value.{Value}
use Rattle.c_memory.specs.MeaningRows.{RowTable, rows_of, row_result, immediate}
use Rattle.intel_table.specs.declared.IntelOp.{IntelOp}
use Rattle.intel_forms.specs.Forms as forms
use Rattle.intel_forms.specs.declared.forms.Form.{Form}
use Rattle.intel_forms.specs.declared.forms.Form.TheVariants as form
use Rattle.intel_forms.specs.declared.memory.Memory.TheVariants as row
use Rattle.intel_table.specs.Rows.{find_of, form_of, signature_of, range_of, accesses_of, access_of, eval_of}
use Rattle.seq_core.specs.Terms.{Sequence}
use Rattle.seq_core.specs.Actions.{sequence_in}

-- the Intel rows as the meaning of C takes them
abbrev pub table : RowTable IntelOp
table = rows_of find_of signature_of range_of accesses_of access_of eval_of

-- each vector among the values is a register: its entries are bytes
abbrev pub AreRegisters : List Value → Type 0
AreRegisters [] = Unit {0}
AreRegisters (Value.R8 r ∷ vs) = IsRegister 8 r × AreRegisters vs
AreRegisters (Value.R16 r ∷ vs) = IsRegister 16 r × AreRegisters vs
AreRegisters (Value.R32 r ∷ vs) = IsRegister 32 r × AreRegisters vs
AreRegisters (v ∷ vs) = AreRegisters vs

-- what is asked of the values of a row that takes parts of its registers: that they are registers, and that the constant among the values is imm
abbrev pub Asked : Form → ℕ → List Value → Type 0
Asked (form.Memory row.StoreLow) imm vs = AreRegisters vs
Asked (form.Memory (row.MaskLoad size width)) imm vs = AreRegisters vs
Asked (form.Memory (row.Gather size indexing)) imm vs = AreRegisters vs × (immediate (params_of (forms.signature_of (form.Memory (row.Gather size indexing)))) vs ≡ imm)
Asked (form.Memory (row.MaskGather size indexing)) imm vs = AreRegisters vs × (immediate (params_of (forms.signature_of (form.Memory (row.MaskGather size indexing)))) vs ≡ imm)
Asked f imm vs = Unit {0}

-- the values but the constant: a sequence takes these
abbrev pub operands : List ParamKind → List Value → List Value
operands (kind.Immediate ∷ ks) (v ∷ vs) = operands ks vs
operands (k ∷ ks) (v ∷ vs) = v ∷ operands ks vs
operands _ vs = vs

-- for all pointers and registers, and over every memory where a call of the row is defined, the sequence gives what the row gives, and
-- leaves the memory that the row leaves
abbrev pub DoesAsTheRow : IntelOp → ℕ → Sequence → Type 0
DoesAsTheRow op imm q = (vs : List Value) (memory after : List Block) (o : Option Value) → Asked (form_of op) imm vs
    → row_result table op vs memory ≡ Some (o, after) → sequence_in q (operands (params_of (signature_of op)) vs) memory ≡ Some (o, after)
