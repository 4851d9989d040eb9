-- What is claimed of the sequences of shuffle rows.
use Rattle.std.specs.Prelude.{◌≡◌, ℕ, ◌<◌, List, [], ◌∷◌, length, get_or, Bool, true, false, Some, if◌then◌else◌}
use Rattle.lane_core.specs.Register.{IsRegister}
use Rattle.lane_core.specs.declared.table.Arg.{Arg}
use Rattle.lane_core.specs.declared.table.Arg.TheVariants as arg
use Rattle.lane_core.specs.Table.{Fits}
use Rattle.intel_forms.specs.declared.sizes.Size.TheVariants.{Xmm}
use Rattle.intel_forms.specs.declared.across.Across.TheVariants.{PermuteQwords}
use Rattle.intel_forms.specs.declared.forms.Form.{Form as Row}
use Rattle.intel_forms.specs.declared.forms.Form.TheVariants as row
use Rattle.intel_forms.specs.Forms.{signature_of, value_of}
use Rattle.price_choice.specs.declared.forms.Pick.{Pick}
use Rattle.price_choice.specs.declared.forms.Pick.TheVariants as pick
use Rattle.price_choice.specs.declared.forms.Form.{Form}
use Rattle.price_choice.specs.declared.forms.Form.TheVariants.{TablePair}
use Rattle.price_choice.specs.Forms.{gives_of, IsForm}
use Rattle.price_choice.specs.List.{forms}
use Rattle.price_choice.specs.Choice.{IsFirstLeast, price_by}
use Rattle.seq_core.specs.Terms.{Sequence}
use Rattle.seq_core.specs.Values.{evaluated}
use Rattle.seq_core.specs.Called.{rows_called}
use Rattle.shuffle_plans.specs.Operands.{selected, IsPlace, picks, block_of, first_operand, second_operand}
use Rattle.shuffle_plans.specs.Selections.{picked_at}
use Rattle.shuffle_plans.specs.Sequences.{calls_of, sequence_of}

-- the blocks of the row's result are made of two operands: of two registers, or of the blocks of one
abbrev pub has_two : Row → Bool
has_two (row.Two size op) = true
has_two (row.TwoImm size op) = true
has_two (row.Across PermuteQwords) = true
has_two _ = false

-- the arguments of the sequence of a block: the row's operands there
abbrev pub operands_of : Row → ℕ → List Arg → List Arg
operands_of f half args = arg.R16 (first_operand f half args) ∷ (if has_two f then arg.R16 (second_operand f half args) ∷ [] else [])

-- the sequence by a form of the list
abbrev pub plan_by : Form → Row → ℕ → ℕ → Sequence
plan_by f r imm half = sequence_of (has_two r) f (picks (picked_at r imm half))

-- a form of the list, the first one of least price that gives the row's selection
abbrev pub IsChoice : List ℕ → Row → ℕ → ℕ → Form → Type 0
IsChoice stated r imm half f = (i : ℕ) × IsFirstLeast (λ f. gives_of f (picks (picked_at r imm half))) (price_by stated) forms TablePair i × (f ≡ get_or forms i TablePair)

-- the sequence is that of the choice
abbrev pub IsPlannedBy : List ℕ → Row → ℕ → ℕ → Sequence → Type 0
IsPlannedBy stated r imm half s = (f : Form) × IsChoice stated r imm half f × (s ≡ plan_by f r imm half)

-- the sequence is that of the choice, and its Neon calls are the choice's call
abbrev pub IsPlan : List ℕ → Row → ℕ → ℕ → Sequence → Type 0
IsPlan stated r imm half s = (f : Form) × IsChoice stated r imm half f × (s ≡ plan_by f r imm half) × (rows_called s ≡ calls_of f)

-- the value is the block of the row's value, for all arguments
abbrev pub GivesTheBlock : Row → ℕ → ℕ → Sequence → Type 0
GivesTheBlock r imm half s = (args : List Arg) → Fits (signature_of r) args → evaluated s (operands_of r half args) ≡ Some (arg.R16 (block_of half (value_of r args imm)))

-- rows of 128 bits, whose result is one block
abbrev pub is_one_block : Row → Bool
is_one_block (row.One Xmm op) = true
is_one_block (row.Two Xmm op) = true
is_one_block (row.OneImm Xmm op) = true
is_one_block (row.TwoImm Xmm op) = true
is_one_block (row.Broadcast Xmm width) = true
is_one_block _ = false

-- the arguments but the one in the place of the immediate
abbrev pub vectors_of : List Arg → List Arg
vectors_of [] = []
vectors_of (arg.Nothing ∷ rest) = vectors_of rest
vectors_of (x ∷ rest) = x ∷ vectors_of rest

-- over the row's own arguments the value is the row's value
abbrev pub GivesTheRow : Row → ℕ → Sequence → Type 0
GivesTheRow r imm s = (args : List Arg) → is_one_block r ≡ true → Fits (signature_of r) args → evaluated s (vectors_of args) ≡ Some (value_of r args imm)

-- where a form of the list gives a selection, its sequence gives the selection's bytes, for all registers
abbrev pub FormsGive : Type 0
FormsGive = (f : Form) (want : List Pick) (a b : List ℕ) → IsForm f → gives_of f want ≡ true → length want ≡ 16 → ((i : ℕ) → i < 16 → IsPlace (get_or want i pick.Zero)) → IsRegister 16 a → IsRegister 16 b
    → evaluated (sequence_of true f want) (arg.R16 a ∷ arg.R16 b ∷ []) ≡ Some (arg.R16 (selected want a b))
