-- What selections say of shuffle rows.
use Rattle.std.specs.Prelude.{◌≡◌, ℕ, ◌≤◌, ◌<◌, List, true}
use Rattle.lane_core.specs.declared.table.Arg.{Arg}
use Rattle.lane_core.specs.Table.{Fits}
use Rattle.intel_forms.specs.declared.forms.Form.{Form}
use Rattle.intel_forms.specs.Forms.{signature_of, value_of}
use Rattle.shuffle_plans.specs.Operands.{selected, picks, IsPlace, block_of, first_operand, second_operand}
use Rattle.shuffle_plans.specs.Selections.{is_shuffle, picked_at}

-- each block of the row's value has the selection's bytes, for every immediate and all registers
abbrev pub SelectionsAreRows : Type 0
SelectionsAreRows = (f : Form) (args : List Arg) (imm half : ℕ) → is_shuffle f ≡ true → Fits (signature_of f) args → half ≤ 1
    → block_of half (value_of f args imm) ≡ selected (picks (picked_at f imm half)) (first_operand f half args) (second_operand f half args)

-- each number is a place in its operand
abbrev pub PicksArePlaces : Type 0
PicksArePlaces = (f : Form) (imm half i : ℕ) → half ≤ 1 → i < 16 → IsPlace (picked_at f imm half i)
