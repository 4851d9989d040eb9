-- What is due for a unit that has types.
use Rattle.std.specs.Prelude.{◌≡◌, ℕ, List, [], ◌∷◌, length, None, Ok, Vec}
use Rattle.std.specs.declared.alloc.Global.{Global}
use Rattle.c_text.specs.declared.tokens.Dialect.TheVariants.{Neon}
use Rattle.c_text.specs.declared.refusals.Refusal.{Refusal}
use Rattle.c_tree.specs.Tree.{External}
use Rattle.c_print.specs.Text.{text_of}
use Rattle.c_memory.specs.declared.blocks.Block.{Block}
use Rattle.c_memory.specs.declared.value.Value.{Value}
use Rattle.c_memory.specs.Meaning.{means}
use Rattle.migrate_report.specs.Fits.{fitting, Fit}
use Rattle.migrate_report.specs.Lines.{refusal_lines}
use Rattle.migrate_report.specs.Texts.{run_text}
use Rattle.simd_top.specs.declared.due.Due.{Due}
use Rattle.simd_top.specs.declared.due.Due.TheVariants as due
use Rattle.simd_top.specs.declared.status.Status.{Status}
use Rattle.simd_top.specs.declared.status.Status.TheVariants.{Done, Refused, Undefined, Turns}
use Rattle.vector_types.specs.Units.{check_unit}
use Rattle.simd_top.specs.Compared.{IsCompared}
use Rattle.simd_top.specs.Form.{first_outside}
use Rattle.simd_top.specs.Ran.{rows, status_of}
use Rattle.simd_top.specs.Refusals.{IsRefusedUnit}
use Rattle.simd_top.specs.Words.{Command, Migrate, Run, Both}
use Rattle.simd_top.specs.Written.{moved_unit}

-- the text of the Neon unit that stands for it, where it is of the first form; or that of the run or the runs, and its status
abbrev pub IsTextOf : Command → List External → Status → List ℕ → Type 0
IsTextOf Migrate unit status text = (status ≡ Done) × (first_outside [] unit ≡ None) × (text ≡ text_of (moved_unit unit))
IsTextOf (Run dialect name turns items) unit status text =
    (args : List Value) × (memory : List Block) × (fitting unit name items ≡ Fit args memory) ×
    (status ≡ status_of (means (rows dialect) unit name args memory turns)) ×
    (text ≡ run_text unit (length memory) (means (rows dialect) unit name args memory turns))
IsTextOf (Both name turns items) unit status text =
    (first_outside [] unit ≡ None) × (typed : List External) × (check_unit Neon (moved_unit unit) ≡ Ok typed) × IsCompared unit typed name turns items text status

-- or the line of its refusal
abbrev pub IsDueFor : Command → List External → Due → Type 0
IsDueFor c unit (due.Done text) = IsTextOf c unit Done text.items
IsDueFor c unit (due.Undefined text) = IsTextOf c unit Undefined text.items
IsDueFor c unit (due.Turns text) = IsTextOf c unit Turns text.items
IsDueFor c unit (due.Report lines) = (r : Refusal) × IsRefusedUnit c unit r × (lines.items ≡ refusal_lines (r ∷ []))

-- the status with which it is written, and the text
abbrev pub status_due : Due → Status
status_due (due.Done text) = Done
status_due (due.Undefined text) = Undefined
status_due (due.Turns text) = Turns
status_due (due.Report lines) = Refused

abbrev pub text_due : Due → List ℕ
text_due (due.Done text) = text.items
text_due (due.Undefined text) = text.items
text_due (due.Turns text) = text.items
text_due (due.Report lines) = lines.items

-- the text with that status, where it is one of a run
abbrev pub Shows : Status → Vec ℕ Global → Due → Type 0
Shows Undefined text d = d ≡ due.Undefined text
Shows Turns text d = d ≡ due.Turns text
Shows status text d = d ≡ due.Done text
