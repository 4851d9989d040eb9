-- What the top call does, status by status. The source tells that it has left `before`, and what is left afterwards is
-- `after`; the sinks hold `old`, and hold `new` afterwards.
use Rattle.std.specs.Prelude.{◌≡◌, ◌≤◌, ℕ, List, [], length, Option, Some, None, Ok, ◌⊎◌, codes}
use Rattle.mig_io.specs.Outside.{Rose, Grew, GrewInPart}
use Rattle.simd_top.specs.declared.status.Status.{Status}
use Rattle.simd_top.specs.declared.status.Status.TheVariants.{Done, Undefined, Turns, WriteFault}
use Rattle.simd_top.specs.declared.due.Due.{Due}
use Rattle.simd_top.specs.declared.due.Due.TheVariants as due
use Rattle.c_text.specs.declared.tokens.Dialect.TheVariants.{X86, Neon}
use Rattle.c_tree.specs.Tree.{External}
use Rattle.c_print.specs.Text.{text_of}
use Rattle.vector_types.specs.Units.{check_unit}
use Rattle.simd_top.specs.Compared.{IsCompared}
use Rattle.simd_top.specs.Migrated.{Migrated}
use Rattle.simd_top.specs.Ran.{Ran}
use Rattle.simd_top.specs.Refusals.{IsRefused, AreLines, IsAdmitted}
use Rattle.simd_top.specs.Source.{source_limit, HasUnit}
use Rattle.simd_top.specs.Words.{Command, Migrate, Run, Both, dialect_of, asked}

abbrev pub usage_line : List ℕ
usage_line = codes "usage: simdmove migrate [KIND=PRICE].. | profile | run x86|neon NAME TURNS ITEM.. | both NAME TURNS ITEM.. | sample K [migrate]\n"

-- The source is a unit, and its function ran in it and in the unit that the written text of it is, with its types: the text tells both runs.
pub record RanBoth (name : List ℕ) (turns : ℕ) (items : List (List ℕ)) (source : List ℕ) (status : Status) (text : List ℕ) : Type 0 where
  pub unit : List External
  pub written_unit : List External
  pub typed_unit : List External
  pub has_unit : HasUnit X86 source unit
  pub is_migrated : Migrated source (text_of written_unit)
  pub typed : check_unit Neon written_unit ≡ Ok typed_unit
  pub compared : IsCompared unit typed_unit name turns items text status

-- what the bytes of a source call for: the text for the output, and the status
abbrev pub Calls : Command → List ℕ → Status → List ℕ → Type 0
Calls Migrate source status text = (status ≡ Done) × Migrated source text
Calls (Run dialect name turns items) source status text = Ran dialect name turns items source status text
Calls (Both name turns items) source status text = RanBoth name turns items source status text

-- The source calls for the text and the status, and all of it was read; of a source that doesn't tell its bytes some source calls for them.
abbrev pub Writes : Command → Status → Option (List ℕ) → Option (List ℕ) → List ℕ → Type 0
Writes c status (Some source) after text = (length source ≤ source_limit (dialect_of c)) × Calls c source status text × (after ≡ Some [])
Writes c status None after text = (source : List ℕ) × (length source ≤ source_limit (dialect_of c)) × Calls c source status text

-- The lines say why the source is refused; of a source that doesn't tell its bytes they say why some source is.
abbrev pub Refuses : Command → Option (List ℕ) → List ℕ → Type 0
Refuses c (Some source) lines = IsRefused c source lines
Refuses c None lines = (source : List ℕ) × IsRefused c source lines

-- The source tells its bytes, and they are a unit that is admitted.
abbrev pub Admits : Command → Option (List ℕ) → Type 0
Admits c (Some source) = IsAdmitted c source
Admits c None = ⊥

-- the words ask for a command, for which the source is admitted
abbrev pub IsServed : List (List ℕ) → Option (List ℕ) → Type 0
IsServed words before = (c : Command) × (asked words ≡ Some c) × Admits c before

-- what is due to be written: a text to the output, or lines to the report
abbrev pub IsDue : Command → Option (List ℕ) → Option (List ℕ) → Due → Type 0
IsDue c before after (due.Done text) = Writes c Done before after text.items
IsDue c before after (due.Undefined text) = Writes c Undefined before after text.items
IsDue c before after (due.Turns text) = Writes c Turns before after text.items
IsDue c before after (due.Report lines) = Refuses c before lines.items

-- the same of bytes that were read
abbrev pub IsAnswer : Command → List ℕ → Due → Type 0
IsAnswer c source (due.Done text) = Calls c source Done text.items
IsAnswer c source (due.Undefined text) = Calls c source Undefined text.items
IsAnswer c source (due.Turns text) = Calls c source Turns text.items
IsAnswer c source (due.Report lines) = IsRefused c source lines.items

-- A sink that held `old` took the text whole and the call ended with this status; or it had a fault and took a proper prefix.
abbrev pub Ends : Status → Status → List ℕ → Option (List ℕ) → Option (List ℕ) → ℕ → ℕ → Type 0
Ends result status text old new faults faults_now =
    ((result ≡ status) × Grew old text new) ⊎ ((result ≡ WriteFault) × (Rose faults faults_now × GrewInPart old text new))

-- a sink had a fault, and took a proper prefix of the text
abbrev pub Breaks : List ℕ → Option (List ℕ) → Option (List ℕ) → ℕ → ℕ → Type 0
Breaks text old new faults faults_now = Rose faults faults_now × GrewInPart old text new

-- the words ask for a command, and the output grew by the text that the source calls for with this status
abbrev pub Answers : Status → List (List ℕ) → Option (List ℕ) → Option (List ℕ) → Option (List ℕ) → Option (List ℕ) → Type 0
Answers status words before after old new = (c : Command) × (asked words ≡ Some c) × (text : List ℕ) × Writes c status before after text × Grew old text new

-- the words ask for a command, and the report grew by the lines that say why the source is refused, each with a number from 1 to 22
abbrev pub Reports : List (List ℕ) → Option (List ℕ) → Option (List ℕ) → Option (List ℕ) → Type 0
Reports words before old new = (c : Command) × (asked words ≡ Some c) × (lines : List ℕ) × Refuses c before lines × AreLines lines × Grew old lines new

-- the words ask for no command
abbrev pub AsksNothing : List (List ℕ) → Type 0
AsksNothing words = asked words ≡ None

-- the words ask for a command
abbrev pub Asks : List (List ℕ) → Type 0
Asks words = (c : Command) × (asked words ≡ Some c)

-- the words ask for a command, and the output took a proper prefix of the text that the source calls for
abbrev pub BreaksOut : List (List ℕ) → Option (List ℕ) → Option (List ℕ) → Option (List ℕ) → Option (List ℕ) → ℕ → ℕ → Type 0
BreaksOut words before after old new faults faults_now =
    (c : Command) × (asked words ≡ Some c) × (status : Status) × (text : List ℕ) × Writes c status before after text × Breaks text old new faults faults_now

-- the words ask for a command, and the report took a proper prefix of the lines that say why the source is refused
abbrev pub BreaksReport : List (List ℕ) → Option (List ℕ) → Option (List ℕ) → Option (List ℕ) → ℕ → ℕ → Type 0
BreaksReport words before old new faults faults_now =
    (c : Command) × (asked words ≡ Some c) × (lines : List ℕ) × Refuses c before lines × Breaks lines old new faults faults_now
