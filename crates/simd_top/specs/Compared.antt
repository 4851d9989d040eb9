-- How a function runs in two units, and the text that tells it.
use Rattle.std.specs.Prelude.{◌≡◌, ℕ, List, [], ◌++◌, length, Bool, true, false, codes, ◌⊎◌}
use Rattle.c_text.specs.declared.tokens.Dialect.{Dialect}
use Rattle.c_text.specs.declared.tokens.Dialect.TheVariants.{X86, Neon}
use Rattle.c_tree.specs.Tree.{External}
use Rattle.c_memory.specs.declared.blocks.Block.{Block}
use Rattle.c_memory.specs.declared.value.Value.{Value}
use Rattle.c_memory.specs.Outcomes as outcomes
use Rattle.c_memory.specs.Outcomes.{Outcome}
use Rattle.c_memory.specs.Meaning.{means}
use Rattle.migrate_report.specs.declared.fits.FitFail.{FitFail}
use Rattle.migrate_report.specs.declared.fits.FitFail.TheVariants as fail
use Rattle.migrate_report.specs.Fits.{fitting, Fit, NoFunction, DontFit}
use Rattle.migrate_report.specs.Texts.{run_text}
use Rattle.simd_top.specs.declared.status.Status.{Status}
use Rattle.simd_top.specs.Ran.{rows, status_of}

-- the function has this outcome in a memory with n blocks, with what the items give it
pub record IsRun (dialect : Dialect) (unit : List External) (name : List ℕ) (turns : ℕ) (items : List (List ℕ)) (n : ℕ) (o : Outcome) : Type 0 where
  pub args : List Value
  pub memory : List Block
  pub fits : fitting unit name items ≡ Fit args memory
  pub blocks : n ≡ length memory
  pub means : o ≡ means (rows dialect) unit name args memory turns

abbrev pub is_defined : Outcome → Bool
is_defined (outcomes.Done v memory) = true
is_defined outcomes.Turns = true
is_defined outcomes.Undefined = false

-- the lines of the second run, which tell nothing where the first is undefined
abbrev pub second_lines : Bool → List ℕ → List ℕ
second_lines true text = codes "neon\n" ++ text
second_lines false text = []

-- the line `x86` and the first text, and unless that is `undefined` the line `neon` and the second
abbrev pub both_lines : List ℕ → Bool → List ℕ → List ℕ
both_lines first defined second = codes "x86\n" ++ (first ++ second_lines defined second)

-- The text tells how the function runs in the first unit, by Intel's rows, and how in the second, by Arm's; the status is that of the first run.
pub record IsCompared (source written : List External) (name : List ℕ) (turns : ℕ) (items : List (List ℕ)) (text : List ℕ) (status : Status) : Type 0 where
  pub blocks : ℕ
  pub others : ℕ
  pub first : Outcome
  pub second : Outcome
  pub runs : IsRun X86 source name turns items blocks first
  pub runs_written : IsRun Neon written name turns items others second
  pub ended : status ≡ status_of first
  pub told : text ≡ both_lines (run_text source blocks first) (is_defined first) (run_text written others second)

-- there is no such function in the unit, or the items don't fit it; or memory ran out
abbrev pub Fails : List External → List ℕ → List (List ℕ) → FitFail → Type 0
Fails unit name items fail.NoFunction = fitting unit name items ≡ NoFunction
Fails unit name items fail.DontFit = fitting unit name items ≡ DontFit
Fails unit name items fail.Memory = Unit {0}

-- the function is there, and the items fit it
abbrev pub HasFit : List External → List ℕ → List (List ℕ) → Type 0
HasFit unit name items = (args : List Value) × (memory : List Block) × (fitting unit name items ≡ Fit args memory)

-- what the items give isn't for the first unit; or it is, and not for the second
abbrev pub FailsInOne : List External → List External → List ℕ → List (List ℕ) → FitFail → Type 0
FailsInOne source written name items e = Fails source name items e ⊎ ((args : List Value) × (memory : List Block) × (fitting source name items ≡ Fit args memory) × Fails written name items e)
