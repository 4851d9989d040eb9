-- What a run of a function answers.
use Rattle.std.specs.Prelude.{◌≡◌, ℕ, List, length}
use Rattle.c_text.specs.declared.tokens.Dialect.{Dialect}
use Rattle.c_text.specs.declared.tokens.Dialect.TheVariants.{X86, Neon}
use Rattle.c_tree.specs.Tree.{External}
use Rattle.c_memory.specs.declared.blocks.Block.{Block}
use Rattle.c_memory.specs.declared.value.Value.{Value}
use Rattle.c_memory.specs.Outcomes as outcomes
use Rattle.c_memory.specs.Outcomes.{Outcome}
use Rattle.c_memory.specs.Meaning.{Calls, means}
use Rattle.c_memory.specs.MeaningRows.{rows_of, call_of_row}
use Rattle.intel_table.specs.Rows as intel
use Rattle.neon_table.specs.Rows as neon
use Rattle.migrate_report.specs.Fits.{fitting, Fit}
use Rattle.migrate_report.specs.Texts.{run_text}
use Rattle.simd_top.specs.declared.status.Status.{Status}
use Rattle.simd_top.specs.declared.status.Status.TheVariants.{Done, Undefined, Turns}
use Rattle.simd_top.specs.Source.{HasUnit}

-- the calls of rows: those of Intel's table, or those of Arm's
abbrev pub rows : Dialect → Calls
rows X86 = call_of_row (rows_of intel.find_of intel.signature_of intel.range_of intel.accesses_of intel.access_of intel.eval_of)
rows Neon = call_of_row (rows_of neon.find_of neon.signature_of neon.range_of neon.accesses_of neon.access_of neon.eval_of)

-- a call ends as the run does
abbrev pub status_of : Outcome → Status
status_of (outcomes.Done v memory) = Done
status_of outcomes.Turns = Turns
status_of outcomes.Undefined = Undefined

-- The function has this outcome, and the text tells it: in the unit that the source is, with the arguments and the memory that the items
-- give, and for at most so many turns.
pub record Ran (dialect : Dialect) (name : List ℕ) (turns : ℕ) (items : List (List ℕ)) (source : List ℕ) (status : Status) (text : List ℕ) : Type 0 where
  pub unit : List External
  pub has_unit : HasUnit dialect source unit
  pub args : List Value
  pub memory : List Block
  pub fits : fitting unit name items ≡ Fit args memory
  pub told : text ≡ run_text unit (length memory) (means (rows dialect) unit name args memory turns)
  pub ended : status ≡ status_of (means (rows dialect) unit name args memory turns)
