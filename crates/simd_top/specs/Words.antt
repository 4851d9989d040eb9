-- The words of a call, and what they ask for.
use Rattle.std.specs.Prelude.{ℕ, List, [], ◌∷◌, Bool, IsTrue, ◌&&◌, nat_le, if◌then◌else◌, Option, Some, None, length, codes, bytes_eq}
use Rattle.std.specs.Option.{option_and_then}
use Rattle.c_text.specs.declared.tokens.Dialect.{Dialect}
use Rattle.c_text.specs.declared.tokens.Dialect.TheVariants.{X86, Neon}
use Rattle.c_text.specs.Forms.{is_name}
use Rattle.migrate_report.specs.Items.{number_of, items_fit_form}
use Rattle.migrate_report.specs.Reading.{at_most}

pub data Command : Type 0 where
  -- the unit is migrated
  Migrate : Command
  -- the unit is read in this dialect, and its function of this name runs for at most so many turns, with the arguments and the memory
  -- that the items give
  Run : Dialect → List ℕ → ℕ → List (List ℕ) → Command
  -- the unit is migrated, and its function of this name runs so before and after
  Both : List ℕ → ℕ → List (List ℕ) → Command

-- what stands for items are items
abbrev pub FitsForm : Command → Type 0
FitsForm Migrate = Unit {0}
FitsForm (Run dialect name turns items) = IsTrue (items_fit_form items)
FitsForm (Both name turns items) = IsTrue (items_fit_form items)

-- the dialect of the source
abbrev pub dialect_of : Command → Dialect
dialect_of Migrate = X86
dialect_of (Run dialect name turns items) = dialect
dialect_of (Both name turns items) = X86

abbrev pub dialect_named : List ℕ → Option Dialect
dialect_named word = if bytes_eq word (codes "x86") then Some X86 else if bytes_eq word (codes "neon") then Some Neon else None

-- a name of C (C11 6.4.2.1) of at most 255 bytes
abbrev pub is_function_name : List ℕ → Bool
is_function_name word = is_name word && nat_le (length word) 255

-- a number from 0 to 1,000,000
abbrev pub most_turns : ℕ
most_turns = 1000000

abbrev pub turns_of : List ℕ → Option ℕ
turns_of word = option_and_then (at_most most_turns) (number_of word)

abbrev pub run_of : Option Dialect → List ℕ → Option ℕ → List (List ℕ) → Option Command
run_of (Some dialect) name (Some turns) items = if is_function_name name && items_fit_form items then Some (Run dialect name turns items) else None
run_of _ name _ items = None

abbrev pub both_of : List ℕ → Option ℕ → List (List ℕ) → Option Command
both_of name (Some turns) items = if is_function_name name && items_fit_form items then Some (Both name turns items) else None
both_of name None items = None

-- behind `migrate` nothing stands
abbrev pub asked_to_migrate : List (List ℕ) → Option Command
asked_to_migrate [] = Some Migrate
asked_to_migrate words = None

-- behind `run` stand the dialect, a name, the turns, and items
abbrev pub asked_to_run : List (List ℕ) → Option Command
asked_to_run (dialect ∷ name ∷ turns ∷ items) = run_of (dialect_named dialect) name (turns_of turns) items
asked_to_run words = None

-- behind `both` stand a name, the turns, and items
abbrev pub asked_for_both : List (List ℕ) → Option Command
asked_for_both (name ∷ turns ∷ items) = both_of name (turns_of turns) items
asked_for_both words = None

abbrev pub asked : List (List ℕ) → Option Command
asked [] = None
asked (word ∷ words) =
    if bytes_eq word (codes "migrate") then asked_to_migrate words
    else if bytes_eq word (codes "run") then asked_to_run words
    else if bytes_eq word (codes "both") then asked_for_both words
    else None
