-- Which sources are admitted, and with which lines others are refused.
use Rattle.std.specs.Prelude.{◌≡◌, ℕ, ◌<◌, ◌≤◌, List, length, [], ◌∷◌, Some, None, codes}
use Rattle.c_text.specs.declared.refusals.Refusal.{Refusal}
use Rattle.c_tree.specs.Tree.{External}
use Rattle.c_memory.specs.declared.blocks.Block.{Block}
use Rattle.c_memory.specs.declared.value.Value.{Value}
use Rattle.migrate_report.specs.Fits.{fitting, NoFunction, DontFit, Fit}
use Rattle.migrate_report.specs.Lines.{refusal_lines}
use Rattle.simd_top.specs.Form.{first_outside}
use Rattle.simd_top.specs.Source.{source_limit, HasUnit, AreFirst}
use Rattle.simd_top.specs.Words.{Command, Migrate, Run, Both, dialect_of}

-- a refusal of the source as a whole
abbrev pub at_the_start : ℕ → List ℕ → Refusal
at_the_start number detail = record { number = number; place = record { line = 1; col = 1 }; detail = detail }

-- The refusal of a unit that has types: it is to be migrated, and has an item outside the first form; or a function of it is to be run, and
-- there is none of the name, or the items don't fit its parameters. For both the form comes first.
pub data IsRefusedUnit : Command → List External → Refusal → Type 0 where
  Outside : (unit : List External) (r : Refusal) → first_outside [] unit ≡ Some r → IsRefusedUnit Migrate unit r
  Nameless : {dialect : _} (name : List ℕ) (turns : ℕ) (items : List (List ℕ)) (unit : List External) → fitting unit name items ≡ NoFunction →
      IsRefusedUnit (Run dialect name turns items) unit (at_the_start 21 name)
  Unfit : {dialect : _} (name : List ℕ) (turns : ℕ) (items : List (List ℕ)) (unit : List External) → fitting unit name items ≡ DontFit →
      IsRefusedUnit (Run dialect name turns items) unit (at_the_start 22 name)
  OutsideBoth : (name : List ℕ) (turns : ℕ) (items : List (List ℕ)) (unit : List External) (r : Refusal) → first_outside [] unit ≡ Some r → IsRefusedUnit (Both name turns items) unit r
  NamelessBoth : (name : List ℕ) (turns : ℕ) (items : List (List ℕ)) (unit : List External) → first_outside [] unit ≡ None → fitting unit name items ≡ NoFunction →
      IsRefusedUnit (Both name turns items) unit (at_the_start 21 name)
  UnfitBoth : (name : List ℕ) (turns : ℕ) (items : List (List ℕ)) (unit : List External) → first_outside [] unit ≡ None → fitting unit name items ≡ DontFit →
      IsRefusedUnit (Both name turns items) unit (at_the_start 22 name)

-- The source is refused with these lines: it is too long; it is no unit that has types; or its unit is refused.
pub data IsRefused (c : Command) (source lines : List ℕ) : Type 0 where
  TooLong : source_limit (dialect_of c) < length source → lines ≡ refusal_lines (at_the_start 1 (codes "source") ∷ []) → IsRefused c source lines
  First : length source ≤ source_limit (dialect_of c) → (list : List Refusal) → AreFirst (dialect_of c) source list → lines ≡ refusal_lines list → IsRefused c source lines
  Beyond : length source ≤ source_limit (dialect_of c) → (unit : List External) → HasUnit (dialect_of c) source unit → (r : Refusal) → IsRefusedUnit c unit r →
      lines ≡ refusal_lines (r ∷ []) → IsRefused c source lines

-- each refusal has one of the numbers that have a name
abbrev pub AreNumbered : List Refusal → Type 0
AreNumbered [] = Unit {0}
AreNumbered (r ∷ rest) = (1 ≤ r.number) × (r.number ≤ 22) × AreNumbered rest

-- the lines are those of such refusals
abbrev pub AreLines : List ℕ → Type 0
AreLines lines = (list : List Refusal) × (lines ≡ refusal_lines list) × AreNumbered list

-- the unit is of the first form; a function of the name is there, and the items fit it
abbrev pub Serves : Command → List External → Type 0
Serves Migrate unit = first_outside [] unit ≡ None
Serves (Run dialect name turns items) unit = (args : List Value) × (memory : List Block) × (fitting unit name items ≡ Fit args memory)
Serves (Both name turns items) unit = (first_outside [] unit ≡ None) × (args : List Value) × (memory : List Block) × (fitting unit name items ≡ Fit args memory)

-- the source is a unit that is admitted: within the limit, with types, and one that serves
pub record IsAdmitted (c : Command) (source : List ℕ) : Type 0 where
  pub within : length source ≤ source_limit (dialect_of c)
  pub unit : List External
  pub has_unit : HasUnit (dialect_of c) source unit
  pub serves : Serves c unit
