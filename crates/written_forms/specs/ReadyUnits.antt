-- What is asked of a unit, so that what is written for it does the same.
use Rattle.std.specs.Prelude.{◌≡◌, ◌<◌, ◌^◌, ◌⊎◌, ℕ, Bool, true, false, List, [], ◌∷◌, Option, Some, None, if◌then◌else◌}
use Rattle.std.specs.Str.{bytes_eq}
use Rattle.lane_core.specs.Table.{params_of}
use Rattle.c_tree.specs.Tree.{Definition, External, Function, Table}
use Rattle.c_memory.specs.Functions.{types_of, none_named}
use Rattle.c_memory.specs.Meaning.{is_helper, functions}
use Rattle.intel_table.specs.declared.IntelOp.{IntelOp}
use Rattle.intel_table.specs.Rows as intel
use Rattle.neon_table.specs.Rows as neon
use Rattle.seq_core.specs.Claims.{IsCallable}
use Rattle.written_forms.specs.Moved.{Plans, helper_name}
use Rattle.written_forms.specs.Ready.{Heading, Setting, AreCarried, operand_types}
use Rattle.written_forms.specs.ReadyStatements.{ReadyFunction}
use Rattle.written_forms.specs.Helpers.{Use, has_name}
use Rattle.written_forms.specs.Planned.{FitsRow}

abbrev pub Heads : Type 0
Heads = List ℕ → Option Heading

abbrev pub no_heads : Heads
no_heads x = None

abbrev pub with_head : Definition → Heads → Heads
with_head f heads = λ x. if bytes_eq x f.name then Some (record { params = types_of f.params; result = f.result }) else heads x

-- ---- functions

-- a function may be written under its name, which is no row's, and not one of a row's function
pub record IsFree (x : List ℕ) : Type 0 where
  pub no_intel : intel.find_of x ≡ None
  pub no_neon : neon.find_of x ≡ None
  pub no_helper : is_helper x ≡ false

abbrev pub setting : Plans → (List ℕ → ℕ → Bool) → Heads → Setting
setting plans helps heads = record { plans = plans; helps = helps; heads = heads }

-- functions alone, each of which calls those before it
abbrev pub ReadyItems : Plans → (List ℕ → ℕ → Bool) → Heads → List External → Type 0
ReadyItems plans helps heads [] = Unit {0}
ReadyItems plans helps heads (Function f ∷ rest) = ReadyFunction (setting plans helps heads) f × IsFree f.name × ReadyItems plans helps (with_head f heads) rest
ReadyItems plans helps heads (Table d is_static ∷ rest) = ⊥

-- ---- functions of rows

-- The function of a row: its name is no row's and is one of a row's function, no function of the unit has it, and it does what its sequence does,
-- which fits the row.
pub record IsHelper (plans : Plans) (unit : List External) (u : Use) : Type 0 where
  pub op : IntelOp
  pub is : intel.find_of u.row ≡ Some op
  pub name : u.name ≡ helper_name u.row (intel.range_of op) u.imm
  pub plan : plans u.row u.imm ≡ Some u.plan
  pub callable : IsCallable u.plan
  pub carried : AreCarried (operand_types (params_of (intel.signature_of op)))
  pub fits : FitsRow op u.imm u.plan
  pub small : u.imm < 2 ^ 64
  pub helper : is_helper u.name ≡ true
  pub no_neon : neon.find_of u.name ≡ None
  pub unused : none_named u.name (functions unit) ≡ true

-- with different names
abbrev pub AreHelpers : Plans → List External → List Use → Type 0
AreHelpers plans unit [] = Unit {0}
AreHelpers plans unit (u ∷ us) = IsHelper plans unit u × (has_name u.name us ≡ false) × AreHelpers plans unit us

-- one of these is for this row with this immediate
abbrev pub Among : List ℕ → ℕ → List Use → Type 0
Among row imm [] = ⊥
Among row imm (u ∷ us) = ((u.row ≡ row) × (u.imm ≡ imm)) ⊎ Among row imm us

pub record ReadyUnit (plans : Plans) (us : List Use) (unit : List External) : Type 0 where
  pub helps : List ℕ → ℕ → Bool
  pub among : (row : List ℕ) (imm : ℕ) → helps row imm ≡ true → Among row imm us
  pub helpers : AreHelpers plans unit us
  pub items : ReadyItems plans helps no_heads unit
