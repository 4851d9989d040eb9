-- The check of a unit (C11 6.9): its functions and tables with their types, or one refusal for each that fails.
use Rattle.std.specs.Prelude.{◌≡◌, ◌+◌, false, List, [], ◌∷◌, Result, Ok, Err}
use Rattle.c_text.specs.declared.tokens.Dialect.{Dialect}
use Rattle.c_text.specs.declared.refusals.Refusal.{Refusal}
use Rattle.c_tree.specs.Tree.{Definition, External, Function, Table}
use Rattle.scopes.specs.Scopes.{Env}
use Rattle.expression_types.specs.Check.{◌>>=◌, Checked}
use Rattle.order_rule.specs.Callees.{Before}
use Rattle.vector_types.specs.Rows.{row_of_table, is_neon_row}
use Rattle.vector_types.specs.Functions.{with_items, check_function}
use Rattle.vector_types.specs.Tables.{check_table, beyond_table}
use Rattle.vector_types.specs.Order.{calls, in_order, effects_given, with_callee}

-- a function with its types, which keeps the order rule; `callees` are those before it
abbrev pub function_checked : Definition → Env → Before → Checked Definition
function_checked f env callees = check_function f env >>= λ g. in_order env.dialect (calls callees env) g

-- a function or a table with its types
abbrev pub item_checked : External → Env → Before → Checked External
item_checked (Function f) env callees = function_checked f env callees >>= λ v. Ok (Function v)
item_checked (Table d is_static) env callees = check_table d env >>= λ v. Ok (Table v is_static)

-- What the item behind one sees: the tables so far by their types, those that were refused too, and the functions of the whole unit, of which
-- those stand before it that do so in the text.
abbrev pub beyond_item : External → Env → Env
beyond_item (Function f) env = env
beyond_item (Table d is_static) env = beyond_table d (check_table d env) env

-- the functions before the item behind one, by what they may do
abbrev pub callees_beyond : External → Env → Before → Before
callees_beyond (Function f) env callees = with_callee env.dialect f.name (effects_given (function_checked f env callees) (calls callees env)) callees
callees_beyond (Table d is_static) env callees = callees

abbrev pub next_item : Env → Env
next_item env = record env { here = env.here + 1 }

-- the refusals of items, and the items that passed, each in the order of the text
pub record Judged : Type 0 where
  pub refusals : List Refusal
  pub items : List External

abbrev pub and_judged : Checked External → Judged → Judged
and_judged (Ok v) j = record j { items = v ∷ j.items }
and_judged (Err r) j = record j { refusals = r ∷ j.refusals }

abbrev pub check_items : List External → Env → Before → Judged
check_items [] env callees = record { refusals = []; items = [] }
check_items (u ∷ rest) env callees = and_judged (item_checked u env callees) (check_items rest (next_item (beyond_item u env)) (callees_beyond u env callees))

-- what the first item of a unit sees
abbrev pub unit_env : Dialect → List External → Env
unit_env dialect u = record { dialect = dialect; rows = row_of_table dialect; neon = is_neon_row; outer = []; innermost = []; functions = with_items dialect 0 u []; here = 0; calls_none = false }

-- a unit passes where all of its items do
abbrev pub unless_refused : List Refusal → List External → Result (List External) (List Refusal)
unless_refused [] items = Ok items
unless_refused (r ∷ more) items = Err (r ∷ more)

abbrev pub answer : Judged → Result (List External) (List Refusal)
answer j = unless_refused j.refusals j.items

abbrev pub check_unit : Dialect → List External → Result (List External) (List Refusal)
check_unit dialect u = answer (check_items u (unit_env dialect u) [])

-- these are what the items of a unit become
abbrev pub IsChecked : Dialect → List External → Type 0
IsChecked dialect v = (u : List External) × (check_unit dialect u ≡ Ok v)
