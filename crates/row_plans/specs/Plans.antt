-- The sequence of a row, by its name and immediate.
use Rattle.std.specs.Prelude.{ℕ, ◌&&◌, List, Option, Some, None, option_map, if◌then◌else◌}
use Rattle.std.specs.Option.{option_and_then}
use Rattle.intel_forms.specs.declared.forms.Form.{Form as Row}
use Rattle.intel_table.specs.declared.IntelOp.{IntelOp}
use Rattle.intel_table.specs.Rows.{find_of, form_of, range_of}
use Rattle.c_memory.specs.MeaningRows.{is_in_range}
use Rattle.price_choice.specs.declared.forms.Form.{Form}
use Rattle.price_choice.specs.declared.forms.Pick.{Pick}
use Rattle.price_choice.specs.Choice.{price_by}
use Rattle.price_choice.specs.Forms.{gives_of}
use Rattle.price_choice.specs.List.{forms}
use Rattle.seq_core.specs.Terms.{Sequence}
use Rattle.seq_arith.specs.Plans as arith
use Rattle.seq_pack.specs.Plans as pack
use Rattle.shuffle_plans.specs.Operands.{picks}
use Rattle.shuffle_plans.specs.Plans.{is_one_block, plan_by}
use Rattle.shuffle_plans.specs.Selections.{is_shuffle, picked_at}
use Rattle.written_forms.specs.Moved.{Plans}
use Rattle.row_plans.specs.Choice.{first_least}

-- the prices of the kinds of calls, in the order of the kinds
abbrev pub Prices : Type 0
Prices = List ℕ

-- the cheapest form that gives a selection
abbrev pub cheapest : Prices → List Pick → Option Form
cheapest prices want = first_least (λ f. gives_of f want) (price_by prices) forms

-- of a shuffle on 128 bits
abbrev pub shuffled : Prices → Row → ℕ → Option Sequence
shuffled prices r imm = if is_shuffle r && is_one_block r then option_map (λ f. plan_by f r imm 0) (cheapest prices (picks (picked_at r imm 0))) else None

abbrev pub or_plan : Option Sequence → Option Sequence → Option Sequence
or_plan (Some q) r = Some q
or_plan None r = r

-- rows that compute lane by lane, then those that pack, select and take single values, then shuffles
abbrev pub plan_of : Prices → IntelOp → ℕ → Option Sequence
plan_of prices op imm = or_plan (arith.plan_of op imm) (or_plan (pack.plan_of op imm) (shuffled prices (form_of op) imm))

-- a row has a sequence only with an immediate in its range
abbrev pub planned : Prices → ℕ → IntelOp → Option Sequence
planned prices imm op = if is_in_range (range_of op) imm then plan_of prices op imm else None

abbrev pub plan_for : Prices → Plans
plan_for prices name imm = option_and_then (planned prices imm) (find_of name)
