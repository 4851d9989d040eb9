-- What a called function may do: store, and read memory.
use Rattle.std.specs.Prelude.{ℕ, Bool, true, false, List, [], ◌∷◌, Option, Some, None, unwrap_or}
use Rattle.lane_core.specs.declared.table.ParamKind.{ParamKind}
use Rattle.lane_core.specs.declared.table.ParamKind.TheVariants as kind
use Rattle.c_tree.specs.declared.types.CType.TheVariants.{Pointer}
use Rattle.type_rules.specs.declared.passing.Parameter.{Parameter}
use Rattle.type_rules.specs.declared.passing.Parameter.TheVariants.{Object}
use Rattle.scopes.specs.Scopes.{Row, named, entries_of, rows_of}
use Rattle.order_rule.specs.declared.callees.Effects.{Effects}
use Rattle.order_rule.specs.declared.callees.Callees.{Callees as CodeCallees}

-- functions of the unit that stand before one, each with what it may do
abbrev pub Before : Type 0
Before = List (List ℕ × Effects)

-- what a function may call: those before it, and the row of the table that has a name
pub record Callees : Type 0 where
  pub before : Before
  pub rows : List ℕ → Option Row

-- a row that stores has a pointer to what is no const
abbrev pub stores : List Parameter → Bool
stores [] = false
stores (Object (Pointer e false) ∷ ps) = true
stores (_ ∷ ps) = stores ps

-- a row that reads memory has a pointer to const
abbrev pub reads : List Parameter → Bool
reads [] = false
reads (Object (Pointer e true) ∷ ps) = true
reads (_ ∷ ps) = reads ps

-- among the kinds of a row's parameters, as its table has them, is a pointer to what is no const
abbrev pub has_target : List ParamKind → Bool
has_target [] = false
has_target (kind.PointerTo e false ∷ ks) = true
has_target (_ ∷ ks) = has_target ks

abbrev pub row_effects : Option Row → Effects
row_effects None = record { stores = false; reads = false }
row_effects (Some r) = record { stores = stores r.heading.params; reads = reads r.heading.params }

-- of a called name: that of a function of the unit, and else of a row
abbrev pub called : List ℕ → Callees → Effects
called f callees = unwrap_or (named f callees.before) (row_effects (callees.rows f))

-- what contracts see of the code's
abbrev pub callees_of : CodeCallees → Callees
callees_of c = record { before = entries_of c.before.now; rows = λ x. named x (rows_of c.rows.now) }
