-- The rows of the two tables, as calls see them.
use Rattle.std.specs.Prelude.{ℕ, Bool, List, Option, option_map, is_some}
use Rattle.c_text.specs.declared.tokens.Dialect.{Dialect}
use Rattle.c_text.specs.declared.tokens.Dialect.TheVariants.{X86, Neon}
use Rattle.type_rules.specs.Passing.{row_heading}
use Rattle.scopes.specs.Scopes.{Row}
use Rattle.lane_core.specs.declared.table.Sig.{Sig}
use Rattle.lane_core.specs.declared.table.ImmRange.{ImmRange}
use Rattle.intel_table.specs.Rows as intel
use Rattle.neon_table.specs.Rows as neon

-- a row of this signature, whose immediate has that range
abbrev pub row_told : Sig → ImmRange → Row
row_told signature range = record { heading = row_heading signature; range = range }

-- the row of the dialect's table that has the name
abbrev pub row_of_table : Dialect → List ℕ → Option Row
row_of_table X86 x = option_map (λ op. row_told (intel.signature_of op) (intel.range_of op)) (intel.find_of x)
row_of_table Neon x = option_map (λ op. row_told (neon.signature_of op) (neon.range_of op)) (neon.find_of x)

-- a row of Neon's table has the name
abbrev pub is_neon_row : List ℕ → Bool
is_neon_row x = is_some (neon.find_of x)
