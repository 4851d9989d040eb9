-- What a called name stands for.
use Rattle.std.specs.Prelude.{ℕ, Bool, false, not, ◌&&◌, ◌||◌, List, [], ◌∷◌, take, is_some, codes}
use Rattle.c_text.specs.declared.tokens.Dialect.{Dialect}
use Rattle.c_text.specs.declared.tokens.Dialect.TheVariants.{X86, Neon}
use Rattle.lane_core.specs.declared.table.ImmRange.{ImmRange}
use Rattle.c_tree.specs.declared.types.CType.TheVariants.{M128, M256}
use Rattle.type_rules.specs.declared.passing.Parameter.TheVariants.{Object}
use Rattle.type_rules.specs.Passing.{Heading, heading}
use Rattle.expression_types.specs.declared.names.Target.{Target as CodeTarget}
use Rattle.scopes.specs.Scopes.{Env, named, same_name}

-- `_mm256_castsi128_si256`, which is no row: an `__m256i` of an `__m128i` whose upper half isn't told
abbrev pub is_widening : Dialect → List ℕ → Bool
is_widening X86 x = same_name x (codes "_mm256_castsi128_si256")
is_widening Neon x = false

abbrev pub widening : Heading
widening = record { result = M256; params = Object M128 ∷ [] }

-- the name of an intrinsic that isn't known: it begins with `_mm` and isn't in the table
abbrev pub is_unknown_intrinsic : List ℕ → Env → Bool
is_unknown_intrinsic x env = same_name (take 3 x) (codes "_mm") && not (is_some (env.rows x)) && not (same_name x (codes "_mm256_castsi128_si256"))

-- the name is a function's: of the unit, of the table, or the one that is no row
abbrev pub is_function : List ℕ → Env → Bool
is_function x env = is_some (named x env.functions) || is_some (env.rows x) || is_widening env.dialect x

-- what is called: its heading, the values that its immediate may have, and whether the profile leaves the call out. It leaves out
-- each call of `_mm256_castsi128_si256`, whose one pattern has a row that isn't in the table, and in the Neon dialect each call of a function of the unit
-- by a function whose name begins with `mg_`.
pub record Target : Type 0 where
  pub heading : Heading
  pub range : ImmRange
  pub outside : Bool

-- what contracts see of the code's
abbrev pub target_of : CodeTarget → Target
target_of t = record { heading = heading t.heading; range = t.range; outside = t.outside }
