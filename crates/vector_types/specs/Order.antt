-- The order rule in the check of a unit (C11 6.5p2, p3). The x86 dialect has it.
use Rattle.std.specs.Prelude.{ℕ, false, if◌then◌else◌, is_some, List, [], ◌∷◌, ◌++◌, Option, Some, None, Ok, Err}
use Rattle.c_text.specs.declared.tokens.Dialect.{Dialect}
use Rattle.c_text.specs.declared.tokens.Dialect.TheVariants.{X86, Neon}
use Rattle.c_text.specs.declared.refusals.Refusal.{Refusal}
use Rattle.c_tree.specs.Tree.{Definition}
use Rattle.scopes.specs.Scopes.{Env, named}
use Rattle.expression_types.specs.Check.{Checked}
use Rattle.order_rule.specs.declared.callees.Effects.{Effects}
use Rattle.order_rule.specs.Callees.{Before, Callees}
use Rattle.order_rule.specs.Full.{effects_of, order_of}
use Rattle.order_rule.specs.Rule.{KeepsOrder}

-- what a function of a unit may call: those before it, and the rows of the dialect's table
abbrev pub calls : Before → Env → Callees
calls before env = record { before = before; rows = env.rows }

-- a function that has its types, unless the order rule refuses it
abbrev pub unless_broken : Option Refusal → Definition → Checked Definition
unless_broken None g = Ok g
unless_broken (Some r) g = Err r

abbrev pub in_order : Dialect → Callees → Definition → Checked Definition
in_order X86 callees g = unless_broken (order_of g callees) g
in_order Neon callees g = Ok g

-- what a function may do where it passes; one that is refused counts as neither storing nor reading memory
abbrev pub effects_given : Checked Definition → Callees → Effects
effects_given (Ok g) callees = effects_of g callees
effects_given (Err r) callees = record { stores = false; reads = false }

-- one more function, by what it may do; a name stands for the first function that has it
abbrev pub with_callee : Dialect → List ℕ → Effects → Before → Before
with_callee X86 x e before = if is_some (named x before) then before else before ++ (x, e) ∷ []
with_callee Neon x e before = before

-- the function keeps the order rule, where its dialect has it
abbrev pub Orderly : Dialect → Callees → Definition → Type 0
Orderly X86 callees g = KeepsOrder callees g
Orderly Neon callees g = Unit {0}
