-- A function passes the order rule where it keeps it, and a unit's callees then are those that pass.
use Rattle.std.proofs.Common.{◌≡◌, ◌↔◌, Option, Some, None, Ok, refl, ap}
use Rattle.c_text.specs.declared.tokens.Dialect.{Dialect}
use Rattle.c_text.specs.declared.tokens.Dialect.TheVariants.{X86, Neon}
use Rattle.c_text.specs.declared.refusals.Refusal.{Refusal}
use Rattle.c_tree.specs.Tree.{Definition}
use Rattle.order_rule.specs.Callees.{Callees}
use Rattle.order_rule.specs.Full.{order_of}
use Rattle.order_rule.specs.Rule.{KeepsOrder}
use Rattle.vector_types.specs.Order.{unless_broken, in_order, Orderly}

unbroken : (r : Option Refusal) (g v : Definition) → unless_broken r g ≡ Ok v → (r ≡ None) × (g ≡ v)
unbroken None g v h = let same : g ≡ v = cc in (refl, same)
unbroken (Some r) g v h = cc

module _ (order : (callees : Callees) (f : Definition) → (order_of f callees ≡ None) ↔ KeepsOrder callees f) where
  pub order-holds : (dialect : Dialect) (callees : Callees) (g : Definition) → Orderly dialect callees g → in_order dialect callees g ≡ Ok g
  order-holds X86 callees g h = ap (λ r. unless_broken r g) ((order callees g).1 h)
  order-holds Neon callees g h = refl

  pub order-says : (dialect : Dialect) (callees : Callees) (g v : Definition) → in_order dialect callees g ≡ Ok v → Orderly dialect callees g × (g ≡ v)
  order-says X86 callees g v h = let q = unbroken (order_of g callees) g v h in ((order callees g).0 q.0, q.1)
  order-says Neon callees g v h = let same : g ≡ v = cc in (tt, same)
