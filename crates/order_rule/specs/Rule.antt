-- What it means that a function keeps the order rule: each part of each of its full expressions passes.
use Rattle.std.specs.Prelude.{false, List, [], ◌∷◌}
use Rattle.c_text.specs.declared.tokens.Place.{Place}
use Rattle.c_tree.specs.declared.types.CType.{CType}
use Rattle.c_tree.specs.Tree.{Tree, Kind, Trees, Node, AndThen, OrElse, Choice, Comma, Cast, NoTrees, More, Definition}
use Rattle.order_rule.specs.Callees.{Callees}
use Rattle.order_rule.specs.Memory.{Env}
use Rattle.order_rule.specs.Parts.{Passes}
use Rattle.order_rule.specs.Full.{Full, full_expressions}

abbrev mutual
  -- each part of the expression passes
  pub EachPasses : Env → Callees → Tree → Type 0
  EachPasses env callees (Node p t k) = EachPassesIn env callees p t k

  pub EachPassesIn : Env → Callees → Place → CType → Kind → Type 0
  EachPassesIn env callees p t (AndThen a b) = EachPasses env callees a × EachPasses env callees b
  EachPassesIn env callees p t (OrElse a b) = EachPasses env callees a × EachPasses env callees b
  EachPassesIn env callees p t (Choice c a b) = EachPasses env callees c × (EachPasses env callees a × EachPasses env callees b)
  EachPassesIn env callees p t (Comma all) = EachPassesInAll env callees all
  EachPassesIn env callees p t (Cast u a false) = EachPasses env callees a
  EachPassesIn env callees p t k = Passes env callees (Node p t k)

  pub EachPassesInAll : Env → Callees → Trees → Type 0
  EachPassesInAll env callees NoTrees = Unit {0}
  EachPassesInAll env callees (More a rest) = EachPasses env callees a × EachPassesInAll env callees rest

abbrev pub AllPass : Callees → List Full → Type 0
AllPass callees [] = Unit {0}
AllPass callees (x ∷ rest) = EachPasses x.env callees x.expression × AllPass callees rest

abbrev pub KeepsOrder : Callees → Definition → Type 0
KeepsOrder callees f = AllPass callees (full_expressions f)
