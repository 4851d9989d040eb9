-- The nodes of expressions.
use Rattle.std.specs.Prelude.{false}
use Rattle.c_text.specs.declared.tokens.Place.{Place}
use Rattle.c_tree.specs.declared.types.CType.{CType}
use Rattle.c_tree.specs.Tree.{Tree, Kind, Node, Cast}

-- the type and the place of an expression, which has its types
abbrev pub node_type : Tree → CType
node_type (Node p t k) = t

abbrev pub node_place : Tree → Place
node_place (Node p t k) = p

-- the node that a refusal shows of an expression which has its types: a cast that isn't written is no node of the text
abbrev mutual
  pub root : Tree → Tree
  root (Node p t k) = root_kind p t k

  pub root_kind : Place → CType → Kind → Tree
  root_kind p t (Cast u a false) = root a
  root_kind p t k = Node p t k
