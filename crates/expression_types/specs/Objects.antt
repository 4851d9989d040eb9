-- Which expressions designate objects, and whether these are const (C11 6.3.2.1p1).
use Rattle.std.specs.Prelude.{Bool, false, not, Option, Some, None, option_map}
use Rattle.c_text.specs.declared.tokens.Place.{Place}
use Rattle.lane_core.specs.declared.vector.Pointee.{Pointee}
use Rattle.lane_core.specs.declared.vector.Pointee.TheVariants as target
use Rattle.c_tree.specs.declared.types.CType.{CType}
use Rattle.c_tree.specs.declared.types.CType.TheVariants.{Int, M128, M256, Pointer}
use Rattle.c_tree.specs.Tree as tree
use Rattle.c_tree.specs.Tree.{Tree, Kind, Node}
use Rattle.c_tree.specs.Nodes.{node_type}
use Rattle.scopes.specs.Scopes.{Env, object_named}

-- whether what a pointer points to is const, where it is one
abbrev pub pointed_const : CType → Option Bool
pointed_const (Pointer e c) = Some c
pointed_const t = None

-- the same of the pointer among the two sides of an index
abbrev pub indexed_const : CType → CType → Option Bool
indexed_const (Pointer e c) (Int t) = Some c
indexed_const (Int t) (Pointer e c) = Some c
indexed_const s t = None

-- Whether the object that an expression designates is const, and none where it designates no object. The expression has its types. A
-- name designates an object, but an array's name becomes a pointer; an index and a dereference do, and half of a pair where the pair does.
abbrev mutual
  pub designated : Tree → Env → Option Bool
  designated (Node p t k) env = designated_kind k env

  pub designated_kind : Kind → Env → Option Bool
  designated_kind (tree.Name x) env = option_map (λ o. o.constant) (object_named x env)
  designated_kind (tree.Index a b) env = indexed_const (node_type a) (node_type b)
  designated_kind (tree.Deref a) env = pointed_const (node_type a)
  designated_kind (tree.Half a k) env = designated a env
  designated_kind k env = None

-- an object is designated that isn't const, so it may be written (6.5.16p2)
abbrev pub may_write : Option Bool → Bool
may_write (Some constant) = not constant
may_write None = false

abbrev pub is_writable : Tree → Env → Bool
is_writable a env = may_write (designated a env)

-- the types of objects whose address may be taken: integers and vectors of the x86 dialect
abbrev pub pointee_of : CType → Option Pointee
pointee_of (Int t) = Some (target.Int t)
pointee_of M128 = Some target.M128
pointee_of M256 = Some target.M256
pointee_of t = None

-- the address of the object that an expression designates (6.5.3.2p1, p3)
abbrev pub addressed : Place → Tree → Option Bool → Option Pointee → Option Tree
addressed p a (Some constant) (Some e) = Some (Node p (Pointer e constant) (tree.Address a))
addressed p a _ _ = None

abbrev pub address_node : Place → Tree → Env → Option Tree
address_node p a env = addressed p a (designated a env) (pointee_of (node_type a))
