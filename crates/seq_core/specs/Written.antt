-- The C that is written for a term, over the expressions that stand for its parameters and steps. Every node has its type.
use Rattle.std.specs.Prelude.{ℕ, List, ◌∷◌, replicate, get_or, pos, true, false, None, if◌then◌else◌}
use Rattle.std.specs.Str.{bytes_eq}
use Rattle.lane_core.specs.declared.number.IntType.TheVariants as int
use Rattle.lane_core.specs.declared.number.BinOp.{BinOp}
use Rattle.lane_core.specs.declared.number.Num.{Num}
use Rattle.lane_core.specs.declared.table.ParamKind.{ParamKind}
use Rattle.lane_core.specs.declared.table.ParamKind.TheVariants as kind
use Rattle.lane_core.specs.Register.{lane}
use Rattle.lane_core.specs.Table.{params_of}
use Rattle.scalar_core.specs.Numbers.{num_of}
use Rattle.c_text.specs.declared.tokens.Place.{Place}
use Rattle.c_tree.specs.declared.types.CType.{CType}
use Rattle.c_tree.specs.Tree as tree
use Rattle.c_tree.specs.Tree.{Tree, Kind, Trees, NoTrees, More, Node}
use Rattle.c_memory.specs.Meaning as meaning
use Rattle.neon_table.specs.declared.NeonOp.{NeonOp}
use Rattle.neon_table.specs.Rows.{name_of, signature_of}
use Rattle.seq_core.specs.Rows.{combine, create, broadcast}
use Rattle.seq_core.specs.Terms as term
use Rattle.seq_core.specs.Terms.{Term, Terms}
use Rattle.seq_core.specs.Formed.{vector, byte, type_of_kind, to_bytes, operator_type}

-- what a term is written with: the place of all nodes, and the expressions that stand for parameters and steps
pub record Pen : Type 0 where
  pub place : Place
  pub params : List Tree
  pub steps : List Tree

abbrev pub pen : Place → List Tree → List Tree → Pen
pen place params steps = record { place = place; params = params; steps = steps }

-- where no expression stands for a parameter or a step
abbrev pub nothing : Place → Tree
nothing place = Node place CType.Void (tree.Comma NoTrees)

abbrev pub number : Place → Num → Tree
number place n = Node place (CType.Int n.ty) (tree.Const n)

-- the call of a row
abbrev pub call : Place → NeonOp → Trees → Tree
call place op all = Node place (type_of_kind (signature_of op).result) (tree.Call (name_of op) all)

-- the eight bytes of a `uint64_t` as a vector
abbrev pub eight : Place → ℕ → Tree
eight place n = call place create (More (number place (num_of int.ULong (pos n))) NoTrees)

-- the zero vector; the constant 0 is converted to `uint8_t`, as an argument is
abbrev pub zeros : Place → Tree
zeros place = call place broadcast (More (Node place byte (tree.Cast byte (number place (num_of int.Int (pos 0))) false)) NoTrees)

abbrev pub constant : Place → List ℕ → Tree
constant place r = if bytes_eq r (replicate 16 0) then zeros place else call place combine (More (eight place (lane 8 r 0)) (More (eight place (lane 8 r 1)) NoTrees))

-- the operands with the row's constant in its place
abbrev pub with_constant : Place → List ParamKind → Trees → ℕ → Trees
with_constant place (kind.Immediate ∷ ks) all imm = More (number place (num_of int.Int (pos imm))) (with_constant place ks all imm)
with_constant place (k ∷ ks) (More a rest) imm = More a (with_constant place ks rest imm)
with_constant place _ all imm = all

-- the nodes of parts that are written
abbrev pub operator : Place → BinOp → Tree → Tree → Tree
operator place o a b = Node place (operator_type o (meaning.type_of a)) (tree.Binary o a b)

abbrev pub cast : Place → CType → Tree → Tree
cast place t a = Node place t (tree.Cast t a true)

abbrev pub chosen : Place → Tree → Tree → Tree → Tree
chosen place c a b = Node place (meaning.type_of a) (tree.Choice c a b)

abbrev pub moved : Place → Tree → Tree → Tree
moved place a b =
    let t = to_bytes (meaning.type_of a) in
    Node place t (tree.Binary BinOp.Add (cast place t a) b)

abbrev pub pointed : Place → Tree → Tree
pointed place a = Node place byte (tree.Deref a)

abbrev pub set : Place → Tree → Tree → Tree
set place a b = Node place byte (tree.Assign None (pointed place a) b)

abbrev mutual
  pub written : Pen → Term → Tree
  written p (term.Param n) = get_or p.params n (nothing p.place)
  written p (term.Step n) = get_or p.steps n (nothing p.place)
  written p (term.Const r) = constant p.place r
  written p (term.Int n) = number p.place n
  written p (term.Call op all imm) = call p.place op (with_constant p.place (params_of (signature_of op)) (all_written p all) imm)
  written p (term.PairOf a b) = Node p.place CType.Pair (tree.PairOf (written p a) (written p b))
  written p (term.Half a k) = Node p.place vector (tree.Half (written p a) k)
  written p (term.Scalar o a b) = operator p.place o (written p a) (written p b)
  written p (term.Convert t a) = cast p.place (CType.Int t) (written p a)
  written p (term.Choice c a b) = chosen p.place (written p c) (written p a) (written p b)
  written p (term.Shifted a b) = moved p.place (written p a) (written p b)
  written p (term.ByteAt a) = pointed p.place (written p a)
  written p (term.SetByte a b) = set p.place (written p a) (written p b)

  pub all_written : Pen → Terms → Trees
  all_written p term.NoTerms = NoTrees
  all_written p (term.More t rest) = More (written p t) (all_written p rest)
