-- Typed trees without their places.
use Rattle.std.specs.Prelude.{◌≡◌, List, option_map, false}
use Rattle.c_tree.specs.Tree.{Tree, Kind, Trees, Node, Const, Name, Unary, Step, Binary, AndThen, OrElse, Choice, Assign, Comma, Cast, Index, Deref, Address, Call, Half, PairOf, SizeOfType, SizeOfName, Str, NoTrees, More}
use Rattle.c_tree.specs.Tree.{Object, External}
use Rattle.c_tree.specs.Same.{nowhere}
use Rattle.reading_again.specs.Rewritten.{Rewriting, unit}

abbrev mutual
  pub unplaced : Tree → Tree
  unplaced (Node p t k) = Node nowhere t (unplaced_kind k)

  pub unplaced_kind : Kind → Kind
  unplaced_kind (Const n) = Const n
  unplaced_kind (Name x) = Name x
  unplaced_kind (Unary o a) = Unary o (unplaced a)
  unplaced_kind (Step a up before) = Step (unplaced a) up before
  unplaced_kind (Binary o a b) = Binary o (unplaced a) (unplaced b)
  unplaced_kind (AndThen a b) = AndThen (unplaced a) (unplaced b)
  unplaced_kind (OrElse a b) = OrElse (unplaced a) (unplaced b)
  unplaced_kind (Choice c a b) = Choice (unplaced c) (unplaced a) (unplaced b)
  unplaced_kind (Assign o a b) = Assign o (unplaced a) (unplaced b)
  unplaced_kind (Comma all) = Comma (unplaced_all all)
  unplaced_kind (Cast t a written) = Cast t (unplaced a) written
  unplaced_kind (Index a b) = Index (unplaced a) (unplaced b)
  unplaced_kind (Deref a) = Deref (unplaced a)
  unplaced_kind (Address a) = Address (unplaced a)
  unplaced_kind (Call f all) = Call f (unplaced_all all)
  unplaced_kind (Half a k) = Half (unplaced a) k
  unplaced_kind (PairOf a b) = PairOf (unplaced a) (unplaced b)
  unplaced_kind (SizeOfType t) = SizeOfType t
  unplaced_kind (SizeOfName x) = SizeOfName x
  unplaced_kind (Str x) = Str x

  pub unplaced_all : Trees → Trees
  unplaced_all NoTrees = NoTrees
  unplaced_all (More a rest) = More (unplaced a) (unplaced_all rest)

-- an object, without the side of its name on which its alignment stands too
abbrev pub unplaced_object : Object → Object
unplaced_object d = record {
  place = nowhere;
  name = d.name;
  ty = d.ty;
  length = option_map unplaced d.length;
  constant = d.constant;
  align = option_map unplaced d.align;
  align_first = false;
  init = option_map unplaced d.init;
  list = option_map unplaced_all d.list;
}

abbrev pub places : Rewriting
places = record { ty = λ t. t; object = unplaced_object; tree = unplaced }

-- what is left of two units is the same; their types and the casts that aren't written count
abbrev pub DifferInPlaces : List External → List External → Type 0
DifferInPlaces u v = unit places u ≡ unit places v
