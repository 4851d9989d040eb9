-- What contracts see of the code's counts of names.
use Rattle.std.specs.Prelude.{◌≡◌, ℕ, List, if◌then◌else◌, bytes_eq}
use Rattle.c_tree.specs.Tree.{Tree, Kind, Trees, Node, Name, Unary, Step, Binary, AndThen, OrElse, Choice, Assign, Comma, Cast, Index, Deref, Address, Call, Half, PairOf, SizeOfName, NoTrees, More}
use Rattle.address_taken.specs.Marks.{is_marked}
use Rattle.order_rule.specs.declared.counting.Counts.{Counts}
use Rattle.order_rule.specs.declared.times.Times.{Times}
use Rattle.order_rule.specs.declared.times.Times.TheVariants.{Often}
use Rattle.order_rule.specs.Writing.{sum, once_if, occurrences}

-- how often the name was counted
abbrev pub times_of : Counts → List ℕ → Times
times_of c x = if is_marked c.again x then Often else once_if (is_marked c.seen x)

-- each name was counted as often as it occurs
abbrev pub IsCounted : Counts → Tree → Type 0
IsCounted c e = (x : List ℕ) → times_of c x ≡ occurrences x e

abbrev mutual
  -- how often the name was counted where the expression is counted after that: as often as it occurs, and n
  pub counted : List ℕ → Tree → Times → Times
  counted x (Node p t k) n = counted_in x k n

  pub counted_in : List ℕ → Kind → Times → Times
  counted_in x (Name y) n = sum (once_if (bytes_eq x y)) n
  counted_in x (Unary o a) n = counted x a n
  counted_in x (Step a up before) n = counted x a n
  counted_in x (Binary o a b) n = counted x a (counted x b n)
  counted_in x (AndThen a b) n = counted x a (counted x b n)
  counted_in x (OrElse a b) n = counted x a (counted x b n)
  counted_in x (Choice c a b) n = counted x c (counted x a (counted x b n))
  counted_in x (Assign o a b) n = counted x a (counted x b n)
  counted_in x (Comma all) n = counted_in_all x all n
  counted_in x (Cast t a written) n = counted x a n
  counted_in x (Index a b) n = counted x a (counted x b n)
  counted_in x (Deref a) n = counted x a n
  counted_in x (Address a) n = counted x a n
  counted_in x (Call f all) n = counted_in_all x all n
  counted_in x (Half a k) n = counted x a n
  counted_in x (PairOf a b) n = counted x a (counted x b n)
  counted_in x (SizeOfName y) n = sum (once_if (bytes_eq x y)) n
  counted_in x k n = n

  pub counted_in_all : List ℕ → Trees → Times → Times
  counted_in_all x NoTrees n = n
  counted_in_all x (More a rest) n = counted_in_all x rest (counted x a n)
