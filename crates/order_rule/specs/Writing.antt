-- What an expression changes, and how often a name occurs in it (C11 6.5p2).
use Rattle.std.specs.Prelude.{ℕ, Bool, true, false, ◌||◌, List, bytes_eq}
use Rattle.c_tree.specs.Tree.{Tree, Kind, Trees, Node, Name, Unary, Step, Binary, AndThen, OrElse, Choice, Assign, Comma, Cast, Index, Deref, Address, Call, Half, PairOf, SizeOfName, NoTrees, More}
use Rattle.address_taken.specs.Addressed.{is_name}
use Rattle.c_tree.specs.Nodes.{root}
use Rattle.order_rule.specs.declared.times.Times.{Times}
use Rattle.order_rule.specs.declared.times.Times.TheVariants.{Never, Once, Often}
use Rattle.order_rule.specs.Callees.{Callees, called}
use Rattle.order_rule.specs.Memory.{Env, is_taken}

-- how often something happens, once or more than once counted apart
abbrev pub sum : Times → Times → Times
sum Never t = t
sum Once Never = Once
sum Once Once = Often
sum Once Often = Often
sum Often t = Often

abbrev pub once_if : Bool → Times
once_if true = Once
once_if false = Never

abbrev mutual
  -- how often the name occurs
  pub occurrences : List ℕ → Tree → Times
  occurrences x (Node p t k) = occurrences_in x k

  pub occurrences_in : List ℕ → Kind → Times
  occurrences_in x (Name y) = once_if (bytes_eq x y)
  occurrences_in x (Unary o a) = occurrences x a
  occurrences_in x (Step a up before) = occurrences x a
  occurrences_in x (Binary o a b) = sum (occurrences x a) (occurrences x b)
  occurrences_in x (AndThen a b) = sum (occurrences x a) (occurrences x b)
  occurrences_in x (OrElse a b) = sum (occurrences x a) (occurrences x b)
  occurrences_in x (Choice c a b) = sum (occurrences x c) (sum (occurrences x a) (occurrences x b))
  occurrences_in x (Assign o a b) = sum (occurrences x a) (occurrences x b)
  occurrences_in x (Comma all) = occurrences_in_all x all
  occurrences_in x (Cast t a written) = occurrences x a
  occurrences_in x (Index a b) = sum (occurrences x a) (occurrences x b)
  occurrences_in x (Deref a) = occurrences x a
  occurrences_in x (Address a) = occurrences x a
  occurrences_in x (Call f all) = occurrences_in_all x all
  occurrences_in x (Half a k) = occurrences x a
  occurrences_in x (PairOf a b) = sum (occurrences x a) (occurrences x b)
  occurrences_in x (SizeOfName y) = once_if (bytes_eq x y)
  occurrences_in x k = Never

  pub occurrences_in_all : List ℕ → Trees → Times
  occurrences_in_all x NoTrees = Never
  occurrences_in_all x (More a rest) = sum (occurrences x a) (occurrences_in_all x rest)

-- the object that is stepped or assigned is the variable of this name
abbrev pub is_target : List ℕ → Tree → Bool
is_target x a = is_name x (root a)

abbrev mutual
  -- the variable of this name is stepped or assigned
  pub changes : List ℕ → Tree → Bool
  changes x (Node p t k) = changes_in x k

  pub changes_in : List ℕ → Kind → Bool
  changes_in x (Unary o a) = changes x a
  changes_in x (Step a up before) = is_target x a || changes x a
  changes_in x (Binary o a b) = changes x a || changes x b
  changes_in x (AndThen a b) = changes x a || changes x b
  changes_in x (OrElse a b) = changes x a || changes x b
  changes_in x (Choice c a b) = changes x c || (changes x a || changes x b)
  changes_in x (Assign o a b) = is_target x a || (changes x a || changes x b)
  changes_in x (Comma all) = changes_in_all x all
  changes_in x (Cast t a written) = changes x a
  changes_in x (Index a b) = changes x a || changes x b
  changes_in x (Deref a) = changes x a
  changes_in x (Address a) = changes x a
  changes_in x (Call f all) = changes_in_all x all
  changes_in x (Half a k) = changes x a
  changes_in x (PairOf a b) = changes x a || changes x b
  changes_in x k = false

  pub changes_in_all : List ℕ → Trees → Bool
  changes_in_all x NoTrees = false
  changes_in_all x (More a rest) = changes x a || changes_in_all x rest

abbrev mutual
  -- the expression designates an object in memory: one that is reached by `*` or `[..]`, or whose address is taken
  pub in_memory : Env → Tree → Bool
  in_memory env (Node p t k) = in_memory_by env k

  pub in_memory_by : Env → Kind → Bool
  in_memory_by env (Name x) = is_taken x env
  in_memory_by env (Index a b) = true
  in_memory_by env (Deref a) = true
  in_memory_by env (Half a k) = in_memory env a
  in_memory_by env (Cast t a false) = in_memory env a
  in_memory_by env k = false

abbrev mutual
  -- how many writers there are: assignments and steps of objects in memory, store rows, and calls of functions that may store
  pub writers : Env → Callees → Tree → Times
  writers env callees (Node p t k) = writers_in env callees k

  pub writers_in : Env → Callees → Kind → Times
  writers_in env callees (Unary o a) = writers env callees a
  writers_in env callees (Step a up before) = sum (once_if (in_memory env a)) (writers env callees a)
  writers_in env callees (Binary o a b) = sum (writers env callees a) (writers env callees b)
  writers_in env callees (AndThen a b) = sum (writers env callees a) (writers env callees b)
  writers_in env callees (OrElse a b) = sum (writers env callees a) (writers env callees b)
  writers_in env callees (Choice c a b) = sum (writers env callees c) (sum (writers env callees a) (writers env callees b))
  writers_in env callees (Assign o a b) = sum (once_if (in_memory env a)) (sum (writers env callees a) (writers env callees b))
  writers_in env callees (Comma all) = writers_in_all env callees all
  writers_in env callees (Cast t a written) = writers env callees a
  writers_in env callees (Index a b) = sum (writers env callees a) (writers env callees b)
  writers_in env callees (Deref a) = writers env callees a
  writers_in env callees (Address a) = writers env callees a
  writers_in env callees (Call f all) = sum (once_if (called f callees).stores) (writers_in_all env callees all)
  writers_in env callees (Half a k) = writers env callees a
  writers_in env callees (PairOf a b) = sum (writers env callees a) (writers env callees b)
  writers_in env callees k = Never

  pub writers_in_all : Env → Callees → Trees → Times
  writers_in_all env callees NoTrees = Never
  writers_in_all env callees (More a rest) = sum (writers env callees a) (writers_in_all env callees rest)
