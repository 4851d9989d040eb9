-- The order rule: when the result of a full expression doesn't depend on the order in which its operands are evaluated (C11 6.5p2, p3).
use Rattle.std.specs.Prelude.{◌≡◌, ℕ, Bool, true, false, not, ◌&&◌, ◌||◌, ◌⊎◌, IsTrue, List, Option, Some, None}
use Rattle.c_text.specs.declared.tokens.Place.{Place}
use Rattle.c_tree.specs.declared.types.CType.{CType}
use Rattle.c_tree.specs.Tree.{Tree, Kind, Trees, Node, Name, Unary, Step, Binary, AndThen, OrElse, Choice, Assign, Comma, Cast, Index, Deref, Address, Call, Half, PairOf, NoTrees, More}
use Rattle.c_tree.specs.Nodes.{root}
use Rattle.scopes.specs.Scopes.{or_else}
use Rattle.order_rule.specs.declared.times.Times.{Times}
use Rattle.order_rule.specs.declared.times.Times.TheVariants.{Never, Once, Often}
use Rattle.order_rule.specs.Callees.{Callees}
use Rattle.order_rule.specs.Memory.{Env}
use Rattle.order_rule.specs.Writing.{occurrences, is_target, changes, in_memory, writers}
use Rattle.order_rule.specs.Reading.{reads}

-- the root is an assignment to that variable, whose right side neither steps nor assigns it
abbrev pub assigns_once : List ℕ → Tree → Bool
assigns_once x (Node p t (Assign o a b)) = is_target x a && not (changes x b)
assigns_once x (Node p t k) = false

-- the root is an assignment to an object in memory
abbrev pub assigns_memory : Env → Tree → Bool
assigns_memory env (Node p t (Assign o a b)) = in_memory env a
assigns_memory env (Node p t k) = false

-- What an expression that is a part must be. A variable that is stepped or assigned occurs once; the right side of an assignment at the
-- root may have the root's target more often, where it doesn't step or assign it. There is at most one writer. Where the writer isn't an
-- assignment at the root, nothing outside it reads memory.
pub record Passes (env : Env) (callees : Callees) (e : Tree) : Type 0 where
  pub o1 : (x : List ℕ) → IsTrue (changes x e) → (occurrences x e ≡ Once) ⊎ IsTrue (assigns_once x (root e))
  pub o2 : writers env callees e ≡ Often → ⊥
  pub o3 : writers env callees e ≡ Once → assigns_memory env (root e) ≡ false → reads true env callees e ≡ false

-- ---- the same as a test

abbrev pub is_once : Times → Bool
is_once Never = false
is_once Once = true
is_once Often = false

abbrev pub may_change : Tree → List ℕ → Bool
may_change whole x = is_once (occurrences x whole) || assigns_once x (root whole)

-- the object that is stepped or assigned, if it is a variable, may be
abbrev pub may_change_target : Tree → Tree → Bool
may_change_target whole (Node p t (Name x)) = may_change whole x
may_change_target whole (Node p t k) = true

abbrev mutual
  -- each variable that is stepped or assigned may be
  pub changes_well : Tree → Tree → Bool
  changes_well whole (Node p t k) = changes_well_in whole k

  pub changes_well_in : Tree → Kind → Bool
  changes_well_in whole (Unary o a) = changes_well whole a
  changes_well_in whole (Step a up before) = may_change_target whole (root a) && changes_well whole a
  changes_well_in whole (Binary o a b) = changes_well whole a && changes_well whole b
  changes_well_in whole (AndThen a b) = changes_well whole a && changes_well whole b
  changes_well_in whole (OrElse a b) = changes_well whole a && changes_well whole b
  changes_well_in whole (Choice c a b) = changes_well whole c && (changes_well whole a && changes_well whole b)
  changes_well_in whole (Assign o a b) = may_change_target whole (root a) && (changes_well whole a && changes_well whole b)
  changes_well_in whole (Comma all) = changes_well_in_all whole all
  changes_well_in whole (Cast t a written) = changes_well whole a
  changes_well_in whole (Index a b) = changes_well whole a && changes_well whole b
  changes_well_in whole (Deref a) = changes_well whole a
  changes_well_in whole (Address a) = changes_well whole a
  changes_well_in whole (Call f all) = changes_well_in_all whole all
  changes_well_in whole (Half a k) = changes_well whole a
  changes_well_in whole (PairOf a b) = changes_well whole a && changes_well whole b
  changes_well_in whole k = true

  pub changes_well_in_all : Tree → Trees → Bool
  changes_well_in_all whole NoTrees = true
  changes_well_in_all whole (More a rest) = changes_well whole a && changes_well_in_all whole rest

-- for this number of writers
abbrev pub writes_well : Env → Callees → Tree → Times → Bool
writes_well env callees e Never = true
writes_well env callees e Once = assigns_memory env (root e) || not (reads true env callees e)
writes_well env callees e Often = false

abbrev pub passes : Env → Callees → Tree → Bool
passes env callees e = changes_well e e && writes_well env callees e (writers env callees e)

-- ---- parts

abbrev pub unless : Bool → Tree → Option Tree
unless true e = None
unless false e = Some e

abbrev mutual
  -- The root of the first part that doesn't pass, in the order of the text. Where the root of an expression is `,`, `&&`, `||` or `?:`, each of
  -- its operands is judged by itself, and so on inwards; any other expression is one part. A cast that isn't written is no node of the text.
  pub broken : Env → Callees → Tree → Option Tree
  broken env callees (Node p t k) = broken_in env callees p t k

  pub broken_in : Env → Callees → Place → CType → Kind → Option Tree
  broken_in env callees p t (AndThen a b) = or_else (broken env callees a) (broken env callees b)
  broken_in env callees p t (OrElse a b) = or_else (broken env callees a) (broken env callees b)
  broken_in env callees p t (Choice c a b) = or_else (broken env callees c) (or_else (broken env callees a) (broken env callees b))
  broken_in env callees p t (Comma all) = broken_in_all env callees all
  broken_in env callees p t (Cast u a false) = broken env callees a
  broken_in env callees p t k = unless (passes env callees (Node p t k)) (Node p t k)

  pub broken_in_all : Env → Callees → Trees → Option Tree
  broken_in_all env callees NoTrees = None
  broken_in_all env callees (More a rest) = or_else (broken env callees a) (broken_in_all env callees rest)
