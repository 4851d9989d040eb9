-- Whether an expression reads memory: an object in memory for its value, by a row, or by a call of a function that may read memory.
use Rattle.std.specs.Prelude.{Bool, true, false, not, ◌&&◌, ◌||◌, Some, None}
use Rattle.c_tree.specs.declared.types.CType.{CType}
use Rattle.c_tree.specs.Tree.{Tree, Kind, Trees, Node, Name, Unary, Step, Binary, AndThen, OrElse, Choice, Assign, Comma, Cast, Index, Deref, Address, Call, Half, PairOf, NoTrees, More}
use Rattle.c_tree.specs.Types.{is_array}
use Rattle.order_rule.specs.Callees.{Callees, called}
use Rattle.order_rule.specs.Memory.{Env, is_taken}
use Rattle.order_rule.specs.Writing.{in_memory}

-- What a plain assignment does with its target, and `&` with its operand: the object isn't read, but what leads to it is evaluated
-- (6.5.16p3, 6.5.3.2p3). With `outside` only what lies outside the writers and their operands counts.
abbrev mutual
  pub reads : Bool → Env → Callees → Tree → Bool
  reads outside env callees (Node p t k) = reads_in outside env callees t k

  pub reads_in : Bool → Env → Callees → CType → Kind → Bool
  reads_in outside env callees t (Name x) = not (is_array t) && is_taken x env
  reads_in outside env callees t (Unary o a) = reads outside env callees a
  reads_in outside env callees t (Step a up before) = not (outside && in_memory env a) && reads outside env callees a
  reads_in outside env callees t (Binary o a b) = reads outside env callees a || reads outside env callees b
  reads_in outside env callees t (AndThen a b) = reads outside env callees a || reads outside env callees b
  reads_in outside env callees t (OrElse a b) = reads outside env callees a || reads outside env callees b
  reads_in outside env callees t (Choice c a b) = reads outside env callees c || (reads outside env callees a || reads outside env callees b)
  reads_in outside env callees t (Assign None a b) = not (outside && in_memory env a) && (reaches outside env callees a || reads outside env callees b)
  reads_in outside env callees t (Assign (Some o) a b) = not (outside && in_memory env a) && (reads outside env callees a || reads outside env callees b)
  reads_in outside env callees t (Comma all) = reads_in_all outside env callees all
  reads_in outside env callees t (Cast u a written) = reads outside env callees a
  reads_in outside env callees t (Index a b) = true
  reads_in outside env callees t (Deref a) = true
  reads_in outside env callees t (Address a) = reaches outside env callees a
  reads_in outside env callees t (Call f all) = not (outside && (called f callees).stores) && ((called f callees).reads || reads_in_all outside env callees all)
  reads_in outside env callees t (Half a k) = reads outside env callees a
  reads_in outside env callees t (PairOf a b) = reads outside env callees a || reads outside env callees b
  reads_in outside env callees t k = false

  pub reads_in_all : Bool → Env → Callees → Trees → Bool
  reads_in_all outside env callees NoTrees = false
  reads_in_all outside env callees (More a rest) = reads outside env callees a || reads_in_all outside env callees rest

  -- what leads to an object reads memory
  pub reaches : Bool → Env → Callees → Tree → Bool
  reaches outside env callees (Node p t k) = reaches_by outside env callees k

  pub reaches_by : Bool → Env → Callees → Kind → Bool
  reaches_by outside env callees (Index a b) = reads outside env callees a || reads outside env callees b
  reaches_by outside env callees (Deref a) = reads outside env callees a
  reaches_by outside env callees (Half a k) = reaches outside env callees a
  reaches_by outside env callees (Cast t a false) = reaches outside env callees a
  reaches_by outside env callees k = false
