-- What the order rule says of a typed function hangs on no place, but for where its refusal stands.
use Rattle.std.proofs.Common.{◌≡◌, ℕ, List, [], ◌∷◌, map, Bool, true, false, ◌&&◌, ◌||◌, Option, Some, None, Ok, Err, refl, sym, ap, ◌∙◌, subst}
use Rattle.std.specs.Prelude.{option_map}
use Rattle.std.specs.List.{list_any}
use Rattle.c_text.specs.declared.tokens.Dialect.{Dialect}
use Rattle.c_text.specs.declared.tokens.Dialect.TheVariants.{X86, Neon}
use Rattle.c_text.specs.declared.tokens.Place.{Place}
use Rattle.c_tree.specs.declared.types.CType.{CType}
use Rattle.c_tree.specs.Tree.{Tree, Kind, Trees, Node, Const, Name, Unary, Step, Binary, AndThen, OrElse, Choice, Assign, Comma, Cast, Index, Deref, Address, Call, Half, PairOf, SizeOfType, SizeOfName, Str, NoTrees, More}
use Rattle.c_tree.specs.Tree.{Object, Statement, Statements, Optional, Declare, Run, Block, If, While, DoWhile, For, Break, Continue, Return, Empty, Absent, Present, NoStatements, Then}
use Rattle.c_tree.specs.Tree.{Definition}
use Rattle.c_tree.specs.Nodes.{root, node_place}
use Rattle.c_tree.specs.Same.{nowhere}
use Rattle.c_tree.specs.Marks.{mark}
use Rattle.scopes.specs.Scopes.{or_else}
use Rattle.address_taken.specs.Addressed.{is_name, takes_optional, takes_statement, takes_statements}
use Rattle.address_taken.specs.Taken.{Later, no_more, TakenTrees, Parts, Part, NoParts, taken_objects, taken_statement, taken_optional, taken_statements}
use Rattle.order_rule.specs.declared.times.Times.{Times}
use Rattle.order_rule.specs.declared.times.Times.TheVariants.{Never, Once, Often}
use Rattle.order_rule.specs.Callees.{Callees}
use Rattle.order_rule.specs.Memory.{Env, with_object, opened, outset, begun}
use Rattle.order_rule.specs.Writing.{occurrences, occurrences_in, occurrences_in_all, is_target, changes, changes_in, changes_in_all, in_memory, in_memory_by, writers, writers_in, writers_in_all}
use Rattle.order_rule.specs.Reading.{reads, reads_in, reads_in_all, reaches, reaches_by}
use Rattle.order_rule.specs.Parts.{assigns_once, assigns_memory, may_change, may_change_target, changes_well, changes_well_in, changes_well_in_all, writes_well, passes, unless, broken, broken_in, broken_in_all}
use Rattle.order_rule.specs.Full.{Full, full, full_maybe, flags, inner, behind, behind_optional, first_flag, other_flags, with_objects, full_objects, beyond, beyond_optional, full_statement, full_optional, full_statements, entered, full_expressions, is_writing, is_reading, effects_of, first_broken, refusal, some_times}
use Rattle.vector_types.specs.Order.{in_order, unless_broken}
use Rattle.reading_again.specs.Rewritten.{statement, statements, optional, definition}
use Rattle.reading_again.specs.Unplaced.{unplaced, unplaced_kind, unplaced_all, unplaced_object, places}
use Rattle.reading_again.proofs.Answers.{Alike, refuse_alike}
use Rattle.reading_again.proofs.Meanings.{same_is_name, same_takes_optional, same_takes_declared, same_takes_statement, same_takes_statements}
use Rattle.reading_again.proofs.Nodes.{same_mark}
use Rattle.reading_again.proofs.Objects.{same_root}

-- ---- names

mutual
  same_occurrences : (x : List ℕ) (e : Tree) → occurrences x (unplaced e) ≡ occurrences x e
  same_occurrences x (Node p t k) = same_occurrences_in x k

  same_occurrences_in : (x : List ℕ) (k : Kind) → occurrences_in x (unplaced_kind k) ≡ occurrences_in x k
  same_occurrences_in x (Unary o a) = same_occurrences x a
  same_occurrences_in x (Step a up before) = same_occurrences x a
  same_occurrences_in x (Binary o a b) = rw (same_occurrences x a, same_occurrences x b) refl
  same_occurrences_in x (AndThen a b) = rw (same_occurrences x a, same_occurrences x b) refl
  same_occurrences_in x (OrElse a b) = rw (same_occurrences x a, same_occurrences x b) refl
  same_occurrences_in x (Choice c a b) = rw (same_occurrences x c, same_occurrences x a, same_occurrences x b) refl
  same_occurrences_in x (Assign o a b) = rw (same_occurrences x a, same_occurrences x b) refl
  same_occurrences_in x (Comma all) = same_occurrences_all x all
  same_occurrences_in x (Cast t a w) = same_occurrences x a
  same_occurrences_in x (Index a b) = rw (same_occurrences x a, same_occurrences x b) refl
  same_occurrences_in x (Deref a) = same_occurrences x a
  same_occurrences_in x (Address a) = same_occurrences x a
  same_occurrences_in x (Call f all) = same_occurrences_all x all
  same_occurrences_in x (Half a k) = same_occurrences x a
  same_occurrences_in x (PairOf a b) = rw (same_occurrences x a, same_occurrences x b) refl
  same_occurrences_in x k = refl

  same_occurrences_all : (x : List ℕ) (all : Trees) → occurrences_in_all x (unplaced_all all) ≡ occurrences_in_all x all
  same_occurrences_all x NoTrees = refl
  same_occurrences_all x (More a rest) = rw (same_occurrences x a, same_occurrences_all x rest) refl

same_target : (x : List ℕ) (a : Tree) → is_target x (unplaced a) ≡ is_target x a
same_target x a = ap (is_name x) (same_root a) ∙ same_is_name x (root a)

mutual
  same_changes : (x : List ℕ) (e : Tree) → changes x (unplaced e) ≡ changes x e
  same_changes x (Node p t k) = same_changes_in x k

  same_changes_in : (x : List ℕ) (k : Kind) → changes_in x (unplaced_kind k) ≡ changes_in x k
  same_changes_in x (Unary o a) = same_changes x a
  same_changes_in x (Step a up before) = rw (same_target x a, same_changes x a) refl
  same_changes_in x (Binary o a b) = rw (same_changes x a, same_changes x b) refl
  same_changes_in x (AndThen a b) = rw (same_changes x a, same_changes x b) refl
  same_changes_in x (OrElse a b) = rw (same_changes x a, same_changes x b) refl
  same_changes_in x (Choice c a b) = rw (same_changes x c, same_changes x a, same_changes x b) refl
  same_changes_in x (Assign o a b) = rw (same_target x a, same_changes x a, same_changes x b) refl
  same_changes_in x (Comma all) = same_changes_all x all
  same_changes_in x (Cast t a w) = same_changes x a
  same_changes_in x (Index a b) = rw (same_changes x a, same_changes x b) refl
  same_changes_in x (Deref a) = same_changes x a
  same_changes_in x (Address a) = same_changes x a
  same_changes_in x (Call f all) = same_changes_all x all
  same_changes_in x (Half a k) = same_changes x a
  same_changes_in x (PairOf a b) = rw (same_changes x a, same_changes x b) refl
  same_changes_in x k = refl

  same_changes_all : (x : List ℕ) (all : Trees) → changes_in_all x (unplaced_all all) ≡ changes_in_all x all
  same_changes_all x NoTrees = refl
  same_changes_all x (More a rest) = rw (same_changes x a, same_changes_all x rest) refl

-- ---- memory

mutual
  same_in_memory : (env : Env) (e : Tree) → in_memory env (unplaced e) ≡ in_memory env e
  same_in_memory env (Node p t k) = same_in_memory_by env k

  same_in_memory_by : (env : Env) (k : Kind) → in_memory_by env (unplaced_kind k) ≡ in_memory_by env k
  same_in_memory_by env (Half a k) = same_in_memory env a
  same_in_memory_by env (Cast t a false) = same_in_memory env a
  same_in_memory_by env (Cast t a true) = refl
  same_in_memory_by env k = refl

mutual
  same_writers : (env : Env) (c : Callees) (e : Tree) → writers env c (unplaced e) ≡ writers env c e
  same_writers env c (Node p t k) = same_writers_in env c k

  same_writers_in : (env : Env) (c : Callees) (k : Kind) → writers_in env c (unplaced_kind k) ≡ writers_in env c k
  same_writers_in env c (Unary o a) = same_writers env c a
  same_writers_in env c (Step a up before) = rw (same_in_memory env a, same_writers env c a) refl
  same_writers_in env c (Binary o a b) = rw (same_writers env c a, same_writers env c b) refl
  same_writers_in env c (AndThen a b) = rw (same_writers env c a, same_writers env c b) refl
  same_writers_in env c (OrElse a b) = rw (same_writers env c a, same_writers env c b) refl
  same_writers_in env c (Choice d a b) = rw (same_writers env c d, same_writers env c a, same_writers env c b) refl
  same_writers_in env c (Assign o a b) = rw (same_in_memory env a, same_writers env c a, same_writers env c b) refl
  same_writers_in env c (Comma all) = same_writers_all env c all
  same_writers_in env c (Cast t a w) = same_writers env c a
  same_writers_in env c (Index a b) = rw (same_writers env c a, same_writers env c b) refl
  same_writers_in env c (Deref a) = same_writers env c a
  same_writers_in env c (Address a) = same_writers env c a
  same_writers_in env c (Call f all) = rw (same_writers_all env c all) refl
  same_writers_in env c (Half a k) = same_writers env c a
  same_writers_in env c (PairOf a b) = rw (same_writers env c a, same_writers env c b) refl
  same_writers_in env c k = refl

  same_writers_all : (env : Env) (c : Callees) (all : Trees) → writers_in_all env c (unplaced_all all) ≡ writers_in_all env c all
  same_writers_all env c NoTrees = refl
  same_writers_all env c (More a rest) = rw (same_writers env c a, same_writers_all env c rest) refl

mutual
  same_reads : (o : Bool) (env : Env) (c : Callees) (e : Tree) → reads o env c (unplaced e) ≡ reads o env c e
  same_reads o env c (Node p t k) = same_reads_in o env c t k

  same_reads_in : (o : Bool) (env : Env) (c : Callees) (t : CType) (k : Kind) → reads_in o env c t (unplaced_kind k) ≡ reads_in o env c t k
  same_reads_in o env c t (Unary u a) = same_reads o env c a
  same_reads_in o env c t (Step a up before) = rw (same_in_memory env a, same_reads o env c a) refl
  same_reads_in o env c t (Binary u a b) = rw (same_reads o env c a, same_reads o env c b) refl
  same_reads_in o env c t (AndThen a b) = rw (same_reads o env c a, same_reads o env c b) refl
  same_reads_in o env c t (OrElse a b) = rw (same_reads o env c a, same_reads o env c b) refl
  same_reads_in o env c t (Choice d a b) = rw (same_reads o env c d, same_reads o env c a, same_reads o env c b) refl
  same_reads_in o env c t (Assign None a b) = rw (same_in_memory env a, same_reaches o env c a, same_reads o env c b) refl
  same_reads_in o env c t (Assign (Some u) a b) = rw (same_in_memory env a, same_reads o env c a, same_reads o env c b) refl
  same_reads_in o env c t (Comma all) = same_reads_all o env c all
  same_reads_in o env c t (Cast u a w) = same_reads o env c a
  same_reads_in o env c t (Index a b) = refl
  same_reads_in o env c t (Deref a) = refl
  same_reads_in o env c t (Address a) = same_reaches o env c a
  same_reads_in o env c t (Call f all) = rw (same_reads_all o env c all) refl
  same_reads_in o env c t (Half a k) = same_reads o env c a
  same_reads_in o env c t (PairOf a b) = rw (same_reads o env c a, same_reads o env c b) refl
  same_reads_in o env c t k = refl

  same_reads_all : (o : Bool) (env : Env) (c : Callees) (all : Trees) → reads_in_all o env c (unplaced_all all) ≡ reads_in_all o env c all
  same_reads_all o env c NoTrees = refl
  same_reads_all o env c (More a rest) = rw (same_reads o env c a, same_reads_all o env c rest) refl

  same_reaches : (o : Bool) (env : Env) (c : Callees) (e : Tree) → reaches o env c (unplaced e) ≡ reaches o env c e
  same_reaches o env c (Node p t k) = same_reaches_by o env c k

  same_reaches_by : (o : Bool) (env : Env) (c : Callees) (k : Kind) → reaches_by o env c (unplaced_kind k) ≡ reaches_by o env c k
  same_reaches_by o env c (Index a b) = rw (same_reads o env c a, same_reads o env c b) refl
  same_reaches_by o env c (Deref a) = same_reads o env c a
  same_reaches_by o env c (Half a k) = same_reaches o env c a
  same_reaches_by o env c (Cast t a false) = same_reaches o env c a
  same_reaches_by o env c (Cast t a true) = refl
  same_reaches_by o env c k = refl

-- ---- parts

same_assigns_once : (x : List ℕ) (e : Tree) → assigns_once x (root (unplaced e)) ≡ assigns_once x (root e)
same_assigns_once x e = ap (assigns_once x) (same_root e) ∙ at (root e)
  where
    at : (e : Tree) → assigns_once x (unplaced e) ≡ assigns_once x e
    at (Node p t (Assign o a b)) = rw (same_target x a, same_changes x b) refl
    at (Node p t k) = refl

same_assigns_memory : (env : Env) (e : Tree) → assigns_memory env (root (unplaced e)) ≡ assigns_memory env (root e)
same_assigns_memory env e = ap (assigns_memory env) (same_root e) ∙ at (root e)
  where
    at : (e : Tree) → assigns_memory env (unplaced e) ≡ assigns_memory env e
    at (Node p t (Assign o a b)) = same_in_memory env a
    at (Node p t k) = refl

same_may_change : (w : Tree) (x : List ℕ) → may_change (unplaced w) x ≡ may_change w x
same_may_change w x = rw (same_occurrences x w, same_assigns_once x w) refl

same_may_target : (w a : Tree) → may_change_target (unplaced w) (root (unplaced a)) ≡ may_change_target w (root a)
same_may_target w a = ap (may_change_target (unplaced w)) (same_root a) ∙ at (root a)
  where
    at : (e : Tree) → may_change_target (unplaced w) (unplaced e) ≡ may_change_target w e
    at (Node p t (Name x)) = same_may_change w x
    at (Node p t k) = refl

mutual
  same_well : (w e : Tree) → changes_well (unplaced w) (unplaced e) ≡ changes_well w e
  same_well w (Node p t k) = same_well_in w k

  same_well_in : (w : Tree) (k : Kind) → changes_well_in (unplaced w) (unplaced_kind k) ≡ changes_well_in w k
  same_well_in w (Unary o a) = same_well w a
  same_well_in w (Step a up before) = rw (same_may_target w a, same_well w a) refl
  same_well_in w (Binary o a b) = rw (same_well w a, same_well w b) refl
  same_well_in w (AndThen a b) = rw (same_well w a, same_well w b) refl
  same_well_in w (OrElse a b) = rw (same_well w a, same_well w b) refl
  same_well_in w (Choice c a b) = rw (same_well w c, same_well w a, same_well w b) refl
  same_well_in w (Assign o a b) = rw (same_may_target w a, same_well w a, same_well w b) refl
  same_well_in w (Comma all) = same_well_all w all
  same_well_in w (Cast t a d) = same_well w a
  same_well_in w (Index a b) = rw (same_well w a, same_well w b) refl
  same_well_in w (Deref a) = same_well w a
  same_well_in w (Address a) = same_well w a
  same_well_in w (Call f all) = same_well_all w all
  same_well_in w (Half a k) = same_well w a
  same_well_in w (PairOf a b) = rw (same_well w a, same_well w b) refl
  same_well_in w k = refl

  same_well_all : (w : Tree) (all : Trees) → changes_well_in_all (unplaced w) (unplaced_all all) ≡ changes_well_in_all w all
  same_well_all w NoTrees = refl
  same_well_all w (More a rest) = rw (same_well w a, same_well_all w rest) refl

same_writes_well : (env : Env) (c : Callees) (e : Tree) (n : Times) → writes_well env c (unplaced e) n ≡ writes_well env c e n
same_writes_well env c e Never = refl
same_writes_well env c e Once = rw (same_assigns_memory env e, same_reads true env c e) refl
same_writes_well env c e Often = refl

same_passes : (env : Env) (c : Callees) (e : Tree) → passes env c (unplaced e) ≡ passes env c e
same_passes env c e = rw (same_well e e, same_writers env c e) (ap (λ v. changes_well e e && v) (same_writes_well env c e (writers env c e)))

same_or_else : (a b : Option Tree) → option_map unplaced (or_else a b) ≡ or_else (option_map unplaced a) (option_map unplaced b)
same_or_else (Some a) b = refl
same_or_else None b = refl

same_unless : (env : Env) (c : Callees) (p : Place) (t : CType) (k : Kind) → unless (passes env c (Node nowhere t (unplaced_kind k))) (Node nowhere t (unplaced_kind k)) ≡ option_map unplaced (unless (passes env c (Node p t k)) (Node p t k))
same_unless env c p t k = ap (λ v. unless v (Node nowhere t (unplaced_kind k))) (same_passes env c (Node p t k)) ∙ at (passes env c (Node p t k))
  where
    at : (v : Bool) → unless v (Node nowhere t (unplaced_kind k)) ≡ option_map unplaced (unless v (Node p t k))
    at true = refl
    at false = refl

mutual
  same_broken : (env : Env) (c : Callees) (e : Tree) → broken env c (unplaced e) ≡ option_map unplaced (broken env c e)
  same_broken env c (Node p t k) = same_broken_in env c p t k

  same_broken_in : (env : Env) (c : Callees) (p : Place) (t : CType) (k : Kind) → broken_in env c nowhere t (unplaced_kind k) ≡ option_map unplaced (broken_in env c p t k)
  same_broken_in env c p t (AndThen a b) = rw (same_broken env c a, same_broken env c b) (sym (same_or_else (broken env c a) (broken env c b)))
  same_broken_in env c p t (OrElse a b) = rw (same_broken env c a, same_broken env c b) (sym (same_or_else (broken env c a) (broken env c b)))
  same_broken_in env c p t (Choice d a b) = rw (same_broken env c d, same_broken env c a, same_broken env c b) (sym (same_or_else (broken env c d) (or_else (broken env c a) (broken env c b)) ∙ ap (or_else (option_map unplaced (broken env c d))) (same_or_else (broken env c a) (broken env c b))))
  same_broken_in env c p t (Comma all) = same_broken_all env c all
  same_broken_in env c p t (Cast u a false) = same_broken env c a
  same_broken_in env c p t (Cast u a true) = same_unless env c p t (Cast u a true)
  same_broken_in env c p t (Const n) = same_unless env c p t (Const n)
  same_broken_in env c p t (Name x) = same_unless env c p t (Name x)
  same_broken_in env c p t (Unary o a) = same_unless env c p t (Unary o a)
  same_broken_in env c p t (Step a up before) = same_unless env c p t (Step a up before)
  same_broken_in env c p t (Binary o a b) = same_unless env c p t (Binary o a b)
  same_broken_in env c p t (Assign o a b) = same_unless env c p t (Assign o a b)
  same_broken_in env c p t (Index a b) = same_unless env c p t (Index a b)
  same_broken_in env c p t (Deref a) = same_unless env c p t (Deref a)
  same_broken_in env c p t (Address a) = same_unless env c p t (Address a)
  same_broken_in env c p t (Call f all) = same_unless env c p t (Call f all)
  same_broken_in env c p t (Half a k) = same_unless env c p t (Half a k)
  same_broken_in env c p t (PairOf a b) = same_unless env c p t (PairOf a b)
  same_broken_in env c p t (SizeOfType u) = same_unless env c p t (SizeOfType u)
  same_broken_in env c p t (SizeOfName x) = same_unless env c p t (SizeOfName x)
  same_broken_in env c p t (Str x) = same_unless env c p t (Str x)

  same_broken_all : (env : Env) (c : Callees) (all : Trees) → broken_in_all env c (unplaced_all all) ≡ option_map unplaced (broken_in_all env c all)
  same_broken_all env c NoTrees = refl
  same_broken_all env c (More a rest) = rw (same_broken env c a, same_broken_all env c rest) (sym (same_or_else (broken env c a) (broken_in_all env c rest)))

-- ---- what is known of addresses

same_taken_objects : (all : List Object) (later : Later) → taken_objects (map unplaced_object all) later ≡ taken_objects all later
same_taken_objects [] later = refl
same_taken_objects (d ∷ rest) later = rw (same_takes_optional d.name d.init, same_takes_declared d.name rest, same_taken_objects rest later) refl

mutual
  same_taken : (s : Statement) (later : Later) → taken_statement (statement places s) later ≡ taken_statement s later
  same_taken (Declare all) later = rw (same_taken_objects all later) refl
  same_taken (Run e) later = refl
  same_taken (Block all) later = rw (same_taken_all all) refl
  same_taken (If c s o) later = rw (same_taken s no_more, same_taken_optional o no_more NoParts) refl
  same_taken (While c s) later = rw (same_taken s no_more) refl
  same_taken (DoWhile s c) later = rw (same_taken s no_more) refl
  same_taken (For i c n s) later =
      let behind : ◌≡◌ {A = Later} (λ x. takes_optional x (option_map unplaced c) || (takes_optional x (option_map unplaced n) || takes_statement x (statement places s))) (λ x. takes_optional x c || (takes_optional x n || takes_statement x s)) = λ k x. same_takes_optional x c k || (same_takes_optional x n k || same_takes_statement x s k) in
      ap (λ l. Parts (taken_optional (optional places i) l (Part (taken_statement (statement places s) no_more) NoParts))) behind
      ∙ ap (λ t. Parts (taken_optional (optional places i) (λ x. takes_optional x c || (takes_optional x n || takes_statement x s)) (Part t NoParts))) (same_taken s no_more)
      ∙ ap Parts (same_taken_optional i (λ x. takes_optional x c || (takes_optional x n || takes_statement x s)) (Part (taken_statement s no_more) NoParts))
  same_taken (Break p) later = refl
  same_taken (Continue p) later = refl
  same_taken (Return p e) later = refl
  same_taken Empty later = refl

  same_taken_optional : (o : Optional) (later : Later) (more : TakenTrees) → taken_optional (optional places o) later more ≡ taken_optional o later more
  same_taken_optional Absent later more = refl
  same_taken_optional (Present s) later more = rw (same_taken s later) refl

  same_taken_all : (all : Statements) → taken_statements (statements places all) ≡ taken_statements all
  same_taken_all NoStatements = refl
  same_taken_all (Then s rest) =
      let behind : ◌≡◌ {A = Later} (λ x. takes_statements x (statements places rest)) (λ x. takes_statements x rest) = λ i x. same_takes_statements x rest i in
      ap (λ l. Part (taken_statement (statement places s) l) (taken_statements (statements places rest))) behind
      ∙ rw (same_taken s (λ x. takes_statements x rest), same_taken_all rest) refl

-- ---- full expressions

abbrev unplaced_full : Full → Full
unplaced_full x = full (unplaced x.expression) x.env

same_maybe : (e : Option Tree) (env : Env) (more : List Full) → full_maybe (option_map unplaced e) env (map unplaced_full more) ≡ map unplaced_full (full_maybe e env more)
same_maybe None env more = refl
same_maybe (Some e) env more = refl

same_with_objects : (all : List Object) (taken : List Bool) (env : Env) → with_objects (map unplaced_object all) taken env ≡ with_objects all taken env
same_with_objects [] taken env = refl
same_with_objects (d ∷ rest) taken env = same_with_objects rest (other_flags taken) (with_object d.name (first_flag taken) env)

same_full_objects : (all : List Object) (taken : List Bool) (env : Env) (more : List Full) → full_objects (map unplaced_object all) taken env (map unplaced_full more) ≡ map unplaced_full (full_objects all taken env more)
same_full_objects [] taken env more = refl
same_full_objects (d ∷ rest) taken env more =
    rw (same_full_objects rest (other_flags taken) (with_object d.name (first_flag taken) env) more) (same_maybe d.init (with_object d.name (first_flag taken) env) (full_objects rest (other_flags taken) (with_object d.name (first_flag taken) env) more))

same_beyond : (s : Statement) (ts : TakenTrees) (env : Env) → beyond (statement places s) ts env ≡ beyond s ts env
same_beyond (Declare all) ts env = same_with_objects all (flags ts) env
same_beyond s ts env = refl

same_beyond_optional : (o : Optional) (ts : TakenTrees) (env : Env) → beyond_optional (optional places o) ts env ≡ beyond_optional o ts env
same_beyond_optional Absent ts env = refl
same_beyond_optional (Present s) ts env = same_beyond s ts env

same_behind_optional : (o : Optional) (ts : TakenTrees) → behind_optional (optional places o) ts ≡ behind_optional o ts
same_behind_optional Absent ts = refl
same_behind_optional (Present s) ts = refl

mutual
  same_full : (s : Statement) (ts : TakenTrees) (env : Env) (more : List Full) → full_statement (statement places s) ts env (map unplaced_full more) ≡ map unplaced_full (full_statement s ts env more)
  same_full (Declare all) ts env more = same_full_objects all (flags ts) env more
  same_full (Run e) ts env more = refl
  same_full (Block all) ts env more = same_full_all all (inner ts) (opened env) more
  same_full (If c s o) ts env more =
      ap (λ l. full (unplaced c) env ∷ full_statement (statement places s) (inner ts) (opened env) l) (same_full_optional o (behind (inner ts)) (opened env) more)
      ∙ ap (λ l. full (unplaced c) env ∷ l) (same_full s (inner ts) (opened env) (full_optional o (behind (inner ts)) (opened env) more))
  same_full (While c s) ts env more = ap (λ l. full (unplaced c) env ∷ l) (same_full s (inner ts) (opened env) more)
  same_full (DoWhile s c) ts env more = same_full s (inner ts) (opened env) (full c env ∷ more)
  same_full (For i c n s) ts env more =
      let scope = beyond_optional i (inner ts) (opened env) in
      let last = full_statement s (behind_optional i (inner ts)) (opened scope) more in
      let step = full_maybe n scope last in
      ap (λ b. full_optional (optional places i) (inner ts) (opened env) (full_maybe (option_map unplaced c) b (full_maybe (option_map unplaced n) b (full_statement (statement places s) (behind_optional (optional places i) (inner ts)) (opened b) (map unplaced_full more))))) (same_beyond_optional i (inner ts) (opened env))
      ∙ ap (λ b. full_optional (optional places i) (inner ts) (opened env) (full_maybe (option_map unplaced c) scope (full_maybe (option_map unplaced n) scope (full_statement (statement places s) b (opened scope) (map unplaced_full more))))) (same_behind_optional i (inner ts))
      ∙ ap (λ l. full_optional (optional places i) (inner ts) (opened env) (full_maybe (option_map unplaced c) scope (full_maybe (option_map unplaced n) scope l))) (same_full s (behind_optional i (inner ts)) (opened scope) more)
      ∙ ap (λ l. full_optional (optional places i) (inner ts) (opened env) (full_maybe (option_map unplaced c) scope l)) (same_maybe n scope last)
      ∙ ap (λ l. full_optional (optional places i) (inner ts) (opened env) l) (same_maybe c scope step)
      ∙ same_full_optional i (inner ts) (opened env) (full_maybe c scope step)
  same_full (Break p) ts env more = refl
  same_full (Continue p) ts env more = refl
  same_full (Return p e) ts env more = same_maybe e env more
  same_full Empty ts env more = refl

  same_full_optional : (o : Optional) (ts : TakenTrees) (env : Env) (more : List Full) → full_optional (optional places o) ts env (map unplaced_full more) ≡ map unplaced_full (full_optional o ts env more)
  same_full_optional Absent ts env more = refl
  same_full_optional (Present s) ts env more = same_full s ts env more

  same_full_all : (all : Statements) (ts : TakenTrees) (env : Env) (more : List Full) → full_statements (statements places all) ts env (map unplaced_full more) ≡ map unplaced_full (full_statements all ts env more)
  same_full_all NoStatements ts env more = refl
  same_full_all (Then s rest) ts env more =
      ap (λ b. full_statement (statement places s) ts env (full_statements (statements places rest) (behind ts) b (map unplaced_full more))) (same_beyond s ts env)
      ∙ ap (full_statement (statement places s) ts env) (same_full_all rest (behind ts) (beyond s ts env) more)
      ∙ same_full s ts env (full_statements rest (behind ts) (beyond s ts env) more)

same_flags : (params : List Object) (body : Statements) → map (λ d. takes_statements d.name (statements places body)) (map unplaced_object params) ≡ map (λ d. takes_statements d.name body) params
same_flags [] body = refl
same_flags (d ∷ rest) body = rw (same_takes_statements d.name body, same_flags rest body) refl

same_outset : (body : Statements) → outset (statements places body) ≡ outset body
same_outset body =
    let whole : ◌≡◌ {A = List ℕ → Bool} (λ x. takes_statements x (statements places body)) (λ x. takes_statements x body) = λ i x. same_takes_statements x body i in
    ap begun whole

same_entered : (f : Definition) → entered (definition places f) ≡ entered f
same_entered f =
    ap (λ l. with_objects (map unplaced_object f.params) l (outset (statements places f.body))) (same_flags f.params f.body)
    ∙ ap (λ o. with_objects (map unplaced_object f.params) (map (λ d. takes_statements d.name f.body) f.params) o) (same_outset f.body)
    ∙ same_with_objects f.params (map (λ d. takes_statements d.name f.body) f.params) (outset f.body)

same_expressions : (f : Definition) → full_expressions (definition places f) ≡ map unplaced_full (full_expressions f)
same_expressions f =
    ap (λ t. full_statements (statements places f.body) t (entered (definition places f)) []) (same_taken_all f.body)
    ∙ ap (λ o. full_statements (statements places f.body) (taken_statements f.body) o []) (same_entered f)
    ∙ same_full_all f.body (taken_statements f.body) (entered f) []

-- ---- functions

same_any : (p : Full → Bool) (all : List Full) → ((x : Full) → p (unplaced_full x) ≡ p x) → list_any p (map unplaced_full all) ≡ list_any p all
same_any p [] h = refl
same_any p (x ∷ rest) h = rw (h x, same_any p rest h) refl

pub same_effects : (f : Definition) (c : Callees) → effects_of (definition places f) c ≡ effects_of f c
same_effects f c =
    ap (λ l. record { stores = list_any (is_writing c) l; reads = list_any (is_reading c) l }) (same_expressions f)
    ∙ rw (same_any (is_writing c) (full_expressions f) (λ x. ap some_times (same_writers x.env c x.expression)), same_any (is_reading c) (full_expressions f) (λ x. same_reads false x.env c x.expression)) refl

same_first : (c : Callees) (all : List Full) → first_broken c (map unplaced_full all) ≡ option_map unplaced (first_broken c all)
same_first c [] = refl
same_first c (x ∷ rest) = rw (same_broken x.env c x.expression, same_first c rest) (sym (same_or_else (broken x.env c x.expression) (first_broken c rest)))

-- the part that breaks the rule in a function without places
broken_part : (f : Definition) (c : Callees) → first_broken c (full_expressions (definition places f)) ≡ option_map unplaced (first_broken c (full_expressions f))
broken_part f c = ap (first_broken c) (same_expressions f) ∙ same_first c (full_expressions f)

refused_alike : (exact : Bool) (f g : Definition) (x y : Option Tree) → option_map unplaced x ≡ option_map unplaced y → definition places f ≡ definition places g → Alike exact (definition places) (unless_broken (option_map refusal x) f) (unless_broken (option_map refusal y) g)
refused_alike exact f g None None e same = ap (λ o. Ok o) same
refused_alike exact f g (Some a) (Some b) e same =
    let one : unplaced a ≡ unplaced b = cc in
    subst (λ m. Alike exact (definition places) (Err (refusal a)) (Err (record { number = 16; place = node_place b; detail = m }))) (sym (same_mark a) ∙ ap mark one ∙ same_mark b) (refuse_alike exact (definition places) 16 (node_place a) (node_place b) (mark a))
refused_alike exact f g (Some a) None e same = absurd (cc)
refused_alike exact f g None (Some b) e same = absurd (cc)

-- functions that differ in places alone keep the order rule alike
pub order_alike : (exact : Bool) (dialect : Dialect) (c : Callees) (f g : Definition) → definition places f ≡ definition places g → Alike exact (definition places) (in_order dialect c f) (in_order dialect c g)
order_alike exact X86 c f g e = refused_alike exact f g (first_broken c (full_expressions f)) (first_broken c (full_expressions g)) (sym (broken_part f c) ∙ ap (λ o. first_broken c (full_expressions o)) e ∙ broken_part g c) e
order_alike exact Neon c f g e = ap (λ o. Ok o) e
