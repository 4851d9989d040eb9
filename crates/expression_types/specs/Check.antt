-- The check of an expression: the typed expression, or the first node that fails. A call's name is judged before its arguments, and
-- any other node after its parts. A cast that isn't written is passed over.
use Rattle.std.specs.Prelude.{◌≡◌, ℕ, Bool, true, false, nat_lt, if◌then◌else◌, List, Option, Some, None, Result, Ok, Err, codes}
use Rattle.c_text.specs.declared.tokens.Place.{Place}
use Rattle.c_text.specs.declared.tokens.Dialect.{Dialect}
use Rattle.c_text.specs.declared.tokens.Dialect.TheVariants.{X86, Neon}
use Rattle.c_text.specs.declared.refusals.Refusal.{Refusal}
use Rattle.c_text.specs.declared.refusals.Fail.{Fail}
use Rattle.c_text.specs.declared.refusals.Fail.TheVariants.{Refused, Memory}
use Rattle.lane_core.specs.declared.number.IntType.{IntType}
use Rattle.lane_core.specs.declared.number.Num.{Num}
use Rattle.lane_core.specs.declared.table.ImmRange.{ImmRange}
use Rattle.lane_core.specs.declared.table.ImmRange.TheVariants.{NoImmediate}
use Rattle.scalar_core.specs.Numbers as numbers
use Rattle.const_imm.specs.Constant.{value_of}
use Rattle.c_tree.specs.Tree as tree
use Rattle.c_tree.specs.Tree.{Tree, Kind, Trees, Node, NoTrees, More}
use Rattle.c_tree.specs.Nodes.{node_place}
use Rattle.type_rules.specs.Types.{read_type, is_void_pointer}
use Rattle.type_rules.specs.Operations.{constant_node, name_node, unary_node, step_node, binary_node, and_node, or_node, choice_node, assign_node, comma_node, cast_node, index_node, deref_node, half_node, pair_node, size_node, size_of_name_node}
use Rattle.type_rules.specs.Passing.{passed, immediate_of, is_in_range}
use Rattle.scopes.specs.declared.environment.Object.{Object}
use Rattle.scopes.specs.Scopes.{Env, Callee, Row, named, object_named}
use Rattle.c_tree.specs.Marks.{short, mark_of, mark}
use Rattle.expression_types.specs.Names.{is_widening, widening, is_unknown_intrinsic, is_function, Target}
use Rattle.expression_types.specs.Objects.{is_writable, address_node}

abbrev pub Checked : Type 0 → Type 0
Checked A = Result A Refusal

infixl 10 ◌>>=◌
abbrev pub ◌>>=◌ : {A B : Type 0} → Checked A → (A → Checked B) → Checked B
(Ok x) >>= f = f x
(Err r) >>= f = Err r

abbrev pub refuse : {A : Type 0} → ℕ → Place → List ℕ → Checked A
refuse n p d = Err (record { number = n; place = p; detail = d })

-- a node whose types fit, or 11
abbrev pub typed : Place → List ℕ → Option Tree → Checked Tree
typed p d (Some v) = Ok v
typed p d None = refuse 11 p d

-- a node that the profile admits, or 18
abbrev pub admitted : Bool → Place → List ℕ → Tree → Checked Tree
admitted outside p d v = if outside then refuse 18 p d else Ok v

-- a constant as the dialect reads it: in Neon's one of type `char` is an `unsigned char`
abbrev pub is_char : IntType → Bool
is_char IntType.Char = true
is_char t = false

abbrev pub read_number : Dialect → Num → Num
read_number X86 n = n
read_number Neon n = if is_char n.ty then numbers.converted IntType.UChar n else n

-- the object that a name stands for; a function's name stands in calls alone (18), and any other is unknown (10)
abbrev pub used_as : List ℕ → Place → Env → Option Object → Checked Object
used_as x p env (Some o) = Ok o
used_as x p env None = if is_function x env then refuse 18 p (short x) else refuse 10 p (short x)

abbrev pub used : List ℕ → Place → Env → Checked Object
used x p env = used_as x p env (object_named x env)

-- what a called name stands for: an unknown intrinsic is 13, an object 11, a function of the unit that doesn't stand before 17, and a
-- name that nothing declares 10
abbrev pub row_called : List ℕ → Place → Env → Option Row → Checked Target
row_called x p env (Some r) = Ok (record { heading = r.heading; range = r.range; outside = false })
row_called x p env None = if is_widening env.dialect x then Ok (record { heading = widening; range = NoImmediate; outside = true }) else refuse 10 p (short x)

abbrev pub function_called : List ℕ → Place → Env → Option Callee → Checked Target
function_called x p env (Some f) = if nat_lt f.order env.here then Ok (record { heading = f.heading; range = NoImmediate; outside = env.calls_none }) else refuse 17 p (short x)
function_called x p env None = row_called x p env (env.rows x)

abbrev pub object_called : List ℕ → Place → Env → Option Object → Checked Target
object_called x p env (Some o) = refuse 11 p (short x)
object_called x p env None = function_called x p env (named x env.functions)

abbrev pub called : List ℕ → Place → Env → Checked Target
called x p env = if is_unknown_intrinsic x env then refuse 13 p (short x) else object_called x p env (object_named x env)

-- an immediate has a constant value (14) that is in range (15); what is shown is the argument
abbrev pub in_range : ImmRange → Tree → Option Num → Checked Bool
in_range range a (Some n) = if is_in_range range n.value then Ok true else refuse 15 (node_place a) (mark a)
in_range range a None = refuse 14 (node_place a) (mark a)

abbrev pub immediate_fits : ImmRange → Option Tree → Checked Bool
immediate_fits range (Some a) = in_range range a (value_of a)
immediate_fits range None = Ok true

-- the arguments as they are passed, or 11
abbrev pub fitting : Place → List ℕ → Option Trees → Checked Trees
fitting p d (Some args) = Ok args
fitting p d None = refuse 11 p d

-- a call whose name and arguments have passed: their number and types, the immediate, and what the profile leaves out
abbrev pub call : Target → List ℕ → Place → Trees → Checked Tree
call t f p all =
    fitting p (short f) (passed t.heading.params all) >>= λ args.
    immediate_fits t.range (immediate_of t.heading.params args) >>= λ _.
    admitted t.outside p (short f) (Node p t.heading.result (tree.Call f args))

-- a form whose one operand has passed and is a
abbrev pub one : Kind → Place → Env → Tree → Checked Tree
one (tree.Unary o _) p env a = typed p (mark_of (tree.Unary o a)) (unary_node o p a)
one (tree.Step _ up before) p env a = typed p (mark_of (tree.Step a up before)) (if is_writable a env then step_node up before p a else None)
one (tree.Cast t _ written) p env a = typed p (codes "(") (cast_node (read_type env.dialect t) p a) >>= λ v. admitted (is_void_pointer t) p (codes "(") v
one (tree.Deref _) p env a = typed p (codes "*") (deref_node p a)
one (tree.Address _) p env a = typed p (codes "&") (address_node p a env)
one (tree.Half _ k) p env a = typed p (codes ".") (half_node k p a)
one k p env a = refuse 11 p (mark_of k)

-- a form whose two operands have passed and are a and b
abbrev pub two : Kind → Place → Env → Tree → Tree → Checked Tree
two (tree.Binary o _ _) p env a b = typed p (mark_of (tree.Binary o a b)) (binary_node o p a b)
two (tree.AndThen _ _) p env a b = typed p (codes "&&") (and_node p a b)
two (tree.OrElse _ _) p env a b = typed p (codes "||") (or_node p a b)
two (tree.Assign o _ _) p env a b = typed p (mark_of (tree.Assign o a b)) (if is_writable a env then assign_node o p a b else None)
two (tree.Index _ _) p env a b = typed p (codes "[") (index_node p a b)
two (tree.PairOf _ _) p env a b = typed p (codes "(") (pair_node p a b)
two k p env a b = refuse 11 p (mark_of k)

abbrev mutual
  pub check : Tree → Env → Checked Tree
  check (Node p t k) env = check_kind k p env

  pub check_kind : Kind → Place → Env → Checked Tree
  check_kind (tree.Const n) p env = Ok (constant_node (read_number env.dialect n) p)
  check_kind (tree.Name x) p env = used x p env >>= λ o. Ok (name_node x o.ty p)
  check_kind (tree.Unary o a) p env = check a env >>= λ a'. one (tree.Unary o a) p env a'
  check_kind (tree.Step a up before) p env = check a env >>= λ a'. one (tree.Step a up before) p env a'
  check_kind (tree.Binary o a b) p env = check a env >>= λ a'. check b env >>= λ b'. two (tree.Binary o a b) p env a' b'
  check_kind (tree.AndThen a b) p env = check a env >>= λ a'. check b env >>= λ b'. two (tree.AndThen a b) p env a' b'
  check_kind (tree.OrElse a b) p env = check a env >>= λ a'. check b env >>= λ b'. two (tree.OrElse a b) p env a' b'
  check_kind (tree.Choice c a b) p env = check c env >>= λ c'. check a env >>= λ a'. check b env >>= λ b'. typed p (codes "?") (choice_node p c' a' b')
  check_kind (tree.Assign o a b) p env = check a env >>= λ a'. check b env >>= λ b'. two (tree.Assign o a b) p env a' b'
  check_kind (tree.Comma all) p env = check_all all env >>= λ all'. typed p (codes ",") (comma_node p all')
  check_kind (tree.Cast t a true) p env = check a env >>= λ a'. one (tree.Cast t a true) p env a'
  check_kind (tree.Cast t a false) p env = check a env
  check_kind (tree.Index a b) p env = check a env >>= λ a'. check b env >>= λ b'. two (tree.Index a b) p env a' b'
  check_kind (tree.Deref a) p env = check a env >>= λ a'. one (tree.Deref a) p env a'
  check_kind (tree.Address a) p env = check a env >>= λ a'. one (tree.Address a) p env a'
  check_kind (tree.Call f all) p env = called f p env >>= λ t. check_all all env >>= λ all'. call t f p all'
  check_kind (tree.Half a k) p env = check a env >>= λ a'. one (tree.Half a k) p env a'
  check_kind (tree.PairOf a b) p env = check a env >>= λ a'. check b env >>= λ b'. two (tree.PairOf a b) p env a' b'
  check_kind (tree.SizeOfType t) p env = typed p (codes "sizeof") (size_node (read_type env.dialect t) p) >>= λ v. admitted (is_void_pointer t) p (codes "sizeof") v
  check_kind (tree.SizeOfName x) p env = used x p env >>= λ o. typed p (short x) (size_of_name_node x o.ty p)
  check_kind (tree.Str x) p env = refuse 11 p (short x)

  pub check_all : Trees → Env → Checked Trees
  check_all NoTrees env = Ok NoTrees
  check_all (More a rest) env = check a env >>= λ a'. check_all rest env >>= λ rest'. Ok (More a' rest')

-- what a function returned, seen by view, is this answer, unless memory ran out
abbrev pub Gives : {X Y : Type 0} → (X → Y) → Result X Fail → Checked Y → Type 0
Gives view (Ok x) read = read ≡ Ok (view x)
Gives view (Err Memory) read = Unit {0}
Gives view (Err (Refused r)) read = read ≡ Err r
