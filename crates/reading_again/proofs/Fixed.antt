-- An expression with its types is given back by the check as it is.
use Rattle.std.proofs.Common.{◌≡◌, ℕ, List, [], ◌∷◌, Bool, true, false, ◌&&◌, Option, Some, None, Ok, Err, refl, ap, ◌∙◌, if◌then◌else◌}
use Rattle.std.specs.Prelude.{option_map, codes, nat_lt, is_some}
use Rattle.c_text.specs.declared.tokens.Dialect.{Dialect}
use Rattle.c_text.specs.declared.tokens.Dialect.TheVariants.{X86, Neon}
use Rattle.c_text.specs.declared.tokens.Place.{Place}
use Rattle.lane_core.specs.declared.number.BinOp.{BinOp}
use Rattle.lane_core.specs.declared.number.IntType.{IntType}
use Rattle.lane_core.specs.declared.number.IntType.TheVariants as int
use Rattle.lane_core.specs.declared.number.Num.{Num}
use Rattle.lane_core.specs.declared.number.UnOp.{UnOp}
use Rattle.lane_core.specs.declared.number.UnOp.TheVariants as sign
use Rattle.lane_core.specs.declared.vector.NeonLane.TheVariants as lane
use Rattle.lane_core.specs.declared.vector.Pointee.{Pointee}
use Rattle.scalar_core.specs.Numbers as numbers
use Rattle.scalar_core.specs.Ranks.{promoted}
use Rattle.const_imm.specs.Sizes.{size_of}
use Rattle.c_tree.specs.declared.types.CType.{CType}
use Rattle.c_tree.specs.Tree as tree
use Rattle.c_tree.specs.Tree.{Tree, Kind, Trees, Node, NoTrees, More}
use Rattle.c_tree.specs.Nodes.{node_type}
use Rattle.c_tree.specs.Marks.{short, mark_of}
use Rattle.type_rules.specs.declared.operands.Fit.{Fit}
use Rattle.type_rules.specs.declared.passing.Parameter.{Parameter}
use Rattle.type_rules.specs.declared.passing.Parameter.TheVariants as passing
use Rattle.type_rules.specs.Types.{read_integer, read_pointee, read_type, is_void_pointer, decayed, same_type, is_zero, converted, assigned, is_assignable, is_scalar, is_integer}
use Rattle.type_rules.specs.Operations.{constant_node, name_node, unary_node, signed_integer, is_stepped, step_node, binary_node, operands_fit, fitted, and_node, or_node, choice_node, arms_type, chosen, compound_type, right_side, assign_node, last_after, comma_node, cast_node, is_cast, element_type, index_node, deref_node, pointed_type, half_node, pair_node, size_node, size_of_name_node}
use Rattle.type_rules.specs.Passing.{given, and_rest, passed, immediate_of}
use Rattle.scopes.specs.Scopes.{Env}
use Rattle.expression_types.specs.Names.{Target}
use Rattle.expression_types.specs.Objects.{is_writable, designated, pointee_of, addressed, address_node}
use Rattle.expression_types.specs.Check.{◌>>=◌, Checked, typed, admitted, is_char, read_number, used, called, fitting, immediate_fits, call, one, two, check, check_kind, check_all}

-- where there is an answer, this holds of it
abbrev pub Whenever : {A : Type 0} → Checked A → (A → Type 0) → Type 0
Whenever (Ok a) P = P a
Whenever (Err r) P = Unit {0}

abbrev pub Each : {A : Type 0} → Option A → (A → Type 0) → Type 0
Each (Some a) P = P a
Each None P = Unit {0}

-- what the check gives is given back by it
abbrev pub Back : {A : Type 0} → (A → Checked A) → A → Type 0
Back f a = f a ≡ Ok a

pub after : {A B : Type 0} (P : A → Type 0) (Q : B → Type 0) (x : Checked A) (h : A → Checked B) → Whenever x P → ((a : A) → x ≡ Ok a → P a → Whenever (h a) Q) → Whenever (x >>= h) Q
after P Q (Ok a) h p step = step a refl p
after P Q (Err r) h p step = tt

-- an answer that is the check of what it gives
pub answered : {A : Type 0} (f : A → Checked A) (x : Checked A) → Whenever x (λ a. f a ≡ x) → Whenever x (Back f)
answered f (Ok a) h = h
answered f (Err r) h = tt

of_typed : (P : Tree → Type 0) (p : Place) (d : List ℕ) (x : Option Tree) → Each x P → Whenever (typed p d x) P
of_typed P p d (Some v) h = h
of_typed P p d None h = tt

of_admitted : (P : Tree → Type 0) (v : Bool) (p : Place) (d : List ℕ) (a : Tree) → P a → Whenever (admitted v p d a) P
of_admitted P true p d a h = tt
of_admitted P false p d a h = h

where_true : (P : Tree → Type 0) (v : Bool) (x : Option Tree) → Each x P → Each (if v then x else None) P
where_true P true x h = h
where_true P false x h = tt

of_map : {A : Type 0} (P : Tree → Type 0) (f : A → Tree) (x : Option A) → ((a : A) → P (f a)) → Each (option_map f x) P
of_map P f (Some a) h = h a
of_map P f None h = tt

-- ---- conversions, and what the dialect reads

check_converted : (t : CType) (a : Tree) (env : Env) → check (converted t a) env ≡ check a env
check_converted t (Node p u k) env = at (same_type u t)
  where
    at : (v : Bool) → check (if v then Node p u k else Node p t (tree.Cast t (Node p u k) false)) env ≡ check (Node p u k) env
    at true = refl
    at false = refl

pub back_converted : (t : CType) (a : Tree) (env : Env) → check a env ≡ Ok a → check (converted t a) env ≡ Ok a
back_converted t a env e = check_converted t a env ∙ e

read_twice_integer : (dialect : Dialect) (t : IntType) → read_integer dialect (read_integer dialect t) ≡ read_integer dialect t
read_twice_integer X86 t = refl
read_twice_integer Neon int.Char = refl
read_twice_integer Neon t = refl

pub read_twice_pointee : (dialect : Dialect) (e : Pointee) → read_pointee dialect (read_pointee dialect e) ≡ read_pointee dialect e
read_twice_pointee dialect (Pointee.Int t) = ap Pointee.Int (read_twice_integer dialect t)
read_twice_pointee dialect e = refl

pub read_twice : (dialect : Dialect) (t : CType) → read_type dialect (read_type dialect t) ≡ read_type dialect t
read_twice dialect (CType.Int t) = ap CType.Int (read_twice_integer dialect t)
read_twice dialect (CType.Pointer e c) = ap (λ f. CType.Pointer f c) (read_twice_pointee dialect e)
read_twice dialect (CType.Array e n c) = ap (λ f. CType.Array f n c) (read_twice_pointee dialect e)
read_twice dialect t = refl

read_void : (dialect : Dialect) (t : CType) → is_void_pointer (read_type dialect t) ≡ is_void_pointer t
read_void dialect (CType.Pointer Pointee.Void c) = refl
read_void dialect (CType.Pointer (Pointee.Int t) c) = refl
read_void dialect (CType.Pointer Pointee.M128 c) = refl
read_void dialect (CType.Pointer Pointee.M256 c) = refl
read_void dialect t = refl

read_twice_number : (dialect : Dialect) (n : Num) → read_number dialect (read_number dialect n) ≡ read_number dialect n
unfolding numbers.converted numbers.num_of
read_twice_number X86 n = refl
read_twice_number Neon n = at (is_char n.ty) refl
  where
    at : (v : Bool) → is_char n.ty ≡ v → read_number Neon (if v then numbers.converted IntType.UChar n else n) ≡ (if v then numbers.converted IntType.UChar n else n)
    at true e = refl
    at false e = rw e refl

-- ---- nodes: the check of what a node becomes is the node again

by_typed : (env : Env) (p : Place) (d : List ℕ) (x : Option Tree) → Each x (λ v. check v env ≡ typed p d x) → Whenever (typed p d x) (Back (λ v. check v env))
by_typed env p d x h = answered (λ v. check v env) (typed p d x) (of_typed (λ v. check v env ≡ typed p d x) p d x h)

back_unary : (o : UnOp) (p : Place) (a : Tree) (env : Env) → check a env ≡ Ok a → Each (unary_node o p a) (λ v. check v env ≡ typed p (mark_of (tree.Unary o a)) (unary_node o p a))
back_unary o p a env e = at o
  where
    again : (t u : CType) (o : UnOp) → check (Node p u (tree.Unary o (converted t a))) env ≡ typed p (mark_of (tree.Unary o a)) (unary_node o p a)
    again t u o = rw (back_converted t a env e) refl

    whole : (o : UnOp) (t : CType) → Each (signed_integer o p a t) (λ v. check v env ≡ typed p (mark_of (tree.Unary o a)) (unary_node o p a))
    whole o (CType.Int t) = again (CType.Int (promoted t)) (CType.Int (promoted t)) o
    whole o t = tt

    at : (o : UnOp) → Each (unary_node o p a) (λ v. check v env ≡ typed p (mark_of (tree.Unary o a)) (unary_node o p a))
    at sign.Not = where_true (λ v. check v env ≡ typed p (mark_of (tree.Unary sign.Not a)) (unary_node sign.Not p a)) (is_scalar (node_type a)) (Some (Node p (CType.Int int.Int) (tree.Unary sign.Not a))) (ap (λ x. x >>= λ b. one (tree.Unary sign.Not a) p env b) e)
    at sign.Plus = whole sign.Plus (node_type a)
    at sign.Neg = whole sign.Neg (node_type a)
    at sign.BitNot = whole sign.BitNot (node_type a)

back_binary : (o : BinOp) (p : Place) (a b : Tree) (env : Env) → check a env ≡ Ok a → check b env ≡ Ok b → Each (binary_node o p a b) (λ v. check v env ≡ typed p (mark_of (tree.Binary o a b)) (binary_node o p a b))
back_binary o p a b env e h = at (operands_fit o (node_type a) (is_zero a) (node_type b) (is_zero b))
  where
    at : (f : Option Fit) → Each (fitted o p a b f) (λ v. check v env ≡ typed p (mark_of (tree.Binary o a b)) (binary_node o p a b))
    at None = tt
    at (Some f) = rw (back_converted f.left a env e, back_converted f.right b env h) refl

back_choice : (p : Place) (c a b : Tree) (env : Env) → check c env ≡ Ok c → check a env ≡ Ok a → check b env ≡ Ok b → Each (choice_node p c a b) (λ v. check v env ≡ typed p (codes "?") (choice_node p c a b))
back_choice p c a b env d e h = where_true (λ v. check v env ≡ typed p (codes "?") (choice_node p c a b)) (is_scalar (node_type c)) (chosen p c a b (arms_type (node_type a) (is_zero a) (node_type b) (is_zero b))) (at (arms_type (node_type a) (is_zero a) (node_type b) (is_zero b)))
  where
    at : (t : Option CType) → Each (chosen p c a b t) (λ v. check v env ≡ typed p (codes "?") (choice_node p c a b))
    at None = tt
    at (Some t) = rw (d, back_converted t a env e, back_converted t b env h) refl

-- what is given to an object of a type is the expression, or that expression converted
pub given_back : (t : CType) (b : Tree) (env : Env) → check b env ≡ Ok b → Each (assigned t b) (λ c. check c env ≡ Ok b)
given_back t b env e = at (is_assignable (is_zero b) (node_type b) t)
  where
    at : (v : Bool) → Each (if v then Some (converted t b) else None) (λ c. check c env ≡ Ok b)
    at true = back_converted t b env e
    at false = tt

right_back : (o : Option BinOp) (t : CType) (b : Tree) (env : Env) → check b env ≡ Ok b → Each (right_side o t b) (λ c. check c env ≡ Ok b)
right_back None t b env e = given_back t b env e
right_back (Some o) t b env e = of_map (λ c. check c env ≡ Ok b) (λ u. converted u b) (compound_type o t (node_type b)) (λ u. back_converted u b env e)

abbrev assignment : Option BinOp → Place → Env → Tree → Tree → Checked Tree
assignment o p env a b = typed p (mark_of (tree.Assign o a b)) (if is_writable a env then assign_node o p a b else None)

back_assign : (o : Option BinOp) (p : Place) (a b : Tree) (env : Env) → check a env ≡ Ok a → check b env ≡ Ok b → Each (if is_writable a env then assign_node o p a b else None) (λ v. check v env ≡ assignment o p env a b)
back_assign o p a b env e h = where_true (λ v. check v env ≡ assignment o p env a b) (is_writable a env) (assign_node o p a b) (at (right_side o (node_type a) b) (right_back o (node_type a) b env h))
  where
    at : (x : Option Tree) → Each x (λ c. check c env ≡ Ok b) → Each (option_map (λ c. Node p (node_type a) (tree.Assign o a c)) x) (λ v. check v env ≡ assignment o p env a b)
    at None g = tt
    at (Some c) g = rw (e, g) refl

-- ---- arguments

-- each of these is given back
abbrev pub AllBack : Trees → Env → Type 0
AllBack NoTrees env = Unit {0}
AllBack (More a rest) env = (check a env ≡ Ok a) × AllBack rest env

pub all_back : (all : Trees) (env : Env) → AllBack all env → check_all all env ≡ Ok all
all_back NoTrees env h = refl
all_back (More a rest) env h = rw (h.0, all_back rest env h.1) refl

argument_back : (t : Parameter) (a : Tree) (env : Env) → check a env ≡ Ok a → Each (given t a) (λ b. check b env ≡ Ok a)
argument_back (passing.Object t) a env e = given_back t a env e
argument_back passing.Immediate a env e = where_true (λ b. check b env ≡ Ok a) (is_integer (node_type a)) (Some a) e

passed_back : (ts : List Parameter) (all : Trees) (env : Env) → AllBack all env → Each (passed ts all) (λ args. check_all args env ≡ Ok all)
passed_back [] NoTrees env h = refl
passed_back (t ∷ ts) (More a rest) env h = at (given t a) (passed ts rest) (argument_back t a env h.0) (passed_back ts rest env h.1)
  where
    at : (x : Option Tree) (xs : Option Trees) → Each x (λ b. check b env ≡ Ok a) → Each xs (λ args. check_all args env ≡ Ok rest) → Each (and_rest x xs) (λ args. check_all args env ≡ Ok (More a rest))
    at (Some b) (Some bs) e f = rw (e, f) refl
    at (Some b) None e f = tt
    at None xs e f = tt
passed_back [] (More a rest) env h = tt
passed_back (t ∷ ts) NoTrees env h = tt

of_fitting : (P : Trees → Type 0) (p : Place) (d : List ℕ) (x : Option Trees) → Each x P → Whenever (fitting p d x) P
of_fitting P p d (Some v) h = h
of_fitting P p d None h = tt

pub anything : {A : Type 0} (x : Checked A) → Whenever x (λ _. Unit {0})
anything (Ok a) = tt
anything (Err r) = tt

back_call : (t : Target) (f : List ℕ) (p : Place) (all : Trees) (env : Env) → called f p env ≡ Ok t → AllBack all env → Whenever (call t f p all) (Back (λ v. check v env))
back_call t f p all env e h =
    answered (λ v. check v env) (call t f p all)
    (after (λ args. check_all args env ≡ Ok all) (λ v. check v env ≡ call t f p all) (fitting p (short f) (passed t.heading.params all)) (λ args. immediate_fits t.range (immediate_of t.heading.params args) >>= λ _. admitted t.outside p (short f) (Node p t.heading.result (tree.Call f args)))
    (of_fitting (λ args. check_all args env ≡ Ok all) p (short f) (passed t.heading.params all) (passed_back t.heading.params all env h))
    (λ args _ g. after (λ _. Unit {0}) (λ v. check v env ≡ call t f p all) (immediate_fits t.range (immediate_of t.heading.params args)) (λ _. admitted t.outside p (short f) (Node p t.heading.result (tree.Call f args)))
    (anything (immediate_fits t.range (immediate_of t.heading.params args)))
    (λ _ _ _. of_admitted (λ v. check v env ≡ call t f p all) t.outside p (short f) (Node p t.heading.result (tree.Call f args))
    (ap (λ x. x >>= λ u. check_all args env >>= λ others. call u f p others) e ∙ ap (λ x. x >>= λ others. call t f p others) g))))

-- ---- casts and sizes

abbrev cast_of : CType → Place → Env → Tree → Checked Tree
cast_of t p env a = typed p (codes "(") (cast_node (read_type env.dialect t) p a) >>= λ v. admitted (is_void_pointer t) p (codes "(") v

cast_again : (t : CType) (p : Place) (a : Tree) (env : Env) → cast_of (read_type env.dialect t) p env a ≡ cast_of t p env a
cast_again t p a env = rw (read_twice env.dialect t, read_void env.dialect t) refl

back_cast : (t : CType) (p : Place) (a : Tree) (env : Env) → check a env ≡ Ok a → Whenever (cast_of t p env a) (Back (λ v. check v env))
back_cast t p a env e =
    let whole : check (Node p (read_type env.dialect t) (tree.Cast (read_type env.dialect t) a true)) env ≡ cast_of t p env a = ap (λ x. x >>= λ b. cast_of (read_type env.dialect t) p env b) e ∙ cast_again t p a env in
    answered (λ v. check v env) (cast_of t p env a)
    (after (λ v. check v env ≡ cast_of t p env a) (λ v. check v env ≡ cast_of t p env a) (typed p (codes "(") (cast_node (read_type env.dialect t) p a)) (λ v. admitted (is_void_pointer t) p (codes "(") v)
    (of_typed (λ v. check v env ≡ cast_of t p env a) p (codes "(") (cast_node (read_type env.dialect t) p a) (where_true (λ v. check v env ≡ cast_of t p env a) (is_cast (node_type a) (read_type env.dialect t)) (Some (Node p (read_type env.dialect t) (tree.Cast (read_type env.dialect t) a true))) whole))
    (λ v _ h. of_admitted (λ v. check v env ≡ cast_of t p env a) (is_void_pointer t) p (codes "(") v h))

abbrev size_told : CType → Place → Env → Checked Tree
size_told t p env = typed p (codes "sizeof") (size_node (read_type env.dialect t) p) >>= λ v. admitted (is_void_pointer t) p (codes "sizeof") v

size_again : (t : CType) (p : Place) (env : Env) → size_told (read_type env.dialect t) p env ≡ size_told t p env
size_again t p env = rw (read_twice env.dialect t, read_void env.dialect t) refl

back_size : (t : CType) (p : Place) (env : Env) → Whenever (size_told t p env) (Back (λ v. check v env))
back_size t p env =
    answered (λ v. check v env) (size_told t p env)
    (after (λ v. check v env ≡ size_told t p env) (λ v. check v env ≡ size_told t p env) (typed p (codes "sizeof") (size_node (read_type env.dialect t) p)) (λ v. admitted (is_void_pointer t) p (codes "sizeof") v)
    (of_typed (λ v. check v env ≡ size_told t p env) p (codes "sizeof") (size_node (read_type env.dialect t) p) (where_true (λ v. check v env ≡ size_told t p env) (is_some (size_of (read_type env.dialect t))) (Some (Node p (CType.Int int.ULong) (tree.SizeOfType (read_type env.dialect t)))) (size_again t p env)))
    (λ v _ h. of_admitted (λ v. check v env ≡ size_told t p env) (is_void_pointer t) p (codes "sizeof") v h))

back_address : (p : Place) (a : Tree) (env : Env) → check a env ≡ Ok a → (c : Option Bool) (e : Option Pointee) → Each (addressed p a c e) (λ v. check v env ≡ typed p (codes "&") (address_node p a env))
back_address p a env h (Some c) (Some e) = ap (λ x. x >>= λ b. typed p (codes "&") (address_node p b env)) h
back_address p a env h (Some c) None = tt
back_address p a env h None e = tt

-- ---- expressions

-- the answer for one part, or two, that are given back
one_back : (env : Env) (a : Tree) (f : Tree → Checked Tree) → Whenever (check a env) (Back (λ v. check v env)) → ((b : Tree) → check b env ≡ Ok b → Whenever (f b) (Back (λ v. check v env))) → Whenever (check a env >>= f) (Back (λ v. check v env))
one_back env a f h step = after (Back (λ v. check v env)) (Back (λ v. check v env)) (check a env) f h (λ b _ e. step b e)

two_back : (env : Env) (a b : Tree) (f : Tree → Tree → Checked Tree) → Whenever (check a env) (Back (λ v. check v env)) → Whenever (check b env) (Back (λ v. check v env)) →
    ((c d : Tree) → check c env ≡ Ok c → check d env ≡ Ok d → Whenever (f c d) (Back (λ v. check v env))) → Whenever (check a env >>= λ c. check b env >>= λ d. f c d) (Back (λ v. check v env))
two_back env a b f h k step = one_back env a (λ c. check b env >>= λ d. f c d) h (λ c e. one_back env b (f c) k (λ d g. step c d e g))

mutual
  pub check_back : (e : Tree) (env : Env) → Whenever (check e env) (Back (λ v. check v env))
  check_back (Node p t k) env = kind_back k p env

  kind_back : (k : Kind) (p : Place) (env : Env) → Whenever (check_kind k p env) (Back (λ v. check v env))
  kind_back (tree.Const n) p env = ap (λ m. Ok (constant_node m p)) (read_twice_number env.dialect n)
  kind_back (tree.Name x) p env =
      after (λ _. Unit {0}) (Back (λ v. check v env)) (used x p env) (λ o. Ok (name_node x o.ty p)) (anything (used x p env)) (λ o e _. check_converted (decayed o.ty) (Node p o.ty (tree.Name x)) env ∙ ap (λ y. y >>= λ o. Ok (name_node x o.ty p)) e)
  kind_back (tree.Unary o a) p env = one_back env a (λ b. one (tree.Unary o a) p env b) (check_back a env) (λ b e. by_typed env p (mark_of (tree.Unary o b)) (unary_node o p b) (back_unary o p b env e))
  kind_back (tree.Step a up before) p env =
      one_back env a (λ b. one (tree.Step a up before) p env b) (check_back a env) (λ b e. by_typed env p (mark_of (tree.Step b up before)) (if is_writable b env then step_node up before p b else None)
      (where_true (λ v. check v env ≡ one (tree.Step b up before) p env b) (is_writable b env) (step_node up before p b) (where_true (λ v. check v env ≡ one (tree.Step b up before) p env b) (is_stepped (node_type b)) (Some (Node p (node_type b) (tree.Step b up before))) (ap (λ x. x >>= λ c. one (tree.Step b up before) p env c) e))))
  kind_back (tree.Binary o a b) p env = two_back env a b (λ c d. two (tree.Binary o a b) p env c d) (check_back a env) (check_back b env) (λ c d e h. by_typed env p (mark_of (tree.Binary o c d)) (binary_node o p c d) (back_binary o p c d env e h))
  kind_back (tree.AndThen a b) p env =
      two_back env a b (λ c d. two (tree.AndThen a b) p env c d) (check_back a env) (check_back b env) (λ c d e h. by_typed env p (codes "&&") (and_node p c d)
      (where_true (λ v. check v env ≡ typed p (codes "&&") (and_node p c d)) (is_scalar (node_type c) && is_scalar (node_type d)) (Some (Node p (CType.Int int.Int) (tree.AndThen c d))) (rw (e, h) refl)))
  kind_back (tree.OrElse a b) p env =
      two_back env a b (λ c d. two (tree.OrElse a b) p env c d) (check_back a env) (check_back b env) (λ c d e h. by_typed env p (codes "||") (or_node p c d)
      (where_true (λ v. check v env ≡ typed p (codes "||") (or_node p c d)) (is_scalar (node_type c) && is_scalar (node_type d)) (Some (Node p (CType.Int int.Int) (tree.OrElse c d))) (rw (e, h) refl)))
  kind_back (tree.Choice c a b) p env =
      one_back env c (λ c. check a env >>= λ a. check b env >>= λ b. typed p (codes "?") (choice_node p c a b)) (check_back c env) (λ d e.
      two_back env a b (λ a b. typed p (codes "?") (choice_node p d a b)) (check_back a env) (check_back b env) (λ x y h g. by_typed env p (codes "?") (choice_node p d x y) (back_choice p d x y env e h g)))
  kind_back (tree.Assign o a b) p env =
      two_back env a b (λ c d. two (tree.Assign o a b) p env c d) (check_back a env) (check_back b env) (λ c d e h. by_typed env p (mark_of (tree.Assign o c d)) (if is_writable c env then assign_node o p c d else None) (back_assign o p c d env e h))
  kind_back (tree.Comma all) p env =
      after (λ v. AllBack v env) (Back (λ v. check v env)) (check_all all env) (λ others. typed p (codes ",") (comma_node p others)) (every_back all env) (λ others _ h. by_typed env p (codes ",") (comma_node p others)
      (of_map (λ v. check v env ≡ typed p (codes ",") (comma_node p others)) (λ t. Node p t (tree.Comma others)) (last_after None others) (λ t. ap (λ x. x >>= λ others. typed p (codes ",") (comma_node p others)) (all_back others env h))))
  kind_back (tree.Cast t a true) p env = one_back env a (λ b. cast_of t p env b) (check_back a env) (λ b e. back_cast t p b env e)
  kind_back (tree.Cast t a false) p env = check_back a env
  kind_back (tree.Index a b) p env =
      two_back env a b (λ c d. two (tree.Index a b) p env c d) (check_back a env) (check_back b env) (λ c d e h. by_typed env p (codes "[") (index_node p c d)
      (of_map (λ v. check v env ≡ typed p (codes "[") (index_node p c d)) (λ t. Node p t (tree.Index c d)) (element_type (node_type c) (node_type d)) (λ t. rw (e, h) refl)))
  kind_back (tree.Deref a) p env =
      one_back env a (λ b. one (tree.Deref a) p env b) (check_back a env) (λ b e. by_typed env p (codes "*") (deref_node p b)
      (of_map (λ v. check v env ≡ typed p (codes "*") (deref_node p b)) (λ t. Node p t (tree.Deref b)) (pointed_type (node_type b)) (λ t. rw e refl)))
  kind_back (tree.Address a) p env =
      one_back env a (λ b. one (tree.Address a) p env b) (check_back a env) (λ b e. by_typed env p (codes "&") (address_node p b env) (back_address p b env e (designated b env) (pointee_of (node_type b))))
  kind_back (tree.Call f all) p env =
      after (λ _. Unit {0}) (Back (λ v. check v env)) (called f p env) (λ t. check_all all env >>= λ others. call t f p others) (anything (called f p env)) (λ t e _.
      after (λ v. AllBack v env) (Back (λ v. check v env)) (check_all all env) (λ others. call t f p others) (every_back all env) (λ others _ h. back_call t f p others env e h))
  kind_back (tree.Half a k) p env =
      one_back env a (λ b. one (tree.Half a k) p env b) (check_back a env) (λ b e. by_typed env p (codes ".") (half_node k p b)
      (where_true (λ v. check v env ≡ typed p (codes ".") (half_node k p b)) (same_type (node_type b) CType.Pair && nat_lt k 2) (Some (Node p (CType.Neon lane.U8 true) (tree.Half b k))) (rw e refl)))
  kind_back (tree.PairOf a b) p env =
      two_back env a b (λ c d. two (tree.PairOf a b) p env c d) (check_back a env) (check_back b env) (λ c d e h. by_typed env p (codes "(") (pair_node p c d)
      (where_true (λ v. check v env ≡ typed p (codes "(") (pair_node p c d)) (same_type (node_type c) (CType.Neon lane.U8 true) && same_type (node_type d) (CType.Neon lane.U8 true)) (Some (Node p CType.Pair (tree.PairOf c d))) (rw (e, h) refl)))
  kind_back (tree.SizeOfType t) p env = back_size t p env
  kind_back (tree.SizeOfName x) p env =
      after (λ _. Unit {0}) (Back (λ v. check v env)) (used x p env) (λ o. typed p (short x) (size_of_name_node x o.ty p)) (anything (used x p env)) (λ o e _. by_typed env p (short x) (size_of_name_node x o.ty p)
      (where_true (λ v. check v env ≡ typed p (short x) (size_of_name_node x o.ty p)) (is_some (size_of o.ty)) (Some (Node p (CType.Int int.ULong) (tree.SizeOfName x))) (ap (λ y. y >>= λ o. typed p (short x) (size_of_name_node x o.ty p)) e)))
  kind_back (tree.Str x) p env = tt

  pub every_back : (all : Trees) (env : Env) → Whenever (check_all all env) (λ v. AllBack v env)
  every_back NoTrees env = tt
  every_back (More a rest) env =
      after (Back (λ v. check v env)) (λ v. AllBack v env) (check a env) (λ b. check_all rest env >>= λ others. Ok (More b others)) (check_back a env) (λ b _ e.
      after (λ v. AllBack v env) (λ v. AllBack v env) (check_all rest env) (λ others. Ok (More b others)) (every_back rest env) (λ others _ h. (e, h)))
