-- Whether an expression of constant form has a value, and which, hangs on no name in scope.
use Rattle.std.proofs.Common.{◌≡◌, ◌⊎◌, inl, inr, ℕ, List, Bool, true, false, ◌&&◌, Option, Some, None, Ok, Err, refl, if◌then◌else◌}
use Rattle.std.specs.Prelude.{option_map, codes, nat_lt, is_some}
use Rattle.std.specs.Option.{option_and_then}
use Rattle.c_text.specs.declared.tokens.Place.{Place}
use Rattle.lane_core.specs.declared.number.IntType.{IntType}
use Rattle.lane_core.specs.declared.number.Num.{Num}
use Rattle.lane_core.specs.declared.number.BinOp.{BinOp}
use Rattle.lane_core.specs.declared.number.UnOp.{UnOp}
use Rattle.lane_core.specs.declared.number.UnOp.TheVariants as sign
use Rattle.lane_core.specs.declared.vector.Pointee.{Pointee}
use Rattle.scalar_core.specs.Ranks.{promoted, common_of}
use Rattle.const_imm.specs.Constant.{type_of, kind_type, value_of, kind_value, typed_both, on_both, is_true, and_value, or_value, choice_value}
use Rattle.scalar_core.specs.Operators.{unary_type, binary_type, binary_of}
use Rattle.const_imm.specs.Sizes.{size_of}
use Rattle.c_tree.specs.Nodes.{node_type}
use Rattle.c_tree.specs.Marks.{short}
use Rattle.lane_core.specs.declared.vector.NeonLane.TheVariants as lane
use Rattle.type_rules.specs.Passing.{passed, immediate_of}
use Rattle.expression_types.specs.Names.{Target}
use Rattle.expression_types.specs.Objects.{is_writable, designated, pointee_of, addressed, address_node}
use Rattle.c_tree.specs.declared.types.CType.{CType}
use Rattle.c_tree.specs.Tree as tree
use Rattle.c_tree.specs.Tree.{Tree, Kind, Trees, Node, NoTrees, More}
use Rattle.type_rules.specs.declared.operands.Fit.{Fit}
use Rattle.type_rules.specs.Types.{decayed, same_type, converted, is_scalar, is_zero, read_type, is_void_pointer}
use Rattle.type_rules.specs.Operations.{name_node, unary_node, signed_integer, fitted, binary_node, operands_fit, arms_type, is_stepped, step_node, element_type, index_node, pointed_type, deref_node, half_node, pair_node, size_of_name_node, and_node, or_node, chosen, choice_node, right_side, assign_node, last_type, comma_node, is_cast, cast_node}
use Rattle.scopes.specs.Scopes.{Env}
use Rattle.expression_types.specs.Check.{◌>>=◌, Checked, typed, admitted, used, called, fitting, immediate_fits, call, check, check_kind, check_all}
use Rattle.object_types.specs.Objects.{behind_declarator}

-- the tree is made of the forms of constant expressions alone
abbrev mutual
  pub closed : Tree → Bool
  closed (Node p t k) = closed_kind k

  pub closed_kind : Kind → Bool
  closed_kind (tree.Const n) = true
  closed_kind (tree.Unary o a) = closed a
  closed_kind (tree.Binary o a b) = closed a && closed b
  closed_kind (tree.AndThen a b) = closed a && closed b
  closed_kind (tree.OrElse a b) = closed a && closed b
  closed_kind (tree.Choice c a b) = closed c && (closed a && closed b)
  closed_kind (tree.Cast t a written) = closed a
  closed_kind (tree.SizeOfType t) = true
  closed_kind k = false

left_true : (v w : Bool) → (v && w) ≡ true → v ≡ true
left_true true w e = refl
left_true false w e = absurd (cc)

right_true : (v w : Bool) → (v && w) ≡ true → w ≡ true
right_true true w e = e
right_true false w e = absurd (cc)

one_false : (v w : Bool) → (v && w) ≡ false → (v ≡ false) ⊎ (w ≡ false)
one_false true w e = inr e
one_false false w e = inl refl

-- a name that is declared changes nothing of it
mutual
  pub closed_env : (e : Tree) (env : Env) (x : List ℕ) (c : Bool) (t : CType) → closed e ≡ true → check e (behind_declarator x c t env) ≡ check e env
  closed_env (Node p u k) env x c t h = closed_kind_env k p env x c t h

  closed_kind_env : (k : Kind) (p : Place) (env : Env) (x : List ℕ) (c : Bool) (t : CType) → closed_kind k ≡ true → check_kind k p (behind_declarator x c t env) ≡ check_kind k p env
  closed_kind_env (tree.Const n) p env x c t h = refl
  closed_kind_env (tree.Unary o a) p env x c t h = rw (closed_env a env x c t h) refl
  closed_kind_env (tree.Binary o a b) p env x c t h = rw (closed_env a env x c t (left_true (closed a) (closed b) h), closed_env b env x c t (right_true (closed a) (closed b) h)) refl
  closed_kind_env (tree.AndThen a b) p env x c t h = rw (closed_env a env x c t (left_true (closed a) (closed b) h), closed_env b env x c t (right_true (closed a) (closed b) h)) refl
  closed_kind_env (tree.OrElse a b) p env x c t h = rw (closed_env a env x c t (left_true (closed a) (closed b) h), closed_env b env x c t (right_true (closed a) (closed b) h)) refl
  closed_kind_env (tree.Choice d a b) p env x c t h =
      let g = right_true (closed d) (closed a && closed b) h in
      rw (closed_env d env x c t (left_true (closed d) (closed a && closed b) h), closed_env a env x c t (left_true (closed a) (closed b) g), closed_env b env x c t (right_true (closed a) (closed b) g)) refl
  closed_kind_env (tree.Cast u a true) p env x c t h = rw (closed_env a env x c t h) refl
  closed_kind_env (tree.Cast u a false) p env x c t h = closed_env a env x c t h
  closed_kind_env (tree.SizeOfType u) p env x c t h = refl
  closed_kind_env (tree.Name y) p env x c t h = absurd (cc)
  closed_kind_env (tree.Step a up before) p env x c t h = absurd (cc)
  closed_kind_env (tree.Assign o a b) p env x c t h = absurd (cc)
  closed_kind_env (tree.Comma all) p env x c t h = absurd (cc)
  closed_kind_env (tree.Index a b) p env x c t h = absurd (cc)
  closed_kind_env (tree.Deref a) p env x c t h = absurd (cc)
  closed_kind_env (tree.Address a) p env x c t h = absurd (cc)
  closed_kind_env (tree.Call f all) p env x c t h = absurd (cc)
  closed_kind_env (tree.Half a k) p env x c t h = absurd (cc)
  closed_kind_env (tree.PairOf a b) p env x c t h = absurd (cc)
  closed_kind_env (tree.SizeOfName y) p env x c t h = absurd (cc)
  closed_kind_env (tree.Str y) p env x c t h = absurd (cc)

-- ---- what isn't closed has no constant form with its types either

abbrev pub formed : Checked Tree → Option IntType
formed (Ok v) = type_of v
formed (Err r) = None

abbrev formed_node : Option Tree → Option IntType
formed_node x = option_and_then type_of x

formed_typed : (p : Place) (d : List ℕ) (x : Option Tree) → formed_node x ≡ None → formed (typed p d x) ≡ None
formed_typed p d (Some v) h = h
formed_typed p d None h = refl

formed_where : (v : Bool) (x : Option Tree) → formed_node x ≡ None → formed_node (if v then x else None) ≡ None
formed_where true x h = h
formed_where false x h = refl

formed_map : (x : Option CType) (f : CType → Tree) → ((t : CType) → type_of (f t) ≡ None) → formed_node (option_map f x) ≡ None
formed_map None f h = refl
formed_map (Some t) f h = h t

formed_admitted : (v : Bool) (p : Place) (d : List ℕ) (a : Tree) → type_of a ≡ None → formed (admitted v p d a) ≡ None
formed_admitted true p d a h = refl
formed_admitted false p d a h = h

after : {A : Type 0} (x : Checked A) (f : A → Checked Tree) → ((a : A) → formed (f a) ≡ None) → formed (x >>= f) ≡ None
after (Ok a) f h = h a
after (Err r) f h = refl

after_part : (x : Checked Tree) (f : Tree → Checked Tree) → formed x ≡ None → ((a : Tree) → type_of a ≡ None → formed (f a) ≡ None) → formed (x >>= f) ≡ None
after_part (Ok a) f e h = h a e
after_part (Err r) f e h = refl

after_parts : (x y : Checked Tree) (f : Tree → Tree → Checked Tree) → (formed x ≡ None) ⊎ (formed y ≡ None) → ((a b : Tree) → (type_of a ≡ None) ⊎ (type_of b ≡ None) → formed (f a b) ≡ None) → formed (x >>= λ a. y >>= λ b. f a b) ≡ None
after_parts (Ok a) (Ok b) f e h = h a b e
after_parts (Ok a) (Err r) f e h = refl
after_parts (Err r) y f e h = refl

formed_converted : (t : CType) (a : Tree) → type_of a ≡ None → type_of (converted t a) ≡ None
formed_converted t (Node p u k) h = at (same_type u t)
  where
    cast : (t : CType) → kind_type (tree.Cast t (Node p u k) false) ≡ None
    cast (CType.Int s) = rw h refl
    cast t = refl

    at : (v : Bool) → type_of (if v then Node p u k else Node p t (tree.Cast t (Node p u k) false)) ≡ None
    at true = h
    at false = cast t

both_none : (f : IntType → IntType → IntType) (s t : Option IntType) → (s ≡ None) ⊎ (t ≡ None) → typed_both f s t ≡ None
both_none f None t e = refl
both_none f (Some s) None e = refl
both_none f (Some s) (Some t) (inl e) = absurd (cc)
both_none f (Some s) (Some t) (inr e) = absurd (cc)

formed_unary : (o : UnOp) (p : Place) (a : Tree) → type_of a ≡ None → formed_node (unary_node o p a) ≡ None
formed_unary o p (Node q u k) h = at o
  where
    whole : (o : UnOp) (t : CType) → formed_node (signed_integer o p (Node q u k) t) ≡ None
    whole o (CType.Int t) = rw (formed_converted (CType.Int (promoted t)) (Node q u k) h) refl
    whole o t = refl

    at : (o : UnOp) → formed_node (unary_node o p (Node q u k)) ≡ None
    at sign.Not = formed_where (is_scalar u) (Some (Node p (CType.Int IntType.Int) (tree.Unary sign.Not (Node q u k)))) (rw h refl)
    at sign.Plus = whole sign.Plus u
    at sign.Neg = whole sign.Neg u
    at sign.BitNot = whole sign.BitNot u

converted_either : (s t : CType) (a b : Tree) → (type_of a ≡ None) ⊎ (type_of b ≡ None) → (type_of (converted s a) ≡ None) ⊎ (type_of (converted t b) ≡ None)
converted_either s t a b (inl h) = inl (formed_converted s a h)
converted_either s t a b (inr h) = inr (formed_converted t b h)

formed_binary : (o : BinOp) (p : Place) (a b : Tree) → (type_of a ≡ None) ⊎ (type_of b ≡ None) → formed_node (binary_node o p a b) ≡ None
formed_binary o p a b h = at (operands_fit o (node_type a) (is_zero a) (node_type b) (is_zero b))
  where
    at : (f : Option Fit) → formed_node (fitted o p a b f) ≡ None
    at None = refl
    at (Some f) = both_none (binary_type o) (type_of (converted f.left a)) (type_of (converted f.right b)) (converted_either f.left f.right a b h)

formed_choice : (p : Place) (c a b : Tree) → (type_of c ≡ None) ⊎ ((type_of a ≡ None) ⊎ (type_of b ≡ None)) → formed_node (choice_node p c a b) ≡ None
formed_choice p c a b h = formed_where (is_scalar (node_type c)) (chosen p c a b (arms_type (node_type a) (is_zero a) (node_type b) (is_zero b))) (at (arms_type (node_type a) (is_zero a) (node_type b) (is_zero b)) h)
  where
    at : (x : Option CType) → (type_of c ≡ None) ⊎ ((type_of a ≡ None) ⊎ (type_of b ≡ None)) → formed_node (chosen p c a b x) ≡ None
    at None h = refl
    at (Some t) (inl h) = both_none (λ s t. t) (type_of c) (typed_both common_of (type_of (converted t a)) (type_of (converted t b))) (inl h)
    at (Some t) (inr h) = both_none (λ s t. t) (type_of c) (typed_both common_of (type_of (converted t a)) (type_of (converted t b))) (inr (both_none common_of (type_of (converted t a)) (type_of (converted t b)) (converted_either t t a b h)))

formed_cast : (t : CType) (p : Place) (a : Tree) → type_of a ≡ None → formed_node (cast_node t p a) ≡ None
formed_cast t p a h = formed_where (is_cast (node_type a) t) (Some (Node p t (tree.Cast t a true))) (at t)
  where
    at : (t : CType) → kind_type (tree.Cast t a true) ≡ None
    at (CType.Int s) = rw h refl
    at t = refl

formed_assign : (o : Option BinOp) (p : Place) (a b : Tree) → formed_node (assign_node o p a b) ≡ None
formed_assign o p a b = at (right_side o (node_type a) b)
  where
    at : (x : Option Tree) → formed_node (option_map (λ c. Node p (node_type a) (tree.Assign o a c)) x) ≡ None
    at None = refl
    at (Some c) = refl

formed_address : (p : Place) (a : Tree) (c : Option Bool) (e : Option Pointee) → formed_node (addressed p a c e) ≡ None
formed_address p a (Some c) (Some e) = refl
formed_address p a (Some c) None = refl
formed_address p a None e = refl

formed_call : (t : Target) (f : List ℕ) (p : Place) (all : Trees) → formed (call t f p all) ≡ None
formed_call t f p all =
    after (fitting p (short f) (passed t.heading.params all)) (λ args. immediate_fits t.range (immediate_of t.heading.params args) >>= λ _. admitted t.outside p (short f) (Node p t.heading.result (tree.Call f args)))
    (λ args. after (immediate_fits t.range (immediate_of t.heading.params args)) (λ _. admitted t.outside p (short f) (Node p t.heading.result (tree.Call f args)))
    (λ _. formed_admitted t.outside p (short f) (Node p t.heading.result (tree.Call f args)) refl))

either : {A B C D : Type 0} → A ⊎ B → (A → C) → (B → D) → C ⊎ D
either (inl a) f g = inl (f a)
either (inr b) f g = inr (g b)

after_three : (z x y : Checked Tree) (f : Tree → Tree → Tree → Checked Tree) → (formed z ≡ None) ⊎ ((formed x ≡ None) ⊎ (formed y ≡ None)) → ((c a b : Tree) → (type_of c ≡ None) ⊎ ((type_of a ≡ None) ⊎ (type_of b ≡ None)) → formed (f c a b) ≡ None) →
    formed (z >>= λ c. x >>= λ a. y >>= λ b. f c a b) ≡ None
after_three (Ok c) (Ok a) (Ok b) f e h = h c a b e
after_three (Ok c) (Ok a) (Err r) f e h = refl
after_three (Ok c) (Err r) y f e h = refl
after_three (Err r) x y f e h = refl

mutual
  pub unformed : (e : Tree) (env : Env) → closed e ≡ false → formed (check e env) ≡ None
  unformed (Node p t k) env h = unformed_kind k p env h

  unformed_kind : (k : Kind) (p : Place) (env : Env) → closed_kind k ≡ false → formed (check_kind k p env) ≡ None
  unformed_kind (tree.Const n) p env h = absurd (cc)
  unformed_kind (tree.SizeOfType t) p env h = absurd (cc)
  unformed_kind (tree.Name x) p env h = after (used x p env) (λ o. Ok (name_node x o.ty p)) (λ o. formed_converted (decayed o.ty) (Node p o.ty (tree.Name x)) refl)
  unformed_kind (tree.Unary o a) p env h = after_part (check a env) _ (unformed a env h) (λ a' g. formed_typed p _ (unary_node o p a') (formed_unary o p a' g))
  unformed_kind (tree.Step a up before) p env h =
      after (check a env) _ (λ a'. formed_typed p _ (if is_writable a' env then step_node up before p a' else None) (formed_where (is_writable a' env) (step_node up before p a') (formed_where (is_stepped (node_type a')) (Some (Node p (node_type a') (tree.Step a' up before))) refl)))
  unformed_kind (tree.Binary o a b) p env h =
      after_parts (check a env) (check b env) _ (either (one_false (closed a) (closed b) h) (λ g. unformed a env g) (λ g. unformed b env g)) (λ a' b' g. formed_typed p _ (binary_node o p a' b') (formed_binary o p a' b' g))
  unformed_kind (tree.AndThen a b) p env h =
      after_parts (check a env) (check b env) _ (either (one_false (closed a) (closed b) h) (λ g. unformed a env g) (λ g. unformed b env g)) (λ a' b' g.
      formed_typed p _ (and_node p a' b') (formed_where (is_scalar (node_type a') && is_scalar (node_type b')) (Some (Node p (CType.Int IntType.Int) (tree.AndThen a' b'))) (both_none (λ s t. IntType.Int) (type_of a') (type_of b') g)))
  unformed_kind (tree.OrElse a b) p env h =
      after_parts (check a env) (check b env) _ (either (one_false (closed a) (closed b) h) (λ g. unformed a env g) (λ g. unformed b env g)) (λ a' b' g.
      formed_typed p _ (or_node p a' b') (formed_where (is_scalar (node_type a') && is_scalar (node_type b')) (Some (Node p (CType.Int IntType.Int) (tree.OrElse a' b'))) (both_none (λ s t. IntType.Int) (type_of a') (type_of b') g)))
  unformed_kind (tree.Choice c a b) p env h =
      after_three (check c env) (check a env) (check b env) _
      (either (one_false (closed c) (closed a && closed b) h) (λ g. unformed c env g) (λ g. either (one_false (closed a) (closed b) g) (λ g. unformed a env g) (λ g. unformed b env g)))
      (λ c' a' b' g. formed_typed p _ (choice_node p c' a' b') (formed_choice p c' a' b' g))
  unformed_kind (tree.Assign o a b) p env h =
      after (check a env) _ (λ a'. after (check b env) _ (λ b'. formed_typed p _ (if is_writable a' env then assign_node o p a' b' else None) (formed_where (is_writable a' env) (assign_node o p a' b') (formed_assign o p a' b'))))
  unformed_kind (tree.Comma all) p env h = after (check_all all env) _ (λ all'. formed_typed p _ (comma_node p all') (formed_map (last_type all') (λ t. Node p t (tree.Comma all')) (λ t. refl)))
  unformed_kind (tree.Cast t a true) p env h =
      after_part (check a env) _ (unformed a env h) (λ a' g. after_part (typed p (codes "(") (cast_node (read_type env.dialect t) p a')) _ (formed_typed p (codes "(") (cast_node (read_type env.dialect t) p a') (formed_cast (read_type env.dialect t) p a' g))
      (λ v f. formed_admitted (is_void_pointer t) p (codes "(") v f))
  unformed_kind (tree.Cast t a false) p env h = unformed a env h
  unformed_kind (tree.Index a b) p env h = after (check a env) _ (λ a'. after (check b env) _ (λ b'. formed_typed p _ (index_node p a' b') (formed_map (element_type (node_type a') (node_type b')) (λ t. Node p t (tree.Index a' b')) (λ t. refl))))
  unformed_kind (tree.Deref a) p env h = after (check a env) _ (λ a'. formed_typed p _ (deref_node p a') (formed_map (pointed_type (node_type a')) (λ t. Node p t (tree.Deref a')) (λ t. refl)))
  unformed_kind (tree.Address a) p env h = after (check a env) _ (λ a'. formed_typed p _ (address_node p a' env) (formed_address p a' (designated a' env) (pointee_of (node_type a'))))
  unformed_kind (tree.Call f all) p env h = after (called f p env) _ (λ t. after (check_all all env) _ (λ all'. formed_call t f p all'))
  unformed_kind (tree.Half a k) p env h = after (check a env) _ (λ a'. formed_typed p _ (half_node k p a') (formed_where (same_type (node_type a') CType.Pair && nat_lt k 2) (Some (Node p (CType.Neon lane.U8 true) (tree.Half a' k))) refl))
  unformed_kind (tree.PairOf a b) p env h =
      after (check a env) _ (λ a'. after (check b env) _ (λ b'. formed_typed p _ (pair_node p a' b') (formed_where (same_type (node_type a') (CType.Neon lane.U8 true) && same_type (node_type b') (CType.Neon lane.U8 true)) (Some (Node p CType.Pair (tree.PairOf a' b'))) refl)))
  unformed_kind (tree.SizeOfName x) p env h = after (used x p env) _ (λ o. formed_typed p _ (size_of_name_node x o.ty p) (formed_where (is_some (size_of o.ty)) (Some (Node p (CType.Int IntType.ULong) (tree.SizeOfName x))) refl))
  unformed_kind (tree.Str x) p env h = refl

-- ---- what has no constant form has no value

map_none : (f : IntType → IntType) (x : Option IntType) → option_map f x ≡ None → x ≡ None
map_none f None e = refl
map_none f (Some t) e = absurd (cc)

either_none : (f : IntType → IntType → IntType) (s t : Option IntType) → typed_both f s t ≡ None → (s ≡ None) ⊎ (t ≡ None)
either_none f None t e = inl refl
either_none f (Some s) None e = inr refl
either_none f (Some s) (Some t) e = absurd (cc)

no_binary : (f : Num → Num → Option Num) (x y : Option Num) → (x ≡ None) ⊎ (y ≡ None) → on_both f x y ≡ None
no_binary f None y e = refl
no_binary f (Some x) None e = refl
no_binary f (Some x) (Some y) (inl e) = absurd (cc)
no_binary f (Some x) (Some y) (inr e) = absurd (cc)

no_part : (v : Bool) → ◌≡◌ {A = Option Num} (if v then None else None) None
no_part true = refl
no_part false = refl

no_and : (x : Option Num) (t : Option IntType) (y : Option Num) → (x ≡ None) ⊎ ((t ≡ None) × (y ≡ None)) → and_value x t y ≡ None
no_and None t y e = refl
no_and (Some x) t y (inl e) = absurd (cc)
no_and (Some x) t y (inr e) = rw (e.0, e.1) (no_part (is_true x))

no_or : (x : Option Num) (t : Option IntType) (y : Option Num) → (x ≡ None) ⊎ ((t ≡ None) × (y ≡ None)) → or_value x t y ≡ None
no_or None t y e = refl
no_or (Some x) t y (inl e) = absurd (cc)
no_or (Some x) t y (inr e) = rw (e.0, e.1) (no_part (is_true x))

no_choice : (x : Option Num) (t : Option IntType) (y z : Option Num) → (x ≡ None) ⊎ (t ≡ None) → choice_value x t y z ≡ None
no_choice None t y z e = refl
no_choice (Some x) None y z e = refl
no_choice (Some x) (Some t) y z (inl e) = absurd (cc)
no_choice (Some x) (Some t) y z (inr e) = absurd (cc)

mutual
  pub no_value : (v : Tree) → type_of v ≡ None → value_of v ≡ None
  no_value (Node p t k) h = no_kind_value k h

  no_kind_value : (k : Kind) → kind_type k ≡ None → kind_value k ≡ None
  no_kind_value (tree.Const n) h = absurd (cc)
  no_kind_value (tree.Unary o a) h = rw (no_value a (map_none (unary_type o) (type_of a) h)) refl
  no_kind_value (tree.Binary o a b) h = no_binary (binary_of o) (value_of a) (value_of b) (either (either_none (binary_type o) (type_of a) (type_of b) h) (λ g. no_value a g) (λ g. no_value b g))
  no_kind_value (tree.AndThen a b) h = no_and (value_of a) (type_of b) (value_of b) (either (either_none (λ s t. IntType.Int) (type_of a) (type_of b) h) (λ g. no_value a g) (λ g. (g, no_value b g)))
  no_kind_value (tree.OrElse a b) h = no_or (value_of a) (type_of b) (value_of b) (either (either_none (λ s t. IntType.Int) (type_of a) (type_of b) h) (λ g. no_value a g) (λ g. (g, no_value b g)))
  no_kind_value (tree.Choice c a b) h = no_choice (value_of c) (typed_both common_of (type_of a) (type_of b)) (value_of a) (value_of b) (either (either_none (λ s t. t) (type_of c) (typed_both common_of (type_of a) (type_of b)) h) (λ g. no_value c g) (λ g. g))
  no_kind_value (tree.Cast (CType.Int t) a w) h = rw (no_value a (map_none (λ s. t) (type_of a) h)) refl
  no_kind_value (tree.Cast t a w) h = refl
  no_kind_value (tree.SizeOfType t) h = absurd (cc)
  no_kind_value k h = refl
