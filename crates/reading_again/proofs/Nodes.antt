-- What each operator gives for parts that have their types hangs on no place.
use Rattle.std.proofs.Common.{◌≡◌, ℕ, List, [], ◌∷◌, Bool, true, false, ◌&&◌, Option, Some, None, refl, sym, ap, ◌∙◌, if◌then◌else◌}
use Rattle.std.specs.Prelude.{option_map, nat_lt}
use Rattle.c_text.specs.declared.tokens.Place.{Place}
use Rattle.lane_core.specs.declared.number.BinOp.{BinOp}
use Rattle.lane_core.specs.declared.number.UnOp.{UnOp}
use Rattle.lane_core.specs.declared.number.UnOp.TheVariants as sign
use Rattle.lane_core.specs.declared.number.IntType.TheVariants as int
use Rattle.lane_core.specs.declared.vector.NeonLane.TheVariants as lane
use Rattle.lane_core.specs.declared.vector.Pointee.{Pointee}
use Rattle.scalar_core.specs.Ranks.{promoted}
use Rattle.c_tree.specs.declared.types.CType.{CType}
use Rattle.c_tree.specs.Tree as tree
use Rattle.c_tree.specs.Tree.{Tree, Kind, Trees, Node, NoTrees, More}
use Rattle.c_tree.specs.Nodes.{node_type}
use Rattle.c_tree.specs.Same.{nowhere}
use Rattle.c_tree.specs.Marks.{mark, mark_of}
use Rattle.type_rules.specs.declared.operands.Fit.{Fit}
use Rattle.type_rules.specs.declared.passing.Parameter.{Parameter}
use Rattle.type_rules.specs.declared.passing.Parameter.TheVariants as passing
use Rattle.type_rules.specs.Types.{decayed, same_type, is_zero, is_zero_kind, converted, assigned, is_assignable, is_scalar, is_integer}
use Rattle.type_rules.specs.Operations.{name_node, unary_node, signed_integer, is_stepped, step_node, binary_node, operands_fit, fitted, and_node, or_node, choice_node, arms_type, chosen, compound_type, right_side, assign_node, last_after, comma_node, cast_node, is_cast, element_type, index_node, deref_node, pointed_type, half_node, pair_node}
use Rattle.type_rules.specs.Passing.{given, and_rest, passed, is_immediate, immediate_of}
use Rattle.scopes.specs.Scopes.{Env}
use Rattle.expression_types.specs.Objects.{designated, designated_kind, pointee_of, addressed, address_node}
use Rattle.reading_again.specs.Unplaced.{unplaced, unplaced_kind, unplaced_all}

pub same_node_type : (a : Tree) → node_type (unplaced a) ≡ node_type a
same_node_type (Node p t k) = refl

same_zero_kind : (k : Kind) → is_zero_kind (unplaced_kind k) ≡ is_zero_kind k
same_zero_kind (tree.Const n) = refl
same_zero_kind k = refl

pub same_zero : (a : Tree) → is_zero (unplaced a) ≡ is_zero a
same_zero (Node p t k) = same_zero_kind k

pub same_mark_of : (k : Kind) → mark_of (unplaced_kind k) ≡ mark_of k
same_mark_of (tree.Const n) = refl
same_mark_of k = refl

pub same_mark : (a : Tree) → mark (unplaced a) ≡ mark a
same_mark (Node p t k) = same_mark_of k

-- a choice of two trees
chosen_tree : (v : Bool) (a b : Tree) → unplaced (if v then a else b) ≡ (if v then unplaced a else unplaced b)
chosen_tree true a b = refl
chosen_tree false a b = refl

-- a tree where something holds
pub where_holds : (v : Bool) (a : Tree) → option_map unplaced (if v then Some a else None) ≡ (if v then Some (unplaced a) else None)
where_holds true a = refl
where_holds false a = refl

pub same_converted : (t : CType) (a : Tree) → unplaced (converted t a) ≡ converted t (unplaced a)
same_converted t (Node p u k) = chosen_tree (same_type u t) (Node p u k) (Node p t (tree.Cast t (Node p u k) false))

pub same_name : (x : List ℕ) (t : CType) (p : Place) → unplaced (name_node x t p) ≡ name_node x t nowhere
same_name x t p = same_converted (decayed t) (Node p t (tree.Name x))

pub same_unary : (o : UnOp) (p : Place) (a : Tree) → option_map unplaced (unary_node o p a) ≡ unary_node o nowhere (unplaced a)
same_unary o p (Node q u k) = at o
  where
    whole : (o : UnOp) (t : CType) → option_map unplaced (signed_integer o p (Node q u k) t) ≡ signed_integer o nowhere (unplaced (Node q u k)) t
    whole o (CType.Int t) = ap (λ x. Some (Node nowhere (CType.Int (promoted t)) (tree.Unary o x))) (same_converted (CType.Int (promoted t)) (Node q u k))
    whole o t = refl

    at : (o : UnOp) → option_map unplaced (unary_node o p (Node q u k)) ≡ unary_node o nowhere (unplaced (Node q u k))
    at sign.Not = where_holds (is_scalar u) (Node p (CType.Int int.Int) (tree.Unary sign.Not (Node q u k)))
    at sign.Plus = whole sign.Plus u
    at sign.Neg = whole sign.Neg u
    at sign.BitNot = whole sign.BitNot u

pub same_step : (up before : Bool) (p : Place) (a : Tree) → option_map unplaced (step_node up before p a) ≡ step_node up before nowhere (unplaced a)
same_step up before p (Node q u k) = where_holds (is_stepped u) (Node p u (tree.Step (Node q u k) up before))

same_fitted : (o : BinOp) (p : Place) (a b : Tree) (f : Option Fit) → option_map unplaced (fitted o p a b f) ≡ fitted o nowhere (unplaced a) (unplaced b) f
same_fitted o p a b None = refl
same_fitted o p a b (Some f) = rw (same_converted f.left a, same_converted f.right b) refl

pub same_binary : (o : BinOp) (p : Place) (a b : Tree) → option_map unplaced (binary_node o p a b) ≡ binary_node o nowhere (unplaced a) (unplaced b)
same_binary o p (Node q t k) (Node r u l) = rw (same_zero_kind k, same_zero_kind l) (same_fitted o p (Node q t k) (Node r u l) (operands_fit o t (is_zero_kind k) u (is_zero_kind l)))

pub same_and : (p : Place) (a b : Tree) → option_map unplaced (and_node p a b) ≡ and_node nowhere (unplaced a) (unplaced b)
same_and p (Node q t k) (Node r u l) = where_holds (is_scalar t && is_scalar u) (Node p (CType.Int int.Int) (tree.AndThen (Node q t k) (Node r u l)))

pub same_or : (p : Place) (a b : Tree) → option_map unplaced (or_node p a b) ≡ or_node nowhere (unplaced a) (unplaced b)
same_or p (Node q t k) (Node r u l) = where_holds (is_scalar t && is_scalar u) (Node p (CType.Int int.Int) (tree.OrElse (Node q t k) (Node r u l)))

same_chosen : (p : Place) (c a b : Tree) (t : Option CType) → option_map unplaced (chosen p c a b t) ≡ chosen nowhere (unplaced c) (unplaced a) (unplaced b) t
same_chosen p c a b None = refl
same_chosen p c a b (Some t) = rw (same_converted t a, same_converted t b) refl

pub same_choice : (p : Place) (c a b : Tree) → option_map unplaced (choice_node p c a b) ≡ choice_node nowhere (unplaced c) (unplaced a) (unplaced b)
same_choice p (Node s v m) (Node q t k) (Node r u l) = rw (same_zero_kind k, same_zero_kind l) (at (is_scalar v))
  where
    at : (w : Bool) → option_map unplaced (if w then chosen p (Node s v m) (Node q t k) (Node r u l) (arms_type t (is_zero_kind k) u (is_zero_kind l)) else None) ≡ (if w then chosen nowhere (unplaced (Node s v m)) (unplaced (Node q t k)) (unplaced (Node r u l)) (arms_type t (is_zero_kind k) u (is_zero_kind l)) else None)
    at true = same_chosen p (Node s v m) (Node q t k) (Node r u l) (arms_type t (is_zero_kind k) u (is_zero_kind l))
    at false = refl

pub same_assigned : (t : CType) (a : Tree) → option_map unplaced (assigned t a) ≡ assigned t (unplaced a)
same_assigned t (Node p u k) = rw (same_zero_kind k) (at (is_assignable (is_zero_kind k) u t))
  where
    at : (v : Bool) → option_map unplaced (if v then Some (converted t (Node p u k)) else None) ≡ (if v then Some (converted t (unplaced (Node p u k))) else None)
    at true = ap (λ x. Some x) (same_converted t (Node p u k))
    at false = refl

same_right : (o : Option BinOp) (t : CType) (b : Tree) → option_map unplaced (right_side o t b) ≡ right_side o t (unplaced b)
same_right None t b = same_assigned t b
same_right (Some o) t (Node p u k) = at (compound_type o t u)
  where
    at : (x : Option CType) → option_map unplaced (option_map (λ v. converted v (Node p u k)) x) ≡ option_map (λ v. converted v (unplaced (Node p u k))) x
    at None = refl
    at (Some v) = ap (λ x. Some x) (same_converted v (Node p u k))

pub same_assign : (o : Option BinOp) (p : Place) (a b : Tree) → option_map unplaced (assign_node o p a b) ≡ assign_node o nowhere (unplaced a) (unplaced b)
same_assign o p (Node q t k) b = at (right_side o t b) ∙ ap (option_map (λ c. Node nowhere t (tree.Assign o (unplaced (Node q t k)) c))) (same_right o t b)
  where
    at : (x : Option Tree) → option_map unplaced (option_map (λ c. Node p t (tree.Assign o (Node q t k) c)) x) ≡ option_map (λ c. Node nowhere t (tree.Assign o (unplaced (Node q t k)) c)) (option_map unplaced x)
    at None = refl
    at (Some c) = refl

same_last : (t : Option CType) (all : Trees) → last_after t (unplaced_all all) ≡ last_after t all
same_last t NoTrees = refl
same_last t (More (Node p u k) rest) = same_last (Some u) rest

pub same_comma : (p : Place) (all : Trees) → option_map unplaced (comma_node p all) ≡ comma_node nowhere (unplaced_all all)
same_comma p all = at (last_after None all) ∙ ap (option_map (λ t. Node nowhere t (tree.Comma (unplaced_all all)))) (sym (same_last None all))
  where
    at : (x : Option CType) → option_map unplaced (option_map (λ t. Node p t (tree.Comma all)) x) ≡ option_map (λ t. Node nowhere t (tree.Comma (unplaced_all all))) x
    at None = refl
    at (Some t) = refl

pub same_cast : (t : CType) (p : Place) (a : Tree) → option_map unplaced (cast_node t p a) ≡ cast_node t nowhere (unplaced a)
same_cast t p (Node q u k) = where_holds (is_cast u t) (Node p t (tree.Cast t (Node q u k) true))

pub same_index : (p : Place) (a b : Tree) → option_map unplaced (index_node p a b) ≡ index_node nowhere (unplaced a) (unplaced b)
same_index p (Node q t k) (Node r u l) = at (element_type t u)
  where
    at : (x : Option CType) → option_map unplaced (option_map (λ v. Node p v (tree.Index (Node q t k) (Node r u l))) x) ≡ option_map (λ v. Node nowhere v (tree.Index (unplaced (Node q t k)) (unplaced (Node r u l)))) x
    at None = refl
    at (Some v) = refl

pub same_deref : (p : Place) (a : Tree) → option_map unplaced (deref_node p a) ≡ deref_node nowhere (unplaced a)
same_deref p (Node q t k) = at (pointed_type t)
  where
    at : (x : Option CType) → option_map unplaced (option_map (λ v. Node p v (tree.Deref (Node q t k))) x) ≡ option_map (λ v. Node nowhere v (tree.Deref (unplaced (Node q t k)))) x
    at None = refl
    at (Some v) = refl

pub same_half : (n : ℕ) (p : Place) (a : Tree) → option_map unplaced (half_node n p a) ≡ half_node n nowhere (unplaced a)
same_half n p (Node q t k) = where_holds (same_type t CType.Pair && nat_lt n 2) (Node p (CType.Neon lane.U8 true) (tree.Half (Node q t k) n))

pub same_pair : (p : Place) (a b : Tree) → option_map unplaced (pair_node p a b) ≡ pair_node nowhere (unplaced a) (unplaced b)
same_pair p (Node q t k) (Node r u l) = where_holds (same_type t (CType.Neon lane.U8 true) && same_type u (CType.Neon lane.U8 true)) (Node p CType.Pair (tree.PairOf (Node q t k) (Node r u l)))

-- ---- designated objects

mutual
  pub same_designated : (a : Tree) (env : Env) → designated (unplaced a) env ≡ designated a env
  same_designated (Node p t k) env = same_designated_kind k env

  same_designated_kind : (k : Kind) (env : Env) → designated_kind (unplaced_kind k) env ≡ designated_kind k env
  same_designated_kind (tree.Name x) env = refl
  same_designated_kind (tree.Index a b) env = rw (same_node_type a, same_node_type b) refl
  same_designated_kind (tree.Deref a) env = rw (same_node_type a) refl
  same_designated_kind (tree.Half a k) env = same_designated a env
  same_designated_kind k env = refl

pub same_address : (p : Place) (a : Tree) (env : Env) → option_map unplaced (address_node p a env) ≡ address_node nowhere (unplaced a) env
same_address p (Node q t k) env = rw (same_designated_kind k env) (at (designated_kind k env) (pointee_of t))
  where
    at : (c : Option Bool) (e : Option Pointee) → option_map unplaced (addressed p (Node q t k) c e) ≡ addressed nowhere (unplaced (Node q t k)) c e
    at (Some c) (Some e) = refl
    at (Some c) None = refl
    at None e = refl

-- ---- arguments

same_given : (t : Parameter) (a : Tree) → option_map unplaced (given t a) ≡ given t (unplaced a)
same_given (passing.Object t) a = same_assigned t a
same_given passing.Immediate (Node p u k) = where_holds (is_integer u) (Node p u k)

same_and_rest : (a : Option Tree) (rest : Option Trees) → option_map unplaced_all (and_rest a rest) ≡ and_rest (option_map unplaced a) (option_map unplaced_all rest)
same_and_rest (Some a) (Some rest) = refl
same_and_rest (Some a) None = refl
same_and_rest None rest = refl

pub same_passed : (ts : List Parameter) (all : Trees) → option_map unplaced_all (passed ts all) ≡ passed ts (unplaced_all all)
same_passed [] NoTrees = refl
same_passed (t ∷ ts) (More a rest) = same_and_rest (given t a) (passed ts rest) ∙ rw (same_given t a, same_passed ts rest) refl
same_passed [] (More a rest) = refl
same_passed (t ∷ ts) NoTrees = refl

pub same_immediate : (ts : List Parameter) (all : Trees) → immediate_of ts (unplaced_all all) ≡ option_map unplaced (immediate_of ts all)
same_immediate [] all = refl
same_immediate (t ∷ ts) NoTrees = refl
same_immediate (t ∷ ts) (More a rest) = at (is_immediate t) (same_immediate ts rest)
  where
    at : (v : Bool) → immediate_of ts (unplaced_all rest) ≡ option_map unplaced (immediate_of ts rest) → (if v then Some (unplaced a) else immediate_of ts (unplaced_all rest)) ≡ option_map unplaced (if v then Some a else immediate_of ts rest)
    at true e = refl
    at false e = e
