-- What is so by a rule of C is what the operator becomes.
use Rattle.std.proofs.lemmas.Bool.{lt-ltb}
use Rattle.std.proofs.Common.{◌≡◌, ◌∙◌, ℕ, ◌<◌, Bool, true, ◌||◌, if◌then◌else◌, List, Option, Some, None, option_map, nat_lt, refl, ap}
use Rattle.c_text.specs.declared.tokens.Place.{Place}
use Rattle.lane_core.specs.declared.number.IntType.{IntType}
use Rattle.lane_core.specs.declared.number.IntType.TheVariants as i
use Rattle.lane_core.specs.declared.number.BinOp.{BinOp}
use Rattle.lane_core.specs.declared.number.BinOp.TheVariants.{Add, Sub, Lt, Gt, Le, Ge, Eq, Ne}
use Rattle.lane_core.specs.declared.number.UnOp.{UnOp}
use Rattle.lane_core.specs.declared.number.UnOp.TheVariants as sign
use Rattle.lane_core.specs.declared.vector.Pointee.{Pointee}
use Rattle.scalar_core.specs.Ranks.{promoted, common_of}
use Rattle.scalar_core.specs.Operators.{right_type}
use Rattle.c_tree.specs.declared.types.CType.{CType}
use Rattle.c_tree.specs.declared.types.CType.TheVariants.{Void, Int, M128, M256, Neon, Pair, Pointer}
use Rattle.c_tree.specs.Tree as tree
use Rattle.c_tree.specs.Tree.{Tree, Kind, Trees, Node, NoTrees, More}
use Rattle.type_rules.specs.declared.operands.Fit.{Fit}
use Rattle.type_rules.specs.declared.passing.Parameter.{Parameter}
use Rattle.c_tree.specs.Nodes.{node_type}
use Rattle.type_rules.specs.Types.{is_zero, same_type, converted, assigned}
use Rattle.type_rules.specs.Operations as o
use Rattle.type_rules.specs.Operations.{chosen, compound_type, last_after, last_type, result_of}
use Rattle.type_rules.specs.Passing.{given, passed}
use Rattle.type_rules.specs.Rules as r
use Rattle.type_rules.specs.Rules.{Assigned, Last, Results, Given, Passed, IsVector, IsObjectOf}
use Rattle.type_rules.proofs.TypeTests.{pointee-same, type-same, converted-same, scalar-holds, object-holds, object_type-holds, like-holds, const-holds}
use Rattle.type_rules.proofs.Sound.{kept}

pub assigned-holds : (t : CType) (a v : Tree) → Assigned a t v → assigned t a ≡ Some v
assigned-holds t a v (r.to_integer s u e) = rw e refl
assigned-holds t a v (r.null_pointer s x c e z) = rw (e, z) refl
assigned-holds t a v (r.to_pointer x f c d e l k) = rw (e, like-holds x f l, const-holds c d k) refl
assigned-holds t a v (r.to_vector u w e) = given-vector u w (node_type a) refl e ∙ ap Some (converted-same u a e)
  where
    given-vector : (u : CType) → IsVector u → (s : CType) → node_type a ≡ s → s ≡ u → assigned u a ≡ Some (converted u a)
    given-vector M128 w s k e = rw (k ∙ e) refl
    given-vector M256 w s k e = rw (k ∙ e) refl
    given-vector (Neon l wide) w s k e = rw (k ∙ e, type-same (Neon l wide)) refl
    given-vector Pair w s k e = rw (k ∙ e) refl
    given-vector _ w s k e = absurd w

last-holds : (all : Trees) (a : Tree) (t : Option CType) → Last all a → last_after t all ≡ Some (node_type a)
last-holds all a t (r.alone b) = refl
last-holds all a t (r.behind b c rest l) = last-holds rest c (Some (node_type b)) l

promoting-holds : (s : UnOp) (p : Place) (a : Tree) (t : IntType) → r.Promotes s → node_type a ≡ Int t →
    o.unary_node s p a ≡ Some (Node p (Int (promoted t)) (tree.Unary s (converted (Int (promoted t)) a)))
promoting-holds sign.Not p a t n e = absurd n
promoting-holds sign.Plus p a t n e = ap (o.signed_integer sign.Plus p a) e
promoting-holds sign.Neg p a t n e = ap (o.signed_integer sign.Neg p a) e
promoting-holds sign.BitNot p a t n e = ap (o.signed_integer sign.BitNot p a) e

-- what is so of the operands' types
abbrev fit : BinOp → Tree → Tree → Option Fit
fit s a b = o.operands_fit s (node_type a) (is_zero a) (node_type b) (is_zero b)

fits : (s : BinOp) (p : Place) (a b : Tree) (f : Fit) → fit s a b ≡ Some f → o.binary_node s p a b ≡ Some (Node p f.whole (tree.Binary s (converted f.left a) (converted f.right b)))
fits s p a b f h = ap (o.fitted s p a b) h

module _ (p : Place) (a b : Tree) (e : Pointee) where
  moved-holds : (s : BinOp) (c : Bool) (t : IntType) → r.IsAdditive s → node_type a ≡ Pointer e c → r.IsObject e → node_type b ≡ Int t →
      o.binary_node s p a b ≡ Some (Node p (Pointer e c) (tree.Binary s a b))
  moved-holds Add c t n k m l =
      (fits Add p a b (record { left = Pointer e c; right = Int t; whole = Pointer e c }) (rw (k, l, object-holds e m) refl)) ∙ ap Some (kept Add p (Pointer e c) a b (Pointer e c) (Int t) k l)
  moved-holds Sub c t n k m l =
      (fits Sub p a b (record { left = Pointer e c; right = Int t; whole = Pointer e c }) (rw (k, l, object-holds e m) refl)) ∙ ap Some (kept Sub p (Pointer e c) a b (Pointer e c) (Int t) k l)
  moved-holds _ c t n k m l = absurd n

  moved-by-left-holds : (c : Bool) (t : IntType) → node_type a ≡ Int t → node_type b ≡ Pointer e c → r.IsObject e →
      o.binary_node Add p a b ≡ Some (Node p (Pointer e c) (tree.Binary Add a b))
  moved-by-left-holds c t k l m =
      (fits Add p a b (record { left = Int t; right = Pointer e c; whole = Pointer e c }) (rw (k, l, object-holds e m) refl)) ∙ ap Some (kept Add p (Pointer e c) a b (Int t) (Pointer e c) k l)

  difference-holds : (c d : Bool) → node_type a ≡ Pointer e c → node_type b ≡ Pointer e d → r.IsObject e →
      o.binary_node Sub p a b ≡ Some (Node p (Int i.Long) (tree.Binary Sub a b))
  difference-holds c d k l m =
      (fits Sub p a b (record { left = Pointer e c; right = Pointer e d; whole = Int i.Long }) (rw (k, l, pointee-same e, object-holds e m) refl)) ∙ ap Some (kept Sub p (Int i.Long) a b (Pointer e c) (Pointer e d) k l)

  ordered-holds : (s : BinOp) (c d : Bool) → r.IsRelational s → node_type a ≡ Pointer e c → node_type b ≡ Pointer e d → r.IsObject e →
      o.binary_node s p a b ≡ Some (Node p (Int i.Int) (tree.Binary s a b))
  ordered-holds s c d n k l m = at s n ∙ ap Some (kept s p (Int i.Int) a b (Pointer e c) (Pointer e d) k l)
    where
      at : (s : BinOp) → r.IsRelational s → o.binary_node s p a b ≡ Some (Node p (Int i.Int) (tree.Binary s (converted (Pointer e c) a) (converted (Pointer e d) b)))
      at Lt n = (fits Lt p a b (record { left = Pointer e c; right = Pointer e d; whole = Int i.Int }) (rw (k, l, pointee-same e, object-holds e m) refl))
      at Gt n = (fits Gt p a b (record { left = Pointer e c; right = Pointer e d; whole = Int i.Int }) (rw (k, l, pointee-same e, object-holds e m) refl))
      at Le n = (fits Le p a b (record { left = Pointer e c; right = Pointer e d; whole = Int i.Int }) (rw (k, l, pointee-same e, object-holds e m) refl))
      at Ge n = (fits Ge p a b (record { left = Pointer e c; right = Pointer e d; whole = Int i.Int }) (rw (k, l, pointee-same e, object-holds e m) refl))
      at _ n = absurd n

  compared-holds : (s : BinOp) (c d : Bool) → r.IsEquality s → node_type a ≡ Pointer e c → node_type b ≡ Pointer e d →
      o.binary_node s p a b ≡ Some (Node p (Int i.Int) (tree.Binary s a b))
  compared-holds s c d n k l = at s n ∙ ap Some (kept s p (Int i.Int) a b (Pointer e c) (Pointer e d) k l)
    where
      at : (s : BinOp) → r.IsEquality s → o.binary_node s p a b ≡ Some (Node p (Int i.Int) (tree.Binary s (converted (Pointer e c) a) (converted (Pointer e d) b)))
      at Eq n = (fits Eq p a b (record { left = Pointer e c; right = Pointer e d; whole = Int i.Int }) (rw (k, l, pointee-same e) refl))
      at Ne n = (fits Ne p a b (record { left = Pointer e c; right = Pointer e d; whole = Int i.Int }) (rw (k, l, pointee-same e) refl))
      at _ n = absurd n

  with-null-holds : (s : BinOp) (c : Bool) (t : IntType) → r.IsEquality s → node_type a ≡ Pointer e c → node_type b ≡ Int t → is_zero b ≡ true →
      o.binary_node s p a b ≡ Some (Node p (Int i.Int) (tree.Binary s a (converted (Pointer e c) b)))
  with-null-holds s c t n k l z = at s n ∙ ap (λ x. Some (Node p (Int i.Int) (tree.Binary s x (converted (Pointer e c) b)))) (converted-same (Pointer e c) a k)
    where
      at : (s : BinOp) → r.IsEquality s → o.binary_node s p a b ≡ Some (Node p (Int i.Int) (tree.Binary s (converted (Pointer e c) a) (converted (Pointer e c) b)))
      at Eq n = (fits Eq p a b (record { left = Pointer e c; right = Pointer e c; whole = Int i.Int }) (rw (k, l, z) refl))
      at Ne n = (fits Ne p a b (record { left = Pointer e c; right = Pointer e c; whole = Int i.Int }) (rw (k, l, z) refl))
      at _ n = absurd n

  null-with-holds : (s : BinOp) (c : Bool) (t : IntType) → r.IsEquality s → node_type a ≡ Int t → is_zero a ≡ true → node_type b ≡ Pointer e c →
      o.binary_node s p a b ≡ Some (Node p (Int i.Int) (tree.Binary s (converted (Pointer e c) a) b))
  null-with-holds s c t n k z l = at s n ∙ ap (λ x. Some (Node p (Int i.Int) (tree.Binary s (converted (Pointer e c) a) x))) (converted-same (Pointer e c) b l)
    where
      at : (s : BinOp) → r.IsEquality s → o.binary_node s p a b ≡ Some (Node p (Int i.Int) (tree.Binary s (converted (Pointer e c) a) (converted (Pointer e c) b)))
      at Eq n = (fits Eq p a b (record { left = Pointer e c; right = Pointer e c; whole = Int i.Int }) (rw (k, l, z) refl))
      at Ne n = (fits Ne p a b (record { left = Pointer e c; right = Pointer e c; whole = Int i.Int }) (rw (k, l, z) refl))
      at _ n = absurd n

  pointer-compound-holds : (s : BinOp) (c : Bool) (t : IntType) → r.IsAdditive s → node_type a ≡ Pointer e c → r.IsObject e → node_type b ≡ Int t →
      o.assign_node (Some s) p a b ≡ Some (Node p (Pointer e c) (tree.Assign (Some s) a b))
  pointer-compound-holds s c t n k m l = at s n ∙ ap (λ x. Some (Node p x (tree.Assign (Some s) a (converted (Int t) b)))) k ∙ ap (λ x. Some (Node p (Pointer e c) (tree.Assign (Some s) a x))) (converted-same (Int t) b l)
    where
      moved : (s : BinOp) → r.IsAdditive s → o.moved_by s e t ≡ Some (Int t)
      moved Add n = rw (object-holds e m) refl
      moved Sub n = rw (object-holds e m) refl
      moved _ n = absurd n

      at : (s : BinOp) → r.IsAdditive s → o.assign_node (Some s) p a b ≡ Some (Node p (node_type a) (tree.Assign (Some s) a (converted (Int t) b)))
      at s n =
          let h : compound_type s (node_type a) (node_type b) ≡ Some (Int t) = rw (k, l) (moved s n) in
          ap (λ m. option_map (λ x. Node p (node_type a) (tree.Assign (Some s) a x)) (option_map (λ u. converted u b) m)) h

module _ (p : Place) (c a b : Tree) where
  arms-kept : (t s u : CType) → node_type a ≡ s → s ≡ t → node_type b ≡ u → u ≡ t → Node p t (tree.Choice c (converted t a) (converted t b)) ≡ Node p t (tree.Choice c a b)
  arms-kept t s u k x l y = ap (λ z. Node p t (tree.Choice c z (converted t b))) (converted-same t a (k ∙ x)) ∙ ap (λ z. Node p t (tree.Choice c a z)) (converted-same t b (l ∙ y))

  -- what is so of the arms' types
  chooses : (t : CType) → r.IsScalar (node_type c) → o.arms_type (node_type a) (is_zero a) (node_type b) (is_zero b) ≡ Some t →
      o.choice_node p c a b ≡ Some (Node p t (tree.Choice c (converted t a) (converted t b)))
  chooses t n h =
      ap (λ m. if m then chosen p c a b (o.arms_type (node_type a) (is_zero a) (node_type b) (is_zero b)) else None) (scalar-holds (node_type c) n) ∙ ap (chosen p c a b) h

  vectors-hold : (t : CType) → r.IsScalar (node_type c) → IsVector t → node_type a ≡ t → node_type b ≡ t → o.choice_node p c a b ≡ Some (Node p t (tree.Choice c a b))
  vectors-hold t n w k l = chooses t n (at t w k l) ∙ ap Some (arms-kept t t t k refl l refl)
    where
      at : (t : CType) → IsVector t → node_type a ≡ t → node_type b ≡ t → o.arms_type (node_type a) (is_zero a) (node_type b) (is_zero b) ≡ Some t
      at M128 w k l = rw (k, l) refl
      at M256 w k l = rw (k, l) refl
      at (Neon m wide) w k l = rw (k, l) (vector (Neon m wide) (type-same (Neon m wide)))
        where
          vector : (t : CType) → same_type t t ≡ true → (if same_type t t then Some t else None) ≡ Some t
          vector t h = rw h refl
      at Pair w k l = rw (k, l) refl
      at _ w k l = absurd w

less-holds : (n : ℕ) → n < 2 → nat_lt n 2 ≡ true
less-holds n h = lt-ltb n 2 h

-- every form
pub result-holds : (p : Place) (k : Kind) (v : Tree) → Results p k v → result_of p k ≡ Some v
result-holds p k v (r.constant n) = refl
result-holds p k v (r.promoting s a t n e) = promoting-holds s p a t n e
result-holds p k v (r.negation a n) = rw (scalar-holds (node_type a) n) refl
result-holds p k v (r.integer_step a t up before e) = rw e refl
result-holds p k v (r.pointer_step a x c up before e m) = rw (e, object-holds x m) refl
result-holds p k v (r.integers s a b t u e f) = fits s p a b (o.integers_fit s t u) (rw (e, f) refl)
result-holds p k v (r.moved s a b x c t n e m f) = moved-holds p a b x s c t n e m f
result-holds p k v (r.moved_by_left a b x c t e f m) = moved-by-left-holds p a b x c t e f m
result-holds p k v (r.difference a b x c d e f m) = difference-holds p a b x c d e f m
result-holds p k v (r.ordered s a b x c d n e f m) = ordered-holds p a b x s c d n e f m
result-holds p k v (r.compared s a b x c d n e f) = compared-holds p a b x s c d n e f
result-holds p k v (r.compared_with_null s a b x c t n e f z) = with-null-holds p a b x s c t n e f z
result-holds p k v (r.null_compared s a b x c t n e z f) = null-with-holds p a b x s c t n e z f
result-holds p k v (r.conjunction a b m n) = rw (scalar-holds (node_type a) m, scalar-holds (node_type b) n) refl
result-holds p k v (r.disjunction a b m n) = rw (scalar-holds (node_type a) m, scalar-holds (node_type b) n) refl
result-holds p k v (r.choice_of_integers c a b s t n e f) = chooses p c a b (Int (common_of s t)) n (rw (e, f) refl)
result-holds p k v (r.choice_of_pointers c a b x y z n e f) = chooses p c a b (Pointer x (y || z)) n (rw (e, f, pointee-same x) refl)
result-holds p k v (r.choice_or_null c a b x y t n e f z) =
    chooses p c a b (Pointer x y) n (rw (e, f, z) refl) ∙ ap (λ w. Some (Node p (Pointer x y) (tree.Choice c w (converted (Pointer x y) b)))) (converted-same (Pointer x y) a e)
result-holds p k v (r.null_or_choice c a b x y t n e z f) =
    chooses p c a b (Pointer x y) n (rw (e, f, z) refl) ∙ ap (λ w. Some (Node p (Pointer x y) (tree.Choice c (converted (Pointer x y) a) w))) (converted-same (Pointer x y) b f)
result-holds p k v (r.choice_of_nothing c a b n e f) =
    chooses p c a b Void n (rw (e, f) refl) ∙ ap Some (arms-kept p c a b Void Void Void e refl f refl)
result-holds p k v (r.choice_of_vectors c a b t n w e f) = vectors-hold p c a b t n w e f
result-holds p k v (r.assignment a b c h) = ap (option_map (λ x. Node p (node_type a) (tree.Assign None a x))) (assigned-holds (node_type a) b c h)
result-holds p k v (r.compound s a b t u n e f) =
    let h : compound_type s (node_type a) (node_type b) ≡ Some (Int (right_type s t u)) = rw (e, f, n) refl in
    ap (λ m. option_map (λ x. Node p (node_type a) (tree.Assign (Some s) a x)) (option_map (λ w. converted w b) m)) h ∙ ap (λ z. Some (Node p z (tree.Assign (Some s) a (converted (Int (right_type s t u)) b)))) e
result-holds p k v (r.pointer_compound s a b x c t n e m f) = pointer-compound-holds p a b x s c t n e m f
result-holds p k v (r.sequence all a l) = rw (last-holds all a None l) refl
result-holds p k v (r.cast_to_void a) = refl
result-holds p k v (r.cast_to_integer a s t e) = rw e refl
result-holds p k v (r.cast_to_pointer a x f c d e) = rw e refl
result-holds p k v (r.element a b x c t u e f m) = rw (e, f, object_type-holds x u m) refl
result-holds p k v (r.element_by_left a b x c t u e f m) = rw (e, f, object_type-holds x u m) refl
result-holds p k v (r.pointed a x c u e m) = rw (e, object_type-holds x u m) refl
result-holds p k v (r.half a n e l) = rw (e, less-holds n l) refl
result-holds p k v (r.pair a b e f) = rw (e, f) refl
result-holds p k v (r.size t n e) = rw e refl

given-holds : (t : Parameter) (a v : Tree) → Given a t v → given t a ≡ Some v
given-holds t a v (r.by_value u b h) = assigned-holds u a b h
given-holds t a v (r.by_constant u e) = rw e refl

pub passed-holds : (ts : List Parameter) (all v : Trees) → Passed ts all v → passed ts all ≡ Some v
passed-holds ts all v r.no_more = refl
passed-holds ts all v (r.one_more t us a b more rest g h) = rw (given-holds t a b g, passed-holds us more rest h) refl
