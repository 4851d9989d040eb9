-- What an operator becomes is so by a rule of C.
use Rattle.std.proofs.lemmas.Bool.{ltb-true}
use Rattle.std.proofs.Common.{◌≡◌, ◌∙◌, ℕ, ◌<◌, Bool, true, false, ◌&&◌, ◌||◌, if◌then◌else◌, List, [], ◌∷◌, Option, Some, None, option_map, is_some, nat_lt, refl, sym, ap, subst}
use Rattle.c_text.specs.declared.tokens.Place.{Place}
use Rattle.lane_core.specs.declared.number.IntType.{IntType}
use Rattle.lane_core.specs.declared.number.IntType.TheVariants as i
use Rattle.lane_core.specs.declared.number.BinOp.{BinOp}
use Rattle.lane_core.specs.declared.number.BinOp.TheVariants.{Add, Sub, Lt, Gt, Le, Ge, Eq, Ne}
use Rattle.lane_core.specs.declared.number.UnOp.{UnOp}
use Rattle.lane_core.specs.declared.number.UnOp.TheVariants as sign
use Rattle.lane_core.specs.declared.vector.NeonLane.TheVariants as lane
use Rattle.lane_core.specs.declared.vector.Pointee.{Pointee}
use Rattle.scalar_core.specs.Operators.{right_type, is_comparison}
use Rattle.const_imm.specs.Sizes.{size_of}
use Rattle.c_tree.specs.declared.types.CType.{CType}
use Rattle.c_tree.specs.declared.types.CType.TheVariants.{Void, Int, M128, M256, Neon, Pair, Pointer}
use Rattle.c_tree.specs.Tree as tree
use Rattle.c_tree.specs.Tree.{Tree, Kind, Trees, Node, NoTrees, More}
use Rattle.type_rules.specs.declared.operands.Fit.{Fit}
use Rattle.type_rules.specs.declared.passing.Parameter.{Parameter}
use Rattle.type_rules.specs.declared.passing.Parameter.TheVariants.{Object, Immediate}
use Rattle.c_tree.specs.Nodes.{node_type}
use Rattle.type_rules.specs.Types.{is_zero, is_integer, is_scalar, is_vector, is_object, same_pointee, same_type, is_like, keeps_const, is_assignable, converted, assigned}
use Rattle.type_rules.specs.Operations as o
use Rattle.type_rules.specs.Operations.{when, fitted, operands_fit, chosen, arms_type, right_side, compound_type, last_after, last_type, result_of}
use Rattle.type_rules.specs.Passing.{given, and_rest, passed}
use Rattle.type_rules.specs.Rules as r
use Rattle.type_rules.specs.Rules.{Assigned, Last, Results, Given, Passed, IsScalar, IsVector, IsObjectOf}
use Rattle.type_rules.proofs.TypeTests.{both, pointee-equal, vector-equal, pair-equal, neon-equal, converted-same, scalar-says, vector-says, object-says, object_type-says, like-says, const-says}

-- what a test lets through
held : {A : Type 0} (b : Bool) (x v : A) → (if b then Some x else None) ≡ Some v → (b ≡ true) × (x ≡ v)
held true x v h = let e : x ≡ v = cc in (refl, e)
held false x v h = cc

mapped : {A B : Type 0} (f : A → B) (m : Option A) (v : B) → option_map f m ≡ Some v → (x : A) × (m ≡ Some x) × (f x ≡ v)
mapped f (Some x) v h = let e : f x ≡ v = cc in (x, refl, e)
mapped f None v h = cc

got : (P : Tree → Type 0) (x v : Tree) → Some x ≡ Some v → P x → P v
got P x v h = let e : x ≡ v = cc in subst P e

-- the constant 0, or a value that is assigned
pub assigned-says : (t : CType) (a v : Tree) → assigned t a ≡ Some v → Assigned a t v
assigned-says t a v h = let p = held (is_assignable (is_zero a) (node_type a) t) (converted t a) v h in by (is_zero a) refl (node_type a) t refl p.0 p.1
  where
    vectors : (s u : CType) → node_type a ≡ s → (is_vector s && same_type s u) ≡ true → converted u a ≡ v → Assigned a u v
    vectors s u e b w =
        let p = both (is_vector s) (same_type s u) b in
        let q : node_type a ≡ u = e ∙ vector-equal s u p.0 p.1 in
        subst (Assigned a u) (sym (converted-same u a q) ∙ w) (r.to_vector u (subst IsVector (vector-equal s u p.0 p.1) (vector-says s p.0)) q)

    by : (z : Bool) → is_zero a ≡ z → (s u : CType) → node_type a ≡ s → is_assignable z s u ≡ true → converted u a ≡ v → Assigned a u v
    by z k (Int s) (Int u) e b w = subst (Assigned a (Int u)) w (r.to_integer s u e)
    by z k (Int s) (Pointer f d) e b w = subst (Assigned a (Pointer f d)) w (r.null_pointer s f d e (k ∙ b))
    by z k (Pointer x c) (Pointer f d) e b w =
        let p = both (is_like x f) (keeps_const c d) b in
        subst (Assigned a (Pointer f d)) w (r.to_pointer x f c d e (like-says x f p.0) (const-says c d p.1))
    by z k M128 u e b w = vectors M128 u e b w
    by z k M256 u e b w = vectors M256 u e b w
    by z k (Neon l wide) u e b w = vectors (Neon l wide) u e b w
    by z k Pair u e b w = vectors Pair u e b w
    by z k _ _ e b w = cc

-- operators before an operand
signed-says : (s : UnOp) (p : Place) (a v : Tree) → r.Promotes s → (t : CType) → node_type a ≡ t → o.signed_integer s p a t ≡ Some v → Results p (tree.Unary s a) v
signed-says s p a v n (Int t) e h = got (Results p (tree.Unary s a)) _ v h (r.promoting s a t n e)
signed-says s p a v n _ e h = cc

unary-says : (s : UnOp) (p : Place) (a v : Tree) → o.unary_node s p a ≡ Some v → Results p (tree.Unary s a) v
unary-says sign.Not p a v h = let q = held (is_scalar (node_type a)) _ v h in subst (Results p (tree.Unary sign.Not a)) q.1 (r.negation a (scalar-says (node_type a) q.0))
unary-says sign.Plus p a v h = signed-says sign.Plus p a v tt (node_type a) refl h
unary-says sign.Neg p a v h = signed-says sign.Neg p a v tt (node_type a) refl h
unary-says sign.BitNot p a v h = signed-says sign.BitNot p a v tt (node_type a) refl h

step-says : (up before : Bool) (p : Place) (a v : Tree) → o.step_node up before p a ≡ Some v → Results p (tree.Step a up before) v
step-says up before p a v h = let q = held (o.is_stepped (node_type a)) _ v h in by (node_type a) refl q.0 q.1
  where
    by : (t : CType) → node_type a ≡ t → o.is_stepped t ≡ true → Node p (node_type a) (tree.Step a up before) ≡ v → Results p (tree.Step a up before) v
    by (Int t) e b w = subst (Results p (tree.Step a up before)) (ap (λ u. Node p u (tree.Step a up before)) (sym e) ∙ w) (r.integer_step a t up before e)
    by (Pointer x c) e b w = subst (Results p (tree.Step a up before)) (ap (λ u. Node p u (tree.Step a up before)) (sym e) ∙ w) (r.pointer_step a x c up before e (object-says x b))
    by _ e b w = cc

-- operators between operands: what a test lets through
pub kept : (s : BinOp) (p : Place) (w : CType) (a b : Tree) (l m : CType) → node_type a ≡ l → node_type b ≡ m → Node p w (tree.Binary s (converted l a) (converted m b)) ≡ Node p w (tree.Binary s a b)
kept s p w a b l m e f = ap (λ x. Node p w (tree.Binary s x (converted m b))) (converted-same l a e) ∙ ap (λ y. Node p w (tree.Binary s a y)) (converted-same m b f)

tested : (s : BinOp) (p : Place) (a b : Tree) (c : Bool) (f : Fit) (v : Tree) → fitted s p a b (when c f) ≡ Some v →
    (c ≡ true) × (Node p f.whole (tree.Binary s (converted f.left a) (converted f.right b)) ≡ v)
tested s p a b true f v h = let e : Node p f.whole (tree.Binary s (converted f.left a) (converted f.right b)) ≡ v = cc in (refl, e)
tested s p a b false f v h = cc

module _ (p : Place) (a b v : Tree) where
  left-says : (s : BinOp) (e : Pointee) (c : Bool) (t : IntType) (y : Bool) → node_type a ≡ Pointer e c → node_type b ≡ Int t → is_zero b ≡ y →
      fitted s p a b (o.pointer_left s e c t y) ≡ Some v → Results p (tree.Binary s a b) v
  left-says Add e c t y k l z h =
      let q = tested Add p a b (is_object e) _ v h in
      subst (Results p (tree.Binary Add a b)) (sym (kept Add p (Pointer e c) a b _ _ k l) ∙ q.1) (r.moved Add a b e c t tt k (object-says e q.0) l)
  left-says Sub e c t y k l z h =
      let q = tested Sub p a b (is_object e) _ v h in
      subst (Results p (tree.Binary Sub a b)) (sym (kept Sub p (Pointer e c) a b _ _ k l) ∙ q.1) (r.moved Sub a b e c t tt k (object-says e q.0) l)
  left-says Eq e c t y k l z h =
      let q = tested Eq p a b y _ v h in
      subst (Results p (tree.Binary Eq a b)) (ap (λ x. Node p (Int i.Int) (tree.Binary Eq x (converted (Pointer e c) b))) (sym (converted-same (Pointer e c) a k)) ∙ q.1) (r.compared_with_null Eq a b e c t tt k l (z ∙ q.0))
  left-says Ne e c t y k l z h =
      let q = tested Ne p a b y _ v h in
      subst (Results p (tree.Binary Ne a b)) (ap (λ x. Node p (Int i.Int) (tree.Binary Ne x (converted (Pointer e c) b))) (sym (converted-same (Pointer e c) a k)) ∙ q.1) (r.compared_with_null Ne a b e c t tt k l (z ∙ q.0))
  left-says _ e c t y k l z h = cc

  right-says : (s : BinOp) (t : IntType) (x : Bool) (e : Pointee) (c : Bool) → node_type a ≡ Int t → is_zero a ≡ x → node_type b ≡ Pointer e c →
      fitted s p a b (o.pointer_right s t x e c) ≡ Some v → Results p (tree.Binary s a b) v
  right-says Add t x e c k z l h =
      let q = tested Add p a b (is_object e) _ v h in
      subst (Results p (tree.Binary Add a b)) (sym (kept Add p (Pointer e c) a b _ _ k l) ∙ q.1) (r.moved_by_left a b e c t k l (object-says e q.0))
  right-says Eq t x e c k z l h =
      let q = tested Eq p a b x _ v h in
      subst (Results p (tree.Binary Eq a b)) (ap (λ y. Node p (Int i.Int) (tree.Binary Eq (converted (Pointer e c) a) y)) (sym (converted-same (Pointer e c) b l)) ∙ q.1) (r.null_compared Eq a b e c t tt k (z ∙ q.0) l)
  right-says Ne t x e c k z l h =
      let q = tested Ne p a b x _ v h in
      subst (Results p (tree.Binary Ne a b)) (ap (λ y. Node p (Int i.Int) (tree.Binary Ne (converted (Pointer e c) a) y)) (sym (converted-same (Pointer e c) b l)) ∙ q.1) (r.null_compared Ne a b e c t tt k (z ∙ q.0) l)
  right-says _ t x e c k z l h = cc

  -- both point to the same
  same-target : (e f : Pointee) (d : Bool) → same_pointee e f ≡ true → node_type b ≡ Pointer f d → node_type b ≡ Pointer e d
  same-target e f d h l = l ∙ ap (λ x. Pointer x d) (sym (pointee-equal e f h))

  ordered-says : (s : BinOp) (e f : Pointee) (c d : Bool) → r.IsRelational s → node_type a ≡ Pointer e c → node_type b ≡ Pointer f d →
      fitted s p a b (when (same_pointee e f && is_object e) (record { left = Pointer e c; right = Pointer f d; whole = Int i.Int })) ≡ Some v → Results p (tree.Binary s a b) v
  ordered-says s e f c d m k l h =
      let q = tested s p a b (same_pointee e f && is_object e) _ v h in
      let u = both (same_pointee e f) (is_object e) q.0 in
      subst (Results p (tree.Binary s a b)) (sym (kept s p (Int i.Int) a b _ _ k l) ∙ q.1) (r.ordered s a b e c d m k (same-target e f d u.0 l) (object-says e u.1))

  compared-says : (s : BinOp) (e f : Pointee) (c d : Bool) → r.IsEquality s → node_type a ≡ Pointer e c → node_type b ≡ Pointer f d →
      fitted s p a b (when (same_pointee e f) (record { left = Pointer e c; right = Pointer f d; whole = Int i.Int })) ≡ Some v → Results p (tree.Binary s a b) v
  compared-says s e f c d m k l h =
      let q = tested s p a b (same_pointee e f) _ v h in
      subst (Results p (tree.Binary s a b)) (sym (kept s p (Int i.Int) a b _ _ k l) ∙ q.1) (r.compared s a b e c d m k (same-target e f d q.0 l))

  pointers-says : (s : BinOp) (e f : Pointee) (c d : Bool) → node_type a ≡ Pointer e c → node_type b ≡ Pointer f d →
      fitted s p a b (o.pointers s e c f d) ≡ Some v → Results p (tree.Binary s a b) v
  pointers-says Sub e f c d k l h =
      let q = tested Sub p a b (same_pointee e f && is_object e) _ v h in
      let u = both (same_pointee e f) (is_object e) q.0 in
      subst (Results p (tree.Binary Sub a b)) (sym (kept Sub p (Int i.Long) a b _ _ k l) ∙ q.1) (r.difference a b e c d k (same-target e f d u.0 l) (object-says e u.1))
  pointers-says Eq e f c d k l h = compared-says Eq e f c d tt k l h
  pointers-says Ne e f c d k l h = compared-says Ne e f c d tt k l h
  pointers-says Lt e f c d k l h = ordered-says Lt e f c d tt k l h
  pointers-says Gt e f c d k l h = ordered-says Gt e f c d tt k l h
  pointers-says Le e f c d k l h = ordered-says Le e f c d tt k l h
  pointers-says Ge e f c d k l h = ordered-says Ge e f c d tt k l h
  pointers-says _ e f c d k l h = cc

  operands-say : (s : BinOp) (t u : CType) (x y : Bool) → node_type a ≡ t → node_type b ≡ u → is_zero a ≡ x → is_zero b ≡ y →
      fitted s p a b (operands_fit s t x u y) ≡ Some v → Results p (tree.Binary s a b) v
  operands-say s (Int t) (Int u) x y k l m n h = got (Results p (tree.Binary s a b)) _ v h (r.integers s a b t u k l)
  operands-say s (Pointer e c) (Int u) x y k l m n h = left-says s e c u y k l n h
  operands-say s (Int t) (Pointer e c) x y k l m n h = right-says s t x e c k m l h
  operands-say s (Pointer e c) (Pointer f d) x y k l m n h = pointers-says s e f c d k l h
  operands-say s _ _ x y k l m n h = cc

binary-says : (s : BinOp) (p : Place) (a b v : Tree) → o.binary_node s p a b ≡ Some v → Results p (tree.Binary s a b) v
binary-says s p a b v h = operands-say p a b v s (node_type a) (node_type b) (is_zero a) (is_zero b) refl refl refl refl h

-- `&&`, `||` and the choice
and-says : (p : Place) (a b v : Tree) → o.and_node p a b ≡ Some v → Results p (tree.AndThen a b) v
and-says p a b v h =
    let q = held (is_scalar (node_type a) && is_scalar (node_type b)) _ v h in
    let u = both (is_scalar (node_type a)) (is_scalar (node_type b)) q.0 in
    subst (Results p (tree.AndThen a b)) q.1 (r.conjunction a b (scalar-says (node_type a) u.0) (scalar-says (node_type b) u.1))

or-says : (p : Place) (a b v : Tree) → o.or_node p a b ≡ Some v → Results p (tree.OrElse a b) v
or-says p a b v h =
    let q = held (is_scalar (node_type a) && is_scalar (node_type b)) _ v h in
    let u = both (is_scalar (node_type a)) (is_scalar (node_type b)) q.0 in
    subst (Results p (tree.OrElse a b)) q.1 (r.disjunction a b (scalar-says (node_type a) u.0) (scalar-says (node_type b) u.1))

module _ (p : Place) (c a b v : Tree) (n : IsScalar (node_type c)) where
  chosen-if : (g : Bool) (t : CType) → chosen p c a b (if g then Some t else None) ≡ Some v → (g ≡ true) × (Node p t (tree.Choice c (converted t a) (converted t b)) ≡ v)
  chosen-if true t h = let e : Node p t (tree.Choice c (converted t a) (converted t b)) ≡ v = cc in (refl, e)
  chosen-if false t h = cc

  both-kept : (t : CType) → node_type a ≡ t → node_type b ≡ t → Node p t (tree.Choice c (converted t a) (converted t b)) ≡ Node p t (tree.Choice c a b)
  both-kept t k l = ap (λ x. Node p t (tree.Choice c x (converted t b))) (converted-same t a k) ∙ ap (λ y. Node p t (tree.Choice c a y)) (converted-same t b l)

  vectors-say : (s t : CType) → node_type a ≡ s → node_type b ≡ t → chosen p c a b (if is_vector s && same_type s t then Some s else None) ≡ Some v → Results p (tree.Choice c a b) v
  vectors-say s t k l h =
      let q = chosen-if (is_vector s && same_type s t) s h in
      let u = both (is_vector s) (same_type s t) q.0 in
      let m : node_type b ≡ s = l ∙ sym (vector-equal s t u.0 u.1) in
      subst (Results p (tree.Choice c a b)) (sym (both-kept s k m) ∙ q.1) (r.choice_of_vectors c a b s n (vector-says s u.0) k m)

  arms-say : (s t : CType) (x y : Bool) → node_type a ≡ s → node_type b ≡ t → is_zero a ≡ x → is_zero b ≡ y →
      chosen p c a b (arms_type s x t y) ≡ Some v → Results p (tree.Choice c a b) v
  arms-say (Int s) (Int t) x y k l i j h = got (Results p (tree.Choice c a b)) _ v h (r.choice_of_integers c a b s t n k l)
  arms-say (Pointer e d) (Int t) x y k l i j h =
      let q = chosen-if y (Pointer e d) h in
      subst (Results p (tree.Choice c a b)) (ap (λ z. Node p (Pointer e d) (tree.Choice c z (converted (Pointer e d) b))) (sym (converted-same (Pointer e d) a k)) ∙ q.1) (r.choice_or_null c a b e d t n k l (j ∙ q.0))
  arms-say (Int s) (Pointer f d) x y k l i j h =
      let q = chosen-if x (Pointer f d) h in
      subst (Results p (tree.Choice c a b)) (ap (λ z. Node p (Pointer f d) (tree.Choice c (converted (Pointer f d) a) z)) (sym (converted-same (Pointer f d) b l)) ∙ q.1) (r.null_or_choice c a b f d s n k (i ∙ q.0) l)
  arms-say (Pointer e d) (Pointer f g) x y k l i j h =
      let q = chosen-if (same_pointee e f) (Pointer e (d || g)) h in
      let m : node_type b ≡ Pointer e g = l ∙ ap (λ z. Pointer z g) (sym (pointee-equal e f q.0)) in
      subst (Results p (tree.Choice c a b)) q.1 (r.choice_of_pointers c a b e d g n k m)
  arms-say Void Void x y k l i j h =
      let q = chosen-if true Void h in
      subst (Results p (tree.Choice c a b)) (sym (both-kept Void k l) ∙ q.1) (r.choice_of_nothing c a b n k l)
  arms-say M128 t x y k l i j h = vectors-say M128 t k l h
  arms-say M256 t x y k l i j h = vectors-say M256 t k l h
  arms-say (Neon m wide) t x y k l i j h = vectors-say (Neon m wide) t k l h
  arms-say Pair t x y k l i j h = vectors-say Pair t k l h
  arms-say _ _ x y k l i j h = cc

if-some : {A : Type 0} (b : Bool) (m : Option A) (v : A) → (if b then m else None) ≡ Some v → (b ≡ true) × (m ≡ Some v)
if-some true m v h = (refl, h)
if-some false m v h = cc

choice-says : (p : Place) (c a b v : Tree) → o.choice_node p c a b ≡ Some v → Results p (tree.Choice c a b) v
choice-says p c a b v h =
    let q = if-some (is_scalar (node_type c)) (chosen p c a b (arms_type (node_type a) (is_zero a) (node_type b) (is_zero b))) v h in
    arms-say p c a b v (scalar-says (node_type c) q.0) (node_type a) (node_type b) (is_zero a) (is_zero b) refl refl refl refl q.1

-- assignments
module _ (p : Place) (a b v : Tree) where
  compound-node : BinOp → CType → Tree
  compound-node s u = Node p (node_type a) (tree.Assign (Some s) a (converted u b))

  moved-says : (s : BinOp) (e : Pointee) (d : Bool) (t u : IntType) (w : CType) → node_type a ≡ Pointer e d → node_type b ≡ Int t → o.moved_by s e t ≡ Some w → r.IsAdditive s →
      (if is_object e then Some (Int t) else None) ≡ Some w → Node p (node_type a) (tree.Assign (Some s) a (converted w b)) ≡ v → Results p (tree.Assign (Some s) a b) v
  moved-says s e d t u w k l h m g x =
      let q = held (is_object e) (Int t) w g in
      let y : node_type b ≡ w = l ∙ q.1 in
      subst (Results p (tree.Assign (Some s) a b)) (ap (λ z. Node p z (tree.Assign (Some s) a b)) (sym k) ∙ ap (λ z. Node p (node_type a) (tree.Assign (Some s) a z)) (sym (converted-same w b y)) ∙ x) (r.pointer_compound s a b e d t m k (object-says e q.0) l)

  pointer-compound-says : (s : BinOp) (e : Pointee) (d : Bool) (t : IntType) (w : CType) → node_type a ≡ Pointer e d → node_type b ≡ Int t → o.moved_by s e t ≡ Some w →
      Node p (node_type a) (tree.Assign (Some s) a (converted w b)) ≡ v → Results p (tree.Assign (Some s) a b) v
  pointer-compound-says Add e d t w k l h x = moved-says Add e d t t w k l h tt h x
  pointer-compound-says Sub e d t w k l h x = moved-says Sub e d t t w k l h tt h x
  pointer-compound-says _ e d t w k l h x = cc

  none-if : {A : Type 0} (c : Bool) (x v : A) → (if c then None else Some x) ≡ Some v → (c ≡ false) × (x ≡ v)
  none-if true x v h = cc
  none-if false x v h = let e : x ≡ v = cc in (refl, e)

  compound-says : (s : BinOp) (t u w : CType) → node_type a ≡ t → node_type b ≡ u → compound_type s t u ≡ Some w →
      Node p (node_type a) (tree.Assign (Some s) a (converted w b)) ≡ v → Results p (tree.Assign (Some s) a b) v
  compound-says s (Int t) (Int u) w k l h x =
      let q = none-if (is_comparison s) (Int (right_type s t u)) w h in
      subst (Results p (tree.Assign (Some s) a b)) (ap (λ z. Node p z (tree.Assign (Some s) a (converted (Int (right_type s t u)) b))) (sym k) ∙ ap (λ z. Node p (node_type a) (tree.Assign (Some s) a (converted z b))) q.1 ∙ x) (r.compound s a b t u q.0 k l)
  compound-says s (Pointer e d) (Int u) w k l h x = pointer-compound-says s e d u w k l h x
  compound-says s _ _ w k l h x = cc

  assign-says : (s : Option BinOp) → o.assign_node s p a b ≡ Some v → Results p (tree.Assign s a b) v
  assign-says None h =
      let q = mapped (λ c. Node p (node_type a) (tree.Assign None a c)) (assigned (node_type a) b) v h in
      subst (Results p (tree.Assign None a b)) q.2 (r.assignment a b q.0 (assigned-says (node_type a) b q.0 q.1))
  assign-says (Some s) h =
      let q = mapped (λ c. Node p (node_type a) (tree.Assign (Some s) a c)) (right_side (Some s) (node_type a) b) v h in
      let u = mapped (λ t. converted t b) (compound_type s (node_type a) (node_type b)) q.0 q.1 in
      compound-says s (node_type a) (node_type b) u.0 refl refl u.1 (ap (λ z. Node p (node_type a) (tree.Assign (Some s) a z)) u.2 ∙ q.2)

-- commas
last-says : (a : Tree) (all : Trees) (t : CType) → last_after (Some (node_type a)) all ≡ Some t → (b : Tree) × Last (More a all) b × (node_type b ≡ t)
last-says a NoTrees t h = let e : node_type a ≡ t = cc in (a, r.alone a, e)
last-says a (More b rest) t h = let q = last-says b rest t h in (q.0, r.behind a q.0 (More b rest) q.1, q.2)

comma-says : (p : Place) (all : Trees) (v : Tree) → o.comma_node p all ≡ Some v → Results p (tree.Comma all) v
comma-says p NoTrees v h = cc
comma-says p (More a rest) v h =
    let q = mapped (λ t. Node p t (tree.Comma (More a rest))) (last_after (Some (node_type a)) rest) v h in
    let u = last-says a rest q.0 q.1 in
    subst (Results p (tree.Comma (More a rest))) (ap (λ t. Node p t (tree.Comma (More a rest))) u.2 ∙ q.2) (r.sequence (More a rest) u.0 u.1)

-- casts
cast-says : (t : CType) (p : Place) (a v : Tree) → o.cast_node t p a ≡ Some v → Results p (tree.Cast t a true) v
cast-says t p a v h = let q = held (o.is_cast (node_type a) t) _ v h in by (node_type a) t refl q.0 q.1
  where
    by : (s u : CType) → node_type a ≡ s → o.is_cast s u ≡ true → Node p u (tree.Cast u a true) ≡ v → Results p (tree.Cast u a true) v
    by s Void e b w = subst (Results p (tree.Cast Void a true)) w (r.cast_to_void a)
    by (Int s) (Int u) e b w = subst (Results p (tree.Cast (Int u) a true)) w (r.cast_to_integer a s u e)
    by (Pointer x c) (Pointer f d) e b w = subst (Results p (tree.Cast (Pointer f d) a true)) w (r.cast_to_pointer a x f c d e)
    by _ _ e b w = cc

-- indices and dereferences
index-says : (p : Place) (a b v : Tree) → o.index_node p a b ≡ Some v → Results p (tree.Index a b) v
index-says p a b v h = let q = mapped (λ t. Node p t (tree.Index a b)) (o.element_type (node_type a) (node_type b)) v h in by (node_type a) (node_type b) q.0 refl refl q.1 q.2
  where
    by : (s t u : CType) → node_type a ≡ s → node_type b ≡ t → o.element_type s t ≡ Some u → Node p u (tree.Index a b) ≡ v → Results p (tree.Index a b) v
    by (Pointer e c) (Int t) u k l m w = subst (Results p (tree.Index a b)) w (r.element a b e c t u k l (object_type-says e u m))
    by (Int t) (Pointer e c) u k l m w = subst (Results p (tree.Index a b)) w (r.element_by_left a b e c t u k l (object_type-says e u m))
    by _ _ u k l m w = cc

deref-says : (p : Place) (a v : Tree) → o.deref_node p a ≡ Some v → Results p (tree.Deref a) v
deref-says p a v h = let q = mapped (λ t. Node p t (tree.Deref a)) (o.pointed_type (node_type a)) v h in by (node_type a) q.0 refl q.1 q.2
  where
    by : (s u : CType) → node_type a ≡ s → o.pointed_type s ≡ Some u → Node p u (tree.Deref a) ≡ v → Results p (tree.Deref a) v
    by (Pointer e c) u k m w = subst (Results p (tree.Deref a)) w (r.pointed a e c u k (object_type-says e u m))
    by _ u k m w = cc

-- pairs and sizes
half-says : (n : ℕ) (p : Place) (a v : Tree) → o.half_node n p a ≡ Some v → Results p (tree.Half a n) v
half-says n p a v h =
    let q = held (same_type (node_type a) Pair && nat_lt n 2) _ v h in
    let u = both (same_type (node_type a) Pair) (nat_lt n 2) q.0 in
    subst (Results p (tree.Half a n)) q.1 (r.half a n (pair-equal (node_type a) u.0) (less u.1))
  where
    less : nat_lt n 2 ≡ true → n < 2
    less x = ltb-true n 2 x

pair-says : (p : Place) (a b v : Tree) → o.pair_node p a b ≡ Some v → Results p (tree.PairOf a b) v
pair-says p a b v h =
    let q = held (same_type (node_type a) (Neon lane.U8 true) && same_type (node_type b) (Neon lane.U8 true)) _ v h in
    let u = both (same_type (node_type a) (Neon lane.U8 true)) (same_type (node_type b) (Neon lane.U8 true)) q.0 in
    subst (Results p (tree.PairOf a b)) q.1 (r.pair a b (neon-equal (node_type a) u.0) (neon-equal (node_type b) u.1))

known : {A : Type 0} (m : Option A) → is_some m ≡ true → (x : A) × (m ≡ Some x)
known (Some x) h = (x, refl)
known None h = cc

size-says : (t : CType) (p : Place) (v : Tree) → o.size_node t p ≡ Some v → Results p (tree.SizeOfType t) v
size-says t p v h =
    let q = held (is_some (size_of t)) _ v h in
    let n = known (size_of t) q.0 in
    subst (Results p (tree.SizeOfType t)) q.1 (r.size t n.0 n.1)

-- every form
pub result-says : (p : Place) (k : Kind) (v : Tree) → result_of p k ≡ Some v → Results p k v
result-says p (tree.Const n) v h = got (Results p (tree.Const n)) _ v h (r.constant n)
result-says p (tree.Unary s a) v h = unary-says s p a v h
result-says p (tree.Step a up before) v h = step-says up before p a v h
result-says p (tree.Binary s a b) v h = binary-says s p a b v h
result-says p (tree.AndThen a b) v h = and-says p a b v h
result-says p (tree.OrElse a b) v h = or-says p a b v h
result-says p (tree.Choice c a b) v h = choice-says p c a b v h
result-says p (tree.Assign s a b) v h = assign-says p a b v s h
result-says p (tree.Comma all) v h = comma-says p all v h
result-says p (tree.Cast t a true) v h = cast-says t p a v h
result-says p (tree.Index a b) v h = index-says p a b v h
result-says p (tree.Deref a) v h = deref-says p a v h
result-says p (tree.Half a n) v h = half-says n p a v h
result-says p (tree.PairOf a b) v h = pair-says p a b v h
result-says p (tree.SizeOfType t) v h = size-says t p v h
result-says p _ v h = cc

-- arguments
given-says : (t : Parameter) (a v : Tree) → given t a ≡ Some v → Given a t v
given-says (Object t) a v h = r.by_value t v (assigned-says t a v h)
given-says Immediate a v h = let q = held (is_integer (node_type a)) a v h in by (node_type a) refl q.0 q.1
  where
    by : (t : CType) → node_type a ≡ t → is_integer t ≡ true → a ≡ v → Given a Immediate v
    by (Int t) e b w = subst (Given a Immediate) w (r.by_constant t e)
    by _ e b w = cc

both-parts : (m : Option Tree) (n : Option Trees) (v : Trees) → and_rest m n ≡ Some v → (x : Tree) × (y : Trees) × (m ≡ Some x) × (n ≡ Some y) × (More x y ≡ v)
both-parts (Some x) (Some y) v h = let e : More x y ≡ v = cc in (x, y, refl, refl, e)
both-parts (Some x) None v h = cc
both-parts None n v h = cc

pub passed-says : (ts : List Parameter) (all v : Trees) → passed ts all ≡ Some v → Passed ts all v
passed-says [] NoTrees v h = let e : NoTrees ≡ v = cc in subst (Passed [] NoTrees) e r.no_more
passed-says [] (More a rest) v h = cc
passed-says (t ∷ ts) NoTrees v h = cc
passed-says (t ∷ ts) (More a rest) v h =
    let q = both-parts (given t a) (passed ts rest) v h in
    subst (Passed (t ∷ ts) (More a rest)) q.4 (r.one_more t ts a q.0 rest q.1 (given-says t a q.0 q.2) (passed-says ts rest q.1 q.3))
