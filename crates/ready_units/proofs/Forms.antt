-- Each form of expression that isn't a call is ready where its parts are (C11 6.5).
use Rattle.std.proofs.Common.{◌≡◌, refl, sym, ap, ◌∙◌, subst, ℕ, Bool, true, false, ◌||◌, ◌++◌, Option, Some, None, if◌then◌else◌}
use Rattle.c_text.specs.declared.tokens.Place.{Place}
use Rattle.lane_core.specs.declared.number.IntType.{IntType}
use Rattle.lane_core.specs.declared.number.IntType.TheVariants as int
use Rattle.lane_core.specs.declared.number.BinOp.{BinOp}
use Rattle.lane_core.specs.declared.number.UnOp.{UnOp}
use Rattle.lane_core.specs.declared.number.UnOp.TheVariants as sign
use Rattle.lane_core.specs.declared.vector.NeonLane.TheVariants as lane
use Rattle.scalar_core.specs.Ranks.{promoted, common_of}
use Rattle.scalar_core.specs.RankLaws.{promoted_again, common_again}
use Rattle.scalar_core.specs.Operators.{is_shift, is_comparison, left_type, right_type, binary_type, unary_type}
use Rattle.c_tree.specs.declared.types.CType.{CType}
use Rattle.c_text.specs.declared.refusals.Refusal.{Refusal}
use Rattle.c_tree.specs.Marks.{mark_of}
use Rattle.c_tree.specs.Nodes.{node_type}
use Rattle.c_tree.specs.Tree.{Tree, Kind, Trees, Node, Unary, Step, Binary, AndThen, OrElse, Choice, Assign, Comma, Cast, Index, Deref, Half, PairOf, SizeOfType, NoTrees, More}
use Rattle.c_memory.specs.Meaning.{type_of}
use Rattle.scopes.specs.Scopes.{Env, or_else}
use Rattle.type_rules.specs.Types.{converted}
use Rattle.type_rules.specs.Rules as rule
use Rattle.type_rules.specs.Rules.{Results, Promotes, IsScalar, IsVector, Last, alone, behind}
use Rattle.expression_types.specs.Typed.{Designates, variable, element, element_by_left, pointed, half}
use Rattle.written_forms.specs.Seen.{Sees}
use Rattle.written_forms.specs.Moved.{Plans}
use Rattle.written_forms.specs.Helpers.{uses}
use Rattle.ready_units.specs.Movable.{unmoved, unmoved_in, unmoved_part}
use Rattle.written_forms.specs.Ready.{Setting, Ready, AreReady, IsInt, WhenInt, IsCommon, EndsIn, IsVariable}
use Rattle.ready_units.proofs.Sound.{Helps, Sound, SoundAll, inside, same_node, moved_parts, no_pointer, scalar_int, two_sound, unary_sound, cast_sound, comma_sound, helped_first, helped_second, first_none, second_none}
use Rattle.ready_units.proofs.Conversions.{integer, converted_type, converted_sound, converted_ready, given}

-- ---- types

when_int : (t : CType) (s : IntType) (P : IntType → Type 0) → t ≡ CType.Int s → P s → WhenInt t P
when_int t s P h p = subst (λ u. WhenInt u P) (sym h) p

int_when : (t : CType) (P : IntType → Type 0) → IsInt t → ((s : IntType) → P s) → WhenInt t P
int_when (CType.Int s) P h p = p s
int_when t P h p = absurd h

-- operands that have been brought to an operator's types stay
left_again : (b : Bool) (s t : IntType) → (if b then promoted (if b then promoted s else common_of s t) else common_of (if b then promoted s else common_of s t) (if b then promoted t else common_of s t)) ≡ (if b then promoted s else common_of s t)
left_again true s t = promoted_again s
left_again false s t = common_again s t

binary_again : (o : BinOp) (s t : IntType) → binary_type o s t ≡ binary_type o (left_type o s t) (right_type o s t)
binary_again o s t = ap (λ u. if is_comparison o then int.Int else u) (sym (left_again (is_shift o) s t))

unary_again : (o : UnOp) (t : IntType) → Promotes o → CType.Int (promoted t) ≡ CType.Int (unary_type o (promoted t))
unary_again sign.Plus t h = ap CType.Int (sym (promoted_again t))
unary_again sign.Neg t h = ap CType.Int (sym (promoted_again t))
unary_again sign.BitNot t h = ap CType.Int (sym (promoted_again t))
unary_again sign.Not t h = absurd h

vector_common : (t : CType) → IsVector t → IsCommon t
vector_common (CType.Int s) v = absurd v
vector_common t v = tt

ends_in : (all : Trees) (a : Tree) → Last all a → EndsIn (node_type a) all
ends_in all a (alone b) = same_node b
ends_in all a (behind b c (More d rest) h) = ends_in (More d rest) c h
ends_in all a (behind b c NoTrees h) = elim h [ ]

module _ (plans : Plans) (helps : Helps) (sees : Sees) (w : Setting) where
  -- a part is ready where it is sound
  abbrev pub Part : Tree → Type 0
  Part a = Sound plans helps sees a → Ready w sees a

  -- an integer that is converted
  brought : (a : Tree) (s t : IntType) → node_type a ≡ CType.Int s → Part a → Sound plans helps sees (converted (CType.Int t) a) → Ready w sees (converted (CType.Int t) a)
  brought a s t h r k = converted_ready plans helps sees w t a (integer (type_of a) s (same_node a ∙ h)) (r (converted_sound plans helps sees (CType.Int t) a k))

  pub unary_ready : (p : Place) (o : UnOp) (a v : Tree) → Results p (Unary o a) v → Part a → Part v
  unary_ready p o a v (rule.promoting op b t h i) r k =
      let s = unary_sound plans helps sees p (CType.Int (promoted t)) o (converted (CType.Int (promoted t)) a) k in
      (when_int (type_of (converted (CType.Int (promoted t)) a)) (promoted t) (λ u. CType.Int (promoted t) ≡ CType.Int (unary_type o u)) (converted_type a t (promoted t) i) (unary_again o t h), brought a t (promoted t) i r s)
  unary_ready p o a v (rule.negation b h) r k =
      let s = unary_sound plans helps sees p (CType.Int int.Int) sign.Not a k in
      (int_when (type_of a) (λ u. CType.Int int.Int ≡ CType.Int (unary_type sign.Not u)) (scalar_int plans helps sees a h s) (λ u. refl), r s)

  binary_sound : (p : Place) (t : CType) (o : BinOp) (a b : Tree) → Sound plans helps sees (Node p t (Binary o a b)) → Sound plans helps sees a × Sound plans helps sees b
  binary_sound p t o a b k = two_sound plans helps sees a b (moved_parts plans helps sees p t (Binary o a b) k) k.calm.0 k.calm.1 k.named

  pub binary_ready : (p : Place) (o : BinOp) (a b v : Tree) → Results p (Binary o a b) v → Part a → Part b → Part v
  binary_ready p o a b v (rule.integers op c d s t h i) r q k =
      let l = left_type o s t in
      let m = right_type o s t in
      let e = binary_sound p (CType.Int (binary_type o s t)) o (converted (CType.Int l) a) (converted (CType.Int m) b) k in (
        when_int (type_of (converted (CType.Int l) a)) l (λ x. WhenInt (type_of (converted (CType.Int m) b)) (λ y. CType.Int (binary_type o s t) ≡ CType.Int (binary_type o x y))) (converted_type a s l h)
            (when_int (type_of (converted (CType.Int m) b)) m (λ y. CType.Int (binary_type o s t) ≡ CType.Int (binary_type o l y)) (converted_type b t m i) (ap CType.Int (binary_again o s t))),
        brought a s l h r e.0,
        brought b t m i q e.1,
      )
  binary_ready p o a b v (rule.moved op c d e z t h i j l) r q k = no_pointer plans helps sees a e z i (binary_sound p (CType.Pointer e z) o a b k).0
  binary_ready p o a b v (rule.moved_by_left c d e z t h i j) r q k = no_pointer plans helps sees b e z i (binary_sound p (CType.Pointer e z) BinOp.Add a b k).1
  binary_ready p o a b v (rule.difference c d e z y h i j) r q k = no_pointer plans helps sees a e z h (binary_sound p (CType.Int int.Long) BinOp.Sub a b k).0
  binary_ready p o a b v (rule.ordered op c d e z y h i j l) r q k = no_pointer plans helps sees a e z i (binary_sound p (CType.Int int.Int) o a b k).0
  binary_ready p o a b v (rule.compared op c d e z y h i j) r q k = no_pointer plans helps sees a e z i (binary_sound p (CType.Int int.Int) o a b k).0
  binary_ready p o a b v (rule.compared_with_null op c d e z t h i j l) r q k = no_pointer plans helps sees a e z i (binary_sound p (CType.Int int.Int) o a (converted (CType.Pointer e z) b) k).0
  binary_ready p o a b v (rule.null_compared op c d e z t h i j l) r q k = no_pointer plans helps sees b e z l (binary_sound p (CType.Int int.Int) o (converted (CType.Pointer e z) a) b k).1

  pub and_ready : (p : Place) (a b v : Tree) → Results p (AndThen a b) v → Part a → Part b → Part v
  and_ready p a b v (rule.conjunction c d h i) r q k =
      let s = two_sound plans helps sees a b (moved_parts plans helps sees p (CType.Int int.Int) (AndThen a b) k) k.calm.0 k.calm.1 k.named in
      (refl, scalar_int plans helps sees a h s.0, scalar_int plans helps sees b i s.1, r s.0, q s.1)

  pub or_ready : (p : Place) (a b v : Tree) → Results p (OrElse a b) v → Part a → Part b → Part v
  or_ready p a b v (rule.disjunction c d h i) r q k =
      let s = two_sound plans helps sees a b (moved_parts plans helps sees p (CType.Int int.Int) (OrElse a b) k) k.calm.0 k.calm.1 k.named in
      (refl, scalar_int plans helps sees a h s.0, scalar_int plans helps sees b i s.1, r s.0, q s.1)

  -- the condition and the arms of a choice
  record Three (c a b : Tree) : Type 0 where
    pub condition : Sound plans helps sees c
    pub first : Sound plans helps sees a
    pub second : Sound plans helps sees b

  three_sound : (p : Place) (t : CType) (c a b : Tree) → Sound plans helps sees (Node p t (Choice c a b)) → Three c a b
  three_sound p t c a b k =
      let m = moved_parts plans helps sees p t (Choice c a b) k in
      let arms = or_else (unmoved_in plans a) (unmoved_in plans b) in
      let rest = two_sound plans helps sees a b (second_none (unmoved_in plans c) arms m) k.calm.1 k.calm.2 (helped_second helps (uses plans sees c) (uses plans sees a ++ uses plans sees b) k.named) in
      record {
        condition = record { moves = first_none (unmoved_in plans c) arms m; calm = k.calm.0; named = helped_first helps (uses plans sees c) (uses plans sees a ++ uses plans sees b) k.named };
        first = rest.0;
        second = rest.1;
      }

  pub choice_ready : (p : Place) (c a b v : Tree) → Results p (Choice c a b) v → Part c → Part a → Part b → Part v
  choice_ready p c a b v (rule.choice_of_integers x y z s t h i j) q r l k =
      let m = common_of s t in
      let e = three_sound p (CType.Int m) c (converted (CType.Int m) a) (converted (CType.Int m) b) k in
      (scalar_int plans helps sees c h e.condition, common_again s t, converted_type a s m i, converted_type b t m j, q e.condition, brought a s m i r e.first, brought b t m j l e.second)
  choice_ready p c a b v (rule.choice_of_pointers x y z e f g h i j) q r l k =
      let s = three_sound p (CType.Pointer e (f || g)) c (converted (CType.Pointer e (f || g)) a) (converted (CType.Pointer e (f || g)) b) k in
      no_pointer plans helps sees a e f i (converted_sound plans helps sees (CType.Pointer e (f || g)) a s.first)
  choice_ready p c a b v (rule.choice_or_null x y z e f t h i j g) q r l k =
      no_pointer plans helps sees a e f i (three_sound p (CType.Pointer e f) c a (converted (CType.Pointer e f) b) k).first
  choice_ready p c a b v (rule.null_or_choice x y z e f t h i j g) q r l k =
      no_pointer plans helps sees b e f g (three_sound p (CType.Pointer e f) c (converted (CType.Pointer e f) a) b k).second
  choice_ready p c a b v (rule.choice_of_nothing x y z h i j) q r l k =
      let e = three_sound p CType.Void c a b k in
      (scalar_int plans helps sees c h e.condition, tt, same_node a ∙ i, same_node b ∙ j, q e.condition, r e.first, l e.second)
  choice_ready p c a b v (rule.choice_of_vectors x y z t h u i j) q r l k =
      let e = three_sound p t c a b k in
      (scalar_int plans helps sees c h e.condition, vector_common t u, same_node a ∙ i, same_node b ∙ j, q e.condition, r e.first, l e.second)

  pub comma_ready : (p : Place) (all : Trees) (v : Tree) → Results p (Comma all) v → (SoundAll plans helps sees all → AreReady w sees all) → Part v
  comma_ready p all v (rule.sequence many a h) r k = (ends_in all a h, r (comma_sound plans helps sees p (node_type a) all k))

  -- ---- objects

  pub through_memory : (p : Place) (t : CType) (k : Kind) (r : Refusal) {A : Type 0} → unmoved_part plans p t k ≡ Some r → unmoved_in plans (Node p t k) ≡ None → A
  through_memory p t k r h m = absurd (let g = (inside plans helps sees p t k m).parts in cc)

  -- what designates an object is a variable
  pub variable_sound : (env : Env) (a : Tree) (c : Bool) → Designates env a c → unmoved_in plans a ≡ None → Sound plans helps sees a
  variable_sound env a c (variable p t x o h) m = record { moves = m; calm = tt; named = tt }
  variable_sound env a c (element p t b d e f s h i) m = through_memory p t (Index b d) (unmoved p (mark_of (Index b d))) refl m
  variable_sound env a c (element_by_left p t b d e f s h i) m = through_memory p t (Index b d) (unmoved p (mark_of (Index b d))) refl m
  variable_sound env a c (pointed p t b e f h) m = through_memory p t (Deref b) (unmoved p (mark_of (Deref b))) refl m
  variable_sound env a c (half p t b n f h) m = through_memory p t (Half b n) (unmoved p (mark_of (Half b n))) refl m

  -- it is one of its type
  pub is_variable : (env : Env) (a : Tree) (c : Bool) → Designates env a c → Sound plans helps sees a → Ready w sees a → IsVariable sees (type_of a) a
  is_variable env a c (variable p t x o h) k r = r
  is_variable env a c (element p t b d e f s h i) k r = absurd r
  is_variable env a c (element_by_left p t b d e f s h i) k r = absurd r
  is_variable env a c (pointed p t b e f h) k r = absurd r
  is_variable env a c (half p t b n f h) k r = absurd r

  pub step_ready : (env : Env) (p : Place) (a v : Tree) (up before : Bool) → Results p (Step a up before) v → Designates env a false → Part a → Part v
  step_ready env p a v up before (rule.integer_step b t x y h) d r k =
      let s = variable_sound env a false d (moved_parts plans helps sees p (CType.Int t) (Step a up before) k) in
      (tt, subst (λ u. IsVariable sees u a) (same_node a ∙ h) (is_variable env a false d s (r s)))
  step_ready env p a v up before (rule.pointer_step b e c x y h i) d r k = no_pointer plans helps sees (Node p (CType.Pointer e c) (Step a up before)) e c refl k

  -- the target of an assignment, and what is given to it
  assign_sound : (env : Env) (p : Place) (t : CType) (o : Option BinOp) (a b : Tree) → Designates env a false → Sound plans helps sees (Node p t (Assign o a b)) → Sound plans helps sees a × Sound plans helps sees b
  assign_sound env p t o a b d k =
      let m = moved_parts plans helps sees p t (Assign o a b) k in (
        variable_sound env a false d (first_none (unmoved_in plans a) (unmoved_in plans b) m),
        record { moves = second_none (unmoved_in plans a) (unmoved_in plans b) m; calm = k.calm; named = helped_second helps (uses plans sees a) (uses plans sees b) k.named },
      )

  pub assign_ready : (env : Env) (p : Place) (o : Option BinOp) (a b v : Tree) → Results p (Assign o a b) v → Designates env a false → Part a → Part b → Part v
  assign_ready env p o a b v (rule.assignment x y c h) d r q k =
      let s = assign_sound env p (node_type a) None a c d k in
      let g = given plans helps sees w b c (node_type a) h s.1 in
      (subst (λ u. IsVariable sees u a) (same_node a) (is_variable env a false d s.0 (r s.0)), g.ty, g.ready (q g.sound))
  assign_ready env p o a b v (rule.compound op x y s t c h i) d r q k =
      let m = right_type op s t in
      let e = assign_sound env p (CType.Int s) (Some op) a (converted (CType.Int m) b) d k in (
        subst (λ u. IsVariable sees u a) (same_node a ∙ h) (is_variable env a false d e.0 (r e.0)),
        (tt, integer (type_of (converted (CType.Int m) b)) m (converted_type b t m i)),
        brought b t m i q e.1,
      )
  assign_ready env p o a b v (rule.pointer_compound op x y e c t h i j l) d r q k = no_pointer plans helps sees (Node p (CType.Pointer e c) (Assign o a b)) e c refl k

  -- ---- casts and sizes

  pub cast_ready : (p : Place) (u : CType) (a v : Tree) → Results p (Cast u a true) v → Part a → Part v
  cast_ready p u a v (rule.cast_to_void b) r k = (refl, r (cast_sound plans helps sees p CType.Void CType.Void a true k))
  cast_ready p u a v (rule.cast_to_integer b s t h) r k = (refl, integer (type_of a) s (same_node a ∙ h), r (cast_sound plans helps sees p (CType.Int t) (CType.Int t) a true k))
  cast_ready p u a v (rule.cast_to_pointer b e f c d h) r k = no_pointer plans helps sees a e c h (cast_sound plans helps sees p (CType.Pointer f d) (CType.Pointer f d) a true k)

  pub size_ready : (p : Place) (u : CType) (v : Tree) → Results p (SizeOfType u) v → Part v
  size_ready p u v (rule.size t n h) k = refl

  -- ---- what goes through memory

  pub index_ready : (p : Place) (a b v : Tree) → Results p (Index a b) v → Part v
  index_ready p a b v (rule.element x y e c t u h i j) k = through_memory p u (Index a b) (unmoved p (mark_of (Index a b))) refl k.moves
  index_ready p a b v (rule.element_by_left x y e c t u h i j) k = through_memory p u (Index a b) (unmoved p (mark_of (Index a b))) refl k.moves

  pub deref_ready : (p : Place) (a v : Tree) → Results p (Deref a) v → Part v
  deref_ready p a v (rule.pointed x e c u h i) k = through_memory p u (Deref a) (unmoved p (mark_of (Deref a))) refl k.moves

  pub half_ready : (p : Place) (a v : Tree) (n : ℕ) → Results p (Half a n) v → Part v
  half_ready p a v n (rule.half b j h i) k = through_memory p (CType.Neon lane.U8 true) (Half a n) (unmoved p (mark_of (Half a n))) refl k.moves

  pub pair_ready : (p : Place) (a b v : Tree) → Results p (PairOf a b) v → Part v
  pair_ready p a b v (rule.pair x y h i) k = through_memory p CType.Pair (PairOf a b) (unmoved p (mark_of (PairOf a b))) refl k.moves
