-- Typed constant expressions (C11 6.6) keep their values in what is written for them.
use Rattle.std.proofs.Common.{◌≡◌, refl, sym, ap, ◌∙◌, subst, ℕ, Bool, true, false, List, Option, Some, None, if◌then◌else◌}
use Rattle.c_text.specs.declared.tokens.Place.{Place}
use Rattle.lane_core.specs.declared.number.IntType.{IntType}
use Rattle.lane_core.specs.declared.number.BinOp.{BinOp}
use Rattle.lane_core.specs.declared.number.UnOp.{UnOp}
use Rattle.lane_core.specs.declared.number.UnOp.TheVariants as sign
use Rattle.lane_core.specs.declared.vector.Pointee.{Pointee}
use Rattle.scalar_core.specs.Ranks.{promoted, common_of}
use Rattle.scalar_core.specs.Operators.{left_type, right_type}
use Rattle.const_imm.specs.Constant.{type_of, value_of}
use Rattle.const_imm.specs.Sizes.{size_of}
use Rattle.c_tree.specs.declared.types.CType.{CType}
use Rattle.c_tree.specs.Nodes.{node_type, node_place}
use Rattle.c_tree.specs.Tree as tree
use Rattle.c_tree.specs.Tree.{Tree, Trees, Node, Unary, Binary, AndThen, OrElse, Choice, Cast, SizeOfType}
use Rattle.c_memory.specs.Matching.{written_integer, written_type}
use Rattle.scopes.specs.Scopes.{Env}
use Rattle.type_rules.specs.Types.{same_type, read_type, converted}
use Rattle.type_rules.specs.Rules as rule
use Rattle.type_rules.specs.Rules.{Results}
use Rattle.expression_types.specs.Check.{read_number}
use Rattle.expression_types.specs.Typed as typed
use Rattle.expression_types.specs.Typed.{Typed}
use Rattle.seq_core.specs.Formed.{is_promoted}
use Rattle.seq_core.specs.Terms.{Sequence}
use Rattle.sequence_types.specs.Claims.{InPlaceIsTyped}
use Rattle.written_forms.specs.Seen.{Sees}
use Rattle.written_forms.specs.Moved.{Plans, moved}
use Rattle.written_forms.specs.Planned.{AreFit}
use Rattle.written_forms.specs.Ready.{Setting}
use Rattle.written_forms.specs.ReadyUnits.{Heads, setting}
use Rattle.written_types.proofs.Types.{promoted_written, promoted_wide, common_wide, left_wide, right_wide, wide_same}
use Rattle.written_types.proofs.Fine.{Fine, fine_pointer}
use Rattle.written_types.proofs.Places.{At}
use Rattle.written_types.proofs.Conversions.{Own, fine_converted, brought}
use Rattle.written_types.proofs.Expressions.{own}
use Rattle.written_types.proofs.Constants.{Keeps, KeepsType, number_keeps, keeps_unary, keeps_binary, keeps_and, keeps_or, keeps_converted, keeps_choice, keeps_cast, keeps_size, type_unary, type_binary, type_logical, type_choice, type_size, type_cast}

-- a wide type is told from a written one as from its own
wide_type : (t : CType) (u : IntType) → is_promoted u ≡ true → same_type (written_type t) (CType.Int u) ≡ same_type t (CType.Int u)
wide_type (CType.Int s) u h = wide_same s u h
wide_type CType.Void u h = refl
wide_type CType.M128 u h = refl
wide_type CType.M256 u h = refl
wide_type (CType.Neon l wide) u h = refl
wide_type CType.Pair u h = refl
wide_type (CType.Pointer e c) u h = refl
wide_type (CType.Array e n c) u h = refl

-- the value and the type of an expression are those of another, if it has them
pub record Held (a x : Tree) : Type 0 where
  pub value : Keeps (value_of a) (value_of x)
  pub type : KeepsType (type_of a) (type_of x)

held_converted : (a x : Tree) (u : IntType) → is_promoted u ≡ true → node_type x ≡ written_type (node_type a) → Held a x → Held (converted (CType.Int u) a) (converted (CType.Int u) x)
held_converted a x u h e k = subst (λ z. Held (converted (CType.Int u) a) (if z then x else Node (node_place x) (CType.Int u) (Cast (CType.Int u) x false))) (sym same) (at (same_type (node_type a) (CType.Int u)))
  where
    same : same_type (node_type x) (CType.Int u) ≡ same_type (node_type a) (CType.Int u)
    same = ap (λ z. same_type z (CType.Int u)) e ∙ wide_type (node_type a) u h

    at : (b : Bool) → Held (if b then a else Node (node_place a) (CType.Int u) (Cast (CType.Int u) a false)) (if b then x else Node (node_place x) (CType.Int u) (Cast (CType.Int u) x false))
    at true = k
    at false = record { value = keeps_converted u u (value_of a) (value_of x) refl k.value; type = type_cast u u (type_of a) (type_of x) refl k.type }

module _ (plans : Plans) (sees : Sees) (w : Setting) (there : Env) where
  abbrev pub Kept : Tree → Type 0
  Kept v = Held v (moved plans sees v)

  -- what is written for a part has its types and keeps its value
  pub record Both (a : Tree) : Type 0 where
    pub own : Own plans sees there a
    pub kept : Kept a

  abbrev Part : Tree → Type 0
  Part a = Fine w sees a → Both a

  kept_part : (a : Tree) (u : IntType) → is_promoted u ≡ true → Both a → Kept (converted (CType.Int u) a)
  kept_part a u h b = subst (Held (converted (CType.Int u) a)) (brought plans sees there a u b.own h) (held_converted a (moved plans sees a) u h b.own.ty b.kept)

  pub unary_kept : (p : Place) (o : UnOp) (a v : Tree) → Results p (Unary o a) v → Part a → Fine w sees v → Kept v
  unary_kept p o a v (rule.promoting op b t h i) part k =
      let c = converted (CType.Int (promoted t)) a in
      let q = kept_part a (promoted t) (promoted_wide t) (part (fine_converted w sees (CType.Int (promoted t)) a k.1)) in
      record { value = keeps_unary o (value_of c) (value_of (moved plans sees c)) q.value; type = type_unary o (type_of c) (type_of (moved plans sees c)) q.type }
  unary_kept p o a v (rule.negation b h) part k =
      let q = (part k.1).kept in
      record { value = keeps_unary sign.Not (value_of a) (value_of (moved plans sees a)) q.value; type = type_unary sign.Not (type_of a) (type_of (moved plans sees a)) q.type }

  pub binary_kept : (p : Place) (o : BinOp) (a b v : Tree) → Results p (Binary o a b) v → Part a → Part b → Fine w sees v → Kept v
  binary_kept p o a b v (rule.integers op x y s t h i) first second k =
      let l = left_type o s t in
      let m = right_type o s t in
      let c = converted (CType.Int l) a in
      let d = converted (CType.Int m) b in
      let q = kept_part a l (left_wide o s t) (first (fine_converted w sees (CType.Int l) a k.1.0)) in
      let r = kept_part b m (right_wide o s t) (second (fine_converted w sees (CType.Int m) b k.1.1)) in
      record {
        value = keeps_binary o (value_of c) (value_of (moved plans sees c)) (value_of d) (value_of (moved plans sees d)) q.value r.value;
        type = type_binary o (type_of c) (type_of (moved plans sees c)) (type_of d) (type_of (moved plans sees d)) q.type r.type;
      }
  binary_kept p o a b v (rule.moved op c d e z t h i j l) first second k = fine_pointer w sees a e z i k.1.0
  binary_kept p o a b v (rule.moved_by_left c d e z t h i j) first second k = fine_pointer w sees b e z i k.1.1
  binary_kept p o a b v (rule.difference c d e z y h i j) first second k = fine_pointer w sees a e z h k.1.0
  binary_kept p o a b v (rule.ordered op c d e z y h i j l) first second k = fine_pointer w sees a e z i k.1.0
  binary_kept p o a b v (rule.compared op c d e z y h i j) first second k = fine_pointer w sees a e z i k.1.0
  binary_kept p o a b v (rule.compared_with_null op c d e z t h i j l) first second k = fine_pointer w sees a e z i k.1.0
  binary_kept p o a b v (rule.null_compared op c d e z t h i j l) first second k = fine_pointer w sees b e z l k.1.1

  pub and_kept : (p : Place) (a b v : Tree) → Results p (AndThen a b) v → Part a → Part b → Fine w sees v → Kept v
  and_kept p a b v (rule.conjunction c d h i) first second k =
      let q = (first k.1.0).kept in
      let r = (second k.1.1).kept in
      let x = moved plans sees a in
      let y = moved plans sees b in
      record {
        value = keeps_and (value_of a) (value_of x) (type_of b) (type_of y) (value_of b) (value_of y) q.value r.type r.value;
        type = type_logical (type_of a) (type_of x) (type_of b) (type_of y) q.type r.type;
      }

  pub or_kept : (p : Place) (a b v : Tree) → Results p (OrElse a b) v → Part a → Part b → Fine w sees v → Kept v
  or_kept p a b v (rule.disjunction c d h i) first second k =
      let q = (first k.1.0).kept in
      let r = (second k.1.1).kept in
      let x = moved plans sees a in
      let y = moved plans sees b in
      record {
        value = keeps_or (value_of a) (value_of x) (type_of b) (type_of y) (value_of b) (value_of y) q.value r.type r.value;
        type = type_logical (type_of a) (type_of x) (type_of b) (type_of y) q.type r.type;
      }

  -- a choice between parts that are kept
  choice_held : (p : Place) (t u : CType) (c a b : Tree) → Kept c → Kept a → Kept b → Held (Node p t (Choice c a b)) (Node p u (Choice (moved plans sees c) (moved plans sees a) (moved plans sees b)))
  choice_held p t u c a b n q r =
      let g = moved plans sees c in
      let x = moved plans sees a in
      let y = moved plans sees b in
      record {
        value = keeps_choice (value_of c) (value_of g) (type_of a) (type_of x) (type_of b) (type_of y) (value_of a) (value_of x) (value_of b) (value_of y) n.value q.type r.type q.value r.value;
        type = type_choice (type_of c) (type_of g) (type_of a) (type_of x) (type_of b) (type_of y) n.type q.type r.type;
      }

  pub choice_kept : (p : Place) (c a b v : Tree) → Results p (Choice c a b) v → Part c → Part a → Part b → Fine w sees v → Kept v
  choice_kept p c a b v (rule.choice_of_integers x y z s t h i j) condition first second k =
      let m = common_of s t in
      choice_held p (CType.Int m) (CType.Int (written_integer m)) c (converted (CType.Int m) a) (converted (CType.Int m) b) (condition k.1.0).kept
      (kept_part a m (common_wide s t) (first (fine_converted w sees (CType.Int m) a k.1.1))) (kept_part b m (common_wide s t) (second (fine_converted w sees (CType.Int m) b k.1.2)))
  choice_kept p c a b v (rule.choice_of_pointers x y z e f g h i j) condition first second k = fine_pointer w sees a e f i (fine_converted w sees _ a k.1.1)
  choice_kept p c a b v (rule.choice_or_null x y z e f t h i j g) condition first second k = fine_pointer w sees a e f i k.1.1
  choice_kept p c a b v (rule.null_or_choice x y z e f t h i j g) condition first second k = fine_pointer w sees b e f g k.1.2
  choice_kept p c a b v (rule.choice_of_nothing x y z h i j) condition first second k = choice_held p CType.Void CType.Void c a b (condition k.1.0).kept (first k.1.1).kept (second k.1.2).kept
  choice_kept p c a b v (rule.choice_of_vectors x y z t h u i j) condition first second k = choice_held p t (written_type t) c a b (condition k.1.0).kept (first k.1.1).kept (second k.1.2).kept

  pub cast_kept : (p : Place) (u : CType) (a v : Tree) → Results p (Cast u a true) v → Part a → Fine w sees v → Kept v
  cast_kept p u a v (rule.cast_to_void b) part k = record { value = tt; type = tt }
  cast_kept p u a v (rule.cast_to_integer b s t h) part k =
      let q = (part k.1).kept in
      record { value = keeps_cast t (value_of a) (value_of (moved plans sees a)) q.value; type = type_cast t (written_integer t) (type_of a) (type_of (moved plans sees a)) (promoted_written t) q.type }
  cast_kept p u a v (rule.cast_to_pointer b e f c d h) part k = fine_pointer w sees a e c h k.1

  pub size_kept : (p : Place) (u : CType) (v : Tree) → Results p (SizeOfType u) v → Kept v
  size_kept p u v (rule.size t n h) = record { value = keeps_size p (size_of t); type = type_size p (size_of t) }

  -- no other form has a value
  step_kept : (p : Place) (a v : Tree) (up before : Bool) → Results p (tree.Step a up before) v → Kept v
  step_kept p a v up before (rule.integer_step b t x y h) = record { value = tt; type = tt }
  step_kept p a v up before (rule.pointer_step b e c x y h i) = record { value = tt; type = tt }

  assign_kept : (p : Place) (o : Option BinOp) (a b v : Tree) → Results p (tree.Assign o a b) v → Kept v
  assign_kept p o a b v (rule.assignment x y c h) = record { value = tt; type = tt }
  assign_kept p o a b v (rule.compound op x y s t c h i) = record { value = tt; type = tt }
  assign_kept p o a b v (rule.pointer_compound op x y e c t h i j l) = record { value = tt; type = tt }

  comma_kept : (p : Place) (all : Trees) (v : Tree) → Results p (tree.Comma all) v → Kept v
  comma_kept p all v (rule.sequence many a h) = record { value = tt; type = tt }

  index_kept : (p : Place) (a b v : Tree) → Results p (tree.Index a b) v → Kept v
  index_kept p a b v (rule.element c d e f t u h i j) = record { value = tt; type = tt }
  index_kept p a b v (rule.element_by_left c d e f t u h i j) = record { value = tt; type = tt }

  deref_kept : (p : Place) (a v : Tree) → Results p (tree.Deref a) v → Kept v
  deref_kept p a v (rule.pointed b e c u h i) = record { value = tt; type = tt }

  half_kept : (p : Place) (a v : Tree) (n : ℕ) → Results p (tree.Half a n) v → Kept v
  half_kept p a v n (rule.half b m h i) = record { value = tt; type = tt }

  pair_kept : (p : Place) (a b v : Tree) → Results p (tree.PairOf a b) v → Kept v
  pair_kept p a b v (rule.pair c d h i) = record { value = tt; type = tt }

module _ (plans : Plans) (fit : AreFit plans) (law : InPlaceIsTyped) (helps : List ℕ → ℕ → Bool) (sees : Sees) (heads : Heads) (env there : Env)
    (at : At (setting plans helps heads) env there) where
  both : (a v : Tree) → Typed env a v → (Fine (setting plans helps heads) sees v → Kept plans sees (setting plans helps heads) there v) → Fine (setting plans helps heads) sees v
      → Both plans sees (setting plans helps heads) there v
  both a v h f k = record { own = own plans fit law helps sees heads env there at a v h k; kept = f k }

  pub kept : (a v : Tree) → Typed env a v → Fine (setting plans helps heads) sees v → Kept plans sees (setting plans helps heads) there v
  kept a v (typed.constant p t n) k = let m = number_keeps (read_number env.dialect n) in record { value = m; type = m.0 }
  kept a v (typed.object p t x o h n) k = record { value = tt; type = tt }
  kept a v (typed.array p t x o e n c h i) k = fine_pointer (setting plans helps heads) sees v e c refl k
  kept a v (typed.unary p t o b b' w h r) k = unary_kept plans sees (setting plans helps heads) there p o b' v r (both b b' h (kept b b' h)) k
  kept a v (typed.binary p t o b b' c c' w h i r) k = binary_kept plans sees (setting plans helps heads) there p o b' c' v r (both b b' h (kept b b' h)) (both c c' i (kept c c' i)) k
  kept a v (typed.conjunction p t b b' c c' w h i r) k = and_kept plans sees (setting plans helps heads) there p b' c' v r (both b b' h (kept b b' h)) (both c c' i (kept c c' i)) k
  kept a v (typed.disjunction p t b b' c c' w h i r) k = or_kept plans sees (setting plans helps heads) there p b' c' v r (both b b' h (kept b b' h)) (both c c' i (kept c c' i)) k
  kept a v (typed.choice p t b b' c c' d d' w h i j r) k =
      choice_kept plans sees (setting plans helps heads) there p b' c' d' v r (both b b' h (kept b b' h)) (both c c' i (kept c c' i)) (both d d' j (kept d d' j)) k
  kept a v (typed.sequence p t all all' w h r) k = comma_kept plans sees (setting plans helps heads) there p all' v r
  kept a v (typed.index p t b b' c c' w h i r) k = index_kept plans sees (setting plans helps heads) there p b' c' v r
  kept a v (typed.dereference p t b b' w h r) k = deref_kept plans sees (setting plans helps heads) there p b' v r
  kept a v (typed.half_of p t b b' w n h r) k = half_kept plans sees (setting plans helps heads) there p b' v n r
  kept a v (typed.pair p t b b' c c' w h i r) k = pair_kept plans sees (setting plans helps heads) there p b' c' v r
  kept a v (typed.step p t b b' w up before h d r) k = step_kept plans sees (setting plans helps heads) there p b' v up before r
  kept a v (typed.assign p t o b b' c c' w h i d r) k = assign_kept plans sees (setting plans helps heads) there p o b' c' v r
  kept a v (typed.address p t b b' c e h d o) k = fine_pointer (setting plans helps heads) sees v e c refl k
  kept a v (typed.cast p t u b b' w h r n) k = cast_kept plans sees (setting plans helps heads) there p (read_type env.dialect u) b' v r (both b b' h (kept b b' h)) k
  kept a v (typed.through p t u b b' h) k = kept b b' h k
  kept a v (typed.size p t u w r n) k = size_kept plans sees (setting plans helps heads) there p (read_type env.dialect u) v r
  kept a v (typed.size_of_object p t x o n h i) k = record { value = tt; type = tt }
  kept a v (typed.call_of_function p t f c all all' args u none h before calls many passed i) k = record { value = tt; type = tt }
  kept a v (typed.call_of_row p t f r all all' args u o none h many passed i) k = record { value = tt; type = tt }
