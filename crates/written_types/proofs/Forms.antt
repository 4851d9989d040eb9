-- What is written for each form of expression that isn't a call has its types where what is written for its parts has (C11 6.5).
use Rattle.std.proofs.Common.{◌≡◌, refl, sym, ap, ◌∙◌, subst, Bool, true, false, Option, Some, None, if◌then◌else◌}
use Rattle.std.specs.Prelude.{ℕ, option_map, pos}
use Rattle.c_text.specs.declared.tokens.Dialect.TheVariants.{Neon}
use Rattle.c_text.specs.declared.tokens.Place.{Place}
use Rattle.lane_core.specs.declared.number.IntType.{IntType}
use Rattle.lane_core.specs.declared.number.IntType.TheVariants as int
use Rattle.lane_core.specs.declared.number.Num.{Num}
use Rattle.lane_core.specs.declared.number.BinOp.{BinOp}
use Rattle.lane_core.specs.declared.number.UnOp.{UnOp}
use Rattle.lane_core.specs.declared.number.UnOp.TheVariants as sign
use Rattle.scalar_core.specs.Numbers.{num_of}
use Rattle.scalar_core.specs.Ranks.{promoted, common_of}
use Rattle.scalar_core.specs.Operators.{left_type, right_type, binary_type}
use Rattle.c_tree.specs.declared.types.CType.{CType}
use Rattle.c_tree.specs.Nodes.{node_type}
use Rattle.c_tree.specs.Tree.{Tree, Kind, Trees, Node, Const, Name, Unary, Step, Binary, AndThen, OrElse, Choice, Assign, Comma, Cast, Index, Deref, Half, PairOf, SizeOfType, NoTrees, More}
use Rattle.c_memory.specs.Matching.{written_integer, written_type}
use Rattle.scopes.specs.Scopes.{Env}
use Rattle.type_rules.specs.Types.{read_type, converted}
use Rattle.type_rules.specs.Rules as rule
use Rattle.type_rules.specs.Rules.{Results, IsScalar, IsVector, Assigned, Last, alone, behind}
use Rattle.expression_types.specs.Check.{is_char}
use Rattle.expression_types.specs.Typed as typed
use Rattle.expression_types.specs.Typed.{Typed, Designates, variable, element, element_by_left, pointed, half}
use Rattle.written_forms.specs.Seen.{Sees}
use Rattle.written_forms.specs.Moved.{Plans, number, size, moved, moved_all}
use Rattle.written_forms.specs.Ready.{Setting}
use Rattle.written_types.proofs.Types.{read_type_written, promoted_written, common_written, left_written, right_written, binary_written, promoted_wide, common_wide, left_wide, right_wide, binary_wide, wide_written, scalar_written, vector_written}
use Rattle.written_types.proofs.Fine.{Fine, AllFine, fine_pointer}
use Rattle.written_types.proofs.Places.{At, written_object}
use Rattle.written_types.proofs.Conversions.{Own, AllOwn, number_typed, all_typed, fine_converted, part_typed, brought, integer_own, Given, given_fine, given_own}

no_char : (t : IntType) → is_char (written_integer t) ≡ false
no_char int.Boolean = refl
no_char t = refl

module _ (plans : Plans) (sees : Sees) (w : Setting) (env there : Env) (at : At w env there) where
  -- what is written for a part has its types where the part is fine
  abbrev pub Part : Tree → Type 0
  Part a = Fine w sees a → Own plans sees there a

  pub constant_own : (p : Place) (n : Num) → Own plans sees there (Node p (CType.Int n.ty) (Const n))
  unfolding num_of
  constant_own p n = record {
    typed = number_typed there p (CType.Int (written_integer n.ty)) (number n) at.dialect (no_char n.ty);
    ty = refl;
  }

  scalar_own : (a : Tree) → Own plans sees there a → IsScalar (node_type a) → IsScalar (node_type (moved plans sees a))
  scalar_own a o h = subst IsScalar (sym o.ty) (scalar_written (node_type a) h)

  -- ---- operators

  pub unary_own : (p : Place) (o : UnOp) (a v : Tree) → Results p (Unary o a) v → Part a → Part v
  unary_own p o a v (rule.promoting op b t h i) part k =
      let u = promoted t in
      let s = written_integer t in
      let c = converted (CType.Int u) a in
      let x = part (fine_converted w sees (CType.Int u) a k.1) in
      let y = moved plans sees a in
      let same : converted (CType.Int (promoted s)) y ≡ moved plans sees c = ap (λ z. converted (CType.Int z) y) (promoted_written t) ∙ brought plans sees there a u x (promoted_wide t) in
      let ty : promoted s ≡ written_integer u = promoted_written t ∙ sym (wide_written u (promoted_wide t)) in
      record {
        typed = subst (λ z. Typed there (Node p (CType.Int (written_integer u)) (Unary o (moved plans sees c))) z)
            (ap (λ z. Node p (CType.Int z) (Unary o (converted (CType.Int (promoted s)) y))) ty ∙ ap (λ z. Node p (CType.Int (written_integer u)) (Unary o z)) same)
            (typed.unary p (CType.Int (written_integer u)) o (moved plans sees c) y (Node p (CType.Int (promoted s)) (Unary o (converted (CType.Int (promoted s)) y))) (part_typed plans sees there a u x)
            (rule.promoting o y s h (integer_own plans sees there a t x i)));
        ty = refl;
      }
  unary_own p o a v (rule.negation b h) part k =
      let x = part k.1 in
      let y = moved plans sees a in
      record { typed = typed.unary p (CType.Int int.Int) sign.Not y y (Node p (CType.Int int.Int) (Unary sign.Not y)) x.typed (rule.negation y (scalar_own a x h)); ty = refl }

  pub binary_own : (p : Place) (o : BinOp) (a b v : Tree) → Results p (Binary o a b) v → Part a → Part b → Part v
  binary_own p o a b v (rule.integers op c d s t h i) first second k =
      let l = left_type o s t in
      let m = right_type o s t in
      let whole = CType.Int (written_integer (binary_type o s t)) in
      let x = first (fine_converted w sees (CType.Int l) a k.1.0) in
      let y = second (fine_converted w sees (CType.Int m) b k.1.1) in
      let e = moved plans sees a in
      let f = moved plans sees b in
      let s' = written_integer s in
      let t' = written_integer t in
      let left = converted (CType.Int (left_type o s' t')) e in
      let right = converted (CType.Int (right_type o s' t')) f in
      let c' = moved plans sees (converted (CType.Int l) a) in
      let d' = moved plans sees (converted (CType.Int m) b) in
      let same_left : left ≡ c' = ap (λ z. converted (CType.Int z) e) (left_written o s t) ∙ brought plans sees there a l x (left_wide o s t) in
      let same_right : right ≡ d' = ap (λ z. converted (CType.Int z) f) (right_written o s t) ∙ brought plans sees there b m y (right_wide o s t) in
      let ty : CType.Int (binary_type o s' t') ≡ whole = ap CType.Int (binary_written o s t ∙ sym (wide_written (binary_type o s t) (binary_wide o s t))) in
      record {
        typed = subst (λ z. Typed there (Node p whole (Binary o c' d')) z)
            (ap (λ z. Node p z (Binary o left right)) ty ∙ ap (λ z. Node p whole (Binary o z right)) same_left ∙ ap (λ z. Node p whole (Binary o c' z)) same_right)
            (typed.binary p whole o c' e d' f (Node p (CType.Int (binary_type o s' t')) (Binary o left right)) (part_typed plans sees there a l x) (part_typed plans sees there b m y)
            (rule.integers o e f s' t' (integer_own plans sees there a s x h) (integer_own plans sees there b t y i)));
        ty = refl;
      }
  binary_own p o a b v (rule.moved op c d e z t h i j l) first second k = fine_pointer w sees a e z i k.1.0
  binary_own p o a b v (rule.moved_by_left c d e z t h i j) first second k = fine_pointer w sees b e z i k.1.1
  binary_own p o a b v (rule.difference c d e z y h i j) first second k = fine_pointer w sees a e z h k.1.0
  binary_own p o a b v (rule.ordered op c d e z y h i j l) first second k = fine_pointer w sees a e z i k.1.0
  binary_own p o a b v (rule.compared op c d e z y h i j) first second k = fine_pointer w sees a e z i k.1.0
  binary_own p o a b v (rule.compared_with_null op c d e z t h i j l) first second k = fine_pointer w sees a e z i k.1.0
  binary_own p o a b v (rule.null_compared op c d e z t h i j l) first second k = fine_pointer w sees b e z l k.1.1

  pub and_own : (p : Place) (a b v : Tree) → Results p (AndThen a b) v → Part a → Part b → Part v
  and_own p a b v (rule.conjunction c d h i) first second k =
      let x = first k.1.0 in
      let y = second k.1.1 in
      let e = moved plans sees a in
      let f = moved plans sees b in
      record { typed = typed.conjunction p (CType.Int int.Int) e e f f (Node p (CType.Int int.Int) (AndThen e f)) x.typed y.typed (rule.conjunction e f (scalar_own a x h) (scalar_own b y i)); ty = refl }

  pub or_own : (p : Place) (a b v : Tree) → Results p (OrElse a b) v → Part a → Part b → Part v
  or_own p a b v (rule.disjunction c d h i) first second k =
      let x = first k.1.0 in
      let y = second k.1.1 in
      let e = moved plans sees a in
      let f = moved plans sees b in
      record { typed = typed.disjunction p (CType.Int int.Int) e e f f (Node p (CType.Int int.Int) (OrElse e f)) x.typed y.typed (rule.disjunction e f (scalar_own a x h) (scalar_own b y i)); ty = refl }

  pub choice_own : (p : Place) (c a b v : Tree) → Results p (Choice c a b) v → Part c → Part a → Part b → Part v
  choice_own p c a b v (rule.choice_of_integers x y z s t h i j) condition first second k =
      let m = common_of s t in
      let whole = CType.Int (written_integer m) in
      let n = condition k.1.0 in
      let q = first (fine_converted w sees (CType.Int m) a k.1.1) in
      let r = second (fine_converted w sees (CType.Int m) b k.1.2) in
      let g = moved plans sees c in
      let e = moved plans sees a in
      let f = moved plans sees b in
      let u = common_of (written_integer s) (written_integer t) in
      let left = converted (CType.Int u) e in
      let right = converted (CType.Int u) f in
      let a' = moved plans sees (converted (CType.Int m) a) in
      let b' = moved plans sees (converted (CType.Int m) b) in
      let same_left : left ≡ a' = ap (λ z. converted (CType.Int z) e) (common_written s t) ∙ brought plans sees there a m q (common_wide s t) in
      let same_right : right ≡ b' = ap (λ z. converted (CType.Int z) f) (common_written s t) ∙ brought plans sees there b m r (common_wide s t) in
      let ty : CType.Int u ≡ whole = ap CType.Int (common_written s t ∙ sym (wide_written m (common_wide s t))) in
      record {
        typed = subst (λ z. Typed there (Node p whole (Choice g a' b')) z)
            (ap (λ z. Node p z (Choice g left right)) ty ∙ ap (λ z. Node p whole (Choice g z right)) same_left ∙ ap (λ z. Node p whole (Choice g a' z)) same_right)
            (typed.choice p whole g g a' e b' f (Node p (CType.Int u) (Choice g left right)) n.typed (part_typed plans sees there a m q) (part_typed plans sees there b m r)
            (rule.choice_of_integers g e f (written_integer s) (written_integer t) (scalar_own c n h) (integer_own plans sees there a s q i) (integer_own plans sees there b t r j)));
        ty = refl;
      }
  choice_own p c a b v (rule.choice_of_pointers x y z e f g h i j) condition first second k = fine_pointer w sees a e f i (fine_converted w sees _ a k.1.1)
  choice_own p c a b v (rule.choice_or_null x y z e f t h i j g) condition first second k = fine_pointer w sees a e f i k.1.1
  choice_own p c a b v (rule.null_or_choice x y z e f t h i j g) condition first second k = fine_pointer w sees b e f g k.1.2
  choice_own p c a b v (rule.choice_of_nothing x y z h i j) condition first second k =
      let n = condition k.1.0 in
      let q = first k.1.1 in
      let r = second k.1.2 in
      let g = moved plans sees c in
      let e = moved plans sees a in
      let f = moved plans sees b in
      record {
        typed = typed.choice p CType.Void g g e e f f (Node p CType.Void (Choice g e f)) n.typed q.typed r.typed (rule.choice_of_nothing g e f (scalar_own c n h) (q.ty ∙ ap written_type i) (r.ty ∙ ap written_type j));
        ty = refl;
      }
  choice_own p c a b v (rule.choice_of_vectors x y z t h u i j) condition first second k =
      let n = condition k.1.0 in
      let q = first k.1.1 in
      let r = second k.1.2 in
      let g = moved plans sees c in
      let e = moved plans sees a in
      let f = moved plans sees b in
      record {
        typed = typed.choice p (written_type t) g g e e f f (Node p (written_type t) (Choice g e f)) n.typed q.typed r.typed
            (rule.choice_of_vectors g e f (written_type t) (scalar_own c n h) (vector_written t u) (q.ty ∙ ap written_type i) (r.ty ∙ ap written_type j));
        ty = refl;
      }

  last_moved : (all : Trees) (a : Tree) → Last all a → Last (moved_all plans sees all) (moved plans sees a)
  last_moved all a (alone b) = alone (moved plans sees a)
  last_moved all a (behind b c rest h) = behind (moved plans sees b) (moved plans sees a) (moved_all plans sees rest) (last_moved rest a h)

  last_own : (all : Trees) (a : Tree) → Last all a → AllOwn plans sees there all → Own plans sees there a
  last_own all a (alone b) o = o.0
  last_own all a (behind b c rest h) o = last_own rest a h o.1

  pub comma_own : (p : Place) (all : Trees) (v : Tree) → Results p (Comma all) v → (AllFine w sees all → AllOwn plans sees there all) → Part v
  comma_own p all v (rule.sequence many a h) parts k =
      let o = parts k.1 in
      let whole = moved_all plans sees all in
      let l = last_own all a h o in
      record {
        typed = subst (λ z. Typed there (Node p (written_type (node_type a)) (Comma whole)) (Node p z (Comma whole))) l.ty
            (typed.sequence p (written_type (node_type a)) whole whole (Node p (node_type (moved plans sees a)) (Comma whole)) (all_typed plans sees there all o) (rule.sequence whole (moved plans sees a) (last_moved all a h)));
        ty = refl;
      }

  -- ---- objects

  -- a variable of the source is one of what is written, const where it is
  pub designated : (a : Tree) (c : Bool) → Designates env a c → Fine w sees a → Designates there (moved plans sees a) c
  designated a c (variable p t x o h) k = variable p (written_type t) x (written_object o) (at.objects x ∙ ap (option_map written_object) h)
  designated a c (element p t b d e f s h i) k = absurd k.1
  designated a c (element_by_left p t b d e f s h i) k = absurd k.1
  designated a c (pointed p t b e f h) k = absurd k.1
  designated a c (half p t b n f h) k = absurd k.1

  pub step_own : (p : Place) (a v : Tree) (up before : Bool) → Results p (Step a up before) v → Designates env a false → Part a → Part v
  step_own p a v up before (rule.integer_step b t x y h) d part k =
      let o = part k.1 in
      let e = moved plans sees a in
      record {
        typed = typed.step p (CType.Int (written_integer t)) e e (Node p (CType.Int (written_integer t)) (Step e up before)) up before o.typed (designated a false d k.1)
            (rule.integer_step e (written_integer t) up before (integer_own plans sees there a t o h));
        ty = refl;
      }
  step_own p a v up before (rule.pointer_step b e c x y h i) d part k = fine_pointer w sees a e c h k.1

  pub assign_own : (p : Place) (o : Option BinOp) (a b v : Tree) → Results p (Assign o a b) v → Designates env a false → Part a → Part b → Part v
  assign_own p o a b v (rule.assignment x y c h) d first second k =
      let q = first k.1.0 in
      let g = given_own plans sees w there b c (node_type a) h k.1.1 (second (given_fine plans sees w b c (node_type a) h k.1.1)) in
      let e = moved plans sees a in
      let f = moved plans sees c in
      record {
        typed = subst (λ z. Typed there (Node p (written_type (node_type a)) (Assign None e f)) (Node p z (Assign None e f))) q.ty
            (typed.assign p (written_type (node_type a)) None e e f (moved plans sees b) (Node p (node_type e) (Assign None e f)) q.typed g.typed (designated a false d k.1.0)
            (rule.assignment e (moved plans sees b) f (subst (λ z. Assigned (moved plans sees b) z f) (sym q.ty) g.given)));
        ty = refl;
      }
  assign_own p o a b v (rule.compound op x y s t c h i) d first second k =
      let m = right_type op s t in
      let whole = CType.Int (written_integer s) in
      let q = first k.1.0 in
      let r = second (fine_converted w sees (CType.Int m) b k.1.1) in
      let e = moved plans sees a in
      let f = moved plans sees b in
      let right = converted (CType.Int (right_type op (written_integer s) (written_integer t))) f in
      let b' = moved plans sees (converted (CType.Int m) b) in
      let same : right ≡ b' = ap (λ z. converted (CType.Int z) f) (right_written op s t) ∙ brought plans sees there b m r (right_wide op s t) in
      record {
        typed = subst (λ z. Typed there (Node p whole (Assign (Some op) e b')) (Node p whole (Assign (Some op) e z))) same
            (typed.assign p whole (Some op) e e b' f (Node p whole (Assign (Some op) e right)) q.typed (part_typed plans sees there b m r) (designated a false d k.1.0)
            (rule.compound op e f (written_integer s) (written_integer t) c (integer_own plans sees there a s q h) (integer_own plans sees there b t r i)));
        ty = refl;
      }
  assign_own p o a b v (rule.pointer_compound op x y e c t h i j l) d first second k = fine_pointer w sees a e c i k.1.0

  -- ---- casts and sizes

  cast_as : (p : Place) (u : CType) (a : Tree) → Results p (Cast (written_type u) a true) (Node p (written_type u) (Cast (written_type u) a true))
      → Results p (Cast (read_type there.dialect (written_type u)) a true) (Node p (written_type u) (Cast (written_type u) a true))
  cast_as p u a h =
      let same : read_type there.dialect (written_type u) ≡ written_type u = ap (λ z. read_type z (written_type u)) at.dialect ∙ read_type_written u in
      subst (λ z. Results p (Cast z a true) (Node p (written_type u) (Cast (written_type u) a true))) (sym same) h

  pub cast_own : (p : Place) (u : CType) (a v : Tree) → Results p (Cast u a true) v → Part a → Part v
  cast_own p u a v (rule.cast_to_void b) part k =
      let o = part k.1 in
      let e = moved plans sees a in
      record { typed = typed.cast p CType.Void CType.Void e e (Node p CType.Void (Cast CType.Void e true)) o.typed (cast_as p CType.Void e (rule.cast_to_void e)) (λ z. absurd z); ty = refl }
  cast_own p u a v (rule.cast_to_integer b s t h) part k =
      let o = part k.1 in
      let e = moved plans sees a in
      let whole = CType.Int (written_integer t) in
      record {
        typed = typed.cast p whole whole e e (Node p whole (Cast whole e true)) o.typed (cast_as p (CType.Int t) e (rule.cast_to_integer e (written_integer s) (written_integer t) (integer_own plans sees there a s o h))) (λ z. absurd z);
        ty = refl;
      }
  cast_own p u a v (rule.cast_to_pointer b e f c d h) part k = fine_pointer w sees a e c h k.1

  size_typed : (p : Place) (o : Option ℕ) → Typed there (size p o) (size p o)
  unfolding num_of
  size_typed p None = number_typed there p (CType.Int int.ULong) (num_of int.ULong (pos 0)) at.dialect refl
  size_typed p (Some n) = number_typed there p (CType.Int int.ULong) (num_of int.ULong (pos n)) at.dialect refl

  size_node : (p : Place) (o : Option ℕ) → node_type (size p o) ≡ CType.Int int.ULong
  size_node p None = refl
  size_node p (Some n) = refl

  pub size_own : (p : Place) (u : CType) (v : Tree) → Results p (SizeOfType u) v → Own plans sees there v
  size_own p u v (rule.size t n h) = record { typed = size_typed p _; ty = size_node p _ }

  pub size_of_own : (p : Place) (x : _) → Own plans sees there (Node p (CType.Int int.ULong) (Kind.SizeOfName x))
  size_of_own p x = record { typed = size_typed p _; ty = size_node p _ }

  -- no other form is moved
  pub index_own : (p : Place) (a b v : Tree) → Results p (Index a b) v → Part v
  index_own p a b v (rule.element c d e f t u h i j) k = absurd k.1
  index_own p a b v (rule.element_by_left c d e f t u h i j) k = absurd k.1

  pub deref_own : (p : Place) (a v : Tree) → Results p (Deref a) v → Part v
  deref_own p a v (rule.pointed b e c u h i) k = absurd k.1

  pub half_own : (p : Place) (a v : Tree) (n : ℕ) → Results p (Half a n) v → Part v
  half_own p a v n (rule.half b m h i) k = absurd k.1

  pub pair_own : (p : Place) (a b v : Tree) → Results p (PairOf a b) v → Part v
  pair_own p a b v (rule.pair c d h i) k = absurd k.1
