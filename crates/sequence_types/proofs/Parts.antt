-- Each node that is written for a part of a term is its own typed form, where its parts are (C11 6.5).
use Rattle.std.proofs.Common.{◌≡◌, ℕ, ◌<◌, Bool, true, false, ◌||◌, None, refl, sym, ap, ◌∙◌, subst}
use Rattle.std.specs.Prelude.{IsTrue, if◌then◌else◌}
use Rattle.lane_core.specs.declared.number.IntType.{IntType}
use Rattle.lane_core.specs.declared.number.IntType.TheVariants as int
use Rattle.lane_core.specs.declared.number.BinOp.{BinOp}
use Rattle.lane_core.specs.declared.vector.Pointee.{Pointee}
use Rattle.scalar_core.specs.Ranks.{promoted, common_of}
use Rattle.scalar_core.specs.Operators.{is_comparison, is_shift, left_type, right_type, binary_type}
use Rattle.c_text.specs.declared.tokens.Place.{Place}
use Rattle.c_text.specs.declared.tokens.Dialect.TheVariants.{Neon}
use Rattle.c_tree.specs.declared.types.CType.{CType}
use Rattle.c_tree.specs.Tree as tree
use Rattle.c_tree.specs.Tree.{Tree, Node}
use Rattle.c_tree.specs.Nodes.{node_type}
use Rattle.c_memory.specs.Meaning as meaning
use Rattle.type_rules.specs.Types.{read_type, read_integer, converted}
use Rattle.type_rules.specs.Rules.{IsScalar, IsObjectOf, Results}
use Rattle.scopes.specs.Scopes.{Env}
use Rattle.expression_types.specs.Typed.{Typed, Designates}
use Rattle.seq_core.specs.Formed.{vector, byte, to_bytes, is_to_const, operator_type, is_promoted, IsInteger, IsNamed, IsConverted, IsPromoted, IsBeside, IsChoosable, IsPointer, IsBytePointer, IsWrittenPointer}
use Rattle.seq_core.specs.Written.{operator, cast, chosen, moved, pointed, set}
use Rattle.sequence_types.specs.Claims.{HasType}
use Rattle.sequence_types.proofs.Given.{types_agree, integer_unconverted, pointer_unconverted, assigned_same}

-- ---- promoted types (6.3.1.1p2, 6.3.1.8p1)

pub promoted_same : (t : IntType) → IsTrue (is_promoted t) → promoted t ≡ t
unfolding promoted
promoted_same int.Int h = refl
promoted_same int.UInt h = refl
promoted_same int.Long h = refl
promoted_same int.ULong h = refl
promoted_same int.LLong h = refl
promoted_same int.ULLong h = refl
promoted_same _ h = absurd (cc)

pub common_same : (t : IntType) → IsTrue (is_promoted t) → common_of t t ≡ t
unfolding common_of promoted
common_same int.Int h = refl
common_same int.UInt h = refl
common_same int.Long h = refl
common_same int.ULong h = refl
common_same int.LLong h = refl
common_same int.ULLong h = refl
common_same _ h = absurd (cc)

abbrev integer_in : CType → IntType
integer_in (CType.Int t) = t
integer_in t = int.Int

left_kept : (b : Bool) (s t : IntType) → IsTrue (is_promoted s) → IsBeside b (CType.Int s) (CType.Int t) → (if b then promoted s else common_of s t) ≡ s
left_kept true s t h k = promoted_same s h
left_kept false s t h k = ap (common_of s) (ap integer_in k) ∙ common_same s h

right_kept : (b : Bool) (s t : IntType) → IsTrue (is_promoted s) → IsBeside b (CType.Int s) (CType.Int t) → (if b then promoted t else common_of s t) ≡ t
right_kept true s t h k = promoted_same t k
right_kept false s t h k = ap (common_of s) (ap integer_in k) ∙ common_same s h ∙ sym (ap integer_in k)

whole_kept : (c : Bool) (u s : IntType) → u ≡ s → CType.Int (if c then int.Int else u) ≡ (if c then CType.Int int.Int else CType.Int s)
whole_kept true u s e = refl
whole_kept false u s e = ap CType.Int e

-- ---- the parts

module _ (env : Env) (neon : env.dialect ≡ Neon) (place : Place) where
  pub integers_typed : (o : BinOp) (a b : Tree) (s t : IntType) → HasType env (CType.Int s) a → HasType env (CType.Int t) b → IsTrue (is_promoted s) → IsBeside (is_shift o) (CType.Int s) (CType.Int t)
      → HasType env (operator_type o (CType.Int s)) (operator place o a b)
  integers_typed o a b s t h k p q =
      let l = left_kept (is_shift o) s t p q in
      let r = right_kept (is_shift o) s t p q in
      let el : converted (CType.Int (left_type o s t)) a ≡ a = ap (λ u. converted (CType.Int u) a) l ∙ integer_unconverted s a h.1 in
      let er : converted (CType.Int (right_type o s t)) b ≡ b = ap (λ u. converted (CType.Int u) b) r ∙ integer_unconverted t b k.1 in
      let w : CType.Int (binary_type o s t) ≡ operator_type o (CType.Int s) = whole_kept (is_comparison o) (left_type o s t) s l in
      let ty : meaning.type_of a ≡ CType.Int s = types_agree a ∙ h.1 in
      let e : Node place (CType.Int (binary_type o s t)) (tree.Binary o (converted (CType.Int (left_type o s t)) a) (converted (CType.Int (right_type o s t)) b)) ≡ operator place o a b =
      ap (λ z. Node place z (tree.Binary o (converted (CType.Int (left_type o s t)) a) (converted (CType.Int (right_type o s t)) b))) (w ∙ sym (ap (operator_type o) ty))
      ∙ ap (λ z. Node place (operator_type o (meaning.type_of a)) (tree.Binary o z (converted (CType.Int (right_type o s t)) b))) el
      ∙ ap (λ z. Node place (operator_type o (meaning.type_of a)) (tree.Binary o a z)) er in (
        subst (Typed env (operator place o a b)) e (Typed.binary place (operator_type o (meaning.type_of a)) o a a b b _ h.0 k.0 (Results.integers o a b s t h.1 k.1)),
        ap (operator_type o) ty,
      )

  pub operator_typed : (o : BinOp) (a b : Tree) (s t : CType) → HasType env s a → HasType env t b → IsPromoted s → IsBeside (is_shift o) s t → HasType env (operator_type o s) (operator place o a b)
  operator_typed o a b (CType.Int s) t h k p q = right (is_shift o) refl t k q
    where
      right : (v : Bool) → is_shift o ≡ v → (t : CType) → HasType env t b → IsBeside v (CType.Int s) t → HasType env (operator_type o (CType.Int s)) (operator place o a b)
      right v e (CType.Int t) k q = integers_typed o a b s t h k p (subst (λ w. IsBeside w (CType.Int s) (CType.Int t)) (sym e) q)
      right true e _ k q = absurd q
      right false e _ k q = absurd (cc)
  operator_typed o a b _ t h k p q = absurd p

  -- a written cast of an integer, and of a pointer (6.5.4)
  read_named : (t : IntType) → IsNamed t → read_integer Neon t ≡ t
  read_named int.Char h = absurd h
  read_named _ h = refl

  pub integer_cast_typed : (t : IntType) (a : Tree) (s : CType) → HasType env s a → IsConverted t s → HasType env (CType.Int t) (cast place (CType.Int t) a)
  integer_cast_typed t a (CType.Int s) h n =
      let e : read_type env.dialect (CType.Int t) ≡ CType.Int t = ap (λ d. CType.Int (read_integer d t)) neon ∙ ap CType.Int (read_named t n) in (
        Typed.cast place (CType.Int t) (CType.Int t) a a (cast place (CType.Int t) a) h.0
            (subst (λ u. Results place (tree.Cast u a true) (cast place (CType.Int t) a)) (sym e) (Results.cast_to_integer a s t h.1)) (λ v. v),
        refl,
      )
  integer_cast_typed t a _ h n = absurd n

  pub pointer_cast_typed : (a : Tree) (c : Bool) (s : CType) → HasType env s a → IsPointer s → HasType env (CType.Pointer (Pointee.Int int.UChar) c) (cast place (CType.Pointer (Pointee.Int int.UChar) c) a)
  pointer_cast_typed a c (CType.Pointer e k) h i =
      let bytes = CType.Pointer (Pointee.Int int.UChar) c in
      let q : read_type env.dialect bytes ≡ bytes = ap (λ d. CType.Pointer (Pointee.Int (read_integer d int.UChar)) c) neon in (
        Typed.cast place bytes bytes a a (cast place bytes a) h.0
            (subst (λ u. Results place (tree.Cast u a true) (cast place bytes a)) (sym q) (Results.cast_to_pointer a e (Pointee.Int int.UChar) k c h.1)) (λ v. v),
        refl,
      )
  pointer_cast_typed a c _ h i = absurd i

  -- a choice (6.5.15)
  scalar_of : (c : Tree) (u : CType) → HasType env u c → IsInteger u → IsScalar (node_type c)
  scalar_of c (CType.Int u) h i = rw h.1 tt
  scalar_of c _ h i = absurd i

  chosen_as : (c a b : Tree) (u s : CType) → HasType env u c → HasType env s a → HasType env s b → Results place (tree.Choice c a b) (Node place s (tree.Choice c a b)) → HasType env s (chosen place c a b)
  chosen_as c a b u s g h k r =
      let ty : meaning.type_of a ≡ s = types_agree a ∙ h.1 in
      (Typed.choice place (meaning.type_of a) c c a a b b (chosen place c a b) g.0 h.0 k.0 (subst (λ z. Results place (tree.Choice c a b) (Node place z (tree.Choice c a b))) (sym ty) r), ty)

  pub choice_typed : (c a b : Tree) (u s : CType) → HasType env u c → IsInteger u → HasType env s a → HasType env s b → IsChoosable s → HasType env s (chosen place c a b)
  choice_typed c a b u (CType.Int s) g i h k p =
      let q = common_same s p in
      let ea : converted (CType.Int (common_of s s)) a ≡ a = ap (λ z. converted (CType.Int z) a) q ∙ integer_unconverted s a h.1 in
      let eb : converted (CType.Int (common_of s s)) b ≡ b = ap (λ z. converted (CType.Int z) b) q ∙ integer_unconverted s b k.1 in
      let e : Node place (CType.Int (common_of s s)) (tree.Choice c (converted (CType.Int (common_of s s)) a) (converted (CType.Int (common_of s s)) b)) ≡ Node place (CType.Int s) (tree.Choice c a b) =
      ap (λ z. Node place (CType.Int z) (tree.Choice c (converted (CType.Int (common_of s s)) a) (converted (CType.Int (common_of s s)) b))) q
      ∙ ap (λ z. Node place (CType.Int s) (tree.Choice c z (converted (CType.Int (common_of s s)) b))) ea ∙ ap (λ z. Node place (CType.Int s) (tree.Choice c a z)) eb in
      chosen_as c a b u (CType.Int s) g h k (subst (Results place (tree.Choice c a b)) e (Results.choice_of_integers c a b s s (scalar_of c u g i) h.1 k.1))
  choice_typed c a b u (CType.Pointer t w) g i h k p =
      let q : (w || w) ≡ w = twice w in
      let ea : converted (CType.Pointer t (w || w)) a ≡ a = ap (λ z. converted (CType.Pointer t z) a) q ∙ pointer_unconverted t w a h.1 in
      let eb : converted (CType.Pointer t (w || w)) b ≡ b = ap (λ z. converted (CType.Pointer t z) b) q ∙ pointer_unconverted t w b k.1 in
      let e : Node place (CType.Pointer t (w || w)) (tree.Choice c (converted (CType.Pointer t (w || w)) a) (converted (CType.Pointer t (w || w)) b)) ≡ Node place (CType.Pointer t w) (tree.Choice c a b) =
      ap (λ z. Node place (CType.Pointer t z) (tree.Choice c (converted (CType.Pointer t (w || w)) a) (converted (CType.Pointer t (w || w)) b))) q
      ∙ ap (λ z. Node place (CType.Pointer t w) (tree.Choice c z (converted (CType.Pointer t (w || w)) b))) ea ∙ ap (λ z. Node place (CType.Pointer t w) (tree.Choice c a z)) eb in
      chosen_as c a b u (CType.Pointer t w) g h k (subst (Results place (tree.Choice c a b)) e (Results.choice_of_pointers c a b t w w (scalar_of c u g i) h.1 k.1))
    where
      twice : (v : Bool) → (v || v) ≡ v
      twice true = refl
      twice false = refl
  choice_typed c a b u (CType.Neon l wide) g i h k p = chosen_as c a b u (CType.Neon l wide) g h k (Results.choice_of_vectors c a b (CType.Neon l wide) (scalar_of c u g i) tt h.1 k.1)
  choice_typed c a b u CType.Pair g i h k p = chosen_as c a b u CType.Pair g h k (Results.choice_of_vectors c a b CType.Pair (scalar_of c u g i) tt h.1 k.1)
  choice_typed c a b u _ g i h k p = absurd p

  -- a pair of vectors and its halves
  pub pair_typed : (a b : Tree) → HasType env vector a → HasType env vector b → HasType env CType.Pair (Node place CType.Pair (tree.PairOf a b))
  pair_typed a b h k = (Typed.pair place CType.Pair a a b b (Node place CType.Pair (tree.PairOf a b)) h.0 k.0 (Results.pair a b h.1 k.1), refl)

  pub half_typed : (a : Tree) (k : ℕ) → HasType env CType.Pair a → k < 2 → HasType env vector (Node place vector (tree.Half a k))
  half_typed a k h l = (Typed.half_of place vector a a (Node place vector (tree.Half a k)) k h.0 (Results.half a k h.1 l), refl)

  -- a pointer that is moved by an integer (6.5.6p8)
  pub moved_typed : (a b : Tree) (s t : CType) → HasType env s a → HasType env t b → IsPointer s → IsInteger t → HasType env (to_bytes s) (moved place a b)
  moved_typed a b s (CType.Int t) h k i j =
      let ty : meaning.type_of a ≡ s = types_agree a ∙ h.1 in
      let bytes = to_bytes (meaning.type_of a) in
      let c = pointer_cast_typed a (is_to_const (meaning.type_of a)) s h i in
      let moves : Results place (tree.Binary BinOp.Add (cast place bytes a) b) (moved place a b) = Results.moved BinOp.Add (cast place bytes a) b (Pointee.Int int.UChar) (is_to_const (meaning.type_of a)) t tt c.1 tt k.1 in
      (Typed.binary place bytes BinOp.Add (cast place bytes a) (cast place bytes a) b b (moved place a b) c.0 k.0 moves, ap to_bytes ty)
  moved_typed a b s _ h k i j = absurd j

  -- a byte that is read, and one that is written (6.5.3.2p4, 6.5.16)
  pub pointed_typed : (a : Tree) (s : CType) → HasType env s a → IsBytePointer s → HasType env byte (pointed place a)
  pointed_typed a (CType.Pointer (Pointee.Int int.UChar) c) h i =
      (Typed.dereference place byte a a (pointed place a) h.0 (Results.pointed a (Pointee.Int int.UChar) c byte h.1 (IsObjectOf.an_integer int.UChar)), refl)
  pointed_typed a _ h i = absurd i

  pub set_typed : (a b : Tree) (s : CType) → HasType env s a → HasType env byte b → IsWrittenPointer s → HasType env byte (set place a b)
  set_typed a b (CType.Pointer (Pointee.Int int.UChar) false) h k i =
      let target = pointed_typed a (CType.Pointer (Pointee.Int int.UChar) false) h tt in (
        Typed.assign place byte None (pointed place a) (pointed place a) b b (set place a b) target.0 k.0 (Designates.pointed place byte a (Pointee.Int int.UChar) false h.1)
            (Results.assignment (pointed place a) b b (assigned_same byte b tt k.1)),
        refl,
      )
  set_typed a b _ h k i = absurd i
