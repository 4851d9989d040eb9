-- Laws of constant expressions in a typed source: they have their values wherever they are evaluated.
use Rattle.std.proofs.Common.{◌≡◌, ℕ, List, Bool, true, false, not, Option, Some, None, refl, sym, ap, ◌∙◌, subst, arith}
use Rattle.std.specs.Prelude.{option_map, if◌then◌else◌, ℤ, pos}
use Rattle.std.specs.Ordering.{int_eq}
use Rattle.std.proofs.lemmas.Int.{ints}
use Rattle.lane_core.specs.IntRange.{InRange}
use Rattle.lane_core.specs.declared.number.BinOp.{BinOp}
use Rattle.lane_core.specs.declared.number.UnOp.{UnOp}
use Rattle.lane_core.specs.declared.number.UnOp.TheVariants as sign
use Rattle.scalar_core.specs.OperatorLaws.{binary_typed, unary_typed}
use Rattle.c_memory.specs.declared.blocks.Block.{Block}
use Rattle.c_memory.specs.MeaningValues.{operate_before}
use Rattle.std.specs.Option.{option_and_then}
use Rattle.lane_core.specs.declared.number.IntType.{IntType}
use Rattle.lane_core.specs.declared.number.Num.{Num}
use Rattle.scalar_core.specs.Numbers.{num_of, converted}
use Rattle.scalar_core.specs.NumberLaws.{converted_same, converted_type, converted_kept}
use Rattle.scalar_core.specs.Operators.{binary_type, unary_type, unary_of, binary_of, truth, operate_unary, HasType}
use Rattle.scalar_core.specs.Ranks.{promoted, common_of}
use Rattle.const_imm.specs.Constant as constant
use Rattle.const_imm.specs.Constant.{value_of, typed_both, on_both, is_true}
use Rattle.c_tree.specs.declared.types.CType.{CType}
use Rattle.c_tree.specs.Tree.{Tree, Kind, Node, Const, Unary, Binary, AndThen, OrElse, Choice, Cast, SizeOfType}
use Rattle.c_memory.specs.declared.value.Value.{Value}
use Rattle.c_memory.specs.MeaningState.{State, Done}
use Rattle.c_memory.specs.Meaning.{Calls, expression, type_of}
use Rattle.written_forms.specs.Seen.{Sees}
use Rattle.written_forms.specs.Ready.{Setting, WhenInt, IsCommon, Ready, ReadyKind}
use Rattle.lane_core.specs.declared.number.IntType.TheVariants as int
use Rattle.c_text.specs.declared.tokens.Place.{Place}
use Rattle.const_imm.specs.Sizes.{size_of}

-- ---- parts of options

bound : {A B : Type 0} (o : Option A) (f : A → Option B) (v : B) → option_and_then f o ≡ Some v → (a : A) × (o ≡ Some a) × (f a ≡ Some v)
bound (Some a) f v h = (a, refl, h)
bound None f v h = absurd (cc)

mapped : {A B : Type 0} (o : Option A) (f : A → B) (v : B) → option_map f o ≡ Some v → (a : A) × (o ≡ Some a) × (f a ≡ v)
mapped (Some a) f v h = (a, refl, cc)
mapped None f v h = absurd (cc)

both : {A B : Type 0} (f : A → A → Option B) (o p : Option A) (v : B) → on_both f o p ≡ Some v → (a : A) × (b : A) × (o ≡ Some a) × (p ≡ Some b) × (f a b ≡ Some v)
both f (Some a) (Some b) v h = (a, b, refl, refl, h)
both f (Some a) None v h = absurd (cc)
both f None p v h = absurd (cc)

some_same : {A : Type 0} {x y : A} → Some x ≡ Some y → x ≡ y
some_same e = cc

int_same : {s t : IntType} → CType.Int s ≡ CType.Int t → s ≡ t
int_same e = cc

-- ---- types

when_int : (t : CType) (s : IntType) (P : IntType → Type 0) → t ≡ CType.Int s → WhenInt t P → P s
when_int t s P e h = subst (λ u. WhenInt u P) e h

mutual
  -- the type of an expression of constant form is that of its node
  pub typed_as : (w : Setting) (sees : Sees) (e : Tree) → Ready w sees e → (s : IntType) → constant.type_of e ≡ Some s → type_of e ≡ CType.Int s
  typed_as w sees (Node p t k) h s e = kind_typed w sees t k h s e

  kind_typed : (w : Setting) (sees : Sees) (t : CType) (k : Kind) → ReadyKind w sees t k → (s : IntType) → constant.kind_type k ≡ Some s → t ≡ CType.Int s
  kind_typed w sees t (Const n) h s e = h ∙ ap CType.Int (some_same e)
  kind_typed w sees t (Unary o a) h s e =
      let b = mapped (constant.type_of a) (unary_type o) s e in
      when_int (type_of a) b.0 (λ i. t ≡ CType.Int (unary_type o i)) (typed_as w sees a h.1 b.0 b.1) h.0 ∙ ap CType.Int b.2
  kind_typed w sees t (Binary o a b) h s e =
      let r = both (λ i j. Some (binary_type o i j)) (constant.type_of a) (constant.type_of b) s e in
      when_int (type_of b) r.1 (λ u. t ≡ CType.Int (binary_type o r.0 u)) (typed_as w sees b h.2 r.1 r.3)
      (when_int (type_of a) r.0 (λ i. WhenInt (type_of b) (λ u. t ≡ CType.Int (binary_type o i u))) (typed_as w sees a h.1 r.0 r.2) h.0) ∙ ap CType.Int (some_same r.4)
  kind_typed w sees t (AndThen a b) h s e =
      let r = both (λ i j. Some int.Int) (constant.type_of a) (constant.type_of b) s e in h.0 ∙ ap CType.Int (some_same r.4)
  kind_typed w sees t (OrElse a b) h s e =
      let r = both (λ i j. Some int.Int) (constant.type_of a) (constant.type_of b) s e in h.0 ∙ ap CType.Int (some_same r.4)
  kind_typed w sees t (Choice c a b) h s e =
      let r = both (λ i j. Some j) (constant.type_of c) (typed_both common_of (constant.type_of a) (constant.type_of b)) s e in
      let q = both (λ i j. Some (common_of i j)) (constant.type_of a) (constant.type_of b) r.1 r.3 in
      let first : t ≡ CType.Int q.0 = sym h.2 ∙ typed_as w sees a h.5 q.0 q.2 in
      let second : t ≡ CType.Int q.1 = sym h.3 ∙ typed_as w sees b h.6 q.1 q.3 in
      let same : q.0 ≡ q.1 = int_same (sym first ∙ second) in
      let common : common_of q.0 q.0 ≡ q.0 = subst IsCommon first h.1 in
      first ∙ ap CType.Int (sym common ∙ ap (common_of q.0) same ∙ some_same q.4 ∙ some_same r.4)
  kind_typed w sees t (Cast (CType.Int u) a written) h s e = let b = mapped (constant.type_of a) (λ i. u) s e in h.0 ∙ ap CType.Int b.2
  kind_typed w sees t (Cast CType.Void a true) h s e = absurd (cc)
  kind_typed w sees t (SizeOfType u) h s e = h ∙ ap CType.Int (some_same e)
  kind_typed w sees t _ h s e = absurd (cc)

-- ---- values

-- the expression has this value, and its type
pub record Runs (e : Tree) (m : Num) : Type 0 where
  pub gives : (c : Calls) (s : State) → expression e c s ≡ Done (Some (Value.Int m)) s
  pub ty : type_of e ≡ CType.Int m.ty

runs_as : (e : Tree) (m n : Num) → m ≡ n → Runs e m → Runs e n
runs_as e m n f h = subst (Runs e) f h

truth_type : (b : Bool) → (truth b).ty ≡ int.Int
unfolding truth num_of
truth_type b = refl

size_type : (k : ℕ) → (num_of int.ULong (pos k)).ty ≡ int.ULong
unfolding num_of
size_type k = refl

-- promotion keeps every value
promoted_range : (t : IntType) (z : ℤ) → InRange t z → InRange (promoted t) z
unfolding promoted
promoted_range int.Boolean z h = (omega (arith, ints, h.0), omega (arith, ints, h.1))
promoted_range int.Char z h = (omega (arith, ints, h.0), omega (arith, ints, h.1))
promoted_range int.SChar z h = (omega (arith, ints, h.0), omega (arith, ints, h.1))
promoted_range int.UChar z h = (omega (arith, ints, h.0), omega (arith, ints, h.1))
promoted_range int.Short z h = (omega (arith, ints, h.0), omega (arith, ints, h.1))
promoted_range int.UShort z h = (omega (arith, ints, h.0), omega (arith, ints, h.1))
promoted_range int.Int z h = h
promoted_range int.UInt z h = h
promoted_range int.Long z h = h
promoted_range int.ULong z h = h
promoted_range int.LLong z h = h
promoted_range int.ULLong z h = h

not_not : (b : Bool) → not (not b) ≡ b
not_not true = refl
not_not false = refl

-- `!` of a number
not_of : (x : Num) → unary_of sign.Not x ≡ Some (truth (not (is_true x)))
unfolding unary_of operate_unary
not_of x =
    ap (λ z. Some (truth (int_eq z (pos 0)))) (converted_kept (promoted x.ty) x (promoted_range x.ty x.value x.in_range)) ∙ ap (λ b. Some (truth b))
    (sym (not_not (int_eq x.value (pos 0))))

before : (o : UnOp) (x m : Num) (memory : List Block) → unary_of o x ≡ Some m → operate_before memory o (Value.Int x) ≡ Some (Value.Int m)
before sign.Not x m memory e = ap (λ z. Some (Value.Int z)) (some_same (sym (not_of x) ∙ e))
before sign.Plus x m memory e = ap (option_map Value.Int) e
before sign.Neg x m memory e = ap (option_map Value.Int) e
before sign.BitNot x m memory e = ap (option_map Value.Int) e

has_type : (t : IntType) (o : Option Num) (m : Num) → HasType t o → o ≡ Some m → m.ty ≡ t
has_type t (Some n) m h e = ap (λ z. z.ty) (sym (some_same e)) ∙ h
has_type t None m h e = absurd (cc)

unary_runs : (p : Place) (t : CType) (o : UnOp) (a : Tree) (x m : Num) → Runs a x → unary_of o x ≡ Some m → t ≡ CType.Int (unary_type o x.ty) → Runs (Node p t (Unary o a)) m
unary_runs p t o a x m h e f = record {
  gives = λ c s. rw (h.gives c s, before o x m s.memory e) refl;
  ty = f ∙ ap CType.Int (sym (has_type (unary_type o x.ty) (unary_of o x) m (unary_typed o x) e));
}

binary_runs : (p : Place) (t : CType) (o : BinOp) (a b : Tree) (x y m : Num) → Runs a x → Runs b y → binary_of o x y ≡ Some m → t ≡ CType.Int (binary_type o x.ty y.ty)
    → Runs (Node p t (Binary o a b)) m
binary_runs p t o a b x y m h k e f = record {
  gives = λ c s. rw (h.gives c s, k.gives c s, e) refl;
  ty = f ∙ ap CType.Int (sym (has_type (binary_type o x.ty y.ty) (binary_of o x y) m (binary_typed o x y) e));
}

-- what `&&` and `||` give by the truth of the first operand
and_runs : (p : Place) (t : CType) (a b : Tree) (x m : Num) (v : Bool) → is_true x ≡ v → Runs a x → t ≡ CType.Int int.Int
    → ((y : Num) → value_of b ≡ Some y → Runs b y) → (if v then option_map (λ y. truth (is_true y)) (value_of b) else option_map (λ s. truth false) (constant.type_of b)) ≡ Some m
    → Runs (Node p t (AndThen a b)) m
and_runs p t a b x m true i h f rest e =
    let r = mapped (value_of b) (λ y. truth (is_true y)) m e in
    record {
      gives = λ c s. rw (h.gives c s, i, (rest r.0 r.1).gives c s) (ap (λ z. Done (Some (Value.Int z)) s) r.2);
      ty = f ∙ ap CType.Int (sym (truth_type (is_true r.0)) ∙ ap (λ z. z.ty) r.2);
    }
and_runs p t a b x m false i h f rest e =
    let r = mapped (constant.type_of b) (λ s. truth false) m e in
    record { gives = λ c s. rw (h.gives c s, i) (ap (λ z. Done (Some (Value.Int z)) s) r.2); ty = f ∙ ap CType.Int (sym (truth_type false) ∙ ap (λ z. z.ty) r.2) }

or_runs : (p : Place) (t : CType) (a b : Tree) (x m : Num) (v : Bool) → is_true x ≡ v → Runs a x → t ≡ CType.Int int.Int
    → ((y : Num) → value_of b ≡ Some y → Runs b y) → (if v then option_map (λ s. truth true) (constant.type_of b) else option_map (λ y. truth (is_true y)) (value_of b)) ≡ Some m
    → Runs (Node p t (OrElse a b)) m
or_runs p t a b x m true i h f rest e =
    let r = mapped (constant.type_of b) (λ s. truth true) m e in
    record { gives = λ c s. rw (h.gives c s, i) (ap (λ z. Done (Some (Value.Int z)) s) r.2); ty = f ∙ ap CType.Int (sym (truth_type true) ∙ ap (λ z. z.ty) r.2) }
or_runs p t a b x m false i h f rest e =
    let r = mapped (value_of b) (λ y. truth (is_true y)) m e in
    record {
      gives = λ c s. rw (h.gives c s, i, (rest r.0 r.1).gives c s) (ap (λ z. Done (Some (Value.Int z)) s) r.2);
      ty = f ∙ ap CType.Int (sym (truth_type (is_true r.0)) ∙ ap (λ z. z.ty) r.2);
    }

choice_runs : (p : Place) (t : CType) (d a b : Tree) (x m : Num) (ty : IntType) (v : Bool) → is_true x ≡ v → Runs d x → t ≡ CType.Int ty → type_of a ≡ t → type_of b ≡ t
    → ((y : Num) → value_of a ≡ Some y → Runs a y) → ((y : Num) → value_of b ≡ Some y → Runs b y) → option_map (converted ty) (if v then value_of a else value_of b) ≡ Some m
    → Runs (Node p t (Choice d a b)) m
choice_runs p t d a b x m ty true i h f ta tb first second e =
    let r = mapped (value_of a) (converted ty) m e in
    let k = first r.0 r.1 in
    let same : r.0.ty ≡ ty = int_same (sym k.ty ∙ ta ∙ f) in
    let is : r.0 ≡ m = sym (converted_same r.0) ∙ ap (λ s. converted s r.0) same ∙ r.2 in
    record { gives = λ c s. rw (h.gives c s, i) (k.gives c s ∙ ap (λ z. Done (Some (Value.Int z)) s) is); ty = sym ta ∙ k.ty ∙ ap (λ z. CType.Int z.ty) is }
choice_runs p t d a b x m ty false i h f ta tb first second e =
    let r = mapped (value_of b) (converted ty) m e in
    let k = second r.0 r.1 in
    let same : r.0.ty ≡ ty = int_same (sym k.ty ∙ tb ∙ f) in
    let is : r.0 ≡ m = sym (converted_same r.0) ∙ ap (λ s. converted s r.0) same ∙ r.2 in
    record { gives = λ c s. rw (h.gives c s, i) (k.gives c s ∙ ap (λ z. Done (Some (Value.Int z)) s) is); ty = sym tb ∙ k.ty ∙ ap (λ z. CType.Int z.ty) is }

mutual
  pub runs : (w : Setting) (sees : Sees) (e : Tree) → Ready w sees e → (m : Num) → value_of e ≡ Some m → Runs e m
  runs w sees (Node p t k) h m e = kind_runs w sees p t k h m e

  kind_runs : (w : Setting) (sees : Sees) (p : Place) (t : CType) (k : Kind) → ReadyKind w sees t k → (m : Num) → constant.kind_value k ≡ Some m → Runs (Node p t k) m
  kind_runs w sees p t (Const n) h m e = record { gives = λ c s. ap (λ z. Done (Some (Value.Int z)) s) (some_same e); ty = h ∙ ap (λ z. CType.Int z.ty) (some_same e) }
  kind_runs w sees p t (Unary o a) h m e =
      let b = bound (value_of a) (unary_of o) m e in
      let r = runs w sees a h.1 b.0 b.1 in
      unary_runs p t o a b.0 m r b.2 (when_int (type_of a) b.0.ty (λ i. t ≡ CType.Int (unary_type o i)) r.ty h.0)
  kind_runs w sees p t (Binary o a b) h m e =
      let r = both (binary_of o) (value_of a) (value_of b) m e in
      let x = runs w sees a h.1 r.0 r.2 in
      let y = runs w sees b h.2 r.1 r.3 in
      binary_runs p t o a b r.0 r.1 m x y r.4 (when_int (type_of b) r.1.ty (λ u. t ≡ CType.Int (binary_type o r.0.ty u)) y.ty
      (when_int (type_of a) r.0.ty (λ i. WhenInt (type_of b) (λ u. t ≡ CType.Int (binary_type o i u))) x.ty h.0))
  kind_runs w sees p t (AndThen a b) h m e =
      let r = bound (value_of a) (λ x. if is_true x then option_map (λ y. truth (is_true y)) (value_of b) else option_map (λ s. truth false) (constant.type_of b)) m e in
      and_runs p t a b r.0 m (is_true r.0) refl (runs w sees a h.3 r.0 r.1) h.0 (λ y f. runs w sees b h.4 y f) r.2
  kind_runs w sees p t (OrElse a b) h m e =
      let r = bound (value_of a) (λ x. if is_true x then option_map (λ s. truth true) (constant.type_of b) else option_map (λ y. truth (is_true y)) (value_of b)) m e in
      or_runs p t a b r.0 m (is_true r.0) refl (runs w sees a h.3 r.0 r.1) h.0 (λ y f. runs w sees b h.4 y f) r.2
  kind_runs w sees p t (Choice d a b) h m e =
      let r = bound (value_of d) (λ x. option_and_then (λ ty. option_map (converted ty) (if is_true x then value_of a else value_of b)) (typed_both common_of (constant.type_of a) (constant.type_of b))) m e in
      let q = bound (typed_both common_of (constant.type_of a) (constant.type_of b)) (λ ty. option_map (converted ty) (if is_true r.0 then value_of a else value_of b)) m r.2 in
      let u = both (λ i j. Some (common_of i j)) (constant.type_of a) (constant.type_of b) q.0 q.1 in
      let first : t ≡ CType.Int u.0 = sym h.2 ∙ typed_as w sees a h.5 u.0 u.2 in
      let second : t ≡ CType.Int u.1 = sym h.3 ∙ typed_as w sees b h.6 u.1 u.3 in
      let same : u.0 ≡ u.1 = int_same (sym first ∙ second) in
      let common : common_of u.0 u.0 ≡ u.0 = subst IsCommon first h.1 in
      choice_runs p t d a b r.0 m q.0 (is_true r.0) refl (runs w sees d h.4 r.0 r.1) (first ∙ ap CType.Int (sym common ∙ ap (common_of u.0) same ∙ some_same u.4)) h.2 h.3
      (λ y f. runs w sees a h.5 y f) (λ y f. runs w sees b h.6 y f) q.2
  kind_runs w sees p t (Cast (CType.Int u) a written) h m e =
      let b = mapped (value_of a) (converted u) m e in
      record {
        gives = λ c s. rw ((runs w sees a h.2 b.0 b.1).gives c s) (ap (λ z. Done (Some (Value.Int z)) s) b.2);
        ty = h.0 ∙ ap CType.Int (sym (converted_type u b.0) ∙ ap (λ z. z.ty) b.2);
      }
  kind_runs w sees p t (Cast CType.Void a true) h m e = absurd (cc)
  kind_runs w sees p t (SizeOfType u) h m e =
      let b = mapped (size_of u) (λ k. num_of int.ULong (pos k)) m e in
      record { gives = λ c s. rw b.1 (ap (λ z. Done (Some (Value.Int z)) s) b.2); ty = h ∙ ap CType.Int (sym (size_type b.0) ∙ ap (λ z. z.ty) b.2) }
  kind_runs w sees p t _ h m e = absurd (cc)
