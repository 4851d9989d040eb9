-- Laws of the forms of expressions that are moved, one for each form.
use Rattle.std.proofs.Common.{◌≡◌, ℕ, List, Bool, true, false, Option, Some, None, refl, sym, ap, ◌∙◌, subst}
use Rattle.std.specs.Str.{bytes_eq}
use Rattle.std.proofs.lemmas.Slice.Eq.{bytes_eq-Decides}
use Rattle.lane_core.specs.declared.number.IntType.{IntType}
use Rattle.lane_core.specs.declared.number.IntType.TheVariants as int
use Rattle.lane_core.specs.declared.number.Num.{Num}
use Rattle.lane_core.specs.declared.number.BinOp.{BinOp}
use Rattle.lane_core.specs.declared.number.UnOp.{UnOp}
use Rattle.scalar_core.specs.Operators.{binary_type, unary_type}
use Rattle.c_text.specs.declared.tokens.Place.{Place}
use Rattle.c_tree.specs.declared.types.CType.{CType}
use Rattle.c_tree.specs.Tree.{Tree, Node, Const, Name, Unary, Step, Binary, AndThen, OrElse, Choice, Assign, Cast}
use Rattle.c_tree.specs.Types.{is_array}
use Rattle.c_memory.specs.declared.value.Value.{Value}
use Rattle.c_memory.specs.Matching.{written_integer, written_type}
use Rattle.c_memory.specs.MeaningState.{Does}
use Rattle.c_memory.specs.Meaning.{Calls, expression, condition, target, type_of}
use Rattle.simulation.specs.Alike.{Given, Objects, Sim}
use Rattle.simulation.specs.Carried.{Way, MayChange, Carried, Shared, Marks, Scope, carried}
use Rattle.simulation.specs.Steps.{pure_sim}
use Rattle.simulation.specs.ObjectLaws.{AreNamed}
use Rattle.simulation.specs.ExpressionLaws.{Reads, Converts, OperatesBefore, Operates, OperatesInto, Steps, Tests, name_sim, valued_sim, tested_sim, unary_sim, binary_sim, and_sim, or_sim, choice_sim, cast_sim, void_cast_sim, assign_sim, assigned_sim, compound_sim, step_sim, named_target_sim, read_named_sim, set_named_sim}
use Rattle.written_forms.specs.TypedValues.{TypedValues}
use Rattle.written_forms.proofs.TypedLaws.{typed_constant, typed_truth, typed_tests, typed_operates, typed_before, typed_converts, typed_into, typed_steps}
use Rattle.written_forms.specs.Seen.{Sees}
use Rattle.written_forms.specs.Moved as moved
use Rattle.written_forms.specs.Ready.{IsInt, WhenInt, IsSeen, IsCarried}
use Rattle.written_forms.proofs.Agreeing.{Keeping, kept, way_when, way_of, Agrees, SetsNone}

-- ---- types

pub record AnInt (t : CType) : Type 0 where
  pub s : IntType
  pub is : t ≡ CType.Int s

pub int_of : (t : CType) → IsInt t → AnInt t
int_of (CType.Int s) h = record { s = s; is = refl }
int_of t h = absurd h

pub record SomeInt (t : CType) (P : IntType → Type 0) : Type 0 where
  pub s : IntType
  pub is : t ≡ CType.Int s
  pub has : P s

pub some_int : (t : CType) (P : IntType → Type 0) → WhenInt t P → SomeInt t P
some_int (CType.Int s) P h = record { s = s; is = refl; has = h }
some_int t P h = absurd h

pub as_type : {n : ℕ} {E F : Objects} (s t : CType) (p q : Does (Option Value)) → t ≡ s → Sim n (Given TypedValues s) E F p q → Sim n (Given TypedValues t) E F p q
as_type {n = n} {E = E} {F = F} s t p q e h = subst (λ z. Sim n (Given TypedValues z) E F p q) (sym e) h

pub plain : (t : CType) → IsCarried t → is_array t ≡ false
plain (CType.Int s) h = refl
plain CType.M128 h = refl
plain t h = absurd h

pub plain_written : (t : CType) → IsCarried t → is_array (written_type t) ≡ false
plain_written (CType.Int s) h = refl
plain_written CType.M128 h = refl
plain_written t h = absurd h

-- ---- objects

module _ (sees : Sees) (scope : List Carried) (ks : Marks) (keeps : List Keeping) (ag : Agrees sees scope ks keeps) where
  -- nothing is asked of reading an object apart from memory
  reads_kept : (n : ℕ) (o : Option Keeping) (b : Bool) (s t : CType) → Reads n TypedValues (way_of o (record { ty = s; steady = b })) s t
  reads_kept n None true s t = tt
  reads_kept n None false s t = tt
  reads_kept n (Some k) b s t = tt

  pub variable_sim : (n : ℕ) (p q : Place) (u v t : CType) (c d : Calls) (x : List ℕ) → IsSeen sees x t → IsCarried t
      → Sim n (Given TypedValues t) (Scope TypedValues scope ks) (Scope TypedValues scope ks) (expression (Node p u (Name x)) c) (expression (Node q v (Name x)) d)
  variable_sim n p q u v t c d x h k =
      let l = h.0 in
      let is_plain : is_array l.ty ≡ false = ap is_array h.2 ∙ plain t k in
      let other : is_array (written_type l.ty) ≡ false = ap (λ z. is_array (written_type z)) h.2 ∙ plain_written t k in
      as_type l.ty t (expression (Node p u (Name x)) c) (expression (Node q v (Name x)) d) (sym h.2)
      (name_sim n TypedValues scope ks p q u v c d (way_of (kept x keeps) l) x l.ty (written_type l.ty) (ag.objects x l h.1) is_plain other
      (reads_kept n (kept x keeps) l.steady l.ty (written_type l.ty)))

  -- an object that may be set
  pub record MaySet (x : List ℕ) (t : CType) : Type 0 where
    pub way : Way
    pub is : carried x scope ≡ Some (Shared way x t (written_type t))
    pub may : MayChange way

  may_change : (b : Bool) → MayChange (way_when b)
  may_change true = tt
  may_change false = tt

  same_name : (x : List ℕ) → bytes_eq x x ≡ true
  same_name x = (bytes_eq-Decides x x).1 refl

  pub may_set : (sets : List ℕ → Bool) → SetsNone keeps sets → (x : List ℕ) (t : CType) → sets x ≡ true → IsSeen sees x t → MaySet x t
  may_set sets none x t e h = at (kept x keeps) refl
    where
      at : (o : Option Keeping) → kept x keeps ≡ o → MaySet x t
      at None g = record {
        way = way_when h.0.steady;
        is = subst (λ z. carried x scope ≡ Some (Shared (way_when h.0.steady) x z (written_type z))) h.2
            (subst (λ z. carried x scope ≡ Some (Shared (way_of z h.0) x h.0.ty (written_type h.0.ty))) g (ag.objects x h.0 h.1));
        may = may_change h.0.steady;
      }
      at (Some k) g = let f : true ≡ false = sym e ∙ none x k g in absurd (cc)

  -- ---- forms that set an object

  module _ (n : ℕ) (c d : Calls) (p q i j : Place) (t u v : CType) (x : List ℕ) (m : MaySet x t) where
    abbrev here : Objects
    here = Scope TypedValues scope ks

    abbrev named : Tree
    named = Node i u (Name x)

    abbrev other : Tree
    other = Node j v (Name x)

    target_sim : Sim n (AreNamed x) here here (target named c) (target other d)
    target_sim = named_target_sim n TypedValues scope ks i j u v c d m.way x t (written_type t) m.is m.may

    pub set_sim : (b b' : Tree) → type_of b ≡ t → Sim n (Given TypedValues (type_of b)) here here (expression b c) (expression b' d)
        → Sim n (Given TypedValues t) here here (expression (Node p t (Assign None named b)) c) (expression (Node q (written_type t) (Assign None other b')) d)
    set_sim b b' e h =
        assign_sim n TypedValues c d here here here here p q t t (written_type t) None None named b other b' target_sim
        (valued_sim n TypedValues c d here here b b' h) (λ y z f g names r.
        let r2 : TypedValues t f g = subst (λ s. TypedValues s f g) e r in
        assigned_sim n TypedValues c d here here t t (written_type t) (type_of b) (type_of b') y z f g r2
        (set_named_sim n TypedValues scope ks m.way x t (written_type t) y z f g m.is m.may names r2))

    pub set_by_sim : (s z : IntType) (o : BinOp) (b b' : Tree) → t ≡ CType.Int s → type_of b ≡ CType.Int z
        → Sim n (Given TypedValues (type_of b)) here here (expression b c) (expression b' d)
        → Sim n (Given TypedValues t) here here (expression (Node p t (Assign (Some o) named b)) c) (expression (Node q (written_type t) (Assign (Some o) other b')) d)
    set_by_sim s z o b b' e f h =
        assign_sim n TypedValues c d here here here here p q t t (written_type t) (Some o) (Some o) named b other b' target_sim
        (valued_sim n TypedValues c d here here b b' h) (λ y k g w names r.
        compound_sim n TypedValues c d here here here t (written_type t) (type_of b) (type_of b') o o y k g w r
        (read_named_sim n TypedValues scope ks m.way x t (written_type t) y k m.is m.may names)
        (subst (λ a. OperatesInto n TypedValues o t a t o (written_type t) (type_of b') (written_type t)) (sym f)
        (subst (λ a. OperatesInto n TypedValues o a (CType.Int z) a o (written_type a) (type_of b') (written_type a)) (sym e) (typed_into n o s z (type_of b'))))
        (λ a a' r2. set_named_sim n TypedValues scope ks m.way x t (written_type t) y k a a' m.is m.may names r2))

    pub stepped_sim : (s : IntType) (up before : Bool) → t ≡ CType.Int s
        → Sim n (Given TypedValues t) here here (expression (Node p t (Step named up before)) c) (expression (Node q (written_type t) (Step other up before)) d)
    stepped_sim s up before e =
        step_sim n TypedValues c d here here here here p q t (written_type t) named other up before target_sim
        (subst (λ a. Steps n TypedValues a (written_type a) up) (sym e) (typed_steps n s up))
        (λ y k names. read_named_sim n TypedValues scope ks m.way x t (written_type t) y k m.is m.may names)
        (λ y k a a' names r. set_named_sim n TypedValues scope ks m.way x t (written_type t) y k a a' m.is m.may names r)

-- ---- forms that set none

module _ (n : ℕ) (E : Objects) (c d : Calls) (p q : Place) where
  abbrev pub AreAlike : Tree → Tree → Type 0
  AreAlike a b = Sim n (Given TypedValues (type_of a)) E E (expression a c) (expression b d)

  pub number_sim : (t v : CType) (m : Num) → t ≡ CType.Int m.ty
      → Sim n (Given TypedValues t) E E (expression (Node p t (Const m)) c) (expression (Node q v (Const (moved.number m))) d)
  number_sim t v m e =
      as_type (CType.Int m.ty) t (expression (Node p t (Const m)) c) (expression (Node q v (Const (moved.number m))) d) e
      (pure_sim (Some (Value.Int m)) (Some (Value.Int (moved.number m))) (typed_constant m))

  pub before_sim : (t v : CType) (o : UnOp) (a b : Tree) → WhenInt (type_of a) (λ s. t ≡ CType.Int (unary_type o s)) → AreAlike a b
      → Sim n (Given TypedValues t) E E (expression (Node p t (Unary o a)) c) (expression (Node q v (Unary o b)) d)
  before_sim t v o a b h k =
      let r = some_int (type_of a) (λ s. t ≡ CType.Int (unary_type o s)) h in
      as_type (CType.Int (unary_type o r.s)) t (expression (Node p t (Unary o a)) c) (expression (Node q v (Unary o b)) d) r.has
      (unary_sim n TypedValues c d E E p q (CType.Int (unary_type o r.s)) v o a b (valued_sim n TypedValues c d E E a b k)
      (subst (λ z. OperatesBefore n TypedValues o z (CType.Int (unary_type o r.s))) (sym r.is) (typed_before n o r.s)))

  pub between_sim : (t v : CType) (o : BinOp) (a b a' b' : Tree) → WhenInt (type_of a) (λ s. WhenInt (type_of b) (λ u. t ≡ CType.Int (binary_type o s u))) → AreAlike a a'
      → AreAlike b b' → Sim n (Given TypedValues t) E E (expression (Node p t (Binary o a b)) c) (expression (Node q v (Binary o a' b')) d)
  between_sim t v o a b a' b' h k l =
      let r = some_int (type_of a) (λ s. WhenInt (type_of b) (λ u. t ≡ CType.Int (binary_type o s u))) h in
      let u = some_int (type_of b) (λ u. t ≡ CType.Int (binary_type o r.s u)) r.has in
      as_type (CType.Int (binary_type o r.s u.s)) t (expression (Node p t (Binary o a b)) c) (expression (Node q v (Binary o a' b')) d) u.has
      (binary_sim n TypedValues c d E E E p q (CType.Int (binary_type o r.s u.s)) v o o a b a' b' (valued_sim n TypedValues c d E E a a' k)
      (valued_sim n TypedValues c d E E b b' l)
      (subst (λ z. Operates n TypedValues o z (type_of b) (CType.Int (binary_type o r.s u.s)) o (type_of a') (type_of b')) (sym r.is)
      (subst (λ z. Operates n TypedValues o (CType.Int r.s) z (CType.Int (binary_type o r.s u.s)) o (type_of a') (type_of b')) (sym u.is)
      (typed_operates n o r.s u.s (type_of a') (type_of b')))))

  pub condition_sim : (a b : Tree) → IsInt (type_of a) → AreAlike a b → Sim n ◌≡◌ E E (condition (expression a c)) (condition (expression b d))
  condition_sim a b h k =
      let r = int_of (type_of a) h in
      tested_sim n TypedValues c d E E a b (valued_sim n TypedValues c d E E a b k) (subst (Tests n TypedValues) (sym r.is) (typed_tests n r.s))

  pub both_sim : (t v : CType) (a b a' b' : Tree) → t ≡ CType.Int int.Int → IsInt (type_of a) → IsInt (type_of b) → AreAlike a a' → AreAlike b b'
      → Sim n (Given TypedValues t) E E (expression (Node p t (AndThen a b)) c) (expression (Node q v (AndThen a' b')) d)
  both_sim t v a b a' b' e f g h k =
      as_type (CType.Int int.Int) t (expression (Node p t (AndThen a b)) c) (expression (Node q v (AndThen a' b')) d) e
      (and_sim n TypedValues c d E E p q (CType.Int int.Int) v a b a' b' (condition_sim a a' f h) (condition_sim b b' g k) typed_truth)

  pub either_sim : (t v : CType) (a b a' b' : Tree) → t ≡ CType.Int int.Int → IsInt (type_of a) → IsInt (type_of b) → AreAlike a a' → AreAlike b b'
      → Sim n (Given TypedValues t) E E (expression (Node p t (OrElse a b)) c) (expression (Node q v (OrElse a' b')) d)
  either_sim t v a b a' b' e f g h k =
      as_type (CType.Int int.Int) t (expression (Node p t (OrElse a b)) c) (expression (Node q v (OrElse a' b')) d) e
      (or_sim n TypedValues c d E E p q (CType.Int int.Int) v a b a' b' (condition_sim a a' f h) (condition_sim b b' g k) typed_truth)

  pub chosen_sim : (t v : CType) (e a b e' a' b' : Tree) → IsInt (type_of e) → type_of a ≡ t → type_of b ≡ t → AreAlike e e' → AreAlike a a' → AreAlike b b'
      → Sim n (Given TypedValues t) E E (expression (Node p t (Choice e a b)) c) (expression (Node q v (Choice e' a' b')) d)
  chosen_sim t v e a b e' a' b' f g h i j k =
      choice_sim n TypedValues c d E E E p q t v e a b e' a' b' (condition_sim e e' f i) (as_type (type_of a) t (expression a c) (expression a' d) (sym g) j)
      (as_type (type_of b) t (expression b c) (expression b' d) (sym h) k)

  pub nothing_sim : (t v : CType) (a b : Tree) (z y : Bool) → t ≡ CType.Void → AreAlike a b
      → Sim n (Given TypedValues t) E E (expression (Node p t (Cast CType.Void a z)) c) (expression (Node q v (Cast CType.Void b y)) d)
  nothing_sim t v a b z y e h = void_cast_sim n TypedValues c d E E p q t t v a b z y h

  not_void : (s : IntType) → CType.Int s ≡ CType.Void → ⊥
  not_void s e = absurd (cc)

  pub kept_cast_sim : (t v : CType) (s : IntType) (a b : Tree) (z y : Bool) → t ≡ CType.Int s → IsInt (type_of a) → AreAlike a b
      → Sim n (Given TypedValues t) E E (expression (Node p t (Cast (CType.Int s) a z)) c) (expression (Node q v (Cast (CType.Int (written_integer s)) b y)) d)
  kept_cast_sim t v s a b z y e f h =
      let r = int_of (type_of a) f in
      as_type (CType.Int s) t (expression (Node p t (Cast (CType.Int s) a z)) c) (expression (Node q v (Cast (CType.Int (written_integer s)) b y)) d) e
      (cast_sim n TypedValues c d E E p q (type_of a) t v (CType.Int s) (CType.Int (written_integer s)) a b z y (not_void s) (not_void (written_integer s)) h
      (subst (λ k. Converts n TypedValues k (CType.Int s) (CType.Int (written_integer s))) (sym r.is) (typed_converts n r.s s)))
