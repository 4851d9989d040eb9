-- What is wanted of an expression so that what is written for it has its types: its nodes are of moved types, none goes through memory, and
-- its calls are ready. So is each expression that is ready and moved, and each of constant form (C11 6.6) that is moved.
use Rattle.std.proofs.Common.{◌≡◌, refl, sym, ap, ◌∙◌, subst, Bool, true, false, Option, Some, None, if◌then◌else◌}
use Rattle.std.specs.Prelude.{ℕ, List, option_map}
use Rattle.std.specs.Option.{option_and_then}
use Rattle.c_text.specs.declared.tokens.Place.{Place}
use Rattle.lane_core.specs.declared.number.IntType.{IntType}
use Rattle.lane_core.specs.declared.number.IntType.TheVariants as int
use Rattle.lane_core.specs.declared.number.Num.{Num}
use Rattle.lane_core.specs.declared.vector.Pointee.{Pointee}
use Rattle.lane_core.specs.Table.{params_of}
use Rattle.scalar_core.specs.Ranks.{common_of}
use Rattle.scalar_core.specs.Numbers.{converted}
use Rattle.scalar_core.specs.Operators.{unary_type, unary_of, binary_type, binary_of, truth}
use Rattle.const_imm.specs.Constant as constant
use Rattle.const_imm.specs.Constant.{value_of, on_both, typed_both, is_true}
use Rattle.c_tree.specs.declared.types.CType.{CType}
use Rattle.c_tree.specs.Marks.{short, mark_of}
use Rattle.c_tree.specs.Nodes.{node_type}
use Rattle.c_tree.specs.Tree.{Tree, Kind, Trees, Node, Const, Name, Unary, Step, Binary, AndThen, OrElse, Choice, Assign, Comma, Cast, Call, SizeOfType, SizeOfName, NoTrees, More}
use Rattle.scopes.specs.Scopes.{or_else}
use Rattle.intel_table.specs.declared.IntelOp.{IntelOp}
use Rattle.intel_table.specs.Rows.{find_of, signature_of}
use Rattle.seq_core.specs.Terms.{Sequence}
use Rattle.written_forms.specs.Seen.{Sees}
use Rattle.written_forms.specs.Moved.{Plans, immediate_among}
use Rattle.ready_units.specs.Movable.{is_moved_type, is_moved_result, unmoved, unplanned, unmoved_in, unmoved_part, unmoved_name, unmoved_among}
use Rattle.written_forms.specs.Ready.{Setting, CallsFunction, CallsRow, IsVariable, IsCall, Ready, ReadyKind, AreReady}

-- ---- parts of options

pub first_none : {A : Type 0} (a b : Option A) → or_else a b ≡ None → a ≡ None
first_none None b h = refl
first_none (Some x) b h = absurd (cc)

pub second_none : {A : Type 0} (a b : Option A) → or_else a b ≡ None → b ≡ None
second_none None b h = h
second_none (Some x) b h = absurd (cc)

bound : {A B : Type 0} (o : Option A) (f : A → Option B) (v : B) → option_and_then f o ≡ Some v → (a : A) × (o ≡ Some a) × (f a ≡ Some v)
bound (Some a) f v h = (a, refl, h)
bound None f v h = absurd (cc)

from_map : {A B : Type 0} (o : Option A) (f : A → B) (v : B) → option_map f o ≡ Some v → (a : A) × (o ≡ Some a)
from_map (Some a) f v h = (a, refl)
from_map None f v h = absurd (cc)

both : {A B : Type 0} (f : A → A → Option B) (o p : Option A) (v : B) → on_both f o p ≡ Some v → (a : A) × (b : A) × (o ≡ Some a) × (p ≡ Some b)
both f (Some a) (Some b) v h = (a, b, refl, refl)
both f (Some a) None v h = absurd (cc)
both f None p v h = absurd (cc)

both_typed : (f : IntType → IntType → IntType) (o p : Option IntType) (s t : IntType) → o ≡ Some s → p ≡ Some t → typed_both f o p ≡ Some (f s t)
both_typed f o p s t h g = rw (h, g) refl

-- ---- what is wanted

abbrev pub FineCall : Setting → Sees → CType → List ℕ → Option IntelOp → Trees → Type 0
FineCall w sees t f None all = CallsFunction w t f all
FineCall w sees t f (Some op) all = CallsRow w sees t f op all × (is_moved_type t ≡ true)

abbrev mutual
  pub Fine : Setting → Sees → Tree → Type 0
  Fine w sees (Node p t k) = (is_moved_result t ≡ true) × FineKind w sees t k

  pub FineKind : Setting → Sees → CType → Kind → Type 0
  FineKind w sees t (Const n) = Unit {0}
  FineKind w sees t (Name x) = Unit {0}
  FineKind w sees t (Unary o a) = Fine w sees a
  FineKind w sees t (Step a up before) = Fine w sees a
  FineKind w sees t (Binary o a b) = Fine w sees a × Fine w sees b
  FineKind w sees t (AndThen a b) = Fine w sees a × Fine w sees b
  FineKind w sees t (OrElse a b) = Fine w sees a × Fine w sees b
  FineKind w sees t (Choice c a b) = Fine w sees c × Fine w sees a × Fine w sees b
  FineKind w sees t (Assign o a b) = Fine w sees a × Fine w sees b
  FineKind w sees t (Comma all) = AllFine w sees all
  FineKind w sees t (Cast u a written) = Fine w sees a
  FineKind w sees t (Call f all) = FineCall w sees t f (find_of f) all × AllFine w sees all
  FineKind w sees t (SizeOfType u) = Unit {0}
  FineKind w sees t (SizeOfName x) = Unit {0}
  FineKind w sees t k = ⊥

  pub AllFine : Setting → Sees → Trees → Type 0
  AllFine w sees NoTrees = Unit {0}
  AllFine w sees (More a rest) = Fine w sees a × AllFine w sees rest

pub fine_type : (w : Setting) (sees : Sees) (e : Tree) → Fine w sees e → is_moved_result (node_type e) ≡ true
fine_type w sees (Node p t k) h = h.0

-- no pointer is moved
pub fine_pointer : (w : Setting) (sees : Sees) (e : Tree) (x : Pointee) (c : Bool) {A : Type 0} → node_type e ≡ CType.Pointer x c → Fine w sees e → A
fine_pointer w sees e x c h k = absurd (let g : is_moved_result (CType.Pointer x c) ≡ true = subst (λ t. is_moved_result t ≡ true) h (fine_type w sees e k) in cc)

-- ---- what is ready

pub record Inside (plans : Plans) (p : Place) (t : CType) (k : Kind) : Type 0 where
  pub ty : is_moved_result t ≡ true
  pub parts : unmoved_part plans p t k ≡ None

pub inside : (plans : Plans) (p : Place) (t : CType) (k : Kind) → unmoved_in plans (Node p t k) ≡ None → Inside plans p t k
inside plans p t k h = at (is_moved_result t) refl h
  where
    at : (b : Bool) → is_moved_result t ≡ b → (if b then unmoved_part plans p t k else Some (unmoved p (mark_of k))) ≡ None → Inside plans p t k
    at true e g = record { ty = e; parts = g }
    at false e g = absurd (cc)

row_type : (plans : Plans) (p : Place) (t : CType) (f : List ℕ) (op : IntelOp) (all : Trees) → unmoved_name plans p t f (Some op) all ≡ None → is_moved_type t ≡ true
row_type plans p t f op all h = at (is_moved_type t) h
  where
    at : (b : Bool) → (if b then unplanned (plans f (immediate_among (params_of (signature_of op)) all)) (unmoved p (short f)) else Some (unmoved p (short f))) ≡ None → b ≡ true
    at true g = refl
    at false g = absurd (cc)

module _ (plans : Plans) (w : Setting) (sees : Sees) where
  fine_call : (p : Place) (t : CType) (f : List ℕ) (o : Option IntelOp) (all : Trees) → unmoved_name plans p t f o all ≡ None → IsCall w sees t f o all → FineCall w sees t f o all
  fine_call p t f None all m c = c
  fine_call p t f (Some op) all m c = (c, row_type plans p t f op all m)

  fine_variable : (t : CType) (a : Tree) → unmoved_in plans a ≡ None → IsVariable sees t a → Fine w sees a
  fine_variable t (Node p u (Name x)) m h = ((inside plans p u (Name x) m).ty, tt)
  fine_variable t (Node p u k) m h = absurd h

  mutual
    pub fine : (e : Tree) → unmoved_in plans e ≡ None → Ready w sees e → Fine w sees e
    fine (Node p t k) m r = let i = inside plans p t k m in (i.ty, fine_kind p t k i.parts r)

    fine_kind : (p : Place) (t : CType) (k : Kind) → unmoved_part plans p t k ≡ None → ReadyKind w sees t k → FineKind w sees t k
    fine_kind p t (Const n) m r = tt
    fine_kind p t (Name x) m r = tt
    fine_kind p t (Unary o a) m r = fine a m r.1
    fine_kind p t (Step a up before) m r = fine_variable t a m r.1
    fine_kind p t (Binary o a b) m r = (fine a (first_none (unmoved_in plans a) (unmoved_in plans b) m) r.1, fine b (second_none (unmoved_in plans a) (unmoved_in plans b) m) r.2)
    fine_kind p t (AndThen a b) m r = (fine a (first_none (unmoved_in plans a) (unmoved_in plans b) m) r.3, fine b (second_none (unmoved_in plans a) (unmoved_in plans b) m) r.4)
    fine_kind p t (OrElse a b) m r = (fine a (first_none (unmoved_in plans a) (unmoved_in plans b) m) r.3, fine b (second_none (unmoved_in plans a) (unmoved_in plans b) m) r.4)
    fine_kind p t (Choice c a b) m r =
        let arms = or_else (unmoved_in plans a) (unmoved_in plans b) in
        let n = second_none (unmoved_in plans c) arms m in
        (fine c (first_none (unmoved_in plans c) arms m) r.4, fine a (first_none (unmoved_in plans a) (unmoved_in plans b) n) r.5, fine b (second_none (unmoved_in plans a) (unmoved_in plans b) n) r.6)
    fine_kind p t (Assign o a b) m r = (fine_variable t a (first_none (unmoved_in plans a) (unmoved_in plans b) m) r.0, fine b (second_none (unmoved_in plans a) (unmoved_in plans b) m) r.2)
    fine_kind p t (Comma all) m r = all_fine all m r.1
    fine_kind p t (Cast CType.Void a true) m r = fine a m r.1
    fine_kind p t (Cast (CType.Int s) a written) m r = fine a m r.2
    fine_kind p t (Call f all) m r = (
      fine_call p t f (find_of f) all (first_none (unmoved_name plans p t f (find_of f) all) (unmoved_among plans all) m) r.0,
      all_fine all (second_none (unmoved_name plans p t f (find_of f) all) (unmoved_among plans all) m) r.1,
    )
    fine_kind p t (SizeOfType u) m r = tt
    fine_kind p t (SizeOfName x) m r = tt
    fine_kind p t k m r = absurd r

    all_fine : (all : Trees) → unmoved_among plans all ≡ None → AreReady w sees all → AllFine w sees all
    all_fine NoTrees m r = tt
    all_fine (More a rest) m r = (fine a (first_none (unmoved_in plans a) (unmoved_among plans rest) m) r.0, all_fine rest (second_none (unmoved_in plans a) (unmoved_among plans rest) m) r.1)

  -- ---- constant form

  mutual
    form_fine : (e : Tree) → unmoved_in plans e ≡ None → (s : IntType) → constant.type_of e ≡ Some s → Fine w sees e
    form_fine (Node p t k) m s h = let i = inside plans p t k m in (i.ty, form_kind p t k i.parts s h)

    form_kind : (p : Place) (t : CType) (k : Kind) → unmoved_part plans p t k ≡ None → (s : IntType) → constant.kind_type k ≡ Some s → FineKind w sees t k
    form_kind p t (Const n) m s h = tt
    form_kind p t (Unary o a) m s h = let r = from_map (constant.type_of a) (unary_type o) s h in form_fine a m r.0 r.1
    form_kind p t (Binary o a b) m s h =
        let r = both (λ i j. Some (binary_type o i j)) (constant.type_of a) (constant.type_of b) s h in
        (form_fine a (first_none (unmoved_in plans a) (unmoved_in plans b) m) r.0 r.2, form_fine b (second_none (unmoved_in plans a) (unmoved_in plans b) m) r.1 r.3)
    form_kind p t (AndThen a b) m s h =
        let r = both (λ i j. Some int.Int) (constant.type_of a) (constant.type_of b) s h in
        (form_fine a (first_none (unmoved_in plans a) (unmoved_in plans b) m) r.0 r.2, form_fine b (second_none (unmoved_in plans a) (unmoved_in plans b) m) r.1 r.3)
    form_kind p t (OrElse a b) m s h =
        let r = both (λ i j. Some int.Int) (constant.type_of a) (constant.type_of b) s h in
        (form_fine a (first_none (unmoved_in plans a) (unmoved_in plans b) m) r.0 r.2, form_fine b (second_none (unmoved_in plans a) (unmoved_in plans b) m) r.1 r.3)
    form_kind p t (Choice c a b) m s h =
        let r = both (λ i j. Some j) (constant.type_of c) (typed_both common_of (constant.type_of a) (constant.type_of b)) s h in
        let q = both (λ i j. Some (common_of i j)) (constant.type_of a) (constant.type_of b) r.1 r.3 in
        let arms = or_else (unmoved_in plans a) (unmoved_in plans b) in
        let n = second_none (unmoved_in plans c) arms m in (
          form_fine c (first_none (unmoved_in plans c) arms m) r.0 r.2,
          form_fine a (first_none (unmoved_in plans a) (unmoved_in plans b) n) q.0 q.2,
          form_fine b (second_none (unmoved_in plans a) (unmoved_in plans b) n) q.1 q.3,
        )
    form_kind p t (Cast (CType.Int u) a written) m s h = let r = from_map (constant.type_of a) (λ x. u) s h in form_fine a m r.0 r.1
    form_kind p t (SizeOfType u) m s h = tt
    form_kind p t k m s h = absurd (cc)

  -- what has a value is of constant form
  abbrev HasForm : Tree → Type 0
  HasForm e = (s : IntType) × (constant.type_of e ≡ Some s)

  two_types : (f : IntType → IntType → IntType) (a b : Tree) → HasForm a → HasForm b → (s : IntType) × (typed_both f (constant.type_of a) (constant.type_of b) ≡ Some s)
  two_types f a b h g = (f h.0 g.0, both_typed f (constant.type_of a) (constant.type_of b) h.0 g.0 h.1 g.1)

  second_form : (b : Bool) (e : Tree) (n : Num) (f : Num → Num) (x : Num) → ((m : Num) → value_of e ≡ Some m → HasForm e)
      → (if b then option_map f (value_of e) else option_map (λ (s : IntType). x) (constant.type_of e)) ≡ Some n → HasForm e
  second_form true e n f x h g = let r = from_map (value_of e) f n g in h r.0 r.1
  second_form false e n f x h g = from_map (constant.type_of e) (λ s. x) n g

  mutual
    has_form : (e : Tree) (n : Num) → value_of e ≡ Some n → HasForm e
    has_form (Node p t k) n h = kind_form k n h

    kind_form : (k : Kind) (n : Num) → constant.kind_value k ≡ Some n → (s : IntType) × (constant.kind_type k ≡ Some s)
    kind_form (Const m) n h = (m.ty, refl)
    kind_form (Unary o a) n h =
        let r = bound (value_of a) (unary_of o) n h in
        let f = has_form a r.0 r.1 in
        (unary_type o f.0, rw f.1 refl)
    kind_form (Binary o a b) n h =
        let r = both (binary_of o) (value_of a) (value_of b) n h in
        two_types (binary_type o) a b (has_form a r.0 r.2) (has_form b r.1 r.3)
    kind_form (AndThen a b) n h =
        let r = bound (value_of a) (λ x. if is_true x then option_map (λ y. truth (is_true y)) (value_of b) else option_map (λ s. truth false) (constant.type_of b)) n h in
        two_types (λ s t. int.Int) a b (has_form a r.0 r.1) (second_form (is_true r.0) b n (λ y. truth (is_true y)) (truth false) (λ m e. has_form b m e) r.2)
    kind_form (OrElse a b) n h =
        let r = bound (value_of a) (λ x. if is_true x then option_map (λ s. truth true) (constant.type_of b) else option_map (λ y. truth (is_true y)) (value_of b)) n h in
        two_types (λ s t. int.Int) a b (has_form a r.0 r.1) (other_form (is_true r.0) b n (λ m e. has_form b m e) r.2)
      where
        other_form : (v : Bool) (e : Tree) (m : Num) → ((i : Num) → value_of e ≡ Some i → HasForm e)
            → (if v then option_map (λ (s : IntType). truth true) (constant.type_of e) else option_map (λ y. truth (is_true y)) (value_of e)) ≡ Some m → HasForm e
        other_form true e m f g = from_map (constant.type_of e) (λ s. truth true) m g
        other_form false e m f g = let r = from_map (value_of e) (λ y. truth (is_true y)) m g in f r.0 r.1
    kind_form (Choice c a b) n h =
        let ty = typed_both common_of (constant.type_of a) (constant.type_of b) in
        let r = bound (value_of c) (λ x. option_and_then (λ u. option_map (converted u) (if is_true x then value_of a else value_of b)) ty) n h in
        let q = bound ty (λ u. option_map (converted u) (if is_true r.0 then value_of a else value_of b)) n r.2 in
        let f = has_form c r.0 r.1 in
        (q.0, both_typed (λ s t. t) (constant.type_of c) ty f.0 q.0 f.1 q.1)
    kind_form (Cast (CType.Int u) a written) n h = let r = from_map (value_of a) (converted u) n h in let f = has_form a r.0 r.1 in (u, rw f.1 refl)
    kind_form (SizeOfType u) n h = (int.ULong, refl)
    kind_form k n h = absurd (cc)

  pub constant_fine : (e : Tree) (n : Num) → unmoved_in plans e ≡ None → value_of e ≡ Some n → Fine w sees e
  constant_fine e n m h = let f = has_form e n h in form_fine e m f.0 f.1
