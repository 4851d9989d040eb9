-- The law of statements: what is written for the statements of a source does the same.
use Rattle.std.proofs.Common.{◌≡◌, arith, ℕ, List, [], ◌∷◌, Bool, true, false, ◌||◌, Option, Some, None, refl, sym, ap, subst, if◌then◌else◌}
use Rattle.std.specs.Prelude.{option_map, is_some, pos}
use Rattle.std.proofs.lemmas.Int.{ints}
use Rattle.std.specs.Str.{bytes_eq}
use Rattle.std.proofs.lemmas.Slice.Eq.{bytes_eq-Decides}
use Rattle.lane_core.specs.declared.number.IntType.TheVariants as int
use Rattle.lane_core.specs.declared.number.Num.{Num}
use Rattle.c_text.specs.declared.tokens.Place.{Place}
use Rattle.c_tree.specs.declared.types.CType.{CType}
use Rattle.c_tree.specs.Tree.{Tree, Node, Const, Object, Statement, Block, If, Return, Absent, NoStatements, Then}
use Rattle.address_taken.specs.Addressed.{takes_declared}
use Rattle.c_memory.specs.declared.value.Value.{Value}
use Rattle.c_memory.specs.Braces.{with_braces}
use Rattle.c_memory.specs.Matching.{written_type}
use Rattle.c_memory.specs.MeaningState.{Binding, State, Does, scoped}
use Rattle.c_memory.specs.Meaning.{Calls, expression, its_value, condition, type_of, Later, declare_one, declare, Flow, optional_condition, optional_value, act, no_more}
use Rattle.simulation.specs.Alike.{Given, Flows, Objects, Sim}
use Rattle.simulation.specs.Carried.{Carried, Shared, Marks, Unmarked, Scope, Within, inner, carried}
use Rattle.simulation.specs.MemoryLaw.{TurnsLaw}
use Rattle.simulation.specs.Steps.{pure_sim}
use Rattle.simulation.specs.ScopeLaws.{within_more}
use Rattle.simulation.specs.DeclareLaws.{in_block, unset_apart_sim, set_apart_first_sim}
use Rattle.simulation.specs.ExpressionLaws.{valued_sim}
use Rattle.simulation.specs.StatementLaws.{declared_none_sim, declared_sim, return_none_sim, return_sim}
use Rattle.written_forms.specs.TypedValues.{TypedValues}
use Rattle.written_forms.specs.Seen.{Local, local, Sees, with_local, beginning, declared}
use Rattle.written_forms.specs.Moved as moved
use Rattle.written_forms.specs.Statements.{moved_object, moved_objects, sees_objects, braced, braced_else}
use Rattle.written_forms.specs.Ready.{Setting, IsInt, Ready, assigns}
use Rattle.written_forms.specs.ReadyStatements.{ReadyObject, ReadyObjects, ReadyFirst, ReadyCondition, ReadyStep, ReadyResult}
use Rattle.written_forms.proofs.Agreeing.{way_when, Agrees, SetsNone}
use Rattle.written_forms.proofs.Calling.{CallsAgree}
use Rattle.written_forms.proofs.Forms.{plain, plain_written, condition_sim}
use Rattle.written_forms.proofs.Placing.{PlaceLaw}
use Rattle.written_forms.proofs.Expressions.{moved_sim}
use Rattle.written_forms.proofs.Addresses.{AddressLaw, or_false, first_taken, first_written, declared_taken, declared_written}

-- braces round a body change nothing
abbrev pub BraceLaw : Type 0
BraceLaw = (s : Statement) (later : Later) (c : Calls) → act (with_braces s) later c ≡ act s later c

-- ---- objects in scope

-- what is in scope behind a declarator, and behind several
abbrev pub scope_with : List ℕ → CType → Bool → List Carried → List Carried
scope_with x t steady scope = Shared (way_when steady) x t (written_type t) ∷ scope

abbrev pub scope_behind : List Object → List Carried → List Carried
scope_behind [] scope = scope
scope_behind (d ∷ rest) scope = scope_behind rest (scope_with d.name d.ty (is_some d.init) scope)

abbrev pub marks_behind : List Object → Marks → Marks
marks_behind [] ks = ks
marks_behind (d ∷ rest) ks = marks_behind rest (inner Unmarked ks)

pub agrees_with : (sees : Sees) (scope : List Carried) (ks : Marks) (x : List ℕ) (t : CType) (steady : Bool) → Agrees sees scope ks []
    → Agrees (with_local x (local t steady) sees) (scope_with x t steady scope) (inner Unmarked ks) []
agrees_with sees scope ks x t steady ag = record {
  objects = λ y l e. at y l (bytes_eq y x) refl e;
  values = λ y k e. absurd (cc);
  typed = λ y k l e f. absurd (cc);
}
  where
    at : (y : List ℕ) (l : Local) (b : Bool) → bytes_eq y x ≡ b → (if b then Some (local t steady) else sees y) ≡ Some l
        → (if b then Some (Shared (way_when steady) x t (written_type t)) else carried y scope) ≡ Some (Shared (way_when l.steady) y l.ty (written_type l.ty))
    at y l true e f =
        let same : y ≡ x = (bytes_eq-Decides y x).0 e in
        let one : local t steady ≡ l = cc in
        subst (λ z. Some (Shared (way_when steady) x t (written_type t)) ≡ Some (Shared (way_when l.steady) z l.ty (written_type l.ty))) (sym same)
        (ap (λ (z : Local). Some (Shared (way_when z.steady) x z.ty (written_type z.ty))) one)
    at y l false e f = ag.objects y l f

pub within_behind : (all : List Object) (scope : List Carried) (ks : Marks) (bs cs : List Binding) → Within TypedValues (scope_behind all scope) (marks_behind all ks) bs cs
    → Within TypedValues scope ks bs cs
within_behind [] scope ks bs cs h = h
within_behind (d ∷ rest) scope ks bs cs h =
    within_more TypedValues (Shared (way_when (is_some d.init)) d.name d.ty (written_type d.ty)) scope Unmarked ks bs cs
    (within_behind rest (scope_with d.name d.ty (is_some d.init) scope) (inner Unmarked ks) bs cs h)

pub agrees_behind : (all : List Object) (sees : Sees) (scope : List Carried) (ks : Marks) → Agrees sees scope ks [] → Agrees (sees_objects all sees) (scope_behind all scope) (marks_behind all ks) []
agrees_behind [] sees scope ks ag = ag
agrees_behind (d ∷ rest) sees scope ks ag =
    agrees_behind rest (declared d sees) (scope_with d.name d.ty (is_some d.init) scope) (inner Unmarked ks) (agrees_with sees scope ks d.name d.ty (is_some d.init) ag)

-- ---- bodies

one : Num
one = record { ty = int.Int; value = pos 1; in_range = (omega (arith, ints), omega (arith, ints)) }

block_same : BraceLaw → (s : Statement) (c : Calls) (t : State) → scoped (act s no_more c) t ≡ scoped (act (Block (Then s NoStatements)) no_more c) t
unfolding one
block_same law s c t =
    let place : Place = record { line = 1; col = 1 } in
    ap (λ (p : Does Flow). p t) (sym (law (If (Node place (CType.Int int.Int) (Const one)) s Absent) no_more c))

pub braced_same : BraceLaw → (s : Statement) (c : Calls) (t : State) → scoped (act s no_more c) t ≡ scoped (act (braced s) no_more c) t
braced_same law (Block all) c t = refl
braced_same law s c t = block_same law s c t

pub other_same : BraceLaw → (s : Statement) (c : Calls) (t : State) → scoped (act s no_more c) t ≡ scoped (act (braced_else s) no_more c) t
other_same law (If e s o) c t = refl
other_same law s c t = braced_same law s c t

-- ---- what is asked

nowhere : Place
nowhere = record { line = 1; col = 1 }

pub record FormLaws : Type 0 where
  pub place : PlaceLaw
  pub address : AddressLaw
  pub brace : BraceLaw
  pub turns : TurnsLaw

nothing_kept : (sets : List ℕ → Bool) → SetsNone [] sets
nothing_kept sets x k e = absurd (cc)

module _ (laws : FormLaws) (n : ℕ) (r : CType) (c d : Calls) (w : Setting) (calls : CallsAgree n w c d) where
  module _ (sees : Sees) (scope : List Carried) (ks : Marks) (ag : Agrees sees scope ks []) where
    abbrev pub here : Objects
    here = Scope TypedValues scope ks

    abbrev pub inside : Objects
    inside = Within TypedValues scope ks

    pub expression_sim : (e : Tree) → Ready w sees e → Sim n (Given TypedValues (type_of e)) here here (expression e c) (expression (moved.moved w.plans sees e) d)
    expression_sim e h = moved_sim laws.place n c d w sees calls scope ks [] ag e h (nothing_kept (λ x. assigns x e))

    pub tested : (e : Tree) → IsInt (type_of e) → Ready w sees e → Sim n ◌≡◌ here here (condition (expression e c)) (condition (expression (moved.moved w.plans sees e) d))
    tested e i h = condition_sim n here c d nowhere nowhere e (moved.moved w.plans sees e) i (expression_sim e h)

    pub maybe_tested : (o : Option Tree) → ReadyCondition w sees o → Sim n ◌≡◌ here here (optional_condition o c) (optional_condition (option_map (moved.moved w.plans sees) o) d)
    maybe_tested None h = pure_sim true true refl
    maybe_tested (Some e) h = tested e h.0 h.1

    abbrev pub StepValues : Option Tree → Option Value → Option Value → Type 0
    StepValues None v w = Unit {0}
    StepValues (Some e) v w = Given TypedValues (type_of e) v w

    pub maybe_stepped : (o : Option Tree) → ReadyStep w sees o → Sim n (StepValues o) here here (optional_value o c) (optional_value (option_map (moved.moved w.plans sees) o) d)
    maybe_stepped None h = pure_sim None None tt
    maybe_stepped (Some e) h = expression_sim e h

    pub returns : (p : Place) (o : Option Tree) (later later' : Later) → ReadyResult w sees r o
        → Sim n (Flows TypedValues r) here here (act (Return p o) later c) (act (Return p (option_map (moved.moved w.plans sees) o)) later' d)
    returns p None later later' h = return_none_sim n TypedValues r c d here p p later later'
    returns p (Some e) later later' h =
        return_sim n TypedValues r c d here here p p e (moved.moved w.plans sees e) later later'
        (subst (λ z. Sim n (TypedValues z) here here (its_value (expression e c)) (its_value (expression (moved.moved w.plans sees e) d))) h.0
        (valued_sim n TypedValues c d here here e (moved.moved w.plans sees e) (expression_sim e h.1)))

  -- ---- objects

  object_sim : (sees : Sees) (scope : List Carried) (ks : Marks) → Agrees sees scope ks [] → (o : Object) → ReadyObject w sees o → (later later' : Later) → later o.name ≡ false
      → later' o.name ≡ false
      → Sim n ◌≡◌ (Scope TypedValues scope ks) (Scope TypedValues (scope_with o.name o.ty (is_some o.init) scope) (inner Unmarked ks)) (declare_one o later c)
      (declare_one (moved_object w.plans sees o) later' d)
  object_sim sees scope ks ag o h later later' l l' = at o.init refl h.init
    where
      first : in_block o later ≡ false
      first = or_false (plain o.ty h.carried) (or_false (first_taken laws.address w (beginning o sees) o.ty o.name o.init h.init) l)

      second : in_block (moved_object w.plans sees o) later' ≡ false
      second = or_false (plain_written o.ty h.carried) (or_false (first_written laws.address w (beginning o sees) o.ty o.name o.init h.init) l')

      at : (i : Option Tree) → o.init ≡ i → ReadyFirst w (beginning o sees) o.ty i
          → Sim n ◌≡◌ (Scope TypedValues scope ks) (Scope TypedValues (scope_with o.name o.ty (is_some o.init) scope) (inner Unmarked ks)) (declare_one o later c)
          (declare_one (moved_object w.plans sees o) later' d)
      at None e f =
          subst (λ z. Sim n ◌≡◌ (Scope TypedValues scope ks) (Scope TypedValues (scope_with o.name o.ty (is_some z) scope) (inner Unmarked ks)) (declare_one o later c)
          (declare_one (moved_object w.plans sees o) later' d)) (sym e)
          (unset_apart_sim n TypedValues scope ks o (moved_object w.plans sees o) refl later later' c d first second e h.list
          (ap (option_map (moved.moved w.plans (beginning o sees))) e) (ap (option_map (moved.moved_all w.plans (beginning o sees))) h.list))
      at (Some a) e f =
          let begun = scope_with o.name o.ty false scope in
          let value = valued_sim n TypedValues c d (Scope TypedValues begun (inner Unmarked ks)) (Scope TypedValues begun (inner Unmarked ks)) a (moved.moved w.plans (beginning o sees) a)
          (expression_sim (beginning o sees) begun (inner Unmarked ks) (agrees_with sees scope ks o.name o.ty false ag) a f.1) in
          subst (λ z. Sim n ◌≡◌ (Scope TypedValues scope ks) (Scope TypedValues (scope_with o.name o.ty (is_some z) scope) (inner Unmarked ks)) (declare_one o later c)
          (declare_one (moved_object w.plans sees o) later' d)) (sym e)
          (set_apart_first_sim n TypedValues scope ks o (moved_object w.plans sees o) refl later later' c d a (moved.moved w.plans (beginning o sees) a) first second e
          (ap (option_map (moved.moved w.plans (beginning o sees))) e)
          (subst (λ z. Sim n (TypedValues z) (Scope TypedValues begun (inner Unmarked ks)) (Scope TypedValues begun (inner Unmarked ks)) (its_value (expression a c))
          (its_value (expression (moved.moved w.plans (beginning o sees) a) d))) f.0 value))

  pub objects_sim : (sees : Sees) (scope : List Carried) (ks : Marks) → Agrees sees scope ks [] → (all : List Object) → ReadyObjects w sees all → (later later' : Later)
      → ((x : List ℕ) → later x ≡ false) → ((x : List ℕ) → later' x ≡ false)
      → Sim n ◌≡◌ (Scope TypedValues scope ks) (Scope TypedValues (scope_behind all scope) (marks_behind all ks)) (declare all later c) (declare (moved_objects w.plans sees all) later' d)
  objects_sim sees scope ks ag [] h later later' l l' = declared_none_sim n TypedValues r c d (Scope TypedValues scope ks) later later'
  objects_sim sees scope ks ag (o ∷ rest) h later later' l l' =
      let scope2 = scope_with o.name o.ty (is_some o.init) scope in
      declared_sim n TypedValues r c d (Scope TypedValues scope ks) (Scope TypedValues scope2 (inner Unmarked ks)) (Scope TypedValues (scope_behind rest scope2) (marks_behind rest (inner Unmarked ks)))
      o (moved_object w.plans sees o) rest (moved_objects w.plans (declared o sees) rest) later later'
      (object_sim sees scope ks ag o h.0 (λ x. takes_declared x rest || later x) (λ x. takes_declared x (moved_objects w.plans (declared o sees) rest) || later' x)
      (or_false (declared_taken laws.address w (declared o sees) o.name rest h.1) (l o.name)) (or_false (declared_written laws.address w (declared o sees) o.name rest h.1) (l' o.name)))
      (objects_sim (declared o sees) scope2 (inner Unmarked ks) (agrees_with sees scope ks o.name o.ty (is_some o.init) ag) rest h.1 later later' l l')
