-- The law of expressions: what is written for an expression of a source does the same.
use Rattle.std.proofs.Common.{◌≡◌, ℕ, List, [], ◌∷◌, Bool, true, false, ◌||◌, Option, Some, None, refl, sym, ap, ◌∙◌, subst, if◌then◌else◌}
use Rattle.std.specs.Str.{bytes_eq}
use Rattle.std.proofs.lemmas.Slice.Eq.{bytes_eq-Decides}
use Rattle.lane_core.specs.declared.table.ParamKind.{ParamKind}
use Rattle.lane_core.specs.declared.table.ParamKind.TheVariants as kind
use Rattle.lane_core.specs.Table.{params_of}
use Rattle.c_text.specs.declared.tokens.Place.{Place}
use Rattle.c_tree.specs.declared.types.CType.{CType}
use Rattle.c_tree.specs.Types.{is_array}
use Rattle.c_tree.specs.Tree.{Tree, Kind, Trees, Node, Const, Name, Unary, Step, Binary, AndThen, OrElse, Choice, Assign, Comma, Cast, Call, SizeOfType, SizeOfName, NoTrees, More}
use Rattle.c_memory.specs.declared.value.Value.{Value}
use Rattle.c_memory.specs.Matching.{written_type}
use Rattle.c_memory.specs.Meaning.{Calls, expression, values, last, type_of}
use Rattle.intel_table.specs.declared.IntelOp.{IntelOp}
use Rattle.intel_table.specs.Rows.{find_of, signature_of, range_of}
use Rattle.seq_core.specs.InPlace.{stands_in_place, in_place}
use Rattle.seq_core.specs.Listed.{listed}
use Rattle.simulation.specs.Alike.{Given, Arguments, Objects, Sim}
use Rattle.simulation.specs.Carried.{Shared, Carried, Marks, Scope, carried}
use Rattle.simulation.specs.HeldLaws.{held_reads}
use Rattle.simulation.specs.ExpressionLaws.{call_expression_sim, last_none_sim, last_more_sim}
use Rattle.written_forms.specs.TypedValues.{TypedValues}
use Rattle.written_forms.proofs.TypedLaws.{typed_constant}
use Rattle.written_forms.specs.Seen.{Local, Sees}
use Rattle.written_forms.specs.Moved as moved
use Rattle.written_forms.specs.Moved.{Plans, operands, immediate_among, helper_name, are_plain, is_steady, is_steady_local, steady, simple, all_true, moved_kind, moved_all, all_stated, row_written, called, size_of_local}
use Rattle.written_forms.specs.Ready.{Setting, IsSeen, IsCarried, assigns, any_assigns, AllStayAmong, StayUnless, EndsIn, CallsRow, IsCall, Ready, ReadyKind, AreReady}
use Rattle.written_forms.proofs.Agreeing.{Keeping, kept, way_of, Agrees, SetsNone}
use Rattle.written_forms.proofs.Calling.{CallsAgree}
use Rattle.written_forms.proofs.Forms.{may_set, variable_sim, set_sim, set_by_sim, stepped_sim, number_sim, before_sim, between_sim, both_sim, either_sim, chosen_sim, nothing_sim, int_of, plain, plain_written}
use Rattle.written_forms.proofs.Sizes.{size_sim, size_of_name_sim, cast_sim}
use Rattle.written_forms.proofs.Arguments.{AllAlike, all_sim, helper_sim}
use Rattle.written_forms.proofs.Running.{Known, Operand, Operands}
use Rattle.written_forms.proofs.Holding.{IsKept, KeepsIt, KeepAll, NoneSets, keep_all}
use Rattle.written_forms.proofs.Placing.{PlaceLaw, operands_moved, mixed_sim, plain_sim}

-- ---- truth values

first_false : (a b : Bool) → (a || b) ≡ false → a ≡ false
first_false true b h = h
first_false false b h = refl

second_false : (a b : Bool) → (a || b) ≡ false → b ≡ false
second_false true b h = absurd (cc)
second_false false b h = h

pub of_first : (keeps : List Keeping) (f g : List ℕ → Bool) → SetsNone keeps (λ x. f x || g x) → SetsNone keeps f
of_first keeps f g h x k e = first_false (f x) (g x) (h x k e)

pub of_second : (keeps : List Keeping) (f g : List ℕ → Bool) → SetsNone keeps (λ x. f x || g x) → SetsNone keeps g
of_second keeps f g h x k e = second_false (f x) (g x) (h x k e)

-- ---- operands of a row

pub ready_operands : (w : Setting) (sees : Sees) (ks : List ParamKind) (all : Trees) → AreReady w sees all → AreReady w sees (operands ks all)
ready_operands w sees [] all h = tt
ready_operands w sees (kind.Immediate ∷ ks) NoTrees h = tt
ready_operands w sees (kind.Immediate ∷ ks) (More a rest) h = ready_operands w sees ks rest h.1
ready_operands w sees (k ∷ ks) NoTrees h = tt
ready_operands w sees (k ∷ ks) (More a rest) h = (h.0, ready_operands w sees ks rest h.1)

-- what no argument sets, no operand sets
operands_false : (x : List ℕ) (ks : List ParamKind) (all : Trees) → any_assigns x all ≡ false → any_assigns x (operands ks all) ≡ false
operands_false x [] NoTrees h = refl
operands_false x [] (More a rest) h = refl
operands_false x (kind.Immediate ∷ ks) NoTrees h = refl
operands_false x (kind.Immediate ∷ ks) (More a rest) h = operands_false x ks rest (second_false (assigns x a) (any_assigns x rest) h)
operands_false x (k ∷ ks) NoTrees h = refl
operands_false x (k ∷ ks) (More a rest) h =
    rw (first_false (assigns x a) (any_assigns x rest) h) (operands_false x ks rest (second_false (assigns x a) (any_assigns x rest) h))

pub operands_none : (keeps : List Keeping) (ks : List ParamKind) (all : Trees) → SetsNone keeps (λ x. any_assigns x all) → SetsNone keeps (λ x. any_assigns x (operands ks all))
operands_none keeps ks all h x k e = operands_false x ks all (h x k e)

-- variables among operands that none of them sets
none_sets : (all rest : Trees) → AllStayAmong all rest → NoneSets (λ x. any_assigns x all) rest
none_sets all NoTrees h = tt
none_sets all (More (Node p t (Name x)) rest) h = (h.0, none_sets all rest h.1)
none_sets all (More (Node p t _) rest) h = none_sets all rest h.1

module _ (n : ℕ) (c d : Calls) (w : Setting) (sees : Sees) (scope : List Carried) (ks : Marks) (keeps : List Keeping) (ag : Agrees sees scope ks keeps) where
  abbrev here : Objects
  here = Scope TypedValues scope ks

  kept_known : (p : Place) (t : CType) (x : List ℕ) (l : Local) (k : Keeping) → sees x ≡ Some l → l.ty ≡ t → IsCarried t → kept x keeps ≡ Some k
      → Known n here c d t (Node p t (Name x)) (Node p (written_type t) (Name x))
  kept_known p t x l k e f g h =
      let object = subst (λ o. carried x scope ≡ Some (Shared (way_of o l) x l.ty (written_type l.ty))) h (ag.objects x l e) in
      let flat = ap is_array f ∙ plain t g in
      let other = ap (λ z. is_array (written_type z)) f ∙ plain_written t g in
      record {
        v = k.v;
        w = k.w;
        values = subst (λ z. TypedValues z k.v k.w) f (ag.typed x k l h e);
        first = λ y z al. (held_reads n TypedValues scope ks x x l.ty (written_type l.ty) k.v k.w y z object (ag.values x k h) flat other al).first p t c;
        second = λ y z al. (held_reads n TypedValues scope ks x x l.ty (written_type l.ty) k.v k.w y z object (ag.values x k h) flat other al).second p (written_type t) d;
      }

  name_known : (p : Place) (t : CType) (x : List ℕ) (o : Option Local) → sees x ≡ o → IsSeen sees x t → IsCarried t → IsKept keeps o x
      → Sim n (Given TypedValues t) here here (expression (Node p t (Name x)) c) (expression (Node p (written_type t) (Name x)) d)
      → Operand n here c d (is_steady_local o) t (Node p t (Name x)) (Node p (written_type t) (Name x))
  name_known p t x None e h g k s = s
  name_known p t x (Some l) e h g k s = at l.steady k
    where
      same : l.ty ≡ t
      same = ap (λ (z : Local). z.ty) (let one : Some l ≡ Some h.0 = sym e ∙ h.1 in let two : l ≡ h.0 = cc in two) ∙ h.2

      at : (b : Bool) → (b ≡ true → (k : Keeping) × (kept x keeps ≡ Some k)) → Operand n here c d b t (Node p t (Name x)) (Node p (written_type t) (Name x))
      at true f = kept_known p t x l (f refl).0 e same g (f refl).1
      at false f = s

  one_known : (a : Tree) → Ready w sees a → KeepsIt sees keeps a → Sim n (Given TypedValues (type_of a)) here here (expression a c) (expression (moved.moved w.plans sees a) d)
      → Operand n here c d (is_steady sees a) (type_of a) a (moved.moved w.plans sees a)
  one_known (Node p t (Name x)) h k s = name_known p t x (sees x) refl h.0 h.1 k s
  one_known (Node p t (Const m)) h k s = record {
    v = Value.Int m;
    w = Value.Int (moved.number m);
    values = subst (λ z. TypedValues z (Value.Int m) (Value.Int (moved.number m))) (sym h) (typed_constant m);
    first = λ y z al. refl;
    second = λ y z al. refl;
  }
  one_known (Node p t _) h k s = s

  pub all_known : (all : Trees) → AreReady w sees all → KeepAll sees keeps all → AllAlike n here c d w.plans sees all → Operands n here c d (steady sees all) all (moved_all w.plans sees all)
  all_known NoTrees h k s = tt
  all_known (More a rest) h k s = (one_known a h.0 k.0 s.0, all_known rest h.1 k.1 s.1)

-- ---- rows

module _ (law : PlaceLaw) (n : ℕ) (c d : Calls) (w : Setting) (sees : Sees) (calls : CallsAgree n w c d) where
  -- operands of a row are alike while these objects keep their values
  abbrev pub OperandsMove : Trees → Type 0
  OperandsMove ops = (scope : List Carried) (ks : Marks) (keeps : List Keeping) → Agrees sees scope ks keeps → SetsNone keeps (λ x. any_assigns x ops)
      → AllAlike n (Scope TypedValues scope ks) c d w.plans sees ops

  module _ (scope : List Carried) (ks : Marks) (keeps : List Keeping) (ag : Agrees sees scope ks keeps) (p : Place) (t : CType) (f : List ℕ) (op : IntelOp) (all : Trees)
      (found : find_of f ≡ Some op) (is : CallsRow w sees t f op all) (ready : AreReady w sees all) where
    abbrev E : Objects
    E = Scope TypedValues scope ks

    abbrev kinds : List ParamKind
    kinds = params_of (signature_of op)

    abbrev ops : Trees
    ops = operands kinds all

    abbrev Placed : Type 0
    Placed = Sim n (Given TypedValues t) E E (expression (Node p t (Call f all)) c) (expression (in_place p (listed (all_stated (moved_all w.plans sees ops))) is.plan.result) d)

    placed : SetsNone keeps (λ x. any_assigns x ops) → OperandsMove ops → (v : Bool) → are_plain ops ≡ v → StayUnless v ops
        → stands_in_place (if v then all_true ops else steady sees ops) is.plan ≡ true → Placed
    placed none move true h stay st = plain_sim law n E c d w sees calls t f op all found is ready p p h st (move scope ks keeps ag none)
    placed none move false h stay st =
        keep_all n (Given TypedValues t) (expression (Node p t (Call f all)) c) (expression (in_place p (listed (all_stated (moved_all w.plans sees ops))) is.plan.result) d) sees (λ x. any_assigns x ops)
        ops scope ks keeps ag none (none_sets ops ops stay) (λ scope2 ks2 more ag2 none2 grow kept_all.
        mixed_sim law n (Scope TypedValues scope2 ks2) c d w sees calls t f op all found is ready p p (steady sees ops) st
        (all_known n c d w sees scope2 ks2 more ag2 ops (ready_operands w sees kinds all ready) kept_all (move scope2 ks2 more ag2 none2)))

    pub row_sim : SetsNone keeps (λ x. any_assigns x ops) → OperandsMove ops → AllAlike n E c d w.plans sees all
        → Sim n (Given TypedValues t) E E (expression (Node p t (Call f all)) c)
        (expression (called w.plans sees p (written_type t) f (Some op) all (moved_all w.plans sees all)) d)
    row_sim none move alike =
        rw (is.is, operands_moved w.plans sees kinds all) (at (stands_in_place (simple sees ops) is.plan) refl)
      where
        at : (v : Bool) → stands_in_place (simple sees ops) is.plan ≡ v
            → Sim n (Given TypedValues t) E E (expression (Node p t (Call f all)) c)
            (expression (if v then in_place p (listed (all_stated (moved_all w.plans sees ops))) is.plan.result
            else Node p (written_type t) (Call (helper_name f (range_of op) (immediate_among kinds all)) (moved_all w.plans sees ops))) d)
        at true e = placed none move (are_plain ops) refl is.undisturbed e
        at false e =
            subst (λ z. Sim n (Given TypedValues t) E E (expression (Node p t (Call f all)) c)
            (expression (Node p (written_type t) (Call (helper_name f (range_of op) (immediate_among kinds all)) z)) d)) (operands_moved w.plans sees kinds all)
            (helper_sim n E c d w sees calls t f op all found is ready alike (is.helped e) p p (written_type t))

  call_sim : (scope : List Carried) (ks : Marks) (keeps : List Keeping) → Agrees sees scope ks keeps → (p : Place) (t : CType) (f : List ℕ) (all : Trees) (o : Option IntelOp)
      → find_of f ≡ o → IsCall w sees t f o all → AreReady w sees all → SetsNone keeps (λ x. any_assigns x all) → AllAlike n (Scope TypedValues scope ks) c d w.plans sees all
      → ((kinds : List ParamKind) → OperandsMove (operands kinds all))
      → Sim n (Given TypedValues t) (Scope TypedValues scope ks) (Scope TypedValues scope ks) (expression (Node p t (Call f all)) c)
      (expression (called w.plans sees p (written_type t) f o all (moved_all w.plans sees all)) d)
  call_sim scope ks keeps ag p t f all None e is h none alike move =
      let args = all_sim n (Scope TypedValues scope ks) c d w sees all alike in
      subst (λ z. Sim n (Given TypedValues z) (Scope TypedValues scope ks) (Scope TypedValues scope ks) (expression (Node p t (Call f all)) c)
      (expression (Node p (written_type t) (Call f (moved_all w.plans sees all))) d)) (sym is.result)
      (call_expression_sim n TypedValues c d (Scope TypedValues scope ks) (Scope TypedValues scope ks) p p f f is.head.params is.head.result t (written_type t) all (moved_all w.plans sees all)
      (calls.functions f is.head is.is)
      (subst (λ ts. Sim n (Arguments TypedValues ts) (Scope TypedValues scope ks) (Scope TypedValues scope ks) (values all c) (values (moved_all w.plans sees all) d)) is.types args))
  call_sim scope ks keeps ag p t f all (Some op) e is h none alike move =
      row_sim scope ks keeps ag p t f op all e is h (operands_none keeps (params_of (signature_of op)) all none) (move (params_of (signature_of op))) alike

  -- ---- expressions

  mutual
    pub moved_sim : (scope : List Carried) (ks : Marks) (keeps : List Keeping) → Agrees sees scope ks keeps → (e : Tree) → Ready w sees e → SetsNone keeps (λ x. assigns x e)
        → Sim n (Given TypedValues (type_of e)) (Scope TypedValues scope ks) (Scope TypedValues scope ks) (expression e c) (expression (moved.moved w.plans sees e) d)
    moved_sim scope ks keeps ag (Node p t k) h none = kind_sim scope ks keeps ag p t k h none

    pub kind_sim : (scope : List Carried) (ks : Marks) (keeps : List Keeping) → Agrees sees scope ks keeps → (p : Place) (t : CType) (k : Kind) → ReadyKind w sees t k
        → SetsNone keeps (λ x. assigns x (Node p t k))
        → Sim n (Given TypedValues t) (Scope TypedValues scope ks) (Scope TypedValues scope ks) (expression (Node p t k) c) (expression (moved_kind w.plans sees p (written_type t) k) d)
    kind_sim scope ks keeps ag p t (Const m) h none = number_sim n (Scope TypedValues scope ks) c d p p t (written_type t) m h
    kind_sim scope ks keeps ag p t (Name x) h none = variable_sim sees scope ks keeps ag n p p t (written_type t) t c d x h.0 h.1
    kind_sim scope ks keeps ag p t (Unary o a) h none =
        before_sim n (Scope TypedValues scope ks) c d p p t (written_type t) o a (moved.moved w.plans sees a) h.0 (moved_sim scope ks keeps ag a h.1 none)
    kind_sim scope ks keeps ag p t (Step (Node q u (Name x)) up before) h none =
        let s = int_of t h.0 in
        let m = may_set sees scope ks keeps ag (λ y. bytes_eq y x) none x t ((bytes_eq-Decides x x).1 refl) h.1.0 in
        stepped_sim sees scope ks keeps ag n c d p p q q t u (written_type u) x m s.s up before s.is
    kind_sim scope ks keeps ag p t (Step (Node q u _) up before) h none = absurd h.1
    kind_sim scope ks keeps ag p t (Binary o a b) h none =
        between_sim n (Scope TypedValues scope ks) c d p p t (written_type t) o a b (moved.moved w.plans sees a) (moved.moved w.plans sees b) h.0
        (moved_sim scope ks keeps ag a h.1 (of_first keeps (λ x. assigns x a) (λ x. assigns x b) none))
        (moved_sim scope ks keeps ag b h.2 (of_second keeps (λ x. assigns x a) (λ x. assigns x b) none))
    kind_sim scope ks keeps ag p t (AndThen a b) h none =
        both_sim n (Scope TypedValues scope ks) c d p p t (written_type t) a b (moved.moved w.plans sees a) (moved.moved w.plans sees b) h.0 h.1 h.2
        (moved_sim scope ks keeps ag a h.3 (of_first keeps (λ x. assigns x a) (λ x. assigns x b) none))
        (moved_sim scope ks keeps ag b h.4 (of_second keeps (λ x. assigns x a) (λ x. assigns x b) none))
    kind_sim scope ks keeps ag p t (OrElse a b) h none =
        either_sim n (Scope TypedValues scope ks) c d p p t (written_type t) a b (moved.moved w.plans sees a) (moved.moved w.plans sees b) h.0 h.1 h.2
        (moved_sim scope ks keeps ag a h.3 (of_first keeps (λ x. assigns x a) (λ x. assigns x b) none))
        (moved_sim scope ks keeps ag b h.4 (of_second keeps (λ x. assigns x a) (λ x. assigns x b) none))
    kind_sim scope ks keeps ag p t (Choice e a b) h none =
        let rest = of_second keeps (λ x. assigns x e) (λ x. assigns x a || assigns x b) none in
        chosen_sim n (Scope TypedValues scope ks) c d p p t (written_type t) e a b (moved.moved w.plans sees e) (moved.moved w.plans sees a) (moved.moved w.plans sees b) h.0 h.2 h.3
        (moved_sim scope ks keeps ag e h.4 (of_first keeps (λ x. assigns x e) (λ x. assigns x a || assigns x b) none))
        (moved_sim scope ks keeps ag a h.5 (of_first keeps (λ x. assigns x a) (λ x. assigns x b) rest))
        (moved_sim scope ks keeps ag b h.6 (of_second keeps (λ x. assigns x a) (λ x. assigns x b) rest))
    kind_sim scope ks keeps ag p t (Assign None (Node q u (Name x)) b) h none =
        let m = may_set sees scope ks keeps ag (λ y. bytes_eq y x) (of_first keeps (λ y. bytes_eq y x) (λ y. assigns y b) none) x t ((bytes_eq-Decides x x).1 refl) h.0.0 in
        set_sim sees scope ks keeps ag n c d p p q q t u (written_type u) x m b (moved.moved w.plans sees b) h.1
        (moved_sim scope ks keeps ag b h.2 (of_second keeps (λ y. bytes_eq y x) (λ y. assigns y b) none))
    kind_sim scope ks keeps ag p t (Assign (Some o) (Node q u (Name x)) b) h none =
        let s = int_of t h.1.0 in
        let z = int_of (type_of b) h.1.1 in
        let m = may_set sees scope ks keeps ag (λ y. bytes_eq y x) (of_first keeps (λ y. bytes_eq y x) (λ y. assigns y b) none) x t ((bytes_eq-Decides x x).1 refl) h.0.0 in
        set_by_sim sees scope ks keeps ag n c d p p q q t u (written_type u) x m s.s z.s o b (moved.moved w.plans sees b) s.is z.is
        (moved_sim scope ks keeps ag b h.2 (of_second keeps (λ y. bytes_eq y x) (λ y. assigns y b) none))
    kind_sim scope ks keeps ag p t (Assign o (Node q u _) b) h none = absurd h.0
    kind_sim scope ks keeps ag p t (Comma all) h none = last_sim scope ks keeps ag t None None all h.0 h.1 none
    kind_sim scope ks keeps ag p t (Cast CType.Void a true) h none =
        nothing_sim n (Scope TypedValues scope ks) c d p p t CType.Void a (moved.moved w.plans sees a) true true h.0 (moved_sim scope ks keeps ag a h.1 none)
    kind_sim scope ks keeps ag p t (Cast (CType.Int s) a z) h none =
        cast_sim n (Scope TypedValues scope ks) c d p p t s a (moved.moved w.plans sees a) z h.0 h.1 (moved_sim scope ks keeps ag a h.2 none)
    kind_sim scope ks keeps ag p t (Call f all) h none =
        call_sim scope ks keeps ag p t f all (find_of f) refl h.0 h.1 none (all_alike scope ks keeps ag all h.1 none)
        (λ kinds scope2 ks2 more ag2 none2. operands_alike scope2 ks2 more ag2 kinds all h.1 none2)
    kind_sim scope ks keeps ag p t (SizeOfType u) h none = size_sim n (Scope TypedValues scope ks) c d p p t u h
    kind_sim scope ks keeps ag p t (SizeOfName x) h none =
        subst (λ o. Sim n (Given TypedValues t) (Scope TypedValues scope ks) (Scope TypedValues scope ks) (expression (Node p t (SizeOfName x)) c)
        (expression (moved.size p (size_of_local o)) d)) (sym h.1.1)
        (size_of_name_sim n sees scope ks keeps ag c d p p t x h.1.0 h.0 h.1.1)
    kind_sim scope ks keeps ag p t _ h none = absurd h

    -- expressions between commas
    last_sim : (scope : List Carried) (ks : Marks) (keeps : List Keeping) → Agrees sees scope ks keeps → (t : CType) (u v : Option Value) (all : Trees) → EndsIn t all → AreReady w sees all
        → SetsNone keeps (λ x. any_assigns x all)
        → Sim n (Given TypedValues t) (Scope TypedValues scope ks) (Scope TypedValues scope ks) (last u all c) (last v (moved_all w.plans sees all) d)
    last_sim scope ks keeps ag t u v NoTrees e h none = absurd e
    last_sim scope ks keeps ag t u v (More a NoTrees) e h none =
        last_more_sim n TypedValues c d (Scope TypedValues scope ks) (Scope TypedValues scope ks) (Scope TypedValues scope ks) u v a (moved.moved w.plans sees a) NoTrees NoTrees
        (subst (λ z. Sim n (Given TypedValues z) (Scope TypedValues scope ks) (Scope TypedValues scope ks) (expression a c) (expression (moved.moved w.plans sees a) d)) e
        (moved_sim scope ks keeps ag a h.0 (of_first keeps (λ x. assigns x a) (λ x. false) none)))
        (λ x y i. last_none_sim n TypedValues c d (Scope TypedValues scope ks) x y i)
    last_sim scope ks keeps ag t u v (More a (More b rest)) e h none =
        last_more_sim n TypedValues c d (Scope TypedValues scope ks) (Scope TypedValues scope ks) (Scope TypedValues scope ks) u v a (moved.moved w.plans sees a) (More b rest)
        (moved_all w.plans sees (More b rest)) (moved_sim scope ks keeps ag a h.0 (of_first keeps (λ x. assigns x a) (λ x. any_assigns x (More b rest)) none))
        (λ x y i. last_sim scope ks keeps ag t x y (More b rest) e h.1 (of_second keeps (λ x. assigns x a) (λ x. any_assigns x (More b rest)) none))

    all_alike : (scope : List Carried) (ks : Marks) (keeps : List Keeping) → Agrees sees scope ks keeps → (all : Trees) → AreReady w sees all → SetsNone keeps (λ x. any_assigns x all)
        → AllAlike n (Scope TypedValues scope ks) c d w.plans sees all
    all_alike scope ks keeps ag NoTrees h none = tt
    all_alike scope ks keeps ag (More a rest) h none = (
      moved_sim scope ks keeps ag a h.0 (of_first keeps (λ x. assigns x a) (λ x. any_assigns x rest) none),
      all_alike scope ks keeps ag rest h.1 (of_second keeps (λ x. assigns x a) (λ x. any_assigns x rest) none),
    )

    operands_alike : (scope : List Carried) (ks : Marks) (keeps : List Keeping) → Agrees sees scope ks keeps → (kinds : List ParamKind) (all : Trees) → AreReady w sees all
        → SetsNone keeps (λ x. any_assigns x (operands kinds all)) → AllAlike n (Scope TypedValues scope ks) c d w.plans sees (operands kinds all)
    operands_alike scope ks keeps ag [] NoTrees h none = tt
    operands_alike scope ks keeps ag [] (More a rest) h none = tt
    operands_alike scope ks keeps ag (kind.Immediate ∷ more_kinds) NoTrees h none = tt
    operands_alike scope ks keeps ag (kind.Immediate ∷ more_kinds) (More a rest) h none = operands_alike scope ks keeps ag more_kinds rest h.1 none
    operands_alike scope ks keeps ag (k ∷ more_kinds) NoTrees h none = tt
    operands_alike scope ks keeps ag (k ∷ more_kinds) (More a rest) h none = (
      moved_sim scope ks keeps ag a h.0 (of_first keeps (λ x. assigns x a) (λ x. any_assigns x (operands more_kinds rest)) none),
      operands_alike scope ks keeps ag more_kinds rest h.1 (of_second keeps (λ x. assigns x a) (λ x. any_assigns x (operands more_kinds rest)) none),
    )
