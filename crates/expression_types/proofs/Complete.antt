-- What is typed by the rules passes the check.
use Rattle.std.proofs.Common.{◌≡◌, ◌∙◌, ◌↔◌, ℕ, ◌<◌, Bool, true, false, if◌then◌else◌, List, Option, Some, None, Ok, option_map, refl, ap}
use Rattle.std.proofs.lemmas.Bool.{lt-ltb}
use Rattle.c_text.specs.declared.tokens.Place.{Place}
use Rattle.lane_core.specs.declared.vector.Pointee.{Pointee}
use Rattle.lane_core.specs.declared.vector.Pointee.TheVariants as target
use Rattle.lane_core.specs.declared.table.ImmRange.{ImmRange}
use Rattle.lane_core.specs.declared.table.ImmRange.TheVariants.{NoImmediate}
use Rattle.c_tree.specs.declared.types.CType.{CType}
use Rattle.c_tree.specs.declared.types.CType.TheVariants.{Void, Int, M128, M256, Neon, Pair, Pointer, Array}
use Rattle.c_tree.specs.Tree as tree
use Rattle.c_tree.specs.Tree.{Tree, Kind, Trees, Node, NoTrees, More}
use Rattle.type_rules.specs.declared.passing.Parameter.{Parameter}
use Rattle.c_tree.specs.Nodes.{node_type}
use Rattle.type_rules.specs.Types.{converted, decayed, read_type, is_void_pointer}
use Rattle.type_rules.specs.Operations.{result_of, name_node}
use Rattle.type_rules.specs.Passing.{passed, immediate_of}
use Rattle.type_rules.specs.Rules.{IsObjectOf, an_integer, a_vector, a_wide_vector, Results, Passed}
use Rattle.scopes.specs.declared.environment.Object.{Object}
use Rattle.scopes.specs.Scopes.{Env, Callee, Row, named, object_named}
use Rattle.c_tree.specs.Marks.{short}
use Rattle.expression_types.specs.Names.{is_unknown_intrinsic, Target}
use Rattle.expression_types.specs.Objects.{designated, may_write, is_writable, pointee_of, addressed}
use Rattle.expression_types.specs.Check.{◌>>=◌, refuse, typed, admitted, called, object_called, function_called, row_called, immediate_fits, call, check, check_all}
use Rattle.expression_types.specs.Typed as t
use Rattle.expression_types.specs.Typed.{Designates, Immediate, IsArray, IsVoidPointer, Typed, TypedAll}

-- what an expression designates
pub designates-holds : (env : Env) (a : Tree) (c : Bool) → Designates env a c → designated a env ≡ Some c
designates-holds env a c (t.variable p u x o e) = ap (option_map (λ (z : Object). z.constant)) e
designates-holds env a c (t.element p u x y e k s m n) = rw (m, n) refl
designates-holds env a c (t.element_by_left p u x y e k s m n) = rw (m, n) refl
designates-holds env a c (t.pointed p u x e k m) = rw m refl
designates-holds env a c (t.half p u x k d h) = designates-holds env x d h

pointee-holds : (e : Pointee) (t : CType) → IsObjectOf e t → pointee_of t ≡ Some e
pointee-holds e t (an_integer s) = refl
pointee-holds e t a_vector = refl
pointee-holds e t a_wide_vector = refl

no-void-pointer : (t : CType) → (IsVoidPointer t → ⊥) → is_void_pointer t ≡ false
no-void-pointer (Pointer target.Void c) h = absurd (h tt)
no-void-pointer (Pointer (target.Int s) c) h = refl
no-void-pointer (Pointer target.M128 c) h = refl
no-void-pointer (Pointer target.M256 c) h = refl
no-void-pointer Void h = refl
no-void-pointer (Int s) h = refl
no-void-pointer M128 h = refl
no-void-pointer M256 h = refl
no-void-pointer (Neon l w) h = refl
no-void-pointer Pair h = refl
no-void-pointer (Array e n c) h = refl

not-decayed : (t : CType) → (IsArray t → ⊥) → t ≡ decayed t
not-decayed (Array e n c) h = absurd (h tt)
not-decayed (Pointer e c) h = refl
not-decayed Void h = refl
not-decayed (Int s) h = refl
not-decayed M128 h = refl
not-decayed M256 h = refl
not-decayed (Neon l w) h = refl
not-decayed Pair h = refl

fits : (p : Place) (d : List ℕ) (o : Option Tree) (v : Tree) → o ≡ Some v → typed p d o ≡ Ok v
fits p d o v h = ap (typed p d) h

written : (m : Option Tree) (a : Tree) (env : Env) (v : Tree) → designated a env ≡ Some false → m ≡ Some v → (if is_writable a env then m else None) ≡ Some v
written m a env v e h = ap (λ d. if may_write d then m else None) e ∙ h

admits : (p : Place) (d : List ℕ) (o : Option Tree) (b : Bool) (v : Tree) → o ≡ Some v → b ≡ false → (typed p d o >>= λ w. admitted b p d w) ≡ Ok v
admits p d o b v h k = rw (h, k) refl

immediate-holds : (range : ImmRange) (a : Option Tree) → Immediate range a → immediate_fits range a ≡ Ok true
immediate-holds range a t.no_immediate = refl
immediate-holds range a (t.immediate b n e h) = rw (e, h) refl

call-holds : (target : Target) (f : List ℕ) (p : Place) (all args : Trees) → passed target.heading.params all ≡ Some args → immediate_fits target.range (immediate_of target.heading.params args) ≡ Ok true →
    target.outside ≡ false → call target f p all ≡ Ok (Node p target.heading.result (tree.Call f args))
call-holds target f p all args h m k = rw (h, m, k) refl

function-called : (f : List ℕ) (p : Place) (env : Env) (c : Callee) → is_unknown_intrinsic f env ≡ false → object_named f env ≡ None → named f env.functions ≡ Some c → c.order < env.here →
    called f p env ≡ Ok (record { heading = c.heading; range = NoImmediate; outside = env.calls_none })
function-called f p env c u n g o =
    ap (λ b. if b then refuse 13 p (short f) else object_called f p env (object_named f env)) u ∙ ap (object_called f p env) n ∙ ap (function_called f p env) g ∙
    ap (λ b. if b then Ok (record { heading = c.heading; range = NoImmediate; outside = env.calls_none }) else refuse 17 p (short f)) (lt-ltb c.order env.here o)

row-called : (f : List ℕ) (p : Place) (env : Env) (r : Row) → is_unknown_intrinsic f env ≡ false → object_named f env ≡ None → named f env.functions ≡ None → env.rows f ≡ Some r →
    called f p env ≡ Ok (record { heading = r.heading; range = r.range; outside = false })
row-called f p env r u n g h =
    ap (λ b. if b then refuse 13 p (short f) else object_called f p env (object_named f env)) u ∙ ap (object_called f p env) n ∙ ap (function_called f p env) g ∙ ap (row_called f p env) h

module _ (results : (p : Place) (k : Kind) (v : Tree) → (result_of p k ≡ Some v) ↔ Results p k v) (stays : (t : CType) (a : Tree) → node_type a ≡ t → converted t a ≡ a)
    (passes : (ts : List Parameter) (all v : Trees) → (passed ts all ≡ Some v) ↔ Passed ts all v) where
  name-stays : (x : List ℕ) (u : CType) (p : Place) → (IsArray u → ⊥) → name_node x u p ≡ Node p u (tree.Name x)
  name-stays x u p n = stays (decayed u) (Node p u (tree.Name x)) (not-decayed u n)

  mutual
    pub complete : (env : Env) (u v : Tree) → Typed env u v → check u env ≡ Ok v
    complete env u v (t.constant p y n) = refl
    complete env u v (t.object p y x o e n) = rw e (ap Ok (name-stays x o.ty p n))
    complete env u v (t.array p y x o e n c h k) = rw (h, k) refl
    complete env u v (t.unary p y o a a' w x r) = rw (complete env a a' x) (fits p _ _ w ((results p (tree.Unary o a') w).1 r))
    complete env u v (t.binary p y o a a' b b' w x z r) = rw (complete env a a' x, complete env b b' z) (fits p _ _ w ((results p (tree.Binary o a' b') w).1 r))
    complete env u v (t.conjunction p y a a' b b' w x z r) = rw (complete env a a' x, complete env b b' z) (fits p _ _ w ((results p (tree.AndThen a' b') w).1 r))
    complete env u v (t.disjunction p y a a' b b' w x z r) = rw (complete env a a' x, complete env b b' z) (fits p _ _ w ((results p (tree.OrElse a' b') w).1 r))
    complete env u v (t.choice p y c c' a a' b b' w s x z r) = rw (complete env c c' s, complete env a a' x, complete env b b' z) (fits p _ _ w ((results p (tree.Choice c' a' b') w).1 r))
    complete env u v (t.sequence p y all all' w x r) = rw (complete_all env all all' x) (fits p _ _ w ((results p (tree.Comma all') w).1 r))
    complete env u v (t.index p y a a' b b' w x z r) = rw (complete env a a' x, complete env b b' z) (fits p _ _ w ((results p (tree.Index a' b') w).1 r))
    complete env u v (t.dereference p y a a' w x r) = rw (complete env a a' x) (fits p _ _ w ((results p (tree.Deref a') w).1 r))
    complete env u v (t.half_of p y a a' w k x r) = rw (complete env a a' x) (fits p _ _ w ((results p (tree.Half a' k) w).1 r))
    complete env u v (t.pair p y a a' b b' w x z r) = rw (complete env a a' x, complete env b b' z) (fits p _ _ w ((results p (tree.PairOf a' b') w).1 r))
    complete env u v (t.step p y a a' w up before x d r) = rw (complete env a a' x) (fits p _ _ w (written _ a' env w (designates-holds env a' false d) ((results p (tree.Step a' up before) w).1 r)))
    complete env u v (t.assign p y o a a' b b' w x z d r) =
        rw (complete env a a' x, complete env b b' z) (fits p _ _ w (written _ a' env w (designates-holds env a' false d) ((results p (tree.Assign o a' b') w).1 r)))
    complete env u v (t.address p y a a' c e x d o) =
        rw (complete env a a' x) (fits p _ _ _ (ap (λ m. addressed p a' m (pointee_of (node_type a'))) (designates-holds env a' c d) ∙ ap (addressed p a' (Some c)) (pointee-holds e (node_type a') o)))
    complete env u v (t.cast p y s a a' w x r n) = rw (complete env a a' x) (admits p _ _ _ w ((results p (tree.Cast (read_type env.dialect s) a' true) w).1 r) (no-void-pointer s n))
    complete env u v (t.through p y s a a' x) = complete env a a' x
    complete env u v (t.size p y s w r n) = admits p _ _ _ w ((results p (tree.SizeOfType (read_type env.dialect s)) w).1 r) (no-void-pointer s n)
    complete env u v (t.size_of_object p y x o n e h) = rw (e, h) refl
    complete env u v (t.call_of_function p y f c all all' args k n g o b x h m) =
        rw (function-called f p env c k n g o, complete_all env all all' x) (call-holds (record { heading = c.heading; range = NoImmediate; outside = env.calls_none }) f p all' args ((passes c.heading.params all' args).1 h) (immediate-holds NoImmediate _ m) b)
    complete env u v (t.call_of_row p y f r all all' args k n g o x h m) =
        rw (row-called f p env r k n g o, complete_all env all all' x) (call-holds (record { heading = r.heading; range = r.range; outside = false }) f p all' args ((passes r.heading.params all' args).1 h) (immediate-holds r.range _ m) refl)

    pub complete_all : (env : Env) (u v : Trees) → TypedAll env u v → check_all u env ≡ Ok v
    complete_all env u v t.none = refl
    complete_all env u v (t.more a a' all all' x y) = rw (complete env a a' x, complete_all env all all' y) refl
