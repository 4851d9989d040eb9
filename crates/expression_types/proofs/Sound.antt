-- What passes the check is typed by the rules.
use Rattle.std.proofs.Common.{◌≡◌, ◌∙◌, ◌↔◌, ℕ, ◌<◌, Bool, true, false, if◌then◌else◌, nat_lt, is_some, List, Option, Some, None, Ok, Err, option_map, refl, sym, ap, subst, codes}
use Rattle.std.proofs.lemmas.Bool.{ltb-true}
use Rattle.c_text.specs.declared.tokens.Place.{Place}
use Rattle.lane_core.specs.declared.number.IntType.TheVariants as i
use Rattle.lane_core.specs.declared.number.Num.{Num}
use Rattle.lane_core.specs.declared.vector.Pointee.{Pointee}
use Rattle.lane_core.specs.declared.vector.Pointee.TheVariants as target
use Rattle.lane_core.specs.declared.table.ImmRange.{ImmRange}
use Rattle.lane_core.specs.declared.table.ImmRange.TheVariants.{NoImmediate}
use Rattle.const_imm.specs.Constant.{value_of}
use Rattle.const_imm.specs.Sizes.{size_of}
use Rattle.c_tree.specs.declared.types.CType.{CType}
use Rattle.c_tree.specs.declared.types.CType.TheVariants.{Void, Int, M128, M256, Neon, Pair, Pointer, Array}
use Rattle.c_tree.specs.Tree as tree
use Rattle.c_tree.specs.Tree.{Tree, Kind, Trees, Node, NoTrees, More}
use Rattle.type_rules.specs.declared.passing.Parameter.{Parameter}
use Rattle.c_tree.specs.Nodes.{node_type, node_place}
use Rattle.type_rules.specs.Types.{converted, decayed, read_type, is_void_pointer}
use Rattle.type_rules.specs.Operations.{result_of, name_node, step_node, assign_node}
use Rattle.type_rules.specs.Passing.{passed, immediate_of, is_in_range}
use Rattle.type_rules.specs.Rules.{IsObjectOf, an_integer, a_vector, a_wide_vector, Results, Passed}
use Rattle.scopes.specs.declared.environment.Object.{Object}
use Rattle.scopes.specs.Scopes.{Env, Callee, Row, named, object_named}
use Rattle.c_tree.specs.Marks.{short, mark}
use Rattle.expression_types.specs.Names.{is_widening, widening, is_unknown_intrinsic, is_function, Target}
use Rattle.expression_types.specs.Objects.{pointed_const, indexed_const, designated, designated_kind, may_write, is_writable, pointee_of, addressed, address_node}
use Rattle.expression_types.specs.Check.{◌>>=◌, Checked, refuse, typed, admitted, used, used_as, called, object_called, function_called, row_called, fitting, in_range, immediate_fits, call, check, check_kind, check_all}
use Rattle.expression_types.specs.Typed as t
use Rattle.expression_types.specs.Typed.{Designates, Immediate, IsArray, IsVoidPointer, Typed, TypedAll}

-- an answer that comes after another
pub record After {A B : Type 0} (r : Checked A) (f : A → Checked B) (y : B) : Type 0 where
  pub first : A
  pub gives : r ≡ Ok first
  pub goes : f first ≡ Ok y

pub after : {A B : Type 0} (r : Checked A) (f : A → Checked B) (y : B) → (r >>= f) ≡ Ok y → After r f y
after (Ok x) f y e = record { first = x; gives = refl; goes = e }
after (Err r) f y e = cc

abbrev pub ok : {A : Type 0} → A → Checked A
ok x = Ok x

pub becomes : {A : Type 0} (P : A → Type 0) (x v : A) → ok x ≡ ok v → P x → P v
becomes P x v e = let h : x ≡ v = cc in subst P h

pub fit : (p : Place) (d : List ℕ) (o : Option Tree) (v : Tree) → typed p d o ≡ Ok v → o ≡ Some v
fit p d (Some w) v h = let e : w ≡ v = cc in ap Some e
fit p d None v h = cc

tested : {A : Type 0} (b : Bool) (m : Option A) (v : A) → (if b then m else None) ≡ Some v → (b ≡ true) × (m ≡ Some v)
tested true m v h = (refl, h)
tested false m v h = cc

-- what is admitted
admitted-says : (b : Bool) (p : Place) (d : List ℕ) (x v : Tree) → admitted b p d x ≡ Ok v → (b ≡ false) × (x ≡ v)
admitted-says true p d x v h = cc
admitted-says false p d x v h = let e : x ≡ v = cc in (refl, e)

no-void-pointer-says : (t : CType) → is_void_pointer t ≡ false → IsVoidPointer t → ⊥
no-void-pointer-says (Pointer target.Void c) h v = let no : true ≡ false = h in cc
no-void-pointer-says (Pointer (target.Int s) c) h v = v
no-void-pointer-says (Pointer target.M128 c) h v = v
no-void-pointer-says (Pointer target.M256 c) h v = v
no-void-pointer-says Void h v = v
no-void-pointer-says (Int s) h v = v
no-void-pointer-says M128 h v = v
no-void-pointer-says M256 h v = v
no-void-pointer-says (Neon l w) h v = v
no-void-pointer-says Pair h v = v
no-void-pointer-says (Array e n c) h v = v

-- what an expression designates
mapped : (m : Option Object) (c : Bool) → option_map (λ (o : Object). o.constant) m ≡ Some c → (o : Object) × (m ≡ Some o) × (o.constant ≡ c)
mapped (Some o) c h = let e : o.constant ≡ c = cc in (o, refl, e)
mapped None c h = cc

pointed-says : (env : Env) (p : Place) (u : CType) (a : Tree) (c : Bool) (t : CType) → node_type a ≡ t → pointed_const t ≡ Some c → Designates env (Node p u (tree.Deref a)) c
pointed-says env p u a c (Pointer e d) k h = let q : d ≡ c = cc in subst (Designates env (Node p u (tree.Deref a))) q (t.pointed p u a e d k)
pointed-says env p u a c _ k h = cc

indexed-says : (env : Env) (p : Place) (u : CType) (a b : Tree) (c : Bool) (s t : CType) → node_type a ≡ s → node_type b ≡ t → indexed_const s t ≡ Some c → Designates env (Node p u (tree.Index a b)) c
indexed-says env p u a b c (Pointer e d) (Int s) k l h = let q : d ≡ c = cc in subst (Designates env (Node p u (tree.Index a b))) q (t.element p u a b e d s k l)
indexed-says env p u a b c (Int s) (Pointer e d) k l h = let q : d ≡ c = cc in subst (Designates env (Node p u (tree.Index a b))) q (t.element_by_left p u a b e d s k l)
indexed-says env p u a b c _ _ k l h = cc

mutual
  pub designates-says : (env : Env) (a : Tree) (c : Bool) → designated a env ≡ Some c → Designates env a c
  designates-says env (Node p u k) c h = designates-kind env p u k c h

  designates-kind : (env : Env) (p : Place) (u : CType) (k : Kind) (c : Bool) → designated_kind k env ≡ Some c → Designates env (Node p u k) c
  designates-kind env p u (tree.Name x) c h = let q = mapped (object_named x env) c h in subst (Designates env (Node p u (tree.Name x))) q.2 (t.variable p u x q.0 q.1)
  designates-kind env p u (tree.Index a b) c h = indexed-says env p u a b c (node_type a) (node_type b) refl refl h
  designates-kind env p u (tree.Deref a) c h = pointed-says env p u a c (node_type a) refl h
  designates-kind env p u (tree.Half a k) c h = t.half p u a k c (designates-says env a c h)
  designates-kind env p u _ c h = cc

writes : (d : Option Bool) → may_write d ≡ true → d ≡ Some false
writes (Some true) h = cc
writes (Some false) h = refl
writes None h = cc

writable-says : (env : Env) (a : Tree) → is_writable a env ≡ true → Designates env a false
writable-says env a h = designates-says env a false (writes (designated a env) h)

-- the address of what is designated
pointee-says : (t : CType) (e : Pointee) → pointee_of t ≡ Some e → IsObjectOf e t
pointee-says (Int s) e h = let q : target.Int s ≡ e = cc in subst (λ x. IsObjectOf x (Int s)) q (an_integer s)
pointee-says M128 e h = let q : target.M128 ≡ e = cc in subst (λ x. IsObjectOf x M128) q a_vector
pointee-says M256 e h = let q : target.M256 ≡ e = cc in subst (λ x. IsObjectOf x M256) q a_wide_vector
pointee-says _ e h = cc

address-says : (env : Env) (p : Place) (y : CType) (a a' v : Tree) → Typed env a a' → address_node p a' env ≡ Some v → Typed env (Node p y (tree.Address a)) v
address-says env p y a a' v x h = by (designated a' env) (pointee_of (node_type a')) refl refl h
  where
    by : (d : Option Bool) (o : Option Pointee) → designated a' env ≡ d → pointee_of (node_type a') ≡ o → addressed p a' d o ≡ Some v → Typed env (Node p y (tree.Address a)) v
    by (Some c) (Some e) k l h =
        let q : Node p (Pointer e c) (tree.Address a') ≡ v = cc in
        subst (Typed env (Node p y (tree.Address a))) q (t.address p y a a' c e x (designates-says env a' c k) (pointee-says (node_type a') e l))
    by (Some c) None k l h = cc
    by None o k l h = cc

-- objects' names
used-says : (x : List ℕ) (p : Place) (env : Env) (o : Object) → used x p env ≡ Ok o → object_named x env ≡ Some o
used-says x p env o h = by (object_named x env) h
  where
    unknown : (b : Bool) → (if b then refuse {A = Object} 18 p (short x) else refuse 10 p (short x)) ≡ Ok o → ⊥
    unknown true h = cc
    unknown false h = cc

    by : (m : Option Object) → used_as x p env m ≡ Ok o → m ≡ Some o
    by (Some n) h = let e : n ≡ o = cc in ap Some e
    by None h = absurd (unknown (is_function x env) h)

-- immediates
immediate-says : (range : ImmRange) (a : Option Tree) (b : Bool) → immediate_fits range a ≡ Ok b → Immediate range a
immediate-says range None b h = t.no_immediate
immediate-says range (Some a) b h = by (value_of a) refl h
  where
    inside : (n : Num) → (x : Bool) → (if x then ok true else refuse 15 (node_place a) (mark a)) ≡ Ok b → x ≡ true
    inside n true h = refl
    inside n false h = cc

    by : (m : Option Num) → value_of a ≡ m → in_range range a m ≡ Ok b → Immediate range (Some a)
    by (Some n) e h = t.immediate a n e (inside n (is_in_range range n.value) h)
    by None e h = cc

known : {A : Type 0} (m : Option A) → is_some m ≡ true → (x : A) × (m ≡ Some x)
known (Some x) h = (x, refl)
known None h = cc

-- what is called
pub data Callable (f : List ℕ) (env : Env) : Target → Type 0 where
  a_function : (c : Callee) → object_named f env ≡ None → named f env.functions ≡ Some c → c.order < env.here → Callable f env (record { heading = c.heading; range = NoImmediate; outside = env.calls_none })
  a_row : (r : Row) → object_named f env ≡ None → named f env.functions ≡ None → env.rows f ≡ Some r → Callable f env (record { heading = r.heading; range = r.range; outside = false })
  no_row : (target : Target) → target.outside ≡ true → Callable f env target

module _ (f : List ℕ) (p : Place) (env : Env) (v : Target) where
  widening-says : (b : Bool) → (if b then Ok (record { heading = widening; range = NoImmediate; outside = true }) else refuse 10 p (short f)) ≡ Ok v → Callable f env v
  widening-says true h = becomes (Callable f env) (record { heading = widening; range = NoImmediate; outside = true }) v h (no_row _ refl)
  widening-says false h = cc

  row-says : object_named f env ≡ None → named f env.functions ≡ None → (m : Option Row) → env.rows f ≡ m → row_called f p env m ≡ Ok v → Callable f env v
  row-says n g (Some r) e h = becomes (Callable f env) (record { heading = r.heading; range = r.range; outside = false }) v h (a_row r n g e)
  row-says n g None e h = widening-says (is_widening env.dialect f) h

  before-says : (c : Callee) → object_named f env ≡ None → named f env.functions ≡ Some c → (b : Bool) → nat_lt c.order env.here ≡ b →
      (if b then Ok (record { heading = c.heading; range = NoImmediate; outside = env.calls_none }) else refuse 17 p (short f)) ≡ Ok v → Callable f env v
  before-says c n g true e h = becomes (Callable f env) (record { heading = c.heading; range = NoImmediate; outside = env.calls_none }) v h (a_function c n g (ltb-true c.order env.here e))
  before-says c n g false e h = cc

  function-says : object_named f env ≡ None → (m : Option Callee) → named f env.functions ≡ m → function_called f p env m ≡ Ok v → Callable f env v
  function-says n (Some c) g h = before-says c n g (nat_lt c.order env.here) refl h
  function-says n None g h = row-says n g (env.rows f) refl h

  object-says : (m : Option Object) → object_named f env ≡ m → object_called f p env m ≡ Ok v → Callable f env v
  object-says (Some o) n h = cc
  object-says None n h = function-says n (named f env.functions) refl h

  called-says : called f p env ≡ Ok v → (is_unknown_intrinsic f env ≡ false) × Callable f env v
  called-says h = by (is_unknown_intrinsic f env) refl h
    where
      by : (b : Bool) → is_unknown_intrinsic f env ≡ b → (if b then refuse 13 p (short f) else object_called f p env (object_named f env)) ≡ Ok v → (b ≡ false) × Callable f env v
      by true e h = cc
      by false e h = (refl, object-says (object_named f env) refl h)

fitting-says : (p : Place) (d : List ℕ) (m : Option Trees) (v : Trees) → fitting p d m ≡ Ok v → m ≡ Some v
fitting-says p d (Some w) v h = let e : w ≡ v = cc in ap Some e
fitting-says p d None v h = cc

-- a call that passed
record Passes (target : Target) (f : List ℕ) (p : Place) (all : Trees) (v : Tree) : Type 0 where
  args : Trees
  pass : passed target.heading.params all ≡ Some args
  inside : target.outside ≡ false
  immediate : Immediate target.range (immediate_of target.heading.params args)
  is : Node p target.heading.result (tree.Call f args) ≡ v

call-says : (target : Target) (f : List ℕ) (p : Place) (all : Trees) (v : Tree) → call target f p all ≡ Ok v → Passes target f p all v
call-says target f p all v h =
    let x = after (fitting p (short f) (passed target.heading.params all)) _ v h in
    let y = after (immediate_fits target.range (immediate_of target.heading.params x.first)) _ v x.goes in
    let z = admitted-says target.outside p (short f) (Node p target.heading.result (tree.Call f x.first)) v y.goes in
    record { args = x.first; pass = fitting-says p (short f) (passed target.heading.params all) x.first x.gives; inside = z.0; immediate = immediate-says target.range _ y.first y.gives; is = z.1 }

module _ (results : (p : Place) (k : Kind) (v : Tree) → (result_of p k ≡ Some v) ↔ Results p k v) (stays : (t : CType) (a : Tree) → node_type a ≡ t → converted t a ≡ a)
    (passes : (ts : List Parameter) (all v : Trees) → (passed ts all ≡ Some v) ↔ Passed ts all v) where
  plain : (env : Env) (p : Place) (y : CType) (x : List ℕ) (o : Object) (v : Tree) → object_named x env ≡ Some o → (u : CType) → o.ty ≡ u → name_node x u p ≡ v → (IsArray u → ⊥) → u ≡ decayed u →
      Typed env (Node p y (tree.Name x)) v
  plain env p y x o v h u k w n d =
      let e : Node p o.ty (tree.Name x) ≡ v = ap (λ z. Node p z (tree.Name x)) k ∙ sym (stays (decayed u) (Node p u (tree.Name x)) d) ∙ w in
      subst (Typed env (Node p y (tree.Name x))) e (t.object p y x o h (subst (λ z. IsArray z → ⊥) (sym k) n))

  name-says : (env : Env) (p : Place) (y : CType) (x : List ℕ) (o : Object) (v : Tree) → object_named x env ≡ Some o → (u : CType) → o.ty ≡ u → name_node x u p ≡ v → Typed env (Node p y (tree.Name x)) v
  name-says env p y x o v h (Array e n c) k w = subst (Typed env (Node p y (tree.Name x))) w (t.array p y x o e n c h k)
  name-says env p y x o v h Void k w = plain env p y x o v h Void k w (λ a. a) refl
  name-says env p y x o v h (Int s) k w = plain env p y x o v h (Int s) k w (λ a. a) refl
  name-says env p y x o v h M128 k w = plain env p y x o v h M128 k w (λ a. a) refl
  name-says env p y x o v h M256 k w = plain env p y x o v h M256 k w (λ a. a) refl
  name-says env p y x o v h (Neon l b) k w = plain env p y x o v h (Neon l b) k w (λ a. a) refl
  name-says env p y x o v h Pair k w = plain env p y x o v h Pair k w (λ a. a) refl
  name-says env p y x o v h (Pointer e c) k w = plain env p y x o v h (Pointer e c) k w (λ a. a) refl

  callable-says : (env : Env) (p : Place) (y : CType) (f : List ℕ) (all all' : Trees) (v : Tree) (target : Target) → is_unknown_intrinsic f env ≡ false → TypedAll env all all' →
      Callable f env target → Passes target f p all' v → Typed env (Node p y (tree.Call f all)) v
  callable-says env p y f all all' v target k x (a_function c n g o) q =
      subst (Typed env (Node p y (tree.Call f all))) q.is (t.call_of_function p y f c all all' q.args k n g o q.inside x ((passes c.heading.params all' q.args).0 q.pass) q.immediate)
  callable-says env p y f all all' v target k x (a_row r n g o) q =
      subst (Typed env (Node p y (tree.Call f all))) q.is (t.call_of_row p y f r all all' q.args k n g o x ((passes r.heading.params all' q.args).0 q.pass) q.immediate)
  callable-says env p y f all all' v target k x (no_row s o) q = let no : true ≡ false = sym o ∙ q.inside in cc

  mutual
    pub sound : (env : Env) (u v : Tree) → check u env ≡ Ok v → Typed env u v
    sound env (Node p y k) v h = sound_kind env p y k v h

    sound_kind : (env : Env) (p : Place) (y : CType) (k : Kind) (v : Tree) → check_kind k p env ≡ Ok v → Typed env (Node p y k) v
    sound_kind env p y (tree.Const n) v h = becomes (Typed env (Node p y (tree.Const n))) _ v h (t.constant p y n)
    sound_kind env p y (tree.Name x) v h =
        let o = after (used x p env) _ v h in
        let e : name_node x o.first.ty p ≡ v = (let q = o.goes in cc) in
        name-says env p y x o.first v (used-says x p env o.first o.gives) o.first.ty refl e
    sound_kind env p y (tree.Unary o a) v h =
        let x = after (check a env) _ v h in
        t.unary p y o a x.first v (sound env a x.first x.gives) ((results p (tree.Unary o x.first) v).0 (fit p _ _ v x.goes))
    sound_kind env p y (tree.Step a up before) v h =
        let x = after (check a env) _ v h in
        let z = tested (is_writable x.first env) (step_node up before p x.first) v (fit p _ _ v x.goes) in
        t.step p y a x.first v up before (sound env a x.first x.gives) (writable-says env x.first z.0) ((results p (tree.Step x.first up before) v).0 z.1)
    sound_kind env p y (tree.Binary o a b) v h =
        let x = after (check a env) _ v h in
        let z = after (check b env) _ v x.goes in
        t.binary p y o a x.first b z.first v (sound env a x.first x.gives) (sound env b z.first z.gives) ((results p (tree.Binary o x.first z.first) v).0 (fit p _ _ v z.goes))
    sound_kind env p y (tree.AndThen a b) v h =
        let x = after (check a env) _ v h in
        let z = after (check b env) _ v x.goes in
        t.conjunction p y a x.first b z.first v (sound env a x.first x.gives) (sound env b z.first z.gives) ((results p (tree.AndThen x.first z.first) v).0 (fit p _ _ v z.goes))
    sound_kind env p y (tree.OrElse a b) v h =
        let x = after (check a env) _ v h in
        let z = after (check b env) _ v x.goes in
        t.disjunction p y a x.first b z.first v (sound env a x.first x.gives) (sound env b z.first z.gives) ((results p (tree.OrElse x.first z.first) v).0 (fit p _ _ v z.goes))
    sound_kind env p y (tree.Choice c a b) v h =
        let w = after (check c env) _ v h in
        let x = after (check a env) _ v w.goes in
        let z = after (check b env) _ v x.goes in
        t.choice p y c w.first a x.first b z.first v (sound env c w.first w.gives) (sound env a x.first x.gives) (sound env b z.first z.gives) ((results p (tree.Choice w.first x.first z.first) v).0 (fit p _ _ v z.goes))
    sound_kind env p y (tree.Assign o a b) v h =
        let x = after (check a env) _ v h in
        let z = after (check b env) _ v x.goes in
        let w = tested (is_writable x.first env) (assign_node o p x.first z.first) v (fit p _ _ v z.goes) in
        t.assign p y o a x.first b z.first v (sound env a x.first x.gives) (sound env b z.first z.gives) (writable-says env x.first w.0) ((results p (tree.Assign o x.first z.first) v).0 w.1)
    sound_kind env p y (tree.Comma all) v h =
        let x = after (check_all all env) _ v h in
        t.sequence p y all x.first v (sound_all env all x.first x.gives) ((results p (tree.Comma x.first) v).0 (fit p _ _ v x.goes))
    sound_kind env p y (tree.Cast s a true) v h =
        let x = after (check a env) _ v h in
        let z = after (typed p (codes "(") _) _ v x.goes in
        let w = admitted-says (is_void_pointer s) p (codes "(") z.first v z.goes in
        let e = fit p (codes "(") _ z.first z.gives ∙ ap Some w.1 in
        t.cast p y s a x.first v (sound env a x.first x.gives) ((results p (tree.Cast (read_type env.dialect s) x.first true) v).0 e) (no-void-pointer-says s w.0)
    sound_kind env p y (tree.Cast s a false) v h = t.through p y s a v (sound env a v h)
    sound_kind env p y (tree.Index a b) v h =
        let x = after (check a env) _ v h in
        let z = after (check b env) _ v x.goes in
        t.index p y a x.first b z.first v (sound env a x.first x.gives) (sound env b z.first z.gives) ((results p (tree.Index x.first z.first) v).0 (fit p _ _ v z.goes))
    sound_kind env p y (tree.Deref a) v h =
        let x = after (check a env) _ v h in
        t.dereference p y a x.first v (sound env a x.first x.gives) ((results p (tree.Deref x.first) v).0 (fit p _ _ v x.goes))
    sound_kind env p y (tree.Address a) v h =
        let x = after (check a env) _ v h in
        address-says env p y a x.first v (sound env a x.first x.gives) (fit p _ _ v x.goes)
    sound_kind env p y (tree.Call f all) v h =
        let c = after (called f p env) _ v h in
        let x = after (check_all all env) _ v c.goes in
        let q = called-says f p env c.first c.gives in
        callable-says env p y f all x.first v c.first q.0 (sound_all env all x.first x.gives) q.1 (call-says c.first f p x.first v x.goes)
    sound_kind env p y (tree.Half a k) v h =
        let x = after (check a env) _ v h in
        t.half_of p y a x.first v k (sound env a x.first x.gives) ((results p (tree.Half x.first k) v).0 (fit p _ _ v x.goes))
    sound_kind env p y (tree.PairOf a b) v h =
        let x = after (check a env) _ v h in
        let z = after (check b env) _ v x.goes in
        t.pair p y a x.first b z.first v (sound env a x.first x.gives) (sound env b z.first z.gives) ((results p (tree.PairOf x.first z.first) v).0 (fit p _ _ v z.goes))
    sound_kind env p y (tree.SizeOfType s) v h =
        let z = after (typed p (codes "sizeof") _) _ v h in
        let w = admitted-says (is_void_pointer s) p (codes "sizeof") z.first v z.goes in
        let e = fit p (codes "sizeof") _ z.first z.gives ∙ ap Some w.1 in
        t.size p y s v ((results p (tree.SizeOfType (read_type env.dialect s)) v).0 e) (no-void-pointer-says s w.0)
    sound_kind env p y (tree.SizeOfName x) v h =
        let o = after (used x p env) _ v h in
        let z = tested (is_some (size_of o.first.ty)) (Some (Node p (Int i.ULong) (tree.SizeOfName x))) v (fit p _ _ v o.goes) in
        let n = known (size_of o.first.ty) z.0 in
        let e : Node p (Int i.ULong) (tree.SizeOfName x) ≡ v = (let q = z.1 in cc) in
        subst (Typed env (Node p y (tree.SizeOfName x))) e (t.size_of_object p y x o.first n.0 (used-says x p env o.first o.gives) n.1)
    sound_kind env p y (tree.Str x) v h = cc

    pub sound_all : (env : Env) (u v : Trees) → check_all u env ≡ Ok v → TypedAll env u v
    sound_all env NoTrees v h = becomes (TypedAll env NoTrees) _ v h t.none
    sound_all env (More a rest) v h =
        let x = after (check a env) _ v h in
        let z = after (check_all rest env) _ v x.goes in
        becomes (TypedAll env (More a rest)) _ v z.goes (t.more a x.first rest z.first (sound env a x.first x.gives) (sound_all env rest z.first z.gives))
