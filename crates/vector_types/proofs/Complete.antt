-- What the rules type passes the check.
use Rattle.std.proofs.Common.{◌≡◌, ◌↔◌, ℕ, ◌<◌, Bool, true, false, not, ◌||◌, if◌then◌else◌, is_some, nat_lt, List, [], ◌∷◌, Option, Some, None, Ok, refl, sym, ap, subst}
use Rattle.std.proofs.lemmas.Bool.{ltb-true}
use Rattle.c_text.specs.declared.tokens.Place.{Place}
use Rattle.c_text.specs.declared.refusals.Refusal.{Refusal}
use Rattle.lane_core.specs.declared.number.IntType.{IntType}
use Rattle.lane_core.specs.declared.vector.Pointee.TheVariants as target
use Rattle.c_tree.specs.declared.types.CType.{CType}
use Rattle.c_tree.specs.declared.types.CType.TheVariants.{Void, Int, M128, M256, Neon, Pair, Pointer, Array}
use Rattle.c_tree.specs.Tree as tree
use Rattle.c_tree.specs.Tree.{Tree, Object, Statements, Definition, External}
use Rattle.c_tree.specs.Same.{unnumbered}
use Rattle.c_tree.specs.Nodes.{node_type}
use Rattle.type_rules.specs.Types.{read_type, is_void_pointer, is_integer, is_zero, is_assignable, converted, assigned}
use Rattle.type_rules.specs.Rules.{Assigned}
use Rattle.scopes.specs.Scopes.{Env, Callee, named, with_object}
use Rattle.expression_types.specs.Check.{◌>>=◌, check}
use Rattle.expression_types.specs.Typed.{IsArray, IsVoidPointer, Typed}
use Rattle.expression_types.proofs.Sound.{after}
use Rattle.c_tree.specs.Types.{is_array}
use Rattle.object_types.specs.Objects.{known, alignment, aligned, small_once, is_open, new_name, length_of, member, with_number, declared_type, behind_declarator, check_object}
use Rattle.object_types.specs.Typed as object
use Rattle.object_types.specs.Typed.{TypedMember, TypedObject}
use Rattle.statement_types.specs.Statements.{Around, with_objects, around, check_statements}
use Rattle.statement_types.specs.Typed.{TypedStatements}
use Rattle.order_rule.specs.Callees.{Before, Callees}
use Rattle.order_rule.specs.Full.{effects_of, order_of}
use Rattle.order_rule.specs.Rule.{KeepsOrder}
use Rattle.vector_types.specs.Order.{calls, with_callee, Orderly}
use Rattle.vector_types.specs.Functions.{is_before, is_taken, function_name, is_bare, check_parameters, in_function, check_function}
use Rattle.vector_types.specs.Tables.{is_table_type, table_name, judged_alignment, constant_value, check_table}
use Rattle.vector_types.specs.Units.{function_checked, next_item, Judged, and_judged, check_items, unless_refused, answer}
use Rattle.vector_types.proofs.InOrder.{order-holds}
use Rattle.vector_types.specs.Typed as t
use Rattle.vector_types.specs.Typed.{MayDefine, IsParameter, TypedParameters, TypedFunction, IsTableType, TypedTable, TypedItems}

-- names at file scope
before-holds : (o : Option Callee) (i : ℕ) → ((f : Callee) → o ≡ Some f → f.order < i → ⊥) → is_before o i ≡ false
before-holds None i h = refl
before-holds (Some f) i h = by (nat_lt f.order i) refl
  where
    by : (b : Bool) → nat_lt f.order i ≡ b → nat_lt f.order i ≡ false
    by true e = absurd (h f refl (ltb-true f.order i e))
    by false e = e

define-holds : (x : List ℕ) (env : Env) → MayDefine env x → is_taken x env ≡ false
define-holds x env m = let e = m.undeclared in let b = before-holds (named x env.functions) env.here m.undefined in rw e b

array-holds : (u : CType) → (IsArray u → ⊥) → is_array u ≡ false
array-holds (Array e n c) h = absurd (h tt)
array-holds _ h = refl

void-pointer-holds : (u : CType) → (IsVoidPointer u → ⊥) → is_void_pointer u ≡ false
void-pointer-holds (Pointer target.Void c) h = absurd (h tt)
void-pointer-holds _ h = refl

name-holds : (x : List ℕ) (p : Place) (u : CType) (env : Env) → MayDefine env x → (IsArray u → ⊥) → (IsVoidPointer u → ⊥) → function_name x p u env ≡ Ok true
name-holds x p u env m a v = rw (m.unreserved, define-holds x env m, array-holds u a, void-pointer-holds u v) refl

bare-holds : (d : Object) → IsParameter d → is_bare d ≡ true
bare-holds d b = rw (b.unaligned, b.unset, b.unlisted) refl

-- tables
table-type-holds : (u : CType) → IsTableType u → is_table_type u ≡ true
table-type-holds (Int s) h = refl
table-type-holds (Array (target.Int s) n c) h = refl
table-type-holds (Array target.Void n c) h = absurd h
table-type-holds (Array target.M128 n c) h = absurd h
table-type-holds (Array target.M256 n c) h = absurd h
table-type-holds Void h = absurd h
table-type-holds M128 h = absurd h
table-type-holds M256 h = absurd h
table-type-holds (Neon l w) h = absurd h
table-type-holds Pair h = absurd h
table-type-holds (Pointer e c) h = absurd h

begins-holds : {A B : Type 0} (i : Option A) (l : Option B) → (i ≡ None → l ≡ None → ⊥) → (is_some i || is_some l) ≡ true
begins-holds None None h = absurd (h refl refl)
begins-holds (Some x) l h = refl
begins-holds None (Some y) h = refl

assignable-integer : (z : Bool) (u : CType) (s : IntType) → is_assignable z u (Int s) ≡ true → is_integer u ≡ true
assignable-integer z (Int r) s h = refl
assignable-integer z Void s h = h
assignable-integer z M128 s h = cc
assignable-integer z M256 s h = cc
assignable-integer z (Neon l w) s h = cc
assignable-integer z Pair s h = cc
assignable-integer z (Pointer e c) s h = h
assignable-integer z (Array e n c) s h = h

chosen : {A : Type 0} (b : Bool) (x v : A) → (if b then Some x else None) ≡ Some v → b ≡ true
chosen true x v h = refl
chosen false x v h = cc

scalar-number : (n : Option ℕ) (s : IntType) → with_number n (Int s) ≡ Int s
scalar-number None s = refl
scalar-number (Some n) s = refl

declared-scalar : (n : Option ℕ) (u : CType) (s : IntType) → u ≡ Int s → with_number n (unnumbered u) ≡ Int s
declared-scalar n u s e = subst (λ x. with_number n (unnumbered x) ≡ Int s) (sym e) (scalar-number n s)

-- an alignment that passes where it is judged
alignment-judged : (b : Bool) (m a z : Option Tree) (env inner : Env) → aligned b m env ≡ Ok a → aligned (not b) a inner ≡ Ok z → (judged_alignment b m env ≡ Ok true) × (judged_alignment (not b) m inner ≡ Ok true)
alignment-judged b None a z env inner h k = (refl, refl)
alignment-judged true (Some x) a z env inner h k = let y = after (alignment x env) _ a h in let g = y.gives in (rw g refl, refl)
alignment-judged false (Some x) a z env inner h k =
    let same : Some x ≡ a = cc in
    let y = after (alignment x inner) _ z (subst (λ o. aligned true o inner ≡ Ok z) (sym same) k) in
    let g = y.gives in
    (refl, rw g refl)

module _ (types : (env : Env) (u v : Tree) → (check u env ≡ Ok v) ↔ Typed env u v) (gives : (u : CType) (a v : Tree) → (assigned u a ≡ Some v) ↔ Assigned a u v)
    (objects : (env : Env) (d v : Object) → (check_object d env ≡ Ok v) ↔ TypedObject env d v) (statements : (c : Around) (all vs : Statements) → (check_statements all c ≡ Ok vs) ↔ TypedStatements c all vs)
    (order : (callees : Callees) (f : Definition) → (order_of f callees ≡ None) ↔ KeepsOrder callees f) where
  parameters-pass : (env : Env) (all v : List Object) → TypedParameters env all v → check_parameters all env ≡ Ok v
  parameters-pass env all v (t.no_parameter e) = refl
  parameters-pass env all v (t.one_parameter e d x rest more b o r) =
      let q = (objects e d x).1 o in
      let others = parameters-pass (with_object x.name (known x.constant x.ty) e) rest more r in
      rw (bare-holds d b, q, others) refl

  function-passes : (env : Env) (f v : Definition) → TypedFunction env f v → check_function f env ≡ Ok v
  function-passes env f v (t.function g ps b m a p x y) =
      let u = read_type env.dialect g.result in
      let parts = parameters-pass (in_function g env) g.params ps x in
      let body = (statements (around (with_objects ps (in_function g env)) u false) g.body b).1 y in
      rw (name-holds g.name g.place u env m a p, parts, body) refl

  member-passes : (env : Env) (s : IntType) (a b : Tree) → TypedMember env s a b → (check a env >>= λ v. member (Int s) true v >>= λ _. Ok true) ≡ Ok true
  member-passes env s a b (object.member c a' d n x e g) =
      let passes = (types env c a').1 x in
      let fits = (gives (Int s) a' d).1 g in
      let i = assignable-integer (is_zero a') (node_type a') s (chosen (is_assignable (is_zero a') (node_type a') (Int s)) (converted (Int s) a') d fits) in
      rw (passes, i, e) refl

  -- the alignments of a table that is an integer
  scalar-aligned : (env : Env) (d v : Object) (s : IntType) → read_type env.dialect d.ty ≡ Int s → check_object d env ≡ Ok v →
      (judged_alignment d.align_first d.align env ≡ Ok true) × (judged_alignment (not d.align_first) d.align (behind_declarator d.name d.constant (Int s) env) ≡ Ok true)
  scalar-aligned env d v s e h =
      let a = after (aligned d.align_first d.align env) _ v h in
      let n = after (new_name d.name d.place (read_type env.dialect d.ty) env) _ v a.goes in
      let l = after (length_of d.length env) _ v n.goes in
      let u = declared_type l.first.number d.ty env in
      let k = after (small_once (not (is_open u)) d.name d.place u) _ v l.goes in
      let z = after (aligned (not d.align_first) a.first (behind_declarator d.name d.constant u env)) _ v k.goes in
      let same : u ≡ Int s = declared-scalar l.first.number (read_type env.dialect d.ty) s e in
      alignment-judged d.align_first d.align a.first z.first env (behind_declarator d.name d.constant (Int s) env) a.gives
      (subst (λ y. aligned (not d.align_first) a.first (behind_declarator d.name d.constant y env) ≡ Ok z.first) same z.gives)

  first-aligned : (env : Env) (d v : Object) → check_object d env ≡ Ok v → judged_alignment d.align_first d.align env ≡ Ok true
  first-aligned env d v h = by d.align_first d.align (after (aligned d.align_first d.align env) _ v h).gives
    where
      by : (b : Bool) (m : Option Tree) {a : Option Tree} → aligned b m env ≡ Ok a → judged_alignment b m env ≡ Ok true
      by b None g = refl
      by true (Some x) {a} g = let y = after (alignment x env) _ a g in let q = y.gives in rw q refl
      by false (Some x) g = refl

  value-passes : (env : Env) (d v : Object) (u : CType) (o : Option Tree) → read_type env.dialect d.ty ≡ u → check_object d env ≡ Ok v →
      ((s : IntType) (e : Tree) → u ≡ Int s → o ≡ Some e → (b : Tree) × TypedMember (behind_declarator d.name d.constant (Int s) env) s e b) → constant_value u d o env ≡ Ok true
  value-passes env d v u None k h x = refl
  value-passes env d v (Int s) (Some e) k h x =
      let m = x s e refl refl in
      let a = scalar-aligned env d v s k h in
      let q = a.1 in
      rw q (member-passes (behind_declarator d.name d.constant (Int s) env) s e m.0 m.1)
  value-passes env d v _ (Some e) k h x = refl

  table-passes : (env : Env) (d v : Object) → TypedTable env d v → check_table d env ≡ Ok v
  table-passes env d v x =
      let u = read_type env.dialect d.ty in
      let o = (objects env d v).1 x.object in
      let a = first-aligned env d v o in
      let r = x.free.unreserved in
      let c = x.constant in
      let n : table_name d u env ≡ Ok true = rw (r, define-holds d.name env x.free, c, table-type-holds u x.integers, begins-holds d.init d.list x.initialised) refl in
      let k = value-passes env d v u d.init refl o x.value in
      rw (a, n, k, o) refl

  -- items in a row
  judged-holds : (j : Judged) (g : External) (more : List External) → answer j ≡ Ok more → answer (and_judged (Ok g) j) ≡ Ok (g ∷ more)
  judged-holds j g more h = by j.refusals refl h
    where
      by : (rs : List Refusal) → j.refusals ≡ rs → unless_refused rs j.items ≡ Ok more → answer (and_judged (Ok g) j) ≡ Ok (g ∷ more)
      by [] e h = let same : j.items ≡ more = cc in rw e (ap (λ l. unless_refused [] (g ∷ l)) same)
      by (r ∷ rs) e h = cc

  function-judged : (env : Env) (callees : Before) (f g : Definition) (rest more : List External) → function_checked f env callees ≡ Ok g →
      answer (check_items rest (next_item env) (with_callee env.dialect f.name (effects_of g (calls callees env)) callees)) ≡ Ok more → answer (check_items (tree.Function f ∷ rest) env callees) ≡ Ok (tree.Function g ∷ more)
  function-judged env callees f g rest more passes others = rw passes (judged-holds _ (tree.Function g) more others)

  function-holds : (env : Env) (callees : Before) (f g : Definition) → TypedFunction env f g → Orderly env.dialect (calls callees env) g → function_checked f env callees ≡ Ok g
  function-holds env callees f g x k =
      let passes = function-passes env f g x in
      rw passes (order-holds order env.dialect (calls callees env) g k)

  pub items-pass : (env : Env) (callees : Before) (u v : List External) → TypedItems env callees u v → answer (check_items u env callees) ≡ Ok v
  items-pass env callees u v (t.no_item e n) = refl
  items-pass env callees u v (t.one_function e n f g rest more x k y) =
      let passes = function-holds e n f g x k in
      let others = items-pass (next_item e) (with_callee e.dialect f.name (effects_of g (calls n e)) n) rest more y in
      function-judged e n f g rest more passes others
  items-pass env callees u v (t.one_table e n d w is_static rest more x y) =
      let passes = table-passes e d w x in
      let others = items-pass (next_item (with_object w.name (known w.constant w.ty) e)) n rest more y in
      rw passes (judged-holds _ (tree.Table w is_static) more others)
