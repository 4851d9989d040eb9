-- A unit that passes the check is typed by the rules.
use Rattle.std.proofs.Common.{◌≡◌, ◌∙◌, ◌↔◌, ℕ, ◌<◌, Bool, true, false, not, ◌&&◌, ◌||◌, if◌then◌else◌, is_some, List, [], ◌∷◌, Option, Some, None, Ok, Err, refl, ap, subst, arith}
use Rattle.std.proofs.lemmas.Bool.{ltb-false}
use Rattle.c_text.specs.declared.tokens.Place.{Place}
use Rattle.c_text.specs.declared.refusals.Refusal.{Refusal}
use Rattle.lane_core.specs.declared.number.IntType.{IntType}
use Rattle.lane_core.specs.declared.number.Num.{Num}
use Rattle.lane_core.specs.declared.vector.Pointee.TheVariants as target
use Rattle.const_imm.specs.Constant.{value_of}
use Rattle.c_tree.specs.declared.types.CType.{CType}
use Rattle.c_tree.specs.declared.types.CType.TheVariants.{Void, Int, M128, M256, Neon, Pair, Pointer, Array}
use Rattle.c_tree.specs.Tree as tree
use Rattle.c_tree.specs.Tree.{Tree, Object, Statements, Definition, External}
use Rattle.c_tree.specs.Nodes.{node_type}
use Rattle.type_rules.specs.Types.{read_type, is_void_pointer, is_integer, is_zero, is_assignable, converted, assigned}
use Rattle.type_rules.specs.Rules.{Assigned}
use Rattle.scopes.specs.Scopes.{Env, Callee, named, is_declared_here, with_object}
use Rattle.expression_types.specs.Check.{◌>>=◌, Checked, check}
use Rattle.expression_types.specs.Typed.{IsArray, Typed}
use Rattle.expression_types.proofs.Sound.{ok, after, becomes}
use Rattle.object_types.specs.Reserved.{is_reserved}
use Rattle.c_tree.specs.Types.{is_array}
use Rattle.object_types.specs.Objects.{is_object_type, known, is_member, member, behind_declarator, check_object}
use Rattle.object_types.specs.Typed as object
use Rattle.object_types.specs.Typed.{TypedMember, TypedObject}
use Rattle.object_types.proofs.ObjectTests.{both, unnegated, absent, void-pointer-says}
use Rattle.statement_types.specs.Statements.{Around, with_objects, around, check_statements}
use Rattle.statement_types.specs.Typed.{TypedStatements}
use Rattle.order_rule.specs.Callees.{Before, Callees}
use Rattle.order_rule.specs.Full.{effects_of, order_of}
use Rattle.order_rule.specs.Rule.{KeepsOrder}
use Rattle.vector_types.specs.Order.{calls, effects_given, with_callee, Orderly}
use Rattle.vector_types.specs.Functions.{is_before, is_taken, function_name, is_bare, without_length, check_parameter, check_parameters, in_function, check_function}
use Rattle.vector_types.specs.Tables.{is_table_type, is_table, fits_file, table_name, judged_alignment, scalar_value, constant_value, check_table, beyond_table}
use Rattle.vector_types.specs.Units.{function_checked, item_checked, beyond_item, next_item, Judged, and_judged, check_items, unless_refused, answer}
use Rattle.vector_types.proofs.InOrder.{order-says}
use Rattle.vector_types.specs.Typed as t
use Rattle.vector_types.specs.Typed.{MayDefine, IsParameter, TypedParameters, TypedFunction, IsTableType, TypedTable, TypedItems}

-- what a test refuses, and what it lets through
otherwise : {A : Type 0} (b : Bool) (r : Refusal) (m : Checked A) (v : A) → (if b then Err r else m) ≡ Ok v → (b ≡ false) × (m ≡ Ok v)
otherwise true r m v h = cc
otherwise false r m v h = (refl, h)

lets : {A : Type 0} (b : Bool) (r : Refusal) (m : Checked A) (v : A) → (if b then m else Err r) ≡ Ok v → (b ≡ true) × (m ≡ Ok v)
lets true r m v h = (refl, h)
lets false r m v h = cc

neither : (a b : Bool) → (a || b) ≡ false → (a ≡ false) × (b ≡ false)
neither true b h = cc
neither false b h = (refl, h)

unset : {A : Type 0} (m : Option A) → not (is_some m) ≡ true → m ≡ None
unset None h = refl
unset (Some x) h = cc

-- names at file scope
not_before : (o : Option Callee) (i : ℕ) → is_before o i ≡ false → (f : Callee) → o ≡ Some f → f.order < i → ⊥
not_before (Some g) i h f e l = let same : g ≡ f = cc in let order : g.order ≡ f.order = ap (λ (c : Callee). c.order) same in let late = ltb-false g.order i h in absurd (omega arith)
not_before None i h f e l = cc

define-says : (x : List ℕ) (env : Env) → is_reserved env.dialect (env.neon x) x ≡ false → is_taken x env ≡ false → MayDefine env x
define-says x env r h =
    let q = neither (is_declared_here x env) (is_before (named x env.functions) env.here) h in
    record { unreserved = r; undeclared = absent (named x env.innermost) q.0; undefined = not_before (named x env.functions) env.here q.1 }

array-says : (u : CType) → is_array u ≡ false → IsArray u → ⊥
array-says (Array e n c) h v = let no : true ≡ false = h in cc
array-says Void h v = v
array-says (Int s) h v = v
array-says M128 h v = v
array-says M256 h v = v
array-says (Neon l w) h v = v
array-says Pair h v = v
array-says (Pointer e c) h v = v

name-says : (x : List ℕ) (p : Place) (u : CType) (env : Env) (b : Bool) → function_name x p u env ≡ Ok b → MayDefine env x × (is_array u ≡ false) × (is_void_pointer u ≡ false)
name-says x p u env b h =
    let r = otherwise (is_reserved env.dialect (env.neon x) x) _ _ b h in
    let k = otherwise (is_taken x env) _ _ b r.1 in
    let a = otherwise (is_array u) _ _ b k.1 in
    let v = otherwise (is_void_pointer u) _ _ b a.1 in
    (define-says x env r.0 k.0, a.0, v.0)

bare-says : (d : Object) → is_bare d ≡ true → IsParameter d
bare-says d h =
    let q = both (not (is_some d.align) && not (is_some d.init)) (not (is_some d.list)) h in
    let r = both (not (is_some d.align)) (not (is_some d.init)) q.0 in
    record { unaligned = unset d.align r.0; unset = unset d.init r.1; unlisted = unset d.list q.1 }

-- tables
chosen : (c x y : Bool) → c ≡ true → (if c then x else y) ≡ true → x ≡ true
chosen true x y e h = h
chosen false x y e h = cc

table-type-says : (u : CType) → is_table_type u ≡ true → IsTableType u
table-type-says (Int s) h = tt
table-type-says (Array (target.Int s) n c) h = tt
table-type-says _ h = cc

begins-says : {A B : Type 0} (i : Option A) (l : Option B) → (is_some i || is_some l) ≡ true → i ≡ None → l ≡ None → ⊥
begins-says None None h e k = cc
begins-says (Some x) l h e k = cc
begins-says None (Some y) h e k = cc

table-name-says : (d : Object) (u : CType) (env : Env) (b : Bool) → table_name d u env ≡ Ok b → MayDefine env d.name × (d.constant ≡ true) × (is_table d u ≡ true)
table-name-says d u env b h =
    let r = otherwise (is_reserved env.dialect (env.neon d.name) d.name) _ _ b h in
    let k = otherwise (is_taken d.name env) _ _ b r.1 in
    let f = otherwise (not (fits_file d u)) _ _ b k.1 in
    let c = otherwise (not d.constant) _ _ b f.1 in
    let constant = unnegated d.constant c.0 in
    (define-says d.name env r.0 k.0, constant, chosen d.constant (is_table d u) (is_object_type u) constant (unnegated (fits_file d u) f.0))

given : (b : Option Num) → is_some b ≡ true → (n : Num) × (b ≡ Some n)
given (Some n) h = (n, refl)
given None h = cc

an_integer : (u : CType) → is_integer u ≡ true → (s : IntType) × (u ≡ Int s)
an_integer (Int s) h = (s, refl)
an_integer _ h = cc

module _ (types : (env : Env) (u v : Tree) → (check u env ≡ Ok v) ↔ Typed env u v) (gives : (u : CType) (a v : Tree) → (assigned u a ≡ Some v) ↔ Assigned a u v)
    (objects : (env : Env) (d v : Object) → (check_object d env ≡ Ok v) ↔ TypedObject env d v) (statements : (c : Around) (all vs : Statements) → (check_statements all c ≡ Ok vs) ↔ TypedStatements c all vs)
    (order : (callees : Callees) (f : Definition) → (order_of f callees ≡ None) ↔ KeepsOrder callees f) where
  parameters-typed : (all : List Object) (env : Env) (v : List Object) → check_parameters all env ≡ Ok v → TypedParameters env all v
  parameters-typed [] env v h = becomes (TypedParameters env []) [] v h (t.no_parameter env)
  parameters-typed (d ∷ rest) env v h =
      let x = after (check_parameter d env) _ v h in
      let inner = with_object x.first.name (known x.first.constant x.first.ty) env in
      let y = after (check_parameters rest inner) _ v x.goes in
      let q = lets (is_bare d) _ (check_object d env >>= λ w. Ok (without_length w)) x.first x.gives in
      let w = after (check_object d env) _ x.first q.1 in
      becomes (TypedParameters env (d ∷ rest)) _ v y.goes
      (becomes (λ z. TypedParameters (with_object z.name (known z.constant z.ty) env) rest y.first → TypedParameters env (d ∷ rest) (z ∷ y.first)) (without_length w.first) x.first w.goes
      (λ others. t.one_parameter env d w.first rest y.first (bare-says d q.0) ((objects env d w.first).0 w.gives) others) (parameters-typed rest inner y.first y.gives))

  function-typed : (env : Env) (f v : Definition) → check_function f env ≡ Ok v → TypedFunction env f v
  function-typed env f v h =
      let u = read_type env.dialect f.result in
      let n = after (function_name f.name f.place u env) _ v h in
      let x = after (check_parameters f.params (in_function f env)) _ v n.goes in
      let c = around (with_objects x.first (in_function f env)) u false in
      let y = after (check_statements f.body c) _ v x.goes in
      let q = name-says f.name f.place u env n.first n.gives in
      becomes (TypedFunction env f) _ v y.goes
      (t.function f x.first y.first q.0 (array-says u q.1) (void-pointer-says u q.2) (parameters-typed f.params (in_function f env) x.first x.gives) ((statements c f.body y.first).0 y.gives))

  member-says : (s : IntType) (a a' b : Tree) (env : Env) → check a env ≡ Ok a' → member (Int s) true a' ≡ Ok b → TypedMember env s a b
  member-says s a a' b env e h =
      let q = lets (is_member (Int s) true a') _ (Ok (converted (Int s) a')) b h in
      let r = both (is_integer (node_type a')) (is_some (value_of a')) q.0 in
      let n = given (value_of a') r.1 in
      let i = an_integer (node_type a') r.0 in
      let same : converted (Int s) a' ≡ b = cc in
      let passes : assigned (Int s) a' ≡ Some b = ap (λ u. if is_assignable (is_zero a') u (Int s) then Some (converted (Int s) a') else None) i.1 ∙ ap Some same in
      object.member a a' b n.0 ((types env a a').0 e) n.1 ((gives (Int s) a' b).0 passes)

  value-says : (d : Object) (u : CType) (o : Option Tree) (env : Env) (b : Bool) → constant_value u d o env ≡ Ok b → (s : IntType) (e : Tree) → u ≡ Int s → o ≡ Some e →
      (w : Tree) × TypedMember (behind_declarator d.name d.constant (Int s) env) s e w
  value-says d u o env b h s e k l =
      let inner = behind_declarator d.name d.constant (Int s) env in
      let passes : scalar_value (Int s) d e inner ≡ Ok b = subst (λ x. constant_value x d (Some e) env ≡ Ok b) k (subst (λ x. constant_value u d x env ≡ Ok b) l h) in
      let a = after (judged_alignment (not d.align_first) d.align inner) _ b passes in
      let x = after (check e inner) _ b a.goes in
      let y = after (member (Int s) true x.first) _ b x.goes in
      (y.first, member-says s e x.first y.first inner x.gives y.gives)

  table-typed : (env : Env) (d v : Object) → check_table d env ≡ Ok v → TypedTable env d v
  table-typed env d v h =
      let u = read_type env.dialect d.ty in
      let a = after (judged_alignment d.align_first d.align env) _ v h in
      let n = after (table_name d u env) _ v a.goes in
      let k = after (constant_value u d d.init env) _ v n.goes in
      let q = table-name-says d u env n.first n.gives in
      let r = both (is_table_type u) (is_some d.init || is_some d.list) q.2 in
      record {
        free = q.0;
        constant = q.1;
        integers = table-type-says u r.0;
        initialised = begins-says d.init d.list r.1;
        value = λ s e k1 l1. value-says d u d.init env k.first k.gives s e k1 l1;
        object = (objects env d v).0 k.goes;
      }

  -- items in a row of which none is refused
  judged-says : (x : Checked External) (j : Judged) (v : List External) → answer (and_judged x j) ≡ Ok v → (g : External) × (more : List External) × (x ≡ Ok g) × (answer j ≡ Ok more) × (g ∷ more ≡ v)
  judged-says (Err r) j v h = cc
  judged-says (Ok g) j v h = by j.refusals refl h
    where
      by : (rs : List Refusal) → j.refusals ≡ rs → unless_refused rs (g ∷ j.items) ≡ Ok v → (y : External) × (more : List External) × (ok g ≡ Ok y) × (answer j ≡ Ok more) × (y ∷ more ≡ v)
      by [] e h = let same : g ∷ j.items ≡ v = cc in (g, j.items, refl, ap (λ rs. unless_refused rs j.items) e, same)
      by (r ∷ rs) e h = cc

  function-says : (env : Env) (callees : Before) (f g : Definition) → function_checked f env callees ≡ Ok g → TypedFunction env f g × Orderly env.dialect (calls callees env) g
  function-says env callees f g h =
      let x = after (check_function f env) _ g h in
      let q = order-says order env.dialect (calls callees env) x.first g x.goes in
      subst (λ y. TypedFunction env f y × Orderly env.dialect (calls callees env) y) q.1 (function-typed env f x.first x.gives, q.0)

  pub items-typed : (u : List External) (env : Env) (callees : Before) (v : List External) → answer (check_items u env callees) ≡ Ok v → TypedItems env callees u v
  items-typed [] env callees v h = let e : [] ≡ v = cc in subst (TypedItems env callees []) e (t.no_item env callees)
  items-typed (tree.Function f ∷ rest) env callees v h =
      let q = judged-says (item_checked (tree.Function f) env callees) _ v h in
      let x = after (function_checked f env callees) _ q.0 q.2 in
      let k = function-says env callees f x.first x.gives in
      let passes : answer (check_items rest (next_item env) (with_callee env.dialect f.name (effects_of x.first (calls callees env)) callees)) ≡ Ok q.1 =
      subst (λ r. answer (check_items rest (next_item env) (with_callee env.dialect f.name (effects_given r (calls callees env)) callees)) ≡ Ok q.1) x.gives q.3 in
      let others = items-typed rest (next_item env) (with_callee env.dialect f.name (effects_of x.first (calls callees env)) callees) q.1 passes in
      let same : tree.Function x.first ≡ q.0 = cc in
      subst (TypedItems env callees (tree.Function f ∷ rest)) q.4 (subst (λ g. TypedItems env callees (tree.Function f ∷ rest) (g ∷ q.1)) same (t.one_function env callees f x.first rest q.1 k.0 k.1 others))
  items-typed (tree.Table d is_static ∷ rest) env callees v h =
      let q = judged-says (item_checked (tree.Table d is_static) env callees) _ v h in
      let x = after (check_table d env) _ q.0 q.2 in
      let behind : beyond_item (tree.Table d is_static) env ≡ with_object x.first.name (known x.first.constant x.first.ty) env = ap (λ r. beyond_table d r env) x.gives in
      let passes : answer (check_items rest (next_item (with_object x.first.name (known x.first.constant x.first.ty) env)) callees) ≡ Ok q.1 = subst (λ (e : Env). answer (check_items rest (next_item e) callees) ≡ Ok q.1) behind q.3 in
      let others = items-typed rest (next_item (with_object x.first.name (known x.first.constant x.first.ty) env)) callees q.1 passes in
      let same : tree.Table x.first is_static ≡ q.0 = cc in
      subst (TypedItems env callees (tree.Table d is_static ∷ rest)) q.4 (subst (λ g. TypedItems env callees (tree.Table d is_static ∷ rest) (g ∷ q.1)) same (t.one_table env callees d x.first is_static rest q.1 (table-typed env d x.first x.gives) others))
