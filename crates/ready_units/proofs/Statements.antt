-- Typed statements are ready (C11 6.8).
use Rattle.std.proofs.Common.{◌≡◌, refl, ◌∙◌, subst, ℕ, Bool, true, false, List, ◌++◌, Option, Some, None, is_some}
use Rattle.c_text.specs.declared.refusals.Refusal.{Refusal}
use Rattle.c_tree.specs.declared.types.CType.{CType}
use Rattle.c_tree.specs.Marks.{short}
use Rattle.c_tree.specs.Tree.{Tree, Trees, Object, Statement, Statements, Optional}
use Rattle.c_memory.specs.Meaning.{type_of}
use Rattle.scopes.specs.Scopes.{Env, or_else, named, with_object, opened}
use Rattle.expression_types.specs.Typed.{Typed}
use Rattle.object_types.specs.Objects.{known, behind_declarator}
use Rattle.object_types.specs.Typed as objects
use Rattle.object_types.specs.Typed.{TypedObject, Begins, MayDeclare}
use Rattle.statement_types.specs.Statements.{Around, inside, looped, with_objects, beyond, beyond_optional}
use Rattle.statement_types.specs.Typed as typed
use Rattle.statement_types.specs.Typed.{TypedObjects, TypedCondition, OptionalCondition, OptionalExpression, Returned, behind_first, TypedStatement, TypedOptional, TypedStatements}
use Rattle.written_forms.specs.Seen.{Sees, local, with_local, beginning, declared}
use Rattle.written_forms.specs.Moved.{Plans}
use Rattle.written_forms.specs.Statements.{sees_objects, sees_behind, sees_optional}
use Rattle.written_forms.specs.Helpers.{Use, uses, maybe_uses, object_uses, statement_uses, optional_uses, statements_uses}
use Rattle.ready_units.specs.Movable.{is_moved_type, unmoved, unless, unmoved_in, unmoved_option, unmoved_object, unmoved_objects, unmoved_start, unmoved_statement, unmoved_optional, unmoved_statements}
use Rattle.written_forms.specs.Planned.{AreFit}
use Rattle.written_forms.specs.Ready.{Setting, Ready, IsInt, IsCarried}
use Rattle.written_forms.specs.ReadyStatements.{ReadyFirst, ReadyObject, ReadyObjects, ReadyCondition, ReadyStep, ReadyResult, ReadyStart, ReadyStatement, ReadyOptional, ReadyStatements}
use Rattle.written_forms.specs.ReadyUnits.{Heads, setting}
use Rattle.ready_units.proofs.SeenObjects.{At, opened_at, object_at}
use Rattle.ready_units.proofs.Sound.{Helps, Helped, Sound, helped_first, helped_second, first_none, second_none, scalar_int, carried_of}
use Rattle.ready_units.proofs.Conversions.{given}
use Rattle.ready_units.proofs.Calm.{Calm}
use Rattle.ready_units.proofs.CalmStatements.{CalmOption, CalmObjects, CalmStatement, CalmOptional, CalmStatements}
use Rattle.ready_units.proofs.Expressions.{ready}

-- what is known of a part: it is moved, it is calm, and the functions of its rows are there
pub record Known (helps : Helps) (m : Option Refusal) (A : Type 0) (us : List Use) : Type 0 where
  pub moves : m ≡ None
  pub calm : A
  pub named : Helped helps us

pub unless_none : (b : Bool) (r : Refusal) → unless b r ≡ None → b ≡ true
unless_none true r h = refl
unless_none false r h = absurd (cc)

known_type : (c : Bool) (t : CType) → IsCarried t → t ≡ (known c t).ty
known_type c (CType.Int s) h = refl
known_type c CType.M128 h = refl
known_type c t h = absurd h

module _ (plans : Plans) (fit : AreFit plans) (helps : Helps) (heads : Heads) where
  abbrev pub w : Setting
  w = setting plans helps heads

  -- an expression
  abbrev KnownTree : Sees → Tree → Type 0
  KnownTree sees e = Known helps (unmoved_in plans e) (Calm e) (uses plans sees e)

  tree_sound : (sees : Sees) (e : Tree) → KnownTree sees e → Sound plans helps sees e
  tree_sound sees e k = record { moves = k.moves; calm = k.calm; named = k.named }

  tree_ready : (sees : Sees) (env : Env) → At env sees heads → (e v : Tree) → Typed env e v → KnownTree sees v → Ready w sees v
  tree_ready sees env at e v h k = ready plans fit helps sees heads env at e v h (tree_sound sees v k)

  abbrev KnownOption : Sees → Option Tree → Type 0
  KnownOption sees o = Known helps (unmoved_option plans o) (CalmOption o) (maybe_uses plans sees o)

  of_option : (sees : Sees) (e : Tree) → KnownOption sees (Some e) → KnownTree sees e
  of_option sees e k = record { moves = k.moves; calm = k.calm; named = k.named }

  -- ---- objects

  -- what an object begins with
  record ReadyBegin (sees : Sees) (e : Option Tree) (l : Option Trees) (u : CType) : Type 0 where
    pub list : l ≡ None
    pub init : ReadyFirst w sees u e

  begins_ready : (sees : Sees) (env : Env) (t u : CType) (e init : Option Tree) (l list : Option Trees) → (IsCarried t → At env sees heads) → Begins env t e l init list u → IsCarried u → KnownOption sees init
      → ReadyBegin sees init list u
  begins_ready sees env t u e init l list at (objects.nothing x o) c k = record { list = refl; init = tt }
  begins_ready sees env t u e init l list at (objects.value x a a' b h g) c k =
      let s = tree_sound sees b (of_option sees b k) in
      let v = given plans helps sees w a' b t g s in
      record { list = refl; init = (v.ty, v.ready (ready plans fit helps sees heads env (at c) a a' h v.sound)) }
  begins_ready sees env t u e init l list at (objects.members s n x all rest h i j) c k = absurd c
  begins_ready sees env t u e init l list at (objects.members_of_open s x all rest h i j) c k = absurd c

  -- the type that an object has in the scope of what it begins with is its own, unless it is an array
  abbrev pub KnownObject : Sees → Object → Type 0
  KnownObject sees d = Known helps (unmoved_object plans d) (CalmOption d.init) (maybe_uses plans (beginning d sees) d.init)

  carried_object : (d : Object) → unmoved_object plans d ≡ None → IsCarried d.ty
  carried_object d m = carried_of d.ty (unless_none (is_moved_type d.ty) (unmoved d.place (short d.name)) (first_none (unless (is_moved_type d.ty) (unmoved d.place (short d.name)))
      (or_else (unmoved_option plans d.length) (or_else (unmoved_option plans d.align) (unmoved_option plans d.init))) m))

  begun : (d : Object) → unmoved_object plans d ≡ None → unmoved_option plans d.init ≡ None
  begun d m =
      let parts = second_none (unless (is_moved_type d.ty) (unmoved d.place (short d.name))) (or_else (unmoved_option plans d.length) (or_else (unmoved_option plans d.align) (unmoved_option plans d.init))) m in
      second_none (unmoved_option plans d.align) (unmoved_option plans d.init) (second_none (unmoved_option plans d.length) (or_else (unmoved_option plans d.align) (unmoved_option plans d.init)) parts)

  pub begins_as : (env : Env) (t u : CType) (e init : Option Tree) (l list : Option Trees) → Begins env t e l init list u → IsCarried u → u ≡ t
  begins_as env t u e init l list (objects.nothing x o) c = refl
  begins_as env t u e init l list (objects.value x a a' b h g) c = refl
  begins_as env t u e init l list (objects.members s n x all rest h i j) c = absurd c
  begins_as env t u e init l list (objects.members_of_open s x all rest h i j) c = absurd c

  -- a scope with the object, in whose own scope what it begins with stands
  inside_at : (sees : Sees) (env : Env) (x : List ℕ) (c : Bool) (t u : CType) → At env sees heads → u ≡ t → IsCarried t → At (behind_declarator x c t env) (with_local x (local u false) sees) heads
  inside_at sees env x c t u at e h =
      object_at (opened env) sees heads x (known c t) (local u false) (opened_at env sees heads at) refl (e ∙ known_type c t h) (subst IsCarried (known_type c t h) h)

  pub behind_at : (sees : Sees) (env : Env) (x : List ℕ) (c b : Bool) (u : CType) → At env sees heads → named x env.innermost ≡ None → IsCarried u → At (with_object x (known c u) env) (with_local x (local u b) sees) heads
  behind_at sees env x c b u at none h = object_at env sees heads x (known c u) (local u b) at none (known_type c u h) (subst IsCarried (known_type c u h) h)

  pub record ObjectReady (sees : Sees) (env : Env) (v : Object) : Type 0 where
    pub ready : ReadyObject w sees v
    pub at : At (with_object v.name (known v.constant v.ty) env) (declared v sees) heads

  pub object_ready : (sees : Sees) (env : Env) (d v : Object) → At env sees heads → TypedObject env d v → KnownObject sees v → ObjectReady sees env v
  object_ready sees env d v at (objects.declared x length n t u align init list may l y z g b) k =
      let c = carried_object v k.moves in
      let same = begins_as (behind_declarator d.name d.constant t env) t u d.init init d.list list b c in
      let inner = beginning v sees in
      let first = begins_ready inner (behind_declarator d.name d.constant t env) t u d.init init d.list list (λ i. inside_at sees env d.name d.constant t u at same i) b c
      (record { moves = begun v k.moves; calm = k.calm; named = k.named }) in
      record {
        ready = record { carried = c; list = first.list; init = first.init };
        at = behind_at sees env d.name d.constant (is_some init) u at may.undeclared c;
      }

  -- declarations in a row
  record ObjectsReady (sees : Sees) (env : Env) (vs : List Object) : Type 0 where
    pub ready : ReadyObjects w sees vs
    pub at : At (with_objects vs env) (sees_objects vs sees) heads

  abbrev KnownObjects : Sees → List Object → Type 0
  KnownObjects sees vs = Known helps (unmoved_objects plans vs) (CalmObjects vs) (object_uses plans sees vs)

  objects_ready : (sees : Sees) (env : Env) (all vs : List Object) → At env sees heads → TypedObjects env all vs → KnownObjects sees vs → ObjectsReady sees env vs
  objects_ready sees env all vs at (typed.no_object x) k = record { ready = tt; at = at }
  objects_ready sees env all vs at (typed.one_object x d v rest more h i) k =
      let first : KnownObject sees v = record {
        moves = first_none (unmoved_object plans v) (unmoved_objects plans more) k.moves;
        calm = k.calm.0;
        named = helped_first helps (maybe_uses plans (beginning v sees) v.init) (object_uses plans (declared v sees) more) k.named;
      } in
      let one = object_ready sees env d v at h first in
      let next = objects_ready (declared v sees) (with_object v.name (known v.constant v.ty) env) rest more one.at i (record {
        moves = second_none (unmoved_object plans v) (unmoved_objects plans more) k.moves;
        calm = k.calm.1;
        named = helped_second helps (maybe_uses plans (beginning v sees) v.init) (object_uses plans (declared v sees) more) k.named;
      }) in
      record { ready = (one.ready, next.ready); at = next.at }

  -- ---- parts of statements

  record ConditionReady (sees : Sees) (v : Tree) : Type 0 where
    pub ty : IsInt (type_of v)
    pub ready : Ready w sees v

  condition_ready : (sees : Sees) (env : Env) → At env sees heads → (e v : Tree) → TypedCondition env e v → KnownTree sees v → ConditionReady sees v
  condition_ready sees env at e v (typed.condition x y h i) k = record { ty = scalar_int plans helps sees v i (tree_sound sees v k); ready = tree_ready sees env at e v h k }

  maybe_condition : (sees : Sees) (env : Env) → At env sees heads → (e v : Option Tree) → OptionalCondition env e v → KnownOption sees v → ReadyCondition w sees v
  maybe_condition sees env at e v typed.no_condition k = tt
  maybe_condition sees env at e v (typed.one_condition x y h) k = let c = condition_ready sees env at x y h (of_option sees y k) in (c.ty, c.ready)

  maybe_step : (sees : Sees) (env : Env) → At env sees heads → (e v : Option Tree) → OptionalExpression env e v → KnownOption sees v → ReadyStep w sees v
  maybe_step sees env at e v typed.no_expression k = tt
  maybe_step sees env at e v (typed.one_expression x y h) k = tree_ready sees env at x y h (of_option sees y k)

  result_ready : (sees : Sees) (env : Env) (t : CType) → At env sees heads → (e v : Option Tree) → Returned env t e v → KnownOption sees v → ReadyResult w sees t v
  result_ready sees env t at e v (typed.nothing n) k = tt
  result_ready sees env t at e v (typed.value x a y n h g) k =
      let s = tree_sound sees y (of_option sees y k) in
      let b = given plans helps sees w a y t g s in
      (b.ty, b.ready (ready plans fit helps sees heads env at x a h b.sound))

  -- ---- statements

  abbrev pub KnownStatement : Sees → Statement → Type 0
  KnownStatement sees s = Known helps (unmoved_statement plans s) (CalmStatement s) (statement_uses plans sees s)

  abbrev KnownOptional : Sees → Optional → Type 0
  KnownOptional sees o = Known helps (unmoved_optional plans o) (CalmOptional o) (optional_uses plans sees o)

  abbrev KnownStart : Sees → Optional → Type 0
  KnownStart sees o = Known helps (unmoved_start plans o) (CalmOptional o) (optional_uses plans sees o)

  abbrev pub KnownStatements : Sees → Statements → Type 0
  KnownStatements sees all = Known helps (unmoved_statements plans all) (CalmStatements all) (statements_uses plans sees all)

  -- what stands behind a statement sees what it declares
  behind_statement : (c : Around) (sees : Sees) (s t : Statement) → At c.env sees heads → TypedStatement c s t → KnownStatement sees t → At (beyond t c.env) (sees_behind t sees) heads
  behind_statement c sees s t at (typed.declaration z all vs h) k = (objects_ready sees c.env all vs at h (record { moves = k.moves; calm = k.calm; named = k.named })).at
  behind_statement c sees s t at (typed.expression z e v h) k = at
  behind_statement c sees s t at (typed.block z all vs h) k = at
  behind_statement c sees s t at (typed.selection z e v x y o u h i j) k = at
  behind_statement c sees s t at (typed.while_loop z e v x y h i) k = at
  behind_statement c sees s t at (typed.do_loop z x y e v h i) k = at
  behind_statement c sees s t at (typed.for_loop z i j e v n m x y h f g l) k = at
  behind_statement c sees s t at (typed.break_statement z p h) k = at
  behind_statement c sees s t at (typed.continue_statement z p h) k = at
  behind_statement c sees s t at (typed.return_statement z p e v h) k = at
  behind_statement c sees s t at (typed.null_statement z) k = at

  -- the first part of a `for`, and what it leaves in scope
  record StartReady (c : Around) (sees : Sees) (j : Optional) : Type 0 where
    pub ready : ReadyStart w sees j
    pub at : At (beyond_optional j c.env) (sees_optional j sees) heads

  start_ready : (c : Around) (sees : Sees) (i j : Optional) → At c.env sees heads → TypedOptional c i j → KnownStart sees j → StartReady c sees j
  start_ready c sees i j at (typed.absent z) k = record { ready = tt; at = at }
  start_ready c sees i j at (typed.present z s t (typed.declaration y all vs h)) k =
      let d = objects_ready sees c.env all vs at h (record { moves = k.moves; calm = k.calm; named = k.named }) in
      record { ready = d.ready; at = d.at }
  start_ready c sees i j at (typed.present z s t (typed.expression y e v h)) k = record { ready = tree_ready sees c.env at e v h (record { moves = k.moves; calm = k.calm; named = k.named }); at = at }
  start_ready c sees i j at (typed.present z s t (typed.block y all vs h)) k = absurd (let m = k.moves in cc)
  start_ready c sees i j at (typed.present z s t (typed.selection y e v x r o u h l n)) k = absurd (let m = k.moves in cc)
  start_ready c sees i j at (typed.present z s t (typed.while_loop y e v x r h l)) k = absurd (let m = k.moves in cc)
  start_ready c sees i j at (typed.present z s t (typed.do_loop y x r e v h l)) k = absurd (let m = k.moves in cc)
  start_ready c sees i j at (typed.present z s t (typed.for_loop y q r e v n m x u h f g l)) k = absurd (let m = k.moves in cc)
  start_ready c sees i j at (typed.present z s t (typed.break_statement y p h)) k = absurd (let m = k.moves in cc)
  start_ready c sees i j at (typed.present z s t (typed.continue_statement y p h)) k = absurd (let m = k.moves in cc)
  start_ready c sees i j at (typed.present z s t (typed.return_statement y p e v h)) k = absurd (let m = k.moves in cc)
  start_ready c sees i j at (typed.present z s t (typed.null_statement y)) k = absurd (let m = k.moves in cc)

  mutual
    statement_ready : (c : Around) (sees : Sees) (s t : Statement) → At c.env sees heads → TypedStatement c s t → KnownStatement sees t → ReadyStatement w c.result sees t
    statement_ready c sees s t at (typed.declaration z all vs h) k = (objects_ready sees c.env all vs at h (record { moves = k.moves; calm = k.calm; named = k.named })).ready
    statement_ready c sees s t at (typed.expression z e v h) k = tree_ready sees c.env at e v h (record { moves = k.moves; calm = k.calm; named = k.named })
    statement_ready c sees s t at (typed.block z all vs h) k = statements_ready (inside c) sees all vs (opened_at c.env sees heads at) h (record { moves = k.moves; calm = k.calm; named = k.named })
    statement_ready c sees s t at (typed.selection z e v x y o u h i j) k =
        let rest = or_else (unmoved_statement plans y) (unmoved_optional plans u) in
        let later = statement_uses plans sees y ++ optional_uses plans sees u in
        let m = second_none (unmoved_in plans v) rest k.moves in
        let n = helped_second helps (uses plans sees v) later k.named in
        let first = condition_ready sees c.env at e v h (record { moves = first_none (unmoved_in plans v) rest k.moves; calm = k.calm.0; named = helped_first helps (uses plans sees v) later k.named }) in (
          first.ty,
          first.ready,
          statement_ready (inside c) sees x y (opened_at c.env sees heads at) i
              (record { moves = first_none (unmoved_statement plans y) (unmoved_optional plans u) m; calm = k.calm.1; named = helped_first helps (statement_uses plans sees y) (optional_uses plans sees u) n }),
          optional_ready (inside c) sees o u (opened_at c.env sees heads at) j
              (record { moves = second_none (unmoved_statement plans y) (unmoved_optional plans u) m; calm = k.calm.2; named = helped_second helps (statement_uses plans sees y) (optional_uses plans sees u) n }),
        )
    statement_ready c sees s t at (typed.while_loop z e v x y h i) k =
        let first = condition_ready sees c.env at e v h (record { moves = first_none (unmoved_in plans v) (unmoved_statement plans y) k.moves; calm = k.calm.0; named = helped_first helps (uses plans sees v) (statement_uses plans sees y) k.named }) in (
          first.ty,
          first.ready,
          statement_ready (looped c) sees x y (opened_at c.env sees heads at) i
              (record { moves = second_none (unmoved_in plans v) (unmoved_statement plans y) k.moves; calm = k.calm.1; named = helped_second helps (uses plans sees v) (statement_uses plans sees y) k.named }),
        )
    statement_ready c sees s t at (typed.do_loop z x y e v h i) k =
        let last = condition_ready sees c.env at e v i
        (record { moves = second_none (unmoved_statement plans y) (unmoved_in plans v) k.moves; calm = k.calm.1; named = helped_second helps (statement_uses plans sees y) (uses plans sees v) k.named }) in (
          last.ty,
          last.ready,
          statement_ready (looped c) sees x y (opened_at c.env sees heads at) h
              (record { moves = first_none (unmoved_statement plans y) (unmoved_in plans v) k.moves; calm = k.calm.0; named = helped_first helps (statement_uses plans sees y) (uses plans sees v) k.named }),
        )
    statement_ready c sees s t at (typed.for_loop z i j e v n m x y h f g l) k =
        let scope = sees_optional j sees in
        let body_use = statement_uses plans scope y in
        let step_use = maybe_uses plans scope m ++ body_use in
        let condition_use = maybe_uses plans scope v ++ step_use in
        let body_move = unmoved_statement plans y in
        let step_move = or_else (unmoved_option plans m) body_move in
        let condition_move = or_else (unmoved_option plans v) step_move in
        let moves1 = second_none (unmoved_start plans j) condition_move k.moves in
        let moves2 = second_none (unmoved_option plans v) step_move moves1 in
        let named1 = helped_second helps (optional_uses plans sees j) condition_use k.named in
        let named2 = helped_second helps (maybe_uses plans scope v) step_use named1 in
        let start = start_ready (inside c) sees i j (opened_at c.env sees heads at) h
        (record { moves = first_none (unmoved_start plans j) condition_move k.moves; calm = k.calm.0; named = helped_first helps (optional_uses plans sees j) condition_use k.named }) in (
          start.ready,
          maybe_condition scope (behind_first j c).env start.at e v f
              (record { moves = first_none (unmoved_option plans v) step_move moves1; calm = k.calm.1; named = helped_first helps (maybe_uses plans scope v) step_use named1 }),
          maybe_step scope (behind_first j c).env start.at n m g
              (record { moves = first_none (unmoved_option plans m) body_move moves2; calm = k.calm.2; named = helped_first helps (maybe_uses plans scope m) body_use named2 }),
          statement_ready (looped (behind_first j c)) scope x y (opened_at (behind_first j c).env scope heads start.at) l
              (record { moves = second_none (unmoved_option plans m) body_move moves2; calm = k.calm.3; named = helped_second helps (maybe_uses plans scope m) body_use named2 }),
        )
    statement_ready c sees s t at (typed.break_statement z p h) k = tt
    statement_ready c sees s t at (typed.continue_statement z p h) k = tt
    statement_ready c sees s t at (typed.return_statement z p e v h) k = result_ready sees c.env c.result at e v h (record { moves = k.moves; calm = k.calm; named = k.named })
    statement_ready c sees s t at (typed.null_statement z) k = tt

    optional_ready : (c : Around) (sees : Sees) (s t : Optional) → At c.env sees heads → TypedOptional c s t → KnownOptional sees t → ReadyOptional w c.result sees t
    optional_ready c sees s t at (typed.absent z) k = tt
    optional_ready c sees s t at (typed.present z x y h) k = statement_ready c sees x y at h (record { moves = k.moves; calm = k.calm; named = k.named })

    pub statements_ready : (c : Around) (sees : Sees) (all vs : Statements) → At c.env sees heads → TypedStatements c all vs → KnownStatements sees vs → ReadyStatements w c.result sees vs
    statements_ready c sees all vs at (typed.no_more z) k = tt
    statements_ready c sees all vs at (typed.one_more z s t rest more h i) k =
        let first : KnownStatement sees t = record {
          moves = first_none (unmoved_statement plans t) (unmoved_statements plans more) k.moves;
          calm = k.calm.0;
          named = helped_first helps (statement_uses plans sees t) (statements_uses plans (sees_behind t sees) more) k.named;
        } in (
          statement_ready c sees s t at h first,
          statements_ready (record c { env = beyond t c.env }) (sees_behind t sees) rest more (behind_statement c sees s t at h first) i
              (record {
                moves = second_none (unmoved_statement plans t) (unmoved_statements plans more) k.moves;
                calm = k.calm.1;
                named = helped_second helps (statement_uses plans sees t) (statements_uses plans (sees_behind t sees) more) k.named;
              }),
        )
