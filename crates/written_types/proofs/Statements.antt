-- What is written for a statement has its types (C11 6.8). A body that was one statement is a block of it: a scope inside a scope.
use Rattle.std.proofs.Common.{◌≡◌, refl, sym, ap, ◌∙◌, subst, ℕ, Bool, true, false, List, [], ◌∷◌, Option, Some, None}
use Rattle.std.specs.Prelude.{option_map}
use Rattle.c_text.specs.declared.tokens.Place.{Place}
use Rattle.c_tree.specs.declared.types.CType.{CType}
use Rattle.c_tree.specs.Nodes.{node_type}
use Rattle.c_tree.specs.Tree.{Tree, Object, Statement, Statements, Optional, Declare, Run, Block, If, While, DoWhile, For, Break, Continue, Return, Empty, Absent, Present, NoStatements, Then}
use Rattle.c_memory.specs.Matching.{written_type}
use Rattle.scopes.specs.Scopes.{Env, or_else, opened}
use Rattle.type_rules.specs.Rules.{IsScalar}
use Rattle.expression_types.specs.Typed.{Typed}
use Rattle.statement_types.specs.Statements.{Around, around, inside, looped, beyond, beyond_optional}
use Rattle.statement_types.specs.Typed as typed
use Rattle.statement_types.specs.Typed.{TypedCondition, OptionalCondition, OptionalExpression, Returned, behind_first, TypedStatement, TypedOptional, TypedStatements}
use Rattle.seq_core.specs.Terms.{Sequence}
use Rattle.sequence_types.specs.Claims.{InPlaceIsTyped}
use Rattle.written_forms.specs.Seen.{Sees}
use Rattle.written_forms.specs.Moved.{Plans, moved}
use Rattle.written_forms.specs.Statements.{moved_objects, sees_behind, sees_optional, braced, braced_else, moved_statement, moved_optional, moved_else, moved_statements}
use Rattle.ready_units.specs.Movable.{unmoved_in, unmoved_option, unmoved_start, unmoved_statement, unmoved_optional, unmoved_statements}
use Rattle.written_forms.specs.Planned.{AreFit}
use Rattle.written_forms.specs.Ready.{Setting, Ready}
use Rattle.written_forms.specs.ReadyStatements.{ReadyCondition, ReadyStep, ReadyResult, ReadyStart, ReadyStatement, ReadyOptional, ReadyStatements}
use Rattle.written_forms.specs.ReadyUnits.{Heads, setting}
use Rattle.written_types.proofs.Types.{scalar_written}
use Rattle.written_types.proofs.Fine.{first_none, second_none, fine}
use Rattle.written_types.proofs.Places.{At, opened_at, deeper}
use Rattle.written_types.proofs.Conversions.{Own, given_fine, given_own}
use Rattle.written_types.proofs.Expressions.{own}
use Rattle.written_types.proofs.Objects.{objects_own}

-- what stands around a statement of the source and around what is written for it
pub record Beside (w : Setting) (c d : Around) : Type 0 where
  pub at : At w c.env d.env
  pub result : d.result ≡ written_type c.result
  pub in_loop : d.in_loop ≡ c.in_loop

-- no type but `void` is written `void`
not_void : (t : CType) → (t ≡ CType.Void → ⊥) → written_type t ≡ CType.Void → ⊥
not_void CType.Void n h = n refl
not_void (CType.Int s) n h = absurd (cc)
not_void CType.M128 n h = absurd (cc)
not_void CType.M256 n h = absurd (cc)
not_void (CType.Neon l wide) n h = absurd (cc)
not_void CType.Pair n h = absurd (cc)
not_void (CType.Pointer e c) n h = absurd (cc)
not_void (CType.Array e n k) m h = absurd (cc)

-- a scope that opens on both sides, the same in a loop, and one more on the other side alone
inside_beside : (w : Setting) (c d : Around) → Beside w c d → Beside w (inside c) (inside d)
inside_beside w c d b = record { at = opened_at w c.env d.env b.at; result = b.result; in_loop = b.in_loop }

looped_beside : (w : Setting) (c d : Around) → Beside w c d → Beside w (looped c) (looped d)
looped_beside w c d b = record { at = opened_at w c.env d.env b.at; result = b.result; in_loop = refl }

deeper_beside : (w : Setting) (c d : Around) → Beside w c d → Beside w c (inside d)
deeper_beside w c d b = record { at = deeper w c.env d.env b.at; result = b.result; in_loop = b.in_loop }

-- a body in braces has its types where the statement has them in the same scope and in one inside it
alone : (d : Around) (s : Statement) → TypedStatement (inside d) s s → TypedStatement d (Block (Then s NoStatements)) (Block (Then s NoStatements))
alone d s h = typed.block d (Then s NoStatements) (Then s NoStatements) (typed.one_more (inside d) s s NoStatements NoStatements h (typed.no_more (record (inside d) { env = beyond s (inside d).env })))

braced_typed : (d : Around) (s : Statement) → TypedStatement d s s → TypedStatement (inside d) s s → TypedStatement d (braced s) (braced s)
braced_typed d (Block all) h g = h
braced_typed d s h g = alone d s g

-- an `if` directly behind `else` stays
else_typed : (d : Around) (s : Statement) → TypedStatement d s s → TypedStatement (inside d) s s → TypedStatement d (braced_else s) (braced_else s)
else_typed d (If e s o) h g = h
else_typed d (Block all) h g = h
else_typed d s h g = alone d s g

module _ (plans : Plans) (fit : AreFit plans) (law : InPlaceIsTyped) (helps : List ℕ → ℕ → Bool) (heads : Heads) where
  abbrev Sides : Around → Around → Type 0
  Sides c d = Beside (setting plans helps heads) c d

  tree_own : (sees : Sees) (c d : Around) → Sides c d → (e v : Tree) → Typed c.env e v → unmoved_in plans v ≡ None → Ready (setting plans helps heads) sees v → Own plans sees d.env v
  tree_own sees c d b e v h m r = own plans fit law helps sees heads c.env d.env b.at e v h (fine plans (setting plans helps heads) sees v m r)

  -- ---- parts of statements

  condition_own : (sees : Sees) (c d : Around) → Sides c d → (e v : Tree) → TypedCondition c.env e v → unmoved_in plans v ≡ None → Ready (setting plans helps heads) sees v
      → TypedCondition d.env (moved plans sees v) (moved plans sees v)
  condition_own sees c d b e v (typed.condition x y h i) m r =
      let o = tree_own sees c d b e v h m r in
      typed.condition (moved plans sees v) (moved plans sees v) o.typed (subst IsScalar (sym o.ty) (scalar_written (node_type v) i))

  maybe_condition : (sees : Sees) (c d : Around) → Sides c d → (e v : Option Tree) → OptionalCondition c.env e v → unmoved_option plans v ≡ None → ReadyCondition (setting plans helps heads) sees v
      → OptionalCondition d.env (option_map (moved plans sees) v) (option_map (moved plans sees) v)
  maybe_condition sees c d b e v typed.no_condition m r = typed.no_condition
  maybe_condition sees c d b e v (typed.one_condition x y h) m r = typed.one_condition (moved plans sees y) (moved plans sees y) (condition_own sees c d b x y h m r.1)

  maybe_step : (sees : Sees) (c d : Around) → Sides c d → (e v : Option Tree) → OptionalExpression c.env e v → unmoved_option plans v ≡ None → ReadyStep (setting plans helps heads) sees v
      → OptionalExpression d.env (option_map (moved plans sees) v) (option_map (moved plans sees) v)
  maybe_step sees c d b e v typed.no_expression m r = typed.no_expression
  maybe_step sees c d b e v (typed.one_expression x y h) m r = typed.one_expression (moved plans sees y) (moved plans sees y) (tree_own sees c d b x y h m r).typed

  returned_as : (there : Env) (t u : CType) (e v : Option Tree) → u ≡ t → Returned there t e v → Returned there u e v
  returned_as there t u e v h r = subst (λ z. Returned there z e v) (sym h) r

  result_own : (sees : Sees) (c d : Around) → Sides c d → (e v : Option Tree) → Returned c.env c.result e v → unmoved_option plans v ≡ None → ReadyResult (setting plans helps heads) sees c.result v
      → Returned d.env d.result (option_map (moved plans sees) v) (option_map (moved plans sees) v)
  result_own sees c d b e v (typed.nothing n) m r = typed.nothing (b.result ∙ ap written_type n)
  result_own sees c d b e v (typed.value x a y n h g) m r =
      let k = fine plans (setting plans helps heads) sees y m r.1 in
      let o = own plans fit law helps sees heads c.env d.env b.at x a h (given_fine plans sees (setting plans helps heads) a y c.result g k) in
      let v = given_own plans sees (setting plans helps heads) d.env a y c.result g k o in
      returned_as d.env (written_type c.result) d.result (Some (moved plans sees y)) (Some (moved plans sees y)) b.result
      (typed.value (moved plans sees y) (moved plans sees a) (moved plans sees y) (not_void c.result n) v.typed v.given)

  -- ---- what is left in scope

  behind_statement : (sees : Sees) (c d : Around) (s t : Statement) → Sides c d → TypedStatement c s t → unmoved_statement plans t ≡ None → ReadyStatement (setting plans helps heads) c.result sees t
      → Sides (record c { env = beyond t c.env }) (record d { env = beyond (moved_statement plans sees t) d.env })
  behind_statement sees c d s t b (typed.declaration z all vs h) m r = record { at = (objects_own plans fit law helps heads sees c.env d.env all vs b.at h m r).at; result = b.result; in_loop = b.in_loop }
  behind_statement sees c d s t b (typed.expression z e v h) m r = record { at = b.at; result = b.result; in_loop = b.in_loop }
  behind_statement sees c d s t b (typed.block z all vs h) m r = record { at = b.at; result = b.result; in_loop = b.in_loop }
  behind_statement sees c d s t b (typed.selection z e v x y o u h i j) m r = record { at = b.at; result = b.result; in_loop = b.in_loop }
  behind_statement sees c d s t b (typed.while_loop z e v x y h i) m r = record { at = b.at; result = b.result; in_loop = b.in_loop }
  behind_statement sees c d s t b (typed.do_loop z x y e v h i) m r = record { at = b.at; result = b.result; in_loop = b.in_loop }
  behind_statement sees c d s t b (typed.for_loop z i j e v n k x y h f g l) m r = record { at = b.at; result = b.result; in_loop = b.in_loop }
  behind_statement sees c d s t b (typed.break_statement z p h) m r = record { at = b.at; result = b.result; in_loop = b.in_loop }
  behind_statement sees c d s t b (typed.continue_statement z p h) m r = record { at = b.at; result = b.result; in_loop = b.in_loop }
  behind_statement sees c d s t b (typed.return_statement z p e v h) m r = record { at = b.at; result = b.result; in_loop = b.in_loop }
  behind_statement sees c d s t b (typed.null_statement z) m r = record { at = b.at; result = b.result; in_loop = b.in_loop }

  -- the first part of a `for`, and what it leaves in scope
  record StartOwn (sees : Sees) (c d : Around) (j : Optional) : Type 0 where
    pub typed : TypedOptional d (moved_optional plans sees j) (moved_optional plans sees j)
    pub behind : Sides (record c { env = beyond_optional j c.env }) (record d { env = beyond_optional (moved_optional plans sees j) d.env })

  start_own : (sees : Sees) (c d : Around) (i j : Optional) → Sides c d → TypedOptional c i j → unmoved_start plans j ≡ None → ReadyStart (setting plans helps heads) sees j → StartOwn sees c d j
  start_own sees c d i j b (typed.absent z) m r = record { typed = typed.absent d; behind = record { at = b.at; result = b.result; in_loop = b.in_loop } }
  start_own sees c d i j b (typed.present z s t (typed.declaration y all vs h)) m r =
      let o = objects_own plans fit law helps heads sees c.env d.env all vs b.at h m r in
      let ws = moved_objects plans sees vs in
      record { typed = typed.present d (Declare ws) (Declare ws) (typed.declaration d ws ws o.typed); behind = record { at = o.at; result = b.result; in_loop = b.in_loop } }
  start_own sees c d i j b (typed.present z s t (typed.expression y e v h)) m r =
      let x = moved plans sees v in
      record { typed = typed.present d (Run x) (Run x) (typed.expression d x x (tree_own sees c d b e v h m r).typed); behind = record { at = b.at; result = b.result; in_loop = b.in_loop } }
  start_own sees c d i j b (typed.present z s t (typed.block y all vs h)) m r = absurd r
  start_own sees c d i j b (typed.present z s t (typed.selection y e v x q o u h l n)) m r = absurd r
  start_own sees c d i j b (typed.present z s t (typed.while_loop y e v x q h l)) m r = absurd r
  start_own sees c d i j b (typed.present z s t (typed.do_loop y x q e v h l)) m r = absurd r
  start_own sees c d i j b (typed.present z s t (typed.for_loop y q p e v n k x u h f g l)) m r = absurd r
  start_own sees c d i j b (typed.present z s t (typed.break_statement y p h)) m r = absurd r
  start_own sees c d i j b (typed.present z s t (typed.continue_statement y p h)) m r = absurd r
  start_own sees c d i j b (typed.present z s t (typed.return_statement y p e v h)) m r = absurd r
  start_own sees c d i j b (typed.present z s t (typed.null_statement y)) m r = absurd r

  -- ---- statements

  -- a statement in braces, from what is known of it in any scope beside its own
  body_own : (sees : Sees) (c d : Around) (t : Statement) → Sides c d → ((e : Around) → Sides c e → TypedStatement e (moved_statement plans sees t) (moved_statement plans sees t))
      → TypedStatement d (braced (moved_statement plans sees t)) (braced (moved_statement plans sees t))
  body_own sees c d t b f = braced_typed d (moved_statement plans sees t) (f d b) (f (inside d) (deeper_beside (setting plans helps heads) c d b))

  mutual
    statement_own : (sees : Sees) (c d : Around) (s t : Statement) → Sides c d → TypedStatement c s t → unmoved_statement plans t ≡ None → ReadyStatement (setting plans helps heads) c.result sees t
        → TypedStatement d (moved_statement plans sees t) (moved_statement plans sees t)
    statement_own sees c d s t b (typed.declaration z all vs h) m r = typed.declaration d (moved_objects plans sees vs) (moved_objects plans sees vs) (objects_own plans fit law helps heads sees c.env d.env all vs b.at h m r).typed
    statement_own sees c d s t b (typed.expression z e v h) m r = typed.expression d (moved plans sees v) (moved plans sees v) (tree_own sees c d b e v h m r).typed
    statement_own sees c d s t b (typed.block z all vs h) m r =
        typed.block d (moved_statements plans sees vs) (moved_statements plans sees vs) (statements_own sees (inside c) (inside d) all vs (inside_beside (setting plans helps heads) c d b) h m r)
    statement_own sees c d s t b (typed.selection z e v x y o u h i j) m r =
        let rest = or_else (unmoved_statement plans y) (unmoved_optional plans u) in
        let later = second_none (unmoved_in plans v) rest m in
        let w = inside_beside (setting plans helps heads) c d b in
        let body = braced (moved_statement plans sees y) in
        typed.selection d (moved plans sees v) (moved plans sees v) body body (moved_else plans sees u) (moved_else plans sees u) (condition_own sees c d b e v h (first_none (unmoved_in plans v) rest m) r.1)
        (body_own sees (inside c) (inside d) y w (λ f g. statement_own sees (inside c) f x y g i (first_none (unmoved_statement plans y) (unmoved_optional plans u) later) r.2))
        (else_own sees (inside c) (inside d) o u w j (second_none (unmoved_statement plans y) (unmoved_optional plans u) later) r.3)
    statement_own sees c d s t b (typed.while_loop z e v x y h i) m r =
        let body = braced (moved_statement plans sees y) in
        typed.while_loop d (moved plans sees v) (moved plans sees v) body body (condition_own sees c d b e v h (first_none (unmoved_in plans v) (unmoved_statement plans y) m) r.1)
        (body_own sees (looped c) (looped d) y (looped_beside (setting plans helps heads) c d b) (λ f g. statement_own sees (looped c) f x y g i (second_none (unmoved_in plans v) (unmoved_statement plans y) m) r.2))
    statement_own sees c d s t b (typed.do_loop z x y e v h i) m r =
        let body = braced (moved_statement plans sees y) in
        typed.do_loop d body body (moved plans sees v) (moved plans sees v)
        (body_own sees (looped c) (looped d) y (looped_beside (setting plans helps heads) c d b) (λ f g. statement_own sees (looped c) f x y g h (first_none (unmoved_statement plans y) (unmoved_in plans v) m) r.2))
        (condition_own sees c d b e v i (second_none (unmoved_statement plans y) (unmoved_in plans v) m) r.1)
    statement_own sees c d s t b (typed.for_loop z i j e v n k x y h f g l) m r =
        let scope = sees_optional j sees in
        let body_move = unmoved_statement plans y in
        let step_move = or_else (unmoved_option plans k) body_move in
        let condition_move = or_else (unmoved_option plans v) step_move in
        let first = second_none (unmoved_start plans j) condition_move m in
        let second = second_none (unmoved_option plans v) step_move first in
        let start = start_own sees (inside c) (inside d) i j (inside_beside (setting plans helps heads) c d b) h (first_none (unmoved_start plans j) condition_move m) r.0 in
        let here = behind_first j c in
        let there = behind_first (moved_optional plans sees j) d in
        let body = braced (moved_statement plans scope y) in
        typed.for_loop d (moved_optional plans sees j) (moved_optional plans sees j) (option_map (moved plans scope) v) (option_map (moved plans scope) v) (option_map (moved plans scope) k) (option_map (moved plans scope) k) body body start.typed
        (maybe_condition scope here there start.behind e v f (first_none (unmoved_option plans v) step_move first) r.1)
        (maybe_step scope here there start.behind n k g (first_none (unmoved_option plans k) body_move second) r.2)
        (body_own scope (looped here) (looped there) y (looped_beside (setting plans helps heads) here there start.behind)
        (λ q u. statement_own scope (looped here) q x y u l (second_none (unmoved_option plans k) body_move second) r.3))
    statement_own sees c d s t b (typed.break_statement z p h) m r = typed.break_statement d p (b.in_loop ∙ h)
    statement_own sees c d s t b (typed.continue_statement z p h) m r = typed.continue_statement d p (b.in_loop ∙ h)
    statement_own sees c d s t b (typed.return_statement z p e v h) m r = typed.return_statement d p (option_map (moved plans sees) v) (option_map (moved plans sees) v) (result_own sees c d b e v h m r)
    statement_own sees c d s t b (typed.null_statement z) m r = typed.null_statement d

    else_own : (sees : Sees) (c d : Around) (s t : Optional) → Sides c d → TypedOptional c s t → unmoved_optional plans t ≡ None → ReadyOptional (setting plans helps heads) c.result sees t
        → TypedOptional d (moved_else plans sees t) (moved_else plans sees t)
    else_own sees c d s t b (typed.absent z) m r = typed.absent d
    else_own sees c d s t b (typed.present z x y h) m r =
        let body = braced_else (moved_statement plans sees y) in
        typed.present d body body (else_typed d (moved_statement plans sees y) (statement_own sees c d x y b h m r) (statement_own sees c (inside d) x y (deeper_beside (setting plans helps heads) c d b) h m r))

    pub statements_own : (sees : Sees) (c d : Around) (all vs : Statements) → Sides c d → TypedStatements c all vs → unmoved_statements plans vs ≡ None → ReadyStatements (setting plans helps heads) c.result sees vs
        → TypedStatements d (moved_statements plans sees vs) (moved_statements plans sees vs)
    statements_own sees c d all vs b (typed.no_more z) m r = typed.no_more d
    statements_own sees c d all vs b (typed.one_more z s t rest more h i) m r =
        let first = first_none (unmoved_statement plans t) (unmoved_statements plans more) m in
        let x = moved_statement plans sees t in
        let xs = moved_statements plans (sees_behind t sees) more in
        typed.one_more d x x xs xs (statement_own sees c d s t b h first r.0)
        (statements_own (sees_behind t sees) (record c { env = beyond t c.env }) (record d { env = beyond x d.env }) rest more (behind_statement sees c d s t b h first r.0) i
        (second_none (unmoved_statement plans t) (unmoved_statements plans more) m) r.1)
