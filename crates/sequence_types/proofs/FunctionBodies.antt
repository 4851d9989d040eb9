-- The parameters and the statements of the function that is written for a sequence are their own typed forms (C11 6.7, 6.8).
use Rattle.std.proofs.Common.{inl, inr, ◌≡◌, ℕ, suc, ◌+◌, ◌<◌, ◌^◌, ◌⊎◌, Bool, true, false, map, length, List, [], ◌∷◌, ◌++◌, Option, Some, None, refl, sym, ap, ◌∙◌, subst, arith}
use Rattle.c_text.specs.declared.tokens.Place.{Place}
use Rattle.c_text.specs.declared.tokens.Dialect.TheVariants.{Neon}
use Rattle.c_tree.specs.declared.types.CType.{CType}
use Rattle.c_tree.specs.Tree as tree
use Rattle.c_tree.specs.Tree.{Tree, Object, Statement, Statements, NoStatements, Then}
use Rattle.c_tree.specs.View.{and_then}
use Rattle.c_memory.specs.Meaning as meaning
use Rattle.type_rules.specs.Rules.{Assigned}
use Rattle.scopes.specs.declared.environment.Object.{Object as Known}
use Rattle.scopes.specs.Scopes.{Env, named, with_object}
use Rattle.object_types.specs.Objects.{known, behind_declarator}
use Rattle.statement_types.specs.Statements.{with_objects, beyond, around}
use Rattle.statement_types.specs.Typed.{TypedObjects, Returned, TypedStatement, TypedStatements}
use Rattle.vector_types.specs.Typed.{TypedParameters}
use Rattle.seq_core.specs.Actions.{is_void}
use Rattle.seq_core.specs.Terms.{Term}
use Rattle.seq_core.specs.Formed.{type_of, IsCarrier, IsFormed, FormedFrom}
use Rattle.seq_core.specs.Written.{written}
use Rattle.seq_core.specs.Functions as functions
use Rattle.seq_core.specs.Functions.{Variable, variable, param_name, step_name, params_from, pen_over, object_of, step_variable, statement_over, step_statement, steps_written, steps_after, returned, result_type}
use Rattle.sequence_types.specs.Claims.{HasType, IsDeclarable, AreDeclarable}
use Rattle.sequence_types.proofs.Given.{types_agree, assigned_same}
use Rattle.sequence_types.proofs.Written.{term_typed}
use Rattle.sequence_types.proofs.LookedUp.{found_last, still_found}
use Rattle.sequence_types.proofs.DeclaredTypes.{known_plainly, not_void, term_declarable, term_carrier, void_carrier}
use Rattle.sequence_types.proofs.VariableNames.{param_no_row, step_no_row}
use Rattle.sequence_types.proofs.RowsBehind.{RowsBehind, behind_calls}
use Rattle.sequence_types.proofs.SeenVariables.{plain_object, IsSeen, AllSeen, here, anywhere, seen_through, one_more_seen, may_all, all_names_stand, from_here, from_behind, object_typed, begins_with_nothing, begins_with, Stage, next_param, next_step, past_step, rows_behind_step}

-- ---- parameters

abbrev pub declared : Place → List Variable → List Object
declared place vs = map (λ v. object_of place v None) vs

pub objects_keep : (x : List ℕ) (o : Known) (ds : List Object) (env : Env) → named x env.innermost ≡ Some o → named x (with_objects ds env).innermost ≡ Some o
objects_keep x o [] env h = h
objects_keep x o (d ∷ ds) env h = objects_keep x o ds (with_object d.name (known d.constant d.ty) env) (still_found x o env.innermost ((d.name, known d.constant d.ty) ∷ []) h)

module _ (place : Place) where
  pub params_typed : (ts : List CType) (k m : ℕ) (env : Env) → Stage env k m → AreDeclarable ts → k + length ts < 2 ^ 64 → TypedParameters env (declared place (params_from k ts)) (declared place (params_from k ts))
  params_typed [] k m env s d l = TypedParameters.no_parameter env
  params_typed (t ∷ ts) k m env s d l =
      let o = object_of place (variable (param_name k) t) None in
      let rest = declared place (params_from (k + 1) ts) in
      TypedParameters.one_parameter env o o rest rest (record { unaligned = refl; unset = refl; unlisted = refl })
      (object_typed env s.dialect s.neon place (param_name k) t None (param_no_row k) (s.params k (omega arith) (omega (arith, l))) d.0 (begins_with_nothing (behind_declarator (param_name k) false t env) t d.0.carrier))
      (params_typed ts (k + 1) m (with_object (param_name k) (known false t) env) (next_param env k m (known false t) s) d.1 (omega (arith, l)))

  pub params_stage : (ts : List CType) (k m : ℕ) (env : Env) → Stage env k m → Stage (with_objects (declared place (params_from k ts)) env) (k + length ts) m
  params_stage [] k m env s = subst (λ j. Stage env j m) (at k) s
    where
      at : (k : ℕ) → k ≡ k + 0
      at k = omega arith
  params_stage (t ∷ ts) k m env s =
      subst (λ j. Stage (with_objects (declared place (params_from k (t ∷ ts))) env) j m) (at k (length ts)) (params_stage ts (k + 1) m (with_object (param_name k) (known false t) env) (next_param env k m (known false t) s))
    where
      at : (k n : ℕ) → k + 1 + n ≡ k + suc n
      at k n = omega arith

  pub params_seen : (ts : List CType) (k m : ℕ) (env : Env) → Stage env k m → AreDeclarable ts → k + length ts < 2 ^ 64 → AllSeen (here (with_objects (declared place (params_from k ts)) env)) ts (params_from k ts)
  params_seen [] k m env s d l = tt
  params_seen (t ∷ ts) k m env s d l =
      let after = with_object (param_name k) (known false t) env in
      let found = found_last (param_name k) (known false t) env.innermost (s.params k (omega arith) (omega (arith, l))) ∙ ap Some (known_plainly t d.0.carrier) in (
        λ i. record { ty = refl; found = objects_keep (param_name k) (plain_object t) (declared place (params_from (k + 1) ts)) after found; declarable = d.0 },
        params_seen ts (k + 1) m after (next_param env k m (known false t) s) d.1 (omega (arith, l)),
      )

-- ---- steps

pub length_push : (xs : List Variable) (x : Variable) → length xs + 1 ≡ length (xs ++ x ∷ [])
length_push [] x = refl
length_push (y ∷ ys) x = let q : suc (length ys) + 1 ≡ suc (length ys + 1) = omega arith in q ∙ ap suc (length_push ys x)

module _ (place : Place) (n : ℕ) (pts : List CType) (pvs : List Variable) where
  -- what is written for a term over the variables so far
  abbrev pub expression : List Variable → Term → Tree
  expression svs t = written (pen_over place pvs svs) t

  -- the place behind the steps so far
  pub record Reached (env : Env) (sts : List CType) (svs : List Variable) : Type 0 where
    pub stage : Stage env n (length svs)
    pub params : AllSeen (here env) pts pvs
    pub steps : AllSeen (here env) sts svs

  -- a step's statement is its own typed form, and the place behind it is reached
  pub record Stepped (env : Env) (sts : List CType) (svs : List Variable) (s : Statement) : Type 0 where
    pub typed : (result : CType) → TypedStatement (around env result false) s s
    pub reached : Reached (beyond s env) sts svs

  expression_typed : (env : Env) (sts : List CType) (svs : List Variable) (look : Env) → env.dialect ≡ Neon → RowsBehind env → ((x : List ℕ) (o : Known) → named x look.innermost ≡ Some o → anywhere env x ≡ Some o)
      → AllSeen (here look) pts pvs → AllSeen (here look) sts svs → (t : Term) → IsFormed pts sts t → HasType env (type_of pts sts t) (expression svs t)
  expression_typed env sts svs look neon rows through p s t f =
      term_typed env neon (behind_calls env rows) place (map (functions.named place) pvs) (map (functions.named place) svs) pts sts
      (all_names_stand env place pts pvs (seen_through (here look) (anywhere env) through pts pvs p)) (all_names_stand env place sts svs (seen_through (here look) (anywhere env) through sts svs s)) t f

  pub here_typed : (env : Env) (sts : List CType) (svs : List Variable) → Reached env sts svs → (t : Term) → IsFormed pts sts t → HasType env (type_of pts sts t) (expression svs t)
  here_typed env sts svs r t f = expression_typed env sts svs env r.stage.dialect r.stage.rows (from_here env) r.params r.steps t f

  -- it is seen from behind the declarator of the next step too
  behind_typed : (env : Env) (sts : List CType) (svs : List Variable) → Reached env sts svs → length svs < 2 ^ 64 → (u : CType) (t : Term) → IsFormed pts sts t
      → HasType (behind_declarator (step_name (length svs)) false u env) (type_of pts sts t) (expression svs t)
  behind_typed env sts svs r l u t f =
      expression_typed (behind_declarator (step_name (length svs)) false u env) sts svs env r.stage.dialect (rows_behind_step env n (length svs) (known false u) r.stage)
      (from_behind env (step_name (length svs)) u (r.stage.steps (length svs) (omega arith) l)) r.params r.steps t f

  step_typed : (env : Env) (sts : List CType) (svs : List Variable) → Reached env sts svs → length svs < 2 ^ 64 → (t : Term) → IsFormed pts sts t → (v : Bool) → is_void t ≡ v
      → Stepped env (sts ++ type_of pts sts t ∷ []) (svs ++ step_variable place pvs svs t ∷ []) (statement_over place (step_name (length svs)) v (expression svs t))
  step_typed env sts svs r l t f true e =
      let x = step_variable place pvs svs t in
      let none : IsCarrier (type_of pts sts t) → IsSeen (here env) (type_of pts sts t) x = λ i. absurd (void_carrier pts sts (may_all (here env) pts pvs r.params) (may_all (here env) sts svs r.steps) t e i) in
      record {
        typed = λ result. TypedStatement.expression (around env result false) (expression svs t) (expression svs t) (here_typed env sts svs r t f).0;
        reached = record {
          stage = subst (Stage env n) (length_push svs x) (past_step env n (length svs) r.stage);
          params = r.params;
          steps = one_more_seen (here env) sts svs (type_of pts sts t) x r.steps none;
        };
      }
  step_typed env sts svs r l t f false e =
      let x = step_variable place pvs svs t in
      let y = step_name (length svs) in
      let a = expression svs t in
      let u = meaning.type_of a in
      let p = may_all (here env) pts pvs r.params in
      let s = may_all (here env) sts svs r.steps in
      let carrier = term_carrier pts sts p s t f e in
      let declarable = term_declarable pts sts p s t f carrier in
      let same : u ≡ type_of pts sts t = types_agree a ∙ (here_typed env sts svs r t f).1 in
      let of_u : IsDeclarable u = subst IsDeclarable (sym same) declarable in
      let typed : HasType (behind_declarator y false u env) u a = subst (λ z. HasType (behind_declarator y false u env) z a) (sym same) (behind_typed env sts svs r l u t f) in
      let new = r.stage.steps (length svs) (omega arith) l in
      let d = object_of place (variable y u) (Some a) in
      let after = with_object y (known false u) env in
      let kept : (z : List ℕ) (o : Known) → named z env.innermost ≡ Some o → named z after.innermost ≡ Some o = λ z o h. still_found z o env.innermost ((y, known false u) ∷ []) h in
      let found : named y after.innermost ≡ Some (plain_object (type_of pts sts t)) = found_last y (known false u) env.innermost new ∙ ap Some (known_plainly u of_u.carrier ∙ ap plain_object same) in
      record {
        typed = λ result. TypedStatement.declaration (around env result false) (d ∷ []) (d ∷ [])
            (TypedObjects.one_object env d d [] [] (object_typed env r.stage.dialect r.stage.neon place y u (Some a) (step_no_row (length svs)) new of_u (begins_with (behind_declarator y false u env) u a of_u.carrier typed)) (TypedObjects.no_object after));
        reached = record {
          stage = subst (Stage after n) (length_push svs x) (next_step env n (length svs) (known false u) r.stage);
          params = seen_through (here env) (here after) kept pts pvs r.params;
          steps = one_more_seen (here after) sts svs (type_of pts sts t) x (seen_through (here env) (here after) kept sts svs r.steps) (λ i. record { ty = same; found = found; declarable = declarable });
        };
      }

  -- ---- the body

  -- what a function gives
  abbrev pub IsResultType : CType → Type 0
  IsResultType t = (t ≡ CType.Void) ⊎ IsDeclarable t

  abbrev pub behind : List Variable → List Term → List Variable
  behind svs steps = steps_after place pvs svs steps

  abbrev pub gives : List Variable → List Term → Option Term → CType
  gives svs steps result = result_type (pen_over place pvs (behind svs steps)) result

  abbrev pub statements : List Variable → List Term → Option Term → Statements
  statements svs steps result = and_then (steps_written place pvs svs steps ++ returned (pen_over place pvs (behind svs steps)) result) NoStatements

  abbrev pub BodyIsTyped : Env → List Variable → List Term → Option Term → Type 0
  BodyIsTyped env svs steps result =
      IsResultType (gives svs steps result) × ((t : CType) → t ≡ gives svs steps result → TypedStatements (around env t false) (statements svs steps result) (statements svs steps result))

  end_typed : (env : Env) (sts : List CType) (svs : List Variable) → Reached env sts svs → (result : Option Term) → FormedFrom pts sts [] result → BodyIsTyped env svs [] result
  end_typed env sts svs r None f = (inl refl, λ t e. TypedStatements.no_more (around env t false))
  end_typed env sts svs r (Some t) f =
      let a = expression svs t in
      let h = here_typed env sts svs r t f.1 in
      let same : meaning.type_of a ≡ type_of pts sts t = types_agree a ∙ h.1 in
      let declarable = term_declarable pts sts (may_all (here env) pts pvs r.params) (may_all (here env) sts svs r.steps) t f.1 f.0 in (
        inr (subst IsDeclarable (sym same) declarable),
        λ u e. TypedStatements.one_more (around env u false) (tree.Return place (Some a)) (tree.Return place (Some a)) NoStatements NoStatements
            (TypedStatement.return_statement (around env u false) place (Some a) (Some a)
            (Returned.value a a a (λ q. not_void (type_of pts sts t) f.0 (sym (e ∙ same) ∙ q)) h.0 (subst (λ z. Assigned a z a) (sym (e ∙ same)) (assigned_same (type_of pts sts t) a f.0 h.1)))) (TypedStatements.no_more (around env u false)),
      )

  pub body_typed : (env : Env) (sts : List CType) (svs : List Variable) → Reached env sts svs → (steps : List Term) (result : Option Term) → FormedFrom pts sts steps result → length svs + length steps < 2 ^ 64
      → BodyIsTyped env svs steps result
  body_typed env sts svs r [] result f l = end_typed env sts svs r result f
  body_typed env sts svs r (t ∷ rest) result f l =
      let x = step_variable place pvs svs t in
      let s = step_statement place pvs svs t in
      let h = step_typed env sts svs r (omega (arith, l)) t f.0 (is_void t) refl in
      let long = length_push svs x in
      let b = body_typed (beyond s env) (sts ++ type_of pts sts t ∷ []) (svs ++ x ∷ []) h.reached rest result f.1 (omega (arith, l, long)) in
      let tail = statements (svs ++ x ∷ []) rest result in
      (b.0, λ u e. TypedStatements.one_more (around env u false) s s tail tail (h.typed u) (b.1 u e))
