-- Calls of rows and of functions (C11 6.5.2.2) in what is written: a sequence stands in place, or a function is called.
use Rattle.std.proofs.Common.{◌≡◌, refl, sym, ap, ◌∙◌, subst, ℕ, ◌<◌, Bool, true, false, not, ◌&&◌, List, [], ◌∷◌, map, Option, Some, None, if◌then◌else◌}
use Rattle.std.proofs.lemmas.Slice.Eq.{bytes_eq-Decides}
use Rattle.std.specs.Prelude.{option_map, take, codes, is_some}
use Rattle.c_text.specs.declared.tokens.Dialect.TheVariants.{X86}
use Rattle.c_text.specs.declared.tokens.Place.{Place}
use Rattle.lane_core.specs.declared.table.ImmRange.TheVariants.{NoImmediate}
use Rattle.lane_core.specs.declared.table.ParamKind.{ParamKind}
use Rattle.lane_core.specs.Table.{params_of, InImmRange}
use Rattle.c_tree.specs.declared.types.CType.{CType}
use Rattle.c_tree.specs.Nodes.{node_type}
use Rattle.c_tree.specs.Tree.{Tree, Trees, Node, Call, NoTrees, More}
use Rattle.c_memory.specs.Matching.{written_type}
use Rattle.c_memory.specs.Meaning.{is_helper}
use Rattle.scopes.specs.Scopes.{Env, Row, Callee, named, same_name, object_named}
use Rattle.intel_table.specs.declared.IntelOp.{IntelOp}
use Rattle.intel_table.specs.Rows.{find_of, form_of, signature_of, range_of}
use Rattle.type_rules.specs.declared.passing.Parameter.TheVariants as passing
use Rattle.type_rules.specs.Passing.{parameter, kind_type, immediate_of}
use Rattle.type_rules.specs.Rules.{Passed}
use Rattle.expression_types.specs.Names.{is_unknown_intrinsic}
use Rattle.expression_types.specs.Typed as typed
use Rattle.expression_types.specs.Typed.{Typed, TypedAll, Immediate, no_immediate}
use Rattle.vector_types.specs.Rows.{row_told, row_of_table}
use Rattle.seq_core.specs.Terms.{Sequence}
use Rattle.seq_core.specs.Formed.{sequence_type}
use Rattle.seq_core.specs.InPlace.{stands_in_place, in_place}
use Rattle.seq_core.specs.Listed.{listed}
use Rattle.sequence_types.specs.Claims.{InPlaceIsTyped, HaveTypes, HasType}
use Rattle.written_forms.specs.Seen.{Sees}
use Rattle.written_forms.specs.Moved.{all_stated, Plans, operands, immediate_among, simple, helper_name, row_written, called, moved, moved_all}
use Rattle.ready_units.specs.Movable.{is_moved_type}
use Rattle.written_forms.specs.Planned.{FitsRow, AreFit}
use Rattle.written_forms.specs.Ready.{CallsRow, IsCarried, AreCarried, operand_types}
use Rattle.written_forms.specs.ReadyUnits.{Heads, setting}
use Rattle.written_types.proofs.Fine.{Fine, AllFine, FineCall}
use Rattle.written_types.proofs.Places.{At, SeenFunction, SeenHelper, first_false, unseen, helper_unseen, sees_rows}
use Rattle.written_types.proofs.Conversions.{Own, AllOwn}
use Rattle.written_types.proofs.Stated.{all_have}
use Rattle.written_types.proofs.Arguments.{IsGiven, AreGiven, no_immediate_of, PassedOwn, passed_own, OperandsOwn, operands_own}
use Rattle.written_types.proofs.HelperTypes.{heading_made, helper_heading}
use Rattle.written_types.proofs.Immediates.{range_fits, told}

-- ---- the row that a name means

pub record IsRow (f : List ℕ) (r : Row) : Type 0 where
  pub op : IntelOp
  pub is : find_of f ≡ Some op
  pub same : r ≡ row_told (signature_of op) (range_of op)

pub row_found : (env : Env) (f : List ℕ) (r : Row) → env.rows ≡ row_of_table X86 → env.rows f ≡ Some r → IsRow f r
row_found env f r h e = at (find_of f) refl (sym (ap (λ g. g f) h) ∙ e)
  where
    at : (o : Option IntelOp) → find_of f ≡ o → option_map (λ op. row_told (signature_of op) (range_of op)) o ≡ Some r → IsRow f r
    at None g k = absurd (cc)
    at (Some op) g k = record { op = op; is = g; same = cc }

carried_of : (t : CType) → is_moved_type t ≡ true → IsCarried t
carried_of (CType.Int s) h = tt
carried_of CType.M128 h = tt
carried_of CType.Void h = absurd (cc)
carried_of CType.M256 h = absurd (cc)
carried_of (CType.Neon l wide) h = absurd (cc)
carried_of CType.Pair h = absurd (cc)
carried_of (CType.Pointer e c) h = absurd (cc)
carried_of (CType.Array e n c) h = absurd (cc)

-- the name of a row's function begins no intrinsic's
helper_plain : (x : List ℕ) → is_helper x ≡ true → same_name (take 3 x) (codes "_mm") ≡ false
helper_plain x h = ap (λ z. same_name z (codes "_mm")) ((bytes_eq-Decides (take 3 x) (codes "mg_")).0 h)

known_name : (there : Env) (x : List ℕ) → same_name (take 3 x) (codes "_mm") ≡ false → is_unknown_intrinsic x there ≡ false
known_name there x h = first_false (same_name (take 3 x) (codes "_mm")) (not (is_some (there.rows x))) (not (same_name x (codes "_mm256_castsi128_si256"))) h

-- ---- a call of a function with this heading

typed_call : (there : Env) (p : Place) (t : CType) (ts : List CType) (f : List ℕ) (c : Callee) (all args : Trees) → c.heading ≡ heading_made t ts → is_unknown_intrinsic f there ≡ false → object_named f there ≡ None
    → named f there.functions ≡ Some c → c.order < there.here → there.calls_none ≡ false → TypedAll there args all → Passed (map passing.Object ts) all args → Typed there (Node p t (Call f args)) (Node p t (Call f args))
typed_call there p t ts f c all args e unknown none is before calls types passed =
    subst (λ h. Typed there (Node p t (Call f args)) (Node p h.result (Call f args))) e
    (typed.call_of_function p t f c args all args unknown none is before calls types (subst (λ h. Passed h.params all args) (sym e) passed)
    (subst (λ h. Immediate NoImmediate (immediate_of h.params args)) (sym e) (subst (Immediate NoImmediate) (sym (no_immediate_of ts args)) no_immediate)))

module _ (plans : Plans) (fit : AreFit plans) (law : InPlaceIsTyped) (helps : List ℕ → ℕ → Bool) (sees : Sees) (heads : Heads) (env there : Env)
    (at : At (setting plans helps heads) env there) where
  pub function_own : (p : Place) (f : List ℕ) (c : Callee) (all args : Trees) → SeenFunction there.functions there.here f c → object_named f env ≡ None → Passed c.heading.params all args
      → AllFine (setting plans helps heads) sees args → AllOwn plans sees there all → Own plans sees there (Node p c.heading.result (Call f args))
  function_own p f c all args s none h k o =
      let t = c.heading.result in
      let passed = passed_own plans sees (setting plans helps heads) there s.types all args (subst (λ z. Passed z all args) s.params h) k o in
      let whole = typed_call there p (written_type t) (map written_type s.types) f s.callee (moved_all plans sees all) (moved_all plans sees args) s.written (known_name there f s.plain)
      (unseen (setting plans helps heads) env there f at none) s.is s.before at.calls passed.typed passed.passed in
      let same : called plans sees p (written_type t) f (find_of f) args (moved_all plans sees args) ≡ Node p (written_type t) (Call f (moved_all plans sees args)) = ap (λ z. called plans sees p (written_type t) f z args (moved_all plans sees args)) s.free in
      record { typed = subst (λ z. Typed there z z) (sym same) whole; ty = ap node_type same }

  row_is : (p : Place) (t : CType) (f : List ℕ) (op : IntelOp) (all args : Trees) → find_of f ≡ Some op → CallsRow (setting plans helps heads) sees t f op args → is_moved_type t ≡ true
      → Passed (map parameter (params_of (signature_of op))) all args → Immediate (range_of op) (immediate_of (map parameter (params_of (signature_of op))) args)
      → AllFine (setting plans helps heads) sees args → AllOwn plans sees there all → Own plans sees there (Node p t (Call f args))
  row_is p t f op all args found c moves passed i k o = record { typed = subst (λ z. Typed there z z) (sym same) (whole.0); ty = ap node_type same ∙ whole.1 }
    where
      ks : List ParamKind
      ks = params_of (signature_of op)

      imm : ℕ
      imm = immediate_among ks args

      x : List ℕ
      x = helper_name f (range_of op) imm

      ops : Trees
      ops = operands ks (moved_all plans sees args)

      mine : OperandsOwn plans sees (setting plans helps heads) there ks all args
      mine = operands_own plans sees (setting plans helps heads) there ks all args passed k o

      params : c.plan.params ≡ map written_type (operand_types ks)
      params = c.stands.params

      -- the sequence fits the row
      fits : FitsRow op imm c.plan
      fits =
          let about = told ks (range_of op) (range_fits (form_of op)) all args passed i in
          fit f op imm c.plan found (subst AreCarried c.types c.carried) (subst IsCarried c.result (carried_of t moves)) about.in_range about.none c.is

      gives : sequence_type c.plan ≡ written_type t
      gives = fits.result ∙ ap written_type (sym c.result)

      stands : stands_in_place (simple sees (operands ks args)) c.plan ≡ true → HasType there (written_type t) (in_place p (listed (all_stated ops)) c.plan.result)
      stands e =
          let typed_all = all_have there at.dialect (operand_types ks) (subst AreCarried c.types c.carried) ops mine.given in
          let h = law there (sees_rows (setting plans helps heads) env there at) p (listed (all_stated ops)) (simple sees (operands ks args)) c.plan c.stands.callable.0
          (subst (λ z. HaveTypes there z (listed (all_stated ops))) (sym params) typed_all) e in
          (h.0, h.1 ∙ gives)

      calls : stands_in_place (simple sees (operands ks args)) c.plan ≡ false → HasType there (written_type t) (Node p (written_type t) (Call x ops))
      calls e =
          let s = at.helpers f imm op c.plan found c.is (c.helped e) in (
            typed_call there p (written_type t) (map written_type (operand_types ks)) x s.callee (operands ks (moved_all plans sees all)) ops (s.head ∙ helper_heading x c.plan (operand_types ks) t params gives)
                (known_name there x (helper_plain x s.helper)) (helper_unseen (setting plans helps heads) env there x at s.helper) s.is s.before at.calls mine.typed mine.passed,
            refl,
          )

      either : (b : Bool) → stands_in_place (simple sees (operands ks args)) c.plan ≡ b → HasType there (written_type t) (if b then in_place p (listed (all_stated ops)) c.plan.result else Node p (written_type t) (Call x ops))
      either true e = stands e
      either false e = calls e

      whole : HasType there (written_type t) (row_written p (written_type t) x (Some c.plan) (simple sees (operands ks args)) ops)
      whole = either (stands_in_place (simple sees (operands ks args)) c.plan) refl

      same : called plans sees p (written_type t) f (find_of f) args (moved_all plans sees args) ≡ row_written p (written_type t) x (Some c.plan) (simple sees (operands ks args)) ops
      same = ap (λ z. called plans sees p (written_type t) f z args (moved_all plans sees args)) found ∙ ap (λ z. row_written p (written_type t) x z (simple sees (operands ks args)) ops) c.is

  pub row_own : (p : Place) (f : List ℕ) (r : Row) (all args : Trees) → IsRow f r → FineCall (setting plans helps heads) sees r.heading.result f (find_of f) args → Passed r.heading.params all args
      → Immediate r.range (immediate_of r.heading.params args) → AllFine (setting plans helps heads) sees args → AllOwn plans sees there all → Own plans sees there (Node p r.heading.result (Call f args))
  row_own p f r all args s c passed i k o =
      let known = row_told (signature_of s.op) (range_of s.op) in
      let call : FineCall (setting plans helps heads) sees r.heading.result f (Some s.op) args = subst (λ z. FineCall (setting plans helps heads) sees r.heading.result f z args) s.is c in
      row_is p r.heading.result f s.op all args s.is call.0 call.1 (subst (λ z. Passed z.heading.params all args) s.same passed) (subst (λ z. Immediate z.range (immediate_of z.heading.params args)) s.same i) k o
