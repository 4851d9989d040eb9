-- A call of a row is its own typed form (C11 6.5.2.2): where the row's name means the row.
use Rattle.std.proofs.Common.{◌≡◌, ℕ, Bool, true, false, nat_lt, map, List, Option, Some, None, Ok, Err, refl, sym, ap, subst}
use Rattle.std.proofs.lemmas.Bool.{ltb-true}
use Rattle.std.specs.Prelude.{if◌then◌else◌}
use Rattle.lane_core.specs.declared.table.ImmRange.{ImmRange}
use Rattle.lane_core.specs.declared.table.ImmRange.TheVariants.{NoImmediate}
use Rattle.lane_core.specs.Table.{params_of, InImmRange}
use Rattle.c_text.specs.declared.tokens.Place.{Place}
use Rattle.c_text.specs.declared.tokens.Dialect.TheVariants.{Neon}
use Rattle.c_tree.specs.declared.types.CType.{CType}
use Rattle.c_tree.specs.Tree as tree
use Rattle.c_tree.specs.Tree.{Tree, Trees, Node}
use Rattle.c_tree.specs.Marks.{short}
use Rattle.neon_table.specs.declared.NeonOp.{NeonOp}
use Rattle.neon_table.specs.Rows.{name_of, form_of, signature_of, range_of}
use Rattle.type_rules.specs.Passing.{Heading, parameter, kind_type, row_heading, immediate_of}
use Rattle.type_rules.specs.Rules.{Passed}
use Rattle.scopes.specs.declared.environment.Object.{Object}
use Rattle.scopes.specs.Scopes.{Env, Callee, Row, named, object_named}
use Rattle.expression_types.specs.Names.{is_unknown_intrinsic, is_widening, widening, Target}
use Rattle.expression_types.specs.Check.{Checked, refuse, row_called, function_called, object_called, called}
use Rattle.expression_types.specs.Typed as typing
use Rattle.expression_types.specs.Typed.{Typed, TypedAll}
use Rattle.seq_core.specs.Formed.{type_of_kind, operand_types}
use Rattle.seq_core.specs.Written.{call, with_constant}
use Rattle.sequence_types.specs.Claims.{SeesRows, HasType}
use Rattle.sequence_types.proofs.RowKinds.{all_taken, gives_type, constant_in_range}
use Rattle.sequence_types.proofs.Operands.{AllTyped, operands_typed, operands_passed, constant_fits}

-- Calls of rows are typed at this place: with arguments that are given as they stand, and with the constant in its range.
abbrev pub CallsRows : Env → Type 0
CallsRows env =
    (op : NeonOp) (p : Place) (t : CType) (all inner : Trees) → TypedAll env all inner → Passed (map parameter (params_of (signature_of op))) inner all
    → typing.Immediate (range_of op) (immediate_of (map parameter (params_of (signature_of op))) all) → Typed env (Node p t (tree.Call (name_of op) all)) (Node p (kind_type (signature_of op).result) (tree.Call (name_of op) all))

-- the row as a called name stands for it
abbrev pub row_target : NeonOp → Target
row_target op = record { heading = row_heading (signature_of op); range = range_of op; outside = false }

abbrev pub heading_in : Checked Target → Heading
heading_in (Ok t) = t.heading
heading_in (Err r) = widening

abbrev pub range_in : Checked Target → ImmRange
range_in (Ok t) = t.range
range_in (Err r) = NoImmediate

abbrev pub outside_in : Checked Target → Bool
outside_in (Ok t) = t.outside
outside_in (Err r) = true

module _ (env : Env) (op : NeonOp) (p : Place) (t : CType) (all inner : Trees) (typed : TypedAll env all inner) (passed : Passed (map parameter (params_of (signature_of op))) inner all)
    (fits : typing.Immediate (range_of op) (immediate_of (map parameter (params_of (signature_of op))) all)) where
  abbrev x : List ℕ
  x = name_of op

  abbrev IsCall : CType → Type 0
  IsCall u = Typed env (Node p t (tree.Call x all)) (Node p u (tree.Call x all))

  -- by its heading and range, which are those of the row
  by_heading : (h : Heading) (range : ImmRange) → h ≡ row_heading (signature_of op) → range ≡ range_of op
      → (Passed h.params inner all → typing.Immediate range (immediate_of h.params all) → IsCall h.result) → IsCall (kind_type (signature_of op).result)
  by_heading h range e r goes =
      subst (λ g. IsCall g.result) e (goes (subst (λ g. Passed g.params inner all) (sym e) passed) (
      subst (λ g. typing.Immediate range (immediate_of g.params all)) (sym e) (subst (λ k. typing.Immediate k (immediate_of (map parameter (params_of (signature_of op))) all)) (sym r) fits)))

  as_row : is_unknown_intrinsic x env ≡ false → object_named x env ≡ None → named x env.functions ≡ None → (r : Option Row) → env.rows x ≡ r → row_called x p env r ≡ Ok (row_target op)
      → IsCall (kind_type (signature_of op).result)
  as_row u o f (Some r) e h =
      by_heading r.heading r.range (ap heading_in h) (ap range_in h) (λ a b. Typed.call_of_row p t x r all inner all u o f e typed a b)
  as_row u o f None e h = widened (is_widening env.dialect x) h
    where
      widened : (b : Bool) → (if b then Ok (record { heading = widening; range = NoImmediate; outside = true }) else refuse 10 p (short x)) ≡ Ok (row_target op) → IsCall (kind_type (signature_of op).result)
      widened true h = let no : true ≡ false = ap outside_in h in absurd (cc)
      widened false h = absurd (cc)

  -- a function of the unit with the row's heading, where one has its name and may be called
  as_function : is_unknown_intrinsic x env ≡ false → object_named x env ≡ None → (o : Option Callee) → named x env.functions ≡ o → function_called x p env o ≡ Ok (row_target op)
      → IsCall (kind_type (signature_of op).result)
  as_function u o None e h = as_row u o e (env.rows x) refl h
  as_function u o (Some f) e h = before (nat_lt f.order env.here) refl h
    where
      before : (b : Bool) → nat_lt f.order env.here ≡ b → (if b then Ok (record { heading = f.heading; range = NoImmediate; outside = env.calls_none }) else refuse 17 p (short x)) ≡ Ok (row_target op)
          → IsCall (kind_type (signature_of op).result)
      before true i h =
          by_heading f.heading NoImmediate (ap heading_in h) (ap range_in h) (λ a b. Typed.call_of_function p t x f all inner all u o e (ltb-true f.order env.here i) (ap outside_in h) typed a b)
      before false i h = absurd (cc)

  as_object : is_unknown_intrinsic x env ≡ false → (o : Option Object) → object_named x env ≡ o → object_called x p env o ≡ Ok (row_target op) → IsCall (kind_type (signature_of op).result)
  as_object u None e h = as_function u e (named x env.functions) refl h
  as_object u (Some o) e h = absurd (cc)

  pub as_called : called x p env ≡ Ok (row_target op) → IsCall (kind_type (signature_of op).result)
  as_called h = at (is_unknown_intrinsic x env) refl h
    where
      at : (b : Bool) → is_unknown_intrinsic x env ≡ b → (if b then refuse 13 p (short x) else object_called x p env (object_named x env)) ≡ Ok (row_target op) → IsCall (kind_type (signature_of op).result)
      at true e h = absurd (cc)
      at false e h = as_object e (object_named x env) refl h

pub sees_calls : (env : Env) → SeesRows env → CallsRows env
sees_calls env sees op p t all inner typed passed fits = as_called env op p t all inner typed passed fits (sees.rows op p)

-- a call that is written for a term
pub call_typed : (env : Env) → env.dialect ≡ Neon → CallsRows env → (place : Place) (op : NeonOp) (all : Trees) (imm : ℕ) → InImmRange (range_of op) imm
    → AllTyped env (operand_types (params_of (signature_of op))) all → HasType env (type_of_kind (signature_of op).result) (call place op (with_constant place (params_of (signature_of op)) all imm))
call_typed env neon calls place op all imm range h =
    let ks = params_of (signature_of op) in
    let w = with_constant place ks all imm in
    let goes = calls op place (type_of_kind (signature_of op).result) w w (operands_typed env neon place imm ks all (all_taken (form_of op)) h) (operands_passed env neon place imm ks all (all_taken (form_of op)) h)
    (constant_fits (range_of op) place ks all imm (constant_in_range (form_of op) imm range)) in
    (subst (λ u. Typed env (call place op w) (Node place u (tree.Call (name_of op) w))) (gives_type (form_of op)) goes, refl)
