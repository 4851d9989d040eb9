-- Rows are seen from inside a function (C11 6.2.1p4): behind the scope of the file, and behind names that aren't theirs.
use Rattle.std.proofs.Common.{◌≡◌, ℕ, Bool, true, false, List, Option, Some, None, Ok, refl, ap, ◌∙◌}
use Rattle.std.specs.Prelude.{if◌then◌else◌}
use Rattle.lane_core.specs.declared.table.ImmRange.TheVariants.{NoImmediate}
use Rattle.c_text.specs.declared.tokens.Place.{Place}
use Rattle.c_tree.specs.Marks.{short}
use Rattle.neon_table.specs.declared.NeonOp.{NeonOp}
use Rattle.neon_table.specs.Rows.{name_of, signature_of, range_of}
use Rattle.type_rules.specs.Passing.{row_heading}
use Rattle.scopes.specs.declared.environment.Object.{Object}
use Rattle.scopes.specs.Scopes.{Env, Callee, Row, named, same_name, visible, object_named, opened, with_object}
use Rattle.expression_types.specs.Names.{is_unknown_intrinsic, is_widening, widening}
use Rattle.expression_types.specs.Check.{refuse, row_called, function_called, object_called}
use Rattle.expression_types.specs.Typed.{Typed}
use Rattle.sequence_types.specs.Claims.{SeesRows}
use Rattle.sequence_types.proofs.LookedUp.{both_none, none_of_both, invisible, still_none}
use Rattle.sequence_types.proofs.CallsOfRows.{CallsRows, row_target, heading_in, range_in, outside_in}

-- the row as a place sees it
abbrev pub row_seen : NeonOp → Row
row_seen op = record { heading = row_heading (signature_of op); range = range_of op }

-- each row is found by its name, and nothing else is
pub record RowsBehind (env : Env) : Type 0 where
  pub known : (op : NeonOp) → is_unknown_intrinsic (name_of op) env ≡ false
  pub inner : (op : NeonOp) → named (name_of op) env.innermost ≡ None
  pub outer : (op : NeonOp) → visible (name_of op) env.outer ≡ None
  pub undefined : (op : NeonOp) → named (name_of op) env.functions ≡ None
  pub row : (op : NeonOp) → env.rows (name_of op) ≡ Some (row_seen op)

pub behind_calls : (env : Env) → RowsBehind env → CallsRows env
behind_calls env r op p t all inner typed passed fits =
    Typed.call_of_row p t (name_of op) (row_seen op) all inner all (r.known op) (none_of_both (named (name_of op) env.innermost) (visible (name_of op) env.outer) (r.inner op) (r.outer op)) (r.undefined op) (r.row op) typed passed fits

-- ---- from what calls see

module _ (env : Env) (op : NeonOp) (p : Place) where
  abbrev x : List ℕ
  x = name_of op

  told_row : (r : Option Row) → row_called x p env r ≡ Ok (row_target op) → r ≡ Some (row_seen op)
  told_row (Some r) h = ap (λ g. Some (record { heading = g; range = r.range })) (ap heading_in h) ∙ ap (λ k. Some (record { heading = row_heading (signature_of op); range = k })) (ap range_in h)
  told_row None h = widened (is_widening env.dialect x) h
    where
      widened : (b : Bool) → (if b then Ok (record { heading = widening; range = NoImmediate; outside = true }) else refuse 10 p (short x)) ≡ Ok (row_target op) → ◌≡◌ {A = Option Row} None (Some (row_seen op))
      widened true h = let no : true ≡ false = ap outside_in h in absurd (cc)
      widened false h = absurd (cc)

  told_function : (o : Option Callee) → o ≡ None → function_called x p env o ≡ Ok (row_target op) → row_called x p env (env.rows x) ≡ Ok (row_target op)
  told_function None e h = h
  told_function (Some f) e h = absurd (cc)

  told_object : (o : Option Object) → object_called x p env o ≡ Ok (row_target op) → (o ≡ None) × (function_called x p env (named x env.functions) ≡ Ok (row_target op))
  told_object None h = (refl, h)
  told_object (Some o) h = absurd (cc)

  told_known : (b : Bool) → (if b then refuse 13 p (short x) else object_called x p env (object_named x env)) ≡ Ok (row_target op) → (b ≡ false) × (object_called x p env (object_named x env) ≡ Ok (row_target op))
  told_known true h = absurd (cc)
  told_known false h = (refl, h)

pub rows_behind : (env : Env) → SeesRows env → (p : Place) → RowsBehind env
rows_behind env sees p =
    let known : (op : NeonOp) → (is_unknown_intrinsic (name_of op) env ≡ false) × (object_called (name_of op) p env (object_named (name_of op) env) ≡ Ok (row_target op)) = λ op. told_known env op p (is_unknown_intrinsic (name_of op) env) (sees.rows op p) in
    let objects : (op : NeonOp) → (object_named (name_of op) env ≡ None) × (function_called (name_of op) p env (named (name_of op) env.functions) ≡ Ok (row_target op)) = λ op. told_object env op p (object_named (name_of op) env) (known op).1 in
    record {
      known = λ op. (known op).0;
      inner = λ op. (both_none (named (name_of op) env.innermost) (visible (name_of op) env.outer) (objects op).0).0;
      outer = λ op. (both_none (named (name_of op) env.innermost) (visible (name_of op) env.outer) (objects op).0).1;
      undefined = sees.undefined;
      row = λ op. told_row env op p (env.rows (name_of op)) (told_function env op p (named (name_of op) env.functions) (sees.undefined op) (objects op).1);
    }

-- ---- and what stays so

pub behind_helper : (env : Env) (b : Bool) → RowsBehind env → RowsBehind (record env { calls_none = b })
behind_helper env b r = record { known = r.known; inner = r.inner; outer = r.outer; undefined = r.undefined; row = r.row }

pub behind_opened : (env : Env) → RowsBehind env → RowsBehind (opened env)
behind_opened env r = record { known = r.known; inner = λ op. refl; outer = λ op. invisible (name_of op) env.outer env.innermost (r.outer op) (r.inner op); undefined = r.undefined; row = r.row }

pub behind_object : (env : Env) (y : List ℕ) (o : Object) → ((op : NeonOp) → same_name (name_of op) y ≡ false) → RowsBehind env → RowsBehind (with_object y o env)
behind_object env y o d r =
    record { known = r.known; inner = λ op. still_none (name_of op) y o env.innermost (r.inner op) (d op); outer = r.outer; undefined = r.undefined; row = r.row }
