-- Each sequence fits its row.
use Rattle.std.proofs.Common.{◌≡◌, ℕ, ◌≤◌, List, [], ◌∷◌, ◌++◌, length, map, Bool, true, false, Option, Some, None, refl, sym, ap, ◌∙◌, subst, arith}
use Rattle.std.specs.Prelude.{option_map, if◌then◌else◌, ◌&&◌, slice_get}
use Rattle.std.specs.Option.{option_and_then}
use Rattle.lane_core.specs.declared.table.Arg.{Arg}
use Rattle.lane_core.specs.declared.table.ParamKind.{ParamKind}
use Rattle.lane_core.specs.Table.{params_of, Fits, FitsKinds, InImmRange}
use Rattle.c_memory.specs.Matching.{written_type}
use Rattle.c_memory.specs.MeaningRows.{is_in_range}
use Rattle.intel_table.specs.declared.IntelOp.{IntelOp}
use Rattle.intel_table.specs.Laws.{counts_parameters}
use Rattle.intel_table.specs.Rows.{form_of, signature_of, range_of, eval_of}
use Rattle.type_rules.specs.Passing.{kind_type}
use Rattle.price_choice.specs.declared.forms.Form.{Form}
use Rattle.price_choice.specs.Choice.{price_by}
use Rattle.price_choice.specs.Forms.{gives_of}
use Rattle.price_choice.specs.List.{forms}
use Rattle.seq_core.specs.Terms.{Sequence}
use Rattle.seq_core.specs.Values.{evaluated}
use Rattle.seq_core.specs.Claims.{IsCallable}
use Rattle.seq_core.specs.Formed.{WellFormed, sequence_type}
use Rattle.seq_arith.specs.Claims as arith
use Rattle.seq_arith.specs.Plans as arith_plans
use Rattle.seq_pack.specs.Claims as pack
use Rattle.seq_pack.specs.Plans as pack_plans
use Rattle.seq_pack.specs.Listed.{carrier_of}
use Rattle.shuffle_plans.specs.Claims.{IsRowSequence, FormsServe}
use Rattle.shuffle_plans.specs.Operands.{picks}
use Rattle.shuffle_plans.specs.Plans.{is_one_block, plan_by}
use Rattle.shuffle_plans.specs.Selections.{is_shuffle, picked_at}
use Rattle.written_forms.specs.Planned.{FitsRow}
use Rattle.written_forms.specs.Ready.{operand_types}
use Rattle.written_forms.specs.Vectors.{has_immediate}
use Rattle.written_forms.specs.Scalars.{IsValue, AreValues, IsValueRow, but_immediate, ValueRowsStand}
use Rattle.row_plans.specs.Claims.{PlansFit}
use Rattle.row_plans.specs.Plans.{Prices, cheapest, shuffled, or_plan, plan_of, planned}
use Rattle.row_plans.proofs.Chosen.{least_among}
use Rattle.row_plans.proofs.Rows.{arith_form, shuffle_form, pack_form, of_vectors, unread, carriers_written, carrier_written, values_written, behind_is, arith_operands, pack_operands, shuffle_operands, few_params}

-- the laws of the crates below
pub record Laws : Type 0 where
  pub stand : ValueRowsStand
  pub arith : arith.PlansAreRows
  pub pack : pack.PlansAreRows
  pub serve : FormsServe

inner : {A : Type 0} {a b : A} → Some a ≡ Some b → a ≡ b
inner h = cc

-- a row that reads no memory has arguments of its parameters' kinds alone
fit_kinds : (op : IntelOp) (args : List Arg) → AreValues (params_of (signature_of op)) → Fits (signature_of op) args → FitsKinds (params_of (signature_of op)) args
fit_kinds op args h f =
    let ks = params_of (signature_of op) in
    subst (λ l. FitsKinds l args) (ap (λ b. if b then ks ++ ((signature_of op).result ∷ []) else ks) (unread ks h)) f

can_be_called : (op : IntelOp) (q : Sequence) → WellFormed q → q.params ≡ map written_type (operand_types (params_of (signature_of op))) → length q.steps ≤ 2 → IsCallable q
can_be_called op q w e l =
    let a : length q.params ≤ 32 = subst (λ ps. length ps ≤ 32) (sym e) (few_params (signature_of op).count (signature_of op).params (counts_parameters op).0) in
    (w, omega (arith, a), omega (arith, l))

-- what is asked of a sequence so that it fits its row
module _ (laws : Laws) (op : IntelOp) (imm : ℕ) (q : Sequence) (range : InImmRange (range_of op) imm) (zero_imm : has_immediate (params_of (signature_of op)) ≡ false → imm ≡ 0) where
  abbrev ks : List ParamKind
  ks = params_of (signature_of op)

  fits : IsValueRow op → WellFormed q → q.params ≡ map written_type (operand_types ks) → sequence_type q ≡ written_type (kind_type (signature_of op).result) → length q.steps ≤ 2
      → ((args : List Arg) → Fits (signature_of op) args → evaluated q (but_immediate ks args) ≡ Some (eval_of op args imm)) → FitsRow op imm q
  fits is w params result steps value =
      record { stands = laws.stand op imm q is range zero_imm (can_be_called op q w params steps) params result value; result = result }

  arith_fits : arith_plans.plan_of op imm ≡ Some q → FitsRow op imm q
  arith_fits e =
      let r = laws.arith op imm q e in
      let f = arith_form (form_of op) imm q e in
      let values = of_vectors ks f.params in
      let none : length q.steps ≤ 2 = subst (λ l. length l ≤ 2) (sym r.steps) (omega arith) in
      fits (record { params = values; result = subst IsValue (sym f.result) refl; still = f.still }) r.formed (r.params ∙ carriers_written ks f.params)
      (r.result ∙ ap (λ k. written_type (kind_type k)) (sym f.result)) none
      (λ args fit. ap (evaluated q) (sym (arith_operands ks values args (fit_kinds op args values fit))) ∙ r.value args fit)

  pack_fits : pack_plans.plan_of op imm ≡ Some q → FitsRow op imm q
  pack_fits e =
      let r = laws.pack op imm q range e in
      let f = pack_form (form_of op) imm q e in
      fits (record { params = f.params; result = f.result; still = f.still }) r.formed (r.typed.0 ∙ values_written ks f.params)
      (behind_is q.params [] q.steps q.result (carrier_of (signature_of op).result) r.typed.1 ∙ carrier_written (signature_of op).result f.result) r.steps
      (λ args fit. ap (evaluated q) (sym (pack_operands ks f.params args (fit_kinds op args f.params fit))) ∙ r.value args fit)

  form_fits : (g : Form) (i : ℕ) → is_shuffle (form_of op) ≡ true → is_one_block (form_of op) ≡ true → slice_get forms i ≡ Some g → gives_of g (picks (picked_at (form_of op) imm 0)) ≡ true
      → plan_by g (form_of op) imm 0 ≡ q → FitsRow op imm q
  form_fits g i s one there gives e =
      let r = subst (IsRowSequence (form_of op) imm) e (laws.serve (form_of op) imm i g s there gives) in
      let d = shuffle_form (form_of op) one in
      let f = d.0 in
      let values = of_vectors ks f.params in
      let none : length q.steps ≤ 2 = subst (λ l. length l ≤ 2) (sym r.steps) (omega arith) in
      fits (record { params = values; result = subst IsValue (sym f.result) refl; still = f.still }) r.formed (r.params ∙ d.1 ∙ carriers_written ks f.params)
      (r.result ∙ ap (λ k. written_type (kind_type k)) (sym f.result)) none
      (λ args fit. ap (evaluated q) (sym (shuffle_operands ks f.params args (fit_kinds op args values fit))) ∙ r.value args one fit)

  shuffle_fits : (prices : Prices) → shuffled prices (form_of op) imm ≡ Some q → FitsRow op imm q
  shuffle_fits prices e = at (is_shuffle (form_of op)) (is_one_block (form_of op)) refl refl e
    where
      chosen : is_shuffle (form_of op) ≡ true → is_one_block (form_of op) ≡ true → (o : Option Form) → cheapest prices (picks (picked_at (form_of op) imm 0)) ≡ o
          → option_map (λ g. plan_by g (form_of op) imm 0) o ≡ Some q → FitsRow op imm q
      chosen s one None c h = absurd (grind (arith, h))
      chosen s one (Some g) c h =
          let m = least_among (λ g. gives_of g (picks (picked_at (form_of op) imm 0))) (price_by prices) forms g c in
          form_fits g m.place s one m.there m.passed (inner h)

      at : (a b : Bool) → is_shuffle (form_of op) ≡ a → is_one_block (form_of op) ≡ b
          → (if a && b then option_map (λ g. plan_by g (form_of op) imm 0) (cheapest prices (picks (picked_at (form_of op) imm 0))) else None) ≡ Some q → FitsRow op imm q
      at true true s one h = chosen s one (cheapest prices (picks (picked_at (form_of op) imm 0))) refl h
      at true false s one h = absurd (grind (arith, h))
      at false b s one h = absurd (grind (arith, h))

  pub planned_fits : (prices : Prices) → plan_of prices op imm ≡ Some q → FitsRow op imm q
  planned_fits prices e = first (arith_plans.plan_of op imm) refl e
    where
      second : (o : Option Sequence) → pack_plans.plan_of op imm ≡ o → or_plan o (shuffled prices (form_of op) imm) ≡ Some q → FitsRow op imm q
      second None c h = shuffle_fits prices h
      second (Some x) c h = pack_fits (c ∙ h)

      first : (o : Option Sequence) → arith_plans.plan_of op imm ≡ o → or_plan o (or_plan (pack_plans.plan_of op imm) (shuffled prices (form_of op) imm)) ≡ Some q → FitsRow op imm q
      first None c h = second (pack_plans.plan_of op imm) refl h
      first (Some x) c h = arith_fits (c ∙ h)

pub plans_fit : Laws → PlansFit
plans_fit laws prices f op imm q found params result range zero_imm e =
    at (is_in_range (range_of op) imm) (sym (ap (λ o. option_and_then (planned prices imm) o) found) ∙ e)
  where
    at : (b : Bool) → (if b then plan_of prices op imm else None) ≡ Some q → FitsRow op imm q
    at true h = planned_fits laws op imm q range zero_imm prices h
    at false h = absurd (grind (arith, h))
