-- Calls of rows and of functions (C11 6.5.2.2).
use Rattle.std.proofs.Common.{◌≡◌, refl, sym, ap, ◌∙◌, subst, ℕ, Bool, true, false, List, [], ◌∷◌, map, Option, Some, None, if◌then◌else◌}
use Rattle.std.specs.Prelude.{option_map}
use Rattle.c_text.specs.declared.tokens.Dialect.TheVariants.{X86}
use Rattle.c_text.specs.declared.tokens.Place.{Place}
use Rattle.lane_core.specs.Table.{params_of}
use Rattle.c_tree.specs.declared.types.CType.{CType}
use Rattle.c_tree.specs.Marks.{short}
use Rattle.c_tree.specs.Tree.{Trees, Node, Call}
use Rattle.scopes.specs.Scopes.{Env, Row, Callee}
use Rattle.intel_table.specs.declared.IntelOp.{IntelOp}
use Rattle.intel_table.specs.Rows.{find_of, form_of, signature_of, range_of}
use Rattle.type_rules.specs.Passing.{parameter, kind_type, immediate_of}
use Rattle.type_rules.specs.Rules.{Passed}
use Rattle.expression_types.specs.Typed.{Immediate}
use Rattle.vector_types.specs.Rows.{row_told, row_of_table}
use Rattle.seq_core.specs.Terms.{Sequence}
use Rattle.seq_core.specs.InPlace.{stands_in_place}
use Rattle.written_forms.specs.Seen.{Sees}
use Rattle.written_forms.specs.Moved.{Plans, operands, immediate_among, simple, helper_name}
use Rattle.written_forms.specs.Helpers.{use_of, row_uses, called_uses, all_uses}
use Rattle.ready_units.specs.Movable.{is_moved_type, unmoved, unplanned, unmoved_name, unmoved_among}
use Rattle.written_forms.specs.Planned.{AreFit}
use Rattle.written_forms.specs.Ready.{Ready, AreReady, IsCall, CallsFunction, CallsRow, AreCarried}
use Rattle.written_forms.specs.ReadyUnits.{Heads, setting}
use Rattle.ready_units.proofs.Calm.{CalmCall}
use Rattle.ready_units.proofs.SeenObjects.{SeenHead}
use Rattle.ready_units.proofs.Immediates.{at_most_one, range_fits, told}
use Rattle.ready_units.proofs.Sound.{Helps, Helped, Sound, SoundAll, moved_parts, first_none, second_none, helped_first, helped_second, carried_of}
use Rattle.ready_units.proofs.Arguments.{passed, row_passed}

-- ---- the row that a name means

pub record IsRow (f : List ℕ) (r : Row) : Type 0 where
  pub op : IntelOp
  pub is : find_of f ≡ Some op
  pub same : r ≡ row_told (signature_of op) (range_of op)

pub row_found : (env : Env) (f : List ℕ) (r : Row) → env.rows ≡ row_of_table X86 → env.rows f ≡ Some r → IsRow f r
row_found env f r h e = at (find_of f) refl (sym (ap (λ g. g f) h) ∙ e)
  where
    at : (o : Option IntelOp) → find_of f ≡ o → option_map (λ op. row_told (signature_of op) (range_of op)) o ≡ Some r → IsRow f r
    at None g k = absurd (cc)
    at (Some op) g k = record { op = op; is = g; same = cc }

-- ---- calls

-- what is known of a call, of the row or the function that it names and of its arguments
record SoundCall (plans : Plans) (helps : Helps) (sees : Sees) (p : Place) (t : CType) (f : List ℕ) (o : Option IntelOp) (args : Trees) : Type 0 where
  pub moves : unmoved_name plans p t f o args ≡ None
  pub calm : CalmCall o args
  pub named : Helped helps (called_uses plans sees f o args)

pub arguments_sound : (plans : Plans) (helps : Helps) (sees : Sees) (p : Place) (t : CType) (f : List ℕ) (args : Trees) → Sound plans helps sees (Node p t (Call f args)) → SoundAll plans helps sees args
arguments_sound plans helps sees p t f args k = record {
  moves = second_none (unmoved_name plans p t f (find_of f) args) (unmoved_among plans args) (moved_parts plans helps sees p t (Call f args) k);
  calm = k.calm.1;
  named = helped_second helps (called_uses plans sees f (find_of f) args) (all_uses plans sees args) k.named;
}

call_sound : (plans : Plans) (helps : Helps) (sees : Sees) (p : Place) (t : CType) (f : List ℕ) (args : Trees) → Sound plans helps sees (Node p t (Call f args)) → SoundCall plans helps sees p t f (find_of f) args
call_sound plans helps sees p t f args k = record {
  moves = first_none (unmoved_name plans p t f (find_of f) args) (unmoved_among plans args) (moved_parts plans helps sees p t (Call f args) k);
  calm = k.calm.0;
  named = helped_first helps (called_uses plans sees f (find_of f) args) (all_uses plans sees args) k.named;
}

-- the row gives a value of a moved type, and has a sequence
record HasPlan (plans : Plans) (t : CType) (f : List ℕ) (imm : ℕ) : Type 0 where
  pub ty : is_moved_type t ≡ true
  pub plan : Sequence
  pub is : plans f imm ≡ Some plan

has_plan : (plans : Plans) (p : Place) (t : CType) (f : List ℕ) (op : IntelOp) (args : Trees) → unmoved_name plans p t f (Some op) args ≡ None → HasPlan plans t f (immediate_among (params_of (signature_of op)) args)
has_plan plans p t f op args h = at (is_moved_type t) refl (plans f (immediate_among (params_of (signature_of op)) args)) refl h
  where
    at : (b : Bool) → is_moved_type t ≡ b → (o : Option Sequence) → plans f (immediate_among (params_of (signature_of op)) args) ≡ o
        → (if b then unplanned o (unmoved p (short f)) else Some (unmoved p (short f))) ≡ None → HasPlan plans t f (immediate_among (params_of (signature_of op)) args)
    at true e (Some q) g h2 = record { ty = e; plan = q; is = g }
    at true e None g h2 = absurd (cc)
    at false e o g h2 = absurd (cc)

module _ (plans : Plans) (helps : Helps) (sees : Sees) (heads : Heads) where
  -- where the sequence doesn't stand in place, it has a function
  helped_call : (f : List ℕ) (op : IntelOp) (args : Trees) (q : Sequence) → plans f (immediate_among (params_of (signature_of op)) args) ≡ Some q → Helped helps (called_uses plans sees f (Some op) args)
      → stands_in_place (simple sees (operands (params_of (signature_of op)) args)) q ≡ false → helps f (immediate_among (params_of (signature_of op)) args) ≡ true
  helped_call f op args q e n s =
      let imm = immediate_among (params_of (signature_of op)) args in
      let name = helper_name f (range_of op) imm in
      let flags = simple sees (operands (params_of (signature_of op)) args) in
      let here : Helped helps (row_uses f imm name (Some q) flags) = subst (λ o. Helped helps (row_uses f imm name o flags)) e n in
      (subst (λ b. Helped helps (if b then [] else use_of f imm name q ∷ [])) s here).0

  pub row_ready : AreFit plans → (p : Place) (f : List ℕ) (r : Row) (all args : Trees) → IsRow f r → Passed r.heading.params all args → Immediate r.range (immediate_of r.heading.params args)
      → (SoundAll plans helps sees all → AreReady (setting plans helps heads) sees all) → Sound plans helps sees (Node p r.heading.result (Call f args)) → Ready (setting plans helps heads) sees (Node p r.heading.result (Call f args))
  row_ready fit p f r all args row h i ready k =
      let op = row.op in
      let ks = params_of (signature_of op) in
      let imm = immediate_among ks args in
      let result : r.heading.result ≡ kind_type (signature_of op).result = ap (λ z. z.heading.result) row.same in
      let passes : Passed (map parameter ks) all args = subst (λ z. Passed z.heading.params all args) row.same h in
      let constant : Immediate (range_of op) (immediate_of (map parameter ks) args) = subst (λ z. Immediate z.range (immediate_of z.heading.params args)) row.same i in
      let among = told ks (range_of op) (at_most_one (form_of op)) (range_fits (form_of op)) all args passes constant in
      let taken = row_passed plans helps sees (setting plans helps heads) ks all args passes (arguments_sound plans helps sees p r.heading.result f args k) in
      let call : SoundCall plans helps sees p r.heading.result f (Some op) args = subst (λ o. SoundCall plans helps sees p r.heading.result f o args) row.is (call_sound plans helps sees p r.heading.result f args k) in
      let planned = has_plan plans p r.heading.result f op args call.moves in
      let fits = fit f op imm planned.plan row.is taken.carried (carried_of (kind_type (signature_of op).result) (subst (λ t. is_moved_type t ≡ true) result planned.ty)) among.in_range among.none planned.is in
      let calls : CallsRow (setting plans helps heads) sees r.heading.result f op args = record {
        plan = planned.plan;
        is = planned.is;
        stands = fits.stands;
        gives = fits.result;
        immediate = among.is;
        helped = helped_call f op args planned.plan planned.is call.named;
        types = taken.types;
        carried = subst (λ ts. AreCarried ts) (sym taken.types) taken.carried;
        result = result;
        undisturbed = call.calm;
      } in
      (subst (λ o. IsCall (setting plans helps heads) sees r.heading.result f o args) (sym row.is) calls, taken.ready (ready taken.sound))

  pub function_ready : (p : Place) (f : List ℕ) (c : Callee) (all args : Trees) → SeenHead heads f c → Passed c.heading.params all args
      → (SoundAll plans helps sees all → AreReady (setting plans helps heads) sees all) → Sound plans helps sees (Node p c.heading.result (Call f args)) → Ready (setting plans helps heads) sees (Node p c.heading.result (Call f args))
  function_ready p f c all args seen h ready k =
      let taken = passed plans helps sees (setting plans helps heads) seen.head.params all args (subst (λ ps. Passed ps all args) seen.params h) (arguments_sound plans helps sees p c.heading.result f args k) in
      let calls : CallsFunction (setting plans helps heads) c.heading.result f args = record { head = seen.head; is = seen.is; types = taken.types; result = seen.result } in
      (subst (λ o. IsCall (setting plans helps heads) sees c.heading.result f o args) (sym seen.free) calls, taken.ready (ready taken.sound))
