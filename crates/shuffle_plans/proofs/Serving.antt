-- The sequence of each form that gives a row's selection is one of the row.
use Rattle.std.proofs.Common.{◌≡◌, ℕ, ◌<◌, List, [], ◌∷◌, length, Bool, true, false, Some, refl, subst, sym, ◌∙◌, arith}
use Rattle.std.specs.Prelude.{if◌then◌else◌, slice_get}
use Rattle.std.proofs.lemmas.Option.{slice_get_within, get_or_from_slice_get}
use Rattle.price_choice.specs.declared.forms.Form.{Form}
use Rattle.price_choice.specs.declared.forms.Form.TheVariants.{TablePair}
use Rattle.price_choice.specs.declared.forms.Pick.{Pick}
use Rattle.price_choice.specs.Forms.{IsForm}
use Rattle.price_choice.specs.List.{forms}
use Rattle.price_choice.proofs.Lists.{how_many, form_there, listed_form}
use Rattle.seq_core.specs.Formed.{vector}
use Rattle.shuffle_plans.specs.Claims.{FormsServe}
use Rattle.shuffle_plans.specs.Laws.{PicksArePlaces}
use Rattle.shuffle_plans.specs.Operands.{picks}
use Rattle.shuffle_plans.specs.Plans.{has_two, plan_by}
use Rattle.shuffle_plans.specs.Selections.{picked_at}
use Rattle.shuffle_plans.specs.Sequences.{sequence_of}
use Rattle.shuffle_plans.proofs.Planned.{sequence_fine, form_type, block_value, whole_value}

params_are : (two : Bool) (f : Form) (want : List Pick) → (sequence_of two f want).params ≡ (if two then vector ∷ vector ∷ [] else vector ∷ [])
params_are true f want = refl
params_are false f want = refl

steps_are : (two : Bool) (f : Form) (want : List Pick) → (sequence_of two f want).steps ≡ []
steps_are true f want = refl
steps_are false f want = refl

form_there_is : (i : ℕ) (f : Form) → slice_get forms i ≡ Some f → IsForm f
form_there_is i f e =
    let l : i < length forms = slice_get_within forms i f e in
    let inside : i < 390 = omega (arith, how_many, l) in
    subst IsForm (sym (form_there i inside) ∙ get_or_from_slice_get forms i f TablePair e) (listed_form i inside)

pub forms_serve : PicksArePlaces → FormsServe
forms_serve law r imm i f s e g =
    let p = form_there_is i f e in
    let want = picks (picked_at r imm 0) in
    record {
      formed = (sequence_fine (has_two r) f want p).0;
      params = params_are (has_two r) f want;
      result = form_type (has_two r) f want p;
      steps = steps_are (has_two r) f want;
      value = whole_value r imm 0 (plan_by f r imm 0) s (block_value law r imm 0 f s (omega arith) p g);
    }
