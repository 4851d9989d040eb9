-- What is claimed of the sequences of forms.
use Rattle.std.specs.Prelude.{◌≡◌, ℕ, List, [], ◌∷◌, true, slice_get, Some, if◌then◌else◌}
use Rattle.c_tree.specs.declared.types.CType.{CType}
use Rattle.intel_forms.specs.declared.forms.Form.{Form as Row}
use Rattle.price_choice.specs.declared.forms.Form.{Form}
use Rattle.price_choice.specs.Forms.{gives_of}
use Rattle.price_choice.specs.List.{forms}
use Rattle.seq_core.specs.Terms.{Sequence}
use Rattle.seq_core.specs.Formed.{vector, WellFormed, sequence_type}
use Rattle.shuffle_plans.specs.Operands.{picks}
use Rattle.shuffle_plans.specs.Selections.{is_shuffle, picked_at}
use Rattle.shuffle_plans.specs.Plans.{has_two, plan_by, GivesTheRow}

abbrev pub carriers_of : Row → List CType
carriers_of r = if has_two r then vector ∷ vector ∷ [] else vector ∷ []

-- The sequence is well formed, takes a carrier for each vector of the row and gives one, has no steps, and its value is the row's.
pub record IsRowSequence (r : Row) (imm : ℕ) (q : Sequence) : Type 0 where
  pub formed : WellFormed q
  pub params : q.params ≡ carriers_of r
  pub result : sequence_type q ≡ vector
  pub steps : q.steps ≡ []
  pub value : GivesTheRow r imm q

-- each form of the list that gives the row's selection has such a sequence
abbrev pub FormsServe : Type 0
FormsServe = (r : Row) (imm i : ℕ) (f : Form) → is_shuffle r ≡ true → slice_get forms i ≡ Some f → gives_of f (picks (picked_at r imm 0)) ≡ true → IsRowSequence r imm (plan_by f r imm 0)
