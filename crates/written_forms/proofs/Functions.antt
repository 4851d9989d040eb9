-- The law of functions: what is written for a function of a source does the same, wherever it is called.
use Rattle.std.proofs.Common.{◌≡◌, ℕ, List, [], ◌∷◌, true, false, refl, ap}
use Rattle.c_tree.specs.declared.types.CType.{CType}
use Rattle.c_tree.specs.Tree.{Object, Statements, Definition}
use Rattle.address_taken.specs.Addressed.{takes_statements}
use Rattle.c_memory.specs.Functions.{types_of}
use Rattle.c_memory.specs.Matching.{written_type}
use Rattle.c_memory.specs.MeaningState.{Binding}
use Rattle.c_memory.specs.Meaning.{Calls, call_of}
use Rattle.simulation.specs.Alike.{CallsAlike}
use Rattle.simulation.specs.Carried.{Carried, Marks, Unmarked, Scope, Within, inner}
use Rattle.simulation.specs.FunctionLaws.{AreApart, with_parameters, with_marks, parameters_sim, call_of_alike, body_of_sim}
use Rattle.written_forms.specs.TypedValues.{TypedValues}
use Rattle.written_forms.specs.Seen.{local, Sees, sees_nothing, with_local}
use Rattle.written_forms.specs.Statements.{moved_parameters, moved_statements, sees_parameters, moved_function}
use Rattle.written_forms.specs.Ready.{Setting}
use Rattle.written_forms.specs.ReadyStatements.{ReadyFunction}
use Rattle.written_forms.proofs.Agreeing.{Agrees}
use Rattle.written_forms.proofs.Calling.{CallsAgree}
use Rattle.written_forms.proofs.Addresses.{statements_taken, statements_written}
use Rattle.written_forms.proofs.StatementForms.{FormLaws, scope_with, agrees_with}
use Rattle.written_forms.proofs.StatementSims.{sequence_sim}

-- nothing is seen of any scope
nothing_seen : (scope : List Carried) (ks : Marks) → Agrees sees_nothing scope ks []
nothing_seen scope ks = record { objects = λ x l e. absurd (cc); values = λ x k e. absurd (cc); typed = λ x k l e f. absurd (cc) }

agrees_parameters : (os : List Object) (sees : Sees) (scope : List Carried) (ks : Marks) → Agrees sees scope ks []
    → Agrees (sees_parameters os sees) (with_parameters os (moved_parameters os) scope) (with_marks os ks) []
agrees_parameters [] sees scope ks ag = ag
agrees_parameters (o ∷ os) sees scope ks ag =
    agrees_parameters os (with_local o.name (local o.ty true) sees) (scope_with o.name o.ty true scope) (inner Unmarked ks) (agrees_with sees scope ks o.name o.ty true ag)

are_apart : (body body' : Statements) (os : List Object) → ((x : List ℕ) → takes_statements x body ≡ false) → ((x : List ℕ) → takes_statements x body' ≡ false)
    → AreApart body body' os (moved_parameters os)
are_apart body body' [] h k = tt
are_apart body body' (o ∷ os) h k = (refl, h o.name, k o.name, are_apart body body' os h k)

void_written : (t : CType) → t ≡ CType.Void → written_type t ≡ CType.Void
void_written t e = ap written_type e

module _ (laws : FormLaws) (n : ℕ) (c d : Calls) (w : Setting) (calls : CallsAgree n w c d) (tables others : List Binding) (scope : List Carried) (ks : Marks)
    (in_scope : Scope TypedValues scope ks tables others) where
  pub function_alike : (f : Definition) → ReadyFunction w f
      → CallsAlike n TypedValues (types_of f.params) f.result (call_of tables f c) (call_of others (moved_function w.plans sees_nothing f) d)
  function_alike f h =
      let sees = sees_parameters f.params sees_nothing in
      let params = moved_parameters f.params in
      let body = moved_statements w.plans sees f.body in
      let scope2 = with_parameters f.params params scope in
      let ks2 = with_marks f.params ks in
      let g = moved_function w.plans sees_nothing f in
      call_of_alike n TypedValues tables others f g c d (Scope TypedValues scope ks) (Within TypedValues scope2 ks2) in_scope (λ vs ws a.
      body_of_sim n TypedValues tables others f g c d (Scope TypedValues scope ks) (Scope TypedValues scope2 ks2) (Within TypedValues scope2 ks2) vs ws (void_written f.result)
      (parameters_sim n TypedValues f.body body scope ks f.params params vs ws
      (are_apart f.body body f.params (λ x. statements_taken laws.address w f.result sees x f.body h.body) (λ x. statements_written laws.address w f.result sees x f.body h.body)) a)
      (sequence_sim laws n f.result c d w calls sees scope2 ks2 (agrees_parameters f.params sees_nothing scope ks (nothing_seen scope ks)) f.body h.body))
