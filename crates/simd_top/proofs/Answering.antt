-- What is due for a unit is what its source calls for.
use Rattle.std.proofs.Common.{◌≡◌, ◌≤◌, ℕ, List, [], ◌∷◌, length, Some, Result, Ok, Err, IfOk, refl, subst}
use Rattle.c_tree.specs.Tree.{External}
use Rattle.simd_top.specs.declared.due.Due.{Due}
use Rattle.simd_top.specs.declared.due.Due.TheVariants as due
use Rattle.c_memory.specs.declared.blocks.Block.{Block}
use Rattle.c_memory.specs.declared.value.Value.{Value}
use Rattle.c_memory.specs.Outcomes.{Outcome}
use Rattle.c_memory.specs.Outcomes as outcomes
use Rattle.c_memory.specs.Meaning.{means}
use Rattle.c_text.specs.declared.tokens.Dialect.{Dialect}
use Rattle.c_text.specs.declared.refusals.Refusal.{Refusal}
use Rattle.migrate_report.specs.Fits.{fitting, Fit, NoFunction, DontFit}
use Rattle.migrate_report.specs.Lines.{refusal_lines}
use Rattle.migrate_report.specs.Texts.{run_text}
use Rattle.simd_top.specs.declared.status.Status.{Status}
use Rattle.simd_top.specs.declared.status.Status.TheVariants as status
use Rattle.simd_top.specs.Due.{IsTextOf, IsDueFor, status_due, text_due}
use Rattle.simd_top.specs.Ran.{rows, status_of}
use Rattle.simd_top.specs.Form.{first_outside}
use Rattle.simd_top.specs.Refusals.{at_the_start, IsRefusedUnit, Outside, Nameless, Unfit, IsRefused, First, Beyond}
use Rattle.simd_top.specs.Source.{source_limit, HasUnit, AreFirst}
use Rattle.simd_top.specs.Standing.{AllStand}
use Rattle.simd_top.specs.TopCall.{Calls, IsAnswer}
use Rattle.simd_top.specs.Words.{Command, Migrate, Run, Both, dialect_of}
use Rattle.simd_top.specs.Written.{moved_unit}
use Rattle.c_print.specs.Text.{text_of}
use Rattle.simd_top.proofs.Same.{migrated}

text_calls : AllStand → (c : Command) (source : List ℕ) (t : List External) (s : Status) (text : List ℕ) → HasUnit (dialect_of c) source t → IsTextOf c t s text → Calls c source s text
text_calls stand Migrate source t s text has (ended, form, told) = (ended, migrated stand source text t has form told)
text_calls stand (Run dialect name turns items) source t s text has (args, memory, fits, ended, told) =
    record { unit = t; has_unit = has; args = args; memory = memory; fits = fits; told = told; ended = ended }
text_calls stand (Both name turns items) source t s text has (form, typed_unit, typed, compared) =
    record { unit = t; written_unit = moved_unit t; typed_unit = typed_unit; has_unit = has; is_migrated = migrated stand source (text_of (moved_unit t)) t has form refl; typed = typed; compared = compared }

pub due_answers : AllStand → (c : Command) (source : List ℕ) (t : List External) (d : Due) → length source ≤ source_limit (dialect_of c) → HasUnit (dialect_of c) source t → IsDueFor c t d → IsAnswer c source d
due_answers stand c source t (due.Done text) within has is = text_calls stand c source t status.Done text.items has is
due_answers stand c source t (due.Undefined text) within has is = text_calls stand c source t status.Undefined text.items has is
due_answers stand c source t (due.Turns text) within has is = text_calls stand c source t status.Turns text.items has is
due_answers stand c source t (due.Report lines) within has (r, is, told) = Beyond within t has r is told

no_refusal : (o : Outcome) → status.Refused ≡ status_of o → ⊥
no_refusal (outcomes.Done v memory) e = absurd (cc)
no_refusal outcomes.Turns e = absurd (cc)
no_refusal outcomes.Undefined e = absurd (cc)

told_one : (x : Dialect) (name : List ℕ) (turns : ℕ) (items : List (List ℕ)) (t : List External) (args : List Value) (memory : List Block) (d : Due) → fitting t name items ≡ Fit args memory →
    status_due d ≡ status_of (means (rows x) t name args memory turns) → text_due d ≡ run_text t (length memory) (means (rows x) t name args memory turns) → IsDueFor (Run x name turns items) t d
told_one x name turns items t args memory (due.Done text) fits ended told = (args, memory, fits, ended, told)
told_one x name turns items t args memory (due.Undefined text) fits ended told = (args, memory, fits, ended, told)
told_one x name turns items t args memory (due.Turns text) fits ended told = (args, memory, fits, ended, told)
told_one x name turns items t args memory (due.Report lines) fits ended told = absurd (no_refusal (means (rows x) t name args memory turns) ended)

pub told_due : {E : Type 0} (res : Result Due E) (x : Dialect) (name : List ℕ) (turns : ℕ) (items : List (List ℕ)) (t : List External) (args : List Value) (memory : List Block) (blocks : ℕ) (o : Outcome) →
    fitting t name items ≡ Fit args memory → blocks ≡ length memory → o ≡ means (rows x) t name args memory turns →
    IfOk res (λ d. status_due d ≡ status_of o) → IfOk res (λ d. text_due d ≡ run_text t blocks o) → IfOk res (IsDueFor (Run x name turns items) t)
told_due (Err e) x name turns items t args memory blocks o fits same is ended told = tt
told_due (Ok d) x name turns items t args memory blocks o fits same is ended told = told_one x name turns items t args memory d fits (rw (← is) ended) (rw (← is, ← same) told)

-- what is due for a unit that is refused
abbrev pub RefusedWith : Command → List External → List ℕ → Type 0
RefusedWith c t lines = (r : Refusal) × IsRefusedUnit c t r × (lines ≡ refusal_lines (r ∷ []))

pub outside_due : (t : List External) (r : Refusal) (lines : List ℕ) → first_outside [] t ≡ Some r → lines ≡ refusal_lines (r ∷ []) → RefusedWith Migrate t lines
outside_due t r lines outside is = (r, Outside t r outside, is)

pub nameless_due : (x : Dialect) (name : List ℕ) (turns : ℕ) (items : List (List ℕ)) (t : List External) (lines : List ℕ) → fitting t name items ≡ NoFunction →
    lines ≡ refusal_lines (at_the_start 21 name ∷ []) → RefusedWith (Run x name turns items) t lines
nameless_due x name turns items t lines none is = (at_the_start 21 name, Nameless name turns items t none, is)

pub unfit_due : (x : Dialect) (name : List ℕ) (turns : ℕ) (items : List (List ℕ)) (t : List External) (lines : List ℕ) → fitting t name items ≡ DontFit →
    lines ≡ refusal_lines (at_the_start 22 name ∷ []) → RefusedWith (Run x name turns items) t lines
unfit_due x name turns items t lines none is = (at_the_start 22 name, Unfit name turns items t none, is)

pub first_refused : (c : Command) (x : Dialect) (source lines : List ℕ) (list seen : List Refusal) → length source ≤ source_limit (dialect_of c) → x ≡ dialect_of c → seen ≡ list → AreFirst x source list →
    lines ≡ refusal_lines seen → IsRefused c source lines
first_refused c x source lines list seen within dialect same first is = First within list (subst (λ y. AreFirst y source list) dialect first) (rw (← same) is)
