-- Laws of parameters that begin alike where some of them are in memory in both units, under the same names.
use Rattle.std.proofs.Common.{◌≡◌, ℕ, suc, ◌+◌, List, [], ◌∷◌, length, Bool, true, false, refl, ap, ◌∙◌, arith}
use Rattle.std.proofs.Common.{zero-add}
use Rattle.c_tree.specs.Tree.{Object, Statements}
use Rattle.c_memory.specs.declared.value.Value.{Value}
use Rattle.c_memory.specs.Functions.{types_of}
use Rattle.c_memory.specs.MeaningState.{Binding, Does}
use Rattle.c_memory.specs.Meaning.{begin_parameter, begin_parameters}
use Rattle.address_taken.specs.Addressed.{takes_statements}
use Rattle.simulation.specs.Alike.{Relation, Arguments, Covers, Objects, Sim}
use Rattle.simulation.specs.Carried.{Way, Fixed, InMemory, Carried, Shared, Marks, Unmarked, Scope, Begun, inner}
use Rattle.simulation.specs.Steps.{weaker, bind_same, pure_sim}
use Rattle.simulation.specs.ObjectLaws.{first_block, some_sim}
use Rattle.simulation.specs.DeclareLaws.{FirstBytes, block_parameter_sim}
use Rattle.simulation.specs.FunctionLaws.{parameter_sim}

-- The objects in scope, of which the innermost few have begun with any marks. The marks of those around them are as they were.
pub record Entered (R : Relation) (scope : List Carried) (count : ℕ) (marks : Marks) (bs cs : List Binding) : Type 0 where
  pub all : Marks
  pub scoped : Scope R scope all bs cs
  pub kept : (i : ℕ) → all (count + i) ≡ marks i

-- what follows, whatever those marks are
pub entered_sim : {n : ℕ} {A B : Type 0} {V : A → B → Type 0} (R : Relation) (scope : List Carried) (count : ℕ) (marks : Marks) (F : Objects) (p : Does A) (q : Does B)
    → ((all : Marks) → ((i : ℕ) → all (count + i) ≡ marks i) → Sim n V (Scope R scope all) F p q) → Sim n V (Entered R scope count marks) F p q
entered_sim R scope count marks F p q h = record {
  by = λ s t e. (h e.objects.all e.objects.kept).by s t (record { objects = e.objects.scoped; memory = e.memory; left = e.left });
}

-- how a parameter is kept: a block where its address is taken
abbrev pub way_of : Bool → Way
way_of true = InMemory
way_of false = Fixed

-- a block of the first serves in the second, and gets the same bytes
abbrev pub MayBegin : ℕ → Relation → Bool → Object → Object → Type 0
MayBegin n R true o o' = Covers false (first_block o) (first_block o') × FirstBytes n R o.ty o'.ty
MayBegin n R false o o' = Unit {0}

-- parameters of both under the same names, each in memory in both or in none
abbrev pub AreCarried : ℕ → Relation → Statements → Statements → List Object → List Object → Type 0
AreCarried n R body body' [] [] = Unit {0}
AreCarried n R body body' (o ∷ os) (o' ∷ os') =
    (o'.name ≡ o.name) × (takes_statements o'.name body' ≡ takes_statements o.name body) × MayBegin n R (takes_statements o.name body) o o' × AreCarried n R body body' os os'
AreCarried n R body body' _ _ = ⊥

-- what is in scope with them
abbrev pub with_carried : Statements → List Object → List Object → List Carried → List Carried
with_carried body (o ∷ os) (o' ∷ os') scope = with_carried body os os' (Shared (way_of (takes_statements o.name body)) o.name o.ty o'.ty ∷ scope)
with_carried body os os' scope = scope

pub further : (k i : ℕ) → suc k + i ≡ k + suc i
further k i = omega arith

module _ (n : ℕ) (R : Relation) (body body' : Statements) where
  -- one parameter
  pub carried_parameter_sim : (scope : List Carried) (ks : Marks) (o o' : Object) (v w : Value) → o'.name ≡ o.name → takes_statements o'.name body' ≡ takes_statements o.name body
      → MayBegin n R (takes_statements o.name body) o o' → R o.ty v w
      → Sim n ◌≡◌ (Scope R scope ks) (Begun R (Shared (way_of (takes_statements o.name body)) o.name o.ty o'.ty) scope ks) (begin_parameter body o v) (begin_parameter body' o' w)
  carried_parameter_sim scope ks o o' v w same alike may h = at (takes_statements o.name body) refl alike may
    where
      at : (b : Bool) → takes_statements o.name body ≡ b → takes_statements o'.name body' ≡ b → MayBegin n R b o o'
          → Sim n ◌≡◌ (Scope R scope ks) (Begun R (Shared (way_of b) o.name o.ty o'.ty) scope ks) (begin_parameter body o v) (begin_parameter body' o' w)
      at true e f may = block_parameter_sim n R scope ks o o' same body body' v w e f may.0 may.1 h
      at false e f may = weaker n (Scope R scope ks) (Scope R (Shared Fixed o.name o.ty o'.ty ∷ scope) (inner Unmarked ks)) (Begun R (Shared Fixed o.name o.ty o'.ty) scope ks)
          (begin_parameter body o v) (begin_parameter body' o' w) (λ bs cs k. (Unmarked, k)) (parameter_sim n R body body' scope ks o o' v w same e f h)

  pub carried_parameters_sim : (scope : List Carried) (ks : Marks) (os os' : List Object) (vs ws : List Value) → AreCarried n R body body' os os' → Arguments R (types_of os) vs ws
      → Sim n ◌≡◌ (Scope R scope ks) (Entered R (with_carried body os os' scope) (length os) ks) (begin_parameters body os vs) (begin_parameters body' os' ws)
  carried_parameters_sim scope ks [] [] [] [] a h =
      weaker n (Scope R scope ks) (Scope R scope ks) (Entered R scope 0 ks) _ _ (λ bs cs k. record { all = ks; scoped = k; kept = λ i. ap ks (zero-add i) }) (pure_sim tt tt refl)
  carried_parameters_sim scope ks (o ∷ os) (o' ∷ os') (v ∷ vs) (w ∷ ws) a h =
      let k = Shared (way_of (takes_statements o.name body)) o.name o.ty o'.ty in
      let inside = with_carried body os os' (k ∷ scope) in
      bind_same (carried_parameter_sim scope ks o o' v w a.0 a.1 a.2 h.0) (λ u.
      some_sim (λ mark. Scope R (k ∷ scope) (inner mark ks)) (Entered R inside (suc (length os)) ks) (begin_parameters body os vs) (begin_parameters body' os' ws) (λ mark.
      weaker n (Scope R (k ∷ scope) (inner mark ks)) (Entered R inside (length os) (inner mark ks)) (Entered R inside (suc (length os)) ks) (begin_parameters body os vs)
      (begin_parameters body' os' ws)
      (λ bs cs e. record { all = e.all; scoped = e.scoped; kept = λ i. ap e.all (further (length os) i) ∙ e.kept (suc i) })
      (carried_parameters_sim (k ∷ scope) (inner mark ks) os os' vs ws a.3 h.1)))
  carried_parameters_sim scope ks [] (o' ∷ os') vs ws a h = absurd a
  carried_parameters_sim scope ks (o ∷ os) [] vs ws a h = absurd a
  carried_parameters_sim scope ks [] [] (v ∷ vs) ws a h = absurd h
  carried_parameters_sim scope ks [] [] [] (w ∷ ws) a h = absurd h
  carried_parameters_sim scope ks (o ∷ os) (o' ∷ os') [] ws a h = absurd h
  carried_parameters_sim scope ks (o ∷ os) (o' ∷ os') (v ∷ vs) [] a h = absurd h
