-- Laws of functions: parameters that begin, calls of functions, and calls of others where functions stand behind them.
use Rattle.std.proofs.Common.{◌≡◌, ℕ, List, [], ◌∷◌, length, Bool, true, false, Option, Some, None, refl, ap, subst, if◌then◌else◌}
use Rattle.std.specs.Str.{bytes_eq}
use Rattle.std.proofs.lemmas.Slice.Eq.{bytes_eq-Decides}
use Rattle.c_tree.specs.declared.types.CType.{CType}
use Rattle.c_tree.specs.Tree.{Object, Statements, Definition}
use Rattle.c_memory.specs.declared.value.Value.{Value}
use Rattle.c_memory.specs.Memory.{ended_from}
use Rattle.c_memory.specs.Functions.{types_of}
use Rattle.c_memory.specs.MeaningState.{Binding, State, Out, Done, Turns, Undefined, Does, then_do, ◌>>=◌, ◌>>◌, pure, spend}
use Rattle.c_memory.specs.Meaning.{Calls, Flow, Next, Broke, Continued, Returned, sequence, begin_parameter, begin_parameters, result, back_to, call_of}
use Rattle.c_memory.specs.Meaning.{is_helper, with_function}
use Rattle.address_taken.specs.Addressed.{takes_statements}
use Rattle.simulation.specs.Alike.{Relation, Given, Arguments, Flows, Blocks, Objects, After, Ends, Sim, Back, CallsAlike, CallsTo}
use Rattle.simulation.specs.Carried.{Way, MayBeSet, Fixed, Carried, Shared, Marks, Unmarked, Scope, inner, carried, mark_of}
use Rattle.c_memory.specs.declared.blocks.Block.{Block}
use Rattle.simulation.specs.BlockLaws.{length_alike, ended_from_alike, ended_stays, stays_same}
use Rattle.simulation.specs.MemoryLaw.{TurnsLaw}
use Rattle.simulation.specs.Steps.{bind_sim, bind_same, pure_sim, undefined_sim, spend_sim}
use Rattle.simulation.specs.ScopeLaws.{object_sim}
use Rattle.simulation.specs.ObjectLaws.{begin_apart_sim, first_values, set_front_sim}

-- ---- parameters

pub carried_front : (x : List ℕ) (way : Way) (s t : CType) (rest : List Carried) → carried x (Shared way x s t ∷ rest) ≡ Some (Shared way x s t)
carried_front x way s t rest = rw ((bytes_eq-Decides x x).1 refl) refl

-- parameters of both apart from memory, under the same names
abbrev pub AreApart : Statements → Statements → List Object → List Object → Type 0
AreApart body body' [] [] = Unit {0}
AreApart body body' (o ∷ os) (o' ∷ os') =
    (o'.name ≡ o.name) × (takes_statements o.name body ≡ false) × (takes_statements o'.name body' ≡ false) × AreApart body body' os os'
AreApart body body' _ _ = ⊥

-- what is in scope with them, and its marks; all of them are set
abbrev pub with_parameters : List Object → List Object → List Carried → List Carried
with_parameters (o ∷ os) (o' ∷ os') scope = with_parameters os os' (Shared Fixed o.name o.ty o'.ty ∷ scope)
with_parameters os os' scope = scope

abbrev pub with_marks : List Object → Marks → Marks
with_marks [] ks = ks
with_marks (o ∷ os) ks = with_marks os (inner Unmarked ks)

module _ (n : ℕ) (R : Relation) (body body' : Statements) where
  -- a parameter gets its argument, and is set from then on
  pub parameter_sim : (scope : List Carried) (ks : Marks) (o o' : Object) (v w : Value) → o'.name ≡ o.name → takes_statements o.name body ≡ false
      → takes_statements o'.name body' ≡ false → R o.ty v w
      → Sim n ◌≡◌ (Scope R scope ks) (Scope R (Shared Fixed o.name o.ty o'.ty ∷ scope) (inner Unmarked ks)) (begin_parameter body o v)
      (begin_parameter body' o' w)
  parameter_sim scope ks o o' v w e f g h =
      let inside = Shared MayBeSet o.name o.ty o'.ty ∷ scope in
      bind_same (begin_apart_sim R scope ks o o' (takes_statements o.name body) (takes_statements o'.name body') e f g)
      (λ u. rw e (bind_sim (object_sim R inside (inner Unmarked ks) MayBeSet o.name o.ty o'.ty (carried_front o.name MayBeSet o.ty o'.ty scope)) (λ b c k.
      let both = first_values R MayBeSet o.name o.ty o'.ty (mark_of o.name inside (inner Unmarked ks)) v w b c tt k in
      rw (both.first, both.second) (set_front_sim R MayBeSet o.name o.ty o'.ty scope (inner Unmarked ks) v w h))))

  pub parameters_sim : (scope : List Carried) (ks : Marks) (os os' : List Object) (vs ws : List Value) → AreApart body body' os os'
      → Arguments R (types_of os) vs ws
      → Sim n ◌≡◌ (Scope R scope ks) (Scope R (with_parameters os os' scope) (with_marks os ks)) (begin_parameters body os vs) (begin_parameters body' os' ws)
  parameters_sim scope ks [] [] [] [] a h = pure_sim tt tt refl
  parameters_sim scope ks (o ∷ os) (o' ∷ os') (v ∷ vs) (w ∷ ws) a h =
      bind_same (parameter_sim scope ks o o' v w a.0 a.1 a.2 h.0) (λ u. parameters_sim (Shared Fixed o.name o.ty o'.ty ∷ scope)
      (inner Unmarked ks) os os' vs ws a.3 h.1)
  parameters_sim scope ks [] (o' ∷ os') vs ws a h = absurd a
  parameters_sim scope ks (o ∷ os) [] vs ws a h = absurd a
  parameters_sim scope ks [] [] (v ∷ vs) ws a h = absurd h
  parameters_sim scope ks [] [] [] (w ∷ ws) a h = absurd h
  parameters_sim scope ks (o ∷ os) (o' ∷ os') [] ws a h = absurd h
  parameters_sim scope ks (o ∷ os) (o' ∷ os') (v ∷ vs) [] a h = absurd h

-- ---- functions

-- what a function gives, at its end or by `return`
pub result_sim : (n : ℕ) (R : Relation) (E : Objects) (r t : CType) (f g : Flow) → (r ≡ CType.Void → t ≡ CType.Void) → Flows R r f g
    → Sim n (Given R r) E E (result r f) (result t g)
result_sim n R E r t (Returned v) (Returned w) h k = pure_sim v w k
result_sim n R E CType.Void t Next Next h k = rw (h refl) (pure_sim None None tt)
result_sim n R E (CType.Int s) t Next Next h k = undefined_sim _
result_sim n R E CType.M128 t Next Next h k = undefined_sim _
result_sim n R E CType.M256 t Next Next h k = undefined_sim _
result_sim n R E (CType.Neon a b) t Next Next h k = undefined_sim _
result_sim n R E CType.Pair t Next Next h k = undefined_sim _
result_sim n R E (CType.Pointer a b) t Next Next h k = undefined_sim _
result_sim n R E (CType.Array a b e) t Next Next h k = undefined_sim _
result_sim n R E r t Broke Broke h k = undefined_sim _
result_sim n R E r t Continued Continued h k = undefined_sim _
result_sim n R E r t _ _ h k = absurd k

-- parameters, then the body, then its value
abbrev pub body_of : Definition → Calls → List Value → Does (Option Value)
body_of f c args = begin_parameters f.body f.params args >> (sequence f.body c >>= result f.result)

pub back_ends : (n : ℕ) (R : Relation) (r : CType) (F : Objects) (s t a b : State) (o p : Out (Option Value)) → Blocks n s.memory t.memory → b.memory ≡ t.memory
    → Ends (Given R r) (After n F b) o p → Ends (Given R r) (Back n s t) (then_do o (back_to s)) (then_do p (back_to t))
back_ends n R r F s t a b Undefined p e f h = tt
back_ends n R r F s t a b Turns Turns e f h = tt
back_ends n R r F s t a b Turns (Done w v) e f h = absurd h
back_ends n R r F s t a b Turns Undefined e f h = absurd h
back_ends n R r F s t a b (Done x u) (Done y v) e f h = (
  h.0,
  record {
    memory = subst (λ k. Blocks n (ended_from (length s.memory) u.memory) (ended_from k v.memory)) (length_alike n s.memory t.memory e)
        (ended_from_alike n (length s.memory) u.memory v.memory h.1.alike.memory);
    left = h.1.alike.left;
    objects = refl;
    others = refl;
    stays = ended_stays t.memory v.memory (rw f at h.1.stays);
  },
)
back_ends n R r F s t a b (Done x u) Turns e f h = absurd h
back_ends n R r F s t a b (Done x u) Undefined e f h = absurd h

module _ (n : ℕ) (R : Relation) (tables tables' : List Binding) (f g : Definition) (c d : Calls) where
  -- A call, where the runs of both are alike with the tables in scope. So a function may be called from anywhere.
  pub call_of_alike : (E F : Objects) → E tables tables'
      → ((vs ws : List Value) → Arguments R (types_of f.params) vs ws → Sim n (Given R f.result) E F (body_of f c vs) (body_of g d ws))
      → CallsAlike n R (types_of f.params) f.result (call_of tables f c) (call_of tables' g d)
  call_of_alike E F e h = record {
    by = λ vs ws s t a k. back_ends n R f.result F s t (record s { objects = tables }) (record t { objects = tables' }) _ _ k.0 refl
        ((h vs ws a).by (record s { objects = tables }) (record t { objects = tables' }) (record { objects = e; memory = k.0; left = k.1 }));
  }

  -- the three parts of it
  pub body_of_sim : (E G F : Objects) (vs ws : List Value) → (f.result ≡ CType.Void → g.result ≡ CType.Void)
      → Sim n ◌≡◌ E G (begin_parameters f.body f.params vs) (begin_parameters g.body g.params ws)
      → Sim n (Flows R f.result) G F (sequence f.body c) (sequence g.body d)
      → Sim n (Given R f.result) E F (body_of f c vs) (body_of g d ws)
  body_of_sim E G F vs ws v h k = bind_same h (λ u. bind_sim k (λ x y z. result_sim n R F f.result g.result x y v z))

-- ---- calls by name

-- a step that spends a turn or none, and then a call
spent : {n : ℕ} → TurnsLaw → (E : Objects) (b : Bool) → Sim n ◌≡◌ E E (if b then pure tt else spend) (if b then pure tt else spend)
spent turns E true = pure_sim tt tt refl
spent turns E false = spend_sim turns

-- where nothing in scope has changed, a call is as any step
abbrev Exactly : State → State → Objects
Exactly s t = λ bs cs. (bs ≡ s.objects) × (cs ≡ t.objects)

back_to_both : (n : ℕ) (R : Relation) (r : CType) (s t : State) (o p : Out (Option Value)) → Ends (Given R r) (After n (Exactly s t) t) o p
    → Ends (Given R r) (Back n s t) o p
back_to_both n R r s t Undefined p h = tt
back_to_both n R r s t Turns Turns h = tt
back_to_both n R r s t Turns (Done b v) h = absurd h
back_to_both n R r s t Turns Undefined h = absurd h
back_to_both n R r s t (Done a u) (Done b v) h =
    (h.0, record { memory = h.1.alike.memory; left = h.1.alike.left; objects = h.1.alike.objects.0; others = h.1.alike.objects.1; stays = h.1.stays })
back_to_both n R r s t (Done a u) Turns h = absurd h
back_to_both n R r s t (Done a u) Undefined h = absurd h

from_both : (n : ℕ) (R : Relation) (r : CType) (s t : State) (o p : Out (Option Value)) → Ends (Given R r) (Back n s t) o p
    → Ends (Given R r) (After n (Exactly s t) t) o p
from_both n R r s t Undefined p h = tt
from_both n R r s t Turns Turns h = tt
from_both n R r s t Turns (Done b v) h = absurd h
from_both n R r s t Turns Undefined h = absurd h
from_both n R r s t (Done a u) (Done b v) h =
    (h.0, record { alike = record { objects = (h.1.objects, h.1.others); memory = h.1.memory; left = h.1.left }; stays = h.1.stays })
from_both n R r s t (Done a u) Turns h = absurd h
from_both n R r s t (Done a u) Undefined h = absurd h

-- a call from states with just these objects in scope, and back
as_step : (n : ℕ) (R : Relation) (ts : List CType) (r : CType) (p q : List Value → Does (Option Value)) (vs ws : List Value) (bs cs : List Binding)
    → CallsAlike n R ts r p q → Arguments R ts vs ws
    → Sim n (Given R r) (λ xs ys. (xs ≡ bs) × (ys ≡ cs)) (λ xs ys. (xs ≡ bs) × (ys ≡ cs)) (p vs) (q ws)
as_step n R ts r p q vs ws bs cs h k = record {
  by = λ s t e. subst (λ z. Ends (Given R r) (After n (λ xs ys. (xs ≡ z) × (ys ≡ cs)) t) (p vs s) (q ws t)) e.objects.0
      (subst (λ z. Ends (Given R r) (After n (λ xs ys. (xs ≡ s.objects) × (ys ≡ z)) t) (p vs s) (q ws t)) e.objects.1
      (from_both n R r s t (p vs s) (q ws t) (h.by vs ws s t k (e.memory, e.left))));
}

pub as_call : (n : ℕ) (R : Relation) (ts : List CType) (r : CType) (p q : List Value → Does (Option Value))
    → ((vs ws : List Value) (bs cs : List Binding) → Arguments R ts vs ws → Sim n (Given R r) (λ xs ys. (xs ≡ bs) × (ys ≡ cs))
    (λ xs ys. (xs ≡ bs) × (ys ≡ cs)) (p vs) (q ws)) → CallsAlike n R ts r p q
as_call n R ts r p q h = record {
  by = λ vs ws s t k w. back_to_both n R r s t (p vs s) (q ws t) ((h vs ws s.objects t.objects k).by s t
      (record { objects = (refl, refl); memory = w.0; left = w.1 }));
}

module _ (n : ℕ) (R : Relation) (tables tables' : List Binding) (f g : Definition) (c d : Calls) where
  -- a function that stands in both, under names for which a call spends as much
  pub function_calls : TurnsLaw → (ts : List CType) (r : CType) → is_helper g.name ≡ is_helper f.name
      → CallsAlike n R ts r (call_of tables f c) (call_of tables' g d) → CallsTo n R (with_function tables f c) (with_function tables' g d) f.name ts r g.name
  function_calls turns ts r e h = as_call n R ts r (with_function tables f c f.name) (with_function tables' g d g.name) (λ vs ws bs cs k.
      let mine : bytes_eq f.name f.name ≡ true = (bytes_eq-Decides f.name f.name).1 refl in
      let other : bytes_eq g.name g.name ≡ true = (bytes_eq-Decides g.name g.name).1 refl in
      rw (mine, other, e) (bind_same (spent turns (λ xs ys. (xs ≡ bs) × (ys ≡ cs)) (is_helper f.name))
      (λ u. as_step n R ts r (call_of tables f c) (call_of tables' g d) vs ws bs cs h k)))

  -- and calls of others are as before
  pub other_calls : (x y : List ℕ) (ts : List CType) (r : CType) → bytes_eq x f.name ≡ false → bytes_eq y g.name ≡ false → CallsTo n R c d x ts r y
      → CallsTo n R (with_function tables f c) (with_function tables' g d) x ts r y
  other_calls x y ts r e i h = record { by = λ vs ws u v k l. rw (e, i) (h.by vs ws u v k l) }

  -- a function of the second alone
  pub added_calls : (x y : List ℕ) (ts : List CType) (r : CType) → bytes_eq y g.name ≡ false → CallsTo n R c d x ts r y
      → CallsTo n R c (with_function tables' g d) x ts r y
  added_calls x y ts r i h = record { by = λ vs ws u v k l. rw i (h.by vs ws u v k l) }

  -- a helper, whose call spends nothing, does what a row does
  pub helper_calls : (x : List ℕ) (ts : List CType) (r : CType) → is_helper g.name ≡ true → CallsAlike n R ts r (c x) (call_of tables' g d)
      → CallsTo n R c (with_function tables' g d) x ts r g.name
  helper_calls x ts r e h = record {
    by = λ vs ws u v k l.
        let mine : bytes_eq g.name g.name ≡ true = (bytes_eq-Decides g.name g.name).1 refl in
        rw (mine, e) (h.by vs ws u v k l);
  }

-- ---- calls that only give a value

-- nothing ends that began before
pub nothing_ended : (m : List Block) → ended_from (length m) m ≡ m
nothing_ended [] = refl
nothing_ended (b ∷ m) = ap (λ rest. b ∷ rest) (nothing_ended m)

-- what two calls give for these arguments, wherever they are made
pub record GiveAlike (R : Relation) (r : CType) (p q : Does (Option Value)) : Type 0 where
  pub v : Option Value
  pub w : Option Value
  pub given : Given R r v w
  pub first : (s : State) → p s ≡ Done v s
  pub second : (t : State) → q t ≡ Done w t

-- rows without accesses, and the rows or helpers that stand for them
pub values_alike : (n : ℕ) (R : Relation) (ts : List CType) (r : CType) (p q : List Value → Does (Option Value))
    → ((vs ws : List Value) → Arguments R ts vs ws → GiveAlike R r (p vs) (q ws)) → CallsAlike n R ts r p q
values_alike n R ts r p q h = record {
  by = λ vs ws u v k l.
      let g = h vs ws k in
      rw (g.first u, g.second v) (g.given, record { memory = l.0; left = l.1; objects = refl; others = refl; stays = stays_same v.memory });
}
