-- The law of statements: what is written for the statements of a source does the same.
use Rattle.std.proofs.Common.{◌≡◌, ℕ, List, [], false, ◌||◌, Option, refl}
use Rattle.std.specs.Prelude.{option_map}
use Rattle.c_tree.specs.declared.types.CType.{CType}
use Rattle.c_tree.specs.Tree.{Tree, Object, Statement, Statements, Optional, Declare, Run, Block, If, While, DoWhile, For, Break, Continue, Return, Empty, Absent, Present, NoStatements, Then}
use Rattle.address_taken.specs.Addressed.{takes_optional, takes_statement, takes_statements}
use Rattle.c_memory.specs.MeaningState.{Binding, scoped}
use Rattle.c_memory.specs.Meaning.{Calls, Later, Next, act, optional_act, optional_body, sequence, no_more}
use Rattle.simulation.specs.Alike.{Flows, Objects, Sim}
use Rattle.simulation.specs.Carried.{Carried, Marks, Scope, Within}
use Rattle.simulation.specs.Steps.{weaker, pure_sim, second_as, bind_sim, bind_same, choose_sim, while_sim, do_sim, with_step_sim}
use Rattle.simulation.specs.ScopeLaws.{scoped_sim, within_none}
use Rattle.simulation.specs.StatementLaws.{AreNext, declare_sim, run_sim, empty_sim, break_sim, continue_sim, block_sim, no_other_sim, no_statements_sim, then_statement_sim, then_declared_sim}
use Rattle.written_forms.specs.TypedValues.{TypedValues}
use Rattle.written_forms.specs.Seen.{Sees}
use Rattle.written_forms.specs.Moved as moved
use Rattle.written_forms.specs.Statements.{moved_objects, sees_objects, sees_behind, sees_optional, braced, moved_statement, moved_optional, moved_else, moved_statements}
use Rattle.written_forms.specs.Ready.{Setting}
use Rattle.written_forms.specs.ReadyStatements.{ReadyObjects, ReadyStart, ReadyStatement, ReadyOptional, ReadyStatements}
use Rattle.written_forms.proofs.Agreeing.{Agrees}
use Rattle.written_forms.proofs.Calling.{CallsAgree}
use Rattle.written_forms.proofs.Addresses.{or_false, condition_taken, condition_written, step_taken, step_written, statement_taken, statement_written, statements_taken, statements_written, braced_takes}
use Rattle.written_forms.proofs.StatementForms.{FormLaws, braced_same, other_same, scope_behind, marks_behind, agrees_behind, within_behind, expression_sim, tested, maybe_tested, maybe_stepped, returns, objects_sim}

-- what is in scope behind a statement
abbrev pub scope_after : Statement → List Carried → List Carried
scope_after (Declare all) scope = scope_behind all scope
scope_after s scope = scope

abbrev pub marks_after : Statement → Marks → Marks
marks_after (Declare all) ks = marks_behind all ks
marks_after s ks = ks

agrees_after : (s : Statement) (sees : Sees) (scope : List Carried) (ks : Marks) → Agrees sees scope ks [] → Agrees (sees_behind s sees) (scope_after s scope) (marks_after s ks) []
agrees_after (Declare all) sees scope ks ag = agrees_behind all sees scope ks ag
agrees_after (Run e) sees scope ks ag = ag
agrees_after (Block all) sees scope ks ag = ag
agrees_after (If e s o) sees scope ks ag = ag
agrees_after (While e s) sees scope ks ag = ag
agrees_after (DoWhile s e) sees scope ks ag = ag
agrees_after (For i e n s) sees scope ks ag = ag
agrees_after (Break p) sees scope ks ag = ag
agrees_after (Continue p) sees scope ks ag = ag
agrees_after (Return p e) sees scope ks ag = ag
agrees_after Empty sees scope ks ag = ag

-- the same of the first part of a `for`
abbrev pub scope_started : Optional → List Carried → List Carried
scope_started Absent scope = scope
scope_started (Present s) scope = scope_after s scope

abbrev pub marks_started : Optional → Marks → Marks
marks_started Absent ks = ks
marks_started (Present s) ks = marks_after s ks

agrees_started : (i : Optional) (sees : Sees) (scope : List Carried) (ks : Marks) → Agrees sees scope ks [] → Agrees (sees_optional i sees) (scope_started i scope) (marks_started i ks) []
agrees_started Absent sees scope ks ag = ag
agrees_started (Present s) sees scope ks ag = agrees_after s sees scope ks ag

within_started : (i : Optional) (scope : List Carried) (ks : Marks) (bs cs : List Binding) → Within TypedValues (scope_started i scope) (marks_started i ks) bs cs → Within TypedValues scope ks bs cs
within_started Absent scope ks bs cs h = h
within_started (Present (Declare all)) scope ks bs cs h = within_behind all scope ks bs cs h
within_started (Present (Run e)) scope ks bs cs h = h
within_started (Present (Block all)) scope ks bs cs h = h
within_started (Present (If e s o)) scope ks bs cs h = h
within_started (Present (While e s)) scope ks bs cs h = h
within_started (Present (DoWhile s e)) scope ks bs cs h = h
within_started (Present (For i e n s)) scope ks bs cs h = h
within_started (Present (Break p)) scope ks bs cs h = h
within_started (Present (Continue p)) scope ks bs cs h = h
within_started (Present (Return p e)) scope ks bs cs h = h
within_started (Present Empty) scope ks bs cs h = h

module _ (laws : FormLaws) (n : ℕ) (r : CType) (c d : Calls) (w : Setting) (calls : CallsAgree n w c d) where
  -- a statement that declares nothing, and what it is written as, whatever follows
  abbrev pub Acted : Sees → List Carried → Marks → Statement → Type 0
  Acted sees scope ks (Declare all) = Unit {0}
  Acted sees scope ks s =
      (later later' : Later) → Sim n (Flows TypedValues r) (Scope TypedValues scope ks) (Scope TypedValues scope ks) (act s later c) (act (moved_statement w.plans sees s) later' d)

  module _ (sees : Sees) (scope : List Carried) (ks : Marks) (ag : Agrees sees scope ks []) where
    abbrev here : Objects
    here = Scope TypedValues scope ks

    abbrev inside : Objects
    inside = Within TypedValues scope ks

    -- a declaration
    declares_sim : (all : List Object) → ReadyObjects w sees all → (later later' : Later) → ((x : List ℕ) → later x ≡ false) → ((x : List ℕ) → later' x ≡ false)
        → Sim n AreNext here (Scope TypedValues (scope_behind all scope) (marks_behind all ks)) (act (Declare all) later c) (act (Declare (moved_objects w.plans sees all)) later' d)
    declares_sim all h later later' l l' =
        declare_sim n TypedValues r c d here (Scope TypedValues (scope_behind all scope) (marks_behind all ks)) all (moved_objects w.plans sees all) later later'
        (objects_sim laws n r c d w calls sees scope ks ag all h later later' l l')

    widened : (s s' : Statement) → Sim n (Flows TypedValues r) here here (act s no_more c) (act s' no_more d) → Sim n (Flows TypedValues r) here inside (act s no_more c) (act s' no_more d)
    widened s s' h = weaker n here here inside (act s no_more c) (act s' no_more d) (within_none TypedValues scope ks) h

    -- as a body
    inside_sim : (s : Statement) → ReadyStatement w r sees s → Acted sees scope ks s
        → Sim n (Flows TypedValues r) here inside (act s no_more c) (act (moved_statement w.plans sees s) no_more d)
    inside_sim (Declare all) h k =
        weaker n here (Scope TypedValues (scope_behind all scope) (marks_behind all ks)) inside (act (Declare all) no_more c) (act (Declare (moved_objects w.plans sees all)) no_more d)
        (λ bs cs i. within_behind all scope ks bs cs (within_none TypedValues (scope_behind all scope) (marks_behind all ks) bs cs i))
        (bind_sim (objects_sim laws n r c d w calls sees scope ks ag all h no_more no_more (λ x. refl) (λ x. refl)) (λ u v e. pure_sim Next Next tt))
    inside_sim (Run e) h k = widened (Run e) (moved_statement w.plans sees (Run e)) (k no_more no_more)
    inside_sim (Block all) h k = widened (Block all) (moved_statement w.plans sees (Block all)) (k no_more no_more)
    inside_sim (If e s o) h k = widened (If e s o) (moved_statement w.plans sees (If e s o)) (k no_more no_more)
    inside_sim (While e s) h k = widened (While e s) (moved_statement w.plans sees (While e s)) (k no_more no_more)
    inside_sim (DoWhile s e) h k = widened (DoWhile s e) (moved_statement w.plans sees (DoWhile s e)) (k no_more no_more)
    inside_sim (For i e m s) h k = widened (For i e m s) (moved_statement w.plans sees (For i e m s)) (k no_more no_more)
    inside_sim (Break p) h k = widened (Break p) (Break p) (k no_more no_more)
    inside_sim (Continue p) h k = widened (Continue p) (Continue p) (k no_more no_more)
    inside_sim (Return p e) h k = widened (Return p e) (moved_statement w.plans sees (Return p e)) (k no_more no_more)
    inside_sim Empty h k = widened Empty Empty (k no_more no_more)

    body_sim : (s : Statement) → ReadyStatement w r sees s → Acted sees scope ks s
        → Sim n (Flows TypedValues r) here here (scoped (act s no_more c)) (scoped (act (braced (moved_statement w.plans sees s)) no_more d))
    body_sim s h k = second_as (braced_same laws.brace (moved_statement w.plans sees s) d) (scoped_sim TypedValues scope ks (inside_sim s h k))

    else_sim : (s : Statement) → ReadyStatement w r sees s → Acted sees scope ks s
        → Sim n (Flows TypedValues r) here here (optional_body (Present s) c) (optional_body (moved_else w.plans sees (Present s)) d)
    else_sim s h k = second_as (other_same laws.brace (moved_statement w.plans sees s) d) (scoped_sim TypedValues scope ks (inside_sim s h k))

    -- a statement, and those behind it
    then_sim : (s : Statement) (rest : Statements) → ReadyStatement w r sees s → ReadyStatements w r (sees_behind s sees) rest → Acted sees scope ks s
        → Sim n (Flows TypedValues r) (Scope TypedValues (scope_after s scope) (marks_after s ks)) (Within TypedValues (scope_after s scope) (marks_after s ks)) (sequence rest c)
        (sequence (moved_statements w.plans (sees_behind s sees) rest) d)
        → Sim n (Flows TypedValues r) here inside (sequence (Then s rest) c) (sequence (moved_statements w.plans sees (Then s rest)) d)
    then_sim (Declare all) rest h i k l =
        weaker n here (Within TypedValues (scope_behind all scope) (marks_behind all ks)) inside (sequence (Then (Declare all) rest) c)
        (sequence (moved_statements w.plans sees (Then (Declare all) rest)) d) (within_behind all scope ks)
        (then_declared_sim n TypedValues r c d here (Scope TypedValues (scope_behind all scope) (marks_behind all ks)) (Within TypedValues (scope_behind all scope) (marks_behind all ks)) (Declare all)
        (Declare (moved_objects w.plans sees all)) rest (moved_statements w.plans (sees_objects all sees) rest)
        (declares_sim all h (λ x. takes_statements x rest) (λ x. takes_statements x (moved_statements w.plans (sees_objects all sees) rest))
        (λ x. statements_taken laws.address w r (sees_objects all sees) x rest i) (λ x. statements_written laws.address w r (sees_objects all sees) x rest i)) l)
    then_sim s rest h i k l =
        then_statement_sim n TypedValues r c d scope ks s (moved_statement w.plans sees s) rest (moved_statements w.plans sees rest)
        (k (λ x. takes_statements x rest) (λ x. takes_statements x (moved_statements w.plans sees rest))) l

    -- the first part of a `for`
    start_sim : (i : Optional) → ReadyStart w sees i → (later later' : Later) → ((x : List ℕ) → later x ≡ false) → ((x : List ℕ) → later' x ≡ false)
        → Sim n (λ f g. Unit {0}) here (Scope TypedValues (scope_started i scope) (marks_started i ks)) (optional_act i later c) (optional_act (moved_optional w.plans sees i) later' d)
    start_sim Absent h later later' l l' = pure_sim Next Next tt
    start_sim (Present (Declare all)) h later later' l l' =
        bind_sim (objects_sim laws n r c d w calls sees scope ks ag all h later later' l l') (λ u v e. pure_sim Next Next tt)
    start_sim (Present (Run e)) h later later' l l' =
        bind_sim (expression_sim laws n r c d w calls sees scope ks ag e h) (λ u v i. pure_sim Next Next tt)
    start_sim (Present _) h later later' l l' = absurd h

    -- with its body
    for_all : (i : Optional) (e m : Option Tree) (s : Statement) → ReadyStatement w r sees (For i e m s)
        → Sim n (Flows TypedValues r) (Scope TypedValues (scope_started i scope) (marks_started i ks)) (Scope TypedValues (scope_started i scope) (marks_started i ks)) (scoped (act s no_more c))
        (scoped (act (braced (moved_statement w.plans (sees_optional i sees) s)) no_more d))
        → (later later' : Later) → Sim n (Flows TypedValues r) here here (act (For i e m s) later c) (act (moved_statement w.plans sees (For i e m s)) later' d)
    for_all i e m s h body later later' =
        let begun = Scope TypedValues (scope_started i scope) (marks_started i ks) in
        let ag2 = agrees_started i sees scope ks ag in
        let e' = option_map (moved.moved w.plans (sees_optional i sees)) e in
        let m' = option_map (moved.moved w.plans (sees_optional i sees)) m in
        let s' = braced (moved_statement w.plans (sees_optional i sees) s) in
        let test = maybe_tested laws n r c d w calls (sees_optional i sees) (scope_started i scope) (marks_started i ks) ag2 e h.1 in
        let step = maybe_stepped laws n r c d w calls (sees_optional i sees) (scope_started i scope) (marks_started i ks) ag2 m h.2 in
        let first = λ (x : List ℕ). or_false (condition_taken laws.address w (sees_optional i sees) x e h.1) (or_false (step_taken laws.address w (sees_optional i sees) x m h.2)
        (statement_taken laws.address w r (sees_optional i sees) x s h.3)) in
        let second = λ (x : List ℕ). or_false (condition_written laws.address w (sees_optional i sees) x e h.1) (or_false (step_written laws.address w (sees_optional i sees) x m h.2)
        (braced_takes laws.address w x (moved_statement w.plans (sees_optional i sees) s) (statement_written laws.address w r (sees_optional i sees) x s h.3))) in
        scoped_sim TypedValues scope ks (bind_sim
        (start_sim i h.0 (λ x. takes_optional x e || (takes_optional x m || takes_statement x s)) (λ x. takes_optional x e' || (takes_optional x m' || takes_statement x s')) first second)
        (λ f g x. weaker n begun begun inside _ _ (λ bs cs k. within_started i scope ks bs cs (within_none TypedValues (scope_started i scope) (marks_started i ks) bs cs k))
        (while_sim laws.turns TypedValues r test (with_step_sim TypedValues r body step))))

  mutual
    pub acts : (sees : Sees) (scope : List Carried) (ks : Marks) → Agrees sees scope ks [] → (s : Statement) → ReadyStatement w r sees s → Acted sees scope ks s
    acts sees scope ks ag (Declare all) h = tt
    acts sees scope ks ag (Run e) h = λ later later'.
        run_sim n TypedValues r c d (Scope TypedValues scope ks) (Scope TypedValues scope ks) e (moved.moved w.plans sees e) later later' (expression_sim laws n r c d w calls sees scope ks ag e h)
    acts sees scope ks ag (Block all) h = λ later later'.
        block_sim n TypedValues r c d scope ks all (moved_statements w.plans sees all) later later' (sequence_sim sees scope ks ag all h)
    acts sees scope ks ag (If e s o) h = λ later later'.
        bind_same (tested laws n r c d w calls sees scope ks ag e h.0 h.1) (λ v. choose_sim v (body_sim sees scope ks ag s h.2 (acts sees scope ks ag s h.2)) (other_sim sees scope ks ag o h.3))
    acts sees scope ks ag (While e s) h = λ later later'.
        while_sim laws.turns TypedValues r (tested laws n r c d w calls sees scope ks ag e h.0 h.1) (body_sim sees scope ks ag s h.2 (acts sees scope ks ag s h.2))
    acts sees scope ks ag (DoWhile s e) h = λ later later'.
        do_sim laws.turns TypedValues r (tested laws n r c d w calls sees scope ks ag e h.0 h.1) (body_sim sees scope ks ag s h.2 (acts sees scope ks ag s h.2))
    acts sees scope ks ag (For i e m s) h =
        for_all sees scope ks ag i e m s h
        (body_sim (sees_optional i sees) (scope_started i scope) (marks_started i ks) (agrees_started i sees scope ks ag) s h.3
        (acts (sees_optional i sees) (scope_started i scope) (marks_started i ks) (agrees_started i sees scope ks ag) s h.3))
    acts sees scope ks ag (Break p) h = λ later later'. break_sim n TypedValues r c d (Scope TypedValues scope ks) p p later later'
    acts sees scope ks ag (Continue p) h = λ later later'. continue_sim n TypedValues r c d (Scope TypedValues scope ks) p p later later'
    acts sees scope ks ag (Return p e) h = λ later later'. returns laws n r c d w calls sees scope ks ag p e later later' h
    acts sees scope ks ag Empty h = λ later later'. empty_sim n TypedValues r c d (Scope TypedValues scope ks) later later'

    other_sim : (sees : Sees) (scope : List Carried) (ks : Marks) → Agrees sees scope ks [] → (o : Optional) → ReadyOptional w r sees o
        → Sim n (Flows TypedValues r) (Scope TypedValues scope ks) (Scope TypedValues scope ks) (optional_body o c) (optional_body (moved_else w.plans sees o) d)
    other_sim sees scope ks ag Absent h = no_other_sim n TypedValues r c d scope ks
    other_sim sees scope ks ag (Present s) h = else_sim sees scope ks ag s h (acts sees scope ks ag s h)

    pub sequence_sim : (sees : Sees) (scope : List Carried) (ks : Marks) → Agrees sees scope ks [] → (all : Statements) → ReadyStatements w r sees all
        → Sim n (Flows TypedValues r) (Scope TypedValues scope ks) (Within TypedValues scope ks) (sequence all c) (sequence (moved_statements w.plans sees all) d)
    sequence_sim sees scope ks ag NoStatements h = no_statements_sim n TypedValues r c d scope ks
    sequence_sim sees scope ks ag (Then s rest) h =
        then_sim sees scope ks ag s rest h.0 h.1 (acts sees scope ks ag s h.0)
        (sequence_sim (sees_behind s sees) (scope_after s scope) (marks_after s ks) (agrees_after s sees scope ks ag) rest h.1)
