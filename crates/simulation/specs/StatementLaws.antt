-- Laws of statements, one for each form. A body and a block are in a scope of their own.
use Rattle.std.proofs.Common.{◌≡◌, ℕ, List, [], ◌∷◌, ◌||◌, Option, Some, None, refl, sym, subst}
use Rattle.c_text.specs.declared.tokens.Place.{Place}
use Rattle.c_tree.specs.declared.types.CType.{CType}
use Rattle.c_tree.specs.Tree.{Tree, Object, Statement, Statements, Optional, Declare, Run, Block, If, While, DoWhile, For, Break, Continue, Return, Empty}
use Rattle.c_tree.specs.Tree.{Absent, Present, NoStatements, Then}
use Rattle.c_memory.specs.declared.value.Value.{Value}
use Rattle.c_memory.specs.MeaningState.{Binding, State, Does, ◌>>◌, pure, scoped}
use Rattle.c_memory.specs.Meaning.{Calls, expression, its_value, condition, Later, declare_one, declare, Flow, Next, Broke, Continued, Returned, on_next}
use Rattle.c_memory.specs.Meaning.{optional_condition, optional_value, act, optional_act, optional_body, sequence, no_more}
use Rattle.address_taken.specs.Addressed.{takes_optional, takes_declared, takes_statement, takes_statements}
use Rattle.simulation.specs.Alike.{Relation, Flows, Objects, Alike, Sim}
use Rattle.simulation.specs.Carried.{Carried, Marks, Scope, Within}
use Rattle.simulation.specs.MemoryLaw.{TurnsLaw}
use Rattle.simulation.specs.Steps.{later_ends, weaker, bind_sim, bind_same, pure_sim, choose_sim, while_sim, do_sim, with_step_sim}
use Rattle.simulation.specs.ScopeLaws.{scoped_sim, within_none}
use Rattle.simulation.specs.ObjectLaws.{Ahead}

-- both go on to what follows
abbrev pub AreNext : Flow → Flow → Type 0
AreNext f g = (f ≡ Next) × (g ≡ Next)

-- the flow of what follows, for any relation of the objects before and after
next_sim : {n : ℕ} {A B : Type 0} {V : A → B → Type 0} (E F : Objects) (p : Does A) (q : Does B) → Sim n V E F p q
    → Sim n AreNext E F (p >> pure Next) (q >> pure Next)
next_sim E F p q h = bind_sim h (λ v w e. pure_sim Next Next (refl, refl))

module _ (n : ℕ) (R : Relation) (r : CType) (c d : Calls) where
  are_flows : (f g : Flow) → AreNext f g → Flows R r f g
  are_flows f g h = subst (λ z. Flows R r z g) (sym h.0) (subst (λ z. Flows R r Next z) (sym h.1) tt)

  flowing : {A B : Type 0} {V : A → B → Type 0} (E F : Objects) (p : Does A) (q : Does B) → Sim n V E F p q
      → Sim n (Flows R r) E F (p >> pure Next) (q >> pure Next)
  flowing E F p q h = bind_sim h (λ v w e. pure_sim Next Next tt)

  -- ---- declarations

  pub declared_none_sim : (E : Objects) (later later' : Later) → Sim n ◌≡◌ E E (declare [] later c) (declare [] later' d)
  declared_none_sim E later later' = pure_sim tt tt refl

  pub declared_sim : (E F G : Objects) (o o' : Object) (rest rest' : List Object) (later later' : Later)
      → Sim n ◌≡◌ E F (declare_one o (λ x. takes_declared x rest || later x) c) (declare_one o' (λ x. takes_declared x rest' || later' x) d) → Sim n ◌≡◌ F G
      (declare rest later c) (declare rest' later' d)
      → Sim n ◌≡◌ E G (declare (o ∷ rest) later c) (declare (o' ∷ rest') later' d)
  declared_sim E F G o o' rest rest' later later' h k = bind_same h (λ u. k)

  pub declare_sim : (E F : Objects) (all all' : List Object) (later later' : Later) → Sim n ◌≡◌ E F (declare all later c) (declare all' later' d)
      → Sim n AreNext E F (act (Declare all) later c) (act (Declare all') later' d)
  declare_sim E F all all' later later' h = next_sim E F (declare all later c) (declare all' later' d) h

  -- ---- statements that declare nothing

  pub run_sim : {V : Option Value → Option Value → Type 0} (E F : Objects) (e e' : Tree) (later later' : Later)
      → Sim n V E F (expression e c) (expression e' d) → Sim n (Flows R r) E F (act (Run e) later c) (act (Run e') later' d)
  run_sim E F e e' later later' h = flowing E F (expression e c) (expression e' d) h

  pub empty_sim : (E : Objects) (later later' : Later) → Sim n (Flows R r) E E (act Empty later c) (act Empty later' d)
  empty_sim E later later' = pure_sim Next Next tt

  pub break_sim : (E : Objects) (p q : Place) (later later' : Later) → Sim n (Flows R r) E E (act (Break p) later c) (act (Break q) later' d)
  break_sim E p q later later' = pure_sim Broke Broke tt

  pub continue_sim : (E : Objects) (p q : Place) (later later' : Later) → Sim n (Flows R r) E E (act (Continue p) later c) (act (Continue q) later' d)
  continue_sim E p q later later' = pure_sim Continued Continued tt

  pub return_none_sim : (E : Objects) (p q : Place) (later later' : Later) → Sim n (Flows R r) E E (act (Return p None) later c) (act (Return q None) later' d)
  return_none_sim E p q later later' = pure_sim (Returned None) (Returned None) tt

  pub return_sim : (E F : Objects) (p q : Place) (e e' : Tree) (later later' : Later)
      → Sim n (R r) E F (its_value (expression e c)) (its_value (expression e' d))
      → Sim n (Flows R r) E F (act (Return p (Some e)) later c) (act (Return q (Some e')) later' d)
  return_sim E F p q e e' later later' h = bind_sim h (λ v w k. pure_sim (Returned (Some v)) (Returned (Some w)) k)

  module _ (scope : List Carried) (ks : Marks) where
    abbrev here : Objects
    here = Scope R scope ks

    abbrev inside : Objects
    inside = Within R scope ks

    pub block_sim : (all all' : Statements) (later later' : Later) → Sim n (Flows R r) here inside (sequence all c) (sequence all' d)
        → Sim n (Flows R r) here here (act (Block all) later c) (act (Block all') later' d)
    block_sim all all' later later' h = scoped_sim R scope ks h

    -- a body, which may be a declaration
    pub body_sim : (s s' : Statement) → Sim n (Flows R r) here inside (act s no_more c) (act s' no_more d)
        → Sim n (Flows R r) here here (scoped (act s no_more c)) (scoped (act s' no_more d))
    body_sim s s' h = scoped_sim R scope ks h

    pub no_other_sim : Sim n (Flows R r) here here (optional_body Absent c) (optional_body Absent d)
    no_other_sim = pure_sim Next Next tt

    pub other_sim : (s s' : Statement) → Sim n (Flows R r) here inside (act s no_more c) (act s' no_more d)
        → Sim n (Flows R r) here here (optional_body (Present s) c) (optional_body (Present s') d)
    other_sim s s' h = scoped_sim R scope ks h

    pub if_sim : (e e' : Tree) (s s' : Statement) (o o' : Optional) (later later' : Later)
        → Sim n ◌≡◌ here here (condition (expression e c)) (condition (expression e' d))
        → Sim n (Flows R r) here inside (act s no_more c) (act s' no_more d) → Sim n (Flows R r) here here (optional_body o c) (optional_body o' d) → Sim n
        (Flows R r) here here (act (If e s o) later c) (act (If e' s' o') later' d)
    if_sim e e' s s' o o' later later' h k l = bind_same h (λ v. choose_sim v (body_sim s s' k) l)

    pub while_statement_sim : TurnsLaw → (e e' : Tree) (s s' : Statement) (later later' : Later)
        → Sim n ◌≡◌ here here (condition (expression e c)) (condition (expression e' d))
        → Sim n (Flows R r) here inside (act s no_more c) (act s' no_more d) → Sim n (Flows R r) here here (act (While e s) later c)
        (act (While e' s') later' d)
    while_statement_sim turns e e' s s' later later' h k = while_sim turns R r h (body_sim s s' k)

    pub do_statement_sim : TurnsLaw → (e e' : Tree) (s s' : Statement) (later later' : Later)
        → Sim n ◌≡◌ here here (condition (expression e c)) (condition (expression e' d))
        → Sim n (Flows R r) here inside (act s no_more c) (act s' no_more d) → Sim n (Flows R r) here here (act (DoWhile s e) later c)
        (act (DoWhile s' e') later' d)
    do_statement_sim turns e e' s s' later later' h k = do_sim turns R r h (body_sim s s' k)

    -- G relates the objects in the loop, with what its first part declares
    pub for_sim : {V : Flow → Flow → Type 0} {W : Option Value → Option Value → Type 0} → TurnsLaw
        → (G : Objects) (i i' : Optional) (e e' m m' : Option Tree) (s s' : Statement) (later later' : Later)
        → Sim n V here G (optional_act i (λ x. takes_optional x e || (takes_optional x m || takes_statement x s)) c)
        (optional_act i' (λ x. takes_optional x e' || (takes_optional x m' || takes_statement x s')) d)
        → Sim n ◌≡◌ G G (optional_condition e c) (optional_condition e' d) → Sim n W G G (optional_value m c) (optional_value m' d)
        → Sim n (Flows R r) G G (scoped (act s no_more c)) (scoped (act s' no_more d)) → ((bs cs : List Binding) → G bs cs → inside bs cs) → Sim n
        (Flows R r) here here (act (For i e m s) later c) (act (For i' e' m' s') later' d)
    for_sim turns G i i' e e' m m' s s' later later' h k l b w =
        scoped_sim R scope ks (bind_sim h (λ f g x. weaker n G G inside _ _ w (while_sim turns R r k (with_step_sim R r b l))))

    -- ---- statements in a row

    pub no_statements_sim : Sim n (Flows R r) here inside (sequence NoStatements c) (sequence NoStatements d)
    no_statements_sim = weaker n here here inside (sequence NoStatements c) (sequence NoStatements d) (within_none R scope ks) (pure_sim Next Next tt)

    following : (p q : Does Flow) (f g : Flow) → Flows R r f g → Sim n (Flows R r) here inside p q → Sim n (Flows R r) here inside (on_next f p) (on_next g q)
    following p q Next Next h k = k
    following p q Broke Broke h k = weaker n here here inside _ _ (within_none R scope ks) (pure_sim Broke Broke tt)
    following p q Continued Continued h k = weaker n here here inside _ _ (within_none R scope ks) (pure_sim Continued Continued tt)
    following p q (Returned v) (Returned w) h k = weaker n here here inside _ _ (within_none R scope ks) (pure_sim (Returned v) (Returned w) h)
    following p q _ _ h k = absurd h

    -- a statement that declares nothing, and those behind it
    pub then_statement_sim : (s s' : Statement) (rest rest' : Statements)
        → Sim n (Flows R r) here here (act s (λ x. takes_statements x rest) c) (act s' (λ x. takes_statements x rest') d)
        → Sim n (Flows R r) here inside (sequence rest c) (sequence rest' d) → Sim n (Flows R r) here inside (sequence (Then s rest) c)
        (sequence (Then s' rest') d)
    then_statement_sim s s' rest rest' h k = bind_sim h (λ f g x. following (sequence rest c) (sequence rest' d) f g x k)

  -- a declaration, and what is behind it with its objects in scope
  pub then_declared_sim : (E F G : Objects) (s s' : Statement) (rest rest' : Statements)
      → Sim n AreNext E F (act s (λ x. takes_statements x rest) c) (act s' (λ x. takes_statements x rest') d)
      → Sim n (Flows R r) F G (sequence rest c) (sequence rest' d) → Sim n (Flows R r) E G (sequence (Then s rest) c) (sequence (Then s' rest') d)
  then_declared_sim E F G s s' rest rest' h k = bind_sim h (λ f g x. rw (x.0, x.1) k)

  -- a statement of the second unit alone
  pub then_added_sim : (E F G : Objects) (s' : Statement) (rest rest' : Statements)
      → ((s t : State) → Alike n E s t → (a : Ahead n F (act s' (λ x. takes_statements x rest') d) s t) × (a.value ≡ Next))
      → Sim n (Flows R r) F G (sequence rest c) (sequence rest' d) → Sim n (Flows R r) E G (sequence rest c) (sequence (Then s' rest') d)
  then_added_sim E F G s' rest rest' h k = record {
    by = λ s t e.
        let (a, is) = h s t e in
        rw (a.done, is) (later_ends n (Flows R r) G t a.state (sequence rest c s) (sequence rest' d a.state) a.after.stays (k.by s a.state a.after.alike));
  }
