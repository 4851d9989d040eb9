-- On the truth values that `address_taken` gives, what is done is the meaning.
use Rattle.std.proofs.Common.{◌≡◌, ℕ, ◌||◌, List, [], ◌∷◌, map, if◌then◌else◌, refl, ap, ◌∙◌}
use mathlib.Core.Path.{fun_ext}
use Rattle.std.specs.Str.{bytes_eq}
use Rattle.c_tree.specs.Tree.{Object, Statement, Statements, Optional, Declare, Run, Block, If, While, DoWhile, For, Break, Continue, Return, Empty, Absent, Present, NoStatements, Then, Definition}
use Rattle.address_taken.specs.Addressed.{takes_optional, takes_declared, takes_statement, takes_statements}
use Rattle.address_taken.specs.Taken.{TakenTrees, NoParts, Part, taken_objects, taken_statement, taken_optional, taken_statements}
use Rattle.c_memory.specs.declared.value.Value.{Value}
use Rattle.c_memory.specs.MeaningState.{Binding, ◌>>=◌, ◌>>◌, pure, scoped, then_do}
use Rattle.c_memory.specs.Meaning as meaning
use Rattle.c_memory.specs.Meaning.{Calls, Later, no_more, condition, expression, choose, on_next, loops, loops_after, with_step, optional_condition, optional_value, spend_for, back_to, result}
use Rattle.c_meaning.specs.Flagged.{declare, declare_one, act, optional_act, optional_body, sequence, after_start, begin_parameter, begin_parameters, call_of, with_function, outermost}
use Rattle.c_meaning.specs.Marked.{marked}

declare_same : (all : List Object) (later : Later) (c : Calls) → declare all (taken_objects all later) c ≡ meaning.declare all later c
declare_same [] later c = refl
declare_same (d ∷ rest) later c =
    ap (λ p. declare_one d (takes_optional d.name d.init || (takes_declared d.name rest || later d.name)) c >>= (λ _. p)) (declare_same rest later c)

after_same : (i : Optional) (later : Later) (more : TakenTrees) → after_start i (taken_optional i later more) ≡ more
after_same Absent later more = refl
after_same (Present s) later more = refl

mutual
  act_same : (s : Statement) (later : Later) (rest : TakenTrees) (c : Calls) → act s (Part (taken_statement s later) rest) c ≡ meaning.act s later c
  act_same (Declare all) later rest c = ap (λ p. p >> pure meaning.Next) (declare_same all later c)
  act_same (Run e) later rest c = refl
  act_same (Block all) later rest c = ap scoped (sequence_same all c)
  act_same (If e s o) later rest c =
      ap (λ p. condition (expression e c) >>= (λ v. choose v (scoped p) (optional_body o (taken_optional o no_more NoParts) c))) (act_same s no_more (taken_optional o no_more NoParts) c)
      ∙ ap (λ p. condition (expression e c) >>= (λ v. choose v (scoped (meaning.act s no_more c)) p)) (body_same o NoParts c)
  act_same (While e s) later rest c = ap (λ p t. loops t.left (condition (expression e c)) (scoped p) t) (act_same s no_more NoParts c)
  act_same (DoWhile s e) later rest c = ap (λ p t. loops_after t.left (condition (expression e c)) (scoped p) t) (act_same s no_more NoParts c)
  act_same (For i e n s) later rest c =
      let behind = λ (x : List ℕ). takes_optional x e || (takes_optional x n || takes_statement x s) in
      let body = Part (taken_statement s no_more) NoParts in
      ap (λ p. scoped (p >> (λ t. loops t.left (optional_condition e c) (with_step (scoped (act s (after_start i (taken_optional i behind body)) c)) (optional_value n c)) t))) (optional_same i behind body c)
      ∙ ap (λ trees. scoped (meaning.optional_act i behind c >> (λ t. loops t.left (optional_condition e c) (with_step (scoped (act s trees c)) (optional_value n c)) t))) (after_same i behind body)
      ∙ ap (λ p. scoped (meaning.optional_act i behind c >> (λ t. loops t.left (optional_condition e c) (with_step (scoped p) (optional_value n c)) t))) (act_same s no_more NoParts c)
  act_same (Break p) later rest c = refl
  act_same (Continue p) later rest c = refl
  act_same (Return p e) later rest c = refl
  act_same Empty later rest c = refl

  optional_same : (o : Optional) (later : Later) (more : TakenTrees) (c : Calls) → optional_act o (taken_optional o later more) c ≡ meaning.optional_act o later c
  optional_same Absent later more c = refl
  optional_same (Present s) later more c = act_same s later more c

  body_same : (o : Optional) (more : TakenTrees) (c : Calls) → optional_body o (taken_optional o no_more more) c ≡ meaning.optional_body o c
  body_same Absent more c = refl
  body_same (Present s) more c = ap scoped (act_same s no_more more c)

  sequence_same : (all : Statements) (c : Calls) → sequence all (taken_statements all) c ≡ meaning.sequence all c
  sequence_same NoStatements c = refl
  sequence_same (Then s rest) c =
      ap (λ p. p >>= (λ f. on_next f (sequence rest (taken_statements rest) c))) (act_same s (λ x. takes_statements x rest) (taken_statements rest) c)
      ∙ ap (λ p. meaning.act s (λ x. takes_statements x rest) c >>= (λ f. on_next f p)) (sequence_same rest c)

parameters_same : (body : Statements) (ds : List Object) (vs : List Value) → begin_parameters ds (map (λ d. takes_statements d.name body) ds) vs ≡ meaning.begin_parameters body ds vs
parameters_same body [] [] = refl
parameters_same body [] (v ∷ vs) = refl
parameters_same body (d ∷ ds) [] = refl
parameters_same body (d ∷ ds) (v ∷ vs) = ap (λ p. begin_parameter d (takes_statements d.name body) v >> p) (parameters_same body ds vs)

call_same : (tables : List Binding) (f : Definition) (c : Calls) (args : List Value) → call_of tables (marked f) c args ≡ meaning.call_of tables f c args
call_same tables f c args =
    ap (λ p s. then_do ((p >>= (λ _. sequence f.body (taken_statements f.body) c >>= (λ flow. result f.result flow))) (record s { objects = tables })) (back_to s)) (parameters_same f.body f.params args)
    ∙ ap (λ p s. then_do ((meaning.begin_parameters f.body f.params args >>= (λ _. p >>= (λ flow. result f.result flow))) (record s { objects = tables })) (back_to s)) (sequence_same f.body c)

with_same : (tables : List Binding) (f : Definition) (c : Calls) → with_function tables (marked f) c ≡ meaning.with_function tables f c
with_same tables f c = fun_ext (λ name. fun_ext (λ args. ap (λ p. if bytes_eq name f.name then spend_for name >> p else c name args) (call_same tables f c args)))

pub outermost_same : (tables : List Binding) (c : Calls) (fs : List Definition) (name : List ℕ) (args : List Value) → outermost tables c (map marked fs) name args ≡ meaning.outermost tables c fs name args
outermost_same tables c [] name args = refl
outermost_same tables c (f ∷ rest) name args =
    ap (λ p. if bytes_eq name f.name then p else outermost tables (with_function tables (marked f) c) (map marked rest) name args) (call_same tables f c args)
    ∙ ap (λ d. if bytes_eq name f.name then meaning.call_of tables f c args else outermost tables d (map marked rest) name args) (with_same tables f c)
    ∙ ap (λ p. if bytes_eq name f.name then meaning.call_of tables f c args else p) (outermost_same tables (meaning.with_function tables f c) rest name args)
