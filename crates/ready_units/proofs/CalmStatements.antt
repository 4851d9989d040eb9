-- In a function that keeps the order rule no operand of a row assigns to a variable that stands beside it.
use Rattle.std.proofs.Common.{List, [], ◌∷◌, Option, Some, None, Bool}
use Rattle.address_taken.specs.Taken.{TakenTrees, taken_statements}
use Rattle.c_tree.specs.Tree.{Tree, Object, Statement, Statements, Optional, Declare, Run, Block, If, While, DoWhile, For, Break, Continue, Return, Empty, Absent, Present, NoStatements, Then, Definition}
use Rattle.order_rule.specs.Callees.{Callees}
use Rattle.order_rule.specs.Memory.{Env, with_object, opened}
use Rattle.order_rule.specs.Full.{Full, full, full_maybe, full_objects, full_statement, full_optional, full_statements, full_expressions, flags, inner, behind, behind_optional, first_flag, other_flags, beyond, beyond_optional, entered}
use Rattle.order_rule.specs.Rule.{AllPass, KeepsOrder}
use Rattle.ready_units.proofs.Calm.{Calm, passing_calm}

abbrev pub CalmOption : Option Tree → Type 0
CalmOption None = Unit {0}
CalmOption (Some e) = Calm e

abbrev pub CalmObjects : List Object → Type 0
CalmObjects [] = Unit {0}
CalmObjects (d ∷ rest) = CalmOption d.init × CalmObjects rest

abbrev mutual
  pub CalmStatement : Statement → Type 0
  CalmStatement (Declare all) = CalmObjects all
  CalmStatement (Run e) = Calm e
  CalmStatement (Block all) = CalmStatements all
  CalmStatement (If e s o) = Calm e × CalmStatement s × CalmOptional o
  CalmStatement (While e s) = Calm e × CalmStatement s
  CalmStatement (DoWhile s e) = CalmStatement s × Calm e
  CalmStatement (For i e n s) = CalmOptional i × CalmOption e × CalmOption n × CalmStatement s
  CalmStatement (Return p e) = CalmOption e
  CalmStatement s = Unit {0}

  pub CalmOptional : Optional → Type 0
  CalmOptional Absent = Unit {0}
  CalmOptional (Present s) = CalmStatement s

  pub CalmStatements : Statements → Type 0
  CalmStatements NoStatements = Unit {0}
  CalmStatements (Then s rest) = CalmStatement s × CalmStatements rest

-- ---- full expressions

abbrev AllFull : List Full → Type 0
AllFull [] = Unit {0}
AllFull (x ∷ rest) = Calm x.expression × AllFull rest

all_full : (callees : Callees) (all : List Full) → AllPass callees all → AllFull all
all_full callees [] h = tt
all_full callees (x ∷ rest) h = (passing_calm x.env callees x.expression h.0, all_full callees rest h.1)

-- the first part, and the rest
record Calms (A : Type 0) (more : List Full) : Type 0 where
  pub here : A
  pub rest : AllFull more

maybe : (o : Option Tree) (env : Env) (more : List Full) → AllFull (full_maybe o env more) → Calms (CalmOption o) more
maybe None env more h = record { here = tt; rest = h }
maybe (Some e) env more h = record { here = h.0; rest = h.1 }

objects : (all : List Object) (taken : List Bool) (env : Env) (more : List Full) → AllFull (full_objects all taken env more) → Calms (CalmObjects all) more
objects [] taken env more h = record { here = tt; rest = h }
objects (d ∷ rest) taken env more h =
    let inside = with_object d.name (first_flag taken) env in
    let first = maybe d.init inside (full_objects rest (other_flags taken) inside more) h in
    let next = objects rest (other_flags taken) inside more first.rest in
    record { here = (first.here, next.here); rest = next.rest }

mutual
  statement : (s : Statement) (ts : TakenTrees) (env : Env) (more : List Full) → AllFull (full_statement s ts env more) → Calms (CalmStatement s) more
  statement (Declare all) ts env more h = objects all (flags ts) env more h
  statement (Run e) ts env more h = record { here = h.0; rest = h.1 }
  statement (Block all) ts env more h = statements all (inner ts) (opened env) more h
  statement (If c s o) ts env more h =
      let first = statement s (inner ts) (opened env) (full_optional o (behind (inner ts)) (opened env) more) h.1 in
      let next = optional o (behind (inner ts)) (opened env) more first.rest in
      record { here = (h.0, first.here, next.here); rest = next.rest }
  statement (While c s) ts env more h = let first = statement s (inner ts) (opened env) more h.1 in record { here = (h.0, first.here); rest = first.rest }
  statement (DoWhile s c) ts env more h = let first = statement s (inner ts) (opened env) (full c env ∷ more) h in record { here = (first.here, first.rest.0); rest = first.rest.1 }
  statement (For i c n s) ts env more h =
      let around = beyond_optional i (inner ts) (opened env) in
      let body = full_statement s (behind_optional i (inner ts)) (opened around) more in
      let first = optional i (inner ts) (opened env) (full_maybe c around (full_maybe n around body)) h in
      let condition = maybe c around (full_maybe n around body) first.rest in
      let last = maybe n around body condition.rest in
      let run = statement s (behind_optional i (inner ts)) (opened around) more last.rest in
      record { here = (first.here, condition.here, last.here, run.here); rest = run.rest }
  statement (Return p e) ts env more h = maybe e env more h
  statement (Break p) ts env more h = record { here = tt; rest = h }
  statement (Continue p) ts env more h = record { here = tt; rest = h }
  statement Empty ts env more h = record { here = tt; rest = h }

  optional : (o : Optional) (ts : TakenTrees) (env : Env) (more : List Full) → AllFull (full_optional o ts env more) → Calms (CalmOptional o) more
  optional Absent ts env more h = record { here = tt; rest = h }
  optional (Present s) ts env more h = statement s ts env more h

  statements : (all : Statements) (ts : TakenTrees) (env : Env) (more : List Full) → AllFull (full_statements all ts env more) → Calms (CalmStatements all) more
  statements NoStatements ts env more h = record { here = tt; rest = h }
  statements (Then s rest) ts env more h =
      let first = statement s ts env (full_statements rest (behind ts) (beyond s ts env) more) h in
      let next = statements rest (behind ts) (beyond s ts env) more first.rest in
      record { here = (first.here, next.here); rest = next.rest }

pub function_calm : (callees : Callees) (f : Definition) → KeepsOrder callees f → CalmStatements f.body
function_calm callees f h = (statements f.body (taken_statements f.body) (entered f) [] (all_full callees (full_expressions f) h)).here
