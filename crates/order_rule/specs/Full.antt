-- The full expressions of a function (C11 6.8p4), and what the order rule says of them.
use Rattle.std.specs.Prelude.{Bool, true, false, ◌||◌, List, [], ◌∷◌, Option, Some, None, map, option_map}
use Rattle.std.specs.List.{list_any}
use Rattle.c_text.specs.declared.refusals.Refusal.{Refusal}
use Rattle.c_tree.specs.Tree.{Tree, Object, Statement, Statements, Optional, Declare, Run, Block, If, While, DoWhile, For, Return, Absent, Present, NoStatements, Then, Definition}
use Rattle.c_tree.specs.View.{view}
use Rattle.c_tree.specs.Nodes.{node_place}
use Rattle.c_tree.specs.Marks.{mark}
use Rattle.scopes.specs.Scopes.{or_else}
use Rattle.address_taken.specs.Addressed.{takes_statements}
use Rattle.address_taken.specs.Taken.{TakenTrees, Objects, Parts, NoParts, Part, taken_statements}
use Rattle.order_rule.specs.declared.callees.Effects.{Effects}
use Rattle.order_rule.specs.declared.findings.Findings.{Findings as CodeFindings}
use Rattle.order_rule.specs.declared.times.Times.{Times}
use Rattle.order_rule.specs.declared.times.Times.TheVariants.{Never}
use Rattle.order_rule.specs.Callees.{Callees}
use Rattle.order_rule.specs.Memory.{Env, outset, with_object, opened}
use Rattle.order_rule.specs.Writing.{writers}
use Rattle.order_rule.specs.Reading.{reads}
use Rattle.order_rule.specs.Parts.{broken}

-- a full expression, and what its place sees
pub record Full : Type 0 where
  pub expression : Tree
  pub env : Env

abbrev pub full : Tree → Env → Full
full e env = record { expression = e; env = env }

-- an expression that may be left out, before further ones
abbrev pub full_maybe : Option Tree → Env → List Full → List Full
full_maybe None env more = more
full_maybe (Some e) env more = full e env ∷ more

-- what is known of objects and of parts: of the first of these statements, and those of the statements behind it
abbrev pub flags : TakenTrees → List Bool
flags (Part (Objects all) rest) = all
flags ts = []

abbrev pub inner : TakenTrees → TakenTrees
inner (Part (Parts all) rest) = all
inner ts = NoParts

abbrev pub behind : TakenTrees → TakenTrees
behind NoParts = NoParts
behind (Part t rest) = rest

abbrev pub behind_optional : Optional → TakenTrees → TakenTrees
behind_optional Absent ts = ts
behind_optional (Present s) ts = behind ts

abbrev pub first_flag : List Bool → Bool
first_flag [] = false
first_flag (b ∷ rest) = b

abbrev pub other_flags : List Bool → List Bool
other_flags [] = []
other_flags (b ∷ rest) = rest

-- the scope with these objects
abbrev pub with_objects : List Object → List Bool → Env → Env
with_objects [] taken env = env
with_objects (d ∷ rest) taken env = with_objects rest (other_flags taken) (with_object d.name (first_flag taken) env)

-- the initialisers of declared objects, each in the scope with its object and those before it (6.2.1p7)
abbrev pub full_objects : List Object → List Bool → Env → List Full → List Full
full_objects [] taken env more = more
full_objects (d ∷ rest) taken env more =
    full_maybe d.init (with_object d.name (first_flag taken) env) (full_objects rest (other_flags taken) (with_object d.name (first_flag taken) env) more)

-- what a statement leaves in scope
abbrev pub beyond : Statement → TakenTrees → Env → Env
beyond (Declare all) ts env = with_objects all (flags ts) env
beyond s ts env = env

abbrev pub beyond_optional : Optional → TakenTrees → Env → Env
beyond_optional Absent ts env = env
beyond_optional (Present s) ts env = beyond s ts env

abbrev pub beyond_all : Statements → TakenTrees → Env → Env
beyond_all NoStatements ts env = env
beyond_all (Then s rest) ts env = beyond_all rest (behind ts) (beyond s ts env)

abbrev mutual
  -- the full expressions of a statement in the order of the text, before further ones; `ts` begins with what is known of its objects
  pub full_statement : Statement → TakenTrees → Env → List Full → List Full
  full_statement (Declare all) ts env more = full_objects all (flags ts) env more
  full_statement (Run e) ts env more = full e env ∷ more
  full_statement (Block all) ts env more = full_statements all (inner ts) (opened env) more
  full_statement (If c s o) ts env more = full c env ∷ full_statement s (inner ts) (opened env) (full_optional o (behind (inner ts)) (opened env) more)
  full_statement (While c s) ts env more = full c env ∷ full_statement s (inner ts) (opened env) more
  full_statement (DoWhile s c) ts env more = full_statement s (inner ts) (opened env) (full c env ∷ more)
  full_statement (For i c n s) ts env more =
      full_optional i (inner ts) (opened env)
      (full_maybe c (beyond_optional i (inner ts) (opened env))
      (full_maybe n (beyond_optional i (inner ts) (opened env))
      (full_statement s (behind_optional i (inner ts)) (opened (beyond_optional i (inner ts) (opened env))) more)))
  full_statement (Return p e) ts env more = full_maybe e env more
  full_statement s ts env more = more

  pub full_optional : Optional → TakenTrees → Env → List Full → List Full
  full_optional Absent ts env more = more
  full_optional (Present s) ts env more = full_statement s ts env more

  -- of statements in a row
  pub full_statements : Statements → TakenTrees → Env → List Full → List Full
  full_statements NoStatements ts env more = more
  full_statements (Then s rest) ts env more = full_statement s ts env (full_statements rest (behind ts) (beyond s ts env) more)

-- what the outermost block of a body sees first: the parameters, which are of its scope (6.2.1p4)
abbrev pub entered : Definition → Env
entered f = with_objects f.params (map (λ d. takes_statements d.name f.body) f.params) (outset f.body)

abbrev pub full_expressions : Definition → List Full
full_expressions f = full_statements f.body (taken_statements f.body) (entered f) []

abbrev pub some_times : Times → Bool
some_times Never = false
some_times t = true

abbrev pub is_writing : Callees → Full → Bool
is_writing callees x = some_times (writers x.env callees x.expression)

abbrev pub is_reading : Callees → Full → Bool
is_reading callees x = reads false x.env callees x.expression

-- what a function may do, given what those before it may do: store, where its body has a writer, and read memory, where its body does
abbrev pub effects_of : Definition → Callees → Effects
effects_of f callees = record { stores = list_any (is_writing callees) (full_expressions f); reads = list_any (is_reading callees) (full_expressions f) }

abbrev pub broken_of : Callees → Full → Option Tree
broken_of callees x = broken x.env callees x.expression

abbrev pub first_broken : Callees → List Full → Option Tree
first_broken callees [] = None
first_broken callees (x ∷ rest) = or_else (broken_of callees x) (first_broken callees rest)

-- what is shown of a part that breaks the rule: its root
abbrev pub refusal : Tree → Refusal
refusal e = record { number = 16; place = node_place e; detail = mark e }

-- the first part of a full expression that breaks the rule
abbrev pub order_of : Definition → Callees → Option Refusal
order_of f callees = option_map refusal (first_broken callees (full_expressions f))

-- ---- what is found of the full expressions so far: what they may do, and the first part that breaks the rule

pub record Findings : Type 0 where
  pub effects : Effects
  pub broken : Option Tree

abbrev pub nothing : Findings
nothing = record { effects = record { stores = false; reads = false }; broken = None }

abbrev pub noted : Callees → Full → Findings → Findings
noted callees x f = record {
  effects = record { stores = f.effects.stores || is_writing callees x; reads = f.effects.reads || is_reading callees x };
  broken = or_else f.broken (broken_of callees x);
}

abbrev pub noted_all : Callees → List Full → Findings → Findings
noted_all callees [] f = f
noted_all callees (x ∷ rest) f = noted_all callees rest (noted callees x f)

abbrev pub found : CodeFindings → Findings
found f = record { effects = f.effects; broken = option_map (λ e. view e.now) f.broken }
