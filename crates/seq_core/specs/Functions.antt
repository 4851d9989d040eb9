-- The function that is written for a sequence: a declaration for each step that has a value, a statement for each other, and a `return`.
use Rattle.std.specs.Prelude.{ℕ, ◌+◌, Bool, List, [], ◌∷◌, ◌++◌, map, length, Option, Some, None, true, false, codes, decimal, if◌then◌else◌}
use Rattle.c_text.specs.declared.tokens.Place.{Place}
use Rattle.c_tree.specs.declared.types.CType.{CType}
use Rattle.c_tree.specs.Tree as tree
use Rattle.c_tree.specs.Tree.{Tree, Node, Object, Statement, Statements, Definition, NoStatements}
use Rattle.c_tree.specs.View.{and_then}
use Rattle.c_memory.specs.Meaning as meaning
use Rattle.seq_core.specs.Terms.{Term, Sequence}
use Rattle.seq_core.specs.Actions.{is_void}
use Rattle.seq_core.specs.Written.{Pen, pen, written}

-- a parameter or the value of a step: its name and its type, `void` for a step without a value
pub record Variable : Type 0 where
  pub name : List ℕ
  pub ty : CType

abbrev pub variable : List ℕ → CType → Variable
variable name ty = record { name = name; ty = ty }

-- parameter k is `a0`, `a1` and so on, and step k is `s0`, `s1` and so on
abbrev pub param_name : ℕ → List ℕ
param_name k = codes "a" ++ decimal k

abbrev pub step_name : ℕ → List ℕ
step_name k = codes "s" ++ decimal k

abbrev pub params_from : ℕ → List CType → List Variable
params_from k [] = []
params_from k (t ∷ ts) = variable (param_name k) t ∷ params_from (k + 1) ts

abbrev pub named : Place → Variable → Tree
named place v = Node place v.ty (tree.Name v.name)

-- what is written over these parameters and steps
abbrev pub pen_over : Place → List Variable → List Variable → Pen
pen_over place ps ss = pen place (map (named place) ps) (map (named place) ss)

abbrev pub object_of : Place → Variable → Option Tree → Object
object_of place v init =
    record { place = place; name = v.name; ty = v.ty; length = None; constant = false; align = None; align_first = false; init = init; list = None }

-- the next step behind these
abbrev pub step_variable : Place → List Variable → List Variable → Term → Variable
step_variable place ps ss t = variable (step_name (length ss)) (meaning.type_of (written (pen_over place ps ss) t))

-- a statement alone for a step without a value, and else the declaration of this name
abbrev pub statement_over : Place → List ℕ → Bool → Tree → Statement
statement_over place name void e = if void then tree.Run e else tree.Declare (object_of place (variable name (meaning.type_of e)) (Some e) ∷ [])

abbrev pub step_statement : Place → List Variable → List Variable → Term → Statement
step_statement place ps ss t = statement_over place (step_name (length ss)) (is_void t) (written (pen_over place ps ss) t)

-- the name that stands for the next step's value behind these expressions
abbrev pub step_over : Place → List Tree → List Tree → Term → Tree
step_over place ps ss t = named place (variable (step_name (length ss)) (meaning.type_of (written (pen place ps ss) t)))

-- the steps in order, behind those before
abbrev pub steps_written : Place → List Variable → List Variable → List Term → List Statement
steps_written place ps ss [] = []
steps_written place ps ss (t ∷ rest) = step_statement place ps ss t ∷ steps_written place ps (ss ++ step_variable place ps ss t ∷ []) rest

abbrev pub steps_after : Place → List Variable → List Variable → List Term → List Variable
steps_after place ps ss [] = ss
steps_after place ps ss (t ∷ rest) = steps_after place ps (ss ++ step_variable place ps ss t ∷ []) rest

-- the end of the function
abbrev pub returned : Pen → Option Term → List Statement
returned p None = []
returned p (Some t) = tree.Return p.place (Some (written p t)) ∷ []

abbrev pub result_type : Pen → Option Term → CType
result_type p None = CType.Void
result_type p (Some t) = meaning.type_of (written p t)

-- the place of all of it
abbrev pub start : Place
start = record { line = 1; col = 1 }

-- the function of that name at a place; it is `static inline`
abbrev pub function_of : Place → List ℕ → Sequence → Definition
function_of place name s =
    let ps = params_from 0 s.params in
    let last = pen_over place ps (steps_after place ps [] s.steps) in
    record {
      place = place;
      name = name;
      result = result_type last s.result;
      params = map (λ v. object_of place v None) ps;
      is_static = true;
      is_inline = true;
      body = and_then (steps_written place ps [] s.steps ++ returned last s.result) NoStatements;
    }
