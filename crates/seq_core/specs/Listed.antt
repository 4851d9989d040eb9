-- What is written one after another: operands as a list, and the steps over the expressions that stand for what is behind.
use Rattle.std.specs.Prelude.{List, [], ◌∷◌, ◌++◌, length}
use Rattle.c_text.specs.declared.tokens.Place.{Place}
use Rattle.c_tree.specs.Tree.{Tree, Trees, Statement, NoTrees, More}
use Rattle.seq_core.specs.Terms.{Term}
use Rattle.seq_core.specs.Actions.{is_void}
use Rattle.seq_core.specs.Written.{pen, written}
use Rattle.seq_core.specs.Functions.{step_name, step_over, statement_over}

abbrev pub listed : Trees → List Tree
listed NoTrees = []
listed (More a rest) = a ∷ listed rest

-- the statement of the next step behind these
abbrev pub next_statement : Place → List Tree → List Tree → Term → Statement
next_statement place ps names t = statement_over place (step_name (length names)) (is_void t) (written (pen place ps names) t)

-- the expressions that stand for the steps, behind those before
abbrev pub names_after : Place → List Tree → List Tree → List Term → List Tree
names_after place ps names [] = names
names_after place ps names (t ∷ rest) = names_after place ps (names ++ step_over place ps names t ∷ []) rest

-- their statements
abbrev pub statements_after : Place → List Tree → List Tree → List Term → List Statement
statements_after place ps names [] = []
statements_after place ps names (t ∷ rest) = next_statement place ps names t ∷ statements_after place ps (names ++ step_over place ps names t ∷ []) rest
