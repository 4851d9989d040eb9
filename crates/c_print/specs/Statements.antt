-- How statements are written (C11 6.8): each on a line of its own, with four spaces for each level.
use Rattle.std.specs.Prelude.{ℕ, zero, suc, ◌+◌, List, [], ◌++◌, Bool, true, false, if◌then◌else◌, Option, Some, None, codes}
use Rattle.c_tree.specs.Tree.{Tree, Statement, Statements, Optional, Declare, Run, Block, If, While, DoWhile, For, Break, Continue, Return, Absent, Present, NoStatements, Then}
use Rattle.c_print.specs.declared.statements.Position.{Position}
use Rattle.c_print.specs.declared.statements.Position.TheVariants.{Line, Body, Else}
use Rattle.c_print.specs.Expressions.{text}
use Rattle.c_print.specs.Declarations.{declaration_text}

-- what a line begins with
abbrev pub margin : ℕ → List ℕ
margin zero = []
margin (suc depth) = codes "    " ++ margin depth

-- an expression that may be left out, together with the space before it
abbrev pub optional_text : Option Tree → List ℕ
optional_text None = []
optional_text (Some e) = codes " " ++ text e

-- a statement with no others in it, without its `;`
abbrev pub simple_text : Statement → List ℕ
simple_text (Declare ds) = declaration_text ds
simple_text (Run e) = text e
simple_text (Break p) = codes "break"
simple_text (Continue p) = codes "continue"
simple_text (Return p e) = codes "return" ++ optional_text e
simple_text _ = []

-- the start of a `for`: a declaration, an expression or nothing
abbrev pub start_text : Optional → List ℕ
start_text Absent = []
start_text (Present s) = simple_text s

-- the heading of a `for`
abbrev pub for_text : Optional → Option Tree → Option Tree → List ℕ
for_text start condition next = codes "for (" ++ (start_text start ++ (codes ";" ++ (optional_text condition ++ (codes ";" ++ (optional_text next ++ codes ") ")))))

-- braces, with lines between them
abbrev pub braced : ℕ → List ℕ → List ℕ
braced depth lines = codes "{\n" ++ (lines ++ (margin depth ++ codes "}"))

-- what a statement's first line begins with
abbrev pub first_text : Position → ℕ → List ℕ
first_text Else depth = codes " else "
first_text _ depth = margin depth

abbrev pub is_if : Statement → Bool
is_if (If c s otherwise) = true
is_if _ = false

-- Lines of statements. A block that is a body stands in the braces of its heading, and so does a body that isn't a block.
abbrev mutual
  pub statement_text : Position → ℕ → Statement → List ℕ
  statement_text Body depth (Block all) = statements_text depth all
  statement_text p depth (Block all) = first_text p depth ++ (braced depth (statements_text (depth + 1) all) ++ codes "\n")
  statement_text p depth (If c s otherwise) = first_text p depth ++ (codes "if (" ++ (text c ++ (codes ") " ++ (braced depth (statement_text Body (depth + 1) s) ++ otherwise_text depth otherwise))))
  statement_text p depth (While c s) = first_text p depth ++ (codes "while (" ++ (text c ++ (codes ") " ++ (braced depth (statement_text Body (depth + 1) s) ++ codes "\n"))))
  statement_text p depth (DoWhile s c) = first_text p depth ++ (codes "do " ++ (braced depth (statement_text Body (depth + 1) s) ++ (codes " while (" ++ (text c ++ codes ");\n"))))
  statement_text p depth (For start c next s) = first_text p depth ++ (for_text start c next ++ (braced depth (statement_text Body (depth + 1) s) ++ codes "\n"))
  statement_text p depth s = first_text p depth ++ (simple_text s ++ codes ";\n")

  -- what is behind the body of an `if`
  pub otherwise_text : ℕ → Optional → List ℕ
  otherwise_text depth Absent = codes "\n"
  otherwise_text depth (Present s) = if is_if s then statement_text Else depth s else codes " else " ++ (braced depth (statement_text Body (depth + 1) s) ++ codes "\n")

  pub statements_text : ℕ → Statements → List ℕ
  statements_text depth NoStatements = []
  statements_text depth (Then s rest) = statement_text Line depth s ++ statements_text depth rest
