-- What the statements, functions and units of a source are written as.
use Rattle.std.specs.Prelude.{List, [], ◌∷◌, option_map}
use Rattle.c_tree.specs.Tree.{Object, Statement, Statements, Optional, Declare, Run, Block, If, While, DoWhile, For, Break, Continue, Return, Empty, Absent, Present, NoStatements, Then}
use Rattle.c_tree.specs.Tree.{Definition}
use Rattle.c_memory.specs.Matching.{written_type}
use Rattle.written_forms.specs.Seen.{Sees, beginning, declared, with_parameter}
use Rattle.written_forms.specs.Moved.{Plans, moved, moved_all}

-- ---- objects

-- an object with the type that its own is written as; its first value stands in its own scope
abbrev pub moved_object : Plans → Sees → Object → Object
moved_object plans sees d =
    let inside = beginning d sees in
    record d {
      ty = written_type d.ty;
      length = option_map (moved plans sees) d.length;
      align = option_map (moved plans sees) d.align;
      init = option_map (moved plans inside) d.init;
      list = option_map (moved_all plans inside) d.list;
    }

-- declarators in a row, each behind those before it
abbrev pub moved_objects : Plans → Sees → List Object → List Object
moved_objects plans sees [] = []
moved_objects plans sees (d ∷ rest) = moved_object plans sees d ∷ moved_objects plans (declared d sees) rest

abbrev pub sees_objects : List Object → Sees → Sees
sees_objects [] sees = sees
sees_objects (d ∷ rest) sees = sees_objects rest (declared d sees)

-- what is seen behind a statement: a declaration's objects
abbrev pub sees_behind : Statement → Sees → Sees
sees_behind (Declare all) sees = sees_objects all sees
sees_behind s sees = sees

abbrev pub sees_optional : Optional → Sees → Sees
sees_optional Absent sees = sees
sees_optional (Present s) sees = sees_behind s sees

-- ---- statements

-- a body is a block
abbrev pub braced : Statement → Statement
braced (Block all) = Block all
braced s = Block (Then s NoStatements)

-- an `if` directly behind `else` stays
abbrev pub braced_else : Statement → Statement
braced_else (If e s o) = If e s o
braced_else s = braced s

abbrev mutual
  pub moved_statement : Plans → Sees → Statement → Statement
  moved_statement plans sees (Declare all) = Declare (moved_objects plans sees all)
  moved_statement plans sees (Run e) = Run (moved plans sees e)
  moved_statement plans sees (Block all) = Block (moved_statements plans sees all)
  moved_statement plans sees (If e s o) = If (moved plans sees e) (braced (moved_statement plans sees s)) (moved_else plans sees o)
  moved_statement plans sees (While e s) = While (moved plans sees e) (braced (moved_statement plans sees s))
  moved_statement plans sees (DoWhile s e) = DoWhile (braced (moved_statement plans sees s)) (moved plans sees e)
  moved_statement plans sees (For i e n s) =
      For (moved_optional plans sees i) (option_map (moved plans (sees_optional i sees)) e) (option_map (moved plans (sees_optional i sees)) n)
      (braced (moved_statement plans (sees_optional i sees) s))
  moved_statement plans sees (Break p) = Break p
  moved_statement plans sees (Continue p) = Continue p
  moved_statement plans sees (Return p e) = Return p (option_map (moved plans sees) e)
  moved_statement plans sees Empty = Empty

  pub moved_optional : Plans → Sees → Optional → Optional
  moved_optional plans sees Absent = Absent
  moved_optional plans sees (Present s) = Present (moved_statement plans sees s)

  pub moved_else : Plans → Sees → Optional → Optional
  moved_else plans sees Absent = Absent
  moved_else plans sees (Present s) = Present (braced_else (moved_statement plans sees s))

  pub moved_statements : Plans → Sees → Statements → Statements
  moved_statements plans sees NoStatements = NoStatements
  moved_statements plans sees (Then s rest) = Then (moved_statement plans sees s) (moved_statements plans (sees_behind s sees) rest)

-- ---- functions

-- a parameter with the type that its own is written as; an array's length isn't written
abbrev pub moved_parameter : Object → Object
moved_parameter d = record d { ty = written_type d.ty }

abbrev pub moved_parameters : List Object → List Object
moved_parameters [] = []
moved_parameters (d ∷ rest) = moved_parameter d ∷ moved_parameters rest

abbrev pub sees_parameters : List Object → Sees → Sees
sees_parameters [] sees = sees
sees_parameters (d ∷ rest) sees = sees_parameters rest (with_parameter d sees)

abbrev pub moved_function : Plans → Sees → Definition → Definition
moved_function plans sees f = record f {
  result = written_type f.result;
  params = moved_parameters f.params;
  body = moved_statements plans (sees_parameters f.params sees) f.body;
}
