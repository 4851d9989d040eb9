-- What is asked of the statements and functions of a source, so that what is written for them does the same.
use Rattle.std.specs.Prelude.{◌≡◌, List, [], ◌∷◌, Option, Some, None}
use Rattle.c_tree.specs.declared.types.CType.{CType}
use Rattle.c_tree.specs.Tree.{Tree, Object, Statement, Statements, Optional, Declare, Run, Block, If, While, DoWhile, For, Return, Absent, Present, NoStatements, Then}
use Rattle.c_tree.specs.Tree.{Definition}
use Rattle.c_memory.specs.Meaning.{type_of}
use Rattle.written_forms.specs.Seen.{Sees, sees_nothing, beginning, declared}
use Rattle.written_forms.specs.Statements.{sees_behind, sees_optional, sees_parameters}
use Rattle.written_forms.specs.Ready.{Setting, IsInt, IsCarried, Ready}

abbrev pub ReadyFirst : Setting → Sees → CType → Option Tree → Type 0
ReadyFirst w sees t None = Unit {0}
ReadyFirst w sees t (Some e) = (type_of e ≡ t) × Ready w sees e

-- an object apart from memory, with a first value of its type or none
pub record ReadyObject (w : Setting) (sees : Sees) (d : Object) : Type 0 where
  pub carried : IsCarried d.ty
  pub list : d.list ≡ None
  pub init : ReadyFirst w (beginning d sees) d.ty d.init

abbrev pub ReadyObjects : Setting → Sees → List Object → Type 0
ReadyObjects w sees [] = Unit {0}
ReadyObjects w sees (d ∷ rest) = ReadyObject w sees d × ReadyObjects w (declared d sees) rest

abbrev pub ReadyCondition : Setting → Sees → Option Tree → Type 0
ReadyCondition w sees None = Unit {0}
ReadyCondition w sees (Some e) = IsInt (type_of e) × Ready w sees e

abbrev pub ReadyStep : Setting → Sees → Option Tree → Type 0
ReadyStep w sees None = Unit {0}
ReadyStep w sees (Some e) = Ready w sees e

-- what a function of result type r returns
abbrev pub ReadyResult : Setting → Sees → CType → Option Tree → Type 0
ReadyResult w sees r None = Unit {0}
ReadyResult w sees r (Some e) = (type_of e ≡ r) × Ready w sees e

-- the first part of a `for`: a declaration, an expression, or none
abbrev pub ReadyStart : Setting → Sees → Optional → Type 0
ReadyStart w sees Absent = Unit {0}
ReadyStart w sees (Present (Declare all)) = ReadyObjects w sees all
ReadyStart w sees (Present (Run e)) = Ready w sees e
ReadyStart w sees (Present s) = ⊥

abbrev mutual
  -- in a function of result type r
  pub ReadyStatement : Setting → CType → Sees → Statement → Type 0
  ReadyStatement w r sees (Declare all) = ReadyObjects w sees all
  ReadyStatement w r sees (Run e) = Ready w sees e
  ReadyStatement w r sees (Block all) = ReadyStatements w r sees all
  ReadyStatement w r sees (If e s o) = IsInt (type_of e) × Ready w sees e × ReadyStatement w r sees s × ReadyOptional w r sees o
  ReadyStatement w r sees (While e s) = IsInt (type_of e) × Ready w sees e × ReadyStatement w r sees s
  ReadyStatement w r sees (DoWhile s e) = IsInt (type_of e) × Ready w sees e × ReadyStatement w r sees s
  ReadyStatement w r sees (For i e n s) =
      ReadyStart w sees i × ReadyCondition w (sees_optional i sees) e × ReadyStep w (sees_optional i sees) n × ReadyStatement w r (sees_optional i sees) s
  ReadyStatement w r sees (Return p e) = ReadyResult w sees r e
  ReadyStatement w r sees s = Unit {0}

  pub ReadyOptional : Setting → CType → Sees → Optional → Type 0
  ReadyOptional w r sees Absent = Unit {0}
  ReadyOptional w r sees (Present s) = ReadyStatement w r sees s

  pub ReadyStatements : Setting → CType → Sees → Statements → Type 0
  ReadyStatements w r sees NoStatements = Unit {0}
  ReadyStatements w r sees (Then s rest) = ReadyStatement w r sees s × ReadyStatements w r (sees_behind s sees) rest

-- parameters apart from memory
abbrev pub ReadyParameters : List Object → Type 0
ReadyParameters [] = Unit {0}
ReadyParameters (d ∷ rest) = IsCarried d.ty × ReadyParameters rest

pub record ReadyFunction (w : Setting) (f : Definition) : Type 0 where
  pub params : ReadyParameters f.params
  pub body : ReadyStatements w f.result (sees_parameters f.params sees_nothing) f.body
