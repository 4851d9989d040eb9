-- The first form of a unit, in the x86 dialect: functions of registers that return a nest of rows.
use Rattle.std.specs.Prelude.{◌≡◌, ℕ, List, [], ◌∷◌, ◌++◌, Bool, true, false, ◌&&◌, not, if◌then◌else◌, Option, Some, None, is_some, is_none, take, map}
use Rattle.std.specs.List.{list_any}
use Rattle.c_text.specs.declared.tokens.Dialect.TheVariants.{X86, Neon}
use Rattle.c_text.specs.declared.tokens.Place.{Place}
use Rattle.c_text.specs.declared.refusals.Refusal.{Refusal}
use Rattle.c_text.specs.Forms.{is_name}
use Rattle.c_tree.specs.declared.types.CType.{CType}
use Rattle.c_tree.specs.declared.types.CType.TheVariants.{M128}
use Rattle.c_tree.specs.Tree.{Tree, Kind, Trees, Node, Name, Call, NoTrees, More, Object, Statement, Statements, Return, NoStatements, Then, Definition, External, Function, Table}
use Rattle.c_parse.specs.declared.symbols.Symbol.{Symbol}
use Rattle.c_parse.specs.declared.symbols.Symbol.TheVariants as symbols
use Rattle.c_parse.specs.Symbols.{name_symbol}
use Rattle.object_types.specs.Reserved.{is_reserved}
use Rattle.vector_types.specs.Rows.{is_neon_row}
use Rattle.scopes.specs.Scopes.{same_name}
use Rattle.simd_top.specs.Rows.{intel_row}

-- one of the names is x
abbrev pub is_in : List (List ℕ) → List ℕ → Bool
is_in names x = list_any (λ y. same_name x y) names

-- what a word that is no keyword and no type is
abbrev pub is_plain_name : Symbol → Bool
is_plain_name symbols.Name = true
is_plain_name s = false

-- A name that both units may declare: one of C (C11 6.4.2.1) that is no word of the Neon dialect, and isn't reserved.
abbrev pub is_free : List ℕ → Bool
is_free x = is_name x && is_plain_name (name_symbol Neon x) && not (is_reserved X86 (is_neon_row x) x)

-- An expression: a parameter, or a row of two expressions.
abbrev mutual
  pub is_expression : List (List ℕ) → Tree → Bool
  is_expression parameters (Node p ty k) = is_kind parameters k

  pub is_kind : List (List ℕ) → Kind → Bool
  is_kind parameters (Name x) = is_in parameters x
  is_kind parameters (Call f operands) = is_some (intel_row f) && are_two operands && are_expressions parameters operands
  is_kind parameters k = false

  pub are_expressions : List (List ℕ) → Trees → Bool
  are_expressions parameters NoTrees = true
  are_expressions parameters (More a rest) = is_expression parameters a && are_expressions parameters rest

  pub are_two : Trees → Bool
  are_two NoTrees = false
  are_two (More a rest) = is_one rest

  pub is_one : Trees → Bool
  is_one NoTrees = false
  is_one (More a rest) = is_end rest

  pub is_end : Trees → Bool
  is_end NoTrees = true
  is_end (More a rest) = false

-- a register of 16 bytes
abbrev pub is_register : CType → Bool
is_register M128 = true
is_register ty = false

-- an object of this type, without `const`, a length, an alignment or a value
abbrev pub is_plain : Object → Bool
is_plain o = is_register o.ty && not o.constant && is_none o.length && is_none o.align && is_none o.init && is_none o.list

-- a parameter whose name is free, and differs from those that were seen
abbrev pub is_parameter : List (List ℕ) → Object → Bool
is_parameter seen o = is_plain o && is_free o.name && not (is_in seen o.name)

-- parameters of that kind, whose names differ from each other too
abbrev pub are_parameters : List (List ℕ) → List Object → Bool
are_parameters seen [] = true
are_parameters seen (o ∷ os) = is_parameter seen o && are_parameters (seen ++ o.name ∷ []) os

abbrev pub names_of : List Object → List (List ℕ)
names_of os = map (λ o. o.name) os

-- the statement returns an expression
abbrev pub returns_option : List (List ℕ) → Option Tree → Bool
returns_option parameters None = false
returns_option parameters (Some e) = is_expression parameters e

abbrev pub returns : List (List ℕ) → Statement → Bool
returns parameters (Return p e) = returns_option parameters e
returns parameters s = false

abbrev pub are_none : Statements → Bool
are_none NoStatements = true
are_none (Then s rest) = false

-- the body is one such statement
abbrev pub is_body : List (List ℕ) → Statements → Bool
is_body parameters NoStatements = false
is_body parameters (Then s rest) = returns parameters s && are_none rest

-- one parameter at least
abbrev pub has_one : List Object → Bool
has_one [] = false
has_one (o ∷ os) = true

-- a heading with a register as its result, without `static` and `inline`
abbrev pub is_heading : Definition → Bool
is_heading f = is_register f.result && not f.is_static && not f.is_inline && is_free f.name && has_one f.params

abbrev pub is_function : Definition → Bool
is_function f = are_parameters [] f.params && is_heading f && is_body (names_of f.params) f.body

-- an item of the first form, behind functions of these names
abbrev pub is_item : List (List ℕ) → External → Bool
is_item seen (Function f) = is_function f && not (is_in seen f.name)
is_item seen (Table o is_static) = false

abbrev pub item_name : External → List ℕ
item_name (Function f) = f.name
item_name (Table o is_static) = o.name

abbrev pub item_place : External → Place
item_place (Function f) = f.place
item_place (Table o is_static) = o.place

-- the refusal of an item that is outside the form: at its name
abbrev pub outside : External → Refusal
outside x = record { number = 18; place = item_place x; detail = take 255 (item_name x) }

-- the first item that is outside the form, behind functions of these names
abbrev pub first_outside : List (List ℕ) → List External → Option Refusal
first_outside seen [] = None
first_outside seen (x ∷ xs) = if is_item seen x then first_outside (seen ++ item_name x ∷ []) xs else Some (outside x)

-- the unit is of the first form
abbrev pub IsFirstForm : List External → Type 0
IsFirstForm unit = first_outside [] unit ≡ None
