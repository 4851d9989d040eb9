-- What it is that a unit is another one with its types set and each conversion a cast (C11 6.9 and the profile).
use Rattle.std.specs.Prelude.{◌≡◌, ℕ, ◌<◌, Bool, false, true, List, [], ◌∷◌, Some, None}
use Rattle.c_text.specs.declared.tokens.Dialect.{Dialect}
use Rattle.lane_core.specs.declared.number.IntType.{IntType}
use Rattle.lane_core.specs.declared.vector.Pointee.TheVariants as target
use Rattle.c_tree.specs.declared.types.CType.{CType}
use Rattle.c_tree.specs.declared.types.CType.TheVariants.{Int, Array}
use Rattle.c_tree.specs.Tree.{Tree, Object, Statements, Definition, External, Function, Table}
use Rattle.type_rules.specs.Types.{read_type}
use Rattle.scopes.specs.Scopes.{Env, Callee, named, with_object}
use Rattle.expression_types.specs.Typed.{IsArray, IsVoidPointer}
use Rattle.object_types.specs.Reserved.{is_reserved}
use Rattle.object_types.specs.Objects.{known, behind_declarator}
use Rattle.object_types.specs.Typed.{TypedMember, TypedObject}
use Rattle.statement_types.specs.Statements.{with_objects, around}
use Rattle.statement_types.specs.Typed.{TypedStatements}
use Rattle.order_rule.specs.Callees.{Before}
use Rattle.order_rule.specs.Full.{effects_of}
use Rattle.vector_types.specs.Functions.{without_length, in_function}
use Rattle.vector_types.specs.Order.{calls, with_callee, Orderly}
use Rattle.vector_types.specs.Units.{next_item, unit_env}

-- A function or a table may have the name: it isn't reserved, and neither a table (6.7p3) nor a function (6.9p3) that stands before has it.
pub record MayDefine (env : Env) (x : List ℕ) : Type 0 where
  pub unreserved : is_reserved env.dialect (env.neon x) x ≡ false
  pub undeclared : named x env.innermost ≡ None
  pub undefined : (f : Callee) → named x env.functions ≡ Some f → f.order < env.here → ⊥

-- a parameter has no alignment (6.7.5p2) and no initialiser (6.9.1p6)
pub record IsParameter (d : Object) : Type 0 where
  pub unaligned : d.align ≡ None
  pub unset : d.init ≡ None
  pub unlisted : d.list ≡ None

-- Parameters, each in the scope with those before it (6.2.1p7). An array's length is a constant expression as every object's; as the
-- parameter is a pointer, it isn't kept (6.7.6.3p7).
pub data TypedParameters : Env → List Object → List Object → Type 0 where
  no_parameter : (env : Env) → TypedParameters env [] []
  one_parameter : (env : Env) (d v : Object) (rest more : List Object) → IsParameter d → TypedObject env d v → TypedParameters (with_object v.name (known v.constant v.ty) env) rest more → TypedParameters env (d ∷ rest) (without_length v ∷ more)

-- A function gives no array (6.7.6.3p1) and no pointer to `void`. Its parameters and the outermost block of its body are one scope (6.2.1p4).
pub data TypedFunction (env : Env) : Definition → Definition → Type 0 where
  function : (f : Definition) (ps : List Object) (b : Statements) → MayDefine env f.name → (IsArray (read_type env.dialect f.result) → ⊥) → (IsVoidPointer (read_type env.dialect f.result) → ⊥) →
      TypedParameters (in_function f env) f.params ps → TypedStatements (around (with_objects ps (in_function f env)) (read_type env.dialect f.result) false) f.body b →
      TypedFunction env f (record f { result = read_type env.dialect f.result; params = ps; body = b })

-- an integer type, and an array of one
abbrev pub IsTableType : CType → Type 0
IsTableType (Int s) = Unit {0}
IsTableType (Array (target.Int s) n c) = Unit {0}
IsTableType t = ⊥

-- A table is a constant object of an integer type, or an array of one, that is initialised by constant expressions (6.7.9p4): an integer's
-- value, which sees the name (6.2.1p7), is one, as all members of a list are.
pub record TypedTable (env : Env) (d v : Object) : Type 0 where
  pub free : MayDefine env d.name
  pub constant : d.constant ≡ true
  pub integers : IsTableType (read_type env.dialect d.ty)
  pub initialised : d.init ≡ None → d.list ≡ None → ⊥
  pub value : (s : IntType) (e : Tree) → read_type env.dialect d.ty ≡ Int s → d.init ≡ Some e → (b : Tree) × TypedMember (behind_declarator d.name d.constant (Int s) env) s e b
  pub object : TypedObject env d v

-- Items in a row: each sees the tables before it (6.2.1p4, p7), and the functions of the whole unit by their headings. Each function keeps the
-- order rule, given what those before it may do.
pub data TypedItems : Env → Before → List External → List External → Type 0 where
  no_item : (env : Env) (callees : Before) → TypedItems env callees [] []
  one_function : (env : Env) (callees : Before) (f g : Definition) (rest more : List External) → TypedFunction env f g → Orderly env.dialect (calls callees env) g →
      TypedItems (next_item env) (with_callee env.dialect f.name (effects_of g (calls callees env)) callees) rest more → TypedItems env callees (Function f ∷ rest) (Function g ∷ more)
  one_table : (env : Env) (callees : Before) (d v : Object) (is_static : Bool) (rest more : List External) → TypedTable env d v → TypedItems (next_item (with_object v.name (known v.constant v.ty) env)) callees rest more →
      TypedItems env callees (Table d is_static ∷ rest) (Table v is_static ∷ more)

abbrev pub TypedUnit : Dialect → List External → List External → Type 0
TypedUnit dialect u v = TypedItems (unit_env dialect u) [] u v
