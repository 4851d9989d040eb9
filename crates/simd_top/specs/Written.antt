-- The Neon unit that is written for a unit of the first form.
use Rattle.std.specs.Prelude.{ℕ, List, map, Option, Some, None, true}
use Rattle.std.specs.Option.{option_map}
use Rattle.lane_core.specs.declared.vector.NeonLane.TheVariants.{U8}
use Rattle.c_tree.specs.declared.types.CType.{CType}
use Rattle.c_tree.specs.declared.types.CType.TheVariants.{M128, Neon}
use Rattle.c_tree.specs.Tree.{Tree, Kind, Trees, Node, Call, NoTrees, More, Object, Statement, Statements, Return, NoStatements, Then, Definition, External, Function, Table}
use Rattle.simd_top.specs.declared.rows.FormRow.{FormRow}
use Rattle.simd_top.specs.Rows.{intel_row, neon_name, moved_row}

-- a register of 16 bytes, which each expression of the form is
abbrev pub register : CType
register = Neon U8 true

-- `uint8x16_t` stands for `__m128i`
abbrev pub moved_type : CType → CType
moved_type M128 = register
moved_type ty = ty

-- the call of a Neon row stands for that of a row
abbrev pub moved_call : List ℕ → Option FormRow → List ℕ
moved_call f (Some op) = neon_name (moved_row op)
moved_call f None = f

abbrev mutual
  pub moved_tree : Tree → Tree
  moved_tree (Node p ty k) = Node p register (moved_kind k)

  pub moved_kind : Kind → Kind
  moved_kind (Call f operands) = Call (moved_call f (intel_row f)) (moved_trees operands)
  moved_kind k = k

  pub moved_trees : Trees → Trees
  moved_trees NoTrees = NoTrees
  moved_trees (More a rest) = More (moved_tree a) (moved_trees rest)

abbrev pub moved_object : Object → Object
moved_object o = record o { ty = moved_type o.ty }

abbrev pub moved_statement : Statement → Statement
moved_statement (Return p e) = Return p (option_map moved_tree e)
moved_statement s = s

abbrev pub moved_statements : Statements → Statements
moved_statements NoStatements = NoStatements
moved_statements (Then s rest) = Then (moved_statement s) (moved_statements rest)

abbrev pub moved_function : Definition → Definition
moved_function f = record f { result = moved_type f.result; params = map moved_object f.params; body = moved_statements f.body }

abbrev pub moved_item : External → External
moved_item (Function f) = Function (moved_function f)
moved_item (Table o is_static) = Table o is_static

abbrev pub moved_unit : List External → List External
moved_unit unit = map moved_item unit
