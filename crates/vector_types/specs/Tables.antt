-- The check of a table: a constant object at file scope (C11 6.9.2, 6.7.9).
use Rattle.std.specs.Prelude.{ℕ, Bool, true, false, not, ◌&&◌, ◌||◌, is_some, if◌then◌else◌, Option, Some, None, option_map, Ok, Err}
use Rattle.lane_core.specs.declared.vector.Pointee.TheVariants as target
use Rattle.const_imm.specs.Constant.{value_of}
use Rattle.c_tree.specs.declared.types.CType.{CType}
use Rattle.c_tree.specs.declared.types.CType.TheVariants.{Int, Array}
use Rattle.c_tree.specs.Tree.{Tree, Trees, Object}
use Rattle.type_rules.specs.Types.{read_type, is_integer}
use Rattle.scopes.specs.declared.environment.Object.{Object as Known}
use Rattle.scopes.specs.Scopes.{Env, with_object}
use Rattle.c_tree.specs.Marks.{short}
use Rattle.expression_types.specs.Check.{◌>>=◌, Checked, refuse, check}
use Rattle.object_types.specs.Reserved.{is_reserved}
use Rattle.object_types.specs.Objects.{is_object_type, alignment, member, count_all, count_of, known, declared_type, behind_declarator, check_object}
use Rattle.vector_types.specs.Functions.{is_taken}

-- an integer type, and an array of one
abbrev pub is_table_type : CType → Bool
is_table_type (Int s) = true
is_table_type (Array (target.Int s) n c) = true
is_table_type t = false

-- a constant object at file scope is a table: it has an integer type or is an array of one, and has an initialiser
abbrev pub is_table : Object → CType → Bool
is_table d t = is_table_type t && (is_some d.init || is_some d.list)

abbrev pub fits_file : Object → CType → Bool
fits_file d t = if d.constant then is_table d t else is_object_type t

-- The name of an object at file scope: it isn't reserved (12), the scope doesn't have it (11), and the object is a table (11). One without
-- const is left out (18).
abbrev pub table_name : Object → CType → Env → Checked Bool
table_name d t env =
    if is_reserved env.dialect (env.neon d.name) d.name then refuse 12 d.place (short d.name)
    else if is_taken d.name env then refuse 11 d.place (short d.name)
    else if not (fits_file d t) then refuse 11 d.place (short d.name)
    else if not d.constant then refuse 18 d.place (short d.name)
    else Ok true

-- an alignment that stands where it is judged now
abbrev pub judged_alignment : Bool → Option Tree → Env → Checked Bool
judged_alignment now None env = Ok true
judged_alignment now (Some e) env = if now then (alignment e env >>= λ _. Ok true) else Ok true

-- The value of a table that is an integer: a constant (6.6, 6.7.9p4), as a member of an array's initialiser is. It sees the table's name, and
-- stands behind the alignment that stands behind the name.
abbrev pub scalar_value : CType → Object → Tree → Env → Checked Bool
scalar_value t d e env = judged_alignment (not d.align_first) d.align env >>= λ _. check e env >>= λ v. member t true v >>= λ _. Ok true

abbrev pub constant_value : CType → Object → Option Tree → Env → Checked Bool
constant_value t d None env = Ok true
constant_value t d (Some e) env = if is_integer t then scalar_value t d e (behind_declarator d.name d.constant t env) else Ok true

-- A table with its types. An alignment in front of the name comes first, then the name, then the value of an integer. What is left is that of
-- any declared object.
abbrev pub check_table : Object → Env → Checked Object
check_table d env =
    judged_alignment d.align_first d.align env >>= λ _.
    table_name d (read_type env.dialect d.ty) env >>= λ _.
    constant_value (read_type env.dialect d.ty) d d.init env >>= λ _.
    check_object d env

-- An object that is refused has the type that is declared. Its array has the elements that are written, as far as these are a number, or
-- as many as its list has members (6.7.9p22).
abbrev pub number_of : Checked ℕ → Option ℕ
number_of (Ok n) = Some n
number_of (Err r) = None

abbrev pub number_written : Tree → Env → Option ℕ
number_written e env = number_of (check e env >>= λ v. count_of v (value_of v))

abbrev pub told_number : Option Tree → Option Trees → Env → Option ℕ
told_number (Some e) list env = number_written e env
told_number None list env = option_map count_all list

abbrev pub refused_object : Object → Env → Known
refused_object d env = known d.constant (declared_type (told_number d.length d.list env) d.ty env)

-- the file's scope behind an object, which has been judged; a name that was taken stands for what it stood for
abbrev pub beyond_table : Object → Checked Object → Env → Env
beyond_table d (Ok v) env = with_object v.name (known v.constant v.ty) env
beyond_table d (Err r) env = if is_taken d.name env then env else with_object d.name (refused_object d env) env
