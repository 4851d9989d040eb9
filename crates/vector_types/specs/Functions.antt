-- The check of a function (C11 6.9.1): its heading, and its body in the scope of its parameters.
use Rattle.std.specs.Prelude.{ℕ, ◌+◌, Bool, true, false, not, ◌&&◌, ◌||◌, nat_eq, nat_lt, is_some, if◌then◌else◌, List, [], ◌∷◌, ◌++◌, map, Option, Some, None, Ok, codes}
use Rattle.std.specs.List.{starts_with}
use Rattle.c_text.specs.declared.tokens.Place.{Place}
use Rattle.c_text.specs.declared.tokens.Dialect.{Dialect}
use Rattle.c_text.specs.declared.tokens.Dialect.TheVariants.{X86, Neon}
use Rattle.c_tree.specs.declared.types.CType.{CType}
use Rattle.c_tree.specs.Tree.{Object, Definition, External, Function, Table}
use Rattle.type_rules.specs.declared.passing.Parameter.{Parameter}
use Rattle.type_rules.specs.declared.passing.Parameter.TheVariants as passing
use Rattle.type_rules.specs.Types.{read_type, is_void_pointer}
use Rattle.type_rules.specs.Passing.{Heading}
use Rattle.scopes.specs.Scopes.{Env, Callee, named, is_declared_here, with_object, opened}
use Rattle.c_tree.specs.Marks.{short}
use Rattle.expression_types.specs.Check.{◌>>=◌, Checked, refuse}
use Rattle.object_types.specs.Reserved.{is_reserved}
use Rattle.c_tree.specs.Types.{is_array}
use Rattle.object_types.specs.Objects.{known, check_object}
use Rattle.statement_types.specs.Statements.{with_objects, around, check_statements}

-- what calls see of a function: its result and its parameters, as the dialect reads their types
abbrev pub parameter_of : Dialect → Object → Parameter
parameter_of dialect d = passing.Object (read_type dialect d.ty)

abbrev pub heading_of : Dialect → Definition → Heading
heading_of dialect f = record { result = read_type dialect f.result; params = map (parameter_of dialect) f.params }

-- The functions of a unit by their headings, each with the number of items that stand before it. A name stands for the first function
-- that has it.
abbrev pub Functions : Type 0
Functions = List (List ℕ × Callee)

abbrev pub with_function : Dialect → ℕ → Definition → Functions → Functions
with_function dialect i f all = if is_some (named f.name all) then all else all ++ (f.name, record { order = i; heading = heading_of dialect f }) ∷ []

abbrev pub with_item : Dialect → ℕ → External → Functions → Functions
with_item dialect i (Function f) all = with_function dialect i f all
with_item dialect i (Table d is_static) all = all

abbrev pub with_items : Dialect → ℕ → List External → Functions → Functions
with_items dialect i [] all = all
with_items dialect i (u ∷ rest) all = with_items dialect (i + 1) rest (with_item dialect i u all)

-- a function before the item has the name
abbrev pub is_before : Option Callee → ℕ → Bool
is_before (Some f) i = nat_lt f.order i
is_before None i = false

-- the file's scope has the name, of a table or of a function before the item: it has one declaration (6.7p3, 6.9p3)
abbrev pub is_taken : List ℕ → Env → Bool
is_taken x env = is_declared_here x env || is_before (named x env.functions) env.here

-- the name of a function that gives this type: it isn't reserved (12), the file's scope doesn't have it (11), and what the function gives is
-- no array (11, 6.7.6.3p1) and no pointer to void (18)
abbrev pub function_name : List ℕ → Place → CType → Env → Checked Bool
function_name x p t env =
    if is_reserved env.dialect (env.neon x) x then refuse 12 p (short x)
    else if is_taken x env then refuse 11 p (short x)
    else if is_array t then refuse 11 p (short x)
    else if is_void_pointer t then refuse 18 p (short x)
    else Ok true

-- a parameter is a declared object that has no alignment and no initialiser (6.7.5p2, 6.9.1p6)
abbrev pub is_bare : Object → Bool
is_bare d = not (is_some d.align) && not (is_some d.init) && not (is_some d.list)

-- the length of an array is judged as that of each object; the parameter is a pointer, and its length isn't kept (6.7.6.3p7)
abbrev pub without_length : Object → Object
without_length d = record d { length = None }

abbrev pub check_parameter : Object → Env → Checked Object
check_parameter d env = if is_bare d then (check_object d env >>= λ v. Ok (without_length v)) else refuse 11 d.place (short d.name)

abbrev pub check_parameters : List Object → Env → Checked (List Object)
check_parameters [] env = Ok []
check_parameters (d ∷ rest) env = check_parameter d env >>= λ v. check_parameters rest (with_object v.name (known v.constant v.ty) env) >>= λ more. Ok (v ∷ more)

-- the function may call none of the unit: in the Neon dialect one whose name begins with `mg_`
abbrev pub is_helper : Dialect → List ℕ → Bool
is_helper X86 x = false
is_helper Neon x = starts_with nat_eq x (codes "mg_")

-- What a function's parts see: the file's scope around one of their own, which the parameters and the outermost block of the body share
-- (6.2.1p4).
abbrev pub entered : List ℕ → Env → Env
entered x env = opened (record env { calls_none = is_helper env.dialect x })

abbrev pub in_function : Definition → Env → Env
in_function f env = entered f.name env

-- a function with its types
abbrev pub check_function : Definition → Env → Checked Definition
check_function f env =
    function_name f.name f.place (read_type env.dialect f.result) env >>= λ _.
    check_parameters f.params (in_function f env) >>= λ ps.
    check_statements f.body (around (with_objects ps (in_function f env)) (read_type env.dialect f.result) false) >>= λ b.
    Ok (record { place = f.place; name = f.name; result = read_type env.dialect f.result; params = ps; is_static = f.is_static; is_inline = f.is_inline; body = b })
