-- The check of a declared object (C11 6.7): a local variable, with its array length, its alignment and what it begins with.
use Rattle.std.specs.Prelude.{ℕ, ◌+◌, Bool, true, false, not, ◌&&◌, ◌||◌, nat_lt, nat_le, nat_eq, if◌then◌else◌, List, Option, Some, None, option_map, is_some, Ok, ℤ, pos, int_le, unsigned_abs}
use Rattle.std.specs.Ordering.{int_eq}
use Rattle.c_text.specs.declared.tokens.Place.{Place}
use Rattle.lane_core.specs.declared.number.Num.{Num}
use Rattle.lane_core.specs.declared.vector.Pointee.{Pointee}
use Rattle.const_imm.specs.Constant.{value_of}
use Rattle.const_imm.specs.Sizes.{size_of}
use Rattle.c_tree.specs.declared.types.CType.{CType}
use Rattle.c_tree.specs.declared.types.CType.TheVariants.{Void, Array}
use Rattle.c_tree.specs.Tree.{Tree, Kind, Trees, Node, Cast, NoTrees, More, Object}
use Rattle.c_tree.specs.Nodes.{node_type, node_place, root}
use Rattle.c_tree.specs.Types.{is_array}
use Rattle.type_rules.specs.Types.{read_type, is_void_pointer, is_object, is_integer, converted, assigned}
use Rattle.scopes.specs.declared.environment.Object.{Object as Known}
use Rattle.c_tree.specs.Same.{unnumbered}
use Rattle.scopes.specs.Scopes.{Env, with_object, opened, is_declared_here}
use Rattle.c_tree.specs.Marks.{short, mark}
use Rattle.expression_types.specs.Check.{◌>>=◌, Checked, refuse, check}
use Rattle.object_types.specs.Reserved.{is_reserved}
use Rattle.object_types.specs.declared.objects.Start.{Start as CodeStart}
use Rattle.object_types.specs.declared.objects.Length.{Length as CodeLength}
use Rattle.c_tree.specs.View.{view, views}

-- an object has no array type of `void` and isn't `void` itself (6.2.5p1, p20)
abbrev pub is_object_type : CType → Bool
is_object_type Void = false
is_object_type (Array e n c) = is_object e
is_object_type t = true

-- a name that is declared: it isn't reserved (12), the scope doesn't have it (11), its type is an object's (11) and no pointer to void (18)
abbrev pub new_name : List ℕ → Place → CType → Env → Checked Bool
new_name x p t env =
    if is_reserved env.dialect (env.neon x) x then refuse 12 p (short x)
    else if is_declared_here x env then refuse 11 p (short x)
    else if not (is_object_type t) then refuse 11 p (short x)
    else if is_void_pointer t then refuse 18 p (short x)
    else Ok true

-- an expression that doesn't fit where it stands
abbrev pub unfit : {A : Type 0} → Tree → Checked A
unfit e = refuse 11 (node_place (root e)) (mark (root e))

-- an array's length is a constant of at least 1
abbrev pub count_of : Tree → Option Num → Checked ℕ
count_of e (Some n) = if int_le (pos 1) n.value then Ok (unsigned_abs n.value) else unfit e
count_of e None = unfit e

-- an alignment is a power of two up to 64
abbrev pub is_low_alignment : ℤ → Bool
is_low_alignment z = int_eq z (pos 1) || int_eq z (pos 2) || int_eq z (pos 4) || int_eq z (pos 8)

abbrev pub is_high_alignment : ℤ → Bool
is_high_alignment z = int_eq z (pos 16) || int_eq z (pos 32) || int_eq z (pos 64)

abbrev pub is_alignment : ℤ → Bool
is_alignment z = is_low_alignment z || is_high_alignment z

abbrev pub alignment_of : Tree → Option Num → Checked Tree
alignment_of e (Some n) = if is_alignment n.value then Ok e else unfit e
alignment_of e None = unfit e

abbrev pub alignment : Tree → Env → Checked Tree
alignment e env = check e env >>= λ v. alignment_of v (value_of v)

-- no array is larger than 65,536 bytes
abbrev pub is_small : Option ℕ → Bool
is_small (Some n) = nat_le n 65536
is_small None = false

abbrev pub small : List ℕ → Place → CType → Checked Bool
small x p t = if is_small (size_of t) then Ok true else refuse 20 p (short x)

-- a member of an array's initialiser: an integer constant, of an array of integers, and not past the length
abbrev pub is_room : ℕ → Option ℕ → Bool
is_room i (Some n) = nat_lt i n
is_room i None = true

abbrev pub is_member : CType → Bool → Tree → Bool
is_member t room a = room && is_integer t && is_integer (node_type a) && is_some (value_of a)

abbrev pub member : CType → Bool → Tree → Checked Tree
member t room a = if is_member t room a then Ok (converted t a) else unfit a

-- the members from place i on, of an array of n elements, where that is known
abbrev pub members : CType → Option ℕ → ℕ → Trees → Env → Checked Trees
members t n i NoTrees env = Ok NoTrees
members t n i (More a rest) env = check a env >>= λ v. member t (is_room i n) v >>= λ b. members t n (i + 1) rest env >>= λ more. Ok (More b more)

-- how many members there are
abbrev pub count_all : Trees → ℕ
count_all NoTrees = 0
count_all (More a rest) = count_all rest + 1

-- the elements' type of an array of integers, and how many elements it has, where that is known
abbrev pub element_of : CType → CType
element_of (Array (Pointee.Int s) n c) = CType.Int s
element_of t = Void

abbrev pub number_of : CType → Option ℕ
number_of (Array e n c) = if nat_eq n 0 then None else Some n
number_of t = None

-- an array whose number of elements isn't known yet
abbrev pub is_open : CType → Bool
is_open t = is_array t && not (is_some (number_of t))

-- the type with a number of elements, if there is one to set
abbrev pub with_number : Option ℕ → CType → CType
with_number (Some n) (Array e m c) = Array e n c
with_number n t = t

-- the elements of a const array are const
abbrev pub known : Bool → CType → Known
known constant (Array e n c) = record { ty = Array e n (c || constant); constant = constant }
known constant t = record { ty = t; constant = constant }

-- the expression and the number of a length, where one is written
pub record Length : Type 0 where
  pub expression : Option Tree
  pub number : Option ℕ

abbrev pub length_of : Option Tree → Env → Checked Length
length_of None env = Ok (record { expression = None; number = None })
length_of (Some e) env = check e env >>= λ v. count_of v (value_of v) >>= λ n. Ok (record { expression = Some v; number = Some n })

-- an alignment is judged now, or else left for later: that among the specifiers before the declared name, others behind the declarator
abbrev pub aligned : Bool → Option Tree → Env → Checked (Option Tree)
aligned now None env = Ok None
aligned now (Some e) env = if now then (alignment e env >>= λ v. Ok (Some v)) else Ok (Some e)

-- what an object begins with, and its type then
pub record Start : Type 0 where
  pub init : Option Tree
  pub list : Option Trees
  pub ty : CType

abbrev pub closed_type : List ℕ → Place → CType → Checked CType
closed_type x p t = if is_open t then refuse 11 p (short x) else Ok t

abbrev pub small_once : Bool → List ℕ → Place → CType → Checked Bool
small_once now x p t = if now then small x p t else Ok true

abbrev pub value_fits : List ℕ → Place → Option Tree → Checked Tree
value_fits x p (Some v) = Ok v
value_fits x p None = refuse 11 p (short x)

abbrev pub number_for : CType → ℕ → Option ℕ
number_for t n = if is_open t then Some n else None

abbrev pub is_no_trees : Trees → Bool
is_no_trees NoTrees = true
is_no_trees (More a rest) = false

abbrev pub counted : List ℕ → Place → CType → Trees → Checked Start
counted x p t all =
    if is_no_trees all then refuse 11 p (short x)
    else (small_once (is_open t) x p (with_number (number_for t (count_all all)) t) >>= λ _. Ok (record { init = None; list = Some all; ty = with_number (number_for t (count_all all)) t }))

abbrev pub start : List ℕ → Place → CType → Option Tree → Option Trees → Env → Checked Start
start x p t None None env = closed_type x p t >>= λ u. Ok (record { init = None; list = None; ty = u })
start x p t (Some e) None env = check e env >>= λ v. value_fits x p (assigned t v) >>= λ w. Ok (record { init = Some w; list = None; ty = t })
start x p t None (Some all) env = members (element_of t) (number_of t) 0 all env >>= λ vs. counted x p t vs
start x p t (Some e) (Some all) env = refuse 11 p (short x)

-- the type of a declared object: as the dialect reads it, and an array's with its number of elements, where a length is written
abbrev pub declared_type : Option ℕ → CType → Env → CType
declared_type n t env = with_number n (unnumbered (read_type env.dialect t))

-- What stands behind a declarator sees its name, with the type that it has by then. Here the name stands in a scope of its own; the
-- object is declared once it is known what it begins with.
abbrev pub behind_declarator : List ℕ → Bool → CType → Env → Env
behind_declarator x constant t env = with_object x (known constant t) (opened env)

-- the parts of an object behind its name: its length, its alignment and what it begins with
abbrev pub behind_name : Object → Option Tree → Env → Length → Checked Object
behind_name d a env l =
    small_once (not (is_open (declared_type l.number d.ty env))) d.name d.place (declared_type l.number d.ty env) >>= λ _.
    aligned (not d.align_first) a (behind_declarator d.name d.constant (declared_type l.number d.ty env) env) >>= λ b.
    start d.name d.place (declared_type l.number d.ty env) d.init d.list (behind_declarator d.name d.constant (declared_type l.number d.ty env) env) >>= λ s.
    Ok (record { place = d.place; name = d.name; ty = s.ty; length = l.expression; constant = d.constant; align = b; align_first = d.align_first; init = s.init; list = s.list })

-- a declared object with its types
abbrev pub check_object : Object → Env → Checked Object
check_object d env =
    aligned d.align_first d.align env >>= λ a.
    new_name d.name d.place (read_type env.dialect d.ty) env >>= λ _.
    length_of d.length env >>= λ l.
    behind_name d a env l

-- what contracts see of the code's
abbrev pub seen_length : CodeLength → Length
seen_length l = record { expression = option_map view l.expression; number = l.number }

abbrev pub seen_start : CodeStart → Start
seen_start s = record { init = option_map view s.init; list = option_map (λ all. views all.items) s.list; ty = s.ty }
