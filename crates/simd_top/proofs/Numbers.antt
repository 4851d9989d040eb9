-- Refusals of the check have numbers from 1 to 22.
use Rattle.std.proofs.Common.{◌≡◌, ℕ, ◌+◌, List, [], ◌∷◌, Bool, true, false, ◌&&◌, not, Option, Some, None, Ok, Err, refl, subst}
use Rattle.std.specs.Prelude.{nat_le, if◌then◌else◌, int_le, pos, option_map, codes}
use Rattle.const_imm.specs.Constant.{value_of}
use Rattle.lane_core.specs.declared.number.Num.{Num}
use Rattle.lane_core.specs.declared.table.ImmRange.{ImmRange}
use Rattle.c_text.specs.declared.tokens.Dialect.{Dialect}
use Rattle.c_text.specs.declared.tokens.Dialect.TheVariants.{X86, Neon}
use Rattle.c_text.specs.declared.tokens.Place.{Place}
use Rattle.c_text.specs.declared.refusals.Refusal.{Refusal}
use Rattle.c_tree.specs.declared.types.CType.{CType}
use Rattle.c_tree.specs.Tree.{Tree, Kind, Trees, Node, Const, Name, Unary, Step, Binary, AndThen, OrElse, Choice, Assign, Comma, Cast, Index, Deref, Address, Call, Half, PairOf, SizeOfType, SizeOfName, Str, NoTrees, More, Object, Statement, Statements, Optional, Declare, Run, Block, If, While, DoWhile, For, Break, Continue, Return, Empty, Absent, Present, NoStatements, Then, Definition, External, Function, Table}
use Rattle.c_tree.specs.Nodes.{node_type}
use Rattle.type_rules.specs.Types.{read_type, is_void_pointer, is_scalar, is_integer, same_type, assigned}
use Rattle.type_rules.specs.Operations.{cast_node, size_node}
use Rattle.type_rules.specs.Passing.{passed, immediate_of}
use Rattle.c_tree.specs.Marks.{short}
use Rattle.const_imm.specs.Sizes.{size_of}
use Rattle.object_types.specs.Reserved.{is_reserved}
use Rattle.c_tree.specs.Types.{is_array}
use Rattle.object_types.specs.Objects.{known as known_object, is_object_type, new_name, unfit, count_of, is_alignment, alignment_of, alignment, is_small, small, is_room, is_member, member, members, count_all, element_of, number_of, is_open, with_number, Length, length_of, aligned, closed_type, small_once, value_fits, number_for, is_no_trees, counted, start, declared_type, behind_declarator, behind_name, check_object}
use Rattle.statement_types.specs.Statements.{Around, inside, looped, with_objects, check_objects, scalar, condition, maybe_condition, maybe_expression, returned_value, returned, in_a_loop, beyond, beyond_optional, around, check_statement, check_optional, check_statements}
use Rattle.order_rule.specs.Callees.{Before, Callees}
use Rattle.order_rule.specs.Full.{full_expressions, first_broken, refusal}
use Rattle.vector_types.specs.Functions.{is_taken, function_name, is_bare, check_parameter, check_parameters, in_function, check_function}
use Rattle.vector_types.specs.Tables.{fits_file, table_name, judged_alignment, scalar_value, constant_value, check_table}
use Rattle.vector_types.specs.Order.{calls, unless_broken, in_order}
use Rattle.vector_types.specs.Units.{Judged, and_judged, item_checked, beyond_item, callees_beyond, next_item, check_items, unit_env, unless_refused, check_unit}
use Rattle.scopes.specs.Scopes.{Env, Callee, Row, named, object_named, with_object, is_declared_here}
use Rattle.scopes.specs.declared.environment.Object.{Object as Known}
use Rattle.expression_types.specs.Names.{Target}
use Rattle.expression_types.specs.Check.{Checked, ◌>>=◌, refuse, typed, admitted, used_as, used, row_called, function_called, object_called, called, in_range, immediate_fits, fitting, call, one, two, check, check_kind, check_all}

-- the number of a refusal is one of those
abbrev pub is_known : ℕ → Bool
is_known n = nat_le 1 n && nat_le n 22

-- what is answered is no refusal, or one of those
abbrev IsFine : {A : Type 0} → Checked A → Type 0
IsFine (Ok x) = Unit {0}
IsFine (Err r) = is_known r.number ≡ true

pub record Fine {A : Type 0} (r : Checked A) : Type 0 where
  pub is : IsFine r

passes : {A : Type 0} {x : A} → Fine (Ok x)
passes = record { is = tt }

known : {A : Type 0} {n : ℕ} {p : Place} {d : List ℕ} → is_known n ≡ true → Fine (refuse {A = A} n p d)
known h = record { is = h }

then_fine : {A B : Type 0} (r : Checked A) (f : A → Checked B) → IsFine r → ((a : A) → Fine (f a)) → IsFine (r >>= f)
then_fine (Ok x) f h k = (k x).is
then_fine (Err r) f h k = h

fine_bind : {A B : Type 0} {r : Checked A} {f : A → Checked B} → Fine r → ((a : A) → Fine (f a)) → Fine (r >>= f)
fine_bind {r = r} {f = f} h k = record { is = then_fine r f h.is k }

fine_if : {A : Type 0} (b : Bool) {r s : Checked A} → Fine r → Fine s → Fine (if b then r else s)
fine_if true h k = h
fine_if false h k = k

-- ---- expressions

fine_typed : (p : Place) (d : List ℕ) (o : Option Tree) → Fine (typed p d o)
fine_typed p d None = known refl
fine_typed p d (Some v) = passes

fine_admitted : (b : Bool) (p : Place) (d : List ℕ) (v : Tree) → Fine (admitted b p d v)
fine_admitted true p d v = known refl
fine_admitted false p d v = passes

fine_used_as : (x : List ℕ) (p : Place) (env : Env) (o : Option Known) → Fine (used_as x p env o)
fine_used_as x p env None = fine_if _ (known refl) (known refl)
fine_used_as x p env (Some o) = passes

fine_used : (x : List ℕ) (p : Place) (env : Env) → Fine (used x p env)
fine_used x p env = fine_used_as x p env (object_named x env)

fine_row_called : (x : List ℕ) (p : Place) (env : Env) (o : Option Row) → Fine (row_called x p env o)
fine_row_called x p env None = fine_if _ passes (known refl)
fine_row_called x p env (Some r) = passes

fine_function_called : (x : List ℕ) (p : Place) (env : Env) (o : Option Callee) → Fine (function_called x p env o)
fine_function_called x p env None = fine_row_called x p env (env.rows x)
fine_function_called x p env (Some f) = fine_if _ passes (known refl)

fine_object_called : (x : List ℕ) (p : Place) (env : Env) (o : Option Known) → Fine (object_called x p env o)
fine_object_called x p env None = fine_function_called x p env (named x env.functions)
fine_object_called x p env (Some o) = known refl

fine_called : (x : List ℕ) (p : Place) (env : Env) → Fine (called x p env)
fine_called x p env = fine_if _ (known refl) (fine_object_called x p env (object_named x env))

fine_in_range : (range : ImmRange) (a : Tree) (o : Option Num) → Fine (in_range range a o)
fine_in_range range a None = known refl
fine_in_range range a (Some n) = fine_if _ passes (known refl)

fine_immediate : (range : ImmRange) (o : Option Tree) → Fine (immediate_fits range o)
fine_immediate range None = passes
fine_immediate range (Some a) = fine_in_range range a (value_of a)

fine_fitting : (p : Place) (d : List ℕ) (o : Option Trees) → Fine (fitting p d o)
fine_fitting p d None = known refl
fine_fitting p d (Some args) = passes

fine_call : (t : Target) (f : List ℕ) (p : Place) (all : Trees) → Fine (call t f p all)
fine_call t f p all =
    fine_bind {r = fitting p (short f) (passed t.heading.params all)} (fine_fitting p (short f) (passed t.heading.params all))
    (λ args. fine_bind {r = immediate_fits t.range (immediate_of t.heading.params args)} (fine_immediate t.range (immediate_of t.heading.params args))
    (λ b. fine_admitted t.outside p (short f) (Node p t.heading.result (Call f args))))

fine_one : (k : Kind) (p : Place) (env : Env) (a : Tree) → Fine (one k p env a)
fine_one (Const n) p env a = known refl
fine_one (Name x) p env a = known refl
fine_one (Unary o b) p env a = fine_typed p _ _
fine_one (Step b up before) p env a = fine_typed p _ _
fine_one (Binary o c d) p env a = known refl
fine_one (AndThen c d) p env a = known refl
fine_one (OrElse c d) p env a = known refl
fine_one (Choice b c d) p env a = known refl
fine_one (Assign o c d) p env a = known refl
fine_one (Comma all) p env a = known refl
fine_one (Cast t b w) p env a = fine_bind {r = typed p (codes "(") (cast_node (read_type env.dialect t) p a)} (fine_typed p (codes "(") (cast_node (read_type env.dialect t) p a)) (λ v. fine_admitted (is_void_pointer t) p (codes "(") v)
fine_one (Index c d) p env a = known refl
fine_one (Deref b) p env a = fine_typed p _ _
fine_one (Address b) p env a = fine_typed p _ _
fine_one (Call f all) p env a = known refl
fine_one (Half b n) p env a = fine_typed p _ _
fine_one (PairOf c d) p env a = known refl
fine_one (SizeOfType t) p env a = known refl
fine_one (SizeOfName x) p env a = known refl
fine_one (Str x) p env a = known refl

fine_two : (k : Kind) (p : Place) (env : Env) (a b : Tree) → Fine (two k p env a b)
fine_two (Const n) p env a b = known refl
fine_two (Name x) p env a b = known refl
fine_two (Unary o e) p env a b = known refl
fine_two (Step e up eefore) p env a b = known refl
fine_two (Binary o c d) p env a b = fine_typed p _ _
fine_two (AndThen c d) p env a b = fine_typed p _ _
fine_two (OrElse c d) p env a b = fine_typed p _ _
fine_two (Choice e c d) p env a b = known refl
fine_two (Assign o c d) p env a b = fine_typed p _ _
fine_two (Comma all) p env a b = known refl
fine_two (Cast t e w) p env a b = known refl
fine_two (Index c d) p env a b = fine_typed p _ _
fine_two (Deref e) p env a b = known refl
fine_two (Address e) p env a b = known refl
fine_two (Call f all) p env a b = known refl
fine_two (Half e n) p env a b = known refl
fine_two (PairOf c d) p env a b = fine_typed p _ _
fine_two (SizeOfType t) p env a b = known refl
fine_two (SizeOfName x) p env a b = known refl
fine_two (Str x) p env a b = known refl

mutual
  fine_check : (e : Tree) (env : Env) → Fine (check e env)
  fine_check (Node p t k) env = fine_kind k p env

  fine_kind : (k : Kind) (p : Place) (env : Env) → Fine (check_kind k p env)
  fine_kind (Const n) p env = passes
  fine_kind (Name x) p env = fine_bind (fine_used x p env) (λ o. passes)
  fine_kind (Unary o a) p env = fine_bind (fine_check a env) (λ v. fine_one (Unary o a) p env v)
  fine_kind (Step a up before) p env = fine_bind (fine_check a env) (λ v. fine_one (Step a up before) p env v)
  fine_kind (Binary o a b) p env = fine_bind (fine_check a env) (λ v. fine_bind (fine_check b env) (λ w. fine_two (Binary o a b) p env v w))
  fine_kind (AndThen a b) p env = fine_bind (fine_check a env) (λ v. fine_bind (fine_check b env) (λ w. fine_two (AndThen a b) p env v w))
  fine_kind (OrElse a b) p env = fine_bind (fine_check a env) (λ v. fine_bind (fine_check b env) (λ w. fine_two (OrElse a b) p env v w))
  fine_kind (Choice c a b) p env = fine_bind (fine_check c env) (λ u. fine_bind (fine_check a env) (λ v. fine_bind (fine_check b env) (λ w. fine_typed p _ _)))
  fine_kind (Assign o a b) p env = fine_bind (fine_check a env) (λ v. fine_bind (fine_check b env) (λ w. fine_two (Assign o a b) p env v w))
  fine_kind (Comma all) p env = fine_bind (fine_all all env) (λ v. fine_typed p _ _)
  fine_kind (Cast t a true) p env = fine_bind (fine_check a env) (λ v. fine_one (Cast t a true) p env v)
  fine_kind (Cast t a false) p env = fine_check a env
  fine_kind (Index a b) p env = fine_bind (fine_check a env) (λ v. fine_bind (fine_check b env) (λ w. fine_two (Index a b) p env v w))
  fine_kind (Deref a) p env = fine_bind (fine_check a env) (λ v. fine_one (Deref a) p env v)
  fine_kind (Address a) p env = fine_bind (fine_check a env) (λ v. fine_one (Address a) p env v)
  fine_kind (Call f all) p env = fine_bind (fine_called f p env) (λ t. fine_bind (fine_all all env) (λ args. fine_call t f p args))
  fine_kind (Half a n) p env = fine_bind (fine_check a env) (λ v. fine_one (Half a n) p env v)
  fine_kind (PairOf a b) p env = fine_bind (fine_check a env) (λ v. fine_bind (fine_check b env) (λ w. fine_two (PairOf a b) p env v w))
  fine_kind (SizeOfType t) p env = fine_bind {r = typed p (codes "sizeof") (size_node (read_type env.dialect t) p)} (fine_typed p (codes "sizeof") (size_node (read_type env.dialect t) p)) (λ v. fine_admitted (is_void_pointer t) p (codes "sizeof") v)
  fine_kind (SizeOfName x) p env = fine_bind (fine_used x p env) (λ o. fine_typed p _ _)
  fine_kind (Str x) p env = known refl

  fine_all : (all : Trees) (env : Env) → Fine (check_all all env)
  fine_all NoTrees env = passes
  fine_all (More a rest) env = fine_bind (fine_check a env) (λ v. fine_bind (fine_all rest env) (λ w. passes))

-- ---- declared objects

fine_unfit : {A : Type 0} (e : Tree) → Fine (unfit {A = A} e)
fine_unfit e = known refl

fine_count : (e : Tree) (o : Option Num) → Fine (count_of e o)
fine_count e None = known refl
fine_count e (Some n) = fine_if (int_le (pos 1) n.value) passes (known refl)

fine_alignment_of : (e : Tree) (o : Option Num) → Fine (alignment_of e o)
fine_alignment_of e None = known refl
fine_alignment_of e (Some n) = fine_if (is_alignment n.value) passes (known refl)

fine_alignment : (e : Tree) (env : Env) → Fine (alignment e env)
fine_alignment e env = fine_bind (fine_check e env) (λ v. fine_alignment_of v (value_of v))

fine_aligned : (now : Bool) (o : Option Tree) (env : Env) → Fine (aligned now o env)
fine_aligned now None env = passes
fine_aligned now (Some e) env = fine_if now (fine_bind (fine_alignment e env) (λ v. passes)) passes

fine_new_name : (x : List ℕ) (p : Place) (t : CType) (env : Env) → Fine (new_name x p t env)
fine_new_name x p t env =
    fine_if (is_reserved env.dialect (env.neon x) x) (known refl) (fine_if (is_declared_here x env) (known refl) (fine_if (not (is_object_type t)) (known refl) (fine_if (is_void_pointer t) (known refl) passes)))

fine_length : (o : Option Tree) (env : Env) → Fine (length_of o env)
fine_length None env = passes
fine_length (Some e) env = fine_bind (fine_check e env) (λ v. fine_bind (fine_count v (value_of v)) (λ n. passes))

fine_small : (x : List ℕ) (p : Place) (t : CType) → Fine (small x p t)
fine_small x p t = fine_if (is_small (size_of t)) passes (known refl)

fine_small_once : (now : Bool) (x : List ℕ) (p : Place) (t : CType) → Fine (small_once now x p t)
fine_small_once now x p t = fine_if now (fine_small x p t) passes

fine_closed : (x : List ℕ) (p : Place) (t : CType) → Fine (closed_type x p t)
fine_closed x p t = fine_if (is_open t) (known refl) passes

fine_value : (x : List ℕ) (p : Place) (o : Option Tree) → Fine (value_fits x p o)
fine_value x p None = known refl
fine_value x p (Some v) = passes

fine_member : (t : CType) (room : Bool) (a : Tree) → Fine (member t room a)
fine_member t room a = fine_if (is_member t room a) passes (known refl)

fine_members : (t : CType) (n : Option ℕ) (i : ℕ) (all : Trees) (env : Env) → Fine (members t n i all env)
fine_members t n i NoTrees env = passes
fine_members t n i (More a rest) env = fine_bind (fine_check a env) (λ v. fine_bind (fine_member t (is_room i n) v) (λ b. fine_bind (fine_members t n (i + 1) rest env) (λ more. passes)))

fine_counted : (x : List ℕ) (p : Place) (t : CType) (all : Trees) → Fine (counted x p t all)
fine_counted x p t all =
    fine_if (is_no_trees all) (known refl) (fine_bind (fine_small_once (is_open t) x p (with_number (number_for t (count_all all)) t)) (λ b. passes))

fine_start : (x : List ℕ) (p : Place) (t : CType) (o : Option Tree) (list : Option Trees) (env : Env) → Fine (start x p t o list env)
fine_start x p t None None env = fine_bind (fine_closed x p t) (λ u. passes)
fine_start x p t (Some e) None env = fine_bind (fine_check e env) (λ v. fine_bind (fine_value x p (assigned t v)) (λ w. passes))
fine_start x p t None (Some all) env = fine_bind (fine_members (element_of t) (number_of t) 0 all env) (λ vs. fine_counted x p t vs)
fine_start x p t (Some e) (Some all) env = known refl

fine_behind : (d : Object) (a : Option Tree) (env : Env) (l : Length) → Fine (behind_name d a env l)
fine_behind d a env l =
    fine_bind (fine_small_once (not (is_open (declared_type l.number d.ty env))) d.name d.place (declared_type l.number d.ty env)) (λ u.
    fine_bind (fine_aligned (not d.align_first) a (behind_declarator d.name d.constant (declared_type l.number d.ty env) env)) (λ b.
    fine_bind (fine_start d.name d.place (declared_type l.number d.ty env) d.init d.list (behind_declarator d.name d.constant (declared_type l.number d.ty env) env)) (λ s. passes)))

fine_object : (d : Object) (env : Env) → Fine (check_object d env)
fine_object d env =
    fine_bind (fine_aligned d.align_first d.align env) (λ a.
    fine_bind (fine_new_name d.name d.place (read_type env.dialect d.ty) env) (λ u.
    fine_bind (fine_length d.length env) (λ l. fine_behind d a env l)))

-- ---- statements

fine_scalar : (v : Tree) → Fine (scalar v)
fine_scalar v = fine_if (is_scalar (node_type v)) passes (known refl)

fine_condition : (e : Tree) (env : Env) → Fine (condition e env)
fine_condition e env = fine_bind (fine_check e env) (λ v. fine_scalar v)

fine_maybe_condition : (o : Option Tree) (env : Env) → Fine (maybe_condition o env)
fine_maybe_condition None env = passes
fine_maybe_condition (Some e) env = fine_bind (fine_condition e env) (λ v. passes)

fine_maybe_expression : (o : Option Tree) (env : Env) → Fine (maybe_expression o env)
fine_maybe_expression None env = passes
fine_maybe_expression (Some e) env = fine_bind (fine_check e env) (λ v. passes)

fine_returned_value : (p : Place) (t : CType) (o : Option Tree) → Fine (returned_value p t o)
fine_returned_value p t None = known refl
fine_returned_value p t (Some v) = passes

fine_returned : (p : Place) (t : CType) (o : Option Tree) (env : Env) → Fine (returned p t o env)
fine_returned p t None env = fine_if (same_type t CType.Void) passes (known refl)
fine_returned p t (Some e) env = fine_bind (fine_check e env) (λ v. fine_returned_value p t (assigned t v))

fine_in_a_loop : (b : Bool) (p : Place) (word : List ℕ) (s : Statement) → Fine (in_a_loop b p word s)
fine_in_a_loop b p word s = fine_if b passes (known refl)

fine_objects : (all : List Object) (env : Env) → Fine (check_objects all env)
fine_objects [] env = passes
fine_objects (d ∷ rest) env = fine_bind (fine_object d env) (λ v. fine_bind (fine_objects rest (with_object v.name (known_object v.constant v.ty) env)) (λ more. passes))

mutual
  fine_statement : (s : Statement) (c : Around) → Fine (check_statement s c)
  fine_statement (Declare all) c = fine_bind (fine_objects all c.env) (λ vs. passes)
  fine_statement (Run e) c = fine_bind (fine_check e c.env) (λ v. passes)
  fine_statement (Block all) c = fine_bind (fine_statements all (inside c)) (λ vs. passes)
  fine_statement (If e s o) c = fine_bind (fine_condition e c.env) (λ v. fine_bind (fine_statement s (inside c)) (λ t. fine_bind (fine_optional o (inside c)) (λ u. passes)))
  fine_statement (While e s) c = fine_bind (fine_condition e c.env) (λ v. fine_bind (fine_statement s (looped c)) (λ t. passes))
  fine_statement (DoWhile s e) c = fine_bind (fine_statement s (looped c)) (λ t. fine_bind (fine_condition e c.env) (λ v. passes))
  fine_statement (For i e n s) c =
      fine_bind (fine_optional i (inside c)) (λ j.
      fine_bind (fine_maybe_condition e (beyond_optional j (inside c).env)) (λ v.
      fine_bind (fine_maybe_expression n (beyond_optional j (inside c).env)) (λ m.
      fine_bind (fine_statement s (looped (record c { env = beyond_optional j (inside c).env }))) (λ t. passes))))
  fine_statement (Break p) c = fine_in_a_loop c.in_loop p (codes "break") (Break p)
  fine_statement (Continue p) c = fine_in_a_loop c.in_loop p (codes "continue") (Continue p)
  fine_statement (Return p e) c = fine_bind (fine_returned p c.result e c.env) (λ v. passes)
  fine_statement Empty c = passes

  fine_optional : (o : Optional) (c : Around) → Fine (check_optional o c)
  fine_optional Absent c = passes
  fine_optional (Present s) c = fine_bind (fine_statement s c) (λ v. passes)

  fine_statements : (all : Statements) (c : Around) → Fine (check_statements all c)
  fine_statements NoStatements c = passes
  fine_statements (Then s rest) c = fine_bind (fine_statement s c) (λ v. fine_bind (fine_statements rest (record c { env = beyond v c.env })) (λ vs. passes))

-- ---- functions and tables

fine_function_name : (x : List ℕ) (p : Place) (t : CType) (env : Env) → Fine (function_name x p t env)
fine_function_name x p t env =
    fine_if (is_reserved env.dialect (env.neon x) x) (known refl) (fine_if (is_taken x env) (known refl) (fine_if (is_array t) (known refl) (fine_if (is_void_pointer t) (known refl) passes)))

fine_parameter : (d : Object) (env : Env) → Fine (check_parameter d env)
fine_parameter d env = fine_if (is_bare d) (fine_bind (fine_object d env) (λ v. passes)) (known refl)

fine_parameters : (all : List Object) (env : Env) → Fine (check_parameters all env)
fine_parameters [] env = passes
fine_parameters (d ∷ rest) env = fine_bind (fine_parameter d env) (λ v. fine_bind (fine_parameters rest (with_object v.name (known_object v.constant v.ty) env)) (λ more. passes))

fine_function : (f : Definition) (env : Env) → Fine (check_function f env)
fine_function f env =
    fine_bind (fine_function_name f.name f.place (read_type env.dialect f.result) env) (λ u.
    fine_bind (fine_parameters f.params (in_function f env)) (λ ps.
    fine_bind (fine_statements f.body (around (with_objects ps (in_function f env)) (read_type env.dialect f.result) false)) (λ b. passes)))

fine_judged : (now : Bool) (o : Option Tree) (env : Env) → Fine (judged_alignment now o env)
fine_judged now None env = passes
fine_judged now (Some e) env = fine_if now (fine_bind (fine_alignment e env) (λ v. passes)) passes

fine_table_name : (d : Object) (t : CType) (env : Env) → Fine (table_name d t env)
fine_table_name d t env =
    fine_if (is_reserved env.dialect (env.neon d.name) d.name) (known refl) (fine_if (is_taken d.name env) (known refl) (fine_if (not (fits_file d t)) (known refl) (fine_if (not d.constant) (known refl) passes)))

fine_scalar_value : (t : CType) (d : Object) (e : Tree) (env : Env) → Fine (scalar_value t d e env)
fine_scalar_value t d e env = fine_bind (fine_judged (not d.align_first) d.align env) (λ u. fine_bind (fine_check e env) (λ v. fine_bind (fine_member t true v) (λ w. passes)))

fine_constant_value : (t : CType) (d : Object) (o : Option Tree) (env : Env) → Fine (constant_value t d o env)
fine_constant_value t d None env = passes
fine_constant_value t d (Some e) env = fine_if (is_integer t) (fine_scalar_value t d e (behind_declarator d.name d.constant t env)) passes

fine_table : (d : Object) (env : Env) → Fine (check_table d env)
fine_table d env =
    fine_bind (fine_judged d.align_first d.align env) (λ u.
    fine_bind (fine_table_name d (read_type env.dialect d.ty) env) (λ v.
    fine_bind (fine_constant_value (read_type env.dialect d.ty) d d.init env) (λ w. fine_object d env)))

fine_broken : (o : Option Tree) (g : Definition) → Fine (unless_broken (option_map refusal o) g)
fine_broken None g = passes
fine_broken (Some e) g = known refl

fine_order : (dialect : Dialect) (callees : Callees) (g : Definition) → Fine (in_order dialect callees g)
fine_order X86 callees g = fine_broken (first_broken callees (full_expressions g)) g
fine_order Neon callees g = passes

-- ---- units

fine_item : (u : External) (env : Env) (callees : Before) → Fine (item_checked u env callees)
fine_item (Function f) env callees = fine_bind (fine_bind (fine_function f env) (λ g. fine_order env.dialect (calls callees env) g)) (λ v. passes)
fine_item (Table d static) env callees = fine_bind (fine_table d env) (λ v. passes)

abbrev pub AllKnown : List Refusal → Type 0
AllKnown [] = Unit {0}
AllKnown (r ∷ rest) = (is_known r.number ≡ true) × AllKnown rest

judged_known : (r : Checked External) (j : Judged) → Fine r → AllKnown j.refusals → AllKnown (and_judged r j).refusals
judged_known (Ok v) j h k = k
judged_known (Err e) j h k = (h.is, k)

items_known : (us : List External) (env : Env) (callees : Before) → AllKnown (check_items us env callees).refusals
items_known [] env callees = tt
items_known (u ∷ rest) env callees =
    judged_known (item_checked u env callees) (check_items rest (next_item (beyond_item u env)) (callees_beyond u env callees)) (fine_item u env callees)
    (items_known rest (next_item (beyond_item u env)) (callees_beyond u env callees))

unless_known : (all : List Refusal) (items : List External) (list : List Refusal) → AllKnown all → unless_refused all items ≡ Err list → AllKnown list
unless_known [] items list h e = absurd (cc)
unless_known (r ∷ more) items list h e = let same : r ∷ more ≡ list = cc in subst AllKnown same h

pub unit_known : (dialect : Dialect) (us : List External) (list : List Refusal) → check_unit dialect us ≡ Err list → AllKnown list
unit_known dialect us list e =
    unless_known (check_items us (unit_env dialect us) []).refusals (check_items us (unit_env dialect us) []).items list (items_known us (unit_env dialect us) []) e
