-- A source that is as the grammar gives it is so with its types too (C11 6.3, 6.5, 6.7 to 6.9): typing adds conversions and keeps names, constants,
-- lengths and alignments.
use Rattle.std.proofs.Common.{◌≡◌, refl, sym, ◌∙◌, ap, subst, ℕ, Bool, true, false, cond, List, [], Option, None}
use Rattle.c_text.specs.declared.tokens.Dialect.TheVariants.{X86}
use Rattle.c_text.specs.declared.tokens.Place.{Place}
use Rattle.lane_core.specs.declared.number.IntType.{IntType}
use Rattle.lane_core.specs.declared.vector.Pointee.{Pointee}
use Rattle.lane_core.specs.declared.vector.Pointee.TheVariants as target
use Rattle.c_tree.specs.declared.types.CType.{CType}
use Rattle.c_tree.specs.declared.types.CType.TheVariants as ctypes
use Rattle.c_tree.specs.Tree as tree
use Rattle.c_tree.specs.Tree.{Tree, Kind, Trees, Node, NoTrees, More, Object, Statement, Statements, Optional, Definition, External, Function, Table}
use Rattle.c_tree.specs.Nodes.{node_type, node_place}
use Rattle.c_print.specs.Declarations.{has_const}
use Rattle.round_trip.specs.Good.{GoodConstant, Several}
use Rattle.round_trip.specs.GoodUnits.{first_type}
use Rattle.type_rules.specs.declared.passing.Parameter.{Parameter}
use Rattle.type_rules.specs.Types.{read_pointee, read_type, same_type, converted}
use Rattle.type_rules.specs.Rules as rules
use Rattle.type_rules.specs.Rules.{Assigned, Results, Given, Passed}
use Rattle.scopes.specs.Scopes.{Env, with_object}
use Rattle.expression_types.specs.Check.{read_number}
use Rattle.expression_types.specs.Typed as expressions
use Rattle.expression_types.specs.Typed.{Typed, TypedAll}
use Rattle.object_types.specs.Objects.{known, behind_declarator}
use Rattle.object_types.specs.Typed as objects
use Rattle.object_types.specs.Typed.{TypedLength, DeclaredType, PowerOfTwo, TypedAlignment, TypedMember, TypedMembers, Begins, TypedObject}
use Rattle.statement_types.specs.Statements.{Around, inside, looped, around, with_objects, beyond}
use Rattle.statement_types.specs.Typed as statements
use Rattle.statement_types.specs.Typed.{TypedObjects, TypedCondition, OptionalCondition, OptionalExpression, Returned, behind_first, TypedStatement, TypedOptional, TypedStatements}
use Rattle.order_rule.specs.Callees.{Before}
use Rattle.vector_types.specs.Functions.{in_function}
use Rattle.vector_types.specs.Units.{next_item, unit_env}
use Rattle.vector_types.specs.Typed as units
use Rattle.vector_types.specs.Typed.{TypedParameters, TypedFunction, TypedItems, TypedUnit}
use Rattle.read_units.specs.Read.{ReadName, Read, ReadKind, ReadAll, ReadPart, ReadList, HasLength, ReadObject, ReadOthers, ReadDeclaration, ReadStatement, ReadOptional, ReadStatements, ReadParameters, ReadFunction, ReadUnit}
use Rattle.written_text.proofs.Told.{same_dialect, beyond_dialect, optional_dialect}

-- ---- expressions

converted_read : (t : CType) (a : Tree) → Read a → Read (converted t a)
converted_read t a h = go (same_type (node_type a) t)
  where
    go : (b : Bool) → Read (cond b a (Node (node_place a) t (tree.Cast t a false)))
    go true = h
    go false = h

assigned_read : (a : Tree) (t : CType) (b : Tree) → Read a → Assigned a t b → Read b
assigned_read a t b h (rules.to_integer s u g) = converted_read (ctypes.Int u) a h
assigned_read a t b h (rules.null_pointer s e c g z) = converted_read (ctypes.Pointer e c) a h
assigned_read a t b h (rules.to_pointer e f c d g s k) = converted_read (ctypes.Pointer f d) a h
assigned_read a t b h (rules.to_vector u g e) = h

results_read : (p : Place) (k : Kind) (v : Tree) → ReadKind k → Results p k v → Read v
results_read p k v h (rules.constant n) = h
results_read p k v h (rules.promoting o a t g i) = converted_read _ a h
results_read p k v h (rules.negation a g) = h
results_read p k v h (rules.integer_step a t up before g) = h
results_read p k v h (rules.pointer_step a e c up before g i) = h
results_read p k v h (rules.integers o a b s t g i) = (converted_read _ a h.0, converted_read _ b h.1)
results_read p k v h (rules.moved o a b e c t g i j l) = h
results_read p k v h (rules.moved_by_left a b e c t g i j) = h
results_read p k v h (rules.difference a b e c d g i j) = h
results_read p k v h (rules.ordered o a b e c d g i j l) = h
results_read p k v h (rules.compared o a b e c d g i j) = h
results_read p k v h (rules.compared_with_null o a b e c t g i j z) = (h.0, converted_read _ b h.1)
results_read p k v h (rules.null_compared o a b e c t g i z j) = (converted_read _ a h.0, h.1)
results_read p k v h (rules.conjunction a b g i) = h
results_read p k v h (rules.disjunction a b g i) = h
results_read p k v h (rules.choice_of_integers c a b s t g i j) = (h.0, converted_read _ a h.1, converted_read _ b h.2)
results_read p k v h (rules.choice_of_pointers c a b e l m g i j) = (h.0, converted_read _ a h.1, converted_read _ b h.2)
results_read p k v h (rules.choice_or_null c a b e l t g i j z) = (h.0, h.1, converted_read _ b h.2)
results_read p k v h (rules.null_or_choice c a b e l t g i z j) = (h.0, converted_read _ a h.1, h.2)
results_read p k v h (rules.choice_of_nothing c a b g i j) = h
results_read p k v h (rules.choice_of_vectors c a b t g i j l) = h
results_read p k v h (rules.assignment a b c g) = (tt, h.1, assigned_read b (node_type a) c h.2 g)
results_read p k v h (rules.compound o a b s t g i j) = (h.0, h.1, converted_read _ b h.2)
results_read p k v h (rules.pointer_compound o a b e c t g i j l) = h
results_read p k v h (rules.sequence all a g) = h
results_read p k v h (rules.cast_to_void a) = h
results_read p k v h (rules.cast_to_integer a s t g) = h
results_read p k v h (rules.cast_to_pointer a e f c d g) = h
results_read p k v h (rules.element a b e c t u g i j) = h
results_read p k v h (rules.element_by_left a b e c t u g i j) = h
results_read p k v h (rules.pointed a e c u g i) = h
results_read p k v h (rules.half a n g i) = h
results_read p k v h (rules.pair a b g i) = h
results_read p k v h (rules.size t n g) = tt

given_read : (a : Tree) (t : Parameter) (b : Tree) → Read a → Given a t b → Read b
given_read a t b h (rules.by_value u c g) = assigned_read a u c h g
given_read a t b h (rules.by_constant u g) = h

passed_read : (ts : List Parameter) (all args : Trees) → ReadAll all → Passed ts all args → ReadAll args
passed_read ts all args h rules.no_more = tt
passed_read ts all args h (rules.one_more t us a b rest more g i) = (given_read a t b h.0 g, passed_read us rest more h.1 i)

several_typed : (env : Env) (all more : Trees) → Several all → TypedAll env all more → Several more
several_typed env all more h expressions.none = h
several_typed env all more h (expressions.more a b rest others g i) = go rest others h i
  where
    go : (rest others : Trees) → Several (More a rest) → TypedAll env rest others → Several (More b others)
    go rest others h expressions.none = h
    go rest others h (expressions.more c d us vs j k) = tt

mutual
  read_typed : (env : Env) (a v : Tree) → env.dialect ≡ X86 → Read a → Typed env a v → Read v
  read_typed env a v e h (expressions.constant p t n) = subst (λ d. GoodConstant (read_number d n)) (sym e) h
  read_typed env a v e h (expressions.object p t x o f g) = h
  read_typed env a v e h (expressions.array p t x o u n c f g) = h
  read_typed env a v e h (expressions.unary p t o b b' w g r) = results_read p _ w (read_typed env b b' e h g) r
  read_typed env a v e h (expressions.binary p t o b b' c c' w g i r) = results_read p _ w (read_typed env b b' e h.0 g, read_typed env c c' e h.1 i) r
  read_typed env a v e h (expressions.conjunction p t b b' c c' w g i r) = results_read p _ w (read_typed env b b' e h.0 g, read_typed env c c' e h.1 i) r
  read_typed env a v e h (expressions.disjunction p t b b' c c' w g i r) = results_read p _ w (read_typed env b b' e h.0 g, read_typed env c c' e h.1 i) r
  read_typed env a v e h (expressions.choice p t c c' b b' d d' w g i j r) = results_read p _ w (read_typed env c c' e h.0 g, read_typed env b b' e h.1 i, read_typed env d d' e h.2 j) r
  read_typed env a v e h (expressions.sequence p t all all' w g r) = results_read p _ w (several_typed env all all' h.0 g, read_all env all all' e h.1 g) r
  read_typed env a v e h (expressions.index p t b b' c c' w g i r) = results_read p _ w (read_typed env b b' e h.0 g, read_typed env c c' e h.1 i) r
  read_typed env a v e h (expressions.dereference p t b b' w g r) = results_read p _ w (read_typed env b b' e h g) r
  read_typed env a v e h (expressions.half_of p t b b' w n g r) = results_read p _ w (read_typed env b b' e h g) r
  read_typed env a v e h (expressions.pair p t b b' c c' w g i r) = results_read p _ w (read_typed env b b' e h.0 g, read_typed env c c' e h.1 i) r
  read_typed env a v e h (expressions.step p t b b' w up before g d r) = results_read p _ w (read_typed env b b' e h g) r
  read_typed env a v e h (expressions.assign p t o b b' c c' w g i d r) = results_read p _ w (h.0, read_typed env b b' e h.1 g, read_typed env c c' e h.2 i) r
  read_typed env a v e h (expressions.address p t b b' c u g d o) = read_typed env b b' e h g
  read_typed env a v e h (expressions.cast p t u b b' w g r n) = results_read p _ w (read_typed env b b' e h g) r
  read_typed env a v e h (expressions.through p t u b b' g) = read_typed env b b' e h g
  read_typed env a v e h (expressions.size p t u w r n) = results_read p _ w tt r
  read_typed env a v e h (expressions.size_of_object p t x o n f g) = h
  read_typed env a v e h (expressions.call_of_function p t f c all all' args u o k n m g s i) = (h.0, passed_read c.heading.params all' args (read_all env all all' e h.1 g) s)
  read_typed env a v e h (expressions.call_of_row p t f r all all' args u o k n g s i) = (h.0, passed_read r.heading.params all' args (read_all env all all' e h.1 g) s)

  read_all : (env : Env) (all more : Trees) → env.dialect ≡ X86 → ReadAll all → TypedAll env all more → ReadAll more
  read_all env all more e h expressions.none = tt
  read_all env all more e h (expressions.more a b rest others g i) = (read_typed env a b e h.0 g, read_all env rest others e h.1 i)

-- ---- types of objects

same_pointee : (p : Pointee) → read_pointee X86 p ≡ p
same_pointee target.Void = refl
same_pointee (target.Int t) = refl
same_pointee target.M128 = refl
same_pointee target.M256 = refl

same_read : (t : CType) → read_type X86 t ≡ t
same_read ctypes.Void = refl
same_read (ctypes.Int t) = refl
same_read ctypes.M128 = refl
same_read ctypes.M256 = refl
same_read (ctypes.Neon l wide) = refl
same_read ctypes.Pair = refl
same_read (ctypes.Pointer p c) = ap (λ q. ctypes.Pointer q c) (same_pointee p)
same_read (ctypes.Array p n c) = ap (λ q. ctypes.Array q n c) (same_pointee p)

-- the second type is the first but for its number of elements
record Numbered (t u : CType) : Type 0 where
  first : first_type u ≡ first_type t
  shared : (k : Bool) → has_const u k ≡ has_const t k
  shaped : (a : Option Tree) → HasLength t a → HasLength u a

unchanged : (t : CType) → Numbered t t
unchanged t = record { first = refl; shared = λ k. refl; shaped = λ a h. h }

declared_numbered : (t : CType) (n : Option ℕ) (u : CType) → DeclaredType t n u → Numbered t u
declared_numbered t n u (objects.array p m c k) = record { first = refl; shared = λ k. refl; shaped = λ a h. h }
declared_numbered t n u (objects.open_array p m c) = record { first = refl; shared = λ k. refl; shaped = λ a h. h }
declared_numbered t n u (objects.no_array s k g) = unchanged s

begun_numbered : (env : Env) (t u : CType) (a b : Option Tree) (l m : Option Trees) → Begins env t a l b m u → Numbered t u
begun_numbered env t u a b l m (objects.nothing s o) = unchanged s
begun_numbered env t u a b l m (objects.value s c d w g i) = unchanged s
begun_numbered env t u a b l m (objects.members s n c all rest g i j) = unchanged _
begun_numbered env t u a b l m (objects.members_of_open s c all rest g i j) = record { first = refl; shared = λ k. refl; shaped = λ a h. h }

then_numbered : (t u w : CType) → Numbered t u → Numbered u w → Numbered t w
then_numbered t u w g h = record { first = h.first ∙ g.first; shared = λ k. h.shared k ∙ g.shared k; shaped = λ a i. h.shaped a (g.shaped a i) }

-- what has no length keeps none
length_stays : (t : CType) (a b : Option Tree) → (a ≡ None → b ≡ None) → HasLength t a → HasLength t b
length_stays ctypes.Void a b f h = f h
length_stays (ctypes.Int t) a b f h = f h
length_stays ctypes.M128 a b f h = f h
length_stays ctypes.M256 a b f h = f h
length_stays (ctypes.Neon l wide) a b f h = f h
length_stays ctypes.Pair a b f h = f h
length_stays (ctypes.Pointer p c) a b f h = f h
length_stays (ctypes.Array p n c) a b f h = tt

no_length : (env : Env) (a b : Option Tree) (n : Option ℕ) → TypedLength env a b n → a ≡ None → b ≡ None
no_length env a b n objects.unwritten e = refl
no_length env a b n (objects.written c d m k g v p l) e = absurd (cc)

-- ---- parts of objects

length_read : (env : Env) (a b : Option Tree) (n : Option ℕ) → env.dialect ≡ X86 → ReadPart a → TypedLength env a b n → ReadPart b
length_read env a b n e h objects.unwritten = tt
length_read env a b n e h (objects.written c d m k g v p l) = read_typed env c d e h g

power_read : (env : Env) (a b : Tree) → env.dialect ≡ X86 → Read a → PowerOfTwo env a b → Read b
power_read env a b e h (objects.power_of_two c d n g v i) = read_typed env c d e h g

alignment_read : (before behind : Env) (first : Bool) (a b : Option Tree) → before.dialect ≡ X86 → behind.dialect ≡ X86 → ReadPart a → TypedAlignment before behind first a b → ReadPart b
alignment_read before behind first a b e f h (objects.unwritten g) = tt
alignment_read before behind first a b e f h (objects.among_specifiers c d g) = power_read before c d e h g
alignment_read before behind first a b e f h (objects.behind_name c d g) = power_read behind c d f h g

member_read : (env : Env) (s : IntType) (a b : Tree) → env.dialect ≡ X86 → Read a → TypedMember env s a b → Read b
member_read env s a b e h (objects.member c d w n g v i) = assigned_read d (ctypes.Int s) w (read_typed env c d e h g) i

members_read : (env : Env) (s : IntType) (all more : Trees) → env.dialect ≡ X86 → ReadAll all → TypedMembers env s all more → ReadAll more
members_read env s all more e h objects.none = tt
members_read env s all more e h (objects.more a b rest others g i) = (member_read env s a b e h.0 g, members_read env s rest others e h.1 i)

begun_read : (env : Env) (t u : CType) (a b : Option Tree) (l m : Option Trees) → env.dialect ≡ X86 → ReadPart a → ReadList l → Begins env t a l b m u → ReadPart b × ReadList m
begun_read env t u a b l m e h k (objects.nothing s o) = (tt, tt)
begun_read env t u a b l m e h k (objects.value s c d w g i) = (assigned_read d s w (read_typed env c d e h g) i, tt)
begun_read env t u a b l m e h k (objects.members s n c all rest g i j) = (tt, members_read env s all rest e k g)
begun_read env t u a b l m e h k (objects.members_of_open s c all rest g i j) = (tt, members_read env s all rest e k g)

-- ---- objects

record Stays (d v : Object) : Type 0 where
  read : ReadObject v
  first : first_type v.ty ≡ first_type d.ty
  shared : has_const v.ty v.constant ≡ has_const d.ty d.constant

object_stays : (env : Env) (d v : Object) → env.dialect ≡ X86 → ReadObject d → TypedObject env d v → Stays d v
object_stays env d v e h (objects.declared x length n t u align init list may l y z g b) =
    let behind = behind_declarator d.name d.constant t env in
    let own : Numbered d.ty (read_type env.dialect d.ty) = subst (Numbered d.ty) (sym (ap (λ z. read_type z d.ty) e ∙ same_read d.ty)) (unchanged d.ty) in
    let whole = then_numbered d.ty (read_type env.dialect d.ty) u own (then_numbered (read_type env.dialect d.ty) t u (declared_numbered (read_type env.dialect d.ty) n t y) (begun_numbered behind t u d.init init d.list list b)) in
    let begun = begun_read behind t u d.init init d.list list e h.init h.list b in
    record {
      read = record {
        named = h.named;
        shaped = length_stays u d.length length (no_length env d.length length n l) (whole.shaped d.length h.shaped);
        length = length_read env d.length length n e h.length l;
        align = alignment_read env behind d.align_first d.align align e e h.align g;
        init = begun.0;
        list = begun.1;
      };
      first = whole.first;
      shared = whole.shared d.constant;
    }

others_stay : (env : Env) (t : CType) (constant : Bool) (ds vs : List Object) → env.dialect ≡ X86 → ReadOthers t constant ds → TypedObjects env ds vs → ReadOthers t constant vs
others_stay env t constant ds vs e h (statements.no_object x) = tt
others_stay env t constant ds vs e h (statements.one_object x d v rest more g i) =
    let one = object_stays env d v e h.0 g in
    (one.read, one.first ∙ h.1, one.shared ∙ h.2, others_stay (with_object v.name (known v.constant v.ty) env) t constant rest more e h.3 i)

shared_by : (t u : CType) (b c : Bool) (all : List Object) → t ≡ u → b ≡ c → ReadOthers t b all → ReadOthers u c all
shared_by t u b c all f g h = subst (λ k. ReadOthers u k all) g (subst (λ s. ReadOthers s b all) f h)

declaration_stays : (env : Env) (ds vs : List Object) → env.dialect ≡ X86 → ReadDeclaration ds → TypedObjects env ds vs → ReadDeclaration vs
declaration_stays env ds vs e h (statements.no_object x) = h
declaration_stays env ds vs e h (statements.one_object x d v rest more g i) =
    let one = object_stays env d v e h.0 g in
    let others = others_stay (with_object v.name (known v.constant v.ty) env) (first_type d.ty) (has_const d.ty d.constant) rest more e h.1 i in
    (one.read, shared_by (first_type d.ty) (first_type v.ty) (has_const d.ty d.constant) (has_const v.ty v.constant) more (sym one.first) (sym one.shared) others)

-- ---- statements

condition_read : (env : Env) (a v : Tree) → env.dialect ≡ X86 → Read a → TypedCondition env a v → Read v
condition_read env a v e h (statements.condition b w g s) = read_typed env b w e h g

optional_condition : (env : Env) (a v : Option Tree) → env.dialect ≡ X86 → ReadPart a → OptionalCondition env a v → ReadPart v
optional_condition env a v e h statements.no_condition = tt
optional_condition env a v e h (statements.one_condition b w g) = condition_read env b w e h g

optional_read : (env : Env) (a v : Option Tree) → env.dialect ≡ X86 → ReadPart a → OptionalExpression env a v → ReadPart v
optional_read env a v e h statements.no_expression = tt
optional_read env a v e h (statements.one_expression b w g) = read_typed env b w e h g

returned_read : (env : Env) (t : CType) (a v : Option Tree) → env.dialect ≡ X86 → ReadPart a → Returned env t a v → ReadPart v
returned_read env t a v e h (statements.nothing i) = tt
returned_read env t a v e h (statements.value b c w i g k) = assigned_read c t w (read_typed env b c e h g) k

mutual
  statement_stays : (c : Around) (s t : Statement) → c.env.dialect ≡ X86 → ReadStatement s → TypedStatement c s t → ReadStatement t
  statement_stays c s t e r (statements.declaration z all vs h) = declaration_stays c.env all vs e r h
  statement_stays c s t e r (statements.expression z x v h) = read_typed c.env x v e r h
  statement_stays c s t e r (statements.block z all vs h) = statements_stay (inside c) all vs e r h
  statement_stays c s t e r (statements.selection z x v y w o u h i j) = (condition_read c.env x v e r.0 h, statement_stays (inside c) y w e r.1 i, optional_stays (inside c) o u e r.2 j)
  statement_stays c s t e r (statements.while_loop z x v y w h i) = (condition_read c.env x v e r.0 h, statement_stays (looped c) y w e r.1 i)
  statement_stays c s t e r (statements.do_loop z y w x v h i) = (statement_stays (looped c) y w e r.0 h, condition_read c.env x v e r.1 i)
  statement_stays c s t e r (statements.for_loop z i j x v n m y w h f g l) =
      let behind = optional_dialect j (inside c).env ∙ e in
      (optional_stays (inside c) i j e r.0 h, optional_condition (behind_first j c).env x v behind r.1 f, optional_read (behind_first j c).env n m behind r.2 g, statement_stays (looped (behind_first j c)) y w behind r.3 l)
  statement_stays c s t e r (statements.break_statement z p h) = tt
  statement_stays c s t e r (statements.continue_statement z p h) = tt
  statement_stays c s t e r (statements.return_statement z p x v h) = returned_read c.env c.result x v e r h
  statement_stays c s t e r (statements.null_statement z) = tt

  optional_stays : (c : Around) (s t : Optional) → c.env.dialect ≡ X86 → ReadOptional s → TypedOptional c s t → ReadOptional t
  optional_stays c s t e r (statements.absent z) = tt
  optional_stays c s t e r (statements.present z x y h) = statement_stays c x y e r h

  statements_stay : (c : Around) (all vs : Statements) → c.env.dialect ≡ X86 → ReadStatements all → TypedStatements c all vs → ReadStatements vs
  statements_stay c all vs e r (statements.no_more z) = tt
  statements_stay c all vs e r (statements.one_more z s t rest more h i) = (statement_stays c s t e r.0 h, statements_stay (record c { env = beyond t c.env }) rest more (beyond_dialect t c.env ∙ e) r.1 i)

-- ---- functions and units

same_name : (env : Env) (d v : Object) → TypedObject env d v → v.name ≡ d.name
same_name env d v (objects.declared x length n t u align init list may l y z g b) = refl

parameters_stay : (env : Env) (ds vs : List Object) → ReadParameters ds → TypedParameters env ds vs → ReadParameters vs
parameters_stay env ds vs r (units.no_parameter x) = tt
parameters_stay env ds vs r (units.one_parameter x d v rest more p h i) =
    (subst ReadName (sym (same_name env d v h)) r.0, parameters_stay (with_object v.name (known v.constant v.ty) env) rest more r.1 i)

function_stays : (env : Env) (f g : Definition) → env.dialect ≡ X86 → ReadFunction f → TypedFunction env f g → ReadFunction g
function_stays env f g e r (units.function h ps b may array pointer params body) = record {
  named = r.named;
  params = parameters_stay (in_function f env) f.params ps r.params params;
  body = statements_stay (around (with_objects ps (in_function f env)) (read_type env.dialect f.result) false) f.body b (same_dialect ps (in_function f env) ∙ e) r.body body;
}

items_stay : (env : Env) (callees : Before) (source unit : List External) → env.dialect ≡ X86 → ReadUnit source → TypedItems env callees source unit → ReadUnit unit
items_stay env callees source unit e r (units.no_item x k) = tt
items_stay env callees source unit e r (units.one_function x k f g rest more h order next) = (function_stays env f g e r.0 h, items_stay (next_item env) _ rest more e r.1 next)
items_stay env callees source unit e r (units.one_table x k d v is_static rest more h next) =
    ((object_stays env d v e r.0 h.object).read, items_stay (next_item (with_object v.name (known v.constant v.ty) env)) callees rest more e r.1 next)

-- What has its types is as the grammar gives it, where its source is.
pub unit_stays : (source unit : List External) → TypedUnit X86 source unit → ReadUnit source → ReadUnit unit
unit_stays source unit h r = items_stay (unit_env X86 source) [] source unit refl r h
