-- What the typing of a source tells of its declarations: each name may be one in the text that is written, and each alignment is a constant.
use Rattle.std.proofs.Common.{◌≡◌, refl, sym, ap, ◌∙◌, ℕ, Bool, true, false, ◌||◌, List, [], ◌∷◌, Option, Some, None, codes, nat_eq}
use Rattle.std.specs.List.{starts_with}
use Rattle.lane_core.specs.declared.number.Num.{Num}
use Rattle.const_imm.specs.Constant.{value_of}
use Rattle.c_text.specs.declared.tokens.Dialect.{Dialect}
use Rattle.c_text.specs.declared.tokens.Dialect.TheVariants.{X86, Neon}
use Rattle.c_tree.specs.declared.types.CType.{CType}
use Rattle.c_tree.specs.Tree.{Tree, Trees, Object, Statement, Statements, Optional, Declare, Run, Block, If, While, DoWhile, For, Break, Continue, Return, Empty, Absent, Present, NoStatements, Then, Definition, External, Function, Table}
use Rattle.scopes.specs.Scopes.{Env, with_object}
use Rattle.object_types.specs.Objects.{known, behind_declarator}
use Rattle.object_types.specs.Reserved.{is_reserved, is_vector_type, is_predefined}
use Rattle.object_types.specs.Typed as objects
use Rattle.object_types.specs.Typed.{TypedObject, TypedAlignment, PowerOfTwo, Begins}
use Rattle.statement_types.specs.Statements.{Around, inside, looped, around, with_objects, beyond, beyond_optional}
use Rattle.statement_types.specs.Typed as typed
use Rattle.statement_types.specs.Typed.{TypedObjects, TypedStatement, TypedOptional, TypedStatements, behind_first}
use Rattle.type_rules.specs.Types.{read_type}
use Rattle.order_rule.specs.Callees.{Before}
use Rattle.vector_types.specs.Functions.{in_function, without_length}
use Rattle.vector_types.specs.Units.{next_item, unit_env}
use Rattle.vector_types.specs.Typed as units
use Rattle.vector_types.specs.Typed.{IsParameter, TypedParameters, TypedFunction, TypedItems, TypedUnit}
use Rattle.written_text.proofs.Names.{Free}

abbrev pub IsAligned : Option Tree → Type 0
IsAligned None = Unit {0}
IsAligned (Some e) = (n : Num) × (value_of e ≡ Some n)

pub record Told (d : Object) : Type 0 where
  pub free : Free d.name
  pub aligned : IsAligned d.align

abbrev pub AllTold : List Object → Type 0
AllTold [] = Unit {0}
AllTold (d ∷ rest) = Told d × AllTold rest

abbrev mutual
  pub ToldStatement : Statement → Type 0
  ToldStatement (Declare all) = AllTold all
  ToldStatement (Block all) = ToldStatements all
  ToldStatement (If e s o) = ToldStatement s × ToldOptional o
  ToldStatement (While e s) = ToldStatement s
  ToldStatement (DoWhile s e) = ToldStatement s
  ToldStatement (For i e n s) = ToldOptional i × ToldStatement s
  ToldStatement s = Unit {0}

  pub ToldOptional : Optional → Type 0
  ToldOptional Absent = Unit {0}
  ToldOptional (Present s) = ToldStatement s

  pub ToldStatements : Statements → Type 0
  ToldStatements NoStatements = Unit {0}
  ToldStatements (Then s rest) = ToldStatement s × ToldStatements rest

-- a parameter has its name and its type alone
pub record Bare (d : Object) : Type 0 where
  pub length : d.length ≡ None
  pub align : d.align ≡ None
  pub init : d.init ≡ None
  pub list : d.list ≡ None

abbrev pub AllBare : List Object → Type 0
AllBare [] = Unit {0}
AllBare (d ∷ rest) = Bare d × AllBare rest

pub record ToldFunction (f : Definition) : Type 0 where
  pub free : Free f.name
  pub params : AllTold f.params
  pub bare : AllBare f.params
  pub body : ToldStatements f.body

abbrev pub ToldUnit : List External → Type 0
ToldUnit [] = Unit {0}
ToldUnit (Function f ∷ rest) = ToldFunction f × ToldUnit rest
ToldUnit (Table d is_static ∷ rest) = ToldUnit rest

-- ---- names

second_false : (a b : Bool) → (a || b) ≡ false → b ≡ false
second_false true b h = absurd (cc)
second_false false b h = h

first_false : (a b : Bool) → (a || b) ≡ false → a ≡ false
first_false true b h = absurd (cc)
first_false false b h = refl

free_of : (b : Bool) (x : List ℕ) → is_reserved X86 b x ≡ false → Free x
free_of b x h =
    let front = starts_with nat_eq x (codes "mg_") || starts_with nat_eq x (codes "_mm") || starts_with nat_eq x (codes "__builtin_") || b in
    let rest = first_false (front || is_vector_type x || is_predefined X86 x) (is_predefined Neon x) h in
    record {
      no_vector = second_false front (is_vector_type x) (first_false (front || is_vector_type x) (is_predefined X86 x) rest);
      no_macro = second_false (front || is_vector_type x || is_predefined X86 x) (is_predefined Neon x) h;
    }

in_dialect : (d : Dialect) (b : Bool) (x : List ℕ) → d ≡ X86 → is_reserved d b x ≡ false → Free x
in_dialect d b x e h = free_of b x (ap (λ z. is_reserved z b x) (sym e) ∙ h)

-- ---- objects

constant_of : (env : Env) (a b : Tree) → PowerOfTwo env a b → IsAligned (Some b)
constant_of env a b (objects.power_of_two c d n h v i) = (n, v)

aligned : (before behind : Env) (first : Bool) (a b : Option Tree) → TypedAlignment before behind first a b → IsAligned b
aligned before behind first a b (objects.unwritten f) = tt
aligned before behind first a b (objects.among_specifiers c d h) = constant_of before c d h
aligned before behind first a b (objects.behind_name c d h) = constant_of behind c d h

object_told : (env : Env) (d v : Object) → env.dialect ≡ X86 → TypedObject env d v → Told v
object_told env d v e (objects.declared x length n t u align init list may l y z g b) = record { free = in_dialect env.dialect (env.neon d.name) d.name e may.unreserved; aligned = aligned env (behind_declarator d.name d.constant t env) d.align_first d.align align g }

objects_told : (env : Env) (ds vs : List Object) → env.dialect ≡ X86 → TypedObjects env ds vs → AllTold vs
objects_told env ds vs e (typed.no_object x) = tt
objects_told env ds vs e (typed.one_object x d v rest more h i) = (object_told env d v e h, objects_told (with_object v.name (known v.constant v.ty) env) rest more e i)

-- ---- statements

pub same_dialect : (vs : List Object) (env : Env) → (with_objects vs env).dialect ≡ env.dialect
same_dialect [] env = refl
same_dialect (d ∷ rest) env = same_dialect rest (with_object d.name (known d.constant d.ty) env)

pub beyond_dialect : (s : Statement) (env : Env) → (beyond s env).dialect ≡ env.dialect
beyond_dialect (Declare all) env = same_dialect all env
beyond_dialect (Run x) env = refl
beyond_dialect (Block all) env = refl
beyond_dialect (If x s o) env = refl
beyond_dialect (While x s) env = refl
beyond_dialect (DoWhile s x) env = refl
beyond_dialect (For i x n s) env = refl
beyond_dialect (Break p) env = refl
beyond_dialect (Continue p) env = refl
beyond_dialect (Return p x) env = refl
beyond_dialect Empty env = refl

pub optional_dialect : (o : Optional) (env : Env) → (beyond_optional o env).dialect ≡ env.dialect
optional_dialect Absent env = refl
optional_dialect (Present s) env = beyond_dialect s env

mutual
  statement_told : (c : Around) (s t : Statement) → c.env.dialect ≡ X86 → TypedStatement c s t → ToldStatement t
  statement_told c s t e (typed.declaration z all vs h) = objects_told c.env all vs e h
  statement_told c s t e (typed.expression z x v h) = tt
  statement_told c s t e (typed.block z all vs h) = statements_told (inside c) all vs e h
  statement_told c s t e (typed.selection z x v y w o u h i j) = (statement_told (inside c) y w e i, optional_told (inside c) o u e j)
  statement_told c s t e (typed.while_loop z x v y w h i) = statement_told (looped c) y w e i
  statement_told c s t e (typed.do_loop z y w x v h i) = statement_told (looped c) y w e h
  statement_told c s t e (typed.for_loop z i j x v n m y w h f g l) = (optional_told (inside c) i j e h, statement_told (looped (behind_first j c)) y w (optional_dialect j (inside c).env ∙ e) l)
  statement_told c s t e (typed.break_statement z p h) = tt
  statement_told c s t e (typed.continue_statement z p h) = tt
  statement_told c s t e (typed.return_statement z p x v h) = tt
  statement_told c s t e (typed.null_statement z) = tt

  optional_told : (c : Around) (s t : Optional) → c.env.dialect ≡ X86 → TypedOptional c s t → ToldOptional t
  optional_told c s t e (typed.absent z) = tt
  optional_told c s t e (typed.present z x y h) = statement_told c x y e h

  statements_told : (c : Around) (all vs : Statements) → c.env.dialect ≡ X86 → TypedStatements c all vs → ToldStatements vs
  statements_told c all vs e (typed.no_more z) = tt
  statements_told c all vs e (typed.one_more z s t rest more h i) = (statement_told c s t e h, statements_told (record c { env = beyond t c.env }) rest more (beyond_dialect t c.env ∙ e) i)

-- ---- functions and units

no_alignment : (before behind : Env) (first : Bool) (a b : Option Tree) → a ≡ None → TypedAlignment before behind first a b → b ≡ None
no_alignment before behind first a b e (objects.unwritten f) = refl
no_alignment before behind first a b e (objects.among_specifiers c d h) = absurd (cc)
no_alignment before behind first a b e (objects.behind_name c d h) = absurd (cc)

no_beginning : (env : Env) (t u : CType) (a b : Option Tree) (l m : Option Trees) → a ≡ None → l ≡ None → Begins env t a l b m u → (b ≡ None) × (m ≡ None)
no_beginning env t u a b l m e f (objects.nothing x o) = (refl, refl)
no_beginning env t u a b l m e f (objects.value x c d g h k) = absurd (cc)
no_beginning env t u a b l m e f (objects.members s n c all rest g h k) = absurd (cc)
no_beginning env t u a b l m e f (objects.members_of_open s c all rest g h k) = absurd (cc)

parameter_bare : (env : Env) (d v : Object) → IsParameter d → TypedObject env d v → Bare (without_length v)
parameter_bare env d v p (objects.declared x length n t u align init list may l y z g b) =
    let begins = no_beginning (behind_declarator d.name d.constant t env) t u d.init init d.list list p.unset p.unlisted b in
    record { length = refl; align = no_alignment env (behind_declarator d.name d.constant t env) d.align_first d.align align p.unaligned g; init = begins.0; list = begins.1 }

parameters_bare : (env : Env) (ds vs : List Object) → TypedParameters env ds vs → AllBare vs
parameters_bare env ds vs (units.no_parameter x) = tt
parameters_bare env ds vs (units.one_parameter x d v rest more p h i) = (parameter_bare env d v p h, parameters_bare (with_object v.name (known v.constant v.ty) env) rest more i)

parameters_told : (env : Env) (ds vs : List Object) → env.dialect ≡ X86 → TypedParameters env ds vs → AllTold vs
parameters_told env ds vs e (units.no_parameter x) = tt
parameters_told env ds vs e (units.one_parameter x d v rest more p h i) =
    let one = object_told env d v e h in
    (record { free = one.free; aligned = one.aligned }, parameters_told (with_object v.name (known v.constant v.ty) env) rest more e i)

function_told : (env : Env) (f g : Definition) → env.dialect ≡ X86 → TypedFunction env f g → ToldFunction g
function_told env f g e (units.function h ps b may array pointer params body) = record {
  free = in_dialect env.dialect (env.neon f.name) f.name e may.unreserved;
  params = parameters_told (in_function f env) f.params ps e params;
  bare = parameters_bare (in_function f env) f.params ps params;
  body = statements_told (around (with_objects ps (in_function f env)) (read_type env.dialect f.result) false) f.body b (same_dialect ps (in_function f env) ∙ e) body;
}

items_told : (env : Env) (callees : Before) (source unit : List External) → env.dialect ≡ X86 → TypedItems env callees source unit → ToldUnit unit
items_told env callees source unit e (units.no_item x k) = tt
items_told env callees source unit e (units.one_function x k f g rest more h order next) = (function_told env f g e h, items_told (next_item env) _ rest more e next)
items_told env callees source unit e (units.one_table x k d v is_static rest more h next) = items_told (next_item (with_object v.name (known v.constant v.ty) env)) callees rest more e next

pub unit_told : (source unit : List External) → TypedUnit X86 source unit → ToldUnit unit
unit_told source unit h = items_told (unit_env X86 source) [] source unit refl h
