-- What is the same as something good is good, and what is the same as something that can be written can be written.
use Rattle.std.proofs.Common.{◌≡◌, List, [], ◌∷◌, map, Bool, true, false, Option, Some, None, refl, sym, ◌∙◌, subst, inl, inr}
use Rattle.std.specs.Prelude.{◌⊎◌, option_map, is_some}
use Rattle.c_tree.specs.declared.types.CType.{CType}
use Rattle.c_tree.specs.declared.types.CType.TheVariants as ctypes
use Rattle.c_tree.specs.Same.{Same, stripped, stripped_kind, stripped_all, stripped_object, stripped_statement, stripped_optional, stripped_statements, stripped_definition, stripped_external, unnumbered}
use Rattle.c_tree.specs.Tree.{Tree, Kind, Trees, Node, Const, Name, Unary, Step, Binary, AndThen, OrElse, Choice, Assign, Comma, Cast, Index, Deref, Address, Call, Half, PairOf, SizeOfType, SizeOfName, Str, NoTrees, More}
use Rattle.c_tree.specs.Tree.{Object, Statement, Statements, Optional, Declare, Run, Block, If, While, DoWhile, For, Break, Continue, Return, Empty, Absent, Present, NoStatements, Then}
use Rattle.c_tree.specs.Tree.{Definition, External, Function, Table}
use Rattle.c_print.specs.Declarations.{has_const}
use Rattle.round_trip.specs.Good.{GoodType, Several, Good, GoodKind, GoodAll}
use Rattle.round_trip.specs.GoodUnits.{first_type, GoodObjectType, GoodPart, GoodList, HasShape, GoodObject, GoodOthers, GoodDeclaration, IsNoArray, GoodParameter, GoodParameters, IsBlock, IsIf, GoodStart, GoodStatement, GoodElse, GoodStatements, GoodFunction, HasValue, GoodItem, GoodUnit}
use Rattle.round_trip.specs.Printable.{HasNoChar, Writable, WritableKind, WritableAll, WritablePart, WritableList, WritableObject, WritableObjects, WritableParameter, WritableParameters, WritableStatement, WritableElse, WritableStart, WritableStatements, WritableFunction, WritableItem, WritableUnit}

-- from one name of a proposition to another
to : {A B : Type 0} → A ≡ B → A → B
to e a = subst (λ T. T) e a

back : {A B : Type 0} → A ≡ B → B → A
back e b = subst (λ T. T) (sym e) b

-- Types, without the numbers of arrays' elements.
good_type : (ty : CType) → GoodType (unnumbered ty) ≡ GoodType ty
good_type ctypes.Void = refl
good_type (ctypes.Int t) = refl
good_type ctypes.M128 = refl
good_type ctypes.M256 = refl
good_type (ctypes.Neon lane wide) = refl
good_type ctypes.Pair = refl
good_type (ctypes.Pointer p constant) = refl
good_type (ctypes.Array p n constant) = refl

writable_type : (ty : CType) → HasNoChar (unnumbered ty) ≡ HasNoChar ty
writable_type ctypes.Void = refl
writable_type (ctypes.Int t) = refl
writable_type ctypes.M128 = refl
writable_type ctypes.M256 = refl
writable_type (ctypes.Neon lane wide) = refl
writable_type ctypes.Pair = refl
writable_type (ctypes.Pointer p constant) = refl
writable_type (ctypes.Array p n constant) = refl

object_type : (ty : CType) (c : Bool) → GoodObjectType (unnumbered ty) c ≡ GoodObjectType ty c
object_type ctypes.Void c = refl
object_type (ctypes.Int t) c = refl
object_type ctypes.M128 c = refl
object_type ctypes.M256 c = refl
object_type (ctypes.Neon lane wide) c = refl
object_type ctypes.Pair c = refl
object_type (ctypes.Pointer p constant) c = refl
object_type (ctypes.Array p n constant) c = refl

no_array : (ty : CType) → IsNoArray (unnumbered ty) ≡ IsNoArray ty
no_array ctypes.Void = refl
no_array (ctypes.Int t) = refl
no_array ctypes.M128 = refl
no_array ctypes.M256 = refl
no_array (ctypes.Neon lane wide) = refl
no_array ctypes.Pair = refl
no_array (ctypes.Pointer p constant) = refl
no_array (ctypes.Array p n constant) = refl

same_first : (ty : CType) → first_type (unnumbered ty) ≡ first_type ty
same_first ctypes.Void = refl
same_first (ctypes.Int t) = refl
same_first ctypes.M128 = refl
same_first ctypes.M256 = refl
same_first (ctypes.Neon lane wide) = refl
same_first ctypes.Pair = refl
same_first (ctypes.Pointer p constant) = refl
same_first (ctypes.Array p n constant) = refl

same_const : (ty : CType) (c : Bool) → has_const (unnumbered ty) c ≡ has_const ty c
same_const ctypes.Void c = refl
same_const (ctypes.Int t) c = refl
same_const ctypes.M128 c = refl
same_const ctypes.M256 c = refl
same_const (ctypes.Neon lane wide) c = refl
same_const ctypes.Pair c = refl
same_const (ctypes.Pointer p constant) c = refl
same_const (ctypes.Array p n constant) c = refl

several : (all : Trees) → Several (stripped_all all) ≡ Several all
several NoTrees = refl
several (More a NoTrees) = refl
several (More a (More b rest)) = refl

-- An expression is good where what is left of it is.
mutual
  pub good_left : (e : Tree) → Good (stripped e) ≡ Good e
  good_left (Node p ty k) = good_kind k

  good_kind : (k : Kind) → Good (stripped_kind k) ≡ GoodKind k
  good_kind (Const n) = refl
  good_kind (Name x) = refl
  good_kind (Unary op a) = rw (good_left a) refl
  good_kind (Step a up before) = rw (good_left a) refl
  good_kind (Binary op a b) = rw (good_left a, good_left b) refl
  good_kind (AndThen a b) = rw (good_left a, good_left b) refl
  good_kind (OrElse a b) = rw (good_left a, good_left b) refl
  good_kind (Choice c a b) = rw (good_left c, good_left a, good_left b) refl
  good_kind (Assign op a b) = rw (good_left a, good_left b) refl
  good_kind (Comma all) = rw (several all, good_all all) refl
  good_kind (Cast ty a true) = rw (good_type ty, good_left a) refl
  good_kind (Cast ty a false) = good_left a
  good_kind (Index a b) = rw (good_left a, good_left b) refl
  good_kind (Deref a) = rw (good_left a) refl
  good_kind (Address a) = rw (good_left a) refl
  good_kind (Call f all) = rw (good_all all) refl
  good_kind (Half a k) = rw (good_left a) refl
  good_kind (PairOf a b) = rw (good_left a, good_left b) refl
  good_kind (SizeOfType ty) = refl
  good_kind (SizeOfName x) = refl
  good_kind (Str x) = refl

  good_all : (all : Trees) → GoodAll (stripped_all all) ≡ GoodAll all
  good_all NoTrees = refl
  good_all (More a rest) = rw (good_left a, good_all rest) refl

-- The same of what can be written.
mutual
  pub writable_left : (e : Tree) → Writable (stripped e) ≡ Writable e
  writable_left (Node p ty k) = writable_kind k

  writable_kind : (k : Kind) → Writable (stripped_kind k) ≡ WritableKind k
  writable_kind (Const n) = refl
  writable_kind (Name x) = refl
  writable_kind (Unary op a) = rw (writable_left a) refl
  writable_kind (Step a up before) = rw (writable_left a) refl
  writable_kind (Binary op a b) = rw (writable_left a, writable_left b) refl
  writable_kind (AndThen a b) = rw (writable_left a, writable_left b) refl
  writable_kind (OrElse a b) = rw (writable_left a, writable_left b) refl
  writable_kind (Choice c a b) = rw (writable_left c, writable_left a, writable_left b) refl
  writable_kind (Assign op a b) = rw (writable_left a, writable_left b) refl
  writable_kind (Comma all) = writable_all all
  writable_kind (Cast ty a true) = rw (writable_type ty, writable_left a) refl
  writable_kind (Cast ty a false) = writable_left a
  writable_kind (Index a b) = rw (writable_left a, writable_left b) refl
  writable_kind (Deref a) = rw (writable_left a) refl
  writable_kind (Address a) = rw (writable_left a) refl
  writable_kind (Call f all) = rw (writable_all all) refl
  writable_kind (Half a k) = rw (writable_left a) refl
  writable_kind (PairOf a b) = rw (writable_left a, writable_left b) refl
  writable_kind (SizeOfType ty) = refl
  writable_kind (SizeOfName x) = refl
  writable_kind (Str x) = refl

  writable_all : (all : Trees) → WritableAll (stripped_all all) ≡ WritableAll all
  writable_all NoTrees = refl
  writable_all (More a rest) = rw (writable_left a, writable_all rest) refl

pub good_same : (e : Tree) → Good (stripped e) → Good e
good_same e g = to (good_left e) g

pub good_stripped : (e : Tree) → Good e → Good (stripped e)
good_stripped e g = back (good_left e) g

-- an expression that is the same as a good one is good
pub same_good_expression : (e f : Tree) → stripped e ≡ stripped f → Good f → Good e
same_good_expression e f same g = good_same e (subst Good (sym same) (good_stripped f g))

-- Parts that may be left out.
good_part : (o : Option Tree) → GoodPart (option_map stripped o) ≡ GoodPart o
good_part None = refl
good_part (Some e) = good_left e

good_list : (o : Option Trees) → GoodList (option_map stripped_all o) ≡ GoodList o
good_list None = refl
good_list (Some NoTrees) = refl
good_list (Some (More a rest)) = rw (good_left a, good_all rest) refl

writable_part : (o : Option Tree) → WritablePart (option_map stripped o) ≡ WritablePart o
writable_part None = refl
writable_part (Some e) = writable_left e

writable_list : (o : Option Trees) → WritableList (option_map stripped_all o) ≡ WritableList o
writable_list None = refl
writable_list (Some all) = writable_all all

none_left : {A B : Type 0} (f : A → B) (o : Option A) → option_map f o ≡ None → o ≡ None
none_left f None e = refl
none_left f (Some x) e = absurd (cc)

none_kept : {A B : Type 0} (f : A → B) (o : Option A) → o ≡ None → option_map f o ≡ None
none_kept f o e = rw e refl

some_left : {A B : Type 0} (f : A → B) (o : Option A) → is_some (option_map f o) ≡ is_some o
some_left f None = refl
some_left f (Some x) = refl

value_left : (o : Object) → HasValue (stripped_object o) ≡ HasValue o
value_left o = rw (some_left stripped o.init, some_left stripped_all o.list) refl

block_left : (s : Statement) → IsBlock (stripped_statement s) ≡ IsBlock s
block_left (Declare os) = refl
block_left (Run e) = refl
block_left (Block all) = refl
block_left (If c b o) = refl
block_left (While c b) = refl
block_left (DoWhile b c) = refl
block_left (For i c n b) = refl
block_left (Break p) = refl
block_left (Continue p) = refl
block_left (Return p e) = refl
block_left Empty = refl

if_left : (s : Statement) → IsIf (stripped_statement s) ≡ IsIf s
if_left (Declare os) = refl
if_left (Run e) = refl
if_left (Block all) = refl
if_left (If c b o) = refl
if_left (While c b) = refl
if_left (DoWhile b c) = refl
if_left (For i c n b) = refl
if_left (Break p) = refl
if_left (Continue p) = refl
if_left (Return p e) = refl
if_left Empty = refl

-- From what is left to the whole.
shape_same : (ty : CType) (length init : Option Tree) (list : Option Trees) → HasShape (unnumbered ty) (option_map stripped length) (option_map stripped init) (option_map stripped_all list) → HasShape ty length init list
shape_same ctypes.Void length init list h = (none_left stripped length h.0, none_left stripped_all list h.1)
shape_same (ctypes.Int t) length init list h = (none_left stripped length h.0, none_left stripped_all list h.1)
shape_same ctypes.M128 length init list h = (none_left stripped length h.0, none_left stripped_all list h.1)
shape_same ctypes.M256 length init list h = (none_left stripped length h.0, none_left stripped_all list h.1)
shape_same (ctypes.Neon lane wide) length init list h = (none_left stripped length h.0, none_left stripped_all list h.1)
shape_same ctypes.Pair length init list h = (none_left stripped length h.0, none_left stripped_all list h.1)
shape_same (ctypes.Pointer p constant) length init list h = (none_left stripped length h.0, none_left stripped_all list h.1)
shape_same (ctypes.Array p n constant) None init None h = absurd h
shape_same (ctypes.Array p n constant) None init (Some all) h = none_left stripped init h
shape_same (ctypes.Array p n constant) (Some size) init list h = none_left stripped init h

pub good_object_same : (o : Object) → GoodObject (stripped_object o) → GoodObject o
good_object_same o g = record {
  named = g.named;
  typed = to (object_type o.ty o.constant) g.typed;
  shaped = shape_same o.ty o.length o.init o.list g.shaped;
  length = to (good_part o.length) g.length;
  align = to (good_part o.align) g.align;
  init = to (good_part o.init) g.init;
  list = to (good_list o.list) g.list;
}

others_same : (t u : CType) (c d : Bool) → t ≡ u → c ≡ d → (os : List Object) → GoodOthers t c (map stripped_object os) → GoodOthers u d os
others_same t u c d e f [] g = tt
others_same t u c d e f (o ∷ os) g = (good_object_same o g.0, sym (same_first o.ty) ∙ (g.1 ∙ e), sym (same_const o.ty o.constant) ∙ (g.2 ∙ f), others_same t u c d e f os g.3)

pub good_declaration_same : (os : List Object) → GoodDeclaration (map stripped_object os) → GoodDeclaration os
good_declaration_same [] g = absurd g
good_declaration_same (o ∷ os) g = (good_object_same o g.0, others_same (first_type (unnumbered o.ty)) (first_type o.ty) (has_const (unnumbered o.ty) o.constant) (has_const o.ty o.constant) (same_first o.ty) (same_const o.ty o.constant) os g.1)

good_parameter_same : (o : Object) → GoodParameter (stripped_object o) → GoodParameter o
good_parameter_same o g = record { good = good_object_same o g.good; no_array = to (no_array o.ty) g.no_array; no_align = none_left stripped o.align g.no_align; no_init = none_left stripped o.init g.no_init }

good_parameters_same : (os : List Object) → GoodParameters (map stripped_object os) → GoodParameters os
good_parameters_same [] g = tt
good_parameters_same (o ∷ os) g = (good_parameter_same o g.0, good_parameters_same os g.1)

good_start_same : (o : Optional) → GoodStart (stripped_optional o) → GoodStart o
good_start_same Absent g = tt
good_start_same (Present (Declare os)) g = good_declaration_same os g
good_start_same (Present (Run e)) g = to (good_left e) g
good_start_same (Present (Block all)) g = absurd g
good_start_same (Present (If c b o)) g = absurd g
good_start_same (Present (While c b)) g = absurd g
good_start_same (Present (DoWhile b c)) g = absurd g
good_start_same (Present (For i c n b)) g = absurd g
good_start_same (Present (Break p)) g = absurd g
good_start_same (Present (Continue p)) g = absurd g
good_start_same (Present (Return p e)) g = absurd g
good_start_same (Present Empty) g = absurd g

block_or_if_same : (s : Statement) → (IsBlock (stripped_statement s) ⊎ IsIf (stripped_statement s)) → (IsBlock s ⊎ IsIf s)
block_or_if_same s (inl h) = inl (to (block_left s) h)
block_or_if_same s (inr h) = inr (to (if_left s) h)

mutual
  pub good_statement_same : (s : Statement) → GoodStatement (stripped_statement s) → GoodStatement s
  good_statement_same (Declare os) g = good_declaration_same os g
  good_statement_same (Run e) g = to (good_left e) g
  good_statement_same (Block all) g = good_statements_same all g
  good_statement_same (If c b o) g = (to (good_left c) g.0, to (block_left b) g.1, good_statement_same b g.2, good_else_same o g.3)
  good_statement_same (While c b) g = (to (good_left c) g.0, to (block_left b) g.1, good_statement_same b g.2)
  good_statement_same (DoWhile b c) g = (to (block_left b) g.0, good_statement_same b g.1, to (good_left c) g.2)
  good_statement_same (For i c n b) g = (good_start_same i g.0, to (good_part c) g.1, to (good_part n) g.2, to (block_left b) g.3, good_statement_same b g.4)
  good_statement_same (Break p) g = tt
  good_statement_same (Continue p) g = tt
  good_statement_same (Return p e) g = to (good_part e) g
  good_statement_same Empty g = tt

  good_else_same : (o : Optional) → GoodElse (stripped_optional o) → GoodElse o
  good_else_same Absent g = tt
  good_else_same (Present b) g = (block_or_if_same b g.0, good_statement_same b g.1)

  pub good_statements_same : (all : Statements) → GoodStatements (stripped_statements all) → GoodStatements all
  good_statements_same NoStatements g = tt
  good_statements_same (Then b rest) g = (good_statement_same b g.0, good_statements_same rest g.1)

pub good_function_same : (f : Definition) → GoodFunction (stripped_definition f) → GoodFunction f
good_function_same f g = record {
  named = g.named;
  result = to (object_type f.result true) g.result;
  no_array = to (no_array f.result) g.no_array;
  params = good_parameters_same f.params g.params;
  body = good_statements_same f.body g.body;
}

pub good_item_same : (x : External) → GoodItem (stripped_external x) → GoodItem x
good_item_same (Function f) g = good_function_same f g
good_item_same (Table o is_static) g = (good_object_same o g.0, to (value_left o) g.1)

pub good_unit_same : (u : List External) → GoodUnit (map stripped_external u) → GoodUnit u
good_unit_same [] g = tt
good_unit_same (x ∷ xs) g = (good_item_same x g.0, good_unit_same xs g.1)

writable_object_same : (o : Object) → WritableObject (stripped_object o) → WritableObject o
writable_object_same o g = record {
  name = g.name;
  ty = to (writable_type o.ty) g.ty;
  length = to (writable_part o.length) g.length;
  align = to (writable_part o.align) g.align;
  init = to (writable_part o.init) g.init;
  list = to (writable_list o.list) g.list;
}

writable_objects_same : (os : List Object) → WritableObjects (map stripped_object os) → WritableObjects os
writable_objects_same [] g = tt
writable_objects_same (o ∷ os) g = (writable_object_same o g.0, writable_objects_same os g.1)

writable_parameters_same : (os : List Object) → WritableParameters (map stripped_object os) → WritableParameters os
writable_parameters_same [] g = tt
writable_parameters_same (o ∷ os) g = (record { object = writable_object_same o g.0.object; unsized = none_left stripped o.length g.0.unsized }, writable_parameters_same os g.1)

mutual
  pub writable_statement_same : (s : Statement) → WritableStatement (stripped_statement s) → WritableStatement s
  writable_statement_same (Declare os) g = writable_objects_same os g
  writable_statement_same (Run e) g = to (writable_left e) g
  writable_statement_same (Block all) g = writable_statements_same all g
  writable_statement_same (If c b o) g = (to (writable_left c) g.0, to (block_left b) g.1, writable_statement_same b g.2, writable_else_same o g.3)
  writable_statement_same (While c b) g = (to (writable_left c) g.0, to (block_left b) g.1, writable_statement_same b g.2)
  writable_statement_same (DoWhile b c) g = (to (block_left b) g.0, writable_statement_same b g.1, to (writable_left c) g.2)
  writable_statement_same (For i c n b) g = (writable_start_same i g.0, to (writable_part c) g.1, to (writable_part n) g.2, to (block_left b) g.3, writable_statement_same b g.4)
  writable_statement_same (Break p) g = tt
  writable_statement_same (Continue p) g = tt
  writable_statement_same (Return p e) g = to (writable_part e) g
  writable_statement_same Empty g = tt

  writable_else_same : (o : Optional) → WritableElse (stripped_optional o) → WritableElse o
  writable_else_same Absent g = tt
  writable_else_same (Present b) g = (block_or_if_same b g.0, writable_statement_same b g.1)

  writable_start_same : (o : Optional) → WritableStart (stripped_optional o) → WritableStart o
  writable_start_same Absent g = tt
  writable_start_same (Present b) g = writable_statement_same b g

  pub writable_statements_same : (all : Statements) → WritableStatements (stripped_statements all) → WritableStatements all
  writable_statements_same NoStatements g = tt
  writable_statements_same (Then b rest) g = (writable_statement_same b g.0, writable_statements_same rest g.1)

writable_function_same : (f : Definition) → WritableFunction (stripped_definition f) → WritableFunction f
writable_function_same f g = record {
  name = g.name;
  result = to (writable_type f.result) g.result;
  params = writable_parameters_same f.params g.params;
  body = writable_statements_same f.body g.body;
}

writable_item_same : (x : External) → WritableItem (stripped_external x) → WritableItem x
writable_item_same (Function f) g = writable_function_same f g
writable_item_same (Table o is_static) g = writable_object_same o g

pub writable_unit_same : (u : List External) → WritableUnit (map stripped_external u) → WritableUnit u
writable_unit_same [] g = tt
writable_unit_same (x ∷ xs) g = (writable_item_same x g.0, writable_unit_same xs g.1)

-- From the whole to what is left.
shape_stripped : (ty : CType) (length init : Option Tree) (list : Option Trees) → HasShape ty length init list → HasShape (unnumbered ty) (option_map stripped length) (option_map stripped init) (option_map stripped_all list)
shape_stripped ctypes.Void length init list h = (none_kept stripped length h.0, none_kept stripped_all list h.1)
shape_stripped (ctypes.Int t) length init list h = (none_kept stripped length h.0, none_kept stripped_all list h.1)
shape_stripped ctypes.M128 length init list h = (none_kept stripped length h.0, none_kept stripped_all list h.1)
shape_stripped ctypes.M256 length init list h = (none_kept stripped length h.0, none_kept stripped_all list h.1)
shape_stripped (ctypes.Neon lane wide) length init list h = (none_kept stripped length h.0, none_kept stripped_all list h.1)
shape_stripped ctypes.Pair length init list h = (none_kept stripped length h.0, none_kept stripped_all list h.1)
shape_stripped (ctypes.Pointer p constant) length init list h = (none_kept stripped length h.0, none_kept stripped_all list h.1)
shape_stripped (ctypes.Array p n constant) None init None h = absurd h
shape_stripped (ctypes.Array p n constant) None init (Some all) h = none_kept stripped init h
shape_stripped (ctypes.Array p n constant) (Some size) init list h = none_kept stripped init h

pub good_object_stripped : (o : Object) → GoodObject o → GoodObject (stripped_object o)
good_object_stripped o g = record {
  named = g.named;
  typed = back (object_type o.ty o.constant) g.typed;
  shaped = shape_stripped o.ty o.length o.init o.list g.shaped;
  length = back (good_part o.length) g.length;
  align = back (good_part o.align) g.align;
  init = back (good_part o.init) g.init;
  list = back (good_list o.list) g.list;
}

others_stripped : (t u : CType) (c d : Bool) → u ≡ t → d ≡ c → (os : List Object) → GoodOthers u d os → GoodOthers t c (map stripped_object os)
others_stripped t u c d e f [] g = tt
others_stripped t u c d e f (o ∷ os) g = (good_object_stripped o g.0, same_first o.ty ∙ (g.1 ∙ e), same_const o.ty o.constant ∙ (g.2 ∙ f), others_stripped t u c d e f os g.3)

pub good_declaration_stripped : (os : List Object) → GoodDeclaration os → GoodDeclaration (map stripped_object os)
good_declaration_stripped [] g = absurd g
good_declaration_stripped (o ∷ os) g = (good_object_stripped o g.0, others_stripped (first_type (unnumbered o.ty)) (first_type o.ty) (has_const (unnumbered o.ty) o.constant) (has_const o.ty o.constant) (sym (same_first o.ty)) (sym (same_const o.ty o.constant)) os g.1)

good_parameter_stripped : (o : Object) → GoodParameter o → GoodParameter (stripped_object o)
good_parameter_stripped o g = record { good = good_object_stripped o g.good; no_array = back (no_array o.ty) g.no_array; no_align = none_kept stripped o.align g.no_align; no_init = none_kept stripped o.init g.no_init }

good_parameters_stripped : (os : List Object) → GoodParameters os → GoodParameters (map stripped_object os)
good_parameters_stripped [] g = tt
good_parameters_stripped (o ∷ os) g = (good_parameter_stripped o g.0, good_parameters_stripped os g.1)

good_start_stripped : (o : Optional) → GoodStart o → GoodStart (stripped_optional o)
good_start_stripped Absent g = tt
good_start_stripped (Present (Declare os)) g = good_declaration_stripped os g
good_start_stripped (Present (Run e)) g = back (good_left e) g
good_start_stripped (Present (Block all)) g = absurd g
good_start_stripped (Present (If c b o)) g = absurd g
good_start_stripped (Present (While c b)) g = absurd g
good_start_stripped (Present (DoWhile b c)) g = absurd g
good_start_stripped (Present (For i c n b)) g = absurd g
good_start_stripped (Present (Break p)) g = absurd g
good_start_stripped (Present (Continue p)) g = absurd g
good_start_stripped (Present (Return p e)) g = absurd g
good_start_stripped (Present Empty) g = absurd g

block_or_if_stripped : (s : Statement) → (IsBlock s ⊎ IsIf s) → (IsBlock (stripped_statement s) ⊎ IsIf (stripped_statement s))
block_or_if_stripped s (inl h) = inl (back (block_left s) h)
block_or_if_stripped s (inr h) = inr (back (if_left s) h)

mutual
  pub good_statement_stripped : (s : Statement) → GoodStatement s → GoodStatement (stripped_statement s)
  good_statement_stripped (Declare os) g = good_declaration_stripped os g
  good_statement_stripped (Run e) g = back (good_left e) g
  good_statement_stripped (Block all) g = good_statements_stripped all g
  good_statement_stripped (If c b o) g = (back (good_left c) g.0, back (block_left b) g.1, good_statement_stripped b g.2, good_else_stripped o g.3)
  good_statement_stripped (While c b) g = (back (good_left c) g.0, back (block_left b) g.1, good_statement_stripped b g.2)
  good_statement_stripped (DoWhile b c) g = (back (block_left b) g.0, good_statement_stripped b g.1, back (good_left c) g.2)
  good_statement_stripped (For i c n b) g = (good_start_stripped i g.0, back (good_part c) g.1, back (good_part n) g.2, back (block_left b) g.3, good_statement_stripped b g.4)
  good_statement_stripped (Break p) g = tt
  good_statement_stripped (Continue p) g = tt
  good_statement_stripped (Return p e) g = back (good_part e) g
  good_statement_stripped Empty g = tt

  good_else_stripped : (o : Optional) → GoodElse o → GoodElse (stripped_optional o)
  good_else_stripped Absent g = tt
  good_else_stripped (Present b) g = (block_or_if_stripped b g.0, good_statement_stripped b g.1)

  pub good_statements_stripped : (all : Statements) → GoodStatements all → GoodStatements (stripped_statements all)
  good_statements_stripped NoStatements g = tt
  good_statements_stripped (Then b rest) g = (good_statement_stripped b g.0, good_statements_stripped rest g.1)

pub good_function_stripped : (f : Definition) → GoodFunction f → GoodFunction (stripped_definition f)
good_function_stripped f g = record {
  named = g.named;
  result = back (object_type f.result true) g.result;
  no_array = back (no_array f.result) g.no_array;
  params = good_parameters_stripped f.params g.params;
  body = good_statements_stripped f.body g.body;
}

pub good_item_stripped : (x : External) → GoodItem x → GoodItem (stripped_external x)
good_item_stripped (Function f) g = good_function_stripped f g
good_item_stripped (Table o is_static) g = (good_object_stripped o g.0, back (value_left o) g.1)

pub good_unit_stripped : (u : List External) → GoodUnit u → GoodUnit (map stripped_external u)
good_unit_stripped [] g = tt
good_unit_stripped (x ∷ xs) g = (good_item_stripped x g.0, good_unit_stripped xs g.1)

writable_object_stripped : (o : Object) → WritableObject o → WritableObject (stripped_object o)
writable_object_stripped o g = record {
  name = g.name;
  ty = back (writable_type o.ty) g.ty;
  length = back (writable_part o.length) g.length;
  align = back (writable_part o.align) g.align;
  init = back (writable_part o.init) g.init;
  list = back (writable_list o.list) g.list;
}

writable_objects_stripped : (os : List Object) → WritableObjects os → WritableObjects (map stripped_object os)
writable_objects_stripped [] g = tt
writable_objects_stripped (o ∷ os) g = (writable_object_stripped o g.0, writable_objects_stripped os g.1)

writable_parameters_stripped : (os : List Object) → WritableParameters os → WritableParameters (map stripped_object os)
writable_parameters_stripped [] g = tt
writable_parameters_stripped (o ∷ os) g = (record { object = writable_object_stripped o g.0.object; unsized = none_kept stripped o.length g.0.unsized }, writable_parameters_stripped os g.1)

mutual
  pub writable_statement_stripped : (s : Statement) → WritableStatement s → WritableStatement (stripped_statement s)
  writable_statement_stripped (Declare os) g = writable_objects_stripped os g
  writable_statement_stripped (Run e) g = back (writable_left e) g
  writable_statement_stripped (Block all) g = writable_statements_stripped all g
  writable_statement_stripped (If c b o) g = (back (writable_left c) g.0, back (block_left b) g.1, writable_statement_stripped b g.2, writable_else_stripped o g.3)
  writable_statement_stripped (While c b) g = (back (writable_left c) g.0, back (block_left b) g.1, writable_statement_stripped b g.2)
  writable_statement_stripped (DoWhile b c) g = (back (block_left b) g.0, writable_statement_stripped b g.1, back (writable_left c) g.2)
  writable_statement_stripped (For i c n b) g = (writable_start_stripped i g.0, back (writable_part c) g.1, back (writable_part n) g.2, back (block_left b) g.3, writable_statement_stripped b g.4)
  writable_statement_stripped (Break p) g = tt
  writable_statement_stripped (Continue p) g = tt
  writable_statement_stripped (Return p e) g = back (writable_part e) g
  writable_statement_stripped Empty g = tt

  writable_else_stripped : (o : Optional) → WritableElse o → WritableElse (stripped_optional o)
  writable_else_stripped Absent g = tt
  writable_else_stripped (Present b) g = (block_or_if_stripped b g.0, writable_statement_stripped b g.1)

  writable_start_stripped : (o : Optional) → WritableStart o → WritableStart (stripped_optional o)
  writable_start_stripped Absent g = tt
  writable_start_stripped (Present b) g = writable_statement_stripped b g

  pub writable_statements_stripped : (all : Statements) → WritableStatements all → WritableStatements (stripped_statements all)
  writable_statements_stripped NoStatements g = tt
  writable_statements_stripped (Then b rest) g = (writable_statement_stripped b g.0, writable_statements_stripped rest g.1)

writable_function_stripped : (f : Definition) → WritableFunction f → WritableFunction (stripped_definition f)
writable_function_stripped f g = record {
  name = g.name;
  result = back (writable_type f.result) g.result;
  params = writable_parameters_stripped f.params g.params;
  body = writable_statements_stripped f.body g.body;
}

writable_item_stripped : (x : External) → WritableItem x → WritableItem (stripped_external x)
writable_item_stripped (Function f) g = writable_function_stripped f g
writable_item_stripped (Table o is_static) g = writable_object_stripped o g

pub writable_unit_stripped : (u : List External) → WritableUnit u → WritableUnit (map stripped_external u)
writable_unit_stripped [] g = tt
writable_unit_stripped (x ∷ xs) g = (writable_item_stripped x g.0, writable_unit_stripped xs g.1)

-- an object that is the same as a good one is good
pub same_good_object : (x y : Object) → stripped_object x ≡ stripped_object y → GoodObject y → GoodObject x
same_good_object x y same g = good_object_same x (subst GoodObject (sym same) (good_object_stripped y g))

-- a statement that is the same as a good one is good
pub same_good_statement : (x y : Statement) → stripped_statement x ≡ stripped_statement y → GoodStatement y → GoodStatement x
same_good_statement x y same g = good_statement_same x (subst GoodStatement (sym same) (good_statement_stripped y g))

-- a function that is the same as a good one is good
pub same_good_function : (x y : Definition) → stripped_definition x ≡ stripped_definition y → GoodFunction y → GoodFunction x
same_good_function x y same g = good_function_same x (subst GoodFunction (sym same) (good_function_stripped y g))

-- a function or a table that is the same as a good one is good
pub same_good_item : (x y : External) → stripped_external x ≡ stripped_external y → GoodItem y → GoodItem x
same_good_item x y same g = good_item_same x (subst GoodItem (sym same) (good_item_stripped y g))

-- units that are the same
pub same_good_unit : (u v : List External) → Same u v → GoodUnit v → GoodUnit u
same_good_unit u v same g = good_unit_same u (subst GoodUnit (sym same) (good_unit_stripped v g))

pub same_writable_unit : (u v : List External) → Same u v → WritableUnit v → WritableUnit u
same_writable_unit u v same g = writable_unit_same u (subst WritableUnit (sym same) (writable_unit_stripped v g))
