-- The unit that is written is read again.
use Rattle.std.proofs.Common.{◌≡◌, ℕ, List, [], ◌∷◌, ◌++◌, Bool, true, false, ◌&&◌, ◌||◌, not, Option, Some, None, is_some, is_none, refl, sym, subst, map}
use Rattle.std.proofs.lemmas.Slice.Eq.{bytes_eq-Decides}
use Rattle.c_text.specs.declared.tokens.Dialect.TheVariants.{X86, Neon}
use Rattle.c_text.specs.Forms.{is_name}
use Rattle.c_tree.specs.declared.types.CType.{CType}
use Rattle.c_tree.specs.declared.types.CType.TheVariants as ctypes
use Rattle.c_tree.specs.Tree.{Tree, Kind, Trees, Node, Const, Name, Unary, Step, Binary, AndThen, OrElse, Choice, Assign, Comma, Cast, Index, Deref, Address, Call, Half, PairOf, SizeOfType, SizeOfName, Str, NoTrees, More}
use Rattle.c_tree.specs.Tree.{Object, Statement, Statements, Declare, Run, Block, If, While, DoWhile, For, Break, Continue, Return, Empty, NoStatements, Then, Definition, External, Function, Table}
use Rattle.c_parse.specs.declared.symbols.Symbol.{Symbol}
use Rattle.c_parse.specs.declared.symbols.Symbol.TheVariants as symbols
use Rattle.c_parse.specs.Symbols.{name_symbol}
use Rattle.simd_top.specs.declared.rows.FormRow.{FormRow}
use Rattle.simd_top.specs.declared.rows.FormRow.TheVariants.{AddEpi8, SubEpi8, AvgEpu8, MinEpu8, XorSi128}
use Rattle.object_types.specs.Reserved.{is_reserved}
use Rattle.vector_types.specs.Rows.{is_neon_row}
use Rattle.scopes.specs.Scopes.{same_name}
use Rattle.round_trip.specs.Good.{GoodName, Good, GoodKind, GoodAll}
use Rattle.round_trip.specs.GoodUnits.{GoodObjectType, GoodPart, GoodList, HasShape, IsNoArray, GoodParameter, GoodParameters, GoodStatement, GoodStatements, GoodFunction, GoodItem, GoodUnit}
use Rattle.simd_top.specs.Rows.{intel_row}
use Rattle.simd_top.specs.Form.{is_in, is_plain_name, is_free, is_expression, is_kind, are_expressions, are_two, is_register, is_plain, is_parameter, are_parameters, names_of, returns, returns_option, is_body, has_one, is_heading, is_function, is_item, item_name, first_outside}
use Rattle.simd_top.specs.Written.{moved_type, moved_call, moved_tree, moved_kind, moved_trees, moved_object, moved_statement, moved_statements, moved_function, moved_item, moved_unit}
use Rattle.simd_top.proofs.Conjunction.{split_and}
use Rattle.simd_top.proofs.FreeNames.{no_neon_macro}
use Rattle.simd_top.proofs.Headings.{item_passes}

plain_is : (s : Symbol) → is_plain_name s ≡ true → s ≡ symbols.Name
plain_is symbols.Name h = refl
plain_is (symbols.Sign s) h = absurd (cc)
plain_is (symbols.Infix s) h = absurd (cc)
plain_is (symbols.Assign s) h = absurd (cc)
plain_is (symbols.Step s) h = absurd (cc)
plain_is symbols.Tilde h = absurd (cc)
plain_is symbols.Exclamation h = absurd (cc)
plain_is (symbols.Type s) h = absurd (cc)
plain_is symbols.Const h = absurd (cc)
plain_is symbols.Restrict h = absurd (cc)
plain_is (symbols.Word s) h = absurd (cc)
plain_is symbols.Constant h = absurd (cc)
plain_is symbols.Other h = absurd (cc)

good_name : (x : List ℕ) → is_free x ≡ true → GoodName x
good_name x h =
    let a = split_and (is_name x && is_plain_name (name_symbol Neon x)) (not (is_reserved X86 (is_neon_row x) x)) h in
    let b = split_and (is_name x) (is_plain_name (name_symbol Neon x)) a.0 in
    record { named = b.0; free = plain_is (name_symbol Neon x) b.1; no_macro = no_neon_macro x h }

abbrev AllGood : List (List ℕ) → Type 0
AllGood [] = Unit {0}
AllGood (x ∷ xs) = GoodName x × AllGood xs

good_among : (names : List (List ℕ)) (x : List ℕ) → AllGood names → is_in names x ≡ true → GoodName x
good_among [] x h e = absurd (cc)
good_among (y ∷ ys) x h e = go (same_name x y) refl (λ k. good_among ys x h.1 k) e
  where
    go : (v : Bool) → same_name x y ≡ v → (is_in ys x ≡ true → GoodName x) → (v || is_in ys x) ≡ true → GoodName x
    go true s rest e = subst GoodName (sym ((bytes_eq-Decides x y).0 s)) h.0
    go false s rest e = rest e

good_call : (f : List ℕ) (o : Option FormRow) → is_some o ≡ true → GoodName (moved_call f o)
good_call f None h = absurd (cc)
good_call f (Some AddEpi8) h = record { named = refl; free = refl; no_macro = refl }
good_call f (Some SubEpi8) h = record { named = refl; free = refl; no_macro = refl }
good_call f (Some AvgEpu8) h = record { named = refl; free = refl; no_macro = refl }
good_call f (Some MinEpu8) h = record { named = refl; free = refl; no_macro = refl }
good_call f (Some XorSi128) h = record { named = refl; free = refl; no_macro = refl }

mutual
  good_tree : (names : List (List ℕ)) (t : Tree) → AllGood names → is_expression names t ≡ true → Good (moved_tree t)
  good_tree names (Node p ty k) h e = good_kind names k h e

  good_kind : (names : List (List ℕ)) (k : Kind) → AllGood names → is_kind names k ≡ true → GoodKind (moved_kind k)
  good_kind names (Name x) h e = good_among names x h e
  good_kind names (Call f operands) h e = (
    good_call f (intel_row f) (split_and (is_some (intel_row f)) (are_two operands) (split_and (is_some (intel_row f) && are_two operands) (are_expressions names operands) e).0).0,
    good_trees names operands h (split_and (is_some (intel_row f) && are_two operands) (are_expressions names operands) e).1,
  )
  good_kind names (Const n) h e = absurd (cc)
  good_kind names (Unary o a) h e = absurd (cc)
  good_kind names (Step a u b) h e = absurd (cc)
  good_kind names (Binary o a b) h e = absurd (cc)
  good_kind names (AndThen a b) h e = absurd (cc)
  good_kind names (OrElse a b) h e = absurd (cc)
  good_kind names (Choice c a b) h e = absurd (cc)
  good_kind names (Assign o a b) h e = absurd (cc)
  good_kind names (Comma all) h e = absurd (cc)
  good_kind names (Cast t a w) h e = absurd (cc)
  good_kind names (Index a b) h e = absurd (cc)
  good_kind names (Deref a) h e = absurd (cc)
  good_kind names (Address a) h e = absurd (cc)
  good_kind names (Half a n) h e = absurd (cc)
  good_kind names (PairOf a b) h e = absurd (cc)
  good_kind names (SizeOfType t) h e = absurd (cc)
  good_kind names (SizeOfName x) h e = absurd (cc)
  good_kind names (Str x) h e = absurd (cc)

  good_trees : (names : List (List ℕ)) (all : Trees) → AllGood names → are_expressions names all ≡ true → GoodAll (moved_trees all)
  good_trees names NoTrees h e = tt
  good_trees names (More a rest) h e =
      (good_tree names a h (split_and (is_expression names a) (are_expressions names rest) e).0, good_trees names rest h (split_and (is_expression names a) (are_expressions names rest) e).1)

good_type : (ty : CType) (constant : Bool) → is_register ty ≡ true → GoodObjectType (moved_type ty) constant
good_type ctypes.M128 c h = tt
good_type ctypes.Void c h = absurd (cc)
good_type (ctypes.Int t) c h = absurd (cc)
good_type ctypes.M256 c h = absurd (cc)
good_type (ctypes.Neon l w) c h = absurd (cc)
good_type ctypes.Pair c h = absurd (cc)
good_type (ctypes.Pointer p b) c h = absurd (cc)
good_type (ctypes.Array p n b) c h = absurd (cc)

no_array : (ty : CType) → is_register ty ≡ true → IsNoArray (moved_type ty)
no_array ctypes.M128 h = tt
no_array ctypes.Void h = absurd (cc)
no_array (ctypes.Int t) h = absurd (cc)
no_array ctypes.M256 h = absurd (cc)
no_array (ctypes.Neon l w) h = absurd (cc)
no_array ctypes.Pair h = absurd (cc)
no_array (ctypes.Pointer p b) h = absurd (cc)
no_array (ctypes.Array p n b) h = absurd (cc)

shape : (ty : CType) (length init : Option Tree) (list : Option Trees) → is_register ty ≡ true → length ≡ None → list ≡ None → HasShape (moved_type ty) length init list
shape ctypes.M128 length init list h a b = (a, b)
shape ctypes.Void length init list h a b = absurd (cc)
shape (ctypes.Int t) length init list h a b = absurd (cc)
shape ctypes.M256 length init list h a b = absurd (cc)
shape (ctypes.Neon l w) length init list h a b = absurd (cc)
shape ctypes.Pair length init list h a b = absurd (cc)
shape (ctypes.Pointer p q) length init list h a b = absurd (cc)
shape (ctypes.Array p n q) length init list h a b = absurd (cc)

pub none_is : {A : Type 0} (o : Option A) → is_none o ≡ true → o ≡ None
none_is None h = refl
none_is (Some x) h = absurd (cc)

no_part : (o : Option Tree) → o ≡ None → GoodPart o
no_part o h = subst GoodPart (sym h) tt

no_list : (o : Option Trees) → o ≡ None → GoodList o
no_list o h = subst GoodList (sym h) tt

good_parameter : (o : Object) → is_plain o ≡ true → GoodName o.name → GoodParameter (moved_object o)
good_parameter o h n =
    let a = split_and (is_register o.ty && not o.constant && is_none o.length && is_none o.align && is_none o.init) (is_none o.list) h in
    let b = split_and (is_register o.ty && not o.constant && is_none o.length && is_none o.align) (is_none o.init) a.0 in
    let c = split_and (is_register o.ty && not o.constant && is_none o.length) (is_none o.align) b.0 in
    let d = split_and (is_register o.ty && not o.constant) (is_none o.length) c.0 in
    let e = split_and (is_register o.ty) (not o.constant) d.0 in
    record {
      good = record {
        named = n;
        typed = good_type o.ty o.constant e.0;
        shaped = shape o.ty o.length o.init o.list e.0 (none_is o.length d.1) (none_is o.list a.1);
        length = no_part o.length (none_is o.length d.1);
        align = no_part o.align (none_is o.align c.1);
        init = no_part o.init (none_is o.init b.1);
        list = no_list o.list (none_is o.list a.1);
      };
      no_array = no_array o.ty e.0;
      no_align = none_is o.align c.1;
      no_init = none_is o.init b.1;
    }

good_parameters : (seen : List (List ℕ)) (os : List Object) → are_parameters seen os ≡ true → GoodParameters (map moved_object os) × AllGood (names_of os)
good_parameters seen [] e = (tt, tt)
good_parameters seen (o ∷ os) e =
    let a = split_and (is_parameter seen o) (are_parameters (seen ++ o.name ∷ []) os) e in
    let b = split_and (is_plain o && is_free o.name) (not (is_in seen o.name)) a.0 in
    let c = split_and (is_plain o) (is_free o.name) b.0 in
    let n = good_name o.name c.1 in
    let rest = good_parameters (seen ++ o.name ∷ []) os a.1 in
    ((good_parameter o c.0 n, rest.0), (n, rest.1))

good_returned : (names : List (List ℕ)) (e : Option Tree) (p : _) → AllGood names → returns_option names e ≡ true → GoodStatement (moved_statement (Return p e))
good_returned names None p h e = absurd (cc)
good_returned names (Some t) p h e = good_tree names t h e

good_return : (names : List (List ℕ)) (s : Statement) → AllGood names → returns names s ≡ true → GoodStatement (moved_statement s)
good_return names (Return p e) h t = good_returned names e p h t
good_return names (Declare os) h t = absurd (cc)
good_return names (Run e) h t = absurd (cc)
good_return names (Block all) h t = absurd (cc)
good_return names (If c s o) h t = absurd (cc)
good_return names (While c s) h t = absurd (cc)
good_return names (DoWhile s c) h t = absurd (cc)
good_return names (For i c n s) h t = absurd (cc)
good_return names (Break p) h t = absurd (cc)
good_return names (Continue p) h t = absurd (cc)
good_return names Empty h t = absurd (cc)

good_body : (names : List (List ℕ)) (b : Statements) → AllGood names → is_body names b ≡ true → GoodStatements (moved_statements b)
good_body names NoStatements h t = absurd (cc)
good_body names (Then s NoStatements) h t = (good_return names s h (split_and (returns names s) true t).0, tt)
good_body names (Then s (Then r rest)) h t = let n = (split_and (returns names s) false t).1 in absurd (cc)

good_function : (f : Definition) → is_function f ≡ true → GoodFunction (moved_function f)
good_function f h =
    let a = split_and (are_parameters [] f.params && is_heading f) (is_body (names_of f.params) f.body) h in
    let b = split_and (are_parameters [] f.params) (is_heading f) a.0 in
    let c = split_and (is_register f.result && not f.is_static && not f.is_inline && is_free f.name) (has_one f.params) b.1 in
    let d = split_and (is_register f.result && not f.is_static && not f.is_inline) (is_free f.name) c.0 in
    let e = split_and (is_register f.result && not f.is_static) (not f.is_inline) d.0 in
    let r = split_and (is_register f.result) (not f.is_static) e.0 in
    let ps = good_parameters [] f.params b.0 in
    record {
      named = good_name f.name d.1;
      result = good_type f.result true r.0;
      no_array = no_array f.result r.0;
      params = ps.0;
      body = good_body (names_of f.params) f.body ps.1 a.1;
    }

good_item : (seen : List (List ℕ)) (x : External) → is_item seen x ≡ true → GoodItem (moved_item x)
good_item seen (Function f) h = good_function f (split_and (is_function f) (not (is_in seen f.name)) h).0
good_item seen (Table o s) h = absurd (cc)

pub good_unit : (seen : List (List ℕ)) (u : List External) → first_outside seen u ≡ None → GoodUnit (moved_unit u)
good_unit seen [] h = tt
good_unit seen (x ∷ xs) h = let a = item_passes seen x xs h in (good_item seen x a.0, good_unit (seen ++ item_name x ∷ []) xs a.1)
