-- What it is that an expression is another one with its types set and each conversion a cast (C11 6.5 and the profile).
use Rattle.std.specs.Prelude.{◌≡◌, ℕ, ◌<◌, Bool, true, false, List, Option, Some, None}
use Rattle.c_text.specs.declared.tokens.Place.{Place}
use Rattle.lane_core.specs.declared.number.Num.{Num}
use Rattle.lane_core.specs.declared.number.IntType.{IntType}
use Rattle.lane_core.specs.declared.number.BinOp.{BinOp}
use Rattle.lane_core.specs.declared.number.UnOp.{UnOp}
use Rattle.lane_core.specs.declared.number.IntType.TheVariants as i
use Rattle.lane_core.specs.declared.vector.Pointee.{Pointee}
use Rattle.lane_core.specs.declared.vector.Pointee.TheVariants as target
use Rattle.lane_core.specs.declared.table.ImmRange.{ImmRange}
use Rattle.lane_core.specs.declared.table.ImmRange.TheVariants.{NoImmediate}
use Rattle.const_imm.specs.Constant.{value_of}
use Rattle.const_imm.specs.Sizes.{size_of}
use Rattle.c_tree.specs.declared.types.CType.{CType}
use Rattle.c_tree.specs.declared.types.CType.TheVariants.{Int, Pointer, Array}
use Rattle.c_tree.specs.Tree as tree
use Rattle.c_tree.specs.Tree.{Tree, Kind, Trees, Node, NoTrees, More}
use Rattle.c_tree.specs.Nodes.{node_type}
use Rattle.type_rules.specs.Types.{read_type}
use Rattle.type_rules.specs.Passing.{immediate_of, is_in_range}
use Rattle.type_rules.specs.Rules.{HasInteger, HasPointer, IsObjectOf, Results, Passed}
use Rattle.scopes.specs.declared.environment.Object.{Object}
use Rattle.scopes.specs.Scopes.{Env, Callee, Row, named, object_named}
use Rattle.expression_types.specs.Names.{is_unknown_intrinsic}
use Rattle.expression_types.specs.Check.{read_number}

-- the expression, which has its types, designates an object that is const or not (6.3.2.1p1, 6.5.2.1, 6.5.3.2p4)
pub data Designates (env : Env) : Tree → Bool → Type 0 where
  variable : (p : Place) (t : CType) (x : List ℕ) (o : Object) → object_named x env ≡ Some o → Designates env (Node p t (tree.Name x)) o.constant
  element : (p : Place) (t : CType) (a b : Tree) (e : Pointee) (c : Bool) (s : IntType) → HasPointer a e c → HasInteger b s → Designates env (Node p t (tree.Index a b)) c
  element_by_left : (p : Place) (t : CType) (a b : Tree) (e : Pointee) (c : Bool) (s : IntType) → HasInteger a s → HasPointer b e c → Designates env (Node p t (tree.Index a b)) c
  pointed : (p : Place) (t : CType) (a : Tree) (e : Pointee) (c : Bool) → HasPointer a e c → Designates env (Node p t (tree.Deref a)) c
  half : (p : Place) (t : CType) (a : Tree) (k : ℕ) (c : Bool) → Designates env a c → Designates env (Node p t (tree.Half a k)) c

-- an array type, and a pointer to void
abbrev pub IsArray : CType → Type 0
IsArray (Array e n c) = Unit {0}
IsArray t = ⊥

abbrev pub IsVoidPointer : CType → Type 0
IsVoidPointer (Pointer target.Void c) = Unit {0}
IsVoidPointer t = ⊥

-- an immediate has a constant value in the row's range
pub data Immediate (range : ImmRange) : Option Tree → Type 0 where
  no_immediate : Immediate range None
  immediate : (a : Tree) (n : Num) → value_of a ≡ Some n → is_in_range range n.value ≡ true → Immediate range (Some a)

mutual
  pub data Typed (env : Env) : Tree → Tree → Type 0 where
    -- constants (6.4.4) and names of objects (6.5.1p2); an array's name becomes a pointer to its first element (6.3.2.1p3)
    constant : (p : Place) (t : CType) (n : Num) → Typed env (Node p t (tree.Const n)) (Node p (Int (read_number env.dialect n).ty) (tree.Const (read_number env.dialect n)))
    object : (p : Place) (t : CType) (x : List ℕ) (o : Object) → object_named x env ≡ Some o → (IsArray o.ty → ⊥) → Typed env (Node p t (tree.Name x)) (Node p o.ty (tree.Name x))
    array : (p : Place) (t : CType) (x : List ℕ) (o : Object) (e : Pointee) (n : ℕ) (c : Bool) → object_named x env ≡ Some o → o.ty ≡ Array e n c →
        Typed env (Node p t (tree.Name x)) (Node p (Pointer e c) (tree.Cast (Pointer e c) (Node p (Array e n c) (tree.Name x)) false))
    -- operators, by the rules of 6.5
    unary : (p : Place) (t : CType) (o : UnOp) (a a' v : Tree) → Typed env a a' → Results p (tree.Unary o a') v → Typed env (Node p t (tree.Unary o a)) v
    binary : (p : Place) (t : CType) (o : BinOp) (a a' b b' v : Tree) → Typed env a a' → Typed env b b' → Results p (tree.Binary o a' b') v → Typed env (Node p t (tree.Binary o a b)) v
    conjunction : (p : Place) (t : CType) (a a' b b' v : Tree) → Typed env a a' → Typed env b b' → Results p (tree.AndThen a' b') v → Typed env (Node p t (tree.AndThen a b)) v
    disjunction : (p : Place) (t : CType) (a a' b b' v : Tree) → Typed env a a' → Typed env b b' → Results p (tree.OrElse a' b') v → Typed env (Node p t (tree.OrElse a b)) v
    choice : (p : Place) (t : CType) (c c' a a' b b' v : Tree) → Typed env c c' → Typed env a a' → Typed env b b' → Results p (tree.Choice c' a' b') v → Typed env (Node p t (tree.Choice c a b)) v
    sequence : (p : Place) (t : CType) (all all' : Trees) (v : Tree) → TypedAll env all all' → Results p (tree.Comma all') v → Typed env (Node p t (tree.Comma all)) v
    index : (p : Place) (t : CType) (a a' b b' v : Tree) → Typed env a a' → Typed env b b' → Results p (tree.Index a' b') v → Typed env (Node p t (tree.Index a b)) v
    dereference : (p : Place) (t : CType) (a a' v : Tree) → Typed env a a' → Results p (tree.Deref a') v → Typed env (Node p t (tree.Deref a)) v
    half_of : (p : Place) (t : CType) (a a' v : Tree) (k : ℕ) → Typed env a a' → Results p (tree.Half a' k) v → Typed env (Node p t (tree.Half a k)) v
    pair : (p : Place) (t : CType) (a a' b b' v : Tree) → Typed env a a' → Typed env b b' → Results p (tree.PairOf a' b') v → Typed env (Node p t (tree.PairOf a b)) v
    -- what is written is an object that isn't const (6.5.2.4p1, 6.5.3.1p1, 6.5.16p2)
    step : (p : Place) (t : CType) (a a' v : Tree) (up before : Bool) → Typed env a a' → Designates env a' false → Results p (tree.Step a' up before) v → Typed env (Node p t (tree.Step a up before)) v
    assign : (p : Place) (t : CType) (o : Option BinOp) (a a' b b' v : Tree) → Typed env a a' → Typed env b b' → Designates env a' false → Results p (tree.Assign o a' b') v → Typed env (Node p t (tree.Assign o a b)) v
    -- the address of an object of an integer type or of an x86 vector type, which is that of an object in memory (6.5.3.2p1, p3)
    address : (p : Place) (t : CType) (a a' : Tree) (c : Bool) (e : Pointee) → Typed env a a' → Designates env a' c → IsObjectOf e (node_type a') →
        Typed env (Node p t (tree.Address a)) (Node p (Pointer e c) (tree.Address a'))
    -- a written cast, to the type as the dialect reads it (6.5.4), and no pointer to void; a cast that isn't written is passed over
    cast : (p : Place) (t u : CType) (a a' v : Tree) → Typed env a a' → Results p (tree.Cast (read_type env.dialect u) a' true) v → (IsVoidPointer u → ⊥) → Typed env (Node p t (tree.Cast u a true)) v
    through : (p : Place) (t u : CType) (a a' : Tree) → Typed env a a' → Typed env (Node p t (tree.Cast u a false)) a'
    -- sizes (6.5.3.4)
    size : (p : Place) (t u : CType) (v : Tree) → Results p (tree.SizeOfType (read_type env.dialect u)) v → (IsVoidPointer u → ⊥) → Typed env (Node p t (tree.SizeOfType u)) v
    size_of_object : (p : Place) (t : CType) (x : List ℕ) (o : Object) (n : ℕ) → object_named x env ≡ Some o → size_of o.ty ≡ Some n →
        Typed env (Node p t (tree.SizeOfName x)) (Node p (Int i.ULong) (tree.SizeOfName x))
    -- calls (6.5.2.2) of functions of the unit that stand before, where the profile has them, and of rows of the table
    call_of_function : (p : Place) (t : CType) (f : List ℕ) (c : Callee) (all all' args : Trees) → is_unknown_intrinsic f env ≡ false → object_named f env ≡ None → named f env.functions ≡ Some c →
        c.order < env.here → env.calls_none ≡ false → TypedAll env all all' → Passed c.heading.params all' args → Immediate NoImmediate (immediate_of c.heading.params args) → Typed env (Node p t (tree.Call f all)) (Node p c.heading.result (tree.Call f args))
    call_of_row : (p : Place) (t : CType) (f : List ℕ) (r : Row) (all all' args : Trees) → is_unknown_intrinsic f env ≡ false → object_named f env ≡ None → named f env.functions ≡ None → env.rows f ≡ Some r →
        TypedAll env all all' → Passed r.heading.params all' args → Immediate r.range (immediate_of r.heading.params args) → Typed env (Node p t (tree.Call f all)) (Node p r.heading.result (tree.Call f args))

  pub data TypedAll (env : Env) : Trees → Trees → Type 0 where
    none : TypedAll env NoTrees NoTrees
    more : (a a' : Tree) (all all' : Trees) → Typed env a a' → TypedAll env all all' → TypedAll env (More a all) (More a' all')
