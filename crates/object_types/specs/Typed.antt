-- What it is that a declared object is another one with its types set (C11 6.7 and the profile).
use Rattle.std.specs.Prelude.{◌≡◌, ℕ, ◌^◌, ◌≤◌, ◌⊎◌, Bool, true, false, List, Option, Some, None, ℤ, pos}
use Rattle.lane_core.specs.declared.number.IntType.{IntType}
use Rattle.lane_core.specs.declared.number.Num.{Num}
use Rattle.lane_core.specs.declared.vector.Pointee.{Pointee}
use Rattle.lane_core.specs.declared.vector.Pointee.TheVariants as target
use Rattle.const_imm.specs.Constant.{value_of}
use Rattle.const_imm.specs.Sizes.{size_of}
use Rattle.c_tree.specs.declared.types.CType.{CType}
use Rattle.c_tree.specs.declared.types.CType.TheVariants.{Void, Int, Array}
use Rattle.c_tree.specs.Tree.{Tree, Trees, NoTrees, More, Object}
use Rattle.type_rules.specs.Types.{read_type}
use Rattle.type_rules.specs.Rules.{IsObject, Assigned}
use Rattle.scopes.specs.Scopes.{Env, named}
use Rattle.expression_types.specs.Typed.{IsArray, IsVoidPointer, Typed}
use Rattle.object_types.specs.Reserved.{is_reserved}
use Rattle.object_types.specs.Objects.{count_all, behind_declarator}

-- the type of an object (6.2.5p1): neither `void` (6.2.5p19) nor an array of it (6.2.5p20)
abbrev pub IsObjectType : CType → Type 0
IsObjectType Void = ⊥
IsObjectType (Array e n c) = IsObject e
IsObjectType t = Unit {0}

-- an array type whose number of elements isn't known yet (6.2.5p22), and is 0 in the tree
abbrev pub IsOpen : CType → Type 0
IsOpen (Array e n c) = n ≡ 0
IsOpen t = ⊥

-- at most 65,536 bytes, which is this project's limit
abbrev pub IsSmall : CType → Type 0
IsSmall t = (n : ℕ) × (size_of t ≡ Some n) × (n ≤ 65536)

-- a power of two up to 64 (6.2.8p4; the bound is this project's)
abbrev pub IsAlignmentValue : ℤ → Type 0
IsAlignmentValue z = (k : ℕ) × (k ≤ 6) × (z ≡ pos (2 ^ k))

-- A name may be declared for an object of a type: no other object of the same scope has it (6.7p3), it isn't reserved, and the type is an
-- object's and no pointer to `void`.
pub record MayDeclare (env : Env) (x : List ℕ) (t : CType) : Type 0 where
  pub unreserved : is_reserved env.dialect (env.neon x) x ≡ false
  pub undeclared : named x env.innermost ≡ None
  pub object : IsObjectType t
  pub admitted : IsVoidPointer t → ⊥

-- an array's length is a constant expression whose value is at least 1 (6.7.6.2p1; 6.6)
pub data TypedLength (env : Env) : Option Tree → Option Tree → Option ℕ → Type 0 where
  unwritten : TypedLength env None None None
  written : (a a' : Tree) (m : Num) (n : ℕ) → Typed env a a' → value_of a' ≡ Some m → m.value ≡ pos n → 1 ≤ n → TypedLength env (Some a) (Some a') (Some n)

-- The type that a declarator gives: an array's number of elements is that of its length, and isn't known yet where none is written
-- (6.7.6.2p3, p4). Any other type stays as it is; the grammar writes no length with it.
pub data DeclaredType : CType → Option ℕ → CType → Type 0 where
  array : (e : Pointee) (m : ℕ) (c : Bool) (n : ℕ) → DeclaredType (Array e m c) (Some n) (Array e n c)
  open_array : (e : Pointee) (m : ℕ) (c : Bool) → DeclaredType (Array e m c) None (Array e 0 c)
  no_array : (t : CType) (n : Option ℕ) → (IsArray t → ⊥) → DeclaredType t n t

-- an alignment is a constant expression whose value is a power of two (6.7.5p3)
pub data PowerOfTwo (env : Env) : Tree → Tree → Type 0 where
  power_of_two : (a a' : Tree) (n : Num) → Typed env a a' → value_of a' ≡ Some n → IsAlignmentValue n.value → PowerOfTwo env a a'

-- It sees the declared name where it stands behind the declarator, and among the specifiers what was in scope before (6.2.1p7).
pub data TypedAlignment (before behind : Env) : Bool → Option Tree → Option Tree → Type 0 where
  unwritten : (first : Bool) → TypedAlignment before behind first None None
  among_specifiers : (a a' : Tree) → PowerOfTwo before a a' → TypedAlignment before behind true (Some a) (Some a')
  behind_name : (a a' : Tree) → PowerOfTwo behind a a' → TypedAlignment before behind false (Some a) (Some a')

-- members of an initialiser, each an integer constant expression that is given to an element of this type (6.7.9p4, p11, p17)
pub data TypedMember (env : Env) (s : IntType) : Tree → Tree → Type 0 where
  member : (a a' b : Tree) (n : Num) → Typed env a a' → value_of a' ≡ Some n → Assigned a' (Int s) b → TypedMember env s a b

pub data TypedMembers (env : Env) (s : IntType) : Trees → Trees → Type 0 where
  none : TypedMembers env s NoTrees NoTrees
  more : (a b : Tree) (all rest : Trees) → TypedMember env s a b → TypedMembers env s all rest → TypedMembers env s (More a all) (More b rest)

-- What an object of a type begins with, and its type then: an object that begins with nothing has a type that is complete (6.7p7); a value
-- is given to it by the rule of assignment (6.7.9p11); an array of integers has at least one member, none is past its length (6.7.9p2), and
-- they give the number of elements where no length is written (6.7.9p22).
pub data Begins (env : Env) : CType → Option Tree → Option Trees → Option Tree → Option Trees → CType → Type 0 where
  nothing : (t : CType) → (IsOpen t → ⊥) → Begins env t None None None None t
  value : (t : CType) (a a' b : Tree) → Typed env a a' → Assigned a' t b → Begins env t (Some a) None (Some b) None t
  members : (s : IntType) (n : ℕ) (c : Bool) (all rest : Trees) → TypedMembers env s all rest → 1 ≤ count_all all → count_all all ≤ n →
      Begins env (Array (target.Int s) n c) None (Some all) None (Some rest) (Array (target.Int s) n c)
  members_of_open : (s : IntType) (c : Bool) (all rest : Trees) → TypedMembers env s all rest → 1 ≤ count_all all → IsSmall (Array (target.Int s) (count_all all) c) →
      Begins env (Array (target.Int s) 0 c) None (Some all) None (Some rest) (Array (target.Int s) (count_all all) c)

-- A declared object. The length stands in its declarator, before the name's scope begins; what the object begins with stands in that
-- scope (6.2.1p7), where the name has the type that the declarator gives.
pub data TypedObject (env : Env) : Object → Object → Type 0 where
  declared : (d : Object) (length : Option Tree) (n : Option ℕ) (t u : CType) (align init : Option Tree) (list : Option Trees) →
      MayDeclare env d.name (read_type env.dialect d.ty) → TypedLength env d.length length n → DeclaredType (read_type env.dialect d.ty) n t → IsOpen t ⊎ IsSmall t →
      TypedAlignment env (behind_declarator d.name d.constant t env) d.align_first d.align align → Begins (behind_declarator d.name d.constant t env) t d.init d.list init list u →
      TypedObject env d (record { place = d.place; name = d.name; ty = u; length = length; constant = d.constant; align = align; align_first = d.align_first; init = init; list = list })
