-- Tests of types and what they say.
use Rattle.std.proofs.Common.{◌≡◌, ◌∙◌, Bool, true, false, ◌&&◌, ◌||◌, ◌⊎◌, inl, inr, Some, refl, ap, subst}
use Rattle.std.proofs.lemmas.Bool.{eq-eqb}
use Rattle.std.specs.Bool.{beq}
use Rattle.lane_core.specs.declared.number.IntType.{IntType}
use Rattle.lane_core.specs.declared.number.IntType.TheVariants as i
use Rattle.lane_core.specs.declared.vector.NeonLane.{NeonLane}
use Rattle.lane_core.specs.declared.vector.NeonLane.TheVariants as lane
use Rattle.lane_core.specs.declared.vector.Pointee.{Pointee}
use Rattle.lane_core.specs.declared.vector.Pointee.TheVariants as target
use Rattle.c_tree.specs.declared.types.CType.{CType}
use Rattle.c_tree.specs.declared.types.CType.TheVariants as type
use Rattle.c_tree.specs.Tree.{Tree}
use Rattle.c_tree.specs.Nodes.{node_type}
use Rattle.type_rules.specs.Types.{same_integer, same_lane, same_pointee, same_type, is_scalar, is_vector, is_character, is_object, object_type, is_like, keeps_const, converted}
use Rattle.type_rules.specs.Rules.{IsObject, IsObjectOf, an_integer, a_vector, a_wide_vector, IsScalar, IsVector, IsCharacter}

pub both : (x y : Bool) → (x && y) ≡ true → (x ≡ true) × (y ≡ true)
both true true h = (refl, refl)
both true false h = cc
both false y h = cc

either : (x y : Bool) → (x || y) ≡ true → (x ≡ true) ⊎ (y ≡ true)
either true y h = inl refl
either false true h = inr refl
either false false h = cc

bool-equal : (x y : Bool) → beq x y ≡ true → x ≡ y
bool-equal true true h = refl
bool-equal true false h = cc
bool-equal false true h = cc
bool-equal false false h = refl

bool-same : (x : Bool) → beq x x ≡ true
bool-same true = refl
bool-same false = refl

pub integer-equal : (s t : IntType) → same_integer s t ≡ true → s ≡ t
integer-equal i.Boolean i.Boolean h = refl
integer-equal i.Char i.Char h = refl
integer-equal i.SChar i.SChar h = refl
integer-equal i.UChar i.UChar h = refl
integer-equal i.Short i.Short h = refl
integer-equal i.UShort i.UShort h = refl
integer-equal i.Int i.Int h = refl
integer-equal i.UInt i.UInt h = refl
integer-equal i.Long i.Long h = refl
integer-equal i.ULong i.ULong h = refl
integer-equal i.LLong i.LLong h = refl
integer-equal i.ULLong i.ULLong h = refl
integer-equal _ _ h = cc

integer-same : (t : IntType) → same_integer t t ≡ true
integer-same i.Boolean = refl
integer-same i.Char = refl
integer-same i.SChar = refl
integer-same i.UChar = refl
integer-same i.Short = refl
integer-same i.UShort = refl
integer-same i.Int = refl
integer-same i.UInt = refl
integer-same i.Long = refl
integer-same i.ULong = refl
integer-same i.LLong = refl
integer-same i.ULLong = refl

lane-equal : (l m : NeonLane) → same_lane l m ≡ true → l ≡ m
lane-equal lane.U8 lane.U8 h = refl
lane-equal lane.U16 lane.U16 h = refl
lane-equal lane.U32 lane.U32 h = refl
lane-equal lane.U64 lane.U64 h = refl
lane-equal lane.S8 lane.S8 h = refl
lane-equal lane.S16 lane.S16 h = refl
lane-equal lane.S32 lane.S32 h = refl
lane-equal lane.S64 lane.S64 h = refl
lane-equal _ _ h = cc

lane-same : (l : NeonLane) → same_lane l l ≡ true
lane-same lane.U8 = refl
lane-same lane.U16 = refl
lane-same lane.U32 = refl
lane-same lane.U64 = refl
lane-same lane.S8 = refl
lane-same lane.S16 = refl
lane-same lane.S32 = refl
lane-same lane.S64 = refl

pub pointee-equal : (e f : Pointee) → same_pointee e f ≡ true → e ≡ f
pointee-equal target.Void target.Void h = refl
pointee-equal (target.Int s) (target.Int t) h = ap target.Int (integer-equal s t h)
pointee-equal target.M128 target.M128 h = refl
pointee-equal target.M256 target.M256 h = refl
pointee-equal _ _ h = cc

pub pointee-same : (e : Pointee) → same_pointee e e ≡ true
pointee-same target.Void = refl
pointee-same (target.Int t) = integer-same t
pointee-same target.M128 = refl
pointee-same target.M256 = refl

pub type-same : (t : CType) → same_type t t ≡ true
type-same type.Void = refl
type-same (type.Int t) = integer-same t
type-same type.M128 = refl
type-same type.M256 = refl
type-same (type.Neon l wide) = rw (lane-same l, bool-same wide) refl
type-same type.Pair = refl
type-same (type.Pointer e c) = rw (pointee-same e, bool-same c) refl
type-same (type.Array e n c) = rw (pointee-same e, eq-eqb n n refl, bool-same c) refl

-- vectors that are the same; arrays aren't
pub vector-equal : (s t : CType) → is_vector s ≡ true → same_type s t ≡ true → s ≡ t
vector-equal type.M128 type.M128 v h = refl
vector-equal type.M256 type.M256 v h = refl
vector-equal (type.Neon l wide) (type.Neon m and_wide) v h =
    let p = both (same_lane l m) (beq wide and_wide) h in
    ap (λ x. type.Neon x wide) (lane-equal l m p.0) ∙ ap (type.Neon m) (bool-equal wide and_wide p.1)
vector-equal type.Pair type.Pair v h = refl
vector-equal _ _ v h = cc

pub pair-equal : (s : CType) → same_type s type.Pair ≡ true → s ≡ type.Pair
pair-equal type.Pair h = refl
pair-equal _ h = cc

pub neon-equal : (s : CType) → same_type s (type.Neon lane.U8 true) ≡ true → s ≡ type.Neon lane.U8 true
neon-equal (type.Neon l wide) h = vector-equal (type.Neon l wide) (type.Neon lane.U8 true) refl h
neon-equal _ h = cc

-- an expression of this type stays
pub converted-same : (t : CType) (a : Tree) → node_type a ≡ t → converted t a ≡ a
converted-same t a e = rw (e, type-same t) refl

pub scalar-says : (t : CType) → is_scalar t ≡ true → IsScalar t
scalar-says (type.Int t) h = tt
scalar-says (type.Pointer e c) h = tt
scalar-says _ h = cc

pub scalar-holds : (t : CType) → IsScalar t → is_scalar t ≡ true
scalar-holds (type.Int t) h = refl
scalar-holds (type.Pointer e c) h = refl
scalar-holds _ h = absurd h

pub vector-says : (t : CType) → is_vector t ≡ true → IsVector t
vector-says type.M128 h = tt
vector-says type.M256 h = tt
vector-says (type.Neon l wide) h = tt
vector-says type.Pair h = tt
vector-says _ h = cc

pub vector-holds : (t : CType) → IsVector t → is_vector t ≡ true
vector-holds type.M128 h = refl
vector-holds type.M256 h = refl
vector-holds (type.Neon l wide) h = refl
vector-holds type.Pair h = refl
vector-holds _ h = absurd h

pub character-says : (e : Pointee) → is_character e ≡ true → IsCharacter e
character-says (target.Int i.Char) h = tt
character-says (target.Int i.SChar) h = tt
character-says (target.Int i.UChar) h = tt
character-says _ h = cc

pub character-holds : (e : Pointee) → IsCharacter e → is_character e ≡ true
character-holds (target.Int i.Char) h = refl
character-holds (target.Int i.SChar) h = refl
character-holds (target.Int i.UChar) h = refl
character-holds _ h = absurd h

pub object-says : (e : Pointee) → is_object e ≡ true → IsObject e
object-says target.Void h = cc
object-says (target.Int t) h = tt
object-says target.M128 h = tt
object-says target.M256 h = tt

pub object-holds : (e : Pointee) → IsObject e → is_object e ≡ true
object-holds target.Void h = absurd h
object-holds (target.Int t) h = refl
object-holds target.M128 h = refl
object-holds target.M256 h = refl

pub object_type-says : (e : Pointee) (t : CType) → object_type e ≡ Some t → IsObjectOf e t
object_type-says target.Void t h = cc
object_type-says (target.Int s) t h = let e : type.Int s ≡ t = cc in subst (IsObjectOf (target.Int s)) e (an_integer s)
object_type-says target.M128 t h = let e : type.M128 ≡ t = cc in subst (IsObjectOf target.M128) e a_vector
object_type-says target.M256 t h = let e : type.M256 ≡ t = cc in subst (IsObjectOf target.M256) e a_wide_vector

pub object_type-holds : (e : Pointee) (t : CType) → IsObjectOf e t → object_type e ≡ Some t
object_type-holds e t (an_integer s) = refl
object_type-holds e t a_vector = refl
object_type-holds e t a_wide_vector = refl

pub like-says : (e f : Pointee) → is_like e f ≡ true → (e ≡ f) ⊎ (IsCharacter e × IsCharacter f)
like-says e f h = at (either (same_pointee e f) (is_character e && is_character f) h)
  where
    at : (same_pointee e f ≡ true) ⊎ ((is_character e && is_character f) ≡ true) → (e ≡ f) ⊎ (IsCharacter e × IsCharacter f)
    at (inl x) = inl (pointee-equal e f x)
    at (inr x) = let p = both (is_character e) (is_character f) x in inr (character-says e p.0, character-says f p.1)

pub like-holds : (e f : Pointee) → (e ≡ f) ⊎ (IsCharacter e × IsCharacter f) → is_like e f ≡ true
like-holds e f (inl x) = rw x (rw (pointee-same f) refl)
like-holds e f (inr x) = rw (character-holds e x.0, character-holds f x.1) (at (same_pointee e f))
  where
    at : (b : Bool) → (b || true) ≡ true
    at true = refl
    at false = refl

pub const-says : (c d : Bool) → keeps_const c d ≡ true → c ≡ true → d ≡ true
const-says true true h e = refl
const-says true false h e = cc
const-says false d h e = cc

pub const-holds : (c d : Bool) → (c ≡ true → d ≡ true) → keeps_const c d ≡ true
const-holds true d h = rw (h refl) refl
const-holds false d h = refl
