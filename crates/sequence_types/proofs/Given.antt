-- An expression that has the type of the object it is given to is given as it is (C11 6.3p2, 6.5.16.1).
use Rattle.std.proofs.Common.{inl, ◌≡◌, Bool, true, false, refl, subst}
use Rattle.std.specs.Bool.{beq}
use Rattle.lane_core.specs.declared.number.IntType.{IntType}
use Rattle.lane_core.specs.declared.number.IntType.TheVariants as int
use Rattle.lane_core.specs.declared.vector.Pointee.{Pointee}
use Rattle.lane_core.specs.declared.vector.Pointee.TheVariants as target
use Rattle.lane_core.specs.declared.vector.NeonLane.{NeonLane}
use Rattle.lane_core.specs.declared.vector.NeonLane.TheVariants as lane
use Rattle.c_tree.specs.declared.types.CType.{CType}
use Rattle.c_tree.specs.Tree.{Tree, Node}
use Rattle.c_tree.specs.Nodes.{node_type}
use Rattle.c_memory.specs.Meaning as meaning
use Rattle.type_rules.specs.Types.{same_integer, same_lane, same_pointee, same_type, converted}
use Rattle.type_rules.specs.Rules.{Assigned}
use Rattle.seq_core.specs.Formed.{IsCarrier}

-- both ways to read a node's type
pub types_agree : (a : Tree) → meaning.type_of a ≡ node_type a
types_agree (Node p t k) = refl

same_to_itself : (b : Bool) → beq b b ≡ true
same_to_itself true = refl
same_to_itself false = refl

integer_itself : (t : IntType) → same_integer t t ≡ true
integer_itself int.Boolean = refl
integer_itself _ = refl

lane_itself : (l : NeonLane) → same_lane l l ≡ true
lane_itself lane.U8 = refl
lane_itself _ = refl

pointee_itself : (e : Pointee) → same_pointee e e ≡ true
pointee_itself target.Void = refl
pointee_itself (target.Int t) = integer_itself t
pointee_itself target.M128 = refl
pointee_itself target.M256 = refl

pub integers_same : (t : IntType) → same_type (CType.Int t) (CType.Int t) ≡ true
integers_same t = integer_itself t

pub pointers_same : (e : Pointee) (c : Bool) → same_type (CType.Pointer e c) (CType.Pointer e c) ≡ true
pointers_same e c = rw (pointee_itself e) (same_to_itself c)

pub unconverted : (t : CType) (a : Tree) → node_type a ≡ t → same_type t t ≡ true → converted t a ≡ a
unconverted t a h s = rw (h, s) refl

pub integer_unconverted : (t : IntType) (a : Tree) → node_type a ≡ CType.Int t → converted (CType.Int t) a ≡ a
integer_unconverted t a h = unconverted (CType.Int t) a h (integers_same t)

pub pointer_unconverted : (e : Pointee) (c : Bool) (a : Tree) → node_type a ≡ CType.Pointer e c → converted (CType.Pointer e c) a ≡ a
pointer_unconverted e c a h = unconverted (CType.Pointer e c) a h (pointers_same e c)

pub assigned_same : (t : CType) (a : Tree) → IsCarrier t → node_type a ≡ t → Assigned a t a
assigned_same (CType.Int t) a i h = subst (Assigned a (CType.Int t)) (integer_unconverted t a h) (Assigned.to_integer t t h)
assigned_same (CType.Pointer e c) a i h = subst (Assigned a (CType.Pointer e c)) (pointer_unconverted e c a h) (Assigned.to_pointer e e c c h (inl refl) (λ k. k))
assigned_same (CType.Neon l wide) a i h = Assigned.to_vector (CType.Neon l wide) tt h
assigned_same CType.Pair a i h = Assigned.to_vector CType.Pair tt h
assigned_same _ a i h = absurd i
