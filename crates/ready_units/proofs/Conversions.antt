-- Conversions that aren't written, and what is given to an object (C11 6.3, 6.5.16.1).
use Rattle.std.proofs.Common.{◌≡◌, refl, sym, ap, ◌∙◌, subst, Bool, true, false, if◌then◌else◌}
use Rattle.lane_core.specs.declared.number.IntType.{IntType}
use Rattle.lane_core.specs.declared.number.IntType.TheVariants as int
use Rattle.lane_core.specs.declared.vector.Pointee.{Pointee}
use Rattle.c_tree.specs.declared.types.CType.{CType}
use Rattle.c_tree.specs.Nodes.{node_type, node_place}
use Rattle.c_tree.specs.Tree.{Tree, Node, Cast}
use Rattle.c_memory.specs.Meaning.{type_of}
use Rattle.type_rules.specs.Types.{same_type, same_integer, converted}
use Rattle.type_rules.specs.Rules.{IsVector, Assigned, to_integer, null_pointer, to_pointer, to_vector}
use Rattle.written_forms.specs.Seen.{Sees}
use Rattle.written_forms.specs.Moved.{Plans}
use Rattle.ready_units.specs.Movable.{is_moved_result}
use Rattle.written_forms.specs.Ready.{Setting, Ready, IsInt, IsCarried}
use Rattle.ready_units.proofs.Sound.{Helps, Sound, same_node, moved_result, no_pointer, cast_sound}

same_is : (s t : IntType) → same_integer s t ≡ true → s ≡ t
same_is int.Boolean int.Boolean h = refl
same_is int.Char int.Char h = refl
same_is int.SChar int.SChar h = refl
same_is int.UChar int.UChar h = refl
same_is int.Short int.Short h = refl
same_is int.UShort int.UShort h = refl
same_is int.Int int.Int h = refl
same_is int.UInt int.UInt h = refl
same_is int.Long int.Long h = refl
same_is int.ULong int.ULong h = refl
same_is int.LLong int.LLong h = refl
same_is int.ULLong int.ULLong h = refl
same_is s t h = absurd (cc)

pub integer : (t : CType) (s : IntType) → t ≡ CType.Int s → IsInt t
integer t s h = subst IsInt (sym h) tt

-- an integer that is converted has the type that it is converted to
pub converted_type : (a : Tree) (s t : IntType) → node_type a ≡ CType.Int s → type_of (converted (CType.Int t) a) ≡ CType.Int t
converted_type a s t h = at (same_integer s t) refl (ap (λ u. same_type u (CType.Int t)) h)
  where
    at : (b : Bool) → same_integer s t ≡ b → same_type (node_type a) (CType.Int t) ≡ same_integer s t → type_of (if same_type (node_type a) (CType.Int t) then a else Node (node_place a) (CType.Int t) (Cast (CType.Int t) a false)) ≡ CType.Int t
    at true e g = rw (g ∙ e) (same_node a ∙ h ∙ ap CType.Int (same_is s t e))
    at false e g = rw (g ∙ e) refl

converted_pointer : (a : Tree) (s : IntType) (e : Pointee) (c : Bool) → node_type a ≡ CType.Int s → node_type (converted (CType.Pointer e c) a) ≡ CType.Pointer e c
converted_pointer a s e c h = rw (ap (λ u. same_type u (CType.Pointer e c)) h) refl

module _ (plans : Plans) (helps : Helps) (sees : Sees) where
  pub converted_sound : (t : CType) (a : Tree) → Sound plans helps sees (converted t a) → Sound plans helps sees a
  converted_sound t a s = at (same_type (node_type a) t) s
    where
      at : (b : Bool) → Sound plans helps sees (if b then a else Node (node_place a) t (Cast t a false)) → Sound plans helps sees a
      at true h = h
      at false h = cast_sound plans helps sees (node_place a) t t a false h

  pub converted_ready : (w : Setting) (t : IntType) (a : Tree) → IsInt (type_of a) → Ready w sees a → Ready w sees (converted (CType.Int t) a)
  converted_ready w t a i r = at (same_type (node_type a) (CType.Int t))
    where
      at : (b : Bool) → Ready w sees (if b then a else Node (node_place a) (CType.Int t) (Cast (CType.Int t) a false))
      at true = r
      at false = (refl, i, r)

  -- no pointer is moved
  no_pointer_given : (a : Tree) (e f : Pointee) (c d : Bool) {A : Type 0} → node_type a ≡ CType.Pointer e c → Sound plans helps sees (converted (CType.Pointer f d) a) → A
  no_pointer_given a e f c d h s = no_pointer plans helps sees a e c h (converted_sound (CType.Pointer f d) a s)

  -- what is given to an object of a type is of that type, which is moved
  pub record Given (w : Setting) (a b : Tree) (t : CType) : Type 0 where
    pub sound : Sound plans helps sees a
    pub ready : Ready w sees a → Ready w sees b
    pub ty : type_of b ≡ t
    pub carried : IsCarried t

  moved_vector : (t : CType) → IsVector t → is_moved_result t ≡ true → IsCarried t
  moved_vector CType.M128 v h = tt
  moved_vector CType.M256 v h = absurd (cc)
  moved_vector (CType.Neon l wide) v h = absurd (cc)
  moved_vector CType.Pair v h = absurd (cc)
  moved_vector t v h = absurd v

  pub given : (w : Setting) (a b : Tree) (t : CType) → Assigned a t b → Sound plans helps sees b → Given w a b t
  given w a b t (to_integer s u h) k = record {
    sound = converted_sound (CType.Int u) a k;
    ready = converted_ready w u a (integer (type_of a) s (same_node a ∙ h));
    ty = converted_type a s u h;
    carried = tt;
  }
  given w a b t (null_pointer s e c h z) k = no_pointer plans helps sees (converted (CType.Pointer e c) a) e c (converted_pointer a s e c h) k
  given w a b t (to_pointer e f c d h l z) k = no_pointer_given a e f c d h k
  given w a b t (to_vector u v h) k = record {
    sound = k;
    ready = λ r. r;
    ty = same_node a ∙ h;
    carried = moved_vector u v (subst (λ x. is_moved_result x ≡ true) (same_node a ∙ h) (moved_result plans helps sees a k));
  }
