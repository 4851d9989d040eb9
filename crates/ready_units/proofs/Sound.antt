-- What is known of the parts of a typed unit that is movable: they are moved, they keep the order rule, and the functions of their rows are
-- among those that are written.
use Rattle.std.proofs.Common.{◌≡◌, refl, subst, ℕ, Bool, true, false, List, [], ◌∷◌, ◌++◌, Option, Some, None, if◌then◌else◌}
use Rattle.c_text.specs.declared.tokens.Place.{Place}
use Rattle.lane_core.specs.declared.number.UnOp.{UnOp}
use Rattle.lane_core.specs.declared.vector.Pointee.{Pointee}
use Rattle.c_tree.specs.declared.types.CType.{CType}
use Rattle.c_tree.specs.Nodes.{node_type}
use Rattle.c_tree.specs.Marks.{mark_of}
use Rattle.c_tree.specs.Tree.{Tree, Kind, Trees, Node, Unary, Comma, Cast, More}
use Rattle.c_memory.specs.Meaning.{type_of}
use Rattle.scopes.specs.Scopes.{or_else}
use Rattle.type_rules.specs.Rules.{HasPointer, IsScalar}
use Rattle.written_forms.specs.Seen.{Sees}
use Rattle.written_forms.specs.Moved.{Plans}
use Rattle.written_forms.specs.Ready.{IsInt, IsCarried}
use Rattle.written_forms.specs.Helpers.{Use, uses, all_uses}
use Rattle.ready_units.specs.Movable.{is_moved_type, is_moved_result, unmoved, unmoved_in, unmoved_part, unmoved_among}
use Rattle.ready_units.proofs.Calm.{Calm, AllCalm}

-- which rows with which immediates have a function
abbrev pub Helps : Type 0
Helps = List ℕ → ℕ → Bool

-- each of these has one
abbrev pub Helped : Helps → List Use → Type 0
Helped helps [] = Unit {0}
Helped helps (u ∷ us) = (helps u.row u.imm ≡ true) × Helped helps us

pub helped_first : (helps : Helps) (us vs : List Use) → Helped helps (us ++ vs) → Helped helps us
helped_first helps [] vs h = tt
helped_first helps (u ∷ us) vs h = (h.0, helped_first helps us vs h.1)

pub helped_second : (helps : Helps) (us vs : List Use) → Helped helps (us ++ vs) → Helped helps vs
helped_second helps [] vs h = h
helped_second helps (u ∷ us) vs h = helped_second helps us vs h.1

pub first_none : {A : Type 0} (a b : Option A) → or_else a b ≡ None → a ≡ None
first_none None b h = refl
first_none (Some x) b h = absurd (cc)

pub second_none : {A : Type 0} (a b : Option A) → or_else a b ≡ None → b ≡ None
second_none None b h = h
second_none (Some x) b h = absurd (cc)

pub same_node : (a : Tree) → type_of a ≡ node_type a
same_node (Node p t k) = refl

-- ---- expressions

pub record Sound (plans : Plans) (helps : Helps) (sees : Sees) (e : Tree) : Type 0 where
  pub moves : unmoved_in plans e ≡ None
  pub calm : Calm e
  pub named : Helped helps (uses plans sees e)

pub record SoundAll (plans : Plans) (helps : Helps) (sees : Sees) (all : Trees) : Type 0 where
  pub moves : unmoved_among plans all ≡ None
  pub calm : AllCalm all
  pub named : Helped helps (all_uses plans sees all)

-- a node is of a moved type, and its parts are moved
pub record Inside (plans : Plans) (p : Place) (t : CType) (k : Kind) : Type 0 where
  pub ty : is_moved_result t ≡ true
  pub parts : unmoved_part plans p t k ≡ None

module _ (plans : Plans) (helps : Helps) (sees : Sees) where
  pub inside : (p : Place) (t : CType) (k : Kind) → unmoved_in plans (Node p t k) ≡ None → Inside plans p t k
  inside p t k h = at (is_moved_result t) refl h
    where
      at : (b : Bool) → is_moved_result t ≡ b → (if b then unmoved_part plans p t k else Some (unmoved p (mark_of k))) ≡ None → Inside plans p t k
      at true e g = record { ty = e; parts = g }
      at false e g = absurd (cc)

  pub moved_result : (e : Tree) → Sound plans helps sees e → is_moved_result (type_of e) ≡ true
  moved_result (Node p t k) s = (inside p t k s.moves).ty

  pub moved_parts : (p : Place) (t : CType) (k : Kind) → Sound plans helps sees (Node p t k) → unmoved_part plans p t k ≡ None
  moved_parts p t k s = (inside p t k s.moves).parts

  pub no_pointer : (a : Tree) (e : Pointee) (c : Bool) {A : Type 0} → HasPointer a e c → Sound plans helps sees a → A
  no_pointer a e c h s = absurd (let no : is_moved_result (node_type a) ≡ true = subst (λ t. is_moved_result t ≡ true) (same_node a) (moved_result a s) in
      let never : is_moved_result (CType.Pointer e c) ≡ true = subst (λ t. is_moved_result t ≡ true) h no in cc)

  pub scalar_int : (a : Tree) → IsScalar (node_type a) → Sound plans helps sees a → IsInt (type_of a)
  scalar_int (Node p (CType.Int s) k) h s2 = tt
  scalar_int (Node p (CType.Pointer e c) k) h s = no_pointer (Node p (CType.Pointer e c) k) e c refl s
  scalar_int (Node p t k) h s = absurd h

  pub two_sound : (a b : Tree) → or_else (unmoved_in plans a) (unmoved_in plans b) ≡ None → Calm a → Calm b → Helped helps (uses plans sees a ++ uses plans sees b)
      → Sound plans helps sees a × Sound plans helps sees b
  two_sound a b m c d n = (
    record { moves = first_none (unmoved_in plans a) (unmoved_in plans b) m; calm = c; named = helped_first helps (uses plans sees a) (uses plans sees b) n },
    record { moves = second_none (unmoved_in plans a) (unmoved_in plans b) m; calm = d; named = helped_second helps (uses plans sees a) (uses plans sees b) n },
  )

  pub all_sound : (a : Tree) (rest : Trees) → SoundAll plans helps sees (More a rest) → Sound plans helps sees a × SoundAll plans helps sees rest
  all_sound a rest s = (
    record { moves = first_none (unmoved_in plans a) (unmoved_among plans rest) s.moves; calm = s.calm.0; named = helped_first helps (uses plans sees a) (all_uses plans sees rest) s.named },
    record { moves = second_none (unmoved_in plans a) (unmoved_among plans rest) s.moves; calm = s.calm.1; named = helped_second helps (uses plans sees a) (all_uses plans sees rest) s.named },
  )

  pub unary_sound : (p : Place) (t : CType) (o : UnOp) (a : Tree) → Sound plans helps sees (Node p t (Unary o a)) → Sound plans helps sees a
  unary_sound p t o a s = record { moves = moved_parts p t (Unary o a) s; calm = s.calm; named = s.named }

  pub cast_sound : (p : Place) (t u : CType) (a : Tree) (written : Bool) → Sound plans helps sees (Node p t (Cast u a written)) → Sound plans helps sees a
  cast_sound p t u a written s = record { moves = moved_parts p t (Cast u a written) s; calm = s.calm; named = s.named }

  pub comma_sound : (p : Place) (t : CType) (all : Trees) → Sound plans helps sees (Node p t (Comma all)) → SoundAll plans helps sees all
  comma_sound p t all s = record { moves = moved_parts p t (Comma all) s; calm = s.calm; named = s.named }

-- the types of values apart from memory
pub carried_of : (t : CType) → is_moved_type t ≡ true → IsCarried t
carried_of (CType.Int s) h = tt
carried_of CType.M128 h = tt
carried_of t h = absurd (cc)
