-- Conversions that aren't written, and what is given to an object (C11 6.3, 6.5.16.1), in what is written for a source.
use Rattle.std.proofs.Common.{◌≡◌, refl, sym, ap, ◌∙◌, subst, Bool, true, false, if◌then◌else◌}
use Rattle.c_text.specs.declared.tokens.Dialect.TheVariants.{Neon}
use Rattle.c_text.specs.declared.tokens.Place.{Place}
use Rattle.lane_core.specs.declared.number.IntType.{IntType}
use Rattle.lane_core.specs.declared.number.IntType.TheVariants as int
use Rattle.lane_core.specs.declared.number.Num.{Num}
use Rattle.c_tree.specs.declared.types.CType.{CType}
use Rattle.c_tree.specs.Nodes.{node_type, node_place}
use Rattle.c_tree.specs.Tree.{Tree, Trees, Node, Cast, Const, NoTrees, More}
use Rattle.c_memory.specs.Matching.{written_integer, written_type}
use Rattle.c_memory.specs.Meaning.{type_of}
use Rattle.scopes.specs.Scopes.{Env}
use Rattle.type_rules.specs.Types.{same_type, same_integer, read_type, converted}
use Rattle.type_rules.specs.Rules.{Results, IsVector, Assigned, to_integer, null_pointer, to_pointer, to_vector, cast_to_integer}
use Rattle.expression_types.specs.Check.{is_char, read_number}
use Rattle.expression_types.specs.Typed as typed
use Rattle.expression_types.specs.Typed.{Typed, TypedAll}
use Rattle.written_forms.specs.Seen.{Sees}
use Rattle.written_forms.specs.Moved.{Plans, moved, moved_all}
use Rattle.written_forms.specs.Ready.{Setting}
use Rattle.written_types.proofs.Types.{read_type_written, same_is, same_itself, vector_written, wide_written}
use Rattle.seq_core.specs.Formed.{is_promoted}
use Rattle.written_types.proofs.Fine.{Fine, AllFine, fine_pointer}

same_node : (a : Tree) → type_of a ≡ node_type a
same_node (Node p t k) = refl

-- a constant of another type than `char` is read as it is
pub number_typed : (there : Env) (p : Place) (t : CType) (n : Num) → there.dialect ≡ Neon → is_char n.ty ≡ false → Typed there (Node p t (Const n)) (Node p (CType.Int n.ty) (Const n))
number_typed there p t n d h =
    let same : read_number there.dialect n ≡ n = ap (λ z. read_number z n) d ∙ rw h refl in
    subst (λ m. Typed there (Node p t (Const n)) (Node p (CType.Int m.ty) (Const m))) same (typed.constant p t n)

-- what is converted without a cast has the typed form of what it is made of
typed_converted : (there : Env) (t : CType) (a x : Tree) → Typed there a x → Typed there (converted t a) x
typed_converted there t a x h = at (same_type (node_type a) t)
  where
    at : (b : Bool) → Typed there (if b then a else Node (node_place a) t (Cast t a false)) x
    at true = h
    at false = typed.through (node_place a) t t a x h

-- an integer that is converted has the type that it is converted to
pub converted_type : (a : Tree) (s t : IntType) → node_type a ≡ CType.Int s → node_type (converted (CType.Int t) a) ≡ CType.Int t
converted_type a s t h = at (same_integer s t) refl (ap (λ u. same_type u (CType.Int t)) h)
  where
    at : (b : Bool) → same_integer s t ≡ b → same_type (node_type a) (CType.Int t) ≡ same_integer s t → node_type (if same_type (node_type a) (CType.Int t) then a else Node (node_place a) (CType.Int t) (Cast (CType.Int t) a false)) ≡ CType.Int t
    at true e g = rw (g ∙ e) (h ∙ ap CType.Int (same_is s t e))
    at false e g = rw (g ∙ e) refl

pub fine_converted : (w : Setting) (sees : Sees) (t : CType) (a : Tree) → Fine w sees (converted t a) → Fine w sees a
fine_converted w sees t a s = at (same_type (node_type a) t) s
  where
    at : (b : Bool) → Fine w sees (if b then a else Node (node_place a) t (Cast t a false)) → Fine w sees a
    at true h = h
    at false h = h.1

-- the same integer type
int_type : (t : CType) (u : IntType) → same_type t (CType.Int u) ≡ true → t ≡ CType.Int u
int_type (CType.Int s) u h = ap CType.Int (same_is s u h)
int_type CType.Void u h = absurd (cc)
int_type CType.M128 u h = absurd (cc)
int_type CType.M256 u h = absurd (cc)
int_type (CType.Neon l wide) u h = absurd (cc)
int_type CType.Pair u h = absurd (cc)
int_type (CType.Pointer e c) u h = absurd (cc)
int_type (CType.Array e n c) u h = absurd (cc)

module _ (plans : Plans) (sees : Sees) where
  -- what is written is its own typed form and has the written type
  pub record Own (there : Env) (v : Tree) : Type 0 where
    pub typed : Typed there (moved plans sees v) (moved plans sees v)
    pub ty : node_type (moved plans sees v) ≡ written_type (node_type v)

  abbrev pub AllOwn : Env → Trees → Type 0
  AllOwn there NoTrees = Unit {0}
  AllOwn there (More a rest) = Own there a × AllOwn there rest

  pub all_typed : (there : Env) (all : Trees) → AllOwn there all → TypedAll there (moved_all plans sees all) (moved_all plans sees all)
  all_typed there NoTrees h = typed.none
  all_typed there (More a rest) h = typed.more (moved plans sees a) (moved plans sees a) (moved_all plans sees rest) (moved_all plans sees rest) h.0.typed (all_typed there rest h.1)

  -- a conversion is written as one
  pub moved_converted : (a : Tree) (u : IntType) → node_type (moved plans sees a) ≡ written_type (node_type a)
      → moved plans sees (converted (CType.Int u) a) ≡ converted (CType.Int (written_integer u)) (moved plans sees a)
  moved_converted a u h = at (same_type (node_type a) (CType.Int u)) refl
    where
      t : CType
      t = CType.Int (written_integer u)

      x : Tree
      x = moved plans sees a

      at : (b : Bool) → same_type (node_type a) (CType.Int u) ≡ b → moved plans sees (if b then a else Node (node_place a) (CType.Int u) (Cast (CType.Int u) a false)) ≡ converted t x
      at true e =
          let same : node_type x ≡ t = h ∙ ap written_type (int_type (node_type a) u e) in
          let test : same_type (node_type x) t ≡ true = ap (λ z. same_type z t) same ∙ same_itself (written_integer u) in
          sym (ap (λ b. if b then x else Node (node_place x) t (Cast t x false)) test)
      at false e = ap (λ z. if same_type z t then x else Node (node_place x) t (Cast t x false)) (ap written_type (same_node a) ∙ sym h)

  -- its typed form is that of what is converted
  pub part_typed : (there : Env) (a : Tree) (u : IntType) → Own there a → Typed there (moved plans sees (converted (CType.Int u) a)) (moved plans sees a)
  part_typed there a u o =
      subst (λ z. Typed there z (moved plans sees a)) (sym (moved_converted a u o.ty)) (typed_converted there (CType.Int (written_integer u)) (moved plans sees a) (moved plans sees a) o.typed)

  -- to a type that promotion leaves
  pub brought : (there : Env) (a : Tree) (u : IntType) → Own there a → is_promoted u ≡ true → converted (CType.Int u) (moved plans sees a) ≡ moved plans sees (converted (CType.Int u) a)
  brought there a u o h = ap (λ z. converted (CType.Int z) (moved plans sees a)) (sym (wide_written u h)) ∙ sym (moved_converted a u o.ty)

  pub integer_own : (there : Env) (a : Tree) (s : IntType) → Own there a → node_type a ≡ CType.Int s → node_type (moved plans sees a) ≡ CType.Int (written_integer s)
  integer_own there a s o h = o.ty ∙ ap written_type h

  -- ---- what is given

  -- what is given to an object of a type
  pub record Given (there : Env) (a b : Tree) (t : CType) : Type 0 where
    pub typed : Typed there (moved plans sees b) (moved plans sees a)
    pub given : Assigned (moved plans sees a) (written_type t) (moved plans sees b)
    pub ty : node_type (moved plans sees b) ≡ written_type t

  pub given_fine : (w : Setting) (a b : Tree) (t : CType) → Assigned a t b → Fine w sees b → Fine w sees a
  given_fine w a b t (to_integer s u h) k = fine_converted w sees (CType.Int u) a k
  given_fine w a b t (null_pointer s e c h z) k = fine_pointer w sees (converted (CType.Pointer e c) a) e c (pointer_type a s e c h) k
    where
      pointer_type : (a : Tree) (s : IntType) (e : _) (c : Bool) → node_type a ≡ CType.Int s → node_type (converted (CType.Pointer e c) a) ≡ CType.Pointer e c
      pointer_type a s e c h = rw (ap (λ u. same_type u (CType.Pointer e c)) h) refl
  given_fine w a b t (to_pointer e f c d h l z) k = fine_pointer w sees a e c h (fine_converted w sees (CType.Pointer f d) a k)
  given_fine w a b t (to_vector u v h) k = k

  pub given_own : (w : Setting) (there : Env) (a b : Tree) (t : CType) → Assigned a t b → Fine w sees b → Own there a → Given there a b t
  given_own w there a b t (to_integer s u h) k o =
      let same = moved_converted a u o.ty in
      let here = integer_own there a s o h in
      record {
        typed = part_typed there a u o;
        given = subst (Assigned (moved plans sees a) (CType.Int (written_integer u))) (sym same) (to_integer (written_integer s) (written_integer u) here);
        ty = ap node_type same ∙ converted_type (moved plans sees a) (written_integer s) (written_integer u) here;
      }
  given_own w there a b t (null_pointer s e c h z) k o = fine_pointer w sees a e c (absurd_pointer k) (given_fine w a b t (null_pointer s e c h z) k)
    where
      absurd_pointer : Fine w sees (converted (CType.Pointer e c) a) → node_type a ≡ CType.Pointer e c
      absurd_pointer k = fine_pointer w sees (converted (CType.Pointer e c) a) e c (rw (ap (λ u. same_type u (CType.Pointer e c)) h) refl) k
  given_own w there a b t (to_pointer e f c d' h l z) k o = fine_pointer w sees a e c h (fine_converted w sees (CType.Pointer f d') a k)
  given_own w there a b t (to_vector u v h) k o = record {
    typed = o.typed;
    given = to_vector (written_type u) (vector_written u v) (o.ty ∙ ap written_type h);
    ty = o.ty ∙ ap written_type h;
  }
