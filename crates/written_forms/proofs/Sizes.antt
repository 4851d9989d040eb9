-- Laws of sizes, which are written as their values, and of conversions that aren't written.
use Rattle.std.proofs.Common.{◌≡◌, ℕ, List, Bool, true, false, Option, Some, None, refl, sym, ap, ◌∙◌, subst, if◌then◌else◌}
use Rattle.std.specs.Prelude.{option_map, ℤ, pos}
use Rattle.lane_core.specs.declared.number.IntType.{IntType}
use Rattle.lane_core.specs.declared.number.IntType.TheVariants as int
use Rattle.lane_core.specs.IntRange.{InRange}
use Rattle.scalar_core.specs.Numbers.{num_of}
use Rattle.scalar_core.specs.NumberLaws.{converted_type, converted_kept}
use Rattle.const_imm.specs.Sizes.{size_of}
use Rattle.c_text.specs.declared.tokens.Place.{Place}
use Rattle.c_tree.specs.declared.types.CType.{CType}
use Rattle.c_tree.specs.Nodes.{node_place}
use Rattle.c_tree.specs.Tree.{Tree, Node, Cast, SizeOfType, SizeOfName}
use Rattle.c_memory.specs.declared.value.Value.{Value}
use Rattle.c_memory.specs.Matching.{written_integer, written_type}
use Rattle.c_memory.specs.MeaningState.{Binding, State, Out, Done, Turns, Undefined, Does, then_do, pure, defined, found}
use Rattle.c_memory.specs.MeaningValues.{converted_value}
use Rattle.c_memory.specs.Meaning.{Calls, expression, size_value, give, type_of, cast_to}
use Rattle.type_rules.specs.Types.{same_type, same_integer}
use Rattle.simulation.specs.Alike.{Given, Options, Objects, Alike, After, Ends, Sim}
use Rattle.simulation.specs.Carried.{Carried, Marks, Scope, mark_of}
use Rattle.simulation.specs.Steps.{bind_sim, pure_sim, undefined_sim, defined_sim, give_sim, second_as}
use Rattle.simulation.specs.ScopeLaws.{Binds, object_sim}
use Rattle.written_forms.specs.TypedValues.{TypedValues}
use Rattle.written_forms.proofs.TypedLaws.{IsNumber, number, is_number}
use Rattle.written_forms.specs.Seen.{Local, Sees}
use Rattle.written_forms.specs.Moved as moved
use Rattle.written_forms.specs.Ready.{IsInt}
use Rattle.written_forms.proofs.Agreeing.{Keeping, kept, way_of, Agrees}
use Rattle.written_forms.proofs.Forms.{kept_cast_sim, as_type, int_of}

-- ---- sizes

size_typed : (k : ℕ) → TypedValues (CType.Int int.ULong) (Value.Int (num_of int.ULong (pos k))) (Value.Int (num_of int.ULong (pos k)))
unfolding num_of
size_typed k = ((refl, refl), refl)

-- what a size gives, where there is one
abbrev size_given : Option ℕ → Does (Option Value)
size_given o = give (defined (option_map (λ n. Value.Int (num_of int.ULong (pos n))) o))

size_written : (n : ℕ) (E : Objects) (d : Calls) (q : Place) (o : Option ℕ) → Sim n (Given TypedValues (CType.Int int.ULong)) E E (size_given o) (expression (moved.size q o) d)
size_written n E d q None = undefined_sim _
size_written n E d q (Some k) = pure_sim (Some (Value.Int (num_of int.ULong (pos k)))) (Some (Value.Int (num_of int.ULong (pos k)))) (size_typed k)

pub size_sim : (n : ℕ) (E : Objects) (c d : Calls) (p q : Place) (t u : CType) → t ≡ CType.Int int.ULong
    → Sim n (Given TypedValues t) E E (expression (Node p t (SizeOfType u)) c) (expression (moved.size q (size_of u)) d)
size_sim n E c d p q t u e =
    as_type (CType.Int int.ULong) t (expression (Node p t (SizeOfType u)) c) (expression (moved.size q (size_of u)) d) e (size_written n E d q (size_of u))

-- the source looks the object up, and the other has its size
looked_up : (n : ℕ) (E : Objects) (x : List ℕ) (l : Local) (g : Does (Option Value)) (s t : State) (o r : Option Binding) → Alike n E s t
    → ((b : Binding) → o ≡ Some b → b.ty ≡ l.ty) → Sim n (Given TypedValues (CType.Int int.ULong)) E E (size_given (size_of l.ty)) g
    → Ends (Given TypedValues (CType.Int int.ULong)) (After n E t) (then_do (then_do (defined o s) (λ b. size_value b.ty)) (λ v. pure (Some v))) (g t)
looked_up n E x l g s t None r a is h = tt
looked_up n E x l g s t (Some b) r a is h =
    subst (λ z. Ends (Given TypedValues (CType.Int int.ULong)) (After n E t) (size_given (size_of z) s) (g t)) (sym (is b refl)) (h.by s t a)

type_found : (n : ℕ) (E F : Objects) (V : Binding → Binding → Type 0) (x : List ℕ) (ty : CType) (s t u : State) (o r : Option Binding) → Ends V (After n F u) (defined o s) (defined r t)
    → ((b c : Binding) → V b c → b.ty ≡ ty) → (b : Binding) → o ≡ Some b → b.ty ≡ ty
type_found n E F V x ty s t u (Some a) (Some c) h k b e = let same : a ≡ b = cc in ap (λ z. z.ty) (sym same) ∙ k a c h.0
type_found n E F V x ty s t u (Some a) None h k b e = absurd h
type_found n E F V x ty s t u None r h k b e = absurd (cc)

abbrev here : List Carried → Marks → Objects
here scope ks = Scope TypedValues scope ks

pub size_of_name_sim : (n : ℕ) (sees : Sees) (scope : List Carried) (ks : Marks) (keeps : List Keeping) → Agrees sees scope ks keeps → (c d : Calls) (p q : Place) (t : CType)
    (x : List ℕ) (l : Local) → t ≡ CType.Int int.ULong → sees x ≡ Some l
    → Sim n (Given TypedValues t) (Scope TypedValues scope ks) (Scope TypedValues scope ks) (expression (Node p t (SizeOfName x)) c) (expression (moved.size q (size_of l.ty)) d)
size_of_name_sim n sees scope ks keeps ag c d p q t x l e g =
    as_type (CType.Int int.ULong) t (expression (Node p t (SizeOfName x)) c) (expression (moved.size q (size_of l.ty)) d) e (record {
      by = λ y z a.
          looked_up n (here scope ks) x l (expression (moved.size q (size_of l.ty)) d) y z (found x y.objects) (found x z.objects) a
          (type_found n (here scope ks) (here scope ks) (Binds TypedValues (way_of (kept x keeps) l) x l.ty (written_type l.ty) (mark_of x scope ks)) x l.ty y z z (found x y.objects) (found x z.objects)
          ((object_sim TypedValues scope ks (way_of (kept x keeps) l) x l.ty (written_type l.ty) (ag.objects x l g)).by y z a) (λ b c h. h.0.ty))
          (size_written n (here scope ks) d q (size_of l.ty));
    })

-- ---- conversions that aren't written

-- types that are written as one have the same values
same_range : (s t : IntType) (z : ℤ) → same_integer (written_integer s) (written_integer t) ≡ true → InRange s z → InRange t z
same_range int.Char int.Char z e h = h
same_range int.Char int.SChar z e h = h
same_range int.SChar int.Char z e h = h
same_range int.SChar int.SChar z e h = h
same_range int.Boolean int.Boolean z e h = h
same_range int.UChar int.UChar z e h = h
same_range int.Short int.Short z e h = h
same_range int.UShort int.UShort z e h = h
same_range int.Int int.Int z e h = h
same_range int.UInt int.UInt z e h = h
same_range int.Long int.Long z e h = h
same_range int.ULong int.ULong z e h = h
same_range int.LLong int.LLong z e h = h
same_range int.ULLong int.ULLong z e h = h
same_range s t z e h = absurd (cc)

same_written : (s t : IntType) → same_integer (written_integer s) (written_integer t) ≡ true → written_integer s ≡ written_integer t
same_written int.Char int.Char e = refl
same_written int.Char int.SChar e = refl
same_written int.SChar int.Char e = refl
same_written int.SChar int.SChar e = refl
same_written int.Boolean int.Boolean e = refl
same_written int.UChar int.UChar e = refl
same_written int.Short int.Short e = refl
same_written int.UShort int.UShort e = refl
same_written int.Int int.Int e = refl
same_written int.UInt int.UInt e = refl
same_written int.Long int.Long e = refl
same_written int.ULong int.ULong e = refl
same_written int.LLong int.LLong e = refl
same_written int.ULLong int.ULLong e = refl
same_written s t e = absurd (cc)

-- a value of one is one of the other
as_other : (s t : IntType) (v w : Value) → same_integer (written_integer s) (written_integer t) ≡ true → TypedValues (CType.Int s) v w
    → Options (TypedValues (CType.Int t)) (converted_value (CType.Int t) v) (Some w)
as_other s t v w e h = at v w (is_number s v h.1) h
  where
    at : (v w : Value) → IsNumber s v → TypedValues (CType.Int s) v w → Options (TypedValues (CType.Int t)) (converted_value (CType.Int t) v) (Some w)
    at v (Value.Int k) (number m f) h = (
      (
        h.0.0 ∙ ap written_integer f ∙ same_written s t e ∙ ap written_integer (sym (converted_type t m)),
        converted_kept t m (same_range s t m.value e (subst (λ i. InRange i m.value) f m.in_range)) ∙ h.0.1,
      ),
      converted_type t m,
    )
    at v w (number m f) h = absurd h.0

given_as : (n : ℕ) (E : Objects) (s t : IntType) (u v : Option Value) → same_integer (written_integer s) (written_integer t) ≡ true → Given TypedValues (CType.Int s) u v
    → Sim n (Given TypedValues (CType.Int t)) E E (cast_to (CType.Int t) u) (pure v)
given_as n E s t None v e h = undefined_sim _
given_as n E s t (Some u) None e h = absurd h
given_as n E s t (Some u) (Some v) e h = give_sim TypedValues (CType.Int t) (defined_sim (converted_value (CType.Int t) u) (Some v) (as_other s t u v e h))

bind_pure : {A : Type 0} (o : Out A) → then_do o pure ≡ o
bind_pure (Done a s) = refl
bind_pure Turns = refl
bind_pure Undefined = refl

pub dropped_cast_sim : (n : ℕ) (E : Objects) (c d : Calls) (p : Place) (t : CType) (s : IntType) (a b : Tree) → t ≡ CType.Int s → IsInt (type_of a)
    → same_type (written_type (type_of a)) (CType.Int (written_integer s)) ≡ true → Sim n (Given TypedValues (type_of a)) E E (expression a c) (expression b d)
    → Sim n (Given TypedValues t) E E (expression (Node p t (Cast (CType.Int s) a false)) c) (expression b d)
dropped_cast_sim n E c d p t s a b e f g h =
    let r = int_of (type_of a) f in
    let same : same_integer (written_integer r.s) (written_integer s) ≡ true = subst (λ z. same_type (written_type z) (CType.Int (written_integer s)) ≡ true) r.is g in
    let k : Sim n (Given TypedValues (CType.Int r.s)) E E (expression a c) (expression b d) = subst (λ z. Sim n (Given TypedValues z) E E (expression a c) (expression b d)) r.is h in
    as_type (CType.Int s) t (expression (Node p t (Cast (CType.Int s) a false)) c) (expression b d) e
    (second_as (λ y. bind_pure (expression b d y)) (bind_sim k (λ u v i. given_as n E r.s s u v same i)))

-- either way
pub cast_sim : (n : ℕ) (E : Objects) (c d : Calls) (p q : Place) (t : CType) (s : IntType) (a b : Tree) (z : Bool) → t ≡ CType.Int s → IsInt (type_of a)
    → Sim n (Given TypedValues (type_of a)) E E (expression a c) (expression b d)
    → Sim n (Given TypedValues t) E E (expression (Node p t (Cast (CType.Int s) a z)) c)
    (expression (moved.cast q (CType.Int (written_integer s)) (written_type (type_of a)) b z) d)
cast_sim n E c d p q t s a b true e f h = kept_cast_sim n E c d p q t (CType.Int (written_integer s)) s a b true true e f h
cast_sim n E c d p q t s a b false e f h = at (same_type (written_type (type_of a)) (CType.Int (written_integer s))) refl
  where
    at : (v : Bool) → same_type (written_type (type_of a)) (CType.Int (written_integer s)) ≡ v
        → Sim n (Given TypedValues t) E E (expression (Node p t (Cast (CType.Int s) a false)) c)
        (expression (if v then b else Node (node_place b) (CType.Int (written_integer s)) (Cast (CType.Int (written_integer s)) b false)) d)
    at true g = dropped_cast_sim n E c d p t s a b e f g h
    at false g = kept_cast_sim n E c d p (node_place b) t (CType.Int (written_integer s)) s a b false false e f h
