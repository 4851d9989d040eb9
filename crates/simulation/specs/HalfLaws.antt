-- Laws of the halves of pairs: of objects that both units have, apart from memory.
use Rattle.std.proofs.Common.{◌≡◌, ℕ, zero, suc, List, ◌++◌, take, drop, length, Option, Some, None, refl, sym, ap, ◌∙◌, subst, arith}
use Rattle.std.specs.Prelude.{option_map}
use Rattle.std.proofs.lemmas.List.{length-append, length-take, length-drop}
use Rattle.std.proofs.Math.Seq.{take-length, take-append_seam, drop-append_seam}
use Rattle.c_text.specs.declared.tokens.Place.{Place}
use Rattle.c_tree.specs.declared.types.CType.{CType}
use Rattle.c_tree.specs.Tree.{Tree, Node, Name, Half}
use Rattle.c_memory.specs.declared.value.Value.{Value}
use Rattle.c_memory.specs.Matching.{half}
use Rattle.c_memory.specs.MeaningState.{Location, Apart, Halves, InBlock, ◌>>=◌, half_at, joined, with_half, object_of}
use Rattle.c_memory.specs.MeaningObjects.{HalfNamed, half_named, read_target, set_target}
use Rattle.c_memory.specs.Meaning.{Calls, name_in, half_of, its_value, expression, target}
use Rattle.simulation.specs.Alike.{Relation, Options, Given, Objects, Sim}
use Rattle.simulation.specs.Carried.{Way, MayBeSet, Fixed, Held, InMemory, Carried, Shared, Mark, Marks, Unmarked, Values, Number, IsLong, IsLoose, half_type}
use Rattle.simulation.specs.Carried.{HalfValues, Places, Kept, Scope, carried, mark_of}
use Rattle.simulation.specs.Steps.{bind_sim, pure_sim, defined_sim, give_sim}
use Rattle.simulation.specs.ScopeLaws.{Changes, object_sim, change_sim}
use Rattle.simulation.specs.ObjectLaws.{AreNamed}

module _ (n : ℕ) (R : Relation) (t : CType) where
  -- ---- what is asked of pairs of the type and of their halves

  -- related values are pairs of 32 bytes, and their halves are related
  pub record AreSplit (v w : Value) : Type 0 where
    pub a : List ℕ
    pub b : List ℕ
    pub first : v ≡ Value.R32 a
    pub second : w ≡ Value.R32 b
    pub long : length b ≡ 32
    pub low : HalfValues R t (half 0 a) (half 0 b)
    pub high : HalfValues R t (half 1 a) (half 1 b)

  abbrev pub Splits : Type 0
  Splits = (v w : Value) → R t v w → AreSplit v w

  abbrev pub Joins : Type 0
  Joins = (a b c d : List ℕ) → HalfValues R t a c → HalfValues R t b d → R t (Value.R32 (a ++ b)) (Value.R32 (c ++ d))

  abbrev pub AreLong : Type 0
  AreLong = (a b : List ℕ) → HalfValues R t a b → length b ≡ 16

  -- ---- halves of an object

  record BothHalves (l m : Location) : Type 0 where
    low : Options (HalfValues R t) (half_at 0 l) (half_at 0 m)
    high : Options (HalfValues R t) (half_at 1 l) (half_at 1 m)
    long_low : IsLong (half_at 0 m)
    long_high : IsLong (half_at 1 m)

  length_of_half : (p : List ℕ) → length p ≡ 32 → (length (half 0 p) ≡ 16) × (length (half 1 p) ≡ 16)
  length_of_half p e = (rw (length-take, length-drop) (omega (arith, e)), rw (length-take, length-drop) (omega (arith, e)))

  pair_halves : (l m : Location) (v w : Value) → l ≡ Apart (Some v) → m ≡ Apart (Some w) → AreSplit v w → BothHalves l m
  pair_halves l m v w e f s =
      let one : l ≡ Apart (Some (Value.R32 s.a)) = e ∙ ap (λ z. Apart (Some z)) s.first in
      let other : m ≡ Apart (Some (Value.R32 s.b)) = f ∙ ap (λ z. Apart (Some z)) s.second in
      let long = length_of_half s.b s.long in
      rw (one, other) (record { low = s.low; high = s.high; long_low = long.0; long_high = long.1 })

  loose_low : (m : Location) → IsLoose m → IsLong (half_at 0 m)
  loose_low (Apart (Some (Value.R32 p))) h = (length_of_half p h).0
  loose_low (Apart (Some (Value.Int a))) h = tt
  loose_low (Apart (Some (Value.R8 a))) h = tt
  loose_low (Apart (Some (Value.R16 a))) h = tt
  loose_low (Apart (Some (Value.At a))) h = tt
  loose_low (Apart None) h = tt
  loose_low (Halves a b) h = h.0
  loose_low (InBlock k) h = absurd h

  loose_high : (m : Location) → IsLoose m → IsLong (half_at 1 m)
  loose_high (Apart (Some (Value.R32 p))) h = (length_of_half p h).1
  loose_high (Apart (Some (Value.Int a))) h = tt
  loose_high (Apart (Some (Value.R8 a))) h = tt
  loose_high (Apart (Some (Value.R16 a))) h = tt
  loose_high (Apart (Some (Value.At a))) h = tt
  loose_high (Apart None) h = tt
  loose_high (Halves a b) h = h.1
  loose_high (InBlock k) h = absurd h

  places_halves : (l m : Location) → Splits → Places R t l m → BothHalves l m
  places_halves (Apart (Some v)) (Apart (Some w)) splits h = pair_halves (Apart (Some v)) (Apart (Some w)) v w refl refl (splits v w h)
  places_halves (Apart None) m splits h = record { low = tt; high = tt; long_low = loose_low m h; long_high = loose_high m h }
  places_halves (Halves a b) m splits h = record { low = h.1; high = h.2; long_low = loose_low m h.0; long_high = loose_high m h.0 }
  places_halves (Apart (Some v)) (Apart None) splits h = absurd h
  places_halves (Apart (Some v)) (Halves a b) splits h = absurd h
  places_halves (Apart (Some v)) (InBlock k) splits h = absurd h
  places_halves (InBlock k) m splits h = absurd h

  -- an object apart from memory
  abbrev pub IsOutside : Way → Type 0
  IsOutside InMemory = ⊥
  IsOutside way = Unit {0}

  kept_halves : (way : Way) (mark : Mark) (l m : Location) → IsOutside way → Splits → Kept R way t mark l m → BothHalves l m
  kept_halves MayBeSet mark l m out splits h = places_halves l m splits h
  kept_halves Fixed mark l m out splits h = pair_halves l m h.0 h.1 h.2.first h.2.second (splits h.0 h.1 h.2.values)
  kept_halves Held (Values v w) l m out splits h = pair_halves l m v w h.first h.second (splits v w h.values)
  kept_halves Held Unmarked l m out splits h = absurd h
  kept_halves Held (Number k) l m out splits h = absurd h
  kept_halves InMemory mark l m out splits h = absurd out

  in_registers : (o r : Option (List ℕ)) → Options (HalfValues R t) o r → Options (R (half_type t)) (option_map Value.R16 o) (option_map Value.R16 r)
  in_registers None r h = tt
  in_registers (Some a) (Some b) h = h
  in_registers (Some a) None h = absurd h

  half_above : (k : ℕ) (l : Location) → half_at 1 l ≡ half_at (suc k) l
  half_above k (Apart (Some (Value.R32 p))) = refl
  half_above k (Apart (Some (Value.Int a))) = refl
  half_above k (Apart (Some (Value.R8 a))) = refl
  half_above k (Apart (Some (Value.R16 a))) = refl
  half_above k (Apart (Some (Value.At a))) = refl
  half_above k (Apart None) = refl
  half_above k (Halves a b) = refl
  half_above k (InBlock i) = refl

  one_half : (k : ℕ) (l m : Location) → BothHalves l m → Options (HalfValues R t) (half_at k l) (half_at k m)
  one_half zero l m h = h.low
  one_half (suc k) l m h =
      subst (λ o. Options (HalfValues R t) o (half_at (suc k) m)) (half_above k l)
      (subst (λ o. Options (HalfValues R t) (half_at 1 l) o) (half_above k m) h.high)

  -- ---- a half that is set

  low_of : (c d : List ℕ) → length c ≡ 16 → half 0 (c ++ d) ≡ c
  low_of c d e = subst (λ k. take k (c ++ d) ≡ c) e (take-append_seam c d)

  high_of : (c d : List ℕ) → length c ≡ 16 → length d ≡ 16 → half 1 (c ++ d) ≡ d
  high_of c d e f = ap (take 16) (subst (λ k. drop k (c ++ d) ≡ d) e (drop-append_seam c d)) ∙ subst (λ k. take k d ≡ d) f (take-length d)

  pair_long : (c d : List ℕ) → length c ≡ 16 → length d ≡ 16 → length (c ++ d) ≡ 32
  pair_long c d e f = rw (length-append) (omega (arith, e, f))

  joined_places : (o u p q : Option (List ℕ)) → Joins → Options (HalfValues R t) o p → Options (HalfValues R t) u q → IsLong p → IsLong q
      → Places R t (joined o u) (joined p q)
  joined_places (Some a) (Some b) (Some c) (Some d) joins h k e f = joins a b c d h k
  joined_places (Some a) None (Some c) (Some d) joins h k e f = (pair_long c d e f, subst (λ z. HalfValues R t a z) (sym (low_of c d e)) h, tt)
  joined_places (Some a) None (Some c) None joins h k e f = ((e, tt), h, tt)
  joined_places None (Some b) (Some c) (Some d) joins h k e f = (pair_long c d e f, tt, subst (λ z. HalfValues R t b z) (sym (high_of c d e f)) k)
  joined_places None (Some b) None (Some d) joins h k e f = ((tt, f), tt, k)
  joined_places None None (Some c) (Some d) joins h k e f = (pair_long c d e f, tt, tt)
  joined_places None None (Some c) None joins h k e f = ((e, tt), tt, tt)
  joined_places None None None q joins h k e f = ((tt, f), tt, tt)
  joined_places (Some a) u None q joins h k e f = absurd h
  joined_places o (Some b) p None joins h k e f = absurd k

  half_set : (k : ℕ) (a b : List ℕ) (l m : Location) → Joins → AreLong → HalfValues R t a b → BothHalves l m → Places R t (with_half k a l) (with_half k b m)
  half_set zero a b l m joins long h k = joined_places (Some a) (half_at 1 l) (Some b) (half_at 1 m) joins h k.high (long a b h) k.long_high
  half_set (suc i) a b l m joins long h k = joined_places (half_at 0 l) (Some a) (half_at 0 m) (Some b) joins k.low h k.long_low (long a b h)

  module _ (scope : List Carried) (ks : Marks) where
    abbrev here : Objects
    here = Scope R scope ks

    -- half of an object, whose other half need not be set
    pub half_named_sim : (way : Way) (k : ℕ) (x : List ℕ) (u : CType) → carried x scope ≡ Some (Shared way x t u) → IsOutside way → Splits
        → Sim n (R (half_type t)) here here (object_of x >>= half_named k) (object_of x >>= half_named k)
    half_named_sim way k x u is out splits =
        bind_sim (object_sim R scope ks way x t u is) (λ b c h. defined_sim (option_map Value.R16 (half_at k b.location))
        (option_map Value.R16 (half_at k c.location))
        (in_registers (half_at k b.location) (half_at k c.location) (one_half k b.location c.location
        (kept_halves way (mark_of x scope ks) b.location c.location out splits h.1))))

    pub half_sim : (p q p' q' : Place) (v w v' w' : CType) (c d : Calls) (way : Way) (k : ℕ) (x : List ℕ) (u : CType)
        → carried x scope ≡ Some (Shared way x t u) → IsOutside way → Splits
        → Sim n (Given R (half_type t)) here here (expression (Node p v (Half (Node p' v' (Name x)) k)) c)
        (expression (Node q w (Half (Node q' w' (Name x)) k)) d)
    half_sim p q p' q' v w v' w' c d way k x u is out splits = give_sim R (half_type t) (half_named_sim way k x u is out splits)

    pub read_half_sim : (way : Way) (k : ℕ) (x : List ℕ) (u v w : CType) → carried x scope ≡ Some (Shared way x t u) → IsOutside way → Splits
        → Sim n (R (half_type t)) here here (read_target v (HalfNamed x k)) (read_target w (HalfNamed x k))
    read_half_sim way k x u v w is out splits = half_named_sim way k x u is out splits

    -- and a half gets a vector
    pub set_half_sim : (k : ℕ) (x : List ℕ) (u v w : CType) (a b : List ℕ) → carried x scope ≡ Some (Shared MayBeSet x t u) → Splits → Joins → AreLong
        → HalfValues R t a b
        → Sim n ◌≡◌ here here (set_target v (HalfNamed x k) (Value.R16 a)) (set_target w (HalfNamed x k) (Value.R16 b))
    set_half_sim k x u v w a b is splits joins long h = change_sim R scope ks x (with_half k a) (with_half k b)
        (subst (λ o. Changes R (with_half k a) (with_half k b) o (mark_of x scope ks)) (sym is)
        (λ l m i. half_set k a b l m joins long h (places_halves l m splits i)))

    -- half of a named object, as what an assignment sets
    pub half_target_sim : (p q : Place) (v w : CType) (c d : Calls) (k : ℕ) (x : List ℕ) (a b : Tree) → Sim n (AreNamed x) here here (target a c) (target b d)
        → Sim n (λ y z. (y ≡ HalfNamed x k) × (z ≡ HalfNamed x k)) here here (target (Node p v (Half a k)) c) (target (Node q w (Half b k)) d)
    half_target_sim p q v w c d k x a b h = bind_sim h (λ y z i. rw (i.first, i.second) (pure_sim (HalfNamed x k) (HalfNamed x k) (refl, refl)))

  -- half of a value that isn't a named object's
  pub value_half_sim : (E F : Objects) (p q : Place) (v w : CType) (c d : Calls) (k : ℕ) (a b : Tree) → name_in a ≡ None → name_in b ≡ None → Splits
      → Sim n (R t) E F (its_value (expression a c)) (its_value (expression b d))
      → Sim n (Given R (half_type t)) E F (expression (Node p v (Half a k)) c) (expression (Node q w (Half b k)) d)
  value_half_sim E F p q v w c d k a b e f splits h = rw (e, f) (give_sim R (half_type t) (bind_sim h (λ y z i. at k y z (splits y z i))))
    where
      at : (k : ℕ) (y z : Value) → AreSplit y z → Sim n (R (half_type t)) F F (half_of k y) (half_of k z)
      at zero y z s = rw (s.first, s.second) (pure_sim (Value.R16 (half 0 s.a)) (Value.R16 (half 0 s.b)) s.low)
      at (suc k) y z s = rw (s.first, s.second) (pure_sim (Value.R16 (half 1 s.a)) (Value.R16 (half 1 s.b)) s.high)
