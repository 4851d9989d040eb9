-- Laws of objects that begin and get values: apart from memory, in a block of both, or of the second unit alone.
use Rattle.std.proofs.Common.{◌≡◌, ℕ, zero, suc, ◌<◌, ◌^◌, List, [], ◌∷◌, ◌++◌, map, length, Bool, true, false, not, Some, None, refl, sym, ap, ◌∙◌, subst}
use Rattle.std.proofs.Common.{slice_get}
use Rattle.std.specs.Str.{bytes_eq}
use Rattle.std.proofs.lemmas.List.{length-map}
use Rattle.std.proofs.lemmas.Option.{same_Some}
use Rattle.std.proofs.lemmas.Slice.Eq.{bytes_eq-Decides}
use Rattle.c_tree.specs.declared.types.CType.{CType}
use Rattle.c_tree.specs.Tree.{Object}
use Rattle.c_memory.specs.declared.blocks.Block.{Block}
use Rattle.c_memory.specs.declared.value.Value.{Value}
use Rattle.c_memory.specs.Values.{AreBytes}
use Rattle.c_memory.specs.MeaningObjects.{block_of, unset_bytes, is_const, Target, Named, target_of}
use Rattle.c_memory.specs.MeaningState.{Location, Apart, Halves, InBlock, Binding, State, Out, Done, Turns, Undefined, Does, then_do, ◌>>=◌, ◌>>◌, changed}
use Rattle.c_memory.specs.MeaningState.{set_apart}
use Rattle.c_memory.specs.Meaning.{begin_object, first_value, filled, fill}
use Rattle.simulation.specs.Alike.{Relation, Covers, is_first, one_less, Blocks, Stayed, Stays, Objects, Alike, After, Ends, Sim}
use Rattle.simulation.specs.Carried.{Way, MayBeSet, Fixed, Held, InMemory, MayChange, Carried, Shared, Added, Halved, Mark, Marks, Unmarked, Values, Number}
use Rattle.simulation.specs.Carried.{IsApart, IsLoose, AreSet, Places, Kept, Scope, Begun, outer, inner}
use Rattle.simulation.specs.BlockLaws.{length_alike, add_alike, stays_same, begin_stays}
use Rattle.simulation.specs.Steps.{later_ends}
use Rattle.simulation.specs.ScopeLaws.{Binds}

-- ---- steps of one unit alone

-- a step of the second alone is done, and the states are alike afterwards
pub record Ahead {B : Type 0} (n : ℕ) (G : Objects) (q : Does B) (s t : State) : Type 0 where
  pub value : B
  pub state : State
  pub done : q t ≡ Done value state
  pub after : After n G t s state

-- a step of the first alone, where it is done, leaves the states alike
abbrev pub Behind : {A : Type 0} → ℕ → Objects → Out A → State → Type 0
Behind n G (Done a s) t = Alike n G s t
Behind n G Turns t = ⊥
Behind n G Undefined t = Unit {0}

behind_ends : {A B C : Type 0} (n : ℕ) (G H : Objects) (W : B → C → Type 0) (k : A → Does B) (q : Does C) (o : Out A) (t : State) → Behind n G o t
    → ((a : A) → Sim n W G H (k a) q) → Ends W (After n H t) (then_do o k) (q t)
behind_ends n G H W k q (Done a s) t h i = (i a).by s t h
behind_ends n G H W k q Turns t h i = absurd h
behind_ends n G H W k q Undefined t h i = tt

module _ {n : ℕ} {E G H : Objects} where
  pub ahead_sim : {A B C : Type 0} {W : A → C → Type 0} (p : Does A) (q : Does B) (k : B → Does C) → ((s t : State) → Alike n E s t → Ahead n G q s t)
      → ((b : B) → Sim n W G H p (k b)) → Sim n W E H p (q >>= k)
  ahead_sim {W = W} p q k h i = record {
    by = λ s t e.
        let a = h s t e in
        subst (λ o. Ends W (After n H t) (p s) (then_do o k)) (sym a.done) (later_ends n W H t a.state (p s) (k a.value a.state) a.after.stays
        ((i a.value).by s a.state a.after.alike));
  }

  pub behind_sim : {A B C : Type 0} {W : B → C → Type 0} (p : Does A) (k : A → Does B) (q : Does C) → ((s t : State) → Alike n E s t → Behind n G (p s) t)
      → ((a : A) → Sim n W G H (k a) q) → Sim n W E H (p >>= k) q
  behind_sim {W = W} p k q h i = record { by = λ s t e. behind_ends n G H W k q (p s) t (h s t e) i }

-- whatever the mark is
pub some_sim : {n : ℕ} {A B : Type 0} {V : A → B → Type 0} (E : Mark → Objects) (F : Objects) (p : Does A) (q : Does B)
    → ((mark : Mark) → Sim n V (E mark) F p q) → Sim n V (λ bs cs. (mark : Mark) × E mark bs cs) F p q
some_sim E F p q h = record { by = λ s t e. (h e.objects.0).by s t (record { objects = e.objects.1; memory = e.memory; left = e.left }) }

-- more is known of the objects before
pub stronger : {n : ℕ} {A B : Type 0} {V : A → B → Type 0} (E G F : Objects) (p : Does A) (q : Does B) → ((bs cs : List Binding) → E bs cs → G bs cs)
    → Sim n V G F p q → Sim n V E F p q
stronger E G F p q k h = record { by = λ s t e. h.by s t (record { objects = k s.objects t.objects e.objects; memory = e.memory; left = e.left }) }

-- ---- objects that begin

-- the block of an object that begins
abbrev pub first_block : Object → Block
first_block o = block_of o (not (is_const o)) (unset_bytes o.ty)

get_last : (w : List Block) (b : Block) → slice_get (w ++ (b ∷ [])) (length w) ≡ Some b
get_last [] b = refl
get_last (x ∷ w) b = get_last w b

module _ {n : ℕ} (R : Relation) (scope : List Carried) (ks : Marks) where
  -- apart from memory in both
  pub begin_apart_sim : (o o' : Object) (p q : Bool) → o'.name ≡ o.name → p ≡ false → q ≡ false
      → Sim n ◌≡◌ (Scope R scope ks) (Scope R (Shared MayBeSet o.name o.ty o'.ty ∷ scope) (inner Unmarked ks)) (begin_object o p) (begin_object o' q)
  begin_apart_sim o o' p q e f g = rw (f, g) (record {
    by = λ s t h. (
      refl,
      record {
        alike = record {
          objects = (record { name = refl; other_name = e; ty = refl; other_ty = refl }, tt, h.objects);
          memory =
              h.memory;
          left = h.left;
        };
        stays = stays_same t.memory;
      },
    );
  })

  -- in the second alone
  pub begin_added : (o : Object) (q : Bool) → q ≡ false → (s t : State) → Alike n (Scope R scope ks) s t
      → Ahead n (Scope R (Added o.name o.ty ∷ scope) (inner Unmarked ks)) (begin_object o q) s t
  begin_added o q e s t h = rw e (record {
    value = tt;
    state = record t { objects = record { name = o.name; ty = o.ty; location = Apart None } ∷ t.objects };
    done = refl;
    after = record {
      alike = record { objects = (record { name = refl; ty = refl }, tt, h.objects); memory = h.memory; left = h.left };
      stays = stays_same
          t.memory;
    };
  })

  -- a pair, and two objects for its halves
  pub begin_halved_sim : (o l h : Object) (half : CType) (p q r : Bool) → l.ty ≡ h.ty → p ≡ false → q ≡ false → r ≡ false
      → Sim n ◌≡◌ (Scope R scope ks) (Scope R (Halved o.name o.ty l.name h.name half l.ty ∷ scope) (inner Unmarked ks)) (begin_object o p)
      (begin_object l q >> begin_object h r)
  begin_halved_sim o l h half p q r same e f g = rw (e, f, g) (record {
    by = λ s t i. (
      refl,
      record {
        alike = record {
          objects = (
            record {
              whole = record { name = refl; ty = refl };
              low_half = record { name = refl; ty = refl };
              high_half = record { name = refl; ty = sym same };
              low_value = tt;
              high_value = tt;
              value = tt;
            },
            i.objects,
          );
          memory = i.memory;
          left = i.left;
        };
        stays = stays_same t.memory;
      },
    );
  })

  -- A block in both. What follows may use that the block of the second is the last one.
  pub begin_block_then : {A B : Type 0} (V : A → B → Type 0) (F : Objects) (o o' : Object) (p q : Bool) (f : Does A) (g : Does B) → o'.name ≡ o.name
      → p ≡ true → q ≡ true → Covers false (first_block o) (first_block o')
      → ((k : ℕ) (s t : State) → Alike n (Scope R (Shared InMemory o.name o.ty o'.ty ∷ scope) (inner (Number k) ks)) s t → slice_get t.memory k ≡ Some
      (first_block o') → Ends V (After n F t) (f s) (g t))
      → Sim n V (Scope R scope ks) F (begin_object o p >> f) (begin_object o' q >> g)
  begin_block_then V F o o' p q f g e i j c h = rw (i, j) (record {
    by = λ s t a.
        let after = record t {
          objects = record { name = o'.name; ty = o'.ty; location = InBlock (length t.memory) } ∷ t.objects;
          memory = t.memory ++
              (first_block o' ∷ []);
        } in
        later_ends n V F t after _ _ (begin_stays t.memory (first_block o'))
        (h (length t.memory) _ after (record {
          objects = (
            record { name = refl; other_name = e; ty = refl; other_ty = refl },
            (ap InBlock (length_alike n s.memory t.memory a.memory), refl),
            a.objects,
          );
          memory = add_alike n s.memory t.memory (first_block o) (first_block o') a.memory c;
          left = a.left;
        }) (get_last t.memory (first_block o')));
  })

  pub begin_block_sim : (o o' : Object) (p q : Bool) → o'.name ≡ o.name → p ≡ true → q ≡ true → Covers false (first_block o) (first_block o')
      → Sim n ◌≡◌ (Scope R scope ks) (Begun R (Shared InMemory o.name o.ty o'.ty) scope ks) (begin_object o p) (begin_object o' q)
  begin_block_sim o o' p q e i j c = rw (i, j) (record {
    by = λ s t a. (
      refl,
      record {
        alike = record {
          objects = (
            Number (length t.memory),
            (record { name = refl; other_name = e; ty = refl; other_ty = refl }, (ap InBlock (length_alike n s.memory t.memory a.memory), refl), a.objects),
          );
          memory = add_alike n s.memory t.memory (first_block o) (first_block o') a.memory c;
          left = a.left;
        };
        stays = begin_stays t.memory (first_block o');
      },
    );
  })

-- ---- values apart from memory

record AreApart (l m : Location) : Type 0 where
  first : IsApart l
  second : IsApart m

loose_apart : (m : Location) → IsLoose m → IsApart m
loose_apart (Apart v) h = tt
loose_apart (Halves a b) h = tt
loose_apart (InBlock k) h = absurd h

places_apart : (R : Relation) (s : CType) (l m : Location) → Places R s l m → AreApart l m
places_apart R s (Apart (Some v)) (Apart (Some w)) h = record { first = tt; second = tt }
places_apart R s (Apart None) m h = record { first = tt; second = loose_apart m h }
places_apart R s (Halves a b) m h = record { first = tt; second = loose_apart m h.0 }
places_apart R s (Apart (Some v)) (Apart None) h = absurd h
places_apart R s (Apart (Some v)) (Halves a b) h = absurd h
places_apart R s (Apart (Some v)) (InBlock k) h = absurd h
places_apart R s (InBlock k) m h = absurd h

kept_apart : (R : Relation) (way : Way) (s : CType) (mark : Mark) (l m : Location) → MayChange way → Kept R way s mark l m → AreApart l m
kept_apart R MayBeSet s mark l m may h = places_apart R s l m h
kept_apart R Fixed s mark l m may h = record { first = subst IsApart (sym h.2.first) tt; second = subst IsApart (sym h.2.second) tt }
kept_apart R Held s mark l m may h = absurd may
kept_apart R InMemory s mark l m may h = absurd may

value_apart : (b : Binding) (v : Value) (l : Location) → b.location ≡ l → IsApart l → first_value b v ≡ set_apart b.name v
value_apart b v (Apart o) e h = rw e refl
value_apart b v (Halves p q) e h = rw e refl
value_apart b v (InBlock k) e h = absurd h

target_apart : (b : Binding) (l : Location) → b.location ≡ l → IsApart l → target_of b ≡ Named b.name
target_apart b (Apart o) e h = rw e refl
target_apart b (Halves p q) e h = rw e refl
target_apart b (InBlock k) e h = absurd h

-- both are named
pub record AreNamed (x : List ℕ) (p q : Target) : Type 0 where
  pub first : p ≡ Named x
  pub second : q ≡ Named x

pub named_targets : (R : Relation) (way : Way) (x : List ℕ) (s t : CType) (mark : Mark) (b c : Binding) → MayChange way → Binds R way x s t mark b c
    → AreNamed x (target_of b) (target_of c)
named_targets R way x s t mark b c may h =
    let a = kept_apart R way s mark b.location c.location may h.1 in
    record { first = target_apart b b.location refl a.first ∙ ap Named h.0.name; second = target_apart c c.location refl a.second ∙ ap Named h.0.other_name }

pub record AreSetApart (x : List ℕ) (v w : Value) (b c : Binding) : Type 0 where
  pub first : first_value b v ≡ set_apart x v
  pub second : first_value c w ≡ set_apart x w

pub first_values : (R : Relation) (way : Way) (x : List ℕ) (s t : CType) (mark : Mark) (v w : Value) (b c : Binding) → MayChange way
    → Binds R way x s t mark b c → AreSetApart x v w b c
first_values R way x s t mark v w b c may h =
    let a = kept_apart R way s mark b.location c.location may h.1 in
    record {
      first = value_apart b v b.location refl a.first ∙ ap (λ y. set_apart y v) h.0.name;
      second = value_apart c w c.location refl a.second ∙ ap (λ y. set_apart y w) h.0.other_name;
    }

-- the innermost object gets a value, and is set from then on
front_fixed : (R : Relation) (x : List ℕ) (s t : CType) (way : Way) (scope : List Carried) (ks : Marks) (v w : Value) (bs cs : List Binding) → R s v w
    → Scope R (Shared way x s t ∷ scope) ks bs cs
    → Scope R (Shared Fixed x s t ∷ scope) ks (changed x (λ _. Apart (Some v)) bs) (changed x (λ _. Apart (Some w)) cs)
front_fixed R x s t way scope ks v w (b ∷ bs) (c ∷ cs) h k =
    let mine : bytes_eq x x ≡ true = (bytes_eq-Decides x x).1 refl in
    let one : bytes_eq x b.name ≡ true = ap (bytes_eq x) k.0.name ∙ mine in
    let other : bytes_eq x c.name ≡ true = ap (bytes_eq x) k.0.other_name ∙ mine in
    rw (one, other) (
      record { name = k.0.name; other_name = k.0.other_name; ty = k.0.ty; other_ty = k.0.other_ty },
      (v, w, record { first = refl; second = refl; values = h }),
      k.2,
    )
front_fixed R x s t way scope ks v w [] cs h k = absurd k
front_fixed R x s t way scope ks v w (b ∷ bs) [] h k = absurd k

pub set_front_sim : {n : ℕ} (R : Relation) (way : Way) (x : List ℕ) (s t : CType) (scope : List Carried) (ks : Marks) (v w : Value) → R s v w
    → Sim n ◌≡◌ (Scope R (Shared way x s t ∷ scope) ks) (Scope R (Shared Fixed x s t ∷ scope) ks) (set_apart x v) (set_apart x w)
set_front_sim R way x s t scope ks v w h = record {
  by = λ y z e. (
    refl,
    record {
      alike = record { objects = front_fixed R x s t way scope ks v w y.objects z.objects h e.objects; memory = e.memory; left = e.left };
      stays =
          stays_same z.memory;
    },
  );
}

-- one that is set may also be treated as one that may be
set_places : (R : Relation) (s : CType) (v w : Value) (l m : Location) → AreSet R s v w l m → Places R s l m
set_places R s v w l m h = subst (λ z. Places R s z m) (sym h.first) (subst (λ z. Places R s (Apart (Some v)) z) (sym h.second) h.values)

pub loosened : (R : Relation) (x : List ℕ) (s t : CType) (scope : List Carried) (ks : Marks) (bs cs : List Binding)
    → Scope R (Shared Fixed x s t ∷ scope) ks bs cs → Scope R (Shared MayBeSet x s t ∷ scope) ks bs cs
loosened R x s t scope ks (b ∷ bs) (c ∷ cs) h = (h.0, set_places R s h.1.0 h.1.1 b.location c.location h.1.2, h.2)
loosened R x s t scope ks [] cs h = absurd h
loosened R x s t scope ks (b ∷ bs) [] h = absurd h

-- the value of an added object, and that it is forgotten
added_front : (R : Relation) (x : List ℕ) (t : CType) (scope : List Carried) (ks : Marks) (v w : Value) (bs cs : List Binding)
    → Scope R (Added x t ∷ scope) ks bs cs
    → Scope R (Added x t ∷ scope) (inner (Values v w) (outer ks)) bs (changed x (λ _. Apart (Some w)) cs)
added_front R x t scope ks v w bs (c ∷ cs) k =
    let mine : bytes_eq x c.name ≡ true = ap (bytes_eq x) k.0.name ∙ (bytes_eq-Decides x x).1 refl in
    rw mine (record { name = k.0.name; ty = k.0.ty }, refl, k.2)
added_front R x t scope ks v w bs [] k = absurd k

pub set_added : {n : ℕ} (R : Relation) (x : List ℕ) (t : CType) (scope : List Carried) (ks : Marks) (v w : Value) (s u : State)
    → Alike n (Scope R (Added x t ∷ scope) ks) s u
    → Ahead n (Scope R (Added x t ∷ scope) (inner (Values v w) (outer ks))) (set_apart x w) s u
set_added R x t scope ks v w s u e = record {
  value = tt;
  state = record u { objects = changed x (λ _. Apart (Some w)) u.objects };
  done = refl;
  after = record {
    alike = record { objects = added_front R x t scope ks v w s.objects u.objects e.objects; memory = e.memory; left = e.left };
    stays =
        stays_same u.memory;
  };
}

pub forgotten : (R : Relation) (x : List ℕ) (t : CType) (scope : List Carried) (ks : Marks) (bs cs : List Binding) → Scope R (Added x t ∷ scope) ks bs cs
    → Scope R (Added x t ∷ scope) (inner Unmarked (outer ks)) bs cs
forgotten R x t scope ks bs (c ∷ cs) h = (h.0, tt, h.2)
forgotten R x t scope ks bs [] h = absurd h

-- ---- values of blocks

-- what follows a step may use that a block of the second that lived still does
pub with_block : {A B C D : Type 0} (n : ℕ) (V : A → B → Type 0) (W : C → D → Type 0) (F G : Objects) (t : State) (k : ℕ) (b : Block) (o : Out A) (r : Out B)
    (f : A → Does C) (g : B → Does D)
    → slice_get t.memory k ≡ Some b → b.alive ≡ true
    → Ends V (After n F t) o r → ((v : A) (w : B) (u y : State) (c : Block) → V v w → Alike n F u y → slice_get y.memory k ≡ Some c → Stayed b c → Ends W
    (After n G y) (f v u) (g w y))
    → Ends W (After n G t) (then_do o f) (then_do r g)
with_block n V W F G t k b Undefined r f g e live h i = tt
with_block n V W F G t k b Turns Turns f g e live h i = tt
with_block n V W F G t k b Turns (Done w y) f g e live h i = absurd h
with_block n V W F G t k b Turns Undefined f g e live h i = absurd h
with_block n V W F G t k b (Done v u) (Done w y) f g e live h i =
    let c = h.1.stays k b e live in
    later_ends n W G t y (f v u) (g w y) h.1.stays (i v w u y c.0 h.0 h.1.alike c.1 c.2)
with_block n V W F G t k b (Done v u) Turns f g e live h i = absurd h
with_block n V W F G t k b (Done v u) Undefined f g e live h i = absurd h

-- bytes that a block gets
pub record AreFirst (all : List ℕ) : Type 0 where
  pub bytes : AreBytes (map Some all)
  pub size : length all < 2 ^ 63

covers_filled : (x : Bool) (b c : Block) (bytes : List ℕ) → AreFirst bytes → Covers x b c
    → Covers x (record b { bytes = map Some bytes }) (record c { bytes = map Some bytes })
covers_filled x b c bytes f h =
    record { bytes = refl; alive = h.alive; align = h.align; writable = h.writable; are_bytes = f.bytes; size = rw (length-map) f.size; kept = h.kept }

pub filled_alike : (n : ℕ) (m w : List Block) (k : ℕ) (bytes : List ℕ) → AreFirst bytes → Blocks n m w → Blocks n (filled k bytes m) (filled k bytes w)
filled_alike n [] [] k bytes f h = h
filled_alike n (b ∷ m) (c ∷ w) zero bytes f h = (covers_filled (is_first n) b c bytes f h.0, h.1)
filled_alike n (b ∷ m) (c ∷ w) (suc k) bytes f h = (h.0, filled_alike (one_less n) m w k bytes f h.1)
filled_alike n [] (c ∷ w) k bytes f h = absurd h
filled_alike n (b ∷ m) [] k bytes f h = absurd h

map_long : (bytes : List ℕ) → length (map Some bytes) ≡ length bytes
map_long bytes = rw (length-map) refl

pub filled_stays : (w : List Block) (k : ℕ) (bytes : List ℕ) (c : Block) → slice_get w k ≡ Some c → length bytes ≡ length c.bytes → Stays w (filled k bytes w)
filled_stays [] k bytes c e f i b g live = absurd (cc)
filled_stays (x ∷ w) zero bytes c e f zero b g live =
    let one : x ≡ c = same_Some x c e in
    let same : x ≡ b = same_Some x b g in
    let long : length (map Some bytes) ≡ length b.bytes = map_long bytes ∙ f ∙ ap (λ z. length z.bytes) (sym one ∙ same) in (
      record x { bytes = map Some bytes },
      refl,
      record {
        alive = ap (λ z. z.alive) same ∙ live;
        size = long;
        writable = ap (λ z. z.writable) same;
        align = ap
            (λ z. z.align) same;
      },
    )
filled_stays (x ∷ w) zero bytes c e f (suc i) b g live = (b, g, record { alive = live; size = refl; writable = refl; align = refl })
filled_stays (x ∷ w) (suc k) bytes c e f zero b g live = (b, g, record { alive = live; size = refl; writable = refl; align = refl })
filled_stays (x ∷ w) (suc k) bytes c e f (suc i) b g live = filled_stays w k bytes c e f i b g live

-- a block of both gets the same bytes, as many as it has
pub fill_ends : (n : ℕ) (E : Objects) (k : ℕ) (bytes : List ℕ) (u y : State) (c : Block) → AreFirst bytes → Alike n E u y → slice_get y.memory k ≡ Some c
    → length bytes ≡ length c.bytes → Ends ◌≡◌ (After n E y) (fill k bytes u) (fill k bytes y)
fill_ends n E k bytes u y c f a e long = (
  refl,
  record {
    alike = record { objects = a.objects; memory = filled_alike n u.memory y.memory k bytes f a.memory; left = a.left };
    stays = filled_stays
        y.memory k bytes c e long;
  },
)
