-- Laws of a pair of the first unit whose halves are two objects of the second.
use Rattle.std.proofs.Common.{◌≡◌, ℕ, List, [], ◌∷◌, Bool, true, false, ◌||◌, Option, Some, None, refl, sym, ap, ◌∙◌, subst, if◌then◌else◌, ◌++◌}
use Rattle.std.specs.Prelude.{option_map}
use Rattle.std.specs.Str.{bytes_eq}
use Rattle.std.proofs.lemmas.Option.{same_Some}
use Rattle.std.proofs.lemmas.Slice.Eq.{bytes_eq-Decides}
use Rattle.c_tree.specs.declared.types.CType.{CType}
use Rattle.c_memory.specs.declared.value.Value.{Value}
use Rattle.c_memory.specs.MeaningState.{Location, Apart, Halves, InBlock, Binding, State, ◌>>=◌, defined, found, half_at, object_of, changed, change, set_apart}
use Rattle.c_memory.specs.MeaningState.{◌>>◌}
use Rattle.c_memory.specs.MeaningObjects.{half_named, value_named, value_at}
use Rattle.simulation.specs.Alike.{Relation, Objects, Alike, After, Ends, Sim}
use Rattle.simulation.specs.Carried.{Way, Carried, Shared, Added, Halved, Marks, InHalves, HalfAt, Scope, outer, is_named, carried}
use Rattle.simulation.specs.BlockLaws.{stays_same}
use Rattle.simulation.specs.ScopeLaws.{not_named}
use Rattle.simulation.specs.Steps.{after_same}

-- the objects that are found by the three names
pub record FoundHalves (R : Relation) (x : List ℕ) (s : CType) (low high : List ℕ) (h t : CType) (bs cs : List Binding) : Type 0 where
  pub b : Binding
  pub c : Binding
  pub d : Binding
  pub whole : found x bs ≡ Some b
  pub low_half : found low cs ≡ Some c
  pub high_half : found high cs ≡ Some d
  pub halves : InHalves R x s low high h t b c d

-- all three names find this entry
pub record FindIt (x low high : List ℕ) (k : Carried) (scope : List Carried) : Type 0 where
  pub whole : carried x scope ≡ Some k
  pub low_half : carried low scope ≡ Some k
  pub high_half : carried high scope ≡ Some k

-- an entry that isn't it is passed over by a name
passed : (v : Bool) (e k : Carried) (o : Option Carried) → (e ≡ k → v ≡ false) → (if v then Some e else o) ≡ Some k → (v ≡ false) × (o ≡ Some k)
passed false e k o h i = (refl, i)
passed true e k o h i = let wrong : true ≡ false = h (same_Some e k i) in absurd (cc)

module _ (R : Relation) (x : List ℕ) (s : CType) (low high : List ℕ) (h t : CType) where
  abbrev it : Carried
  it = Halved x s low high h t

  shared_not_it : (way : Way) (y : List ℕ) (u w : CType) (v : Bool) → Shared way y u w ≡ it → v ≡ false
  shared_not_it way y u w v e = absurd (cc)

  added_not_it : (y : List ℕ) (w : CType) (v : Bool) → Added y w ≡ it → v ≡ false
  added_not_it y w v e = absurd (cc)

  -- the entry itself
  found_here : (bs cs : List Binding) (b c d : Binding) → bytes_eq low high ≡ false → InHalves R x s low high h t b d c
      → FoundHalves R x s low high h t (b ∷ bs) (c ∷ d ∷ cs)
  found_here bs cs b c d other i =
      let first : bytes_eq x b.name ≡ true = ap (bytes_eq x) i.whole.name ∙ (bytes_eq-Decides x x).1 refl in
      let not_high : bytes_eq low c.name ≡ false = ap (bytes_eq low) i.high_half.name ∙ other in
      let second : bytes_eq low d.name ≡ true = ap (bytes_eq low) i.low_half.name ∙ (bytes_eq-Decides low low).1 refl in
      let third : bytes_eq high c.name ≡ true = ap (bytes_eq high) i.high_half.name ∙ (bytes_eq-Decides high high).1 refl in
      record {
        b = b;
        c = d;
        d = c;
        whole = ap (λ z. if z then Some b else found x bs) first;
        low_half = ap (λ z. if z then Some c else if bytes_eq low d.name then Some d else found low cs) not_high ∙ ap
            (λ z. if z then Some d else found low cs) second;
        high_half = ap (λ z. if z then Some c else if bytes_eq high d.name then Some d else found high cs) third;
        halves = i;
      }

  -- a name that isn't among the three of an entry
  skipped : (y : List ℕ) (c d : Binding) (bs : List Binding) → bytes_eq y c.name ≡ false → bytes_eq y d.name ≡ false → found y (c ∷ d ∷ bs) ≡ found y bs
  skipped y c d bs e f = ap (λ v. if v then Some c else if bytes_eq y d.name then Some d else found y bs) e ∙ ap (λ v. if v then Some d else found y bs) f

  mine : is_named x it ≡ true
  mine = ap (λ v. v || (bytes_eq x low || bytes_eq x high)) ((bytes_eq-Decides x x).1 refl)

  not_it : (k : Carried) (v : Bool) → is_named x k ≡ false → k ≡ it → v ≡ false
  not_it k v e f = let wrong : false ≡ true = sym e ∙ ap (is_named x) f ∙ mine in absurd (cc)

  found_halves : (scope : List Carried) (ks : Marks) (bs cs : List Binding) → bytes_eq low high ≡ false → Scope R scope ks bs cs → FindIt x low high it scope
      → FoundHalves R x s low high h t bs cs
  found_halves [] ks bs cs other i f = let e = f.whole in absurd (cc)
  found_halves (Shared way y u w ∷ rest) ks (b ∷ bs) (c ∷ cs) other i f =
      let p = passed (bytes_eq x y) (Shared way y u w) it (carried x rest) (shared_not_it way y u w (bytes_eq x y)) f.whole in
      let q = passed (bytes_eq low y) (Shared way y u w) it (carried low rest) (shared_not_it way y u w (bytes_eq low y)) f.low_half in
      let r = passed (bytes_eq high y) (Shared way y u w) it (carried high rest) (shared_not_it way y u w (bytes_eq high y)) f.high_half in
      let g = found_halves rest (outer ks) bs cs other i.2 (record { whole = p.1; low_half = q.1; high_half = r.1 }) in
      record {
        b = g.b;
        c = g.c;
        d = g.d;
        whole = ap (λ z. if z then Some b else found x bs) (ap (bytes_eq x) i.0.name ∙ p.0) ∙ g.whole;
        low_half = ap (λ z. if z then Some c else found low cs) (ap (bytes_eq low) i.0.other_name ∙ q.0) ∙ g.low_half;
        high_half = ap (λ z. if z then Some c else found high cs) (ap (bytes_eq high) i.0.other_name ∙ r.0) ∙ g.high_half;
        halves = g.halves;
      }
  found_halves (Added y w ∷ rest) ks bs (c ∷ cs) other i f =
      let p = passed (bytes_eq x y) (Added y w) it (carried x rest) (added_not_it y w (bytes_eq x y)) f.whole in
      let q = passed (bytes_eq low y) (Added y w) it (carried low rest) (added_not_it y w (bytes_eq low y)) f.low_half in
      let r = passed (bytes_eq high y) (Added y w) it (carried high rest) (added_not_it y w (bytes_eq high y)) f.high_half in
      let g = found_halves rest (outer ks) bs cs other i.2 (record { whole = p.1; low_half = q.1; high_half = r.1 }) in
      record {
        b = g.b;
        c = g.c;
        d = g.d;
        whole = g.whole;
        low_half = ap (λ z. if z then Some c else found low cs) (ap (bytes_eq low) i.0.name ∙ q.0) ∙ g.low_half;
        high_half = ap (λ z. if z then Some c else found high cs) (ap (bytes_eq high) i.0.name ∙ r.0) ∙ g.high_half;
        halves = g.halves;
      }
  found_halves (Halved y z l g u w ∷ rest) ks (b ∷ bs) (c ∷ d ∷ cs) other i f =
      at (is_named x (Halved y z l g u w)) refl f.whole (λ j. found_halves rest (outer ks) bs cs other i.1 j)
    where
      at : (v : Bool) → is_named x (Halved y z l g u w) ≡ v → (if v then Some (Halved y z l g u w) else carried x rest) ≡ Some it
          → (FindIt x low high it rest → FoundHalves R x s low high h t bs cs)
          → FoundHalves R x s low high h t (b ∷ bs) (c ∷ d ∷ cs)
      at true e k next =
          let same = same_Some (Halved y z l g u w) it k in
          let here = subst (λ o. Scope R (o ∷ rest) ks (b ∷ bs) (c ∷ d ∷ cs)) same i in
          found_here bs cs b c d other here.0
      at false e k next =
          let q = passed (is_named low (Halved y z l g u w)) (Halved y z l g u w) it (carried low rest)
          (not_it (Halved y z l g u w) (is_named low (Halved y z l g u w)) e) f.low_half in
          let r = passed (is_named high (Halved y z l g u w)) (Halved y z l g u w) it (carried high rest)
          (not_it (Halved y z l g u w) (is_named high (Halved y z l g u w)) e) f.high_half in
          let m = next (record { whole = k; low_half = q.1; high_half = r.1 }) in
          let for_x = not_named R x y l g b c d i.0.whole.name i.0.high_half.name i.0.low_half.name e in
          let for_low = not_named R low y l g b c d i.0.whole.name i.0.high_half.name i.0.low_half.name q.0 in
          let for_high = not_named R high y l g b c d i.0.whole.name i.0.high_half.name i.0.low_half.name r.0 in
          record {
            b = m.b;
            c = m.c;
            d = m.d;
            whole = ap (λ v. if v then Some b else found x bs) for_x.first ∙ m.whole;
            low_half = skipped low c d cs for_low.second for_low.third ∙ m.low_half;
            high_half = skipped high c d cs for_high.second for_high.third ∙ m.high_half;
            halves = m.halves;
          }
  found_halves (Shared way y u w ∷ rest) ks [] cs other i f = absurd i
  found_halves (Shared way y u w ∷ rest) ks (b ∷ bs) [] other i f = absurd i
  found_halves (Added y w ∷ rest) ks bs [] other i f = absurd i
  found_halves (Halved y z l g u w ∷ rest) ks [] cs other i f = absurd i
  found_halves (Halved y z l g u w ∷ rest) ks (b ∷ bs) [] other i f = absurd i
  found_halves (Halved y z l g u w ∷ rest) ks (b ∷ bs) (c ∷ []) other i f = absurd i

  -- ---- a pair that changes, and the objects for its halves

  module _ (f g k : Location → Location) (keeps : (b c d : Binding) → InHalves R x s low high h t b c d
      → InHalves R x s low high h t (record b { location = f b.location }) (record c { location = g c.location }) (record d { location = k d.location })) where
    changed_here : (rest : List Carried) (ks : Marks) (bs cs : List Binding) (b c d : Binding) → bytes_eq low high ≡ false → InHalves R x s low high h t b d c
        → Scope R rest (outer ks) bs cs → Scope R (it ∷ rest) ks (changed x f (b ∷ bs)) (changed high k (changed low g (c ∷ d ∷ cs)))
    changed_here rest ks bs cs b c d other i j =
        let first : bytes_eq x b.name ≡ true = ap (bytes_eq x) i.whole.name ∙ (bytes_eq-Decides x x).1 refl in
        let not_high : bytes_eq low c.name ≡ false = ap (bytes_eq low) i.high_half.name ∙ other in
        let second : bytes_eq low d.name ≡ true = ap (bytes_eq low) i.low_half.name ∙ (bytes_eq-Decides low low).1 refl in
        let third : bytes_eq high c.name ≡ true = ap (bytes_eq high) i.high_half.name ∙ (bytes_eq-Decides high high).1 refl in
        rw (first, not_high, second, third) (keeps b d c i, j)

    kept_behind : (y : List ℕ) (v : Bool) (l : Location → Location) (c : Binding) (cs : List Binding) → bytes_eq y c.name ≡ v → v ≡ false
        → changed y l (c ∷ cs) ≡ c ∷ changed y l cs
    kept_behind y v l c cs e i = ap (λ z. if z then record c { location = l c.location } ∷ cs else c ∷ changed y l cs) (e ∙ i)

    both_behind : (c : Binding) (cs : List Binding) → bytes_eq low c.name ≡ false → bytes_eq high c.name ≡ false
        → changed high k (changed low g (c ∷ cs)) ≡ c ∷ changed high k (changed low g cs)
    both_behind c cs e i = ap (changed high k) (kept_behind low false g c cs e refl) ∙ kept_behind high false k c (changed low g cs) i refl

    pub changed_halves : (scope : List Carried) (ks : Marks) (bs cs : List Binding) → bytes_eq low high ≡ false → Scope R scope ks bs cs
        → FindIt x low high it scope
        → Scope R scope ks (changed x f bs) (changed high k (changed low g cs))
    changed_halves [] ks bs cs other i e = let w = e.whole in absurd (cc)
    changed_halves (Shared way y u w ∷ rest) ks (b ∷ bs) (c ∷ cs) other i e =
        let p = passed (bytes_eq x y) (Shared way y u w) it (carried x rest) (shared_not_it way y u w (bytes_eq x y)) e.whole in
        let q = passed (bytes_eq low y) (Shared way y u w) it (carried low rest) (shared_not_it way y u w (bytes_eq low y)) e.low_half in
        let r = passed (bytes_eq high y) (Shared way y u w) it (carried high rest) (shared_not_it way y u w (bytes_eq high y)) e.high_half in
        let m = changed_halves rest (outer ks) bs cs other i.2 (record { whole = p.1; low_half = q.1; high_half = r.1 }) in
        subst (λ z. Scope R (Shared way y u w ∷ rest) ks z (changed high k (changed low g (c ∷ cs))))
        (sym (kept_behind x false f b bs (ap (bytes_eq x) i.0.name ∙ p.0) refl))
        (subst (λ z. Scope R (Shared way y u w ∷ rest) ks (b ∷ changed x f bs) z)
        (sym (both_behind c cs (ap (bytes_eq low) i.0.other_name ∙ q.0) (ap (bytes_eq high) i.0.other_name ∙ r.0))) (i.0, i.1, m))
    changed_halves (Added y w ∷ rest) ks bs (c ∷ cs) other i e =
        let p = passed (bytes_eq x y) (Added y w) it (carried x rest) (added_not_it y w (bytes_eq x y)) e.whole in
        let q = passed (bytes_eq low y) (Added y w) it (carried low rest) (added_not_it y w (bytes_eq low y)) e.low_half in
        let r = passed (bytes_eq high y) (Added y w) it (carried high rest) (added_not_it y w (bytes_eq high y)) e.high_half in
        let m = changed_halves rest (outer ks) bs cs other i.2 (record { whole = p.1; low_half = q.1; high_half = r.1 }) in
        subst (λ z. Scope R (Added y w ∷ rest) ks (changed x f bs) z) (sym (both_behind c cs (ap (bytes_eq low) i.0.name ∙ q.0)
        (ap (bytes_eq high) i.0.name ∙ r.0))) (i.0, i.1, m)
    changed_halves (Halved y z l v u w ∷ rest) ks (b ∷ bs) (c ∷ d ∷ cs) other i e =
        at (is_named x (Halved y z l v u w)) refl e.whole (λ j. changed_halves rest (outer ks) bs cs other i.1 j)
      where
        at : (v' : Bool) → is_named x (Halved y z l v u w) ≡ v' → (if v' then Some (Halved y z l v u w) else carried x rest) ≡ Some it
            → (FindIt x low high it rest → Scope R rest (outer ks) (changed x f bs) (changed high k (changed low g cs)))
            → Scope R (Halved y z l v u w ∷ rest) ks (changed x f (b ∷ bs)) (changed high k (changed low g (c ∷ d ∷ cs)))
        at true o same next =
            let it_is = same_Some (Halved y z l v u w) it same in
            let here = subst (λ a. Scope R (a ∷ rest) ks (b ∷ bs) (c ∷ d ∷ cs)) it_is i in
            subst (λ a. Scope R (a ∷ rest) ks (changed x f (b ∷ bs)) (changed high k (changed low g (c ∷ d ∷ cs)))) (sym it_is)
            (changed_here rest ks bs cs b c d other here.0 here.1)
        at false o same next =
            let q = passed (is_named low (Halved y z l v u w)) (Halved y z l v u w) it (carried low rest)
            (not_it (Halved y z l v u w) (is_named low (Halved y z l v u w)) o) e.low_half in
            let r = passed (is_named high (Halved y z l v u w)) (Halved y z l v u w) it (carried high rest)
            (not_it (Halved y z l v u w) (is_named high (Halved y z l v u w)) o) e.high_half in
            let m = next (record { whole = same; low_half = q.1; high_half = r.1 }) in
            let for_x = not_named R x y l v b c d i.0.whole.name i.0.high_half.name i.0.low_half.name o in
            let for_low = not_named R low y l v b c d i.0.whole.name i.0.high_half.name i.0.low_half.name q.0 in
            let for_high = not_named R high y l v b c d i.0.whole.name i.0.high_half.name i.0.low_half.name r.0 in
            let two : changed high k (changed low g (c ∷ d ∷ cs)) ≡ c ∷ d ∷ changed high k (changed low g cs) =
            ap (λ a. changed high k a) (kept_behind low false g c (d ∷ cs) for_low.second refl) ∙ kept_behind high false k c
            (changed low g (d ∷ cs)) for_high.second refl
            ∙ ap (λ a. c ∷ a) (both_behind d cs for_low.third for_high.third) in
            subst (λ a. Scope R (Halved y z l v u w ∷ rest) ks a (changed high k (changed low g (c ∷ d ∷ cs))))
            (sym (kept_behind x false f b bs for_x.first refl))
            (subst (λ a. Scope R (Halved y z l v u w ∷ rest) ks (b ∷ changed x f bs) a) (sym two) (i.0, m))
    changed_halves (Shared way y u w ∷ rest) ks [] cs other i e = absurd i
    changed_halves (Shared way y u w ∷ rest) ks (b ∷ bs) [] other i e = absurd i
    changed_halves (Added y w ∷ rest) ks bs [] other i e = absurd i
    changed_halves (Halved y z l v u w ∷ rest) ks [] cs other i e = absurd i
    changed_halves (Halved y z l v u w ∷ rest) ks (b ∷ bs) [] other i e = absurd i
    changed_halves (Halved y z l v u w ∷ rest) ks (b ∷ bs) (c ∷ []) other i e = absurd i

    -- the first changes its pair, and the second both objects
    pub change_halves_sim : (n : ℕ) (scope : List Carried) (ks : Marks) → bytes_eq low high ≡ false → FindIt x low high it scope
        → Sim n ◌≡◌ (Scope R scope ks) (Scope R scope ks) (change x f) (change low g >> change high k)
    change_halves_sim n scope ks other it_is = record {
      by = λ u v a. (
        refl,
        record {
          alike = record { objects = changed_halves scope ks u.objects v.objects other a.objects it_is; memory = a.memory; left = a.left };
          stays = stays_same v.memory;
        },
      );
    }

  -- a value of the pair, and the registers that are its halves
  pub record AreHalves (v : Value) (a b : List ℕ) : Type 0 where
    pub low_value : HalfAt R h (half_at 0 (Apart (Some v))) (Apart (Some (Value.R16 a)))
    pub high_value : HalfAt R h (half_at 1 (Apart (Some v))) (Apart (Some (Value.R16 b)))
    pub value : R s v (Value.R32 (a ++ b))

  -- the pair gets a value, and both objects their halves of it
  pub set_halves_sim : (n : ℕ) (scope : List Carried) (ks : Marks) (v : Value) (a b : List ℕ) → bytes_eq low high ≡ false → FindIt x low high it scope
      → AreHalves v a b
      → Sim n ◌≡◌ (Scope R scope ks) (Scope R scope ks) (set_apart x v) (set_apart low (Value.R16 a) >> set_apart high (Value.R16 b))
  set_halves_sim n scope ks v a b other it_is halves =
      change_halves_sim (λ _. Apart (Some v)) (λ _. Apart (Some (Value.R16 a))) (λ _. Apart (Some (Value.R16 b))) (λ y z w i. record {
        whole = record { name = i.whole.name; ty = i.whole.ty };
        low_half = record { name = i.low_half.name; ty = i.low_half.ty };
        high_half = record { name = i.high_half.name; ty = i.high_half.ty };
        low_value = halves.low_value;
        high_value = halves.high_value;
        value = halves.value;
      }) n scope ks other it_is

  module _ (n : ℕ) (scope : List Carried) (ks : Marks) (other : bytes_eq low high ≡ false) (it_is : FindIt x low high it scope) where
    abbrev here : Objects
    here = Scope R scope ks

    half_ends : (o : Option (List ℕ)) (w : CType) (m : Location) (u v : State) → Alike n here u v → HalfAt R h o m
        → Ends (R h) (After n here v) (defined (option_map Value.R16 o) u) (value_at w m v)
    half_ends None w m u v a i = tt
    half_ends (Some r) w (Apart (Some z)) u v a i = (i, after_same n here u v a)
    half_ends (Some r) w (Apart None) u v a i = absurd i
    half_ends (Some r) w (Halves p q) u v a i = absurd i
    half_ends (Some r) w (InBlock k) u v a i = absurd i

    -- a half of the pair is the object for it
    pub low_half_sim : Sim n (R h) here here (object_of x >>= half_named 0) (object_of low >>= value_named)
    low_half_sim = record {
      by = λ u v a.
          let f = found_halves scope ks u.objects v.objects other a.objects it_is in
          rw (f.whole, f.low_half) (half_ends (half_at 0 f.b.location) f.c.ty f.c.location u v a f.halves.low_value);
    }

    pub high_half_sim : Sim n (R h) here here (object_of x >>= half_named 1) (object_of high >>= value_named)
    high_half_sim = record {
      by = λ u v a.
          let f = found_halves scope ks u.objects v.objects other a.objects it_is in
          rw (f.whole, f.high_half) (half_ends (half_at 1 f.b.location) f.d.ty f.d.location u v a f.halves.high_value);
    }
