-- Which blocks of a memory live, as blocks begin, change and end.
use Rattle.std.proofs.Common.{◌≡◌, ℕ, zero, suc, ◌<◌, ◌≤◌, ◌==◌, nat_lt, Bool, true, false, not, ◌&&◌, ◌||◌, List, [], ◌∷◌, ◌++◌, length, map, take, drop, Option, Some, None, refl, sym, ap, ◌∙◌, arith, slice_get, slice_index_or, slice_set, subst, reverse, inl, inr, ◌⊎◌, true≢false, if◌then◌else◌}
use Rattle.std.proofs.lemmas.List.{length-set, length-append, reverse-append}
use Rattle.std.proofs.lemmas.Bool.{and_parts, and_from, not-true, false≢true}
use Rattle.std.proofs.lemmas.Option.{slice_get_within, slice_get-get_or, same_Some}
use Rattle.c_memory.specs.declared.blocks.Block.{Block}
use Rattle.c_memory.specs.Memory.{ended, ended_from, overwritten, written_in, refilled, reaches}
use Rattle.c_memory.specs.Defined.{Leaves}
use Rattle.c_memory.specs.Living.{is_ended, has_none, is_among, fall, AreEnded}

-- ---- numbers that fall

pub fall_first : (n k : ℕ) (rest : List ℕ) → fall n (k ∷ rest) ≡ true → k < n
fall_first n k rest h = let p = and_parts (nat_lt k n) (fall k rest) h in grind (arith, p.0)

pub fall_more : (n m : ℕ) (living : List ℕ) → n ≤ m → fall n living ≡ true → fall m living ≡ true
fall_more n m [] l h = refl
fall_more n m (k ∷ rest) l h =
    let p = and_parts (nat_lt k n) (fall k rest) h in
    let below : nat_lt k m ≡ true = grind (arith, p.0, l) in
    and_from (nat_lt k m) (fall k rest) below p.1

pub fall_rest : (n k : ℕ) (rest : List ℕ) → fall n (k ∷ rest) ≡ true → fall n rest ≡ true
fall_rest n k rest h =
    let p = and_parts (nat_lt k n) (fall k rest) h in
    let below : k ≤ n = grind (arith, p.0) in
    fall_more k n rest below p.1

pub fall_below : (n k start : ℕ) (rest : List ℕ) → fall n (k ∷ rest) ≡ true → k < start → fall start (k ∷ rest) ≡ true
fall_below n k start rest h l =
    let p = and_parts (nat_lt k n) (fall k rest) h in
    let below : nat_lt k start ≡ true = grind (arith, l) in
    and_from (nat_lt k start) (fall k rest) below p.1

pub fall_push : (n m : ℕ) (living : List ℕ) → m ≡ suc n → fall n living ≡ true → fall m (n ∷ living) ≡ true
fall_push n m living e h =
    let below : nat_lt n m ≡ true = grind (arith, e) in
    and_from (nat_lt n m) (fall n living) below h

not_among : (n k : ℕ) (living : List ℕ) → fall n living ≡ true → n ≤ k → is_among k living ≡ false
not_among n k [] h l = refl
not_among n k (j ∷ rest) h l =
    let p = and_parts (nat_lt j n) (fall j rest) h in
    let other : (k == j) ≡ false = grind (arith, p.0, l) in
    let below : j ≤ k = grind (arith, p.0, l) in
    ap (λ b. b || is_among k rest) other ∙ not_among j k rest p.1 below

-- ---- blocks by their numbers

none_there : {A : Type 0} (xs : List A) → has_none xs ≡ true → xs ≡ []
none_there [] h = refl
none_there (x ∷ xs) h = absurd (false≢true h)

unreached : (w alive rest : Bool) → alive ≡ false → (w && (alive && rest)) ≡ false
unreached true true rest e = absurd (true≢false e)
unreached true false rest e = refl
unreached false alive rest e = refl

-- the block of a number after one has changed: that one, or another as before
set_get : (m : List Block) (i k : ℕ) (x b : Block) → slice_get (slice_set m i x) k ≡ Some b → ((k ≡ i) × (b ≡ x)) ⊎ (((k == i) ≡ false) × (slice_get m k ≡ Some b))
set_get [] i k x b e = absurd cc
set_get (y ∷ ys) zero zero x b e = inl (refl, sym (same_Some x b e))
set_get (y ∷ ys) zero (suc k) x b e = inr (grind arith, e)
set_get (y ∷ ys) (suc i) zero x b e = inr (grind arith, e)
set_get (y ∷ ys) (suc i) (suc k) x b e = up (set_get ys i k x b e)
  where
    up : ((k ≡ i) × (b ≡ x)) ⊎ (((k == i) ≡ false) × (slice_get ys k ≡ Some b)) → ((suc k ≡ suc i) × (b ≡ x)) ⊎ (((suc k == suc i) ≡ false) × (slice_get ys k ≡ Some b))
    up (inl p) = inl (ap suc p.0, p.1)
    up (inr p) = inr (grind (arith, p.0), p.1)

-- a block changes: it has ended, or hadn't
pub kept_at : (first : ℕ) (living : List ℕ) (m : List Block) (i : ℕ) (d new : Block) → i < length m →
    (is_ended (slice_index_or m i d) ≡ true → is_ended new ≡ true) → AreEnded first living m → AreEnded first living (slice_set m i new)
kept_at first living m i d new l keeps h k b e f n = go (set_get m i k new b e)
  where
    go : ((k ≡ i) × (b ≡ new)) ⊎ (((k == i) ≡ false) × (slice_get m k ≡ Some b)) → is_ended b ≡ true
    go (inl p) = ap is_ended p.1 ∙ keeps (h i (slice_index_or m i d) (slice_get-get_or m i d l) (subst (λ j. first ≤ j) p.0 f) (ap (λ j. is_among j living) (sym p.0) ∙ n))
    go (inr p) = h k b p.1 f n

-- one that ended is taken from the numbers
pub taken_at : (first : ℕ) (living : List ℕ) (m : List Block) (i : ℕ) (d : Block) → AreEnded first (i ∷ living) m → AreEnded first living (slice_set m i (ended (slice_index_or m i d)))
taken_at first living m i d h k b e f n = go (set_get m i k (ended (slice_index_or m i d)) b e)
  where
    go : ((k ≡ i) × (b ≡ ended (slice_index_or m i d))) ⊎ (((k == i) ≡ false) × (slice_get m k ≡ Some b)) → is_ended b ≡ true
    go (inl p) = ap is_ended p.1
    go (inr p) = h k b p.1 f (ap (λ s. s || is_among k living) p.0 ∙ n)

pub ended_at : (start : ℕ) (m : List Block) (i : ℕ) (d : Block) → start ≤ i → i < length m → ended_from start (slice_set m i (ended (slice_index_or m i d))) ≡ ended_from start m
ended_at start [] i d s l = absurd (omega (arith, l))
ended_at zero (b ∷ rest) zero d s l = refl
ended_at zero (b ∷ rest) (suc i) d s l = ap (λ all. ended b ∷ all) (ended_at zero rest i d (omega arith) (omega (arith, l)))
ended_at (suc start) (b ∷ rest) zero d s l = absurd (omega (arith, s))
ended_at (suc start) (b ∷ rest) (suc i) d s l = ap (λ all. b ∷ all) (ended_at start rest i d (omega (arith, s)) (omega (arith, l)))

-- one begins
push_get : (m : List Block) (k : ℕ) (x b : Block) → slice_get (m ++ x ∷ []) k ≡ Some b → (k == length m) ≡ false → slice_get m k ≡ Some b
push_get [] zero x b e n = absurd (true≢false n)
push_get [] (suc k) x b e n = absurd (cc)
push_get (y ∷ ys) zero x b e n = e
push_get (y ∷ ys) (suc k) x b e n = push_get ys k x b e (grind (arith, n))

pub begun_behind : (first : ℕ) (living : List ℕ) (m : List Block) (x : Block) → AreEnded first living m → AreEnded first (length m ∷ living) (m ++ x ∷ [])
begun_behind first living m x h k b e f n = go (k == length m) refl n
  where
    go : (t : Bool) → (k == length m) ≡ t → (t || is_among k living) ≡ false → is_ended b ≡ true
    go true t o = absurd cc
    go false t o = h k b (push_get m k x b e t) f o

-- where nothing is noted
pub none_noted : (first : ℕ) (living : List ℕ) (m : List Block) → length m ≤ first → AreEnded first living m
none_noted first living m l k b e f n = absurd (omega (arith, slice_get_within m k b e, l, f))

-- all from a number on have ended
ended_get : (start : ℕ) (m : List Block) (k : ℕ) (b : Block) → slice_get (ended_from start m) k ≡ Some b → (is_ended b ≡ true) ⊎ (slice_get m k ≡ Some b)
ended_get zero [] k b e = inr e
ended_get (suc start) [] k b e = inr e
ended_get zero (y ∷ ys) zero b e = inl (ap is_ended (sym (same_Some (ended y) b e)))
ended_get zero (y ∷ ys) (suc k) b e = ended_get zero ys k b e
ended_get (suc start) (y ∷ ys) zero b e = inr e
ended_get (suc start) (y ∷ ys) (suc k) b e = ended_get start ys k b e

pub ended_more : (first start : ℕ) (living : List ℕ) (m : List Block) → AreEnded first living m → AreEnded first living (ended_from start m)
ended_more first start living m h k b e f n = go (ended_get start m k b e)
  where
    go : (is_ended b ≡ true) ⊎ (slice_get m k ≡ Some b) → is_ended b ≡ true
    go (inl p) = p
    go (inr p) = h k b p f n

ended_already : (b : Block) → is_ended b ≡ true → ended b ≡ b
ended_already b h =
    let p = and_parts (not b.alive) (has_none b.bytes) h in
    ap (λ t. record b { bytes = []; alive = t }) (sym (not-true b.alive p.0)) ∙ ap (λ l. record b { bytes = l }) (sym (none_there b.bytes p.1))

all_ended : (start : ℕ) (m : List Block) → ((k : ℕ) (b : Block) → slice_get m k ≡ Some b → start ≤ k → is_ended b ≡ true) → ended_from start m ≡ m
all_ended zero [] h = refl
all_ended (suc start) [] h = refl
all_ended zero (b ∷ rest) h =
    ap (λ x. x ∷ map ended rest) (ended_already b (h zero b refl (omega arith))) ∙ ap (λ l. b ∷ l) (all_ended zero rest (λ k x e l. h (suc k) x e (omega arith)))
all_ended (suc start) (b ∷ rest) h = ap (λ l. b ∷ l) (all_ended start rest (λ k x e l. h (suc k) x e (omega (arith, l))))

-- the noted ones alone had to be ended
pub ended_whole : (first start : ℕ) (living : List ℕ) (m old : List Block) → first ≤ start → fall start living ≡ true → AreEnded first living m → ended_from start m ≡ ended_from start old → m ≡ ended_from start old
ended_whole first start living m old l f h e =
    sym (all_ended start m (λ k b there from. h k b there (omega (arith, l, from)) (not_among start k living f from))) ∙ e

pub ended_long : (start : ℕ) (m : List Block) → length (ended_from start m) ≡ length m
ended_long zero [] = refl
ended_long (suc start) [] = refl
ended_long zero (b ∷ rest) = ap suc (ended_long zero rest)
ended_long (suc start) (b ∷ rest) = ap suc (ended_long start rest)

-- a write and new bytes
pub write_keeps : (old : Block) (offset align : ℕ) (bytes : List ℕ) (answer : Option (Unit {0})) (new : Block) → Leaves (written_in (Some old) offset align bytes) old answer new → is_ended old ≡ true → is_ended new ≡ true
write_keeps old offset align bytes answer new h e =
    let p = and_parts (not old.alive) (has_none old.bytes) e in
    let dead : old.alive ≡ false = not-true old.alive p.0 in
    let nothing : (old.writable && reaches old offset align (length bytes)) ≡ false = unreached old.writable old.alive _ dead in
    ap is_ended ((subst (λ t. Leaves (if t then Some (record old { bytes = overwritten old.bytes offset bytes }) else None) old answer new) nothing h).1) ∙ e

pub refilled_at : (m : List Block) (block : ℕ) (bytes : List (Option ℕ)) (d : Block) → block < length m
    → slice_set m block (record (slice_index_or m block d) { bytes = bytes }) ≡ refilled block bytes m
refilled_at [] block bytes d h = absurd (omega (arith, h))
refilled_at (b ∷ rest) zero bytes d h = refl
refilled_at (b ∷ rest) (suc block) bytes d h = ap (λ all. b ∷ all) (refilled_at rest block bytes d (omega (arith, h)))

-- no block has the number
pub refilled_past : (m : List Block) (block : ℕ) (bytes : List (Option ℕ)) → length m ≤ block → m ≡ refilled block bytes m
refilled_past [] block bytes h = refl
refilled_past (b ∷ rest) zero bytes h = absurd (omega (arith, h))
refilled_past (b ∷ rest) (suc block) bytes h = ap (λ all. b ∷ all) (refilled_past rest block bytes (omega (arith, h)))

-- the first number from which it is noted what lives, where a block gets new bytes
pub refill_keeps : (first next count : ℕ) (living : List ℕ) (m : List Block) (i : ℕ) (d new : Block) → i < length m → count ≡ length m → next ≡ (if (slice_index_or m i d).alive then first else count) →
    AreEnded first living m → AreEnded next living (slice_set m i new)
refill_keeps first next count living m i d new l c e h = go (slice_index_or m i d).alive refl
  where
    dies : (alive none : Bool) → alive ≡ true → (not alive && none) ≡ true → is_ended new ≡ true
    dies true none t o = absurd (false≢true o)
    dies false none t o = absurd (false≢true t)

    go : (t : Bool) → (slice_index_or m i d).alive ≡ t → AreEnded next living (slice_set m i new)
    go true t =
        let same : first ≡ next = sym (e ∙ ap (λ b. if b then first else count) t) in
        subst (λ n. AreEnded n living (slice_set m i new)) same (kept_at first living m i d new l (λ o. dies (slice_index_or m i d).alive (has_none (slice_index_or m i d).bytes) t o) h)
    go false t =
        let same : count ≡ next = sym (e ∙ ap (λ b. if b then first else count) t) in
        none_noted next living (slice_set m i new) (omega (arith, same, c, length-set m i new))

-- a block begins, and is noted or isn't
pub push_noted : (first n : ℕ) (numbers numbers' : List ℕ) (m m' : List Block) (x : Block) → n ≡ length m → m' ≡ m ++ x ∷ [] → numbers' ≡ numbers ++ n ∷ [] →
    fall (length m) (reverse numbers) ≡ true → AreEnded first (reverse numbers) m → (fall (length m') (reverse numbers') ≡ true) × AreEnded first (reverse numbers') m'
push_noted first n numbers numbers' m m' x c e f h k =
    let turned : reverse numbers' ≡ length m ∷ reverse numbers = ap reverse f ∙ reverse-append numbers (n ∷ []) ∙ ap (λ j. j ∷ reverse numbers) c in
    let long : length m' ≡ suc (length m) = ap length e ∙ omega (arith, length-append m (x ∷ [])) in
    rw (turned, e) (subst (λ j. fall j (length m ∷ reverse numbers) ≡ true) (sym long ∙ ap length e) (fall_push (length m) (suc (length m)) (reverse numbers) refl h), begun_behind first (reverse numbers) m x k)

pub push_unnoted : (first : ℕ) (numbers numbers' : List ℕ) (m m' : List Block) (x : Block) → m' ≡ m ++ x ∷ [] → numbers' ≡ numbers → length m' ≤ first →
    fall (length m) (reverse numbers) ≡ true → (fall (length m') (reverse numbers') ≡ true) × AreEnded first (reverse numbers') m'
push_unnoted first numbers numbers' m m' x e f l h =
    let long : length m ≤ length m' = omega (arith, ap length e, length-append m (x ∷ [])) in
    (fall_more (length m) (length m') (reverse numbers') long (ap (λ j. fall (length m) (reverse j)) f ∙ h), none_noted first (reverse numbers') m' l)

-- a turn of the loop that ends the noted ones
pub end_turn : (start i : ℕ) (rest : List ℕ) (d new : Block) (m : List Block) → start ≤ i → fall (length m) (i ∷ rest) ≡ true → new ≡ ended (slice_index_or m i d) →
    (fall (length (slice_set m i new)) rest ≡ true) × ((first : ℕ) → AreEnded first (i ∷ rest) m → AreEnded first rest (slice_set m i new)) × (ended_from start (slice_set m i new) ≡ ended_from start m) × (length (slice_set m i new) ≡ length m)
end_turn start i rest d new m from f e =
    let below = fall_first (length m) i rest f in
    rw e (ap (λ n. fall n rest) (length-set m i _) ∙ fall_rest (length m) i rest f, (λ first h. taken_at first rest m i d h), ended_at start m i d from below, length-set m i _)

-- what ends the others, where the noted ones have ended
pub ended_others : (first start : ℕ) (living : List ℕ) (m new old : List Block) → new ≡ (if nat_lt start first then ended_from start m else m) → fall (length m) living ≡ true → fall start living ≡ true → AreEnded first living m →
    ended_from start m ≡ ended_from start old → (fall (length new) living ≡ true) × AreEnded first living new × (new ≡ ended_from start old)
ended_others first start living m new old e f g h same = go (nat_lt start first) refl
  where
    go : (t : Bool) → nat_lt start first ≡ t → (fall (length new) living ≡ true) × AreEnded first living new × (new ≡ ended_from start old)
    go true t =
        let it : new ≡ ended_from start m = e ∙ ap (λ b. if b then ended_from start m else m) t in
        rw it (ap (λ n. fall n living) (ended_long start m) ∙ f, ended_more first start living m h, same)
    go false t =
        let it : new ≡ m = e ∙ ap (λ b. if b then ended_from start m else m) t in
        let above : first ≤ start = grind (arith, t) in
        rw it (f, h, ended_whole first start living m old above g h same)
