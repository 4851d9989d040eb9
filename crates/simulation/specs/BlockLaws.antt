-- Memories of which one covers the other are read, written and ended alike, and blocks that live stay.
use Rattle.std.proofs.Common.{◌≡◌, ℕ, zero, suc, ◌+◌, ◌≤◌, ◌%◌, ◌==◌, List, [], ◌∷◌, ◌++◌, map, take, drop, length, Bool, true, false, ◌&&◌, Option, Some, None}
use Rattle.std.proofs.Common.{refl, ap, ◌∙◌, subst, arith, nat_le, slice_get, slice_set, if◌then◌else◌}
use Rattle.std.specs.Prelude.{option_map}
use Rattle.std.proofs.lemmas.Bool.{and_parts}
use Rattle.std.proofs.lemmas.List.{length-take, length-drop, length-append, length-map}
use Rattle.std.proofs.lemmas.Option.{same_Some}
use Rattle.c_memory.specs.declared.blocks.Block.{Block}
use Rattle.c_memory.specs.declared.memory.Pointer.{Pointer}
use Rattle.c_memory.specs.declared.memory.Pointer.TheVariants.{Null, At}
use Rattle.c_memory.specs.Memory.{reaches, overwritten, written_in, after_write, ended, ended_from}
use Rattle.c_memory.specs.Values.{AreBytes}
use Rattle.simulation.specs.Alike.{Covers, is_first, one_less, Blocks, Stayed, Stays}

-- every block of the first memory has its like in the second
abbrev pub Paired : Option Block → Option Block → Type 0
Paired None None = Unit {0}
Paired (Some b) (Some c) = (e : Bool) × Covers e b c
Paired _ _ = ⊥

pub get_alike : (n : ℕ) (m w : List Block) (k : ℕ) → Blocks n m w → Paired (slice_get m k) (slice_get w k)
get_alike n [] [] k h = tt
get_alike n (b ∷ m) (c ∷ w) zero h = (is_first n, h.0)
get_alike n (b ∷ m) (c ∷ w) (suc k) h = get_alike (one_less n) m w k h.1
get_alike n [] (c ∷ w) k h = absurd h
get_alike n (b ∷ m) [] k h = absurd h

pub length_alike : (n : ℕ) (m w : List Block) → Blocks n m w → length m ≡ length w
length_alike n [] [] h = refl
length_alike n (b ∷ m) (c ∷ w) h = ap suc (length_alike (one_less n) m w h.1)
length_alike n [] (c ∷ w) h = absurd h
length_alike n (b ∷ m) [] h = absurd h

-- the blocks of one number change alike
pub set_alike : (n : ℕ) (m w : List Block) (k : ℕ) (b c : Block) → Blocks n m w
    → ((x y : Block) (e : Bool) → slice_get m k ≡ Some x → slice_get w k ≡ Some y → Covers e x y → Covers e b c)
    → Blocks n (slice_set m k b) (slice_set w k c)
set_alike n [] [] k b c h f = h
set_alike n (x ∷ m) (y ∷ w) zero b c h f = (f x y (is_first n) refl refl h.0, h.1)
set_alike n (x ∷ m) (y ∷ w) (suc k) b c h f = (h.0, set_alike (one_less n) m w k b c h.1 f)
set_alike n [] (y ∷ w) k b c h f = absurd h
set_alike n (x ∷ m) [] k b c h f = absurd h

-- a block that is added behind the compared ones
pub add_alike : (n : ℕ) (m w : List Block) (b c : Block) → Blocks n m w → Covers false b c → Blocks n (m ++ (b ∷ [])) (w ++ (c ∷ []))
add_alike zero [] [] b c i k = (k, tt)
add_alike (suc n) [] [] b c i k = absurd i
add_alike n (x ∷ m) (y ∷ w) b c i k = (i.0, add_alike (one_less n) m w b c i.1 k)
add_alike n [] (y ∷ w) b c i k = absurd i
add_alike n (x ∷ m) [] b c i k = absurd i

-- blocks that end
pub ended_alike : (n : ℕ) (m w : List Block) → Blocks n m w → Blocks n (map ended m) (map ended w)
ended_alike n [] [] h = h
ended_alike n (b ∷ m) (c ∷ w) h = (
  record { bytes = refl; alive = refl; align = h.0.align; writable = h.0.writable; are_bytes = tt; size = omega arith; kept = h.0.kept },
  ended_alike (one_less n) m w h.1,
)
ended_alike n [] (c ∷ w) h = absurd h
ended_alike n (b ∷ m) [] h = absurd h

pub ended_from_alike : (n : ℕ) (k : ℕ) (m w : List Block) → Blocks n m w → Blocks n (ended_from k m) (ended_from k w)
ended_from_alike n zero m w h = ended_alike n m w h
ended_from_alike n (suc k) [] [] h = h
ended_from_alike n (suc k) (b ∷ m) (c ∷ w) h = (h.0, ended_from_alike (one_less n) k m w h.1)
ended_from_alike n (suc k) [] (c ∷ w) h = absurd h
ended_from_alike n (suc k) (b ∷ m) [] h = absurd h

-- an access of alignment a' may be made wherever one of alignment a may
pub record Finer (a' a : ℕ) : Type 0 where
  pub least : a' ≤ a
  pub multiple : (o : ℕ) → (o % a == 0) ≡ true → (o % a' == 0) ≡ true

pub finer_one : (a : ℕ) → 1 ≤ a → Finer 1 a
finer_one a h = record { least = h; multiple = λ o e. grind arith }

pub finer_same : (a : ℕ) → Finer a a
finer_same a = record { least = omega arith; multiple = λ o e. e }

pub le_true : (a b : ℕ) → nat_le a b ≡ true → a ≤ b
le_true a b h = grind (arith, h)

pub true_le : (a b : ℕ) → a ≤ b → nat_le a b ≡ true
true_le a b h = grind (arith, h)

-- bytes of a list
pub are_bytes_taken : (k : ℕ) (xs : List (Option ℕ)) → AreBytes xs → AreBytes (take k xs)
are_bytes_taken zero xs h = tt
are_bytes_taken (suc k) [] h = tt
are_bytes_taken (suc k) (None ∷ xs) h = are_bytes_taken k xs h
are_bytes_taken (suc k) (Some x ∷ xs) h = (h.0, are_bytes_taken k xs h.1)

pub are_bytes_dropped : (k : ℕ) (xs : List (Option ℕ)) → AreBytes xs → AreBytes (drop k xs)
are_bytes_dropped zero xs h = h
are_bytes_dropped (suc k) [] h = tt
are_bytes_dropped (suc k) (None ∷ xs) h = are_bytes_dropped k xs h
are_bytes_dropped (suc k) (Some x ∷ xs) h = are_bytes_dropped k xs h.1

pub are_bytes_joined : (xs ys : List (Option ℕ)) → AreBytes xs → AreBytes ys → AreBytes (xs ++ ys)
are_bytes_joined [] ys h k = k
are_bytes_joined (None ∷ xs) ys h k = are_bytes_joined xs ys h k
are_bytes_joined (Some x ∷ xs) ys h k = (h.0, are_bytes_joined xs ys h.1 k)

pub picked : {A : Type 0} (v r : Bool) (x : A) → v ≡ true → r ≡ true → (if v && r then Some x else None) ≡ Some x
picked v r x h k = rw (h, k) refl

pub inside_of : (b : Block) (o a size : ℕ) → reaches b o a size ≡ true → o + size ≤ length b.bytes
inside_of b o a size r =
    let q = and_parts b.alive _ r in
    le_true _ _ (and_parts (nat_le (o + size) (length b.bytes)) _ q.1).0

pub same_length : (all : List (Option ℕ)) (o : ℕ) (bytes : List ℕ) → o + length bytes ≤ length all → length (overwritten all o bytes) ≡ length all
same_length all o bytes h = rw (length-append, length-append, length-take, length-map, length-drop) (omega arith)

-- ---- blocks that live

pub stays_same : (w : List Block) → Stays w w
stays_same w k b e live = (b, e, record { alive = live; size = refl; writable = refl; align = refl })

pub stays_on : (u v w : List Block) → Stays u v → Stays v w → Stays u w
stays_on u v w h i k b e live =
    let x = h k b e live in
    let y = i k x.0 x.1 x.2.alive in
    (y.0, y.1, record { alive = y.2.alive; size = y.2.size ∙ x.2.size; writable = y.2.writable ∙ x.2.writable; align = y.2.align ∙ x.2.align })

set_stays : (w : List Block) (i : ℕ) (x y : Block) → slice_get w i ≡ Some x → Stayed x y → Stays w (slice_set w i y)
set_stays [] i x y e h k b f live = absurd (cc)
set_stays (z ∷ w) zero x y e h zero b f live = let same : x ≡ b = cc in (y, refl, subst (λ a. Stayed a y) same h)
set_stays (z ∷ w) zero x y e h (suc k) b f live = (b, f, record { alive = live; size = refl; writable = refl; align = refl })
set_stays (z ∷ w) (suc i) x y e h zero b f live = (b, f, record { alive = live; size = refl; writable = refl; align = refl })
set_stays (z ∷ w) (suc i) x y e h (suc k) b f live = set_stays w i x y e h k b f live

pub write_stays : (w v : List Block) (p : Pointer) (a : ℕ) (bytes : List ℕ) → after_write w p a bytes ≡ Some v → Stays w v
write_stays w v Null a bytes e = absurd (cc)
write_stays w v (At k o) a bytes e = at (slice_get w k) refl e
  where
    there : (b : Block) → slice_get w k ≡ Some b → (x y : Bool) → b.writable ≡ x → reaches b o a (length bytes) ≡ y
        → option_map (λ z. slice_set w k z) (if x && y then Some (record b { bytes = overwritten b.bytes o bytes }) else None) ≡ Some v → Stays w v
    there b i true true g h f =
        let same : slice_set w k (record b { bytes = overwritten b.bytes o bytes }) ≡ v = same_Some _ v f in
        let live : b.alive ≡ true = (and_parts b.alive _ h).0 in
        subst (Stays w) same (set_stays w k b (record b { bytes = overwritten b.bytes o bytes }) i
        (record { alive = live; size = same_length b.bytes o bytes (inside_of b o a (length bytes) h); writable = refl; align = refl }))
    there b i true false g h f = absurd (cc)
    there b i false y g h f = absurd (cc)

    at : (x : Option Block) → slice_get w k ≡ x → option_map (λ z. slice_set w k z) (written_in x o a bytes) ≡ Some v → Stays w v
    at None i f = absurd (cc)
    at (Some b) i f = there b i b.writable (reaches b o a (length bytes)) refl refl f

pub begin_stays : (w : List Block) (x : Block) → Stays w (w ++ (x ∷ []))
begin_stays [] x k b e live = absurd (cc)
begin_stays (z ∷ w) x zero b e live = (b, e, record { alive = live; size = refl; writable = refl; align = refl })
begin_stays (z ∷ w) x (suc k) b e live = begin_stays w x k b e live

before_end : (u v : List Block) (k : ℕ) (b c : Block) → slice_get u k ≡ Some b → slice_get v k ≡ Some c → slice_get (ended_from (length u) v) k ≡ Some c
before_end [] v k b c e f = absurd (cc)
before_end (x ∷ u) [] k b c e f = absurd (cc)
before_end (x ∷ u) (y ∷ v) zero b c e f = f
before_end (x ∷ u) (y ∷ v) (suc k) b c e f = before_end u v k b c e f

-- what ends are the blocks that began since
pub ended_stays : (u v : List Block) → Stays u v → Stays u (ended_from (length u) v)
ended_stays u v h k b e live =
    let x = h k b e live in
    (x.0, before_end u v k b x.0 e x.1, x.2)
