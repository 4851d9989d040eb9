-- What is left of the room for the blocks, and digits that say too much.
use Rattle.std.proofs.Common.{◌≡◌, ℕ, suc, ◌+◌, ◌-◌, ◌*◌, ◌<◌, ◌≤◌, false, Option, Some, None, List, [], ◌∷◌, map, length, drop, get_or, refl, add-one, drop-cons, arith}
use Rattle.std.specs.Prelude.{nat_le, if◌then◌else◌}
use Rattle.std.proofs.lemmas.Bool.Decides.{nat_tests}
use Rattle.migrate_report.specs.Items.{Item, block_size, total_size, value_behind, joined, single, is_within, item_of, items_of, value}
use Rattle.migrate_report.specs.Reading.{at_most, room_after}

-- further digits don't make a number less
no_less : (n : ℕ) (cs : List ℕ) → n ≤ value_behind n cs
no_less n [] = omega arith
no_less n (c ∷ cs) = let more = no_less (10 * n + (c - 48)) cs in omega (arith, more)

above : (most n v : ℕ) → most < n → n ≤ v → at_most most v ≡ None
above most n v h g = grind (arith, nat_tests)

pub too_great : (most n : ℕ) (cs : List ℕ) → most < n → at_most most (value_behind n cs) ≡ None
too_great most n cs h = above most n (value_behind n cs) h (no_less n cs)

over : (room size total : ℕ) → (if nat_le size room then Some (room - size) else None) ≡ None → nat_le (size + total) room ≡ false
over room size total h = grind (arith, nat_tests)

pub within_none : (room : ℕ) (o : Option Item) (more : Option (List Item)) → room_after room o ≡ None → is_within room (joined (single o) more) ≡ false
within_none room None more h = refl
within_none room (Some item) None h = refl
within_none room (Some item) (Some items) h = over room (block_size item) (total_size items) h

under : (room size total left : ℕ) → (if nat_le size room then Some (room - size) else None) ≡ Some left → nat_le (size + total) room ≡ nat_le total left
under room size total left h = grind (arith, nat_tests)

pub within_some : (room left : ℕ) (o : Option Item) (more : Option (List Item)) → room_after room o ≡ Some left → is_within room (joined (single o) more) ≡ is_within left more
within_some room left None more h = cc
within_some room left (Some item) None h = refl
within_some room left (Some item) (Some items) h = under room (block_size item) (total_size items) left h

-- a loop over digits, at a digit with which they say too much
pub passed : (digits : List ℕ) (n i most : ℕ) → i < length digits → value digits ≡ value_behind n (drop i digits) → most < 10 * n + (get_or digits i 0 - 48)
    → at_most most (value digits) ≡ None
passed digits n i most h e g =
    rw (e, drop-cons digits i 0) (too_great most (10 * n + (get_or digits i 0 - 48)) (drop (suc i) digits) g)

-- a loop over words, at a word that is no item or whose block is too large, and at any other
pub fails_at : {X : Type 0} (f : X → List ℕ) (ws : List X) (w : X) (room i : ℕ) → i < length ws → w ≡ get_or ws i w → room_after room (item_of (f w)) ≡ None
    → is_within room (items_of (map f (drop i ws))) ≡ false
fails_at f ws w room i h e g = rw (drop-cons ws i w, ← e) (within_none room (item_of (f w)) (items_of (map f (drop (suc i) ws))) g)

pub goes_on_at : {X : Type 0} (f : X → List ℕ) (ws : List X) (w : X) (room left i : ℕ) → i < length ws → w ≡ get_or ws i w → room_after room (item_of (f w)) ≡ Some left
    → is_within room (items_of (map f (drop i ws))) ≡ is_within left (items_of (map f (drop (i + 1) ws)))
goes_on_at f ws w room left i h e g =
    rw (add-one, drop-cons ws i w, ← e) (within_some room left (item_of (f w)) (items_of (map f (drop (suc i) ws))) g)
