-- The least word and its place as a register; whether all bits are 1, as C has it.
use Rattle.std.proofs.Common.{◌≡◌, ℕ, zero, suc, ◌%◌, ◌^◌, ◌<◌, ◌≤◌, List, Bool, true, false, Some, refl, ap, sym, ◌∙◌, subst, arith, pos}
use Rattle.std.specs.Prelude.{◌==◌, int_lt, if◌then◌else◌}
use Rattle.std.specs.Ordering.{int_eq}
use Rattle.std.proofs.lemmas.Bool.Decides.{nat_tests}
use Rattle.std.proofs.lemmas.Int.{ints}
use Rattle.std.proofs.Math.Nat.{mod-eq_of_lt}
use Rattle.lane_core.specs.declared.number.IntType.TheVariants as int
use Rattle.lane_core.specs.declared.number.BinOp.TheVariants.{Eq}
use Rattle.lane_core.specs.declared.number.Num.{Num}
use Rattle.lane_core.specs.Register as register
use Rattle.lane_core.specs.Register.{IsRegister, lane, build}
use Rattle.lane_core.specs.Kernels.{put_of}
use Rattle.lane_core.proofs.Lanes.{lane-build, lane_below}
use Rattle.lane_core.proofs.Laws.{lane-map2, IsRegister-build}
use Rattle.lane_core.specs.declared.vector.NeonLane.TheVariants.{U8, U16}
use Rattle.scalar_core.specs.TwosComplement.{bits_of}
use Rattle.scalar_core.specs.Numbers.{num_of, converted}
use Rattle.scalar_core.specs.NumberLaws.{num_of_in_range}
use Rattle.scalar_core.specs.Ranks.{promoted, common_of}
use Rattle.scalar_core.specs.Operators.{binary_of, operate, truth}
use Rattle.intel_lanes.specs.Blocks.{first_least, min_position}
use Rattle.intel_lanes.specs.Laws.{word, xmm}
use Rattle.neon_elements.specs.declared.elements.Binary.TheVariants.{Min}
use Rattle.neon_elements.specs.declared.elements.Compare.TheVariants.{Equal}
use Rattle.neon_elements.specs.declared.vectors.Across.TheVariants.{Least}
use Rattle.neon_elements.specs.Elements.{reduce_by, select_of, ones_if}
use Rattle.neon_elements.specs.Vectors.{reduced, compared, selected, duplicated}
use Rattle.neon_elements.specs.Laws.{selected_is}
use Rattle.seq_pack.specs.Terms.{zeros}
use Rattle.seq_pack.specs.Tests.{numbers, ones}
use Rattle.seq_pack.proofs.Selections.{chosen, all_bits_2}
use Rattle.seq_pack.proofs.Numbers.{byte_in_range, word_in_range, int_in_range, bits_small, converted_small}
use Rattle.seq_pack.proofs.Least.{least_is, place_or, first_place, first_within, least_byte_below}

-- a word as an argument
ushort_small : (x : ℕ) → x < 256 ^ 2 → bits_of int.ULong (num_of int.UShort (pos x)).value ≡ x
ushort_small x h = ap (bits_of int.ULong) (num_of_in_range int.UShort (pos x) (word_in_range x h)) ∙ bits_small x (omega (arith, h))

-- ---- lanes of the constants

numbers_are : build 2 8 (λ k. k) ≡ numbers
unfolding build
numbers_are = refl

ones_are : build 2 8 (λ k. 65535) ≡ ones
unfolding build
ones_are = refl

pub numbers_register : IsRegister 16 numbers
numbers_register = subst (IsRegister 16) numbers_are (IsRegister-build 2 16 (λ k. k) word xmm)

pub ones_register : IsRegister 16 ones
ones_register = subst (IsRegister 16) ones_are (IsRegister-build 2 16 (λ k. 65535) word xmm)

number_at : (k : ℕ) → k < 8 → lane 2 numbers k ≡ k
number_at k l = ap (λ r. lane 2 r k) (sym numbers_are) ∙ lane-build 2 8 (λ i. i) k l ∙ mod-eq_of_lt (omega (arith, l))

one_at : (k : ℕ) → k < 8 → lane 2 ones k ≡ 65535
one_at k l = ap (λ r. lane 2 r k) (sym ones_are) ∙ lane-build 2 8 (λ i. 65535) k l

-- ---- the places of a word

abbrev pub places_of : List ℕ → ℕ → List ℕ
places_of a m = selected U16 (compared Equal U16 a (duplicated U16 m)) numbers ones

equal_at : (a : List ℕ) (m k : ℕ) → m < 256 ^ 2 → k < 8 → lane 2 (compared Equal U16 a (duplicated U16 m)) k ≡ (if lane 2 a k == m then 65535 else 0)
unfolding compared duplicated
equal_at a m k h l =
    lane-map2 2 16 (λ x y. ones_if U16 (x == y)) a (build 2 8 (λ e. m)) k l
    ∙ ap (λ y. ones_if U16 (lane 2 a k == y) % 256 ^ 2) (lane-build 2 8 (λ e. m) k l ∙ mod-eq_of_lt h)
    ∙ by (lane 2 a k == m)
  where
    by : (b : Bool) → ones_if U16 b % 256 ^ 2 ≡ (if b then 65535 else 0)
    by true = refl
    by false = refl

place_lane : (a : List ℕ) (m k : ℕ) → m < 256 ^ 2 → k < 8 → lane 2 (places_of a m) k ≡ place_or (lane 2 a) m k
unfolding selected
place_lane a m k h l =
    let c = compared Equal U16 a (duplicated U16 m) in
    lane-build 2 8 (λ e. select_of U16 (lane 2 c e) (lane 2 numbers e) (lane 2 ones e)) k l
    ∙ ap (λ x. select_of U16 x (lane 2 numbers k) (lane 2 ones k) % 256 ^ 2) (equal_at a m k h l)
    ∙ ap (λ x. select_of U16 (if lane 2 a k == m then 65535 else 0) x (lane 2 ones k) % 256 ^ 2) (number_at k l)
    ∙ ap (λ x. select_of U16 (if lane 2 a k == m then 65535 else 0) k x % 256 ^ 2) (one_at k l)
    ∙ ap (λ x. x % 256 ^ 2) (chosen 2 k 65535 (lane 2 a k == m) (all_bits_2 k (omega (arith, l))) refl)
    ∙ by (lane 2 a k == m)
  where
    by : (b : Bool) → (if b then k else 65535) % 256 ^ 2 ≡ (if b then k else 65535)
    by true = mod-eq_of_lt (omega (arith, l))
    by false = refl

least_same : (n : ℕ) (f g : ℕ → ℕ) → ((k : ℕ) → k ≤ n → f k ≡ g k) → reduce_by Min U16 f n ≡ reduce_by Min U16 g n
least_same zero f g e = e 0 (omega arith)
least_same (suc n) f g e =
    ap (λ x. if int_lt (pos (f (suc n))) (pos x) then f (suc n) else x) (least_same n f g (λ k l. e k (omega (arith, l))))
    ∙ ap (λ y. if int_lt (pos y) (pos (reduce_by Min U16 g n)) then y else reduce_by Min U16 g n) (e (suc n) (omega arith))

-- ---- the least, as the row gives it

word_reduced : (r : List ℕ) → IsRegister 16 r → reduced Least U16 16 r ≡ reduce_by Min U16 (lane 2 r) 7
unfolding reduced register.wrapped
word_reduced r h =
    let b = lane_below 2 r (first_least 7 (lane 2 r)) h.bytes in
    mod-eq_of_lt (subst (λ m. m < 256 ^ 8) (sym (least_is 7 (lane 2 r))) (omega (arith, b)))

two_lanes : (m p : ℕ) → put_of 2 (put_of 2 zeros 0 m) 1 p ≡ build 2 8 (λ k. if k == 0 then m else (if k == 1 then p else 0))
unfolding put_of build
two_lanes m p = refl

-- from the words of a to the register, in the row's own steps
abbrev pub least_register : List ℕ → ℕ → List ℕ
least_register a x = put_of 2 (put_of 2 zeros 0 x) 1 (bits_of int.ULong (num_of int.UShort (pos (reduced Least U16 16 (places_of a x)))).value)

pub least_registered : (a : List ℕ) → IsRegister 16 a → least_register a (bits_of int.ULong (num_of int.UShort (pos (reduced Least U16 16 a))).value) ≡ min_position a
unfolding min_position
least_registered a h =
    let p = first_least 7 (lane 2 a) in
    let m = lane 2 a (first_least 7 (lane 2 a)) in
    let small : lane 2 a (first_least 7 (lane 2 a)) < 256 ^ 2 = lane_below 2 a (first_least 7 (lane 2 a)) h.bytes in
    let within = first_within (lane 2 a) in
    let least : reduced Least U16 16 a ≡ m = word_reduced a h ∙ least_is 7 (lane 2 a) in
    let place : reduced Least U16 16 (places_of a m) ≡ p =
    word_reduced (places_of a m) (selected_is U16 (compared Equal U16 a (duplicated U16 m)) numbers ones)
    ∙ least_same 7 (lane 2 (places_of a m)) (place_or (lane 2 a) m) (λ k l. place_lane a m k small (omega (arith, l)))
    ∙ first_place (lane 2 a) in
    ap (λ x. least_register a (bits_of int.ULong (num_of int.UShort (pos x)).value)) least
    ∙ ap (least_register a) (ushort_small m small)
    ∙ ap (λ x. put_of 2 (put_of 2 zeros 0 m) 1 (bits_of int.ULong (num_of int.UShort (pos x)).value)) place
    ∙ ap (put_of 2 (put_of 2 zeros 0 m) 1) (ushort_small p (omega (arith, within)))
    ∙ two_lanes m p

-- ---- all bits

pub byte_reduced : (a : List ℕ) → IsRegister 16 a → reduced Least U8 16 a ≡ reduce_by Min U8 (lane 1 a) 15
unfolding reduced register.wrapped
byte_reduced a h = let b = least_byte_below a h in mod-eq_of_lt (omega (arith, b))

int_same : (m n : ℕ) → int_eq (pos m) (pos n) ≡ (m == n)
int_same m n = grind (arith, nat_tests, ints)

pub equal_ones : (m : ℕ) → m < 256 → binary_of Eq (converted int.Int (num_of int.UChar (pos m))) (num_of int.Int (pos 255)) ≡ Some (truth (m == 255))
unfolding binary_of operate promoted common_of num_of converted
equal_ones m h =
    let i = int_in_range m (omega (arith, h)) in
    let j = int_in_range 255 (omega arith) in
    ap (λ (x : Num). binary_of Eq x (num_of int.Int (pos 255))) (converted_small int.UChar int.Int (pos m) (byte_in_range m h) i)
    ∙ ap (λ (x : Num). operate Eq x (converted int.Int (num_of int.Int (pos 255)))) (converted_small int.Int int.Int (pos m) i i)
    ∙ ap (λ (x : Num). operate Eq (num_of int.Int (pos m)) x) (converted_small int.Int int.Int (pos 255) j j)
    ∙ ap (λ z. Some (truth (int_eq z (num_of int.Int (pos 255)).value))) (num_of_in_range int.Int (pos m) i)
    ∙ ap (λ z. Some (truth (int_eq (pos m) z))) (num_of_in_range int.Int (pos 255) j)
    ∙ ap (λ b. Some (truth b)) (int_same m 255)
