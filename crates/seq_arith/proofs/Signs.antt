-- The first operand times the sign of the second: 1, 0 or -1.
use Rattle.std.proofs.Common.{◌≡◌, ℕ, ◌-◌, ◌*◌, ◌/◌, ◌%◌, ◌^◌, ◌<◌, List, Bool, true, false, refl, ap, sym, subst, ◌∙◌, arith, pos, ◌-ℤ◌}
use Rattle.std.specs.Prelude.{◌==◌, int_lt, if◌then◌else◌}
use Rattle.std.proofs.lemmas.Int.{ints}
use Rattle.std.proofs.Math.Nat.{mod-eq_of_lt}
use Rattle.lane_core.specs.Register.{IsRegister, lane, build, signed, wrapped}
use Rattle.lane_core.specs.Kernels.{map2_of}
use Rattle.lane_core.proofs.Lanes.{lane-build, build_same, lane_below}
use Rattle.lane_core.proofs.Laws.{lane-map2, IsRegister-build}
use Rattle.intel_lanes.specs.declared.lanes.Width.{Width}
use Rattle.intel_lanes.specs.declared.lanes.Width.TheVariants.{Byte, Word, Dword, Qword}
use Rattle.intel_lanes.specs.declared.lanes.Lane2.TheVariants.{Sign}
use Rattle.intel_lanes.specs.Lanes.{bytes_of, lane2_of}
use Rattle.intel_lanes.specs.Laws.{byte, width_is, xmm}
use Rattle.seq_arith.specs.Products.{ones, minus_ones}

-- the lesser of a lane and 1, and the greater of that and -1
abbrev pub lesser : ℕ → ℕ → ℕ → ℕ
lesser w y o = if int_lt (signed w o) (signed w y) then o else y

abbrev pub greater : ℕ → ℕ → ℕ → ℕ
greater w x y = if int_lt (signed w x) (signed w y) then y else x

-- what a lane is cut to
abbrev cut : ℕ → Bool → Bool → ℕ
cut w negative zero = if negative then 256 ^ w - 1 else (if zero then 0 else 1)

abbrev IsCut : ℕ → Type 0
IsCut w = (y : ℕ) → y < 256 ^ w → greater w (lesser w y 1) (256 ^ w - 1) ≡ cut w (int_lt (signed w y) (pos 0)) (y == 0)

cut_1 : IsCut 1
unfolding signed
cut_1 y h = grind (arith, ints)

cut_2 : IsCut 2
unfolding signed
cut_2 y h = grind (arith, ints)

cut_4 : IsCut 4
unfolding signed
cut_4 y h = grind (arith, ints)

-- a lane times -1
abbrev Negates : ℕ → Type 0
Negates w = (x : ℕ) → x < 256 ^ w → x * (256 ^ w - 1) % 256 ^ w ≡ wrapped w (pos 0 -ℤ signed w x) % 256 ^ w

negates_1 : Negates 1
unfolding signed wrapped
negates_1 x h = grind (arith, ints)

negates_2 : Negates 2
unfolding signed wrapped
negates_2 x h = grind (arith, ints)

negates_4 : Negates 4
unfolding signed wrapped
negates_4 x h = grind (arith, ints)

times : (w x y : ℕ) (n z : Bool) → x * (256 ^ w - 1) % 256 ^ w ≡ wrapped w (pos 0 -ℤ signed w x) % 256 ^ w
    → x * cut w n z % 256 ^ w ≡ (if n then wrapped w (pos 0 -ℤ signed w x) else (if z then 0 else x)) % 256 ^ w
times w x y true z e = e
times w x y false true e = ap (λ v. v % 256 ^ w) (omega arith)
times w x y false false e = ap (λ v. v % 256 ^ w) (omega arith)

cut_below : (w : ℕ) (n z : Bool) → 1 < 256 ^ w → cut w n z < 256 ^ w
cut_below w true z h = omega (arith, h)
cut_below w false true h = omega (arith, h)
cut_below w false false h = h

lesser_below : (w y : ℕ) → 1 < 256 ^ w → y < 256 ^ w → lesser w y 1 < 256 ^ w
lesser_below w y h k = go (int_lt (signed w 1) (signed w y))
  where
    go : (b : Bool) → (if b then 1 else y) < 256 ^ w
    go true = h
    go false = k

-- constants by their lanes
all_ones : (w n k : ℕ) (r : List ℕ) → 1 < 256 ^ w → build w n (λ i. 1) ≡ r → k < n → lane w r k ≡ 1
all_ones w n k r h e l = ap (λ s. lane w s k) (sym e) ∙ lane-build w n (λ i. 1) k l ∙ mod-eq_of_lt h

all_minus : (w n k : ℕ) (r : List ℕ) → 1 < 256 ^ w → build w n (λ i. 256 ^ w - 1) ≡ r → k < n → lane w r k ≡ 256 ^ w - 1
all_minus w n k r h e l = ap (λ s. lane w s k) (sym e) ∙ lane-build w n (λ i. 256 ^ w - 1) k l ∙ mod-eq_of_lt (omega (arith, h))

by_sign : (w : ℕ) (one minus : List ℕ) → 1 < 256 ^ w → build w (16 / w) (λ i. 1) ≡ one → build w (16 / w) (λ i. 256 ^ w - 1) ≡ minus → IsCut w → Negates w
    → (a b : List ℕ) → IsRegister 16 a → IsRegister 16 b
    → map2_of w 16 (λ x y. x * y) a (map2_of w 16 (greater w) (map2_of w 16 (λ y o. lesser w y o) b one) minus) ≡ map2_of w 16 (lane2_of Sign w) a b
unfolding map2_of
by_sign w one minus big e f cuts negates a b h k =
    let inner = map2_of w 16 (λ y o. lesser w y o) b one in
    let outer = map2_of w 16 (greater w) inner minus in
    build_same w (16 / w) (λ j. lane w a j * lane w outer j) (λ j. lane2_of Sign w (lane w a j) (lane w b j))
    (λ j l.
    let y = lane w b j in
    let small : lane w b j < 256 ^ w = lane_below w b j k.bytes in
    let i : lane w inner j ≡ lesser w y 1 =
    lane-map2 w 16 (λ y o. lesser w y o) b one j l ∙ ap (λ o. lesser w y o % 256 ^ w) (all_ones w (16 / w) j one big e l) ∙ mod-eq_of_lt (lesser_below w y big small) in
    let o : lane w outer j ≡ cut w (int_lt (signed w y) (pos 0)) (y == 0) =
    lane-map2 w 16 (greater w) inner minus j l
    ∙ ap (λ u. greater w u (lane w minus j) % 256 ^ w) i
    ∙ ap (λ m. greater w (lesser w y 1) m % 256 ^ w) (all_minus w (16 / w) j minus big f l)
    ∙ ap (λ v. v % 256 ^ w) (cuts y small)
    ∙ mod-eq_of_lt (cut_below w (int_lt (signed w y) (pos 0)) (y == 0) big) in
    ap (λ v. lane w a j * v % 256 ^ w) o ∙ times w (lane w a j) y (int_lt (signed w y) (pos 0)) (y == 0) (negates (lane w a j) (lane_below w a j h.bytes)))

ones_are : (width : Width) → build (bytes_of width) (16 / bytes_of width) (λ i. 1) ≡ ones width
unfolding build
ones_are Byte = refl
ones_are Word = refl
ones_are Dword = refl
ones_are Qword = refl

minus_1 : build 1 16 (λ i. 256 ^ 1 - 1) ≡ minus_ones
unfolding build
minus_1 = refl

minus_2 : build 2 8 (λ i. 256 ^ 2 - 1) ≡ minus_ones
unfolding build
minus_2 = refl

minus_4 : build 4 4 (λ i. 256 ^ 4 - 1) ≡ minus_ones
unfolding build
minus_4 = refl

pub signs_1 : (a b : List ℕ) → IsRegister 16 a → IsRegister 16 b → map2_of 1 16 (λ x y. x * y) a (map2_of 1 16 (greater 1) (map2_of 1 16 (λ y o. lesser 1 y o) b (ones Byte)) minus_ones) ≡ map2_of 1 16 (lane2_of Sign 1) a b
signs_1 = by_sign 1 (ones Byte) minus_ones (omega arith) (ones_are Byte) minus_1 cut_1 negates_1

pub signs_2 : (a b : List ℕ) → IsRegister 16 a → IsRegister 16 b → map2_of 2 16 (λ x y. x * y) a (map2_of 2 16 (greater 2) (map2_of 2 16 (λ y o. lesser 2 y o) b (ones Word)) minus_ones) ≡ map2_of 2 16 (lane2_of Sign 2) a b
signs_2 = by_sign 2 (ones Word) minus_ones (omega arith) (ones_are Word) minus_2 cut_2 negates_2

pub signs_4 : (a b : List ℕ) → IsRegister 16 a → IsRegister 16 b → map2_of 4 16 (λ x y. x * y) a (map2_of 4 16 (greater 4) (map2_of 4 16 (λ y o. lesser 4 y o) b (ones Dword)) minus_ones) ≡ map2_of 4 16 (lane2_of Sign 4) a b
signs_4 = by_sign 4 (ones Dword) minus_ones (omega arith) (ones_are Dword) minus_4 cut_4 negates_4

-- the constants are registers
ones_built : (width : Width) → IsRegister 16 (build (bytes_of width) (16 / bytes_of width) (λ i. 1))
ones_built width = IsRegister-build (bytes_of width) 16 (λ i. 1) (width_is width) xmm

pub ones_register : (width : Width) → IsRegister 16 (ones width)
ones_register width = subst (IsRegister 16) (ones_are width) (ones_built width)

pub minus_register : IsRegister 16 minus_ones
minus_register = subst (IsRegister 16) minus_1 (IsRegister-build 1 16 (λ i. 256 ^ 1 - 1) byte xmm)
