-- A constant vector is written as two calls of `vcreate_u8` and one of `vcombine_u8`, and the zero vector as one of `vdupq_n_u8`.
use Rattle.std.proofs.Common.{◌≡◌, ℕ, ◌<◌, ◌^◌, ◌++◌, List, [], ◌∷◌, Bool, true, false, Some, refl, ap, sym, ◌∙◌, subst, arith, pos, take, drop, length, replicate, length-drop, append-nil}
use Rattle.std.proofs.Math.Nat.{mod-eq_of_lt}
use Rattle.std.proofs.lemmas.Int.{ints, int_rem_euclid_is}
use Rattle.std.proofs.lemmas.List.{take-append-drop, length-take-le, take_all}
use Rattle.std.proofs.lemmas.Slice.Eq.{bytes_eq-Decides}
use Rattle.std.specs.Prelude.{unsigned_abs}
use Rattle.std.specs.Str.{bytes_eq}
use Rattle.lane_core.specs.declared.number.IntType.TheVariants as int
use Rattle.lane_core.specs.declared.vector.NeonLane.TheVariants.{U8}
use Rattle.lane_core.specs.declared.number.Num.{Num}
use Rattle.lane_core.specs.IntRange.{InRange}
use Rattle.lane_core.specs.Register.{IsRegister, Bytes, value, digits, lane, build}
use Rattle.lane_core.proofs.Lists.{value_below, digits-value, Bytes-take, Bytes-drop}
use Rattle.scalar_core.specs.Numbers.{num_of, converted}
use Rattle.scalar_core.specs.NumberLaws.{num_of_in_range, converted_kept}
use Rattle.scalar_core.specs.TwosComplement.{bits_of}
use Rattle.neon_elements.specs.Vectors.{created, combined, duplicated}
use Rattle.c_text.specs.declared.tokens.Place.{Place}
use Rattle.c_tree.specs.Tree.{More, NoTrees}
use Rattle.c_memory.specs.declared.blocks.Block.{Block}
use Rattle.c_memory.specs.declared.value.Value.{Value}
use Rattle.c_memory.specs.MeaningState.{State, Done}
use Rattle.c_memory.specs.MeaningRows.{row_done}
use Rattle.c_memory.specs.Meaning.{Calls}
use Rattle.seq_core.specs.Rows.{AreRows, create, combine, broadcast}
use Rattle.seq_core.specs.Actions.{called_in}
use Rattle.seq_core.specs.Written.{eight, zeros, constant, call}
use Rattle.seq_core.proofs.Gives.{at, LeadsIt}

-- ---- what the three rows do

created_in : (n : Num) (m : List Block) → called_in create 0 (Value.Int n ∷ []) m ≡ Some (Some (Value.R8 (created (bits_of int.ULong n.value))), m)
created_in n m = refl

combined_in : (a b : List ℕ) (m : List Block) → called_in combine 0 (Value.R8 a ∷ Value.R8 b ∷ []) m ≡ Some (Some (Value.R16 (combined a b)), m)
combined_in a b m = refl

broadcast_in : (n : Num) (m : List Block) → called_in broadcast 0 (Value.Int n ∷ []) m ≡ Some (Some (Value.R16 (duplicated U8 (bits_of int.ULong n.value))), m)
broadcast_in n m = refl

-- ---- bytes and numbers

ulong_in_range : (n : ℕ) → n < 2 ^ 64 → InRange int.ULong (pos n)
ulong_in_range n h = (omega (arith, ints), omega (arith, ints))

-- a number of that type as an argument
bits_small : (n : ℕ) → n < 2 ^ 64 → bits_of int.ULong (num_of int.ULong (pos n)).value ≡ n
unfolding bits_of
bits_small n l =
    ap (bits_of int.ULong) (num_of_in_range int.ULong (pos n) (ulong_in_range n l))
    ∙ ap unsigned_abs (int_rem_euclid_is (pos n) (pos (2 ^ 64)) (2 ^ 64) 0 n (omega arith) refl (omega (arith, ints))) ∙ mod-eq_of_lt l

created_back : (r : List ℕ) → length r ≡ 8 → Bytes r → created (value r) ≡ r
unfolding created build
created_back r size bytes = append-nil (digits 8 (value r)) ∙ ap (λ k. digits k (value r)) (sym size) ∙ digits-value r bytes

one_lane : (r : List ℕ) → length r ≡ 8 → Bytes r → digits 8 (lane 8 r 0) ≡ r
unfolding lane
one_lane r size bytes = ap (λ x. digits 8 (value x)) (take_all 8 r (omega (arith, size))) ∙ ap (λ k. digits k (value r)) (sym size) ∙ digits-value r bytes

combined_back : (a b : List ℕ) → length a ≡ 8 → length b ≡ 8 → Bytes a → Bytes b → combined a b ≡ a ++ b
unfolding combined build
combined_back a b k l x y =
    ap (λ (z : List ℕ). z ++ (digits 8 (lane 8 b 0) ++ [])) (one_lane a k x) ∙ ap (λ (z : List ℕ). a ++ (z ++ [])) (one_lane b l y) ∙ ap (λ (z : List ℕ). a ++ z) (append-nil b)

zeros_back : duplicated U8 (bits_of int.ULong (converted int.UChar (num_of int.Int (pos 0))).value) ≡ replicate 16 0
unfolding duplicated build bits_of
zeros_back =
    let a : InRange int.Int (pos 0) = (omega (arith, ints), omega (arith, ints)) in
    let b : InRange int.UChar (pos 0) = (omega (arith, ints), omega (arith, ints)) in
    let e = num_of_in_range int.Int (pos 0) a in
    let f = converted_kept int.UChar (num_of int.Int (pos 0)) (subst (InRange int.UChar) (sym e) b) ∙ e in
    rw f refl

-- ---- what is written

eight_leads : (c : Calls) (s : State) (place : Place) → AreRows c → (r : List ℕ) (m : List Block) → length r ≡ 8 → Bytes r → LeadsIt c s (eight place (value r)) m (Value.R8 r) m
eight_leads c s place rows r m size bytes =
    let small : value r < 2 ^ 64 = let u = value_below r bytes in subst (λ n. value r < 256 ^ n) size u in
    let n = num_of int.ULong (pos (value r)) in
    rows create (Value.Int n ∷ []) (at s m)
    ∙ ap (row_done (at s m)) (created_in n m)
    ∙ ap (λ k. Done (Some (Value.R8 (created k))) (at s m)) (bits_small (value r) small)
    ∙ ap (λ k. Done (Some (Value.R8 k)) (at s m)) (created_back r size bytes)

zeros_lead : (c : Calls) (s : State) (place : Place) → AreRows c → (m : List Block) → LeadsIt c s (zeros place) m (Value.R16 (replicate 16 0)) m
zeros_lead c s place rows m =
    let n = converted int.UChar (num_of int.Int (pos 0)) in
    rows broadcast (Value.Int n ∷ []) (at s m) ∙ ap (row_done (at s m)) (broadcast_in n m) ∙ ap (λ k. Done (Some (Value.R16 k)) (at s m)) zeros_back

low_lane : (r : List ℕ) → lane 8 r 0 ≡ value (take 8 r)
unfolding lane
low_lane r = refl

high_lane : (r : List ℕ) → length (drop 8 r) ≡ 8 → lane 8 r 1 ≡ value (drop 8 r)
unfolding lane
high_lane r h = ap value (take_all 8 (drop 8 r) (omega (arith, h)))

joined_lead : (c : Calls) (s : State) (place : Place) → AreRows c → (r : List ℕ) (m : List Block) → IsRegister 16 r
    → LeadsIt c s (call place combine (More (eight place (lane 8 r 0)) (More (eight place (lane 8 r 1)) NoTrees))) m (Value.R16 r) m
joined_lead c s place rows r m h =
    let low : length (take 8 r) ≡ 8 = length-take-le 8 r (omega (arith, h.size)) in
    let high : length (drop 8 r) ≡ 8 = omega (arith, length-drop 8 r, h.size) in
    let x = Bytes-take 8 r h.bytes in
    let y = Bytes-drop 8 r h.bytes in
    rw (low_lane r, high_lane r high, eight_leads c s place rows (take 8 r) m low x, eight_leads c s place rows (drop 8 r) m high y)
    (rows combine (Value.R8 (take 8 r) ∷ Value.R8 (drop 8 r) ∷ []) (at s m)
    ∙ ap (row_done (at s m)) (combined_in (take 8 r) (drop 8 r) m)
    ∙ ap (λ k. Done (Some (Value.R16 k)) (at s m)) (combined_back (take 8 r) (drop 8 r) low high x y ∙ take-append-drop 8 r))

pub constant_leads : (c : Calls) (s : State) (place : Place) → AreRows c → (r : List ℕ) → IsRegister 16 r → (m : List Block) → LeadsIt c s (constant place r) m (Value.R16 r) m
constant_leads c s place rows r h m = by_case (bytes_eq r (replicate 16 0)) refl
  where
    by_case : (b : Bool) → bytes_eq r (replicate 16 0) ≡ b → LeadsIt c s (constant place r) m (Value.R16 r) m
    by_case true e = rw e (zeros_lead c s place rows m ∙ ap (λ k. Done (Some (Value.R16 k)) (at s m)) (sym ((bytes_eq-Decides r (replicate 16 0)).0 e)))
    by_case false e = rw e (joined_lead c s place rows r m h)
