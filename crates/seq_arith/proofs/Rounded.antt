-- Products that are rounded and halved in width.
use Rattle.std.proofs.Common.{◌≡◌, ℕ, zero, suc, ◌+◌, ◌-◌, ◌/◌, ◌%◌, ◌^◌, List, ◌++◌, length, true, refl, ap, sym, ◌∙◌, arith, ℤ, pos, negsuc, ◌+ℤ◌, ◌*ℤ◌}
use Rattle.std.specs.Prelude.{◌==◌, if◌then◌else◌}
use Rattle.std.specs.Int.{int_shr}
use Rattle.std.proofs.lemmas.Int.{ints}
use Rattle.lane_core.specs.Register.{Bytes, IsRegister, lane, build, signed, wrapped}
use Rattle.lane_core.specs.Kernels.{map2_of}
use Rattle.lane_core.proofs.Lanes.{lane-build, build_same, build-lane, length-build, Bytes-build, lane-append_left, lane-append_right}
use Rattle.lane_core.proofs.Laws.{build-append}
use Rattle.lane_core.specs.declared.vector.NeonLane.TheVariants.{S16}
use Rattle.intel_lanes.specs.declared.lanes.Lane2.TheVariants as op
use Rattle.intel_lanes.specs.Lanes.{lane2_of}
use Rattle.intel_lanes.specs.Blocks.{lanes2}
use Rattle.neon_elements.specs.declared.elements.Long.TheVariants.{Product}
use Rattle.neon_elements.specs.Vectors.{half, lengthened, lengthened_high, shift_narrowed, combined}
use Rattle.seq_arith.proofs.Wide.{by_halves}

-- two vectors of 64 bits as one of 128
joined : (a b : List ℕ) → length a ≡ 8 → length b ≡ 8 → Bytes a → Bytes b → combined a b ≡ a ++ b
unfolding combined build
joined a b k l x y =
    build-append 8 1 1 (λ e. if e == 0 then lane 8 a 0 else lane 8 b 0)
    ∙ ap (λ (z : List ℕ). z ++ build 8 1 (lane 8 b)) (build-lane 8 1 a x k)
    ∙ ap (λ (z : List ℕ). a ++ z) (build-lane 8 1 b y l)

-- words of the dwords of two vectors
narrowed_both : (r : ℕ → ℕ) (lo hi : List ℕ) → length lo ≡ 16
    → build 2 4 (λ e. r (lane 4 lo e)) ++ build 2 4 (λ e. r (lane 4 hi e)) ≡ build 2 8 (λ e. r (lane 4 (lo ++ hi) e))
narrowed_both r lo hi len =
    sym (build-append 2 4 4 (λ e. r (lane 4 (lo ++ hi) e))
    ∙ ap (λ (z : List ℕ). z ++ build 2 4 (λ e. r (lane 4 (lo ++ hi) (4 + e))))
    (build_same 2 4 (λ e. r (lane 4 (lo ++ hi) e)) (λ e. r (lane 4 lo e)) (λ e l. ap (λ v. r v % 256 ^ 2) (lane-append_left 4 lo hi e (omega (arith, len, l)))))
    ∙ ap (λ (z : List ℕ). build 2 4 (λ e. r (lane 4 lo e)) ++ z)
    (build_same 2 4 (λ e. r (lane 4 (lo ++ hi) (4 + e))) (λ e. r (lane 4 hi e)) (λ e l. ap (λ v. r v % 256 ^ 2) (lane-append_right 4 4 lo hi e len))))

-- rounding at once is rounding in two steps
rounds_negative : (n q : ℕ) → q ≡ n / 16384 → ((256 ^ 4 - 1 - n % 256 ^ 4) % 256 ^ 4 + 16384) / 32768 % 256 ^ 2 ≡ wrapped 2 (int_shr (negsuc q +ℤ pos 1) 1) % 256 ^ 2
unfolding wrapped
rounds_negative n zero e =
    let s : negsuc 0 +ℤ pos 1 ≡ pos 0 = omega (arith, ints) in
    let t : ((256 ^ 4 - 1 - n % 256 ^ 4) % 256 ^ 4 + 16384) / 32768 % 256 ^ 2 ≡ 0 = omega (arith, e) in
    t ∙ sym (ap (λ (z : ℤ). wrapped 2 (int_shr z 1) % 256 ^ 2) s)
rounds_negative n (suc p) e =
    let s : negsuc (suc p) +ℤ pos 1 ≡ negsuc p = omega (arith, ints) in
    let t : ((256 ^ 4 - 1 - n % 256 ^ 4) % 256 ^ 4 + 16384) / 32768 % 256 ^ 2 ≡ (256 ^ 2 - 1 - p / 2 % 256 ^ 2) % 256 ^ 2 = omega (arith, e) in
    t ∙ sym (ap (λ (z : ℤ). wrapped 2 (int_shr z 1) % 256 ^ 2) s)

rounds : (z : ℤ) → (wrapped 4 z % 256 ^ 4 + 16384) / 32768 % 256 ^ 2 ≡ wrapped 2 (int_shr (int_shr z 14 +ℤ pos 1) 1) % 256 ^ 2
unfolding wrapped
rounds (pos n) = omega arith
rounds (negsuc n) = rounds_negative n (n / 16384) refl

pub rounded_products : (a b : List ℕ) → IsRegister 16 a → IsRegister 16 b
    → combined (shift_narrowed true S16 15 (lengthened Product S16 (half 0 a) (half 0 b))) (shift_narrowed true S16 15 (lengthened_high Product S16 a b)) ≡ lanes2 op.MultiplyRound 2 a b
unfolding shift_narrowed lengthened lengthened_high half lanes2 map2_of
rounded_products a b h k =
    let p = λ (x y : ℕ). wrapped 4 (signed 2 x *ℤ signed 2 y) in
    let r = λ (v : ℕ). (v + 16384) / 32768 in
    let lo = build 4 4 (λ e. p (lane 2 (build 8 1 (λ i. lane 8 a 0)) e) (lane 2 (build 8 1 (λ i. lane 8 b 0)) e)) in
    let hi = build 4 4 (λ e. p (lane 2 a (4 + e)) (lane 2 b (4 + e))) in
    let all = build 4 8 (λ i. p (lane 2 a i) (lane 2 b i)) in
    joined (build 2 4 (λ e. r (lane 4 lo e))) (build 2 4 (λ e. r (lane 4 hi e))) (length-build 2 4 (λ e. r (lane 4 lo e))) (length-build 2 4 (λ e. r (lane 4 hi e)))
    (Bytes-build 2 4 (λ e. r (lane 4 lo e))) (Bytes-build 2 4 (λ e. r (lane 4 hi e)))
    ∙ narrowed_both r lo hi (length-build 4 4 (λ e. p (lane 2 (build 8 1 (λ i. lane 8 a 0)) e) (lane 2 (build 8 1 (λ i. lane 8 b 0)) e)))
    ∙ ap (λ s. build 2 8 (λ e. r (lane 4 s e))) (by_halves p a b h k)
    ∙ build_same 2 8 (λ e. r (lane 4 all e)) (λ e. lane2_of op.MultiplyRound 2 (lane 2 a e) (lane 2 b e))
    (λ e l. ap (λ v. r v % 256 ^ 2) (lane-build 4 8 (λ i. p (lane 2 a i) (lane 2 b i)) e l) ∙ rounds (signed 2 (lane 2 a e) *ℤ signed 2 (lane 2 b e)))
