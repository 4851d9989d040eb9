-- What the rows do to vectors of 16 and 8 bytes, by the Arm Neon Intrinsics Reference and the pseudocode of its instructions.
use Rattle.std.specs.Prelude.{ℕ, ◌+◌, ◌-◌, ◌*◌, ◌/◌, ◌%◌, ◌^◌, List, ◌++◌, nat_lt, ◌==◌, if◌then◌else◌, Bool}
use Rattle.lane_core.specs.Register.{lane, build, signed}
use Rattle.lane_core.specs.Kernels.{map1_of, map2_of, pairwise_of, put_of}
use Rattle.lane_core.specs.declared.vector.NeonLane.{NeonLane}
use Rattle.lane_core.specs.declared.vector.NeonLane.TheVariants.{U8, U16, U32}
use Rattle.neon_elements.specs.declared.elements.Unary.{Unary}
use Rattle.neon_elements.specs.declared.elements.Binary.{Binary}
use Rattle.neon_elements.specs.declared.elements.Binary.TheVariants.{Min, Max}
use Rattle.neon_elements.specs.declared.elements.Compare.{Compare}
use Rattle.neon_elements.specs.declared.elements.Long.{Long}
use Rattle.neon_elements.specs.declared.elements.Narrowing.{Narrowing}
use Rattle.neon_elements.specs.declared.vectors.Across.{Across}
use Rattle.neon_elements.specs.declared.vectors.Across.TheVariants.{Sum, Least, Greatest}
use Rattle.neon_elements.specs.declared.permutes.Permute.{Permute}
use Rattle.neon_elements.specs.declared.permutes.Permute.TheVariants.{Zip1, Zip2, Uzp1, Uzp2, Trn1, Trn2}
use Rattle.neon_elements.specs.declared.permutes.Reverse.{Reverse}
use Rattle.neon_elements.specs.declared.permutes.Reverse.TheVariants.{Rev16U8, Rev32U8, Rev32U16, Rev64U8, Rev64U16, Rev64U32}
use Rattle.neon_elements.specs.Elements.{bytes_of, unary_of, binary_of, compare_of, ones_if, select_of, left_of, right_of, shift_of, long_of, long_sum_of, long_element_of, narrow_of, narrow_shift_of, sum_of, reduce_by, integer_of}

unfoldable pub each1 : Unary → NeonLane → List ℕ → List ℕ
each1 op t a = map1_of (bytes_of t) 16 (unary_of op t) a

unfoldable pub each2 : Binary → NeonLane → List ℕ → List ℕ → List ℕ
each2 op t a b = map2_of (bytes_of t) 16 (binary_of op t) a b

unfoldable pub compared : Compare → NeonLane → List ℕ → List ℕ → List ℕ
compared op t a b = map2_of (bytes_of t) 16 (λ x y. ones_if t (compare_of op t x y)) a b

-- `BSL`
unfoldable pub selected : NeonLane → List ℕ → List ℕ → List ℕ → List ℕ
selected t mask a b = build (bytes_of t) (16 / bytes_of t) (λ e. select_of t (lane (bytes_of t) mask e) (lane (bytes_of t) a e) (lane (bytes_of t) b e))

-- `USHL`, `SSHL`: each element by the signed low byte of the element beside it
unfoldable pub shifted : NeonLane → List ℕ → List ℕ → List ℕ
shifted t a c = map2_of (bytes_of t) 16 (λ x y. shift_of t (signed 1 (y % 256)) x) a c

-- `SHL`
unfoldable pub shifted_left : NeonLane → ℕ → List ℕ → List ℕ
shifted_left t n a = map1_of (bytes_of t) 16 (left_of t n) a

-- `USHR`, `SSHR`
unfoldable pub shifted_right : NeonLane → ℕ → List ℕ → List ℕ
shifted_right t n a = map1_of (bytes_of t) 16 (right_of t n) a

-- of two vectors of 8 bytes
unfoldable pub lengthened : Long → NeonLane → List ℕ → List ℕ → List ℕ
lengthened op t a b = build (2 * bytes_of t) (16 / (2 * bytes_of t)) (λ e. long_of op t (lane (bytes_of t) a e) (lane (bytes_of t) b e))

-- of the high halves of two vectors of 16 bytes: "Vpart[n, 1]"
unfoldable pub lengthened_high : Long → NeonLane → List ℕ → List ℕ → List ℕ
lengthened_high op t a b =
    build (2 * bytes_of t) (16 / (2 * bytes_of t)) (λ e. long_of op t (lane (bytes_of t) a (8 / bytes_of t + e)) (lane (bytes_of t) b (8 / bytes_of t + e)))

-- `ADDP`: of "concat = operand2:operand1" the elements 2 * e and 2 * e + 1
unfoldable pub pair_sums : NeonLane → List ℕ → List ℕ → List ℕ
pair_sums t a b = pairwise_of (bytes_of t) 16 (λ x y. x + y) a b

-- `UADDLP`, `SADDLP`
unfoldable pub long_pair_sums : NeonLane → List ℕ → List ℕ
long_pair_sums t a = build (2 * bytes_of t) (16 / (2 * bytes_of t)) (λ e. long_sum_of t (lane (bytes_of t) a (2 * e)) (lane (bytes_of t) a (2 * e + 1)))

-- one element of the n / w elements of n bytes: `ADDV`, "Reduce(ReduceOp_ADD, operand, esize)"; `UMINV`, `UMAXV`
unfoldable pub reduced : Across → NeonLane → ℕ → List ℕ → ℕ
reduced Sum t n a = integer_of t (sum_of (n / bytes_of t) (lane (bytes_of t) a) % 256 ^ bytes_of t)
reduced Least t n a = integer_of t (reduce_by Min t (lane (bytes_of t) a) (n / bytes_of t - 1))
reduced Greatest t n a = integer_of t (reduce_by Max t (lane (bytes_of t) a) (n / bytes_of t - 1))

-- `UXTL`, `SXTL`
unfoldable pub widened : NeonLane → List ℕ → List ℕ
widened t a = build (2 * bytes_of t) (16 / (2 * bytes_of t)) (λ e. long_element_of t (lane (bytes_of t) a e))

-- `UXTL2`, `SXTL2`: of the high half
unfoldable pub widened_high : NeonLane → List ℕ → List ℕ
widened_high t a = build (2 * bytes_of t) (16 / (2 * bytes_of t)) (λ e. long_element_of t (lane (bytes_of t) a (8 / bytes_of t + e)))

-- `XTN`, `UQXTN`, `SQXTN`, `SQXTUN`: 8 bytes of elements of half the width
unfoldable pub narrowed : Narrowing → NeonLane → NeonLane → List ℕ → List ℕ
narrowed op to from a = build (bytes_of to) (8 / bytes_of to) (λ e. narrow_of op to from (lane (bytes_of from) a e))

-- `SHRN`, `RSHRN`
unfoldable pub shift_narrowed : Bool → NeonLane → ℕ → List ℕ → List ℕ
shift_narrowed rounding t n a = build (bytes_of t) (8 / bytes_of t) (λ e. narrow_shift_of rounding (bytes_of t) n (lane (2 * bytes_of t) a e))

-- `EXT`: "concat = hi:lo; result = concat<position+127:position>"
unfoldable pub extracted : List ℕ → List ℕ → ℕ → List ℕ
extracted lo hi n = build 1 16 (λ e. if nat_lt (n + e) 32 then lane 1 (lo ++ hi) (n + e) else 0)

-- `TBL` of a table of that many bytes: "if index < 16 * regs then Elem[result, i, 8] = Elem[table, index, 8]"
unfoldable pub looked_up : ℕ → List ℕ → List ℕ → List ℕ
looked_up size table indices = build 1 16 (λ e. if nat_lt (lane 1 indices e) size then lane 1 table (lane 1 indices e) else 0)

-- `ZIP1`, `ZIP2`: "Elem[result, 2*p+0] = Elem[operand1, base+p]; Elem[result, 2*p+1] = Elem[operand2, base+p]", where base = part * pairs
unfoldable pub zipped : ℕ → NeonLane → List ℕ → List ℕ → List ℕ
zipped part t a b =
    build (bytes_of t) (16 / bytes_of t) (λ e. if e % 2 == 0 then lane (bytes_of t) a (part * (8 / bytes_of t) + e / 2) else lane (bytes_of t) b (part * (8 / bytes_of t) + e / 2))

-- `UZP1`, `UZP2`: "zipped = operandh:operandl; Elem[result, e] = Elem[zipped, 2*e+part]"
unfoldable pub unzipped : ℕ → NeonLane → List ℕ → List ℕ → List ℕ
unzipped part t a b = build (bytes_of t) (16 / bytes_of t) (λ e. lane (bytes_of t) (a ++ b) (2 * e + part))

-- `TRN1`, `TRN2`: "Elem[result, 2*p+0] = Elem[operand1, 2*p+part]; Elem[result, 2*p+1] = Elem[operand2, 2*p+part]"
unfoldable pub transposed : ℕ → NeonLane → List ℕ → List ℕ → List ℕ
transposed part t a b = build (bytes_of t) (16 / bytes_of t) (λ e. if e % 2 == 0 then lane (bytes_of t) a (2 * (e / 2) + part) else lane (bytes_of t) b (2 * (e / 2) + part))

abbrev pub permuted : Permute → NeonLane → List ℕ → List ℕ → List ℕ
permuted Zip1 t a b = zipped 0 t a b
permuted Zip2 t a b = zipped 1 t a b
permuted Uzp1 t a b = unzipped 0 t a b
permuted Uzp2 t a b = unzipped 1 t a b
permuted Trn1 t a b = transposed 0 t a b
permuted Trn2 t a b = transposed 1 t a b

-- the elements that are reversed, and the bytes of the container in which they are
abbrev pub reversed_lane : Reverse → NeonLane
reversed_lane Rev16U8 = U8
reversed_lane Rev32U8 = U8
reversed_lane Rev32U16 = U16
reversed_lane Rev64U8 = U8
reversed_lane Rev64U16 = U16
reversed_lane Rev64U32 = U32

abbrev pub container_of : Reverse → ℕ
container_of Rev16U8 = 2
container_of Rev32U8 = 4
container_of Rev32U16 = 4
container_of Rev64U8 = 8
container_of Rev64U16 = 8
container_of Rev64U32 = 8

-- the place that mirrors place e in a container of n elements
abbrev pub mirrored : ℕ → ℕ → ℕ
mirrored n e = e / n * n + (n - 1 - e % n)

-- `REV16`, `REV32`, `REV64`: the elements of each container in reverse
unfoldable pub reversed : Reverse → List ℕ → List ℕ
reversed op a =
    let w = bytes_of (reversed_lane op) in
    build w (16 / w) (λ e. lane w a (mirrored (container_of op / w) e))

-- `DUP` of an element
unfoldable pub duplicated_lane : NeonLane → ℕ → List ℕ → List ℕ
duplicated_lane t n a = build (bytes_of t) (16 / bytes_of t) (λ e. lane (bytes_of t) a (n % (16 / bytes_of t)))

-- `DUP` of an integer
unfoldable pub duplicated : NeonLane → ℕ → List ℕ
duplicated t x = build (bytes_of t) (16 / bytes_of t) (λ e. x)

-- 8 bytes of an integer
unfoldable pub created : ℕ → List ℕ
created x = build 8 1 (λ e. x)

-- the low half below the high half
unfoldable pub combined : List ℕ → List ℕ → List ℕ
combined lo hi = build 8 2 (λ e. if e == 0 then lane 8 lo 0 else lane 8 hi 0)

-- one half of a vector, the low one being 0
unfoldable pub half : ℕ → List ℕ → List ℕ
half part a = build 8 1 (λ e. lane 8 a part)

-- `UMOV`, `SMOV`: an element as an integer modulo 2 ^ 64
abbrev pub element : NeonLane → ℕ → List ℕ → ℕ
element t n a = integer_of t (lane (bytes_of t) a (n % (16 / bytes_of t)))

-- `INS`: the element replaced
abbrev pub with_element : NeonLane → ℕ → ℕ → List ℕ → List ℕ
with_element t n x a = put_of (bytes_of t) a (n % (16 / bytes_of t)) x
