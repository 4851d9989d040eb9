-- What is done to elements, by the pseudocode of the Arm Architecture Reference Manual. An element has w bytes; what is stored in it is the
-- value modulo its size.
use Rattle.std.specs.Prelude.{ℕ, zero, suc, ◌+◌, ◌-◌, ◌*◌, ◌/◌, ◌^◌, ℤ, pos, negsuc, ◌+ℤ◌, ◌-ℤ◌, ◌*ℤ◌, min, nat_lt, ◌==◌, int_lt, if◌then◌else◌, bit_and, bit_or, bit_xor, Bool, true, false}
use Rattle.std.specs.Int.{int_shr}
use Rattle.lane_core.specs.Register.{signed, wrapped}
use Rattle.lane_core.specs.declared.vector.NeonLane.{NeonLane}
use Rattle.lane_core.specs.declared.vector.NeonLane.TheVariants.{U8, U16, U32, U64, S8, S16, S32, S64}
use Rattle.neon_elements.specs.declared.elements.Unary.{Unary}
use Rattle.neon_elements.specs.declared.elements.Unary.TheVariants as unary
use Rattle.neon_elements.specs.declared.elements.Binary.{Binary}
use Rattle.neon_elements.specs.declared.elements.Binary.TheVariants as binary
use Rattle.neon_elements.specs.declared.elements.Compare.{Compare}
use Rattle.neon_elements.specs.declared.elements.Compare.TheVariants.{Equal, Greater}
use Rattle.neon_elements.specs.declared.elements.Long.{Long}
use Rattle.neon_elements.specs.declared.elements.Long.TheVariants as long
use Rattle.neon_elements.specs.declared.elements.Narrowing.{Narrowing}
use Rattle.neon_elements.specs.declared.elements.Narrowing.TheVariants as narrowing

-- `esize`, in bytes
abbrev pub bytes_of : NeonLane → ℕ
bytes_of U8 = 1
bytes_of U16 = 2
bytes_of U32 = 4
bytes_of U64 = 8
bytes_of S8 = 1
bytes_of S16 = 2
bytes_of S32 = 4
bytes_of S64 = 8

-- whether the elements are signed numbers: the opposite of the pseudocode's `unsigned`
abbrev pub has_sign : NeonLane → Bool
has_sign U8 = false
has_sign U16 = false
has_sign U32 = false
has_sign U64 = false
has_sign S8 = true
has_sign S16 = true
has_sign S32 = true
has_sign S64 = true

-- `Int(element, unsigned)`
abbrev pub int_of : NeonLane → ℕ → ℤ
int_of t x = if has_sign t then signed (bytes_of t) x else pos x

-- `SignedSatQ(i, N)`: the nearest signed number of w bytes, as an element
unfoldable pub signed_sat : ℕ → ℤ → ℕ
signed_sat w (pos n) = min n (256 ^ w / 2 - 1)
signed_sat w (negsuc n) = 256 ^ w - (min n (256 ^ w / 2 - 1) + 1)

-- `UnsignedSatQ(i, N)`: the nearest unsigned one
unfoldable pub unsigned_sat : ℕ → ℤ → ℕ
unsigned_sat w (pos n) = min n (256 ^ w - 1)
unsigned_sat w (negsuc n) = 0

-- `SatQ(i, N, unsigned)`
abbrev pub sat : NeonLane → ℤ → ℕ
sat t z = if has_sign t then signed_sat (bytes_of t) z else unsigned_sat (bytes_of t) z

-- `Abs(x)`
abbrev pub abs_of : ℤ → ℤ
abs_of z = if int_lt z (pos 0) then pos 0 -ℤ z else z

-- element e of the result, of element e of the operand: `NEG`, "element = -element"; `ABS`, "element = Abs(element)"; `NOT`, "NOT(element)"
abbrev pub unary_of : Unary → NeonLane → ℕ → ℕ
unary_of unary.Negate t x = wrapped (bytes_of t) (pos 0 -ℤ int_of t x)
unary_of unary.Absolute t x = wrapped (bytes_of t) (abs_of (int_of t x))
unary_of unary.Not t x = 256 ^ bytes_of t - 1 - x

-- element e of the result, of elements e of the operands: `ADD`, `SUB`, `MUL`, "<esize-1:0>" of the result; `UQADD`, `SQADD`, `UQSUB`, `SQSUB`, "SatQ(sum, esize,
-- unsigned)"; `URHADD`, "(element1 + element2 + 1) >> 1"; `UABD`, "Abs(element1 - element2)"; `UMIN`, `SMIN`, `UMAX`, `SMAX`, "Min(element1, element2)";
-- `AND`, `ORR`, `EOR`; `BIC`, "operand1 AND NOT(operand2)"
abbrev pub binary_of : Binary → NeonLane → ℕ → ℕ → ℕ
binary_of binary.Add t x y = x + y
binary_of binary.Sub t x y = wrapped (bytes_of t) (pos x -ℤ pos y)
binary_of binary.Multiply t x y = x * y
binary_of binary.SaturatingAdd t x y = sat t (int_of t x +ℤ int_of t y)
binary_of binary.SaturatingSub t x y = sat t (int_of t x -ℤ int_of t y)
binary_of binary.RoundingHalvingAdd t x y = wrapped (bytes_of t) (int_shr (int_of t x +ℤ int_of t y +ℤ pos 1) 1)
binary_of binary.AbsoluteDifference t x y = wrapped (bytes_of t) (abs_of (int_of t x -ℤ int_of t y))
binary_of binary.Min t x y = if int_lt (int_of t y) (int_of t x) then y else x
binary_of binary.Max t x y = if int_lt (int_of t x) (int_of t y) then y else x
binary_of binary.And t x y = bit_and x y
binary_of binary.Orr t x y = bit_or x y
binary_of binary.Eor t x y = bit_xor x y
binary_of binary.Bic t x y = bit_and x (256 ^ bytes_of t - 1 - y)

-- `CMEQ`, "element1 == element2"; `CMHI`, `CMGT`, "element1 > element2"
abbrev pub compare_of : Compare → NeonLane → ℕ → ℕ → Bool
compare_of Equal t x y = x == y
compare_of Greater t x y = int_lt (int_of t y) (int_of t x)

-- "if test_passed then Ones(esize) else Zeros(esize)"
abbrev pub ones_if : NeonLane → Bool → ℕ
ones_if t passed = if passed then 256 ^ bytes_of t - 1 else 0

-- `BSL`: the bits of x where those of the mask are 1, else the bits of y
abbrev pub select_of : NeonLane → ℕ → ℕ → ℕ → ℕ
select_of t mask x y = bit_or (bit_and x mask) (bit_and y (256 ^ bytes_of t - 1 - mask))

-- `SHL`, "LSL(element, shift)": a shift of at least the width leaves 0
abbrev pub left_of : NeonLane → ℕ → ℕ → ℕ
left_of t n x = if nat_lt n (8 * bytes_of t) then x * 2 ^ n else 0

-- `USHR`, `SSHR`, "Int(element, unsigned) >> shift": a shift of at least the width leaves 0, or the sign
abbrev pub right_of : NeonLane → ℕ → ℕ → ℕ
right_of t n x = wrapped (bytes_of t) (int_shr (int_of t x) (min n (8 * bytes_of t)))

-- `USHL`, `SSHL`, by "shift = SInt(Elem[operand2, e, esize]<7:0>)": to the left where it isn't negative, else to the right by its magnitude
abbrev pub shift_of : NeonLane → ℤ → ℕ → ℕ
shift_of t (pos n) x = left_of t n x
shift_of t (negsuc n) x = right_of t (suc n) x

-- an element of twice the width, of two elements: `UMULL`, `SMULL`, "element1 * element2"; `UABDL`, "Abs(element1 - element2)"
abbrev pub long_of : Long → NeonLane → ℕ → ℕ → ℕ
long_of long.Product t x y = wrapped (2 * bytes_of t) (int_of t x *ℤ int_of t y)
long_of long.Difference t x y = wrapped (2 * bytes_of t) (abs_of (int_of t x -ℤ int_of t y))

-- `UADDLP`, `SADDLP`: "op1 + op2", of twice the width
abbrev pub long_sum_of : NeonLane → ℕ → ℕ → ℕ
long_sum_of t x y = wrapped (2 * bytes_of t) (int_of t x +ℤ int_of t y)

-- `USHLL`, `SSHLL` by 0: the element as one of twice the width
abbrev pub long_element_of : NeonLane → ℕ → ℕ
long_element_of t x = wrapped (2 * bytes_of t) (int_of t x)

-- an element of half the width: `XTN`, "element<esize-1:0>"; `UQXTN`, `SQXTN`, `SQXTUN`, "SatQ(element, esize, unsigned)"
abbrev pub narrow_of : Narrowing → NeonLane → NeonLane → ℕ → ℕ
narrow_of narrowing.Low to from x = x
narrow_of narrowing.Saturate to from x = sat to (int_of from x)

-- "round_const = if round then (1 << (shift - 1)) else 0"
abbrev pub round_const : Bool → ℕ → ℕ
round_const rounding n = if rounding then 2 ^ n / 2 else 0

-- `SHRN`, `RSHRN` to w bytes: "(UInt(element) + round_const) >> shift", where the shift is at most the width
abbrev pub narrow_shift_of : Bool → ℕ → ℕ → ℕ → ℕ
narrow_shift_of rounding w n x = (x + round_const rounding (min n (8 * w))) / 2 ^ min n (8 * w)

-- f 0 to f (n - 1), summed
abbrev pub sum_of : ℕ → (ℕ → ℕ) → ℕ
sum_of zero f = 0
sum_of (suc n) f = sum_of n f + f n

-- f 0 to f n, one after the other by the operator
abbrev pub reduce_by : Binary → NeonLane → (ℕ → ℕ) → ℕ → ℕ
reduce_by op t f zero = f 0
reduce_by op t f (suc n) = binary_of op t (reduce_by op t f n) (f (suc n))

-- an element as an integer of its type, modulo 2 ^ 64
abbrev pub integer_of : NeonLane → ℕ → ℕ
integer_of t x = wrapped 8 (int_of t x)
