-- How an integer constant is written (C11 6.4.4.1): in decimal, with its type's suffix. An unsigned one of at least 2^32 is
-- written as `0x` and sixteen digits.
use Rattle.std.specs.Prelude.{ℕ, zero, suc, ◌+◌, ◌/◌, ◌%◌, ◌^◌, ℤ, pos, int_lt, unsigned_abs, List, [], ◌∷◌, ◌++◌, Bool, not, ◌&&◌, nat_lt, nat_le, if◌then◌else◌, codes, decimal}
use Rattle.lane_core.specs.declared.number.IntType.{IntType}
use Rattle.lane_core.specs.declared.number.IntType.TheVariants.{UInt, Long, ULong, LLong, ULLong}
use Rattle.lane_core.specs.declared.number.Num.{Num}
use Rattle.lane_core.specs.IntRange.{is_signed}

-- the suffix of a type
abbrev pub suffix_text : IntType → List ℕ
suffix_text UInt = codes "U"
suffix_text Long = codes "L"
suffix_text ULong = codes "UL"
suffix_text LLong = codes "LL"
suffix_text ULLong = codes "ULL"
suffix_text _ = []

-- a digit from 0 to 15: `0` to `9`, then `a` to `f`
abbrev pub hex_digit : ℕ → ℕ
hex_digit d = if nat_lt d 10 then 48 + d else 87 + d

-- the lowest k digits of a number in base 16, the highest of them first
unfoldable pub hex_digits : ℕ → ℕ → List ℕ
hex_digits zero n = []
hex_digits (suc k) n = hex_digit (n / 16 ^ k % 16) ∷ hex_digits k n

-- whether a number of this type is written in base 16
abbrev pub is_in_hex : IntType → ℕ → Bool
is_in_hex t n = not (is_signed t) && nat_le 4294967296 n

abbrev pub digits_text : IntType → ℕ → List ℕ
digits_text t n = if is_in_hex t n then codes "0x" ++ hex_digits 16 n else decimal n

-- a number that isn't negative
abbrev pub magnitude_text : IntType → ℕ → List ℕ
magnitude_text t n = digits_text t n ++ suffix_text t

-- C has no negative constants: such a number is written as the negation of its magnitude
abbrev pub sign_text : ℤ → List ℕ
sign_text z = if int_lt z (pos 0) then codes "-" else []

abbrev pub constant_text : Num → List ℕ
constant_text n = sign_text n.value ++ magnitude_text n.ty (unsigned_abs n.value)
