-- The integer constants of C and their values and types (C11 6.4.4.1), with binary ones.
use Rattle.std.specs.Prelude.{ℕ, ◌+◌, ◌-◌, ◌*◌, ◌^◌, List, [], ◌∷◌, length, drop, take_while, find, codes, bytes_eq, nat_le, nat_lt, ◌==◌, ◌&&◌, ◌||◌, Bool, if◌then◌else◌, Option, None, option_map, option_and_then, ℤ, pos}
use Rattle.std.specs.Str.{byte}
use Rattle.std.specs.Map.{lookup}
use Rattle.lane_core.specs.declared.number.IntType.{IntType}
use Rattle.lane_core.specs.declared.number.IntType.TheVariants.{Int, UInt, Long, ULong, LLong, ULLong}
use Rattle.lane_core.specs.IntRange.{is_signed, width}
use Rattle.c_constants.specs.declared.integer.Base.{Base}
use Rattle.c_constants.specs.declared.integer.Base.TheVariants.{Binary, Octal, Decimal, Hexadecimal}
use Rattle.c_constants.specs.declared.integer.Suffix.{Suffix}
use Rattle.c_constants.specs.declared.integer.Suffix.TheVariants.{Plain, U, L, Ul, Ll, Ull}

-- the bytes from `low` to `high`
abbrev pub is_between : ℕ → ℕ → ℕ → Bool
is_between low high b = nat_le low b && nat_le b high

abbrev pub radix_of : Base → ℕ
radix_of Binary = 2
radix_of Octal = 8
radix_of Decimal = 10
radix_of Hexadecimal = 16

-- the base, by how a constant begins: `0x`, `0b`, `0`, or anything else
abbrev pub base_of : List ℕ → Base
base_of [] = Decimal
base_of (a ∷ []) = if a == byte "0" then Octal else Decimal
base_of (a ∷ b ∷ _) =
    if a == byte "0" then (
    if b == byte "x" || b == byte "X" then Hexadecimal
    else if b == byte "b" || b == byte "B" then Binary
    else Octal)
    else Decimal

-- the digits of a base
abbrev pub is_digit : Base → ℕ → Bool
is_digit Binary b = is_between (byte "0") (byte "1") b
is_digit Octal b = is_between (byte "0") (byte "7") b
is_digit Decimal b = is_between (byte "0") (byte "9") b
is_digit Hexadecimal b = is_between (byte "0") (byte "9") b || is_between (byte "A") (byte "F") b || is_between (byte "a") (byte "f") b

-- the value of a digit
abbrev pub digit_value : ℕ → ℕ
digit_value b = if nat_le b (byte "9") then b - byte "0" else if nat_le b (byte "F") then b - byte "A" + 10 else b - byte "a" + 10

-- the number that digits write, the first one the most significant
abbrev pub number_of : ℕ → List ℕ → ℕ
number_of radix [] = 0
number_of radix (d ∷ ds) = digit_value d * radix ^ length ds + number_of radix ds

-- every way to write a suffix
abbrev pub suffixes : List (List ℕ × Suffix)
suffixes =
    (codes "", Plain) ∷
    (codes "u", U) ∷ (codes "U", U) ∷
    (codes "l", L) ∷ (codes "L", L) ∷
    (codes "ll", Ll) ∷ (codes "LL", Ll) ∷
    (codes "ul", Ul) ∷ (codes "uL", Ul) ∷ (codes "Ul", Ul) ∷ (codes "UL", Ul) ∷
    (codes "lu", Ul) ∷ (codes "lU", Ul) ∷ (codes "Lu", Ul) ∷ (codes "LU", Ul) ∷
    (codes "ull", Ull) ∷ (codes "uLL", Ull) ∷ (codes "Ull", Ull) ∷ (codes "ULL", Ull) ∷
    (codes "llu", Ull) ∷ (codes "llU", Ull) ∷ (codes "LLu", Ull) ∷ (codes "LLU", Ull) ∷ []

abbrev pub suffix_of : List ℕ → Option Suffix
suffix_of bytes = lookup (bytes_eq bytes) suffixes

-- how many bytes stand before the digits: a `0` alone is a digit
abbrev pub prefix_length : Base → ℕ
prefix_length Binary = 2
prefix_length Octal = 0
prefix_length Decimal = 0
prefix_length Hexadecimal = 2

-- what stands behind the prefix
abbrev pub behind_prefix : List ℕ → List ℕ
behind_prefix text = drop (prefix_length (base_of text)) text

-- the types that a constant may have, by its suffix and its base: the list of 6.4.4.1p5
abbrev pub types_of : Suffix → Base → List IntType
types_of Plain Decimal = Int ∷ Long ∷ LLong ∷ []
types_of Plain _ = Int ∷ UInt ∷ Long ∷ ULong ∷ LLong ∷ ULLong ∷ []
types_of U _ = UInt ∷ ULong ∷ ULLong ∷ []
types_of L Decimal = Long ∷ LLong ∷ []
types_of L _ = Long ∷ ULong ∷ LLong ∷ ULLong ∷ []
types_of Ul _ = ULong ∷ ULLong ∷ []
types_of Ll Decimal = LLong ∷ []
types_of Ll _ = LLong ∷ ULLong ∷ []
types_of Ull _ = ULLong ∷ []

-- a number that isn't negative is a value of the type
abbrev pub fits : ℕ → IntType → Bool
fits number t = nat_lt number (2 ^ (if is_signed t then width t - 1 else width t))

-- the number with the first of these types in which it fits
abbrev pub first_fit : ℕ → List IntType → Option (IntType × ℤ)
first_fit number types = option_map (λ t. (t, pos number)) (find (fits number) types)

-- digits of a base, at least one, and a suffix
abbrev pub integer_in : Base → List ℕ → Option (IntType × ℤ)
integer_in base body =
    let digits = take_while (is_digit base) body in
    let suffix = suffix_of (drop (length digits) body) in
    if length digits == 0 then None else option_and_then (λ s. first_fit (number_of (radix_of base) digits) (types_of s base)) suffix

-- the number that an integer constant is, with its type; None where the text is none, or no type has its number
abbrev pub integer_constant : List ℕ → Option (IntType × ℤ)
integer_constant text = integer_in (base_of text) (behind_prefix text)
