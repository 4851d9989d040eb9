-- The character constants of C and their values (C11 6.4.4.4), without an encoding prefix: one character or one escape.
use Rattle.std.specs.Prelude.{ℕ, ◌-◌, List, [], ◌∷◌, length, drop, take, nat_eq, nat_le, nat_lt, ◌==◌, ◌&&◌, ◌||◌, not, Bool, if◌then◌else◌, Option, Some, None, option_map, option_and_then, ℤ, pos, ◌-ℤ◌, slice_index}
use Rattle.std.specs.List.{list_all}
use Rattle.std.specs.Str.{byte}
use Rattle.std.specs.Map.{lookup}
use Rattle.lane_core.specs.declared.number.IntType.{IntType}
use Rattle.lane_core.specs.declared.number.IntType.TheVariants.{Int}
use Rattle.c_constants.specs.declared.integer.Base.{Base}
use Rattle.c_constants.specs.declared.integer.Base.TheVariants.{Octal, Hexadecimal}
use Rattle.c_constants.specs.IntegerConstant.{is_digit, radix_of, number_of}

-- what a letter or a mark behind a backslash stands for: ' " ? \ a b f n r t v
abbrev pub simple_escapes : List (ℕ × ℕ)
simple_escapes =
    (byte "'", 39) ∷ (byte "\"", 34) ∷ (byte "?", 63) ∷ (byte "\\", 92) ∷ (byte "a", 7) ∷ (byte "b", 8) ∷ (byte "f", 12) ∷
    (byte "n", 10) ∷ (byte "r", 13) ∷ (byte "t", 9) ∷ (byte "v", 11) ∷ []

-- the number that digits of the base write, at least one digit; None above 255
abbrev pub small_number : Base → List ℕ → Option ℕ
small_number base digits =
    if nat_le 1 (length digits) && list_all (is_digit base) digits && nat_le (number_of (radix_of base) digits) 255 then Some (number_of (radix_of base) digits)
    else None

-- the value of an escape, of what stands behind its backslash: `x` and hexadecimal digits, up to three octal digits, or
-- a letter or mark
abbrev pub escape_value : List ℕ → Option ℕ
escape_value [] = None
escape_value (e ∷ rest) =
    if e == byte "x" then small_number Hexadecimal rest
    else if is_digit Octal e && nat_le (length rest) 2 then small_number Octal (e ∷ rest)
    else if length rest == 0 then lookup (nat_eq e) simple_escapes
    else None

-- a character that stands for itself: any but ' \ and a newline
abbrev pub is_plain : ℕ → Bool
is_plain c = not (c == byte "'" || c == byte "\\" || c == 10)

-- the value of what stands between the marks
abbrev pub member_value : List ℕ → Option ℕ
member_value [] = None
member_value (c ∷ rest) =
    if c == byte "\\" then escape_value rest
    else if is_plain c && (length rest == 0) then Some c
    else None

-- what stands between the marks of '..'
abbrev pub between_marks : List ℕ → Option (List ℕ)
between_marks text =
    if nat_le 2 (length text) && (slice_index text 0 == byte "'") && (slice_index text (length text - 1) == byte "'") then Some (take (length text - 2) (drop 1 text))
    else None

-- a byte read as a signed number of 8 bits
abbrev pub signed_byte : ℕ → ℤ
signed_byte b = if nat_lt b 128 then pos b else pos b -ℤ pos 256

-- the number that a character constant is, with its type; None where the text is none, or its value has more than 8 bits
abbrev pub character_constant : List ℕ → Option (IntType × ℤ)
character_constant text = option_map (λ value. (Int, signed_byte value)) (option_and_then member_value (between_marks text))
