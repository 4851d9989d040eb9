-- Names of types (C11 6.7.2p2, 6.7.3 and 6.7.7). The words of an integer type's name stand in any order.
use Rattle.std.specs.Prelude.{ℕ, ◌+◌, Bool, not, nat_lt, ◌==◌, ◌&&◌, ◌||◌, if◌then◌else◌, Option, Some, None}
use Rattle.lane_core.specs.declared.number.IntType.{IntType}
use Rattle.lane_core.specs.declared.number.IntType.TheVariants as ints
use Rattle.lane_core.specs.declared.vector.Pointee.TheVariants as pointees
use Rattle.c_tree.specs.declared.types.CType.{CType}
use Rattle.c_tree.specs.declared.types.CType.TheVariants as ctypes
use Rattle.c_parse.specs.declared.symbols.Part.TheVariants as parts
use Rattle.c_parse.specs.declared.symbols.TypeWord.{TypeWord}
use Rattle.c_parse.specs.declared.symbols.TypeWord.TheVariants as words
use Rattle.c_parse.specs.declared.types.Specifiers.{Specifiers}

-- one more, up to three, which is too often for each word
abbrev pub more : ℕ → ℕ
more n = if nat_lt n 3 then n + 1 else n

-- one word more
abbrev pub counted : Specifiers → TypeWord → Specifiers
counted s (words.Part parts.Char) = record s { char = more s.char }
counted s (words.Part parts.Short) = record s { short = more s.short }
counted s (words.Part parts.Int) = record s { int = more s.int }
counted s (words.Part parts.Long) = record s { long = more s.long }
counted s (words.Part parts.Signed) = record s { signed = more s.signed }
counted s (words.Part parts.Unsigned) = record s { unsigned = more s.unsigned }
counted s (words.Whole t) = record s { wholes = more s.wholes; whole = t }

-- the integer type that the counts name where neither `char` nor `short` is among the words
abbrev pub plain_integer_of : Specifiers → Option IntType
plain_integer_of s =
    if s.long == 1 then Some (if s.unsigned == 1 then ints.ULong else ints.Long)
    else if s.long == 2 then Some (if s.unsigned == 1 then ints.ULLong else ints.LLong)
    else if s.unsigned == 1 then Some ints.UInt
    else if s.int == 1 || s.signed == 1 then Some ints.Int
    else None

-- The integer type that the counts name: no word stands twice but `long`, one sign at most, `char` with no other word
-- than a sign, `short` without `long`.
abbrev pub integer_of : Specifiers → Option IntType
integer_of s =
    if not ((s.signed == 0 || s.unsigned == 0) && (nat_lt s.char 2 && nat_lt s.short 2 && nat_lt s.int 2 && nat_lt s.long 3) && nat_lt s.signed 2 && nat_lt s.unsigned 2) then None
    else if s.char == 1 then
    (if not (s.short == 0 && s.int == 0 && s.long == 0) then None
    else if s.unsigned == 1 then Some ints.UChar
    else if s.signed == 1 then Some ints.SChar
    else Some ints.Char)
    else if s.short == 1 then
    (if not (s.long == 0) then None
    else if s.unsigned == 1 then Some ints.UShort
    else Some ints.Short)
    else plain_integer_of s

abbrev pub integer_type : Option IntType → Option CType
integer_type (Some t) = Some (ctypes.Int t)
integer_type None = None

-- the type that specifiers name: an integer type by its parts, or one whole type alone
abbrev pub base_of : Specifiers → Option CType
base_of s =
    if s.wholes == 0 then integer_type (integer_of s)
    else if s.wholes == 1 && (s.char == 0 && s.short == 0 && s.int == 0 && s.long == 0) && s.signed == 0 && s.unsigned == 0 then Some s.whole
    else None

-- a pointer to a type that may be pointed to; the truth value says that it is const
abbrev pub pointer_to : Option CType → Bool → Option CType
pointer_to (Some ctypes.Void) constant = Some (ctypes.Pointer pointees.Void constant)
pointer_to (Some (ctypes.Int t)) constant = Some (ctypes.Pointer (pointees.Int t) constant)
pointer_to (Some ctypes.M128) constant = Some (ctypes.Pointer pointees.M128 constant)
pointer_to (Some ctypes.M256) constant = Some (ctypes.Pointer pointees.M256 constant)
pointer_to _ constant = None
