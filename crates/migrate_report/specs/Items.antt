-- The items of a run: words that give blocks of its memory, and arguments. Each is a kind, a colon, and fields with colons between them;
-- `null` is a kind alone.
use Rattle.std.specs.Prelude.{ℕ, ◌+◌, ◌-◌, ◌*◌, ◌/◌, ◌%◌, ◌==◌, ℤ, pos, neg_ℤ, List, [], ◌∷◌, ◌++◌, length, take, drop, Bool, true, false, not, ◌&&◌, ◌||◌, nat_le, if◌then◌else◌, codes, position, Option, Some, None, option_map}
use Rattle.std.specs.Char.{is_ascii_digit, is_ascii_hexdigit}
use Rattle.std.specs.List.{list_all}
use Rattle.std.specs.Option.{option_and_then}
use Rattle.std.specs.Str.{bytes_eq}

-- what an item gives
pub data Item : Type 0 where
  -- the next block, with this alignment, writable or not; its bytes as hex digits
  Block : ℕ → Bool → List ℕ → Item
  -- the next block, with this alignment, writable; so many bytes, none of them set
  Space : ℕ → ℕ → Item
  -- an integer argument
  Integer : ℤ → Item
  -- a vector argument, as hex digits from byte 0 on
  Vector : List ℕ → Item
  -- a pointer argument: the number of a block, and an offset in it
  At : ℕ → ℕ → Item
  -- the null pointer
  Null : Item

-- ---- fields

abbrev pub is_colon : ℕ → Bool
is_colon c = c == 58

abbrev pub cut_at : List ℕ → Option ℕ → Option (List ℕ × List ℕ)
cut_at text None = None
cut_at text (Some i) = Some (take i text, drop (i + 1) text)

-- what stands before the first colon and what stands behind it
abbrev pub cut : List ℕ → Option (List ℕ × List ℕ)
cut text = cut_at text (position is_colon text)

abbrev pub is_empty : List ℕ → Bool
is_empty [] = true
is_empty (c ∷ cs) = false

-- a number: `0`, or digits of which the first isn't `0`
abbrev pub is_number : List ℕ → Bool
is_number [] = false
is_number (c ∷ cs) = is_ascii_digit c && (list_all is_ascii_digit cs && (not (c == 48) || is_empty cs))

-- the number that digits say behind those of n
abbrev pub value_behind : ℕ → List ℕ → ℕ
value_behind n [] = n
value_behind n (c ∷ cs) = value_behind (10 * n + (c - 48)) cs

-- the number that digits say
abbrev pub value : List ℕ → ℕ
value digits = value_behind 0 digits

abbrev pub number_of : List ℕ → Option ℕ
number_of text = if is_number text then Some (value text) else None

-- an alignment is a power of two, here up to 64 (C11 6.2.8p4)
abbrev pub is_alignment : ℕ → Bool
is_alignment n = n == 1 || (n == 2 || (n == 4 || (n == 8 || (n == 16 || (n == 32 || n == 64)))))

abbrev pub checked_alignment : ℕ → Option ℕ
checked_alignment n = if is_alignment n then Some n else None

abbrev pub alignment_of : List ℕ → Option ℕ
alignment_of text = option_and_then checked_alignment (number_of text)

-- `rw` for a block that is writable, `ro` for one that isn't
abbrev pub writable_of : List ℕ → Option Bool
writable_of text = if bytes_eq text (codes "rw") then Some true else if bytes_eq text (codes "ro") then Some false else None

-- hex digits of either case, two for each byte; or none
abbrev pub is_hex : List ℕ → Bool
is_hex text = length text % 2 == 0 && list_all is_ascii_hexdigit text

-- ---- the kinds

-- `ALIGN:rw:HEX` and `ALIGN:ro:HEX`
abbrev pub block_of_fields : List ℕ → List ℕ → List ℕ → Option Item
block_of_fields align access hex =
    if is_hex hex then option_and_then (λ n. option_map (λ w. Block n w hex) (writable_of access)) (alignment_of align) else None

abbrev pub block_of : List ℕ → Option Item
block_of text = option_and_then (λ p. option_and_then (λ q. block_of_fields p.0 q.0 q.1) (cut p.1)) (cut text)

-- `ALIGN:N`
abbrev pub space_of_fields : List ℕ → List ℕ → Option Item
space_of_fields align count = option_and_then (λ n. option_map (λ size. Space n size) (number_of count)) (alignment_of align)

abbrev pub space_of : List ℕ → Option Item
space_of text = option_and_then (λ p. space_of_fields p.0 p.1) (cut text)

-- a number, or `-` and a number other than 0
abbrev pub integer_of : List ℕ → Option Item
integer_of [] = None
integer_of (c ∷ cs) =
    if c == 45 then (if is_number cs && not (bytes_eq cs (codes "0")) then Some (Integer (neg_ℤ (pos (value cs)))) else None)
    else option_map (λ n. Integer (pos n)) (number_of (c ∷ cs))

-- the digits of 8, 16 or 32 bytes
abbrev pub is_vector : List ℕ → Bool
is_vector text = list_all is_ascii_hexdigit text && (length text == 16 || (length text == 32 || length text == 64))

abbrev pub vector_of : List ℕ → Option Item
vector_of text = if is_vector text then Some (Vector text) else None

-- `B:OFF`
abbrev pub at_of_fields : List ℕ → List ℕ → Option Item
at_of_fields block offset = option_and_then (λ b. option_map (λ o. At b o) (number_of offset)) (number_of block)

abbrev pub at_of : List ℕ → Option Item
at_of text = option_and_then (λ p. at_of_fields p.0 p.1) (cut text)

abbrev pub item_of_kind : List ℕ → List ℕ → Option Item
item_of_kind kind rest =
    if bytes_eq kind (codes "block") then block_of rest
    else if bytes_eq kind (codes "space") then space_of rest
    else if bytes_eq kind (codes "int") then integer_of rest
    else if bytes_eq kind (codes "vec") then vector_of rest
    else if bytes_eq kind (codes "at") then at_of rest
    else None

abbrev pub null_of : List ℕ → Option Item
null_of word = if bytes_eq word (codes "null") then Some Null else None

abbrev pub item_of_parts : List ℕ → Option (List ℕ × List ℕ) → Option Item
item_of_parts word None = null_of word
item_of_parts word (Some p) = item_of_kind p.0 p.1

-- the item that a word is
abbrev pub item_of : List ℕ → Option Item
item_of word = item_of_parts word (cut word)

-- ---- lists of items

-- what was given first, and then more
abbrev pub joined : {A : Type 0} → Option (List A) → Option (List A) → Option (List A)
joined None more = None
joined (Some xs) more = option_map (λ ys. xs ++ ys) more

abbrev pub single : {A : Type 0} → Option A → Option (List A)
single o = option_map (λ x. x ∷ []) o

-- the items, where each word is one
abbrev pub items_of : List (List ℕ) → Option (List Item)
items_of [] = Some []
items_of (word ∷ rest) = joined (single (item_of word)) (items_of rest)

-- the length of hex digits in bytes
abbrev pub hex_length : List ℕ → ℕ
hex_length hex = length hex / 2

-- the number of bytes in the block that an item gives, if it gives one
abbrev pub block_size : Item → ℕ
block_size (Block align writable hex) = hex_length hex
block_size (Space align count) = count
block_size item = 0

-- the bytes of all blocks
abbrev pub total_size : List Item → ℕ
total_size [] = 0
total_size (item ∷ rest) = block_size item + total_size rest

-- the bytes that all blocks of a run may have together
abbrev pub most_bytes : ℕ
most_bytes = 1048576

abbrev pub is_within : ℕ → Option (List Item) → Bool
is_within room None = false
is_within room (Some items) = nat_le (total_size items) room

-- each word is an item, and the blocks are within the limit
abbrev pub items_fit_form : List (List ℕ) → Bool
items_fit_form words = is_within most_bytes (items_of words)
