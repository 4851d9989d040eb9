-- A text as words with white space between them, and when it is cut back into these.
use Rattle.std.specs.Prelude.{◌≡◌, ℕ, List, [], ◌∷◌, ◌++◌, length, Bool, true, false, not, ◌&&◌, ◌||◌, ◌==◌, bytes_eq, codes}
use Rattle.std.specs.List.{list_any}
use Rattle.c_text.specs.declared.tokens.Dialect.TheVariants.{Neon}
use Rattle.c_text.specs.declared.tokens.TokenKind.{TokenKind}
use Rattle.c_text.specs.declared.tokens.TokenKind.TheVariants.{Name, Mark}
use Rattle.c_text.specs.declared.tokens.Token.{Token}
use Rattle.c_text.specs.declared.pieces.Sort.{Sort}
use Rattle.c_text.specs.declared.pieces.Sort.TheVariants.{Lexeme, Blank, LineEnd}
use Rattle.c_text.specs.PredefinedNames.{predefined_names}
use Rattle.c_text.specs.Forms.{is_within, is_one_of, all_are, starts, is_digit, is_name_byte, goes_on, is_mark_pair, is_mark_triple}
use Rattle.c_text.specs.Reading.{piece_at}
use Rattle.c_text.specs.Tokens.{is_white, first_behind}

-- a word, or a byte of white space; it has one byte at least
pub record Bit : Type 0 where
  pub sort : Sort
  pub first : ℕ
  pub others : List ℕ

abbrev pub bit_text : Bit → List ℕ
bit_text b = b.first ∷ b.others

abbrev pub bits_text : List Bit → List ℕ → List ℕ
bits_text [] rest = rest
bits_text (b ∷ bs) rest = b.first ∷ (b.others ++ bits_text bs rest)

-- in front of the rest, the text of these is cut into them
abbrev pub CutsBack : List Bit → List ℕ → Type 0
CutsBack [] rest = Unit {0}
CutsBack (b ∷ bs) rest = (piece_at b.first (b.others ++ bits_text bs rest) ≡ (b.sort, length b.others)) × CutsBack bs rest

-- a name ends in front of these bytes: none of a name follows, and no quote, which a name may be the prefix of (C11 6.4.2, 6.4.4.4, 6.4.5)
abbrev pub goes_on_name : ℕ → Bool
goes_on_name c = is_name_byte c || ((c == 39) || (c == 34))

abbrev pub ends_name : List ℕ → Bool
ends_name rest = not (starts goes_on_name rest)

-- the last of these bytes
abbrev pub last_of : ℕ → List ℕ → ℕ
last_of b [] = b
last_of b (c ∷ cs) = last_of c cs

-- a number whose last byte is this one ends in front of these bytes (C11 6.4.8)
abbrev pub ends_number : ℕ → List ℕ → Bool
ends_number last rest = not (starts (goes_on last) rest)

-- a mark of one byte ends in front of these bytes: it makes no longer mark with them, and begins neither a comment nor a number
-- (C11 6.4.6, 6.4.8, 6.4.9)
abbrev pub goes_on_mark : ℕ → ℕ → Bool
goes_on_mark a c =
    is_mark_pair a c || (((a == c) && is_one_of (codes ".<>") a) || (((a == 47) && ((c == 42) || (c == 47))) || ((a == 46) && is_digit c)))

abbrev pub ends_mark : ℕ → List ℕ → Bool
ends_mark a rest = not (starts (goes_on_mark a) rest)

-- the same of a mark of two bytes
abbrev pub ends_pair : ℕ → ℕ → List ℕ → Bool
ends_pair a b rest = not (starts (is_mark_triple a b) rest)

-- a byte that a written text may have: printable, and no backslash; or a space or a line end
abbrev pub is_plain_byte : ℕ → Bool
is_plain_byte b = (is_within 32 126 b && not (b == 92)) || (b == 10)

-- a token, a space or a line end
abbrev pub is_plain_sort : Sort → Bool
is_plain_sort (Lexeme kind) = true
is_plain_sort Blank = true
is_plain_sort LineEnd = true
is_plain_sort _ = false

abbrev pub is_plain_bit : Bit → Bool
is_plain_bit b = is_plain_sort b.sort && (is_plain_byte b.first && all_are is_plain_byte b.others)

abbrev pub all_plain : List Bit → Bool
all_plain [] = true
all_plain (b ∷ bs) = is_plain_bit b && all_plain bs

-- no directive begins with a token of this kind with these bytes, and it isn't the name of a macro before a text begins (C11 6.10p2, 6.10.3p10)
abbrev pub is_free_word : TokenKind → List ℕ → Bool
is_free_word Name text = not (list_any (λ m. bytes_eq text m.name) (predefined_names Neon))
is_free_word Mark text = not (bytes_eq text (codes "#"))
is_free_word _ text = true

abbrev pub is_free_sort : Sort → List ℕ → Bool
is_free_sort (Lexeme kind) text = is_free_word kind text
is_free_sort _ text = true

-- a plain one that directives and macros leave as it is
abbrev pub is_written_bit : Bit → Bool
is_written_bit b = is_plain_bit b && is_free_sort b.sort (bit_text b)

abbrev pub all_written : List Bit → Bool
all_written [] = true
all_written (b ∷ bs) = is_written_bit b && all_written bs

-- the tokens among these: what they are, and their bytes
abbrev pub word_of : Sort → List ℕ → List (TokenKind × List ℕ)
word_of (Lexeme kind) text = (kind, text) ∷ []
word_of _ text = []

abbrev pub words_of : List Bit → List (TokenKind × List ℕ)
words_of [] = []
words_of (b ∷ bs) = word_of b.sort (bit_text b) ++ words_of bs

-- what a token is, and its bytes
abbrev pub said : Token → TokenKind × List ℕ
said t = (t.kind, t.text)

-- the same with whether white space stands directly before it, and whether it begins a line
pub record Marked : Type 0 where
  pub word : TokenKind × List ℕ
  pub spaced : Bool
  pub first : Bool

abbrev pub marked : Token → Marked
marked t = record { word = said t; spaced = t.spaced; first = t.first }

-- The tokens among these, so marked. The first truth value says whether white space stands directly before them, the second whether no token
-- stands before them on their line.
abbrev pub marked_word : Sort → List ℕ → Bool → Bool → List Marked
marked_word (Lexeme kind) text spaced first = record { word = (kind, text); spaced = spaced; first = first } ∷ []
marked_word _ text spaced first = []

abbrev pub marked_words : Bool → Bool → List Bit → List Marked
marked_words spaced first [] = []
marked_words spaced first (b ∷ bs) = marked_word b.sort (bit_text b) spaced first ++ marked_words (is_white b.sort) (first_behind b.sort first) bs
