-- Reading from left to right: which piece comes first, and the pieces of a text.
use Rattle.std.specs.Prelude.{ℕ, zero, suc, ◌+◌, List, [], ◌∷◌, length, take, Option, Some, None, Bool, true, false, ◌&&◌, ◌==◌, if◌then◌else◌}
use Rattle.c_text.specs.declared.tokens.TokenKind.TheVariants.{Name, Number, Quote, Str, Mark, Lone}
use Rattle.c_text.specs.declared.source.Placed.{Placed}
use Rattle.c_text.specs.declared.pieces.Sort.{Sort}
use Rattle.c_text.specs.declared.pieces.Sort.TheVariants.{Lexeme, Blank, LineEnd, Comment, Open, Bad}
use Rattle.c_text.specs.Source.{bytes_of}
use Rattle.c_text.specs.Forms.{is_letter, is_name_byte, goes_on, begins_number, is_partner, escapes, is_wide, is_mark_byte, is_mark_pair, is_mark_triple, is_blank, is_no_line_end, is_lone}
use Rattle.c_text.specs.Tokens.{Piece}

-- how many bytes of this kind come first, and n more
abbrev pub run : (ℕ → Bool) → ℕ → List ℕ → ℕ
run p n [] = n
run p n (b ∷ bs) = if p b then run p (suc n) bs else n

-- how many bytes of a number follow the byte before, and n more
abbrev pub number_run : ℕ → ℕ → List ℕ → ℕ
number_run before n [] = n
number_run before n (b ∷ bs) = if goes_on before b then number_run b (suc n) bs else n

-- how many bytes there are up to the quote's partner, with it, and n more
abbrev pub partner : ℕ → Bool → ℕ → List ℕ → Option ℕ
partner quote escaped n [] = None
partner quote escaped n (b ∷ bs) =
    if b == 10 then None
    else if is_partner quote escaped b then Some (suc n)
    else partner quote (escapes escaped b) (suc n) bs

-- how many bytes there are up to the `*/`, with it, and n more
abbrev pub comment_end : Bool → ℕ → List ℕ → Option ℕ
comment_end star n [] = None
comment_end star n (b ∷ bs) = if star && (b == 47) then Some (suc n) else comment_end (b == 42) (suc n) bs

abbrev pub one_more : Option ℕ → Option ℕ
one_more (Some n) = Some (n + 1)
one_more None = None

abbrev pub quoted : ℕ → List ℕ → Option ℕ
quoted quote [] = None
quoted quote (b ∷ bs) = if b == quote then one_more (partner quote false 0 bs) else None

abbrev pub utf8_quoted : List ℕ → Option ℕ
utf8_quoted [] = None
utf8_quoted (b ∷ bs) = if b == 56 then one_more (quoted 34 bs) else None

abbrev pub only_if : Bool → Option ℕ → Option ℕ
only_if true o = o
only_if false o = None

abbrev pub or_piece : Option ℕ → Sort → Sort × ℕ → Sort × ℕ
or_piece (Some n) sort other = (sort, n)
or_piece None sort other = other

-- a piece that begins with a letter, and how many bytes it has behind that
abbrev pub letter_at : ℕ → List ℕ → Sort × ℕ
letter_at b bs =
    or_piece (only_if (is_wide b) (quoted 39 bs)) (Lexeme Quote)
    (or_piece (only_if (is_wide b) (quoted 34 bs)) (Lexeme Str)
    (or_piece (only_if (b == 117) (utf8_quoted bs)) (Lexeme Str)
    (Lexeme Name, run is_name_byte 0 bs)))

abbrev pub mark_more : ℕ → List ℕ → ℕ
mark_more a [] = 0
mark_more a (b ∷ []) = if is_mark_pair a b then 1 else 0
mark_more a (b ∷ c ∷ bs) = if is_mark_triple a b c then 2 else if is_mark_pair a b then 1 else 0

abbrev pub slash_at : List ℕ → Sort × ℕ
slash_at [] = (Lexeme Mark, 0)
slash_at (b ∷ bs) =
    if b == 42 then or_piece (one_more (comment_end false 0 bs)) Comment (Open, length bs + 1)
    else if b == 47 then (Comment, run is_no_line_end 0 bs + 1)
    else (Lexeme Mark, mark_more 47 (b ∷ bs))

-- a byte that stands by itself
abbrev pub single_of : ℕ → Sort
single_of b = if is_lone b then Lexeme Lone else if is_blank b then Blank else if b == 10 then LineEnd else Bad

-- the piece that begins with a byte, and how many bytes it has behind that
abbrev pub other_at : ℕ → List ℕ → Sort × ℕ
other_at b bs =
    if b == 39 then or_piece (partner 39 false 0 bs) (Lexeme Quote) (Lexeme Lone, 0)
    else if b == 34 then or_piece (partner 34 false 0 bs) (Lexeme Str) (Lexeme Lone, 0)
    else if b == 47 then slash_at bs
    else if is_mark_byte b then (Lexeme Mark, mark_more b bs)
    else (single_of b, 0)

unfoldable pub piece_at : ℕ → List ℕ → Sort × ℕ
piece_at b bs =
    if is_letter b then letter_at b bs
    else if begins_number b bs then (Lexeme Number, number_run b 0 bs)
    else other_at b bs

abbrev pub piece_of : Sort → Placed → List Placed → Piece
piece_of sort c cs = record { sort = sort; begin = c; others = cs }

-- the pieces behind as many bytes
unfoldable pub pieces : ℕ → List Placed → List Piece
pieces n [] = []
pieces (suc n) (c ∷ cs) = pieces n cs
pieces zero (c ∷ cs) = piece_of (piece_at c.byte (bytes_of cs)).0 c (take (piece_at c.byte (bytes_of cs)).1 cs) ∷ pieces (piece_at c.byte (bytes_of cs)).1 cs
