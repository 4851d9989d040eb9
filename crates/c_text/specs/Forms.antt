-- The forms that a piece of a text can have (C11 6.4): tokens, white space and comments, each by a test on its bytes.
use Rattle.std.specs.Prelude.{ℕ, List, [], ◌∷◌, Option, Some, None, Bool, true, false, not, ◌&&◌, ◌||◌, nat_le, ◌==◌, if◌then◌else◌, codes}
use Rattle.c_text.specs.declared.tokens.TokenKind.TheVariants.{Name, Number, Quote, Str, Mark, Lone}
use Rattle.c_text.specs.declared.pieces.Sort.{Sort}
use Rattle.c_text.specs.declared.pieces.Sort.TheVariants.{Lexeme, Blank, LineEnd, Comment, Open, Bad}

abbrev pub is_within : ℕ → ℕ → ℕ → Bool
is_within low high b = nat_le low b && nat_le b high

abbrev pub is_one_of : List ℕ → ℕ → Bool
is_one_of [] b = false
is_one_of (c ∷ cs) b = (b == c) || is_one_of cs b

abbrev pub all_are : (ℕ → Bool) → List ℕ → Bool
all_are p [] = true
all_are p (b ∷ bs) = p b && all_are p bs

abbrev pub is_empty : List ℕ → Bool
is_empty [] = true
is_empty (b ∷ bs) = false

abbrev pub starts : (ℕ → Bool) → List ℕ → Bool
starts p [] = false
starts p (b ∷ bs) = p b

-- Names (6.4.2): letters, digits and `_`, without a digit first. Universal character names are left out.
abbrev pub is_digit : ℕ → Bool
is_digit b = is_within 48 57 b

abbrev pub is_letter : ℕ → Bool
is_letter b = is_within 97 122 b || (is_within 65 90 b || (b == 95))

abbrev pub is_name_byte : ℕ → Bool
is_name_byte b = is_letter b || is_digit b

abbrev pub is_name : List ℕ → Bool
is_name [] = false
is_name (b ∷ bs) = is_letter b && all_are is_name_byte bs

-- Preprocessing numbers (6.4.8): a digit, or `.` and a digit; then digits, letters, `_`, `.`, and signs behind an exponent's letter.
abbrev pub is_exponent : ℕ → Bool
is_exponent b = is_one_of (codes "eEpP") b

abbrev pub goes_on : ℕ → ℕ → Bool
goes_on before b = is_name_byte b || ((b == 46) || (is_one_of (codes "+-") b && is_exponent before))

abbrev pub all_go_on : ℕ → List ℕ → Bool
all_go_on before [] = true
all_go_on before (b ∷ bs) = goes_on before b && all_go_on b bs

abbrev pub begins_number : ℕ → List ℕ → Bool
begins_number b bs = is_digit b || ((b == 46) && starts is_digit bs)

abbrev pub is_number : List ℕ → Bool
is_number [] = false
is_number (b ∷ bs) = begins_number b bs && all_go_on b bs

-- Character constants and strings (6.4.4.4, 6.4.5): a prefix, a quote, and what stands up to its partner on the line. A byte behind
-- a backslash is no partner. Which escapes C has is asked where a constant's value is taken.
abbrev pub is_partner : ℕ → Bool → ℕ → Bool
is_partner quote escaped b = not escaped && (b == quote)

abbrev pub escapes : Bool → ℕ → Bool
escapes escaped b = not escaped && (b == 92)

-- these bytes end with the quote's partner, which is the first
abbrev pub closes : ℕ → Bool → List ℕ → Bool
closes quote escaped [] = false
closes quote escaped (b ∷ bs) =
    if b == 10 then false
    else if is_partner quote escaped b then is_empty bs
    else closes quote (escapes escaped b) bs

abbrev pub is_quoted : ℕ → List ℕ → Bool
is_quoted quote [] = false
is_quoted quote (b ∷ bs) = (b == quote) && closes quote false bs

abbrev pub is_wide : ℕ → Bool
is_wide b = is_one_of (codes "LuU") b

-- the `8"` of `u8"`, and what follows
abbrev pub is_utf8_quoted : List ℕ → Bool
is_utf8_quoted [] = false
is_utf8_quoted (b ∷ bs) = (b == 56) && is_quoted 34 bs

abbrev pub is_constant : List ℕ → Bool
is_constant [] = false
is_constant (b ∷ bs) = is_quoted 39 (b ∷ bs) || (is_wide b && is_quoted 39 bs)

abbrev pub is_string : List ℕ → Bool
is_string [] = false
is_string (b ∷ bs) = is_quoted 34 (b ∷ bs) || ((is_wide b && is_quoted 34 bs) || ((b == 117) && is_utf8_quoted bs))

-- Punctuators (6.4.6) without the digraphs `<: :> <% %> %: %:%:`. Each begins with one that has one byte.
abbrev pub is_mark_byte : ℕ → Bool
is_mark_byte b = is_one_of (codes "[](){}.&*+-~!/%<>^|?:;=,#") b

-- `*=` and the like, doubled marks, and `->`
abbrev pub is_mark_pair : ℕ → ℕ → Bool
is_mark_pair a b =
    ((b == 61) && is_one_of (codes "*/%+-&^|<>=!") a) || (((a == b) && is_one_of (codes "+-<>&|#") a) || ((a == 45) && (b == 62)))

-- `...`, `<<=` and `>>=`
abbrev pub is_mark_triple : ℕ → ℕ → ℕ → Bool
is_mark_triple a b c = (a == b) && (((a == 46) && (c == 46)) || (is_one_of (codes "<>") a && (c == 61)))

abbrev pub is_mark : List ℕ → Bool
is_mark (a ∷ []) = is_mark_byte a
is_mark (a ∷ b ∷ []) = is_mark_byte a && is_mark_pair a b
is_mark (a ∷ b ∷ c ∷ []) = is_mark_byte a && is_mark_triple a b c
is_mark _ = false

-- White space and line ends (6.4p3): tab, vertical tab, form feed, carriage return, space; line feed.
abbrev pub is_blank : ℕ → Bool
is_blank b = (b == 9) || (is_within 11 13 b || (b == 32))

-- Comments (6.4.9): from `/*` to the first `*/`, or from `//` to the line's end. The truth value says whether a `*` of the comment
-- stands directly before these bytes.
abbrev pub ends_comment : Bool → List ℕ → Bool
ends_comment star [] = false
ends_comment star (b ∷ bs) = if star && (b == 47) then is_empty bs else ends_comment (b == 42) bs

-- there is no `*/` in these bytes
abbrev pub stays_open : Bool → List ℕ → Bool
stays_open star [] = true
stays_open star (b ∷ bs) = if star && (b == 47) then false else stays_open (b == 42) bs

abbrev pub is_no_line_end : ℕ → Bool
is_no_line_end b = not (b == 10)

abbrev pub is_comment_tail : List ℕ → Bool
is_comment_tail [] = false
is_comment_tail (b ∷ bs) = ((b == 42) && ends_comment false bs) || ((b == 47) && all_are is_no_line_end bs)

abbrev pub is_comment : List ℕ → Bool
is_comment [] = false
is_comment (b ∷ bs) = (b == 47) && is_comment_tail bs

abbrev pub is_open_tail : List ℕ → Bool
is_open_tail [] = false
is_open_tail (b ∷ bs) = (b == 42) && stays_open false bs

-- a comment without its end
abbrev pub is_open : List ℕ → Bool
is_open [] = false
is_open (b ∷ bs) = (b == 47) && is_open_tail bs

-- Bytes that stand by themselves: a printable one that begins no name, number or mark, and one that no text may have outside a comment.
abbrev pub is_printable : ℕ → Bool
is_printable b = is_within 33 126 b

abbrev pub is_lone : ℕ → Bool
is_lone b = is_printable b && not (is_name_byte b || is_mark_byte b)

-- above 126, or a control byte other than tab, newline, vertical tab, form feed and carriage return
abbrev pub is_bad : ℕ → Bool
is_bad b = not (is_printable b || (is_blank b || (b == 10)))

abbrev pub is_single : (ℕ → Bool) → List ℕ → Bool
is_single p [] = false
is_single p (b ∷ bs) = p b && is_empty bs

-- the form of these bytes, if they have one; no bytes have two
unfoldable pub form_of : List ℕ → Option Sort
form_of bs =
    if is_name bs then Some (Lexeme Name)
    else if is_number bs then Some (Lexeme Number)
    else if is_constant bs then Some (Lexeme Quote)
    else if is_string bs then Some (Lexeme Str)
    else if is_mark bs then Some (Lexeme Mark)
    else if is_single is_lone bs then Some (Lexeme Lone)
    else if is_single is_blank bs then Some Blank
    else if is_single (λ b. b == 10) bs then Some LineEnd
    else if is_comment bs then Some Comment
    else if is_open bs then Some Open
    else if is_single is_bad bs then Some Bad
    else None
