-- The tokens of a text (C11 5.1.1.2, phase 3, and 6.4).
use Rattle.std.specs.Prelude.{◌≡◌, ℕ, ◌+◌, ◌/◌, ◌%◌, ◌≤◌, List, [], ◌∷◌, ◌++◌, length, take, Option, Some, None, Bool, true, false, nat_lt, if◌then◌else◌, codes}
use Rattle.c_text.specs.declared.tokens.TokenKind.TheVariants.{Name}
use Rattle.c_text.specs.declared.tokens.Place.{Place}
use Rattle.c_text.specs.declared.tokens.Token.{Token}
use Rattle.c_text.specs.declared.refusals.Refusal.{Refusal}
use Rattle.c_text.specs.declared.source.Placed.{Placed}
use Rattle.c_text.specs.declared.pieces.Sort.{Sort}
use Rattle.c_text.specs.declared.pieces.Sort.TheVariants.{Lexeme, Blank, LineEnd, Comment, Open}
use Rattle.c_text.specs.Source.{shown, bytes_of}
use Rattle.c_text.specs.Forms.{is_name, form_of, is_bad}

-- a piece of a text: a token, white space, a comment, or a fault; it has one byte at least
pub record Piece : Type 0 where
  pub sort : Sort
  pub begin : Placed
  pub others : List Placed

abbrev pub bytes_in : Piece → List ℕ
bytes_in p = p.begin.byte ∷ bytes_of p.others

-- no prefix of the text that has a form is longer
abbrev pub IsLongest : ℕ → List ℕ → Type 0
IsLongest n text = (front rest : List ℕ) (s : Sort) → text ≡ front ++ rest → form_of front ≡ Some s → length front ≤ n

-- the text is cut into these pieces, each the longest at its place
unfoldable pub Cut : List Placed → List Piece → Type 0
Cut text [] = text ≡ []
Cut text (p ∷ ps) =
    (rest : List Placed) × (text ≡ (p.begin ∷ p.others) ++ rest) × (form_of (bytes_in p) ≡ Some p.sort) ×
    IsLongest (length (bytes_in p)) (bytes_of text) × Cut rest ps

-- white space (6.4p3): blanks, line ends and comments
abbrev pub is_white : Sort → Bool
is_white Blank = true
is_white LineEnd = true
is_white Comment = true
is_white _ = false

-- whether no token stands before what follows a piece on its line, from whether none stood before the piece
abbrev pub first_behind : Sort → Bool → Bool
first_behind (Lexeme kind) first = false
first_behind LineEnd first = true
first_behind _ first = first

abbrev pub token_in : Sort → List ℕ → Place → Bool → Bool → List Token
token_in (Lexeme kind) bytes place spaced first = record { kind = kind; text = bytes; place = place; spaced = spaced; first = first } ∷ []
token_in _ bytes place spaced first = []

-- The tokens of pieces. The first truth value says whether white space stands directly before the pieces, the second whether no token
-- stands before them on their line.
abbrev pub tokens_of : Bool → Bool → List Piece → List Token
tokens_of spaced first [] = []
tokens_of spaced first (p ∷ ps) = token_in p.sort (bytes_in p) p.begin.place spaced first ++ tokens_of (is_white p.sort) (first_behind p.sort first) ps

-- a digit from 0 to 15, as `0` to `9` and `a` to `f`
abbrev pub hex_digit : ℕ → ℕ
hex_digit d = if nat_lt d 10 then 48 + d else 87 + d

abbrev pub bad_byte : Placed → Refusal
bad_byte c = record { number = 2; place = c.place; detail = 48 ∷ 120 ∷ hex_digit (c.byte / 16) ∷ hex_digit (c.byte % 16) ∷ [] }

abbrev pub bad_bytes : List Placed → List Refusal
bad_bytes [] = []
bad_bytes (c ∷ cs) = if is_bad c.byte then bad_byte c ∷ bad_bytes cs else bad_bytes cs

abbrev pub open_comment : Placed → Refusal
open_comment c = record { number = 3; place = c.place; detail = codes "/*" }

abbrev pub long_name : Placed → List ℕ → Refusal
long_name c bytes = record { number = 20; place = c.place; detail = take 255 bytes }

-- a name has 255 bytes at most
abbrev pub long_names : Sort → Placed → List ℕ → List Refusal
long_names (Lexeme Name) c bytes = if nat_lt 255 (length bytes) then long_name c bytes ∷ [] else []
long_names _ c bytes = []

-- What is refused in a piece, in the order of the text. In a comment any byte may stand.
abbrev pub faults_in : Sort → Piece → List Refusal
faults_in Comment p = []
faults_in Open p = open_comment p.begin ∷ []
faults_in sort p = bad_bytes (p.begin ∷ p.others) ++ long_names sort p.begin (bytes_in p)

abbrev pub faults_of : List Piece → List Refusal
faults_of [] = []
faults_of (p ∷ ps) = faults_in p.sort p ++ faults_of ps

abbrev pub first_of : List Refusal → Option Refusal
first_of [] = None
first_of (r ∷ rs) = Some r

-- each name among these tokens is made of letters, digits and `_`, without a digit first
abbrev pub AllNamed : List Token → Type 0
AllNamed [] = Unit {0}
AllNamed (t ∷ ts) = (t.kind ≡ Name → is_name t.text ≡ true) × AllNamed ts

-- the source has these tokens
unfoldable pub Tokens : List ℕ → List Token → Type 0
Tokens source tokens = (ps : List Piece) × Cut (shown source) ps × (faults_of ps ≡ []) × (tokens ≡ tokens_of false true ps)

-- the source has no tokens, and this is the first fault in it
unfoldable pub FirstFault : List ℕ → Refusal → Type 0
FirstFault source fault = (ps : List Piece) × Cut (shown source) ps × (first_of (faults_of ps) ≡ Some fault)
