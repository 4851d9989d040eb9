-- What each token does to nesting and weight.
use Rattle.std.specs.Prelude.{ℕ, List, [], ◌∷◌, codes, bytes_eq, ◌&&◌, Bool, true, false, unwrap_or}
use Rattle.std.specs.Map.{lookup}
use Rattle.c_text.specs.declared.tokens.TokenKind.{TokenKind}
use Rattle.c_text.specs.declared.tokens.TokenKind.TheVariants.{Name, Number, Quote, Str, Mark, Lone}
use Rattle.c_text.specs.declared.tokens.Token.{Token}
use Rattle.c_preproc.specs.declared.roles.Role.{Role}
use Rattle.c_preproc.specs.declared.roles.Role.TheVariants.{OpensBracket, OpensBrace, ClosesBracket, ClosesBrace, Semicolon, Comma, Colon, Question, Do, While, Else, IfOrFor, Adds, Nothing}

-- the marks that don't just add one
abbrev pub mark_roles : List (List ℕ × Role)
mark_roles =
    (codes "(", OpensBracket) ∷ (codes "[", OpensBracket) ∷ (codes "{", OpensBrace) ∷
    (codes ")", ClosesBracket) ∷ (codes "]", ClosesBracket) ∷ (codes "}", ClosesBrace) ∷
    (codes ";", Semicolon) ∷ (codes ",", Comma) ∷ (codes ":", Colon) ∷ (codes "?", Question) ∷ (codes ".", Nothing) ∷ []

-- the words that add one
abbrev pub word_roles : List (List ℕ × Role)
word_roles = (codes "if", IfOrFor) ∷ (codes "for", IfOrFor) ∷ (codes "else", Else) ∷ (codes "while", While) ∷ (codes "do", Do) ∷ (codes "sizeof", Adds) ∷ []

abbrev pub role_in : TokenKind → List ℕ → Role
role_in Name text = unwrap_or (lookup (bytes_eq text) word_roles) Nothing
role_in Number text = Nothing
role_in Quote text = Nothing
role_in Str text = Nothing
role_in Mark text = unwrap_or (lookup (bytes_eq text) mark_roles) Adds
role_in Lone text = Nothing

unfoldable pub role_of : Token → Role
role_of t = role_in t.kind t.text

-- the role of the first of these tokens
abbrev pub next_role : List Token → Role
next_role [] = Nothing
next_role (t ∷ ts) = role_of t

abbrev pub is_mark_kind : TokenKind → Bool
is_mark_kind Mark = true
is_mark_kind _ = false

abbrev pub is_name_kind : TokenKind → Bool
is_name_kind Name = true
is_name_kind _ = false

-- a token is this mark, or this name
abbrev pub is_mark : List ℕ → Token → Bool
is_mark text t = is_mark_kind t.kind && bytes_eq t.text text

abbrev pub is_name : List ℕ → Token → Bool
is_name text t = is_name_kind t.kind && bytes_eq t.text text
