-- The headers that a text may include (C11 6.10.2), and how a line names one.
use Rattle.std.specs.Prelude.{ℕ, List, [], ◌∷◌, ◌++◌, take, Bool, true, false, if◌then◌else◌, bytes_eq, codes, Option, Some, None, option_map}
use Rattle.std.specs.List.{list_any}
use Rattle.c_text.specs.declared.tokens.Dialect.{Dialect}
use Rattle.c_text.specs.declared.tokens.Dialect.TheVariants.{X86, Neon}
use Rattle.c_text.specs.declared.tokens.TokenKind.{TokenKind}
use Rattle.c_text.specs.declared.tokens.TokenKind.TheVariants.{Str}
use Rattle.c_text.specs.declared.tokens.Token.{Token}
use Rattle.c_text.specs.declared.refusals.Refusal.{Refusal}
use Rattle.c_text.specs.Details.{refusal_of}
use Rattle.c_macros.specs.Arguments.{is_mark}
use Rattle.c_directives.specs.Definitions.{bad_directive}

-- the number of the refusal of a header that isn't in the list
abbrev pub unknown_header : ℕ
unknown_header = 6

-- Their declarations are known without them, so they give no tokens.
abbrev pub headers : Dialect → List (List ℕ)
headers X86 =
    codes "<emmintrin.h>" ∷ codes "<immintrin.h>" ∷ codes "<pmmintrin.h>" ∷ codes "<smmintrin.h>" ∷ codes "<stdalign.h>" ∷ codes "<stdbool.h>" ∷
    codes "<stddef.h>" ∷ codes "<stdint.h>" ∷ codes "<tmmintrin.h>" ∷ codes "<x86intrin.h>" ∷ codes "<xmmintrin.h>" ∷ []
headers Neon = codes "<arm_neon.h>" ∷ codes "<stdalign.h>" ∷ codes "<stdbool.h>" ∷ codes "<stddef.h>" ∷ codes "<stdint.h>" ∷ []

-- a token of a header's name, with a space where white space stands before it
abbrev pub spelled : Token → List ℕ
spelled t = if t.spaced then 32 ∷ t.text else t.text

abbrev pub at_end : List Token → List ℕ → Option (List ℕ)
at_end [] name = Some name
at_end (t ∷ ts) name = None

-- the spelling of tokens up to the first `>`, which ends the line
abbrev pub up_to_mark : List Token → Option (List ℕ)
up_to_mark [] = None
up_to_mark (t ∷ ts) = if is_mark (codes ">") t then at_end ts (spelled t) else option_map (λ x. spelled t ++ x) (up_to_mark ts)

-- something stands in front of that `>`
abbrev pub in_marks : List Token → Option (List ℕ)
in_marks [] = None
in_marks (t ∷ ts) = if is_mark (codes ">") t then None else up_to_mark (t ∷ ts)

abbrev pub is_string : TokenKind → Bool
is_string Str = true
is_string _ = false

-- the header that an include names, with its marks
abbrev pub header : List Token → Option (List ℕ)
header [] = None
header (t ∷ ts) =
    if is_string t.kind then at_end ts t.text
    else if is_mark (codes "<") t then option_map (λ x. t.text ++ x) (in_marks ts)
    else None

abbrev pub place_of_header : Token → List Token → Token
place_of_header word [] = word
place_of_header word (t ∷ ts) = t

abbrev pub included_from : List (List ℕ) → Token → Token → Option (List ℕ) → Option Refusal
included_from known word t None = Some (refusal_of bad_directive word)
included_from known word t (Some name) =
    if list_any (bytes_eq name) known then None else Some (record { number = unknown_header; place = t.place; detail = take 255 name })

-- the refusal of an include, if it is refused
abbrev pub included : Dialect → Token → List Token → Option Refusal
included dialect word ts = included_from (headers dialect) word (place_of_header word ts) (header ts)
