-- What the tokens of a text have to meet before they are parsed, and which token is refused.
use Rattle.std.specs.Prelude.{◌≡◌, ℕ, List, [], ◌∷◌, ◌++◌, reverse, not, if◌then◌else◌, Option, Some, None}
use Rattle.c_text.specs.declared.tokens.Dialect.{Dialect}
use Rattle.c_text.specs.declared.tokens.Token.{Token}
use Rattle.c_text.specs.declared.refusals.Refusal.{Refusal}
use Rattle.c_text.specs.Details.{refusal_of}
use Rattle.c_constants.specs.Constant.{is_c_token}
use Rattle.c_preproc.specs.ExcludedWord.{is_excluded}
use Rattle.c_preproc.specs.Role.{next_role}
use Rattle.c_preproc.specs.Nesting.{contexts_behind, is_too_deep, limits_of}

-- the numbers of the refusals: a token that is none of C, an excluded word, nesting or weight above its limit
abbrev pub bad_token : ℕ
bad_token = 4

abbrev pub outside_profile : ℕ
outside_profile = 18

abbrev pub too_deep : ℕ
too_deep = 19

-- the refusal of a token behind others (the latest first) and in front of others: it is no C token, an excluded word,
-- or nesting or weight is above its limit once it has been counted
unfoldable pub refusal_at : Dialect → List Token → Token → List Token → Option Refusal
refusal_at dialect before t after =
    if not (is_c_token t.kind t.text) then Some (refusal_of bad_token t)
    else if is_excluded dialect t.kind t.text then Some (refusal_of outside_profile t)
    else if is_too_deep (limits_of dialect) (contexts_behind (t ∷ before) (next_role after)) then Some (refusal_of too_deep t)
    else None

-- the first of two refusals that is there
abbrev pub earlier : Option Refusal → Option Refusal → Option Refusal
earlier None later = later
earlier (Some r) later = Some r

-- the refusal of the first of these tokens that has one, where they stand behind others
abbrev pub first_refusal_behind : Dialect → List Token → List Token → Option Refusal
first_refusal_behind dialect before [] = None
first_refusal_behind dialect before (t ∷ after) = earlier (refusal_at dialect before t after) (first_refusal_behind dialect (t ∷ before) after)

-- the refusal of the first token of a text that has one
unfoldable pub first_refusal : Dialect → List Token → Option Refusal
first_refusal dialect tokens = first_refusal_behind dialect [] tokens

-- The same, token by token.

-- every token of the text passes at its place
abbrev pub Passes : Dialect → List Token → Type 0
Passes dialect tokens = (front after : List Token) (t : Token) → tokens ≡ front ++ t ∷ after → refusal_at dialect (reverse front) t after ≡ None

-- a token of the text is refused so at its place, and every earlier one passes
pub record IsRefused (dialect : Dialect) (tokens : List Token) (r : Refusal) : Type 0 where
  pub front : List Token
  pub token : Token
  pub after : List Token
  pub cut : tokens ≡ front ++ token ∷ after
  pub refused : refusal_at dialect (reverse front) token after ≡ Some r
  pub earlier : (others rest : List Token) (t : Token) → front ≡ others ++ t ∷ rest → refusal_at dialect (reverse others) t (rest ++ token ∷ after) ≡ None
