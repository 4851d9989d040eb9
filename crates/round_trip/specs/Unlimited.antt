-- The tokens of a text where names may have any length (C11 5.1.1.2 and 6.4), and their expansion: a written unit may have longer names than its
-- source, and more tokens.
use Rattle.std.specs.Prelude.{◌≡◌, ◌≤◌, ℕ, List, [], ◌∷◌, ◌++◌, length, true, false, Ok}
use Rattle.c_text.specs.declared.tokens.Dialect.TheVariants.{Neon}
use Rattle.c_text.specs.declared.tokens.Token.{Token}
use Rattle.c_text.specs.declared.refusals.Refusal.{Refusal}
use Rattle.c_text.specs.declared.pieces.Sort.{Sort}
use Rattle.c_text.specs.declared.pieces.Sort.TheVariants.{Comment, Open}
use Rattle.c_text.specs.Source.{shown}
use Rattle.c_text.specs.Tokens.{Piece, Cut, bad_bytes, open_comment, tokens_of}
use Rattle.c_directives.specs.Predefined.{predefined}
use Rattle.c_directives.specs.Directives.{expansion_by}

-- bytes that no text has outside a comment, and comments without an end
abbrev pub other_faults_in : Sort → Piece → List Refusal
other_faults_in Comment p = []
other_faults_in Open p = open_comment p.begin ∷ []
other_faults_in sort p = bad_bytes (p.begin ∷ p.others)

abbrev pub other_faults : List Piece → List Refusal
other_faults [] = []
other_faults (p ∷ ps) = other_faults_in p.sort p ++ other_faults ps

-- the source has these tokens
unfoldable pub UnlimitedTokens : List ℕ → List Token → Type 0
UnlimitedTokens source tokens = (ps : List Piece) × Cut (shown source) ps × (other_faults ps ≡ []) × (tokens ≡ tokens_of false true ps)

-- The directives and macros of these tokens leave the rest in the Neon dialect (C11 6.10), whatever the limits are that the rest is within.
abbrev pub UnlimitedExpansion : List Token → List Token → Type 0
UnlimitedExpansion tokens rest =
    (work most : ℕ) → length rest ≤ most → expansion_by (record { work = work; tokens = most; dialect = Neon }) (predefined Neon) tokens ≡ Ok rest
