-- The same thing again and again: how it is written, what it says, and how it is read.
use Rattle.std.specs.Prelude.{ℕ, zero, suc, List, [], ◌∷◌, length, Option, Some, None}
use Rattle.c_text.specs.declared.tokens.Token.{Token}
use Rattle.c_parse.specs.Reading.{◌>>=◌, or_else}

-- all of them are so
abbrev pub Each : {I : Type 0} → (I → Type 0) → List I → Type 0
Each fits [] = Unit {0}
Each fits (i ∷ rest) = fits i × Each fits rest

-- the tokens of all of them, and then these
abbrev pub spell_each : {I : Type 0} → (I → List Token → List Token) → List I → List Token → List Token
spell_each spell [] ts = ts
spell_each spell (i ∷ rest) ts = spell i (spell_each spell rest ts)

-- the tokens of one behind a comma, and then these
abbrev pub spell_next : {I : Type 0} → (I → List Token → List Token) → Token × I → List Token → List Token
spell_next spell i ts = i.0 ∷ spell i.1 ts

-- what all of them say, one after the other, where something was said before
abbrev pub says_each : {S I : Type 0} → (S → I → Option S) → S → List I → Option S
says_each say s [] = Some s
says_each say s (i ∷ rest) = say s i >>= λ r. says_each say r rest

-- what each of them means
abbrev pub means_each : {I A : Type 0} → (I → Option A) → List I → Option (List A)
means_each means [] = Some []
means_each means (i ∷ rest) = means i >>= λ x. means_each means rest >>= λ xs. Some (x ∷ xs)

-- Reads one more as long as the test finds something to go on with; the test gives the tokens at which the next one is read.
-- The number bounds how many are read.
abbrev pub repeat_at : {S : Type 0} → ℕ → (List Token → Option (List Token)) → (S → List Token → Option (S × List Token)) → S → List Token → Option (S × List Token)
repeat_at zero test one s ts = None
repeat_at (suc n) test one s ts = or_else (test ts) (λ us. one s us >>= λ x. repeat_at n test one x.0 x.1) (Some (s, ts))

-- the same, often enough for these tokens
unfoldable pub repeated : {S : Type 0} → (List Token → Option (List Token)) → (S → List Token → Option (S × List Token)) → S → List Token → Option (S × List Token)
repeated test one s ts = repeat_at (suc (length ts)) test one s ts
