-- The refusals of later phases: that of a token, and what is said of an error where it is one.
use Rattle.std.specs.Prelude.{ℕ, take}
use Rattle.c_text.specs.declared.tokens.Token.{Token}
use Rattle.c_text.specs.declared.refusals.Refusal.{Refusal}
use Rattle.c_text.specs.declared.refusals.Fail.{Fail}
use Rattle.c_text.specs.declared.refusals.Fail.TheVariants.{Refused, Memory}

-- the refusal of a token, whose detail is its text: at most the first 255 bytes
abbrev pub refusal_of : ℕ → Token → Refusal
refusal_of number t = record { number = number; place = t.place; detail = take 255 t.text }

-- what holds of a refusal; nothing where memory ran out
abbrev pub IfRefused : Fail → (Refusal → Type 0) → Type 0
IfRefused (Refused r) P = P r
IfRefused Memory P = Unit {0}
