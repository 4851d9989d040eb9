-- What the answer of a reader says.
use Rattle.std.specs.Prelude.{◌≡◌, ℕ, List, [], Option, Some, option_map, Result, Ok, Err, Vec, false, true}
use Rattle.std.specs.declared.alloc.Global.{Global}
use Rattle.c_text.specs.declared.tokens.Token.{Token}
use Rattle.c_text.specs.declared.refusals.Refusal.{Refusal}
use Rattle.c_text.specs.declared.refusals.Fail.{Fail}
use Rattle.c_text.specs.declared.refusals.Fail.TheVariants.{Refused, Memory}
use Rattle.c_text.specs.declared.lexer.Fault.{Fault}
use Rattle.c_text.specs.declared.lexer.Fault.TheVariants.{BadByte, OpenComment, LongName}
use Rattle.c_text.specs.Tokens.{Piece, bad_byte, open_comment, long_name, tokens_of, faults_of, first_of}

-- the refusal of a fault in a piece of these bytes
abbrev pub refusal_of : Fault → List ℕ → Refusal
refusal_of (BadByte c) bytes = bad_byte c
refusal_of (OpenComment c) bytes = open_comment c
refusal_of (LongName c) bytes = long_name c bytes

-- what P says of the refusal, if there is one
abbrev pub IfRefused : {X : Type 0} → Result X Fail → (Refusal → Type 0) → Type 0
IfRefused (Err (Refused r)) P = P r
IfRefused (Err Memory) P = Unit {0}
IfRefused (Ok x) P = Unit {0}

-- this refusal, unless memory ran out
abbrev pub Refuses : Fail → Refusal → Type 0
Refuses (Refused r) fault = r ≡ fault
Refuses Memory fault = Unit {0}

-- the first refusal is that of a fault which was found, in a piece of these bytes
abbrev pub IsFirst : Option Fault → List ℕ → List Refusal → Type 0
IsFirst found bytes faults = option_map (λ f. refusal_of f bytes) found ≡ first_of faults

-- the tokens of these pieces, or the first of their faults
abbrev pub Gives : Result (Vec Token Global) Fail → List Piece → Type 0
Gives (Ok v) ps = (faults_of ps ≡ []) × (v.items ≡ tokens_of false true ps)
Gives (Err (Refused r)) ps = first_of (faults_of ps) ≡ Some r
Gives (Err Memory) ps = Unit {0}
