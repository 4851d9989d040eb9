-- `defined NAME` and `defined(NAME)` in an `#if` line are 1 or 0 before its macros are expanded (C11 6.10.1p1 and p4).
use Rattle.std.specs.Prelude.{List, [], ◌∷◌, ◌++◌, if◌then◌else◌, codes, Option, Some, None, is_some, option_map}
use Rattle.c_text.specs.declared.tokens.TokenKind.TheVariants.{Number}
use Rattle.c_text.specs.declared.tokens.Token.{Token}
use Rattle.c_macros.specs.Definition.{Macros}
use Rattle.c_macros.specs.Arguments.{is_name_kind, is_mark}
use Rattle.c_directives.specs.declared.operands.Waits.{Waits}
use Rattle.c_directives.specs.declared.operands.Waits.TheVariants.{Nothing, NameOrBracket, NameInside, Closing}
use Rattle.c_directives.specs.Definitions.{is_defined_word}

-- whether the name is a macro's, as a number in its place
abbrev pub as_number : Macros → Token → Token
as_number macros t = record t { kind = Number; text = if is_some (macros t.text) then codes "1" else codes "0" }

-- what is waited for behind a token, and what it leaves on the line; none where it mustn't stand there
abbrev pub Read : Type 0
Read = Option (Waits × List Token)

abbrev pub read : Macros → Waits → Token → Read
read macros Nothing t = if is_defined_word t then Some (NameOrBracket, []) else Some (Nothing, t ∷ [])
read macros NameOrBracket t =
    if is_mark (codes "(") t then Some (NameInside, []) else if is_name_kind t.kind then Some (Nothing, as_number macros t ∷ []) else None
read macros NameInside t = if is_name_kind t.kind then Some (Closing, as_number macros t ∷ []) else None
read macros Closing t = if is_mark (codes ")") t then Some (Nothing, []) else None

abbrev pub go_on : Read → (Waits → Option (List Token)) → Option (List Token)
go_on None f = None
go_on (Some (w, ts)) f = option_map (λ us. ts ++ us) (f w)

-- a line, where this is waited for at its start; none where a `defined` stands otherwise
abbrev pub resolved : Macros → Waits → List Token → Option (List Token)
resolved macros Nothing [] = Some []
resolved macros NameOrBracket [] = None
resolved macros NameInside [] = None
resolved macros Closing [] = None
resolved macros w (t ∷ ts) = go_on (read macros w t) (λ v. resolved macros v ts)
