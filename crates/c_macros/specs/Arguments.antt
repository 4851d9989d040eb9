-- The arguments of a use, and what a token among others begins (C11 6.10.3p10 and p11).
use Rattle.std.specs.Prelude.{ℕ, zero, suc, ◌+◌, List, [], ◌∷◌, length, Bool, true, false, ◌&&◌, if◌then◌else◌, nat_eq, Option, Some, None, codes, bytes_eq}
use Rattle.std.specs.List.{list_any}
use Rattle.c_text.specs.declared.tokens.TokenKind.{TokenKind}
use Rattle.c_text.specs.declared.tokens.TokenKind.TheVariants.{Name, Mark}
use Rattle.c_text.specs.declared.tokens.Token.{Token}
use Rattle.c_macros.specs.declared.roles.Role.{Role}
use Rattle.c_macros.specs.declared.roles.Role.TheVariants.{Opens, Closes, Parts, Other}
use Rattle.c_macros.specs.Definition.{Definition, Macros}

abbrev pub is_name_kind : TokenKind → Bool
is_name_kind Name = true
is_name_kind _ = false

abbrev pub is_mark_kind : TokenKind → Bool
is_mark_kind Mark = true
is_mark_kind _ = false

-- the token is this mark
abbrev pub is_mark : List ℕ → Token → Bool
is_mark text t = is_mark_kind t.kind && bytes_eq t.text text

-- the first argument, the others, and the tokens behind the bracket that closes them
abbrev pub Cut : Type 0
Cut = Option (List Token × (List (List Token) × List Token))

-- one more token at the start of the first argument
abbrev pub onto : Token → Cut → Cut
onto t (Some (first, (others, rest))) = Some (t ∷ first, (others, rest))
onto t None = None

-- an empty argument before the others
abbrev pub before : Cut → Cut
before (Some (first, (others, rest))) = Some ([], (first ∷ others, rest))
before None = None

abbrev pub role : Token → Role
role t = if is_mark (codes "(") t then Opens else if is_mark (codes ")") t then Closes else if is_mark (codes ",") t then Parts else Other

-- a token of this role in front of others, where `go` cuts those, told how many inner brackets are open
abbrev pub cut_at : Role → ℕ → Token → (ℕ → Cut) → List Token → Cut
cut_at Opens inner t go ts = onto t (go (inner + 1))
cut_at Closes zero t go ts = Some ([], ([], ts))
cut_at Closes (suc inner) t go ts = onto t (go inner)
cut_at Parts zero t go ts = before (go 0)
cut_at Parts (suc inner) t go ts = onto t (go (suc inner))
cut_at Other inner t go ts = onto t (go inner)

-- The tokens up to the `)` that closes a use, cut at the commas that stand in no inner brackets, of which this many are open. None
-- where no `)` closes it.
abbrev pub arguments : ℕ → List Token → Cut
arguments inner [] = None
arguments inner (t ∷ ts) = cut_at (role t) inner t (λ n. arguments n ts) ts

-- What a token begins among others: nothing; a use that breaks a rule; or a use with its macro, its arguments, and what is behind it.
pub data Sight : Type 0 where
  Plain : Sight
  Wrong : Sight
  Use : Definition → List (List Token) → List Token → Sight

-- as many arguments as parameters; one empty argument counts as none where there is no parameter
abbrev pub fits : List Bool → List (List Token) → Bool
fits [] ([] ∷ []) = true
fits used args = nat_eq (length used) (length args)

abbrev pub closed : Definition → Cut → Sight
closed m None = Wrong
closed m (Some (first, (others, rest))) = if fits m.used (first ∷ others) then Use m (first ∷ others) rest else Wrong

-- a function-like macro's name, in front of these tokens
abbrev pub called : Definition → List Token → Sight
called m [] = Wrong
called m (t ∷ ts) = if is_mark (codes "(") t then closed m (arguments 0 ts) else Wrong

abbrev pub named : Definition → List Token → Sight
named m ts = if m.function_like then called m ts else Use m [] ts

-- a macro's name is wrong where its own body is being expanded
abbrev pub found : Option Definition → Bool → List Token → Sight
found None busy ts = Plain
found (Some m) busy ts = if busy then Wrong else named m ts

-- the name is that of one of the uses
abbrev pub among : List ℕ → List Token → Bool
among name uses = list_any (λ u. bytes_eq u.text name) uses

-- what a token begins in front of others, in the bodies of these uses
unfoldable pub sight : Macros → List Token → Token → List Token → Sight
sight macros uses t ts = if is_name_kind t.kind then found (macros t.text) (among t.text uses) ts else Plain
