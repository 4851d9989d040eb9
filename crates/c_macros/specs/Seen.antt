-- How contracts see what the code has of uses.
use Rattle.std.specs.Prelude.{List, ◌∷◌, ◌++◌, map, Option, Some, None}
use Rattle.c_text.specs.declared.tokens.Token.{Token}
use Rattle.c_macros.specs.declared.arguments.Arguments.{Arguments}
use Rattle.c_macros.specs.declared.sights.Found.{Found}
use Rattle.c_macros.specs.declared.sights.Found.TheVariants.{Plain as FoundPlain, Wrong as FoundWrong, Use as FoundUse}
use Rattle.c_macros.specs.Arguments.{Cut, Sight, Plain, Wrong, Use}

-- all arguments, and what is behind them
abbrev pub Listed : Type 0
Listed = Option (List (List Token) × List Token)

abbrev pub listed : Cut → Listed
listed None = None
listed (Some (first, (others, rest))) = Some (first ∷ others, rest)

abbrev pub arguments_seen : Option Arguments → Listed
arguments_seen None = None
arguments_seen (Some x) = Some (map (λ a. a.tokens.now) x.list.items, x.rest.tokens.now)

-- the arguments of tokens of which these were passed: whole arguments, and the start of one
abbrev pub glued : List (List Token) → List Token → Cut → Listed
glued done start None = None
glued done start (Some (first, (others, rest))) = Some (done ++ (start ++ first) ∷ others, rest)

abbrev pub found_seen : Found → Sight
found_seen FoundPlain = Plain
found_seen FoundWrong = Wrong
found_seen (FoundUse u) = Use u.definition.now (map (λ a. a.tokens.now) u.arguments.items) u.rest.tokens.now
