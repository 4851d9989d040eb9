-- The constants of the C subset: integer and character constants (C11 6.4.4). It has no floating constants.
use Rattle.std.specs.Prelude.{ℕ, List, Option, None, ℤ, Bool, false, true, is_some}
use Rattle.lane_core.specs.declared.number.IntType.{IntType}
use Rattle.c_text.specs.declared.tokens.TokenKind.{TokenKind}
use Rattle.c_text.specs.declared.tokens.TokenKind.TheVariants.{Name, Number, Quote, Str, Mark, Lone}
use Rattle.c_constants.specs.IntegerConstant.{integer_constant}
use Rattle.c_constants.specs.CharacterConstant.{character_constant}

-- the number that a token of this kind and text is, with its type; None where it is no constant
unfoldable pub constant_of : TokenKind → List ℕ → Option (IntType × ℤ)
constant_of Name text = None
constant_of Number text = integer_constant text
constant_of Quote text = character_constant text
constant_of Str text = None
constant_of Mark text = None
constant_of Lone text = None

-- whether a token is one of the C subset: a number and a character constant only where it has a value, and a byte that
-- is a token by itself never
abbrev pub is_c_token : TokenKind → List ℕ → Bool
is_c_token Name text = true
is_c_token Number text = is_some (constant_of Number text)
is_c_token Quote text = is_some (constant_of Quote text)
is_c_token Str text = true
is_c_token Mark text = true
is_c_token Lone text = false
