-- A unit whose text is read again as the same unit.
use Rattle.std.specs.Prelude.{List}
use Rattle.c_text.specs.declared.tokens.Dialect.TheVariants.{Neon}
use Rattle.c_text.specs.declared.tokens.Token.{Token}
use Rattle.c_tree.specs.Same.{Same}
use Rattle.c_tree.specs.Tree.{External}
use Rattle.c_print.specs.Text.{text_of}
use Rattle.c_parse.specs.Items.{IsUnit}
use Rattle.round_trip.specs.Unlimited.{UnlimitedTokens, UnlimitedExpansion}

-- The unit's text has these tokens (C11 5.1.1.2 and 6.4), and what directives and macros leave of them (6.10) are the tokens of a unit of the Neon
-- dialect that is the same. Neither names nor the lists of tokens have a limit.
pub record ReadAgain (unit : List External) : Type 0 where
  pub tokens : List Token
  pub rest : List Token
  pub again : List External
  pub lexed : UnlimitedTokens (text_of unit) tokens
  pub expanded : UnlimitedExpansion tokens rest
  pub is : IsUnit Neon rest again
  pub same : Same again unit
