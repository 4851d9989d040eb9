-- What is claimed of the names that an expansion leaves.
use Rattle.std.specs.Prelude.{◌≡◌, List, Ok}
use Rattle.c_text.specs.declared.tokens.Dialect.{Dialect}
use Rattle.c_text.specs.declared.tokens.Token.{Token}
use Rattle.c_text.specs.Tokens.{AllNamed}
use Rattle.c_directives.specs.Directives.{expansion}

-- Names of a text are names of C (C11 6.4.2.1) after its expansion (6.10), where they are before, as those of lexed tokens are.
abbrev pub ExpansionsHaveNames : Type 0
ExpansionsHaveNames = (dialect : Dialect) (tokens items : List Token) → expansion dialect tokens ≡ Ok items → AllNamed tokens → AllNamed items
