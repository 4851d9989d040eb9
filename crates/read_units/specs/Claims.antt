-- What is claimed of the units of the grammar.
use Rattle.std.specs.Prelude.{List}
use Rattle.c_text.specs.declared.tokens.Dialect.TheVariants.{X86}
use Rattle.c_text.specs.declared.tokens.Token.{Token}
use Rattle.c_text.specs.Tokens.{AllNamed}
use Rattle.c_tree.specs.Tree.{External}
use Rattle.c_parse.specs.Items.{IsUnit}
use Rattle.read_units.specs.Read.{ReadUnit}

-- What the grammar of the x86 dialect gives for tokens is so, where each name among these is a name of C, as lexed ones are.
abbrev pub UnitsOfTheGrammarAreRead : Type 0
UnitsOfTheGrammarAreRead = (tokens : List Token) (unit : List External) → IsUnit X86 tokens unit → AllNamed tokens → ReadUnit unit
