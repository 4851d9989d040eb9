use Rattle.c_parse.proofs.DeclarationsRead.{declarations_begin}
use Rattle.c_parse.proofs.Endings.{declaration_no_expression}
use Rattle.c_parse.proofs.declaration_laws.a_word_of_specifiers_begins_declarations.Goals as goal

pub returns-clause-expression : goal.returns-clause-expression
returns-clause-expression c = declaration_no_expression

pub returns-clause-declaration : goal.returns-clause-declaration
returns-clause-declaration c = declarations_begin
