-- Reading statements from left to right: what the parser finds, without places in memory.
use Rattle.std.specs.Prelude.{ℕ, zero, suc, ◌+◌, ◌*◌, List, length, Bool, false, ◌==◌, if◌then◌else◌, Option, Some, None, map}
use Rattle.c_text.specs.declared.tokens.Dialect.{Dialect}
use Rattle.c_text.specs.declared.tokens.Place.{Place}
use Rattle.c_text.specs.declared.tokens.Token.{Token}
use Rattle.c_tree.specs.declared.statements.Stmt.{Stmt}
use Rattle.c_tree.specs.View.{view_stmt, and_then}
use Rattle.c_tree.specs.Tree.{Tree, Statement, Statements, Optional, Declare, Run, Block, If, While, DoWhile, For, Break, Continue, Return, Empty, Absent, Present, NoStatements, Then}
use Rattle.c_parse.specs.declared.symbols.Sign.{Sign}
use Rattle.c_parse.specs.declared.symbols.Sign.TheVariants as signs
use Rattle.c_parse.specs.declared.symbols.Symbol.{Symbol}
use Rattle.c_parse.specs.declared.symbols.Symbol.TheVariants as symbols
use Rattle.c_parse.specs.declared.symbols.Word.{Word}
use Rattle.c_parse.specs.declared.symbols.Word.TheVariants as words
use Rattle.c_parse.specs.Reading.{◌>>=◌, or_else, front, place_at, behind, past, read, expression_with}
use Rattle.c_parse.specs.Objects.{begins_declaration}
use Rattle.c_parse.specs.DeclarationReading.{declaration_front}
use Rattle.c_parse.specs.Statements.{started}

-- a number for each word
abbrev pub word_code : Word → ℕ
word_code words.If = 0
word_code words.Else = 1
word_code words.While = 2
word_code words.Do = 3
word_code words.For = 4
word_code words.Break = 5
word_code words.Continue = 6
word_code words.Return = 7
word_code words.Static = 8
word_code words.Inline = 9
word_code words.AlignAs = 10
word_code words.Attribute = 11

abbrev pub is_word : Word → Symbol → Bool
is_word w (symbols.Word v) = word_code w == word_code v
is_word w _ = false

-- what is behind this word
abbrev pub past_word : Dialect → Word → List Token → Option (List Token)
past_word d w ts = if is_word w (front d ts) then Some (behind ts) else None

abbrev pub Reader : Type 0 → Type 0
Reader A = List Token → Option (A × List Token)

-- an expression in brackets
abbrev pub condition_front : Dialect → Reader Tree
condition_front d ts = past d signs.Open ts >>= λ us. expression_with (read d) us >>= λ e. past d signs.Close e.1 >>= λ vs. Some (e.0, vs)

-- an expression that may be left out, and this sign behind it
abbrev pub part_front : Dialect → Sign → Reader (Option Tree)
part_front d s ts = or_else (past d s ts)
    (λ us. Some (None, us))
    (expression_with (read d) ts >>= λ e. past d s e.1 >>= λ us. Some (Some e.0, us))

abbrev pub run_front : Dialect → Reader Statement
run_front d ts = expression_with (read d) ts >>= λ e. past d signs.Semicolon e.1 >>= λ us. Some (Run e.0, us)

abbrev pub declare_front : Dialect → Reader Statement
declare_front d ts = declaration_front d ts >>= λ x. Some (Declare x.0, x.1)

-- what a `for` begins with
abbrev pub start_front : Dialect → Reader Optional
start_front d ts =
    if begins_declaration (front d ts) then (declare_front d ts >>= λ x. Some (Present x.0, x.1))
    else (part_front d signs.Semicolon ts >>= λ x. Some (started x.0, x.1))

-- the heading of a `for`, behind its word
abbrev pub turns_front : Dialect → Reader (Optional × Option Tree × Option Tree)
turns_front d ts = past d signs.Open ts >>= λ us. start_front d us >>= λ a. part_front d signs.Semicolon a.1 >>= λ b. part_front d signs.Close b.1 >>= λ c. Some ((a.0, b.0, c.0), c.1)

-- behind the word `if`
abbrev pub if_with : Dialect → Reader Statement → Reader Statement
if_with d R ts = condition_front d ts >>= λ c. R c.1 >>= λ s. or_else (past_word d words.Else s.1)
    (λ us. R us >>= λ t. Some (If c.0 s.0 (Present t.0), t.1))
    (Some (If c.0 s.0 Absent, s.1))

abbrev pub while_with : Dialect → Reader Statement → Reader Statement
while_with d R ts = condition_front d ts >>= λ c. R c.1 >>= λ s. Some (While c.0 s.0, s.1)

abbrev pub do_with : Dialect → Reader Statement → Reader Statement
do_with d R ts = R ts >>= λ s. past_word d words.While s.1 >>= λ us. condition_front d us >>= λ c. past d signs.Semicolon c.1 >>= λ vs. Some (DoWhile s.0 c.0, vs)

abbrev pub for_with : Dialect → Reader Statement → Reader Statement
for_with d R ts = turns_front d ts >>= λ h. R h.1 >>= λ s. Some (For h.0.0 h.0.1 h.0.2 s.0, s.1)

-- a statement of one word, behind that
abbrev pub word_front : Dialect → Statement → Reader Statement
word_front d s ts = past d signs.Semicolon ts >>= λ us. Some (s, us)

abbrev pub return_front : Dialect → Place → Reader Statement
return_front d p ts = part_front d signs.Semicolon ts >>= λ x. Some (Return p x.0, x.1)

abbrev pub block_with : Reader Statements → Reader Statement
block_with S ts = S ts >>= λ b. Some (Block b.0, b.1)

-- a declaration or an expression
abbrev pub plain_front : Dialect → Reader Statement
plain_front d ts = if begins_declaration (front d ts) then declare_front d ts else run_front d ts

-- a statement that begins with this symbol
abbrev pub beginning_with : Dialect → Reader Statement → Reader Statements → Symbol → Reader Statement
beginning_with d R S (symbols.Word words.If) ts = if_with d R (behind ts)
beginning_with d R S (symbols.Word words.While) ts = while_with d R (behind ts)
beginning_with d R S (symbols.Word words.Do) ts = do_with d R (behind ts)
beginning_with d R S (symbols.Word words.For) ts = for_with d R (behind ts)
beginning_with d R S (symbols.Word words.Break) ts = word_front d (Break (place_at ts)) (behind ts)
beginning_with d R S (symbols.Word words.Continue) ts = word_front d (Continue (place_at ts)) (behind ts)
beginning_with d R S (symbols.Word words.Return) ts = return_front d (place_at ts) (behind ts)
beginning_with d R S (symbols.Sign signs.OpenBrace) ts = block_with S (behind ts)
beginning_with d R S (symbols.Sign signs.Semicolon) ts = Some (Empty, behind ts)
beginning_with d R S _ ts = plain_front d ts

abbrev pub statement_with : Dialect → Reader Statement → Reader Statements → Reader Statement
statement_with d R S ts = beginning_with d R S (front d ts) ts

-- the statements up to the brace that closes the block
abbrev pub statements_with : Dialect → Reader Statement → Reader Statements → Reader Statements
statements_with d R S ts = or_else (past d signs.CloseBrace ts)
    (λ us. Some (NoStatements, us))
    (R ts >>= λ s. S s.1 >>= λ r. Some (Then s.0 r.0, r.1))

-- the number bounds how deep the calls go
unfoldable mutual
  pub statement_at : Dialect → ℕ → Reader Statement
  statement_at d zero ts = None
  statement_at d (suc n) ts = statement_with d (statement_at d n) (statements_at d n) ts

  pub statements_at : Dialect → ℕ → Reader Statements
  statements_at d zero ts = None
  statements_at d (suc n) ts = statements_with d (statement_at d n) (statements_at d n) ts

-- the same, deep enough for these tokens
unfoldable pub statement_of : Dialect → Reader Statement
statement_of d ts = statement_at d (2 * length ts + 1) ts

unfoldable pub statements_of : Dialect → Reader Statements
statements_of d ts = statements_at d (2 * length ts + 2) ts

-- these statements in front of what was read
abbrev pub with_statements : List Stmt → Option (Statements × List Token) → Option (Statements × List Token)
with_statements all o = o >>= λ x. Some (and_then (map view_stmt all) x.0, x.1)
