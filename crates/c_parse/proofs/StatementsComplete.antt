-- What is written as a statement is read.
use Rattle.std.proofs.Common.{◌≡◌, List, ◌∷◌, ◌++◌, Some, None, refl, ◌∙◌, Bool, true, false}
use Rattle.c_text.specs.declared.tokens.Dialect.{Dialect}
use Rattle.c_text.specs.declared.tokens.Token.{Token}
use Rattle.c_tree.specs.Tree.{Tree, Object, Statement, Statements}
use Rattle.c_parse.specs.declared.symbols.Sign.{Sign}
use Rattle.c_parse.specs.declared.symbols.Sign.TheVariants as signs
use Rattle.c_parse.specs.declared.symbols.Symbol.{Symbol}
use Rattle.c_parse.specs.declared.symbols.Symbol.TheVariants as symbols
use Rattle.c_parse.specs.declared.symbols.Word.TheVariants as words
use Rattle.c_parse.specs.Reading.{front, is_sign, past}
use Rattle.c_parse.specs.Grammar.{Is, Expression}
use Rattle.c_parse.specs.Objects.{begins_declaration}
use Rattle.c_parse.specs.Declarations.{IsDeclaration}
use Rattle.c_parse.specs.Statements.{Part, Condition, Start, Declared, Started, Turns, WrittenStatement, WrittenStatements, Declare, Run, Block, If, IfElse, While, DoWhile, For, Break, Continue, Return, Empty, End, Then, IsPart, IsCondition, IsStart, IsTurns, Fits, FitAll, spell_part, spell_condition, spell_start, spell_turns, spell, spell_all, part_tree, start_tree, tree, tree_all}
use Rattle.c_parse.specs.StatementReading.{Reader, is_word, past_word, condition_front, part_front, run_front, declare_front, start_front, turns_front, plain_front, beginning_with, statement_of, statements_of}
use Rattle.c_parse.proofs.Complete.{Closed}
use Rattle.c_parse.proofs.Endings.{begins_expression, sign_closed}
use Rattle.c_parse.proofs.Leaves.{expression_complete, expression_begins}
use Rattle.c_parse.proofs.DeclarationsRead.{declaration_complete, declaration_begins}
use Rattle.c_parse.proofs.StatementsStable.{statement_eq, statements_eq}

-- what begins a declaration or an expression begins no other statement, and ends no block
pub record Plain (m : Symbol) : Type 0 where
  beginning : (d : Dialect) (R : Reader Statement) (S : Reader Statements) (ts : List Token) → beginning_with d R S m ts ≡ plain_front d ts
  pub semicolon : is_sign signs.Semicolon m ≡ false
  close : is_sign signs.Close m ≡ false
  brace : is_sign signs.CloseBrace m ≡ false
  else' : is_word words.Else m ≡ false

pub declaration_plain : (m : Symbol) → begins_declaration m ≡ true → Plain m
declaration_plain (symbols.Type w) e = record { beginning = λ d R S ts. refl; semicolon = refl; close = refl; brace = refl; else' = refl }
declaration_plain symbols.Const e = record { beginning = λ d R S ts. refl; semicolon = refl; close = refl; brace = refl; else' = refl }
declaration_plain (symbols.Word words.Static) e = record { beginning = λ d R S ts. refl; semicolon = refl; close = refl; brace = refl; else' = refl }
declaration_plain (symbols.Word words.Inline) e = record { beginning = λ d R S ts. refl; semicolon = refl; close = refl; brace = refl; else' = refl }
declaration_plain (symbols.Word words.AlignAs) e = record { beginning = λ d R S ts. refl; semicolon = refl; close = refl; brace = refl; else' = refl }
declaration_plain (symbols.Word words.Attribute) e = record { beginning = λ d R S ts. refl; semicolon = refl; close = refl; brace = refl; else' = refl }
declaration_plain _ e = absurd (cc)

expression_plain : (m : Symbol) → begins_expression m ≡ true → Plain m × (begins_declaration m ≡ false)
expression_plain symbols.Name e = (record { beginning = λ d R S ts. refl; semicolon = refl; close = refl; brace = refl; else' = refl }, refl)
expression_plain symbols.Constant e = (record { beginning = λ d R S ts. refl; semicolon = refl; close = refl; brace = refl; else' = refl }, refl)
expression_plain (symbols.Sign signs.Open) e = (record { beginning = λ d R S ts. refl; semicolon = refl; close = refl; brace = refl; else' = refl }, refl)
expression_plain (symbols.Sign signs.SizeOf) e = (record { beginning = λ d R S ts. refl; semicolon = refl; close = refl; brace = refl; else' = refl }, refl)
expression_plain (symbols.Step up) e = (record { beginning = λ d R S ts. refl; semicolon = refl; close = refl; brace = refl; else' = refl }, refl)
expression_plain symbols.Tilde e = (record { beginning = λ d R S ts. refl; semicolon = refl; close = refl; brace = refl; else' = refl }, refl)
expression_plain symbols.Exclamation e = (record { beginning = λ d R S ts. refl; semicolon = refl; close = refl; brace = refl; else' = refl }, refl)
expression_plain (symbols.Infix op) e = (record { beginning = λ d R S ts. refl; semicolon = refl; close = refl; brace = refl; else' = refl }, refl)
expression_plain _ e = absurd (cc)

condition_read : (d : Dialect) (c : Condition) (rest : List Token) → IsCondition d c → condition_front d (spell_condition c rest) ≡ Some (c.test, rest)
condition_read d c rest f =
    rw (f.0, expression_complete d c.words c.test (c.closing ∷ rest) f.1 (sign_closed d signs.Close (c.closing ∷ rest) refl refl f.2), f.2) refl

-- an expression that may be left out, in front of a sign that ends it
part_read : (d : Dialect) (s : Sign) (p : Part) (t : Token) (rest : List Token) → (is_sign s (symbols.Sign s) ≡ true) → (Closed d (t ∷ rest)) →
    ((m : Symbol) → begins_expression m ≡ true → is_sign s m ≡ false) → IsPart d p → Is d s t → part_front d s (spell_part p (t ∷ rest)) ≡ Some (part_tree p, rest)
part_read d s None t rest same ends apart f is = rw (is, same) refl
part_read d s (Some x) t rest same ends apart f is =
    rw (
      apart (front d (x.0 ++ t ∷ rest)) (expression_begins d x.0 x.1 (t ∷ rest) f),
      expression_complete d x.0 x.1 (t ∷ rest) f ends,
      is,
      same,
    ) refl

semicolon_part : (d : Dialect) (p : Part) (t : Token) (rest : List Token) → IsPart d p → Is d signs.Semicolon t → part_front d signs.Semicolon (spell_part p (t ∷ rest)) ≡ Some (part_tree p, rest)
semicolon_part d p t rest f is = part_read d signs.Semicolon p t rest refl (sign_closed d signs.Semicolon (t ∷ rest) refl refl is) (λ m b. (expression_plain m b).0.semicolon) f is

close_part : (d : Dialect) (p : Part) (t : Token) (rest : List Token) → IsPart d p → Is d signs.Close t → part_front d signs.Close (spell_part p (t ∷ rest)) ≡ Some (part_tree p, rest)
close_part d p t rest f is = part_read d signs.Close p t rest refl (sign_closed d signs.Close (t ∷ rest) refl refl is) (λ m b. (expression_plain m b).0.close) f is

declare_read : (d : Dialect) (words : List Token) (os : List Object) (rest : List Token) → IsDeclaration d words os → declare_front d (words ++ rest) ≡ Some (tree (Declare words os), rest)
declare_read d words os rest f = rw (declaration_complete d words os rest f) refl

run_read : (d : Dialect) (words : List Token) (e : Tree) (t : Token) (rest : List Token) → Expression d words e → Is d signs.Semicolon t →
    run_front d (words ++ t ∷ rest) ≡ Some (tree (Run words e t), rest)
run_read d words e t rest f is = rw (expression_complete d words e (t ∷ rest) f (sign_closed d signs.Semicolon (t ∷ rest) refl refl is), is) refl

-- an expression or a `;` begins no declaration
part_begins : (d : Dialect) (p : Part) (t : Token) (rest : List Token) → IsPart d p → Is d signs.Semicolon t → begins_declaration (front d (spell_part p (t ∷ rest))) ≡ false
part_begins d None t rest f is = rw is refl
part_begins d (Some x) t rest f is = (expression_plain (front d (x.0 ++ t ∷ rest)) (expression_begins d x.0 x.1 (t ∷ rest) f)).1

start_read : (d : Dialect) (s : Start) (rest : List Token) → IsStart d s → start_front d (spell_start s rest) ≡ Some (start_tree s, rest)
start_read d (Declared words os) rest f = rw (declaration_begins d words os rest f, declaration_complete d words os rest f) refl
start_read d (Started p t) rest f = rw (part_begins d p t rest f.0 f.1, semicolon_part d p t rest f.0 f.1) refl

turns_read : (d : Dialect) (h : Turns) (rest : List Token) → IsTurns d h → turns_front d (spell_turns h rest) ≡ Some ((start_tree h.start, part_tree h.test, part_tree h.step), rest)
turns_read d h rest f =
    rw (
      f.0,
      start_read d h.start (spell_part h.test (h.semicolon ∷ spell_part h.step (h.closing ∷ rest))) f.1,
      semicolon_part d h.test h.semicolon (spell_part h.step (h.closing ∷ rest)) f.2 f.3,
      close_part d h.step h.closing rest f.4 f.5,
    ) refl

-- reading what begins so is reading a declaration or an expression
plain_read : (d : Dialect) (ts : List Token) → Plain (front d ts) → statement_of d ts ≡ plain_front d ts
plain_read d ts p = statement_eq d ts ∙ p.beginning d (statement_of d) (statements_of d) ts

declaration_read : (d : Dialect) (words : List Token) (os : List Object) (rest : List Token) → IsDeclaration d words os → statement_of d (words ++ rest) ≡ Some (tree (Declare words os), rest)
declaration_read d words os rest f =
    let b = declaration_begins d words os rest f in
    plain_read d (words ++ rest) (declaration_plain (front d (words ++ rest)) b) ∙ rw (b, declare_read d words os rest f) refl

expression_read : (d : Dialect) (words : List Token) (e : Tree) (t : Token) (rest : List Token) → Expression d words e → Is d signs.Semicolon t →
    statement_of d (words ++ t ∷ rest) ≡ Some (tree (Run words e t), rest)
expression_read d words e t rest f is =
    let p = expression_plain (front d (words ++ t ∷ rest)) (expression_begins d words e (t ∷ rest) f) in
    plain_read d (words ++ t ∷ rest) p.0 ∙ rw (p.1, run_read d words e t rest f is) refl

-- no statement begins with `}` or `else`
record Starts (d : Dialect) (ts : List Token) : Type 0 where
  brace : past d signs.CloseBrace ts ≡ None
  else' : past_word d words.Else ts ≡ None

plain_starts : (d : Dialect) (ts : List Token) → Plain (front d ts) → Starts d ts
plain_starts d ts p = record { brace = rw p.brace refl; else' = rw p.else' refl }

starts : (d : Dialect) (closed : Bool) (s : WrittenStatement) (rest : List Token) → Fits d closed s → Starts d (spell s rest)
starts d closed (Declare words os) rest f = plain_starts d (words ++ rest) (declaration_plain (front d (words ++ rest)) (declaration_begins d words os rest f))
starts d closed (Run words e t) rest f = plain_starts d (words ++ t ∷ rest) (expression_plain (front d (words ++ t ∷ rest)) (expression_begins d words e (t ∷ rest) f.0)).0
starts d closed (Block o row) rest f = record { brace = rw f.0 refl; else' = rw f.0 refl }
starts d closed (If i c s) rest f = record { brace = rw f.1 refl; else' = rw f.1 refl }
starts d closed (IfElse i c s l r) rest f = record { brace = rw f.0 refl; else' = rw f.0 refl }
starts d closed (While w c s) rest f = record { brace = rw f.0 refl; else' = rw f.0 refl }
starts d closed (DoWhile o s w c t) rest f = record { brace = rw f.0 refl; else' = rw f.0 refl }
starts d closed (For w h s) rest f = record { brace = rw f.0 refl; else' = rw f.0 refl }
starts d closed (Break b t) rest f = record { brace = rw f.0 refl; else' = rw f.0 refl }
starts d closed (Continue b t) rest f = record { brace = rw f.0 refl; else' = rw f.0 refl }
starts d closed (Return b p t) rest f = record { brace = rw f.0 refl; else' = rw f.0 refl }
starts d closed (Empty t) rest f = record { brace = rw f refl; else' = rw f refl }

no_else : (d : Dialect) (row : WrittenStatements) (rest : List Token) → FitAll d row → past_word d words.Else (spell_all row rest) ≡ None
no_else d (End t) rest f = rw f refl
no_else d (Then s row) rest f = (starts d false s (spell_all row rest) f.0).else'

abbrev Complete : Dialect → WrittenStatement → Type 0
Complete d s = (closed : Bool) (rest : List Token) → Fits d closed s → (closed ≡ false → past_word d words.Else rest ≡ None) → statement_of d (spell s rest) ≡ Some (tree s, rest)

abbrev CompleteAll : Dialect → WrittenStatements → Type 0
CompleteAll d row = (rest : List Token) → FitAll d row → statements_of d (spell_all row rest) ≡ Some (tree_all row, rest)

complete_if : (d : Dialect) (i : Token) (c : Condition) (s : WrittenStatement) → Complete d s → Complete d (If i c s)
complete_if d i c s cs closed rest f stop =
    statement_eq d (spell (If i c s) rest) ∙ rw (f.1, condition_read d c (spell s rest) f.2, cs false rest f.3 (λ _. stop f.0), stop f.0) refl

complete_if_else : (d : Dialect) (i : Token) (c : Condition) (s : WrittenStatement) (l : Token) (r : WrittenStatement) → Complete d s → Complete d r → Complete d (IfElse i c s l r)
complete_if_else d i c s l r cs cr closed rest f stop =
    statement_eq d (spell (IfElse i c s l r) rest)
    ∙ rw (f.0, condition_read d c (spell s (l ∷ spell r rest)) f.1, cs true (l ∷ spell r rest) f.2 (λ e. absurd (cc)), f.3, cr closed rest f.4 stop) refl

complete_while : (d : Dialect) (w : Token) (c : Condition) (s : WrittenStatement) → Complete d s → Complete d (While w c s)
complete_while d w c s cs closed rest f stop = statement_eq d (spell (While w c s) rest) ∙ rw (f.0, condition_read d c (spell s rest) f.1, cs closed rest f.2 stop) refl

complete_do : (d : Dialect) (o : Token) (s : WrittenStatement) (w : Token) (c : Condition) (t : Token) → Complete d s → Complete d (DoWhile o s w c t)
complete_do d o s w c t cs closed rest f stop =
    statement_eq d (spell (DoWhile o s w c t) rest)
    ∙ rw (f.0, cs false (w ∷ spell_condition c (t ∷ rest)) f.1 (λ _. rw f.2 refl), f.2, condition_read d c (t ∷ rest) f.3, f.4) refl

complete_for : (d : Dialect) (w : Token) (h : Turns) (s : WrittenStatement) → Complete d s → Complete d (For w h s)
complete_for d w h s cs closed rest f stop = statement_eq d (spell (For w h s) rest) ∙ rw (f.0, turns_read d h (spell s rest) f.1, cs closed rest f.2 stop) refl

complete_block : (d : Dialect) (o : Token) (row : WrittenStatements) → CompleteAll d row → Complete d (Block o row)
complete_block d o row cr closed rest f stop = statement_eq d (spell (Block o row) rest) ∙ rw (f.0, cr rest f.1) refl

complete_return : (d : Dialect) (b : Token) (p : Part) (t : Token) → Complete d (Return b p t)
complete_return d b p t closed rest f stop = statement_eq d (spell (Return b p t) rest) ∙ rw (f.0, semicolon_part d p t rest f.1 f.2) refl

complete_then : (d : Dialect) (s : WrittenStatement) (row : WrittenStatements) → Complete d s → CompleteAll d row → CompleteAll d (Then s row)
complete_then d s row cs cr rest f =
    statements_eq d (spell_all (Then s row) rest)
    ∙ rw ((starts d false s (spell_all row rest) f.0).brace, cs false (spell_all row rest) f.0 (λ _. no_else d row rest f.1), cr rest f.1) refl

mutual
  pub complete : (d : Dialect) (s : WrittenStatement) → Complete d s
  complete d (Declare words os) = λ closed rest f stop. declaration_read d words os rest f
  complete d (Run words e t) = λ closed rest f stop. expression_read d words e t rest f.0 f.1
  complete d (Block o row) = complete_block d o row (complete_all d row)
  complete d (If i c s) = complete_if d i c s (complete d s)
  complete d (IfElse i c s l r) = complete_if_else d i c s l r (complete d s) (complete d r)
  complete d (While w c s) = complete_while d w c s (complete d s)
  complete d (DoWhile o s w c t) = complete_do d o s w c t (complete d s)
  complete d (For w h s) = complete_for d w h s (complete d s)
  complete d (Break b t) = λ closed rest f stop. statement_eq d (b ∷ t ∷ rest) ∙ rw (f.0, f.1) refl
  complete d (Continue b t) = λ closed rest f stop. statement_eq d (b ∷ t ∷ rest) ∙ rw (f.0, f.1) refl
  complete d (Return b p t) = complete_return d b p t
  complete d (Empty t) = λ closed rest f stop. statement_eq d (t ∷ rest) ∙ rw f refl

  pub complete_all : (d : Dialect) (row : WrittenStatements) → CompleteAll d row
  complete_all d (End t) = λ rest f. statements_eq d (t ∷ rest) ∙ rw f refl
  complete_all d (Then s row) = complete_then d s row (complete d s) (complete_all d row)
