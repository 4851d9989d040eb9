-- The grammar of statements (C11 6.8): which trees they have, and how each is written.
use Rattle.std.specs.Prelude.{◌≡◌, List, ◌∷◌, ◌++◌, Option, Some, None, option_map, Bool, true, false}
use Rattle.c_text.specs.declared.tokens.Dialect.{Dialect}
use Rattle.c_text.specs.declared.tokens.Token.{Token}
use Rattle.c_tree.specs.Tree as trees
use Rattle.c_tree.specs.Tree.{Tree, Object, Statement, Statements, Optional}
use Rattle.c_parse.specs.declared.symbols.Sign.TheVariants.{Open, Close, OpenBrace, CloseBrace, Semicolon}
use Rattle.c_parse.specs.declared.symbols.Symbol.TheVariants as symbols
use Rattle.c_parse.specs.declared.symbols.Word.{Word}
use Rattle.c_parse.specs.declared.symbols.Word.TheVariants as words
use Rattle.c_parse.specs.Symbols.{symbol_of}
use Rattle.c_parse.specs.Grammar.{Is, Expression}
use Rattle.c_parse.specs.Declarations.{IsDeclaration}

-- an expression that may be left out: its tokens and its tree
abbrev pub Part : Type 0
Part = Option (List Token × Tree)

-- an expression in brackets, as behind `if` and `while`
pub record Condition : Type 0 where
  pub opening : Token
  pub words : List Token
  pub test : Tree
  pub closing : Token

-- what a `for` begins with: a declaration, which has its `;`, or an expression and a `;`
pub data Start : Type 0 where
  Declared : List Token → List Object → Start
  Started : Part → Token → Start

-- the heading of a `for`
pub record Turns : Type 0 where
  pub opening : Token
  pub start : Start
  pub test : Part
  pub semicolon : Token
  pub step : Part
  pub closing : Token

-- A statement with all of its tokens. A block's statements end with its closing brace.
mutual
  pub data WrittenStatement : Type 0 where
    Declare : List Token → List Object → WrittenStatement
    Run : List Token → Tree → Token → WrittenStatement
    Block : Token → WrittenStatements → WrittenStatement
    If : Token → Condition → WrittenStatement → WrittenStatement
    IfElse : Token → Condition → WrittenStatement → Token → WrittenStatement → WrittenStatement
    While : Token → Condition → WrittenStatement → WrittenStatement
    DoWhile : Token → WrittenStatement → Token → Condition → Token → WrittenStatement
    For : Token → Turns → WrittenStatement → WrittenStatement
    Break : Token → Token → WrittenStatement
    Continue : Token → Token → WrittenStatement
    Return : Token → Part → Token → WrittenStatement
    Empty : Token → WrittenStatement

  pub data WrittenStatements : Type 0 where
    End : Token → WrittenStatements
    Then : WrittenStatement → WrittenStatements → WrittenStatements

-- the token is this word
abbrev pub IsWord : Dialect → Word → Token → Type 0
IsWord d w t = symbol_of d t ≡ symbols.Word w

abbrev pub IsPart : Dialect → Part → Type 0
IsPart d None = Unit {0}
IsPart d (Some x) = Expression d x.0 x.1

abbrev pub IsCondition : Dialect → Condition → Type 0
IsCondition d c = Is d Open c.opening × Expression d c.words c.test × Is d Close c.closing

abbrev pub IsStart : Dialect → Start → Type 0
IsStart d (Declared words os) = IsDeclaration d words os
IsStart d (Started part t) = IsPart d part × Is d Semicolon t

abbrev pub IsTurns : Dialect → Turns → Type 0
IsTurns d h = Is d Open h.opening × IsStart d h.start × IsPart d h.test × Is d Semicolon h.semicolon × IsPart d h.step × Is d Close h.closing

-- The tokens are what each must be. A closed statement doesn't end with an `if` that has no `else`: such a one stands before
-- an `else`, so that this belongs to the nearest `if` before it that may have it (C11 6.8.4.1p3). Here a declaration
-- stands wherever a statement does.
abbrev mutual
  pub Fits : Dialect → Bool → WrittenStatement → Type 0
  Fits d closed (Declare words os) = IsDeclaration d words os
  Fits d closed (Run words e t) = Expression d words e × Is d Semicolon t
  Fits d closed (Block o row) = Is d OpenBrace o × FitAll d row
  Fits d closed (If i c s) = (closed ≡ false) × IsWord d words.If i × IsCondition d c × Fits d false s
  Fits d closed (IfElse i c s l r) = IsWord d words.If i × IsCondition d c × Fits d true s × IsWord d words.Else l × Fits d closed r
  Fits d closed (While w c s) = IsWord d words.While w × IsCondition d c × Fits d closed s
  Fits d closed (DoWhile o s w c t) = IsWord d words.Do o × Fits d false s × IsWord d words.While w × IsCondition d c × Is d Semicolon t
  Fits d closed (For f h s) = IsWord d words.For f × IsTurns d h × Fits d closed s
  Fits d closed (Break b t) = IsWord d words.Break b × Is d Semicolon t
  Fits d closed (Continue b t) = IsWord d words.Continue b × Is d Semicolon t
  Fits d closed (Return b part t) = IsWord d words.Return b × IsPart d part × Is d Semicolon t
  Fits d closed (Empty t) = Is d Semicolon t

  pub FitAll : Dialect → WrittenStatements → Type 0
  FitAll d (End t) = Is d CloseBrace t
  FitAll d (Then s rest) = Fits d false s × FitAll d rest

abbrev pub spell_part : Part → List Token → List Token
spell_part None ts = ts
spell_part (Some x) ts = x.0 ++ ts

abbrev pub spell_condition : Condition → List Token → List Token
spell_condition c ts = c.opening ∷ (c.words ++ c.closing ∷ ts)

abbrev pub spell_start : Start → List Token → List Token
spell_start (Declared words os) ts = words ++ ts
spell_start (Started part t) ts = spell_part part (t ∷ ts)

abbrev pub spell_turns : Turns → List Token → List Token
spell_turns h ts = h.opening ∷ spell_start h.start (spell_part h.test (h.semicolon ∷ spell_part h.step (h.closing ∷ ts)))

-- the tokens of a statement, and then these
abbrev mutual
  pub spell : WrittenStatement → List Token → List Token
  spell (Declare words os) ts = words ++ ts
  spell (Run words e t) ts = words ++ t ∷ ts
  spell (Block o row) ts = o ∷ spell_all row ts
  spell (If i c s) ts = i ∷ spell_condition c (spell s ts)
  spell (IfElse i c s l r) ts = i ∷ spell_condition c (spell s (l ∷ spell r ts))
  spell (While w c s) ts = w ∷ spell_condition c (spell s ts)
  spell (DoWhile o s w c t) ts = o ∷ spell s (w ∷ spell_condition c (t ∷ ts))
  spell (For f h s) ts = f ∷ spell_turns h (spell s ts)
  spell (Break b t) ts = b ∷ t ∷ ts
  spell (Continue b t) ts = b ∷ t ∷ ts
  spell (Return b part t) ts = b ∷ spell_part part (t ∷ ts)
  spell (Empty t) ts = t ∷ ts

  pub spell_all : WrittenStatements → List Token → List Token
  spell_all (End t) ts = t ∷ ts
  spell_all (Then s rest) ts = spell s (spell_all rest ts)

abbrev pub part_tree : Part → Option Tree
part_tree part = option_map (λ x. x.1) part

-- an expression that a `for` may begin with, as a statement
abbrev pub started : Option Tree → Optional
started None = trees.Absent
started (Some e) = trees.Present (trees.Run e)

abbrev pub start_tree : Start → Optional
start_tree (Declared words os) = trees.Present (trees.Declare os)
start_tree (Started part t) = started (part_tree part)

-- Its tree. `break`, `continue` and `return` have the place of their word.
abbrev mutual
  pub tree : WrittenStatement → Statement
  tree (Declare words os) = trees.Declare os
  tree (Run words e t) = trees.Run e
  tree (Block o row) = trees.Block (tree_all row)
  tree (If i c s) = trees.If c.test (tree s) trees.Absent
  tree (IfElse i c s l r) = trees.If c.test (tree s) (trees.Present (tree r))
  tree (While w c s) = trees.While c.test (tree s)
  tree (DoWhile o s w c t) = trees.DoWhile (tree s) c.test
  tree (For f h s) = trees.For (start_tree h.start) (part_tree h.test) (part_tree h.step) (tree s)
  tree (Break b t) = trees.Break b.place
  tree (Continue b t) = trees.Continue b.place
  tree (Return b part t) = trees.Return b.place (part_tree part)
  tree (Empty t) = trees.Empty

  pub tree_all : WrittenStatements → Statements
  tree_all (End t) = trees.NoStatements
  tree_all (Then s rest) = trees.Then (tree s) (tree_all rest)
