-- The grammar of units (C11 6.9): which functions and tables they have.
use Rattle.std.specs.Prelude.{◌≡◌, List, [], ◌∷◌, ◌++◌, Bool}
use Rattle.c_text.specs.declared.tokens.Dialect.{Dialect}
use Rattle.c_text.specs.declared.tokens.Token.{Token}
use Rattle.c_tree.specs.Tree as trees
use Rattle.c_tree.specs.Tree.{Object, Statements, Definition, External}
use Rattle.c_parse.specs.declared.symbols.Sign.TheVariants.{OpenBrace, Semicolon}
use Rattle.c_parse.specs.Grammar.{Is}
use Rattle.c_parse.specs.Repeated.{Each, spell_each}
use Rattle.c_parse.specs.Declarations.{IsHeading, IsObject}
use Rattle.c_parse.specs.Statements.{WrittenStatements, FitAll, spell_all, tree_all}

-- What stands at file scope, with all of its tokens: a stray `;`, a heading with a `;` behind it, which is a prototype, a
-- heading with a body, which is a function (C11 6.9.1), or an object with its `;` (C11 6.9.2).
pub data Item : Type 0 where
  Stray : Token → Item
  Prototype : List Token → Definition → Token → Item
  Function : List Token → Definition → Token → WrittenStatements → Item
  Table : List Token → Object → Bool → Item

abbrev pub IsItem : Dialect → Item → Type 0
IsItem d (Stray t) = Is d Semicolon t
IsItem d (Prototype words heading t) = IsHeading d words heading × Is d Semicolon t
IsItem d (Function words heading o body) = IsHeading d words heading × Is d OpenBrace o × FitAll d body
IsItem d (Table words o is_static) = IsObject d words (o, is_static)

-- the tokens of an item, and then these
abbrev pub spell_item : Item → List Token → List Token
spell_item (Stray t) ts = t ∷ ts
spell_item (Prototype words heading t) ts = words ++ t ∷ ts
spell_item (Function words heading o body) ts = words ++ o ∷ spell_all body ts
spell_item (Table words o is_static) ts = words ++ ts

-- a heading with this body
abbrev pub with_body : Definition → Statements → Definition
with_body heading body = record heading { body = body }

-- what the items are: those that are a stray `;` or a prototype are nothing
abbrev pub tree_items : List Item → List External
tree_items [] = []
tree_items (Stray t ∷ rest) = tree_items rest
tree_items (Prototype words heading t ∷ rest) = tree_items rest
tree_items (Function words heading o body ∷ rest) = trees.Function (with_body heading (tree_all body)) ∷ tree_items rest
tree_items (Table words o is_static ∷ rest) = trees.Table o is_static ∷ tree_items rest

-- these tokens are a unit, and these are its functions and tables
pub record IsUnit (d : Dialect) (ts : List Token) (unit : List External) : Type 0 where
  pub written : List Item
  pub fits : Each (IsItem d) written
  pub spelled : ts ≡ spell_each spell_item written []
  pub means : tree_items written ≡ unit
