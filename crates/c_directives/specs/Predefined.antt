-- The macros that are defined before a text begins.
use Rattle.std.specs.Prelude.{ℕ, List, [], ◌∷◌, ◌++◌, Bool, true, false, ◌&&◌, if◌then◌else◌, nat_lt, codes, Some}
use Rattle.c_text.specs.declared.tokens.Dialect.{Dialect}
use Rattle.c_text.specs.declared.tokens.TokenKind.{TokenKind}
use Rattle.c_text.specs.declared.tokens.TokenKind.TheVariants.{Name, Number, Mark}
use Rattle.c_text.specs.declared.tokens.Token.{Token}
use Rattle.c_text.specs.PredefinedNames.{Macro, predefined_names}
use Rattle.c_macros.specs.Definition.{Definition, Macros, no_macros, with_macro}
use Rattle.c_directives.specs.Definitions.{definition_of}

-- a token of a body, and whether white space stands before it; it has no place of its own
abbrev pub token : TokenKind → List ℕ → Bool → Token
token kind text spaced = record { kind = kind; text = text; place = record { line = 1; col = 1 }; spaced = spaced; first = false }

-- `((NAME) << DIGIT)`
abbrev pub shifted : List ℕ → List ℕ → Bool → List Token
shifted name digit spaced =
    token Mark (codes "(") spaced ∷ token Mark (codes "(") false ∷ token Name name false ∷ token Mark (codes ")") false ∷
    token Mark (codes "<<") true ∷ token Number digit true ∷ token Mark (codes ")") false ∷ []

abbrev pub bar : List Token
bar = token Mark (codes "|") true ∷ []

abbrev pub last_part : List Token
last_part =
    token Mark (codes "(") true ∷ token Name (codes "w") false ∷ token Mark (codes ")") false ∷ token Mark (codes ")") false ∷ []

-- the tokens of `(((z) << 6) | ((y) << 4) | ((x) << 2) | (w))`
abbrev pub shuffle_body : List Token
shuffle_body =
    token Mark (codes "(") false ∷ (shifted (codes "z") (codes "6") false ++ (bar ++ (shifted (codes "y") (codes "4") true ++ (bar ++
    (shifted (codes "x") (codes "2") true ++ (bar ++ last_part))))))

abbrev pub begins_with_digit : List ℕ → Bool
begins_with_digit [] = false
begins_with_digit (b ∷ bs) = nat_lt 47 b && nat_lt b 58

-- a number or a name
abbrev pub word : List ℕ → Token
word text = token (if begins_with_digit text then Number else Name) text false

-- the tokens of a body: that of `_MM_SHUFFLE`, which alone has parameters, or one word
abbrev pub body_of : Macro → List Token
body_of m = elim m.parameters [ [] ↦ word m.body ∷ [] | p ∷ ps ↦ shuffle_body ]

abbrev pub has_parameters : List (List ℕ) → Bool
has_parameters [] = false
has_parameters (p ∷ ps) = true

abbrev pub predefinition : Macro → Definition
predefinition m = definition_of (has_parameters m.parameters) m.parameters (body_of m)

abbrev pub predefined_in : List Macro → Macros
predefined_in [] = no_macros
predefined_in (m ∷ ms) = with_macro m.name (Some (predefinition m)) (predefined_in ms)

-- what each name stands for before a text of a dialect begins
unfoldable pub predefined : Dialect → Macros
predefined dialect = predefined_in (predefined_names dialect)
