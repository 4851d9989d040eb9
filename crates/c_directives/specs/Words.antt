-- The words of directives (C11 6.10p1).
use Rattle.std.specs.Prelude.{ℕ, List, [], ◌∷◌, bytes_eq, if◌then◌else◌, codes, Option, Some, None, unwrap_or}
use Rattle.std.specs.Map.{lookup}
use Rattle.c_text.specs.declared.tokens.Token.{Token}
use Rattle.c_macros.specs.Arguments.{is_name_kind}
use Rattle.c_directives.specs.declared.words.Word.{Word}
use Rattle.c_directives.specs.declared.words.Word.TheVariants.{If, Ifdef, Ifndef, Elif, Else, Endif, Include, Define, Undef, Pragma, Unknown}

abbrev pub condition_words : List (List ℕ × Word)
condition_words =
    (codes "if", If) ∷ (codes "ifdef", Ifdef) ∷ (codes "ifndef", Ifndef) ∷ (codes "elif", Elif) ∷ (codes "else", Else) ∷ (codes "endif", Endif) ∷ []

-- every other word, `error` among them, is unknown
abbrev pub other_words : List (List ℕ × Word)
other_words = (codes "include", Include) ∷ (codes "define", Define) ∷ (codes "undef", Undef) ∷ (codes "pragma", Pragma) ∷ []

abbrev pub or_other : Option Word → List ℕ → Word
or_other None text = unwrap_or (lookup (bytes_eq text) other_words) Unknown
or_other (Some w) text = w

abbrev pub named : List ℕ → Word
named text = or_other (lookup (bytes_eq text) condition_words) text

unfoldable pub word_of : Token → Word
word_of t = if is_name_kind t.kind then named t.text else Unknown
