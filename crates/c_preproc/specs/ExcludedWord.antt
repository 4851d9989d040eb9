-- The words that stand in no unit of the C subset.
use Rattle.std.specs.Prelude.{ℕ, List, [], ◌∷◌, ◌++◌, codes, bytes_eq, Bool, false}
use Rattle.std.specs.List.{list_any}
use Rattle.c_text.specs.declared.tokens.Dialect.{Dialect}
use Rattle.c_text.specs.declared.tokens.Dialect.TheVariants.{X86, Neon}
use Rattle.c_text.specs.declared.tokens.TokenKind.{TokenKind}
use Rattle.c_text.specs.declared.tokens.TokenKind.TheVariants.{Name, Number, Quote, Str, Mark, Lone}

-- those of both dialects
abbrev pub excluded_in_both : List (List ℕ)
excluded_in_both =
    codes "asm" ∷ codes "__asm" ∷ codes "__asm__" ∷ codes "auto" ∷ codes "case" ∷ codes "default" ∷ codes "double" ∷
    codes "enum" ∷ codes "extern" ∷ codes "float" ∷ codes "goto" ∷ codes "register" ∷ codes "struct" ∷ codes "switch" ∷
    codes "typedef" ∷ codes "union" ∷ codes "volatile" ∷ codes "_Alignof" ∷ codes "_Atomic" ∷ codes "_Complex" ∷
    codes "_Generic" ∷ codes "_Imaginary" ∷ codes "_Noreturn" ∷ codes "_Static_assert" ∷ codes "_Thread_local" ∷
    codes "__int128" ∷ []

-- those of the x86 dialect besides: its vector types that the subset leaves out
abbrev pub excluded_vectors : List (List ℕ)
excluded_vectors = codes "__m64" ∷ codes "__m128" ∷ codes "__m128d" ∷ codes "__m256" ∷ codes "__m256d" ∷ codes "__m512i" ∷ []

abbrev pub excluded_words : Dialect → List (List ℕ)
excluded_words X86 = excluded_in_both ++ excluded_vectors
excluded_words Neon = excluded_in_both

-- whether a name is among a dialect's excluded words
abbrev pub is_excluded_word : Dialect → List ℕ → Bool
is_excluded_word dialect word = list_any (bytes_eq word) (excluded_words dialect)

-- whether a token is an excluded word
abbrev pub is_excluded : Dialect → TokenKind → List ℕ → Bool
is_excluded dialect Name text = is_excluded_word dialect text
is_excluded dialect Number text = false
is_excluded dialect Quote text = false
is_excluded dialect Str text = false
is_excluded dialect Mark text = false
is_excluded dialect Lone text = false
