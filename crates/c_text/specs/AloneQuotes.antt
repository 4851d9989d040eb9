-- Quotes that are known to have no partner before the line's end, so that it isn't looked for again.
use Rattle.std.specs.Prelude.{◌≡◌, ℕ, List, ◌∷◌, ◌++◌, None, Bool, true, false, ◌&&◌, ◌||◌, ◌==◌}
use Rattle.c_text.specs.declared.tokens.TokenKind.TheVariants.{Lone}
use Rattle.c_text.specs.declared.pieces.Sort.{Sort}
use Rattle.c_text.specs.declared.pieces.Sort.TheVariants.{Lexeme}
use Rattle.c_text.specs.declared.pieces.Alone.{Alone}
use Rattle.c_text.specs.Forms.{all_are, is_no_line_end}
use Rattle.c_text.specs.Reading.{partner}

abbrev pub is_lone_sort : Sort → Bool
is_lone_sort (Lexeme Lone) = true
is_lone_sort _ = false

abbrev pub is_alone : Alone → ℕ → Bool
is_alone alone b = ((b == 39) && alone.single) || ((b == 34) && alone.double)

abbrev pub alone_behind : Alone → Sort → ℕ → List ℕ → Alone
alone_behind alone sort b bytes = record {
  single = all_are is_no_line_end bytes && (alone.single || (is_lone_sort sort && (b == 39)));
  double = all_are is_no_line_end bytes && (alone.double || (is_lone_sort sort && (b == 34)));
}

-- no such quote before the line's end has a partner
abbrev pub NoPartner : ℕ → List ℕ → Type 0
NoPartner quote text = (p rest : List ℕ) → text ≡ p ++ (quote ∷ rest) → all_are is_no_line_end p ≡ true → partner quote false 0 rest ≡ None

abbrev pub AreAlone : Alone → List ℕ → Type 0
AreAlone alone text = (alone.single ≡ true → NoPartner 39 text) × (alone.double ≡ true → NoPartner 34 text)
