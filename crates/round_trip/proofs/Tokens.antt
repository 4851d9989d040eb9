-- Tokens that are these words, one after the other.
use Rattle.std.proofs.Common.{◌≡◌, ℕ, List, [], ◌∷◌, map, drop, true, refl, ◌∙◌, ap}
use Rattle.c_text.specs.declared.tokens.Dialect.TheVariants.{Neon}
use Rattle.c_text.specs.declared.tokens.Token.{Token}
use Rattle.c_text.specs.declared.tokens.TokenKind.{TokenKind}
use Rattle.c_text.specs.declared.tokens.TokenKind.TheVariants as kinds
use Rattle.c_text.specs.declared.pieces.Sort.TheVariants.{Lexeme}
use Rattle.c_text.specs.Forms.{is_name}
use Rattle.c_parse.specs.Symbols.{symbol_in, symbol_of}
use Rattle.round_trip.specs.Words.{Bit, words_of, said}
use Rattle.round_trip.proofs.Bits.{bit}

abbrev pub Word : Type 0
Word = TokenKind × List ℕ

-- the first of these tokens is this word, and the others are these
pub record Next (k : TokenKind) (x : List ℕ) (ts : List Token) (ws : List Word) : Type 0 where
  pub token : Token
  pub rest : List Token
  pub split : ts ≡ token ∷ rest
  pub is_kind : token.kind ≡ k
  pub has : token.text ≡ x
  pub symbol : symbol_of Neon token ≡ symbol_in Neon k x
  pub left : map said rest ≡ ws

abbrev first_word : List Word → Word
first_word [] = (kinds.Lone, [])
first_word (w ∷ ws) = w

pub next : (k : TokenKind) (x : List ℕ) (ts : List Token) (ws : List Word) → map said ts ≡ (k, x) ∷ ws → Next k x ts ws
unfolding symbol_of
next k x [] ws e = absurd (cc)
next k x (t ∷ ts) ws e =
    let is_kind : t.kind ≡ k = ap (λ l. (first_word l).0) e in
    let has : t.text ≡ x = ap (λ l. (first_word l).1) e in
    record { token = t; rest = ts; split = refl; is_kind = is_kind; has = has; symbol = rw (is_kind, has) refl; left = ap (drop 1) e }

-- a word that isn't empty
pub word_first : (k : TokenKind) (x : List ℕ) (bs : List Bit) → (x ≡ [] → ⊥) → words_of (bit (Lexeme k) x bs) ≡ (k, x) ∷ words_of bs
word_first k [] bs h = absurd (h refl)
word_first k (c ∷ cs) bs h = refl

pub name_not_empty : (x : List ℕ) → is_name x ≡ true → x ≡ [] → ⊥
name_not_empty [] h e = absurd (cc)
name_not_empty (c ∷ cs) h e = absurd (cc)

pub next_name : (x : List ℕ) (bs : List Bit) (ts : List Token) → is_name x ≡ true → map said ts ≡ words_of (bit (Lexeme kinds.Name) x bs) → Next kinds.Name x ts (words_of bs)
next_name x bs ts h e = next kinds.Name x ts (words_of bs) (e ∙ word_first kinds.Name x bs (name_not_empty x h))
