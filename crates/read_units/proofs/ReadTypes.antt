-- The types that specifiers of the x86 dialect name (C11 6.7.2).
use Rattle.std.proofs.Common.{◌≡◌, ℕ, List, Bool, true, false, cond, Option, Some, None}
use Rattle.std.specs.Prelude.{bytes_eq, ◌||◌, ◌&&◌, ◌==◌}
use Rattle.std.specs.List.{list_any}
use Rattle.c_text.specs.declared.tokens.Dialect.TheVariants.{X86}
use Rattle.c_text.specs.declared.tokens.Token.{Token}
use Rattle.c_text.specs.declared.tokens.TokenKind.{TokenKind}
use Rattle.c_text.specs.declared.tokens.TokenKind.TheVariants as kinds
use Rattle.lane_core.specs.declared.number.IntType.{IntType}
use Rattle.c_tree.specs.declared.types.CType.{CType}
use Rattle.c_tree.specs.declared.types.CType.TheVariants as ctypes
use Rattle.c_parse.specs.declared.symbols.Part.TheVariants as parts
use Rattle.c_parse.specs.declared.symbols.Symbol.{Symbol}
use Rattle.c_parse.specs.declared.symbols.Symbol.TheVariants as symbols
use Rattle.c_parse.specs.declared.symbols.TypeWord.{TypeWord}
use Rattle.c_parse.specs.declared.symbols.TypeWord.TheVariants as words
use Rattle.c_parse.specs.declared.types.Specifiers.{Specifiers}
use Rattle.c_tree.specs.Vectors.{x86_vectors}
use Rattle.c_parse.specs.Symbols.{infix_marks, assignment_marks, other_marks, mark_symbol, type_words, vector_symbol, other_words, statement_words, keywords, later_keywords, name_symbol, symbol_in, symbol_of}
use Rattle.c_parse.specs.Types.{counted, integer_of, integer_type, base_of}
use Rattle.c_parse.specs.Reading.{specify}
use Rattle.read_units.proofs.ReadExpressions.{found, found_or, by_test}

-- neither a pointer nor an array
abbrev pub IsBaseType : CType → Type 0
IsBaseType (ctypes.Pointer p constant) = ⊥
IsBaseType (ctypes.Array p n constant) = ⊥
IsBaseType t = Unit {0}

-- the word of a whole type names such a type
abbrev pub Typed : Symbol → Type 0
Typed (symbols.Type (words.Whole t)) = IsBaseType t
Typed m = Unit {0}

-- The word of a whole type is one of the x86 dialect.
name_typed : (text : List ℕ) → Typed (name_symbol X86 text)
name_typed text =
    found Typed (λ s. s) (bytes_eq text) type_words _ _
    (found Typed vector_symbol (bytes_eq text) x86_vectors _ _
    (found Typed (λ s. s) (bytes_eq text) other_words _ _
    (found Typed (λ s. s) (bytes_eq text) statement_words _ _
    (by_test Typed (list_any (bytes_eq text) keywords || list_any (bytes_eq text) later_keywords) tt tt))))

mark_typed : (text : List ℕ) → Typed (mark_symbol text)
mark_typed text =
    found Typed symbols.Infix (bytes_eq text) infix_marks _ _
    (found Typed symbols.Assign (bytes_eq text) assignment_marks _ _
    (found_or Typed (bytes_eq text) other_marks symbols.Other _ tt))

typed : (k : TokenKind) (text : List ℕ) → Typed (symbol_in X86 k text)
typed kinds.Name text = name_typed text
typed kinds.Number text = tt
typed kinds.Quote text = tt
typed kinds.Str text = tt
typed kinds.Mark text = mark_typed text
typed kinds.Lone text = tt

pub typed_token : (t : Token) → Typed (symbol_of X86 t)
unfolding symbol_of
typed_token t = typed t.kind t.text

-- Types that are read are types of the x86 dialect.
counted_whole : (s : Specifiers) (w : TypeWord) → IsBaseType s.whole → Typed (symbols.Type w) → IsBaseType (counted s w).whole
counted_whole s (words.Part parts.Char) h t = h
counted_whole s (words.Part parts.Short) h t = h
counted_whole s (words.Part parts.Int) h t = h
counted_whole s (words.Part parts.Long) h t = h
counted_whole s (words.Part parts.Signed) h t = h
counted_whole s (words.Part parts.Unsigned) h t = h
counted_whole s (words.Whole u) h t = t

-- the specifiers, if there are any, name a type of the x86 dialect where they name a whole one
abbrev pub WholeIn : Option Specifiers → Type 0
WholeIn None = Unit {0}
WholeIn (Some s) = IsBaseType s.whole

pub specify_whole : (s : Specifiers) (m : Symbol) → IsBaseType s.whole → Typed m → WholeIn (specify s m)
specify_whole s (symbols.Sign x) h t = tt
specify_whole s (symbols.Infix op) h t = tt
specify_whole s (symbols.Assign op) h t = tt
specify_whole s (symbols.Step up) h t = tt
specify_whole s symbols.Tilde h t = tt
specify_whole s symbols.Exclamation h t = tt
specify_whole s (symbols.Type w) h t = counted_whole s w h t
specify_whole s symbols.Const h t = h
specify_whole s symbols.Restrict h t = tt
specify_whole s (symbols.Word w) h t = tt
specify_whole s symbols.Name h t = tt
specify_whole s symbols.Constant h t = tt
specify_whole s symbols.Other h t = tt

-- the type, if there is one, is of the x86 dialect
abbrev pub BaseIn : Option CType → Type 0
BaseIn None = Unit {0}
BaseIn (Some t) = IsBaseType t

pub base_in : (s : Specifiers) → IsBaseType s.whole → BaseIn (base_of s)
base_in s h = go (s.wholes == 0) (s.wholes == 1 && (s.char == 0 && s.short == 0 && s.int == 0 && s.long == 0) && s.signed == 0 && s.unsigned == 0) (integer_of s)
  where
    go : (b c : Bool) (o : Option IntType) → BaseIn (cond b (integer_type o) (cond c (Some s.whole) None))
    go true c None = tt
    go true c (Some t) = tt
    go false true o = h
    go false false o = tt

pub same_type : (t u : CType) → ◌≡◌ {A = Option CType} (Some t) (Some u) → t ≡ u
same_type t u e = cc
