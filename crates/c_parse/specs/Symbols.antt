-- What the grammar sees of a token: the marks and the words of C11 6.4.1 and 6.4.6, and the types' names.
use Rattle.std.specs.Prelude.{ℕ, List, [], ◌∷◌, codes, bytes_eq, true, false, ◌||◌, if◌then◌else◌, Option, Some, None, unwrap_or}
use Rattle.std.specs.List.{list_any}
use Rattle.std.specs.Map.{lookup}
use Rattle.c_text.specs.declared.tokens.Dialect.{Dialect}
use Rattle.c_text.specs.declared.tokens.Dialect.TheVariants.{X86, Neon}
use Rattle.c_text.specs.declared.tokens.Token.{Token}
use Rattle.c_text.specs.declared.tokens.TokenKind.{TokenKind}
use Rattle.c_text.specs.declared.tokens.TokenKind.TheVariants as kinds
use Rattle.lane_core.specs.declared.number.BinOp.{BinOp}
use Rattle.lane_core.specs.declared.number.BinOp.TheVariants.{Mul, Div, Rem, Add, Sub, Shl, Shr, Lt, Gt, Le, Ge, Eq, Ne, BitAnd, BitXor, BitOr}
use Rattle.lane_core.specs.declared.number.IntType.TheVariants as ints
use Rattle.c_tree.specs.declared.types.CType.{CType}
use Rattle.c_tree.specs.declared.types.CType.TheVariants as ctypes
use Rattle.c_tree.specs.Vectors.{vectors}
use Rattle.c_parse.specs.declared.symbols.Infix.{Infix}
use Rattle.c_parse.specs.declared.symbols.Infix.TheVariants.{Operator, AndThen, OrElse}
use Rattle.c_parse.specs.declared.symbols.Sign.TheVariants.{Open, Close, OpenSquare, CloseSquare, Comma, Question, Colon, SizeOf, Dot, OpenBrace, CloseBrace, Semicolon}
use Rattle.c_parse.specs.declared.symbols.Part.TheVariants as parts
use Rattle.c_parse.specs.declared.symbols.TypeWord.TheVariants as words
use Rattle.c_parse.specs.declared.symbols.Word.TheVariants as statements
use Rattle.c_parse.specs.declared.symbols.Symbol.{Symbol}
use Rattle.c_parse.specs.declared.symbols.Symbol.TheVariants as symbols

-- the operators between two operands that group to the left (C11 6.5.5 to 6.5.14)
abbrev pub infix_marks : List (List ℕ × Infix)
infix_marks =
    (codes "*", Operator Mul) ∷ (codes "/", Operator Div) ∷ (codes "%", Operator Rem) ∷ (codes "+", Operator Add) ∷
    (codes "-", Operator Sub) ∷ (codes "<<", Operator Shl) ∷ (codes ">>", Operator Shr) ∷ (codes "<", Operator Lt) ∷
    (codes ">", Operator Gt) ∷ (codes "<=", Operator Le) ∷ (codes ">=", Operator Ge) ∷ (codes "==", Operator Eq) ∷
    (codes "!=", Operator Ne) ∷ (codes "&", Operator BitAnd) ∷ (codes "^", Operator BitXor) ∷
    (codes "|", Operator BitOr) ∷ (codes "&&", AndThen) ∷ (codes "||", OrElse) ∷ []

-- the assignments, with the operator in them (C11 6.5.16)
abbrev pub assignment_marks : List (List ℕ × Option BinOp)
assignment_marks =
    (codes "=", None) ∷ (codes "*=", Some Mul) ∷ (codes "/=", Some Div) ∷ (codes "%=", Some Rem) ∷
    (codes "+=", Some Add) ∷ (codes "-=", Some Sub) ∷ (codes "<<=", Some Shl) ∷ (codes ">>=", Some Shr) ∷
    (codes "&=", Some BitAnd) ∷ (codes "^=", Some BitXor) ∷ (codes "|=", Some BitOr) ∷ []

-- the other marks
abbrev pub other_marks : List (List ℕ × Symbol)
other_marks =
    (codes "(", symbols.Sign Open) ∷ (codes ")", symbols.Sign Close) ∷ (codes "[", symbols.Sign OpenSquare) ∷
    (codes "]", symbols.Sign CloseSquare) ∷ (codes ",", symbols.Sign Comma) ∷ (codes "?", symbols.Sign Question) ∷
    (codes ":", symbols.Sign Colon) ∷ (codes ".", symbols.Sign Dot) ∷ (codes "{", symbols.Sign OpenBrace) ∷
    (codes "}", symbols.Sign CloseBrace) ∷ (codes ";", symbols.Sign Semicolon) ∷ (codes "++", symbols.Step true) ∷ (codes "--", symbols.Step false) ∷
    (codes "~", symbols.Tilde) ∷ (codes "!", symbols.Exclamation) ∷ []

abbrev pub or_symbol : {A : Type 0} → Option A → (A → Symbol) → Symbol → Symbol
or_symbol (Some x) f s = f x
or_symbol None f s = s

-- what a mark is
abbrev pub mark_symbol : List ℕ → Symbol
mark_symbol text =
    or_symbol (lookup (bytes_eq text) infix_marks) symbols.Infix
    (or_symbol (lookup (bytes_eq text) assignment_marks) symbols.Assign
    (unwrap_or (lookup (bytes_eq text) other_marks) symbols.Other))

-- the words of types: parts of an integer type's name (C11 6.7.2), and types by themselves (C11 6.7.2, 7.19 and 7.20.1.1)
abbrev pub type_words : List (List ℕ × Symbol)
type_words =
    (codes "char", symbols.Type (words.Part parts.Char)) ∷ (codes "short", symbols.Type (words.Part parts.Short)) ∷
    (codes "int", symbols.Type (words.Part parts.Int)) ∷ (codes "long", symbols.Type (words.Part parts.Long)) ∷
    (codes "signed", symbols.Type (words.Part parts.Signed)) ∷
    (codes "unsigned", symbols.Type (words.Part parts.Unsigned)) ∷
    (codes "void", symbols.Type (words.Whole ctypes.Void)) ∷
    (codes "_Bool", symbols.Type (words.Whole (ctypes.Int ints.Boolean))) ∷
    (codes "int8_t", symbols.Type (words.Whole (ctypes.Int ints.SChar))) ∷
    (codes "int16_t", symbols.Type (words.Whole (ctypes.Int ints.Short))) ∷
    (codes "int32_t", symbols.Type (words.Whole (ctypes.Int ints.Int))) ∷
    (codes "int64_t", symbols.Type (words.Whole (ctypes.Int ints.Long))) ∷
    (codes "uint8_t", symbols.Type (words.Whole (ctypes.Int ints.UChar))) ∷
    (codes "uint16_t", symbols.Type (words.Whole (ctypes.Int ints.UShort))) ∷
    (codes "uint32_t", symbols.Type (words.Whole (ctypes.Int ints.UInt))) ∷
    (codes "uint64_t", symbols.Type (words.Whole (ctypes.Int ints.ULong))) ∷
    (codes "size_t", symbols.Type (words.Whole (ctypes.Int ints.ULong))) ∷
    (codes "ptrdiff_t", symbols.Type (words.Whole (ctypes.Int ints.Long))) ∷ []

-- a type by itself, as vector types are (Intel's Intrinsics Guide, Arm's Neon reference)
abbrev pub vector_symbol : CType → Symbol
vector_symbol t = symbols.Type (words.Whole t)

-- the other words of expressions and types
abbrev pub other_words : List (List ℕ × Symbol)
other_words =
    (codes "sizeof", symbols.Sign SizeOf) ∷ (codes "const", symbols.Const) ∷ (codes "restrict", symbols.Restrict) ∷
    (codes "__restrict", symbols.Restrict) ∷ (codes "__restrict__", symbols.Restrict) ∷ []

-- the words of statements and declarations (C11 6.7.1, 6.7.4, 6.7.5 and 6.8), with the attributes of GNU C
abbrev pub statement_words : List (List ℕ × Symbol)
statement_words =
    (codes "if", symbols.Word statements.If) ∷ (codes "else", symbols.Word statements.Else) ∷
    (codes "while", symbols.Word statements.While) ∷ (codes "do", symbols.Word statements.Do) ∷
    (codes "for", symbols.Word statements.For) ∷ (codes "break", symbols.Word statements.Break) ∷
    (codes "continue", symbols.Word statements.Continue) ∷ (codes "return", symbols.Word statements.Return) ∷
    (codes "static", symbols.Word statements.Static) ∷ (codes "inline", symbols.Word statements.Inline) ∷
    (codes "__inline", symbols.Word statements.Inline) ∷ (codes "__inline__", symbols.Word statements.Inline) ∷
    (codes "_Alignas", symbols.Word statements.AlignAs) ∷ (codes "__attribute__", symbols.Word statements.Attribute) ∷ []

-- the words that are no names though no form has them (C11 6.4.1)
abbrev pub keywords : List (List ℕ)
keywords =
    codes "auto" ∷ codes "case" ∷ codes "default" ∷ codes "double" ∷ codes "enum" ∷ codes "extern" ∷ codes "float" ∷
    codes "goto" ∷ codes "register" ∷ []

abbrev pub later_keywords : List (List ℕ)
later_keywords =
    codes "struct" ∷ codes "switch" ∷ codes "typedef" ∷ codes "union" ∷ codes "volatile" ∷ codes "_Alignof" ∷
    codes "_Atomic" ∷ codes "_Complex" ∷ codes "_Generic" ∷ codes "_Imaginary" ∷ codes "_Noreturn" ∷
    codes "_Static_assert" ∷ codes "_Thread_local" ∷ []

-- what a word is that is in no table but those of keywords
abbrev pub last_symbol : List ℕ → Symbol
last_symbol text = if list_any (bytes_eq text) keywords || list_any (bytes_eq text) later_keywords then symbols.Other else symbols.Name

-- what a word is that is no type's
abbrev pub plain_symbol : List ℕ → Symbol
plain_symbol text = or_symbol (lookup (bytes_eq text) other_words) (λ s. s) (or_symbol (lookup (bytes_eq text) statement_words) (λ s. s) (last_symbol text))

-- what a word is
abbrev pub name_symbol : Dialect → List ℕ → Symbol
name_symbol dialect text =
    or_symbol (lookup (bytes_eq text) type_words) (λ s. s) (or_symbol (lookup (bytes_eq text) (vectors dialect)) vector_symbol (plain_symbol text))

-- what a token of this kind and text is
abbrev pub symbol_in : Dialect → TokenKind → List ℕ → Symbol
symbol_in dialect kinds.Name text = name_symbol dialect text
symbol_in dialect kinds.Number text = symbols.Constant
symbol_in dialect kinds.Quote text = symbols.Constant
symbol_in dialect kinds.Str text = symbols.Other
symbol_in dialect kinds.Mark text = mark_symbol text
symbol_in dialect kinds.Lone text = symbols.Other

unfoldable pub symbol_of : Dialect → Token → Symbol
symbol_of dialect t = symbol_in dialect t.kind t.text
