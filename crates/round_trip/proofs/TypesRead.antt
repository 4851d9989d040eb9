-- The names of types are read as they are written.
use Rattle.std.proofs.Common.{◌≡◌, ℕ, List, [], ◌∷◌, ◌++◌, map, drop, Bool, true, false, Some, refl, sym, ◌∙◌, ap}
use Rattle.std.proofs.lemmas.List.{append_assoc}
use Rattle.std.specs.Prelude.{codes}
use Rattle.c_text.specs.declared.tokens.Dialect.TheVariants.{Neon}
use Rattle.c_text.specs.declared.tokens.Token.{Token}
use Rattle.c_text.specs.declared.tokens.TokenKind.TheVariants as kinds
use Rattle.lane_core.specs.declared.number.IntType.{IntType}
use Rattle.lane_core.specs.declared.number.IntType.TheVariants as ints
use Rattle.lane_core.specs.declared.vector.NeonLane.{NeonLane}
use Rattle.lane_core.specs.declared.vector.NeonLane.TheVariants as lanes
use Rattle.lane_core.specs.declared.vector.Pointee.{Pointee}
use Rattle.lane_core.specs.declared.vector.Pointee.TheVariants as pointees
use Rattle.c_tree.specs.declared.types.CType.{CType}
use Rattle.c_tree.specs.declared.types.CType.TheVariants as ctypes
use Rattle.c_parse.specs.declared.symbols.Part.TheVariants as parts
use Rattle.lane_core.specs.declared.number.BinOp.TheVariants as ops
use Rattle.c_parse.specs.declared.symbols.Infix.TheVariants as infixes
use Rattle.c_parse.specs.declared.symbols.Symbol.{Symbol}
use Rattle.c_parse.specs.declared.symbols.Symbol.TheVariants as symbols
use Rattle.c_parse.specs.declared.symbols.TypeWord.{TypeWord}
use Rattle.c_parse.specs.declared.symbols.TypeWord.TheVariants as types
use Rattle.c_parse.specs.declared.types.Specifiers.{Specifiers}
use Rattle.c_parse.specs.Symbols.{symbol_of}
use Rattle.c_parse.specs.Types.{counted, base_of, pointer_to}
use Rattle.c_parse.specs.Reading.{specifiers_front, no_specifiers, type_front, type_behind, with_rest}
use Rattle.c_parse.specs.Grammar.{IsType}
use Rattle.round_trip.specs.Words.{Bit, words_of, said}
use Rattle.round_trip.specs.Good.{GoodInteger, GoodPointee, GoodType}
use Rattle.round_trip.proofs.Bits.{mark, space, integer_bits, pointee_bits, base_bits, type_bits}
use Rattle.round_trip.proofs.Tokens.{Next, next}

-- the words counted one after the other
abbrev pub count_all : Specifiers → List TypeWord → Specifiers
count_all s [] = s
count_all s (w ∷ ws) = count_all (counted s w) ws

abbrev pub begun_with : Bool → Specifiers
begun_with c = record no_specifiers { constant = c }

-- the first of the tokens are the words of this type
pub record BaseRead (t : CType) (ts : List Token) (bs : List Bit) : Type 0 where
  pub words : List Token
  pub rest : List Token
  pub split : ts ≡ words ++ rest
  pub types : List TypeWord
  pub are : map (symbol_of Neon) words ≡ map symbols.Type types
  pub names : (c : Bool) → base_of (count_all (begun_with c) types) ≡ Some t
  pub keeps : (c : Bool) → (count_all (begun_with c) types).constant ≡ c
  pub left : map said rest ≡ words_of bs

-- one word that names the whole type, or a part of it
one_word : (t : CType) (w : TypeWord) (x : List ℕ) (bs : List Bit) (ts : List Token) → (n : Next kinds.Name x ts (words_of bs)) → symbol_of Neon n.token ≡ symbols.Type w →
    ((c : Bool) → base_of (counted (begun_with c) w) ≡ Some t) → ((c : Bool) → (counted (begun_with c) w).constant ≡ c) → BaseRead t ts bs
one_word t w x bs ts n is names keeps = record {
  words = n.token ∷ [];
  rest = n.rest;
  split = n.split;
  types = w ∷ [];
  are = rw is refl;
  names = names;
  keeps = keeps;
  left = n.left;
}

pub integer_read : (t : IntType) (bs : List Bit) (ts : List Token) → GoodInteger t → map said ts ≡ words_of (integer_bits t bs) → BaseRead (ctypes.Int t) ts bs
integer_read ints.Boolean bs ts g e = let n = next kinds.Name (codes "_Bool") ts (words_of bs) e in one_word _ (types.Whole (ctypes.Int ints.Boolean)) _ bs ts n n.symbol (λ c. refl) (λ c. refl)
integer_read ints.Char bs ts g e = absurd g
integer_read ints.SChar bs ts g e =
    let n = next kinds.Name (codes "signed") ts _ e in
    let m = next kinds.Name (codes "char") n.rest (words_of bs) n.left in
    record {
      words = n.token ∷ m.token ∷ [];
      rest = m.rest;
      split = n.split ∙ ap (λ r. n.token ∷ r) m.split;
      types = types.Part parts.Signed ∷ types.Part parts.Char ∷ [];
      are = rw (n.symbol, m.symbol) refl;
      names = λ c. refl;
      keeps = λ c. refl;
      left = m.left;
    }
integer_read ints.UChar bs ts g e = let n = next kinds.Name (codes "uint8_t") ts (words_of bs) e in one_word _ (types.Whole (ctypes.Int ints.UChar)) _ bs ts n n.symbol (λ c. refl) (λ c. refl)
integer_read ints.Short bs ts g e = let n = next kinds.Name (codes "int16_t") ts (words_of bs) e in one_word _ (types.Whole (ctypes.Int ints.Short)) _ bs ts n n.symbol (λ c. refl) (λ c. refl)
integer_read ints.UShort bs ts g e = let n = next kinds.Name (codes "uint16_t") ts (words_of bs) e in one_word _ (types.Whole (ctypes.Int ints.UShort)) _ bs ts n n.symbol (λ c. refl) (λ c. refl)
integer_read ints.Int bs ts g e = let n = next kinds.Name (codes "int") ts (words_of bs) e in one_word _ (types.Part parts.Int) _ bs ts n n.symbol (λ c. refl) (λ c. refl)
integer_read ints.UInt bs ts g e = let n = next kinds.Name (codes "unsigned") ts (words_of bs) e in one_word _ (types.Part parts.Unsigned) _ bs ts n n.symbol (λ c. refl) (λ c. refl)
integer_read ints.Long bs ts g e = let n = next kinds.Name (codes "int64_t") ts (words_of bs) e in one_word _ (types.Whole (ctypes.Int ints.Long)) _ bs ts n n.symbol (λ c. refl) (λ c. refl)
integer_read ints.ULong bs ts g e = let n = next kinds.Name (codes "uint64_t") ts (words_of bs) e in one_word _ (types.Whole (ctypes.Int ints.ULong)) _ bs ts n n.symbol (λ c. refl) (λ c. refl)
integer_read ints.LLong bs ts g e =
    let n = next kinds.Name (codes "long") ts _ e in
    let m = next kinds.Name (codes "long") n.rest (words_of bs) n.left in
    record {
      words = n.token ∷ m.token ∷ [];
      rest = m.rest;
      split = n.split ∙ ap (λ r. n.token ∷ r) m.split;
      types = types.Part parts.Long ∷ types.Part parts.Long ∷ [];
      are = rw (n.symbol, m.symbol) refl;
      names = λ c. refl;
      keeps = λ c. refl;
      left = m.left;
    }
integer_read ints.ULLong bs ts g e =
    let n = next kinds.Name (codes "unsigned") ts _ e in
    let m = next kinds.Name (codes "long") n.rest _ n.left in
    let o = next kinds.Name (codes "long") m.rest (words_of bs) m.left in
    record {
      words = n.token ∷ m.token ∷ o.token ∷ [];
      rest = o.rest;
      split = n.split ∙ ap (λ r. n.token ∷ r) (m.split ∙ ap (λ r. m.token ∷ r) o.split);
      types = types.Part parts.Unsigned ∷ types.Part parts.Long ∷ types.Part parts.Long ∷ [];
      are = rw (n.symbol, m.symbol, o.symbol) refl;
      names = λ c. refl;
      keeps = λ c. refl;
      left = o.left;
    }

pub vector_read : (l : NeonLane) (wide : Bool) (bs : List Bit) (ts : List Token) → map said ts ≡ words_of (base_bits (ctypes.Neon l wide) bs) → BaseRead (ctypes.Neon l wide) ts bs
vector_read lanes.U8 true bs ts e = let n = next kinds.Name (codes "uint8x16_t") ts (words_of bs) e in one_word _ (types.Whole (ctypes.Neon lanes.U8 true)) _ bs ts n n.symbol (λ c. refl) (λ c. refl)
vector_read lanes.U8 false bs ts e = let n = next kinds.Name (codes "uint8x8_t") ts (words_of bs) e in one_word _ (types.Whole (ctypes.Neon lanes.U8 false)) _ bs ts n n.symbol (λ c. refl) (λ c. refl)
vector_read lanes.U16 true bs ts e = let n = next kinds.Name (codes "uint16x8_t") ts (words_of bs) e in one_word _ (types.Whole (ctypes.Neon lanes.U16 true)) _ bs ts n n.symbol (λ c. refl) (λ c. refl)
vector_read lanes.U16 false bs ts e = let n = next kinds.Name (codes "uint16x4_t") ts (words_of bs) e in one_word _ (types.Whole (ctypes.Neon lanes.U16 false)) _ bs ts n n.symbol (λ c. refl) (λ c. refl)
vector_read lanes.U32 true bs ts e = let n = next kinds.Name (codes "uint32x4_t") ts (words_of bs) e in one_word _ (types.Whole (ctypes.Neon lanes.U32 true)) _ bs ts n n.symbol (λ c. refl) (λ c. refl)
vector_read lanes.U32 false bs ts e = let n = next kinds.Name (codes "uint32x2_t") ts (words_of bs) e in one_word _ (types.Whole (ctypes.Neon lanes.U32 false)) _ bs ts n n.symbol (λ c. refl) (λ c. refl)
vector_read lanes.U64 true bs ts e = let n = next kinds.Name (codes "uint64x2_t") ts (words_of bs) e in one_word _ (types.Whole (ctypes.Neon lanes.U64 true)) _ bs ts n n.symbol (λ c. refl) (λ c. refl)
vector_read lanes.U64 false bs ts e = let n = next kinds.Name (codes "uint64x1_t") ts (words_of bs) e in one_word _ (types.Whole (ctypes.Neon lanes.U64 false)) _ bs ts n n.symbol (λ c. refl) (λ c. refl)
vector_read lanes.S8 true bs ts e = let n = next kinds.Name (codes "int8x16_t") ts (words_of bs) e in one_word _ (types.Whole (ctypes.Neon lanes.S8 true)) _ bs ts n n.symbol (λ c. refl) (λ c. refl)
vector_read lanes.S8 false bs ts e = let n = next kinds.Name (codes "int8x8_t") ts (words_of bs) e in one_word _ (types.Whole (ctypes.Neon lanes.S8 false)) _ bs ts n n.symbol (λ c. refl) (λ c. refl)
vector_read lanes.S16 true bs ts e = let n = next kinds.Name (codes "int16x8_t") ts (words_of bs) e in one_word _ (types.Whole (ctypes.Neon lanes.S16 true)) _ bs ts n n.symbol (λ c. refl) (λ c. refl)
vector_read lanes.S16 false bs ts e = let n = next kinds.Name (codes "int16x4_t") ts (words_of bs) e in one_word _ (types.Whole (ctypes.Neon lanes.S16 false)) _ bs ts n n.symbol (λ c. refl) (λ c. refl)
vector_read lanes.S32 true bs ts e = let n = next kinds.Name (codes "int32x4_t") ts (words_of bs) e in one_word _ (types.Whole (ctypes.Neon lanes.S32 true)) _ bs ts n n.symbol (λ c. refl) (λ c. refl)
vector_read lanes.S32 false bs ts e = let n = next kinds.Name (codes "int32x2_t") ts (words_of bs) e in one_word _ (types.Whole (ctypes.Neon lanes.S32 false)) _ bs ts n n.symbol (λ c. refl) (λ c. refl)
vector_read lanes.S64 true bs ts e = let n = next kinds.Name (codes "int64x2_t") ts (words_of bs) e in one_word _ (types.Whole (ctypes.Neon lanes.S64 true)) _ bs ts n n.symbol (λ c. refl) (λ c. refl)
vector_read lanes.S64 false bs ts e = let n = next kinds.Name (codes "int64x1_t") ts (words_of bs) e in one_word _ (types.Whole (ctypes.Neon lanes.S64 false)) _ bs ts n n.symbol (λ c. refl) (λ c. refl)

-- the type that is pointed to, or an array's elements
abbrev pub type_of_pointee : Pointee → CType
type_of_pointee pointees.Void = ctypes.Void
type_of_pointee (pointees.Int t) = ctypes.Int t
type_of_pointee pointees.M128 = ctypes.M128
type_of_pointee pointees.M256 = ctypes.M256

pub pointee_read : (p : Pointee) (bs : List Bit) (ts : List Token) → GoodPointee p → map said ts ≡ words_of (pointee_bits p bs) → BaseRead (type_of_pointee p) ts bs
pointee_read pointees.Void bs ts g e = let n = next kinds.Name (codes "void") ts (words_of bs) e in one_word _ (types.Whole ctypes.Void) _ bs ts n n.symbol (λ c. refl) (λ c. refl)
pointee_read (pointees.Int t) bs ts g e = integer_read t bs ts g e
pointee_read pointees.M128 bs ts g e = absurd g
pointee_read pointees.M256 bs ts g e = absurd g

pub pair_read : (bs : List Bit) (ts : List Token) → map said ts ≡ words_of (base_bits ctypes.Pair bs) → BaseRead ctypes.Pair ts bs
pair_read bs ts e = let n = next kinds.Name (codes "uint8x16x2_t") ts (words_of bs) e in one_word _ (types.Whole ctypes.Pair) _ bs ts n n.symbol (λ c. refl) (λ c. refl)

pub void_read : (bs : List Bit) (ts : List Token) → map said ts ≡ words_of (base_bits ctypes.Void bs) → BaseRead ctypes.Void ts bs
void_read bs ts e = let n = next kinds.Name (codes "void") ts (words_of bs) e in one_word _ (types.Whole ctypes.Void) _ bs ts n n.symbol (λ c. refl) (λ c. refl)

abbrev first_symbol : List Symbol → Symbol
first_symbol [] = symbols.Other
first_symbol (m ∷ ms) = m

-- the words of a type are counted
pub specifiers_words : (s : Specifiers) (words us : List Token) (all : List TypeWord) → map (symbol_of Neon) words ≡ map symbols.Type all → specifiers_front Neon s (words ++ us) ≡ specifiers_front Neon (count_all s all) us
specifiers_words s [] us [] e = refl
specifiers_words s [] us (w ∷ all) e = absurd (cc)
specifiers_words s (t ∷ words) us [] e = absurd (cc)
specifiers_words s (t ∷ words) us (w ∷ all) e =
    let first : symbol_of Neon t ≡ symbols.Type w = ap first_symbol e in
    let others : map (symbol_of Neon) words ≡ map symbols.Type all = ap (drop 1) e in
    rw first (specifiers_words (counted s w) words us all others)

-- the first of the tokens are the name of this type
pub record TypeRead (t : CType) (ts : List Token) (bs : List Bit) : Type 0 where
  pub words : List Token
  pub rest : List Token
  pub split : ts ≡ words ++ rest
  pub is : IsType Neon words t
  pub left : map said rest ≡ words_of bs

append_none : (xs : List Token) → xs ++ [] ≡ xs
append_none [] = refl
append_none (x ∷ xs) = ap (λ r. x ∷ r) (append_none xs)

-- a type without a `*`
alone : (t : CType) (ts : List Token) (bs : List Bit) → BaseRead t ts bs → TypeRead t ts bs
unfolding type_front
alone t ts bs b =
    let counts : specifiers_front Neon no_specifiers b.words ≡ (count_all (begun_with false) b.types, []) = ap (specifiers_front Neon no_specifiers) (sym (append_none b.words)) ∙ specifiers_words no_specifiers b.words [] b.types b.are in
    record { words = b.words; rest = b.rest; split = b.split; is = rw (counts, b.names false) refl; left = b.left }

-- a pointer, behind `const` or not
starred : (c : Bool) (p : Pointee) (words : List Token) (star : Token) (all : List TypeWord) → map (symbol_of Neon) words ≡ map symbols.Type all → base_of (count_all (begun_with c) all) ≡ Some (type_of_pointee p) →
    (count_all (begun_with c) all).constant ≡ c → symbol_of Neon star ≡ symbols.Infix (infixes.Operator ops.Mul) → type_behind Neon (specifiers_front Neon (begun_with c) (words ++ star ∷ [])) ≡ Some (ctypes.Pointer p c, [])
starred c p words star all are names keeps is = rw (specifiers_words (begun_with c) words (star ∷ []) all are, is, is, names, keeps) (go p)
  where
    go : (p : Pointee) → with_rest (pointer_to (Some (type_of_pointee p)) c) [] ≡ Some (ctypes.Pointer p c, [])
    go pointees.Void = refl
    go (pointees.Int t) = refl
    go pointees.M128 = refl
    go pointees.M256 = refl

pointer_read : (c : Bool) (p : Pointee) (bs : List Bit) (ts : List Token) → GoodPointee p → map said ts ≡ words_of (type_bits (ctypes.Pointer p c) bs) → TypeRead (ctypes.Pointer p c) ts bs
unfolding type_front
pointer_read true p bs ts g e =
    let n = next kinds.Name (codes "const") ts _ e in
    let b = pointee_read p (space (mark (codes "*") bs)) n.rest g n.left in
    let s = next kinds.Mark (codes "*") b.rest (words_of bs) b.left in
    record {
      words = n.token ∷ (b.words ++ s.token ∷ []);
      rest = s.rest;
      split = n.split ∙ ap (λ r. n.token ∷ r) (b.split ∙ ap (λ r. b.words ++ r) s.split ∙ sym (append_assoc b.words (s.token ∷ []) s.rest));
      is = rw n.symbol (starred true p b.words s.token b.types b.are (b.names true) (b.keeps true) s.symbol);
      left = s.left;
    }
pointer_read false p bs ts g e =
    let b = pointee_read p (space (mark (codes "*") bs)) ts g e in
    let s = next kinds.Mark (codes "*") b.rest (words_of bs) b.left in
    record {
      words = b.words ++ s.token ∷ [];
      rest = s.rest;
      split = b.split ∙ ap (λ r. b.words ++ r) s.split ∙ sym (append_assoc b.words (s.token ∷ []) s.rest);
      is = starred false p b.words s.token b.types b.are (b.names false) (b.keeps false) s.symbol;
      left = s.left;
    }

pub type_read : (t : CType) (bs : List Bit) (ts : List Token) → GoodType t → map said ts ≡ words_of (type_bits t bs) → TypeRead t ts bs
type_read ctypes.Void bs ts g e = alone ctypes.Void ts bs (void_read bs ts e)
type_read (ctypes.Int t) bs ts g e = alone (ctypes.Int t) ts bs (integer_read t bs ts g e)
type_read ctypes.M128 bs ts g e = absurd g
type_read ctypes.M256 bs ts g e = absurd g
type_read (ctypes.Neon l wide) bs ts g e = alone (ctypes.Neon l wide) ts bs (vector_read l wide bs ts e)
type_read ctypes.Pair bs ts g e = alone ctypes.Pair ts bs (pair_read bs ts e)
type_read (ctypes.Pointer p c) bs ts g e = pointer_read c p bs ts g e
type_read (ctypes.Array p n c) bs ts g e = absurd g
