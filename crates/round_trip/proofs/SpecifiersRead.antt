-- The specifiers of declarations are read as they are written, and whole declarations.
use Rattle.std.proofs.Common.{◌≡◌, List, [], ◌∷◌, ◌++◌, map, drop, Bool, true, false, Option, Some, None, refl, sym, ◌∙◌, ap, subst, arith}
use Rattle.std.specs.Prelude.{codes, option_map}
use Rattle.c_text.specs.declared.tokens.Dialect.TheVariants.{Neon}
use Rattle.c_text.specs.declared.tokens.Token.{Token}
use Rattle.c_text.specs.declared.tokens.TokenKind.TheVariants as kinds
use Rattle.c_tree.specs.declared.types.CType.{CType}
use Rattle.c_tree.specs.declared.types.CType.TheVariants as ctypes
use Rattle.c_tree.specs.Same.{stripped, stripped_object}
use Rattle.c_tree.specs.Tree.{Tree, Object}
use Rattle.c_print.specs.Declarations.{has_const, is_shared}
use Rattle.c_parse.specs.declared.symbols.Symbol.{Symbol}
use Rattle.c_parse.specs.declared.symbols.Symbol.TheVariants as symbols
use Rattle.c_parse.specs.declared.symbols.TypeWord.{TypeWord}
use Rattle.c_parse.specs.declared.types.Specifiers.{Specifiers}
use Rattle.c_parse.specs.Symbols.{symbol_of}
use Rattle.c_parse.specs.Types.{counted, base_of}
use Rattle.c_parse.specs.Reading.{no_specifiers}
use Rattle.c_parse.specs.declared.symbols.Sign.TheVariants.{Semicolon}
use Rattle.c_parse.specs.Grammar.{Is, spell, tree}
use Rattle.c_parse.proofs.Spelling.{declaration_more}
use Rattle.c_parse.specs.Repeated.{Each, spell_each, spell_next, says_each, means_each}
use Rattle.c_parse.specs.Objects.{Specification, nothing_said, plain}
use Rattle.c_parse.specs.Declarations.{NextFits, Specifier, Word, AlignAs, SpecifierFits, spell_specifier, specifier_says, specifiers_say, WrittenObject, ObjectFits, spell_object, object_says, WrittenDeclaration, spell_declaration, IsDeclaration}
use Rattle.round_trip.specs.Words.{Bit, words_of, said}
use Rattle.round_trip.specs.GoodUnits.{first_type, GoodObjectType, GoodPart, GoodOthers, GoodDeclaration}
use Rattle.round_trip.proofs.Bits.{mark, space, base_bits, const_bits, part_bits}
use Rattle.round_trip.proofs.UnitBits.{shared_bits, declared_bits, further_bits, declaration_bits, static_bits, inline_bits}
use Rattle.round_trip.proofs.Tokens.{next}
use Rattle.round_trip.proofs.TypesRead.{count_all, begun_with, BaseRead, integer_read, vector_read, pointee_read, pair_read, void_read}
use Rattle.round_trip.proofs.ExpressionsRead.{share, looser, part_read}
use Rattle.round_trip.proofs.DeclarationsRead.{Again, Suits, ObjectRead, object_read}

pub base_read : (ty : CType) (constant : Bool) (bs : List Bit) (ts : List Token) → GoodObjectType ty constant → map said ts ≡ words_of (base_bits ty bs) → BaseRead (first_type ty) ts bs
base_read ctypes.Void constant bs ts g e = void_read bs ts e
base_read (ctypes.Int t) constant bs ts g e = integer_read t bs ts g e
base_read ctypes.M128 constant bs ts g e = absurd g
base_read ctypes.M256 constant bs ts g e = absurd g
base_read (ctypes.Neon l wide) constant bs ts g e = vector_read l wide bs ts e
base_read ctypes.Pair constant bs ts g e = pair_read bs ts e
base_read (ctypes.Pointer p base) constant bs ts g e = pointee_read p bs ts g e
base_read (ctypes.Array p n base) constant bs ts g e = pointee_read p bs ts g.0 e

abbrev first_symbol : List Symbol → Symbol
first_symbol [] = symbols.Other
first_symbol (m ∷ ms) = m

first_is : (t : Token) (w : TypeWord) (words : List Token) (types : List TypeWord) → map (symbol_of Neon) (t ∷ words) ≡ map symbols.Type (w ∷ types) → symbol_of Neon t ≡ symbols.Type w
first_is t w words types e = ap first_symbol e

-- the words of a type, as specifiers
words_fit : (words : List Token) (types : List TypeWord) → map (symbol_of Neon) words ≡ map symbols.Type types → Each (SpecifierFits Neon) (map Word words)
words_fit [] types e = tt
words_fit (t ∷ words) [] e = absurd (cc)
words_fit (t ∷ words) (w ∷ types) e = (rw (first_is t w words types e) refl, words_fit words types (ap (drop 1) e))

words_say : (s : Specification) (words : List Token) (types : List TypeWord) → map (symbol_of Neon) words ≡ map symbols.Type types →
    says_each (specifier_says Neon) s (map Word words) ≡ Some (record s { words = count_all s.words types })
words_say s [] [] e = refl
words_say s [] (w ∷ types) e = absurd (cc)
words_say s (t ∷ words) [] e = absurd (cc)
words_say s (t ∷ words) (w ∷ types) e = rw (first_is t w words types e) (words_say (record s { words = counted s.words w }) words types (ap (drop 1) e))

words_spell : (words rest : List Token) → words ++ rest ≡ spell_each spell_specifier (map Word words) rest
words_spell [] rest = refl
words_spell (t ∷ words) rest = ap (λ r. t ∷ r) (words_spell words rest)

-- specifiers behind others, and what all of them say
pub record FrontRead (before : Specification) (static inline : Bool) (align : Option Tree) (constant : Bool) (ty : CType) (ts : List Token) (bs : List Bit) : Type 0 where
  pub list : List Specifier
  pub rest : List Token
  pub fits : Each (SpecifierFits Neon) list
  pub made : Specification
  pub says : says_each (specifier_says Neon) before list ≡ Some made
  pub is_static : made.is_static ≡ static
  pub is_inline : made.is_inline ≡ inline
  pub aligned : made.align ≡ align
  pub base : base_of made.words ≡ Some (first_type ty)
  pub kept : made.words.constant ≡ constant
  pub split : ts ≡ spell_each spell_specifier list rest
  pub left : map said rest ≡ words_of bs

-- the words of the type, behind others
base_front : (s : Specification) (c : Bool) (ty : CType) (ts : List Token) (bs : List Bit) → s.words ≡ begun_with c → BaseRead (first_type ty) ts bs → FrontRead s s.is_static s.is_inline s.align c ty ts bs
base_front s c ty ts bs h b = record {
  list = map Word b.words;
  rest = b.rest;
  fits = words_fit b.words b.types b.are;
  made = record s { words = count_all s.words b.types };
  says = words_say s b.words b.types b.are;
  is_static = refl;
  is_inline = refl;
  aligned = refl;
  base = ap (λ w. base_of (count_all w b.types)) h ∙ b.names c;
  kept = ap (λ w. (count_all w b.types).constant) h ∙ b.keeps c;
  split = b.split ∙ words_spell b.words b.rest;
  left = b.left;
}

-- `const`, where it stands, and the type
const_front : (s : Specification) (c : Bool) (ty : CType) (constant : Bool) (bs : List Bit) (ts : List Token) → s.words ≡ no_specifiers → GoodObjectType ty constant → map said ts ≡ words_of (const_bits c (base_bits ty bs)) →
    FrontRead s s.is_static s.is_inline s.align c ty ts bs
const_front s false ty constant bs ts h g e = base_front s false ty ts bs h (base_read ty constant bs ts g e)
const_front s true ty constant bs ts h g e =
    share (next kinds.Name (codes "const") ts (words_of (base_bits ty bs)) e) (λ n.
    share (base_front (record s { words = record s.words { constant = true } }) true ty n.rest bs (ap {A = Specifiers} (λ w. record w { constant = true }) h) (base_read ty constant bs n.rest g n.left)) (λ f.
    record {
      list = Word n.token ∷ f.list;
      rest = f.rest;
      fits = (rw n.symbol refl, f.fits);
      made = f.made;
      says = rw n.symbol f.says;
      is_static = f.is_static;
      is_inline = f.is_inline;
      aligned = f.aligned;
      base = f.base;
      kept = f.kept;
      split = n.split ∙ ap (λ r. n.token ∷ r) f.split;
      left = f.left;
    }))

-- the alignment that an object has among the specifiers
pub record AlignedFront (before : Specification) (static inline shared : Bool) (align : Option Tree) (constant : Bool) (ty : CType) (ts : List Token) (bs : List Bit) : Type 0 where
  pub found : Option Tree
  pub front : FrontRead before static inline found constant ty ts bs
  pub same : shared ≡ true → option_map stripped found ≡ option_map stripped align
  pub none : shared ≡ false → found ≡ None

align_front : (s : Specification) (shared : Bool) (align : Option Tree) (c : Bool) (ty : CType) (constant : Bool) (bs : List Bit) (ts : List Token) → s.words ≡ no_specifiers → s.align ≡ None → GoodPart align → GoodObjectType ty constant →
    map said ts ≡ words_of (shared_bits shared align (const_bits c (base_bits ty bs))) → AlignedFront s s.is_static s.is_inline shared align c ty ts bs
align_front s false align c ty constant bs ts h k g q e = record { found = s.align; front = const_front s c ty constant bs ts h q e; same = λ x. absurd (cc); none = λ x. k }
align_front s true None c ty constant bs ts h k g q e = record { found = s.align; front = const_front s c ty constant bs ts h q e; same = λ x. ap (option_map stripped) k; none = λ x. absurd (cc) }
align_front s true (Some a) c ty constant bs ts h k g q e =
    share (next kinds.Name (codes "_Alignas") ts (words_of (mark (codes "(") (part_bits 2 a (mark (codes ")") (space (const_bits c (base_bits ty bs))))))) e) (λ n.
    share (next kinds.Mark (codes "(") n.rest (words_of (part_bits 2 a (mark (codes ")") (space (const_bits c (base_bits ty bs)))))) n.left) (λ o.
    share (part_read 2 a (mark (codes ")") (space (const_bits c (base_bits ty bs)))) o.rest (omega arith) g o.left) (λ r.
    share (next kinds.Mark (codes ")") r.rest (words_of (const_bits c (base_bits ty bs))) r.left) (λ p.
    share (const_front (record s { align = Some (tree r.written) }) c ty constant bs p.rest h q p.left) (λ f.
    record {
      found = Some (tree r.written);
      front = record {
        list = AlignAs n.token o.token r.written p.token ∷ f.list;
        rest = f.rest;
        fits = ((rw n.symbol refl, o.symbol, looser 2 1 r.written (omega arith) r.fits, p.symbol), f.fits);
        made = f.made;
        says = rw k f.says;
        is_static = f.is_static;
        is_inline = f.is_inline;
        aligned = f.aligned;
        base = f.base;
        kept = f.kept;
        split = n.split ∙ ap (λ u. n.token ∷ u) (o.split ∙ ap (λ u. o.token ∷ u) (r.split ∙ ap (spell r.written) (p.split ∙ ap (λ u. p.token ∷ u) f.split)));
        left = f.left;
      };
      same = λ x. ap Some r.means;
      none = λ x. absurd (cc);
    })))))

-- the specifiers of an object in a block
pub record Specified (static inline shared : Bool) (align : Option Tree) (constant : Bool) (ty : CType) (ts : List Token) (bs : List Bit) : Type 0 where
  pub list : List Specifier
  pub rest : List Token
  pub fits : Each (SpecifierFits Neon) list
  pub made : Specification
  pub says : specifiers_say Neon list ≡ Some made
  pub is_static : made.is_static ≡ static
  pub is_inline : made.is_inline ≡ inline
  pub base : base_of made.words ≡ Some (first_type ty)
  pub kept : made.words.constant ≡ constant
  pub same : shared ≡ true → option_map stripped made.align ≡ option_map stripped align
  pub none : shared ≡ false → made.align ≡ None
  pub split : ts ≡ spell_each spell_specifier list rest
  pub left : map said rest ≡ words_of bs

specified : (static inline shared : Bool) (align : Option Tree) (c : Bool) (ty : CType) (ts : List Token) (bs : List Bit) (f : AlignedFront nothing_said static inline shared align c ty ts bs) → Specified static inline shared align c ty ts bs
specified static inline shared align c ty ts bs f = record {
  list = f.front.list;
  rest = f.front.rest;
  fits = f.front.fits;
  made = f.front.made;
  says = f.front.says;
  is_static = f.front.is_static;
  is_inline = f.front.is_inline;
  base = f.front.base;
  kept = f.front.kept;
  same = λ x. ap (option_map stripped) f.front.aligned ∙ f.same x;
  none = λ x. f.front.aligned ∙ f.none x;
  split = f.front.split;
  left = f.front.left;
}

inline_front : (s : Specification) (inline shared : Bool) (align : Option Tree) (c : Bool) (ty : CType) (constant : Bool) (bs : List Bit) (ts : List Token) → s.words ≡ no_specifiers → s.align ≡ None → s.is_inline ≡ false → GoodPart align → GoodObjectType ty constant →
    map said ts ≡ words_of (inline_bits inline (shared_bits shared align (const_bits c (base_bits ty bs)))) → AlignedFront s s.is_static inline shared align c ty ts bs
inline_front s false shared align c ty constant bs ts h k i g q e = subst (λ x. AlignedFront s s.is_static x shared align c ty ts bs) i (align_front s shared align c ty constant bs ts h k g q e)
inline_front s true shared align c ty constant bs ts h k i g q e =
    share (next kinds.Name (codes "inline") ts (words_of (shared_bits shared align (const_bits c (base_bits ty bs)))) e) (λ n.
    share (align_front (record s { is_inline = true }) shared align c ty constant bs n.rest h k g q n.left) (λ f.
    record {
      found = f.found;
      front = record {
        list = Word n.token ∷ f.front.list;
        rest = f.front.rest;
        fits = (rw n.symbol refl, f.front.fits);
        made = f.front.made;
        says = rw n.symbol f.front.says;
        is_static = f.front.is_static;
        is_inline = f.front.is_inline;
        aligned = f.front.aligned;
        base = f.front.base;
        kept = f.front.kept;
        split = n.split ∙ ap (λ r. n.token ∷ r) f.front.split;
        left = f.front.left;
      };
      same = f.same;
      none = f.none;
    }))

pub specified_read : (static inline shared : Bool) (align : Option Tree) (c : Bool) (ty : CType) (constant : Bool) (bs : List Bit) (ts : List Token) → GoodPart align → GoodObjectType ty constant →
    map said ts ≡ words_of (static_bits static (inline_bits inline (shared_bits shared align (const_bits c (base_bits ty bs))))) → Specified static inline shared align c ty ts bs
specified_read false inline shared align c ty constant bs ts g q e = specified false inline shared align c ty ts bs (inline_front nothing_said inline shared align c ty constant bs ts refl refl refl g q e)
specified_read true inline shared align c ty constant bs ts g q e =
    share (next kinds.Name (codes "static") ts (words_of (inline_bits inline (shared_bits shared align (const_bits c (base_bits ty bs))))) e) (λ n.
    share (inline_front (record nothing_said { is_static = true }) inline shared align c ty constant bs n.rest refl refl refl g q n.left) (λ f.
    specified true inline shared align c ty ts bs (record {
      found = f.found;
      front = record {
        list = Word n.token ∷ f.front.list;
        rest = f.front.rest;
        fits = (rw n.symbol refl, f.front.fits);
        made = f.front.made;
        says = rw n.symbol f.front.says;
        is_static = f.front.is_static;
        is_inline = f.front.is_inline;
        aligned = f.front.aligned;
        base = f.front.base;
        kept = f.front.kept;
        split = n.split ∙ ap (λ r. n.token ∷ r) f.front.split;
        left = f.front.left;
      };
      same = f.same;
      none = f.none;
    })))

-- further objects have the same alignment as the first, where it is shared
abbrev pub AllAligned : Option Tree → List Object → Type 0
AllAligned align [] = Unit {0}
AllAligned align (o ∷ os) = (option_map stripped o.align ≡ option_map stripped align) × AllAligned align os

-- specifiers with which all of these objects are what they were
pub record SuitsAll (shared : Bool) (t : CType) (constant : Bool) (align : Option Tree) (s : Specification) : Type 0 where
  pub base : base_of s.words ≡ Some t
  pub kept : s.words.constant ≡ constant
  pub aligned : shared ≡ true → option_map stripped s.align ≡ option_map stripped align
  pub unaligned : shared ≡ false → s.align ≡ None

pub record AllAgain (s : Specification) (list : List (Token × WrittenObject)) (ds : List Object) : Type 0 where
  pub made : List Object
  pub says : means_each (λ x. object_says Neon s x.1) list ≡ Some made
  pub same : map stripped_object made ≡ map stripped_object ds

pub record FurtherRead (shared : Bool) (t : CType) (constant : Bool) (align : Option Tree) (ds : List Object) (ts : List Token) (bs : List Bit) : Type 0 where
  pub list : List (Token × WrittenObject)
  pub rest : List Token
  pub fits : Each (NextFits Neon (ObjectFits Neon)) list
  pub again : (s : Specification) → SuitsAll shared t constant align s → AllAgain s list ds
  pub split : ts ≡ spell_each (spell_next spell_object) list rest
  pub left : map said rest ≡ words_of bs

-- specifiers suit one of the objects that they suit all together
one_suits : (shared : Bool) (t : CType) (constant : Bool) (align : Option Tree) (s : Specification) (d : Object) → first_type d.ty ≡ t → has_const d.ty d.constant ≡ constant → (shared ≡ true → option_map stripped d.align ≡ option_map stripped align) →
    SuitsAll shared t constant align s → Suits shared d s
one_suits shared t constant align s d type kept same h = record {
  base = h.base ∙ ap Some (sym type);
  constant = h.kept ∙ sym kept;
  aligned = λ x. h.aligned x ∙ sym (same x);
  unaligned = h.unaligned;
}

and_again : (s : Specification) (x : Token × WrittenObject) (list : List (Token × WrittenObject)) (d : Object) (ds : List Object) → Again s x.1 d → AllAgain s list ds → AllAgain s (x ∷ list) (d ∷ ds)
and_again s x list d ds a b = record { made = a.made ∷ b.made; says = rw (a.says, b.says) refl; same = rw (a.same, b.same) refl }

pub further_read : (shared : Bool) (t : CType) (constant : Bool) (align : Option Tree) (ds : List Object) (bs : List Bit) (ts : List Token) → GoodOthers t constant ds → (shared ≡ true → AllAligned align ds) →
    map said ts ≡ words_of (further_bits shared ds bs) → FurtherRead shared t constant align ds ts bs
further_read shared t constant align [] bs ts g a e = record { list = []; rest = ts; fits = tt; again = λ s h. record { made = []; says = refl; same = refl }; split = refl; left = e }
further_read shared t constant align (d ∷ ds) bs ts g a e =
    share (next kinds.Mark (codes ",") ts (words_of (declared_bits shared d (further_bits shared ds bs))) e) (λ n.
    share (object_read shared d (further_bits shared ds bs) n.rest g.0 n.left) (λ o.
    share (further_read shared t constant align ds bs o.rest g.3 (λ x. (a x).1) o.left) (λ f.
    record {
      list = (n.token, o.written) ∷ f.list;
      rest = f.rest;
      fits = ((n.symbol, o.fits), f.fits);
      again = λ s h. and_again s (n.token, o.written) f.list d ds (o.again s (one_suits shared t constant align s d g.1 g.2 (λ x. (a x).0) h)) (f.again s h);
      split = n.split ∙ ap (λ u. n.token ∷ u) (o.split ∙ ap (spell_object o.written) f.split);
      left = f.left;
    })))

-- the alignments of objects that share one are the same
abbrev pub AlignedTogether : List Object → Type 0
AlignedTogether [] = Unit {0}
AlignedTogether (d ∷ ds) = is_shared (d ∷ ds) ≡ true → AllAligned d.align ds

-- what these tokens begin with is a declaration of objects that are the same as these
pub record DeclarationRead (ds : List Object) (ts : List Token) (bs : List Bit) : Type 0 where
  pub words : List Token
  pub rest : List Token
  pub made : List Object
  pub is : IsDeclaration Neon words made
  pub same : map stripped_object made ≡ map stripped_object ds
  pub split : ts ≡ words ++ rest
  pub left : map said rest ≡ words_of bs

pub plain_says : (s : Specification) → s.is_static ≡ false → s.is_inline ≡ false → plain s ≡ Some s
plain_says s h k = rw (h, k) refl

whole_declaration : List Specifier → WrittenObject → List (Token × WrittenObject) → Token → WrittenDeclaration
whole_declaration l f o t = record { specifiers = l; first = f; others = o; semicolon = t }

declaration_made : (shared : Bool) (d : Object) (ds : List Object) (t1 t2 t3 : List Token) (b1 b2 b3 : List Bit) (semicolon : Token) → Is Neon Semicolon semicolon → (shared ≡ true → AllAligned d.align ds) →
    (s : Specified false false shared d.align (has_const d.ty d.constant) d.ty t1 b1) (o : ObjectRead shared d t2 b2) (f : FurtherRead shared (first_type d.ty) (has_const d.ty d.constant) d.align ds t3 b3) →
    (made : List Object) × IsDeclaration Neon (spell_declaration (whole_declaration s.list o.written f.list semicolon) []) made × (map stripped_object made ≡ map stripped_object (d ∷ ds))
unfolding whole_declaration
declaration_made shared d ds t1 t2 t3 b1 b2 b3 semicolon is aligned s o f =
    share (o.again s.made (record { base = s.base; constant = s.kept; aligned = s.same; unaligned = s.none })) (λ a.
    share (f.again s.made (record { base = s.base; kept = s.kept; aligned = s.same; unaligned = s.none })) (λ b. (
      a.made ∷ b.made,
      record { written = whole_declaration s.list o.written f.list semicolon; fits = (s.fits, o.fits, f.fits, is); spelled = refl; means = rw (s.says, plain_says s.made s.is_static s.is_inline, a.says, b.says) refl },
      rw (a.same, b.same) refl,
    )))

pub declaration_read : (ds : List Object) (bs : List Bit) (ts : List Token) → GoodDeclaration ds → AlignedTogether ds → map said ts ≡ words_of (declaration_bits ds (mark (codes ";") bs)) → DeclarationRead ds ts bs
unfolding whole_declaration
declaration_read [] bs ts g a e = absurd g
declaration_read (d ∷ ds) bs ts g a e =
    share (specified_read false false (is_shared (d ∷ ds)) d.align (has_const d.ty d.constant) d.ty d.constant (space (declared_bits (is_shared (d ∷ ds)) d (further_bits (is_shared (d ∷ ds)) ds (mark (codes ";") bs)))) ts g.0.align g.0.typed e) (λ s.
    share (object_read (is_shared (d ∷ ds)) d (further_bits (is_shared (d ∷ ds)) ds (mark (codes ";") bs)) s.rest g.0 s.left) (λ o.
    share (further_read (is_shared (d ∷ ds)) (first_type d.ty) (has_const d.ty d.constant) d.align ds (mark (codes ";") bs) o.rest g.1 a o.left) (λ f.
    share (next kinds.Mark (codes ";") f.rest (words_of bs) f.left) (λ n.
    share (declaration_made (is_shared (d ∷ ds)) d ds _ _ _ _ _ _ n.token n.symbol a s o f) (λ m.
    record {
      words = spell_declaration (whole_declaration s.list o.written f.list n.token) [];
      rest = n.rest;
      made = m.0;
      is = m.1;
      same = m.2;
      split = s.split ∙ ap (spell_each spell_specifier s.list) (o.split ∙ ap (spell_object o.written) (f.split ∙ ap (spell_each (spell_next spell_object) f.list) n.split)) ∙ sym (declaration_more (whole_declaration s.list o.written f.list n.token) n.rest);
      left = n.left;
    })))))
