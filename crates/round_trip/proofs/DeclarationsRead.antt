-- Declarations are read as they are written.
use Rattle.std.proofs.Common.{◌≡◌, ℕ, List, [], ◌∷◌, map, Bool, true, false, Option, Some, None, refl, sym, ◌∙◌, ap, arith}
use Rattle.std.specs.Prelude.{codes, option_map, is_some, not, ◌||◌}
use Rattle.c_text.specs.declared.tokens.Dialect.TheVariants.{Neon}
use Rattle.c_text.specs.declared.tokens.Place.{Place}
use Rattle.c_text.specs.declared.tokens.Token.{Token}
use Rattle.c_text.specs.declared.tokens.TokenKind.TheVariants as kinds
use Rattle.lane_core.specs.declared.vector.Pointee.{Pointee}
use Rattle.lane_core.specs.declared.vector.Pointee.TheVariants as pointees
use Rattle.c_tree.specs.declared.types.CType.{CType}
use Rattle.c_tree.specs.declared.types.CType.TheVariants as ctypes
use Rattle.c_tree.specs.Same.{stripped, stripped_all, unnumbered, stripped_object}
use Rattle.c_tree.specs.Tree.{Tree, Trees, NoTrees, More, Object}
use Rattle.c_tree.specs.View.{and_more}
use Rattle.c_print.specs.Declarations.{has_const}
use Rattle.c_parse.specs.declared.attribute_names.AttributeName.TheVariants as names
use Rattle.c_parse.specs.declared.symbols.Symbol.TheVariants as symbols
use Rattle.c_parse.specs.declared.types.Specifiers.{Specifiers}
use Rattle.c_parse.specs.Symbols.{symbol_of}
use Rattle.c_parse.specs.Types.{base_of, pointer_to}
use Rattle.c_parse.specs.Reading.{◌>>=◌}
use Rattle.c_parse.specs.Grammar.{Written, Tail, End, Then, Fits, FitAll, spell, spell_tail, tree, trees_of}
use Rattle.c_parse.specs.Repeated.{Each, spell_each, spell_next, says_each}
use Rattle.c_parse.specs.Objects.{attribute_of, Specification, Extent, Single, Unbounded, Bounded, is_array, length_of, Initial, no_initial, object_type, array_of, has_length, has_value}
use Rattle.c_parse.specs.Declarations as grammar
use Rattle.c_parse.specs.Declarations.{NextFits, Attribute, Aligned, Group, GroupFits, spell_group, group_says, Specifier, SpecifierFits, spell_specifier, specifier_says, specifiers_say, Pointing, Direct, Star, PointingFits, spell_pointing, pointing_says, Brackets, NoBrackets, Length, BracketsFit, spell_brackets, brackets_say, WrittenDeclarator, DeclaratorFits, spell_declarator, declarator_says, Initialiser, NoInitialiser, Value, Values, InitialiserFits, spell_initialiser, initialiser_says, WrittenObject, ObjectFits, spell_object, object_says, WrittenDeclaration, DeclarationFits, spell_declaration, declaration_says, IsDeclaration}
use Rattle.round_trip.specs.Words.{Bit, words_of, said}
use Rattle.round_trip.specs.GoodUnits.{type_of_pointee, first_type, GoodObjectType, GoodPart, GoodList, HasShape, GoodObject}
use Rattle.round_trip.proofs.Bits.{name, mark, space, part_bits, more_bits}
use Rattle.round_trip.proofs.UnitBits.{star_bits, brackets_bits, own_bits, init_bits, init_list_bits, declared_bits}
use Rattle.round_trip.proofs.Tokens.{next, next_name}
use Rattle.round_trip.proofs.ExpressionsRead.{share, looser, part_read, more_read}

-- the `*` of a pointer, and whether the pointer is const
abbrev pub star_of : CType → Bool → Option Bool
star_of (ctypes.Pointer p base) constant = Some constant
star_of t constant = None

pub record Pointed (ty : CType) (constant : Bool) (ts : List Token) (bs : List Bit) : Type 0 where
  pub pointing : Pointing
  pub rest : List Token
  pub fits : PointingFits Neon pointing
  pub says : pointing_says Neon pointing ≡ star_of ty constant
  pub split : ts ≡ spell_pointing pointing rest
  pub left : map said rest ≡ words_of bs

direct : (ty : CType) (constant : Bool) (ts : List Token) (bs : List Bit) → None ≡ star_of ty constant → map said ts ≡ words_of bs → Pointed ty constant ts bs
direct ty constant ts bs h e = record { pointing = Direct; rest = ts; fits = tt; says = h; split = refl; left = e }

pub star_read : (ty : CType) (constant : Bool) (bs : List Bit) (ts : List Token) → map said ts ≡ words_of (star_bits ty constant bs) → Pointed ty constant ts bs
star_read ctypes.Void constant bs ts e = direct _ _ ts bs refl e
star_read (ctypes.Int t) constant bs ts e = direct _ _ ts bs refl e
star_read ctypes.M128 constant bs ts e = direct _ _ ts bs refl e
star_read ctypes.M256 constant bs ts e = direct _ _ ts bs refl e
star_read (ctypes.Neon l wide) constant bs ts e = direct _ _ ts bs refl e
star_read ctypes.Pair constant bs ts e = direct _ _ ts bs refl e
star_read (ctypes.Array p n base) constant bs ts e = direct _ _ ts bs refl e
star_read (ctypes.Pointer p base) true bs ts e =
    share (next kinds.Mark (codes "*") ts (words_of (name (codes "const") (space bs))) e) (λ s.
    share (next kinds.Name (codes "const") s.rest (words_of bs) s.left) (λ q.
    record {
      pointing = Star s.token (q.token ∷ []);
      rest = q.rest;
      fits = (rw s.symbol refl, (rw q.symbol refl, tt));
      says = rw q.symbol refl;
      split = s.split ∙ ap (λ r. s.token ∷ r) q.split;
      left = q.left;
    }))
star_read (ctypes.Pointer p base) false bs ts e =
    share (next kinds.Mark (codes "*") ts (words_of bs) e) (λ s.
    record { pointing = Star s.token []; rest = s.rest; fits = (rw s.symbol refl, tt); says = refl; split = s.split; left = s.left })

-- the brackets of an array, and the length in them
abbrev pub extent_of : CType → Option Tree → Extent
extent_of (ctypes.Array p n base) None = Unbounded
extent_of (ctypes.Array p n base) (Some e) = Bounded e
extent_of t length = Single

pub record Bracketed (ty : CType) (length : Option Tree) (ts : List Token) (bs : List Bit) : Type 0 where
  pub brackets : Brackets
  pub rest : List Token
  pub found : Option Tree
  pub fits : BracketsFit Neon brackets
  pub says : brackets_say brackets ≡ extent_of ty found
  pub same : option_map stripped found ≡ option_map stripped length
  pub split : ts ≡ spell_brackets brackets rest
  pub left : map said rest ≡ words_of bs

single : (ty : CType) (ts : List Token) (bs : List Bit) → ((found : Option Tree) → Single ≡ extent_of ty found) → (length : Option Tree) → map said ts ≡ words_of bs → Bracketed ty length ts bs
single ty ts bs h length e = record { brackets = NoBrackets; rest = ts; found = length; fits = tt; says = h length; same = refl; split = refl; left = e }

pub brackets_read : (ty : CType) (length : Option Tree) (bs : List Bit) (ts : List Token) → GoodPart length → map said ts ≡ words_of (brackets_bits ty length bs) → Bracketed ty length ts bs
brackets_read ctypes.Void length bs ts g e = single _ ts bs (λ f. refl) length e
brackets_read (ctypes.Int t) length bs ts g e = single _ ts bs (λ f. refl) length e
brackets_read ctypes.M128 length bs ts g e = single _ ts bs (λ f. refl) length e
brackets_read ctypes.M256 length bs ts g e = single _ ts bs (λ f. refl) length e
brackets_read (ctypes.Neon l wide) length bs ts g e = single _ ts bs (λ f. refl) length e
brackets_read ctypes.Pair length bs ts g e = single _ ts bs (λ f. refl) length e
brackets_read (ctypes.Pointer p base) length bs ts g e = single _ ts bs (λ f. refl) length e
brackets_read (ctypes.Array p n base) None bs ts g e =
    share (next kinds.Mark (codes "[") ts (words_of (mark (codes "]") bs)) e) (λ o.
    share (next kinds.Mark (codes "]") o.rest (words_of bs) o.left) (λ c.
    record { brackets = grammar.Empty o.token c.token; rest = c.rest; found = None; fits = (o.symbol, c.symbol); says = refl; same = refl; split = o.split ∙ ap (λ r. o.token ∷ r) c.split; left = c.left }))
brackets_read (ctypes.Array p n base) (Some l) bs ts g e =
    share (next kinds.Mark (codes "[") ts (words_of (part_bits 1 l (mark (codes "]") bs))) e) (λ o.
    share (part_read 1 l (mark (codes "]") bs) o.rest (omega arith) g o.left) (λ r.
    share (next kinds.Mark (codes "]") r.rest (words_of bs) r.left) (λ c.
    record {
      brackets = Length o.token r.written c.token;
      rest = c.rest;
      found = Some (tree r.written);
      fits = (o.symbol, r.fits, c.symbol);
      says = refl;
      same = ap Some r.means;
      split = o.split ∙ ap (λ q. o.token ∷ q) (r.split ∙ ap (spell r.written) c.split);
      left = c.left;
    })))

-- the attributes behind a declarator, and the alignment after them, where it was this one before
pub record Grouped (shared : Bool) (align : Option Tree) (ts : List Token) (bs : List Bit) : Type 0 where
  pub groups : List Group
  pub rest : List Token
  pub found : Option Tree → Option Tree
  pub fits : Each (GroupFits Neon) groups
  pub says : (before : Option Tree) → (shared ≡ false → before ≡ None) → says_each group_says before groups ≡ Some (found before)
  pub same : (before : Option Tree) → (shared ≡ true → option_map stripped before ≡ option_map stripped align) → (shared ≡ false → before ≡ None) → option_map stripped (found before) ≡ option_map stripped align
  pub split : ts ≡ spell_each spell_group groups rest
  pub left : map said rest ≡ words_of bs

aligned_named : (t : Token) → symbol_of Neon t ≡ symbols.Name → t.text ≡ codes "aligned" → attribute_of Neon t ≡ Some names.Aligned
unfolding attribute_of
aligned_named t s h = rw (s, h) refl

pub groups_read : (shared : Bool) (align : Option Tree) (bs : List Bit) (ts : List Token) → GoodPart align → map said ts ≡ words_of (own_bits shared align bs) → Grouped shared align ts bs
groups_read true align bs ts g e = record { groups = []; rest = ts; found = λ before. before; fits = tt; says = λ before h. refl; same = λ before h k. h refl; split = refl; left = e }
groups_read false None bs ts g e = record { groups = []; rest = ts; found = λ before. before; fits = tt; says = λ before h. refl; same = λ before h k. ap (option_map stripped) (k refl); split = refl; left = e }
groups_read false (Some n) bs ts g e =
    share (next kinds.Name (codes "__attribute__") ts (words_of (mark (codes "(") (mark (codes "(") (name (codes "aligned") (mark (codes "(") (part_bits 2 n (mark (codes ")") (mark (codes ")") (mark (codes ")") bs))))))))) e) (λ w.
    share (next kinds.Mark (codes "(") w.rest _ w.left) (λ o.
    share (next kinds.Mark (codes "(") o.rest _ o.left) (λ i.
    share (next kinds.Name (codes "aligned") i.rest _ i.left) (λ t.
    share (next kinds.Mark (codes "(") t.rest (words_of (part_bits 2 n (mark (codes ")") (mark (codes ")") (mark (codes ")") bs))))) t.left) (λ b.
    share (part_read 2 n (mark (codes ")") (mark (codes ")") (mark (codes ")") bs))) b.rest (omega arith) g b.left) (λ r.
    share (next kinds.Mark (codes ")") r.rest _ r.left) (λ c.
    share (next kinds.Mark (codes ")") c.rest _ c.left) (λ d.
    share (next kinds.Mark (codes ")") d.rest (words_of bs) d.left) (λ f.
    record {
      groups = record { word = w.token; outer = o.token; inner = i.token; first = Aligned t.token b.token r.written c.token; others = []; inner_close = d.token; outer_close = f.token } ∷ [];
      rest = f.rest;
      found = λ before. Some (tree r.written);
      fits = ((rw w.symbol refl, o.symbol, i.symbol, (aligned_named t.token t.symbol t.has, b.symbol, looser 2 1 r.written (omega arith) r.fits, c.symbol), tt, d.symbol, f.symbol), tt);
      says = λ before h. rw (h refl) refl;
      same = λ before h k. ap Some r.means;
      split = w.split ∙ ap (λ q. w.token ∷ q) (o.split ∙ ap (λ q. o.token ∷ q) (i.split ∙ ap (λ q. i.token ∷ q) (t.split ∙ ap (λ q. t.token ∷ q) (b.split ∙ ap (λ q. b.token ∷ q) (r.split ∙ ap (spell r.written)
          (c.split ∙ ap (λ q. c.token ∷ q) (d.split ∙ ap (λ q. d.token ∷ q) f.split)))))));
      left = f.left;
    })))))))))

-- The members of a list of initialisers, as the grammar of declarations has them.
abbrev pub members : Tail → List (Token × Written)
members End = []
members (Then t a rest) = (t, a) ∷ members rest

members_fit : (rest : Tail) → FitAll Neon rest → Each (NextFits Neon (Fits Neon 1)) (members rest)
members_fit End f = tt
members_fit (Then t a rest) f = ((f.0, f.1), members_fit rest f.2)

members_spell : (rest : Tail) (ts : List Token) → spell_tail rest ts ≡ spell_each (spell_next spell) (members rest) ts
members_spell End ts = refl
members_spell (Then t a rest) ts = ap (λ u. t ∷ spell a u) (members_spell rest ts)

members_trees : (rest : Tail) → and_more (map (λ x. tree x.1) (members rest)) NoTrees ≡ trees_of rest
members_trees End = refl
members_trees (Then t a rest) = ap (More (tree a)) (members_trees rest)

-- what an object begins with
pub record Begun (array : Bool) (init : Option Tree) (list : Option Trees) (ts : List Token) (bs : List Bit) : Type 0 where
  pub initialiser : Initialiser
  pub rest : List Token
  pub found : Initial
  pub fits : InitialiserFits Neon array initialiser
  pub says : initialiser_says initialiser ≡ found
  pub same_init : option_map stripped found.init ≡ option_map stripped init
  pub same_list : option_map stripped_all found.list ≡ option_map stripped_all list
  pub listed : is_some found.list ≡ is_some list
  pub begun : is_some found.init ≡ is_some init
  pub split : ts ≡ spell_initialiser initialiser rest
  pub left : map said rest ≡ words_of bs

pub initialiser_read : (array : Bool) (init : Option Tree) (list : Option Trees) (bs : List Bit) (ts : List Token) → (array ≡ true → init ≡ None) → (array ≡ false → list ≡ None) → GoodPart init → GoodList list →
    map said ts ≡ words_of (init_bits init (init_list_bits list bs)) → Begun array init list ts bs
initialiser_read array None None bs ts h k g l e =
    record { initialiser = NoInitialiser; rest = ts; found = no_initial; fits = tt; says = refl; same_init = refl; same_list = refl; listed = refl; begun = refl; split = refl; left = e }
initialiser_read true (Some i) list bs ts h k g l e = absurd (some_none i (h refl))
  where
    some_none : (i : Tree) → Some i ≡ None → ⊥
    some_none i e = absurd (cc)
initialiser_read false init (Some all) bs ts h k g l e = absurd (some_none all (k refl))
  where
    some_none : (all : Trees) → Some all ≡ None → ⊥
    some_none all e = absurd (cc)
initialiser_read false (Some i) None bs ts h k g l e =
    share (next kinds.Mark (codes "=") ts (words_of (part_bits 1 i bs)) e) (λ q.
    share (part_read 1 i bs q.rest (omega arith) g q.left) (λ r.
    record {
      initialiser = Value q.token r.written;
      rest = r.rest;
      found = record { init = Some (tree r.written); list = None };
      fits = (refl, rw q.symbol refl, r.fits);
      says = refl;
      same_init = ap Some r.means;
      same_list = refl;
      listed = refl;
      begun = refl;
      split = q.split ∙ ap (λ u. q.token ∷ u) r.split;
      left = r.left;
    }))
initialiser_read true None (Some NoTrees) bs ts h k g l e = absurd l
initialiser_read true None (Some (More a others)) bs ts h k g l e =
    share (next kinds.Mark (codes "=") ts (words_of (mark (codes "{") (part_bits 1 a (more_bits others (mark (codes "}") bs))))) e) (λ q.
    share (next kinds.Mark (codes "{") q.rest (words_of (part_bits 1 a (more_bits others (mark (codes "}") bs)))) q.left) (λ o.
    share (part_read 1 a (more_bits others (mark (codes "}") bs)) o.rest (omega arith) l.0 o.left) (λ r.
    share (more_read others (mark (codes "}") bs) r.rest l.1 r.left) (λ m.
    share (next kinds.Mark (codes "}") m.rest (words_of bs) m.left) (λ c.
    record {
      initialiser = Values q.token o.token r.written (members m.others) None c.token;
      rest = c.rest;
      found = record { init = None; list = Some (More (tree r.written) (trees_of m.others)) };
      fits = (refl, rw q.symbol refl, o.symbol, r.fits, members_fit m.others m.fits, tt, c.symbol);
      says = ap (λ x. record { init = None; list = Some (More (tree r.written) x) }) (members_trees m.others);
      same_init = refl;
      same_list = list_same _ _ _ _ r.means m.means;
      listed = refl;
      begun = refl;
      split = q.split ∙ ap (λ u. q.token ∷ u) (o.split ∙ ap (λ u. o.token ∷ u) (r.split ∙ ap (spell r.written) (m.split ∙ ap (spell_tail m.others) c.split ∙ members_spell m.others (c.token ∷ c.rest))));
      left = c.left;
    })))))
  where
    list_same : (a x : Tree) (all xs : Trees) → a ≡ x → all ≡ xs → Some (More a all) ≡ Some (More x xs)
    list_same a x all xs p q = rw (p, q) refl

-- whether a type is an array's
abbrev pub is_array_type : CType → Bool
is_array_type (ctypes.Array p n base) = true
is_array_type t = false

extent_array : (ty : CType) (found : Option Tree) → is_array (extent_of ty found) ≡ is_array_type ty
extent_array ctypes.Void f = refl
extent_array (ctypes.Int t) f = refl
extent_array ctypes.M128 f = refl
extent_array ctypes.M256 f = refl
extent_array (ctypes.Neon l wide) f = refl
extent_array ctypes.Pair f = refl
extent_array (ctypes.Pointer p base) f = refl
extent_array (ctypes.Array p n base) None = refl
extent_array (ctypes.Array p n base) (Some e) = refl

-- the shape of an object, as the initialiser wants it
array_no_init : (ty : CType) (length init : Option Tree) (list : Option Trees) → HasShape ty length init list → is_array_type ty ≡ true → init ≡ None
array_no_init ctypes.Void length init list h k = absurd (cc)
array_no_init (ctypes.Int t) length init list h k = absurd (cc)
array_no_init ctypes.M128 length init list h k = absurd (cc)
array_no_init ctypes.M256 length init list h k = absurd (cc)
array_no_init (ctypes.Neon l wide) length init list h k = absurd (cc)
array_no_init ctypes.Pair length init list h k = absurd (cc)
array_no_init (ctypes.Pointer p base) length init list h k = absurd (cc)
array_no_init (ctypes.Array p n base) None init None h k = absurd h
array_no_init (ctypes.Array p n base) None init (Some all) h k = h
array_no_init (ctypes.Array p n base) (Some l) init list h k = h

no_array_no_list : (ty : CType) (length init : Option Tree) (list : Option Trees) → HasShape ty length init list → is_array_type ty ≡ false → (length ≡ None) × (list ≡ None)
no_array_no_list ctypes.Void length init list h k = h
no_array_no_list (ctypes.Int t) length init list h k = h
no_array_no_list ctypes.M128 length init list h k = h
no_array_no_list ctypes.M256 length init list h k = h
no_array_no_list (ctypes.Neon l wide) length init list h k = h
no_array_no_list ctypes.Pair length init list h k = h
no_array_no_list (ctypes.Pointer p base) length init list h k = h
no_array_no_list (ctypes.Array p n base) length init list h k = absurd (cc)

abbrev paired : Bool → Option CType → Option (CType × Bool)
paired constant o = o >>= λ t. Some (t, constant)

-- The type that specifiers and a declarator give together.
pub typed_again : (w : Specifiers) (ty : CType) (constant : Bool) (found : Option Tree) → GoodObjectType ty constant → base_of w ≡ Some (first_type ty) → w.constant ≡ has_const ty constant →
    (t : CType) × (object_type w (star_of ty constant) (extent_of ty found) ≡ Some (t, constant)) × (unnumbered t ≡ unnumbered ty)
typed_again w ctypes.Void constant found g b c = (ctypes.Void, rw (b, c) refl, refl)
typed_again w (ctypes.Int t) constant found g b c = (ctypes.Int t, rw (b, c) refl, refl)
typed_again w ctypes.M128 constant found g b c = absurd g
typed_again w ctypes.M256 constant found g b c = absurd g
typed_again w (ctypes.Neon l wide) constant found g b c = (ctypes.Neon l wide, rw (b, c) refl, refl)
typed_again w ctypes.Pair constant found g b c = (ctypes.Pair, rw (b, c) refl, refl)
typed_again w (ctypes.Pointer p base) constant found g b c = (ctypes.Pointer p base, pointer_again p, refl)
  where
    go : (p : Pointee) → paired constant (pointer_to (Some (type_of_pointee p)) base) ≡ Some (ctypes.Pointer p base, constant)
    go pointees.Void = refl
    go (pointees.Int t) = refl
    go pointees.M128 = refl
    go pointees.M256 = refl

    pointer_again : (q : Pointee) → object_type w (Some constant) Single ≡ Some (ctypes.Pointer p base, constant)
    pointer_again q = rw (b, c) (go p)
typed_again w (ctypes.Array p n base) constant found g b c = (ctypes.Array p 0 constant, array_again found, ap (λ x. ctypes.Array p 0 x) (sym g.1))
  where
    both_same : (base constant : Bool) → base ≡ constant → (base || constant) ≡ constant
    both_same true true h = refl
    both_same true false h = absurd (cc)
    both_same false true h = refl
    both_same false false h = refl

    go : (p : Pointee) → paired constant (array_of (pointer_to (Some (type_of_pointee p)) constant)) ≡ Some (ctypes.Array p 0 constant, constant)
    go pointees.Void = refl
    go (pointees.Int t) = refl
    go pointees.M128 = refl
    go pointees.M256 = refl

    array_again : (found : Option Tree) → object_type w None (extent_of (ctypes.Array p n base) found) ≡ Some (ctypes.Array p 0 constant, constant)
    array_again None = rw (b, c, both_same base constant g.1) (go p)
    array_again (Some e) = rw (b, c, both_same base constant g.1) (go p)

-- lengths
none_only : (a b : Option Tree) → option_map stripped a ≡ option_map stripped b → a ≡ None → b ≡ None
none_only a None e h = refl
none_only (Some x) (Some y) e h = absurd (cc)
none_only None (Some y) e h = absurd (cc)

given_length : (ty : CType) (length init : Option Tree) (list : Option Trees) (found : Option Tree) (listed : Option Trees) → HasShape ty length init list → option_map stripped found ≡ option_map stripped length →
    is_some listed ≡ is_some list → has_length (extent_of ty found) listed ≡ true
given_length ctypes.Void length init list found listed h s l = refl
given_length (ctypes.Int t) length init list found listed h s l = refl
given_length ctypes.M128 length init list found listed h s l = refl
given_length ctypes.M256 length init list found listed h s l = refl
given_length (ctypes.Neon x wide) length init list found listed h s l = refl
given_length ctypes.Pair length init list found listed h s l = refl
given_length (ctypes.Pointer p base) length init list found listed h s l = refl
given_length (ctypes.Array p n base) length init list (Some f) listed h s l = refl
given_length (ctypes.Array p n base) None init None None listed h s l = absurd h
given_length (ctypes.Array p n base) None init (Some all) None listed h s l = l
given_length (ctypes.Array p n base) (Some x) init list None listed h s l = absurd (cc)

same_length : (ty : CType) (length init : Option Tree) (list : Option Trees) (found : Option Tree) → HasShape ty length init list → option_map stripped found ≡ option_map stripped length →
    option_map stripped (length_of (extent_of ty found)) ≡ option_map stripped length
same_length ctypes.Void length init list found h s = ap (option_map stripped) (sym h.0)
same_length (ctypes.Int t) length init list found h s = ap (option_map stripped) (sym h.0)
same_length ctypes.M128 length init list found h s = ap (option_map stripped) (sym h.0)
same_length ctypes.M256 length init list found h s = ap (option_map stripped) (sym h.0)
same_length (ctypes.Neon x wide) length init list found h s = ap (option_map stripped) (sym h.0)
same_length ctypes.Pair length init list found h s = ap (option_map stripped) (sym h.0)
same_length (ctypes.Pointer p base) length init list found h s = ap (option_map stripped) (sym h.0)
same_length (ctypes.Array p n base) length init list None h s = s
same_length (ctypes.Array p n base) length init list (Some f) h s = s

-- a declarator with its own alignment and its initialiser
abbrev pub whole_declarator : Pointing → Token → Brackets → List Group → WrittenDeclarator
whole_declarator p n b g = record { pointing = p; name = n; brackets = b; groups = g }

abbrev pub whole_object : Pointing → Token → Brackets → List Group → Initialiser → WrittenObject
whole_object p n b g i = record { declarator = whole_declarator p n b g; initialiser = i }

-- what a written object is behind specifiers that fit
pub record Again (s : Specification) (w : WrittenObject) (d : Object) : Type 0 where
  pub made : Object
  pub says : object_says Neon s w ≡ Some made
  pub same : stripped_object made ≡ stripped_object d
  pub valued : has_value made ≡ has_value d

-- specifiers with which an object is what it was
pub record Suits (shared : Bool) (d : Object) (s : Specification) : Type 0 where
  pub base : base_of s.words ≡ Some (first_type d.ty)
  pub constant : s.words.constant ≡ has_const d.ty d.constant
  pub aligned : shared ≡ true → option_map stripped s.align ≡ option_map stripped d.align
  pub unaligned : shared ≡ false → s.align ≡ None

pub record ObjectRead (shared : Bool) (d : Object) (ts : List Token) (bs : List Bit) : Type 0 where
  pub written : WrittenObject
  pub rest : List Token
  pub fits : ObjectFits Neon written
  pub again : (s : Specification) → Suits shared d s → Again s written d
  pub split : ts ≡ spell_object written rest
  pub left : map said rest ≡ words_of bs

valued_by : (constant : Bool) (a b : Option Tree) (c d : Option Trees) → is_some a ≡ is_some b → is_some c ≡ is_some d → (not constant || is_some a || is_some c) ≡ (not constant || is_some b || is_some d)
valued_by constant a b c d h k = rw (h, k) refl

same_object : (d : Object) (p : Place) (x : List ℕ) (t : CType) (l a i : Option Tree) (f : Bool) (v : Option Trees) → x ≡ d.name → unnumbered t ≡ unnumbered d.ty → option_map stripped l ≡ option_map stripped d.length →
    option_map stripped a ≡ option_map stripped d.align → option_map stripped i ≡ option_map stripped d.init → option_map stripped_all v ≡ option_map stripped_all d.list →
    stripped_object (record { place = p; name = x; ty = t; length = l; constant = d.constant; align = a; align_first = f; init = i; list = v }) ≡ stripped_object d
same_object d p x t l a i f v e1 e2 e3 e4 e5 e6 = rw (e1, e2, e3, e4, e5, e6) refl

object_again : (shared : Bool) (d : Object) (n : Token) (s : Specification) (t1 t2 t3 t4 : List Token) (b1 b2 b3 b4 : List Bit) → GoodObject d → n.text ≡ d.name →
    (p : Pointed d.ty d.constant t1 b1) (b : Bracketed d.ty d.length t2 b2) (g : Grouped shared d.align t3 b3) (i : Begun (is_array_type d.ty) d.init d.list t4 b4) → Suits shared d s →
    Again s (whole_object p.pointing n b.brackets g.groups i.initialiser) d
object_again shared d n s t1 t2 t3 t4 b1 b2 b3 b4 good named p b g i suits =
    share (typed_again s.words d.ty d.constant b.found good.typed suits.base suits.constant) (λ t.
    record {
      made = record { place = n.place; name = n.text; ty = t.0; length = length_of (extent_of d.ty b.found); constant = d.constant; align = g.found s.align; align_first = is_some s.align; init = i.found.init; list = i.found.list };
      says = rw (g.says s.align suits.unaligned, p.says, b.says, i.says, given_length d.ty d.length d.init d.list b.found i.found.list good.shaped b.same i.listed, t.1) refl;
      same = same_object d n.place n.text t.0 _ _ _ (is_some s.align) _ named t.2 (same_length d.ty d.length d.init d.list b.found good.shaped b.same) (g.same s.align suits.aligned suits.unaligned) i.same_init i.same_list;
      valued = valued_by d.constant i.found.init d.init i.found.list d.list i.begun i.listed;
    })

pub object_read : (shared : Bool) (d : Object) (bs : List Bit) (ts : List Token) → GoodObject d → map said ts ≡ words_of (declared_bits shared d bs) → ObjectRead shared d ts bs
object_read shared d bs ts g e =
    share (star_read d.ty d.constant (name d.name (brackets_bits d.ty d.length (own_bits shared d.align (init_bits d.init (init_list_bits d.list bs))))) ts e) (λ p.
    share (next_name d.name (brackets_bits d.ty d.length (own_bits shared d.align (init_bits d.init (init_list_bits d.list bs)))) p.rest g.named.named p.left) (λ n.
    share (brackets_read d.ty d.length (own_bits shared d.align (init_bits d.init (init_list_bits d.list bs))) n.rest g.length n.left) (λ b.
    share (groups_read shared d.align (init_bits d.init (init_list_bits d.list bs)) b.rest g.align b.left) (λ a.
    share (initialiser_read (is_array_type d.ty) d.init d.list bs a.rest (array_no_init d.ty d.length d.init d.list g.shaped) (λ h. (no_array_no_list d.ty d.length d.init d.list g.shaped h).1) g.init g.list a.left) (λ i.
    record {
      written = whole_object p.pointing n.token b.brackets a.groups i.initialiser;
      rest = i.rest;
      fits = ((p.fits, n.symbol ∙ g.named.free, b.fits, a.fits), rw (b.says, extent_array d.ty b.found) i.fits);
      again = λ s suits. object_again shared d n.token s _ _ _ _ _ _ _ _ g n.has p b a i suits;
      split = p.split ∙ ap (spell_pointing p.pointing) (n.split ∙ ap (λ q. n.token ∷ q) (b.split ∙ ap (spell_brackets b.brackets) (a.split ∙ ap (spell_each spell_group a.groups) i.split)));
      left = i.left;
    })))))
