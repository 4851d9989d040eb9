-- Functions, tables and units are read as they are written.
use Rattle.std.proofs.Common.{◌≡◌, ℕ, List, [], ◌∷◌, ◌++◌, map, Bool, true, false, Option, Some, None, refl, sym, ◌∙◌, ap}
use Rattle.std.specs.Prelude.{codes}
use Rattle.c_text.specs.declared.tokens.Dialect.TheVariants.{Neon}
use Rattle.c_text.specs.declared.tokens.Place.{Place}
use Rattle.c_text.specs.declared.tokens.Token.{Token}
use Rattle.c_text.specs.declared.tokens.TokenKind.TheVariants as kinds
use Rattle.c_tree.specs.declared.types.CType.{CType}
use Rattle.c_tree.specs.declared.types.CType.TheVariants as ctypes
use Rattle.c_tree.specs.Same.{unnumbered, stripped_object, stripped_statements, stripped_definition, stripped_external}
use Rattle.c_tree.specs.Tree.{Tree, Trees, Object, Statements, NoStatements, Definition, External, Function, Table}
use Rattle.c_print.specs.Declarations.{has_const}
use Rattle.c_print.specs.Types.{is_base_const}
use Rattle.c_parse.specs.declared.symbols.Sign.TheVariants.{Semicolon}
use Rattle.c_parse.specs.Grammar.{Is}
use Rattle.c_parse.specs.Repeated.{Each, spell_each, spell_next, means_each}
use Rattle.c_parse.specs.declared.types.Specifiers.{Specifiers}
use Rattle.c_parse.specs.Objects.{Single, parameter_type, object_type}
use Rattle.c_parse.specs.Declarations.{NextFits, Specifier, spell_specifier, Pointing, NoBrackets, spell_pointing, WrittenParameter, ParameterFits, spell_parameter, parameter_says, Parameters, VoidParameters, SomeParameters, ParametersFit, spell_parameters, parameters_say, WrittenHeading, spell_heading, IsHeading, WrittenTable, spell_table, IsObject, WrittenObject, spell_object}
use Rattle.c_parse.specs.Statements.{tree_all}
use Rattle.c_parse.specs.Items as items
use Rattle.c_parse.specs.Items.{Item, IsItem, spell_item, with_body, tree_items, IsUnit}
use Rattle.c_parse.proofs.Spelling.{table_more, heading_more}
use Rattle.round_trip.specs.Words.{Bit, words_of, said}
use Rattle.round_trip.specs.GoodUnits.{GoodObjectType, IsNoArray, HasShape, GoodObject, GoodParameter, GoodParameters, GoodFunction, GoodItem, GoodUnit, HasValue}
use Rattle.round_trip.proofs.Bits.{name, mark, space, line_end}
use Rattle.round_trip.proofs.UnitBits.{star_bits, brackets_bits, declarator_bits, declared_bits, parameter_bits, further_parameter_bits, parameters_bits, static_bits, heading_bits, item_bits, items_bits, opened_bits, statements_bits, declaration_bits}
use Rattle.round_trip.proofs.Tokens.{Word, Next, next, next_name}
use Rattle.round_trip.proofs.ExpressionsRead.{share}
use Rattle.round_trip.proofs.DeclarationsRead.{Pointed, star_read, star_of, extent_of, typed_again, ObjectRead, object_read}
use Rattle.round_trip.proofs.SpecifiersRead.{Specified, specified_read, plain_says}
use Rattle.round_trip.proofs.StatementsRead.{Alike, statements_read}

-- a parameter
pub record ParameterRead (d : Object) (ts : List Token) (bs : List Bit) : Type 0 where
  pub written : WrittenParameter
  pub rest : List Token
  pub made : Object
  pub fits : ParameterFits Neon written
  pub says : parameter_says Neon written ≡ Some made
  pub same : stripped_object made ≡ stripped_object d
  pub split : ts ≡ spell_parameter written rest
  pub left : map said rest ≡ words_of bs

-- What is no array has nothing behind its name, and is the same as a parameter.
parameter_same : (w : Specifiers) (ty : CType) (constant : Bool) (found : Option Tree) → IsNoArray ty → parameter_type w (star_of ty constant) (extent_of ty found) ≡ object_type w (star_of ty constant) (extent_of ty found)
parameter_same w ctypes.Void constant found n = refl
parameter_same w (ctypes.Int t) constant found n = refl
parameter_same w ctypes.M128 constant found n = refl
parameter_same w ctypes.M256 constant found n = refl
parameter_same w (ctypes.Neon l wide) constant found n = refl
parameter_same w ctypes.Pair constant found n = refl
parameter_same w (ctypes.Pointer p base) constant found n = refl
parameter_same w (ctypes.Array p m base) constant found n = absurd n

no_extent : (ty : CType) (found : Option Tree) → IsNoArray ty → extent_of ty found ≡ Single
no_extent ctypes.Void found n = refl
no_extent (ctypes.Int t) found n = refl
no_extent ctypes.M128 found n = refl
no_extent ctypes.M256 found n = refl
no_extent (ctypes.Neon l wide) found n = refl
no_extent ctypes.Pair found n = refl
no_extent (ctypes.Pointer p base) found n = refl
no_extent (ctypes.Array p m base) found n = absurd n

no_brackets : (ty : CType) (length : Option Tree) (bs : List Bit) → IsNoArray ty → brackets_bits ty length bs ≡ bs
no_brackets ctypes.Void length bs n = refl
no_brackets (ctypes.Int t) length bs n = refl
no_brackets ctypes.M128 length bs n = refl
no_brackets ctypes.M256 length bs n = refl
no_brackets (ctypes.Neon l wide) length bs n = refl
no_brackets ctypes.Pair length bs n = refl
no_brackets (ctypes.Pointer p base) length bs n = refl
no_brackets (ctypes.Array p m base) length bs n = absurd n

nothing_else : (ty : CType) (length init : Option Tree) (list : Option Trees) → IsNoArray ty → HasShape ty length init list → (length ≡ None) × (list ≡ None)
nothing_else ctypes.Void length init list n h = h
nothing_else (ctypes.Int t) length init list n h = h
nothing_else ctypes.M128 length init list n h = h
nothing_else ctypes.M256 length init list n h = h
nothing_else (ctypes.Neon l wide) length init list n h = h
nothing_else ctypes.Pair length init list n h = h
nothing_else (ctypes.Pointer p base) length init list n h = h
nothing_else (ctypes.Array p m base) length init list n h = absurd n

-- the type of a parameter, as that of an object
parameter_again : (w : Specifiers) (ty : CType) (constant : Bool) → IsNoArray ty → parameter_type w (star_of ty constant) Single ≡ object_type w (star_of ty constant) (extent_of ty None)
parameter_again w ty constant n = ap (parameter_type w (star_of ty constant)) (sym (no_extent ty None n)) ∙ parameter_same w ty constant None n

parameter_stripped : (d : Object) (p : Place) (x : List ℕ) (t : CType) → x ≡ d.name → unnumbered t ≡ unnumbered d.ty → d.length ≡ None → d.align ≡ None → d.init ≡ None → d.list ≡ None →
    stripped_object (record { place = p; name = x; ty = t; length = None; constant = d.constant; align = None; align_first = false; init = None; list = None }) ≡ stripped_object d
parameter_stripped d p x t e1 e2 e3 e4 e5 e6 = rw (e1, e2, e3, e4, e5, e6) refl

whole_parameter : List Specifier → Pointing → Token → WrittenParameter
whole_parameter l p n = record { specifiers = l; declarator = record { pointing = p; name = n; brackets = NoBrackets; groups = [] } }

parameter_made : (d : Object) (t1 t2 t3 : List Token) (b1 b2 b3 : List Bit) (g : GoodParameter d) (s : Specified false false false d.align (has_const d.ty d.constant) d.ty t1 b1) (p : Pointed d.ty d.constant t2 b2) (n : Next kinds.Name d.name t3 (words_of b3)) →
    (made : Object) × (parameter_says Neon (whole_parameter s.list p.pointing n.token) ≡ Some made) × (stripped_object made ≡ stripped_object d)
unfolding whole_parameter
parameter_made d t1 t2 t3 b1 b2 b3 g s p n =
    share (typed_again s.made.words d.ty d.constant None g.good.typed s.base s.kept) (λ t. (
      record { place = n.token.place; name = n.token.text; ty = t.0; length = None; constant = d.constant; align = None; align_first = false; init = None; list = None },
      rw (s.says, plain_says s.made s.is_static s.is_inline, s.none refl, p.says, parameter_again s.made.words d.ty d.constant g.no_array, t.1) refl,
      parameter_stripped d n.token.place n.token.text t.0 n.has t.2 (nothing_else d.ty d.length d.init d.list g.no_array g.good.shaped).0 g.no_align g.no_init (nothing_else d.ty d.length d.init d.list g.no_array g.good.shaped).1,
    ))

pub parameter_read : (d : Object) (bs : List Bit) (ts : List Token) → GoodParameter d → map said ts ≡ words_of (parameter_bits d bs) → ParameterRead d ts bs
unfolding whole_parameter
parameter_read d bs ts g e =
    share (specified_read false false false d.align (has_const d.ty d.constant) d.ty d.constant (space (declarator_bits d bs)) ts g.good.align g.good.typed e) (λ s.
    share (star_read d.ty d.constant (name d.name (brackets_bits d.ty d.length bs)) s.rest s.left) (λ p.
    share (next_name d.name (brackets_bits d.ty d.length bs) p.rest g.good.named.named p.left) (λ n.
    share (parameter_made d ts s.rest p.rest (space (declarator_bits d bs)) (name d.name (brackets_bits d.ty d.length bs)) (brackets_bits d.ty d.length bs) g s p n) (λ m.
    record {
      written = whole_parameter s.list p.pointing n.token;
      rest = n.rest;
      made = m.0;
      fits = (s.fits, (p.fits, n.symbol ∙ g.good.named.free, tt, tt));
      says = m.1;
      same = m.2;
      split = s.split ∙ ap (spell_each spell_specifier s.list) (p.split ∙ ap (spell_pointing p.pointing) n.split);
      left = n.left ∙ ap words_of (no_brackets d.ty d.length bs g.no_array);
    }))))

-- further parameters, each behind a comma
pub record ParametersRead (ds : List Object) (ts : List Token) (bs : List Bit) : Type 0 where
  pub list : List (Token × WrittenParameter)
  pub rest : List Token
  pub made : List Object
  pub fits : Each (NextFits Neon (ParameterFits Neon)) list
  pub says : means_each (λ i. parameter_says Neon i.1) list ≡ Some made
  pub same : map stripped_object made ≡ map stripped_object ds
  pub split : ts ≡ spell_each (spell_next spell_parameter) list rest
  pub left : map said rest ≡ words_of bs

pub further_parameters_read : (ds : List Object) (bs : List Bit) (ts : List Token) → GoodParameters ds → map said ts ≡ words_of (further_parameter_bits ds bs) → ParametersRead ds ts bs
further_parameters_read [] bs ts g e = record { list = []; rest = ts; made = []; fits = tt; says = refl; same = refl; split = refl; left = e }
further_parameters_read (d ∷ ds) bs ts g e =
    share (next kinds.Mark (codes ",") ts (words_of (parameter_bits d (further_parameter_bits ds bs))) e) (λ n.
    share (parameter_read d (further_parameter_bits ds bs) n.rest g.0 n.left) (λ p.
    share (further_parameters_read ds bs p.rest g.1 p.left) (λ r.
    record {
      list = (n.token, p.written) ∷ r.list;
      rest = r.rest;
      made = p.made ∷ r.made;
      fits = ((n.symbol, p.fits), r.fits);
      says = rw (p.says, r.says) refl;
      same = rw (p.same, r.same) refl;
      split = n.split ∙ ap (λ u. n.token ∷ u) (p.split ∙ ap (spell_parameter p.written) r.split);
      left = r.left;
    })))

-- the parameters of a function, up to the bracket that closes them
pub record ListRead (ds : List Object) (ts : List Token) (bs : List Bit) : Type 0 where
  pub parameters : Parameters
  pub rest : List Token
  pub made : List Object
  pub fits : ParametersFit Neon parameters
  pub says : parameters_say Neon parameters ≡ Some made
  pub same : map stripped_object made ≡ map stripped_object ds
  pub split : ts ≡ spell_parameters parameters rest
  pub left : map said rest ≡ words_of bs

pub parameters_read : (ds : List Object) (bs : List Bit) (ts : List Token) → GoodParameters ds → map said ts ≡ words_of (parameters_bits ds (mark (codes ")") bs)) → ListRead ds ts bs
parameters_read [] bs ts g e =
    share (next kinds.Name (codes "void") ts (words_of (mark (codes ")") bs)) e) (λ v.
    share (next kinds.Mark (codes ")") v.rest (words_of bs) v.left) (λ c.
    record {
      parameters = VoidParameters v.token c.token;
      rest = c.rest;
      made = [];
      fits = (rw v.symbol refl, c.symbol);
      says = refl;
      same = refl;
      split = v.split ∙ ap (λ u. v.token ∷ u) c.split;
      left = c.left;
    }))
parameters_read (d ∷ ds) bs ts g e =
    share (parameter_read d (further_parameter_bits ds (mark (codes ")") bs)) ts g.0 e) (λ p.
    share (further_parameters_read ds (mark (codes ")") bs) p.rest g.1 p.left) (λ r.
    share (next kinds.Mark (codes ")") r.rest (words_of bs) r.left) (λ c.
    record {
      parameters = SomeParameters p.written r.list c.token;
      rest = c.rest;
      made = p.made ∷ r.made;
      fits = (p.fits, r.fits, c.symbol);
      says = rw (p.says, r.says) refl;
      same = rw (p.same, r.same) refl;
      split = p.split ∙ ap (spell_parameter p.written) (r.split ∙ ap (spell_each (spell_next spell_parameter) r.list) c.split);
      left = c.left;
    })))

-- The result of a function: a type alone, or a pointer.
base_const : (ty : CType) → IsNoArray ty → is_base_const ty ≡ has_const ty false
base_const ctypes.Void n = refl
base_const (ctypes.Int t) n = refl
base_const ctypes.M128 n = refl
base_const ctypes.M256 n = refl
base_const (ctypes.Neon l wide) n = refl
base_const ctypes.Pair n = refl
base_const (ctypes.Pointer p base) n = refl
base_const (ctypes.Array p m base) n = absurd n

good_any : (ty : CType) (c d : Bool) → IsNoArray ty → GoodObjectType ty c → GoodObjectType ty d
good_any ctypes.Void c d n g = g
good_any (ctypes.Int t) c d n g = g
good_any ctypes.M128 c d n g = g
good_any ctypes.M256 c d n g = g
good_any (ctypes.Neon l wide) c d n g = g
good_any ctypes.Pair c d n g = g
good_any (ctypes.Pointer p base) c d n g = g
good_any (ctypes.Array p m base) c d n g = absurd n

result_again : (w : Specifiers) (ty : CType) → IsNoArray ty → object_type w (star_of ty false) Single ≡ object_type w (star_of ty false) (extent_of ty None)
result_again w ty n = ap (object_type w (star_of ty false)) (sym (no_extent ty None n))

-- a function's heading
pub record HeadingRead (f : Definition) (ts : List Token) (bs : List Bit) : Type 0 where
  pub words : List Token
  pub rest : List Token
  pub made : Definition
  pub is : IsHeading Neon words made
  pub same : stripped_definition made ≡ stripped_definition (record f { body = NoStatements })
  pub split : ts ≡ words ++ rest
  pub left : map said rest ≡ words_of bs

whole_heading : List Specifier → Pointing → Token → Token → Parameters → WrittenHeading
whole_heading l p n o ps = record { specifiers = l; pointing = p; name = n; bracket = o; parameters = ps; groups = [] }

heading_stripped : (f : Definition) (p : Place) (x : List ℕ) (t : CType) (params : List Object) (static inline : Bool) → x ≡ f.name → unnumbered t ≡ unnumbered f.result → map stripped_object params ≡ map stripped_object f.params →
    static ≡ f.is_static → inline ≡ f.is_inline →
    stripped_definition (record { place = p; name = x; result = t; params = params; is_static = static; is_inline = inline; body = NoStatements }) ≡ stripped_definition (record f { body = NoStatements })
heading_stripped f p x t params static inline e1 e2 e3 e4 e5 = rw (e1, e2, e3, e4, e5) refl

heading_made : (f : Definition) (t1 t2 t3 t4 : List Token) (b1 b2 b4 : List Bit) (ws vs : List Word) (g : GoodFunction f) (s : Specified f.is_static f.is_inline false None (is_base_const f.result) f.result t1 b1) (p : Pointed f.result false t2 b2)
    (n : Next kinds.Name f.name t3 ws) (o : Next kinds.Mark (codes "(") n.rest vs) (l : ListRead f.params t4 b4) →
    (made : Definition) × IsHeading Neon (spell_heading (whole_heading s.list p.pointing n.token o.token l.parameters) []) made × (stripped_definition made ≡ stripped_definition (record f { body = NoStatements }))
unfolding whole_heading
heading_made f t1 t2 t3 t4 b1 b2 b4 ws vs g s p n o l =
    share (typed_again s.made.words f.result false None (good_any f.result true false g.no_array g.result) s.base (s.kept ∙ base_const f.result g.no_array)) (λ t. (
      record { place = n.token.place; name = n.token.text; result = t.0; params = l.made; is_static = s.made.is_static; is_inline = s.made.is_inline; body = NoStatements },
      record {
        written = whole_heading s.list p.pointing n.token o.token l.parameters;
        fits = (s.fits, p.fits, n.symbol ∙ g.named.free, o.symbol, l.fits, tt);
        spelled = refl;
        means = rw (s.says, l.says, s.none refl, p.says, result_again s.made.words f.result g.no_array, t.1) refl;
      },
      heading_stripped f n.token.place n.token.text t.0 l.made s.made.is_static s.made.is_inline n.has t.2 l.same s.is_static s.is_inline,
    ))

pub heading_read : (f : Definition) (bs : List Bit) (ts : List Token) → GoodFunction f → map said ts ≡ words_of (heading_bits f bs) → HeadingRead f ts bs
unfolding whole_heading
heading_read f bs ts g e =
    share (specified_read f.is_static f.is_inline false None (is_base_const f.result) f.result true (space (star_bits f.result false (name f.name (mark (codes "(") (parameters_bits f.params (mark (codes ")") (space bs))))))) ts tt g.result e) (λ s.
    share (star_read f.result false (name f.name (mark (codes "(") (parameters_bits f.params (mark (codes ")") (space bs))))) s.rest s.left) (λ p.
    share (next_name f.name (mark (codes "(") (parameters_bits f.params (mark (codes ")") (space bs)))) p.rest g.named.named p.left) (λ n.
    share (next kinds.Mark (codes "(") n.rest (words_of (parameters_bits f.params (mark (codes ")") (space bs)))) n.left) (λ o.
    share (parameters_read f.params (space bs) o.rest g.params o.left) (λ l.
    share (heading_made f ts s.rest p.rest o.rest (space (star_bits f.result false (name f.name (mark (codes "(") (parameters_bits f.params (mark (codes ")") (space bs))))))) (name f.name (mark (codes "(") (parameters_bits f.params (mark (codes ")") (space bs)))))
    (space bs) (words_of (mark (codes "(") (parameters_bits f.params (mark (codes ")") (space bs))))) (words_of (parameters_bits f.params (mark (codes ")") (space bs)))) g s p n o l) (λ m.
    record {
      words = spell_heading (whole_heading s.list p.pointing n.token o.token l.parameters) [];
      rest = l.rest;
      made = m.0;
      is = m.1;
      same = m.2;
      split = s.split ∙ ap (spell_each spell_specifier s.list) (p.split ∙ ap (spell_pointing p.pointing) (n.split ∙ ap (λ u. n.token ∷ u) (o.split ∙ ap (λ u. o.token ∷ u) l.split))) ∙
          sym (heading_more (whole_heading s.list p.pointing n.token o.token l.parameters) l.rest);
      left = l.left;
    }))))))

-- an object at file scope
pub record TableRead (d : Object) (static : Bool) (ts : List Token) (bs : List Bit) : Type 0 where
  pub words : List Token
  pub rest : List Token
  pub made : Object
  pub is : IsObject Neon words (made, static)
  pub same : stripped_object made ≡ stripped_object d
  pub split : ts ≡ words ++ rest
  pub left : map said rest ≡ words_of bs

whole_table : List Specifier → WrittenObject → Token → WrittenTable
whole_table l o t = record { specifiers = l; only = o; semicolon = t }

table_made : (d : Object) (static : Bool) (t1 t2 : List Token) (b1 b2 : List Bit) (n : Token) → Is Neon Semicolon n → HasValue d → (s : Specified static false true d.align (has_const d.ty d.constant) d.ty t1 b1) (o : ObjectRead true d t2 b2) →
    (made : Object) × IsObject Neon (spell_table (whole_table s.list o.written n) []) (made, static) × (stripped_object made ≡ stripped_object d)
unfolding whole_table
table_made d static t1 t2 b1 b2 n is value s o =
    share (o.again s.made (record { base = s.base; constant = s.kept; aligned = s.same; unaligned = s.none })) (λ a. (
      a.made,
      record { written = whole_table s.list o.written n; fits = (s.fits, o.fits, is); spelled = refl; means = rw (s.says, s.is_inline, a.says, a.valued, value, s.is_static) refl },
      a.same,
    ))

pub table_read : (d : Object) (static : Bool) (bs : List Bit) (ts : List Token) → GoodObject d → HasValue d → map said ts ≡ words_of (static_bits static (declaration_bits (d ∷ []) (mark (codes ";") bs))) → TableRead d static ts bs
unfolding whole_table
table_read d static bs ts g value e =
    share (specified_read static false true d.align (has_const d.ty d.constant) d.ty d.constant (space (declared_bits true d (mark (codes ";") bs))) ts g.align g.typed e) (λ s.
    share (object_read true d (mark (codes ";") bs) s.rest g s.left) (λ o.
    share (next kinds.Mark (codes ";") o.rest (words_of bs) o.left) (λ n.
    share (table_made d static ts s.rest (space (declared_bits true d (mark (codes ";") bs))) (mark (codes ";") bs) n.token n.symbol value s o) (λ m.
    record {
      words = spell_table (whole_table s.list o.written n.token) [];
      rest = n.rest;
      made = m.0;
      is = m.1;
      same = m.2;
      split = s.split ∙ ap (spell_each spell_specifier s.list) (o.split ∙ ap (spell_object o.written) n.split) ∙ sym (table_more (whole_table s.list o.written n.token) n.rest);
      left = n.left;
    }))))

-- functions and tables
pub record ItemRead (x : External) (ts : List Token) (bs : List Bit) : Type 0 where
  pub item : Item
  pub made : External
  pub rest : List Token
  pub is : IsItem Neon item
  pub means : (others : List Item) → tree_items (item ∷ others) ≡ made ∷ tree_items others
  pub same : stripped_external made ≡ stripped_external x
  pub split : ts ≡ spell_item item rest
  pub left : map said rest ≡ words_of bs

function_stripped : (f h : Definition) (body : Statements) → stripped_definition h ≡ stripped_definition (record f { body = NoStatements }) → stripped_statements body ≡ stripped_statements f.body →
    stripped_external (Function (with_body h body)) ≡ stripped_external (Function f)
function_stripped f h body e1 e2 = ap Function (ap {A = Definition} (λ d. record d { body = stripped_statements body }) e1 ∙ ap {A = Statements} (λ b. record (stripped_definition f) { body = b }) e2)

pub item_read : Alike → (x : External) (bs : List Bit) (ts : List Token) → GoodItem x → map said ts ≡ words_of (item_bits x bs) → ItemRead x ts bs
item_read alike (Function f) bs ts g e =
    share (heading_read f (opened_bits (statements_bits 1 f.body (mark (codes "}") (line_end bs)))) ts g e) (λ h.
    share (next kinds.Mark (codes "{") h.rest (words_of (statements_bits 1 f.body (mark (codes "}") (line_end bs)))) h.left) (λ o.
    share (statements_read alike 1 f.body 0 (line_end bs) o.rest g.body o.left) (λ b.
    record {
      item = items.Function h.words h.made o.token b.written;
      made = Function (with_body h.made (tree_all b.written));
      rest = b.rest;
      is = (h.is, o.symbol, b.fits);
      means = λ others. refl;
      same = function_stripped f h.made (tree_all b.written) h.same b.same;
      split = h.split ∙ ap (λ u. h.words ++ u) (o.split ∙ ap (λ u. o.token ∷ u) b.split);
      left = b.left;
    })))
item_read alike (Table d static) bs ts g e =
    share (table_read d static (line_end bs) ts g.0 g.1 e) (λ t.
    record {
      item = items.Table t.words t.made static;
      made = Table t.made static;
      rest = t.rest;
      is = t.is;
      means = λ others. refl;
      same = ap (λ o. Table o static) t.same;
      split = t.split;
      left = t.left;
    })

-- all of the tokens are the unit
pub record UnitRead (xs : List External) (ts : List Token) : Type 0 where
  pub list : List Item
  pub made : List External
  pub fits : Each (IsItem Neon) list
  pub split : ts ≡ spell_each spell_item list []
  pub means : tree_items list ≡ made
  pub same : map stripped_external made ≡ map stripped_external xs

no_tokens : (ts : List Token) → map said ts ≡ [] → ts ≡ []
no_tokens [] e = refl
no_tokens (t ∷ ts) e = absurd (cc)

pub items_read : Alike → (xs : List External) (ts : List Token) → GoodUnit xs → map said ts ≡ words_of (items_bits xs []) → UnitRead xs ts
items_read alike [] ts g e = record { list = []; made = []; fits = tt; split = no_tokens ts e; means = refl; same = refl }
items_read alike (x ∷ xs) ts g e =
    share (item_read alike x (items_bits xs []) ts g.0 e) (λ i.
    share (items_read alike xs i.rest g.1 i.left) (λ r.
    record {
      list = i.item ∷ r.list;
      made = i.made ∷ r.made;
      fits = (i.is, r.fits);
      split = i.split ∙ ap (spell_item i.item) r.split;
      means = i.means r.list ∙ ap (λ u. i.made ∷ u) r.means;
      same = rw (i.same, r.same) refl;
    }))

pub unit_read : Alike → (xs : List External) (ts : List Token) → GoodUnit xs → map said ts ≡ words_of (items_bits xs []) → (made : List External) × IsUnit Neon ts made × (map stripped_external made ≡ map stripped_external xs)
unit_read alike xs ts g e = share (items_read alike xs ts g e) (λ r. (r.made, record { written = r.list; fits = r.fits; spelled = r.split; means = r.means }, r.same))
