-- What is read can be written as it is read.
use Rattle.std.proofs.Common.{◌≡◌, ℕ, ◌+◌, ◌<◌, List, [], ◌∷◌, Bool, true, false, cond, Option, Some, None, sym, ap, subst, arith}
use Rattle.std.specs.Prelude.{codes, bytes_eq, unwrap_or, ◌||◌, ◌&&◌, ◌==◌}
use Rattle.std.specs.Map.{lookup}
use Rattle.std.specs.List.{list_any}
use Rattle.c_text.specs.declared.tokens.Dialect.TheVariants.{Neon}
use Rattle.c_text.specs.declared.tokens.Token.{Token}
use Rattle.c_text.specs.declared.tokens.TokenKind.{TokenKind}
use Rattle.c_text.specs.declared.tokens.TokenKind.TheVariants as kinds
use Rattle.c_text.specs.declared.tokens.Place.{Place}
use Rattle.lane_core.specs.declared.number.BinOp.{BinOp}
use Rattle.lane_core.specs.declared.number.BinOp.TheVariants as ops
use Rattle.lane_core.specs.declared.number.IntType.{IntType}
use Rattle.lane_core.specs.declared.vector.Pointee.{Pointee}
use Rattle.lane_core.specs.declared.vector.Pointee.TheVariants as pointees
use Rattle.c_tree.specs.declared.types.CType.{CType}
use Rattle.c_tree.specs.declared.types.CType.TheVariants as ctypes
use Rattle.c_tree.specs.Tree.{Tree, Kind}
use Rattle.c_parse.specs.declared.symbols.Infix.{Infix}
use Rattle.c_parse.specs.declared.symbols.Infix.TheVariants as infixes
use Rattle.c_parse.specs.declared.symbols.Part.TheVariants as parts
use Rattle.c_parse.specs.declared.symbols.Symbol.{Symbol}
use Rattle.c_parse.specs.declared.symbols.Symbol.TheVariants as symbols
use Rattle.c_parse.specs.declared.symbols.TypeWord.{TypeWord}
use Rattle.c_parse.specs.declared.symbols.TypeWord.TheVariants as words
use Rattle.c_parse.specs.declared.types.Specifiers.{Specifiers}
use Rattle.c_tree.specs.Vectors.{neon_vectors}
use Rattle.c_parse.specs.Symbols.{infix_marks, assignment_marks, other_marks, or_symbol, mark_symbol, type_words, vector_symbol, other_words, statement_words, keywords, later_keywords, name_symbol, symbol_in, symbol_of}
use Rattle.c_parse.specs.Types.{counted, integer_of, integer_type, base_of, pointer_to}
use Rattle.c_parse.specs.Reading.{or_else, front, level_of, prefix_of, half_in, node, infix_kind, specify, specifiers_front, no_specifiers, is_star, past_qualifiers, behind, with_rest, type_front}
use Rattle.c_parse.specs.Grammar as Grammar
use Rattle.c_parse.specs.Grammar.{Written, Tail, End, Then, Constant, Named, Bare, Call, Brackets, Pair, Half, Index, After, Before, Prefix, Cast, Between, Choice, Assign, IsName, IsType, Fits, FitAll, tree, comma_tree, trees_of, Expression}
use Rattle.round_trip.specs.Good.{GoodName, GoodPointee, GoodType, GoodAssignment, Good, GoodAll}
use Rattle.round_trip.specs.Printable.{WritableName, PointeeHasNoChar, HasNoChar, Writable, WritableAll}
use Rattle.round_trip.proofs.NumeralsGood.{constant_good}

-- what holds for all the values in a list of pairs, and for another value, holds for what is found in the list, or else for the other
abbrev AllValues : {A : Type 0} → (A → Type 0) → List (List ℕ × A) → Type 0
AllValues P [] = Unit {0}
AllValues P (x ∷ xs) = P x.1 × AllValues P xs

pub found : {A : Type 0} (P : Symbol → Type 0) (f : A → Symbol) (test : List ℕ → Bool) (xs : List (List ℕ × A)) (d : Symbol) → AllValues (λ a. P (f a)) xs → P d → P (or_symbol (lookup test xs) f d)
found P f test [] d all h = h
found {A} P f test (x ∷ xs) d all h = go (test x.0) (found P f test xs d all.1 h)
  where
    go : (b : Bool) → P (or_symbol (lookup test xs) f d) → P (or_symbol (cond b (Some x.1) (lookup test xs)) f d)
    go true more = all.0
    go false more = more

found_or : (P : Symbol → Type 0) (test : List ℕ → Bool) (xs : List (List ℕ × Symbol)) (d : Symbol) → AllValues P xs → P d → P (unwrap_or (lookup test xs) d)
found_or P test [] d all h = h
found_or P test (x ∷ xs) d all h = go (test x.0) (found_or P test xs d all.1 h)
  where
    go : (b : Bool) → P (unwrap_or (lookup test xs) d) → P (unwrap_or (cond b (Some x.1) (lookup test xs)) d)
    go true more = all.0
    go false more = more

-- an assignment with an operator that may stand in it (C11 6.5.16), or no assignment
abbrev Unassigned : Symbol → Type 0
Unassigned (symbols.Assign op) = GoodAssignment op
Unassigned m = Unit {0}

-- anything but a name
abbrev Unnamed : Symbol → Type 0
Unnamed symbols.Name = ⊥
Unnamed m = Unit {0}

-- a type that specifiers name in the Neon dialect: no vector of Intel's, and neither a pointer nor an array
abbrev pub IsNeonType : CType → Type 0
IsNeonType ctypes.Void = Unit {0}
IsNeonType (ctypes.Int t) = Unit {0}
IsNeonType (ctypes.Neon lane wide) = Unit {0}
IsNeonType ctypes.Pair = Unit {0}
IsNeonType t = ⊥

-- the word of a whole type names such a type
abbrev pub Typed : Symbol → Type 0
Typed (symbols.Type (words.Whole t)) = IsNeonType t
Typed m = Unit {0}

-- A mark is an assignment with an operator that may stand in it, or none; and it is no name.
mark_unassigned : (text : List ℕ) → Unassigned (mark_symbol text)
mark_unassigned text =
    found Unassigned symbols.Infix (bytes_eq text) infix_marks _ _
    (found Unassigned symbols.Assign (bytes_eq text) assignment_marks _ _
    (found_or Unassigned (bytes_eq text) other_marks symbols.Other _ tt))

mark_unnamed : (text : List ℕ) → Unnamed (mark_symbol text)
mark_unnamed text =
    found Unnamed symbols.Infix (bytes_eq text) infix_marks _ _
    (found Unnamed symbols.Assign (bytes_eq text) assignment_marks _ _
    (found_or Unnamed (bytes_eq text) other_marks symbols.Other _ tt))

by_test : (P : Symbol → Type 0) (b : Bool) → P symbols.Other → P symbols.Name → P (cond b symbols.Other symbols.Name)
by_test P true h k = h
by_test P false h k = k

name_unassigned : (text : List ℕ) → Unassigned (name_symbol Neon text)
name_unassigned text =
    found Unassigned (λ s. s) (bytes_eq text) type_words _ _
    (found Unassigned vector_symbol (bytes_eq text) neon_vectors _ _
    (found Unassigned (λ s. s) (bytes_eq text) other_words _ _
    (found Unassigned (λ s. s) (bytes_eq text) statement_words _ _
    (by_test Unassigned (list_any (bytes_eq text) keywords || list_any (bytes_eq text) later_keywords) tt tt))))

-- The word of a whole type is one of the Neon dialect.
name_typed : (text : List ℕ) → Typed (name_symbol Neon text)
name_typed text =
    found Typed (λ s. s) (bytes_eq text) type_words _ _
    (found Typed vector_symbol (bytes_eq text) neon_vectors _ _
    (found Typed (λ s. s) (bytes_eq text) other_words _ _
    (found Typed (λ s. s) (bytes_eq text) statement_words _ _
    (by_test Typed (list_any (bytes_eq text) keywords || list_any (bytes_eq text) later_keywords) tt tt))))

mark_typed : (text : List ℕ) → Typed (mark_symbol text)
mark_typed text =
    found Typed symbols.Infix (bytes_eq text) infix_marks _ _
    (found Typed symbols.Assign (bytes_eq text) assignment_marks _ _
    (found_or Typed (bytes_eq text) other_marks symbols.Other _ tt))

unassigned : (k : TokenKind) (text : List ℕ) → Unassigned (symbol_in Neon k text)
unassigned kinds.Name text = name_unassigned text
unassigned kinds.Number text = tt
unassigned kinds.Quote text = tt
unassigned kinds.Str text = tt
unassigned kinds.Mark text = mark_unassigned text
unassigned kinds.Lone text = tt

typed : (k : TokenKind) (text : List ℕ) → Typed (symbol_in Neon k text)
typed kinds.Name text = name_typed text
typed kinds.Number text = tt
typed kinds.Quote text = tt
typed kinds.Str text = tt
typed kinds.Mark text = mark_typed text
typed kinds.Lone text = tt

-- only a name has a name's symbol
is_free : (k : TokenKind) (text : List ℕ) → symbol_in Neon k text ≡ symbols.Name → name_symbol Neon text ≡ symbols.Name
is_free kinds.Name text e = e
is_free kinds.Number text e = absurd (cc)
is_free kinds.Quote text e = absurd (cc)
is_free kinds.Str text e = absurd (cc)
is_free kinds.Mark text e = absurd (subst Unnamed e (mark_unnamed text))
is_free kinds.Lone text e = absurd (cc)

pub good_name : (t : Token) → IsName Neon t → WritableName t.text → GoodName t.text
unfolding symbol_of
good_name t is w = record { named = w.named; free = is_free t.kind t.text is; no_macro = w.no_macro }

good_assignment : (t : Token) (op : Option BinOp) → symbol_of Neon t ≡ symbols.Assign op → GoodAssignment op
unfolding symbol_of
good_assignment t op e = subst Unassigned e (unassigned t.kind t.text)

pub typed_token : (t : Token) → Typed (symbol_of Neon t)
unfolding symbol_of
typed_token t = typed t.kind t.text

-- which half of a pair
small : (k : TokenKind) (text : List ℕ) (n : ℕ) → half_in k text ≡ Some n → n < 2
small kinds.Name text n e = absurd (cc)
small kinds.Number text n e = go (bytes_eq text (codes "0")) (bytes_eq text (codes "1")) e
  where
    value : (m : ℕ) → ◌≡◌ {A = Option ℕ} (Some m) (Some n) → m ≡ n
    value m e = cc

    go : (b c : Bool) → cond b (Some 0) (cond c (Some 1) None) ≡ Some n → n < 2
    go true c e = subst (λ m. m < 2) (value 0 e) (omega arith)
    go false true e = subst (λ m. m < 2) (value 1 e) (omega arith)
    go false false e = absurd (cc)
small kinds.Quote text n e = absurd (cc)
small kinds.Str text n e = absurd (cc)
small kinds.Mark text n e = absurd (cc)
small kinds.Lone text n e = absurd (cc)

-- Types that are read are types of the Neon dialect.
counted_whole : (s : Specifiers) (w : TypeWord) → IsNeonType s.whole → Typed (symbols.Type w) → IsNeonType (counted s w).whole
counted_whole s (words.Part parts.Char) h t = h
counted_whole s (words.Part parts.Short) h t = h
counted_whole s (words.Part parts.Int) h t = h
counted_whole s (words.Part parts.Long) h t = h
counted_whole s (words.Part parts.Signed) h t = h
counted_whole s (words.Part parts.Unsigned) h t = h
counted_whole s (words.Whole u) h t = t

-- the specifiers, if there are any, name a type of the Neon dialect where they name a whole one
abbrev pub WholeIn : Option Specifiers → Type 0
WholeIn None = Unit {0}
WholeIn (Some s) = IsNeonType s.whole

pub specify_whole : (s : Specifiers) (m : Symbol) → IsNeonType s.whole → Typed m → WholeIn (specify s m)
specify_whole s (symbols.Sign x) h t = tt
specify_whole s (symbols.Infix op) h t = tt
specify_whole s (symbols.Assign op) h t = tt
specify_whole s (symbols.Step up) h t = tt
specify_whole s symbols.Tilde h t = tt
specify_whole s symbols.Exclamation h t = tt
specify_whole s (symbols.Type w) h t = counted_whole s w h t
specify_whole s symbols.Const h t = h
specify_whole s symbols.Restrict h t = tt
specify_whole s (symbols.Word w) h t = tt
specify_whole s symbols.Name h t = tt
specify_whole s symbols.Constant h t = tt
specify_whole s symbols.Other h t = tt

front_whole : (ts : List Token) (s : Specifiers) → IsNeonType s.whole → IsNeonType (specifiers_front Neon s ts).0.whole
front_whole [] s h = h
front_whole (t ∷ ts) s h = go (specify s (symbol_of Neon t)) (specify_whole s (symbol_of Neon t) h (typed_token t)) (front_whole ts)
  where
    go : (o : Option Specifiers) → WholeIn o → ((r : Specifiers) → IsNeonType r.whole → IsNeonType (specifiers_front Neon r ts).0.whole) → IsNeonType (or_else o (λ r. specifiers_front Neon r ts) (s, t ∷ ts)).0.whole
    go None w more = h
    go (Some r) w more = more r w

-- the type, if there is one, is of the Neon dialect
abbrev pub BaseIn : Option CType → Type 0
BaseIn None = Unit {0}
BaseIn (Some t) = IsNeonType t

pub base_in : (s : Specifiers) → IsNeonType s.whole → BaseIn (base_of s)
base_in s h = go (s.wholes == 0) (s.wholes == 1 && (s.char == 0 && s.short == 0 && s.int == 0 && s.long == 0) && s.signed == 0 && s.unsigned == 0) (integer_of s)
  where
    go : (b c : Bool) (o : Option IntType) → BaseIn (cond b (integer_type o) (cond c (Some s.whole) None))
    go true c None = tt
    go true c (Some t) = tt
    go false true o = h
    go false false o = tt

-- a pointer to `void` or to an integer type
abbrev pub IsReadPointee : Pointee → Type 0
IsReadPointee pointees.Void = Unit {0}
IsReadPointee (pointees.Int t) = Unit {0}
IsReadPointee p = ⊥

abbrev IsReadPointer : CType → Type 0
IsReadPointer (ctypes.Pointer p constant) = IsReadPointee p
IsReadPointer t = ⊥

abbrev PointerIn : Option CType → Type 0
PointerIn None = Unit {0}
PointerIn (Some t) = IsReadPointer t

pub pointer_in : (o : Option CType) (constant : Bool) → BaseIn o → PointerIn (pointer_to o constant)
pointer_in None constant h = tt
pointer_in (Some ctypes.Void) constant h = tt
pointer_in (Some (ctypes.Int t)) constant h = tt
pointer_in (Some ctypes.M128) constant h = absurd h
pointer_in (Some ctypes.M256) constant h = absurd h
pointer_in (Some (ctypes.Neon lane wide)) constant h = tt
pointer_in (Some ctypes.Pair) constant h = tt
pointer_in (Some (ctypes.Pointer p c)) constant h = absurd h
pointer_in (Some (ctypes.Array p n c)) constant h = absurd h

-- a type's name can be written where it has no `char`
good_base : (t : CType) → IsNeonType t → HasNoChar t → GoodType t
good_base ctypes.Void h w = tt
good_base (ctypes.Int t) h w = w
good_base ctypes.M128 h w = absurd h
good_base ctypes.M256 h w = absurd h
good_base (ctypes.Neon lane wide) h w = tt
good_base ctypes.Pair h w = tt
good_base (ctypes.Pointer p constant) h w = absurd h
good_base (ctypes.Array p n constant) h w = absurd h

pub good_pointee : (p : Pointee) → IsReadPointee p → PointeeHasNoChar p → GoodPointee p
good_pointee pointees.Void h w = tt
good_pointee (pointees.Int t) h w = w
good_pointee pointees.M128 h w = absurd h
good_pointee pointees.M256 h w = absurd h

good_pointer : (t : CType) → IsReadPointer t → HasNoChar t → GoodType t
good_pointer ctypes.Void h w = absurd h
good_pointer (ctypes.Int t) h w = absurd h
good_pointer ctypes.M128 h w = absurd h
good_pointer ctypes.M256 h w = absurd h
good_pointer (ctypes.Neon lane wide) h w = absurd h
good_pointer ctypes.Pair h w = absurd h
good_pointer (ctypes.Pointer p constant) h w = good_pointee p h w
good_pointer (ctypes.Array p n constant) h w = absurd h

abbrev type_in : Option (CType × List Token) → Option CType
type_in None = None
type_in (Some x) = Some x.0

pub same_type : (t u : CType) → ◌≡◌ {A = Option CType} (Some t) (Some u) → t ≡ u
same_type t u e = cc

good_cast : (ts : List Token) (ty : CType) → IsType Neon ts ty → HasNoChar ty → GoodType ty
unfolding type_front
good_cast ts ty e w =
    let r = specifiers_front Neon no_specifiers ts in
    let base : BaseIn (base_of r.0) = base_in r.0 (front_whole ts no_specifiers tt) in
    go (is_star (front Neon r.1)) (pointer_to (base_of r.0) r.0.constant) (base_of r.0) (past_qualifiers Neon (behind r.1)) r.1 (pointer_in (base_of r.0) r.0.constant base) base e
  where
    go : (b : Bool) (o q : Option CType) (us vs : List Token) → PointerIn o → BaseIn q → cond b (with_rest o us) (with_rest q vs) ≡ Some (ty, []) → GoodType ty
    go true None q us vs h k e = absurd (cc)
    go true (Some t) q us vs h k e = let same : t ≡ ty = same_type t ty (ap type_in e) in good_pointer ty (subst IsReadPointer same h) w
    go false o None us vs h k e = absurd (cc)
    go false o (Some t) us vs h k e = let same : t ≡ ty = same_type t ty (ap type_in e) in good_base ty (subst IsNeonType same k) w

-- an operator before its operand makes something good of something good
abbrev Keeps : Option (Tree → Kind) → Type 0
Keeps None = Unit {0}
Keeps (Some op) = (p : Place) (a : Tree) → (Writable a → Good a) → Writable (node p (op a)) → Good (node p (op a))

prefix_keeps : (m : Symbol) → Keeps (prefix_of m)
prefix_keeps (symbols.Sign s) = tt
prefix_keeps (symbols.Infix (infixes.Operator ops.Mul)) = λ p a g. g
prefix_keeps (symbols.Infix (infixes.Operator ops.Div)) = tt
prefix_keeps (symbols.Infix (infixes.Operator ops.Rem)) = tt
prefix_keeps (symbols.Infix (infixes.Operator ops.Add)) = λ p a g. g
prefix_keeps (symbols.Infix (infixes.Operator ops.Sub)) = λ p a g. g
prefix_keeps (symbols.Infix (infixes.Operator ops.Shl)) = tt
prefix_keeps (symbols.Infix (infixes.Operator ops.Shr)) = tt
prefix_keeps (symbols.Infix (infixes.Operator ops.Lt)) = tt
prefix_keeps (symbols.Infix (infixes.Operator ops.Gt)) = tt
prefix_keeps (symbols.Infix (infixes.Operator ops.Le)) = tt
prefix_keeps (symbols.Infix (infixes.Operator ops.Ge)) = tt
prefix_keeps (symbols.Infix (infixes.Operator ops.Eq)) = tt
prefix_keeps (symbols.Infix (infixes.Operator ops.Ne)) = tt
prefix_keeps (symbols.Infix (infixes.Operator ops.BitAnd)) = λ p a g. g
prefix_keeps (symbols.Infix (infixes.Operator ops.BitXor)) = tt
prefix_keeps (symbols.Infix (infixes.Operator ops.BitOr)) = tt
prefix_keeps (symbols.Infix infixes.AndThen) = tt
prefix_keeps (symbols.Infix infixes.OrElse) = tt
prefix_keeps (symbols.Assign op) = tt
prefix_keeps (symbols.Step up) = tt
prefix_keeps symbols.Tilde = λ p a g. g
prefix_keeps symbols.Exclamation = λ p a g. g
prefix_keeps (symbols.Type w) = tt
prefix_keeps symbols.Const = tt
prefix_keeps symbols.Restrict = tt
prefix_keeps (symbols.Word w) = tt
prefix_keeps symbols.Name = tt
prefix_keeps symbols.Constant = tt
prefix_keeps symbols.Other = tt

good_prefix : (m : Symbol) (op : Tree → Kind) → prefix_of m ≡ Some op → (p : Place) (a : Tree) → (Writable a → Good a) → Writable (node p (op a)) → Good (node p (op a))
good_prefix m op e = subst Keeps e (prefix_keeps m)

good_infix : (op : Infix) (p : Place) (a b : Tree) → (Writable a → Good a) → (Writable b → Good b) → Writable (node p (infix_kind op a b)) → Good (node p (infix_kind op a b))
good_infix (infixes.Operator op) p a b g h w = (g w.0, h w.1)
good_infix infixes.AndThen p a b g h w = (g w.0, h w.1)
good_infix infixes.OrElse p a b g h w = (g w.0, h w.1)

-- What the grammar reads as an expression can be written as it is read.
mutual
  pub good_written : (e : Written) (l : ℕ) → Fits Neon l e → Writable (tree e) → Good (tree e)
  good_written (Constant t c) l f w = constant_good t c f
  good_written (Named t) l f w = good_name t f w
  good_written (Bare g o c) l f w = (good_name g f.0 w.0, tt)
  good_written (Call g o a rest c) l f w = (good_name g f.0 w.0, (good_written a 1 f.2 w.1.0, good_tail rest f.3 w.1.1))
  good_written (Brackets o a rest c) l f w = good_comma rest (tree a) f.2 (good_written a 1 f.1) w
  good_written (Pair o x c b1 b2 a m b e1 e2) l f w = (good_written a 1 f.5 w.0, good_written b 1 f.7 w.1)
  good_written (Half a o v s n k c) l f w = (good_written a 17 f.1 w, small n.kind n.text k f.8)
  good_written (Index a o b rest c) l f w = (good_written a 17 f.1 w.0, good_comma rest (tree b) f.4 (good_written b 1 f.3) w.1)
  good_written (After a t up) l f w = good_written a 16 f.1 w
  good_written (Before t up a) l f w = good_written a 14 f.2 w
  good_written (Prefix t op a) l f w = good_prefix (symbol_of Neon t) op f.1 t.place (tree a) (good_written a 13 f.2) w
  good_written (Grammar.SizeOfType s o ws ty c) l f w = absurd w
  good_written (Grammar.SizeOfName s x) l f w = absurd w
  good_written (Grammar.SizeOfBracketed s o x c) l f w = absurd w
  good_written (Cast o ws ty c a) l f w = (good_cast ws ty f.2 w.0, good_written a 13 f.4 w.1)
  good_written (Between a t op b) l f w = good_infix op t.place (tree a) (tree b) (good_written a (level_of op) f.1) (good_written b (level_of op + 1) f.3) w
  good_written (Choice a q b rest c e) l f w = (good_written a 3 f.1 w.0, good_comma rest (tree b) f.4 (good_written b 1 f.3) w.1, good_written e 2 f.6 w.2)
  good_written (Assign a t op b) l f w = (good_assignment t op f.2, good_written a 14 f.1 w.0, good_written b 1 f.3 w.1)

  -- expressions behind commas
  pub good_tail : (rest : Tail) → FitAll Neon rest → WritableAll (trees_of rest) → GoodAll (trees_of rest)
  good_tail End f w = tt
  good_tail (Then t a rest) f w = (good_written a 1 f.1 w.0, good_tail rest f.2 w.1)

  -- an expression with those behind commas
  pub good_comma : (rest : Tail) (a : Tree) → FitAll Neon rest → (Writable a → Good a) → Writable (comma_tree a rest) → Good (comma_tree a rest)
  good_comma End a f g w = g w
  good_comma (Then t b rest) a f g w = (tt, (g w.0, (good_written b 1 f.1 w.1.0, good_tail rest f.2 w.1.1)))

-- The same of an expression with commas.
pub good_expression : (ts : List Token) (e : Tree) → Expression Neon ts e → Writable e → Good e
good_expression ts e x w = subst Good x.means (good_comma x.others (tree x.first) x.fits.1 (good_written x.first 1 x.fits.0) (subst Writable (sym x.means) w))
