-- What the grammar of the x86 dialect reads as an expression (C11 6.5).
use Rattle.std.proofs.Common.{◌≡◌, ℕ, ◌+◌, List, [], ◌∷◌, Bool, true, false, cond, Option, Some, None, sym, subst}
use Rattle.std.specs.Prelude.{bytes_eq, unwrap_or, ◌||◌}
use Rattle.std.specs.Map.{lookup}
use Rattle.std.specs.List.{list_any}
use Rattle.c_text.specs.declared.tokens.Dialect.TheVariants.{X86}
use Rattle.c_text.specs.declared.tokens.Token.{Token}
use Rattle.c_text.specs.declared.tokens.TokenKind.{TokenKind}
use Rattle.c_text.specs.declared.tokens.TokenKind.TheVariants as kinds
use Rattle.c_text.specs.declared.tokens.Place.{Place}
use Rattle.lane_core.specs.declared.number.BinOp.{BinOp}
use Rattle.lane_core.specs.declared.number.BinOp.TheVariants as ops
use Rattle.c_tree.specs.Tree.{Tree, Kind}
use Rattle.c_tree.specs.Vectors.{x86_vectors}
use Rattle.c_parse.specs.declared.symbols.Infix.{Infix}
use Rattle.c_parse.specs.declared.symbols.Infix.TheVariants as infixes
use Rattle.c_parse.specs.declared.symbols.Symbol.{Symbol}
use Rattle.c_parse.specs.declared.symbols.Symbol.TheVariants as symbols
use Rattle.c_parse.specs.Symbols.{infix_marks, assignment_marks, other_marks, or_symbol, mark_symbol, type_words, vector_symbol, other_words, statement_words, keywords, later_keywords, name_symbol, symbol_in, symbol_of}
use Rattle.c_parse.specs.Reading.{level_of, prefix_of, node, infix_kind}
use Rattle.c_parse.specs.Grammar as Grammar
use Rattle.c_parse.specs.Grammar.{Written, Tail, End, Then, Constant, Named, Bare, Call, Brackets, Pair, Half, Index, After, Before, Prefix, Cast, Between, Choice, Assign, IsName, Fits, FitAll, tree, comma_tree, trees_of, Expression}
use Rattle.round_trip.specs.Good.{GoodAssignment}
use Rattle.read_units.specs.Read.{ReadName, Read, ReadAll}
use Rattle.read_units.proofs.Names.{IsNamed, HasNames, AllHaveNames}
use Rattle.read_units.proofs.Numerals.{constant_read}

-- what holds for all the values in a list of pairs, and for another value, holds for what is found in the list, or else for the other
abbrev AllValues : {A : Type 0} → (A → Type 0) → List (List ℕ × A) → Type 0
AllValues P [] = Unit {0}
AllValues P (x ∷ xs) = P x.1 × AllValues P xs

pub found : {A : Type 0} (P : Symbol → Type 0) (f : A → Symbol) (test : List ℕ → Bool) (xs : List (List ℕ × A)) (d : Symbol) → AllValues (λ a. P (f a)) xs → P d → P (or_symbol (lookup test xs) f d)
found P f test [] d all h = h
found {A} P f test (x ∷ xs) d all h = go (test x.0) (found P f test xs d all.1 h)
  where
    go : (b : Bool) → P (or_symbol (lookup test xs) f d) → P (or_symbol (cond b (Some x.1) (lookup test xs)) f d)
    go true more = all.0
    go false more = more

pub found_or : (P : Symbol → Type 0) (test : List ℕ → Bool) (xs : List (List ℕ × Symbol)) (d : Symbol) → AllValues P xs → P d → P (unwrap_or (lookup test xs) d)
found_or P test [] d all h = h
found_or P test (x ∷ xs) d all h = go (test x.0) (found_or P test xs d all.1 h)
  where
    go : (b : Bool) → P (unwrap_or (lookup test xs) d) → P (unwrap_or (cond b (Some x.1) (lookup test xs)) d)
    go true more = all.0
    go false more = more

-- an assignment with an operator that may stand in it (C11 6.5.16), or no assignment
abbrev Unassigned : Symbol → Type 0
Unassigned (symbols.Assign op) = GoodAssignment op
Unassigned m = Unit {0}

-- anything but a name
abbrev pub Unnamed : Symbol → Type 0
Unnamed symbols.Name = ⊥
Unnamed m = Unit {0}

-- A mark is an assignment with an operator that may stand in it, or none; and it is no name.
mark_unassigned : (text : List ℕ) → Unassigned (mark_symbol text)
mark_unassigned text =
    found Unassigned symbols.Infix (bytes_eq text) infix_marks _ _
    (found Unassigned symbols.Assign (bytes_eq text) assignment_marks _ _
    (found_or Unassigned (bytes_eq text) other_marks symbols.Other _ tt))

pub mark_unnamed : (text : List ℕ) → Unnamed (mark_symbol text)
mark_unnamed text =
    found Unnamed symbols.Infix (bytes_eq text) infix_marks _ _
    (found Unnamed symbols.Assign (bytes_eq text) assignment_marks _ _
    (found_or Unnamed (bytes_eq text) other_marks symbols.Other _ tt))

pub by_test : (P : Symbol → Type 0) (b : Bool) → P symbols.Other → P symbols.Name → P (cond b symbols.Other symbols.Name)
by_test P true h k = h
by_test P false h k = k

name_unassigned : (text : List ℕ) → Unassigned (name_symbol X86 text)
name_unassigned text =
    found Unassigned (λ s. s) (bytes_eq text) type_words _ _
    (found Unassigned vector_symbol (bytes_eq text) x86_vectors _ _
    (found Unassigned (λ s. s) (bytes_eq text) other_words _ _
    (found Unassigned (λ s. s) (bytes_eq text) statement_words _ _
    (by_test Unassigned (list_any (bytes_eq text) keywords || list_any (bytes_eq text) later_keywords) tt tt))))

unassigned : (k : TokenKind) (text : List ℕ) → Unassigned (symbol_in X86 k text)
unassigned kinds.Name text = name_unassigned text
unassigned kinds.Number text = tt
unassigned kinds.Quote text = tt
unassigned kinds.Str text = tt
unassigned kinds.Mark text = mark_unassigned text
unassigned kinds.Lone text = tt

-- only a name has a name's symbol
is_free : (k : TokenKind) (text : List ℕ) → symbol_in X86 k text ≡ symbols.Name → name_symbol X86 text ≡ symbols.Name
is_free kinds.Name text e = e
is_free kinds.Number text e = absurd (cc)
is_free kinds.Quote text e = absurd (cc)
is_free kinds.Str text e = absurd (cc)
is_free kinds.Mark text e = absurd (subst Unnamed e (mark_unnamed text))
is_free kinds.Lone text e = absurd (cc)

pub read_name : (t : Token) → IsName X86 t → IsNamed t.text → ReadName t.text
unfolding symbol_of
read_name t is w = record { named = w; free = is_free t.kind t.text is }

good_assignment : (t : Token) (op : Option BinOp) → symbol_of X86 t ≡ symbols.Assign op → GoodAssignment op
unfolding symbol_of
good_assignment t op e = subst Unassigned e (unassigned t.kind t.text)

-- an operator before its operand keeps what is read
abbrev Keeps : Option (Tree → Kind) → Type 0
Keeps None = Unit {0}
Keeps (Some op) = (p : Place) (a : Tree) → (HasNames a → Read a) → HasNames (node p (op a)) → Read (node p (op a))

prefix_keeps : (m : Symbol) → Keeps (prefix_of m)
prefix_keeps (symbols.Sign s) = tt
prefix_keeps (symbols.Infix (infixes.Operator ops.Mul)) = λ p a g. g
prefix_keeps (symbols.Infix (infixes.Operator ops.Div)) = tt
prefix_keeps (symbols.Infix (infixes.Operator ops.Rem)) = tt
prefix_keeps (symbols.Infix (infixes.Operator ops.Add)) = λ p a g. g
prefix_keeps (symbols.Infix (infixes.Operator ops.Sub)) = λ p a g. g
prefix_keeps (symbols.Infix (infixes.Operator ops.Shl)) = tt
prefix_keeps (symbols.Infix (infixes.Operator ops.Shr)) = tt
prefix_keeps (symbols.Infix (infixes.Operator ops.Lt)) = tt
prefix_keeps (symbols.Infix (infixes.Operator ops.Gt)) = tt
prefix_keeps (symbols.Infix (infixes.Operator ops.Le)) = tt
prefix_keeps (symbols.Infix (infixes.Operator ops.Ge)) = tt
prefix_keeps (symbols.Infix (infixes.Operator ops.Eq)) = tt
prefix_keeps (symbols.Infix (infixes.Operator ops.Ne)) = tt
prefix_keeps (symbols.Infix (infixes.Operator ops.BitAnd)) = λ p a g. g
prefix_keeps (symbols.Infix (infixes.Operator ops.BitXor)) = tt
prefix_keeps (symbols.Infix (infixes.Operator ops.BitOr)) = tt
prefix_keeps (symbols.Infix infixes.AndThen) = tt
prefix_keeps (symbols.Infix infixes.OrElse) = tt
prefix_keeps (symbols.Assign op) = tt
prefix_keeps (symbols.Step up) = tt
prefix_keeps symbols.Tilde = λ p a g. g
prefix_keeps symbols.Exclamation = λ p a g. g
prefix_keeps (symbols.Type w) = tt
prefix_keeps symbols.Const = tt
prefix_keeps symbols.Restrict = tt
prefix_keeps (symbols.Word w) = tt
prefix_keeps symbols.Name = tt
prefix_keeps symbols.Constant = tt
prefix_keeps symbols.Other = tt

read_prefix : (m : Symbol) (op : Tree → Kind) → prefix_of m ≡ Some op → (p : Place) (a : Tree) → (HasNames a → Read a) → HasNames (node p (op a)) → Read (node p (op a))
read_prefix m op e = subst Keeps e (prefix_keeps m)

read_infix : (op : Infix) (p : Place) (a b : Tree) → (HasNames a → Read a) → (HasNames b → Read b) → HasNames (node p (infix_kind op a b)) → Read (node p (infix_kind op a b))
read_infix (infixes.Operator op) p a b g h w = (g w.0, h w.1)
read_infix infixes.AndThen p a b g h w = (g w.0, h w.1)
read_infix infixes.OrElse p a b g h w = (g w.0, h w.1)

-- What the grammar reads as an expression.
mutual
  pub read_written : (e : Written) (l : ℕ) → Fits X86 l e → HasNames (tree e) → Read (tree e)
  read_written (Constant t c) l f w = constant_read t c f
  read_written (Named t) l f w = read_name t f w
  read_written (Bare g o c) l f w = (read_name g f.0 w.0, tt)
  read_written (Call g o a rest c) l f w = (read_name g f.0 w.0, (read_written a 1 f.2 w.1.0, read_tail rest f.3 w.1.1))
  read_written (Brackets o a rest c) l f w = read_comma rest (tree a) f.2 (read_written a 1 f.1) w
  read_written (Pair o x c b1 b2 a m b e1 e2) l f w = (read_written a 1 f.5 w.0, read_written b 1 f.7 w.1)
  read_written (Half a o v s n k c) l f w = read_written a 17 f.1 w
  read_written (Index a o b rest c) l f w = (read_written a 17 f.1 w.0, read_comma rest (tree b) f.4 (read_written b 1 f.3) w.1)
  read_written (After a t up) l f w = read_written a 16 f.1 w
  read_written (Before t up a) l f w = read_written a 14 f.2 w
  read_written (Prefix t op a) l f w = read_prefix (symbol_of X86 t) op f.1 t.place (tree a) (read_written a 13 f.2) w
  read_written (Grammar.SizeOfType s o ws ty c) l f w = tt
  read_written (Grammar.SizeOfName s x) l f w = read_name x f.2 w
  read_written (Grammar.SizeOfBracketed s o x c) l f w = read_name x f.3 w
  read_written (Cast o ws ty c a) l f w = read_written a 13 f.4 w
  read_written (Between a t op b) l f w = read_infix op t.place (tree a) (tree b) (read_written a (level_of op) f.1) (read_written b (level_of op + 1) f.3) w
  read_written (Choice a q b rest c e) l f w = (read_written a 3 f.1 w.0, read_comma rest (tree b) f.4 (read_written b 1 f.3) w.1, read_written e 2 f.6 w.2)
  read_written (Assign a t op b) l f w = (good_assignment t op f.2, read_written a 14 f.1 w.0, read_written b 1 f.3 w.1)

  -- expressions behind commas
  pub read_tail : (rest : Tail) → FitAll X86 rest → AllHaveNames (trees_of rest) → ReadAll (trees_of rest)
  read_tail End f w = tt
  read_tail (Then t a rest) f w = (read_written a 1 f.1 w.0, read_tail rest f.2 w.1)

  -- an expression with those behind commas
  pub read_comma : (rest : Tail) (a : Tree) → FitAll X86 rest → (HasNames a → Read a) → HasNames (comma_tree a rest) → Read (comma_tree a rest)
  read_comma End a f g w = g w
  read_comma (Then t b rest) a f g w = (tt, (g w.0, (read_written b 1 f.1 w.1.0, read_tail rest f.2 w.1.1)))

-- The same of an expression with commas.
pub read_expression : (ts : List Token) (e : Tree) → Expression X86 ts e → HasNames e → Read e
read_expression ts e x w = subst Read x.means (read_comma x.others (tree x.first) x.fits.1 (read_written x.first 1 x.fits.0) (subst HasNames (sym x.means) w))
