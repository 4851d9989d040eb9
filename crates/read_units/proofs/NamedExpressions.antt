-- The names in an expression of the grammar are names of C (C11 6.4.2.1), where those of its tokens are, as those of lexed tokens are.
use Rattle.std.proofs.Common.{◌≡◌, ℕ, ◌+◌, List, [], ◌∷◌, ◌++◌, Bool, true, false, cond, Option, Some, None, refl, subst}
use Rattle.std.specs.Prelude.{ℤ, pos, negsuc, nat_le, option_map}
use Rattle.c_text.specs.declared.tokens.Dialect.TheVariants.{X86}
use Rattle.c_text.specs.declared.tokens.Token.{Token}
use Rattle.c_text.specs.declared.tokens.TokenKind.{TokenKind}
use Rattle.c_text.specs.declared.tokens.TokenKind.TheVariants as kinds
use Rattle.c_text.specs.declared.tokens.Place.{Place}
use Rattle.c_text.specs.Tokens.{AllNamed}
use Rattle.lane_core.specs.declared.number.BinOp.TheVariants as ops
use Rattle.lane_core.specs.declared.number.IntType.{IntType}
use Rattle.lane_core.specs.declared.number.IntType.TheVariants.{Int}
use Rattle.lane_core.specs.declared.number.Num.{Num}
use Rattle.c_constants.specs.Constant.{constant_of}
use Rattle.c_tree.specs.Tree.{Tree, Kind}
use Rattle.c_parse.specs.declared.symbols.Infix.{Infix}
use Rattle.c_parse.specs.declared.symbols.Infix.TheVariants as infixes
use Rattle.c_parse.specs.declared.symbols.Symbol.{Symbol}
use Rattle.c_parse.specs.declared.symbols.Symbol.TheVariants as symbols
use Rattle.c_parse.specs.Symbols.{symbol_in, symbol_of}
use Rattle.c_parse.specs.Reading.{◌>>=◌, level_of, prefix_of, node, infix_kind, number, signed_tree, constant_tree, constant_at}
use Rattle.c_parse.specs.Grammar as Grammar
use Rattle.c_parse.specs.Grammar.{Written, Tail, End, Then, Constant, Named, Bare, Call, Brackets, Pair, Half, Index, After, Before, Prefix, Cast, Between, Choice, Assign, IsName, Fits, FitAll, spell, spell_tail, tree, comma_tree, trees_of, Expression}
use Rattle.read_units.proofs.Names.{IsNamed, HasNames, AllHaveNames}
use Rattle.read_units.proofs.ReadExpressions.{Unnamed, mark_unnamed}

-- a name's token
kind_named : (k : TokenKind) (text : List ℕ) → symbol_in X86 k text ≡ symbols.Name → k ≡ kinds.Name
kind_named kinds.Name text e = refl
kind_named kinds.Number text e = absurd (cc)
kind_named kinds.Quote text e = absurd (cc)
kind_named kinds.Str text e = absurd (cc)
kind_named kinds.Mark text e = absurd (subst Unnamed e (mark_unnamed text))
kind_named kinds.Lone text e = absurd (cc)

pub token_named : (t : Token) → IsName X86 t → (t.kind ≡ kinds.Name → IsNamed t.text) → IsNamed t.text
unfolding symbol_of
token_named t is h = h (kind_named t.kind t.text is)

pub behind_words : (words ts : List Token) → AllNamed (words ++ ts) → AllNamed ts
behind_words [] ts h = h
behind_words (t ∷ words) ts h = behind_words words ts h.1

pub front_words : (words ts : List Token) → AllNamed (words ++ ts) → AllNamed words
front_words [] ts h = tt
front_words (t ∷ words) ts h = (h.0, front_words words ts h.1)

-- a constant has no names
same_tree : (a b : Tree) → Some a ≡ Some b → a ≡ b
same_tree a b e = cc

signed_names : (b : Bool) (p : Place) (o : Option Num) (c : Tree) → option_map (signed_tree b p) o ≡ Some c → HasNames c
signed_names b p None c e = absurd (cc)
signed_names true p (Some m) c e = subst HasNames (same_tree (signed_tree true p m) c e) tt
signed_names false p (Some m) c e = subst HasNames (same_tree (signed_tree false p m) c e) tt

tree_names : (p : Place) (t : IntType) (z : ℤ) (c : Tree) → constant_tree p t z ≡ Some c → HasNames c
tree_names p t (pos n) c e = signed_names false p (number t (pos n)) c e
tree_names p t (negsuc n) c e = go (nat_le n 127) e
  where
    go : (b : Bool) → cond b (option_map (signed_tree true p) (number Int (pos (n + 1)))) None ≡ Some c → HasNames c
    go true e = signed_names true p (number Int (pos (n + 1))) c e
    go false e = absurd (cc)

constant_names : (t : Token) (c : Tree) → constant_at t ≡ Some c → HasNames c
unfolding constant_at
constant_names t c e = go (constant_of t.kind t.text) e
  where
    go : (o : Option (IntType × ℤ)) → (o >>= λ x. constant_tree t.place x.0 x.1) ≡ Some c → HasNames c
    go None e = absurd (cc)
    go (Some x) e = tree_names t.place x.0 x.1 c e

-- an operator before its operand
abbrev KeepsNames : Option (Tree → Kind) → Type 0
KeepsNames None = Unit {0}
KeepsNames (Some op) = (p : Place) (a : Tree) → HasNames a → HasNames (node p (op a))

prefix_names : (m : Symbol) → KeepsNames (prefix_of m)
prefix_names (symbols.Sign s) = tt
prefix_names (symbols.Infix (infixes.Operator ops.Mul)) = λ p a h. h
prefix_names (symbols.Infix (infixes.Operator ops.Div)) = tt
prefix_names (symbols.Infix (infixes.Operator ops.Rem)) = tt
prefix_names (symbols.Infix (infixes.Operator ops.Add)) = λ p a h. h
prefix_names (symbols.Infix (infixes.Operator ops.Sub)) = λ p a h. h
prefix_names (symbols.Infix (infixes.Operator ops.Shl)) = tt
prefix_names (symbols.Infix (infixes.Operator ops.Shr)) = tt
prefix_names (symbols.Infix (infixes.Operator ops.Lt)) = tt
prefix_names (symbols.Infix (infixes.Operator ops.Gt)) = tt
prefix_names (symbols.Infix (infixes.Operator ops.Le)) = tt
prefix_names (symbols.Infix (infixes.Operator ops.Ge)) = tt
prefix_names (symbols.Infix (infixes.Operator ops.Eq)) = tt
prefix_names (symbols.Infix (infixes.Operator ops.Ne)) = tt
prefix_names (symbols.Infix (infixes.Operator ops.BitAnd)) = λ p a h. h
prefix_names (symbols.Infix (infixes.Operator ops.BitXor)) = tt
prefix_names (symbols.Infix (infixes.Operator ops.BitOr)) = tt
prefix_names (symbols.Infix infixes.AndThen) = tt
prefix_names (symbols.Infix infixes.OrElse) = tt
prefix_names (symbols.Assign op) = tt
prefix_names (symbols.Step up) = tt
prefix_names symbols.Tilde = λ p a h. h
prefix_names symbols.Exclamation = λ p a h. h
prefix_names (symbols.Type w) = tt
prefix_names symbols.Const = tt
prefix_names symbols.Restrict = tt
prefix_names (symbols.Word w) = tt
prefix_names symbols.Name = tt
prefix_names symbols.Constant = tt
prefix_names symbols.Other = tt

before_names : (m : Symbol) (op : Tree → Kind) → prefix_of m ≡ Some op → (p : Place) (a : Tree) → HasNames a → HasNames (node p (op a))
before_names m op e = subst KeepsNames e (prefix_names m)

between_names : (op : Infix) (p : Place) (a b : Tree) → HasNames a → HasNames b → HasNames (node p (infix_kind op a b))
between_names (infixes.Operator op) p a b h k = (h, k)
between_names infixes.AndThen p a b h k = (h, k)
between_names infixes.OrElse p a b h k = (h, k)

-- what is told of an expression and of the tokens behind it
abbrev pub Told : Type 0 → List Token → Type 0
Told names ts = names × AllNamed ts

mutual
  pub written_names : (e : Written) (l : ℕ) → Fits X86 l e → (ts : List Token) → AllNamed (spell e ts) → Told (HasNames (tree e)) ts
  written_names (Constant t c) l f ts h = (constant_names t c f, h.1)
  written_names (Named t) l f ts h = (token_named t f h.0, h.1)
  written_names (Bare g o c) l f ts h = ((token_named g f.0 h.0, tt), h.1.1.1)
  written_names (Call g o a rest c) l f ts h =
      let x = written_names a 1 f.2 (spell_tail rest (c ∷ ts)) h.1.1 in
      let y = tail_names rest f.3 (c ∷ ts) x.1 in
      ((token_named g f.0 h.0, (x.0, y.0)), y.1.1)
  written_names (Brackets o a rest c) l f ts h =
      let x = written_names a 1 f.1 (spell_tail rest (c ∷ ts)) h.1 in
      let y = comma_names rest (tree a) f.2 x.0 (c ∷ ts) x.1 in
      (y.0, y.1.1)
  written_names (Pair o w c b1 b2 a m b e1 e2) l f ts h =
      let x = written_names a 1 f.5 (m ∷ spell b (e1 ∷ e2 ∷ ts)) h.1.1.1.1.1 in
      let y = written_names b 1 f.7 (e1 ∷ e2 ∷ ts) x.1.1 in
      ((x.0, y.0), y.1.1.1)
  written_names (Half a o v s n k c) l f ts h = let x = written_names a 17 f.1 (o ∷ v ∷ s ∷ n ∷ c ∷ ts) h in (x.0, x.1.1.1.1.1.1)
  written_names (Index a o b rest c) l f ts h =
      let x = written_names a 17 f.1 (o ∷ spell b (spell_tail rest (c ∷ ts))) h in
      let y = written_names b 1 f.3 (spell_tail rest (c ∷ ts)) x.1.1 in
      let z = comma_names rest (tree b) f.4 y.0 (c ∷ ts) y.1 in
      ((x.0, z.0), z.1.1)
  written_names (After a t up) l f ts h = let x = written_names a 16 f.1 (t ∷ ts) h in (x.0, x.1.1)
  written_names (Before t up a) l f ts h = written_names a 14 f.2 ts h.1
  written_names (Prefix t op a) l f ts h = let x = written_names a 13 f.2 ts h.1 in (before_names (symbol_of X86 t) op f.1 t.place (tree a) x.0, x.1)
  written_names (Grammar.SizeOfType s o words ty c) l f ts h = (tt, (behind_words words (c ∷ ts) h.1.1).1)
  written_names (Grammar.SizeOfName s x) l f ts h = (token_named x f.2 h.1.0, h.1.1)
  written_names (Grammar.SizeOfBracketed s o x c) l f ts h = (token_named x f.3 h.1.1.0, h.1.1.1.1)
  written_names (Cast o words ty c a) l f ts h = written_names a 13 f.4 ts (behind_words words (c ∷ spell a ts) h.1).1
  written_names (Between a t op b) l f ts h =
      let x = written_names a (level_of op) f.1 (t ∷ spell b ts) h in
      let y = written_names b (level_of op + 1) f.3 ts x.1.1 in
      (between_names op t.place (tree a) (tree b) x.0 y.0, y.1)
  written_names (Choice a q b rest c e) l f ts h =
      let x = written_names a 3 f.1 (q ∷ spell b (spell_tail rest (c ∷ spell e ts))) h in
      let y = written_names b 1 f.3 (spell_tail rest (c ∷ spell e ts)) x.1.1 in
      let z = comma_names rest (tree b) f.4 y.0 (c ∷ spell e ts) y.1 in
      let u = written_names e 2 f.6 ts z.1.1 in
      ((x.0, z.0, u.0), u.1)
  written_names (Assign a t op b) l f ts h =
      let x = written_names a 14 f.1 (t ∷ spell b ts) h in
      let y = written_names b 1 f.3 ts x.1.1 in
      ((x.0, y.0), y.1)

  pub tail_names : (rest : Tail) → FitAll X86 rest → (ts : List Token) → AllNamed (spell_tail rest ts) → Told (AllHaveNames (trees_of rest)) ts
  tail_names End f ts h = (tt, h)
  tail_names (Then t a rest) f ts h =
      let x = written_names a 1 f.1 (spell_tail rest ts) h.1 in
      let y = tail_names rest f.2 ts x.1 in
      ((x.0, y.0), y.1)

  pub comma_names : (rest : Tail) (a : Tree) → FitAll X86 rest → HasNames a → (ts : List Token) → AllNamed (spell_tail rest ts) → Told (HasNames (comma_tree a rest)) ts
  comma_names End a f k ts h = (k, h)
  comma_names (Then t b rest) a f k ts h =
      let x = written_names b 1 f.1 (spell_tail rest ts) h.1 in
      let y = tail_names rest f.2 ts x.1 in
      ((k, (x.0, y.0)), y.1)

-- an expression with commas
pub expression_names : (ts : List Token) (e : Tree) → Expression X86 ts e → AllNamed ts → HasNames e
expression_names ts e x h =
    let a = written_names x.first 1 x.fits.0 (spell_tail x.others []) (subst AllNamed x.spelled h) in
    subst HasNames x.means (comma_names x.others (tree x.first) x.fits.1 a.0 [] a.1).0
