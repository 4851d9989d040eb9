-- The grammar of expressions (C11 6.5): which trees stand at which level, and how each is written. The Neon dialect has two
-- forms more, for the pairs of vectors of Arm's reference: the pair `(uint8x16x2_t){{a, b}}`, and its halves `x.val[0]` and `x.val[1]`.
use Rattle.std.specs.Prelude.{◌≡◌, ℕ, ◌+◌, ◌≤◌, List, [], ◌∷◌, ◌++◌, Option, Some, Bool, true, false, codes}
use Rattle.c_text.specs.declared.tokens.Dialect.{Dialect}
use Rattle.c_text.specs.declared.tokens.Dialect.TheVariants.{Neon}
use Rattle.c_text.specs.declared.tokens.Token.{Token}
use Rattle.lane_core.specs.declared.number.BinOp.{BinOp}
use Rattle.c_tree.specs.declared.types.CType.{CType}
use Rattle.c_tree.specs.declared.types.CType.TheVariants as ctypes
use Rattle.c_tree.specs.Tree as trees
use Rattle.c_tree.specs.Tree.{Tree, Kind, Trees, NoTrees, More}
use Rattle.c_parse.specs.declared.symbols.Infix.{Infix}
use Rattle.c_parse.specs.declared.symbols.Sign.{Sign}
use Rattle.c_parse.specs.declared.symbols.Sign.TheVariants.{Open, Close, OpenSquare, CloseSquare, Comma, Question, Colon, SizeOf, Dot, OpenBrace, CloseBrace}
use Rattle.c_parse.specs.declared.symbols.TypeWord.TheVariants as words
use Rattle.c_parse.specs.declared.symbols.Symbol.TheVariants as symbols
use Rattle.c_parse.specs.Symbols.{symbol_of}
use Rattle.c_parse.specs.Reading.{node, level_of, prefix_of, infix_kind, constant_at, type_front, half_of}

-- An expression with all of its tokens, brackets too. `Tail` is what follows an expression in a list: commas and expressions.
mutual
  pub data Written : Type 0 where
    Constant : Token → Tree → Written
    Named : Token → Written
    Bare : Token → Token → Token → Written
    Call : Token → Token → Written → Tail → Token → Written
    Brackets : Token → Written → Tail → Token → Written
    Pair : Token → Token → Token → Token → Token → Written → Token → Written → Token → Token → Written
    Half : Written → Token → Token → Token → Token → ℕ → Token → Written
    Index : Written → Token → Written → Tail → Token → Written
    After : Written → Token → Bool → Written
    Before : Token → Bool → Written → Written
    Prefix : Token → (Tree → Kind) → Written → Written
    SizeOfType : Token → Token → List Token → CType → Token → Written
    SizeOfName : Token → Token → Written
    SizeOfBracketed : Token → Token → Token → Token → Written
    Cast : Token → List Token → CType → Token → Written → Written
    Between : Written → Token → Infix → Written → Written
    Choice : Written → Token → Written → Tail → Token → Written → Written
    Assign : Written → Token → Option BinOp → Written → Written

  pub data Tail : Type 0 where
    End : Tail
    Then : Token → Written → Tail → Tail

-- the token is this sign
abbrev pub Is : Dialect → Sign → Token → Type 0
Is d s t = symbol_of d t ≡ symbols.Sign s

abbrev pub IsName : Dialect → Token → Type 0
IsName d t = symbol_of d t ≡ symbols.Name

-- all of these tokens are the name of this type (C11 6.7.7)
abbrev pub IsType : Dialect → List Token → CType → Type 0
IsType d ts ty = type_front d ts ≡ Some (ty, [])

-- the token is the name of the type of pairs, which the Neon dialect alone has
abbrev pub IsPair : Dialect → Token → Type 0
IsPair d t = symbol_of d t ≡ symbols.Type (words.Whole ctypes.Pair)

abbrev pub is_constant : Written → Bool
is_constant (Constant t c) = true
is_constant _ = false

-- The expression may stand where one of this level or a tighter one is wanted: 1 the assignment, 2 the choice, 3 to 12 the
-- operators between operands, 13 the cast, 14 what has an operator before it, 15 to 17 a base with a step or
-- `.val[k]`, an index, or neither behind it. Operators of one level group to the left, assignments and choices to the right.
abbrev mutual
  pub Fits : Dialect → ℕ → Written → Type 0
  Fits d l (Constant t c) = constant_at t ≡ Some c
  Fits d l (Named t) = IsName d t
  Fits d l (Bare f o c) = IsName d f × Is d Open o × Is d Close c
  Fits d l (Call f o a rest c) = IsName d f × Is d Open o × Fits d 1 a × FitAll d rest × Is d Close c
  Fits d l (Brackets o a rest c) = Is d Open o × Fits d 1 a × FitAll d rest × Is d Close c
  Fits d l (Pair o w c b1 b2 a m b e1 e2) =
      Is d Open o × IsPair d w × Is d Close c × Is d OpenBrace b1 × Is d OpenBrace b2 × Fits d 1 a × Is d Comma m × Fits d 1 b × Is d CloseBrace e1 × Is d CloseBrace e2
  Fits d l (Half a o v s n k c) =
      (l ≤ 15) × Fits d 17 a × (is_constant a ≡ false) × (d ≡ Neon) × Is d Dot o × IsName d v × (v.text ≡ codes "val") × Is d OpenSquare s × (half_of n ≡ Some k) × Is d CloseSquare c
  Fits d l (Index a o b rest c) = (l ≤ 16) × Fits d 17 a × Is d OpenSquare o × Fits d 1 b × FitAll d rest × Is d CloseSquare c
  Fits d l (After a t up) = (l ≤ 15) × Fits d 16 a × (symbol_of d t ≡ symbols.Step up)
  Fits d l (Before t up a) = (l ≤ 14) × (symbol_of d t ≡ symbols.Step up) × Fits d 14 a
  Fits d l (Prefix t op a) = (l ≤ 14) × (prefix_of (symbol_of d t) ≡ Some op) × Fits d 13 a
  Fits d l (SizeOfType s o words ty c) = (l ≤ 14) × Is d SizeOf s × Is d Open o × IsType d words ty × Is d Close c
  Fits d l (SizeOfName s x) = (l ≤ 14) × Is d SizeOf s × IsName d x
  Fits d l (SizeOfBracketed s o x c) = (l ≤ 14) × Is d SizeOf s × Is d Open o × IsName d x × Is d Close c
  Fits d l (Cast o words ty c a) = (l ≤ 13) × Is d Open o × IsType d words ty × Is d Close c × Fits d 13 a
  Fits d l (Between a t op b) = (l ≤ level_of op) × Fits d (level_of op) a × (symbol_of d t ≡ symbols.Infix op) × Fits d (level_of op + 1) b
  Fits d l (Choice a q b rest c e) = (l ≤ 2) × Fits d 3 a × Is d Question q × Fits d 1 b × FitAll d rest × Is d Colon c × Fits d 2 e
  Fits d l (Assign a t op b) = (l ≤ 1) × Fits d 14 a × (symbol_of d t ≡ symbols.Assign op) × Fits d 1 b

  pub FitAll : Dialect → Tail → Type 0
  FitAll d End = Unit {0}
  FitAll d (Then t a rest) = Is d Comma t × Fits d 1 a × FitAll d rest

-- the tokens of an expression, and then these
abbrev mutual
  pub spell : Written → List Token → List Token
  spell (Constant t c) ts = t ∷ ts
  spell (Named t) ts = t ∷ ts
  spell (Bare f o c) ts = f ∷ o ∷ c ∷ ts
  spell (Call f o a rest c) ts = f ∷ o ∷ spell a (spell_tail rest (c ∷ ts))
  spell (Brackets o a rest c) ts = o ∷ spell a (spell_tail rest (c ∷ ts))
  spell (Pair o w c b1 b2 a m b e1 e2) ts = o ∷ w ∷ c ∷ b1 ∷ b2 ∷ spell a (m ∷ spell b (e1 ∷ e2 ∷ ts))
  spell (Half a o v s n k c) ts = spell a (o ∷ v ∷ s ∷ n ∷ c ∷ ts)
  spell (Index a o b rest c) ts = spell a (o ∷ spell b (spell_tail rest (c ∷ ts)))
  spell (After a t up) ts = spell a (t ∷ ts)
  spell (Before t up a) ts = t ∷ spell a ts
  spell (Prefix t op a) ts = t ∷ spell a ts
  spell (SizeOfType s o words ty c) ts = s ∷ o ∷ (words ++ c ∷ ts)
  spell (SizeOfName s x) ts = s ∷ x ∷ ts
  spell (SizeOfBracketed s o x c) ts = s ∷ o ∷ x ∷ c ∷ ts
  spell (Cast o words ty c a) ts = o ∷ (words ++ c ∷ spell a ts)
  spell (Between a t op b) ts = spell a (t ∷ spell b ts)
  spell (Choice a q b rest c e) ts = spell a (q ∷ spell b (spell_tail rest (c ∷ spell e ts)))
  spell (Assign a t op b) ts = spell a (t ∷ spell b ts)

  pub spell_tail : Tail → List Token → List Token
  spell_tail End ts = ts
  spell_tail (Then t a rest) ts = t ∷ spell a (spell_tail rest ts)

-- Its tree, without brackets. Each node has the place of its operator, its name or its opening word: the first `,` of a
-- comma expression, the `?` of a choice, the `[` of an index, the `(` of a cast, the first `(` of a pair, the `.` of a half, the name in a `sizeof` of a name.
abbrev mutual
  pub tree : Written → Tree
  tree (Constant t c) = c
  tree (Named t) = node t.place (trees.Name t.text)
  tree (Bare f o c) = node f.place (trees.Call f.text NoTrees)
  tree (Call f o a rest c) = node f.place (trees.Call f.text (More (tree a) (trees_of rest)))
  tree (Brackets o a rest c) = comma_tree (tree a) rest
  tree (Pair o w c b1 b2 a m b e1 e2) = node o.place (trees.PairOf (tree a) (tree b))
  tree (Half a o v s n k c) = node o.place (trees.Half (tree a) k)
  tree (Index a o b rest c) = node o.place (trees.Index (tree a) (comma_tree (tree b) rest))
  tree (After a t up) = node t.place (trees.Step (tree a) up false)
  tree (Before t up a) = node t.place (trees.Step (tree a) up true)
  tree (Prefix t op a) = node t.place (op (tree a))
  tree (SizeOfType s o words ty c) = node s.place (trees.SizeOfType ty)
  tree (SizeOfName s x) = node x.place (trees.SizeOfName x.text)
  tree (SizeOfBracketed s o x c) = node x.place (trees.SizeOfName x.text)
  tree (Cast o words ty c a) = node o.place (trees.Cast ty (tree a) true)
  tree (Between a t op b) = node t.place (infix_kind op (tree a) (tree b))
  tree (Choice a q b rest c e) = node q.place (trees.Choice (tree a) (comma_tree (tree b) rest) (tree e))
  tree (Assign a t op b) = node t.place (trees.Assign op (tree a) (tree b))

  -- an expression with those behind commas
  pub comma_tree : Tree → Tail → Tree
  comma_tree a End = a
  comma_tree a (Then t b rest) = node t.place (trees.Comma (More a (More (tree b) (trees_of rest))))

  pub trees_of : Tail → Trees
  trees_of End = NoTrees
  trees_of (Then t a rest) = More (tree a) (trees_of rest)

-- these tokens are an expression, commas among them, and this is its tree
pub record Expression (d : Dialect) (ts : List Token) (t : Tree) : Type 0 where
  pub first : Written
  pub others : Tail
  pub fits : Fits d 1 first × FitAll d others
  pub spelled : ts ≡ spell first (spell_tail others [])
  pub means : comma_tree (tree first) others ≡ t
