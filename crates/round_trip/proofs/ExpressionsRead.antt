-- Expressions are read as they are written.
use Rattle.std.proofs.Common.{◌≡◌, ℕ, ◌+◌, ◌≤◌, ◌<◌, List, [], ◌∷◌, ◌++◌, map, Bool, true, false, cond, Option, Some, None, refl, sym, ◌∙◌, ap, arith}
use Rattle.std.proofs.lemmas.Bool.{eqb-true}
use Rattle.std.proofs.lemmas.Bool.Decides.{nat_tests}
use Rattle.std.proofs.lemmas.Fmt.{decimal_digit}
use Rattle.std.specs.Prelude.{codes, decimal, nat_lt, int_lt, pos, unsigned_abs, not, ◌&&◌, ◌==◌}
use Rattle.c_text.specs.declared.tokens.Dialect.TheVariants.{Neon}
use Rattle.c_text.specs.declared.tokens.Token.{Token}
use Rattle.c_text.specs.declared.tokens.TokenKind.TheVariants as kinds
use Rattle.lane_core.specs.declared.number.BinOp.{BinOp}
use Rattle.lane_core.specs.declared.number.BinOp.TheVariants as ops
use Rattle.lane_core.specs.declared.number.Num.{Num}
use Rattle.lane_core.specs.declared.number.UnOp.{UnOp}
use Rattle.lane_core.specs.declared.number.UnOp.TheVariants as signs
use Rattle.c_tree.specs.Same.{stripped, stripped_kind, stripped_all, bare, unnumbered}
use Rattle.c_tree.specs.Tree as trees
use Rattle.c_tree.specs.Tree.{Tree, Kind, Trees, Node, NoTrees, More}
use Rattle.c_tree.specs.Operators.{operator_text, prefix_text, step_text}
use Rattle.c_print.specs.Expressions.{operator_level, constant_level, kind_level, level, is_wrapped_operand}
use Rattle.c_print.specs.Constants.{magnitude_text}
use Rattle.c_parse.specs.declared.symbols.Infix.{Infix}
use Rattle.c_parse.specs.declared.symbols.Infix.TheVariants as infixes
use Rattle.c_text.specs.declared.tokens.Place.{Place}
use Rattle.c_parse.specs.declared.symbols.Symbol.TheVariants as symbols
use Rattle.c_parse.specs.Symbols.{symbol_in}
use Rattle.c_parse.specs.Reading.{level_of, prefix_of, node, infix_kind, constant_at}
use Rattle.c_parse.specs.Grammar as Grammar
use Rattle.c_parse.specs.Grammar.{Written, Tail, End, Then, Constant, Named, Bare, Call, Brackets, Pair, Half, Index, After, Before, Prefix, Cast, Between, Choice, Assign, Is, IsName, IsType, is_constant, Fits, FitAll, spell, spell_tail, tree, comma_tree, trees_of}
use Rattle.round_trip.specs.Words.{Bit, words_of, said}
use Rattle.round_trip.specs.Good.{GoodConstant, GoodAssignment, Several, Good, GoodKind, GoodAll}
use Rattle.round_trip.proofs.Bits.{name, number, mark, space, comma, type_bits, constant_bits, opening_bits, closing_bits, spaced_bits, assignment_mark, expression_bits, part_bits, operand_bits, kind_bits, list_bits, more_bits}
use Rattle.round_trip.proofs.Tokens.{Word, Next, next, next_name, word_first}
use Rattle.round_trip.proofs.TypesRead.{type_read}
use Rattle.round_trip.proofs.Numerals.{IsNumeral, numeral_of}
use Rattle.round_trip.proofs.NumeralsRead.{constant_token, half_small}

-- the first of these tokens are an expression of this level, which is the same as one that is wanted
pub record Read (l : ℕ) (want : Tree) (ts : List Token) (bs : List Bit) : Type 0 where
  pub written : Written
  pub rest : List Token
  pub fits : Fits Neon l written
  pub varies : 18 ≤ l → is_constant written ≡ false
  pub split : ts ≡ spell written rest
  pub left : map said rest ≡ words_of bs
  pub means : stripped (tree written) ≡ want

-- the same with expressions behind commas
pub record Row (want : Tree) (ts : List Token) (bs : List Bit) : Type 0 where
  pub first : Written
  pub others : Tail
  pub rest : List Token
  pub fits : Fits Neon 1 first
  pub others_fit : FitAll Neon others
  pub split : ts ≡ spell first (spell_tail others rest)
  pub left : map said rest ≡ words_of bs
  pub means : stripped (comma_tree (tree first) others) ≡ want

-- and expressions behind commas alone
pub record Behind (want : Trees) (ts : List Token) (bs : List Bit) : Type 0 where
  pub others : Tail
  pub rest : List Token
  pub fits : FitAll Neon others
  pub split : ts ≡ spell_tail others rest
  pub left : map said rest ≡ words_of bs
  pub means : stripped_all (trees_of others) ≡ want

-- what stands at a level stands at a looser one
pub looser : (l m : ℕ) (w : Written) → m ≤ l → Fits Neon l w → Fits Neon m w
looser l m (Constant t c) h f = f
looser l m (Named t) h f = f
looser l m (Bare g o c) h f = f
looser l m (Call g o a rest c) h f = f
looser l m (Brackets o a rest c) h f = f
looser l m (Pair o w c b1 b2 a n b e1 e2) h f = f
looser l m (Half a o v s n k c) h (f0, f1, f2, f3, f4, f5, f6, f7, f8, f9) = (omega arith, f1, f2, f3, f4, f5, f6, f7, f8, f9)
looser l m (Index a o b rest c) h (f0, f1, f2, f3, f4, f5) = (omega arith, f1, f2, f3, f4, f5)
looser l m (After a t up) h (f0, f1, f2) = (omega arith, f1, f2)
looser l m (Before t up a) h (f0, f1, f2) = (omega arith, f1, f2)
looser l m (Prefix t op a) h (f0, f1, f2) = (omega arith, f1, f2)
looser l m (Grammar.SizeOfType s o ws ty c) h (f0, f1, f2, f3, f4) = (omega arith, f1, f2, f3, f4)
looser l m (Grammar.SizeOfName s x) h (f0, f1, f2) = (omega arith, f1, f2)
looser l m (Grammar.SizeOfBracketed s o x c) h (f0, f1, f2, f3, f4) = (omega arith, f1, f2, f3, f4)
looser l m (Cast o ws ty c a) h (f0, f1, f2, f3, f4) = (omega arith, f1, f2, f3, f4)
looser l m (Between a t op b) h (f0, f1, f2, f3) = (omega arith, f1, f2, f3)
looser l m (Choice a q b rest c e) h (f0, f1, f2, f3, f4, f5, f6) = (omega arith, f1, f2, f3, f4, f5, f6)
looser l m (Assign a t op b) h (f0, f1, f2, f3) = (omega arith, f1, f2, f3)

numeral_not_empty : (x : List ℕ) → IsNumeral x → x ≡ [] → ⊥
numeral_not_empty [] h e = absurd h
numeral_not_empty (c ∷ cs) h e = absurd (cc)

-- a value that several parts of another share
pub share : {A B : Type 0} → A → (A → B) → B
share a f = f a

-- an expression as a row, and by itself where it isn't made by a comma
abbrev pub Both : ℕ → Tree → List Token → List Bit → Type 0
Both l want ts bs = Row want ts bs × (1 ≤ l → Read l want ts bs)

row_of : (l : ℕ) (want : Tree) (ts : List Token) (bs : List Bit) → 1 ≤ l → Read l want ts bs → Row want ts bs
row_of l want ts bs h r = record { first = r.written; others = End; rest = r.rest; fits = looser l 1 r.written h r.fits; others_fit = tt; split = r.split; left = r.left; means = r.means }

both : (l : ℕ) (want : Tree) (ts : List Token) (bs : List Bit) → 1 ≤ l → Read l want ts bs → Both l want ts bs
both l want ts bs h r = (row_of l want ts bs h r, λ k. r)

-- an expression in brackets stands at every level
bracketed_read : (l : ℕ) (want : Tree) (ts : List Token) (inside : List Word) (bs : List Bit) (n : Next kinds.Mark (codes "(") ts inside) → Row want n.rest (mark (codes ")") bs) → Read l want ts bs
bracketed_read l want ts inside bs n row =
    let c = next kinds.Mark (codes ")") row.rest (words_of bs) row.left in
    record {
      written = Brackets n.token row.first row.others c.token;
      rest = c.rest;
      fits = (n.symbol, row.fits, row.others_fit, c.symbol);
      varies = λ h. refl;
      split = n.split ∙ ap (λ r. n.token ∷ r) (row.split ∙ ap (λ r. spell row.first (spell_tail row.others r)) c.split);
      left = c.left;
      means = row.means;
    }

not_less : (l wanted : ℕ) → nat_lt l wanted ≡ false → wanted ≤ l
not_less l wanted h = grind (arith, nat_tests)

-- a part, in brackets where its level is looser than the one that is wanted
part_by : (b : Bool) (wanted : ℕ) (k : Kind) (bs : List Bit) (ts : List Token) → nat_lt (kind_level k) wanted ≡ b → 1 ≤ wanted →
    ((us : List Token) → map said us ≡ words_of (kind_bits k (mark (codes ")") bs)) → Both (kind_level k) (stripped_kind k) us (mark (codes ")") bs)) →
    (map said ts ≡ words_of (kind_bits k bs) → Both (kind_level k) (stripped_kind k) ts bs) →
    map said ts ≡ words_of (opening_bits b (kind_bits k (closing_bits b bs))) → Read wanted (stripped_kind k) ts bs
part_by true wanted k bs ts h w inside alone e =
    let n = next kinds.Mark (codes "(") ts (words_of (kind_bits k (mark (codes ")") bs))) e in
    bracketed_read wanted (stripped_kind k) ts (words_of (kind_bits k (mark (codes ")") bs))) bs n (inside n.rest n.left).0
part_by false wanted k bs ts h w inside alone e =
    let low : wanted ≤ kind_level k = not_less (kind_level k) wanted h in
    let r = (alone e).1 (omega (arith, low, w)) in
    record { written = r.written; rest = r.rest; fits = looser (kind_level k) wanted r.written low r.fits; varies = λ m. r.varies (omega (arith, low, m)); split = r.split; left = r.left; means = r.means }

operand_level : (l : ℕ) → is_wrapped_operand l ≡ false → 13 ≤ l
operand_level l h = go (nat_lt l 15) refl (l == 13) refl h
  where
    go : (t : Bool) → nat_lt l 15 ≡ t → (u : Bool) → (l == 13) ≡ u → (t && not u) ≡ false → 13 ≤ l
    go true p true q h = let same : l ≡ 13 = eqb-true l 13 q in omega (arith, same)
    go true p false q h = absurd (cc)
    go false p u q h = let low : 15 ≤ l = not_less l 15 p in omega (arith, low)

operand_by : (b : Bool) (k : Kind) (bs : List Bit) (ts : List Token) → is_wrapped_operand (kind_level k) ≡ b →
    ((us : List Token) → map said us ≡ words_of (kind_bits k (mark (codes ")") bs)) → Both (kind_level k) (stripped_kind k) us (mark (codes ")") bs)) →
    (map said ts ≡ words_of (kind_bits k bs) → Both (kind_level k) (stripped_kind k) ts bs) →
    map said ts ≡ words_of (opening_bits b (kind_bits k (closing_bits b bs))) → Read 13 (stripped_kind k) ts bs
operand_by true k bs ts h inside alone e =
    let n = next kinds.Mark (codes "(") ts (words_of (kind_bits k (mark (codes ")") bs))) e in
    bracketed_read 13 (stripped_kind k) ts (words_of (kind_bits k (mark (codes ")") bs))) bs n (inside n.rest n.left).0
operand_by false k bs ts h inside alone e =
    let low : 13 ≤ kind_level k = operand_level (kind_level k) h in
    let r = (alone e).1 (omega (arith, low)) in
    record { written = r.written; rest = r.rest; fits = looser (kind_level k) 13 r.written low r.fits; varies = λ m. absurd (omega (arith, m)); split = r.split; left = r.left; means = r.means }

-- what the marks of operators are
infix_symbol : (op : BinOp) → symbol_in Neon kinds.Mark (operator_text op) ≡ symbols.Infix (infixes.Operator op)
infix_symbol ops.Mul = refl
infix_symbol ops.Div = refl
infix_symbol ops.Rem = refl
infix_symbol ops.Add = refl
infix_symbol ops.Sub = refl
infix_symbol ops.Shl = refl
infix_symbol ops.Shr = refl
infix_symbol ops.Lt = refl
infix_symbol ops.Gt = refl
infix_symbol ops.Le = refl
infix_symbol ops.Ge = refl
infix_symbol ops.Eq = refl
infix_symbol ops.Ne = refl
infix_symbol ops.BitAnd = refl
infix_symbol ops.BitXor = refl
infix_symbol ops.BitOr = refl

same_level : (op : BinOp) → level_of (infixes.Operator op) ≡ operator_level op
same_level ops.Mul = refl
same_level ops.Div = refl
same_level ops.Rem = refl
same_level ops.Add = refl
same_level ops.Sub = refl
same_level ops.Shl = refl
same_level ops.Shr = refl
same_level ops.Lt = refl
same_level ops.Gt = refl
same_level ops.Le = refl
same_level ops.Ge = refl
same_level ops.Eq = refl
same_level ops.Ne = refl
same_level ops.BitAnd = refl
same_level ops.BitXor = refl
same_level ops.BitOr = refl

positive_level : (op : BinOp) → 1 ≤ operator_level op
positive_level ops.Mul = omega arith
positive_level ops.Div = omega arith
positive_level ops.Rem = omega arith
positive_level ops.Add = omega arith
positive_level ops.Sub = omega arith
positive_level ops.Shl = omega arith
positive_level ops.Shr = omega arith
positive_level ops.Lt = omega arith
positive_level ops.Gt = omega arith
positive_level ops.Le = omega arith
positive_level ops.Ge = omega arith
positive_level ops.Eq = omega arith
positive_level ops.Ne = omega arith
positive_level ops.BitAnd = omega arith
positive_level ops.BitXor = omega arith
positive_level ops.BitOr = omega arith

operator_levels : (op : BinOp) → operator_level op ≤ 12
operator_levels ops.Mul = omega arith
operator_levels ops.Div = omega arith
operator_levels ops.Rem = omega arith
operator_levels ops.Add = omega arith
operator_levels ops.Sub = omega arith
operator_levels ops.Shl = omega arith
operator_levels ops.Shr = omega arith
operator_levels ops.Lt = omega arith
operator_levels ops.Gt = omega arith
operator_levels ops.Le = omega arith
operator_levels ops.Ge = omega arith
operator_levels ops.Eq = omega arith
operator_levels ops.Ne = omega arith
operator_levels ops.BitAnd = omega arith
operator_levels ops.BitXor = omega arith
operator_levels ops.BitOr = omega arith

operator_words : (op : BinOp) (bs : List Bit) → words_of (spaced_bits (operator_text op) bs) ≡ (kinds.Mark, operator_text op) ∷ words_of bs
operator_words ops.Mul bs = refl
operator_words ops.Div bs = refl
operator_words ops.Rem bs = refl
operator_words ops.Add bs = refl
operator_words ops.Sub bs = refl
operator_words ops.Shl bs = refl
operator_words ops.Shr bs = refl
operator_words ops.Lt bs = refl
operator_words ops.Gt bs = refl
operator_words ops.Le bs = refl
operator_words ops.Ge bs = refl
operator_words ops.Eq bs = refl
operator_words ops.Ne bs = refl
operator_words ops.BitAnd bs = refl
operator_words ops.BitXor bs = refl
operator_words ops.BitOr bs = refl

assignment_symbol : (op : Option BinOp) → GoodAssignment op → symbol_in Neon kinds.Mark (assignment_mark op) ≡ symbols.Assign op
assignment_symbol None g = refl
assignment_symbol (Some ops.Mul) g = refl
assignment_symbol (Some ops.Div) g = refl
assignment_symbol (Some ops.Rem) g = refl
assignment_symbol (Some ops.Add) g = refl
assignment_symbol (Some ops.Sub) g = refl
assignment_symbol (Some ops.Shl) g = refl
assignment_symbol (Some ops.Shr) g = refl
assignment_symbol (Some ops.Lt) g = absurd g
assignment_symbol (Some ops.Gt) g = absurd g
assignment_symbol (Some ops.Le) g = absurd g
assignment_symbol (Some ops.Ge) g = absurd g
assignment_symbol (Some ops.Eq) g = absurd g
assignment_symbol (Some ops.Ne) g = absurd g
assignment_symbol (Some ops.BitAnd) g = refl
assignment_symbol (Some ops.BitXor) g = refl
assignment_symbol (Some ops.BitOr) g = refl

assignment_words : (op : Option BinOp) (bs : List Bit) → words_of (spaced_bits (assignment_mark op) bs) ≡ (kinds.Mark, assignment_mark op) ∷ words_of bs
assignment_words None bs = refl
assignment_words (Some op) bs = word_first kinds.Mark (operator_text op ++ codes "=") (space bs) (never_empty (operator_text op))
  where
    never_empty : (xs : List ℕ) → xs ++ codes "=" ≡ [] → ⊥
    never_empty [] e = absurd (cc)
    never_empty (x ∷ xs) e = absurd (cc)

step_symbol : (up : Bool) → symbol_in Neon kinds.Mark (step_text up) ≡ symbols.Step up
step_symbol true = refl
step_symbol false = refl

step_words : (up : Bool) (bs : List Bit) → words_of (mark (step_text up) bs) ≡ (kinds.Mark, step_text up) ∷ words_of bs
step_words true bs = refl
step_words false bs = refl

prefix_symbol : (op : UnOp) → prefix_of (symbol_in Neon kinds.Mark (prefix_text op)) ≡ Some (trees.Unary op)
prefix_symbol signs.Plus = refl
prefix_symbol signs.Neg = refl
prefix_symbol signs.BitNot = refl
prefix_symbol signs.Not = refl

prefix_words : (op : UnOp) (bs : List Bit) → words_of (mark (prefix_text op) bs) ≡ (kinds.Mark, prefix_text op) ∷ words_of bs
prefix_words signs.Plus bs = refl
prefix_words signs.Neg bs = refl
prefix_words signs.BitNot bs = refl
prefix_words signs.Not bs = refl

-- an operator between two operands
between_read : (op : Infix) (l m : ℕ) (want : Tree) (x y : Tree) (ts : List Token) (bs cs : List Bit) (text : List ℕ) (ws : List Word) → symbol_in Neon kinds.Mark text ≡ symbols.Infix op → level_of op ≡ l → l + 1 ≡ m →
    ((p : Place) (a b : Tree) → stripped a ≡ x → stripped b ≡ y → stripped (node p (infix_kind op a b)) ≡ want) →
    (a : Read l x ts cs) (n : Next kinds.Mark text a.rest ws) → l ≤ 17 → (b : Read m y n.rest bs) → Read l want ts bs
between_read op l m want x y ts bs cs text ws is here next_level mean a n low b = record {
  written = Between a.written n.token op b.written;
  rest = b.rest;
  fits = (omega (arith, here), rw here a.fits, n.symbol ∙ is, rw (here, next_level) b.fits);
  varies = λ h. absurd (omega (arith, h, low));
  split = a.split ∙ ap (spell a.written) (n.split ∙ ap (λ r. n.token ∷ r) b.split);
  left = b.left;
  means = mean n.token.place (tree a.written) (tree b.written) a.means b.means;
}

operator_below : (op : BinOp) → operator_level op ≤ 17
operator_below op = let low : operator_level op ≤ 12 = operator_levels op in omega (arith, low)

pair_means : (f : Tree → Tree → Tree) (a x b y : Tree) → a ≡ x → b ≡ y → f a b ≡ f x y
pair_means f a x b y p q = ap (λ u. f u b) p ∙ ap (f x) q

choice_means : (a x b y c z : Tree) → a ≡ x → b ≡ y → c ≡ z → bare (trees.Choice a b c) ≡ bare (trees.Choice x y z)
choice_means a x b y c z p q r = rw (p, q, r) refl

call_means : (f g : List ℕ) (a x : Tree) (all xs : Trees) → f ≡ g → a ≡ x → all ≡ xs → bare (trees.Call f (More a all)) ≡ bare (trees.Call g (More x xs))
call_means f g a x all xs p q r = rw (p, q, r) refl

comma_means : (a x b y : Tree) (all xs : Trees) → a ≡ x → b ≡ y → all ≡ xs → bare (trees.Comma (More a (More b all))) ≡ bare (trees.Comma (More x (More y xs)))
comma_means a x b y all xs p q r = rw (p, q, r) refl

more_means : (a x : Tree) (all xs : Trees) → a ≡ x → all ≡ xs → More a all ≡ More x xs
more_means a x all xs p q = rw (p, q) refl

constant_by : (n : Num) (bs : List Bit) (ts : List Token) → GoodConstant n → map said ts ≡ words_of (constant_bits n bs) → Both (constant_level n) (bare (trees.Const n)) ts bs
constant_by n bs ts g e =
    let m = next kinds.Number (magnitude_text n.ty (unsigned_abs n.value)) ts (words_of bs) (e ∙ constant_words n bs g) in
    let known : constant_at m.token ≡ Some (node m.token.place (trees.Const n)) = constant_token m.token n g m.is_kind m.has in
    both (constant_level n) (bare (trees.Const n)) ts bs (constant_positive n) (record {
      written = Constant m.token (node m.token.place (trees.Const n));
      rest = m.rest;
      fits = known;
      varies = λ h. absurd (constant_never n h);
      split = m.split;
      left = m.left;
      means = refl;
    })
  where
    constant_words : (n : Num) (bs : List Bit) → GoodConstant n → words_of (constant_bits n bs) ≡ (kinds.Number, magnitude_text n.ty (unsigned_abs n.value)) ∷ words_of bs
    constant_words n bs g = rw g.0 (word_first kinds.Number (magnitude_text n.ty (unsigned_abs n.value)) bs (numeral_not_empty (magnitude_text n.ty (unsigned_abs n.value)) (numeral_of n g)))

    constant_positive : (n : Num) → 1 ≤ constant_level n
    constant_positive n = go (int_lt n.value (pos 0))
      where
        go : (b : Bool) → 1 ≤ cond b 14 17
        go true = omega arith
        go false = omega arith

    constant_never : (n : Num) → 18 ≤ constant_level n → ⊥
    constant_never n = go (int_lt n.value (pos 0))
      where
        go : (b : Bool) → 18 ≤ cond b 14 17 → ⊥
        go true h = absurd (omega (arith, h))
        go false h = absurd (omega (arith, h))

half_words : (k : ℕ) (bs : List Bit) → k < 2 → words_of (number (decimal k) bs) ≡ (kinds.Number, decimal k) ∷ words_of bs
half_words k bs l = word_first kinds.Number (decimal k) bs (λ e. not_empty (48 + k) (sym (decimal_digit k (omega (arith, l))) ∙ e))
  where
    not_empty : (c : ℕ) → c ∷ [] ≡ [] → ⊥
    not_empty c e = absurd (cc)

mutual
  pub expression_read : (e : Tree) (bs : List Bit) (ts : List Token) → Good e → map said ts ≡ words_of (expression_bits e bs) → Both (level e) (stripped e) ts bs
  expression_read (Node p ty k) bs ts g e = kind_read k bs ts g e

  pub part_read : (wanted : ℕ) (a : Tree) (bs : List Bit) (ts : List Token) → 1 ≤ wanted → Good a → map said ts ≡ words_of (part_bits wanted a bs) → Read wanted (stripped a) ts bs
  part_read wanted (Node p ty k) bs ts w g e = part_by (nat_lt (kind_level k) wanted) wanted k bs ts refl w (λ us d. kind_read k (mark (codes ")") bs) us g d) (λ d. kind_read k bs ts g d) e

  operand_read : (a : Tree) (bs : List Bit) (ts : List Token) → Good a → map said ts ≡ words_of (operand_bits a bs) → Read 13 (stripped a) ts bs
  operand_read (Node p ty k) bs ts g e = operand_by (is_wrapped_operand (kind_level k)) k bs ts refl (λ us d. kind_read k (mark (codes ")") bs) us g d) (λ d. kind_read k bs ts g d) e

  kind_read : (k : Kind) (bs : List Bit) (ts : List Token) → GoodKind k → map said ts ≡ words_of (kind_bits k bs) → Both (kind_level k) (stripped_kind k) ts bs
  kind_read (trees.Const n) bs ts g e = constant_by n bs ts g e
  kind_read (trees.Name x) bs ts g e =
      share (next_name x bs ts g.named e) (λ n.
      both 18 (bare (trees.Name x)) ts bs (omega arith) (record { written = Named n.token; rest = n.rest; fits = n.symbol ∙ g.free; varies = λ h. refl; split = n.split; left = n.left; means = ap (λ y. bare (trees.Name y)) n.has }))
  kind_read (trees.Unary op a) bs ts g e =
      share (next kinds.Mark (prefix_text op) ts (words_of (operand_bits a bs)) (e ∙ prefix_words op (operand_bits a bs))) (λ n.
      share (operand_read a bs n.rest g n.left) (λ r.
      both 14 (bare (trees.Unary op (stripped a))) ts bs (omega arith) (record {
        written = Prefix n.token (trees.Unary op) r.written;
        rest = r.rest;
        fits = (omega arith, ap prefix_of n.symbol ∙ prefix_symbol op, r.fits);
        varies = λ h. refl;
        split = n.split ∙ ap (λ u. n.token ∷ u) r.split;
        left = r.left;
        means = ap (λ x. bare (trees.Unary op x)) r.means;
      })))
  kind_read (trees.Step a up true) bs ts g e =
      share (next kinds.Mark (step_text up) ts (words_of (part_bits 15 a bs)) (e ∙ step_words up (part_bits 15 a bs))) (λ n.
      share (part_read 15 a bs n.rest (omega arith) g n.left) (λ r.
      both 14 (bare (trees.Step (stripped a) up true)) ts bs (omega arith) (record {
        written = Before n.token up r.written;
        rest = r.rest;
        fits = (omega arith, n.symbol ∙ step_symbol up, looser 15 14 r.written (omega arith) r.fits);
        varies = λ h. refl;
        split = n.split ∙ ap (λ u. n.token ∷ u) r.split;
        left = r.left;
        means = ap (λ x. bare (trees.Step x up true)) r.means;
      })))
  kind_read (trees.Step a up false) bs ts g e =
      share (part_read 16 a (mark (step_text up) bs) ts (omega arith) g e) (λ r.
      share (next kinds.Mark (step_text up) r.rest (words_of bs) (r.left ∙ step_words up bs)) (λ n.
      both 15 (bare (trees.Step (stripped a) up false)) ts bs (omega arith) (record {
        written = After r.written n.token up;
        rest = n.rest;
        fits = (omega arith, r.fits, n.symbol ∙ step_symbol up);
        varies = λ h. refl;
        split = r.split ∙ ap (spell r.written) n.split;
        left = n.left;
        means = ap (λ x. bare (trees.Step x up false)) r.means;
      })))
  kind_read (trees.Binary op a b) bs ts g e =
      share (part_read (operator_level op) a (spaced_bits (operator_text op) (part_bits (operator_level op + 1) b bs)) ts (positive_level op) g.0 e) (λ r.
      share (next kinds.Mark (operator_text op) r.rest (words_of (part_bits (operator_level op + 1) b bs)) (r.left ∙ operator_words op (part_bits (operator_level op + 1) b bs))) (λ n.
      share (part_read (operator_level op + 1) b bs n.rest (omega arith) g.1 n.left) (λ s.
      both (operator_level op) (bare (trees.Binary op (stripped a) (stripped b))) ts bs (positive_level op)
      (between_read (infixes.Operator op) (operator_level op) (operator_level op + 1) _ (stripped a) (stripped b) ts bs (spaced_bits (operator_text op) (part_bits (operator_level op + 1) b bs)) (operator_text op) _ (infix_symbol op) (same_level op) refl
      (λ p x y l m. rw (l, m) refl) r n (operator_below op) s))))
  kind_read (trees.AndThen a b) bs ts g e =
      share (part_read 4 a (spaced_bits (codes "&&") (part_bits 5 b bs)) ts (omega arith) g.0 e) (λ r.
      share (next kinds.Mark (codes "&&") r.rest (words_of (part_bits 5 b bs)) r.left) (λ n.
      share (part_read 5 b bs n.rest (omega arith) g.1 n.left) (λ s.
      both 4 (bare (trees.AndThen (stripped a) (stripped b))) ts bs (omega arith)
      (between_read infixes.AndThen 4 5 _ (stripped a) (stripped b) ts bs (spaced_bits (codes "&&") (part_bits 5 b bs)) (codes "&&") _ refl refl refl (λ p x y l m. rw (l, m) refl) r n (omega arith) s))))
  kind_read (trees.OrElse a b) bs ts g e =
      share (part_read 3 a (spaced_bits (codes "||") (part_bits 4 b bs)) ts (omega arith) g.0 e) (λ r.
      share (next kinds.Mark (codes "||") r.rest (words_of (part_bits 4 b bs)) r.left) (λ n.
      share (part_read 4 b bs n.rest (omega arith) g.1 n.left) (λ s.
      both 3 (bare (trees.OrElse (stripped a) (stripped b))) ts bs (omega arith)
      (between_read infixes.OrElse 3 4 _ (stripped a) (stripped b) ts bs (spaced_bits (codes "||") (part_bits 4 b bs)) (codes "||") _ refl refl refl (λ p x y l m. rw (l, m) refl) r n (omega arith) s))))
  kind_read (trees.Choice c a b) bs ts g e =
      share (part_read 3 c (spaced_bits (codes "?") (expression_bits a (spaced_bits (codes ":") (part_bits 2 b bs)))) ts (omega arith) g.0 e) (λ r.
      share (next kinds.Mark (codes "?") r.rest (words_of (expression_bits a (spaced_bits (codes ":") (part_bits 2 b bs)))) r.left) (λ n.
      share ((expression_read a (spaced_bits (codes ":") (part_bits 2 b bs)) n.rest g.1 n.left).0) (λ s.
      share (next kinds.Mark (codes ":") s.rest (words_of (part_bits 2 b bs)) s.left) (λ m.
      share (part_read 2 b bs m.rest (omega arith) g.2 m.left) (λ t.
      both 2 (bare (trees.Choice (stripped c) (stripped a) (stripped b))) ts bs (omega arith) (record {
        written = Choice r.written n.token s.first s.others m.token t.written;
        rest = t.rest;
        fits = (omega arith, r.fits, n.symbol, s.fits, s.others_fit, m.symbol, t.fits);
        varies = λ h. refl;
        split = r.split ∙ ap (spell r.written) (n.split ∙ ap (λ u. n.token ∷ u) (s.split ∙ ap (λ u. spell s.first (spell_tail s.others u)) (m.split ∙ ap (λ u. m.token ∷ u) t.split)));
        left = t.left;
        means = choice_means _ _ _ _ _ _ r.means s.means t.means;
      }))))))
  kind_read (trees.Assign op a b) bs ts g e =
      share (part_read 14 a (spaced_bits (assignment_mark op) (part_bits 1 b bs)) ts (omega arith) g.1 e) (λ r.
      share (next kinds.Mark (assignment_mark op) r.rest (words_of (part_bits 1 b bs)) (r.left ∙ assignment_words op (part_bits 1 b bs))) (λ n.
      share (part_read 1 b bs n.rest (omega arith) g.2 n.left) (λ s.
      both 1 (bare (trees.Assign op (stripped a) (stripped b))) ts bs (omega arith) (record {
        written = Assign r.written n.token op s.written;
        rest = s.rest;
        fits = (omega arith, r.fits, n.symbol ∙ assignment_symbol op g.0, s.fits);
        varies = λ h. refl;
        split = r.split ∙ ap (spell r.written) (n.split ∙ ap (λ u. n.token ∷ u) s.split);
        left = s.left;
        means = pair_means (λ x y. bare (trees.Assign op x y)) _ _ _ _ r.means s.means;
      }))))
  kind_read (trees.Comma all) bs ts g e = (comma_read all bs ts g.0 g.1 e, λ h. absurd (omega (arith, h)))
  kind_read (trees.Cast ty a true) bs ts g e =
      share (next kinds.Mark (codes "(") ts (words_of (type_bits ty (mark (codes ")") (part_bits 13 a bs)))) e) (λ n.
      share (type_read ty (mark (codes ")") (part_bits 13 a bs)) n.rest g.0 n.left) (λ t.
      share (next kinds.Mark (codes ")") t.rest (words_of (part_bits 13 a bs)) t.left) (λ c.
      share (part_read 13 a bs c.rest (omega arith) g.1 c.left) (λ r.
      both 13 (bare (trees.Cast (unnumbered ty) (stripped a) true)) ts bs (omega arith) (record {
        written = Cast n.token t.words ty c.token r.written;
        rest = r.rest;
        fits = (omega arith, n.symbol, t.is, c.symbol, r.fits);
        varies = λ h. refl;
        split = n.split ∙ ap (λ u. n.token ∷ u) (t.split ∙ ap (λ u. t.words ++ u) (c.split ∙ ap (λ u. c.token ∷ u) r.split));
        left = r.left;
        means = ap (λ x. bare (trees.Cast (unnumbered ty) x true)) r.means;
      })))))
  kind_read (trees.Cast ty a false) bs ts g e = expression_read a bs ts g e
  kind_read (trees.Index a b) bs ts g e =
      share (part_read 17 a (mark (codes "[") (expression_bits b (mark (codes "]") bs))) ts (omega arith) g.0 e) (λ r.
      share (next kinds.Mark (codes "[") r.rest (words_of (expression_bits b (mark (codes "]") bs))) r.left) (λ n.
      share ((expression_read b (mark (codes "]") bs) n.rest g.1 n.left).0) (λ s.
      share (next kinds.Mark (codes "]") s.rest (words_of bs) s.left) (λ m.
      both 16 (bare (trees.Index (stripped a) (stripped b))) ts bs (omega arith) (record {
        written = Index r.written n.token s.first s.others m.token;
        rest = m.rest;
        fits = (omega arith, r.fits, n.symbol, s.fits, s.others_fit, m.symbol);
        varies = λ h. refl;
        split = r.split ∙ ap (spell r.written) (n.split ∙ ap (λ u. n.token ∷ u) (s.split ∙ ap (λ u. spell s.first (spell_tail s.others u)) m.split));
        left = m.left;
        means = pair_means (λ x y. bare (trees.Index x y)) _ _ _ _ r.means s.means;
      })))))
  kind_read (trees.Deref a) bs ts g e =
      share (next kinds.Mark (codes "*") ts (words_of (operand_bits a bs)) e) (λ n.
      share (operand_read a bs n.rest g n.left) (λ r.
      both 14 (bare (trees.Deref (stripped a))) ts bs (omega arith) (record {
        written = Prefix n.token trees.Deref r.written;
        rest = r.rest;
        fits = (omega arith, ap prefix_of n.symbol, r.fits);
        varies = λ h. refl;
        split = n.split ∙ ap (λ u. n.token ∷ u) r.split;
        left = r.left;
        means = ap (λ x. bare (trees.Deref x)) r.means;
      })))
  kind_read (trees.Address a) bs ts g e =
      share (next kinds.Mark (codes "&") ts (words_of (operand_bits a bs)) e) (λ n.
      share (operand_read a bs n.rest g n.left) (λ r.
      both 14 (bare (trees.Address (stripped a))) ts bs (omega arith) (record {
        written = Prefix n.token trees.Address r.written;
        rest = r.rest;
        fits = (omega arith, ap prefix_of n.symbol, r.fits);
        varies = λ h. refl;
        split = n.split ∙ ap (λ u. n.token ∷ u) r.split;
        left = r.left;
        means = ap (λ x. bare (trees.Address x)) r.means;
      })))
  kind_read (trees.Call f NoTrees) bs ts g e =
      share (next_name f (mark (codes "(") (mark (codes ")") bs)) ts g.0.named e) (λ n.
      share (next kinds.Mark (codes "(") n.rest (words_of (mark (codes ")") bs)) n.left) (λ o.
      share (next kinds.Mark (codes ")") o.rest (words_of bs) o.left) (λ c.
      both 18 (bare (trees.Call f NoTrees)) ts bs (omega arith) (record {
        written = Bare n.token o.token c.token;
        rest = c.rest;
        fits = (n.symbol ∙ g.0.free, o.symbol, c.symbol);
        varies = λ h. refl;
        split = n.split ∙ ap (λ u. n.token ∷ u) (o.split ∙ ap (λ u. o.token ∷ u) c.split);
        left = c.left;
        means = ap (λ y. bare (trees.Call y NoTrees)) n.has;
      }))))
  kind_read (trees.Call f (More a all)) bs ts g e =
      share (next_name f (mark (codes "(") (part_bits 1 a (more_bits all (mark (codes ")") bs)))) ts g.0.named e) (λ n.
      share (next kinds.Mark (codes "(") n.rest (words_of (part_bits 1 a (more_bits all (mark (codes ")") bs)))) n.left) (λ o.
      share (part_read 1 a (more_bits all (mark (codes ")") bs)) o.rest (omega arith) g.1.0 o.left) (λ r.
      share (more_read all (mark (codes ")") bs) r.rest g.1.1 r.left) (λ m.
      share (next kinds.Mark (codes ")") m.rest (words_of bs) m.left) (λ c.
      both 18 (bare (trees.Call f (More (stripped a) (stripped_all all)))) ts bs (omega arith) (record {
        written = Call n.token o.token r.written m.others c.token;
        rest = c.rest;
        fits = (n.symbol ∙ g.0.free, o.symbol, r.fits, m.fits, c.symbol);
        varies = λ h. refl;
        split = n.split ∙ ap (λ u. n.token ∷ u) (o.split ∙ ap (λ u. o.token ∷ u) (r.split ∙ ap (spell r.written) (m.split ∙ ap (spell_tail m.others) c.split)));
        left = c.left;
        means = call_means _ _ _ _ _ _ n.has r.means m.means;
      }))))))
  kind_read (trees.Half a k) bs ts g e =
      share (part_read 18 a (mark (codes ".") (name (codes "val") (mark (codes "[") (number (decimal k) (mark (codes "]") bs))))) ts (omega arith) g.0 e) (λ r.
      share (next kinds.Mark (codes ".") r.rest (words_of (name (codes "val") (mark (codes "[") (number (decimal k) (mark (codes "]") bs))))) r.left) (λ d.
      share (next kinds.Name (codes "val") d.rest (words_of (mark (codes "[") (number (decimal k) (mark (codes "]") bs)))) d.left) (λ v.
      share (next kinds.Mark (codes "[") v.rest (words_of (number (decimal k) (mark (codes "]") bs))) v.left) (λ s.
      share (next kinds.Number (decimal k) s.rest (words_of (mark (codes "]") bs)) (s.left ∙ half_words k (mark (codes "]") bs) g.1)) (λ n.
      share (next kinds.Mark (codes "]") n.rest (words_of bs) n.left) (λ c.
      both 15 (bare (trees.Half (stripped a) k)) ts bs (omega arith) (record {
        written = Half r.written d.token v.token s.token n.token k c.token;
        rest = c.rest;
        fits = (omega arith, looser 18 17 r.written (omega arith) r.fits, r.varies (omega arith), refl, d.symbol, v.symbol, v.has, s.symbol, half_small n.token k g.1 n.is_kind n.has, c.symbol);
        varies = λ h. refl;
        split = r.split ∙ ap (spell r.written) (d.split ∙ ap (λ u. d.token ∷ u) (v.split ∙ ap (λ u. v.token ∷ u) (s.split ∙ ap (λ u. s.token ∷ u) (n.split ∙ ap (λ u. n.token ∷ u) c.split))));
        left = c.left;
        means = ap (λ x. bare (trees.Half x k)) r.means;
      })))))))
  kind_read (trees.PairOf a b) bs ts g e =
      share (next kinds.Mark (codes "(") ts _ e) (λ o.
      share (next kinds.Name (codes "uint8x16x2_t") o.rest _ o.left) (λ w.
      share (next kinds.Mark (codes ")") w.rest _ w.left) (λ c.
      share (next kinds.Mark (codes "{") c.rest _ c.left) (λ x.
      share (next kinds.Mark (codes "{") x.rest (words_of (part_bits 1 a (comma (part_bits 1 b (mark (codes "}") (mark (codes "}") bs)))))) x.left) (λ y.
      share (part_read 1 a (comma (part_bits 1 b (mark (codes "}") (mark (codes "}") bs)))) y.rest (omega arith) g.0 y.left) (λ r.
      share (next kinds.Mark (codes ",") r.rest (words_of (part_bits 1 b (mark (codes "}") (mark (codes "}") bs)))) r.left) (λ m.
      share (part_read 1 b (mark (codes "}") (mark (codes "}") bs)) m.rest (omega arith) g.1 m.left) (λ s.
      share (next kinds.Mark (codes "}") s.rest (words_of (mark (codes "}") bs)) s.left) (λ u.
      share (next kinds.Mark (codes "}") u.rest (words_of bs) u.left) (λ v.
      both 18 (bare (trees.PairOf (stripped a) (stripped b))) ts bs (omega arith) (record {
        written = Pair o.token w.token c.token x.token y.token r.written m.token s.written u.token v.token;
        rest = v.rest;
        fits = (o.symbol, w.symbol, c.symbol, x.symbol, y.symbol, r.fits, m.symbol, s.fits, u.symbol, v.symbol);
        varies = λ h. refl;
        split = o.split ∙ ap (λ q. o.token ∷ q) (w.split ∙ ap (λ q. w.token ∷ q) (c.split ∙ ap (λ q. c.token ∷ q) (x.split ∙ ap (λ q. x.token ∷ q) (y.split ∙ ap (λ q. y.token ∷ q) (r.split ∙ ap (spell r.written)
            (m.split ∙ ap (λ q. m.token ∷ q) (s.split ∙ ap (spell s.written) (u.split ∙ ap (λ q. u.token ∷ q) v.split))))))));
        left = v.left;
        means = pair_means (λ x y. bare (trees.PairOf x y)) _ _ _ _ r.means s.means;
      })))))))))))
  kind_read (trees.SizeOfType ty) bs ts g e = absurd g
  kind_read (trees.SizeOfName x) bs ts g e = absurd g
  kind_read (trees.Str x) bs ts g e = absurd g

  -- two expressions or more, with commas between them
  comma_read : (all : Trees) (bs : List Bit) (ts : List Token) → Several all → GoodAll all → map said ts ≡ words_of (list_bits all bs) → Row (bare (trees.Comma (stripped_all all))) ts bs
  comma_read NoTrees bs ts s g e = absurd s
  comma_read (More a NoTrees) bs ts s g e = absurd s
  comma_read (More a (More b rest)) bs ts s g e =
      share (part_read 1 a (comma (part_bits 1 b (more_bits rest bs))) ts (omega arith) g.0 e) (λ r.
      share (next kinds.Mark (codes ",") r.rest (words_of (part_bits 1 b (more_bits rest bs))) r.left) (λ m.
      share (part_read 1 b (more_bits rest bs) m.rest (omega arith) g.1.0 m.left) (λ t.
      share (more_read rest bs t.rest g.1.1 t.left) (λ u.
      record {
        first = r.written;
        others = Then m.token t.written u.others;
        rest = u.rest;
        fits = r.fits;
        others_fit = (m.symbol, t.fits, u.fits);
        split = r.split ∙ ap (spell r.written) (m.split ∙ ap (λ q. m.token ∷ q) (t.split ∙ ap (spell t.written) u.split));
        left = u.left;
        means = comma_means _ _ _ _ _ _ r.means t.means u.means;
      }))))

  -- expressions behind commas
  pub more_read : (all : Trees) (bs : List Bit) (ts : List Token) → GoodAll all → map said ts ≡ words_of (more_bits all bs) → Behind (stripped_all all) ts bs
  more_read NoTrees bs ts g e = record { others = End; rest = ts; fits = tt; split = refl; left = e; means = refl }
  more_read (More a rest) bs ts g e =
      share (next kinds.Mark (codes ",") ts (words_of (part_bits 1 a (more_bits rest bs))) e) (λ m.
      share (part_read 1 a (more_bits rest bs) m.rest (omega arith) g.0 m.left) (λ r.
      share (more_read rest bs r.rest g.1 r.left) (λ u.
      record {
        others = Then m.token r.written u.others;
        rest = u.rest;
        fits = (m.symbol, r.fits, u.fits);
        split = m.split ∙ ap (λ q. m.token ∷ q) (r.split ∙ ap (spell r.written) u.split);
        left = u.left;
        means = more_means _ _ _ _ r.means u.means;
      })))
