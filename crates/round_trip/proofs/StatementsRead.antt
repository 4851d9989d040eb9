-- Statements are read as they are written.
use Rattle.std.proofs.Common.{◌≡◌, ℕ, zero, suc, ◌+◌, List, [], ◌∷◌, ◌++◌, map, Bool, true, false, Option, Some, None, refl, sym, ◌∙◌, ap, ◌⊎◌, inl, inr}
use Rattle.std.specs.Prelude.{codes, option_map}
use Rattle.c_text.specs.declared.tokens.Dialect.TheVariants.{Neon}
use Rattle.c_text.specs.declared.tokens.Token.{Token}
use Rattle.c_text.specs.declared.tokens.TokenKind.TheVariants as kinds
use Rattle.c_tree.specs.Same.{nowhere, stripped, stripped_statement, stripped_optional, stripped_statements}
use Rattle.c_tree.specs.Tree as trees
use Rattle.c_tree.specs.Tree.{Tree, Object, Statement, Statements, Optional}
use Rattle.c_print.specs.declared.statements.Position.TheVariants.{Line, Body}
use Rattle.c_parse.specs.Grammar.{spell, spell_tail, tree, comma_tree, Expression}
use Rattle.c_parse.specs.Statements as grammar
use Rattle.c_parse.specs.Statements.{Part, Condition, Start, Declared, Started, Turns, WrittenStatement, WrittenStatements, IsWord, IsPart, IsCondition, IsStart, IsTurns, Fits, FitAll, spell_part, spell_condition, spell_start, spell_turns, spell_all, part_tree, started, start_tree, tree_all}
use Rattle.c_parse.proofs.Spelling.{spell_more, tail_more}
use Rattle.round_trip.specs.Words.{Bit, words_of, said}
use Rattle.round_trip.specs.Good.{Good}
use Rattle.round_trip.specs.GoodUnits.{GoodPart, GoodDeclaration, IsBlock, GoodStart, GoodStatement, GoodElse, GoodStatements}
use Rattle.round_trip.proofs.Bits.{name, mark, space, line_end, expression_bits}
use Rattle.round_trip.proofs.UnitBits.{margin_bits, optional_bits, simple_bits, start_bits, opened_bits, closed_bits, condition_bits, statement_bits, otherwise_bits, statements_bits}
use Rattle.round_trip.proofs.Tokens.{Word, Next, next}
use Rattle.round_trip.proofs.ExpressionsRead.{share, Row, expression_read}
use Rattle.round_trip.proofs.SpecifiersRead.{AlignedTogether, declaration_read}

-- an expression with commas, with the words that it is made of
pub record LeafRead (want : Tree) (ts : List Token) (bs : List Bit) : Type 0 where
  pub words : List Token
  pub rest : List Token
  pub made : Tree
  pub is : Expression Neon words made
  pub same : stripped made ≡ want
  pub split : ts ≡ words ++ rest
  pub left : map said rest ≡ words_of bs

leaf_of : (want : Tree) (ts : List Token) (bs : List Bit) → Row want ts bs → LeafRead want ts bs
leaf_of want ts bs r = record {
  words = spell r.first (spell_tail r.others []);
  rest = r.rest;
  made = comma_tree (tree r.first) r.others;
  is = record { first = r.first; others = r.others; fits = (r.fits, r.others_fit); spelled = refl; means = refl };
  same = r.means;
  split = r.split ∙ sym (spell_more r.first (spell_tail r.others []) r.rest ∙ ap (spell r.first) (tail_more r.others [] r.rest));
  left = r.left;
}

pub leaf_read : (e : Tree) (bs : List Bit) (ts : List Token) → Good e → map said ts ≡ words_of (expression_bits e bs) → LeafRead (stripped e) ts bs
leaf_read e bs ts g q = leaf_of (stripped e) ts bs (expression_read e bs ts g q).0

-- margins are white space
pub margin_words : (depth : ℕ) (bs : List Bit) → words_of (margin_bits depth bs) ≡ words_of bs
margin_words zero bs = refl
margin_words (suc depth) bs = margin_words depth bs

-- an expression that may be left out
pub record PartRead (want : Option Tree) (ts : List Token) (bs : List Bit) : Type 0 where
  pub part : Part
  pub rest : List Token
  pub is : IsPart Neon part
  pub same : option_map stripped (part_tree part) ≡ option_map stripped want
  pub split : ts ≡ spell_part part rest
  pub left : map said rest ≡ words_of bs

pub part_read : (e : Option Tree) (bs : List Bit) (ts : List Token) → GoodPart e → map said ts ≡ words_of (optional_bits e bs) → PartRead e ts bs
part_read None bs ts g q = record { part = None; rest = ts; is = tt; same = refl; split = refl; left = q }
part_read (Some e) bs ts g q = share (leaf_read e bs ts g q) (λ l. record { part = Some (l.words, l.made); rest = l.rest; is = l.is; same = ap Some l.same; split = l.split; left = l.left })

-- a condition in brackets
pub record ConditionRead (want : Tree) (ts : List Token) (bs : List Bit) : Type 0 where
  pub condition : Condition
  pub rest : List Token
  pub is : IsCondition Neon condition
  pub same : stripped condition.test ≡ want
  pub split : ts ≡ spell_condition condition rest
  pub left : map said rest ≡ words_of bs

pub condition_read : (c : Tree) (bs : List Bit) (ts : List Token) → Good c → map said ts ≡ words_of (mark (codes "(") (expression_bits c (mark (codes ")") bs))) → ConditionRead (stripped c) ts bs
condition_read c bs ts g q =
    share (next kinds.Mark (codes "(") ts (words_of (expression_bits c (mark (codes ")") bs))) q) (λ o.
    share (leaf_read c (mark (codes ")") bs) o.rest g o.left) (λ l.
    share (next kinds.Mark (codes ")") l.rest (words_of bs) l.left) (λ p.
    record {
      condition = record { opening = o.token; words = l.words; test = l.made; closing = p.token };
      rest = p.rest;
      is = (o.symbol, l.is, p.symbol);
      same = l.same;
      split = o.split ∙ ap (λ r. o.token ∷ r) (l.split ∙ ap (λ r. l.words ++ r) p.split);
      left = p.left;
    })))

-- that objects with the same text of their alignment have the same alignment
abbrev pub Alike : Type 0
Alike = (ds : List Object) → GoodDeclaration ds → AlignedTogether ds

-- what a `for` begins with
pub record StartRead (want : Optional) (ts : List Token) (bs : List Bit) : Type 0 where
  pub start : Start
  pub rest : List Token
  pub is : IsStart Neon start
  pub same : stripped_optional (start_tree start) ≡ stripped_optional want
  pub split : ts ≡ spell_start start rest
  pub left : map said rest ≡ words_of bs

pub start_read : Alike → (s : Optional) (bs : List Bit) (ts : List Token) → GoodStart s → map said ts ≡ words_of (start_bits s (mark (codes ";") bs)) → StartRead s ts bs
start_read alike trees.Absent bs ts g q =
    share (next kinds.Mark (codes ";") ts (words_of bs) q) (λ n.
    record { start = Started None n.token; rest = n.rest; is = (tt, n.symbol); same = refl; split = n.split; left = n.left })
start_read alike (trees.Present (trees.Declare ds)) bs ts g q =
    share (declaration_read ds bs ts g (alike ds g) q) (λ d.
    record { start = Declared d.words d.made; rest = d.rest; is = d.is; same = ap (λ x. trees.Present (trees.Declare x)) d.same; split = d.split; left = d.left })
start_read alike (trees.Present (trees.Run e)) bs ts g q =
    share (leaf_read e (mark (codes ";") bs) ts g q) (λ l.
    share (next kinds.Mark (codes ";") l.rest (words_of bs) l.left) (λ n.
    record { start = Started (Some (l.words, l.made)) n.token; rest = n.rest; is = (l.is, n.symbol); same = ap (λ x. trees.Present (trees.Run x)) l.same; split = l.split ∙ ap (λ r. l.words ++ r) n.split; left = n.left }))
start_read alike (trees.Present (trees.Block all)) bs ts g q = absurd g
start_read alike (trees.Present (trees.If c s o)) bs ts g q = absurd g
start_read alike (trees.Present (trees.While c s)) bs ts g q = absurd g
start_read alike (trees.Present (trees.DoWhile s c)) bs ts g q = absurd g
start_read alike (trees.Present (trees.For i c n s)) bs ts g q = absurd g
start_read alike (trees.Present (trees.Break p)) bs ts g q = absurd g
start_read alike (trees.Present (trees.Continue p)) bs ts g q = absurd g
start_read alike (trees.Present (trees.Return p e)) bs ts g q = absurd g
start_read alike (trees.Present trees.Empty) bs ts g q = absurd g

-- the heading of a `for`, behind its word
pub record TurnsRead (i : Optional) (c n : Option Tree) (ts : List Token) (bs : List Bit) : Type 0 where
  pub turns : Turns
  pub rest : List Token
  pub is : IsTurns Neon turns
  pub same_start : stripped_optional (start_tree turns.start) ≡ stripped_optional i
  pub same_test : option_map stripped (part_tree turns.test) ≡ option_map stripped c
  pub same_step : option_map stripped (part_tree turns.step) ≡ option_map stripped n
  pub split : ts ≡ spell_turns turns rest
  pub left : map said rest ≡ words_of bs

pub turns_read : Alike → (i : Optional) (c n : Option Tree) (bs : List Bit) (ts : List Token) → GoodStart i → GoodPart c → GoodPart n →
    map said ts ≡ words_of (mark (codes "(") (start_bits i (mark (codes ";") (optional_bits c (mark (codes ";") (optional_bits n (mark (codes ")") bs))))))) → TurnsRead i c n ts bs
turns_read alike i c n bs ts gi gc gn q =
    share (next kinds.Mark (codes "(") ts (words_of (start_bits i (mark (codes ";") (optional_bits c (mark (codes ";") (optional_bits n (mark (codes ")") bs))))))) q) (λ o.
    share (start_read alike i (optional_bits c (mark (codes ";") (optional_bits n (mark (codes ")") bs)))) o.rest gi o.left) (λ a.
    share (part_read c (mark (codes ";") (optional_bits n (mark (codes ")") bs))) a.rest gc a.left) (λ b.
    share (next kinds.Mark (codes ";") b.rest (words_of (optional_bits n (mark (codes ")") bs))) b.left) (λ m.
    share (part_read n (mark (codes ")") bs) m.rest gn m.left) (λ d.
    share (next kinds.Mark (codes ")") d.rest (words_of bs) d.left) (λ p.
    record {
      turns = record { opening = o.token; start = a.start; test = b.part; semicolon = m.token; step = d.part; closing = p.token };
      rest = p.rest;
      is = (o.symbol, a.is, b.is, m.symbol, d.is, p.symbol);
      same_start = a.same;
      same_test = b.same;
      same_step = d.same;
      split = o.split ∙ ap (λ r. o.token ∷ r) (a.split ∙ ap (spell_start a.start) (b.split ∙ ap (spell_part b.part) (m.split ∙ ap (λ r. m.token ∷ r) (d.split ∙ ap (spell_part d.part) p.split))));
      left = p.left;
    }))))))

-- the first of these tokens are a statement that is the same
pub record StatementRead (want : Statement) (ts : List Token) (bs : List Bit) : Type 0 where
  pub written : WrittenStatement
  pub rest : List Token
  pub fits : Fits Neon false written
  pub same : stripped_statement (grammar.tree written) ≡ want
  pub split : ts ≡ grammar.spell written rest
  pub left : map said rest ≡ words_of bs

-- a block, which may stand in front of an `else`
pub record BlockRead (want : Statement) (ts : List Token) (bs : List Bit) : Type 0 where
  pub written : WrittenStatement
  pub rest : List Token
  pub fits : (closed : Bool) → Fits Neon closed written
  pub same : stripped_statement (grammar.tree written) ≡ want
  pub split : ts ≡ grammar.spell written rest
  pub left : map said rest ≡ words_of bs

-- statements up to the brace that closes them
pub record StatementsRead (want : Statements) (ts : List Token) (bs : List Bit) : Type 0 where
  pub written : WrittenStatements
  pub rest : List Token
  pub fits : FitAll Neon written
  pub same : stripped_statements (tree_all written) ≡ want
  pub split : ts ≡ spell_all written rest
  pub left : map said rest ≡ words_of bs

block_of : (all : Statements) (ts : List Token) (ws : List Word) (bs : List Bit) (n : Next kinds.Mark (codes "{") ts ws) → StatementsRead (stripped_statements all) n.rest bs → BlockRead (trees.Block (stripped_statements all)) ts bs
block_of all ts ws bs n r = record {
  written = grammar.Block n.token r.written;
  rest = r.rest;
  fits = λ closed. (n.symbol, r.fits);
  same = ap trees.Block r.same;
  split = n.split ∙ ap (λ u. n.token ∷ u) r.split;
  left = r.left;
}

while_of : (c : Tree) (s : Statement) (ts : List Token) (ws : List Word) (bs cs : List Bit) (n : Next kinds.Name (codes "while") ts ws) (r : ConditionRead (stripped c) n.rest cs) → BlockRead (stripped_statement s) r.rest bs →
    StatementRead (trees.While (stripped c) (stripped_statement s)) ts bs
while_of c s ts ws bs cs n r b = record {
  written = grammar.While n.token r.condition b.written;
  rest = b.rest;
  fits = (n.symbol, r.is, b.fits false);
  same = rw (r.same, b.same) refl;
  split = n.split ∙ ap (λ u. n.token ∷ u) (r.split ∙ ap (spell_condition r.condition) b.split);
  left = b.left;
}

for_of : (i : Optional) (c n : Option Tree) (s : Statement) (ts : List Token) (ws : List Word) (bs cs : List Bit) (f : Next kinds.Name (codes "for") ts ws) (h : TurnsRead i c n f.rest cs) → BlockRead (stripped_statement s) h.rest bs →
    StatementRead (trees.For (stripped_optional i) (option_map stripped c) (option_map stripped n) (stripped_statement s)) ts bs
for_of i c n s ts ws bs cs f h b = record {
  written = grammar.For f.token h.turns b.written;
  rest = b.rest;
  fits = (f.symbol, h.is, b.fits false);
  same = rw (h.same_start, h.same_test, h.same_step, b.same) refl;
  split = f.split ∙ ap (λ u. f.token ∷ u) (h.split ∙ ap (spell_turns h.turns) b.split);
  left = b.left;
}

do_of : (c : Tree) (s : Statement) (ts : List Token) (ws vs us : List Word) (bs cs ds : List Bit) (o : Next kinds.Name (codes "do") ts ws) (b : BlockRead (stripped_statement s) o.rest ds) (w : Next kinds.Name (codes "while") b.rest vs)
    (r : ConditionRead (stripped c) w.rest cs) (n : Next kinds.Mark (codes ";") r.rest (words_of bs)) → StatementRead (trees.DoWhile (stripped_statement s) (stripped c)) ts bs
do_of c s ts ws vs us bs cs ds o b w r n = record {
  written = grammar.DoWhile o.token b.written w.token r.condition n.token;
  rest = n.rest;
  fits = (o.symbol, b.fits false, w.symbol, r.is, n.symbol);
  same = rw (r.same, b.same) refl;
  split = o.split ∙ ap (λ u. o.token ∷ u) (b.split ∙ ap (grammar.spell b.written) (w.split ∙ ap (λ u. w.token ∷ u) (r.split ∙ ap (spell_condition r.condition) n.split)));
  left = n.left;
}

if_of : (c : Tree) (s : Statement) (ts : List Token) (ws : List Word) (bs cs : List Bit) (n : Next kinds.Name (codes "if") ts ws) (r : ConditionRead (stripped c) n.rest cs) → BlockRead (stripped_statement s) r.rest bs →
    StatementRead (trees.If (stripped c) (stripped_statement s) trees.Absent) ts bs
if_of c s ts ws bs cs n r b = record {
  written = grammar.If n.token r.condition b.written;
  rest = b.rest;
  fits = (refl, n.symbol, r.is, b.fits false);
  same = rw (r.same, b.same) refl;
  split = n.split ∙ ap (λ u. n.token ∷ u) (r.split ∙ ap (spell_condition r.condition) b.split);
  left = b.left;
}

if_else_of : (c : Tree) (s t : Statement) (ts : List Token) (ws vs : List Word) (bs cs ds : List Bit) (n : Next kinds.Name (codes "if") ts ws) (r : ConditionRead (stripped c) n.rest cs) (b : BlockRead (stripped_statement s) r.rest ds)
    (l : Next kinds.Name (codes "else") b.rest vs) → StatementRead (stripped_statement t) l.rest bs → StatementRead (trees.If (stripped c) (stripped_statement s) (trees.Present (stripped_statement t))) ts bs
if_else_of c s t ts ws vs bs cs ds n r b l e = record {
  written = grammar.IfElse n.token r.condition b.written l.token e.written;
  rest = e.rest;
  fits = (n.symbol, r.is, b.fits true, l.symbol, e.fits);
  same = rw (r.same, b.same, e.same) refl;
  split = n.split ∙ ap (λ u. n.token ∷ u) (r.split ∙ ap (spell_condition r.condition) (b.split ∙ ap (grammar.spell b.written) (l.split ∙ ap (λ u. l.token ∷ u) e.split)));
  left = e.left;
}

-- a line's end is white space
line_ended : (want : Statement) (ts : List Token) (bs : List Bit) → StatementRead want ts (line_end bs) → StatementRead want ts bs
line_ended want ts bs r = record { written = r.written; rest = r.rest; fits = r.fits; same = r.same; split = r.split; left = r.left }

as_statement : (want : Statement) (ts : List Token) (bs : List Bit) → BlockRead want ts bs → StatementRead want ts bs
as_statement want ts bs b = record { written = b.written; rest = b.rest; fits = b.fits false; same = b.same; split = b.split; left = b.left }

-- `else`, and a statement behind it
abbrev pub ElseRead : Statement → List Token → List Bit → Type 0
ElseRead t ts bs = (ws : List Word) × (l : Next kinds.Name (codes "else") ts ws) × StatementRead (stripped_statement t) l.rest bs

else_of : (t : Statement) (ts : List Token) (ws : List Word) (bs : List Bit) (l : Next kinds.Name (codes "else") ts ws) → StatementRead (stripped_statement t) l.rest bs → ElseRead t ts bs
else_of t ts ws bs l r = (ws, l, r)

neither : ⊥ ⊎ ⊥ → ⊥
neither (inl x) = x
neither (inr x) = x

abbrev pub IsSimple : Statement → Type 0
IsSimple (trees.Block all) = ⊥
IsSimple (trees.If c s o) = ⊥
IsSimple (trees.While c s) = ⊥
IsSimple (trees.DoWhile s c) = ⊥
IsSimple (trees.For i c n s) = ⊥
IsSimple s = Unit {0}

-- a statement without others in it, behind its margin
pub simple_read : Alike → (s : Statement) (bs : List Bit) (ts : List Token) → IsSimple s → GoodStatement s → map said ts ≡ words_of (simple_bits s (mark (codes ";") (line_end bs))) → StatementRead (stripped_statement s) ts bs
simple_read alike (trees.Declare ds) bs ts i g q =
    share (declaration_read ds (line_end bs) ts g (alike ds g) q) (λ d.
    record { written = grammar.Declare d.words d.made; rest = d.rest; fits = d.is; same = ap trees.Declare d.same; split = d.split; left = d.left })
simple_read alike (trees.Run e) bs ts i g q =
    share (leaf_read e (mark (codes ";") (line_end bs)) ts g q) (λ l.
    share (next kinds.Mark (codes ";") l.rest (words_of bs) l.left) (λ n.
    record { written = grammar.Run l.words l.made n.token; rest = n.rest; fits = (l.is, n.symbol); same = ap trees.Run l.same; split = l.split ∙ ap (λ r. l.words ++ r) n.split; left = n.left }))
simple_read alike (trees.Break p) bs ts i g q =
    share (next kinds.Name (codes "break") ts (words_of (mark (codes ";") (line_end bs))) q) (λ b.
    share (next kinds.Mark (codes ";") b.rest (words_of bs) b.left) (λ n.
    record { written = grammar.Break b.token n.token; rest = n.rest; fits = (b.symbol, n.symbol); same = refl; split = b.split ∙ ap (λ r. b.token ∷ r) n.split; left = n.left }))
simple_read alike (trees.Continue p) bs ts i g q =
    share (next kinds.Name (codes "continue") ts (words_of (mark (codes ";") (line_end bs))) q) (λ b.
    share (next kinds.Mark (codes ";") b.rest (words_of bs) b.left) (λ n.
    record { written = grammar.Continue b.token n.token; rest = n.rest; fits = (b.symbol, n.symbol); same = refl; split = b.split ∙ ap (λ r. b.token ∷ r) n.split; left = n.left }))
simple_read alike (trees.Return p e) bs ts i g q =
    share (next kinds.Name (codes "return") ts (words_of (optional_bits e (mark (codes ";") (line_end bs)))) q) (λ b.
    share (part_read e (mark (codes ";") (line_end bs)) b.rest g b.left) (λ d.
    share (next kinds.Mark (codes ";") d.rest (words_of bs) d.left) (λ n.
    record { written = grammar.Return b.token d.part n.token; rest = n.rest; fits = (b.symbol, d.is, n.symbol); same = ap (trees.Return nowhere) d.same; split = b.split ∙ ap (λ r. b.token ∷ r) (d.split ∙ ap (spell_part d.part) n.split); left = n.left })))
simple_read alike trees.Empty bs ts i g q =
    share (next kinds.Mark (codes ";") ts (words_of bs) q) (λ n.
    record { written = grammar.Empty n.token; rest = n.rest; fits = n.symbol; same = refl; split = n.split; left = n.left })
simple_read alike (trees.Block all) bs ts i g q = absurd i
simple_read alike (trees.If c s o) bs ts i g q = absurd i
simple_read alike (trees.While c s) bs ts i g q = absurd i
simple_read alike (trees.DoWhile s c) bs ts i g q = absurd i
simple_read alike (trees.For a c n s) bs ts i g q = absurd i

-- an `if` without an `else`
if_by : (depth : ℕ) (c : Tree) (s : Statement) (bs : List Bit) (ts : List Token) → Good c →
    ((us : List Token) → map said us ≡ words_of (opened_bits (statement_bits Body (depth + 1) s (closed_bits depth (line_end bs)))) → BlockRead (stripped_statement s) us (line_end bs)) →
    map said ts ≡ words_of (condition_bits (codes "if") c (opened_bits (statement_bits Body (depth + 1) s (closed_bits depth (line_end bs))))) → StatementRead (trees.If (stripped c) (stripped_statement s) trees.Absent) ts bs
if_by depth c s bs ts gc body q =
    share (next kinds.Name (codes "if") ts (words_of (mark (codes "(") (expression_bits c (mark (codes ")") (space (opened_bits (statement_bits Body (depth + 1) s (closed_bits depth (line_end bs))))))))) q) (λ n.
    share (condition_read c (space (opened_bits (statement_bits Body (depth + 1) s (closed_bits depth (line_end bs))))) n.rest gc n.left) (λ r.
    share (body r.rest r.left) (λ b.
    line_ended _ ts bs (if_of c s ts _ (line_end bs) _ n r b))))

-- an `if` with an `else`
if_else_by : (depth : ℕ) (c : Tree) (s t : Statement) (bs : List Bit) (ts : List Token) → Good c →
    ((us : List Token) → map said us ≡ words_of (opened_bits (statement_bits Body (depth + 1) s (closed_bits depth (otherwise_bits depth (trees.Present t) bs)))) → BlockRead (stripped_statement s) us (otherwise_bits depth (trees.Present t) bs)) →
    ((us : List Token) → map said us ≡ words_of (otherwise_bits depth (trees.Present t) bs) → ElseRead t us bs) →
    map said ts ≡ words_of (condition_bits (codes "if") c (opened_bits (statement_bits Body (depth + 1) s (closed_bits depth (otherwise_bits depth (trees.Present t) bs))))) →
    StatementRead (trees.If (stripped c) (stripped_statement s) (trees.Present (stripped_statement t))) ts bs
if_else_by depth c s t bs ts gc body otherwise q =
    share (next kinds.Name (codes "if") ts (words_of (mark (codes "(") (expression_bits c (mark (codes ")") (space (opened_bits (statement_bits Body (depth + 1) s (closed_bits depth (otherwise_bits depth (trees.Present t) bs))))))))) q) (λ n.
    share (condition_read c (space (opened_bits (statement_bits Body (depth + 1) s (closed_bits depth (otherwise_bits depth (trees.Present t) bs))))) n.rest gc n.left) (λ r.
    share (body r.rest r.left) (λ b.
    share (otherwise b.rest b.left) (λ l.
    if_else_of c s t ts _ l.0 bs _ _ n r b l.1 l.2))))

mutual
  -- a statement on a line of its own
  pub line_read : Alike → (depth : ℕ) (s : Statement) (bs : List Bit) (ts : List Token) → GoodStatement s → map said ts ≡ words_of (statement_bits Line depth s bs) → StatementRead (stripped_statement s) ts bs
  line_read alike depth (trees.Declare ds) bs ts g q = simple_read alike (trees.Declare ds) bs ts tt g (q ∙ margin_words depth _)
  line_read alike depth (trees.Run e) bs ts g q = simple_read alike (trees.Run e) bs ts tt g (q ∙ margin_words depth _)
  line_read alike depth (trees.Break p) bs ts g q = simple_read alike (trees.Break p) bs ts tt g (q ∙ margin_words depth _)
  line_read alike depth (trees.Continue p) bs ts g q = simple_read alike (trees.Continue p) bs ts tt g (q ∙ margin_words depth _)
  line_read alike depth (trees.Return p e) bs ts g q = simple_read alike (trees.Return p e) bs ts tt g (q ∙ margin_words depth _)
  line_read alike depth trees.Empty bs ts g q = simple_read alike trees.Empty bs ts tt g (q ∙ margin_words depth _)
  line_read alike depth (trees.Block all) bs ts g q =
      share (next kinds.Mark (codes "{") ts (words_of (statements_bits (depth + 1) all (closed_bits depth (line_end bs)))) (q ∙ margin_words depth _)) (λ n.
      share (statements_read alike (depth + 1) all depth (line_end bs) n.rest g n.left) (λ r.
      line_ended (trees.Block (stripped_statements all)) ts bs (as_statement (trees.Block (stripped_statements all)) ts (line_end bs) (block_of all ts _ (line_end bs) n r))))
  line_read alike depth (trees.If c s trees.Absent) bs ts g q = if_by depth c s bs ts g.0 (λ us d. body_read alike depth s (line_end bs) us g.1 g.2 d) (q ∙ margin_words depth _)
  line_read alike depth (trees.If c s (trees.Present t)) bs ts g q = if_else_by depth c s t bs ts g.0 (λ us d. body_read alike depth s (otherwise_bits depth (trees.Present t) bs) us g.1 g.2 d) (λ us d. else_read alike depth t bs us g.3 d) (q ∙ margin_words depth _)
  line_read alike depth (trees.While c s) bs ts g q =
      share (next kinds.Name (codes "while") ts (words_of (mark (codes "(") (expression_bits c (mark (codes ")") (space (opened_bits (statement_bits Body (depth + 1) s (closed_bits depth (line_end bs))))))))) (q ∙ margin_words depth _)) (λ n.
      share (condition_read c (space (opened_bits (statement_bits Body (depth + 1) s (closed_bits depth (line_end bs))))) n.rest g.0 n.left) (λ r.
      share (body_read alike depth s (line_end bs) r.rest g.1 g.2 r.left) (λ b.
      line_ended (trees.While (stripped c) (stripped_statement s)) ts bs (while_of c s ts _ (line_end bs) _ n r b))))
  line_read alike depth (trees.DoWhile s c) bs ts g q =
      share (next kinds.Name (codes "do") ts (words_of (opened_bits (statement_bits Body (depth + 1) s (closed_bits depth (space (name (codes "while") (space (mark (codes "(") (expression_bits c (mark (codes ")") (mark (codes ";") (line_end bs)))))))))))) (q ∙ margin_words depth _)) (λ o.
      share (body_read alike depth s (space (name (codes "while") (space (mark (codes "(") (expression_bits c (mark (codes ")") (mark (codes ";") (line_end bs)))))))) o.rest g.0 g.1 o.left) (λ b.
      share (next kinds.Name (codes "while") b.rest (words_of (mark (codes "(") (expression_bits c (mark (codes ")") (mark (codes ";") (line_end bs)))))) b.left) (λ w.
      share (condition_read c (mark (codes ";") (line_end bs)) w.rest g.2 w.left) (λ r.
      share (next kinds.Mark (codes ";") r.rest (words_of bs) r.left) (λ n.
      do_of c s ts _ _ [] bs _ _ o b w r n)))))
  line_read alike depth (trees.For i c n s) bs ts g q =
      share (next kinds.Name (codes "for") ts (words_of (mark (codes "(") (start_bits i (mark (codes ";") (optional_bits c (mark (codes ";") (optional_bits n (mark (codes ")") (space (opened_bits (statement_bits Body (depth + 1) s (closed_bits depth (line_end bs)))))))))))))
      (q ∙ margin_words depth _)) (λ f.
      share (turns_read alike i c n (space (opened_bits (statement_bits Body (depth + 1) s (closed_bits depth (line_end bs))))) f.rest g.0 g.1 g.2 f.left) (λ h.
      share (body_read alike depth s (line_end bs) h.rest g.3 g.4 h.left) (λ b.
      line_ended (trees.For (stripped_optional i) (option_map stripped c) (option_map stripped n) (stripped_statement s)) ts bs (for_of i c n s ts _ (line_end bs) _ f h b))))

  -- `else`, and what is behind it
  else_read : Alike → (depth : ℕ) (t : Statement) (bs : List Bit) (ts : List Token) → GoodElse (trees.Present t) → map said ts ≡ words_of (otherwise_bits depth (trees.Present t) bs) → ElseRead t ts bs
  else_read alike depth (trees.Block all) bs ts g q =
      share (next kinds.Name (codes "else") ts (words_of (opened_bits (statements_bits (depth + 1) all (closed_bits depth (line_end bs))))) q) (λ l.
      share (next kinds.Mark (codes "{") l.rest (words_of (statements_bits (depth + 1) all (closed_bits depth (line_end bs)))) l.left) (λ n.
      share (statements_read alike (depth + 1) all depth (line_end bs) n.rest g.1 n.left) (λ r.
      else_of (trees.Block all) ts _ bs l (line_ended (trees.Block (stripped_statements all)) l.rest bs (as_statement (trees.Block (stripped_statements all)) l.rest (line_end bs) (block_of all l.rest _ (line_end bs) n r))))))
  else_read alike depth (trees.If c s trees.Absent) bs ts g q =
      share (next kinds.Name (codes "else") ts (words_of (condition_bits (codes "if") c (opened_bits (statement_bits Body (depth + 1) s (closed_bits depth (line_end bs)))))) q) (λ l.
      else_of (trees.If c s trees.Absent) ts _ bs l (if_by depth c s bs l.rest g.1.0 (λ us d. body_read alike depth s (line_end bs) us g.1.1 g.1.2 d) l.left))
  else_read alike depth (trees.If c s (trees.Present t)) bs ts g q =
      share (next kinds.Name (codes "else") ts (words_of (condition_bits (codes "if") c (opened_bits (statement_bits Body (depth + 1) s (closed_bits depth (otherwise_bits depth (trees.Present t) bs)))))) q) (λ l.
      else_of (trees.If c s (trees.Present t)) ts _ bs l (if_else_by depth c s t bs l.rest g.1.0 (λ us d. body_read alike depth s (otherwise_bits depth (trees.Present t) bs) us g.1.1 g.1.2 d) (λ us d. else_read alike depth t bs us g.1.3 d) l.left))
  else_read alike depth (trees.Declare ds) bs ts g q = absurd (neither g.0)
  else_read alike depth (trees.Run e) bs ts g q = absurd (neither g.0)
  else_read alike depth (trees.While c s) bs ts g q = absurd (neither g.0)
  else_read alike depth (trees.DoWhile s c) bs ts g q = absurd (neither g.0)
  else_read alike depth (trees.For i c n s) bs ts g q = absurd (neither g.0)
  else_read alike depth (trees.Break p) bs ts g q = absurd (neither g.0)
  else_read alike depth (trees.Continue p) bs ts g q = absurd (neither g.0)
  else_read alike depth (trees.Return p e) bs ts g q = absurd (neither g.0)
  else_read alike depth trees.Empty bs ts g q = absurd (neither g.0)

  -- the block of a heading
  body_read : Alike → (depth : ℕ) (s : Statement) (bs : List Bit) (ts : List Token) → IsBlock s → GoodStatement s → map said ts ≡ words_of (opened_bits (statement_bits Body (depth + 1) s (closed_bits depth bs))) → BlockRead (stripped_statement s) ts bs
  body_read alike depth (trees.Block all) bs ts i g q =
      share (next kinds.Mark (codes "{") ts (words_of (statements_bits (depth + 1) all (closed_bits depth bs))) q) (λ n.
      share (statements_read alike (depth + 1) all depth bs n.rest g n.left) (λ r.
      block_of all ts _ bs n r))
  body_read alike depth (trees.Declare ds) bs ts i g q = absurd i
  body_read alike depth (trees.Run e) bs ts i g q = absurd i
  body_read alike depth (trees.If c s o) bs ts i g q = absurd i
  body_read alike depth (trees.While c s) bs ts i g q = absurd i
  body_read alike depth (trees.DoWhile s c) bs ts i g q = absurd i
  body_read alike depth (trees.For a c n s) bs ts i g q = absurd i
  body_read alike depth (trees.Break p) bs ts i g q = absurd i
  body_read alike depth (trees.Continue p) bs ts i g q = absurd i
  body_read alike depth (trees.Return p e) bs ts i g q = absurd i
  body_read alike depth trees.Empty bs ts i g q = absurd i

  -- statements, and the brace that closes them behind this margin
  pub statements_read : Alike → (depth : ℕ) (all : Statements) (outer : ℕ) (bs : List Bit) (ts : List Token) → GoodStatements all → map said ts ≡ words_of (statements_bits depth all (closed_bits outer bs)) → StatementsRead (stripped_statements all) ts bs
  statements_read alike depth trees.NoStatements outer bs ts g q =
      share (next kinds.Mark (codes "}") ts (words_of bs) (q ∙ margin_words outer _)) (λ n.
      record { written = grammar.End n.token; rest = n.rest; fits = n.symbol; same = refl; split = n.split; left = n.left })
  statements_read alike depth (trees.Then s rest) outer bs ts g q =
      share (line_read alike depth s (statements_bits depth rest (closed_bits outer bs)) ts g.0 q) (λ a.
      share (statements_read alike depth rest outer bs a.rest g.1 a.left) (λ b.
      record { written = grammar.Then a.written b.written; rest = b.rest; fits = (a.fits, b.fits); same = rw (a.same, b.same) refl; split = a.split ∙ ap (grammar.spell a.written) b.split; left = b.left }))
