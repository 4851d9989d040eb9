-- What holds of whole lists of tokens.
use Rattle.std.proofs.Common.{◌≡◌, List, [], Option, Some, sym, ◌∙◌, ap}
use Rattle.c_text.specs.declared.tokens.Dialect.{Dialect}
use Rattle.c_text.specs.declared.tokens.Token.{Token}
use Rattle.c_tree.specs.Tree.{Tree}
use Rattle.c_parse.specs.Reading.{or_else, expression_with, read}
use Rattle.c_parse.specs.Grammar.{Expression}
use Rattle.c_parse.proofs.Sound.{sound_row}
use Rattle.c_parse.proofs.Stable.{read_sound}
use Rattle.c_parse.proofs.Complete.{nothing_ends, row_complete}

-- the tree of all of the tokens is what is read
pub reads : (d : Dialect) (ts : List Token) (t : Tree) → Expression d ts t → expression_with (read d) ts ≡ Some (t, [])
reads d ts t e =
    ap (expression_with (read d)) e.spelled ∙ row_complete d e.first e.others [] e.fits.0 e.fits.1 (nothing_ends d) ∙ ap (λ x. Some (x, [])) e.means

-- what is read of all of the tokens is their tree
pub writes : (d : Dialect) (ts : List Token) (t : Tree) → expression_with (read d) ts ≡ Some (t, []) → Expression d ts t
writes d ts t e =
    let w = sound_row d (read d) (read_sound d) ts [] t e in
    record { first = w.first; others = w.others; fits = w.fits; spelled = w.spelled; means = w.means }

pub one_expression : (d : Dialect) (ts : List Token) (t u : Tree) → Expression d ts t → Expression d ts u → t ≡ u
one_expression d ts t u a b =
    let e : Some (t, []) ≡ Some (u, []) = sym (reads d ts t a) ∙ reads d ts u b in
    ap (λ (o : Option (Tree × List Token)). or_else o (λ x. x.0) t) e
