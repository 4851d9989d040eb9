-- Lists of statements and items that grow by one at their end.
use Rattle.std.proofs.Common.{◌≡◌, List, [], ◌∷◌, ◌++◌, Option, Some, None, map, refl, sym, ◌∙◌, ap}
use Rattle.std.proofs.lemmas.List.{map-append}
use Rattle.c_text.specs.declared.tokens.Dialect.{Dialect}
use Rattle.c_text.specs.declared.tokens.Token.{Token}
use Rattle.c_tree.specs.declared.statements.Stmt.{Stmt}
use Rattle.c_tree.specs.Tree.{Statement, Statements, Then}
use Rattle.c_tree.specs.View.{view_stmt, and_then}
use Rattle.c_parse.specs.declared.symbols.Sign.TheVariants as signs
use Rattle.c_parse.specs.Reading.{◌>>=◌, past}
use Rattle.c_parse.specs.StatementReading.{statement_of, statements_of, with_statements}
use Rattle.c_parse.proofs.StatementsStable.{statements_eq}

and_then-append : (all : List Statement) (s : Statement) (more : Statements) → and_then (all ++ s ∷ []) more ≡ and_then all (Then s more)
and_then-append [] s more = refl
and_then-append (x ∷ all) s more = ap (Then x) (and_then-append all s more)

front_grows : (all : List Stmt) (s : Stmt) (o : Option (Statements × List Token)) → with_statements all (o >>= λ r. Some (Then (view_stmt s) r.0, r.1)) ≡ with_statements (all ++ s ∷ []) o
front_grows all s (Some x) =
    ap (λ t. Some (t, x.1)) (sym (and_then-append (map view_stmt all) (view_stmt s) x.0) ∙ ap (λ l. and_then l x.0) (sym (map-append view_stmt all (s ∷ []))))
front_grows all s None = refl

-- one more statement of a block
pub block_step : (d : Dialect) (ts left after : List Token) (all new : List Stmt) (s : Stmt) → statements_of d ts ≡ with_statements all (statements_of d left) → past d signs.CloseBrace left ≡ None →
    statement_of d left ≡ Some (view_stmt s, after) → new ≡ all ++ s ∷ [] → statements_of d ts ≡ with_statements new (statements_of d after)
block_step d ts left after all new s goes close read grown =
    goes ∙ ap (with_statements all) (statements_eq d left ∙ rw (close, read) refl) ∙ front_grows all s (statements_of d after) ∙ ap (λ l. with_statements l (statements_of d after)) (sym grown)
