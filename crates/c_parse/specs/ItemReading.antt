-- Reading units from left to right: what the parser finds, without places in memory.
use Rattle.std.specs.Prelude.{◌≡◌, ℕ, zero, suc, List, [], ◌∷◌, ◌++◌, length, Option, Some, None, Result, Ok, Err}
use Rattle.c_text.specs.declared.tokens.Dialect.{Dialect}
use Rattle.c_text.specs.declared.tokens.Token.{Token}
use Rattle.c_tree.specs.Tree.{Definition, External, Function, Table}
use Rattle.c_parse.specs.declared.nodes.Stuck.{Stuck}
use Rattle.c_parse.specs.declared.nodes.Stuck.TheVariants as stucks
use Rattle.c_parse.specs.declared.symbols.Sign.TheVariants.{OpenBrace, Semicolon}
use Rattle.c_parse.specs.Reading.{◌>>=◌, or_else, past}
use Rattle.c_parse.specs.DeclarationReading.{heading_front, object_front}
use Rattle.c_parse.specs.StatementReading.{Reader, statements_of}
use Rattle.c_parse.specs.Items.{with_body}

-- behind a heading: a `;`, or the function's body
abbrev pub body_front : Dialect → Definition → Reader (Option External)
body_front d heading ts = or_else (past d Semicolon ts)
    (λ us. Some (None, us))
    (past d OpenBrace ts >>= λ us. statements_of d us >>= λ b. Some (Some (Function (with_body heading b.0)), b.1))

abbrev pub table_front : Dialect → Reader (Option External)
table_front d ts = object_front d ts >>= λ o. Some (Some (Table o.0.0 o.0.1), o.1)

-- an item, and what it is in the unit, if it is anything
abbrev pub item_front : Dialect → Reader (Option External)
item_front d ts = or_else (past d Semicolon ts)
    (λ us. Some (None, us))
    (or_else (heading_front d ts) (λ h. body_front d h.0 h.1) (table_front d ts))

-- this, if there is any, and then these
abbrev pub and_items : Option External → List External → List External
and_items None rest = rest
and_items (Some x) rest = x ∷ rest

-- the items up to the end; the number bounds how many there are
abbrev pub unit_at : Dialect → ℕ → List Token → Option (List External)
unit_at d n [] = Some []
unit_at d zero (t ∷ ts) = None
unit_at d (suc n) (t ∷ ts) = item_front d (t ∷ ts) >>= λ x. unit_at d n x.1 >>= λ rest. Some (and_items x.0 rest)

unfoldable pub unit_of : Dialect → List Token → Option (List External)
unit_of d ts = unit_at d (length ts) ts

-- these in front of what was read
abbrev pub with_items : List External → Option (List External) → Option (List External)
with_items all o = o >>= λ rest. Some (all ++ rest)

-- this behind these, if there is any
abbrev pub added : List External → Option External → List External
added all None = all
added all (Some x) = all ++ (x ∷ [])

-- what a function returned, seen by view, is this answer, unless memory ran out
abbrev pub GivesAll : {X Y : Type 0} → (X → Y) → Result X Stuck → Option Y → Type 0
GivesAll view (Ok x) o = o ≡ Some (view x)
GivesAll view (Err stucks.Memory) o = Unit {0}
GivesAll view (Err (stucks.Syntax left)) o = o ≡ None
