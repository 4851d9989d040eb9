-- The text of a unit is read again as the same unit.
use Rattle.std.proofs.Common.{◌≡◌, List, [], ◌++◌, map, true, false, sym, subst}
use Rattle.c_text.specs.declared.tokens.Dialect.TheVariants.{Neon}
use Rattle.c_text.specs.declared.tokens.Token.{Token}
use Rattle.c_tree.specs.Same.{stripped_external}
use Rattle.c_tree.specs.Tree.{External}
use Rattle.c_print.specs.Text.{text_of}
use Rattle.c_parse.specs.Items.{IsUnit}
use Rattle.c_directives.specs.Printed.{PrintedText}
use Rattle.round_trip.specs.Words.{bits_text, marked, marked_words}
use Rattle.round_trip.specs.Unlimited.{UnlimitedTokens, UnlimitedExpansion}
use Rattle.round_trip.specs.Again.{ReadAgain}
use Rattle.round_trip.specs.Printable.{Printable}
use Rattle.round_trip.proofs.GoodUnitsRead.{printable_good}
use Rattle.round_trip.specs.GoodUnits.{GoodUnit}
use Rattle.round_trip.proofs.HeaderLines.{header_words, split_marks}
use Rattle.round_trip.proofs.Expanded.{expanded}
use Rattle.round_trip.proofs.Whole.{marks_again, said_of}
use Rattle.round_trip.proofs.UnitBits.{items_bits, unit_bits}
use Rattle.round_trip.proofs.UnitSays.{unit_says}
use Rattle.round_trip.proofs.UnitCuts.{unit_cuts}
use Rattle.round_trip.proofs.Plain.{unit_plain, unit_written}
use Rattle.round_trip.proofs.UnitsRead.{unit_read}
use Rattle.round_trip.proofs.Alignments.{alike}

-- what is good is read again from its text
behind_headers : PrintedText → (xs : List External) (ts : List Token) → GoodUnit xs → UnlimitedTokens (text_of xs) ts →
    (us : List Token) × (vs : List Token) × (ts ≡ us ++ vs) × (map marked us ≡ header_words) × (map marked vs ≡ marked_words true true (items_bits xs [])) → ReadAgain xs
behind_headers law xs ts g lexed (us, vs, is, a, b) = go (unit_read alike xs vs g (said_of vs (items_bits xs []) true true b))
  where
    go : (made : List External) × IsUnit Neon vs made × (map stripped_external made ≡ map stripped_external xs) → ReadAgain xs
    go (made, unit, same) =
        record { tokens = ts; rest = vs; again = made; lexed = lexed; expanded = subst (λ l. UnlimitedExpansion l vs) (sym is) (expanded law us vs (items_bits xs []) a b (unit_written xs g)); is = unit; same = same }

pub text_again : PrintedText → (xs : List External) → GoodUnit xs → ReadAgain xs
text_again law xs g = go (marks_again (unit_bits xs) (unit_cuts xs g) (unit_plain xs g))
  where
    go : (ts : List Token) × UnlimitedTokens (bits_text (unit_bits xs) []) ts × (map marked ts ≡ marked_words false true (unit_bits xs)) → ReadAgain xs
    go (ts, lexed, marks) = behind_headers law xs ts g (subst (λ t. UnlimitedTokens t ts) (unit_says xs) lexed) (split_marks header_words (marked_words true true (items_bits xs [])) ts marks)

pub printed_again : PrintedText → (unit : List External) → Printable unit → ReadAgain unit
printed_again law unit p = text_again law unit (printable_good unit p)
