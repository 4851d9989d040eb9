-- The answers of a check without their places.
use Rattle.std.specs.Prelude.{Bool, true, false, [], Result, Ok, Err, List, map}
use Rattle.c_text.specs.declared.refusals.Refusal.{Refusal}
use Rattle.c_tree.specs.Same.{nowhere}
use Rattle.c_tree.specs.Tree.{External}
use Rattle.expression_types.specs.Check.{Checked}
use Rattle.reading_again.specs.Rewritten.{unit}
use Rattle.reading_again.specs.Unplaced.{places}

-- a refusal's number and what it shows; or, where `exact` is false, that there is one alone
abbrev pub unplaced_refusal : Bool → Refusal → Refusal
unplaced_refusal true r = record { number = r.number; place = nowhere; detail = r.detail }
unplaced_refusal false r = record { number = 0; place = nowhere; detail = [] }

abbrev pub unplaced_answer : {A B : Type 0} → Bool → (A → B) → Checked A → Checked B
unplaced_answer exact f (Ok a) = Ok (f a)
unplaced_answer exact f (Err r) = Err (unplaced_refusal exact r)

-- the unit with its types, or a refusal for each item that fails
abbrev pub unplaced_unit : Bool → Result (List External) (List Refusal) → Result (List External) (List Refusal)
unplaced_unit exact (Ok u) = Ok (unit places u)
unplaced_unit exact (Err list) = Err (map (unplaced_refusal exact) list)
