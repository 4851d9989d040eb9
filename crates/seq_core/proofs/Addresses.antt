-- What stands in place of a call takes no address where its operands take none.
use Rattle.std.proofs.Common.{◌≡◌, ℕ, List, [], false, Option, Some, None, refl}
use Rattle.c_text.specs.declared.tokens.Place.{Place}
use Rattle.c_tree.specs.Tree.{Tree}
use Rattle.address_taken.specs.Addressed.{takes}
use Rattle.seq_core.specs.Terms.{Term, Sequence}
use Rattle.seq_core.specs.Written.{pen}
use Rattle.seq_core.specs.InPlace.{in_place, TakesNoAddress}
use Rattle.seq_core.proofs.Bodies.{takes_written}

pub none_taken : (place : Place) (params : List Tree) (q : Sequence) → TakesNoAddress place params q
none_taken place params q h x = at q.result
  where
    at : (o : Option Term) → takes x (in_place place params o) ≡ false
    at None = refl
    at (Some t) = takes_written (pen place params []) x h (λ y n e i. i) t
