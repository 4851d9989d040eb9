-- What stands in place of a row's call has its type, over operands of the parameters' types.
use Rattle.std.proofs.Common.{◌≡◌, Bool, true, false, List, [], ◌∷◌, Option, Some, None}
use Rattle.std.specs.Prelude.{◌&&◌, nat_le, length}
use Rattle.c_text.specs.declared.tokens.Place.{Place}
use Rattle.c_tree.specs.declared.types.CType.{CType}
use Rattle.c_tree.specs.Tree.{Tree}
use Rattle.scopes.specs.Scopes.{Env}
use Rattle.seq_core.specs.Terms.{Term}
use Rattle.seq_core.specs.Called.{rows_called}
use Rattle.seq_core.specs.Formed.{FormedFrom, type_behind}
use Rattle.seq_core.specs.InPlace.{stands_alone, in_place}
use Rattle.sequence_types.specs.Claims.{SeesRows, HasType, HaveTypes, InPlaceIsTyped}
use Rattle.sequence_types.proofs.CallsOfRows.{sees_calls}
use Rattle.sequence_types.proofs.Written.{AllStand, term_typed}

pub all_stand : (env : Env) (ts : List CType) (es : List Tree) → HaveTypes env ts es → AllStand env ts es
all_stand env [] [] h = tt
all_stand env (t ∷ ts) (e ∷ es) h = (λ i. h.0, all_stand env ts es h.1)
all_stand env [] (e ∷ es) h = absurd h
all_stand env (t ∷ ts) [] h = absurd h

first_of : (a b : Bool) → (a && b) ≡ true → a ≡ true
first_of true true h = h
first_of false b h = absurd (cc)
first_of true false h = absurd (cc)

alone_typed : (env : Env) → SeesRows env → (place : Place) (params : List Tree) (simple : List Bool) (ps : List CType) (steps : List Term) (result : Option Term) → FormedFrom ps [] steps result
    → HaveTypes env ps params → stands_alone simple steps result ≡ true → HasType env (type_behind ps [] steps result) (in_place place params result)
alone_typed env sees place params simple ps [] (Some t) f h i = term_typed env sees.dialect (sees_calls env sees) place params [] ps [] (all_stand env ps params h) tt t f.1
alone_typed env sees place params simple ps [] None f h i = absurd (cc)
alone_typed env sees place params simple ps (t ∷ rest) result f h i = absurd (cc)

pub in_place_typed : InPlaceIsTyped
in_place_typed env sees place params simple q f h i =
    alone_typed env sees place params simple q.params q.steps q.result f.1 h (first_of (stands_alone simple q.steps q.result) (nat_le (length (rows_called q)) 3) i)
