-- What contracts see of the answers of a check.
use Rattle.std.specs.Prelude.{Bool, true, false, List, [], ◌++◌, map, Result, Ok, Err}
use Rattle.c_text.specs.declared.refusals.Refusal.{Refusal}
use Rattle.c_text.specs.declared.refusals.Fail.{Fail}
use Rattle.c_text.specs.declared.refusals.Fail.TheVariants as out
use Rattle.c_tree.specs.View.{view_item}
use Rattle.vector_types.specs.declared.units.CheckFail.{CheckFail}
use Rattle.vector_types.specs.declared.units.CheckFail.TheVariants.{Refused, Memory}
use Rattle.vector_types.specs.declared.units.Judged.{Judged as CodeJudged}
use Rattle.vector_types.specs.Units.{Judged}

-- where the failure isn't want of memory, this holds of its refusals
abbrev pub IfRefused : CheckFail → (List Refusal → Type 0) → Type 0
IfRefused (Refused list) P = P list.items
IfRefused Memory P = Unit {0}

-- the answer isn't want of memory
abbrev pub is_answer : {X : Type 0} → Result X Fail → Bool
is_answer (Ok x) = true
is_answer (Err out.Memory) = false
is_answer (Err (out.Refused r)) = true

-- what was judged so far
abbrev pub judged_of : CodeJudged → Judged
judged_of j = record { refusals = j.refusals.items; items = map view_item j.items.items }

abbrev pub nothing_judged : Judged
nothing_judged = record { refusals = []; items = [] }

-- what was judged, and then more
abbrev pub behind : Judged → Judged → Judged
behind front j = record { refusals = front.refusals ++ j.refusals; items = front.items ++ j.items }
