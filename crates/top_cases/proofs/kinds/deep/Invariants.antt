use Rattle.std.proofs.Common.{◌≡◌, [], ◌∷◌}
use Rattle.seq_core.specs.View.{view}
use Rattle.seq_core.specs.Formed.{IsFormed, type_of, vector}
use Rattle.top_cases.proofs.kinds.deep.Given as goal

abbrev pub invariant-loop : goal.invariant-loop
invariant-loop l = IsFormed (vector ∷ []) [] (view l.sum) × (type_of (vector ∷ []) [] (view l.sum) ≡ vector)
