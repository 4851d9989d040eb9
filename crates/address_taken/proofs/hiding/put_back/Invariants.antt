use Rattle.std.proofs.Common.{◌≡◌, ◌||◌, List, ℕ, drop}
use Rattle.address_taken.specs.Marks.{is_marked, is_among}
use Rattle.address_taken.proofs.hiding.put_back.Given as goal

abbrev pub invariant-loop-name : goal.invariant-loop-name
invariant-loop-name l = (x : List ℕ) → (is_among x (drop l.name-index l.hidden) || is_marked l.marks x) ≡ (is_among x l.hidden || is_marked l.fn.marks x)
