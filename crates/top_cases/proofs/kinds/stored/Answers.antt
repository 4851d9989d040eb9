use Rattle.std.proofs.lemmas.Int.{ints}
use Rattle.std.proofs.Common.{◌≡◌, refl, pos, rules, sym, subst, arith, Result, Ok, Err, IfOk}
use Rattle.lane_core.specs.declared.number.IntType.TheVariants as int
use Rattle.scalar_core.specs.Numbers.{num_of}
use Rattle.seq_core.specs.declared.terms.Seq.{Seq}
use Rattle.seq_core.specs.View.{view_seq}
use Rattle.seq_core.specs.Formed.{WellFormed, IsConstant}
use Rattle.seq_core.specs.Constants.{natural_is_constant}
use Rattle.top_cases.specs.Known.{stored}
use Rattle.top_cases.proofs.kinds.stored.Goals as goal

three : IsConstant (num_of int.Int (pos 3))
three = natural_is_constant int.Int 3 refl (omega (arith, ints), omega (arith, ints))

formed : WellFormed stored
unfolding num_of
formed = search (rules, arith, three) depth 20

all_formed : {E : Type 0} (r : Result Seq E) → IfOk r (λ s. view_seq s ≡ stored) → IfOk r (λ s. WellFormed (view_seq s))
all_formed (Ok s) h = subst WellFormed (sym h) formed
all_formed (Err e) h = tt

pub returns : goal.returns
returns c = all_formed c.made_stored.result c.made_stored.ensures
