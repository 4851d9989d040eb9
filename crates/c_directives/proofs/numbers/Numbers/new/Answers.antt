use Rattle.std.proofs.Common.{refl}
use Rattle.c_directives.specs.Entries.{numbers_of}
use Rattle.c_directives.proofs.numbers.Numbers.new.Goals as goal

pub returns-clause-none : goal.returns-clause-none
unfolding numbers_of
returns-clause-none c = λ x. rw c.new.ensures.empty refl
