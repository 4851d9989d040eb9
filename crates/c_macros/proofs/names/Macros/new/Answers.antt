use Rattle.std.proofs.Common.{refl}
use mathlib.Core.Path.{fun_ext}
use Rattle.c_macros.specs.Entries.{macros_of}
use Rattle.c_macros.proofs.names.Macros.new.Goals as goal

pub returns : goal.returns
unfolding macros_of
returns c = fun_ext (λ x. rw c.new.ensures.empty refl)
