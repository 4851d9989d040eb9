use mathlib.Core.Path.{fun_ext}
use Rattle.std.proofs.Common.{ap}
use Rattle.c_directives.specs.Definitions.{pieces, defined_with}
use Rattle.c_directives.proofs.definitions.definition_of.Goals as goal

pub returns : goal.returns
returns c =
    rw (c.in_ok-used.ensures, c.deref-2.ensures.value, c.deref.ensures.value, c.in_ok-body.ensures)
    (ap (λ f. defined_with c.args.function_like c.args.parameters.items (pieces f c.args.body.now)) (fun_ext c.requires))
