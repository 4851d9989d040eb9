use Rattle.std.proofs.Common.{◌∙◌, ap, sym, is_some}
use Rattle.c_directives.specs.Entries.{numbers_of}
use Rattle.c_directives.proofs.Numbering.{known}
use Rattle.c_directives.proofs.numbers.Numbers.add.Goals as goal

pub returns-then-is_some-clause-added : goal.returns-then-is_some-clause-added
unfolding numbers_of
returns-then-is_some-clause-added c =
    λ x. known (numbers_of c.args.self.now) c.args.name.now c.args.number x (ap is_some (sym c.find.ensures) ∙ sym c.if-is_some.ensures)
