use Rattle.std.proofs.Common.{map}
use Rattle.std.specs.Prelude.{string_bytes}
use Rattle.c_tree.specs.View.{view_unit}
use Rattle.migrate_report.proofs.Placed.{memory_given, arguments_given}
use Rattle.migrate_report.proofs.fits.fit.Goals as goal

pub returns-clause-memory : goal.returns-clause-memory
returns-clause-memory c =
    memory_given (view_unit c.args.unit.now) c.args.name.now (map (λ w. string_bytes w) c.args.words.now) c.fitted.result c.requires c.fitted.ensures

pub returns-clause-arguments : goal.returns-clause-arguments
returns-clause-arguments c =
    arguments_given (view_unit c.args.unit.now) c.args.name.now (map (λ w. string_bytes w) c.args.words.now) c.fitted.result c.fitted.ensures
