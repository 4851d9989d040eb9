use Rattle.std.proofs.Common.{arith}
use Rattle.c_meaning.proofs.Shared.{tables_stay}
use Rattle.c_meaning.proofs.objects.Objects.truncate.Goals as goal

pub returns-then-count-below : goal.returns-then-count-below
returns-then-count-below c =
    tables_stay c.args.self.now.tables.now.bindings.items c.args.self.now.bindings.items c.truncate.new.self.items c.args.self.now.shown c.below-below.result c.args.count c.below-below.ensures (omega arith) c.truncate.ensures.items
