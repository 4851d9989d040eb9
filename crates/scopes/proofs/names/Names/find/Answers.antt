use Rattle.std.proofs.Common.{◌∙◌}
use Rattle.scopes.proofs.Entries.{lookup-named}
use Rattle.scopes.proofs.names.Names.find.Goals as goal

pub returns : goal.returns
returns g c = c.get.ensures.value ∙ lookup-named c.args.name.now c.args.self.now.map.entries
