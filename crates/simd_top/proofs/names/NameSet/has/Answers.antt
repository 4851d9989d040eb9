use Rattle.std.proofs.Common.{◌∙◌}
use Rattle.scopes.specs.Scopes.{entries_of}
use Rattle.simd_top.proofs.NamesSeen.{found}
use Rattle.simd_top.proofs.names.NameSet.has.Goals as goal

pub returns : goal.returns
returns c = c.is_known.ensures ∙ found c.args.name.now (entries_of c.args.self.now.names)
