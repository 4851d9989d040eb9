use Rattle.scopes.specs.Scopes.{entries_of}
use Rattle.simd_top.proofs.NamesSeen.{unseen, added}
use Rattle.simd_top.proofs.names.NameSet.add.Goals as goal

pub insert-requires : goal.insert-requires
insert-requires c = unseen c.args.name.now (entries_of c.args.self.now.names) c.requires

pub returns : goal.returns
returns c = added c.args.name.now (entries_of c.args.self.now.names) (entries_of c.insert.new.self) c.insert.result c.insert.ensures
