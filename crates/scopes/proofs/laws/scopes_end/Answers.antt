use Rattle.scopes.proofs.Entries.{ends}
use Rattle.scopes.proofs.laws.scopes_end.Goals as goal

pub returns : goal.returns
returns c = ends
