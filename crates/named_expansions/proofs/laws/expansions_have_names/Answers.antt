use Rattle.named_expansions.proofs.NamedTexts.{expansions_named}
use Rattle.named_expansions.proofs.laws.expansions_have_names.Goals as goal

pub returns : goal.returns
returns c = expansions_named
