use Rattle.type_rules.proofs.TypeTests.{converted-same}
use Rattle.type_rules.proofs.Sound.{assigned-says, result-says, passed-says}
use Rattle.type_rules.proofs.Complete.{assigned-holds, result-holds, passed-holds}
use Rattle.type_rules.proofs.laws.types_are_by_rules.Goals as goal

pub returns : goal.returns
returns c = record {
  results = λ p k v. (result-says p k v, result-holds p k v);
  assigned = λ t a v. (assigned-says t a v, assigned-holds t a v);
  stays = converted-same;
  passed = λ ts all v. (passed-says ts all v, passed-holds ts all v);
}
