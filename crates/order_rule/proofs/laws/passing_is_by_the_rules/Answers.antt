use Rattle.order_rule.proofs.RowEffects.{row_stores, row_reads}
use Rattle.order_rule.proofs.Rules.{part, whole}
use Rattle.order_rule.proofs.laws.passing_is_by_the_rules.Goals as goal

pub returns : goal.returns
returns c = record { part = part; whole = whole; row_stores = row_stores; row_reads = row_reads }
