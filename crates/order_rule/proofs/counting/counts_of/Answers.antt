use Rattle.c_tree.specs.View.{view}
use Rattle.order_rule.proofs.Counted.{all_counted}
use Rattle.order_rule.proofs.counting.counts_of.Goals as goal

pub returns : goal.returns
returns c = all_counted c.new-counts.result c.count.new.counts (view c.args.e.now) c.new-counts.ensures c.in_ok-count.ensures
