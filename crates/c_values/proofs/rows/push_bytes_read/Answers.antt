use Rattle.c_values.proofs.RowLemmas.{pushed, not_pushed}
use Rattle.c_values.proofs.rows.push_bytes_read.Goals as goal

pub returns-in_ok-push-in-Some : goal.returns-in_ok-push-in-Some
returns-in_ok-push-in-Some c =
    pushed c.args.sig.now c.args.memory.now.blocks c.args.at c.args.accesses.now c.args.args.now.items c.push.new.self.items c.kinds_of.result.now c.reads.result c.size_of_kind.result
    c.register_read.result c.in-Some.register c.kinds_of.ensures c.reads.ensures c.if-not-reads.false c.size_of_kind.ensures c.register_read.ensures c.in-Some.is c.in_ok-push-in-Some.ensures.items

pub returns-in-None : goal.returns-in-None
returns-in-None c =
    not_pushed c.args.sig.now c.args.memory.now.blocks c.args.at c.args.accesses.now c.args.args.now.items c.args.args.now.items c.kinds_of.result.now c.reads.result c.size_of_kind.result
    c.register_read.result c.kinds_of.ensures c.reads.ensures c.if-not-reads.false c.size_of_kind.ensures c.register_read.ensures c.in-None.is
