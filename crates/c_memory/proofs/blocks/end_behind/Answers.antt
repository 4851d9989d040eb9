use Rattle.std.proofs.Common.{reverse}
use Rattle.c_memory.proofs.Living.{ended_others}
use Rattle.c_memory.proofs.blocks.end_behind.Goals as goal

pub returns-clause-fall : goal.returns-clause-fall
returns-clause-fall c =
    (ended_others c.args.first c.args.start (reverse c.end_living.new.living.items) c.end_living.new.blocks c.end_unnoted.new.blocks c.args.blocks.now c.end_unnoted.ensures c.end_living.ensures.fall c.end_living.ensures.below (c.end_living.ensures.rest c.args.first c.requires.rest) c.end_living.ensures.ended).0

pub returns-clause-rest : goal.returns-clause-rest
returns-clause-rest c =
    (ended_others c.args.first c.args.start (reverse c.end_living.new.living.items) c.end_living.new.blocks c.end_unnoted.new.blocks c.args.blocks.now c.end_unnoted.ensures c.end_living.ensures.fall c.end_living.ensures.below (c.end_living.ensures.rest c.args.first c.requires.rest) c.end_living.ensures.ended).1

pub returns-clause-ended : goal.returns-clause-ended
returns-clause-ended c =
    (ended_others c.args.first c.args.start (reverse c.end_living.new.living.items) c.end_living.new.blocks c.end_unnoted.new.blocks c.args.blocks.now c.end_unnoted.ensures c.end_living.ensures.fall c.end_living.ensures.below (c.end_living.ensures.rest c.args.first c.requires.rest) c.end_living.ensures.ended).2
