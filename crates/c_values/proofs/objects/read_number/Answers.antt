use Rattle.std.proofs.Common.{replicate, refl}
use Rattle.c_values.proofs.ByteLemmas.{number_read}
use Rattle.c_values.proofs.objects.read_number.Goals as goal

pub returns-in-Some : goal.returns-in-Some
returns-in-Some g c =
    number_read c.args.memory.now.blocks c.args.at g.row.W c.lane.result (replicate 8 0) c.read.new.into c.read.result c.in-Some.field-0 c.requires refl
    c.read.ensures.value c.in-Some.is c.lane.ensures.value
