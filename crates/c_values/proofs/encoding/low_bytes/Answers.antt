use Rattle.std.proofs.Common.{replicate}
use Rattle.c_values.proofs.ByteLemmas.{low_digits}
use Rattle.c_values.proofs.encoding.low_bytes.Goals as goal

pub returns : goal.returns
returns g c = low_digits g.row.W c.args.bits (replicate 8 0) c.put-all.result c.copy_from_slice.new.self c.put-all.ensures c.copy_from_slice.ensures.after
