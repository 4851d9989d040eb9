use Rattle.std.proofs.Common.{arith, sym}
use Rattle.std.proofs.lemmas.List.{take_all}
use Rattle.std.proofs.Math.Seq.{length-take-le}
use Rattle.c_text.proofs.refusals.shortened.Goals as goal

pub slice_bounds-result-end : goal.slice_bounds-result-end
slice_bounds-result-end c = sym (length-take-le 255 _ (omega arith))

pub returns-else-bytes-gt255 : goal.returns-else-bytes-gt255
returns-else-bytes-gt255 c = sym (take_all 255 _ (omega arith))
