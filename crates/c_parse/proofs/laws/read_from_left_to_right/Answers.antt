use Rattle.c_parse.proofs.Whole.{reads, writes}
use Rattle.c_parse.proofs.laws.read_from_left_to_right.Goals as goal

pub returns : goal.returns
returns c = λ d ts t. (reads d ts t, writes d ts t)
