use Rattle.std.proofs.Common.{refl, sym}
use Rattle.c_parse.proofs.Magnitudes.{negated}
use Rattle.c_parse.proofs.literals.signed.Goals as goal

pub returns : goal.returns
returns c = sym (negated c.args.place c.args.n _ c.if-n-ge0.false c.if-n-ltminus128.false refl refl)
