use Rattle.c_text.proofs.Steps.{long_above, long_within}
use Rattle.c_text.proofs.lexer.long_name.Goals as goal

pub returns-then-others-ge255 : goal.returns-then-others-ge255
returns-then-others-ge255 c = long_above c.args.kind c.args.begin c.args.others.now c.in-Name.is c.if-others-ge255.true

pub returns-else-others-ge255 : goal.returns-else-others-ge255
returns-else-others-ge255 c = long_within c.args.kind c.args.begin c.args.others.now c.in-Name.is c.if-others-ge255.false
