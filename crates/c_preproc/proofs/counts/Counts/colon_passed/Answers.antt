use Rattle.std.proofs.Common.{ℕ, ◌∙◌, ap}
use Rattle.c_preproc.proofs.Counting.{colon_answers}
use Rattle.c_preproc.proofs.counts.Counts.colon_passed.Goals as goal

pub returns-clause-shown : goal.returns-clause-shown
returns-clause-shown c = λ context is. ap (λ (waiting : ℕ). record { block = c.args.self.block; run = c.args.self.run; words = c.args.self.words; has_do = c.args.self.has_do; waiting = waiting }) c.saturating_sub.ensures ∙ colon_answers c.args.self context is
