use Rattle.std.proofs.Common.{◌∙◌, ap, reverse}
use Rattle.c_directives.specs.Parts.{parts_of}
use Rattle.c_directives.specs.Directives.{expand_parts, unclosed}
use Rattle.c_directives.specs.Answers.{state_of}
use Rattle.c_directives.proofs.Leaving.{leaves}
use Rattle.c_directives.proofs.expansion.pass_all.Goals as goal

pub returns : goal.returns
unfolding parts_of
returns c =
    let s = c.loop-part.state in
    leaves _ (unclosed (reverse s.conditions.items)) c.refuse_unclosed.result s.made.tokens.items
    (c.loop-part.invariant.goes ∙ ap (λ ts. expand_parts c.args.rules (parts_of ts) (state_of s)) c.in_default.ensures.part)
    (rw c.deref.ensures.value at c.refuse_unclosed.ensures)
