use Rattle.std.proofs.Common.{◌<◌, take, arith, sym, ◌∙◌, length-take}
use Rattle.std.proofs.lemmas.List.{ext_get_or, get_or-take}
use Rattle.lane_core.proofs.widths.low.Goals as goal

pub returns : goal.returns
returns c =
    ext_get_or 0 c.loop-i.out (take 16 c.args.r.now)
    (let size = c.loop-i.invariant.size in omega (arith, size, length-take 16 c.args.r.now))
    (λ k l. let inside : k < 16 = omega (arith, c.loop-i.invariant.size) in
    c.loop-i.invariant.same k (omega arith) ∙ sym (get_or-take 16 c.args.r.now k 0 inside))
