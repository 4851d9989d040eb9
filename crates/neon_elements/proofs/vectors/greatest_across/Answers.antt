use Rattle.std.proofs.Common.{◌≡◌, ◌∙◌, ◌-◌, ◌/◌, ap, arith}
use Rattle.lane_core.specs.Register.{lane}
use Rattle.neon_elements.specs.declared.elements.Binary.TheVariants.{Max}
use Rattle.neon_elements.specs.Elements.{reduce_by}
use Rattle.neon_elements.proofs.vectors.greatest_across.Goals as goal

pub returns-clause-value : goal.returns-clause-value
returns-clause-value g c =
    let last : c.loop-e.e ≡ g.row.N / c.bytes-w.result - 1 = omega (arith, c.loop-e.auto.e-end, c.loop-e-test.false) in
    c.loop-e.invariant.value ∙ ap (reduce_by Max c.args.t (lane c.bytes-w.result c.args.a.now)) last ∙
    ap (λ w. reduce_by Max c.args.t (lane w c.args.a.now) (g.row.N / w - 1)) c.bytes-w.ensures.value
