use Rattle.std.proofs.Common.{rules, ℕ, ◌<◌, ◌/◌, arith}
use Rattle.lane_core.proofs.Loops.{filled_none, filled_more, filled_whole}
use Rattle.lane_core.proofs.widths.filled.Goals as goal

pub f-v-requires : goal.f-v-requires
f-v-requires g c = let h = c.requires.callable c.loop-k.k c.loop-k-test.true in search (rules, h)

pub loop-k-init : goal.loop-k-init
loop-k-init g c = filled_none c.args.w g.row.N (λ i v. (i < g.row.N / c.args.w) × goal.F-post g c.args.f.now i v)

pub loop-k-preserved : goal.loop-k-preserved
loop-k-preserved g c =
    let P : ℕ → ℕ → Type 0 = λ i v. (i < g.row.N / c.args.w) × goal.F-post g c.args.f.now i v in
    rw c.put_at-out.ensures
    (filled_more c.args.w c.loop-k.k g.row.N c.f-v.result P c.loop-k.out c.loop-k-test.true (c.loop-k-test.true, c.f-v.ensures) c.loop-k.invariant)

pub returns : goal.returns
returns g c = λ law post.
    filled_whole c.args.w c.loop-k.k g.row.N (λ i v. (i < g.row.N / c.args.w) × goal.F-post g c.args.f.now i v) law c.loop-k.out c.requires.width c.requires.size
    (omega arith) (λ i v e. post i v e.0 e.1) c.loop-k.invariant
