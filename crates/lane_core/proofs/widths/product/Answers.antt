use Rattle.std.proofs.Common.{rules, ◌*ℤ◌}
use Rattle.std.specs.Prelude.{FitsSigned}
use Rattle.std.specs.Int.{w128}
use Rattle.lane_core.proofs.Products.{product_least, product_greatest, product_fits}
use Rattle.lane_core.proofs.widths.product.Goals as goal
use Rattle.lane_core.proofs.widths.product.Goals.{After-signed-2}

fits : (c : After-signed-2) → FitsSigned w128 (c.signed.result *ℤ c.signed-2.result)
fits c = product_fits c.signed.result c.signed-2.result c.signed.ensures.low c.signed.ensures.high c.signed-2.ensures.low c.signed-2.ensures.high

pub overflow_mul-result : goal.overflow_mul-result
overflow_mul-result c = let f = fits c in search (rules, f)

pub returns-clause-value : goal.returns-clause-value
returns-clause-value c = let f = fits c in search (rules, f)

pub returns-clause-least : goal.returns-clause-least
returns-clause-least c =
    let f = fits c in product_least c.args.w c.args.x c.args.y _ c.requires.width c.requires.first c.requires.second (search (rules, f))

pub returns-clause-greatest : goal.returns-clause-greatest
returns-clause-greatest c =
    let f = fits c in product_greatest c.args.w c.args.x c.args.y _ c.requires.width c.requires.first c.requires.second (search (rules, f))
