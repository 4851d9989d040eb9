use Rattle.std.proofs.Common.{get_or}
use Rattle.std.proofs.lemmas.List.{drop_more}
use Rattle.row_names.proofs.Listed.{listed}
use Rattle.row_names.proofs.row_at.Goals as goal

pub returns : goal.returns
returns g c =
    let row = c.index-rows-k.result in
    listed (λ r. r.1) c.args.rows.now c.args.k (get_or c.args.rows.now c.args.k row) (drop_more c.args.rows.now c.args.k row c.requires)
