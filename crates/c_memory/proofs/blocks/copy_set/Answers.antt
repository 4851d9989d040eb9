use Rattle.std.proofs.Common.{◌≡◌, true, false, is_some, refl, arith}
use Rattle.std.specs.List.{list_all}
use Rattle.c_memory.proofs.Bytes.{read_all, read_none}
use Rattle.c_memory.proofs.blocks.copy_set.Goals as goal

pub returns-then-not-all_set : goal.returns-then-not-all_set
returns-then-not-all_set c =
    let unset : list_all is_some c.args.bytes.now ≡ false = grind (arith, c.if-not-all_set.true, c.all_set.ensures) in
    rw (read_none c.args.bytes.now unset) (refl, refl)

pub returns : goal.returns
returns c =
    let set : list_all is_some c.args.bytes.now ≡ true = grind (arith, c.if-not-all_set.false, c.all_set.ensures) in
    rw (read_all c.args.bytes.now set) (refl, c.copy_out.ensures)
