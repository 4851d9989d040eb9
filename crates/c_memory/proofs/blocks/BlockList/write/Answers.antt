use Rattle.std.proofs.Common.{◌≡◌, ◌<◌, ◌∙◌, ap, length, reverse, get_or, arith}
use Rattle.std.proofs.lemmas.List.{length-set}
use Rattle.c_memory.specs.Living.{is_ended, fall}
use Rattle.c_memory.proofs.Living.{kept_at, write_keeps}
use Rattle.c_memory.proofs.Definedness.{block_left}
use Rattle.c_memory.proofs.blocks.BlockList.write.Goals as goal

pub returns : goal.returns
returns c =
    let below : c.args.block < length c.self.inside.blocks.items = grind (arith, c.if-block-len.false, c.len.ensures, c.self.inside.blocks.ok) in
    let inside : c.args.block < length c.args.self.now = rw c.self.view_is at below in
    let here : c.index_mut.result.now ≡ get_or c.args.self.now c.args.block c.index_mut.result.now = rw c.self.view_is at c.index_mut.ensures.value in
    rw c.self.view_is (block_left c.args.self.now c.args.block c.args.offset c.args.align c.args.bytes.now c.index_mut.result.now c.write.result c.write.new.self inside here c.write.ensures)

pub invariant_of-self : goal.invariant_of-self
invariant_of-self c =
    let m = c.self.inside.blocks.items in
    let old = c.index_mut.result.now in
    let below : c.args.block < length m = grind (arith, c.if-block-len.false, c.len.ensures, c.self.inside.blocks.ok) in (
      ap (λ n. fall n (reverse c.self.inside.living.items)) (length-set m c.args.block c.write.new.self) ∙ c.self.invariant.0,
      kept_at c.self.inside.first (reverse c.self.inside.living.items) m c.args.block old c.write.new.self below
          (λ e. write_keeps old c.args.offset c.args.align c.args.bytes.now c.write.result c.write.new.self c.write.ensures (ap is_ended c.index_mut.ensures.value ∙ e)) c.self.invariant.1,
    )
