use Rattle.std.proofs.Common.{◌≡◌, ◌<◌, ◌≤◌, if◌then◌else◌, length, reverse, slice_set, sym, ap, ◌∙◌, arith}
use Rattle.std.proofs.lemmas.List.{length-set}
use Rattle.c_memory.specs.declared.blocks.Block.{Block}
use Rattle.c_memory.specs.Memory.{refilled}
use Rattle.c_memory.specs.Living.{fall}
use Rattle.c_memory.proofs.Living.{refill_keeps, refilled_at, refilled_past}
use Rattle.c_memory.proofs.blocks.BlockList.refill.Goals as goal

pub returns-then-block-len : goal.returns-then-block-len
returns-then-block-len c =
    let past : length c.self.inside.blocks.items ≤ c.args.block = grind (arith, c.if-block-len.true, c.len.ensures, c.self.inside.blocks.ok) in
    refilled_past c.args.self.now c.args.block c.args.bytes.items (rw c.self.view_is at past)

pub invariant_of-self : goal.invariant_of-self
invariant_of-self c =
    let m = c.self.inside.blocks.items in
    let old = c.index.result.now in
    let new : Block = record c.index_mut.result.now { bytes = c.new.result } in
    let inside : c.args.block < length m = grind (arith, c.if-block-len.false, c.len.ensures, c.self.inside.blocks.ok) in
    let count : c.len-2.result ≡ length m = grind (arith, c.len-2.ensures, c.self.inside.blocks.ok) in (
      ap (λ n. fall n (reverse c.self.inside.living.items)) (length-set m c.args.block new) ∙ c.self.invariant.0,
      refill_keeps c.self.inside.first c.noted_from-self-inside.result c.len-2.result (reverse c.self.inside.living.items) m c.args.block old new inside count
          (c.noted_from-self-inside.ensures ∙ ap (λ (b : Block). if b.alive then c.self.inside.first else c.len-2.result) c.index.ensures) c.self.invariant.1,
    )

pub returns : goal.returns
returns c =
    let m = c.self.inside.blocks.items in
    let inside : c.args.block < length m = grind (arith, c.if-block-len.false, c.len.ensures, c.self.inside.blocks.ok) in
    let at = refilled_at m c.args.block c.args.bytes.items c.index_mut.result.now inside in
    rw (c.new.ensures, sym c.self.view_is) (ap (λ (b : Block). slice_set m c.args.block (record b { bytes = c.args.bytes.items })) c.index_mut.ensures.value ∙ at)
