use Rattle.std.proofs.Common.{◌≡◌, arith, ◌≤◌, length}
use Rattle.c_memory.proofs.Living.{push_noted, push_unnoted}
use Rattle.c_memory.proofs.blocks.BlockList.push.Goals as goal

pub invariant_of-self-in-Err : goal.invariant_of-self-in-Err
invariant_of-self-in-Err c =
    let all : length c.push.new.self.items ≤ c.len-self-inside.result = grind (arith, c.len-self-inside.ensures, c.push.new.self.ok) in
    push_unnoted c.len-self-inside.result c.self.inside.living.items c.push-2.new.self.items c.self.inside.blocks.items c.push.new.self.items c.args.block c.in_ok-push.ensures.items c.in-Err.ensures.items all c.self.invariant.0

pub invariant_of-self-in_default : goal.invariant_of-self-in_default
invariant_of-self-in_default c =
    let all : c.len-number.result ≡ length c.self.inside.blocks.items = grind (arith, c.len-number.ensures, c.self.inside.blocks.ok) in
    push_noted c.self.inside.first c.len-number.result c.self.inside.living.items c.push-2.new.self.items c.self.inside.blocks.items c.push.new.self.items c.args.block all c.in_ok-push.ensures.items c.in_default.ensures.items c.self.invariant.0 c.self.invariant.1
