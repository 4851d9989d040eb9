use Rattle.std.proofs.Common.{◌≡◌, ◌∙◌, sym, Some, arith}
use Rattle.std.proofs.lemmas.Grind.{common_steps}
use Rattle.c_memory.specs.MeaningValues.{moved}
use Rattle.c_values.proofs.AccessLemmas.{read_placed}
use Rattle.c_values.proofs.accesses.read_into.Goals as goal

pub returns-in-Some : goal.returns-in-Some
returns-in-Some c =
    let there : moved c.args.memory.now.blocks c.args.at c.args.access.offset ≡ Some c.in-Some.place = grind (arith, common_steps) in
    read_placed c.args.memory.now.blocks c.args.at c.in-Some.place c.args.access c.args.register.now c.read.new.into c.read.result
    (sym c.is_access.ensures ∙ c.if-not-is_access.false) there c.read.ensures.value
