use Rattle.std.proofs.Common.{◌≡◌, ◌++◌, drop}
use Rattle.migrate_report.specs.Texts.{blocks_text}
use Rattle.migrate_report.proofs.texts.write_blocks.Given as goal

abbrev pub invariant-loop-number : goal.invariant-loop-number
invariant-loop-number l = l.initial.out.items ++ blocks_text 0 l.blocks ≡ l.out.items ++ blocks_text l.number (drop l.number l.blocks)
