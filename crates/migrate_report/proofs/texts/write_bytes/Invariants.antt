use Rattle.std.proofs.Common.{◌≡◌, ◌++◌, drop}
use Rattle.migrate_report.specs.Texts.{bytes_text}
use Rattle.migrate_report.proofs.texts.write_bytes.Given as goal

abbrev pub invariant-loop-byte : goal.invariant-loop-byte
invariant-loop-byte l = l.initial.out.items ++ bytes_text l.bytes ≡ l.out.items ++ bytes_text (drop l.byte-index l.bytes)
