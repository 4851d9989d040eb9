use Rattle.std.proofs.Common.{◌≡◌, Some, map, take}
use Rattle.migrate_report.proofs.fits.set_bytes.Given as goal

abbrev pub invariant-loop-byte : goal.invariant-loop-byte
invariant-loop-byte l = l.all.items ≡ map Some (take l.byte-index l.bytes)
