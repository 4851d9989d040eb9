use Rattle.std.proofs.Common.{◌≡◌, drop}
use Rattle.c_text.specs.Forms.{all_are, is_name_byte}
use Rattle.simd_top.proofs.form.are_name_bytes.Given as goal

abbrev pub invariant-loop-b : goal.invariant-loop-b
invariant-loop-b l = all_are is_name_byte l.bytes ≡ all_are is_name_byte (drop l.b-index l.bytes)
