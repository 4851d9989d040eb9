use Rattle.std.proofs.Common.{◌≡◌, false, refl, ap, length, arith}
use Rattle.std.specs.Prelude.{◌==◌}
use Rattle.std.proofs.lemmas.Bool.Decides.{nat_tests}
use Rattle.c_text.proofs.Spliced.{front_next}
use Rattle.c_text.proofs.source.splice.Goals as goal

pub loop-b-preserved-then-byte-eq10 : goal.loop-b-preserved-then-byte-eq10
loop-b-preserved-then-byte-eq10 c =
    let shorter = ap length c.in-Some.ensures.cases.0 in
    record {
      lines = omega (arith, shorter);
      cols = omega (arith, shorter);
      front = front_next c.args.text.now _ _ _ _ _ _ _ _ _ _ _ c.loop-b.invariant.front c.in-Some.ensures.cases.0 (cc c.in_ok-keep.ensures) (rw c.if-byte-eq10.true refl) (rw c.if-byte-eq10.true refl) c.splices-behind.ensures;
    }

pub loop-b-preserved : goal.loop-b-preserved
loop-b-preserved c =
    let shorter = ap length c.in-Some.ensures.cases.0 in
    let other : (c.in-Some.b.now == 10) ≡ false = grind (arith, nat_tests) in
    record {
      lines = omega (arith, shorter);
      cols = omega (arith, shorter);
      front = front_next c.args.text.now _ _ _ _ _ _ _ _ _ _ _ c.loop-b.invariant.front c.in-Some.ensures.cases.0 (cc c.in_ok-keep.ensures) (rw other refl) (rw other refl) c.splices-behind.ensures;
    }
